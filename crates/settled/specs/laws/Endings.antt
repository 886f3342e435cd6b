-- The two endings: zeros, and the answer. Assumes nothing.
use Rattle.std.specs.Prelude.{◌≡◌, List, ℕ, ℤ, pos, replicate}
use Rattle.std.proofs.Math.Path.{sym, ap}
use Rattle.std.proofs.Common.{◌∙◌}
use Rattle.merged.specs.Answers.{Answer, Refused as AnswerRefused}
use Rattle.merged.specs.declared.Room.{Room}
use Rattle.merged.specs.Merged.{Outcome, padded, refused_by}
use Rattle.placed.specs.declared.Known.{Known}
use Rattle.placed.specs.Told.{Told, Refused, Accepted}
use Rattle.answered.specs.Answered.{machines_in, summed}
use Rattle.settled.specs.Settled.{events_by, settled_in}

-- what is answered, and what the output memories hold
pub record Ended (o : Outcome) (r : Answer) (machines : List ℕ) (times : List ℤ) (kinds steps : List ℕ) : Type 0 where
  pub answer_is : r ≡ o.answer
  pub machines_are : machines ≡ o.machines
  pub times_are : times ≡ o.times
  pub kinds_are : kinds ≡ o.kinds
  pub steps_are : steps ≡ o.steps

module _ (t b a : List ℕ) (x : List ℤ) (c : List ℕ) (y : List ℤ) (on : List ℕ) (reads : List ℤ) (room : Room) {o : Told} {m : List ℕ} {ti : List ℤ} {ki st : List ℕ} where
  pub refused_so : {n : ℕ} → o ≡ Refused n → m ≡ replicate room.machines 0 → ti ≡ replicate room.times (pos 0) → ki ≡ replicate room.kinds 0 → st ≡ replicate room.steps 0
      → Ended (settled_in t b a x c y on reads room o) (AnswerRefused n) m ti ki st
  unfolding settled_in refused_by
  refused_so {n} e em et ek es =
      let d : settled_in t b a x c y on reads room o ≡ refused_by n room = ap (settled_in t b a x c y on reads room) e in
      record {
        answer_is = sym (ap (λ (v : Outcome). v.answer) d);
        machines_are = em ∙ sym (ap (λ (v : Outcome). v.machines) d);
        times_are = et ∙ sym (ap (λ (v : Outcome). v.times) d);
        kinds_are = ek ∙ sym (ap (λ (v : Outcome). v.kinds) d);
        steps_are = es ∙ sym (ap (λ (v : Outcome). v.steps) d);
      }

  pub answered_so : {k : Known} → o ≡ Accepted k → {r : Answer} → r ≡ summed k.given → m ≡ padded 0 room.machines (machines_in t k.sources room.machines)
      → ti ≡ (events_by t b a x c y on reads room k).times → ki ≡ (events_by t b a x c y on reads room k).kinds → st ≡ (events_by t b a x c y on reads room k).steps
      → Ended (settled_in t b a x c y on reads room o) r m ti ki st
  unfolding settled_in
  answered_so {k} e er em et ek es =
      let d : settled_in t b a x c y on reads room o ≡ settled_in t b a x c y on reads room (Accepted k) = ap (settled_in t b a x c y on reads room) e in
      record {
        answer_is = er ∙ sym (ap (λ (v : Outcome). v.answer) d);
        machines_are = em ∙ sym (ap (λ (v : Outcome). v.machines) d);
        times_are = et ∙ sym (ap (λ (v : Outcome). v.times) d);
        kinds_are = ek ∙ sym (ap (λ (v : Outcome). v.kinds) d);
        steps_are = es ∙ sym (ap (λ (v : Outcome). v.steps) d);
      }
