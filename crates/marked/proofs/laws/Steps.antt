-- The steps of a placed event are its path's length, in every accepted merge. Assumes nothing.
use Rattle.std.specs.Prelude.{◌≡◌, refl, Bool, true, false, cond, List, ℕ, ◌≤◌, ◌<◌, ℤ, pos, length, get_or, Option, Some, None}
use Rattle.std.proofs.Common.{sym, ap, subst, ◌∙◌, arith}
use Rattle.std.specs.Int.Signed.{lt_z}
use Rattle.text.specs.Reading.{Text}
use Rattle.manifest.specs.Meaning.{Meaning}
use Rattle.manifest.specs.Manifest.{meaning_of}
use Rattle.sheet.specs.Lists.{events_of}
use Rattle.sheet.specs.Sheets.{Out as Read, records}
use Rattle.clocks.specs.Answers.{Placed, Dropped, carried, ended, answer_of, kind_of, steps_of}
use Rattle.clocks.specs.Theorems.{chosen_answer}
use Rattle.merged.specs.declared.Summary.{Summary}
use Rattle.merged.specs.Answers.{Answer, Refused, Merged}
use Rattle.merged.specs.Facts.{parts_of}
use Rattle.merged.specs.Timeline.{world_of}
use Rattle.merged.specs.declared.Room.{Room}
use Rattle.merged.specs.Merged.{records_of, Outcome, accepted_by, merged}
use Rattle.merged.proofs.Demands.{Accepts, accepts, answer_at, kind_of_event, steps_of_event}
use Rattle.marked.specs.Example.{OnPath, no_event}

-- a kind of 1 to 3 is a placed event's
ended_steps : (g n : ℕ) (v : Option ℤ) → g ≤ 3 → kind_of (ended g n v) ≡ g → steps_of (ended g n v) ≡ n
unfolding ended kind_of steps_of
ended_steps g n None l e = absurd (omega arith)
ended_steps g n (Some t) l e = go (lt_z t (pos 0)) e
  where
    go : (b : Bool) → kind_of (cond b (Dropped 3) (Placed t g n)) ≡ g → steps_of (cond b (Dropped 3) (Placed t g n)) ≡ n
    go true e = absurd (omega arith)
    go false e = refl

-- how many events an answer counts
abbrev counted : Answer → ℕ
counted (Refused n) = 0
counted (Merged s) = s.events

pub steps_of_path : (m : Text) (b : List ℕ) (r : Room) (s : Summary) → (merged m b r).answer ≡ Merged s → (k c g : ℕ) (p : List ℕ) → k < s.events → OnPath (meaning_of m) (records_of b) k c g p
    → get_or (merged m b r).kinds k 0 ≡ g → get_or (merged m b r).steps k 0 ≡ length p
unfolding accepted_by
steps_of_path m b r s e k c g p l on q =
    let a : Accepts m b r = accepts m b r e in
    let w : Meaning = meaning_of m in
    let path : OnPath w (records a.rs) k c g p = subst (λ (o : Read). OnPath w o k c g p) a.sheet on in
    let n : length (events_of a.rs) ≡ s.events = ap counted (sym (ap (λ (o : Outcome). o.answer) a.outcome) ∙ e) in
    let t : ℤ = (get_or (events_of a.rs) k no_event).reading in
    let h : k < length (events_of a.rs) = omega arith in
    let v : Option ℤ = carried g (world_of w (parts_of a.rs)) c p (Some t) in
    let answer : answer_at w (parts_of a.rs) r k ≡ ended g (length p) v = ap (λ (x : ℕ). answer_of (world_of w (parts_of a.rs)) x t) path.0 ∙ chosen_answer path.1 t in
    let kind : kind_of (ended g (length p) v) ≡ g =
    sym (kind_of_event w (parts_of a.rs) r k h ∙ ap kind_of answer) ∙ (sym (ap (λ (o : Outcome). get_or o.kinds k 0) a.outcome) ∙ q) in
    ap (λ (o : Outcome). get_or o.steps k 0) a.outcome
    ∙ (steps_of_event w (parts_of a.rs) r k h ∙ (ap steps_of answer ∙ ended_steps g (length p) v path.1.high kind))
