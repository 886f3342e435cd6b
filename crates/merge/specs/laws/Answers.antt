-- The events' answers in the lent memories. Assumes nothing.
use Rattle.std.specs.Prelude.{◌≡◌, Bool, false, cond, List, map, ℕ, ◌-◌, ◌≤◌, ℤ, pos, length}
use Rattle.std.proofs.Math.Path.{refl, ap}
use Rattle.std.proofs.Common.{◌∙◌}
use Rattle.std.proofs.Math.Bool.{true}
use Rattle.std.proofs.Math.ListN.{replicate}
use Rattle.graphs.specs.Graphs.{World}
use borrow.Author.Tests.{le-leb}
use Rattle.clocks.specs.Answers.{Room, fits, answers_of, time_of, kind_of, steps_of, padded, Filled, filled, Answer as EventAnswer}

-- the memories of the events hold these answers
pub record Answered (o : Filled) (times : List ℤ) (kinds steps : List ℕ) : Type 0 where
  pub times_are : times ≡ o.times
  pub kinds_are : kinds ≡ o.kinds
  pub steps_are : steps ≡ o.steps

-- the memories of the events hold these answers, and then zeros
pub record Timed (all : List EventAnswer) (nt nk ns : ℕ) (times : List ℤ) (kinds steps : List ℕ) : Type 0 where
  pub times_are : times ≡ padded (pos 0) nt (map time_of all)
  pub kinds_are : kinds ≡ padded 0 nk (map kind_of all)
  pub steps_are : steps ≡ padded 0 ns (map steps_of all)

-- all that is filled is answered
module _ (w : World) (cs : List ℕ) (ts : List ℤ) (nt nk ns : ℕ) where
  abbrev room : Room
  room = record { times = nt; kinds = nk; steps = ns; matrix = 50176 }

  it_fits : length w.links ≤ 288 → length (answers_of w cs ts) ≤ nt → length (answers_of w cs ts) ≤ nk → length (answers_of w cs ts) ≤ ns
      → fits (length w.links) (length (answers_of w cs ts)) room ≡ true
  unfolding fits
  it_fits l a b c = rw (le-leb _ 288 l, le-leb _ nt a, le-leb _ nk b, le-leb _ ns c) refl

  pub answers_filled : length w.links ≤ 288 → length (answers_of w cs ts) ≤ nt → length (answers_of w cs ts) ≤ nk → length (answers_of w cs ts) ≤ ns
      → {times : List ℤ} {kinds steps : List ℕ} → Answered (filled w cs ts room) times kinds steps → Timed (answers_of w cs ts) nt nk ns times kinds steps
  unfolding filled
  answers_filled l a b c r =
      let e : fits (length w.links) (length (answers_of w cs ts)) room ≡ true = it_fits l a b c in
      record {
        times_are = r.times_are ∙ ap (λ (k : Bool). (cond k (yes_filled) (no_filled)).times) e;
        kinds_are = r.kinds_are ∙ ap (λ (k : Bool). (cond k (yes_filled) (no_filled)).kinds) e;
        steps_are = r.steps_are ∙ ap (λ (k : Bool). (cond k (yes_filled) (no_filled)).steps) e;
      }
    where
      yes_filled : Filled
      yes_filled = record { done = true; times = padded (pos 0) nt (map time_of (answers_of w cs ts)); kinds = padded 0 nk (map kind_of (answers_of w cs ts)); steps = padded 0 ns (map steps_of (answers_of w cs ts)); matrix = replicate 50176 0 }

      no_filled : Filled
      no_filled = record { done = false; times = replicate nt (pos 0); kinds = replicate nk 0; steps = replicate ns 0; matrix = replicate 50176 0 }
