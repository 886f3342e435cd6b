-- `graphs::join_file` meets its contract: by the two tests.
use Prim.Native.Nat.{◌/◌, ◌%◌, ◌^◌}
use mathlib.Core.Path.{sym, ◌∙◌}
use lib.Dec.{eqb, ltb}
use borrow.Author.Tests.{lt-ltb}
use Rattle.paths.specs.laws.Least.{and_right}
use Rattle.graphs.specs.laws.Guesses.{free_not, free_own, free_joined}
use Rattle.graphs.proofs.join_file.Goals as goal
use Rattle.graphs.proofs.join_file.Goals.{else-is_free-via-then-is_free+else-d-trace, else-is_free-via-else-is_free}

pub returns-else-is_free : goal.returns-else-is_free
returns-else-is_free c = let a = c.args in
    elim c.else-is_free.branch [
      | else-is_free-via-then-is_free+else-d-trace w ↦ free_own a.pinned a.trace (record { 0 = a.f }) _ (rw c.private_clock-d.ensures at w.if-d-trace.false)
      | else-is_free-via-else-is_free w ↦ free_not a.pinned a.trace (record { 0 = a.f }) _ (rw (lt-ltb a.f a.files c.requires.1) at (sym c.is_free.ensures ∙ w.if-is_free.false))
    ]

pub returns-then-d-trace : goal.returns-then-d-trace
returns-then-d-trace c = let a = c.args in
    let h = and_right (ltb a.f a.files) (eqb (a.pinned / 2 ^ a.f % 2) 0) (sym c.is_free.ensures ∙ c.if-is_free.true) in
    free_joined a.pinned a.trace (record { 0 = a.f }) _ h (rw c.private_clock-d.ensures at c.if-d-trace.true) (rw c.private_clock-d.ensures at c.join.ensures)
