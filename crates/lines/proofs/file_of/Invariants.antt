-- `lines::file_of` meets its contract. The loop's invariant: the first file that the entry lists is the first from number f on. Assumes nothing.
use mathlib.Core.Path.{◌≡◌}
use Prim.Native.Nat.{◌-◌, ◌≤◌}
use Rattle.merged.specs.Refusals.{listed_by}
use Rattle.checks.specs.Table.{file_by, files_in}
use Rattle.lines.specs.laws.Lists.{first_from}
use Rattle.lines.proofs.file_of.Given as goal

abbrev pub invariant-loop-f : goal.invariant-loop-f
invariant-loop-f l = (l.n ≤ 32) × (first_from 32 (listed_by l.e) (file_by l.t) (files_in l.t) 0 ≡ first_from 32 (listed_by l.e) (file_by l.t) (files_in l.t) l.f)

abbrev pub decreases-loop-f : goal.decreases-loop-f
decreases-loop-f l = l.n - l.f
