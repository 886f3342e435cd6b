-- `graphs::is_free` meets its contract; a file past 31 has no bit, and so is not pinned.
use borrow.Author.Tests.{lt-ltb}
use native.Mathlib.Omega.{arith}
use mathlib.Core.Path.{refl}
use Rattle.graphs.specs.laws.Matrix.{not_pinned}
use Rattle.graphs.proofs.is_free.Goals as goal

pub returns-then-f-gt31 : goal.returns-then-f-gt31
returns-then-f-gt31 c =
    rw (lt-ltb 31 c.args.f c.if-f-gt31.true, lt-ltb c.args.f c.args.files (omega arith), not_pinned c.args.pinned c.args.f (omega arith) (omega arith)) refl
