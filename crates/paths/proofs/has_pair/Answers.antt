-- `paths::has_pair` meets its contract: no byte of the row passed is more than `most`, so where that is 0 the row is bare.
use Prim.Native.Nat.{◌+◌, ◌*◌, ◌-◌, ◌≤◌, ◌<◌}
use borrow.Author.Tests.{le-ltb, ltb-false}
use lib.ListN.{get_or, length}
use native.Mathlib.Omega.{arith}
use Rattle.paths.proofs.Cell.{cell}
use Rattle.paths.proofs.Span.{span, at_span, length_span}
use Rattle.paths.proofs.has_pair.Goals as goal

pub returns : goal.returns
returns c = λ e d h.
    let a = c.args in
    let m = a.matrix.now in
    let i = cell a.n a.c (a.n - 1) c.requires.2 (omega arith) in
    let room : a.c * a.n + a.n ≤ length m = omega (arith, i, c.requires.0) in
    let l : d < length (span m (a.c * a.n) (a.c * a.n + a.n)) = omega (arith, length_span m (a.c * a.n) (a.c * a.n + a.n) room) in
    le-ltb 0 (get_or m (a.c * a.n + d) 0)
    (omega (arith, at_span m (a.c * a.n) (a.c * a.n + a.n) room d (omega arith), c.loop-cell.invariant d (omega (arith, l)), ltb-false 0 c.loop-cell.most e))
