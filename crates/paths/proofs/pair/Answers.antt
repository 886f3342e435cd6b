-- `paths::pair` meets its contract: a cell of row c and column d, both below n, stands below n * n.
use native.Mathlib.Omega.{arith}
use Rattle.numbers.specs.Numbers.{clocks}
use Rattle.paths.proofs.Cell.{cell, square}
use Rattle.paths.proofs.pair.Goals as goal

pub overflow_mul-result : goal.overflow_mul-result
overflow_mul-result c = let a = c.args in
    omega (arith, cell a.n a.c a.d c.requires.2 c.requires.3, square a.n clocks c.requires.1)

pub overflow_add-result : goal.overflow_add-result
overflow_add-result c = let a = c.args in
    omega (arith, cell a.n a.c a.d c.requires.2 c.requires.3, square a.n clocks c.requires.1)

pub bounds-matrix-c : goal.bounds-matrix-c
bounds-matrix-c c = let a = c.args in
    let p = c.requires in
    omega (arith, cell a.n a.c a.d p.2 p.3)
