-- `graphs::join_row` meets its contract: the machines passed are joined to the row (`row_more`).
use mathlib.Core.Path.{refl}
use native.Mathlib.Omega.{arith}
use Rattle.graphs.specs.laws.Guesses.{row_more}
use Rattle.graphs.proofs.join_row.Goals as goal

pub loop-n-preserved : goal.loop-n-preserved
loop-n-preserved c = let l = c.loop-n in
    let j = rw (c.domain_clock-p.ensures, c.domain_clock-q.ensures) at c.join.ensures in
    row_more {p = record { 0 = c.args.m }} {q = record { 0 = l.n }} c.requires.1 c.requires.2 (omega arith) refl refl l.invariant j
