-- `listed::place_of` meets its contract: the invariant is that the text at p stands at none of the first k places. A name with another print is another text. Assumes nothing.
use native.Mathlib.Omega.{arith}
use Rattle.listed.specs.laws.Names.{passed_none, passed_more, placed_here, placed_nowhere, name_held, name_told, name_apart}
use Rattle.listed.proofs.place_of.Goals as goal
use Rattle.listed.proofs.place_of.Goals.{then-prints-k+else-same_path, else-prints-k}

pub loop-k-init : goal.loop-k-init
loop-k-init c = (omega arith, passed_none)

pub offset_bounds-prints-k : goal.offset_bounds-prints-k
offset_bounds-prints-k c = omega (arith, c.requires.0.few)

pub bounds-prints-k : goal.bounds-prints-k
bounds-prints-k c = omega (arith, c.requires.0.few)

pub offset_bounds-firsts-k : goal.offset_bounds-firsts-k
offset_bounds-firsts-k c = omega (arith, c.requires.0.few)

pub bounds-firsts-k : goal.bounds-firsts-k
bounds-firsts-k c = omega (arith, c.requires.0.few)

pub offset_bounds-lengths-k : goal.offset_bounds-lengths-k
offset_bounds-lengths-k c = omega (arith, c.requires.0.few)

pub bounds-lengths-k : goal.bounds-lengths-k
bounds-lengths-k c = omega (arith, c.requires.0.few)

pub same_path-requires : goal.same_path-requires
same_path-requires c = (c.requires.1, name_held c.requires.0 c.loop-k-test.true)

pub returns-then-same_path : goal.returns-then-same_path
returns-then-same_path c = placed_here c.loop-k.invariant.1 c.loop-k-test.true (omega (arith, c.requires.0.few, c.requires.0.long.0)) (name_told c.requires.0 c.loop-k-test.true c.args.p c.same_path.ensures c.if-same_path.true)

pub loop-k-preserved : goal.loop-k-preserved
loop-k-preserved c = (
  omega arith,
  passed_more c.loop-k.invariant.1 (omega (arith, c.requires.0.few, c.requires.0.long.0, c.loop-k-test.true))
      (elim c.if-prints-k.branch [
        | then-prints-k+else-same_path w ↦ name_told c.requires.0 c.loop-k-test.true c.args.p w.same_path.ensures w.if-same_path.false
        | else-prints-k w ↦ name_apart c.requires.0 c.loop-k-test.true c.args.p c.requires.2 w.if-prints-k.false
      ]),
)

pub returns : goal.returns
returns c = placed_nowhere c.loop-k.invariant.1 c.loop-k.invariant.0 c.loop-k-test.false
