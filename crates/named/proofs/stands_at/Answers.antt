-- `named::stands_at` meets its contract: the invariant is that the position, looked for from place k on, stands where it stands in the table. The slice of the table tells its length. Assumes nothing.
use native.Mathlib.Omega.{arith}
use Rattle.named.specs.laws.Firsts.{stands_start, stands_here, stands_on, stands_past}
use Rattle.named.proofs.stands_at.Goals as goal

pub loop-k-init : goal.loop-k-init
loop-k-init c = (omega arith, omega arith, stands_start _ (omega arith) _)

pub bounds-held-k : goal.bounds-held-k
bounds-held-k c = omega arith

pub returns-then-held-k : goal.returns-then-held-k
returns-then-held-k c = stands_here c.args.table.now (omega (arith, c.loop-k.invariant.1)) _ _ c.loop-k.invariant.2 c.loop-k-test.true c.if-held-k.true

pub loop-k-preserved : goal.loop-k-preserved
loop-k-preserved c = (omega arith, c.loop-k.invariant.1, stands_on c.args.table.now (omega (arith, c.loop-k.invariant.1)) _ _ c.loop-k.invariant.2 c.loop-k-test.true c.if-held-k.false)

pub returns : goal.returns
returns c = stands_past c.args.table.now (omega (arith, c.loop-k.invariant.1)) _ _ c.loop-k.invariant.2 c.loop-k-test.false
