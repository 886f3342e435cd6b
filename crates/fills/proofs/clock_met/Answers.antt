-- `fills::clock_met` meets its contract: in each arm the store makes of the row of before the row of after.
-- Assumes nothing.
use native.Mathlib.Omega.{arith}
use Rattle.fills.proofs.Rows.{clock_first, clock_other, line_0, line_1, line_2, line_3, line_4, machine_first, offset_first, sync_first}
use Rattle.fills.proofs.clock_met.Goals as goal

pub sync_met-requires : goal.sync_met-requires
sync_met-requires c = c.requires

pub returns-in-0 : goal.returns-in-0
returns-in-0 c = (c.past.ensures, clock_first _ _ _ (line_0 _ _ _ _ c.clock_line.ensures c.in-0.is))

pub returns-in-1 : goal.returns-in-1
returns-in-1 c = (c.past-in-1.ensures, machine_first _ _ _ (line_1 _ _ _ _ c.clock_line.ensures c.in-1.is))

pub returns-in-2 : goal.returns-in-2
returns-in-2 c = (c.sync_met.ensures.0, sync_first _ _ _ (line_2 _ _ _ _ c.clock_line.ensures c.in-2.is) c.sync_met.ensures.1)

pub returns-in-3 : goal.returns-in-3
returns-in-3 c = (c.past-in-3.ensures, offset_first _ _ _ (line_3 _ _ _ _ c.clock_line.ensures c.in-3.is))

pub returns-in_default : goal.returns-in_default
returns-in_default c = let w = line_4 _ _ _ _ c.clock_line.ensures (omega arith) (omega arith) (omega arith) (omega arith) in (c.past-in_default.ensures, clock_other _ _ _ w.0 w.1 w.2 w.3)
