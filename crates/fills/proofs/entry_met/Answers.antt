-- `fills::entry_met` meets its contract: in each arm the stores make of the row and the items of before those of after.
-- Assumes nothing.
use native.Mathlib.Omega.{arith}
use Rattle.fills.proofs.Rows.{clocks_first, entry_other, first_inv, items_first, line_0, line_1, line_2, line_3, line_4, path_first, whose_first}
use Rattle.fills.proofs.entry_met.Goals as goal

pub machine_met-requires : goal.machine_met-requires
machine_met-requires c = (c.requires.0, c.requires.1)

pub machines_met-requires : goal.machines_met-requires
machines_met-requires c = (c.requires.0, c.requires.1, c.requires.2, omega (arith, c.requires.3), c.requires.4 (first_inv _ _ _ _ (line_2 _ _ _ _ c.entry_line.ensures c.in-2.is)).0)

pub clocks_met-requires : goal.clocks_met-requires
clocks_met-requires c = (c.requires.0, c.requires.1)

pub returns-in-0 : goal.returns-in-0
returns-in-0 c = (c.past.ensures, path_first _ _ _ _ (line_0 _ _ _ _ c.entry_line.ensures c.in-0.is))

pub returns-in-1 : goal.returns-in-1
returns-in-1 c = (c.machine_met.ensures.0, whose_first _ _ _ _ (line_1 _ _ _ _ c.entry_line.ensures c.in-1.is) c.machine_met.ensures.1)

pub returns-in-2 : goal.returns-in-2
returns-in-2 c = (c.machines_met.ensures.0, items_first _ _ _ _ c.requires.0 (line_2 _ _ _ _ c.entry_line.ensures c.in-2.is) c.machines_met.ensures.1 c.machines_met.ensures.2)

pub returns-in-3 : goal.returns-in-3
returns-in-3 c = (c.clocks_met.ensures.0, clocks_first _ _ _ _ (line_3 _ _ _ _ c.entry_line.ensures c.in-3.is) c.clocks_met.ensures.1)

pub returns-in_default : goal.returns-in_default
returns-in_default c = let w = line_4 _ _ _ _ c.entry_line.ensures (omega arith) (omega arith) (omega arith) (omega arith) in (c.past-in_default.ensures, entry_other _ _ _ _ w.0 w.1 w.2 w.3)
