-- `survey::entry_value` meets its contract: one line is told of, so at most one of what is kept changes, by what stands there. Assumes nothing.
use native.Mathlib.Omega.{arith}
use Rattle.survey.proofs.Entries.{machine_put, items_put, clocks_put, other_put}
use Rattle.survey.proofs.entry_value.Goals as goal

pub kept-requires : goal.kept-requires
kept-requires c = (omega arith, omega arith)

pub overflow_add-base : goal.overflow_add-base
overflow_add-base c = omega (arith, c.requires.2)

pub any_machines-requires : goal.any_machines-requires
any_machines-requires c = (c.requires.0, c.requires.1, omega (arith, c.requires.2))

pub returns-in-11 : goal.returns-in-11
returns-in-11 c = λ n. machine_put _ _ c.in-11.is (c.kept.ensures n)

pub returns-in-12 : goal.returns-in-12
returns-in-12 c = λ n. items_put _ _ c.in-12.is (c.any_machines.ensures n)

pub returns-in-13 : goal.returns-in-13
returns-in-13 c = λ n. clocks_put _ _ c.in-13.is (c.clocks_kept.ensures n)

pub returns-in_default : goal.returns-in_default
returns-in_default c = λ n. other_put _ _ (omega arith) (omega arith) (omega arith) c.value_kind.ensures (c.passed.ensures n)
