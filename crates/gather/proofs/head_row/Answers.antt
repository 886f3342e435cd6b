-- `head_row`: each count is at most 32. The slice of the table tells that it has 129 numbers. Assumes nothing.
use Rattle.gather.proofs.Steps.{few_names, head_made}
use Rattle.index.proofs.laws.Paths.{few_entries}
use native.Mathlib.Omega.{arith}
use Rattle.gather.proofs.head_row.Goals as goal

pub overflow_cast-result : goal.overflow_cast-result
overflow_cast-result c = omega (arith, c.requires.few_files)

pub overflow_cast-result-2 : goal.overflow_cast-result-2
overflow_cast-result-2 c = omega (arith, c.requires.few_sources)

pub overflow_cast-result-3 : goal.overflow_cast-result-3
overflow_cast-result-3 c = omega (arith, few_entries c.args.ix.now, c.count-entries.ensures)

pub overflow_cast-result-4 : goal.overflow_cast-result-4
overflow_cast-result-4 c = omega (arith, few_names c.args.lookups.now (omega arith), c.named-machines.ensures)

pub returns : goal.returns
returns c = head_made c.args.t c.count-entries.ensures c.named-machines.ensures
