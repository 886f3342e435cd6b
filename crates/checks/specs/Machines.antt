-- The machines of the sources as a table. Assumes nothing.
use Rattle.std.specs.Prelude.{List, ◌++◌, ℕ, ◌-◌, length, replicate}
use Rattle.merged.specs.Machines.{machines_of}
use Rattle.checks.specs.Table.{facts_by}

-- of each source its machine's number, then zeros: 32 numbers
unfoldable pub machine_table : List ℕ → List ℕ
machine_table t = machines_of (facts_by t) ++ replicate (32 - length (machines_of (facts_by t))) 0
