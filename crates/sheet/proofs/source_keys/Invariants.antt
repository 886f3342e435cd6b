-- `source_keys` holds the keys of the first sources: that is the invariant, and `Keyed` says it. Assumes nothing.
use Rattle.sheet.specs.laws.Keys.{Keyed}
use Rattle.sheet.proofs.source_keys.Given as goal

abbrev pub invariant-loop-source : goal.invariant-loop-source
invariant-loop-source l = Keyed l.s l.from l.keys l.source
