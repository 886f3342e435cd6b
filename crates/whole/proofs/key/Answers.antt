-- `whole::key` meets its contract: a key is the pattern and 2^63, without what passes 64 bits. Assumes nothing.
use Rattle.std.proofs.Common.{to_z-of_z}
use Rattle.whole.proofs.Patterns.{pattern_key}
use Rattle.whole.proofs.key.Goals as goal

pub returns : goal.returns
returns c = rw (c.pattern_of.ensures, to_z-of_z c.ranges.x) (pattern_key _ c.ranges.x)
