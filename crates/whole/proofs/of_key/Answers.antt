-- `whole::of_key` meets its contract: the reading of the key less 2^63, as far as 64 bits go. Assumes nothing.
use Rattle.std.proofs.Common.{◌∙◌, to_z-of_z, w64}
use Rattle.whole.proofs.Patterns.{key_pattern}
use Rattle.whole.proofs.of_key.Goals as goal

pub returns : goal.returns
returns c = to_z-of_z {w = w64} (record { sfits = c.of_pattern.type_inv }) ∙ c.of_pattern.ensures ∙ key_pattern _ c.ranges.k.fits
