-- `index::length_at` meets its contract: the length that `values` tells is that of the text, also where no string stands.
-- Assumes nothing.
use mathlib.Core.Path.{◌∙◌}
use Rattle.index.proofs.Texts.{length_is}
use Rattle.index.proofs.length_at.Goals as goal

pub returns : goal.returns
returns c = c.length_at-n.ensures ∙ length_is _ _
