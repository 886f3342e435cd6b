-- `text::hex_at` meets its contract: what its two calls say, put together.
-- Assumes nothing.
use mathlib.Core.Path.{◌∙◌, ap}
use Rattle.text.specs.Strings.{hex_of}
use Rattle.text.proofs.hex_at.Goals as goal

pub returns : goal.returns
returns c = c.hex_of.ensures ∙ ap hex_of c.byte.ensures
