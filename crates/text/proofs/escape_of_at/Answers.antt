-- `text::escape_of_at` meets its contract: what its two calls say, put together.
-- Assumes nothing.
use mathlib.Core.Path.{◌∙◌, ap}
use Rattle.text.specs.Strings.{escape_of}
use Rattle.text.proofs.escape_of_at.Goals as goal

pub returns : goal.returns
returns c = c.escape_of.ensures ∙ ap escape_of c.byte.ensures
