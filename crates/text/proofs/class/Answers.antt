-- `text::class` meets its contract: the table is, by computing, what `class_of` says of each of its 256 places.
-- Assumes nothing.
use Rattle.text.specs.Reading.{pick}
use Rattle.text.specs.Class.{class_of}
use Rattle.text.proofs.Table.{table}
use mathlib.Core.Path.{◌∙◌, ap}
use borrow.Author.Rules.{rules}
use Rattle.text.proofs.class.Goals as goal

pub returns : goal.returns
unfolding class_of pick
returns c = table class_of 256 c.index.result (search rules) ∙ ap class_of c.index.ensures
