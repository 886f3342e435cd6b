-- `values::ascii_escape` meets its contract: the number of the escape is told, and what it stands for if that is below 128. Assumes nothing.
use Rattle.values.specs.laws.Ascii.{ascii_is, ascii_past}
use Rattle.values.proofs.ascii_escape.Goals as goal

pub returns-then-e-lt2048 : goal.returns-then-e-lt2048
returns-then-e-lt2048 c = ascii_is _ _ c.long-e.ensures c.if-e-lt2048.true

pub returns-else-e-lt2048 : goal.returns-else-e-lt2048
returns-else-e-lt2048 c = ascii_past _ _ c.long-e.ensures c.if-e-lt2048.false
