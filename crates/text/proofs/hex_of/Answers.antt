-- `text::hex_of` meets its contract: in each span between two tests `hex_of` is one value.
-- Assumes nothing.
use Rattle.text.proofs.Told.{hex_below, hex_digit, hex_between, hex_capital, hex_among, hex_small, hex_past}
use Rattle.text.proofs.hex_of.Goals as goal

pub returns-then-b-lt48 : goal.returns-then-b-lt48
returns-then-b-lt48 c = hex_below _ c.if-b-lt48.true

pub returns-else-b-lt48 : goal.returns-else-b-lt48
returns-else-b-lt48 c = hex_digit _ c.if-b-lt48.false c.if-b-lt58.true

pub returns-then-b-lt65 : goal.returns-then-b-lt65
returns-then-b-lt65 c = hex_between _ c.if-b-lt58.false c.if-b-lt65.true

pub returns-then-b-lt71 : goal.returns-then-b-lt71
returns-then-b-lt71 c = hex_capital _ c.if-b-lt65.false c.if-b-lt71.true

pub returns-else-b-lt71 : goal.returns-else-b-lt71
returns-else-b-lt71 c = hex_among _ c.if-b-lt71.false c.if-b-lt97.true

pub returns-then-b-lt103 : goal.returns-then-b-lt103
returns-then-b-lt103 c = hex_small _ c.if-b-lt97.false c.if-b-lt103.true

pub returns-else-b-lt103 : goal.returns-else-b-lt103
returns-else-b-lt103 c = hex_past _ c.if-b-lt103.false
