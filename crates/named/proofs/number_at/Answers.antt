-- `named::number_at` meets its contract: position 0 is the host; a position that stands in the table tells the number by its place, any other by print and text. Assumes nothing.
use Rattle.named.specs.laws.Firsts.{number_host, number_placed, number_written}
use Rattle.named.proofs.number_at.Goals as goal

pub returns-then-p-eq0 : goal.returns-then-p-eq0
returns-then-p-eq0 c = number_host _ _ _ c.if-p-eq0.true

pub returns-then-k-lt32 : goal.returns-then-k-lt32
returns-then-k-lt32 c = number_placed _ c.args.table.now _ c.if-p-eq0.false c.stands_at-k.ensures c.if-k-lt32.true

pub returns : goal.returns
returns c = number_written _ c.args.table.now _ c.if-p-eq0.false c.stands_at-k.ensures c.if-k-lt32.false c.number_by.ensures
