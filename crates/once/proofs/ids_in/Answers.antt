-- `once::ids_in` meets its contract: the numbers of the table stand for the ids of the entry, and two of them for one id if the entry has it twice. Assumes nothing.
use mathlib.Core.Bool.{true≢false}
use mathlib.Core.Path.{sym, ◌∙◌}
use Rattle.once.proofs.Twice.{items_few, twice_told}
use Rattle.once.proofs.ids_in.Goals as goal

pub returns-then-read_ids : goal.returns-then-read_ids
returns-then-read_ids c = (sym c.if-read_ids.true ∙ c.read_ids.ensures.0, λ e. absurd (true≢false e))

pub number_twice-twice-requires : goal.number_twice-twice-requires
number_twice-twice-requires c = (c.read_ids.ensures.1, items_few c.args.s.now c.args.ix.now c.args.i c.items-n.ensures)

pub returns : goal.returns
returns c = (sym c.if-read_ids.false ∙ c.read_ids.ensures.0, λ _. twice_told c.args.s.now c.args.ix.now c.args.i _ c.items-n.ensures (c.read_ids.ensures.2 c.if-read_ids.false) c.number_twice-twice.ensures)
