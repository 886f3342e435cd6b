-- `listed::settle_entry` meets its contract: its cells are settled one after the other, and each name is read in an index that reads as the one at the beginning. Assumes nothing.
use mathlib.Core.Bool.{Bool, not, ◌||◌, ◌&&◌}
use mathlib.Core.Path.{refl, ap, ◌∙◌}
use native.Mathlib.Omega.{arith}
use lib.Dec.{eqb}
use Rattle.listed.specs.laws.Sized.{long_size, empty_size, is_long}
use Rattle.listed.specs.laws.Onward.{entry_items, entry_end, entry_cited, entry_declared}
use Rattle.listed.proofs.settle_entry.Goals as goal

pub settle-own-requires : goal.settle-own-requires
settle-own-requires c = (omega (arith, c.requires.0), c.settle-name.ensures.0)

pub overflow_add-row-5 : goal.overflow_add-row-5
overflow_add-row-5 c = omega (arith, c.requires.0)

pub overflow_add-row-6 : goal.overflow_add-row-6
overflow_add-row-6 c = omega (arith, c.requires.0)

pub settle-other-requires : goal.settle-other-requires
settle-other-requires c = (omega (arith, c.requires.0), c.settle-own.ensures.0)

pub settle_items-found-requires : goal.settle_items-found-requires
settle_items-found-requires c = (c.requires.0, entry_items c.args.ix.now c.requires.0 c.requires.1 c.settle-name.ensures.1 c.settle-own.ensures.1 c.settle-other.ensures.1 c.items-items.ensures, c.settle-other.ensures.0)

pub returns : goal.returns
returns c = (c.settle_items-found.ensures.0, entry_end c.args.ix.now c.requires.0 c.requires.1 c.settle-name.ensures.1 c.settle-own.ensures.1 c.settle-other.ensures.1 c.items-items.ensures c.settle_items-found.ensures.1, c.either-broken.ensures ∙ (λ k. entry_cited c.args.ix.now c.requires.0 c.requires.1 c.settle-name.ensures.1 c.settle-own.ensures.1 c.settle-other.ensures.1 c.col-clocks.ensures c.col.ensures c.inside-sync.ensures c.settle-own.ensures.2 c.settle-other.ensures.2 c.no_name.ensures c.no_name-2.ensures c.either-cited.ensures k || entry_declared c.args.ix.now c.requires.0 c.requires.1 c.settle-name.ensures.1 c.settle-own.ensures.1 c.settle-other.ensures.1 long_size refl c.col-machine.ensures c.settle-name.ensures.2 (c.long_name.ensures ∙ ap (λ (b : Bool). not (eqb c.col-machine.result 0) && b) (is_long c.settle-name.result.length)) c.settle_items-found.ensures.2 c.either-declared.ensures k), entry_declared c.args.ix.now c.requires.0 c.requires.1 c.settle-name.ensures.1 c.settle-own.ensures.1 c.settle-other.ensures.1 empty_size refl c.col-machine.ensures c.settle-name.ensures.2 c.empty_name.ensures c.settle_items-found.ensures.3 c.either-empty.ensures)
