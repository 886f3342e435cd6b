-- `survey::entry` meets its contract: its row, and what is kept of the objects in it, are its numbers, and with the items behind them its block.
-- Assumes nothing.
use mathlib.Core.Path.{refl, ◌∙◌}
use native.Mathlib.Omega.{arith}
use Rattle.survey.proofs.Holding.{holds_sized}
use Rattle.survey.proofs.Entries.{entry_told}
use Rattle.survey.proofs.entry.Goals as goal

pub entry_row-own-requires : goal.entry_row-own-requires
entry_row-own-requires c = (c.requires.1, c.requires.2)

pub returns-then-own-eq0 : goal.returns-then-own-eq0
returns-then-own-eq0 c = λ n. absurd (n refl)

pub store-requires : goal.store-requires
store-requires c = (holds_sized _ (λ e. e.1.sized) (c.entry_row-own.ensures c.if-own-eq0.false).1.items ∙ c.requires.1, omega (arith, c.requires.2))

pub returns : goal.returns
returns c = λ _. entry_told _ _ c.requires.0 _ (c.entry_row-own.ensures c.if-own-eq0.false).0 (c.entry_row-own.ensures c.if-own-eq0.false).1 c.requires.1 c.requires.2 c.store.ensures
