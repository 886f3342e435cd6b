-- `fills::store_item` meets its contract: the item's row is put in, if it is one of the first 32.
-- Assumes nothing.
use mathlib.Core.Path.{refl}
use native.Mathlib.Omega.{arith}
use Rattle.index.proofs.laws.Put.{put_same}
use Rattle.fills.proofs.Steps.{row_ends}
use Rattle.fills.proofs.Made.{item_made}
use Rattle.fills.proofs.store_item.Goals as goal

pub row_to-row-requires : goal.row_to-row-requires
row_to-row-requires c = c.requires.2

pub returns-then-number-lt32 : goal.returns-then-number-lt32
returns-then-number-lt32 c = (row_ends c.row_to-row.ensures, record { held = λ _. put_same (item_made _ _ c.row_to-row.ensures) c.store.ensures; past = λ n. absurd (n c.if-number-lt32.true) })

pub returns : goal.returns
returns c = (c.past.ensures, record { held = λ l. absurd (omega (arith, c.if-number-lt32.false)); past = λ _. refl })
