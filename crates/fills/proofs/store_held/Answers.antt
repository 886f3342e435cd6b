-- `fills::store_held` meets its contract: the entry's block is put in, if it is one of the first 32.
-- Assumes nothing.
use mathlib.Core.Path.{refl}
use native.Mathlib.Omega.{arith}
use Rattle.fills.proofs.store_held.Goals as goal

pub store_entry-requires : goal.store_entry-requires
store_entry-requires c = (c.requires.0, omega (arith, c.if-i-lt32.true), c.requires.1, c.requires.2 c.if-i-lt32.true)

pub returns-then-i-lt32 : goal.returns-then-i-lt32
returns-then-i-lt32 c = (c.store_entry.ensures.0, record { held = λ _. c.store_entry.ensures.1; past = λ n. absurd (n c.if-i-lt32.true) })

pub returns : goal.returns
returns c = (c.past.ensures, record { held = λ l. absurd (omega (arith, c.if-i-lt32.false)); past = λ _. refl })
