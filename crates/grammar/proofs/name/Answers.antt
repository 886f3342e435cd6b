-- `grammar::name` meets its contract: a string, and then a step of `colon` at the byte past the whitespace. Assumes nothing.
use native.Mathlib.Omega.{arith}
use Rattle.text.specs.laws.Peek.{found_in}
use Rattle.grammar.proofs.Coded.{named, named_stop, named_bad, named_deep}
use Rattle.grammar.proofs.name.Goals as goal

pub overflow_add-result : goal.overflow_add-result
overflow_add-result c = omega (arith, found_in _ _ c.byte.ensures c.if-byte-eq58.true tt)

pub returns-then-byte-eq58 : goal.returns-then-byte-eq58
returns-then-byte-eq58 c = named _ _ c.string.ensures c.in-Done.is c.blank-k.ensures c.byte.ensures c.if-byte-eq58.true

pub returns-else-byte-eq58 : goal.returns-else-byte-eq58
returns-else-byte-eq58 c = named_stop _ _ c.string.ensures c.in-Done.is c.blank-k.ensures c.byte.ensures c.if-byte-eq58.false

pub returns-in-Bad : goal.returns-in-Bad
returns-in-Bad c = named_bad _ _ c.string.ensures c.in-Bad.is

pub returns-in-Deep : goal.returns-in-Deep
returns-in-Deep c = named_deep _ _ c.string.ensures c.in-Deep.is
