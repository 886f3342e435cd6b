-- `grammar::document` meets its contract: a value with 16 levels, and then a step of `ending` at the byte past the whitespace. Assumes nothing.
use Rattle.grammar.proofs.Coded.{ends_bad, ends_deep, ends_done, ends_more}
use Rattle.grammar.proofs.document.Goals as goal

pub returns-then-byte-eq256 : goal.returns-then-byte-eq256
returns-then-byte-eq256 c = ends_done _ c.blank.ensures c.value.ensures c.in-Done.is c.blank-end.ensures c.byte.ensures c.if-byte-eq256.true

pub returns-else-byte-eq256 : goal.returns-else-byte-eq256
returns-else-byte-eq256 c = ends_more _ c.blank.ensures c.value.ensures c.in-Done.is c.blank-end.ensures c.byte.ensures c.if-byte-eq256.false

pub returns-in-Bad : goal.returns-in-Bad
returns-in-Bad c = ends_bad _ c.blank.ensures c.value.ensures c.in-Bad.is

pub returns-in-Deep : goal.returns-in-Deep
returns-in-Deep c = ends_deep _ c.blank.ensures c.value.ensures c.in-Deep.is
