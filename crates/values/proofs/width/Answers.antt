-- `values::width` meets its contract: the ranges of code points are those of `utf8`.
-- Assumes nothing.
use borrow.Author.Tests.{lt-ltb, le-ltb}
use borrow.Author.Rules.{rules}
use Rattle.text.specs.Strings.{utf8}
use Rattle.text.specs.Reading.{pick}
use Rattle.values.proofs.width.Goals as goal

pub returns-then-v-lt128 : goal.returns-then-v-lt128
unfolding utf8 pick
returns-then-v-lt128 c = (simp (lt-ltb _ _ c.if-v-lt128.true), search rules)

pub returns-then-v-lt2048 : goal.returns-then-v-lt2048
unfolding utf8 pick
returns-then-v-lt2048 c = (simp (le-ltb _ _ c.if-v-lt128.false, lt-ltb _ _ c.if-v-lt2048.true), search rules)

pub returns-then-v-lt65536 : goal.returns-then-v-lt65536
unfolding utf8 pick
returns-then-v-lt65536 c = (simp (le-ltb _ _ c.if-v-lt128.false, le-ltb _ _ c.if-v-lt2048.false, lt-ltb _ _ c.if-v-lt65536.true), search rules)

pub returns-else-v-lt65536 : goal.returns-else-v-lt65536
unfolding utf8 pick
returns-else-v-lt65536 c = (simp (le-ltb _ _ c.if-v-lt128.false, le-ltb _ _ c.if-v-lt2048.false, le-ltb _ _ c.if-v-lt65536.false), search rules)
