-- `values::starts` meets its contract: for each width the bytes compared are those of `utf8`.
-- Assumes nothing.
use mathlib.Core.Bool.{Bool, ◌&&◌}
use mathlib.Core.Path.{◌≡◌, ◌∙◌, ap}
use borrow.Author.Tests.{lt-ltb, le-ltb}
use Rattle.text.specs.Strings.{utf8}
use Rattle.text.specs.Reading.{pick}
use Rattle.values.specs.laws.Compared.{starts_from}
use Rattle.values.proofs.starts.Goals as goal

-- what was the same so far was told by an answer before
also : (x : Bool) {r a b : Bool} → r ≡ (a && x) → a ≡ b → r ≡ (b && x)
also x e f = e ∙ ap (λ (t : Bool). t && x) f

pub returns-then-v-lt128 : goal.returns-then-v-lt128
unfolding utf8 pick starts_from
returns-then-v-lt128 c = simp (lt-ltb _ _ c.if-v-lt128.true) c.more.ensures

pub returns-then-v-lt2048 : goal.returns-then-v-lt2048
unfolding utf8 pick starts_from
returns-then-v-lt2048 c = simp (le-ltb _ _ c.if-v-lt128.false, lt-ltb _ _ c.if-v-lt2048.true) (also _ c.more-then-v-lt2048-2.ensures c.more-then-v-lt2048.ensures)

pub returns-then-v-lt65536 : goal.returns-then-v-lt65536
unfolding utf8 pick starts_from
returns-then-v-lt65536 c = simp (le-ltb _ _ c.if-v-lt128.false, le-ltb _ _ c.if-v-lt2048.false, lt-ltb _ _ c.if-v-lt65536.true) (also _ c.more-then-v-lt65536-2.ensures (also _ c.more-two.ensures c.more-then-v-lt65536.ensures))

pub returns : goal.returns
unfolding utf8 pick starts_from
returns c = simp (le-ltb _ _ c.if-v-lt128.false, le-ltb _ _ c.if-v-lt2048.false, le-ltb _ _ c.if-v-lt65536.false) (also _ c.more-3.ensures (also _ c.more-three.ensures (also _ c.more-two-2.ensures c.more-2.ensures)))
