-- `survey::manifest` meets its contract: its version is one and the integer 1, no flaw is in it, and its numbers with the entries behind them are its index.
-- Assumes nothing.
use mathlib.Core.Path.{refl, ◌∙◌}
use native.Mathlib.Omega.{arith}
use Rattle.survey.proofs.Holding.{holds_sized}
use Rattle.survey.proofs.Manifests.{manifest_told}
use Rattle.survey.proofs.manifest.Goals as goal

pub returns-then-own-eq0 : goal.returns-then-own-eq0
returns-then-own-eq0 c = λ n. absurd (n refl)

pub store-requires : goal.store-requires
store-requires c = (holds_sized _ (λ e. e.1.sized) (c.manifest_row-own.ensures c.if-own-eq0.false).1.files ∙ c.requires.1, omega arith)

pub returns : goal.returns
returns c = λ _. manifest_told _ _ c.requires.0 (c.manifest_row-own.ensures c.if-own-eq0.false).0 (c.manifest_row-own.ensures c.if-own-eq0.false).1 c.requires.1 c.if-own-eq0-2.false c.not_one.ensures c.if-not_one.false c.store.ensures
