-- `index::same_at` meets its contract: strings that are alike have one text; else the texts are the same only if both are empty, as where no string stands.
-- Assumes nothing.
use mathlib.Core.Path.{sym, ◌∙◌}
use Rattle.index.proofs.Texts.{both_alike, both_empty, both_texts}
use Rattle.index.proofs.same_at.Goals as goal

pub returns-then-same_texts : goal.returns-then-same_texts
returns-then-same_texts c = both_alike _ _ _ c.same_texts.ensures c.if-same_texts.true

pub returns-then-length_at-eq0 : goal.returns-then-length_at-eq0
returns-then-length_at-eq0 c = both_empty _ _ _ c.length_at.ensures c.if-length_at-eq0.true c.length_at-then-length_at-eq0.ensures

pub returns : goal.returns
returns c = sym c.if-same_texts.false ∙ (c.same_texts.ensures ∙ both_texts _ _ _ c.length_at.ensures c.if-length_at-eq0.false)
