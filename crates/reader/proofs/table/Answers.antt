-- `reader::table` meets its contract: the survey's refusal is the refusal; else the index is the manifest, with its names settled too, so what is judged over it is the refusal, and
-- the index is left only where that is 0. Where zeros are left nothing is cited. Assumes nothing.
use mathlib.Core.Path.{sym}
use Rattle.reader.specs.laws.Found.{found_refused, found_none, found_passed}
use Rattle.reader.specs.laws.Tables.{refused_zeros, none_zeros, zeros_facts}
use Rattle.reader.proofs.Ends.{ends_later, accepts, facts_kept}
use Rattle.reader.proofs.table.Goals as goal

pub returns-then-early-ne0 : goal.returns-then-early-ne0
returns-then-early-ne0 c = let r = found_refused _ c.survey-early.ensures.0 c.survey-early.ensures.1 c.if-early-ne0.true in (r.0, r.1, zeros_facts _ (refused_zeros _ (sym r.0) c.if-early-ne0.true) c.no_paths-paths.ensures.0 c.no_paths-paths.ensures.1)

pub returns-then-s-eq0 : goal.returns-then-s-eq0
returns-then-s-eq0 c = let r = found_none _ c.survey-early.ensures.0 c.survey-early.ensures.1 c.if-early-ne0.false c.if-s-eq0.true in (r.0, r.1, zeros_facts _ (none_zeros _ c.if-s-eq0.true) c.no_paths-paths-then-s-eq0.ensures.0 c.no_paths-paths-then-s-eq0.ensures.1)

pub returns-then-refusal-ne0 : goal.returns-then-refusal-ne0
returns-then-refusal-ne0 c = let g = found_passed _ c.survey-early.ensures.0 c.survey-early.ensures.1 c.if-early-ne0.false c.if-s-eq0.false in let r = ends_later g.passes g.few g.index c.later-judged.ensures.0 c.later-judged.ensures.1 c.if-refusal-ne0.true in (r.0, r.1, zeros_facts _ (sym r.1) c.no_paths-paths-then-refusal-ne0.ensures.0 c.no_paths-paths-then-refusal-ne0.ensures.1)

pub returns : goal.returns
returns c = let g = found_passed _ c.survey-early.ensures.0 c.survey-early.ensures.1 c.if-early-ne0.false c.if-s-eq0.false in let r = accepts g.passes g.few g.index c.later-judged.ensures.0 c.later-judged.ensures.1 c.if-refusal-ne0.false in (r.0, r.1, facts_kept _ r.1 c.later-judged.ensures.2)
