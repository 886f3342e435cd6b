-- `lines::entry_link` meets its contract: nothing is added where the entry relates nothing, else the one correspondence that it gives. Assumes nothing.
use borrow.Author.Rules.{rules}
use mathlib.Core.Path.{sym, ap, ◌∙◌}
use mir.Facts.{to_z-of_z}
use mir.Syntax.{w64}
use mir.Val.{SFits}
use Rattle.merged.specs.Timeline.{link_from}
use Rattle.checks.specs.Table.{facts_by}
use Rattle.lines.specs.laws.Tables.{entry_line}
use Rattle.lines.specs.laws.Written.{adds_none, adds_same}
use Rattle.lines.proofs.entry_link.Goals as goal

pub returns-in-Unrelated : goal.returns-in-Unrelated
unfolding link_from
returns-in-Unrelated c = adds_same (sym (ap (link_from (facts_by c.args.t.now)) (sym c.link.ensures ∙ c.in-Unrelated.is))) (adds_none c.args.k c.requires.1)

pub returns-in-Related : goal.returns-in-Related
returns-in-Related c = let f : SFits w64 c.in-Related.r.offset = search rules in adds_same (entry_line c.args.t.now (sym c.link.ensures ∙ c.in-Related.is) c.cited_clock-p.ensures c.cited_clock-q.ensures) (rw (to_z-of_z f) at c.put.ensures)
