-- `table::head` meets its contract: past the end, and behind a quote that is the last byte, nothing stands; else the text begins with the first character: a plain byte, what an
-- escape stands for, or none of ASCII.
-- Assumes nothing.
use mathlib.Core.Path.{sym, ◌∙◌}
use native.Mathlib.Omega.{arith}
use Rattle.text.specs.laws.Peek.{peek_at}
use Rattle.table.specs.laws.Heads.{heads_end, heads_last, heads_other, heads_plain, heads_none}
use Rattle.table.proofs.head.Goals as goal

pub returns-then-s-at : goal.returns-then-s-at
returns-then-s-at c = heads_end _ _ c.if-s-at.true

pub returns-then-s-at-lt2 : goal.returns-then-s-at-lt2
returns-then-s-at-lt2 c = heads_last _ _ (omega arith)

pub returns-then-s-at-ne34 : goal.returns-then-s-at-ne34
returns-then-s-at-ne34 c = heads_other _ _ (λ q. c.if-s-at-ne34.true (peek_at _ _ (omega arith) ∙ q))

pub returns-then-plain : goal.returns-then-plain
returns-then-plain c = heads_plain _ _ (sym (peek_at _ _ (omega arith)) ∙ c.if-s-at-ne34.false) (omega arith) c.point.ensures c.plain.ensures c.if-plain.true

pub returns-then-s-at-ne92 : goal.returns-then-s-at-ne92
returns-then-s-at-ne92 c = heads_none _ _ (sym (peek_at _ _ (omega arith)) ∙ c.if-s-at-ne34.false) (omega arith) c.plain.ensures c.if-plain.false c.if-s-at-ne92.true

pub escaped_head-requires : goal.escaped_head-requires
escaped_head-requires c = (sym (peek_at _ _ (omega arith)) ∙ c.if-s-at-ne34.false, sym (peek_at _ _ (omega arith)) ∙ c.if-s-at-ne92.false)
