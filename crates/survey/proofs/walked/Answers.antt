-- `survey::walked` meets its contract: the text is a document with one member, the manifest object, of which the walk has told all.
-- Assumes nothing.
use mathlib.Core.Path.{sym, ap, ◌∙◌}
use mathlib.Core.Bool.{true≢false}
use Prim.Native.Nat.{ℕ}
use native.Mathlib.Omega.{arith}
use lib.ListN.{length, length-replicate}
use Rattle.text.specs.laws.Peek.{found_in}
use Rattle.survey.proofs.Steps.{walked_clear}
use Rattle.survey.proofs.Holding.{value_past}
use Rattle.survey.proofs.walked.Goals as goal

pub returns-then-s-gt65536 : goal.returns-then-s-gt65536
returns-then-s-gt65536 c = λ q. absurd (true≢false (sym q))

pub returns-then-byte-ne123 : goal.returns-then-byte-ne123
returns-then-byte-ne123 c = λ q. absurd (true≢false (sym q))

pub overflow_add-start : goal.overflow_add-start
overflow_add-start c = omega (arith, found_in _ _ c.byte.ensures c.if-byte-ne123.false tt)

pub returns-then-j-eq0 : goal.returns-then-j-eq0
returns-then-j-eq0 c = λ q. absurd (true≢false (sym q))

pub manifest-end-requires : goal.manifest-end-requires
manifest-end-requires c = (value_past _ _ (c.name_end-j.ensures c.if-j-eq0.false) c.blank-2.ensures, ap length c.clear.ensures ∙ length-replicate {A = ℕ} 2470 0)

pub returns-then-end-eq0 : goal.returns-then-end-eq0
returns-then-end-eq0 c = λ q. absurd (true≢false (sym q))

pub returns : goal.returns
returns c = λ q. walked_clear _ (omega arith) c.opens.ensures c.if-not-opens.false c.blank-start.ensures c.byte.ensures c.if-byte-ne123.false c.blank.ensures (c.name_end-j.ensures c.if-j-eq0.false) c.blank-2.ensures (c.manifest-end.ensures c.if-end-eq0.false) c.clear.ensures (c.closes.ensures q)
