-- `text::low` meets its contract: each return is what `low` computes to with the bytes that were found and the tests that were made. After a backslash at the position no sum wraps, since it stands within the text.
-- Assumes nothing.
use Rattle.text.specs.laws.Peek.{found_in}
use native.Mathlib.Omega.{arith}
use Rattle.text.specs.Reading.{pick}
use Rattle.text.specs.Strings.{low, code_of}
use borrow.Author.Tests.{eq-eqb, ne_eqb}
use Rattle.text.proofs.low.Goals as goal

pub returns-then-byte-ne92 : goal.returns-then-byte-ne92
unfolding low pick code_of
returns-then-byte-ne92 c = simp (← c.byte.ensures, ne_eqb _ _ c.if-byte-ne92.true)

pub overflow_add-at : goal.overflow_add-at
overflow_add-at c = omega (arith, found_in _ _ c.byte.ensures c.if-byte-ne92.false tt)

pub overflow_add-result : goal.overflow_add-result
overflow_add-result c = omega (arith, found_in _ _ c.byte.ensures c.if-byte-ne92.false tt)

pub returns-then-byte-ne117 : goal.returns-then-byte-ne117
unfolding low pick code_of
returns-then-byte-ne117 c = simp (← c.byte.ensures, ← c.byte-2.ensures, eq-eqb _ _ c.if-byte-ne92.false, ne_eqb _ _ c.if-byte-ne117.true)

pub overflow_add-at-2 : goal.overflow_add-at-2
overflow_add-at-2 c = omega (arith, found_in _ _ c.byte.ensures c.if-byte-ne92.false tt)

pub overflow_add-result-then-hex_at-ne13 : goal.overflow_add-result-then-hex_at-ne13
overflow_add-result-then-hex_at-ne13 c = omega (arith, found_in _ _ c.byte.ensures c.if-byte-ne92.false tt)

pub returns-then-hex_at-ne13 : goal.returns-then-hex_at-ne13
unfolding low pick code_of
returns-then-hex_at-ne13 c = simp (← c.byte.ensures, ← c.byte-2.ensures, ← c.hex_at.ensures, eq-eqb _ _ c.if-byte-ne92.false, eq-eqb _ _ c.if-byte-ne117.false, ne_eqb _ _ c.if-hex_at-ne13.true)

pub overflow_add-at-3 : goal.overflow_add-at-3
overflow_add-at-3 c = omega (arith, found_in _ _ c.byte.ensures c.if-byte-ne92.false tt)

pub overflow_add-result-then-d-ne3 : goal.overflow_add-result-then-d-ne3
overflow_add-result-then-d-ne3 c = omega (arith, found_in _ _ c.byte.ensures c.if-byte-ne92.false tt)

pub returns-then-d-ne3 : goal.returns-then-d-ne3
unfolding low pick code_of
returns-then-d-ne3 c = simp (← c.byte.ensures, ← c.byte-2.ensures, ← c.hex_at.ensures, ← c.hex_at-d.ensures, eq-eqb _ _ c.if-byte-ne92.false, eq-eqb _ _ c.if-byte-ne117.false, eq-eqb _ _ c.if-hex_at-ne13.false, ne_eqb _ _ c.if-d-ne3.true)

pub overflow_add-at-4 : goal.overflow_add-at-4
overflow_add-at-4 c = omega (arith, found_in _ _ c.byte.ensures c.if-byte-ne92.false tt)

pub pair-requires : goal.pair-requires
pair-requires c = (omega (arith, found_in _ _ c.byte.ensures c.if-byte-ne92.false tt), omega arith)

pub returns : goal.returns
unfolding low pick
returns c = simp (← c.byte.ensures, ← c.byte-2.ensures, ← c.hex_at.ensures, ← c.hex_at-d.ensures, eq-eqb _ _ c.if-byte-ne92.false, eq-eqb _ _ c.if-byte-ne117.false, eq-eqb _ _ c.if-hex_at-ne13.false, eq-eqb _ _ c.if-d-ne3.false) c.pair.ensures
