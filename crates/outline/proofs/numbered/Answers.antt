-- `outline::numbered` meets its contract: each name begins with one of three words, and what follows the word decides. The words are those of the table. Assumes nothing.
use mathlib.Core.Path.{refl, sym, ap, ◌∙◌}
use native.Mathlib.Omega.{arith}
use lib.ListN.{length}
use Rattle.text.specs.laws.Peek.{found_lt}
use Rattle.outline.proofs.Clocks.{no_clock, by_boottime, by_realtime, by_none, by_monotonic, by_none_after, by_raw, word_capitals, word_is, word_behind}
use Rattle.outline.proofs.numbered.Goals as goal

pub returns-then-byte-ne34 : goal.returns-then-byte-ne34
returns-then-byte-ne34 c = no_clock _ _ (λ e. c.if-byte-ne34.true (c.byte.ensures ∙ e))

pub overflow_add-at : goal.overflow_add-at
overflow_add-at c = omega (arith, found_lt c.args.s.now _ c.byte.ensures c.if-byte-ne34.false (omega arith))

pub slice_bounds-past-end : goal.slice_bounds-past-end
slice_bounds-past-end c = omega (arith, ap length c.requires)

pub past-b-requires : goal.past-b-requires
past-b-requires c = (omega arith, word_capitals c.requires 61 69 refl)

pub returns-then-b-ne0 : goal.returns-then-b-ne0
returns-then-b-ne0 c = by_boottime _ _ (sym c.byte.ensures ∙ c.if-byte-ne34.false) (word_behind c.requires 61 69 c.past-b.ensures) c.if-b-ne0.true c.ended.ensures

pub overflow_add-at-2 : goal.overflow_add-at-2
overflow_add-at-2 c = omega (arith, found_lt c.args.s.now _ c.byte.ensures c.if-byte-ne34.false (omega arith))

pub slice_bounds-past-end-2 : goal.slice_bounds-past-end-2
slice_bounds-past-end-2 c = omega (arith, ap length c.requires)

pub past-r-requires : goal.past-r-requires
past-r-requires c = (omega arith, word_capitals c.requires 0 8 refl)

pub slice_bounds-coarse-end : goal.slice_bounds-coarse-end
slice_bounds-coarse-end c = omega (arith, ap length c.requires)

pub coarse-requires : goal.coarse-requires
coarse-requires c = (omega arith, omega arith, word_is c.requires 16 23)

pub returns-then-r-ne0 : goal.returns-then-r-ne0
returns-then-r-ne0 c = by_realtime _ _ (sym c.byte.ensures ∙ c.if-byte-ne34.false) (word_behind c.requires 0 8 c.past-r.ensures) c.if-r-ne0.true c.coarse.ensures

pub overflow_add-at-3 : goal.overflow_add-at-3
overflow_add-at-3 c = omega (arith, found_lt c.args.s.now _ c.byte.ensures c.if-byte-ne34.false (omega arith))

pub slice_bounds-past-end-3 : goal.slice_bounds-past-end-3
slice_bounds-past-end-3 c = omega (arith, ap length c.requires)

pub past-m-requires : goal.past-m-requires
past-m-requires c = (omega arith, word_capitals c.requires 23 32 refl)

pub returns-then-m-eq0 : goal.returns-then-m-eq0
returns-then-m-eq0 c = by_none _ _ (sym c.byte.ensures ∙ c.if-byte-ne34.false) (word_behind c.requires 61 69 c.past-b.ensures) c.if-b-ne0.false (word_behind c.requires 0 8 c.past-r.ensures) c.if-r-ne0.false (word_behind c.requires 23 32 c.past-m.ensures) c.if-m-eq0.true

pub slice_bounds-coarse-end-2 : goal.slice_bounds-coarse-end-2
slice_bounds-coarse-end-2 c = omega (arith, ap length c.requires)

pub coarse-n-requires : goal.coarse-n-requires
coarse-n-requires c = (omega arith, omega arith, word_is c.requires 41 48)

pub returns-then-n-ne0 : goal.returns-then-n-ne0
returns-then-n-ne0 c = by_monotonic _ _ (sym c.byte.ensures ∙ c.if-byte-ne34.false) (word_behind c.requires 23 32 c.past-m.ensures) c.if-m-eq0.false c.coarse-n.ensures c.if-n-ne0.true

pub slice_bounds-past-end-4 : goal.slice_bounds-past-end-4
slice_bounds-past-end-4 c = omega (arith, ap length c.requires)

pub past-w-requires : goal.past-w-requires
past-w-requires c = (omega arith, word_capitals c.requires 57 61 refl)

pub returns-then-w-eq0 : goal.returns-then-w-eq0
returns-then-w-eq0 c = by_none_after _ _ (sym c.byte.ensures ∙ c.if-byte-ne34.false) (word_behind c.requires 23 32 c.past-m.ensures) c.if-m-eq0.false c.coarse-n.ensures c.if-n-ne0.false (word_behind c.requires 57 61 c.past-w.ensures) c.if-w-eq0.true

pub returns : goal.returns
returns c = by_raw _ _ (sym c.byte.ensures ∙ c.if-byte-ne34.false) (word_behind c.requires 23 32 c.past-m.ensures) c.if-m-eq0.false c.coarse-n.ensures c.if-n-ne0.false (word_behind c.requires 57 61 c.past-w.ensures) c.if-w-eq0.false c.ended-2.ensures
