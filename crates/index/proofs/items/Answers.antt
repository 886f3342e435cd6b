-- `index::items` meets its contract: none without `machines`; else the count is the last number of the entry's row, cut at 32.
-- Assumes nothing.
use mathlib.Core.Path.{◌≡◌, refl, sym, ◌∙◌}
use mathlib.Core.List.{List}
use Prim.Native.Nat.{ℕ, ◌+◌, ◌*◌, ◌≤◌, ◌<◌, min}
use lib.ListN.{get_or}
use borrow.Author.Tests.{eq-eqb, ne_eqb, lt-ltb, le-ltb}
use Rattle.text.specs.laws.Readers.{pick_true, pick_false}
use Rattle.index.specs.Index.{col_of, items_in}
use Rattle.index.proofs.items.Goals as goal

-- the number of `machines`, and that there is none past the last entry
machines_at : (ix : List ℕ) (i : ℕ) → i < 32 → col_of ix i 3 ≡ get_or ix (6 + (77 * i + 3)) 0
unfolding col_of
machines_at ix i h = pick_true _ _ (lt-ltb i 32 h) ∙ pick_true _ _ refl

machines_past : (ix : List ℕ) (i : ℕ) → 32 ≤ i → col_of ix i 3 ≡ 0
unfolding col_of
machines_past ix i h = pick_false _ _ (le-ltb i 32 h)

some_items : (ix : List ℕ) (i : ℕ) → i < 32 → (get_or ix (6 + (77 * i + 3)) 0 ≡ 0 → ⊥) → items_in ix i ≡ min 32 (get_or ix (6 + (77 * i + 12)) 0)
unfolding items_in
some_items ix i h z = pick_false _ _ (ne_eqb _ _ (λ e. z (sym (machines_at ix i h) ∙ e)))

pub returns-then-ix-i-eq0 : goal.returns-then-ix-i-eq0
unfolding items_in
returns-then-ix-i-eq0 c = sym (pick_true _ _ (eq-eqb _ _ (machines_at _ _ c.if-i-lt32.true ∙ c.if-ix-i-eq0.true)))

pub returns-then-i-lt32 : goal.returns-then-i-lt32
returns-then-i-lt32 c = c.held.ensures ∙ sym (some_items c.args.ix.now _ c.if-i-lt32.true c.if-ix-i-eq0.false)

pub returns : goal.returns
unfolding items_in
returns c = sym (pick_true _ _ (eq-eqb _ _ (machines_past _ _ c.if-i-lt32.false)))
