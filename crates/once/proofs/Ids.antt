-- The id at a position, as `values` reads it in 64 bits. Assumes nothing.
use mathlib.Core.Path.{◌≡◌, refl, sym, ap, subst, ◌∙◌}
use mathlib.Core.Bool.{Bool, true, false, ◌||◌, true≢false, or-true}
use Prim.Native.Nat.{ℕ, ◌^◌}
use native.Mathlib.Omega.{arith}
use lib.IntN.{ℤ, pos, negsuc, neg_ℤ}
use lib.Signed.{lt_z}
use borrow.Author.Tests.{lt-ltb, ltb-false}
use Rattle.text.specs.Reading.{Text, Out, done, bad, deep, pick}
use Rattle.text.specs.Numbers.{number}
use Rattle.values.specs.Integer.{Whole, whole, none, ranged, integer_in, integer_at}
use Rattle.values.specs.declared.Integer.{Integer}
use Rattle.values.specs.declared.Integer.TheVariants.{In, Below, Above, None}
use Rattle.manifest.specs.View.{absent, wrong, one, as_integer}
use Rattle.manifest.specs.Rules.{no_id}
use Rattle.index.specs.Index.{whole_in, whole_at, id_cell}
use Rattle.once.proofs.Cells.{at_none, at_some}

-- ---- an integer is what its 64 bits are read as

integer_in_lem : (o : Out Text) → integer_in o ≡ ranged (whole_in o)
unfolding integer_in whole_in ranged
integer_in_lem (done cs j) = refl
integer_in_lem (bad p) = refl
integer_in_lem (deep p) = refl

integer_is : (s : Text) (p : ℕ) → integer_at s p ≡ ranged (whole_at s p)
unfolding integer_at whole_at
integer_is s p = integer_in_lem (number s p)

-- out of 64 bits is out of range
below_zero : (z : ℤ) → lt_z z (neg_ℤ (pos (2 ^ 63))) ≡ true → no_id z ≡ true
below_zero (pos n) e = absurd (true≢false (sym e))
below_zero (negsuc n) e = refl

above_all : (z : ℤ) → lt_z z (pos (2 ^ 63)) ≡ false → no_id z ≡ true
above_all (pos n) e =
    ap (λ (b : Bool). lt_z (pos n) (pos 0) || b) (lt-ltb 4294967295 n (omega (arith, ltb-false n (2 ^ 63) e)))
    ∙ or-true (lt_z (pos n) (pos 0))
above_all (negsuc n) e = refl

-- what the reading tells of the whole number
data Read : Integer → Whole → Type 0 where
  read_in : {z : ℤ} → Read (In z) (whole z)
  read_below : {z : ℤ} → no_id z ≡ true → Read Below (whole z)
  read_above : {z : ℤ} → no_id z ≡ true → Read Above (whole z)
  read_none : Read None none

-- below or above 64 bits
pub data OutOf64 : Integer → Type 0 where
  below : OutOf64 Below
  above : OutOf64 Above

read : (w : Whole) → Read (ranged w) w
unfolding ranged pick
read none = read_none
read (whole z) = go (lt_z z (neg_ℤ (pos (2 ^ 63)))) (lt_z z (pos (2 ^ 63))) refl refl
  where
    go : (a b : Bool) → lt_z z (neg_ℤ (pos (2 ^ 63))) ≡ a → lt_z z (pos (2 ^ 63)) ≡ b → Read (pick a Below (pick b (In z) Above)) (whole z)
    go true b e f = read_below (below_zero z e)
    go false true e f = read_in
    go false false e f = read_above (above_all z f)

-- ---- the id at a position

pub id_none : (s : Text) (p : ℕ) → p ≡ 0 → id_cell s p ≡ absent
id_none s p h = at_none p (as_integer (whole_at s p)) h

module _ (s : Text) (p : ℕ) (h : p ≡ 0 → ⊥) {q : Integer} (eq : q ≡ integer_at s p) where
  reads : Read q (whole_at s p)
  reads = subst (λ (x : Integer). Read x (whole_at s p)) (sym (eq ∙ integer_is s p)) (read (whole_at s p))

  cell_is : id_cell s p ≡ as_integer (whole_at s p)
  cell_is = at_some p (as_integer (whole_at s p)) h

  pub id_in : {z : ℤ} → q ≡ In z → id_cell s p ≡ one z
  unfolding as_integer
  id_in {z} e = cell_is ∙ go reads e
    where
      go : {x : Integer} {w : Whole} → Read x w → x ≡ In z → as_integer w ≡ one z
      go (read_in {z = y}) f = let g : y ≡ z = cc in ap one g
      go (read_below o) f = let g : ◌≡◌ {A = ℕ} 0 1 = cc in absurd (omega arith)
      go (read_above o) f = let g : ◌≡◌ {A = ℕ} 0 1 = cc in absurd (omega arith)
      go read_none f = let g : ◌≡◌ {A = ℕ} 0 1 = cc in absurd (omega arith)

  -- an integer that does not fit 64 bits is out of range
  pub id_out : {x : Integer} → OutOf64 x → q ≡ x → (z : ℤ) × (id_cell s p ≡ one z) × (no_id z ≡ true)
  unfolding as_integer
  id_out o e = let (z, f, g) = go reads o e in (z, cell_is ∙ f, g)
    where
      go : {x y : Integer} {w : Whole} → Read x w → OutOf64 y → x ≡ y → (z : ℤ) × (as_integer w ≡ one z) × (no_id z ≡ true)
      go (read_in {z = y}) below f = let g : ◌≡◌ {A = ℕ} 0 1 = cc in absurd (omega arith)
      go (read_in {z = y}) above f = let g : ◌≡◌ {A = ℕ} 0 1 = cc in absurd (omega arith)
      go (read_below {z = z} n) o f = (z, refl, n)
      go (read_above {z = z} n) o f = (z, refl, n)
      go read_none below f = let g : ◌≡◌ {A = ℕ} 0 1 = cc in absurd (omega arith)
      go read_none above f = let g : ◌≡◌ {A = ℕ} 0 1 = cc in absurd (omega arith)

  pub id_wrong : q ≡ None → id_cell s p ≡ wrong
  unfolding as_integer
  id_wrong e = cell_is ∙ go reads e
    where
      go : {x : Integer} {w : Whole} → Read x w → x ≡ None → as_integer w ≡ wrong
      go (read_in {z = y}) f = let g : ◌≡◌ {A = ℕ} 0 1 = cc in absurd (omega arith)
      go (read_below o) f = let g : ◌≡◌ {A = ℕ} 0 1 = cc in absurd (omega arith)
      go (read_above o) f = let g : ◌≡◌ {A = ℕ} 0 1 = cc in absurd (omega arith)
      go read_none f = refl
