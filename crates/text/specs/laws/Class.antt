-- Which bytes have a class: those of the ranges that give it. Assumes nothing.
use Rattle.std.specs.Prelude.{◌≡◌, refl, Bool, true, false, ◌⊎◌, List, [], ◌∷◌, ℕ, suc, ◌≤◌, leb, eqb}
use Rattle.std.proofs.Common.{inl, inr, arith, leb-true, eq-eqb}
use Rattle.text.specs.Reading.{pick}
use Rattle.text.specs.Class.{Range, range, among, ranges, class_of}

-- the first counts if the test holds
abbrev pub If : Bool → Type 0 → Type 0 → Type 0
If true A B = A ⊎ B
If false A B = B

-- b lies in one of the ranges that give k
abbrev pub Within : List Range → ℕ → ℕ → Type 0
Within [] k b = ⊥
Within (range lo hi c ∷ rs) k b = If (eqb c k) ((lo ≤ b) × (b ≤ hi)) (Within rs k b)

here : (t : Bool) (A B : Type 0) → t ≡ true → A → If t A B
here true A B e a = inl a
here false A B e a = let z : ◌≡◌ {A = ℕ} 0 1 = cc in absurd (omega arith)

there : (t : Bool) (A B : Type 0) → B → If t A B
there true A B b = inr b
there false A B b = b

within : (rs : List Range) (k b : ℕ) → among rs b ≡ suc k → Within rs (suc k) b
unfolding pick
within [] k b e = let z : ◌≡◌ {A = ℕ} 0 (suc k) = e in absurd (omega arith)
within (range lo hi c ∷ rs) k b e = go (leb lo b) refl (leb b hi) refl (within rs k b) e
  where
    go : (x : Bool) → leb lo b ≡ x → (y : Bool) → leb b hi ≡ y → (among rs b ≡ suc k → Within rs (suc k) b) → pick x (pick y c (among rs b)) (among rs b) ≡ suc k → Within (range lo hi c ∷ rs) (suc k) b
    go true p true q f r = here (eqb c (suc k)) _ _ (eq-eqb c (suc k) r) (leb-true lo b p, leb-true b hi q)
    go true p false q f r = there (eqb c (suc k)) _ _ (f r)
    go false p y q f r = there (eqb c (suc k)) _ _ (f r)

-- a byte of the class k is in a range of it
pub class_within : (k b : ℕ) → class_of b ≡ suc k → Within ranges (suc k) b
unfolding class_of
class_within k b e = within ranges k b e

-- the quote alone has class 2
pub quote_of : (b : ℕ) → class_of b ≡ 2 → b ≡ 34
quote_of b e = alone (class_within 1 b e)
  where
    alone : ((34 ≤ b) × (b ≤ 34)) ⊎ ⊥ → b ≡ 34
    alone (inl h) = omega arith
    alone (inr n) = absurd n

pub class_quote : class_of 34 ≡ 2
unfolding class_of pick
class_quote = refl
