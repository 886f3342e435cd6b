-- Tests of what stands in a cell, and of lists that are made of cells. Assumes nothing.
use Rattle.std.specs.Prelude.{◌≡◌, Bool, true, false, ◌||◌, ℕ, eqb}
use Rattle.std.proofs.Math.Path.{refl, ap}
use Rattle.std.proofs.Common.{◌∙◌, eq-eqb, ne_eqb}
use Rattle.std.proofs.Math.Bool.{or-false}
use mathlib.Core.List.{List, [], ◌∷◌}
use Rattle.text.specs.Reading.{pick}
use Rattle.manifest.specs.View.{Cell, absent, wrong, many, one}
use Rattle.manifest.specs.Rows.{the, is_absent, holds, any, flat}
use Rattle.manifest.proofs.laws.Lists.{any_append}
use Rattle.index.specs.Index.{at}

-- ---- a value that stands at p

module _ {A : Type 0} (f : A → Bool) (p : ℕ) (a : A) where
  pub holds_none : p ≡ 0 → holds f (at p (one a)) ≡ false
  unfolding at pick holds
  holds_none h = ap (λ (b : Bool). holds f (pick b absent (one a))) (eq-eqb p 0 h)

  pub holds_some : (p ≡ 0 → ⊥) → holds f (at p (one a)) ≡ f a
  unfolding at pick holds
  holds_some h = ap (λ (b : Bool). holds f (pick b absent (one a))) (ne_eqb p 0 h)

pub absent_at : {A : Type 0} (p : ℕ) (a : A) → is_absent (at p (one a)) ≡ eqb p 0
unfolding at pick is_absent
absent_at p a = go (eqb p 0)
  where
    go : (b : Bool) → is_absent (pick b absent (one a)) ≡ b
    go true = refl
    go false = refl

-- ---- lists of what stands in cells

module _ {A : Type 0} (f : A → Bool) where
  pub any_the : (c : Cell A) → any f (the c) ≡ holds f c
  unfolding any the holds
  any_the absent = refl
  any_the wrong = refl
  any_the (many i) = refl
  any_the (one a) = or-false (f a)

  pub any_flat_the : {B : Type 0} (g : B → Cell A) (l : List B) → any f (flat (λ b. the (g b)) l) ≡ any (λ b. holds f (g b)) l
  unfolding any flat
  any_flat_the g [] = refl
  any_flat_the g (b ∷ l) = any_append f (the (g b)) (flat (λ b. the (g b)) l) ∙ (λ i. any_the (g b) i || any_flat_the g l i)
