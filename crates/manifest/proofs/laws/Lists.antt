-- Tests over lists, and what stands at a place. Assumes nothing.
use Rattle.std.specs.Prelude.{◌≡◌, Bool, ◌||◌, length}
use Rattle.std.proofs.Math.Path.{refl, ap}
use Rattle.std.proofs.Common.{sym, ◌∙◌, true≢false}
use Rattle.std.proofs.Math.Bool.{true, false, or-true}
use mathlib.Core.List.{List, [], ◌∷◌, ◌++◌}
use Prim.Native.Nat.{ℕ, suc, ◌+◌, ◌<◌}
use native.Mathlib.Omega.{arith}
use Rattle.text.specs.Reading.{pick}
use Rattle.manifest.specs.Rows.{any, any_at, first_or, flat}
use Rattle.manifest.specs.Statements.{At, here, further}
use Rattle.manifest.proofs.laws.Bools.{halves}

module _ {A : Type 0} (p : A → Bool) where
  -- a test that holds of no element
  pub any_false : {l : List A} {i : ℕ} {a : A} → any p l ≡ false → At l i a → p a ≡ false
  unfolding any
  any_false e (here {a = a} {l = l}) = (halves (p a) (any p l) e).0
  any_false e (further {b = b} {l = l} h) = any_false (halves (p b) (any p l) e).1 h

  -- and one that holds of some
  pub any_true : {l : List A} {i : ℕ} {a : A} → At l i a → p a ≡ true → any p l ≡ true
  unfolding any
  any_true (here {l = l}) e = ap (λ (b : Bool). b || any p l) e
  any_true (further {b = b} h) e = ap (λ (c : Bool). p b || c) (any_true h e) ∙ or-true (p b)

  pub any_append : (l k : List A) → any p (l ++ k) ≡ (any p l || any p k)
  unfolding any
  any_append [] k = refl
  any_append (a ∷ l) k = ap (λ (b : Bool). p a || b) (any_append l k) ∙ or_again (p a) (any p l) (any p k)
    where
      or_again : (a b c : Bool) → (a || (b || c)) ≡ ((a || b) || c)
      or_again true b c = refl
      or_again false b c = refl

module _ {A : Type 0} (p : ℕ → A → Bool) where
  pub any_at_false : (j : ℕ) {l : List A} {i : ℕ} {a : A} → any_at p j l ≡ false → At l i a → p (j + i) a ≡ false
  unfolding any_at
  any_at_false j e (here {a = a} {l = l}) =
      let q : j + 0 ≡ j = omega arith in
      ap (λ (k : ℕ). p k a) q ∙ (halves (p j a) (any_at p (suc j) l) e).0
  any_at_false j e (further {a = a} {b = b} {l = l} {i = i} h) =
      let q : j + suc i ≡ suc j + i = omega arith in
      ap (λ (k : ℕ). p k a) q ∙ any_at_false (suc j) (halves (p j b) (any_at p (suc j) l) e).1 h

-- a rule that looks into no entry
pub any_at_none : {A : Type 0} (j : ℕ) (l : List A) → any_at (λ i a. false) j l ≡ false
unfolding any_at
any_at_none j [] = refl
any_at_none j (a ∷ l) = any_at_none (suc j) l

-- what stands at a place has a place below the length
pub at_below : {A : Type 0} {l : List A} {i : ℕ} {a : A} → At l i a → i < length l
at_below here = omega arith
at_below (further h) = let r : _ = at_below h in omega arith

-- the place that `first_or` finds, where there is one
pub record Place {A : Type 0} (p : A → Bool) (l : List A) (i : ℕ) : Type 0 where
  pub place : ℕ
  pub element : A
  pub is : first_or 0 p l (suc i) ≡ suc (i + place)
  pub at : At l place element
  pub holds : p element ≡ true

pub first_or_some : {A : Type 0} (p : A → Bool) (l : List A) (i : ℕ) → any p l ≡ true → Place p l i
unfolding any first_or pick
first_or_some p [] i e = absurd (true≢false (sym e))
first_or_some p (a ∷ l) i e = go (p a) refl e (first_or_some p l (suc i))
  where
    go : (b : Bool) → p a ≡ b → (b || any p l) ≡ true → (any p l ≡ true → Place p l (suc i)) → Place p (a ∷ l) i
    go true q f ih = record {
      place = 0;
      element = a;
      is = let z : suc i ≡ suc (i + 0) = omega arith in ap (λ (c : Bool). pick c (suc i) (first_or 0 p l (suc (suc i)))) q ∙ z;
      at = here;
      holds = q;
    }
    go false q f ih =
        let r : Place p l (suc i) = ih f in
        let z : suc (suc i + r.place) ≡ suc (i + suc r.place) = omega arith in
        record {
          place = suc r.place;
          element = r.element;
          is = ap (λ (c : Bool). pick c (suc i) (first_or 0 p l (suc (suc i)))) q ∙ (r.is ∙ z);
          at = further r.at;
          holds = r.holds;
        }

pub first_or_none : {A : Type 0} (p : A → Bool) (l : List A) (i : ℕ) → any p l ≡ false → first_or 0 p l i ≡ 0
unfolding any first_or pick
first_or_none p [] i e = refl
first_or_none p (a ∷ l) i e =
    let (x, y) = halves (p a) (any p l) e in
    ap (λ (c : Bool). pick c i (first_or 0 p l (suc i))) x ∙ first_or_none p l (suc i) y

-- in one of the lists that are put together
pub any_flat : {A B : Type 0} (p : B → Bool) (f : A → List B) {l : List A} {i : ℕ} {a : A} → At l i a → any p (f a) ≡ true → any p (flat f l) ≡ true
unfolding flat
any_flat p f (here {a = a} {l = l}) e = any_append p (f a) (flat f l) ∙ ap (λ (b : Bool). b || any p (flat f l)) e
any_flat p f (further {b = b} {l = l} h) e = any_append p (f b) (flat f l) ∙ (ap (λ (c : Bool). any p (f b) || c) (any_flat p f h e) ∙ or-true (any p (f b)))
