-- What stands at a place of a list: found by a test, by number, and in a list that is made from another. Assumes nothing.
use Rattle.std.specs.Prelude.{◌≡◌, refl, Bool, true, false, ◌||◌, ◌&&◌, List, [], ◌∷◌, map, ℕ, zero, suc, ◌+◌, ◌<◌, length, get_or}
use Rattle.std.proofs.Common.{sym, subst, ◌∙◌, true≢false, arith}
use Rattle.std.proofs.Math.Decide.{dec_lt}
use Rattle.text.specs.Reading.{pick}
use Rattle.manifest.specs.Rows.{any, first_or}
use Rattle.manifest.specs.Statements.{At, here, further}
use Rattle.manifest.proofs.laws.Lists.{at_below}

-- an element that a test holds of
pub record Some {A : Type 0} (q : A → Bool) (l : List A) : Type 0 where
  pub place : ℕ
  pub element : A
  pub at : At l place element
  pub holds : q element ≡ true

pub any_some : {A : Type 0} (q : A → Bool) (l : List A) → any q l ≡ true → Some q l
unfolding any
any_some q [] e = absurd (true≢false (sym e))
any_some q (a ∷ l) e = go (q a) refl e (any_some q l)
  where
    go : (b : Bool) → q a ≡ b → (b || any q l) ≡ true → (any q l ≡ true → Some q l) → Some q (a ∷ l)
    go true h f ih = record { place = 0; element = a; at = here; holds = h }
    go false h f ih = let r : Some q l = ih f in record { place = suc r.place; element = r.element; at = further r.at; holds = r.holds }

-- what is not true is false
pub no_true : (b : Bool) → (b ≡ true → ⊥) → b ≡ false
no_true true n = absurd (n refl)
no_true false n = refl

pub both : {a b : Bool} → a ≡ true → b ≡ true → (a && b) ≡ true
both e f = λ i. e i && f i

-- two numbers, neither below the other
pub apart : (i j : ℕ) → (i < j → ⊥) → (j < i → ⊥) → i ≡ j
apart i j a b = go (dec_lt i j) (dec_lt j i)
  where
    go : Dec (i < j) → Dec (j < i) → i ≡ j
    go (yes l) n = absurd (a l)
    go (no l) (yes n) = absurd (b n)
    go (no l) (no n) = omega arith

-- ---- by number

pub at_get_d : {A : Type 0} {l : List A} {i : ℕ} {a : A} → At l i a → (d : A) → get_or l i d ≡ a
at_get_d here d = refl
at_get_d (further h) d = at_get_d h d

pub get_d_at : {A : Type 0} (l : List A) (i : ℕ) (d : A) → i < length l → At l i (get_or l i d)
get_d_at [] i d h = absurd (omega arith)
get_d_at (a ∷ l) zero d h = here
get_d_at (a ∷ l) (suc i) d h = further (get_d_at l i d (omega arith))

-- one place, one element
pub at_only : {A : Type 0} {l : List A} {i : ℕ} {a b : A} → At l i a → At l i b → a ≡ b
at_only here here = refl
at_only (further h) (further k) = at_only h k

-- ---- in a list that is mapped

pub at_map : {A B : Type 0} (f : A → B) {l : List A} {i : ℕ} {a : A} → At l i a → At (map f l) i (f a)
at_map f here = here
at_map f (further h) = further (at_map f h)

pub record SourceOf {A B : Type 0} (f : A → B) (l : List A) (i : ℕ) (b : B) : Type 0 where
  pub element : A
  pub at : At l i element
  pub is : b ≡ f element

pub map_at : {A B : Type 0} (f : A → B) (l : List A) {i : ℕ} {b : B} → At (map f l) i b → SourceOf f l i b
map_at f (a ∷ l) here = record { element = a; at = here; is = refl }
map_at f (a ∷ l) (further h) = let r = map_at f l h in record { element = r.element; at = further r.at; is = r.is }
map_at f [] h = elim h [ ]

-- ---- the first place

pub data First {A : Type 0} (d : ℕ) (q : A → Bool) (l : List A) (i : ℕ) : ℕ → Type 0 where
  found : {j : ℕ} {a : A} → At l j a → q a ≡ true → First d q l i (i + j)
  none : ((j : ℕ) (a : A) → At l j a → q a ≡ true → ⊥) → First d q l i d

pub first_or_lem : {A : Type 0} (d : ℕ) (q : A → Bool) (l : List A) (i : ℕ) → First d q l i (first_or d q l i)
unfolding first_or pick
first_or_lem d q [] i = none (λ j a h t. omega (arith, at_below h))
first_or_lem {A} d q (a ∷ l) i = go (q a) refl (first_or_lem d q l (suc i))
  where
    past : q a ≡ false → ((j : ℕ) (b : A) → At l j b → q b ≡ true → ⊥) → (j : ℕ) (b : A) → At (a ∷ l) j b → q b ≡ true → ⊥
    past f n zero b here t = true≢false (sym t ∙ f)
    past f n (suc j) b (further h) t = n j b h t

    step : {n : ℕ} → q a ≡ false → First d q l (suc i) n → First d q (a ∷ l) i n
    step f (found {j} h t) = let e : i + suc j ≡ suc i + j = omega arith in subst (λ (n : ℕ). First d q (a ∷ l) i n) e (found (further h) t)
    step f (none n) = none (past f n)

    go : (b : Bool) → q a ≡ b → First d q l (suc i) (first_or d q l (suc i)) → First d q (a ∷ l) i (pick b i (first_or d q l (suc i)))
    go true e r = let z : i + 0 ≡ i = omega arith in subst (λ (n : ℕ). First d q (a ∷ l) i n) z (found here e)
    go false e r = step e r
