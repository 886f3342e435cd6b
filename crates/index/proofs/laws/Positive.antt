-- No item and no member's value stands at 0. Assumes nothing.
use Rattle.std.specs.Prelude.{◌≡◌, Bool, true, false, length, eqb}
use Rattle.std.proofs.Math.Path.{subst}
use mathlib.Core.List.{List, [], ◌∷◌}
use Prim.Native.Nat.{ℕ, zero, suc, ◌+◌, ◌≤◌, ◌<◌}
use Rattle.std.proofs.Common.{arith}
use Rattle.text.specs.Reading.{Text, Out, done, bad, deep, Reader, pick, peek}
use Rattle.text.specs.Class.{skip}
use Rattle.text.specs.laws.Peek.{skip_ge}
use Rattle.text.specs.laws.Readers.{next_inv, pick_case, bad_done, done_of, past_done}
use Rattle.grammar.specs.Tree.{same}
use Rattle.grammar.specs.Document.{value, name, after, items, many, in_front}
use Rattle.grammar.proofs.laws.Forward.{name_forward}
use Rattle.places.specs.Places.{inner, place, item_place, member_place, listed, items_at, members_at, places_of}
use Rattle.places.specs.laws.Standing.{member_inv}
use Rattle.manifest.specs.Statements.{All, all_none, all_one}

-- all that is read from a position past 0 is so
module _ {A : Type 0} (P : A → Type 0) (one : Reader A) (close : ℕ) (s : Text) (h : (i : ℕ) (x : A) (j : ℕ) → 0 < i → one s i ≡ done x j → P x) where
  items_all : (n i : ℕ) → 0 < i → {xs : List A} {m : ℕ} → items one close n s i ≡ done xs m → All P xs
  unfolding items after in_front
  items_all zero i p e = absurd (bad_done e)
  items_all (suc n) i p {xs} {m} e =
      let w = next_inv (one s (skip s i)) (after close (items one close n) s) e in
      let a : P w.0 = h (skip s i) w.0 w.1 (omega (arith, skip_ge s i)) w.2 in
      pick_case _ _ _ w.3
      (λ _ f. subst (All P) (done_of f) (all_one a all_none))
      (λ _ f. pick_case _ _ _ f
      (λ _ u.
      let x = next_inv (items one close n s (skip s w.1 + 1)) (in_front w.0) u in
      subst (All P) (done_of x.3) (all_one a (items_all n (skip s w.1 + 1) (omega arith) x.2)))
      (λ _ u. absurd (bad_done u)))

  many_all : (i : ℕ) → 0 < i → {xs : List A} {m : ℕ} → many one close s i ≡ done xs m → All P xs
  unfolding many
  many_all i p e = pick_case _ _ _ e (λ _ f. subst (All P) (done_of f) all_none) (λ _ f. items_all (suc (length s)) i p f)

  pub all_listed : (i : ℕ) → 0 < i → All P (listed (many one close s i))
  unfolding listed
  all_listed i p = go (many one close s i) (λ xs m e. many_all i p e)
    where
      go : (o : Out (List A)) → ((xs : List A) (m : ℕ) → o ≡ done xs m → All P xs) → All P (listed o)
      go (done xs m) f = f xs m (λ t. done xs m)
      go (bad q) f = all_none
      go (deep q) f = all_none

pub all_pick : {A : Type 0} (P : A → Type 0) (b : Bool) (l : List A) → All P l → All P (pick b l [])
unfolding pick
all_pick P true l h = h
all_pick P false l h = all_none

pub items_positive : (s : Text) (p : ℕ) → All (λ q. q ≡ 0 → ⊥) (items_at s p)
unfolding items_at item_place place
items_positive s p = all_pick (λ q. q ≡ 0 → ⊥) (eqb (peek s p) 91) _ (all_listed (λ q. q ≡ 0 → ⊥) item_place 93 s item (p + 1) (omega arith))
  where
    item : (i x j : ℕ) → 0 < i → item_place s i ≡ done x j → x ≡ 0 → ⊥
    item i x j a e z =
        let w = next_inv (value inner s i) (place i) e in
        let v : i ≡ x = done_of w.3 in
        omega arith

pub members_positive : (s : Text) (p : ℕ) → All (λ m. m.1 ≡ 0 → ⊥) (members_at s p)
unfolding members_at
members_positive s p = all_pick (λ m. m.1 ≡ 0 → ⊥) (eqb (peek s p) 123) _ (all_listed (λ m. m.1 ≡ 0 → ⊥) member_place 125 s member (p + 1) (omega arith))
  where
    member : (i : ℕ) (x : Text × ℕ) (j : ℕ) → 0 < i → member_place s i ≡ done x j → x.1 ≡ 0 → ⊥
    member i x j a e z =
        let w = member_inv s i {k = x.0} {v = x.1} {e = j} e in
        let l : i ≤ w.0 = past_done name name_forward s i w.2 in
        let v : x.1 ≡ skip s w.0 = w.3 in
        omega (arith, skip_ge s w.0)

pub all_places : (P : ℕ → Type 0) (n : Text) (ms : List (Text × ℕ)) → All (λ m. P m.1) ms → All P (places_of n ms)
unfolding places_of pick
all_places P n [] all_none = all_none
all_places P n (m ∷ ms) (all_one h a) = go (same m.0 n) (all_places P n ms a)
  where
    go : (b : Bool) → All P (places_of n ms) → All P (pick b (m.1 ∷ places_of n ms) (places_of n ms))
    go true r = all_one h r
    go false r = r

pub places_positive : (s : Text) (p : ℕ) (n : Text) → All (λ q. q ≡ 0 → ⊥) (places_of n (members_at s p))
places_positive s p n = all_places (λ q. q ≡ 0 → ⊥) n (members_at s p) (members_positive s p)
