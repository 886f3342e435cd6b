-- Lists that grow at the end: a list over the front of a memory, lists by number, and the first place where a test holds. Assumes nothing.
use Rattle.std.specs.Prelude.{◌≡◌, refl, Bool, true, false, length, get_or, set, drop, replicate}
use Rattle.std.proofs.Common.{sym, ◌∙◌, length-append, length-drop}
use Rattle.std.proofs.Math.Path.{ap}
use mathlib.Core.List.{List, [], ◌∷◌, ◌++◌, map, append_assoc}
use Prim.Native.Nat.{ℕ, zero, suc, ◌+◌, ◌-◌, ◌≤◌, ◌<◌}
use native.Mathlib.Omega.{arith}
use Rattle.text.specs.laws.Readers.{pick_true, pick_false}
use Rattle.manifest.specs.Rows.{first_or, flat}
use Rattle.index.specs.Index.{listed}
use Rattle.index.proofs.laws.Entries.{from, from_here, from_past}
use Rattle.merged.specs.Merged.{padded}
use Rattle.checks.specs.laws.Listed.{from_start}
use Rattle.lines.specs.Lines.{over}

-- ---- a list over the front of a memory

-- the element behind the list is written: the list has it at its end
pub over_set : {A : Type 0} (xs m : List A) (v : A) → length xs < length m → set (over xs m) (length xs) v ≡ over (xs ++ (v ∷ [])) m
over_set [] [] v h = absurd (omega arith)
over_set [] (y ∷ m) v h = refl
over_set (x ∷ xs) [] v h = absurd (omega arith)
over_set {A} (x ∷ xs) (y ∷ m) v h = ap (λ (l : List A). x ∷ l) (over_set xs m v (omega arith))

pub over_length : {A : Type 0} (xs m : List A) → length xs ≤ length m → length (over xs m) ≡ length m
over_length xs m h = omega (arith, length-append xs (drop (length xs) m), length-drop (length xs) m)

drop_zeros : {A : Type 0} (z : A) (m n : ℕ) → drop n (replicate m z) ≡ replicate (m - n) z
drop_zeros z m zero = let e : m ≡ m - 0 = omega arith in ap (λ (k : ℕ). replicate k z) e
drop_zeros z zero (suc n) = let e : 0 ≡ 0 - suc n = omega arith in ap (λ (k : ℕ). replicate k z) e
drop_zeros z (suc m) (suc n) = let e : m - n ≡ suc m - suc n = omega arith in drop_zeros z m n ∙ ap (λ (k : ℕ). replicate k z) e

-- over zeros it is padded with zeros
pub over_zeros : {A : Type 0} (z : A) (room : ℕ) (xs : List A) → over xs (replicate room z) ≡ padded z room xs
over_zeros {A} z room xs = ap (λ (l : List A). xs ++ l) (drop_zeros z room (length xs))

-- ---- lists with an element more

pub map_more : {A B : Type 0} (f : A → B) (l : List A) (a : A) → map f (l ++ (a ∷ [])) ≡ map f l ++ (f a ∷ [])
map_more f [] a = refl
map_more {A} {B} f (b ∷ l) a = ap (λ (m : List B). f b ∷ m) (map_more f l a)

pub flat_append : {A B : Type 0} (f : A → List B) (l m : List A) → flat f (l ++ m) ≡ flat f l ++ flat f m
unfolding flat
flat_append f [] m = refl
flat_append {A} {B} f (a ∷ l) m = ap (λ (k : List B). f a ++ k) (flat_append f l m) ∙ sym (append_assoc (f a) (flat f l) (flat f m))

pub append_none : {A : Type 0} (l : List A) → l ++ [] ≡ l
append_none [] = refl
append_none {A} (a ∷ l) = ap (λ (m : List A). a ∷ m) (append_none l)

listed_next : {A : Type 0} (f : ℕ → A) (i n : ℕ) → listed f i (suc n) ≡ listed f i n ++ (f (i + n) ∷ [])
unfolding listed
listed_next {A} f i zero = let e : i ≡ i + 0 = omega arith in ap (λ (k : ℕ). f k ∷ []) e
listed_next {A} f i (suc n) =
    let e : suc i + n ≡ i + suc n = omega arith in
    ap (λ (l : List A). f i ∷ l) (listed_next f (suc i) n ∙ ap (λ (k : ℕ). listed f (suc i) n ++ (f k ∷ [])) e)

pub listed_more : {A : Type 0} (f : ℕ → A) (n : ℕ) → listed f 0 (n + 1) ≡ listed f 0 n ++ (f n ∷ [])
listed_more f n =
    let e : n + 1 ≡ suc n = omega arith in
    let z : 0 + n ≡ n = omega arith in
    ap (listed f 0) e ∙ (listed_next f 0 n ∙ ap (λ (k : ℕ). listed f 0 n ++ (f k ∷ [])) z)

pub listed_none : {A : Type 0} (f : ℕ → A) → listed f 0 0 ≡ []
unfolding listed
listed_none f = refl

pub flat_more : {B : Type 0} (f : ℕ → List B) (n : ℕ) → flat f (listed (λ i. i) 0 (n + 1)) ≡ flat f (listed (λ i. i) 0 n) ++ f n
unfolding flat
flat_more {B} f n =
    ap (flat f) (listed_more (λ i. i) n)
    ∙ (flat_append f (listed (λ i. i) 0 n) (n ∷ []) ∙ ap (λ (l : List B). flat f (listed (λ i. i) 0 n) ++ l) (append_none (f n)))

pub flat_none : {B : Type 0} (f : ℕ → List B) → flat f (listed (λ i. i) 0 0) ≡ []
unfolding flat listed
flat_none f = refl

-- ---- lists by number that are a given list

listed_on : {A : Type 0} (f : ℕ → A) (j : ℕ) (l : List A) → ((i : ℕ) → i < length l → (d : A) → f (j + i) ≡ get_or l i d) → listed f j (length l) ≡ l
unfolding listed
listed_on f j [] h = refl
listed_on {A} f j (a ∷ l) h =
    let z : j ≡ j + 0 = omega arith in
    let e : f j ≡ a = ap f z ∙ h 0 (omega arith) a in
    let r : listed f (suc j) (length l) ≡ l = listed_on f (suc j) l (λ i k d. (let s : suc j + i ≡ j + suc i = omega arith in ap f s) ∙ h (suc i) (omega arith) d) in
    λ i. e i ∷ r i

pub listed_is : {A : Type 0} (f : ℕ → A) (l : List A) (n : ℕ) → n ≡ length l → ((i : ℕ) → i < n → (d : A) → f i ≡ get_or l i d) → listed f 0 n ≡ l
listed_is f l n e h =
    ap (listed f 0) e ∙ listed_on f 0 l (λ i k d. (let s : 0 + i ≡ i = omega arith in ap f s) ∙ h i (omega arith) d)

flat_on : {A B : Type 0} (f : ℕ → List B) (g : A → List B) (j : ℕ) (l : List A) → ((i : ℕ) → i < length l → (d : A) → f (j + i) ≡ g (get_or l i d)) → flat f (listed (λ i. i) j (length l)) ≡ flat g l
unfolding listed flat
flat_on f g j [] h = refl
flat_on {A} {B} f g j (a ∷ l) h =
    let z : j ≡ j + 0 = omega arith in
    let e : f j ≡ g a = ap f z ∙ h 0 (omega arith) a in
    let r : flat f (listed (λ i. i) (suc j) (length l)) ≡ flat g l = flat_on f g (suc j) l (λ i k d. (let s : suc j + i ≡ j + suc i = omega arith in ap f s) ∙ h (suc i) (omega arith) d) in
    λ i. e i ++ r i

pub flat_is : {A B : Type 0} (f : ℕ → List B) (g : A → List B) (l : List A) (n : ℕ) → n ≡ length l → ((i : ℕ) → i < n → (d : A) → f i ≡ g (get_or l i d)) → flat f (listed (λ i. i) 0 n) ≡ flat g l
flat_is f g l n e h =
    ap (λ (k : ℕ). flat f (listed (λ i. i) 0 k)) e
    ∙ flat_on f g 0 l (λ i k d. (let s : 0 + i ≡ i = omega arith in ap f s) ∙ h i (omega arith) d)

-- ---- the first place where a test holds, from number i on of n in all

module _ {A : Type 0} (d : ℕ) (p : A → Bool) (f : ℕ → A) (n : ℕ) where
  unfoldable pub first_from : ℕ → ℕ
  first_from i = first_or d p (from f n i) i

  pub first_start : first_or d p (listed f 0 n) 0 ≡ first_from 0
  unfolding first_from
  first_start = ap (λ (l : List A). first_or d p l 0) (from_start f n)

  pub first_past : (i : ℕ) → n ≤ i → first_from i ≡ d
  unfolding first_from first_or
  first_past i h = ap (λ (l : List A). first_or d p l i) (from_past f n i h)

  pub first_found : (i : ℕ) → i < n → p (f i) ≡ true → first_from i ≡ i
  unfolding first_from first_or
  first_found i h e = ap (λ (l : List A). first_or d p l i) (from_here f n i h) ∙ pick_true _ _ e

  pub first_on : (i : ℕ) → i < n → p (f i) ≡ false → first_from i ≡ first_from (i + 1)
  unfolding first_from first_or
  first_on i h e =
      let s : suc i ≡ i + 1 = omega arith in
      ap (λ (l : List A). first_or d p l i) (from_here f n i h) ∙ (pick_false _ _ e ∙ ap (λ (k : ℕ). first_from k) s)
