-- Unnamed ids, each once, as they are met from front to back; and the place of each among them. Assumes nothing.
use Rattle.std.specs.Prelude.{◌≡◌, Bool, ◌||◌, not, cond, eqb, ltb, set, Option, Some, None, unwrap_or}
use Rattle.std.specs.List.{position_or_len}
use Rattle.std.proofs.Math.Path.{refl, sym, ap}
use Rattle.std.proofs.Common.{subst, ◌∙◌, ltb-false, take-suc, get_or-set_same, get_or-set_other, eqb-true, eq-eqb}
use Rattle.std.proofs.Math.Bool.{true, false}
use mathlib.Core.List.{List, [], ◌∷◌, ◌++◌, append_assoc, append-nil}
use Prim.Native.Nat.{ℕ, zero, suc, ◌+◌, ◌≤◌, ◌<◌}
use native.Mathlib.Omega.{arith}
use Rattle.std.proofs.Math.Dec.{T}
use Rattle.std.proofs.Math.ListN.{length, get_or, take}
use Rattle.text.specs.Reading.{pick}
use Rattle.manifest.specs.Rows.{first_or, any}
use Rattle.index.specs.Index.{listed}
use Rattle.index.proofs.laws.Entries.{listed_length}
use Rattle.merged.specs.Machines.{without, distinct}

-- ---- each number once, from front to back

-- a number more, unless it is there
unfoldable pub added : List ℕ → ℕ → List ℕ
added l id = pick (any (eqb id) l) l (l ++ id ∷ [])

-- several more, in order
unfoldable pub seen : List ℕ → List ℕ → List ℕ
seen l [] = l
seen l (id ∷ k) = seen (added l id) k

without_append : (n : ℕ) (a b : List ℕ) → without n (a ++ b) ≡ without n a ++ without n b
unfolding without pick
without_append n [] b = refl
without_append n (k ∷ a) b = go (eqb k n) (without_append n a b)
  where
    go : (t : Bool) → without n (a ++ b) ≡ without n a ++ without n b → pick t (without n (a ++ b)) (k ∷ without n (a ++ b)) ≡ pick t (without n a) (k ∷ without n a) ++ without n b
    go true e = e
    go false e = ap (λ (r : List ℕ). k ∷ r) e

-- another number is among them as before
any_without : (id n : ℕ) (l : List ℕ) → eqb id n ≡ false → any (eqb id) (without n l) ≡ any (eqb id) l
unfolding without any pick
any_without id n [] h = refl
any_without id n (k ∷ l) h = go (eqb k n) refl (any_without id n l h)
  where
    go : (t : Bool) → eqb k n ≡ t → any (eqb id) (without n l) ≡ any (eqb id) l → any (eqb id) (pick t (without n l) (k ∷ without n l)) ≡ (eqb id k || any (eqb id) l)
    go true e r = r ∙ ap (λ (b : Bool). b || any (eqb id) l) (sym (ap (eqb id) (eqb-true k n e) ∙ h))
    go false e r = ap (λ (b : Bool). eqb id k || b) r

distinct_end : (l : List ℕ) (id : ℕ) → distinct (l ++ id ∷ []) ≡ added (distinct l) id
unfolding distinct added any pick without
distinct_end [] id = refl
distinct_end (n ∷ l) id = ap (λ (r : List ℕ). n ∷ without n r) (distinct_end l id) ∙ go (eqb id n) refl (distinct l)
  where
    same : (d : List ℕ) (c : Bool) → eqb id n ≡ true → without n (pick c d (d ++ id ∷ [])) ≡ without n d
    same d true e = refl
    same d false e = without_append n d (id ∷ []) ∙ (ap (λ (b : Bool). without n d ++ pick b [] (id ∷ [])) e ∙ append-nil (without n d))

    other : (d : List ℕ) (c : Bool) → eqb id n ≡ false → n ∷ without n (pick c d (d ++ id ∷ [])) ≡ pick c (n ∷ without n d) (n ∷ (without n d ++ id ∷ []))
    other d true e = refl
    other d false e = ap (λ (r : List ℕ). n ∷ r) (without_append n d (id ∷ []) ∙ ap (λ (b : Bool). without n d ++ pick b [] (id ∷ [])) e)

    go : (t : Bool) → eqb id n ≡ t → (d : List ℕ)
        → n ∷ without n (pick (any (eqb id) d) d (d ++ id ∷ [])) ≡ pick (eqb id n || any (eqb id) (without n d)) (n ∷ without n d) (n ∷ (without n d ++ id ∷ []))
    go true e d = ap (λ (r : List ℕ). n ∷ r) (same d (any (eqb id) d) e) ∙ ap (λ (b : Bool). pick (b || any (eqb id) (without n d)) (n ∷ without n d) (n ∷ (without n d ++ id ∷ []))) (sym e)
    go false e d =
        other d (any (eqb id) d) e
        ∙ (ap (λ (b : Bool). pick b (n ∷ without n d) (n ∷ (without n d ++ id ∷ []))) (sym (any_without id n d e))
        ∙ ap (λ (b : Bool). pick (b || any (eqb id) (without n d)) (n ∷ without n d) (n ∷ (without n d ++ id ∷ []))) (sym e))

distinct_more : (l k : List ℕ) → distinct (l ++ k) ≡ seen (distinct l) k
unfolding seen
distinct_more l [] = ap distinct (append-nil l)
distinct_more l (id ∷ k) =
    ap distinct (sym (append_assoc l (id ∷ []) k))
    ∙ (distinct_more (l ++ id ∷ []) k ∙ ap (λ (d : List ℕ). seen d k) (distinct_end l id))

pub distinct_is : (l : List ℕ) → distinct l ≡ seen [] l
unfolding distinct
distinct_is l = distinct_more [] l

-- those that are there stay in front
added_starts : (l : List ℕ) (id : ℕ) → (x : List ℕ) × (added l id ≡ l ++ x)
unfolding added pick
added_starts l id = go (any (eqb id) l)
  where
    go : (t : Bool) → (x : List ℕ) × (pick t l (l ++ id ∷ []) ≡ l ++ x)
    go true = ([], sym (append-nil l))
    go false = (id ∷ [], refl)

pub seen_starts : (l k : List ℕ) → (x : List ℕ) × (seen l k ≡ l ++ x)
unfolding seen
seen_starts l [] = ([], sym (append-nil l))
seen_starts l (id ∷ k) =
    let (x, e) = added_starts l id in
    let (y, f) = seen_starts (added l id) k in
    (x ++ y, f ∙ (ap (λ (d : List ℕ). d ++ y) e ∙ append_assoc l x y))

pub added_old : (l : List ℕ) (id : ℕ) → any (eqb id) l ≡ true → added l id ≡ l
unfolding added pick
added_old l id e = ap (λ (b : Bool). pick b l (l ++ id ∷ [])) e

pub added_new : (l : List ℕ) (id : ℕ) → any (eqb id) l ≡ false → added l id ≡ l ++ id ∷ []
unfolding added pick
added_new l id e = ap (λ (b : Bool). pick b l (l ++ id ∷ [])) e

any_end : (l : List ℕ) (id : ℕ) → any (eqb id) (l ++ id ∷ []) ≡ true
unfolding any
any_end [] id = ap (λ (b : Bool). b || false) (eq-eqb id id refl)
any_end (k ∷ l) id = go (eqb id k) (any_end l id)
  where
    go : (t : Bool) → any (eqb id) (l ++ id ∷ []) ≡ true → (t || any (eqb id) (l ++ id ∷ [])) ≡ true
    go true e = refl
    go false e = e

pub added_has : (l : List ℕ) (id : ℕ) → any (eqb id) (added l id) ≡ true
unfolding added pick
added_has l id = go (any (eqb id) l) refl
  where
    go : (t : Bool) → any (eqb id) l ≡ t → any (eqb id) (pick t l (l ++ id ∷ [])) ≡ true
    go true e = e
    go false e = any_end l id

-- ---- the place of an id among others; d if it isn't there

unfoldable pub place_in : ℕ → ℕ → List ℕ → ℕ
place_in d id l = first_or d (eqb id) l 0

module _ (p : ℕ → Bool) where
  -- counted from elsewhere, with others behind
  pub first_found : (l m : List ℕ) (b d e k : ℕ) → any p l ≡ true → first_or d p (l ++ m) (b + k) ≡ b + first_or e p l k
  unfolding any first_or pick
  first_found [] m b d e k h = absurd (subst T (sym h) tt)
  first_found (a ∷ l) m b d e k h = go (p a) h (first_found l m b d e (suc k))
    where
      go : (t : Bool) → (t || any p l) ≡ true → (any p l ≡ true → first_or d p (l ++ m) (b + suc k) ≡ b + first_or e p l (suc k))
          → pick t (b + k) (first_or d p (l ++ m) (suc (b + k))) ≡ b + pick t k (first_or e p l (suc k))
      go true g r = refl
      go false g r = let s : suc (b + k) ≡ b + suc k = omega arith in ap (first_or d p (l ++ m)) s ∙ r g

  first_below : (l : List ℕ) (e k : ℕ) → any p l ≡ true → first_or e p l k < k + length l
  unfolding any first_or pick
  first_below [] e k h = absurd (subst T (sym h) tt)
  first_below (a ∷ l) e k h = go (p a) h (first_below l e (suc k))
    where
      go : (t : Bool) → (t || any p l) ≡ true → (any p l ≡ true → first_or e p l (suc k) < suc k + length l) → pick t k (first_or e p l (suc k)) < k + suc (length l)
      go true g r = omega arith
      go false g r = let q : first_or e p l (suc k) < suc k + length l = r g in omega arith

  first_none : (l : List ℕ) (e k : ℕ) → any p l ≡ false → first_or e p l k ≡ e
  unfolding any first_or pick
  first_none [] e k h = refl
  first_none (a ∷ l) e k h = go (p a) h (first_none l e (suc k))
    where
      go : (t : Bool) → (t || any p l) ≡ false → (any p l ≡ false → first_or e p l (suc k) ≡ e) → pick t k (first_or e p l (suc k)) ≡ e
      go true g r = absurd (subst T g tt)
      go false g r = r g

-- ---- the first n numbers of a table

unfoldable pub firsts : List ℕ → ℕ → List ℕ
firsts ids n = listed (λ k. get_or ids k 0) 0 n

pub firsts_length : (ids : List ℕ) (n : ℕ) → length (firsts ids n) ≡ n
unfolding firsts
firsts_length ids n = listed_length (λ k. get_or ids k 0) 0 n

-- an id is among them if its place is
module _ (ids : List ℕ) (n id : ℕ) where
  pub among : place_in n id (firsts ids n) < n → any (eqb id) (firsts ids n) ≡ true
  unfolding place_in
  among h = go (any (eqb id) (firsts ids n)) refl
    where
      go : (t : Bool) → any (eqb id) (firsts ids n) ≡ t → t ≡ true
      go true e = refl
      go false e = let z : first_or n (eqb id) (firsts ids n) 0 ≡ n = first_none (eqb id) (firsts ids n) n 0 e in absurd (omega arith)

  pub not_among : n ≤ place_in n id (firsts ids n) → any (eqb id) (firsts ids n) ≡ false
  unfolding place_in
  not_among h = go (any (eqb id) (firsts ids n)) refl
    where
      go : (t : Bool) → any (eqb id) (firsts ids n) ≡ t → t ≡ false
      go false e = refl
      go true e = let z : first_or n (eqb id) (firsts ids n) 0 < 0 + length (firsts ids n) = first_below (eqb id) (firsts ids n) n 0 e in absurd (omega (arith, firsts_length ids n))

-- its place is at most n
pub place_most : (ids : List ℕ) (n id : ℕ) → place_in n id (firsts ids n) ≤ n
unfolding place_in
place_most ids n id = go (any (eqb id) (firsts ids n)) refl
  where
    go : (t : Bool) → any (eqb id) (firsts ids n) ≡ t → first_or n (eqb id) (firsts ids n) 0 ≤ n
    go true e = let z : first_or n (eqb id) (firsts ids n) 0 < 0 + length (firsts ids n) = first_below (eqb id) (firsts ids n) n 0 e in omega (arith, firsts_length ids n)
    go false e = let z : first_or n (eqb id) (firsts ids n) 0 ≡ n = first_none (eqb id) (firsts ids n) n 0 e in omega arith

-- ---- lists by number

module _ {A : Type 0} where
  pub listed_end : (f : ℕ → A) (i n : ℕ) → listed f i (suc n) ≡ listed f i n ++ f (i + n) ∷ []
  unfolding listed
  listed_end f i zero = let s : i ≡ i + 0 = omega arith in ap (λ (k : ℕ). f k ∷ []) s
  listed_end f i (suc n) = let s : suc i + n ≡ i + suc n = omega arith in ap (λ (r : List A). f i ∷ r) (listed_end f (suc i) n ∙ ap (λ (k : ℕ). listed f (suc i) n ++ f k ∷ []) s)

  pub listed_same : (f g : ℕ → A) (i n : ℕ) → ((k : ℕ) → k < i + n → f k ≡ g k) → listed f i n ≡ listed g i n
  unfolding listed
  listed_same f g i zero h = refl
  listed_same f g i (suc n) h = λ u. h i (omega arith) u ∷ listed_same f g (suc i) n (λ k q. h k (omega arith)) u

pub firsts_more : (ids : List ℕ) (n a : ℕ) → n < length ids → firsts (set ids n a) (n + 1) ≡ firsts ids n ++ a ∷ []
unfolding firsts
firsts_more ids n a h =
    let s : n + 1 ≡ suc n = omega arith in
    let z : 0 + n ≡ n = omega arith in
    ap (listed (λ k. get_or (set ids n a) k 0) 0) s
    ∙ (listed_end (λ k. get_or (set ids n a) k 0) 0 n
    ∙ (λ u. listed_same (λ k. get_or (set ids n a) k 0) (λ k. get_or ids k 0) 0 n (λ k q. get_or-set_other ids n k a 0 (λ e. absurd (omega arith))) u
    ++ (ap (λ (k : ℕ). get_or (set ids n a) k 0) z ∙ get_or-set_same ids n a 0 h) u ∷ []))

-- ---- the place of an id, as `position` finds it

pub firsts_take : (ids : List ℕ) (n : ℕ) → n ≤ length ids → firsts ids n ≡ take n ids
unfolding firsts listed
firsts_take ids zero h = refl
firsts_take ids (suc n) h =
    let z : 0 + n ≡ n = omega arith in
    listed_end (λ k. get_or ids k 0) 0 n
    ∙ ((λ i. firsts_take ids n (omega arith) i ++ get_or ids (z i) 0 ∷ []) ∙ sym (take-suc ids n 0 (omega arith)))

place_counted : (id : ℕ) (l : List ℕ) (i d : ℕ) → d ≡ i + length l → i + position_or_len (eqb id) l ≡ first_or d (eqb id) l i
unfolding first_or pick
place_counted id [] i d h = let e : i + 0 ≡ d = omega arith in e
place_counted id (a ∷ l) i d h = go (eqb id a) (place_counted id l (suc i) d (omega arith))
  where
    go : (t : Bool) → suc i + position_or_len (eqb id) l ≡ first_or d (eqb id) l (suc i)
        → i + cond (not t) (1 + position_or_len (eqb id) l) 0 ≡ pick t i (first_or d (eqb id) l (suc i))
    go true e = let z : i + 0 ≡ i = omega arith in z
    go false e = let z : i + (1 + position_or_len (eqb id) l) ≡ suc i + position_or_len (eqb id) l = omega arith in z ∙ e

position_most : (id : ℕ) (l : List ℕ) → position_or_len (eqb id) l ≤ length l
position_most id [] = omega arith
position_most id (a ∷ l) = go (eqb id a) (position_most id l)
  where
    go : (t : Bool) → position_or_len (eqb id) l ≤ length l → cond (not t) (1 + position_or_len (eqb id) l) 0 ≤ suc (length l)
    go true h = omega arith
    go false h = omega arith

pub place_found : (id : ℕ) (l : List ℕ) (n : ℕ) {p : Option ℕ} → length l ≡ n → p ≡ cond (ltb (position_or_len (eqb id) l) (length l)) (Some (position_or_len (eqb id) l)) None
    → unwrap_or p n ≡ place_in n id l
unfolding place_in
place_found id l n h e =
    ap (λ (o : Option ℕ). unwrap_or o n) e
    ∙ (go (ltb (position_or_len (eqb id) l) (length l)) refl ∙ ((let z : position_or_len (eqb id) l ≡ 0 + position_or_len (eqb id) l = omega arith in z) ∙ place_counted id l 0 n (omega (arith, h))))
  where
    go : (t : Bool) → ltb (position_or_len (eqb id) l) (length l) ≡ t → unwrap_or (cond t (Some (position_or_len (eqb id) l)) None) n ≡ position_or_len (eqb id) l
    go true q = refl
    go false q = let m : n ≡ position_or_len (eqb id) l = omega (arith, h, position_most id l, ltb-false (position_or_len (eqb id) l) (length l) q) in m
