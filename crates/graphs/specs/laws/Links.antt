-- Where the correspondences of a pair stand in its list. Assumes nothing.
use Rattle.std.specs.Prelude.{◌≡◌, refl, Bool, true, false, cond, ◌&&◌, ◌⊎◌, eqb, ℤ, get_or, take, drop}
use Rattle.std.proofs.Common.{sym, ◌∙◌, inl, inr, ⊎_elim, le_of_suc-le-suc, not-suc-le-zero, arith, length-append, take-append-drop, eqb-true, eq-eqb, ne_eqb}
use Rattle.std.proofs.Math.Path.{ap}
use mathlib.Core.List.{List, [], ◌∷◌, ◌++◌, append_assoc}
use Prim.Native.Nat.{ℕ, zero, suc, ◌+◌, ◌≤◌, ◌<◌, zero-le}
use Rattle.std.proofs.Math.Decide.{dec_lt}
use Rattle.std.proofs.Math.ListN.{length}
use Rattle.whole.specs.Pairs.{Pair, xs_of, ys_of, nth}
use Rattle.graphs.specs.Links.{Link, links_of, list_of}

-- ---- the correspondences of four lists
abbrev pub link_at : List ℕ → List ℤ → List ℕ → List ℤ → ℕ → Link
link_at fs xs bs ys k = record { a = get_or fs k 0; x = nth xs k; b = get_or bs k 0; y = nth ys k }

-- they go as far as all four lists
pub links_most : (fs : List ℕ) (xs : List ℤ) (bs : List ℕ) (ys : List ℤ)
    → (length (links_of fs xs bs ys) ≤ length fs) × (length (links_of fs xs bs ys) ≤ length xs) × (length (links_of fs xs bs ys) ≤ length bs) × (length (links_of fs xs bs ys) ≤ length ys)
unfolding links_of
links_most [] xs bs ys = (zero-le, zero-le, zero-le, zero-le)
links_most (a ∷ fs) [] bs ys = (zero-le, zero-le, zero-le, zero-le)
links_most (a ∷ fs) (x ∷ xs) [] ys = (zero-le, zero-le, zero-le, zero-le)
links_most (a ∷ fs) (x ∷ xs) (b ∷ bs) [] = (zero-le, zero-le, zero-le, zero-le)
links_most (a ∷ fs) (x ∷ xs) (b ∷ bs) (y ∷ ys) =
    let h = links_most fs xs bs ys in (omega (arith, h.0), omega (arith, h.1), omega (arith, h.2), omega (arith, h.3))

pub links_least : (fs : List ℕ) (xs : List ℤ) (bs : List ℕ) (ys : List ℤ) (n : ℕ) → n ≤ length fs → n ≤ length xs → n ≤ length bs → n ≤ length ys
    → n ≤ length (links_of fs xs bs ys)
unfolding links_of
links_least fs xs bs ys zero h i j k = zero-le
links_least [] xs bs ys (suc n) h i j k = absurd (not-suc-le-zero h)
links_least (a ∷ fs) [] bs ys (suc n) h i j k = absurd (not-suc-le-zero i)
links_least (a ∷ fs) (x ∷ xs) [] ys (suc n) h i j k = absurd (not-suc-le-zero j)
links_least (a ∷ fs) (x ∷ xs) (b ∷ bs) [] (suc n) h i j k = absurd (not-suc-le-zero k)
links_least (a ∷ fs) (x ∷ xs) (b ∷ bs) (y ∷ ys) (suc n) h i j k =
    omega (arith, links_least fs xs bs ys n (omega arith) (omega arith) (omega arith) (omega arith))

-- the first k + 1 are the first k and the one at k
pub take_links : (fs : List ℕ) (xs : List ℤ) (bs : List ℕ) (ys : List ℤ) (k : ℕ) → k < length (links_of fs xs bs ys)
    → take (suc k) (links_of fs xs bs ys) ≡ take k (links_of fs xs bs ys) ++ (link_at fs xs bs ys k ∷ [])
unfolding links_of
take_links [] xs bs ys k h = absurd (not-suc-le-zero h)
take_links (a ∷ fs) [] bs ys k h = absurd (not-suc-le-zero h)
take_links (a ∷ fs) (x ∷ xs) [] ys k h = absurd (not-suc-le-zero h)
take_links (a ∷ fs) (x ∷ xs) (b ∷ bs) [] k h = absurd (not-suc-le-zero h)
take_links (a ∷ fs) (x ∷ xs) (b ∷ bs) (y ∷ ys) zero h = refl
take_links (a ∷ fs) (x ∷ xs) (b ∷ bs) (y ∷ ys) (suc k) h =
    ap (λ (l : List Link). record { a = a; x = x; b = b; y = y } ∷ l) (take_links fs xs bs ys k (le_of_suc-le-suc h))

-- ---- the list of a pair
-- one correspondence, as far as it is one of c and d
abbrev pub seen : Link → ℕ → ℕ → List Pair
seen l c d =
    cond (eqb l.a c && eqb l.b d) (record { x = l.x; y = l.y } ∷ [])
    (cond (eqb l.a d && eqb l.b c) (record { x = l.y; y = l.x } ∷ []) [])

pub list_cons : (l : Link) (ls : List Link) (c d : ℕ) → list_of (l ∷ ls) c d ≡ seen l c d ++ list_of ls c d
unfolding list_of
list_cons l ls c d =
    elim (eqb l.a c && eqb l.b d) as (λ p. cond p (record { x = l.x; y = l.y } ∷ list_of ls c d) (cond (eqb l.a d && eqb l.b c) (record { x = l.y; y = l.x } ∷ list_of ls c d) (list_of ls c d)) ≡ cond p (record { x = l.x; y = l.y } ∷ []) (cond (eqb l.a d && eqb l.b c) (record { x = l.y; y = l.x } ∷ []) []) ++ list_of ls c d) [
      | true ↦ refl
      | false ↦ elim (eqb l.a d && eqb l.b c) as (λ q. cond q (record { x = l.y; y = l.x } ∷ list_of ls c d) (list_of ls c d) ≡ cond q (record { x = l.y; y = l.x } ∷ []) [] ++ list_of ls c d) [ true ↦ refl | false ↦ refl ]
    ]

pub list_append : (ls ms : List Link) (c d : ℕ) → list_of (ls ++ ms) c d ≡ list_of ls c d ++ list_of ms c d
unfolding list_of
list_append [] ms c d = refl
list_append (l ∷ ls) ms c d =
    list_cons l (ls ++ ms) c d ∙ ap (λ (p : List Pair). seen l c d ++ p) (list_append ls ms c d) ∙ sym (append_assoc (seen l c d) (list_of ls c d) (list_of ms c d))
    ∙ ap (λ (p : List Pair). p ++ list_of ms c d) (sym (list_cons l ls c d))

-- the same said of one more at the end
append_none : (p : List Pair) → p ++ [] ≡ p
append_none [] = refl
append_none (x ∷ p) = ap (λ (q : List Pair). x ∷ q) (append_none p)

pub list_one : (l : Link) (c d : ℕ) → list_of (l ∷ []) c d ≡ seen l c d
unfolding list_of
list_one l c d = list_cons l [] c d ∙ append_none (seen l c d)

pub list_more : (ls : List Link) (l : Link) (c d : ℕ) → list_of (ls ++ (l ∷ [])) c d ≡ list_of ls c d ++ seen l c d
list_more ls l c d = list_append ls (l ∷ []) c d ∙ ap (λ (p : List Pair). list_of ls c d ++ p) (list_one l c d)

-- seen forwards; seen backwards, where its two clocks differ
pub seen_forwards : (l : Link) (c d : ℕ) → l.a ≡ c → l.b ≡ d → seen l c d ≡ record { x = l.x; y = l.y } ∷ []
seen_forwards l c d p q = rw (eq-eqb l.a c p, eq-eqb l.b d q)

pub seen_backwards : (l : Link) (c d : ℕ) → l.b ≡ c → l.a ≡ d → (l.a ≡ l.b → ⊥) → seen l c d ≡ record { x = l.y; y = l.x } ∷ []
seen_backwards l c d p q n = rw (ne_eqb l.a c (λ e. n (e ∙ sym p)), eq-eqb l.a d q, eq-eqb l.b c p)

-- which of the three it is
pub data Sight (l : Link) (c d : ℕ) : Type 0 where
  forwards : l.a ≡ c → l.b ≡ d → Sight l c d
  backwards : l.b ≡ c → l.a ≡ d → (l.a ≡ l.b → ⊥) → Sight l c d
  unseen : seen l c d ≡ [] → Sight l c d

and_cases : (p q : Bool) → ((p && q) ≡ false) ⊎ ((p ≡ true) × (q ≡ true))
and_cases true true = inr (refl, refl)
and_cases true false = inl refl
and_cases false q = inl refl

pub sight : (l : Link) (c d : ℕ) → Sight l c d
sight l c d = ⊎_elim other (λ h. forwards (eqb-true l.a c h.0) (eqb-true l.b d h.1)) (and_cases (eqb l.a c) (eqb l.b d))
  where
    clash : {X : Type 0} → true ≡ false → X
    clash e = let z : ◌≡◌ {A = ℕ} 0 1 = cc in absurd (omega arith)

    backward : (eqb l.a c && eqb l.b d) ≡ false → l.a ≡ d → l.b ≡ c → Sight l c d
    backward n p q = backwards q p (λ e. clash (sym (rw (eq-eqb l.a c (e ∙ q), eq-eqb l.b d (sym e ∙ p)) refl) ∙ n))

    neither : (eqb l.a c && eqb l.b d) ≡ false → (eqb l.a d && eqb l.b c) ≡ false → Sight l c d
    neither n m = unseen (rw (n, m) refl)

    other : (eqb l.a c && eqb l.b d) ≡ false → Sight l c d
    other n = ⊎_elim (neither n) (λ h. backward n (eqb-true l.a d h.0) (eqb-true l.b c h.1)) (and_cases (eqb l.a d) (eqb l.b c))

-- ---- where correspondence k stands in the list of c and d: after those before it
pub xs_append : (p q : List Pair) → xs_of (p ++ q) ≡ xs_of p ++ xs_of q
unfolding xs_of
xs_append [] q = refl
xs_append (x ∷ p) q = ap (λ (r : List ℤ). x.x ∷ r) (xs_append p q)

pub ys_append : (p q : List Pair) → ys_of (p ++ q) ≡ ys_of p ++ ys_of q
unfolding ys_of
ys_append [] q = refl
ys_append (x ∷ p) q = ap (λ (r : List ℤ). x.y ∷ r) (ys_append p q)

nth_after : (ps qs : List Pair) (p : Pair) → (nth (xs_of (ps ++ (p ∷ qs))) (length ps) ≡ p.x) × (nth (ys_of (ps ++ (p ∷ qs))) (length ps) ≡ p.y)
unfolding xs_of ys_of
nth_after [] qs p = (refl, refl)
nth_after (q ∷ ps) qs p = nth_after ps qs p

module _ (fs : List ℕ) (xs : List ℤ) (bs : List ℕ) (ys : List ℤ) (c d : ℕ) where
  -- how many correspondences of c and d stand before correspondence k
  abbrev pub before : ℕ → ℕ
  before k = length (list_of (take k (links_of fs xs bs ys)) c d)

  before_more : (k : ℕ) → k < length (links_of fs xs bs ys) → before (suc k) ≡ before k + length (seen (link_at fs xs bs ys k) c d)
  before_more k h =
      ap (λ (l : List Link). length (list_of l c d)) (take_links fs xs bs ys k h)
      ∙ ap length (list_more (take k (links_of fs xs bs ys)) (link_at fs xs bs ys k) c d)
      ∙ length-append (list_of (take k (links_of fs xs bs ys)) c d) (seen (link_at fs xs bs ys k) c d)

  pub before_mono : (m k : ℕ) → k + m ≤ length (links_of fs xs bs ys) → before k ≤ before (k + m)
  before_mono zero k h = let e : k ≡ k + 0 = omega arith in rw (← e) (omega arith)
  before_mono (suc m) k h =
      let e : k + suc m ≡ suc (k + m) = omega arith in
      rw e (omega (arith, before_more (k + m) (omega arith), before_mono m k (omega arith)))

  -- the list is that of those before k, of k, and of those after
  pub around : (k : ℕ) → k < length (links_of fs xs bs ys)
      → list_of (links_of fs xs bs ys) c d ≡ list_of (take k (links_of fs xs bs ys)) c d ++ (seen (link_at fs xs bs ys k) c d ++ list_of (drop (suc k) (links_of fs xs bs ys)) c d)
  around k h =
      ap (λ (l : List Link). list_of l c d) (sym (take-append-drop (suc k) (links_of fs xs bs ys)))
      ∙ list_append (take (suc k) (links_of fs xs bs ys)) (drop (suc k) (links_of fs xs bs ys)) c d
      ∙ ap (λ (l : List Link). list_of l c d ++ list_of (drop (suc k) (links_of fs xs bs ys)) c d) (take_links fs xs bs ys k h)
      ∙ ap (λ (p : List Pair). p ++ list_of (drop (suc k) (links_of fs xs bs ys)) c d) (list_more (take k (links_of fs xs bs ys)) (link_at fs xs bs ys k) c d)
      ∙ append_assoc (list_of (take k (links_of fs xs bs ys)) c d) (seen (link_at fs xs bs ys k) c d) (list_of (drop (suc k) (links_of fs xs bs ys)) c d)

  pub stands : (k : ℕ) (p : Pair) → k < length (links_of fs xs bs ys) → seen (link_at fs xs bs ys k) c d ≡ p ∷ []
      → (before k < length (list_of (links_of fs xs bs ys) c d)) × (nth (xs_of (list_of (links_of fs xs bs ys) c d)) (before k) ≡ p.x) × (nth (ys_of (list_of (links_of fs xs bs ys) c d)) (before k) ≡ p.y)
  stands k p h e =
      let qs : List Pair = list_of (drop (suc k) (links_of fs xs bs ys)) c d in
      let w : list_of (links_of fs xs bs ys) c d ≡ list_of (take k (links_of fs xs bs ys)) c d ++ (p ∷ qs) = around k h ∙ ap (λ (r : List Pair). list_of (take k (links_of fs xs bs ys)) c d ++ (r ++ qs)) e in
      let n = nth_after (list_of (take k (links_of fs xs bs ys)) c d) qs p in (
        omega (arith, ap length w ∙ length-append (list_of (take k (links_of fs xs bs ys)) c d) (p ∷ qs)),
        ap (λ (r : List Pair). nth (xs_of r) (before k)) w ∙ n.0,
        ap (λ (r : List Pair). nth (ys_of r) (before k)) w ∙ n.1,
      )

  -- and whatever stands in the list is some correspondence
  pub found : (n j : ℕ) → n ≤ length (links_of fs xs bs ys) → j < before n → (k : ℕ) × (k < n) × (before k ≡ j) × (seen (link_at fs xs bs ys k) c d ≡ [] → ⊥)
  unfolding list_of
  found zero j h l = absurd (not-suc-le-zero l)
  found (suc n) j h l = go (dec_lt j (before n)) (found n j (omega arith))
    where
      some : seen (link_at fs xs bs ys n) c d ≡ [] → j < before n
      some e = omega (arith, before_more n h, ap length e)

      at_most : length (seen (link_at fs xs bs ys n) c d) ≤ 1
      at_most = small (eqb (get_or fs n 0) c && eqb (get_or bs n 0) d) (eqb (get_or fs n 0) d && eqb (get_or bs n 0) c)
        where
          small : (p q : Bool) → length {A = Pair} (cond p (record { x = nth xs n; y = nth ys n } ∷ []) (cond q (record { x = nth ys n; y = nth xs n } ∷ []) [])) ≤ 1
          small true q = omega arith
          small false true = omega arith
          small false false = omega arith

      go : Dec (j < before n) → (j < before n → (k : ℕ) × (k < n) × (before k ≡ j) × (seen (link_at fs xs bs ys k) c d ≡ [] → ⊥))
          → (k : ℕ) × (k < suc n) × (before k ≡ j) × (seen (link_at fs xs bs ys k) c d ≡ [] → ⊥)
      go (yes m) ih = let (k, q, e, s) = ih m in (k, omega arith, e, s)
      go (no m) ih = (n, omega arith, omega (arith, before_more n h, at_most), λ e. m (some e))
