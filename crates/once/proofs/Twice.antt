-- 15: an entry has an id twice. Ids that are in range are compared as numbers of a table. Assumes nothing.
use mathlib.Core.Path.{◌≡◌, refl, sym, ap, subst, ◌∙◌}
use mathlib.Core.Bool.{Bool, true, false, ◌||◌, true≢false, or-true, or-false}
use mathlib.Core.List.{List, [], ◌∷◌, ◌++◌, append-nil, append_assoc}
use Prim.Native.Nat.{ℕ, zero, suc, ◌+◌, ◌-◌, ◌≤◌, ◌<◌}
use native.Mathlib.Omega.{arith}
use native.Mathlib.Decide.{ℕ_discrete, dec_lt}
use lib.Dec.{eqb}
use lib.ListN.{length, get_or, take, drop, set, length-set, drop_of_length-le}
use lib.Seq.{drop-cons, get_or-take, length-take-le, take-suc-set}
use lib.Signed.{lt_z, mag}
use lib.IntN.{ℤ, pos, negsuc}
use mir.Syntax.{w64}
use mir.Val.{of_z, to_z, SFits}
use mir.Facts.{to_z-of_z}
use borrow.Author.Tests.{eq-eqb, ne_eqb, ltb-false}
use Rattle.text.specs.Reading.{Text}
use Rattle.values.specs.Integer.{integer_at}
use Rattle.values.specs.declared.Integer.{Integer}
use Rattle.values.specs.declared.Integer.TheVariants.{In, Below, Above, None}
use Rattle.manifest.specs.View.{Cell}
use Rattle.manifest.specs.Rows.{ids, the, holds, any, flat}
use Rattle.manifest.specs.Rules.{no_id, same_id, twice_in, refusal_14_id_out_of_range}
use Rattle.manifest.proofs.laws.Bools.{halves}
use Rattle.index.specs.Index.{item_of, items_in, id_cell, entry_at}
use Rattle.index.proofs.laws.Paths.{few_items}
use Rattle.once.specs.Once.{twice_rule}
use Rattle.once.specs.laws.Parts.{in_entry, ids_from, id_of, ids_in, Numbered}
use Rattle.once.proofs.Ids.{OutOf64, below, above, id_none, id_in, id_out, id_wrong}
use Rattle.once.proofs.OutOfRange.{ids_are, ids_past, ids_here, ids_none, ids_found, ids_on, range_start}

-- ---- an id as a number

module _ (z : ℤ) (r : no_id z ≡ false) where
  pub id_bits : SFits w64 z → to_z w64 (of_z w64 z) ≡ pos (mag z)
  id_bits f = to_z-of_z f ∙ go z r
    where
      go : (y : ℤ) → no_id y ≡ false → y ≡ pos (mag y)
      go (pos n) e = refl
      go (negsuc n) e = absurd (true≢false e)

  pub id_small : mag z ≤ 4294967295
  id_small = go z r
    where
      go : (y : ℤ) → no_id y ≡ false → mag y ≤ 4294967295
      go (pos n) e = ltb-false 4294967295 n (halves (lt_z (pos n) (pos 0)) _ e).1
      go (negsuc n) e = absurd (true≢false e)

  pub id_numbered : id_of (mag z + 1) ≡ z ∷ []
  unfolding id_of
  id_numbered = go z r
    where
      go : (y : ℤ) → no_id y ≡ false → id_of (mag y + 1) ≡ y ∷ []
      go (pos n) e = let q : n + 1 ≡ suc n = omega arith in ap id_of q
      go (negsuc n) e = absurd (true≢false e)

-- an integer as a number: out of range, or one more than it is
module _ (z : ℤ) where
  out_number : no_id z ≡ true → Numbered (no_id z) (z ∷ []) 4294967297
  out_number e = record { ranged = λ h. absurd (omega arith); past = λ _. e }

  -- the two tests, of its 64 bits
  module _ (f : SFits w64 z) where
    same_low : lt_z z (pos 0) ≡ lt_z (to_z w64 (of_z w64 z)) (pos 0)
    same_low = ap (λ (y : ℤ). lt_z y (pos 0)) (sym (to_z-of_z f))

    same_high : lt_z (pos 4294967295) z ≡ lt_z (pos 4294967295) (to_z w64 (of_z w64 z))
    same_high = ap (lt_z (pos 4294967295)) (sym (to_z-of_z f))

    pub low_number : lt_z (to_z w64 (of_z w64 z)) (pos 0) ≡ true → Numbered (no_id z) (z ∷ []) 4294967297
    low_number e = out_number (ap (λ (b : Bool). b || lt_z (pos 4294967295) z) (same_low ∙ e))

    module _ (l : lt_z (to_z w64 (of_z w64 z)) (pos 0) ≡ false) where
      pub high_number : lt_z (pos 4294967295) (to_z w64 (of_z w64 z)) ≡ true → Numbered (no_id z) (z ∷ []) 4294967297
      high_number e = out_number (ap (λ (b : Bool). b || lt_z (pos 4294967295) z) (same_low ∙ l) ∙ (same_high ∙ e))

      pub is_ranged : lt_z (pos 4294967295) (to_z w64 (of_z w64 z)) ≡ false → no_id z ≡ false
      is_ranged e = ap (λ (b : Bool). b || lt_z (pos 4294967295) z) (same_low ∙ l) ∙ (same_high ∙ e)

  pub ranged_number : no_id z ≡ false → Numbered (no_id z) (z ∷ []) (mag z + 1)
  ranged_number r = record { ranged = λ _. (r, id_numbered z r); past = λ h. absurd (omega (arith, id_small z r)) }

-- the id at p as a number
module _ (s : Text) (p : ℕ) where
  by_cell : {c : Cell ℤ} {r : ℕ} → id_cell s p ≡ c → Numbered (holds no_id c) (the c) r → Numbered (holds no_id (id_cell s p)) (the (id_cell s p)) r
  by_cell {c} {r} e h = subst (λ (d : Cell ℤ). Numbered (holds no_id d) (the d) r) (sym e) h

  no_number : Numbered false [] 0
  unfolding id_of
  no_number = record { ranged = λ _. (refl, refl); past = λ h. absurd (omega arith) }

  pub number_absent : p ≡ 0 → Numbered (holds no_id (id_cell s p)) (the (id_cell s p)) 0
  unfolding holds the
  number_absent h = by_cell (id_none s p h) no_number

  module _ (h : p ≡ 0 → ⊥) {q : Integer} (eq : q ≡ integer_at s p) where
    pub number_in : {z : ℤ} {r : ℕ} → q ≡ In z → SFits w64 z → Numbered (no_id (to_z w64 (of_z w64 z))) (to_z w64 (of_z w64 z) ∷ []) r → Numbered (holds no_id (id_cell s p)) (the (id_cell s p)) r
    unfolding holds the
    number_in {z} {r} e f g = by_cell (id_in s p h eq e) (subst (λ (y : ℤ). Numbered (no_id y) (y ∷ []) r) (to_z-of_z f) g)

    number_out : {x : Integer} → OutOf64 x → q ≡ x → Numbered (holds no_id (id_cell s p)) (the (id_cell s p)) 4294967297
    unfolding holds the
    number_out o e = let (z, f, g) = id_out s p h eq o e in by_cell f (out_number z g)

    pub number_below : q ≡ Below → Numbered (holds no_id (id_cell s p)) (the (id_cell s p)) 4294967297
    number_below e = number_out below e

    pub number_above : q ≡ Above → Numbered (holds no_id (id_cell s p)) (the (id_cell s p)) 4294967297
    number_above e = number_out above e

    pub number_none : q ≡ None → Numbered (holds no_id (id_cell s p)) (the (id_cell s p)) 0
    unfolding holds the
    number_none e = by_cell (id_wrong s p h eq e) no_number

-- ---- the ids of entry i, put into a table

flat_more : (l : List ℕ) (v : ℕ) → flat id_of (l ++ v ∷ []) ≡ flat id_of l ++ id_of v
unfolding flat
flat_more [] v = append-nil (id_of v)
flat_more (a ∷ l) v = ap (λ (k : List ℤ). id_of a ++ k) (flat_more l v) ∙ sym (append_assoc (id_of a) (flat id_of l) (id_of v))

-- the ids of the first k items are in the table, and those that are left decide whether one is out of range
pub record Reading (s : Text) (ix : List ℕ) (i k : ℕ) (table : List ℕ) : Type 0 where
  pub long : length table ≡ 32
  pub so : ids (entry_at s ix i) ≡ flat id_of (take k table) ++ ids_from s ix i k
  pub decides : in_entry refusal_14_id_out_of_range s ix i ≡ any no_id (ids_from s ix i k)

module _ (s : Text) (ix : List ℕ) (i : ℕ) where
  pub reading_start : {table : List ℕ} → length table ≡ 32 → Reading s ix i 0 table
  unfolding flat
  reading_start l = record { long = l; so = ids_are s ix i; decides = range_start s ix i }

  module _ {n : ℕ} (en : n ≡ items_in ix i) where
    pub items_few : n ≤ 32
    items_few = omega (arith, few_items ix i)

    module _ {k : ℕ} {table : List ℕ} (inv : Reading s ix i k table) where
      pub reading_ranged : n ≤ k → false ≡ in_entry refusal_14_id_out_of_range s ix i
      reading_ranged h = ids_none no_id s ix i en inv.decides h

      pub reading_done : k ≤ n → n ≤ k → ids (entry_at s ix i) ≡ ids_in table (items_in ix i) 0
      unfolding ids_in
      reading_done g h =
          let q : k ≡ n = omega arith in
          inv.so
          ∙ ap (λ (l : List ℤ). flat id_of (take k table) ++ l) (ids_past s ix i k (omega arith))
          ∙ append-nil (flat id_of (take k table))
          ∙ ap (λ (j : ℕ). flat id_of (take j table)) (q ∙ en)

      module _ (h : k < n) {q : ℕ} (eq : q ≡ item_of ix i k 0) where
        pub reading_out : {v : ℕ} → Numbered (holds no_id (id_cell s q)) (the (id_cell s q)) v → 4294967296 < v → true ≡ in_entry refusal_14_id_out_of_range s ix i
        reading_out e g = ids_found no_id s ix i en inv.decides h eq refl (e.past g)

        pub reading_on : (v : ℕ) → Numbered (holds no_id (id_cell s q)) (the (id_cell s q)) v → v ≤ 4294967296 → Reading s ix i (k + 1) (set table k v)
        reading_on v e g =
            let w : suc k ≡ k + 1 = omega arith in
            let m : k < length table = omega (arith, inv.long, few_items ix i) in
            let new : take (k + 1) (set table k v) ≡ take k table ++ v ∷ [] = ap (λ (j : ℕ). take j (set table k v)) (sym w) ∙ take-suc-set table k v m in
            let here : the (id_cell s (item_of ix i k 0)) ≡ id_of v = ap (λ (x : ℕ). the (id_cell s x)) (sym eq) ∙ sym (e.ranged g).1 in
            record {
              long = simp length-set inv.long;
              so =
                  inv.so
                  ∙ ap (λ (l : List ℤ). flat id_of (take k table) ++ l) (ids_here s ix i k (omega arith) ∙ (λ t. here t ++ ids_from s ix i (w t)))
                  ∙ sym (append_assoc (flat id_of (take k table)) (id_of v) (ids_from s ix i (k + 1)))
                  ∙ ap (λ (l : List ℤ). l ++ ids_from s ix i (k + 1)) (sym (flat_more (take k table) v) ∙ ap (flat id_of) (sym new));
              decides = ids_on no_id s ix i en inv.decides h eq refl (e.ranged g).0;
            }

-- ---- the numbers of a table

-- two numbers stand for one id if they are the same
one_id : (m u : ℕ) → any (same_id (pos m)) (id_of u) ≡ eqb u (suc m)
unfolding any same_id id_of
one_id m zero = sym (ne_eqb 0 (suc m) (λ q. omega arith))
one_id m (suc n) = or-false (eqb m n) ∙ go (ℕ_discrete m n)
  where
    go : Dec (m ≡ n) → eqb m n ≡ eqb (suc n) (suc m)
    go (yes e) = eq-eqb m n e ∙ sym (eq-eqb (suc n) (suc m) (ap suc (sym e)))
    go (no e) = ne_eqb m n e ∙ sym (ne_eqb (suc n) (suc m) (λ q. e (omega arith)))

or_assoc : (a b c : Bool) → ((a || b) || c) ≡ (a || (b || c))
or_assoc true b c = refl
or_assoc false b c = refl

any_append : (p : ℤ → Bool) (l k : List ℤ) → any p (l ++ k) ≡ (any p l || any p k)
unfolding any
any_append p [] k = refl
any_append p (a ∷ l) k = ap (λ (b : Bool). p a || b) (any_append p l k) ∙ sym (or_assoc (p a) (any p l) (any p k))

numbers_of : (m : ℕ) (l : List ℕ) → any (same_id (pos m)) (flat id_of l) ≡ any (λ u. eqb u (suc m)) l
unfolding any flat
numbers_of m [] = refl
numbers_of m (u ∷ l) = any_append (same_id (pos m)) (id_of u) (flat id_of l) ∙ (λ t. one_id m u t || numbers_of m l t)

-- a number that stands for an id, and an id before others
among_some : (v : ℕ) (l : List ℕ) → (v ≡ 0 → ⊥) → any (λ z. any (same_id z) (flat id_of l)) (id_of v) ≡ any (λ u. eqb u v) l
unfolding any id_of
among_some zero l h = absurd (h refl)
among_some (suc m) l h = or-false _ ∙ numbers_of m l

twice_more : (v : ℕ) (l : List ℤ) → twice_in (id_of v ++ l) ≡ (any (λ z. any (same_id z) l) (id_of v) || twice_in l)
unfolding twice_in any id_of
twice_more zero l = refl
twice_more (suc m) l = ap (λ (b : Bool). b || twice_in l) (sym (or-false (any (same_id (pos m)) l)))

-- each of the numbers from place 1 up to place k is greater than the one before it
abbrev pub RisesTo : List ℕ → ℕ → Type 0
RisesTo table k = (j : ℕ) → j + 1 < k → get_or table j 0 < get_or table (j + 1) 0

module _ (table : List ℕ) where
  pub rises_none : RisesTo table 1
  rises_none j h = absurd (omega arith)

  pub rises_more : {k : ℕ} → 1 ≤ k → RisesTo table k → get_or table (k - 1) 0 < get_or table k 0 → RisesTo table (k + 1)
  rises_more {k} g r h j l = go (dec_lt (j + 1) k)
    where
      go : Dec (j + 1 < k) → get_or table j 0 < get_or table (j + 1) 0
      go (yes m) = r j m
      go (no m) =
          let p : k - 1 ≡ j = omega arith in
          let q : k ≡ j + 1 = omega arith in
          subst (λ (x : ℕ). get_or table j 0 < get_or table x 0) q (subst (λ (x : ℕ). get_or table x 0 < get_or table k 0) p h)

module _ (table : List ℕ) {n : ℕ} (long : length table ≡ 32) (few : n ≤ 32) where
  its : (k : ℕ) → k < n → drop k (take n table) ≡ get_or table k 0 ∷ drop (suc k) (take n table)
  its k h = drop-cons (take n table) k 0 (omega (arith, length-take-le n table (omega arith))) ∙ ap (λ (v : ℕ). v ∷ drop (suc k) (take n table)) (get_or-take n table k 0 h)

  no_more : (k : ℕ) → n ≤ k → drop k (take n table) ≡ []
  no_more k h = let e : length (take n table) ≤ k = omega (arith, length-take-le n table (omega arith)) in drop_of_length-le (take n table) e

  -- twice, from place k on
  module _ {k : ℕ} (inv : twice_in (ids_in table n 0) ≡ twice_in (ids_in table n k)) where
    pub twice_past : n ≤ k → false ≡ twice_in (ids_in table n 0)
    unfolding ids_in twice_in flat
    twice_past h = sym (inv ∙ ap (λ (l : List ℕ). twice_in (flat id_of l)) (no_more k h))

    module _ (h : k < n) {b : Bool} (eb : b ≡ any (λ z. any (same_id z) (ids_in table n (k + 1))) (id_of (get_or table k 0))) where
      turned : twice_in (ids_in table n 0) ≡ (b || twice_in (ids_in table n (k + 1)))
      unfolding ids_in flat
      turned =
          let w : suc k ≡ k + 1 = omega arith in
          inv ∙ ap (λ (l : List ℕ). twice_in (flat id_of l)) (its k h)
          ∙ ap (λ (j : ℕ). twice_in (id_of (get_or table k 0) ++ flat id_of (drop j (take n table)))) w
          ∙ twice_more (get_or table k 0) (flat id_of (drop (k + 1) (take n table)))
          ∙ ap (λ (c : Bool). c || twice_in (flat id_of (drop (k + 1) (take n table)))) (sym eb)

      pub twice_found : b ≡ true → true ≡ twice_in (ids_in table n 0)
      twice_found e = sym (turned ∙ ap (λ (c : Bool). c || twice_in (ids_in table n (k + 1))) e)

      pub twice_on : b ≡ false → twice_in (ids_in table n 0) ≡ twice_in (ids_in table n (k + 1))
      twice_on e = turned ∙ ap (λ (c : Bool). c || twice_in (ids_in table n (k + 1))) e

  -- the number v among those from place k on
  module _ (v : ℕ) where
    -- it is one of them
    abbrev pub number_from : ℕ → Bool
    number_from k = any (λ u. eqb u v) (drop k (take n table))

    pub among_none : (from : ℕ) → v ≡ 0 → false ≡ any (λ z. any (same_id z) (ids_in table n from)) (id_of v)
    unfolding any id_of
    among_none from h = sym (ap (λ (u : ℕ). any (λ z. any (same_id z) (ids_in table n from)) (id_of u)) h)

    pub among_start : (from : ℕ) → (v ≡ 0 → ⊥) → any (λ z. any (same_id z) (ids_in table n from)) (id_of v) ≡ number_from from
    unfolding ids_in
    among_start from h = among_some v (drop from (take n table)) h

    module _ {k : ℕ} {t : Bool} (inv : t ≡ number_from k) where
      pub among_past : n ≤ k → false ≡ t
      unfolding any
      among_past h = sym (inv ∙ ap (any (λ u. eqb u v)) (no_more k h))

      pub among_found : k < n → get_or table k 0 ≡ v → true ≡ t
      unfolding any
      among_found h e = sym (inv ∙ ap (any (λ u. eqb u v)) (its k h) ∙ ap (λ (b : Bool). b || number_from (suc k)) (eq-eqb (get_or table k 0) v e))

      pub among_on : k < n → (get_or table k 0 ≡ v → ⊥) → t ≡ number_from (k + 1)
      unfolding any
      among_on h e =
          let w : suc k ≡ k + 1 = omega arith in
          inv ∙ ap (any (λ u. eqb u v)) (its k h)
          ∙ ap (λ (b : Bool). b || number_from (suc k)) (ne_eqb (get_or table k 0) v e)
          ∙ ap number_from w

  -- numbers that rise
  module _ (rises : RisesTo table n) where
    rises_on : (k : ℕ) → suc k < n → get_or table k 0 < get_or table (suc k) 0
    rises_on k m =
        let q : suc k ≡ k + 1 = omega arith in
        let r : get_or table k 0 < get_or table (k + 1) 0 = rises k (omega arith) in
        let w : get_or table (suc k) 0 ≡ get_or table (k + 1) 0 = ap (λ (x : ℕ). get_or table x 0) q in
        omega arith

    none_of : (l : List ℤ) {v : ℕ} → v ≡ 0 → any (λ z. any (same_id z) l) (id_of v) ≡ false
    unfolding any id_of
    none_of l {v} h = ap (λ (u : ℕ). any (λ z. any (same_id z) l) (id_of u)) h

    -- d numbers from place k on: what is less than the first of them is none of them, and none stands twice
    less_than : (v d k : ℕ) → k + d ≡ n → (k < n → v < get_or table k 0) → any (λ u. eqb u v) (drop k (take n table)) ≡ false
    unfolding any
    less_than v zero k e h = ap (any (λ u. eqb u v)) (no_more k (omega arith))
    less_than v (suc d) k e h =
        let l : k < n = omega arith in
        let b : v < get_or table k 0 = h l in
        ap (any (λ u. eqb u v)) (its k l)
        ∙ ap (λ (c : Bool). c || any (λ u. eqb u v) (drop (suc k) (take n table))) (ne_eqb (get_or table k 0) v (λ x. omega arith))
        ∙ less_than v d (suc k) (omega arith) (λ m. let r : get_or table k 0 < get_or table (suc k) 0 = rises_on k m in omega arith)

    none_again : (d k : ℕ) → suc k + d ≡ n → any (λ z. any (same_id z) (flat id_of (drop (suc k) (take n table)))) (id_of (get_or table k 0)) ≡ false
    none_again d k e = go (ℕ_discrete (get_or table k 0) 0)
      where
        go : Dec (get_or table k 0 ≡ 0) → any (λ z. any (same_id z) (flat id_of (drop (suc k) (take n table)))) (id_of (get_or table k 0)) ≡ false
        go (yes h) = none_of (flat id_of (drop (suc k) (take n table))) h
        go (no h) = among_some (get_or table k 0) (drop (suc k) (take n table)) h ∙ less_than (get_or table k 0) d (suc k) e (λ m. rises_on k m)

    once_each : (d k : ℕ) → k + d ≡ n → twice_in (flat id_of (drop k (take n table))) ≡ false
    unfolding twice_in flat
    once_each zero k e = ap (λ (l : List ℕ). twice_in (flat id_of l)) (no_more k (omega arith))
    once_each (suc d) k e =
        let f : suc k + d ≡ n = omega arith in
        ap (λ (l : List ℕ). twice_in (flat id_of l)) (its k (omega arith))
        ∙ twice_more (get_or table k 0) (flat id_of (drop (suc k) (take n table)))
        ∙ (λ j. none_again d k f j || once_each d (suc k) f j)

    pub rises_once : twice_in (ids_in table n 0) ≡ false
    unfolding ids_in
    rises_once = once_each n 0 (omega arith)

-- ---- 15 in entry i

module _ (s : Text) (ix : List ℕ) where
  pub within_15 : (i : ℕ) → twice_in (ids (entry_at s ix i)) ≡ in_entry (twice_rule false) s ix i
  unfolding twice_rule holds
  within_15 i = refl

  -- the numbers of a table tell it
  pub twice_told : (i : ℕ) (table : List ℕ) {n : ℕ} {b : Bool} → n ≡ items_in ix i → ids (entry_at s ix i) ≡ ids_in table (items_in ix i) 0 → b ≡ twice_in (ids_in table n 0) → b ≡ twice_in (ids (entry_at s ix i))
  twice_told i table e f g = g ∙ ap (λ (m : ℕ). twice_in (ids_in table m 0)) e ∙ ap twice_in (sym f)

-- an entry more: one in which an id stands twice settles it, another leaves it as it was
pub noted_twice : (e : Bool) {a d : Bool} → a ≡ true → d ≡ true → d ≡ (e || a)
noted_twice e ea ed = ed ∙ sym (ap (λ (b : Bool). e || b) ea ∙ or-true e)

pub noted_once : (e : Bool) {a d : Bool} → a ≡ false → d ≡ e → d ≡ (e || a)
noted_once e ea ed = ed ∙ sym (ap (λ (b : Bool). e || b) ea ∙ or-false e)
