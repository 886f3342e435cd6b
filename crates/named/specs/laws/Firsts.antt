-- The first place in a table at which a test holds, looked for from place k on. Assumes nothing.
use Rattle.std.specs.Prelude.{◌≡◌, Bool, true, false, ◌||◌, ◌&&◌, get_or, take, drop}
use Rattle.std.proofs.Math.Path.{refl, sym, ap}
use Rattle.std.proofs.Common.{◌∙◌, drop_of_length-le, drop-cons, get_or-take, eq-eqb, ne_eqb, lt-ltb, le-ltb}
use Rattle.std.proofs.Math.Bool.{not}
use mathlib.Core.List.{List, ◌∷◌}
use Prim.Native.Nat.{ℕ, suc, ◌+◌, ◌≤◌, ◌<◌}
use native.Mathlib.Omega.{arith}
use Rattle.std.proofs.Math.Dec.{eqb}
use Rattle.std.proofs.Math.ListN.{length}
use Rattle.std.proofs.Math.Seq.{length-take-le}
use Rattle.text.specs.Reading.{Text}
use Rattle.text.specs.laws.Readers.{pick_true, pick_false}
use Rattle.grammar.specs.Tree.{same}
use Rattle.grammar.proofs.laws.Order.{same_refl}
use Rattle.numbers.specs.declared.Machine.{Machine}
use Rattle.manifest.specs.Rows.{any, first_or}
use Rattle.index.specs.Index.{text_at}
use Rattle.index.proofs.laws.Entries.{from, from_past, from_here}
use Rattle.prints.specs.Prints.{print_at}
use Rattle.named.specs.Named.{stands_at, is_called, is_named, number_by, number_at}
use Rattle.named.specs.laws.Texts.{known}

module _ (d : ℕ) (p : ℕ → Bool) (names : List ℕ) (k i : ℕ) where
  -- it holds at k; it does not; there are no more
  first_here : k < length names → p (get_or names k 0) ≡ true → first_or d p (drop k names) i ≡ i
  unfolding first_or
  first_here h e = ap (λ (l : List ℕ). first_or d p l i) (drop-cons names k 0 h) ∙ pick_true _ _ e

  first_on : k < length names → p (get_or names k 0) ≡ false → first_or d p (drop k names) i ≡ first_or d p (drop (suc k) names) (suc i)
  unfolding first_or
  first_on h e = ap (λ (l : List ℕ). first_or d p l i) (drop-cons names k 0 h) ∙ pick_false _ _ e

  first_past : length names ≤ k → first_or d p (drop k names) i ≡ d
  unfolding first_or
  first_past h = ap (λ (l : List ℕ). first_or d p l i) (drop_of_length-le names h)

-- ---- where a position stands

-- p is looked for from place k on
unfoldable pub stands_from : List ℕ → ℕ → ℕ → ℕ
stands_from table p k = first_or 32 (λ q. eqb q p) (drop k (take 32 table)) k

module _ (table : List ℕ) (long : 32 ≤ length table) (p : ℕ) where
  its_length : length (take 32 table) ≡ 32
  its_length = length-take-le 32 table long

  pub stands_start : stands_at table p ≡ stands_from table p 0
  unfolding stands_at stands_from
  stands_start = refl

  module _ (k : ℕ) (so : stands_at table p ≡ stands_from table p k) where
    at_place : k < 32 → get_or (take 32 table) k 0 ≡ get_or table k 0
    at_place h = get_or-take 32 table k 0 h

    pub stands_here : k < 32 → get_or table k 0 ≡ p → k ≡ stands_at table p
    unfolding stands_from
    stands_here h e = sym (so ∙ first_here 32 (λ q. eqb q p) (take 32 table) k k (omega (arith, its_length)) (eq-eqb _ p (at_place h ∙ e)))

    pub stands_on : k < 32 → (get_or table k 0 ≡ p → ⊥) → stands_at table p ≡ stands_from table p (k + 1)
    unfolding stands_from
    stands_on h e =
        let n : suc k ≡ k + 1 = omega arith in
        so ∙ (first_on 32 (λ q. eqb q p) (take 32 table) k k (omega (arith, its_length)) (ne_eqb _ p (λ q. e (sym (at_place h) ∙ q))) ∙ ap (stands_from table p) n)

    pub stands_past : 32 ≤ k → 32 ≡ stands_at table p
    unfolding stands_from
    stands_past h = sym (so ∙ first_past 32 (λ q. eqb q p) (take 32 table) k k (omega (arith, its_length)))

-- ---- the number of a machine

module _ (s : Text) (p q : ℕ) where
  pub called_none : q ≡ 0 → false ≡ is_called s p q
  unfolding is_called
  called_none e = sym (ap (λ (b : Bool). not b && same (text_at s p) (text_at s q)) (eq-eqb q 0 e))

  pub called_some : (q ≡ 0 → ⊥) → same (text_at s p) (text_at s q) ≡ is_called s p q
  unfolding is_called
  called_some e = sym (ap (λ (b : Bool). not b && same (text_at s p) (text_at s q)) (ne_eqb q 0 e))

  -- the text at p itself
  pub called_itself : (q ≡ 0 → ⊥) → q ≡ p → true ≡ is_called s p q
  called_itself n e = sym (ap (λ (x : ℕ). same (text_at s p) (text_at s x)) e ∙ same_refl (text_at s p)) ∙ called_some n

module _ (s : Text) (table : List ℕ) (p : ℕ) where
  module _ (k : ℕ) {print : ℕ} (its : print ≡ print_at s p) where
    -- the prints differ; they do not, and the texts decide
    pub named_other : (get_or table (32 + k) 0 ≡ print → ⊥) → is_named s table p k ≡ false
    unfolding is_named
    named_other n = ap (λ (b : Bool). b && is_called s p (get_or table k 0)) (ne_eqb _ _ (λ e. n (e ∙ sym its)))

    pub named_same : get_or table (32 + k) 0 ≡ print → {b : Bool} → b ≡ is_called s p (get_or table k 0) → is_named s table p k ≡ b
    unfolding is_named
    named_same e f = ap (λ (b : Bool). b && is_called s p (get_or table k 0)) (eq-eqb _ _ (e ∙ its)) ∙ sym f

  -- the name at p is looked for from place k on
  unfoldable pub number_from : ℕ → ℕ
  number_from k = first_or 0 (is_named s table p) (from (λ j. j) 32 k) (k + 1)

  -- a result of the code, as a machine
  abbrev pub machine : ℕ → Machine
  machine n = record { 0 = n }

  -- position 0; a position that stands at place k; one that does not stand there
  pub number_host : p ≡ 0 → machine 0 ≡ number_at s table p
  unfolding number_at
  number_host z = sym (ap machine (pick_true _ _ (eq-eqb p 0 z)))

  module _ (some : p ≡ 0 → ⊥) {k : ℕ} (ek : k ≡ stands_at table p) where
    pub number_placed : k < 32 → machine (k + 1) ≡ number_at s table p
    unfolding number_at
    number_placed h =
        let g : stands_at table p < 32 = omega arith in
        ap (λ (n : ℕ). machine (n + 1)) ek ∙ sym (ap machine (pick_false _ _ (ne_eqb p 0 some) ∙ pick_true _ _ (lt-ltb _ _ g)))

    pub number_written : 32 ≤ k → {n : ℕ} → n ≡ number_by s table p → machine n ≡ number_at s table p
    unfolding number_at
    number_written h en =
        let g : 32 ≤ stands_at table p = omega arith in
        ap machine en ∙ sym (ap machine (pick_false _ _ (ne_eqb p 0 some) ∙ pick_false _ _ (le-ltb _ _ g)))

  -- ---- by print and text
  pub number_start : number_by s table p ≡ number_from 0
  unfolding number_by number_from from
  number_start = refl

  module _ (k : ℕ) (so : number_by s table p ≡ number_from k) where
    pub number_here : k < 32 → is_named s table p k ≡ true → k + 1 ≡ number_by s table p
    unfolding number_from first_or
    number_here h e = sym (so ∙ (ap (λ (l : List ℕ). first_or 0 (is_named s table p) l (k + 1)) (from_here (λ j. j) 32 k h) ∙ pick_true _ _ e))

    pub number_on : k < 32 → is_named s table p k ≡ false → number_by s table p ≡ number_from (k + 1)
    unfolding number_from first_or
    number_on h e =
        let n : suc k ≡ k + 1 = omega arith in
        let m : suc (k + 1) ≡ k + 1 + 1 = omega arith in
        so ∙ (ap (λ (l : List ℕ). first_or 0 (is_named s table p) l (k + 1)) (from_here (λ j. j) 32 k h) ∙ (pick_false _ _ e ∙ (λ t. first_or 0 (is_named s table p) (from (λ j. j) 32 (n t)) (m t))))

    pub number_past : 32 ≤ k → 0 ≡ number_by s table p
    unfolding number_from first_or
    number_past h = sym (so ∙ ap (λ (l : List ℕ). first_or 0 (is_named s table p) l (k + 1)) (from_past (λ j. j) 32 k h))

module _ (s : Text) (names : List ℕ) (p : ℕ) where
  -- ---- whether a name is there

  -- among the first n names, looked for from place k on
  unfoldable pub known_from : ℕ → ℕ → Bool
  known_from n k = known s p (drop k (take n names))

  module _ (n : ℕ) (fits : n ≤ length names) where
    its : (k : ℕ) → k < n → drop k (take n names) ≡ get_or names k 0 ∷ drop (suc k) (take n names)
    its k h = drop-cons (take n names) k 0 (omega (arith, length-take-le n names fits)) ∙ ap (λ (q : ℕ). q ∷ drop (suc k) (take n names)) (get_or-take n names k 0 h)

    pub known_start : known s p (take n names) ≡ known_from n 0
    unfolding known_from
    known_start = refl

    module _ (k : ℕ) (so : known s p (take n names) ≡ known_from n k) where
      pub known_on : k < n → same (text_at s p) (text_at s (get_or names k 0)) ≡ false → known s p (take n names) ≡ known_from n (k + 1)
      unfolding known_from any
      known_on h e =
          let m : suc k ≡ k + 1 = omega arith in
          so ∙ (ap (known s p) (its k h) ∙ (ap (λ (b : Bool). b || known s p (drop (suc k) (take n names))) e ∙ ap (known_from n) m))

      pub known_past : n ≤ k → false ≡ known s p (take n names)
      unfolding known_from any
      known_past h =
          let e : length (take n names) ≤ k = omega (arith, length-take-le n names fits) in
          sym (so ∙ ap (known s p) (drop_of_length-le (take n names) e))
