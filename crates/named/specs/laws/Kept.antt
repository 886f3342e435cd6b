-- The prints that are kept beside the names of a table, and the place of a name in it. Assumes nothing.
use Rattle.std.specs.Prelude.{◌≡◌, refl, Bool, true, ◌||◌, ltb, length, take, set, replicate}
use Rattle.std.proofs.Math.Path.{sym, ap}
use Rattle.std.proofs.Common.{◌∙◌, arith, length-set, get_or-set_same, get_or-set_other, length-take-le, get_or-take, eq-eqb, ne_eqb, lt-ltb, le-ltb}
use Rattle.std.proofs.Math.Bool.{or-true}
use mathlib.Core.List.{List, [], ◌∷◌, map}
use Prim.Native.Nat.{ℕ, zero, suc, ◌+◌, ◌≤◌, ◌<◌}
use Rattle.std.proofs.Math.Decide.{ℕ_discrete, dec_lt}
use Rattle.std.proofs.Math.ListN.{get_or, get_or-map}
use Rattle.std.proofs.lemmas.List.{length-map, length-replicate}
use Rattle.std.proofs.Math.Seq.{ext_get_or}
use Rattle.text.specs.Reading.{Text, pick}
use Rattle.text.specs.laws.Readers.{pick_true, pick_false}
use Rattle.grammar.specs.Tree.{same}
use Rattle.grammar.proofs.laws.Order.{same_refl}
use Rattle.manifest.specs.Rows.{any}
use Rattle.index.specs.Index.{text_at}
use Rattle.named.specs.Named.{name_print}
use Rattle.named.specs.laws.Texts.{known}
use Rattle.named.specs.laws.Firsts.{known_from, known_past}
use Rattle.prints.specs.Prints.{print_at}

-- beside each of the first n names stands its print; there are no others
pub record Printed (s : Text) (names prints : List ℕ) (n : ℕ) : Type 0 where
  pub long : length prints ≡ 32
  pub each : (k : ℕ) → k < n → get_or prints k 0 ≡ print_at s (get_or names k 0)
  pub some : (k : ℕ) → k < n → get_or names k 0 ≡ 0 → ⊥
  pub unnamed : (k : ℕ) → n ≤ k → get_or names k 0 ≡ 0
  pub unprinted : (k : ℕ) → n ≤ k → get_or prints k 0 ≡ 0

-- the text at p is the name at place r of the first n, or none of them and r is n
pub record Place (s : Text) (p : ℕ) (names : List ℕ) (n r : ℕ) : Type 0 where
  pub few : r ≤ n
  pub tells : known s p (take n names) ≡ ltb r n

zeros_at : (n k : ℕ) → ◌≡◌ {A = ℕ} (get_or (replicate n 0) k 0) 0
zeros_at zero k = refl
zeros_at (suc n) zero = refl
zeros_at (suc n) (suc k) = zeros_at n k

module _ (s : Text) where
  -- ---- prints

  -- of no names; of one more
  pub printed_none : Printed s (replicate 32 0) (replicate 32 0) 0
  printed_none = record {
    long = length-replicate {A = ℕ} 32 0;
    each = λ k h. absurd (omega arith);
    some = λ k h. absurd (omega arith);
    unnamed = λ k h. zeros_at 32 k;
    unprinted = λ k h. zeros_at 32 k;
  }

  pub printed_more : (p : ℕ) {names prints : List ℕ} {n v : ℕ} → length names ≡ 32 → n < 32 → (p ≡ 0 → ⊥) → Printed s names prints n → v ≡ print_at s p → Printed s (set names n p) (set prints n v) (n + 1)
  printed_more p {names} {prints} {n} {v} l h z a e = record {
    long = length-set prints n v ∙ a.long;
    each = λ k b. go k b (ℕ_discrete k n);
    some = λ k b. named k b (ℕ_discrete k n);
    unnamed = λ k b. get_or-set_other names n k p 0 (λ (q : k ≡ n). omega arith) ∙ a.unnamed k (omega arith);
    unprinted = λ k b. get_or-set_other prints n k v 0 (λ (q : k ≡ n). omega arith) ∙ a.unprinted k (omega arith);
  }
    where
      named : (k : ℕ) → k < n + 1 → Dec (k ≡ n) → get_or (set names n p) k 0 ≡ 0 → ⊥
      named k b (yes q) w = z (sym (ap (λ (x : ℕ). get_or (set names n p) x 0) q ∙ get_or-set_same names n p 0 (omega arith)) ∙ w)
      named k b (no q) w = a.some k (omega arith) (sym (get_or-set_other names n k p 0 q) ∙ w)

      go : (k : ℕ) → k < n + 1 → Dec (k ≡ n) → get_or (set prints n v) k 0 ≡ print_at s (get_or (set names n p) k 0)
      go k b (yes q) =
          let m : n < length prints = omega (arith, a.long) in
          ap (λ (x : ℕ). get_or (set prints n v) x 0) q
          ∙ (get_or-set_same prints n v 0 m
          ∙ (e ∙ (ap (print_at s) (sym (get_or-set_same names n p 0 (omega arith))) ∙ ap (λ (x : ℕ). print_at s (get_or (set names n p) x 0)) (sym q))))
      go k b (no q) =
          let c : k < n = omega arith in
          get_or-set_other prints n k v 0 q ∙ (a.each k c ∙ ap (print_at s) (sym (get_or-set_other names n k p 0 q)))

  -- when all names are in, the prints are those of the names
  pub printed_all : {names prints : List ℕ} {n : ℕ} → length names ≡ 32 → Printed s names prints n → prints ≡ map (name_print s) names
  unfolding name_print pick
  printed_all {names} {prints} {n} l a = ext_get_or 0 prints (map (name_print s) names) (a.long ∙ sym (length-map names (name_print s) ∙ l)) (λ k h. go k (dec_lt k n) ∙ sym (get_or-map (name_print s) names k 0))
    where
      go : (k : ℕ) → Dec (k < n) → get_or prints k 0 ≡ name_print s (get_or names k 0)
      go k (yes h) = a.each k h ∙ sym (pick_false 0 (print_at s (get_or names k 0)) (ne_eqb _ 0 (a.some k h)))
      go k (no h) = a.unprinted k (omega arith) ∙ sym (pick_true 0 (print_at s (get_or names k 0)) (eq-eqb _ 0 (a.unnamed k (omega arith))))

  -- ---- places

  any_at : (f : ℕ → Bool) (l : List ℕ) (k : ℕ) → k < length l → f (get_or l k 0) ≡ true → any f l ≡ true
  unfolding any
  any_at f [] k h e = absurd (omega arith)
  any_at f (q ∷ l) zero h e = ap (λ (b : Bool). b || any f l) e
  any_at f (q ∷ l) (suc k) h e = ap (λ (b : Bool). f q || b) (any_at f l k (omega arith) e) ∙ or-true (f q)

  module _ (p : ℕ) {names : List ℕ} {n : ℕ} (long : length names ≡ 32) (few : n ≤ 32) where
    -- it is the name at k
    pub place_here : {k : ℕ} → k < n → same (text_at s p) (text_at s (get_or names k 0)) ≡ true → Place s p names n k
    place_here {k} h e =
        let l : n ≤ length names = omega arith in
        record {
          few = omega arith;
          tells = any_at (λ q. same (text_at s p) (text_at s q)) (take n names) k (omega (arith, length-take-le n names l)) (ap (λ (q : ℕ). same (text_at s p) (text_at s q)) (get_or-take n names k 0 h) ∙ e) ∙ sym (lt-ltb k n h);
        }

    -- p itself stands there
    pub place_itself : {k : ℕ} → k < n → get_or names k 0 ≡ p → Place s p names n k
    place_itself {k} h e = place_here h (ap (λ (q : ℕ). same (text_at s p) (text_at s q)) e ∙ same_refl (text_at s p))

    -- it is none of them
    pub place_none : (k : ℕ) → known s p (take n names) ≡ known_from s names p n k → n ≤ k → Place s p names n n
    place_none k so h = record { few = omega arith; tells = sym (known_past s names p n (omega arith) k so h) ∙ sym (le-ltb n n (omega arith)) }
