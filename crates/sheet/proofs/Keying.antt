-- Laws of keys in the code's own values: the keys from j on, the keys of the first k sources, and the sources from i on. Assumes nothing.
use mathlib.Core.Path.{◌≡◌, refl, sym, ap, ◌∙◌}
use mathlib.Core.Bool.{Bool}
use mathlib.Core.List.{List, [], ◌∷◌}
use Prim.Native.Nat.{ℕ, zero, suc, ◌+◌, ◌-◌, ◌*◌, ◌<◌, ◌≤◌}
use native.Mathlib.Omega.{arith}
use borrow.Author.Count.{below_more}
use lib.Dec.{eqb}
use lib.ListN.{length, take, drop, get_or, set, length-set}
use lib.Seq.{drop-cons, get_or-set_same, get_or-set_other}
use Rattle.std.specs.List.{list_any}
use Rattle.std.proofs.Math.Decide.{ℕ_discrete}
use borrow.Author.Tests.{eq-eqb, ne_eqb}
use Rattle.records.specs.Layout.{source_here}
use Rattle.records.specs.Readers.{far, source_at}
use Rattle.records.specs.laws.Fields.{source_near}
use Rattle.records.specs.declared.Source.{Source}
use Rattle.sheet.specs.Twice.{among, same_source}
use Rattle.sheet.specs.Places.{every, sources_from}
use Rattle.sheet.specs.laws.Keys.{key_of, keys_from, Keyed, among_keys}
use Rattle.sheet.proofs.Again.{sources_step, sources_none}

-- ---- whether some key is x, as the library says it and as the definition does
eqb_sym : (x y : ℕ) → eqb x y ≡ eqb y x
eqb_sym x y = go (ℕ_discrete x y)
  where
    go : Dec (x ≡ y) → eqb x y ≡ eqb y x
    go (yes e) = rw (eq-eqb x y e, eq-eqb y x (sym e))
    go (no d) = rw (ne_eqb x y d, ne_eqb y x (λ (e : y ≡ x). d (sym e)))

pub any_among : (x : ℕ) (keys : List ℕ) → list_any (λ y. eqb y x) keys ≡ among eqb x keys
unfolding among
any_among x [] = refl
any_among x (y ∷ ys) = rw (eqb_sym x y, any_among x ys)

module _ (s : List ℕ) (at : ℕ) where
  -- ---- the keys of the first k sources
  pub keyed_none : {keys : List ℕ} → length keys ≡ 32 → Keyed s at keys 0
  keyed_none e = record { long = e; each = λ k h. absurd (omega arith) }

  pub keyed_more : {keys : List ℕ} {k v : ℕ} {x : Source} → k < 32 → at + 40 * k < far → Keyed s at keys k → x ≡ source_at s (at + 40 * k) → v ≡ key_of x → Keyed s at (set keys k v) (k + 1)
  keyed_more {keys} {k} {v} {x} h l a ex ev =
      record {
        long = length-set keys k v ∙ a.long;
        each =
            below_more (λ (j : ℕ). get_or (set keys k v) j 0 ≡ key_of (source_here s (at + 40 * j))) k
            (λ (j : ℕ) (m : j < k). get_or-set_other keys k j v 0 (λ (z : j ≡ k). omega arith) ∙ a.each j m)
            (get_or-set_same keys k v 0 (omega (arith, a.long)) ∙ ev ∙ ap key_of (ex ∙ source_near s (at + 40 * k) l));
      }

  pub keyed_all : {keys : List ℕ} {k n : ℕ} → n ≤ k → Keyed s at keys k → Keyed s at keys n
  keyed_all h a = record { long = a.long; each = λ j m. a.each j (omega arith) }

  -- ---- the sources from i on, of n
  pub sources_start : (n : ℕ) → sources_from s (at + 40 * 0) (n - 0) ≡ sources_from s at n
  sources_start n =
      let a : at + 40 * 0 ≡ at = omega arith in
      let e : n - 0 ≡ n = omega arith in
      rw (a, e)

  pub sources_on : (n i : ℕ) → i < n → sources_from s (at + 40 * i) (n - i) ≡ source_here s (at + 40 * i) ∷ sources_from s (at + 40 * (i + 1)) (n - (i + 1))
  sources_on n i h =
      let l : 0 < n - i = omega arith in
      let a : at + 40 * i + 40 ≡ at + 40 * (i + 1) = omega arith in
      let e : n - i - 1 ≡ n - (i + 1) = omega arith in
      sources_step s (at + 40 * i) l ∙ (λ t. source_here s (at + 40 * i) ∷ sources_from s (a t) (e t))

  pub sources_past : (n i : ℕ) → n ≤ i → sources_from s (at + 40 * i) (n - i) ≡ []
  sources_past n i h = let z : n - i ≡ 0 = omega arith in sources_none s (at + 40 * i) z

  module _ {keys : List ℕ} {n : ℕ} (few : n ≤ 32) (all : Keyed s at keys n) where
    -- a part of the keys is those of the sources there
    keys_part : (m j : ℕ) → j + m ≤ n → take m (drop j keys) ≡ keys_from s (at + 40 * j) m
    unfolding every
    keys_part zero j h = refl
    keys_part (suc m) j h =
        let l : j < length keys = omega (arith, all.long) in
        let a : at + 40 * suc j ≡ at + 40 * j + 40 = omega arith in
        ap (take (suc m)) (drop-cons keys j 0 l)
        ∙ ap (λ (x : ℕ). x ∷ take m (drop (suc j) keys)) (all.each j (omega arith))
        ∙ ap (λ (xs : List ℕ). key_of (source_here s (at + 40 * j)) ∷ xs) (keys_part m (suc j) (omega arith) ∙ ap (λ (p : ℕ). keys_from s p m) a)

    -- what is found among the later keys is found among the later sources
    pub found_later : (i : ℕ) {r : Bool} → i < n → r ≡ among eqb (get_or keys i 0) (take (n - (i + 1)) (drop (i + 1) keys)) → r ≡ among same_source (source_here s (at + 40 * i)) (sources_from s (at + 40 * (i + 1)) (n - (i + 1)))
    found_later i h e =
        e ∙ (λ t. among eqb (all.each i h t) (keys_part (n - (i + 1)) (i + 1) (omega arith) t))
        ∙ among_keys s (at + 40 * i) (at + 40 * (i + 1)) (n - (i + 1))
