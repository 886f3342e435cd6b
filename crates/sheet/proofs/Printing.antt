-- Laws of prints in the code's own values: a print with one field more, the prints of the first k paths, and the paths from file j on. Assumes nothing.
use mathlib.Core.Path.{◌≡◌, sym, ap, ◌∙◌}
use mathlib.Core.Bool.{Bool}
use mathlib.Core.List.{List, [], ◌∷◌}
use Prim.Native.Nat.{ℕ, suc, ◌+◌, ◌-◌, ◌*◌, ◌/◌, ◌%◌, ◌<◌, ◌≤◌}
use native.Mathlib.Omega.{arith}
use native.Mathlib.Numerals.{add-one}
use borrow.Author.Count.{below_more}
use lib.ListN.{length, get_or, set, length-set}
use lib.Seq.{get_or-set_same, get_or-set_other}
use Rattle.bits.specs.Bits.{number, taken_at}
use Rattle.bits.specs.laws.Fields.{take_in}
use Rattle.bits.specs.declared.Taken.{Taken}
use Rattle.records.specs.Layout.{path_here}
use Rattle.records.specs.Readers.{far, head_at}
use Rattle.records.specs.declared.Head.{Head}
use Rattle.sheet.specs.Twice.{same_bytes}
use Rattle.sheet.specs.Places.{paths_from, place_of, file_places}
use Rattle.sheet.specs.laws.Places.{place_more, place_near, places_at}
use Rattle.sheet.specs.laws.Prints.{step, print_from, print_of, print_here, Printed}
use Rattle.sheet.proofs.Again.{length_is, paths_step, paths_none}

module _ (s : List ℕ) where
  -- ---- the print of one path
  pub print_start : {a n : ℕ} {h : Head} → h ≡ head_at s a → a < far → n ≡ h.length → print_from s n (a + 15 + 64 * 0) (n / 8 - 0) (n % 8) ≡ print_here s a
  unfolding print_here
  print_start {a} {n} eh l en =
      let p : a + 15 + 64 * 0 ≡ a + 15 = omega arith in
      let m : n / 8 - 0 ≡ n / 8 = omega arith in
      rw (p, m) (ap (print_of s (a + 15)) (en ∙ sym (length_is s eh l)))

  -- what is left after k of m fields of eight bytes, and r bytes after them
  module _ (a m r k print : ℕ) where
    pub print_more : {v : ℕ} {x : Taken ℕ} → x ≡ taken_at s (a + 64 * k) 64 → a + 64 * k ≤ 0x2000000000 → k < m → v ≡ step print x.value →
        print_from s v (a + 64 * (k + 1)) (m - (k + 1)) r ≡ print_from s print (a + 64 * k) (m - k) r
    unfolding print_from
    print_more {v} {x} ex l h ev =
        let n : m - k ≡ suc (m - (k + 1)) = omega arith in
        let p : a + 64 * (k + 1) ≡ a + 64 * k + 64 = omega arith in
        let e : x.value ≡ number s (a + 64 * k) 64 = rw (ex ∙ take_in s (a + 64 * k) 64 (omega arith) (omega arith)) in
        rw p (ap (λ (w : ℕ). print_from s w (a + 64 * k + 64) (m - (k + 1)) r) (ev ∙ ap (step print) e) ∙ sym (ap (λ (j : ℕ). print_from s print (a + 64 * k) j r) n))

    pub print_end : {v : ℕ} {x : Taken ℕ} → x ≡ taken_at s (a + 64 * m) (8 * r) → a + 64 * m ≤ 0x2000000000 → r < 8 → k ≡ m → v ≡ step print x.value → v ≡ print_from s print (a + 64 * k) (m - k) r
    unfolding print_from
    print_end {v} {x} ex l h z ev =
        let n : m - k ≡ 0 = omega arith in
        let e : x.value ≡ number s (a + 64 * m) (8 * r) = rw (ex ∙ take_in s (a + 64 * m) (8 * r) (omega arith) (omega arith)) in
        rw (n, z) (ev ∙ ap (step print) e)

  -- ---- the places and the prints of the files
  pub place_is : {places : List ℕ} {k n : ℕ} → places ≡ file_places s n → n ≤ 32 → k < n → get_or places k 0 ≡ place_of s 0 k
  place_is {places} {k} {n} e m h = ap (λ (l : List ℕ). get_or l k 0) e ∙ places_at s n k m h

  pub place_low : {p k : ℕ} → p ≡ place_of s 0 k → k < 32 → p < far
  place_low {p} {k} e h = omega (arith, place_near s k)

  pub printed_none : {prints : List ℕ} → length prints ≡ 32 → Printed s prints 0
  printed_none e = record { long = e; each = λ k h. absurd (omega arith) }

  pub printed_more : {prints : List ℕ} {k p v : ℕ} → k < 32 → Printed s prints k → p ≡ place_of s 0 k → v ≡ print_here s p → Printed s (set prints k v) (k + 1)
  printed_more {prints} {k} {p} {v} h a ep ev =
      record {
        long = length-set prints k v ∙ a.long;
        each =
            below_more (λ (j : ℕ). get_or (set prints k v) j 0 ≡ print_here s (place_of s 0 j)) k
            (λ (j : ℕ) (m : j < k). get_or-set_other prints k j v 0 (λ (z : j ≡ k). omega arith) ∙ a.each j m)
            (get_or-set_same prints k v 0 (omega (arith, a.long)) ∙ ev ∙ ap (print_here s) ep);
      }

  pub printed_all : {prints : List ℕ} {k n : ℕ} → n ≤ k → Printed s prints k → Printed s prints n
  printed_all h a = record { long = a.long; each = λ j m. a.each j (omega arith) }

  pub print_at : {prints : List ℕ} {p k n : ℕ} → Printed s prints n → k < n → p ≡ place_of s 0 k → get_or prints k 0 ≡ print_here s p
  print_at {prints} {p} {k} a h e = a.each k h ∙ ap (print_here s) (sym e)

  -- ---- the paths from file j on, of n
  pub paths_start : (n : ℕ) → paths_from s (place_of s 0 0) (n - 0) ≡ paths_from s 0 n
  unfolding place_of
  paths_start n = let e : n - 0 ≡ n = omega arith in ap (paths_from s 0) e

  pub paths_on : (n j : ℕ) → j < n → paths_from s (place_of s 0 j) (n - j) ≡ path_here s (place_of s 0 j) ∷ paths_from s (place_of s 0 (j + 1)) (n - (j + 1))
  paths_on n j h =
      let l : 0 < n - j = omega arith in
      let e : n - j - 1 ≡ n - (j + 1) = omega arith in
      paths_step s (place_of s 0 j) (ap (place_of s 0) (add-one j) ∙ place_more s 0 j) l ∙ ap (λ (k : ℕ). path_here s (place_of s 0 j) ∷ paths_from s (place_of s 0 (j + 1)) k) e

  pub paths_past : (n j : ℕ) → n ≤ j → paths_from s (place_of s 0 j) (n - j) ≡ []
  paths_past n j h = let z : n - j ≡ 0 = omega arith in paths_none s (place_of s 0 j) z

  -- the test of files i and j, by their places
  pub matched : (i j : ℕ) {a b : ℕ} {r : Bool} → a ≡ place_of s 0 i → b ≡ place_of s 0 j → r ≡ same_bytes (path_here s a) (path_here s b) → r ≡ same_bytes (path_here s (place_of s 0 i)) (path_here s (place_of s 0 j))
  matched i j ea eb q = q ∙ (λ t. same_bytes (path_here s (ea t)) (path_here s (eb t)))
