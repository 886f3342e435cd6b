-- A part of a list, from place a to place b, as a list of its own: what is said of the part and of those places of the whole list.
use Prim.Native.Nat.{ℕ, ◌+◌, ◌-◌, ◌≤◌, ◌<◌, zero-le}
use native.Mathlib.Omega.{arith}
use mathlib.Core.Bool.{Bool}
use mathlib.Core.Path.{◌≡◌, sym, ap, ◌∙◌}
use mathlib.Core.List.{List}
use lib.ListN.{length, get_or, take, drop}
use Rattle.std.proofs.lemmas.List.{get_or-take, get_or-drop, length-take, length-drop}
use Rattle.paths.specs.laws.Search.{First, NoneOf, Marked}

abbrev pub span : List ℕ → ℕ → ℕ → List ℕ
span xs a b = take (b - a) (drop a xs)

module _ (xs : List ℕ) (a b : ℕ) (h : b ≤ length xs) where
  pub length_span : length (span xs a b) ≡ b - a
  length_span = omega (arith, length-take (b - a) (drop a xs), length-drop a xs)

  pub at_span : (i : ℕ) → i < b - a → get_or (span xs a b) i 0 ≡ get_or xs (a + i) 0
  at_span i l = get_or-take (b - a) (drop a xs) i 0 l ∙ get_or-drop a xs i 0

  -- place i of the list is place i - a of the part
  back : (i : ℕ) → a ≤ i → i < b → get_or (span xs a b) (i - a) 0 ≡ get_or xs i 0
  back i p q = let e : a + (i - a) ≡ i = omega arith in at_span (i - a) (omega arith) ∙ ap (λ (j : ℕ). get_or xs j 0) e

  pub none_span : (p : ℕ → Bool) → NoneOf p (span xs a b) 0 (length (span xs a b)) → NoneOf p xs a b
  none_span p n i u v = rw (sym (back i u v)) (n (i - a) zero-le (omega (arith, length_span)))

  pub first_span : {p : ℕ → Bool} {r : ℕ} → First p (span xs a b) 0 (length (span xs a b)) r → First p xs a b r
  first_span f = record {
    at = a + f.at;
    from = omega arith;
    below = omega (arith, f.below, length_span);
    here = sym (at_span f.at (omega (arith, f.below, length_span))) ∙ f.here;
    has = f.has;
    before = λ i u v. rw (sym (back i u (omega (arith, f.below, length_span)))) (f.before (i - a) zero-le (omega arith));
  }

  pub marked_span : {bs : List ℕ} → Marked bs (span xs a b) 0 (length (span xs a b)) → Marked bs xs a b
  marked_span m = record { each = λ i u v. rw (sym (back i u v)) (m.each (i - a) zero-le (omega (arith, length_span))) }

  pub span_marked : {bs : List ℕ} → Marked bs xs a b → Marked bs (span xs a b) 0 (length (span xs a b))
  span_marked m = record { each = λ i u v. rw (at_span i (omega (arith, length_span))) (m.each (a + i) (omega arith) (omega (arith, length_span))) }

  -- each of the part is below n
  pub below_span : {n : ℕ} → ((i : ℕ) → a ≤ i → i < b → get_or xs i 0 < n) → (i : ℕ) → i < length (span xs a b) → get_or (span xs a b) i 0 < n
  below_span k i l = rw (at_span i (omega (arith, length_span))) (k (a + i) (omega arith) (omega (arith, length_span)))
