-- An array that holds the places of the files before i, and 0 from there on: one file more, and the end. Assumes nothing.
use mathlib.Core.Path.{◌≡◌, refl, sym, ap, ◌∙◌}
use mathlib.Core.List.{List}
use Prim.Native.Nat.{ℕ, zero, suc, ◌+◌, ◌*◌, ◌<◌, ◌≤◌}
use native.Mathlib.Omega.{arith}
use native.Mathlib.Numerals.{add-one}
use native.Mathlib.Decide.{dec_lt}
use borrow.Author.Count.{below_more}
use borrow.Author.Tests.{lt-ltb, le-ltb}
use lib.ListN.{length, get_or, set, length-set, replicate}
use lib.Seq.{get_or-set_same, get_or-set_other, ext_get_or}
use Rattle.records.specs.Layout.{pick, file_here, size_of}
use Rattle.sheet.specs.Places.{place_of, place_in, from, file_places}
use Rattle.sheet.specs.laws.Places.{length_from, from_at, place_more}

pub record Placed (s : List ℕ) (n i p : ℕ) (places : List ℕ) : Type 0 where
  pub few : i ≤ 32
  pub near : p ≤ 2055 * i
  pub here : p ≡ place_of s 0 i
  pub size : length places ≡ 32
  pub filled : (k : ℕ) → k < i → get_or places k 0 ≡ place_in s n k
  pub empty : (k : ℕ) → i ≤ k → get_or places k 0 ≡ 0

zeros_at : (m k : ℕ) → ◌≡◌ {A = ℕ} (get_or (replicate m 0) k 0) 0
zeros_at zero k = refl
zeros_at (suc m) zero = refl
zeros_at (suc m) (suc k) = zeros_at m k

pub placed_none : (s : List ℕ) (n : ℕ) → Placed s n 0 0 (replicate 32 0)
unfolding place_of
placed_none s n =
    record {
      few = omega arith;
      near = omega arith;
      here = refl;
      size = refl;
      filled = λ (k : ℕ) (l : k < 0). absurd (omega arith);
      empty = λ (k : ℕ) (l : 0 ≤ k). zeros_at 32 k;
    }

module _ {s : List ℕ} {n i p q : ℕ} {places : List ℕ} (h : Placed s n i p places) (room : i < 32) (eq : q ≡ p + size_of (file_here s p)) (lq : q ≤ p + 2055) where
  next_place : q ≡ place_of s 0 (i + 1)
  next_place = eq ∙ ap (λ (k : ℕ). k + size_of (file_here s k)) h.here ∙ sym (place_more s 0 i) ∙ ap (place_of s 0) (sym (add-one i))

  -- file i is there
  pub placed_in : {after : List ℕ} → i < n → after ≡ set places i p → Placed s n (i + 1) q after
  unfolding pick
  placed_in l e =
      rw e
      (record {
        few = omega arith;
        near = omega (arith, h.near);
        here = next_place;
        size = length-set places i p ∙ h.size;
        filled =
            below_more (λ (k : ℕ). get_or (set places i p) k 0 ≡ place_in s n k) i
            (λ (k : ℕ) (m : k < i). get_or-set_other places i k p 0 (λ (z : k ≡ i). omega arith) ∙ h.filled k m)
            (get_or-set_same places i p 0 (omega (arith, h.size)) ∙ h.here ∙ rw (lt-ltb i n l));
        empty = λ (k : ℕ) (m : i + 1 ≤ k). get_or-set_other places i k p 0 (λ (z : k ≡ i). omega arith) ∙ h.empty k (omega arith);
      })

-- file i is the first past the last that has a place
pub placed_all : {s : List ℕ} {n most i p : ℕ} {places : List ℕ} → Placed s n i p places → most ≤ i → (most < 32 → most ≡ n) → places ≡ file_places s n
unfolding file_places pick
placed_all {s} {n} {most} {i} {p} {places} h l all =
    ext_get_or 0 places (from (place_in s n) 0 32) (h.size ∙ sym (length_from (place_in s n) 0 32))
    (λ (k : ℕ) (m : k < length places).
    let e : 0 + k ≡ k = omega arith in
    each k (omega (arith, h.size)) (dec_lt k i) ∙ sym (from_at (place_in s n) 0 32 k (omega (arith, h.size)) ∙ ap (place_in s n) e))
  where
    each : (k : ℕ) → k < 32 → Dec (k < i) → get_or places k 0 ≡ place_in s n k
    each k m (yes q) = h.filled k q
    each k m (no q) = let e : most ≡ n = all (omega arith) in h.empty k (omega arith) ∙ rw (le-ltb k n (omega arith))
