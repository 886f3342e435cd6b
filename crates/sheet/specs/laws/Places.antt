-- The places of files: one after the other, and each found in the array of 32. Assumes nothing.
use Rattle.std.specs.Prelude.{◌≡◌, refl, List, ℕ, zero, suc, ◌+◌, ◌*◌, ◌≤◌, ◌<◌, length, get_or}
use Rattle.std.proofs.Common.{ap, ◌∙◌, arith, lt-ltb}
use Rattle.bits.specs.laws.Number.{number_lt}
use Rattle.records.specs.Layout.{pick, file_here, size_of}
use Rattle.records.specs.laws.Fields.{length_bytes}
use Rattle.sheet.specs.Places.{place_of, place_in, from, file_places}

-- a file's place is past the file before it
pub place_more : (s : List ℕ) (at i : ℕ) → place_of s at (suc i) ≡ place_of s at i + size_of (file_here s (place_of s at i))
unfolding place_of
place_more s at zero = refl
place_more s at (suc i) = place_more s (at + size_of (file_here s at)) i

-- a file has at most 2055 bits
pub file_size : (s : List ℕ) (at : ℕ) → size_of (file_here s at) ≤ 2055
file_size s at = rw length_bytes (omega (arith, number_lt s (at + 3 + 1 + 3) 8))

pub place_near : (s : List ℕ) (i : ℕ) → place_of s 0 i ≤ 2055 * i
unfolding place_of
place_near s zero = omega arith
place_near s (suc i) = omega (arith, place_more s 0 i, place_near s i, file_size s (place_of s 0 i))

pub length_from : (f : ℕ → ℕ) (i m : ℕ) → length (from f i m) ≡ m
unfolding from
length_from f i zero = refl
length_from f i (suc m) = ap suc (length_from f (i + 1) m)

pub from_at : (f : ℕ → ℕ) (i m k : ℕ) → k < m → get_or (from f i m) k 0 ≡ f (i + k)
unfolding from
from_at f i zero k h = absurd (omega arith)
from_at f i (suc m) zero h = let e : i ≡ i + 0 = omega arith in ap f e
from_at f i (suc m) (suc k) h = let e : i + 1 + k ≡ i + suc k = omega arith in from_at f (i + 1) m k (omega arith) ∙ ap f e

-- where there are n files, at most 32, the array has the place of each
pub places_at : (s : List ℕ) (n i : ℕ) → n ≤ 32 → i < n → get_or (file_places s n) i 0 ≡ place_of s 0 i
unfolding file_places pick
places_at s n i h l =
    let e : 0 + i ≡ i = omega arith in
    from_at (place_in s n) 0 32 i (omega arith) ∙ ap (place_in s n) e ∙ rw (lt-ltb i n l)
