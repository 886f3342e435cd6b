-- The number that some bits write, in another slice that has the same bits. Assumes nothing.
use Rattle.std.specs.Prelude.{◌≡◌, refl, List, ◌++◌, ℕ, zero, suc, ◌+◌, ◌*◌, ◌/◌, ◌%◌, ◌^◌, ◌<◌, ◌≤◌, length, drop, take}
use Rattle.std.proofs.Common.{◌∙◌, arith, get_or-drop, get_or-take}
use Rattle.std.proofs.Math.Nat.{zero-div}
use Rattle.std.proofs.Math.ListN.{get_or-append, get_or-eq_default}
use Rattle.bits.specs.Bits.{bit_at, number}
use Rattle.bits.specs.laws.Number.{number_append}

-- equal bits, wherever they stand, write equal numbers
pub number_same : (s u : List ℕ) (i j w : ℕ) → ((k : ℕ) → k < w → bit_at s (i + k) ≡ bit_at u (j + k)) → number s i w ≡ number u j w
unfolding number
number_same s u i j zero h = refl
number_same s u i j (suc w) h = rw (number_same s u i j w (λ k l. h k (omega arith)), h w (omega arith))

-- what comes after the slice changes no field inside it
pub number_longer : (s u : List ℕ) (i w : ℕ) → i + w ≤ 8 * length s → number (s ++ u) i w ≡ number s i w
number_longer s u i w h = number_same (s ++ u) s i i w (λ k l. let b : (i + k) / 8 < length s = omega arith in rw (get_or-append s u 0 ((i + k) / 8) b))

-- nor does it to keep only its first n bytes
pub number_take : (s : List ℕ) (n i w : ℕ) → i + w ≤ 8 * n → number (take n s) i w ≡ number s i w
number_take s n i w h = number_same (take n s) s i i w (λ k l. let b : (i + k) / 8 < n = omega arith in rw get_or-take)

-- with k bytes dropped in front, positions are 8 * k less
pub number_drop : (s : List ℕ) (k i w : ℕ) → number (drop k s) i w ≡ number s (8 * k + i) w
number_drop s k i w =
    number_same (drop k s) s i (8 * k + i) w (λ j l.
    let e : k + (i + j) / 8 ≡ (8 * k + i + j) / 8 = omega arith in
    let m : (i + j) % 8 ≡ (8 * k + i + j) % 8 = omega arith in
    rw (get_or-drop k s ((i + j) / 8) 0, e, m))

-- past the end all bits are 0
pub number_past : (s : List ℕ) (i w : ℕ) → 8 * length s ≤ i → number s i w ≡ 0
unfolding number
number_past s i zero h = refl
number_past s i (suc w) h =
    let b : length s ≤ (i + w) / 8 = omega arith in
    rw (number_past s i w h, get_or-eq_default s 0 b, zero-div)

-- a field over the end: its bits inside, and then zeros
pub number_over : (s : List ℕ) (i a b : ℕ) → i + a ≡ 8 * length s → number s i (a + b) ≡ number s i a * 2 ^ b
number_over s i a b h = number_append s i a b ∙ rw (number_past s (i + a) b (omega arith)) (omega arith)
