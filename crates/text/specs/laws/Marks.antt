-- Answers to a question as binary digits, the first the lowest: 0 for yes and 1 for no, with a 1 above them. Below the lowest 1 stand the answers before the first no.
-- Three times the number has its lowest 1 at the same place. Assumes nothing.
use Rattle.std.specs.Prelude.{◌≡◌, refl, Bool, true, false}
use Rattle.std.proofs.Common.{sym, ◌∙◌, zero-add, add-zero, mul-zero, mul-one, mul_assoc, not-suc-le-zero, add-one, pow_mono}
use Rattle.std.proofs.Math.Path.{ap}
use Prim.Native.Nat.{ℕ, zero, suc, ◌+◌, ◌*◌, ◌-◌, ◌/◌, ◌%◌, ◌^◌, ◌≤◌, ◌<◌}
use Rattle.std.proofs.Math.Nat.{add_assoc, mul-add, pow-succ'}
use native.Mathlib.Omega.{arith}
use Rattle.std.specs.Int.Count.{count_trailing_zeros}
use Rattle.text.specs.Reading.{pick}

-- the answers to n questions from the number i on
unfoldable pub marks : (ℕ → Bool) → ℕ → ℕ → ℕ
marks ask i zero = 1
marks ask i (suc n) = pick (ask i) 0 1 + 2 * marks ask (i + 1) n

-- of n answers from i on the first r are yes, and the next is no if there is one
pub record First (ask : ℕ → Bool) (i n r : ℕ) : Type 0 where
  pub within : r ≤ n
  pub yes : (j : ℕ) → j < r → ask (i + j) ≡ true
  pub no : r < n → ask (i + r) ≡ false

even : (k m : ℕ) → count_trailing_zeros (suc k) (3 * (0 + 2 * m)) ≡ suc (count_trailing_zeros k (3 * m))
unfolding count_trailing_zeros
even k m =
    let a : 3 * (0 + 2 * m) % 2 ≡ 0 = omega arith in
    let b : 3 * (0 + 2 * m) / 2 ≡ 3 * m = omega arith in
    rw (a, b)

odd : (k m : ℕ) → count_trailing_zeros (suc k) (3 * (1 + 2 * m)) ≡ 0
unfolding count_trailing_zeros
odd k m = let a : 3 * (1 + 2 * m) % 2 ≡ 1 = omega arith in rw a

module _ (ask : ℕ → Bool) (i n : ℕ) where
  one_more : {r : ℕ} → ask i ≡ true → First ask (i + 1) n r → First ask i (suc n) (suc r)
  one_more {r} e f =
      let w : r ≤ n = f.within in
      record {
        within = omega arith;
        yes = here;
        no = λ l. let q : i + suc r ≡ i + 1 + r = omega arith in ap ask q ∙ f.no (omega arith);
      }
    where
      here : (j : ℕ) → j < suc r → ask (i + j) ≡ true
      here zero l = ap ask (add-zero i) ∙ e
      here (suc j) l = let q : i + suc j ≡ i + 1 + j = omega arith in ap ask q ∙ f.yes j (omega arith)

  none_yet : ask i ≡ false → First ask i (suc n) 0
  none_yet e = record { within = omega arith; yes = λ j l. absurd (not-suc-le-zero l); no = λ _. ap ask (add-zero i) ∙ e }

-- the lowest 1 tells how many there are
pub first_no : (ask : ℕ → Bool) (n k i : ℕ) → n < k → First ask i n (count_trailing_zeros k (3 * marks ask i n))
unfolding marks count_trailing_zeros pick
first_no ask n zero i h = absurd (not-suc-le-zero h)
first_no ask zero (suc k) i h = record { within = omega arith; yes = λ j l. absurd (not-suc-le-zero l); no = λ l. absurd (not-suc-le-zero l) }
first_no ask (suc n) (suc k) i h = go (ask i) refl (first_no ask n k (i + 1) (omega arith))
  where
    go : (t : Bool) → ask i ≡ t → First ask (i + 1) n (count_trailing_zeros k (3 * marks ask (i + 1) n)) → First ask i (suc n) (count_trailing_zeros (suc k) (3 * (pick t 0 1 + 2 * marks ask (i + 1) n)))
    go true e f = rw (even k (marks ask (i + 1) n)) (one_more ask i n e f)
    go false e f = rw (odd k (marks ask (i + 1) n)) (none_yet ask i n e)

-- ---- summed one by one: after i of 8 answers m is their sum, each weighed by its place, and w the next weight
pub record Summed (ask : ℕ → Bool) (m w i : ℕ) : Type 0 where
  pub low : m < w
  pub power : w ≡ 3 * 2 ^ i
  pub whole : m + w * marks ask i (8 - i) ≡ 3 * marks ask 0 8

at_most : (t : Bool) (w : ℕ) → w * pick t 0 1 ≤ w
unfolding pick
at_most true w = omega (arith, mul-zero w)
at_most false w = omega (arith, mul-one w)

module _ (ask : ℕ → Bool) where
  pub summed_none : Summed ask 0 3 0
  summed_none = record { low = omega arith; power = refl; whole = zero-add _ }

  -- the weights are small
  pub weight_low : {m w i : ℕ} → Summed ask m w i → i ≤ 8 → w ≤ 768
  weight_low {m} {w} {i} h l = let p : 2 ^ i ≤ 2 ^ 8 = pow_mono {j = 8} l in omega (arith, h.power)

  module _ {m w i : ℕ} (h : Summed ask m w i) (l : i < 8) where
    module _ {r : ℕ} (e : r ≡ w * pick (ask i) 0 1) where
      pub sum_low : m + r < w * 2
      sum_low = omega (arith, h.low, e, at_most (ask i) w)

      pub summed_more : Summed ask (m + r) (w * 2) (i + 1)
      unfolding marks
      summed_more =
          let rest : ℕ = marks ask (i + 1) (8 - (i + 1)) in
          let q : 8 - i ≡ suc (8 - (i + 1)) = omega arith in
          let d : marks ask i (8 - i) ≡ pick (ask i) 0 1 + 2 * rest = ap (marks ask i) q in
          let p : 2 ^ (i + 1) ≡ 2 * 2 ^ i = ap (λ (k : ℕ). 2 ^ k) (add-one i) ∙ pow-succ' 2 i in
          let g : w * (pick (ask i) 0 1 + 2 * rest) ≡ r + w * 2 * rest = mul-add w _ _ ∙ ap (λ (k : ℕ). k + w * (2 * rest)) (sym e) ∙ ap (λ (k : ℕ). r + k) (sym (mul_assoc w 2 rest)) in
          record {
            low = sum_low;
            power = omega (arith, h.power);
            whole = add_assoc m r _ ∙ ap (λ (k : ℕ). m + k) (sym g ∙ ap (λ (k : ℕ). w * k) (sym d)) ∙ h.whole;
          }

  -- after the last the next weight is the 1 above them
  pub summed_all : {m w i : ℕ} → Summed ask m w i → i ≡ 8 → m + w ≡ 3 * marks ask 0 8
  unfolding marks
  summed_all {m} {w} {i} h e =
      let d : marks ask i (8 - i) ≡ 1 = ap (λ (k : ℕ). marks ask k (8 - k)) e in
      ap (λ (k : ℕ). m + k) (sym (mul-one w) ∙ ap (λ (k : ℕ). w * k) (sym d)) ∙ h.whole
