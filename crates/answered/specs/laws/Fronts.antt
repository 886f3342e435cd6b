-- Fronts of memories, and zeros past them. Assumes nothing.
use Rattle.std.specs.Prelude.{◌≡◌, List, [], ◌∷◌, ◌++◌, map, ℕ, zero, suc, ◌+◌, ◌-◌, ◌≤◌, ◌<◌, min, length, get_or, take, drop, replicate}
use Rattle.std.proofs.Common.{sym, ap, ◌∙◌, append-nil, arith, length-append, length-drop, drop_of_length-le, take_at, take_all}
use Rattle.std.proofs.Math.Decide.{dec_lt}
use Rattle.std.proofs.lemmas.List.{length-replicate, replicate-append-replicate}
use Rattle.merged.specs.Merged.{padded}
use Rattle.checks.specs.Machines.{machine_table}
use Rattle.merged.specs.Machines.{machines_of}
use Rattle.checks.specs.Table.{facts_by}
use Rattle.answered.specs.Answered.{as_byte}

-- zeros past a list are the rest of a memory of zeros
drop_zeros : {A : Type 0} (z : A) (n k : ℕ) → drop n (replicate k z) ≡ replicate (k - n) z
drop_zeros z zero k = let e : k - 0 ≡ k = omega arith in ap (λ (j : ℕ). replicate j z) (sym e)
drop_zeros z (suc n) zero = let e : 0 - suc n ≡ 0 = omega arith in ap (λ (j : ℕ). replicate j z) (sym e)
drop_zeros z (suc n) (suc k) = let e : k - n ≡ suc k - suc n = omega arith in drop_zeros z n k ∙ ap (λ (j : ℕ). replicate j z) e

-- a list written over zeros is followed by zeros
pub over_zeros : {A : Type 0} (z : A) (n : ℕ) (l : List A) {m k : List A} → m ≡ replicate n z → k ≡ l ++ drop (length l) m → k ≡ padded z n l
over_zeros {A} z n l q e = e ∙ ((λ i. l ++ drop (length l) (q i)) ∙ ap (λ (r : List A). l ++ r) (drop_zeros z (length l) n))

-- bytes, one by one
pub bytes_at : (l : List ℕ) (j : ℕ) {v : ℕ} → v ≡ as_byte (get_or l j 0) → v ≡ get_or (map as_byte l) j 0
bytes_at [] j e = e
bytes_at (x ∷ l) zero e = e
bytes_at (x ∷ l) (suc j) e = bytes_at l j e

-- at least 32 machines stand in their table
pub machines_long : (t : List ℕ) → 32 ≤ length (machine_table t)
unfolding machine_table
machines_long t = omega (arith, length-append (machines_of (facts_by t)) (replicate (32 - length (machines_of (facts_by t))) 0), length-replicate {A = ℕ} (32 - length (machines_of (facts_by t))) 0)

-- zeros at the front of a memory, and zeros past it
zeros_first : (n : ℕ) (r : List ℕ) → take n (replicate n 0 ++ r) ≡ replicate n 0
zeros_first n r = take_at (replicate n 0) r n (length-replicate n 0)

zeros_long : (n : ℕ) (x : List ℕ) → n ≤ length x → length (replicate n 0 ++ drop n x) ≡ length x
zeros_long n x h = length-append (replicate n 0) (drop n x) ∙ omega (arith, length-replicate {A = ℕ} n 0, length-drop n x)

zeros_both : (n m : ℕ) → n ≤ m → replicate {A = ℕ} n 0 ++ replicate (m - n) 0 ≡ replicate m 0
zeros_both n m h = let d : n + (m - n) ≡ m = omega arith in replicate-append-replicate n (m - n) 0 ∙ ap (λ (j : ℕ). replicate {A = ℕ} j 0) d

front_cleared : (n : ℕ) (x : List ℕ) → n ≤ length x → take n (replicate n 0 ++ drop n x) ++ replicate (length (replicate n 0 ++ drop n x) - n) 0 ≡ replicate (length x) 0
front_cleared n x h = (λ i. zeros_first n (drop n x) i ++ replicate (zeros_long n x h i - n) 0) ∙ zeros_both n (length x) h

module _ (n : ℕ) (x : List ℕ) {x' x'' : List ℕ} (e : x' ≡ replicate (min n (length x)) 0 ++ drop (min n (length x)) x) (q : x'' ≡ take n x' ++ replicate (length x' - n) 0) where
  rest_long : n ≤ length x → x'' ≡ replicate (length x) 0
  rest_long h =
      let m : min n (length x) ≡ n = omega arith in
      let d : x' ≡ replicate n 0 ++ drop n x = e ∙ ap (λ (j : ℕ). replicate j 0 ++ drop j x) m in
      q ∙ (ap (λ (l : List ℕ). take n l ++ replicate (length l - n) 0) d ∙ front_cleared n x h)

  -- a memory that is all front
  rest_none : length x ≤ n → x'' ≡ replicate (length x) 0
  rest_none h =
      let m : min n (length x) ≡ length x = omega arith in
      let d : x' ≡ replicate (length x) 0 = e ∙ (ap (λ (j : ℕ). replicate j 0 ++ drop j x) m ∙ (ap (λ (l : List ℕ). replicate (length x) 0 ++ l) (drop_of_length-le x {i = length x} (omega arith)) ∙ append-nil (replicate (length x) 0))) in
      let l : length x' ≡ length x = ap length d ∙ length-replicate (length x) 0 in
      let z : length x' - n ≡ 0 = omega arith in
      q ∙ ((λ i. take_all n x' (omega (arith, l)) i ++ replicate (z i) 0) ∙ (append-nil x' ∙ d))

  pub rest_cleared : x'' ≡ replicate (length x) 0
  rest_cleared = go (dec_lt n (length x))
    where
      go : Dec (n < length x) → x'' ≡ replicate (length x) 0
      go (yes h) = rest_long (omega arith)
      go (no h) = rest_none (omega arith)
