-- The digits of a number put into a memory: the one digit of a number below ten, and the last digit after those of the tenth. Assumes nothing.
use mathlib.Core.Path.{◌≡◌, sym, ap, ◌∙◌}
use mathlib.Core.List.{List, [], ◌∷◌, ◌++◌}
use Prim.Native.Nat.{ℕ, ◌+◌, ◌/◌, ◌%◌, ◌^◌, ◌≤◌, ◌<◌}
use native.Mathlib.Omega.{arith}
use lib.ListN.{length, set, length-append}
use Rattle.written.specs.Written.{decimal}
use Rattle.written.proofs.laws.Decimal.{decimal_one, decimal_more}
use Rattle.written.specs.laws.Put.{Put, put_one, put_more, put_same, put_length}

pub one_long : (n : ℕ) → n < 10 → length (decimal n) ≡ 1
one_long n h = ap length (decimal_one n h)

pub more_long : (n : ℕ) → 10 ≤ n → n < 2 ^ 64 → length (decimal n) ≡ length (decimal (n / 10)) + 1
more_long n l h = ap length (decimal_more n l (omega arith)) ∙ length-append (decimal (n / 10)) ((48 + n % 10) ∷ [])

pub put_digit : (old : List ℕ) (at n d : ℕ) → n < 10 → d ≡ 48 + n → at < length old → Put old at (decimal n) (at + 1) (set old at d)
put_digit old at n d h e l = put_same (ap (λ (k : ℕ). k ∷ []) e ∙ sym (decimal_one n h)) (put_one old at d l)

pub put_last : {old mid : List ℕ} {at m : ℕ} (n d : ℕ) → 10 ≤ n → n < 2 ^ 64 → Put old at (decimal (n / 10)) m mid → d ≡ 48 + n % 10 → m < length old → Put old at (decimal n) (m + 1) (set mid m d)
put_last {mid = mid} {m = m} n d l h p e f =
    put_same (ap (λ (k : ℕ). decimal (n / 10) ++ (k ∷ [])) e ∙ sym (decimal_more n l (omega arith)))
    (put_more p (put_one mid m d (omega (arith, put_length p))))
