-- What the decimal of a number means: read back it is the number, each byte is a digit, and no zero stands in front but that of 0. So no two numbers
-- are written alike, and no two whole numbers. Assumes nothing.
use Rattle.std.specs.Prelude.{◌≡◌, refl, List, [], ◌∷◌, ◌++◌, ℕ, zero, suc, ◌+◌, ◌-◌, ◌*◌, ◌/◌, ◌%◌, ◌^◌, ◌≤◌, ◌<◌, ℤ, pos, negsuc, length, drop, get_or}
use Rattle.std.proofs.Common.{sym, ap, ◌∙◌, arith, length-append, SFits}
use Rattle.std.proofs.Math.ListN.{get_or-append}
use Rattle.std.specs.Int.{w64}
use Rattle.manifest.specs.Statements.{All, all_none, all_one}
use Rattle.written.specs.Written.{digits_in, decimal, signed}
use Rattle.written.proofs.laws.Decimal.{either, in_one, in_more, tenth}

-- ---- read back

-- the number that digits say, after those that say a
unfoldable pub value_after : ℕ → List ℕ → ℕ
value_after a [] = a
value_after a (b ∷ w) = value_after (10 * a + (b - 48)) w

unfoldable pub value : List ℕ → ℕ
value w = value_after 0 w

one_more : (a : ℕ) (w : List ℕ) (b : ℕ) → value_after a (w ++ (b ∷ [])) ≡ 10 * value_after a w + (b - 48)
unfolding value_after
one_more a [] b = refl
one_more a (d ∷ w) b = one_more (10 * a + (d - 48)) w b

value_one : (k n : ℕ) → n < 10 → value (digits_in (suc k) n) ≡ n
unfolding value value_after
value_one k n h = let e : 10 * 0 + (48 + n - 48) ≡ n = omega arith in ap value (in_one k n h) ∙ e

value_in : (k n : ℕ) → n < 10 ^ suc k → value (digits_in (suc k) n) ≡ n
unfolding value
value_in zero n h = let s : n < 10 = h in value_one 0 n s
value_in (suc k) n h =
    either n (value_one (suc k) n)
    (λ l.
    let r : value (digits_in (suc k) (n / 10)) ≡ n / 10 = value_in k (n / 10) (tenth (suc k) n h) in
    let e : 10 * value (digits_in (suc k) (n / 10)) + (48 + n % 10 - 48) ≡ n = omega arith in
    ap value (in_more (suc k) n l) ∙ (one_more 0 (digits_in (suc k) (n / 10)) (48 + n % 10) ∙ e))

pub decimal_value : (n : ℕ) → n < 10 ^ 20 → value (decimal n) ≡ n
unfolding decimal
decimal_value n h = value_in 19 n h

-- no two numbers are written alike
pub decimal_once : (m n : ℕ) → m < 10 ^ 20 → n < 10 ^ 20 → decimal m ≡ decimal n → m ≡ n
decimal_once m n g h e = sym (decimal_value m g) ∙ (ap value e ∙ decimal_value n h)

-- ---- digits

abbrev pub Digit : ℕ → Type 0
Digit b = (48 ≤ b) × (b ≤ 57)

digit : (d : ℕ) → d < 10 → Digit (48 + d)
digit d h = (omega arith, omega arith)

all_more : {w : List ℕ} {b : ℕ} → All Digit w → Digit b → All Digit (w ++ (b ∷ []))
all_more all_none d = all_one d all_none
all_more (all_one a l) d = all_one a (all_more l d)

digits_in_lem : (k n : ℕ) → All Digit (digits_in k n)
unfolding digits_in
digits_in_lem zero n = all_none
digits_in_lem (suc k) n =
    either n
    (λ s. rw (in_one k n s) (all_one (digit n s) all_none))
    (λ l. rw (in_more k n l) (all_more (digits_in_lem k (n / 10)) (digit (n % 10) (omega arith))))

-- each byte is a digit
pub decimal_digits : (n : ℕ) → All Digit (decimal n)
unfolding decimal
decimal_digits n = digits_in_lem 20 n

-- ---- in front

front_one : (k n : ℕ) → n < 10 → get_or (digits_in (suc k) n) 0 0 ≡ 48 + n
front_one k n h = ap (λ (w : List ℕ). get_or w 0 0) (in_one k n h)

some : (k n : ℕ) → 0 < length (digits_in (suc k) n)
some k n =
    either n
    (λ s. omega (arith, ap length (in_one k n s)))
    (λ l. omega (arith, ap length (in_more k n l), length-append (digits_in k (n / 10)) ((48 + n % 10) ∷ [])))

front_in : (k n : ℕ) → 0 < n → n < 10 ^ suc k → 48 < get_or (digits_in (suc k) n) 0 0
front_in zero n p h = let s : n < 10 = h in omega (arith, front_one 0 n s)
front_in (suc k) n p h =
    either n
    (λ s. omega (arith, front_one (suc k) n s))
    (λ l.
    let r : 48 < get_or (digits_in (suc k) (n / 10)) 0 0 = front_in k (n / 10) (omega arith) (tenth (suc k) n h) in
    let e : get_or (digits_in (suc (suc k)) n) 0 0 ≡ get_or (digits_in (suc k) (n / 10)) 0 0 =
    ap (λ (w : List ℕ). get_or w 0 0) (in_more (suc k) n l) ∙ get_or-append (digits_in (suc k) (n / 10)) ((48 + n % 10) ∷ []) 0 0 (some k (n / 10)) in
    omega arith)

-- no zero stands in front but that of 0
pub decimal_front : (n : ℕ) → 0 < n → n < 10 ^ 20 → 48 < get_or (decimal n) 0 0
unfolding decimal
decimal_front n p h = front_in 19 n p h

-- ---- whole numbers

-- no number starts with a minus
unsigned : (n : ℕ) (w : List ℕ) → decimal n ≡ 45 ∷ w → ⊥
unsigned n w e = never (rw e at (decimal_digits n))
  where
    never : All Digit (45 ∷ w) → ⊥
    never (all_one d l) = omega arith

-- no two whole numbers of 64 bits are written alike
pub signed_once : (y z : ℤ) → SFits w64 y → SFits w64 z → signed y ≡ signed z → y ≡ z
unfolding signed
signed_once (pos m) (pos n) f g e = ap pos (decimal_once m n (omega (arith, f.sfits)) (omega (arith, g.sfits)) e)
signed_once (pos m) (negsuc n) f g e = absurd (unsigned m _ e)
signed_once (negsuc m) (pos n) f g e = absurd (unsigned n _ (sym e))
signed_once (negsuc m) (negsuc n) f g e =
    let q : decimal (suc m) ≡ decimal (suc n) = ap (drop 1) e in
    let p : suc m ≡ suc n = decimal_once (suc m) (suc n) (omega (arith, f.sfits)) (omega (arith, g.sfits)) q in
    let r : m ≡ n = omega arith in
    ap negsuc r
