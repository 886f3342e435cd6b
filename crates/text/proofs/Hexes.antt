-- An escape of a backslash and a u is told by its digits as numbers: each way out of the code that tells it says what reading the character there gives. Assumes nothing.
use mathlib.Core.Path.{◌≡◌, refl, sym, ap, ◌∙◌}
use mathlib.Core.Bool.{Bool, true, false, ◌&&◌}
use Prim.Native.Nat.{ℕ, ◌+◌, ◌*◌, ◌/◌, ◌%◌, ◌-◌, ◌≤◌, ◌<◌}
use native.Mathlib.Omega.{arith}
use native.Mathlib.Decide.{ℕ_discrete}
use lib.ListN.{length, get_or}
use lib.Dec.{ltb, eqb}
use borrow.Author.Tests.{lt-ltb, le-ltb, eq-eqb, ne_eqb, eqb-true}
use Rattle.text.specs.Reading.{Text, Out, done, bad, deep, pick, peek}
use Rattle.text.specs.Strings.{hex_of, character}
use Rattle.text.specs.Escapes.{packed, long_at}
use Rattle.text.specs.laws.Readers.{pick_true, pick_false, at_done_le}
use Rattle.text.specs.laws.Peek.{found_lt, peek_at}
use Rattle.text.specs.laws.Strings.{character_bounded}
use Rattle.text.specs.laws.Escapes.{digits_at, Digits, digits_in, digits_are, Told, alone, twice, told, alone_reads, twice_reads, long_packed}

-- a digit of the text, whatever is said past the end
pub digit_found : (s : Text) (i : ℕ) {b h : ℕ} → b ≡ get_or s i 0 → h ≡ hex_of b → i < length s → h ≡ hex_of (peek s i)
digit_found s i e f l = f ∙ ap hex_of (e ∙ peek_at s i l)

-- h is the value x of a digit, or of none
is_digit : {h x : ℕ} → h ≡ x → h ≤ 15 → ltb x 16 ≡ true
is_digit {h} {x} e l = lt-ltb x 16 (omega arith)

no_digit : {h x : ℕ} → h ≡ x → 15 < h → ltb x 16 ≡ false
no_digit {h} {x} e l = le-ltb x 16 (omega arith)

-- where one of the last two is none, the first two do not matter
beyond : (x y : Bool) {n : ℕ} → n ≡ 65536 → 65536 ≡ pick x (pick y n 65536) 65536
unfolding pick
beyond true true e = sym e
beyond true false e = refl
beyond false y e = refl

both_true : (x y : Bool) → (x && y) ≡ true → (x ≡ true) × (y ≡ true)
both_true true y e = (refl, e)
both_true false y e = let z : ◌≡◌ {A = ℕ} 0 1 = cc in absurd (omega arith)

zero_digit : (s : Text) (i : ℕ) → i < length s → eqb (get_or s i 0) 48 ≡ true → 0 ≡ hex_of (peek s i)
unfolding hex_of pick
zero_digit s i l e = ap hex_of (sym (eqb-true _ _ e) ∙ peek_at s i l)

-- the digits' number, as it is told from the last two on: a, b, c and d are the values of the four
module _ (s : Text) (i : ℕ) {c : ℕ} (ec : c ≡ hex_of (peek s (i + 2))) where
  pub third_none : 15 < c → 65536 ≡ digits_at s i
  unfolding digits_at
  third_none h = beyond _ _ (pick_false _ _ (no_digit ec h))

  module _ (lc : c ≤ 15) {d : ℕ} (ed : d ≡ hex_of (peek s (i + 3))) where
    pub fourth_none : 15 < d → 65536 ≡ digits_at s i
    unfolding digits_at
    fourth_none h = beyond _ _ (pick_true _ _ (is_digit ec lc) ∙ pick_false _ _ (no_digit ed h))

    module _ (ld : d ≤ 15) where
      pub all_four : {a b : ℕ} → a ≡ hex_of (peek s i) → a ≤ 15 → b ≡ hex_of (peek s (i + 1)) → b ≤ 15 → (a * 16 + b) * 256 + (c * 16 + d) ≡ digits_at s i
      all_four ea la eb lb = digits_are s i (record { first = omega arith; second = omega arith; third = omega arith; fourth = omega arith; number = omega arith })

      -- the first two bytes are 0
      pub zeros_before : i + 4 ≤ length s → {r : Bool} → r ≡ (eqb (get_or s i 0) 48 && eqb (get_or s (i + 1) 0) 48) → r ≡ true → c * 16 + d ≡ digits_at s i
      zeros_before l e h =
          let q : c * 16 + d ≡ (0 * 16 + 0) * 256 + (c * 16 + d) = omega arith in
          let m : i < length s = omega arith in
          let n : i + 1 < length s = omega arith in
          let z : 0 ≤ 15 = omega arith in
          let w = both_true _ _ (sym e ∙ h) in
          q ∙ all_four (zero_digit s i m w.0) z (zero_digit s (i + 1) n w.1) z

module _ (s : Text) (i : ℕ) {a : ℕ} (ea : a ≡ hex_of (peek s i)) where
  pub first_none : 15 < a → 65536 ≡ digits_at s i
  unfolding digits_at
  first_none h = sym (pick_false _ _ (no_digit ea h))

  pub second_none : a ≤ 15 → {b : ℕ} → b ≡ hex_of (peek s (i + 1)) → 15 < b → 65536 ≡ digits_at s i
  unfolding digits_at
  second_none la eb h = sym (pick_true _ _ (is_digit ea la) ∙ pick_false _ _ (no_digit eb h))

-- the number of four digits is below 65536
few : {s : Text} {i v : ℕ} → Digits s i v → v < 65536
few d = omega (arith, d.first, d.second, d.third, d.fourth, d.number)

-- a number that was told and the number of the digits are one
one : {s : Text} {i v x : ℕ} → v ≡ digits_at s i → Digits s i x → v ≡ x
one {s} {i} e d = e ∙ sym (digits_are s i d)

module _ (s : Text) (i : ℕ) (hb : peek s i ≡ 92) (hu : peek s (i + 1) ≡ 117) where
  pub escape_in : i < length s
  escape_in = found_lt s i refl hb (omega arith)

  -- no such escape is told where none is read
  no_long : ((x j : ℕ) → Told s i x j → j ≤ length s → ⊥) → 0 ≡ long_at s i
  unfolding packed
  no_long n = go (character s i) refl ∙ sym (long_packed s i hb hu)
    where
      go : (o : Out ℕ) → character s i ≡ o → 0 ≡ packed i o
      go (done x j) e = absurd (n x j (told s i hb hu e) (at_done_le (character_bounded s i (omega (arith, escape_in))) e))
      go (bad p) e = refl
      go (deep p) e = refl

  pub long_cut : length s < i + 6 → 0 ≡ long_at s i
  long_cut l = no_long no
    where
      no : (x j : ℕ) → Told s i x j → j ≤ length s → ⊥
      no x j (alone d n m q) h = omega (arith, q)
      no x j (twice d e b u f g y q) h = omega (arith, q)

  -- v is the number of the digits
  module _ {v : ℕ} (ev : v ≡ digits_at s (i + 2)) where
    pub long_no_digits : 65535 < v → 0 ≡ long_at s i
    long_no_digits l = no_long no
      where
        no : (x j : ℕ) → Told s i x j → j ≤ length s → ⊥
        no x j (alone d n m q) h = omega (arith, one ev d, few d)
        no x j (twice d e b u f g y q) h = omega (arith, one ev d, few d)

    pub long_alone : v ≤ 65535 → (v / 2048 ≡ 27 → ⊥) → v * 16 + 6 ≡ long_at s i
    unfolding packed
    long_alone l n =
        let z : (i + 6 - i) ≡ 6 = omega arith in
        sym (long_packed s i hb hu
        ∙ ap (packed i) (alone_reads s i hb hu (digits_in s (i + 2) ev (omega arith)) (λ (q : v / 1024 ≡ 54). n (omega arith)) (λ (q : v / 1024 ≡ 55). n (omega arith)))
        ∙ ap (λ (k : ℕ). v * 16 + k) z)

    pub long_low : v / 2048 ≡ 27 → (v / 1024 ≡ 54 → ⊥) → 0 ≡ long_at s i
    long_low e n = no_long no
      where
        no : (x j : ℕ) → Told s i x j → j ≤ length s → ⊥
        no x j (alone d k m q) h = let z : v ≡ x = one ev d in m (omega (arith, n))
        no x j (twice {v = w} d f b u g y p q) h = let z : v ≡ w = one ev d in n (omega (arith, f))

    -- a high surrogate
    module _ (e54 : v / 1024 ≡ 54) where
      pub twice_cut : length s < i + 12 → 0 ≡ long_at s i
      twice_cut l = no_long no
        where
          no : (x j : ℕ) → Told s i x j → j ≤ length s → ⊥
          no x j (alone d k m q) h = let z : v ≡ x = one ev d in k (omega arith)
          no x j (twice d f b u g y p q) h = omega (arith, q)

      pub twice_backslash : (peek s (i + 6) ≡ 92 → ⊥) → 0 ≡ long_at s i
      twice_backslash n = no_long no
        where
          no : (x j : ℕ) → Told s i x j → j ≤ length s → ⊥
          no x j (alone d k m q) h = let z : v ≡ x = one ev d in k (omega arith)
          no x j (twice d f b u g y p q) h = n b

      pub twice_u : (peek s (i + 7) ≡ 117 → ⊥) → 0 ≡ long_at s i
      twice_u n = no_long no
        where
          no : (x j : ℕ) → Told s i x j → j ≤ length s → ⊥
          no x j (alone d k m q) h = let z : v ≡ x = one ev d in k (omega arith)
          no x j (twice d f b u g y p q) h = n u

      -- w is the number of the digits after it
      module _ {w : ℕ} (ew : w ≡ digits_at s (i + 8)) where
        pub twice_none : (w / 1024 ≡ 55 → ⊥) → 0 ≡ long_at s i
        twice_none n = no_long no
          where
            no : (x j : ℕ) → Told s i x j → j ≤ length s → ⊥
            no x j (alone d k m q) h = let z : v ≡ x = one ev d in k (omega arith)
            no x j (twice {w = y} d f b u g r p q) h = let z : w ≡ y = one ew g in n (omega (arith, r))

        pub twice_long : peek s (i + 6) ≡ 92 → peek s (i + 7) ≡ 117 → w / 1024 ≡ 55 → (65536 + v % 1024 * 1024 + w % 1024) * 16 + 12 ≡ long_at s i
        unfolding packed
        twice_long b u r =
            let z : (i + 12 - i) ≡ 12 = omega arith in
            sym (long_packed s i hb hu
            ∙ ap (packed i) (twice_reads s i hb hu (digits_in s (i + 2) ev (omega arith)) e54 b u (digits_in s (i + 8) ew (omega arith)) r)
            ∙ ap (λ (k : ℕ). (65536 + v % 1024 * 1024 + w % 1024) * 16 + k) z)

-- a backslash alone: it stands in the text, and without a u, or cut off by the end, it begins no such escape
module _ (s : Text) (i : ℕ) (hb : peek s i ≡ 92) where
  pub begins_in : i < length s
  begins_in = found_lt s i refl hb (omega arith)

  pub long_other : (peek s (i + 1) ≡ 117 → ⊥) → 0 ≡ long_at s i
  unfolding long_at
  long_other n = sym (pick_true _ _ (eq-eqb _ _ hb) ∙ pick_false _ _ (ne_eqb _ _ n))

  pub long_ends : length s < i + 6 → 0 ≡ long_at s i
  long_ends l = go (ℕ_discrete (peek s (i + 1)) 117)
    where
      go : Dec (peek s (i + 1) ≡ 117) → 0 ≡ long_at s i
      go (yes u) = long_cut s i hb u l
      go (no n) = long_other n
