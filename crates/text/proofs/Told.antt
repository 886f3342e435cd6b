-- The values of hexadecimal digits and of escapes, told by comparing. Assumes nothing.
use mathlib.Core.Bool.{false, ◌&&◌}
use mathlib.Core.Path.{◌≡◌, sym, ap, ◌∙◌}
use Prim.Native.Nat.{ℕ, ◌-◌, ◌≤◌, ◌<◌}
use native.Mathlib.Omega.{arith}
use native.Mathlib.Decide.{dec_lt}
use lib.Dec.{leb, eqb, T}
use lib.ListN.{length, get_or}
use borrow.Author.Tests.{le-leb, lt-leb}
use Rattle.text.specs.Reading.{Text, pick, peek}
use Rattle.text.specs.Class.{class_of}
use Rattle.text.specs.Strings.{hex_of, escape_of}
use Rattle.text.specs.laws.Bytes.{agree, from, class_from}
use Rattle.text.specs.laws.Peek.{peek_at}

module _ (b : ℕ) where
  -- below the digits, between them and the capitals, between these and the small letters, and past them
  pub hex_below : b < 48 → 16 ≡ hex_of b
  unfolding hex_of pick
  hex_below h = sym (rw (lt-leb 48 b h, lt-leb 65 b (omega arith), lt-leb 97 b (omega arith)))

  pub hex_digit : 48 ≤ b → b < 58 → b - 48 ≡ hex_of b
  unfolding hex_of pick
  hex_digit h l = sym (rw (le-leb 48 b h, le-leb b 57 (omega arith)))

  pub hex_between : 58 ≤ b → b < 65 → 16 ≡ hex_of b
  unfolding hex_of pick
  hex_between h l = sym (rw (le-leb 48 b (omega arith), lt-leb b 57 (omega arith), lt-leb 65 b l, lt-leb 97 b (omega arith)))

  pub hex_capital : 65 ≤ b → b < 71 → b - 55 ≡ hex_of b
  unfolding hex_of pick
  hex_capital h l = sym (rw (le-leb 48 b (omega arith), lt-leb b 57 (omega arith), le-leb 65 b h, le-leb b 70 (omega arith)))

  pub hex_among : 71 ≤ b → b < 97 → 16 ≡ hex_of b
  unfolding hex_of pick
  hex_among h l = sym (rw (le-leb 48 b (omega arith), lt-leb b 57 (omega arith), le-leb 65 b (omega arith), lt-leb b 70 (omega arith), lt-leb 97 b l))

  pub hex_small : 97 ≤ b → b < 103 → b - 87 ≡ hex_of b
  unfolding hex_of pick
  hex_small h l = sym (rw (le-leb 48 b (omega arith), lt-leb b 57 (omega arith), le-leb 65 b (omega arith), lt-leb b 70 (omega arith), le-leb 97 b h, le-leb b 102 (omega arith)))

  pub hex_past : 103 ≤ b → 16 ≡ hex_of b
  unfolding hex_of pick
  hex_past h = sym (rw (le-leb 48 b (omega arith), lt-leb b 57 (omega arith), le-leb 65 b (omega arith), lt-leb b 70 (omega arith), le-leb 97 b (omega arith), lt-leb b 102 (omega arith)))

-- a range of one byte does not hold another
lone : (k b v w : ℕ) → (b ≡ k → ⊥) → pick (leb k b) (pick (leb b k) v w) w ≡ w
unfolding pick
lone k b v w n = go (dec_lt b k)
  where
    go : Dec (b < k) → pick (leb k b) (pick (leb b k) v w) w ≡ w
    go (yes l) = rw (lt-leb k b l)
    go (no m) = rw (le-leb k b (omega arith), lt-leb b k (omega (arith, n)))

pub no_escape : (b : ℕ) → (b ≡ 34 → ⊥) → (b ≡ 47 → ⊥) → (b ≡ 92 → ⊥) → (b ≡ 98 → ⊥) → (b ≡ 102 → ⊥) → (b ≡ 110 → ⊥) → (b ≡ 114 → ⊥) → (b ≡ 116 → ⊥) → 0 ≡ escape_of b
unfolding escape_of
no_escape b n1 n2 n3 n4 n5 n6 n7 n8 =
    sym (lone 34 b 34 _ n1 ∙ lone 47 b 47 _ n2 ∙ lone 92 b 92 _ n3 ∙ lone 98 b 8 _ n4 ∙ lone 102 b 12 _ n5 ∙ lone 110 b 10 _ n6 ∙ lone 114 b 13 _ n7 ∙ lone 116 b 9 _ n8)

-- the backslash alone has class 3
backslash_table : T (agree (λ b. eqb (class_of b) 3) (from 92 92) 0 256)
unfolding class_of pick
backslash_table = tt

pub backslash : (s : Text) (i : ℕ) → i < length s → get_or s i 0 ≡ 92 → 3 ≡ class_of (peek s i)
unfolding class_of pick
backslash s i l e = ap class_of (sym e ∙ peek_at s i l)

pub no_backslash : (b : ℕ) {k : ℕ} → k ≡ class_of b → (b ≡ 92 → ⊥) → eqb k 3 ≡ false
no_backslash b e n = ap (λ (k : ℕ). eqb k 3) e ∙ class_from 3 92 92 tt tt backslash_table b ∙ go (dec_lt b 92)
  where
    go : Dec (b < 92) → (leb 92 b && leb b 92) ≡ false
    go (yes l) = rw (lt-leb 92 b l)
    go (no m) = rw (le-leb 92 b (omega arith), lt-leb b 92 (omega (arith, n)))
