-- What the code tells of a byte by comparing agrees with the byte's class: each such test is held against the class of all 256 bytes, by computing.
-- Assumes nothing.
use mathlib.Core.Path.{◌≡◌, refl, sym, ap, ◌∙◌}
use mathlib.Core.Bool.{Bool, true, false, not, ◌&&◌, ◌||◌}
use Prim.Native.Nat.{ℕ, ◌+◌, ◌≤◌, ◌<◌}
use native.Mathlib.Omega.{arith}
use lib.ListN.{length, get_or}
use lib.Dec.{leb, ltb, eqb, T}
use borrow.Author.Tests.{leb-true, leb-false, ltb-true, ltb-false, le-leb, lt-leb, le-ltb, lt-ltb, eq-eqb, ne_eqb}
use Rattle.text.specs.Reading.{Text, done, pick, peek}
use Rattle.text.specs.Class.{class_of, whitespace, digit}
use Rattle.text.specs.Strings.{character}
use Rattle.text.specs.laws.Peek.{peek_at}
use Rattle.text.specs.laws.Plain.{own}
use Rattle.text.specs.laws.Bytes.{agree, classes}
use Rattle.text.specs.laws.ClassTable.{white_bytes, digit_bytes}
use Rattle.text.specs.laws.Strings.{character_plain}

-- 32 to 127 without the quote and the backslash
abbrev quick : ℕ → Bool
quick b = leb 32 b && (leb b 127 && (not (eqb b 34) && not (eqb b 92)))

quick_table : T (agree own quick 0 256)
unfolding class_of pick
quick_table = tt

quick_bytes : (b : ℕ) → own b ≡ quick b
quick_bytes = classes (λ k. leb 4 k && ltb k 18) quick quick_table (λ b l. rw (le-leb 32 b (omega arith), lt-leb b 127 (omega arith)))

-- each way through `plain`
module _ (b : ℕ) where
  pub low_byte : b < 32 → false ≡ own b
  low_byte h = let q : quick b ≡ false = rw (lt-leb 32 b h) in sym (quick_bytes b ∙ q)

  pub high_byte : 127 < b → false ≡ own b
  high_byte h = let q : quick b ≡ false = rw (le-leb 32 b (omega arith), lt-leb b 127 h) in sym (quick_bytes b ∙ q)

  pub quote_byte : b ≡ 34 → not (eqb b 34) ≡ own b
  quote_byte h = let q : quick b ≡ not (eqb b 34) = rw h in sym (quick_bytes b ∙ q)

  pub other_byte : 32 ≤ b → b ≤ 127 → (b ≡ 34 → ⊥) → not (eqb b 92) ≡ own b
  other_byte l h n = let q : quick b ≡ not (eqb b 92) = rw (le-leb 32 b l, le-leb b 127 h, ne_eqb b 34 n) in sym (quick_bytes b ∙ q)

  -- no whitespace is above the space
  pub no_white : 32 < b → false ≡ whitespace b
  unfolding whitespace
  no_white h = sym (white_bytes b ∙ rw (ne_eqb b 9 (λ (e : b ≡ 9). omega arith), ne_eqb b 10 (λ (e : b ≡ 10). omega arith), ne_eqb b 13 (λ (e : b ≡ 13). omega arith), ne_eqb b 32 (λ (e : b ≡ 32). omega arith)))

  -- the first, the second, and one of the last two
  pub white_tab : b ≡ 9 → true ≡ whitespace b
  unfolding whitespace
  white_tab h = sym (white_bytes b ∙ rw (eq-eqb b 9 h))

  pub white_line : (b ≡ 9 → ⊥) → b ≡ 10 → true ≡ whitespace b
  unfolding whitespace
  white_line n h = sym (white_bytes b ∙ rw (ne_eqb b 9 n, eq-eqb b 10 h))

  pub white_last : (b ≡ 9 → ⊥) → (b ≡ 10 → ⊥) → (eqb b 13 || eqb b 32) ≡ whitespace b
  unfolding whitespace
  white_last n m = sym (white_bytes b ∙ rw (ne_eqb b 9 n, ne_eqb b 10 m))

  -- no digit is below 48, and from there on those up to 57 are
  pub below_digits : b < 48 → false ≡ digit b
  unfolding digit
  below_digits h = sym (digit_bytes b ∙ rw (lt-leb 48 b h))

  pub to_nine : 48 ≤ b → leb b 57 ≡ digit b
  unfolding digit
  to_nine h = sym (digit_bytes b ∙ rw (le-leb 48 b h))

between : (k : ℕ) → (leb 4 k && ltb k 18) ≡ true → (4 ≤ k) × (k < 18)
between k = go (leb 4 k) refl
  where
    go : (x : Bool) → leb 4 k ≡ x → (x && ltb k 18) ≡ true → (4 ≤ k) × (k < 18)
    go true p h = (leb-true 4 k p, ltb-true k 18 h)
    go false p h = let z : ◌≡◌ {A = ℕ} 0 1 = cc in absurd (omega arith)

outside : (k : ℕ) → (leb 4 k && ltb k 18) ≡ false → (ltb k 4 || ltb 17 k) ≡ true
outside k = go (leb 4 k) refl
  where
    go : (x : Bool) → leb 4 k ≡ x → (x && ltb k 18) ≡ false → (ltb k 4 || ltb 17 k) ≡ true
    go true p h = let l : 18 ≤ k = ltb-false k 18 h in rw (le-ltb k 4 (leb-true 4 k p), lt-ltb 17 k (omega arith))
    go false p h = rw (lt-ltb k 4 (leb-false 4 k p))

-- a byte that is a character by itself
pub plain_at : (s : Text) (i : ℕ) → i < length s → {r : Bool} → r ≡ own (get_or s i 0) → r ≡ true → character s i ≡ done (peek s i) (i + 1)
plain_at s i l e h =
    let w = between (class_of (get_or s i 0)) (sym e ∙ h) in
    character_plain s i (ap class_of (peek_at s i l)) w.0 w.1

-- and one that is none, as it is read
pub other_at : (s : Text) (i : ℕ) → i < length s → {r : Bool} → r ≡ own (get_or s i 0) → r ≡ false → own (peek s i) ≡ false
other_at s i l e h = ap own (sym (peek_at s i l)) ∙ sym e ∙ h

pub other_was : (s : Text) (i : ℕ) → i < length s → own (peek s i) ≡ false → own (get_or s i 0) ≡ false
other_was s i l h = ap own (peek_at s i l) ∙ h

-- a byte of the class k that is none
pub no_plain : (b : ℕ) {k : ℕ} {r : Bool} → k ≡ class_of b → r ≡ own b → r ≡ false → (ltb k 4 || ltb 17 k) ≡ true
no_plain b f e h = ap (λ (k : ℕ). ltb k 4 || ltb 17 k) f ∙ outside (class_of b) (sym e ∙ h)
