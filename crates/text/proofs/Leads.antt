-- The first byte of a character, told by comparing: the classes 19, 20 and 21 are ranges, and a byte in none of them that is no backslash and not plain begins no character. Assumes nothing.
use mathlib.Core.Bool.{Bool, true, false, and-false}
use mathlib.Core.Path.{◌≡◌, refl, sym, ap, ◌∙◌}
use Prim.Native.Nat.{ℕ, ◌≤◌, ◌<◌}
use native.Mathlib.Omega.{arith}
use lib.Dec.{leb, eqb, T}
use lib.ListN.{length, get_or}
use borrow.Author.Tests.{le-leb, lt-leb, eqb-true}
use Rattle.text.specs.Reading.{Text, pick, peek}
use Rattle.text.specs.Class.{class_of}
use Rattle.text.specs.Strings.{classed, character, code_of}
use Rattle.text.specs.declared.Code.TheVariants.{No}
use Rattle.text.specs.laws.Bytes.{agree, from, class_from}
use Rattle.text.specs.laws.Peek.{peek_at}
use Rattle.text.specs.laws.Plain.{own}
use Rattle.text.proofs.Coded.{by_class}
use Rattle.text.proofs.Quick.{no_plain}
use Rattle.text.proofs.Told.{no_backslash}

two_table : T (agree (λ b. eqb (class_of b) 19) (from 194 223) 0 256)
unfolding class_of pick
two_table = tt

three_table : T (agree (λ b. eqb (class_of b) 20) (from 224 239) 0 256)
unfolding class_of pick
three_table = tt

four_table : T (agree (λ b. eqb (class_of b) 21) (from 240 244) 0 256)
unfolding class_of pick
four_table = tt

-- inside a range, below it and above it
inside : (lo hi b : ℕ) → lo ≤ b → b ≤ hi → from lo hi b ≡ true
inside lo hi b h g = rw (le-leb lo b h, le-leb b hi g)

below : (lo hi b : ℕ) → b < lo → from lo hi b ≡ false
below lo hi b h = rw (lt-leb lo b h)

above : (lo hi b : ℕ) → hi < b → from lo hi b ≡ false
above lo hi b h = rw (lt-leb b hi h) (and-false (leb lo b))

-- b is the byte at i
module _ (s : Text) (i : ℕ) (l : i < length s) {b : ℕ} (e : b ≡ get_or s i 0) where
  its_class : {k : ℕ} → eqb (class_of b) k ≡ true → k ≡ class_of (peek s i)
  its_class {k} h = sym (eqb-true (class_of b) k h) ∙ ap class_of (e ∙ peek_at s i l)

  pub leads_two : 194 ≤ b → b < 224 → 19 ≡ class_of (peek s i)
  leads_two h g = its_class (class_from 19 194 223 tt tt two_table b ∙ inside 194 223 b h (omega arith))

  pub leads_three : 224 ≤ b → b < 240 → 20 ≡ class_of (peek s i)
  leads_three h g = its_class (class_from 20 224 239 tt tt three_table b ∙ inside 224 239 b h (omega arith))

  pub leads_four : 240 ≤ b → b < 245 → 21 ≡ class_of (peek s i)
  leads_four h g = its_class (class_from 21 240 244 tt tt four_table b ∙ inside 240 244 b h (omega arith))

  leads_none : (b ≡ 92 → ⊥) → {r : Bool} → r ≡ own b → r ≡ false → eqb (class_of b) 19 ≡ false → eqb (class_of b) 20 ≡ false → eqb (class_of b) 21 ≡ false → No i ≡ code_of (character s i)
  unfolding classed pick code_of
  leads_none n ep hp h19 h20 h21 =
      by_class s i {k = class_of b} (ap class_of (e ∙ peek_at s i l)) (simp (no_backslash b refl n, h19, h20, h21, no_plain b refl ep hp))

  pub leads_below : (b ≡ 92 → ⊥) → {r : Bool} → r ≡ own b → r ≡ false → b < 194 → No i ≡ code_of (character s i)
  leads_below n ep hp h =
      leads_none n ep hp (class_from 19 194 223 tt tt two_table b ∙ below 194 223 b h) (class_from 20 224 239 tt tt three_table b ∙ below 224 239 b (omega arith)) (class_from 21 240 244 tt tt four_table b ∙ below 240 244 b (omega arith))

  pub leads_above : (b ≡ 92 → ⊥) → {r : Bool} → r ≡ own b → r ≡ false → 245 ≤ b → No i ≡ code_of (character s i)
  leads_above n ep hp h =
      leads_none n ep hp (class_from 19 194 223 tt tt two_table b ∙ above 194 223 b (omega arith)) (class_from 20 224 239 tt tt three_table b ∙ above 224 239 b (omega arith)) (class_from 21 240 244 tt tt four_table b ∙ above 240 244 b (omega arith))
