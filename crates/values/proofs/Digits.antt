-- The laws of the loops over the characters of a number, and of the range of 64 bits. Assumes nothing.
use mathlib.Core.Path.{◌≡◌, refl, sym, ap, ◌∙◌}
use mathlib.Core.Bool.{Bool, true, false, ◌||◌}
use mathlib.Core.List.{[], ◌∷◌}
use Prim.Native.Nat.{ℕ, zero, suc, ◌+◌, ◌-◌, ◌*◌, ◌^◌, ◌≤◌, ◌<◌, min}
use native.Mathlib.Omega.{arith}
use native.Mathlib.Nat.{le_refl}
use native.Mathlib.Numerals.{add-one}
use native.Mathlib.Decide.{dec_lt}
use lib.ListN.{length, get_or}
use lib.Seq.{drop-cons}
use lib.Dec.{eqb}
use lib.IntN.{ℤ, pos, negsuc, neg_ℤ}
use mir.Syntax.{w64}
use mir.Val.{to_z}
use mir.Facts.{to_z_pos, to_z-neg}
use borrow.Author.Tests.{eq-eqb, ne_eqb, lt-ltb, le-ltb}
use Rattle.text.specs.Reading.{Text, done, next, pick, peek, part, scan}
use Rattle.text.specs.Class.{class_of, digit}
use Rattle.text.specs.Numbers.{minus, int, rest, written, number}
use Rattle.text.specs.declared.Scan.{Scan}
use Rattle.text.specs.declared.Scan.TheVariants.{Done}
use Rattle.text.specs.laws.Peek.{peek_at, peek_end}
use Rattle.values.specs.Integer.{whole, broken, decimal, signed, integer, ranged, integer_in, integer_at}
use Rattle.values.specs.declared.Integer.{Integer}
use Rattle.values.specs.declared.Integer.TheVariants.{In, Below, Above, None}
use Rattle.text.specs.laws.Readers.{next_inv, pick_true, pick_false, done_of, done_at, at_done_le}
use Rattle.text.specs.laws.Numbers.{number_bounded}
use Rattle.values.specs.laws.Outs.{scan_done, Stops}
use Rattle.values.specs.laws.Shapes.{no_number}
use Rattle.values.specs.laws.Standing.{integer_stops}

-- ---- the bytes from i up to j

pub part_none : (s : Text) (i j : ℕ) → j ≤ i → part s i j ≡ []
unfolding part
part_none s i j h = let z : j - i ≡ 0 = omega arith in rw z

pub part_some : (s : Text) (i j : ℕ) → i < j → j ≤ length s → part s i j ≡ get_or s i 0 ∷ part s (i + 1) j
unfolding part
part_some s i j h l =
    let z : j - i ≡ suc (j - (i + 1)) = omega arith in
    let m : i < length s = omega arith in
    rw (drop-cons s i 0 m, z, add-one)

-- ---- a point or an e among them

pub broken_end : (s : Text) (i j : ℕ) {r : Bool} → broken (part s i j) ≡ r → j ≤ i → false ≡ r
unfolding broken
broken_end s i j e h = sym (ap broken (part_none s i j h)) ∙ e

module _ (s : Text) (i j : ℕ) {r : Bool} (inv : broken (part s i j) ≡ r) (h : i < j) (l : j ≤ length s) where
  broken_step : ((eqb (get_or s i 0) 46 || (eqb (get_or s i 0) 101 || eqb (get_or s i 0) 69)) || broken (part s (i + 1) j)) ≡ r
  unfolding broken
  broken_step = sym (ap broken (part_some s i j h l)) ∙ inv

  pub broken_here : (eqb (get_or s i 0) 46 || (eqb (get_or s i 0) 101 || eqb (get_or s i 0) 69)) ≡ true → true ≡ r
  broken_here e = ap (λ (t : Bool). t || broken (part s (i + 1) j)) (sym e) ∙ broken_step

  pub broken_more : (eqb (get_or s i 0) 46 || (eqb (get_or s i 0) 101 || eqb (get_or s i 0) 69)) ≡ false → broken (part s (i + 1) j) ≡ r
  broken_more e = ap (λ (t : Bool). t || broken (part s (i + 1) j)) (sym e) ∙ broken_step

-- ---- the number, or the greatest of 64 bits for any past it

abbrev pub capped : ℕ → ℕ
capped n = min n 18446744073709551615

decimal_ge : (v : ℕ) (cs : Text) → v ≤ decimal v cs
unfolding decimal
decimal_ge v [] = le_refl v
decimal_ge v (c ∷ cs) = omega (arith, decimal_ge (v * 10 + (c - 48)) cs)

decimal_capped : (v : ℕ) (cs : Text) → capped (decimal (capped v) cs) ≡ capped (decimal v cs)
decimal_capped v cs = go (dec_lt v 18446744073709551616)
  where
    go : Dec (v < 18446744073709551616) → capped (decimal (capped v) cs) ≡ capped (decimal v cs)
    go (yes h) = ap (λ (n : ℕ). capped (decimal n cs)) (omega arith)
    go (no h) = omega (arith, decimal_ge v cs, decimal_ge (capped v) cs)

module _ (s : Text) (v i j : ℕ) {r : ℕ} (inv : capped (decimal v (part s i j)) ≡ r) where
  pub natural_end : j ≤ i → v < 2 ^ 64 → v ≡ r
  unfolding decimal
  natural_end h b =
      let e : decimal v (part s i j) ≡ v = ap (decimal v) (part_none s i j h) in
      let f : v ≡ capped v = omega arith in
      f ∙ sym (ap capped e) ∙ inv

  pub natural_more : i < j → j ≤ length s → {d w : ℕ} → d ≡ get_or s i 0 - 48 → w ≡ capped (v * 10 + d) → capped (decimal w (part s (i + 1) j)) ≡ r
  unfolding decimal
  natural_more h l {d} {w} e f =
      ap (λ (n : ℕ). capped (decimal n (part s (i + 1) j))) (f ∙ ap (λ (n : ℕ). capped (v * 10 + n)) e) ∙ decimal_capped (v * 10 + (get_or s i 0 - 48)) (part s (i + 1) j)
      ∙ sym (ap (λ (cs : Text). capped (decimal v cs)) (part_some s i j h l)) ∙ inv

-- ---- the range

pub within_zero : In (pos 0) ≡ ranged (whole (neg_ℤ (pos 0)))
unfolding ranged pick
within_zero = refl

in_negative : (n : ℕ) → n < 2 ^ 63 → In (negsuc n) ≡ ranged (whole (neg_ℤ (pos (suc n))))
unfolding ranged
in_negative n h = sym (pick_false _ _ (le-ltb 9223372036854775807 n (omega arith)) ∙ pick_true _ _ refl)

-- !(n - 1) is -n
pub within_minus : (n : ℕ) → (n ≡ 0 → ⊥) → n ≤ 2 ^ 63 → In (to_z w64 (18446744073709551615 - (n - 1))) ≡ ranged (whole (neg_ℤ (pos n)))
within_minus zero z h = absurd (z refl)
within_minus (suc n) z h =
    let e : 18446744073709551615 - (suc n - 1) ≡ 2 ^ 64 - suc n = omega arith in
    ap (λ (m : ℕ). In (to_z w64 m)) e ∙ ap In (to_z-neg w64 n (omega arith)) ∙ in_negative n (omega arith)

below_suc : (n : ℕ) → 2 ^ 63 ≤ n → Below ≡ ranged (whole (neg_ℤ (pos (suc n))))
unfolding ranged
below_suc n h = sym (pick_true _ _ (lt-ltb 9223372036854775807 n (omega arith)))

pub within_below : (n : ℕ) → 2 ^ 63 < n → Below ≡ ranged (whole (neg_ℤ (pos n)))
within_below zero h = absurd (omega arith)
within_below (suc n) h = below_suc n (omega arith)

pub within_in : (n : ℕ) → n < 2 ^ 63 → In (to_z w64 n) ≡ ranged (whole (pos n))
unfolding ranged
within_in n h = ap In (to_z_pos w64 h) ∙ sym (pick_false _ _ refl ∙ pick_true _ _ (lt-ltb n 9223372036854775808 h))

pub within_above : (n : ℕ) → 2 ^ 63 ≤ n → Above ≡ ranged (whole (pos n))
unfolding ranged
within_above n h = sym (pick_false _ _ refl ∙ pick_false _ _ (le-ltb n 9223372036854775808 h))

-- what is past 64 bits is past the range
range_pos : (n : ℕ) → ranged (whole (pos (capped n))) ≡ ranged (whole (pos n))
range_pos n = go (dec_lt n 18446744073709551616)
  where
    go : Dec (n < 18446744073709551616) → ranged (whole (pos (capped n))) ≡ ranged (whole (pos n))
    go (yes h) = ap (λ (m : ℕ). ranged (whole (pos m))) (omega arith)
    go (no h) = sym (within_above (capped n) (omega arith)) ∙ within_above n (omega arith)

range_neg : (n : ℕ) → ranged (whole (neg_ℤ (pos (capped n)))) ≡ ranged (whole (neg_ℤ (pos n)))
range_neg n = go (dec_lt n 18446744073709551616)
  where
    go : Dec (n < 18446744073709551616) → ranged (whole (neg_ℤ (pos (capped n)))) ≡ ranged (whole (neg_ℤ (pos n)))
    go (yes h) = let e : capped n ≡ n = omega arith in ap (λ (m : ℕ). ranged (whole (neg_ℤ (pos m)))) e
    go (no h) = sym (within_below (capped n) (omega arith)) ∙ within_below n (omega arith)

-- ---- the whole

minus_of : {c : ℕ} (cs : Text) → c ≡ 45 → signed (c ∷ cs) ≡ neg_ℤ (pos (decimal 0 cs))
unfolding signed
minus_of cs e = pick_true _ _ (eq-eqb _ _ e)

plain_of : {c : ℕ} (cs : Text) → (c ≡ 45 → ⊥) → signed (c ∷ cs) ≡ pos (decimal 0 (c ∷ cs))
unfolding signed
plain_of cs e = pick_false _ _ (ne_eqb _ _ e)

no_characters : signed [] ≡ neg_ℤ (pos (decimal 0 []))
unfolding signed decimal
no_characters = refl

no_plain : signed [] ≡ pos (decimal 0 [])
unfolding signed decimal
no_plain = refl

module _ (s : Text) (i j : ℕ) where
  pub written_broken : true ≡ broken (part s i j) → None ≡ ranged (integer (part s i j))
  unfolding integer ranged
  written_broken e = sym (ap ranged (pick_true _ _ (sym e)))

  module _ (l : j ≤ length s) (e : false ≡ broken (part s i j)) where
    unbroken : ranged (integer (part s i j)) ≡ ranged (whole (signed (part s i j)))
    unfolding integer
    unbroken = ap ranged (pick_false _ _ (sym e))

    signed_minus : peek s i ≡ 45 → signed (part s i j) ≡ neg_ℤ (pos (decimal 0 (part s (i + 1) j)))
    signed_minus f = go (dec_lt i j)
      where
        go : Dec (i < j) → signed (part s i j) ≡ neg_ℤ (pos (decimal 0 (part s (i + 1) j)))
        go (yes h) = ap signed (part_some s i j h l) ∙ minus_of _ (peek_at s i (omega arith) ∙ f)
        go (no h) =
            ap signed (part_none s i j (omega arith)) ∙ no_characters
            ∙ sym (ap (λ (cs : Text). neg_ℤ (pos (decimal 0 cs))) (part_none s (i + 1) j (omega arith)))

    signed_plain : (peek s i ≡ 45 → ⊥) → signed (part s i j) ≡ pos (decimal 0 (part s i j))
    signed_plain f = go (dec_lt i j)
      where
        go : Dec (i < j) → signed (part s i j) ≡ pos (decimal 0 (part s i j))
        go (yes h) =
            ap signed (part_some s i j h l) ∙ plain_of _ (λ g. f (sym (peek_at s i (omega arith)) ∙ g))
            ∙ sym (ap (λ (cs : Text). pos (decimal 0 cs)) (part_some s i j h l))
        go (no h) = ap signed (part_none s i j (omega arith)) ∙ no_plain ∙ sym (ap (λ (cs : Text). pos (decimal 0 cs)) (part_none s i j (omega arith)))

    pub written_minus : {b n : ℕ} {r : Integer} → b ≡ peek s i → b ≡ 45 → n ≡ capped (decimal 0 (part s (i + 1) j)) → r ≡ ranged (whole (pick true (neg_ℤ (pos n)) (pos n))) → r ≡ ranged (integer (part s i j))
    written_minus {b} {n} eb f en er =
        er ∙ ap (λ (z : ℤ). ranged (whole z)) (pick_true _ _ refl) ∙ ap (λ (m : ℕ). ranged (whole (neg_ℤ (pos m)))) en ∙ range_neg (decimal 0 (part s (i + 1) j))
        ∙ sym (ap (λ (z : ℤ). ranged (whole z)) (signed_minus (sym eb ∙ f))) ∙ sym unbroken

    pub written_plain : {b n : ℕ} {r : Integer} → b ≡ peek s i → (b ≡ 45 → ⊥) → n ≡ capped (decimal 0 (part s i j)) → r ≡ ranged (whole (pick false (neg_ℤ (pos n)) (pos n))) → r ≡ ranged (integer (part s i j))
    written_plain {b} {n} eb f en er =
        er ∙ ap (λ (z : ℤ). ranged (whole z)) (pick_false _ _ refl) ∙ ap (λ (m : ℕ). ranged (whole (pos m))) en ∙ range_pos (decimal 0 (part s i j))
        ∙ sym (ap (λ (z : ℤ). ranged (whole z)) (signed_plain (λ g. f (eb ∙ g)))) ∙ sym unbroken

-- ---- a number that was read

none_at_end : (eqb 256 45 || digit 256) ≡ false
unfolding digit class_of pick
none_at_end = refl

module _ (s : Text) where
  -- it starts within the text, and so it ends there
  number_in : (i : ℕ) {cs : Text} {n : ℕ} → number s i ≡ done cs n → n ≤ length s
  number_in i {cs} {n} e = at_done_le (number_bounded s i (go (dec_lt i (length s)))) e
    where
      go : Dec (i < length s) → i ≤ length s
      go (yes h) = omega arith
      go (no h) = absurd (no_number s i (peek_end s i (omega arith)) none_at_end e)

  -- what was read is what stands up to its end
  pub number_is : (i : ℕ) {cs : Text} {n : ℕ} → number s i ≡ done cs n → cs ≡ part s i n
  unfolding number written
  number_is i {cs} {n} e =
      let w = next_inv (next (int s (minus s i)) (rest s)) (written s i) e in
      sym (done_of w.3) ∙ ap (part s i) (done_at w.3)

  pub number_at : (i : ℕ) {r : Scan} {n : ℕ} → r ≡ scan (number s i) → r ≡ Done n → (number s i ≡ done (part s i n) n) × (n ≤ length s)
  number_at i {r} {n} e f =
      let w = scan_done (number s i) (sym e ∙ f) in
      (w.1 ∙ ap (λ (cs : Text). done cs n) (number_is i w.1), number_in i w.1)

  pub integer_read : (i : ℕ) {r : Integer} {n : ℕ} → number s i ≡ done (part s i n) n → r ≡ ranged (integer (part s i n)) → r ≡ integer_at s i
  unfolding integer_at integer_in
  integer_read i e f = f ∙ sym (ap integer_in e)

  pub integer_none : (i : ℕ) → Stops (number s i) → None ≡ integer_at s i
  unfolding integer_at
  integer_none i h = sym (integer_stops (number s i) h)
