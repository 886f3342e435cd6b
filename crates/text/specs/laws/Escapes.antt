-- What is written as an escape of two bytes, as another escape or with several bytes is read as the number of it says; and where none of these stands, nor a byte that is a
-- character by itself, there is no character. Assumes nothing.
use Rattle.std.specs.Prelude.{◌≡◌, refl, Bool, true, false, ◌&&◌, ◌||◌, ◌⊎◌, ℕ, ◌+◌, ◌*◌, ◌-◌, ◌/◌, ◌%◌, ◌≤◌, ◌<◌, leb, eqb, ltb}
use Rattle.std.proofs.Common.{sym, subst, ◌∙◌, inl, inr, ⊎_elim}
use Rattle.std.proofs.Math.Path.{ap}
use native.Mathlib.Omega.{arith}
use Rattle.std.proofs.Math.Decide.{dec_lt}
use borrow.Author.Tests.{eq-eqb, ne_eqb, eqb-true, eqb-false, leb-true, leb-false, ltb-true, ltb-false, lt-ltb, le-ltb}
use Rattle.text.specs.Reading.{Text, Out, done, bad, deep, next, pick, peek, part}
use Rattle.text.specs.Class.{class_of}
use Rattle.text.specs.Strings.{hex_of, escape_of, pair_of, quad, low, joined, paired, escape, classed, character, utf8}
use Rattle.text.specs.Escapes.{short_at, packed, long_at, bytes_in, several_at}
use Rattle.text.specs.laws.Readers.{past_deep, pick_case, pick_true, pick_false, bad_done, done_at, done_of, next_inv, next_was}
use Rattle.text.specs.laws.Class.{class_within}
use Rattle.text.specs.laws.Plain.{own}
use Rattle.text.specs.laws.Strings.{character_past, character_strict}
use Rattle.text.specs.laws.Utf8.{character_raw, character_scalar, quad_value, escape_low}

-- ---- a backslash begins an escape

pub reads_escape : (s : Text) (i : ℕ) → peek s i ≡ 92 → character s i ≡ escape s i
unfolding character classed class_of pick
reads_escape s i h = ap (λ (b : ℕ). classed (class_of b) s i) h

-- ---- of two bytes

-- the letter b after the backslash
short_escape : (s : Text) (i : ℕ) {b r : ℕ} → b ≡ peek s (i + 1) → r ≡ escape_of b → 0 < r → escape s i ≡ done r (i + 2)
unfolding escape escape_of pick
short_escape s i {b} {r} f g h = go (eqb b 117) refl
  where
    u_is : b ≡ 117 → ⊥
    u_is q = let z : r ≡ 0 = g ∙ ap escape_of q in omega arith

    go : (x : Bool) → eqb b 117 ≡ x → escape s i ≡ done r (i + 2)
    go true q = absurd (u_is (eqb-true b 117 q))
    go false q =
        pick_false _ _ (ap (λ (n : ℕ). eqb n 117) (sym f) ∙ q)
        ∙ pick_false _ _ (ap (λ (n : ℕ). eqb (escape_of n) 0) (sym f) ∙ ne_eqb (escape_of b) 0 (λ z. let w : r ≡ 0 = g ∙ z in omega arith))
        ∙ ap (λ (n : ℕ). done n (i + 2)) (ap escape_of (sym f) ∙ sym g)

pub short_reads : (s : Text) (i : ℕ) {r : ℕ} → r ≡ short_at s i → 0 < r → character s i ≡ done r (i + 2)
unfolding short_at
short_reads s i {r} e h = go (eqb (peek s i) 92) refl
  where
    go : (x : Bool) → eqb (peek s i) 92 ≡ x → character s i ≡ done r (i + 2)
    go true q = reads_escape s i (eqb-true _ _ q) ∙ short_escape s i refl (e ∙ pick_true _ _ q) h
    go false q = let z : r ≡ 0 = e ∙ pick_false _ _ q in absurd (omega arith)

-- it stands for a byte below 128
pub short_few : (s : Text) (i : ℕ) {r : ℕ} → r ≡ short_at s i → r < 128
unfolding short_at
short_few s i {r} e =
    pick_case _ _ _ (sym e)
    (λ _ (q : escape_of (peek s (i + 1)) ≡ r). omega (arith, escape_low (peek s (i + 1))))
    (λ _ (q : 0 ≡ r). omega arith)

-- a backslash stands there, and the letter after it
pub short_at_lem : (s : Text) (i : ℕ) {r : ℕ} → r ≡ short_at s i → 0 < r → (peek s i ≡ 92) × (r ≡ escape_of (peek s (i + 1)))
unfolding short_at
short_at_lem s i {r} e h =
    pick_case _ _ _ (sym e)
    (λ q f. (eqb-true _ _ q, sym f))
    (λ _ (z : 0 ≡ r). absurd (omega arith))

-- ---- four hexadecimal digits

-- their number; 65536 if one is none
unfoldable pub digits_at : Text → ℕ → ℕ
digits_at s i =
    pick (ltb (hex_of (peek s i)) 16)
    (pick (ltb (hex_of (peek s (i + 1))) 16)
    (pick (ltb (hex_of (peek s (i + 2))) 16)
    (pick (ltb (hex_of (peek s (i + 3))) 16)
    (((hex_of (peek s i) * 16 + hex_of (peek s (i + 1))) * 16 + hex_of (peek s (i + 2))) * 16 + hex_of (peek s (i + 3)))
    65536)
    65536)
    65536)
    65536

-- v is the number of the four digits at i
pub record Digits (s : Text) (i v : ℕ) : Type 0 where
  pub first : hex_of (peek s i) < 16
  pub second : hex_of (peek s (i + 1)) < 16
  pub third : hex_of (peek s (i + 2)) < 16
  pub fourth : hex_of (peek s (i + 3)) < 16
  pub number : ((hex_of (peek s i) * 16 + hex_of (peek s (i + 1))) * 16 + hex_of (peek s (i + 2))) * 16 + hex_of (peek s (i + 3)) ≡ v

pub digits_in : (s : Text) (i : ℕ) {v : ℕ} → v ≡ digits_at s i → v < 65536 → Digits s i v
unfolding digits_at
digits_in s i {v} e l =
    pick_case _ _ _ (sym e)
    (λ a e1. pick_case _ _ _ e1
    (λ b e2. pick_case _ _ _ e2
    (λ c e3. pick_case _ _ _ e3
    (λ d q. record { first = ltb-true _ _ a; second = ltb-true _ _ b; third = ltb-true _ _ c; fourth = ltb-true _ _ d; number = q })
    none)
    none)
    none)
    none
  where
    none : {t : Bool} → t ≡ false → 65536 ≡ v → Digits s i v
    none _ z = absurd (omega arith)

pub digits_are : (s : Text) (i : ℕ) {v : ℕ} → Digits s i v → v ≡ digits_at s i
unfolding digits_at
digits_are s i d =
    sym
    (pick_true _ _ (lt-ltb _ _ d.first) ∙ pick_true _ _ (lt-ltb _ _ d.second) ∙ pick_true _ _ (lt-ltb _ _ d.third) ∙ pick_true _ _ (lt-ltb _ _ d.fourth)
    ∙ d.number)

-- a digit at another name of its position
digit_at : (s : Text) {m n : ℕ} → m ≡ n → hex_of (peek s m) ≡ hex_of (peek s n)
digit_at s e = ap (λ (k : ℕ). hex_of (peek s k)) e

pair_done : (v : ℕ) (s : Text) (i : ℕ) {x j : ℕ} → pair_of v s i ≡ done x j → (hex_of (peek s i) < 16) × (hex_of (peek s (i + 1)) < 16) × ((v * 16 + hex_of (peek s i)) * 16 + hex_of (peek s (i + 1)) ≡ x) × (i + 2 ≡ j)
unfolding pair_of
pair_done v s i e =
    pick_case _ _ _ e
    (λ a e1. pick_case _ _ _ e1
    (λ b d. (ltb-true _ _ a, ltb-true _ _ b, done_of d, done_at d))
    (λ _ d. absurd (bad_done d)))
    (λ _ d. absurd (bad_done d))

pair_reads : (v : ℕ) (s : Text) (i : ℕ) → hex_of (peek s i) < 16 → hex_of (peek s (i + 1)) < 16 → pair_of v s i ≡ done ((v * 16 + hex_of (peek s i)) * 16 + hex_of (peek s (i + 1))) (i + 2)
unfolding pair_of
pair_reads v s i a b = pick_true _ _ (lt-ltb _ _ a) ∙ pick_true _ _ (lt-ltb _ _ b)

-- digits that are no low surrogate are read as their number, and nothing else is
quad_reads : (s : Text) (i : ℕ) {v : ℕ} → Digits s i v → (v / 1024 ≡ 55 → ⊥) → quad s i ≡ done v (i + 4)
unfolding quad pick
quad_reads s i {v} d n =
    let a : hex_of (peek s i) < 16 = d.first in
    let b : hex_of (peek s (i + 1)) < 16 = d.second in
    let c : hex_of (peek s (i + 2)) < 16 = d.third in
    let f : hex_of (peek s (i + 3)) < 16 = d.fourth in
    let q : ((hex_of (peek s i) * 16 + hex_of (peek s (i + 1))) * 16 + hex_of (peek s (i + 2))) * 16 + hex_of (peek s (i + 3)) ≡ v = d.number in
    let m : hex_of (peek s (i + 2 + 1)) ≡ hex_of (peek s (i + 3)) = digit_at s (omega arith) in
    let x : ((hex_of (peek s i) * 16 + hex_of (peek s (i + 1))) * 16 + hex_of (peek s (i + 2))) * 16 + hex_of (peek s (i + 2 + 1)) ≡ v = omega arith in
    let z : i + 2 + 2 ≡ i + 4 = omega arith in
    pick_true _ _ (lt-ltb _ _ a)
    ∙ pick_true _ _ (lt-ltb _ _ (bound (eqb (hex_of (peek s i)) 13) refl))
    ∙ pair_reads (hex_of (peek s i) * 16 + hex_of (peek s (i + 1))) s (i + 2) c (omega arith)
    ∙ ap (λ (w : ℕ). done w (i + 2 + 2)) x ∙ ap (done v) z
  where
    bound : (t : Bool) → eqb (hex_of (peek s i)) 13 ≡ t → hex_of (peek s (i + 1)) < pick t 12 16
    bound true e = below (dec_lt (hex_of (peek s (i + 1))) 12)
      where
        below : Dec (hex_of (peek s (i + 1)) < 12) → hex_of (peek s (i + 1)) < 12
        below (yes l) = l
        below (no l) =
            let h : hex_of (peek s i) ≡ 13 = eqb-true _ _ e in
            absurd (n (omega (arith, d.second, d.third, d.fourth, d.number)))
    bound false e = d.second

below_either : (t : Bool) {b : ℕ} → b < pick t 12 16 → b < 16
unfolding pick
below_either true l = omega arith
below_either false l = l

quad_done : (s : Text) (i : ℕ) {v j : ℕ} → quad s i ≡ done v j → Digits s i v × (v / 1024 ≡ 55 → ⊥) × (j ≡ i + 4)
unfolding quad
quad_done s i {v} {j} e =
    pick_case _ _ _ e
    (λ a e1. pick_case _ _ _ e1
    (λ b d.
    let w = pair_done (hex_of (peek s i) * 16 + hex_of (peek s (i + 1))) s (i + 2) d in
    let m : hex_of (peek s (i + 2 + 1)) ≡ hex_of (peek s (i + 3)) = digit_at s (omega arith) in (
      record { first = ltb-true _ _ a; second = below_either (eqb (hex_of (peek s i)) 13) (ltb-true _ _ b); third = w.0; fourth = omega (arith, w.1); number = omega (arith, w.2) },
      (quad_value s i e).1,
      omega (arith, w.3),
    ))
    (λ _ d. absurd (bad_done d)))
    (λ _ d. absurd (bad_done d))

-- a backslash, a u and the digits of a low surrogate
low_reads : (s : Text) (i : ℕ) {w : ℕ} → peek s i ≡ 92 → peek s (i + 1) ≡ 117 → Digits s (i + 2) w → w / 1024 ≡ 55 → low s i ≡ done w (i + 6)
unfolding low
low_reads s i {w} hb hu d e =
    let a : hex_of (peek s (i + 2)) < 16 = d.first in
    let b : hex_of (peek s (i + 2 + 1)) < 16 = d.second in
    let c : hex_of (peek s (i + 2 + 2)) < 16 = d.third in
    let f : hex_of (peek s (i + 2 + 3)) < 16 = d.fourth in
    let q : ((hex_of (peek s (i + 2)) * 16 + hex_of (peek s (i + 2 + 1))) * 16 + hex_of (peek s (i + 2 + 2))) * 16 + hex_of (peek s (i + 2 + 3)) ≡ w = d.number in
    let m3 : hex_of (peek s (i + 2 + 1)) ≡ hex_of (peek s (i + 3)) = digit_at s (omega arith) in
    let m4 : hex_of (peek s (i + 2 + 2)) ≡ hex_of (peek s (i + 4)) = digit_at s (omega arith) in
    let m5 : hex_of (peek s (i + 2 + 3)) ≡ hex_of (peek s (i + 4 + 1)) = digit_at s (omega arith) in
    let h : hex_of (peek s (i + 2)) ≡ 13 = omega arith in
    let g : hex_of (peek s (i + 3)) / 4 ≡ 3 = omega arith in
    let x : ((208 + hex_of (peek s (i + 3))) * 16 + hex_of (peek s (i + 4))) * 16 + hex_of (peek s (i + 4 + 1)) ≡ w = omega arith in
    let z : i + 4 + 2 ≡ i + 6 = omega arith in
    pick_true _ _ (eq-eqb _ _ hb) ∙ pick_true _ _ (eq-eqb _ _ hu) ∙ pick_true _ _ (eq-eqb _ _ h) ∙ pick_true _ _ (eq-eqb _ _ g)
    ∙ pair_reads (208 + hex_of (peek s (i + 3))) s (i + 4) (omega arith) (omega arith)
    ∙ ap (λ (y : ℕ). done y (i + 4 + 2)) x ∙ ap (done w) z

low_done : (s : Text) (i : ℕ) {w j : ℕ} → low s i ≡ done w j → (peek s i ≡ 92) × (peek s (i + 1) ≡ 117) × Digits s (i + 2) w × (w / 1024 ≡ 55) × (j ≡ i + 6)
unfolding low
low_done s i {w} {j} e =
    pick_case _ _ _ e
    (λ hb e1. pick_case _ _ _ e1
    (λ hu e2. pick_case _ _ _ e2
    (λ h e3. pick_case _ _ _ e3
    (λ g d.
    let y = pair_done (208 + hex_of (peek s (i + 3))) s (i + 4) d in
    let y0 : hex_of (peek s (i + 4)) < 16 = y.0 in
    let y1 : hex_of (peek s (i + 4 + 1)) < 16 = y.1 in
    let y2 : ((208 + hex_of (peek s (i + 3))) * 16 + hex_of (peek s (i + 4))) * 16 + hex_of (peek s (i + 4 + 1)) ≡ w = y.2 in
    let m3 : hex_of (peek s (i + 2 + 1)) ≡ hex_of (peek s (i + 3)) = digit_at s (omega arith) in
    let m4 : hex_of (peek s (i + 2 + 2)) ≡ hex_of (peek s (i + 4)) = digit_at s (omega arith) in
    let m5 : hex_of (peek s (i + 2 + 3)) ≡ hex_of (peek s (i + 4 + 1)) = digit_at s (omega arith) in
    let a : hex_of (peek s (i + 2)) ≡ 13 = eqb-true _ _ h in
    let b : hex_of (peek s (i + 3)) / 4 ≡ 3 = eqb-true _ _ g in (
      eqb-true _ _ hb,
      eqb-true _ _ hu,
      record { first = omega arith; second = omega arith; third = omega arith; fourth = omega arith; number = omega arith },
      omega arith,
      omega (arith, y.3),
    ))
    (λ _ d. absurd (bad_done d)))
    (λ _ d. absurd (bad_done d)))
    (λ _ d. absurd (bad_done d)))
    (λ _ d. absurd (bad_done d))

-- ---- of a backslash and a u

-- such an escape, read as x up to j: four digits, or those of two surrogates
pub data Told (s : Text) (i x j : ℕ) : Type 0 where
  alone : Digits s (i + 2) x → (x / 1024 ≡ 54 → ⊥) → (x / 1024 ≡ 55 → ⊥) → j ≡ i + 6 → Told s i x j
  twice : {v w : ℕ} → Digits s (i + 2) v → v / 1024 ≡ 54 → peek s (i + 6) ≡ 92 → peek s (i + 7) ≡ 117 → Digits s (i + 8) w → w / 1024 ≡ 55 → 65536 + v % 1024 * 1024 + w % 1024 ≡ x → j ≡ i + 12 → Told s i x j

module _ (s : Text) (i : ℕ) (hb : peek s i ≡ 92) (hu : peek s (i + 1) ≡ 117) where
  reads_u : character s i ≡ next (quad s (i + 2)) (paired s)
  unfolding escape
  reads_u = reads_escape s i hb ∙ pick_true _ _ (eq-eqb _ _ hu)

  pub told : {x j : ℕ} → character s i ≡ done x j → Told s i x j
  unfolding paired joined
  told {x} {j} e =
      let y = next_inv (quad s (i + 2)) (paired s) (sym reads_u ∙ e) in
      let d = quad_done s (i + 2) y.2 in
      let k : y.1 ≡ i + 6 = omega (arith, d.2) in
      pick_case _ _ _ y.3
      (λ m f.
      let z = next_inv (low s y.1) (joined y.0) f in
      let l = low_done s (i + 6) (ap (low s) (sym k) ∙ z.2) in
      let p7 : i + 6 + 1 ≡ i + 7 = omega arith in
      let p8 : i + 6 + 2 ≡ i + 8 = omega arith in
      twice d.0 (eqb-true _ _ m) l.0 (ap (peek s) (sym p7) ∙ l.1) (subst (λ (n : ℕ). Digits s n z.0) p8 l.2) l.3 (done_of z.3) (sym (done_at z.3) ∙ omega (arith, l.4)))
      (λ m f.
      let q : y.0 ≡ x = done_of f in
      alone (subst (Digits s (i + 2)) q d.0) (λ (g : x / 1024 ≡ 54). eqb-false _ _ m (ap (λ (n : ℕ). n / 1024) q ∙ g)) (λ (g : x / 1024 ≡ 55). d.1 (ap (λ (n : ℕ). n / 1024) q ∙ g)) (sym (done_at f) ∙ k))

  pub alone_reads : {v : ℕ} → Digits s (i + 2) v → (v / 1024 ≡ 54 → ⊥) → (v / 1024 ≡ 55 → ⊥) → character s i ≡ done v (i + 6)
  unfolding paired
  alone_reads {v} d n m =
      let z : i + 2 + 4 ≡ i + 6 = omega arith in
      reads_u ∙ next_was (paired s) (quad_reads s (i + 2) d m) ∙ pick_false _ _ (ne_eqb _ _ n) ∙ ap (done v) z

  pub twice_reads : {v w : ℕ} → Digits s (i + 2) v → v / 1024 ≡ 54 → peek s (i + 6) ≡ 92 → peek s (i + 7) ≡ 117 → Digits s (i + 8) w → w / 1024 ≡ 55 → character s i ≡ done (65536 + v % 1024 * 1024 + w % 1024) (i + 12)
  unfolding paired joined
  twice_reads {v} {w} d e b u f g =
      let p6 : i + 2 + 4 ≡ i + 6 = omega arith in
      let p7 : i + 7 ≡ i + 6 + 1 = omega arith in
      let p8 : i + 8 ≡ i + 6 + 2 = omega arith in
      let z : i + 6 + 6 ≡ i + 12 = omega arith in
      reads_u ∙ next_was (paired s) (quad_reads s (i + 2) d (λ (q : v / 1024 ≡ 55). omega arith)) ∙ pick_true _ _ (eq-eqb _ _ e)
      ∙ next_was (joined v) (ap (low s) p6 ∙ low_reads s (i + 6) b (ap (peek s) (sym p7) ∙ u) (subst (λ (n : ℕ). Digits s n w) p8 f) g)
      ∙ ap (done (65536 + v % 1024 * 1024 + w % 1024)) z

  pub long_packed : long_at s i ≡ packed i (character s i)
  unfolding long_at
  long_packed = pick_true _ _ (eq-eqb _ _ hb) ∙ pick_true _ _ (eq-eqb _ _ hu)

-- it has 6 bytes or 12
told_bytes : {s : Text} {i x j : ℕ} → Told s i x j → (i + 6 ≤ j) × (j ≤ i + 12)
told_bytes (alone d n m q) = (omega (arith, q), omega (arith, q))
told_bytes (twice d e b u f g y q) = (omega (arith, q), omega (arith, q))

-- where such an escape is told, a backslash and a u stand, and it was read
long_there : (s : Text) (i : ℕ) {r : ℕ} → r ≡ long_at s i → 0 < r → (peek s i ≡ 92) × (peek s (i + 1) ≡ 117) × (r ≡ packed i (character s i))
unfolding long_at
long_there s i {r} e h =
    pick_case _ _ _ (sym e)
    (λ b e1. pick_case _ _ _ e1 (λ u q. (eqb-true _ _ b, eqb-true _ _ u, sym q)) (λ _ (z : 0 ≡ r). absurd (omega arith)))
    (λ _ (z : 0 ≡ r). absurd (omega arith))

pub long_reads : (s : Text) (i : ℕ) {r : ℕ} → r ≡ long_at s i → 0 < r → character s i ≡ done (r / 16) (i + r % 16)
unfolding packed
long_reads s i {r} e h = let w = long_there s i e h in go w.0 w.1 (character s i) refl w.2
  where
    go : peek s i ≡ 92 → peek s (i + 1) ≡ 117 → (o : Out ℕ) → character s i ≡ o → r ≡ packed i o → o ≡ done (r / 16) (i + r % 16)
    go b u (done v j) c q =
        let w = told_bytes (told s i b u c) in
        let l : i + 6 ≤ j = w.0 in
        let m : j ≤ i + 12 = w.1 in
        let q1 : r ≡ v * 16 + (j - i) = q in
        let x : v ≡ r / 16 = omega arith in
        let y : j ≡ i + r % 16 = omega arith in
        ap (λ (n : ℕ). done n j) x ∙ ap (done (r / 16)) y
    go b u (bad p) c q = absurd (omega (arith, q))
    go b u (deep p) c q = absurd (omega (arith, q))

-- its code point is one of Unicode, so the number fits 32 bits
pub long_few : (s : Text) (i : ℕ) {r : ℕ} → r ≡ long_at s i → r / 16 < 1114112
long_few s i {r} e = go (dec_lt 0 r)
  where
    go : Dec (0 < r) → r / 16 < 1114112
    go (yes h) = ⊎_elim (λ (l : r / 16 < 55296). omega arith) (λ l. omega (arith, l.1)) (character_scalar s i (r / 16) (i + r % 16) (long_reads s i e h))
    go (no h) = omega arith

pub long_bytes : (s : Text) (i : ℕ) {r : ℕ} → r ≡ long_at s i → 0 < r → (6 ≤ r % 16) × (r % 16 ≤ 12)
long_bytes s i {r} e h =
    let w = long_there s i e h in
    let b = told_bytes (told s i w.0 w.1 (long_reads s i e h)) in
    (omega (arith, b.0), omega (arith, b.1))

-- ---- of several bytes

several_there : (s : Text) (i : ℕ) {r : ℕ} → r ≡ several_at s i → 0 < r → (128 ≤ peek s i) × (r ≡ bytes_in i (character s i))
unfolding several_at
several_there s i {r} e h =
    pick_case _ _ _ (sym e)
    (λ _ (z : 0 ≡ r). absurd (omega arith))
    (λ b q. (ltb-false _ _ b, sym q))

-- it stands for its own bytes
pub several_reads : (s : Text) (i : ℕ) {r : ℕ} → r ≡ several_at s i → 0 < r → (v : ℕ) × (character s i ≡ done v (i + r)) × (utf8 v ≡ part s i (i + r)) × (peek s i ≡ 92 → ⊥)
unfolding bytes_in
several_reads s i {r} e h = let w = several_there s i e h in go w.0 (character s i) refl w.1
  where
    go : 128 ≤ peek s i → (o : Out ℕ) → character s i ≡ o → r ≡ bytes_in i o → (v : ℕ) × (character s i ≡ done v (i + r)) × (utf8 v ≡ part s i (i + r)) × (peek s i ≡ 92 → ⊥)
    go b (done v j) c q =
        let l : i < j = character_strict s i v j c in
        let q1 : r ≡ j - i = q in
        let y : j ≡ i + r = omega arith in
        let f : character s i ≡ done v (i + r) = c ∙ ap (done v) y in
        let n : peek s i ≡ 92 → ⊥ = λ (z : peek s i ≡ 92). omega arith in
        (v, f, character_raw s i v (i + r) f n, n)
    go b (bad p) c q = absurd (omega (arith, q))
    go b (deep p) c q = absurd (omega (arith, q))

-- ---- no character

-- what is not read is wrong
unread : (s : Text) (i : ℕ) → ((v j : ℕ) → character s i ≡ done v j → ⊥) → (p : ℕ) × (character s i ≡ bad p)
unread s i n = go (character s i) refl
  where
    go : (o : Out ℕ) → character s i ≡ o → (p : ℕ) × (character s i ≡ bad p)
    go (done v j) e = absurd (n v j e)
    go (bad p) e = (p, e)
    go (deep p) e = absurd (past_deep (character_past s i) e)

-- a character of several bytes is none where it has no bytes
pub several_none : (s : Text) (i : ℕ) {r : ℕ} → r ≡ several_at s i → r ≡ 0 → 128 ≤ peek s i → (p : ℕ) × (character s i ≡ bad p)
unfolding several_at bytes_in
several_none s i {r} e z h = unread s i no
  where
    no : (v j : ℕ) → character s i ≡ done v j → ⊥
    no v j c =
        let l : i < j = character_strict s i v j c in
        let q : r ≡ j - i = e ∙ pick_false _ _ (le-ltb _ _ h) ∙ ap (bytes_in i) c in
        omega arith

-- an escape is none where it is not told
pub escape_none : (s : Text) (i : ℕ) {r e : ℕ} → r ≡ short_at s i → r ≡ 0 → e ≡ long_at s i → e ≡ 0 → peek s i ≡ 92 → (p : ℕ) × (character s i ≡ bad p)
unfolding short_at escape packed
escape_none s i {r} {e} f z g y h = go (eqb (peek s (i + 1)) 117) refl
  where
    no : peek s (i + 1) ≡ 117 → (v j : ℕ) → character s i ≡ done v j → ⊥
    no u v j c =
        let l : i < j = character_strict s i v j c in
        let q : e ≡ v * 16 + (j - i) = g ∙ long_packed s i h u ∙ ap (packed i) c in
        omega arith

    go : (t : Bool) → eqb (peek s (i + 1)) 117 ≡ t → (p : ℕ) × (character s i ≡ bad p)
    go true u = unread s i (no (eqb-true _ _ u))
    go false u =
        let x : escape_of (peek s (i + 1)) ≡ 0 = sym (f ∙ pick_true _ _ (eq-eqb _ _ h)) ∙ z in
        (i + 1, reads_escape s i h ∙ pick_false _ _ u ∙ pick_true _ _ (eq-eqb _ _ x))

-- below 128 a byte that is no character by itself and no backslash begins none
low_none : (s : Text) (i : ℕ) → peek s i < 128 → (peek s i ≡ 92 → ⊥) → own (peek s i) ≡ false → character s i ≡ bad i
unfolding character classed
low_none s i l n h =
    pick_false _ _ (ne_eqb _ _ (λ q. let w = only (class_within 2 (peek s i) q) in n (omega (arith, w.0, w.1))))
    ∙ pick_false _ _ (ne_eqb _ _ (λ q. let w = only (class_within 18 (peek s i) q) in omega (arith, w.0)))
    ∙ pick_false _ _ (ne_eqb _ _ (λ q. let w = only (class_within 19 (peek s i) q) in omega (arith, w.0)))
    ∙ pick_false _ _ (ne_eqb _ _ (λ q. let w = only (class_within 20 (peek s i) q) in omega (arith, w.0)))
    ∙ pick_true _ _ (outside (class_of (peek s i)) (leb 4 (class_of (peek s i))) refl h)
  where
    only : {A : Type 0} → A ⊎ ⊥ → A
    only (inl a) = a
    only (inr z) = absurd z

    outside : (k : ℕ) (x : Bool) → leb 4 k ≡ x → (x && ltb k 18) ≡ false → (ltb k 4 || ltb 17 k) ≡ true
    outside k true p g = let m : 18 ≤ k = ltb-false k 18 g in rw (le-ltb k 4 (leb-true 4 k p), lt-ltb 17 k (omega arith))
    outside k false p g = rw (lt-ltb k 4 (leb-false 4 k p))

-- where nothing of all this is told, no character stands
pub no_character : (s : Text) (i : ℕ) {r e k : ℕ} → r ≡ short_at s i → r ≡ 0 → e ≡ long_at s i → e ≡ 0 → k ≡ several_at s i → k ≡ 0 → own (peek s i) ≡ false → (p : ℕ) × (character s i ≡ bad p)
no_character s i f zf g zg m zm h = first (dec_lt (peek s i) 128) (eqb (peek s i) 92) refl
  where
    first : Dec (peek s i < 128) → (t : Bool) → eqb (peek s i) 92 ≡ t → (p : ℕ) × (character s i ≡ bad p)
    first (yes l) true q = escape_none s i f zf g zg (eqb-true _ _ q)
    first (yes l) false q = (i, low_none s i l (eqb-false _ _ q) h)
    first (no l) t q = several_none s i m zm (omega arith)
