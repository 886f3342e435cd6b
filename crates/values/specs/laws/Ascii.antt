-- An escape of a backslash, a u and four digits that stands for a character of ASCII: it is read as that character, which UTF-8 writes in one byte, and has 6 bytes.
-- Assumes nothing.
use Rattle.std.specs.Prelude.{◌≡◌, refl, ◌⊎◌, ℕ, ◌+◌, ◌/◌, ◌%◌, ◌≤◌, ◌<◌}
use Rattle.std.proofs.Math.Path.{sym, ap}
use Rattle.std.proofs.Common.{◌∙◌, inl, inr, arith, eqb-true, ltb-true, lt-ltb, le-ltb}
use Rattle.std.proofs.Math.Decide.{dec_lt}
use Rattle.text.specs.Reading.{Text, done, peek}
use Rattle.text.specs.Strings.{character}
use Rattle.text.specs.Escapes.{short_at, long_at}
use Rattle.text.specs.laws.Readers.{pick_case, pick_true, pick_false, bad_done, done_of}
use Rattle.text.specs.laws.Escapes.{Told, alone, twice, told, short_reads, long_reads, escape_none}
use Rattle.values.specs.Strings.{ascii_at}

-- by the number of the escape
module _ (s : Text) (i : ℕ) {e : ℕ} (f : e ≡ long_at s i) where
  pub ascii_is : e < 2048 → e / 16 ≡ ascii_at s i
  unfolding ascii_at
  ascii_is l = ap (λ (n : ℕ). n / 16) f ∙ sym (pick_true _ _ (lt-ltb (long_at s i) 2048 (omega arith)))

  pub ascii_past : 2048 ≤ e → 0 ≡ ascii_at s i
  unfolding ascii_at
  ascii_past l = sym (pick_false _ _ (le-ltb (long_at s i) 2048 (omega arith)))

-- v is such a character, written so at i
pub record Ascii (s : Text) (i v : ℕ) : Type 0 where
  pub slash : peek s i ≡ 92
  pub few : v < 128
  pub reads : character s i ≡ done v (i + 6)

-- an escape that is longer stands for a character past ASCII
six_bytes : {s : Text} {i x j : ℕ} → Told s i x j → x < 128 → j ≡ i + 6
six_bytes (alone d n m q) l = q
six_bytes (twice d e b u f g y q) l = absurd (omega (arith, y))

begun_so : (s : Text) (i : ℕ) {r : ℕ} → r ≡ long_at s i → 0 < r → (peek s i ≡ 92) × (peek s (i + 1) ≡ 117)
unfolding long_at
begun_so s i {r} e h =
    pick_case _ _ _ (sym e)
    (λ b f. pick_case _ _ _ f (λ u _. (eqb-true _ _ b, eqb-true _ _ u)) (λ _ (z : 0 ≡ r). absurd (omega arith)))
    (λ _ (z : 0 ≡ r). absurd (omega arith))

pub ascii_reads : (s : Text) (i : ℕ) {v : ℕ} → v ≡ ascii_at s i → 0 < v → Ascii s i v
unfolding ascii_at
ascii_reads s i {v} e h =
    pick_case _ _ _ (sym e)
    (λ l q. here (ltb-true _ _ l) q)
    (λ _ (z : 0 ≡ v). absurd (omega arith))
  where
    here : long_at s i < 2048 → long_at s i / 16 ≡ v → Ascii s i v
    here m q =
        let k : 0 < long_at s i = omega arith in
        let b = begun_so s i refl k in
        let c = long_reads s i refl k in
        let w : i + long_at s i % 16 ≡ i + 6 = six_bytes (told s i b.0 b.1 c) (omega arith) in
        record { slash = b.0; few = omega arith; reads = c ∙ ap (λ (n : ℕ). done n (i + long_at s i % 16)) q ∙ ap (done v) w }

-- of a character of ASCII that is escaped, one of the two escapes is told
pub ascii_told : (s : Text) (i : ℕ) {v j : ℕ} → peek s i ≡ 92 → character s i ≡ done v j → v < 128 → (v ≡ short_at s i) ⊎ (v ≡ ascii_at s i)
ascii_told s i {v} {j} b c l = go (dec_lt 0 (short_at s i)) (dec_lt 0 (long_at s i))
  where
    go : Dec (0 < short_at s i) → Dec (0 < long_at s i) → (v ≡ short_at s i) ⊎ (v ≡ ascii_at s i)
    go (yes h) _ = inl (done_of (sym c ∙ short_reads s i refl h))
    go (no h) (yes k) =
        let q : v ≡ long_at s i / 16 = done_of (sym c ∙ long_reads s i refl k) in
        inr (q ∙ ascii_is s i refl (omega arith))
    go (no h) (no k) = let w = escape_none s i refl (omega arith) refl (omega arith) b in absurd (bad_done (sym w.1 ∙ c))
