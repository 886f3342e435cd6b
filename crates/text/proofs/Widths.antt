-- How many bytes a character has is told without its code point: so many as reading it takes, and 0 where none stands. Assumes nothing.
use mathlib.Core.Path.{◌≡◌, refl, sym, ap, ◌∙◌}
use mathlib.Core.Bool.{false}
use Prim.Native.Nat.{ℕ, ◌+◌, ◌-◌, ◌/◌, ◌%◌, ◌≤◌, ◌<◌}
use native.Mathlib.Omega.{arith}
use native.Mathlib.Decide.{ℕ_discrete}
use lib.ListN.{length, get_or}
use borrow.Author.Tests.{eq-eqb}
use Rattle.text.specs.Reading.{Text, Out, done, bad, deep, peek}
use Rattle.text.specs.Strings.{escape_of, character, code_of}
use Rattle.text.specs.Escapes.{short_at, long_at, bytes_in}
use Rattle.text.specs.declared.Code.{Code}
use Rattle.text.specs.declared.Code.TheVariants.{Of}
use Rattle.text.specs.laws.Readers.{pick_true}
use Rattle.text.specs.laws.Plain.{own}
use Rattle.text.specs.laws.Strings.{character_past, character_strict}
use Rattle.text.specs.laws.Escapes.{short_reads, long_reads, escape_none, Told, alone, twice, told}
use Rattle.text.proofs.Quick.{other_was}
use Rattle.text.proofs.Hexes.{long_other}
use Rattle.text.proofs.Ends.{code_bad, ends, ends_more, ahead, was_read}
use Rattle.text.proofs.Leads.{leads_below}

module _ (s : Text) (i : ℕ) where
  -- what was read has its bytes, and what was not has none
  has : {v n : ℕ} → character s i ≡ done v (i + n) → n ≡ bytes_in i (character s i)
  unfolding bytes_in
  has {v} {n} e = let z : i + n - i ≡ n = omega arith in sym (ap (bytes_in i) e ∙ z)

  has_none : {p : ℕ} → character s i ≡ bad p → 0 ≡ bytes_in i (character s i)
  unfolding bytes_in
  has_none e = sym (ap (bytes_in i) e)

  -- below 128 only a plain byte and a backslash begin a character
  pub odd_none : i < length s → own (peek s i) ≡ false → get_or s i 0 ≤ 127 → (get_or s i 0 ≡ 92 → ⊥) → 0 ≡ bytes_in i (character s i)
  odd_none l h m n = has_none (code_bad (character s i) (character_past s i) (sym (leads_below s i l refl n refl (other_was s i l h) (omega arith))))

  -- an escape: r is what its letter stands for, and e tells the others
  module _ (hb : peek s i ≡ 92) {r : ℕ} (er : r ≡ escape_of (peek s (i + 1))) where
    its_letter : r ≡ short_at s i
    unfolding short_at
    its_letter = er ∙ sym (pick_true _ _ (eq-eqb _ _ hb))

    pub escape_two : 0 < r → 2 ≡ bytes_in i (character s i)
    escape_two h = has (short_reads s i its_letter h)

    module _ {e : ℕ} (ee : e ≡ long_at s i) where
      pub escape_six : e % 16 ≡ 6 → 6 ≡ bytes_in i (character s i)
      escape_six h = has (long_reads s i ee (omega arith) ∙ ap (λ (n : ℕ). done (e / 16) (i + n)) h)

      pub escape_zero : r ≤ 0 → e ≡ 0 → 0 ≡ bytes_in i (character s i)
      escape_zero h z = has_none (escape_none s i its_letter (omega arith) ee z hb).1

      pub escape_twelve : (e % 16 ≡ 6 → ⊥) → (e ≡ 0 → ⊥) → 12 ≡ bytes_in i (character s i)
      escape_twelve n z = go (ℕ_discrete (peek s (i + 1)) 117)
        where
          read : character s i ≡ done (e / 16) (i + e % 16)
          read = long_reads s i ee (omega (arith, z))

          other : Told s i (e / 16) (i + e % 16) → e % 16 ≡ 12
          other (alone d k m q) = absurd (n (omega (arith, q)))
          other (twice d f b u g y p q) = omega (arith, q)

          go : Dec (peek s (i + 1) ≡ 117) → 12 ≡ bytes_in i (character s i)
          go (yes hu) = has (read ∙ ap (λ (k : ℕ). done (e / 16) (i + k)) (other (told s i hb hu read)))
          go (no k) = absurd (z (ee ∙ sym (long_other s i hb k)))

  -- n is how many it has
  module _ {n : ℕ} (e : n ≡ bytes_in i (character s i)) where
    -- with none nothing is read
    pub none_read : n ≡ 0 → {r : Code} {v j : ℕ} → r ≡ code_of (character s i) → r ≡ Of v j → ⊥
    unfolding bytes_in
    none_read z {r} {v} {j} f g =
        let c : character s i ≡ done v j = was_read s i f g in
        let l : i < j = character_strict s i v j c in
        let q : n ≡ j - i = e ∙ ap (bytes_in i) c in
        omega arith

    -- with some it is a character, and is passed
    module _ (h : n ≡ 0 → ⊥) where
      is_read : (v : ℕ) × (character s i ≡ done v (i + n))
      unfolding bytes_in
      is_read = go (character s i) refl e
        where
          go : (o : Out ℕ) → character s i ≡ o → n ≡ bytes_in i o → (v : ℕ) × (character s i ≡ done v (i + n))
          go (done v j) c q =
              let l : i < j = character_strict s i v j c in
              let q1 : n ≡ j - i = q in
              let y : j ≡ i + n = omega arith in
              (v, c ∙ ap (done v) y)
          go (bad p) c q = absurd (h q)
          go (deep p) c q = absurd (h q)

      pub passes : ends s i ≡ ends s (i + n)
      passes = ends_more s i is_read.1

      pub stays_in : i ≤ length s → i + n ≤ length s
      stays_in l = (ahead s i l is_read.1).1
