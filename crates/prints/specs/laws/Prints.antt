-- Prints: equal texts have equal ones, the empty text alone has 0, and how those of bytes in a row are computed, eight bytes at a time. Assumes nothing.
use Rattle.std.specs.Prelude.{◌≡◌, Bool, [], ◌∷◌, ◌++◌, ℕ, suc, ◌+◌, ◌-◌, ◌*◌, ◌/◌, ◌≤◌, ◌<◌, eqb, length, get_or, take, drop}
use Rattle.std.proofs.Math.Path.{refl, sym, ap}
use Rattle.std.proofs.Common.{◌∙◌, length-append, drop-cons, take_at, drop_at, eq-eqb, ne_eqb}
use Rattle.std.proofs.Math.Bool.{true, false}
use native.Mathlib.Omega.{arith}
use Rattle.std.proofs.Math.Decide.{ℕ_discrete}
use Rattle.text.specs.Reading.{Text, part}
use Rattle.text.specs.Strings.{string}
use Rattle.text.specs.laws.Raw.{part_join}
use Rattle.text.specs.laws.Readers.{pick_true, pick_false}
use Rattle.grammar.specs.Tree.{same}
use Rattle.grammar.proofs.laws.Order.{same_true}
use Rattle.values.specs.Strings.{same_texts}
use Rattle.index.specs.Index.{text_in, text_at}
use Rattle.prints.specs.Prints.{step, steps, word_of, words_of, print_from, told_of, print_of, print_at}
use Rattle.prints.specs.laws.Empty.{string_is}
use Rattle.prints.specs.laws.Fronts.{part_long}

-- ---- texts with one print

pub print_empty : (t : Text) → print_of t ≡ 0 → t ≡ []
unfolding print_of told_of
print_empty [] h = refl
print_empty (b ∷ t) h = absurd (omega (arith, sym (pick_false _ _ (ne_eqb (length (b ∷ t)) 0 (omega arith))) ∙ h))

print_none : (t : Text) → length t ≡ 0 → print_of t ≡ 0
unfolding print_of told_of
print_none t h = pick_true _ _ (eq-eqb (length t) 0 h)

-- equal texts have equal prints
pub same_print : (s : Text) (p q : ℕ) → same (text_at s p) (text_at s q) ≡ true → print_at s p ≡ print_at s q
unfolding print_at
same_print s p q h = ap print_of (same_true _ _ h)

module _ (s : Text) (p q : ℕ) {print : ℕ} (its : print ≡ print_at s p) where
  -- they are not the same where their prints differ
  pub other_print : {other : ℕ} → other ≡ print_at s q → (other ≡ print → ⊥) → same (text_at s p) (text_at s q) ≡ false
  unfolding print_at
  other_print {other} e n = go (same (text_at s p) (text_at s q)) refl
    where
      go : (b : Bool) → same (text_at s p) (text_at s q) ≡ b → b ≡ false
      go true h = absurd (n (e ∙ ap print_of (sym (same_true _ _ h)) ∙ sym its))
      go false h = refl

  -- both are empty
  pub same_none : print ≡ print_at s q → print ≡ 0 → true ≡ same (text_at s p) (text_at s q)
  unfolding print_at same
  same_none e z = sym (λ i. same (print_empty (text_at s p) (sym its ∙ z) i) (print_empty (text_at s q) (sym e ∙ z) i))

  -- neither is, so both are strings
  pub same_some : (print ≡ 0 → ⊥) → {b : Bool} → b ≡ same_texts s q p → b ≡ same (text_at s p) (text_at s q)
  unfolding print_at same_texts text_at
  same_some z f = f ∙ string_is (string s q) (string s p) (λ h. z (its ∙ print_none (text_in (string s p)) h))

-- the print tells whether the text is empty
pub print_tells : (s : Text) (p : ℕ) {print : ℕ} → print ≡ print_at s p → eqb print 0 ≡ eqb (length (text_at s p)) 0
unfolding print_at
print_tells s p {print} e = go (ℕ_discrete print 0)
  where
    go : Dec (print ≡ 0) → eqb print 0 ≡ eqb (length (text_at s p)) 0
    go (yes z) = eq-eqb print 0 z ∙ sym (eq-eqb (length (text_at s p)) 0 (ap length (print_empty (text_at s p) (sym e ∙ z))))
    go (no z) = ne_eqb print 0 z ∙ sym (ne_eqb (length (text_at s p)) 0 (λ h. z (e ∙ print_none (text_at s p) h)))

-- ---- the print of bytes in a row

part_first : (s : Text) (i : ℕ) {end : ℕ} → i < end → end ≤ length s → part s i end ≡ get_or s i 0 ∷ part s (i + 1) end
unfolding part
part_first s i {end} h l =
    let n : end - i ≡ suc (end - (i + 1)) = omega arith in
    let m : i + 1 ≡ suc i = omega arith in
    rw (n, m, drop-cons s i 0 (omega arith))

-- eight bytes in front of others are a word; a byte of fewer is a number
print_word : (print : ℕ) (t u : Text) → length t ≡ 8 → print_from print (t ++ u) ≡ print_from (step print (word_of t)) u
unfolding print_from steps words_of
print_word print t u h =
    let n : length (t ++ u) / 8 ≡ suc (length u / 8) = omega (arith, length-append t u) in
    rw (n, take_at t u 8 h, drop_at t u 8 h)

print_byte : (print b : ℕ) (t : Text) → length t < 7 → print_from print (b ∷ t) ≡ print_from (step print b) t
unfolding print_from steps words_of
print_byte print b t h =
    let n : length (b ∷ t) / 8 ≡ 0 = omega arith in
    let m : length t / 8 ≡ 0 = omega arith in
    rw (n, m)

-- eight of them; one, where fewer are left; and when none is left
module _ (s : Text) (print i end : ℕ) where
  module _ {w : ℕ} (l : end ≤ length s) where
    pub bytes_eight : 8 ≤ end - i → w ≡ step print (word_of (part s i (i + 8))) → print_from w (part s (i + 8) end) ≡ print_from print (part s i end)
    bytes_eight h e =
        let a : i ≤ i + 8 = omega arith in
        let b : i + 8 ≤ end = omega arith in
        let n : length (part s i (i + 8)) ≡ 8 = omega (arith, part_long s i {end = i + 8} (omega arith)) in
        ap (λ (x : ℕ). print_from x (part s (i + 8) end)) e ∙ sym (print_word print (part s i (i + 8)) (part s (i + 8) end) n) ∙ ap (print_from print) (part_join s a b)

    pub bytes_more : i < end → (8 ≤ end - i → ⊥) → w ≡ step print (get_or s i 0) → print_from w (part s (i + 1) end) ≡ print_from print (part s i end)
    bytes_more h g e =
        let n : length (part s (i + 1) end) < 7 = omega (arith, part_long s (i + 1) l) in
        ap (λ (x : ℕ). print_from x (part s (i + 1) end)) e ∙ sym (print_byte print (get_or s i 0) (part s (i + 1) end) n) ∙ ap (print_from print) (sym (part_first s i h l))

  pub bytes_none : end ≤ i → print ≡ print_from print (part s i end)
  unfolding print_from steps words_of part
  bytes_none h = let n : end - i ≡ 0 = omega arith in ap (λ (k : ℕ). print_from print (take k (drop i s))) (sym n)

-- ---- eight bytes as a word

module _ (s : Text) (i : ℕ) (h : i + 8 ≤ length s) where
  -- they, from j on
  byte_and : (j : ℕ) {k : ℕ} {u : Text} → part s k (i + 8) ≡ u → j + 1 ≡ k → j < i + 8 → part s j (i + 8) ≡ get_or s j 0 ∷ u
  byte_and j {k} {u} e q l = part_first s j l h ∙ ap (λ (v : Text). get_or s j 0 ∷ v) (ap (λ (m : ℕ). part s m (i + 8)) q ∙ e)

  no_byte : part s (i + 8) (i + 8) ≡ []
  unfolding part
  no_byte = let n : i + 8 - (i + 8) ≡ 0 = omega arith in rw n

  part_eight : part s i (i + 8) ≡ get_or s i 0 ∷ get_or s (i + 1) 0 ∷ get_or s (i + 2) 0 ∷ get_or s (i + 3) 0 ∷ get_or s (i + 4) 0 ∷ get_or s (i + 5) 0 ∷ get_or s (i + 6) 0 ∷ get_or s (i + 7) 0 ∷ []
  part_eight = byte_and i (byte_and (i + 1) (byte_and (i + 2) (byte_and (i + 3) (byte_and (i + 4) (byte_and (i + 5) (byte_and (i + 6) (byte_and (i + 7) no_byte (omega arith) (omega arith)) (omega arith) (omega arith)) (omega arith) (omega arith)) (omega arith) (omega arith)) (omega arith) (omega arith)) (omega arith) (omega arith)) (omega arith) (omega arith)) (omega arith) (omega arith)

  pub word_is : {a b c d e f g k : ℕ} → a ≡ get_or s i 0 → b ≡ get_or s (i + 1) 0 → c ≡ get_or s (i + 2) 0 → d ≡ get_or s (i + 3) 0 → e ≡ get_or s (i + 4) 0 → f ≡ get_or s (i + 5) 0 → g ≡ get_or s (i + 6) 0 → k ≡ get_or s (i + 7) 0 → a + b * 256 + c * 65536 + d * 16777216 + (e + f * 256 + g * 65536 + k * 16777216) * 4294967296 ≡ word_of (part s i (i + 8))
  unfolding word_of
  word_is ea eb ec ed ee ef eg ek = rw part_eight (omega arith)
