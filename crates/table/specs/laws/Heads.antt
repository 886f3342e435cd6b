-- What a string begins with: its first character's code point is the first byte of its text, where that is one of ASCII, and the rest of its text is what is left past that
-- character. Assumes nothing.
use Rattle.std.specs.Prelude.{◌≡◌, Bool, ◌&&◌, [], ◌∷◌, ◌++◌, ◌⊎◌, ℕ, ◌+◌, ◌*◌, ◌/◌, ◌%◌, ◌<◌, ◌≤◌, eqb, length}
use Rattle.std.proofs.Math.Path.{refl, sym, ap}
use Rattle.std.proofs.Common.{◌∙◌, true≢false, inl, inr}
use Rattle.std.proofs.Math.Bool.{true, false}
use Rattle.std.proofs.Math.Decide.{ℕ_discrete}
use native.Mathlib.Omega.{arith}
use Rattle.std.proofs.Math.Dec.{ltb}
use Rattle.std.proofs.Math.ListN.{get_or}
use borrow.Author.Tests.{ne_eqb, eqb-true, le-leb, lt-ltb, ltb-false}
use Rattle.text.specs.Reading.{Text, Out, done, bad, deep, next, pick, peek}
use Rattle.text.specs.Class.{class_of}
use Rattle.text.specs.Strings.{two, three, four, classed, character, string, code_of, utf8, before}
use Rattle.text.specs.declared.Code.{Code}
use Rattle.text.specs.declared.Code.TheVariants.{Of, No}
use Rattle.text.specs.Escapes.{short_at}
use Rattle.text.specs.laws.Class.{class_within}
use Rattle.text.specs.laws.Escapes.{short_reads, short_at_lem}
use Rattle.text.specs.laws.Peek.{peek_at, peek_end}
use Rattle.text.specs.laws.Plain.{own}
use Rattle.text.specs.laws.Readers.{pick_case, pick_false, bad_done, done_of}
use Rattle.text.specs.laws.Strings.{character_end, string_none}
use Rattle.text.specs.laws.Utf8.{second_of}
use Rattle.grammar.specs.Tree.{same}
use Rattle.manifest.proofs.laws.Bools.{halves}
use Rattle.values.specs.Strings.{is_text, same_as, rest, ascii_at}
use Rattle.values.specs.laws.Ascii.{ascii_reads}
use Rattle.values.specs.laws.Ordinary.{plain_itself}
use Rattle.values.specs.laws.Outs.{Stops, stops_is, stops_bad, stops_deep}
use Rattle.values.specs.laws.Rest.{rest_close, rest_char, rest_stops, code_of_lem, code_no, string_is}
use Rattle.values.specs.laws.Standing.{text_stops}

-- the string at p is a text that begins with d, one of ASCII, exactly where c is d and what is left of the string from n on is the rest of that text
pub record Heads (s : Text) (p c n : ℕ) : Type 0 where
  pub begins : (d : ℕ) (ds : Text) → d < 128 → same_as s p (d ∷ ds) ≡ pick (eqb c d) (is_text (rest s n) ds) false

-- ---- a character that is neither plain nor escaped is none of ASCII

alone : {A : Type 0} → A ⊎ ⊥ → A
alone (inl a) = a
alone (inr n) = absurd n

module _ (s : Text) (i : ℕ) {v j : ℕ} where
  two_high : 194 ≤ peek s i → peek s i ≤ 223 → two s i ≡ done v j → 128 ≤ v
  unfolding two
  two_high h k e =
      pick_case _ _ _ e
      (λ p d.
      let q : peek s i % 32 * 64 + peek s (i + 1) % 64 ≡ v = done_of d in
      omega arith)
      (λ _ d. absurd (bad_done d))

  three_high : 224 ≤ peek s i → peek s i ≤ 239 → three s i ≡ done v j → 128 ≤ v
  unfolding three
  three_high h k e =
      pick_case _ _ _ e
      (λ p f. pick_case _ _ _ f
      (λ _ d.
      let w = second_of (peek s i) (peek s (i + 1)) p in
      let q : (peek s i % 16 * 64 + peek s (i + 1) % 64) * 64 + peek s (i + 2) % 64 ≡ v = done_of d in
      go w.greatest w.short q (ℕ_discrete (peek s i) 224))
      (λ _ d. absurd (bad_done d)))
      (λ _ d. absurd (bad_done d))
    where
      go : peek s (i + 1) ≤ 191 → (peek s i ≡ 224 → 160 ≤ peek s (i + 1)) → (peek s i % 16 * 64 + peek s (i + 1) % 64) * 64 + peek s (i + 2) % 64 ≡ v → Dec (peek s i ≡ 224) → 128 ≤ v
      go x y q (yes z) = omega (arith, y z)
      go x y q (no z) = omega arith

  four_high : 240 ≤ peek s i → peek s i ≤ 244 → four s i ≡ done v j → 128 ≤ v
  unfolding four
  four_high h k e =
      pick_case _ _ _ e
      (λ p f. pick_case _ _ _ f
      (λ _ g. pick_case _ _ _ g
      (λ _ d.
      let w = second_of (peek s i) (peek s (i + 1)) p in
      let q : ((peek s i % 8 * 64 + peek s (i + 1) % 64) * 64 + peek s (i + 2) % 64) * 64 + peek s (i + 3) % 64 ≡ v = done_of d in
      go w.greatest w.longer q (ℕ_discrete (peek s i) 240))
      (λ _ d. absurd (bad_done d)))
      (λ _ d. absurd (bad_done d)))
      (λ _ d. absurd (bad_done d))
    where
      go : peek s (i + 1) ≤ 191 → (peek s i ≡ 240 → 144 ≤ peek s (i + 1)) → ((peek s i % 8 * 64 + peek s (i + 1) % 64) * 64 + peek s (i + 2) % 64) * 64 + peek s (i + 3) % 64 ≡ v → Dec (peek s i ≡ 240) → 128 ≤ v
      go x y q (yes z) = omega (arith, y z)
      go x y q (no z) = omega arith

  character_high : (peek s i ≡ 92 → ⊥) → own (peek s i) ≡ false → character s i ≡ done v j → 128 ≤ v
  unfolding character classed
  character_high n o e =
      pick_case _ _ _ e
      (λ h _. let w : (92 ≤ peek s i) × (peek s i ≤ 92) = alone (class_within 2 (peek s i) (eqb-true _ _ h)) in absurd (n (omega arith)))
      (λ _ f. pick_case _ _ _ f
      (λ h d. let w = alone (class_within 18 (peek s i) (eqb-true _ _ h)) in two_high w.0 w.1 d)
      (λ _ g. pick_case _ _ _ g
      (λ h d. let w = alone (class_within 19 (peek s i) (eqb-true _ _ h)) in three_high w.0 w.1 d)
      (λ _ k. pick_case _ _ _ k
      (λ h d. let w = alone (class_within 20 (peek s i) (eqb-true _ _ h)) in four_high w.0 w.1 d)
      (λ _ l. pick_case _ _ _ l
      (λ _ d. absurd (bad_done d))
      (λ h _. absurd (true≢false (sym (plain (halves _ _ h)) ∙ o)))))))
    where
      plain : (ltb (class_of (peek s i)) 4 ≡ false) × (ltb 17 (class_of (peek s i)) ≡ false) → own (peek s i) ≡ true
      plain (a, b) = λ x. le-leb 4 (class_of (peek s i)) (ltb-false (class_of (peek s i)) 4 a) x && lt-ltb (class_of (peek s i)) 18 (omega (arith, ltb-false 17 (class_of (peek s i)) b)) x

-- ---- the text after its first character

pick_none : (b : Bool) → false ≡ pick b false false
unfolding pick
pick_none true = refl
pick_none false = refl

module _ {d : ℕ} (l : d < 128) (ds : Text) where
  -- what is above ASCII is not d
  above : (b : ℕ) → 128 ≤ b → eqb b d ≡ false
  above b h = ne_eqb b d (λ (e : b ≡ d). omega arith)

  first_byte : (v : ℕ) (t : Text) → same (utf8 v ++ t) (d ∷ ds) ≡ pick (eqb v d) (same t ds) false
  unfolding utf8 pick same
  first_byte v t = go (ltb v 128) refl (ltb v 2048) (ltb v 65536)
    where
      go : (x : Bool) → ltb v 128 ≡ x → (y z : Bool) → same (pick x (v ∷ []) (pick y ((192 + v / 64) ∷ (128 + v % 64) ∷ []) (pick z ((224 + v / 4096) ∷ (128 + v / 64 % 64) ∷ (128 + v % 64) ∷ []) ((240 + v / 262144) ∷ (128 + v / 4096 % 64) ∷ (128 + v / 64 % 64) ∷ (128 + v % 64) ∷ []))) ++ t) (d ∷ ds) ≡ pick (eqb v d) (same t ds) false
      go true e y z = refl
      go false e true z = pick_false _ _ (above (192 + v / 64) (omega arith)) ∙ sym (pick_false _ _ (above v (ltb-false v 128 e)))
      go false e false true = pick_false _ _ (above (224 + v / 4096) (omega arith)) ∙ sym (pick_false _ _ (above v (ltb-false v 128 e)))
      go false e false false = pick_false _ _ (above (240 + v / 262144) (omega arith)) ∙ sym (pick_false _ _ (above v (ltb-false v 128 e)))

  after : (o : Out Text) (v : ℕ) → is_text (next o (before v)) (d ∷ ds) ≡ pick (eqb v d) (is_text o ds) false
  unfolding is_text next before
  after (done t m) v = first_byte v t
  after (bad m) v = pick_none (eqb v d)
  after (deep m) v = pick_none (eqb v d)

-- ---- the string at p

module _ (s : Text) (p : ℕ) where
  -- no text of ASCII begins the string
  nothing : ((d : ℕ) (ds : Text) → d < 128 → same_as s p (d ∷ ds) ≡ false) → {n : ℕ} → Heads s p 128 n
  nothing h = record { begins = λ d ds l. h d ds l ∙ sym (pick_false _ _ (above l ds 128 (omega arith))) }

  stopped : Stops (string s p) → {n : ℕ} → Heads s p 128 n
  unfolding same_as
  stopped h = nothing (λ d ds l. text_stops (string s p) (d ∷ ds) h)

  pub heads_other : (peek s p ≡ 34 → ⊥) → {n : ℕ} → Heads s p 128 n
  heads_other h = stopped (stops_is (string_none s p h) stops_bad)

  pub heads_end : length s ≤ p → {n : ℕ} → Heads s p 128 n
  heads_end h = heads_other (λ (e : peek s p ≡ 34). omega (arith, peek_end s p h))

  -- what no character is read of
  heads_bad : (peek s (p + 1) ≡ 34 → ⊥) → Stops (character s (p + 1)) → {n : ℕ} → Heads s p 128 n
  heads_bad g h = go (ℕ_discrete (peek s p) 34)
    where
      go : Dec (peek s p ≡ 34) → {n : ℕ} → Heads s p 128 n
      go (yes q) = stopped (stops_is (string_is s p q) (rest_stops s (p + 1) g h))
      go (no q) = heads_other q

  -- nothing stands behind a quote
  pub heads_last : length s ≤ p + 1 → {n : ℕ} → Heads s p 128 n
  heads_last h = heads_bad (λ (e : peek s (p + 1) ≡ 34). omega (arith, peek_end s (p + 1) h)) (stops_is (character_end s (p + 1) h) stops_bad)

  module _ (q : peek s p ≡ 34) where
    heads_char : (peek s (p + 1) ≡ 34 → ⊥) → {v j : ℕ} → character s (p + 1) ≡ done v j → Heads s p v j
    unfolding same_as
    heads_char n {v} {j} e = record { begins = λ d ds l. ap (λ (o : Out Text). is_text o (d ∷ ds)) (string_is s p q ∙ rest_char s (p + 1) n e) ∙ after l ds (rest s j) v }

    -- a byte that is a character by itself
    pub heads_plain : {b : ℕ} {t : Bool} → p + 1 < length s → b ≡ get_or s (p + 1) 0 → t ≡ own (get_or s (p + 1) 0) → t ≡ true → Heads s p b (p + 2)
    heads_plain {b} l e f g =
        let w = plain_itself s (p + 1) l (sym f ∙ g) in
        let k : p + 1 + 1 ≡ p + 2 = omega arith in
        let a : peek s (p + 1) ≡ b = sym (e ∙ peek_at s (p + 1) l) in
        heads_char w.unquoted (w.reads ∙ (λ x. done (a x) (k x)))

    -- a byte that is no character of ASCII: a quote, and the string is empty; or another
    pub heads_none : {t : Bool} → p + 1 < length s → t ≡ own (get_or s (p + 1) 0) → t ≡ false → (get_or s (p + 1) 0 ≡ 92 → ⊥) → {n : ℕ} → Heads s p 128 n
    unfolding same_as is_text same
    heads_none {t} l f g m = go (ℕ_discrete (peek s (p + 1)) 34)
      where
        at : get_or s (p + 1) 0 ≡ peek s (p + 1)
        at = peek_at s (p + 1) l

        read : (peek s (p + 1) ≡ 34 → ⊥) → (o : Out ℕ) → character s (p + 1) ≡ o → {n : ℕ} → Heads s p 128 n
        read z (done v j) e =
            let h : 128 ≤ v = character_high s (p + 1) (λ r. m (at ∙ r)) (ap own (sym at) ∙ sym f ∙ g) e in
            nothing (λ d ds k. (heads_char z e).begins d ds k ∙ pick_false _ _ (above k ds v h))
        read z (bad k) e = heads_bad z (stops_is e stops_bad)
        read z (deep k) e = heads_bad z (stops_is e stops_deep)

        go : Dec (peek s (p + 1) ≡ 34) → {n : ℕ} → Heads s p 128 n
        go (yes z) = nothing (λ d ds k. ap (λ (o : Out Text). is_text o (d ∷ ds)) (string_is s p q ∙ rest_close s (p + 1) z))
        go (no z) = read z _ refl

    -- an escape of two bytes
    pub heads_short : {v : ℕ} → v ≡ short_at s (p + 1) → 0 < v → Heads s p v (p + 3)
    heads_short {v} e h =
        let k : p + 1 + 2 ≡ p + 3 = omega arith in
        heads_char (λ (z : peek s (p + 1) ≡ 34). omega (arith, (short_at_lem s (p + 1) e h).0)) (short_reads s (p + 1) e h ∙ ap (done v) k)

    -- one that stands for a character of ASCII by its number
    pub heads_ascii : {v : ℕ} → v ≡ ascii_at s (p + 1) → 0 < v → Heads s p v (p + 7)
    heads_ascii {v} e h =
        let w = ascii_reads s (p + 1) e h in
        let k : p + 1 + 6 ≡ p + 7 = omega arith in
        heads_char (λ (z : peek s (p + 1) ≡ 34). omega (arith, w.slash)) (w.reads ∙ ap (done v) k)

    -- any escape
    module _ {x : Code} (ex : x ≡ code_of (character s (p + 1))) (m : peek s (p + 1) ≡ 92) where
      escaped : peek s (p + 1) ≡ 34 → ⊥
      escaped e = omega arith

      pub heads_of : {v j : ℕ} → x ≡ Of v j → Heads s p v j
      heads_of e = heads_char escaped (code_of_lem _ ex e)

      pub heads_no : {k n : ℕ} → x ≡ No k → Heads s p 128 n
      heads_no e = heads_bad escaped (code_no _ ex e)
