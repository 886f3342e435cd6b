-- A walk over a string that writes its text: the bytes written so far, with what is left of the string, are the text, and the front of them is in memory. Assumes nothing.
use Rattle.std.specs.Prelude.{◌≡◌, true, false, ℕ, suc, ◌+◌, ◌-◌, ◌/◌, ◌%◌, ◌≤◌, ◌<◌, replicate}
use Rattle.std.proofs.Math.Path.{refl, sym, ap}
use Rattle.std.proofs.Common.{◌∙◌, length-append, eqb-true}
use mathlib.Core.List.{List, [], ◌∷◌, ◌++◌, append_assoc, append-nil}
use native.Mathlib.Omega.{arith}
use Rattle.std.proofs.Math.Decide.{dec_lt}
use Rattle.std.proofs.Math.ListN.{length}
use Rattle.text.specs.Reading.{Text, Out, done, bad, deep, next, pick, peek, part}
use Rattle.text.specs.Class.{class_of}
use Rattle.text.specs.Strings.{character, utf8, before, onward, characters}
use Rattle.text.specs.Raw.{past_raw}
use Rattle.text.specs.Escapes.{short_at, long_at, several_at}
use Rattle.text.specs.laws.Plain.{own}
use Rattle.text.specs.laws.Peek.{kind_in, peek_at}
use Rattle.text.specs.laws.Readers.{pick_case, bad_done, past_strict, at_done_le}
use Rattle.text.specs.laws.Strings.{character_end, character_past, character_bounded, characters_turns, characters_close, characters_more, characters_bad, string_none, string_some}
use Rattle.text.specs.laws.Raw.{prefixed, raw_reads}
use Rattle.text.specs.laws.Escapes.{Told, alone, twice, told, short_reads, short_few, long_reads, several_reads}
use Rattle.values.specs.laws.Ordinary.{Itself, plain_itself}
use Rattle.index.specs.Index.{text_in, text_at}
use Rattle.prints.specs.Prints.{front}
use Rattle.prints.specs.laws.Fronts.{Puts, front_none, puts_same, utf8_one, utf8_few, part_long}

-- what is left of a string from i on
unfoldable pub rest : Text → ℕ → Out Text
rest s i = characters (suc (length s)) s i

-- what was read behind d; nothing where nothing was
pub text_on : Text → Out Text → Text
text_on d (done t j) = d ++ t
text_on d (bad p) = []
text_on d (deep p) = []

-- n bytes are written, which with what is left of the string from i on are the text t: their front is in memory
pub record Written (s t : Text) (i n : ℕ) (memory : List ℕ) : Type 0 where
  pub so : Text
  pub long : length so ≡ n
  pub bytes : memory ≡ front so
  pub left : text_on so (rest s i) ≡ t

-- all of a text is written
pub record Whole (t : Text) (n : ℕ) (memory : List ℕ) : Type 0 where
  pub long : n ≡ length t
  pub bytes : memory ≡ front t

-- a walk that began at `from`, with `count` bytes written, has come to i, with n bytes written, of the same text
pub record Going (s : Text) (from count : ℕ) (memory : List ℕ) (i n : ℕ) (after : List ℕ) : Type 0 where
  pub within : i ≤ length s
  pub short : n ≤ i
  pub keeps : (t : Text) → Written s t from count memory → Written s t i n after

-- ---- what is left

text_in_lem : (o : Out Text) → text_on [] o ≡ text_in o
unfolding text_on text_in
text_in_lem (done t j) = refl
text_in_lem (bad p) = refl
text_in_lem (deep p) = refl

text_next : (d : Text) (v : ℕ) (o : Out Text) → text_on (d ++ utf8 v) o ≡ text_on d (next o (before v))
unfolding text_on next before
text_next d v (done t j) = append_assoc d (utf8 v) t
text_next d v (bad p) = refl
text_next d v (deep p) = refl

text_prefixed : (d u : Text) (o : Out Text) → text_on (d ++ u) o ≡ text_on d (next o (prefixed u))
unfolding text_on next prefixed
text_prefixed d u (done t j) = append_assoc d u t
text_prefixed d u (bad p) = refl
text_prefixed d u (deep p) = refl

-- a character that was read stands in the text, and ends past its start, in the text
module _ (s : Text) (i : ℕ) {v j : ℕ} (e : character s i ≡ done v j) where
  character_in : i < length s
  character_in = go (dec_lt i (length s))
    where
      go : Dec (i < length s) → i < length s
      go (yes h) = h
      go (no n) = absurd (bad_done (sym (character_end s i (omega arith)) ∙ e))

  goes_on : i < j
  goes_on = past_strict (character_past s i) e

  pub ends_in : j ≤ length s
  ends_in = let l : i < length s = character_in in at_done_le (character_bounded s i (omega arith)) e

  rest_more : rest s i ≡ next (rest s j) (before v)
  unfolding rest onward
  rest_more =
      let l : i < length s = character_in in
      let g : i < j = goes_on in
      characters_more (length s) s i e ∙ ap (λ (o : Out Text). next o (before v)) (characters_turns s (length s) (suc (length s)) j (omega arith) (omega arith))

-- ---- a walk begins, and ends

whole_none : {t : Text} → t ≡ [] → Whole t 0 (replicate 256 0)
whole_none e = record { long = sym (ap length e); bytes = front_none ∙ ap front (sym e) }

module _ (s : Text) (p : ℕ) where
  pub no_string : (peek s p ≡ 34 → ⊥) → Whole (text_at s p) 0 (replicate 256 0)
  unfolding text_at text_in
  no_string h = whole_none (ap text_in (string_none s p h))

  -- the bytes that stand for themselves are put first
  pub begins : {i n : ℕ} {memory : List ℕ} → peek s p ≡ 34 → i ≡ past_raw s (p + 1) → Puts (replicate 256 0) 0 (part s (p + 1) i) memory n → Written s (text_at s p) i n memory
  unfolding text_at rest
  begins {i} h e a =
      let x : length (part s (p + 1) i) ≡ 0 + length (part s (p + 1) i) = omega arith in
      record {
        so = part s (p + 1) i;
        long = x ∙ sym a.count;
        bytes = a.bytes [] refl front_none;
        left = text_prefixed [] (part s (p + 1) i) (rest s i) ∙ ap (text_on []) (sym (raw_reads s (p + 1) e)) ∙ text_in_lem (rest s (p + 1)) ∙ ap text_in (sym (string_some s p h));
      }

module _ {s t : Text} {i n : ℕ} {memory : List ℕ} (w : Written s t i n memory) where
  pub closes : peek s i ≡ 34 → Whole t n memory
  unfolding text_on rest
  closes h =
      let e : w.so ≡ t = sym (append-nil w.so) ∙ sym (ap (text_on w.so) (characters_close (length s) s i h)) ∙ w.left in
      record { long = sym w.long ∙ ap length e; bytes = w.bytes ∙ ap front e }

  pub stops : {q : ℕ} → (peek s i ≡ 34 → ⊥) → character s i ≡ bad q → Whole t 0 (replicate 256 0)
  unfolding text_on rest
  stops h e = whole_none (sym w.left ∙ ap (text_on w.so) (characters_bad (length s) s i h e))

  writes : {v j r : ℕ} {after : List ℕ} → character s i ≡ done v j → Puts memory n (utf8 v) after r → Written s t j r after
  writes {v} {j} e a =
      record {
        so = w.so ++ utf8 v;
        long = length-append w.so (utf8 v) ∙ ap (λ (x : ℕ). x + length (utf8 v)) w.long ∙ sym a.count;
        bytes = a.bytes w.so w.long w.bytes;
        left = text_next w.so v (rest s j) ∙ ap (text_on w.so) (sym (rest_more s i e)) ∙ w.left;
      }

-- ---- a walk goes on by a character

-- the end is no byte
pub end_unplain : own 256 ≡ false
unfolding class_of pick
end_unplain = refl

pub plain_here : (s : Text) (i : ℕ) → own (peek s i) ≡ true → Itself s i
plain_here s i h = let l : i < length s = kind_in own end_unplain s i h in plain_itself s i l (ap own (peek_at s i l) ∙ h)

-- an escape of a backslash and a u has 6 bytes, or 12
pub long_pair : (s : Text) (i : ℕ) {e : ℕ} → e ≡ long_at s i → 0 < e → (e % 16 ≡ 6 → ⊥) → e % 16 ≡ 12
unfolding long_at
long_pair s i {e} f h n =
    pick_case _ _ _ (sym f)
    (λ b g. pick_case _ _ _ g (λ u _. go (told s i (eqb-true _ _ b) (eqb-true _ _ u) (long_reads s i f h))) (λ _ (z : 0 ≡ e). absurd (omega arith)))
    (λ _ (z : 0 ≡ e). absurd (omega arith))
  where
    go : Told s i (e / 16) (i + e % 16) → e % 16 ≡ 12
    go (alone d a b q) = absurd (n (omega arith))
    go (twice d a b u c g y q) = omega arith

module _ {s : Text} {from count i n : ℕ} {memory after : List ℕ} (w : Going s from count memory i n after) where
  -- by one that has no more bytes in UTF-8 than it takes
  on : {v j r : ℕ} {last : List ℕ} → character s i ≡ done v j → length (utf8 v) ≤ j - i → Puts after n (utf8 v) last r → Going s from count memory j r last
  on {v} {j} e l a =
      let g : i < j = goes_on s i e in
      record { within = ends_in s i e; short = omega (arith, a.count, w.short); keeps = λ t x. writes (w.keeps t x) e a }

  pub on_short : {v r : ℕ} {last : List ℕ} → v ≡ short_at s i → 0 < v → Puts after n (v ∷ []) last r → Going s from count memory (i + 2) r last
  on_short {v} e h a =
      let u : utf8 v ≡ v ∷ [] = utf8_one v (short_few s i e) in
      on (short_reads s i e h) (omega (arith, ap length u)) (puts_same (sym u) a)

  pub on_plain : {b r : ℕ} {last : List ℕ} → b ≡ peek s i → own (peek s i) ≡ true → Puts after n (b ∷ []) last r → Going s from count memory (i + 1) r last
  on_plain {b} e h a =
      let y : Itself s i = plain_here s i h in
      let u : utf8 (peek s i) ≡ peek s i ∷ [] = utf8_one (peek s i) (omega (arith, y.ordinary.high)) in
      on y.reads (omega (arith, ap length u)) (puts_same (ap (λ (x : ℕ). x ∷ []) e ∙ sym u) a)

  pub on_long : {e k r : ℕ} {last : List ℕ} → e ≡ long_at s i → 0 < e → e % 16 ≡ k → 4 ≤ k → Puts after n (utf8 (e / 16)) last r → Going s from count memory (i + k) r last
  on_long {e} {k} f h q l a = on (long_reads s i f h ∙ ap (λ (x : ℕ). done (e / 16) (i + x)) q) (omega (arith, utf8_few (e / 16))) a

  pub on_several : {k r : ℕ} {last : List ℕ} → k ≡ several_at s i → 0 < k → Puts after n (part s i (i + k)) last r → Going s from count memory (i + k) r last
  on_several {k} e h a =
      let y = several_reads s i e h in
      let m : length (utf8 y.0) ≡ i + k - i = ap length y.2 ∙ part_long s i (ends_in s i y.1) in
      on y.1 (omega arith) (puts_same (sym y.2) a)
