-- The laws of the loops over a string: its length, and its comparison with bytes and with another string. Assumes nothing.
use mathlib.Core.Path.{◌≡◌, refl, sym, ap, ◌∙◌}
use mathlib.Core.Bool.{Bool, true, false, ◌&&◌}
use mathlib.Core.List.{[], ◌∷◌, ◌++◌}
use mathlib.Core.Logic.{⊎_elim}
use Prim.Native.Nat.{ℕ, zero, suc, ◌+◌, ◌-◌, ◌*◌, ◌/◌, ◌%◌, ◌≤◌, ◌<◌}
use native.Mathlib.Omega.{arith}
use native.Mathlib.Nat.{add-zero, zero-add}
use native.Mathlib.Numerals.{add-one}
use native.Mathlib.Decide.{dec_lt}
use lib.ListN.{length, drop, get_or, drop_of_length-le, length-append}
use lib.Seq.{drop-cons}
use lib.Dec.{eqb}
use borrow.Author.Tests.{eq-eqb, ne_eqb, eqb-true, eqb-false, le-leb, lt-leb}
use Rattle.text.specs.Reading.{Text, Out, done, bad, deep, next, pick, peek, part}
use Rattle.text.specs.Strings.{escape_of, character, utf8, before, string}
use Rattle.grammar.specs.Tree.{same}
use Rattle.values.specs.Strings.{length_in, length_at, is_text, same_as, rest, begins, ends_in, both_text, same_texts}
use Rattle.values.specs.laws.Compared.{starts_from, reach, ends_from, Went}
use Rattle.values.specs.laws.Ordinary.{Ordinary, reads_itself, width_one, plain_itself}
use Rattle.values.specs.laws.Alike.{Twice, Alike, alike_less, alike_last}
use Rattle.values.specs.laws.Raws.{part_length, Raws, Passed}
use Rattle.text.specs.Escapes.{short_at, long_at, several_at}
use Rattle.text.specs.laws.Plain.{own, past_own, own_step, own_stop, own_past, own_ge}
use Rattle.text.specs.laws.Escapes.{short_reads, short_at_lem, long_reads, several_reads, no_character, escape_none}
use Rattle.text.specs.laws.Raw.{prefixed}
use Rattle.text.specs.laws.Readers.{at_done_le, pick_true, pick_false}
use Rattle.text.specs.laws.Utf8.{character_raw, character_scalar}
use Rattle.text.specs.laws.Peek.{peek_in}
use Rattle.text.specs.laws.Strings.{string_none, character_strict, character_bounded}
use Rattle.values.specs.laws.Outs.{Stops, stops_is, stops_bad}
use Rattle.values.specs.laws.Standing.{left_stops, right_stops}
use Rattle.values.specs.laws.Rest.{rest_close, rest_char, rest_stops, Coded, string_is}
use Rattle.values.specs.laws.Ends.{ends_whole}
use Rattle.values.specs.laws.Fronts.{few_one, same_front, characters_same, not_empty}
use Rattle.values.proofs.Widths.{at_most_four, character_in}

-- ---- the length

-- n bytes, and those that were read
pub length_from : ℕ → Out Text → ℕ
length_from n (done t j) = n + length t
length_from n (bad p) = 0
length_from n (deep p) = 0

length_stops : (n : ℕ) (o : Out Text) → Stops o → length_from n o ≡ 0
unfolding length_from
length_stops n (done t j) h = absurd (h.never t j refl)
length_stops n (bad p) h = refl
length_stops n (deep p) h = refl

length_prefixed : (n : ℕ) (u : Text) (o : Out Text) → length_from n (next o (prefixed u)) ≡ length_from (n + length u) o
unfolding length_from next prefixed
length_prefixed n u (done t j) = omega (arith, length-append u t)
length_prefixed n u (bad p) = refl
length_prefixed n u (deep p) = refl

length_next : (n v : ℕ) (o : Out Text) → length_from n (next o (before v)) ≡ length_from (n + length (utf8 v)) o
unfolding prefixed before
length_next n v o = length_prefixed n (utf8 v) o

length_in_lem : (o : Out Text) → length_in o ≡ length_from 0 o
unfolding length_from length_in
length_in_lem (done t j) = omega arith
length_in_lem (bad p) = refl
length_in_lem (deep p) = refl

pub length_none : (s : Text) (p : ℕ) → (peek s p ≡ 34 → ⊥) → 0 ≡ length_at s p
unfolding length_at length_in
length_none s p h = sym (ap length_in (string_none s p h))

pub length_start : (s : Text) (p : ℕ) → peek s p ≡ 34 → length_from 0 (rest s (p + 1)) ≡ length_at s p
unfolding length_at
length_start s p h = sym (length_in_lem (rest s (p + 1))) ∙ ap length_in (sym (string_is s p h))

module _ (s : Text) (n i : ℕ) {r : ℕ} (inv : length_from n (rest s i) ≡ r) where
  pub length_close : peek s i ≡ 34 → n ≡ r
  unfolding length_from
  length_close h = sym (ap (length_from n) (rest_close s i h) ∙ add-zero n) ∙ inv

  pub length_stop : (peek s i ≡ 34 → ⊥) → Stops (character s i) → 0 ≡ r
  length_stop h k = sym (length_stops n _ (rest_stops s i h k)) ∙ inv

  pub length_more : (peek s i ≡ 34 → ⊥) → {v j w : ℕ} → character s i ≡ done v j → w ≡ length (utf8 v) → length_from (n + w) (rest s j) ≡ r
  length_more h {v} {j} {w} e f = ap (λ (k : ℕ). length_from (n + k) (rest s j)) f ∙ sym (length_next n v (rest s j)) ∙ ap (length_from n) (sym (rest_char s i h e)) ∙ inv

-- a code point below 128 has one byte
pub few_width : {v : ℕ} → v < 128 → 1 ≡ length (utf8 v)
few_width {v} h = sym (ap length (few_one v h))

-- a character goes forward and stays within the text
pub ahead : (s : Text) {i v j : ℕ} → character s i ≡ done v j → (i < j) × (j ≤ length s)
ahead s {i} {v} {j} e = (character_strict s i v j e, at_done_le (character_bounded s i (omega (arith, (character_in s e).0))) e)

-- an escape is no quote
pub short_open : (s : Text) (i : ℕ) {r : ℕ} → r ≡ short_at s i → 0 < r → peek s i ≡ 34 → ⊥
short_open s i e h q = omega (arith, (short_at_lem s i e h).0)

-- what is written in no way is no character
pub none_told : (s : Text) (i : ℕ) {r e k b : ℕ} → r ≡ short_at s i → r ≤ 0 → e ≡ long_at s i → e ≤ 0 → k ≡ several_at s i → k ≡ 0 → b ≡ peek s i → own b ≡ false → Stops (character s i)
none_told s i f zf g zg m zm eb o = stops_is (no_character s i f (omega arith) g (omega arith) m zm (ap own (sym eb) ∙ o)).1 stops_bad

length_stays : (s : Text) (n i : ℕ) {k : ℕ} → k ≡ i → length_from (n + (k - i)) (rest s k) ≡ length_from n (rest s i)
length_stays s n i {k} e = let z : n + (k - i) ≡ n = omega arith in ap (λ (m : ℕ). length_from m (rest s k)) z ∙ ap (λ (m : ℕ). length_from n (rest s m)) e

-- plain bytes in a row, m at most: each counts one
length_turns : (m : ℕ) (s : Text) (n i : ℕ) → length s ≤ m + i → length_from (n + (past_own s i - i)) (rest s (past_own s i)) ≡ length_from n (rest s i)
length_turns zero s n i h = length_stays s n i (own_past s i (omega arith))
length_turns (suc m) s n i h = go (dec_lt i (length s)) (length_turns m s (n + 1) (i + 1) (omega arith))
  where
    here : length_from (n + 1 + (past_own s (i + 1) - (i + 1))) (rest s (past_own s (i + 1))) ≡ length_from (n + 1) (rest s (i + 1)) → (l : i < length s) (b : Bool) → own (get_or s i 0) ≡ b → length_from (n + (past_own s i - i)) (rest s (past_own s i)) ≡ length_from n (rest s i)
    here f l true e =
        let p = plain_itself s i l e in
        let q : past_own s i ≡ past_own s (i + 1) = own_step s i l refl e in
        let z : n + (past_own s (i + 1) - i) ≡ n + 1 + (past_own s (i + 1) - (i + 1)) = omega (arith, own_ge s (i + 1)) in
        ap (λ (k : ℕ). length_from (n + (k - i)) (rest s k)) q ∙ ap (λ (k : ℕ). length_from k (rest s (past_own s (i + 1)))) z ∙ f
        ∙ length_more s n i refl p.unquoted p.reads (width_one _ p.ordinary)
    here f l false e = length_stays s n i (own_stop s i l refl e)

    go : Dec (i < length s) → length_from (n + 1 + (past_own s (i + 1) - (i + 1))) (rest s (past_own s (i + 1))) ≡ length_from (n + 1) (rest s (i + 1)) → length_from (n + (past_own s i - i)) (rest s (past_own s i)) ≡ length_from n (rest s i)
    go (yes l) f = here f l _ refl
    go (no g) f = length_stays s n i (own_past s i (omega arith))

pub length_own : (s : Text) (i : ℕ) {k r : ℕ} → length_from 0 (rest s i) ≡ r → k ≡ past_own s i → length_from (k - i) (rest s k) ≡ r
length_own s i {k} inv e =
    ap (λ (m : ℕ). length_from m (rest s k)) (sym (zero-add (k - i))) ∙ ap (λ (m : ℕ). length_from (0 + (m - i)) (rest s m)) e ∙ length_turns (length s) s 0 i (omega arith) ∙ inv

pub own_from : (s : Text) (i : ℕ) {k : ℕ} → k ≡ past_own s i → i ≤ k
own_from s i e = omega (arith, own_ge s i)

-- a character of several bytes counts as many as it has
pub length_several : (s : Text) (n i : ℕ) {k r : ℕ} → length_from n (rest s i) ≡ r → (peek s i ≡ 34 → ⊥) → k ≡ several_at s i → 0 < k → length_from (n + k) (rest s (i + k)) ≡ r
length_several s n i {k} inv h e l =
    let w = several_reads s i e l in
    length_more s n i inv h w.1 (several_width s i e l w.1 w.2)
  where
    several_width : (s : Text) (i : ℕ) {k : ℕ} → k ≡ several_at s i → 0 < k → {v : ℕ} → character s i ≡ done v (i + k) → utf8 v ≡ part s i (i + k) → k ≡ length (utf8 v)
    several_width s i {k} e l c u =
        let m : i + k ≤ length s = at_done_le (character_bounded s i (omega (arith, (character_in s c).0))) c in
        let z : i + k - i ≡ k = omega arith in
        sym (ap length u ∙ part_length s i (i + k) (omega arith) ∙ z)

-- ---- the comparison with bytes: where they end in a text t

pick_same : {A : Type 0} (b : Bool) (x : A) → pick b x x ≡ x
unfolding pick
pick_same true x = refl
pick_same false x = refl

pick_two : {A : Type 0} (a b : Bool) (x y : A) → pick a (pick b x y) y ≡ pick (a && b) x y
unfolding pick
pick_two true b x y = refl
pick_two false b x y = refl

-- past the end nothing stands
past : (xs t : Text) (k : ℕ) → length t < k → reach xs t k ≡ length t + 1
unfolding reach
past [] t k h = pick_false _ _ (lt-leb k (length t) h)
past (x ∷ xs) t k h = ap (λ (n : ℕ). pick (eqb x (peek t k)) n (length t + 1)) (past xs t (k + 1) (omega arith)) ∙ pick_same _ _

joined : (ok : Bool) (xs ys t : Text) (k : ℕ) → pick ok (reach (xs ++ ys) t k) (length t + 1) ≡ pick (starts_from ok xs t k) (reach ys t (k + length xs)) (length t + 1)
unfolding reach starts_from
joined ok [] ys t k = rw add-zero
joined ok (x ∷ xs) ys t k = pick_two ok _ _ _ ∙ joined (ok && eqb x (peek t k)) xs ys t (k + 1) ∙ ap (λ (n : ℕ). pick (starts_from (ok && eqb x (peek t k)) xs t (k + 1)) (reach ys t n) (length t + 1)) (omega arith)

-- they stand there from k on if what is left of t begins with them
reach_begins : (u t : Text) (k : ℕ) → k ≤ length t → reach u t k ≡ pick (begins u (drop k t)) (k + length u) (length t + 1)
unfolding reach begins peek pick
reach_begins [] t k h = rw (le-leb k (length t) h, add-zero)
reach_begins (x ∷ u) t k h = go (dec_lt k (length t)) (reach_begins u t (k + 1))
  where
    further : (b : Bool) (v : Text) {n : ℕ} → n ≡ pick (begins u v) (k + 1 + length u) (length t + 1) → pick b n (length t + 1) ≡ pick (pick b (begins u v) false) (k + suc (length u)) (length t + 1)
    further true v e = e ∙ ap (λ (n : ℕ). pick (begins u v) n (length t + 1)) (omega arith)
    further false v e = refl

    go : Dec (k < length t) → (k + 1 ≤ length t → reach u t (k + 1) ≡ pick (begins u (drop (k + 1) t)) (k + 1 + length u) (length t + 1)) → pick (eqb x (peek t k)) (reach u t (k + 1)) (length t + 1) ≡ pick (begins (x ∷ u) (drop k t)) (k + suc (length u)) (length t + 1)
    go (yes l) f = rw (drop-cons t k 256 l, ← add-one k) (further (eqb x (get_or t k 256)) (drop (k + 1) t) (f (omega arith)))
    go (no n) f = let z : length t ≤ k = omega arith in rw (drop_of_length-le t z, past u t (k + 1) (omega arith)) (pick_same (eqb x (peek t k)) (length t + 1))

ends_stops : (o : Out Text) (t : Text) (k : ℕ) → Stops o → ends_from o t k ≡ length t + 1
unfolding ends_from
ends_stops (done u j) t k h = absurd (h.never u j refl)
ends_stops (bad p) t k h = refl
ends_stops (deep p) t k h = refl

ends_past : (o : Out Text) (t : Text) (k : ℕ) → length t < k → ends_from o t k ≡ length t + 1
unfolding ends_from
ends_past (done u j) t k h = past u t k h
ends_past (bad p) t k h = refl
ends_past (deep p) t k h = refl

ends_prefixed : (o : Out Text) (t : Text) (k : ℕ) (u : Text) → ends_from (next o (prefixed u)) t k ≡ pick (starts_from true u t k) (ends_from o t (k + length u)) (length t + 1)
unfolding ends_from next prefixed pick
ends_prefixed (done x j) t k u = joined true u x t k
ends_prefixed (bad p) t k u = sym (pick_same (starts_from true u t k) _)
ends_prefixed (deep p) t k u = sym (pick_same (starts_from true u t k) _)

ends_next : (o : Out Text) (t : Text) (k v : ℕ) → ends_from (next o (before v)) t k ≡ pick (starts_from true (utf8 v) t k) (ends_from o t (k + length (utf8 v))) (length t + 1)
unfolding prefixed before
ends_next o t k v = ends_prefixed o t k (utf8 v)

-- a code point whose bytes stand in t, and one whose bytes do not
module _ (t : Text) (k v : ℕ) {b : Bool} (eb : b ≡ starts_from true (utf8 v) t k) where
  stands_step : (o : Out Text) → ends_from (next o (before v)) t k ≡ pick b (ends_from o t (k + length (utf8 v))) (length t + 1)
  stands_step o = ends_next o t k v ∙ ap (λ (x : Bool). pick x (ends_from o t (k + length (utf8 v))) (length t + 1)) (sym eb)

  pub went_on : b ≡ true → {w : ℕ} → w ≡ length (utf8 v) → k + w ≤ length t + 1 → Went t k v (k + w)
  went_on h e l = record { within = l; on = λ o. stands_step o ∙ pick_true _ _ h ∙ ap (λ (n : ℕ). ends_from o t (k + n)) (sym e) }

  pub went_not : b ≡ false → Went t k v (length t + 1)
  went_not h = record { within = omega arith; on = λ o. stands_step o ∙ pick_false _ _ h ∙ sym (ends_past o t (length t + 1) (omega arith)) }

  pub went_over : b ≡ true → {w : ℕ} → w ≡ length (utf8 v) → length t < k + w → Went t k v (length t + 1)
  went_over h {w} e l =
      record {
        within = omega arith;
        on = λ o. stands_step o ∙ pick_true _ _ h ∙ ends_past o t (k + length (utf8 v)) (omega arith) ∙ sym (ends_past o t (length t + 1) (omega arith));
      }

-- one byte
module _ (t : Text) (k : ℕ) {v : ℕ} (l : v < 128) {b : ℕ} (e : b ≡ peek t k) where
  one_stands : eqb v b ≡ starts_from true (utf8 v) t k
  unfolding starts_from
  one_stands = ap (eqb v) e ∙ ap (λ (u : Text). starts_from true u t k) (sym (few_one v l))

  went_one : b ≡ v → Went t k v (k + 1)
  went_one h = went_on t k v one_stands (eq-eqb v b (sym h)) (few_width l) (omega (arith, peek_in t k (omega arith)))

  went_other : (b ≡ v → ⊥) → Went t k v (length t + 1)
  went_other h = went_not t k v one_stands (ne_eqb v b (λ q. h (sym q)))

pub ends_start : (o : Out Text) (t : Text) → ends_from o t 0 ≡ ends_in o t
unfolding ends_from ends_in
ends_start (done u j) t = reach_begins u t 0 (omega arith) ∙ ap (λ (n : ℕ). pick (begins u t) n (length t + 1)) (zero-add (length u))
ends_start (bad p) t = refl
ends_start (deep p) t = refl

module _ (s t : Text) (k i : ℕ) {r : ℕ} (inv : ends_from (rest s i) t k ≡ r) where
  pub ends_close : k ≤ length t → peek s i ≡ 34 → k ≡ r
  unfolding ends_from reach
  ends_close l h = sym (pick_true _ _ (le-leb k (length t) l)) ∙ sym (ap (λ (o : Out Text). ends_from o t k) (rest_close s i h)) ∙ inv

  pub ends_stop : (peek s i ≡ 34 → ⊥) → Stops (character s i) → length t + 1 ≡ r
  ends_stop h g = sym (ends_stops _ t k (rest_stops s i h g)) ∙ inv

  -- past the end of t
  pub ends_all : length t < k → k ≤ length t + 1 → k ≡ r
  ends_all h l = let z : k ≡ length t + 1 = omega arith in z ∙ sym (ends_past (rest s i) t k h) ∙ inv

  -- a character
  pub ends_more : (peek s i ≡ 34 → ⊥) → {v j w : ℕ} → character s i ≡ done v j → Went t k v w → ends_from (rest s j) t w ≡ r
  ends_more h {v} {j} e g = sym (g.on (rest s j)) ∙ ap (λ (o : Out Text). ends_from o t k) (sym (rest_char s i h e)) ∙ inv

  -- a character of one byte
  module _ (h : peek s i ≡ 34 → ⊥) {v j : ℕ} (e : character s i ≡ done v j) (l : v < 128) {x : ℕ} (f : x ≡ peek t k) where
    pub ends_one_other : (x ≡ v → ⊥) → length t + 1 ≡ r
    ends_one_other n = sym (ends_past (rest s j) t (length t + 1) (omega arith)) ∙ ends_more h e (went_other t k l f n)

    pub ends_one_more : x ≡ v → ends_from (rest s j) t (k + 1) ≡ r
    ends_one_more q = ends_more h e (went_one t k l f q)

  -- a byte that is a character by itself
  module _ {b : ℕ} (e : b ≡ peek s i) (n : b ≡ 34 → ⊥) (o : Ordinary b) {x : ℕ} (f : x ≡ peek t k) where
    pub ends_byte_other : (x ≡ b → ⊥) → length t + 1 ≡ r
    ends_byte_other = ends_one_other (λ q. n (e ∙ q)) (reads_itself s i e o n) (omega (arith, o.high)) f

    pub ends_byte_more : x ≡ b → ends_from (rest s (i + 1)) t (k + 1) ≡ r
    ends_byte_more = ends_one_more (λ q. n (e ∙ q)) (reads_itself s i e o n) (omega (arith, o.high)) f

-- characters that stand for their own bytes, which are those of t
pub ends_raws : (s t : Text) (k i : ℕ) {r x : ℕ} → ends_from (rest s i) t k ≡ x → Raws s i t k r → ends_from (rest s (i + r)) t (k + r) ≡ x
ends_raws s t k i {r} inv a =
    let q : length (part s i (i + r)) ≡ r = part_length s i (i + r) (omega (arith, a.left)) ∙ omega arith in
    ap (λ (n : ℕ). ends_from (rest s (i + r)) t (k + n)) (sym q) ∙ sym (pick_true _ _ a.stands) ∙ sym (ends_prefixed (rest s (i + r)) t k (part s i (i + r)))
    ∙ ap (λ (o : Out Text). ends_from o t k) (sym a.reads) ∙ inv

-- plain bytes that are the same in a row are some such steps
ends_turns : (s t : Text) (i r : ℕ) → Alike s i t 0 r → ends_from (rest s (i + r)) t r ≡ ends_from (rest s i) t 0
ends_turns s t i zero a = rw (add-zero i) refl
ends_turns s t i (suc r) a = go (ends_turns s t i r (alike_less a)) (alike_last a)
  where
    go : ends_from (rest s (i + r)) t r ≡ ends_from (rest s i) t 0 → Twice s (i + r) t (0 + r) → ends_from (rest s (i + suc r)) t (suc r) ≡ ends_from (rest s i) t 0
    go f w =
        let p = plain_itself s (i + r) w.left w.plain in
        let e : i + suc r ≡ i + r + 1 = omega arith in
        let e' : suc r ≡ r + 1 = omega arith in
        let q : peek s (i + r) ≡ peek t r = w.same ∙ ap (peek t) (zero-add r) in
        rw (e, e') (ends_byte_more s t r (i + r) f refl p.unquoted p.ordinary q refl)

-- ---- what was read is t where it ends with t

pub same_none : (s : Text) (p : ℕ) (t : Text) → (peek s p ≡ 34 → ⊥) → false ≡ same_as s p t
unfolding same_as is_text
same_none s p t h = sym (ap (λ (o : Out Text). is_text o t) (string_none s p h))

pub same_start : (s : Text) (p : ℕ) (t : Text) → peek s p ≡ 34 → is_text (rest s (p + 1)) t ≡ same_as s p t
unfolding same_as
same_start s p t h = ap (λ (o : Out Text). is_text o t) (sym (string_is s p h))

-- n is where it ends in t
pub same_ends : (o : Out Text) (t : Text) {n : ℕ} → n ≡ ends_in o t → eqb n (length t) ≡ is_text o t
same_ends o t e = ap (λ (m : ℕ). eqb m (length t)) e ∙ sym (ends_whole o t)

-- the same after the first r bytes of t were passed
pub same_turns : (s t : Text) (i : ℕ) {r n : ℕ} → Alike s i t 0 r → n ≡ ends_from (rest s (i + r)) t r → eqb n (length t) ≡ is_text (rest s i) t
same_turns s t i {r} a e = same_ends (rest s i) t (e ∙ ends_turns s t i r a ∙ ends_start (rest s i) t)

-- ---- the comparison with another string: equal texts have equal characters

same_none_swap : (t : Text) → same [] t ≡ same t []
unfolding same
same_none_swap [] = refl
same_none_swap (a ∷ t) = refl

right_empty : (o : Out Text) (j : ℕ) → both_text o (done [] j) ≡ is_text o []
unfolding both_text is_text
right_empty (done u k) j = same_none_swap u
right_empty (bad p) j = refl
right_empty (deep p) j = refl

pick_none : (b : Bool) → pick b false false ≡ false
unfolding pick
pick_none true = refl
pick_none false = refl

both_next : (o q : Out Text) (v w : ℕ) → both_text (next o (before v)) (next q (before w)) ≡ pick (eqb w v) (both_text o q) false
unfolding both_text is_text next before
both_next (done u j) (done x k) v w = characters_same w v x u
both_next (done u j) (bad p) v w = sym (pick_none (eqb w v))
both_next (done u j) (deep p) v w = sym (pick_none (eqb w v))
both_next (bad p) q v w = sym (pick_none (eqb w v))
both_next (deep p) q v w = sym (pick_none (eqb w v))

module _ (s : Text) (p q : ℕ) where
  pub both_left : (peek s p ≡ 34 → ⊥) → false ≡ same_texts s p q
  unfolding same_texts
  both_left h = sym (left_stops _ _ (stops_is (string_none s p h) stops_bad))

  pub both_right : (peek s q ≡ 34 → ⊥) → false ≡ same_texts s p q
  unfolding same_texts
  both_right h = sym (right_stops _ _ (stops_is (string_none s q h) stops_bad))

  pub both_start : peek s p ≡ 34 → peek s q ≡ 34 → both_text (rest s (p + 1)) (rest s (q + 1)) ≡ same_texts s p q
  unfolding same_texts
  both_start g h = ap (λ (o : Out Text). both_text o (rest s (q + 1))) (sym (string_is s p g)) ∙ ap (both_text (string s p)) (sym (string_is s q h))

module _ (s : Text) (i k : ℕ) {r : Bool} (inv : both_text (rest s i) (rest s k) ≡ r) where
  pub both_close : {b : ℕ} → peek s i ≡ 34 → b ≡ peek s k → eqb b 34 ≡ r
  unfolding both_text is_text same
  both_close {b} h e = go (eqb b 34) refl ∙ ap (λ (o : Out Text). both_text o (rest s k)) (sym (rest_close s i h)) ∙ inv
    where
      go : (t : Bool) → eqb b 34 ≡ t → t ≡ is_text (rest s k) []
      go true f = sym (ap (λ (o : Out Text). is_text o []) (rest_close s k (sym e ∙ eqb-true b 34 f)))
      go false f = sym (not_empty s k (λ g. eqb-false b 34 f (e ∙ g)))

  pub both_longer : (peek s i ≡ 34 → ⊥) → peek s k ≡ 34 → false ≡ r
  both_longer g h = sym (ap (both_text (rest s i)) (rest_close s k h) ∙ right_empty (rest s i) _ ∙ not_empty s i g) ∙ inv

  pub both_stop_left : (peek s i ≡ 34 → ⊥) → Stops (character s i) → false ≡ r
  both_stop_left g h = sym (left_stops _ _ (rest_stops s i g h)) ∙ inv

  pub both_stop_right : (peek s k ≡ 34 → ⊥) → Stops (character s k) → false ≡ r
  both_stop_right g h = sym (right_stops _ _ (rest_stops s k g h)) ∙ inv

  module _ (g : peek s i ≡ 34 → ⊥) (h : peek s k ≡ 34 → ⊥) {v j w l : ℕ} (ev : character s i ≡ done v j) (ew : character s k ≡ done w l) where
    both_step : pick (eqb w v) (both_text (rest s j) (rest s l)) false ≡ r
    both_step =
        sym (both_next (rest s j) (rest s l) v w) ∙ ap (λ (o : Out Text). both_text o (next (rest s l) (before w))) (sym (rest_char s i g ev))
        ∙ ap (both_text (rest s i)) (sym (rest_char s k h ew)) ∙ inv

    pub both_other : (v ≡ w → ⊥) → false ≡ r
    both_other n = sym (pick_false _ _ (ne_eqb w v (λ e. n (sym e)))) ∙ both_step

    pub both_more : v ≡ w → both_text (rest s j) (rest s l) ≡ r
    both_more e = sym (pick_true _ _ (eq-eqb w v (sym e))) ∙ both_step

-- plain bytes that are the same, in a row
pub both_turns : (s : Text) (i k r : ℕ) {x : Bool} → both_text (rest s i) (rest s k) ≡ x → Alike s i s k r → both_text (rest s (i + r)) (rest s (k + r)) ≡ x
both_turns s i k zero inv a = rw (add-zero i, add-zero k) inv
both_turns s i k (suc r) {x} inv a = go (both_turns s i k r inv (alike_less a)) (alike_last a)
  where
    go : both_text (rest s (i + r)) (rest s (k + r)) ≡ x → Twice s (i + r) s (k + r) → both_text (rest s (i + suc r)) (rest s (k + suc r)) ≡ x
    go f t =
        let p = plain_itself s (i + r) t.left t.plain in
        let q = plain_itself s (k + r) t.right t.plain_too in
        let e : i + r + 1 ≡ i + suc r = omega arith in
        let g : k + r + 1 ≡ k + suc r = omega arith in
        rw (← e, ← g) (both_more s (i + r) (k + r) f p.unquoted q.unquoted p.reads q.reads t.same)

-- the same bytes before two texts do not matter
both_prefixed : (u : Text) (o q : Out Text) → both_text (next o (prefixed u)) (next q (prefixed u)) ≡ both_text o q
unfolding both_text is_text next prefixed
both_prefixed u (done x j) (done y k) = same_front u y x
both_prefixed u (done x j) (bad p) = refl
both_prefixed u (done x j) (deep p) = refl
both_prefixed u (bad p) q = refl
both_prefixed u (deep p) q = refl

-- characters that stand for their own bytes, which are the same
both_raws : (s : Text) (i k : ℕ) {r : ℕ} → Raws s i s k r → both_text (rest s (i + r)) (rest s (k + r)) ≡ both_text (rest s i) (rest s k)
both_raws s i k {r} a =
    sym (both_prefixed (part s i (i + r)) (rest s (i + r)) (rest s (k + r)))
    ∙ ap (λ (o : Out Text). both_text o (next (rest s (k + r)) (prefixed (part s i (i + r))))) (sym a.reads) ∙ ap (both_text (rest s i)) (sym a.reads_too)

-- ---- what can be passed at two positions

pub passed_none : (s : Text) (i k : ℕ) → Passed s i k 0
passed_none s i k =
    record {
      left = omega arith;
      right = omega arith;
      on = ap (λ (n : ℕ). both_text (rest s n) (rest s (k + 0))) (add-zero i) ∙ ap (λ (n : ℕ). both_text (rest s i) (rest s n)) (add-zero k);
    }

-- m bytes more, past n that were passed
pub passed_join : (s : Text) (i k : ℕ) {n m : ℕ} → Passed s i k n → Passed s (i + n) (k + n) m → Passed s i k (n + m)
passed_join s i k {n} {m} a b =
    let p : i + (n + m) ≡ i + n + m = omega arith in
    let q : k + (n + m) ≡ k + n + m = omega arith in
    record {
      left = omega (arith, a.left, b.left);
      right = omega (arith, a.right, b.right);
      on = ap (λ (j : ℕ). both_text (rest s j) (rest s (k + (n + m)))) p ∙ ap (λ (j : ℕ). both_text (rest s (i + n + m)) (rest s j)) q ∙ b.on ∙ a.on;
    }

-- one character, read from both
passed_read : (s : Text) (i k : ℕ) {v n : ℕ} → (peek s i ≡ 34 → ⊥) → (peek s k ≡ 34 → ⊥) → character s i ≡ done v (i + n) → character s k ≡ done v (k + n) → Passed s i k n
passed_read s i k {v} {n} g h ei ek =
    let l : i + n ≤ length s = (ahead s ei).1 in
    let m : k + n ≤ length s = (ahead s ek).1 in
    record { left = omega arith; right = omega arith; on = both_more s i k refl g h ei ek refl }

-- a byte that is a character by itself
pub passed_byte : (s : Text) (i k : ℕ) {b : ℕ} → b ≡ peek s i → b ≡ peek s k → (b ≡ 34 → ⊥) → Ordinary b → Passed s i k 1
passed_byte s i k e f n o = passed_read s i k (λ q. n (e ∙ q)) (λ q. n (f ∙ q)) (reads_itself s i e o n) (reads_itself s k f o n)

-- an escape of two bytes: its letter tells it
pub passed_short : (s : Text) (i k : ℕ) {a b d : ℕ} → a ≡ short_at s i → 0 < a → peek s k ≡ 92 → b ≡ peek s (i + 1) → d ≡ peek s (k + 1) → b ≡ d → Passed s i k 2
unfolding short_at
passed_short s i k {a} ea l hk eb ed q =
    let letter : escape_of (peek s (i + 1)) ≡ escape_of (peek s (k + 1)) = ap escape_of (sym eb ∙ q ∙ ed) in
    let f : a ≡ short_at s k = ea ∙ pick_true _ _ (eq-eqb _ _ (short_at_lem s i ea l).0) ∙ letter ∙ sym (pick_true _ _ (eq-eqb _ _ hk)) in
    passed_read s i k (short_open s i ea l) (short_open s k f l) (short_reads s i ea l) (short_reads s k f l)

-- a longer one, by its number
pub passed_long : (s : Text) (i k : ℕ) → peek s i ≡ 92 → peek s k ≡ 92 → {e f : ℕ} → e ≡ long_at s i → (e ≡ 0 → ⊥) → f ≡ long_at s k → e ≡ f → Passed s i k (e % 16)
passed_long s i k hi hk {e} {f} ei n ek q =
    let l : 0 < e = omega arith in
    passed_read s i k (λ (z : peek s i ≡ 34). omega arith) (λ (z : peek s k ≡ 34). omega arith) (long_reads s i ei l) (long_reads s k (q ∙ ek) l)

pub passed_raws : (s : Text) (i k : ℕ) {r : ℕ} → Raws s i s k r → Passed s i k r
passed_raws s i k a = record { left = a.left; right = a.right; on = both_raws s i k a }

-- ---- a character as one number

coded : (s : Text) (i : ℕ) {v n : ℕ} → character s i ≡ done v (i + n) → n < 16 → Coded s i (v * 16 + n)
coded s i {v} {n} e l =
    let m : i < i + n = (ahead s e).0 in
    let x : v ≡ (v * 16 + n) / 16 = omega arith in
    let y : i + n ≡ i + (v * 16 + n) % 16 = omega arith in
    record { some = λ _. e ∙ ap (λ (w : ℕ). done w (i + n)) x ∙ ap (done ((v * 16 + n) / 16)) y; none = λ (z : v * 16 + n ≡ 0). absurd (omega arith) }

pub coded_byte : (s : Text) (i : ℕ) {b : ℕ} → b ≡ peek s i → (b ≡ 34 → ⊥) → Ordinary b → Coded s i (b * 16 + 1)
coded_byte s i e n o = coded s i (reads_itself s i e o n) (omega arith)

pub coded_short : (s : Text) (i : ℕ) {a : ℕ} → a ≡ short_at s i → 0 < a → Coded s i (a * 16 + 2)
coded_short s i e h = coded s i (short_reads s i e h) (omega arith)

pub coded_long : (s : Text) (i : ℕ) {e : ℕ} → peek s i ≡ 92 → short_at s i ≡ 0 → e ≡ long_at s i → Coded s i e
coded_long s i h z f = record { some = λ l. long_reads s i f l; none = λ q. stops_is (escape_none s i refl z f q h).1 stops_bad }

-- a character that is not escaped has 4 bytes at most
pub read_few : (s : Text) {i v j : ℕ} → character s i ≡ done v j → (peek s i ≡ 92 → ⊥) → (i < j) × (j ≤ i + 4) × (v < 1114112)
read_few s {i} {v} {j} e n =
    let m : j ≤ length s = (ahead s e).1 in
    let l : i < j = (ahead s e).0 in
    let q : length (utf8 v) ≡ j - i = ap length (character_raw s i v j e n) ∙ part_length s i j (omega arith) in
    (l, omega (arith, at_most_four v), ⊎_elim (λ (x : v < 55296). omega arith) (λ x. omega (arith, x.1)) (character_scalar s i v j e))

pub coded_read : (s : Text) (i : ℕ) {v j : ℕ} → character s i ≡ done v j → (peek s i ≡ 92 → ⊥) → Coded s i (v * 16 + (j - i))
coded_read s i {v} {j} e n =
    let w = read_few s e n in
    let l : i < j = w.0 in
    let m : j ≤ i + 4 = w.1 in
    let z : j ≡ i + (j - i) = omega arith in
    coded s i (e ∙ ap (done v) z) (omega arith)

pub coded_none : (s : Text) (i : ℕ) → Stops (character s i) → Coded s i 0
coded_none s i h = record { some = λ (l : 0 < 0). absurd (omega arith); none = λ _. h }

-- it goes forward
pub coded_ahead : (s : Text) (i : ℕ) {r : ℕ} → Coded s i r → (r ≡ 0 → ⊥) → (i < length s) × (0 < r % 16)
coded_ahead s i {r} c n =
    let e = c.some (omega arith) in
    ((character_in s e).0, omega (arith, (ahead s e).0))

pub coded_some : {s : Text} {i r : ℕ} → Coded s i r → (r ≡ 0 → ⊥) → character s i ≡ done (r / 16) (i + r % 16)
coded_some {s} {i} {r} c n = c.some (omega arith)
