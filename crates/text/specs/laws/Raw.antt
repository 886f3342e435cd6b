-- The characters that stand for their own bytes are read as these bytes, wherever the same bytes stand. Assumes nothing.
use Rattle.std.specs.Prelude.{◌≡◌, refl, Bool, true, false, ◌⊎◌, [], ◌∷◌, ◌++◌, length, take, drop, eqb}
use Rattle.std.proofs.Math.Path.{sym, ap}
use Rattle.std.proofs.Common.{◌∙◌, inl, inr, append_assoc, le_refl, add-zero, zero-add, suc-add, drop-drop, eq-eqb, ne_eqb, eqb-true}
use Prim.Native.Nat.{ℕ, zero, suc, ◌+◌, ◌*◌, ◌-◌, ◌%◌, ◌≤◌, ◌<◌}
use native.Mathlib.Omega.{arith}
use Rattle.std.proofs.lemmas.Bool.{eqb-false}
use Rattle.text.specs.Reading.{Text, Out, done, bad, deep, next, pick, peek, part}
use Rattle.text.specs.Class.{class_of}
use Rattle.text.specs.Strings.{two, three, four, classed, character, utf8, before, onward, characters}
use Rattle.text.specs.Raw.{further, raw_turns, past_raw}
use Rattle.text.specs.Escapes.{bytes_in}
use Rattle.text.specs.laws.Readers.{at_done_le, pick_case, pick_true, pick_false, bad_done, done_bad, done_at, done_of}
use Rattle.text.specs.laws.Strings.{character_strict, character_bounded, character_end, characters_more, characters_turns}
use Rattle.text.specs.laws.Class.{class_within}
use Rattle.text.specs.laws.Utf8.{part_none, character_raw}

-- ---- one turn

-- what was read after the bytes u
unfoldable pub prefixed : Text → Text → ℕ → Out Text
prefixed u t j = done (u ++ t) j

module _ (n : ℕ) (s : Text) (i : ℕ) where
  turn_escape : peek s i ≡ 92 → raw_turns (suc n) s i ≡ i
  unfolding raw_turns
  turn_escape h = pick_true _ _ (eq-eqb _ _ h)

  turn_more : {v j : ℕ} → (peek s i ≡ 92 → ⊥) → character s i ≡ done v j → raw_turns (suc n) s i ≡ raw_turns n s j
  unfolding raw_turns further
  turn_more h e = pick_false _ _ (ne_eqb _ _ h) ∙ ap (further (raw_turns n s) i) e

  turn_stop : {p : ℕ} → (peek s i ≡ 92 → ⊥) → character s i ≡ bad p → raw_turns (suc n) s i ≡ i
  unfolding raw_turns further
  turn_stop h e = pick_false _ _ (ne_eqb _ _ h) ∙ ap (further (raw_turns n s) i) e

  turn_deep : {p : ℕ} → (peek s i ≡ 92 → ⊥) → character s i ≡ deep p → raw_turns (suc n) s i ≡ i
  unfolding raw_turns further
  turn_deep h e = pick_false _ _ (ne_eqb _ _ h) ∙ ap (further (raw_turns n s) i) e

  -- either no turn is taken or a character is passed
  turn_case : {C : Type 0} → (raw_turns (suc n) s i ≡ i → C) → ((v j : ℕ) → (peek s i ≡ 92 → ⊥) → character s i ≡ done v j → raw_turns (suc n) s i ≡ raw_turns n s j → C) → C
  turn_case {C} f g = first (eqb (peek s i) 92) refl
    where
      then : (peek s i ≡ 92 → ⊥) → (o : Out ℕ) → character s i ≡ o → C
      then h (done v j) e = g v j h e (turn_more h e)
      then h (bad p) e = f (turn_stop h e)
      then h (deep p) e = f (turn_deep h e)

      first : (b : Bool) → eqb (peek s i) 92 ≡ b → C
      first true h = f (turn_escape (eqb-true _ _ h))
      first false h = then (eqb-false _ _ h) (character s i) refl

-- ---- where it ends

turns_ge : (n : ℕ) (s : Text) (i : ℕ) → i ≤ raw_turns n s i
unfolding raw_turns
turns_ge zero s i = le_refl i
turns_ge (suc n) s i =
    turn_case n s i (λ (e : raw_turns (suc n) s i ≡ i). omega arith)
    (λ (v j : ℕ) h c (e : raw_turns (suc n) s i ≡ raw_turns n s j). omega (arith, character_strict s i v j c, turns_ge n s j))

turns_le : (n : ℕ) (s : Text) (i : ℕ) → i ≤ length s → raw_turns n s i ≤ length s
unfolding raw_turns
turns_le zero s i l = l
turns_le (suc n) s i l =
    turn_case n s i (λ (e : raw_turns (suc n) s i ≡ i). omega arith)
    (λ (v j : ℕ) h c (e : raw_turns (suc n) s i ≡ raw_turns n s j). omega (arith, turns_le n s j (at_done_le (character_bounded s i l) c)))

turns_past : (n : ℕ) (s : Text) (i : ℕ) → length s ≤ i → raw_turns n s i ≡ i
unfolding raw_turns
turns_past zero s i l = refl
turns_past (suc n) s i l = turn_case n s i (λ e. e) (λ v j h c e. absurd (done_bad (sym c ∙ character_end s i l)))

-- the number of turns does not matter, where it is enough
further_ext : (o : Out ℕ) (f g : ℕ → ℕ) (i : ℕ) → ((v j : ℕ) → o ≡ done v j → f j ≡ g j) → further f i o ≡ further g i o
unfolding further
further_ext (done v j) f g i h = h v j refl
further_ext (bad p) f g i h = refl
further_ext (deep p) f g i h = refl

turns_any : (s : Text) (n m i : ℕ) → length s < n + i → length s < m + i → raw_turns n s i ≡ raw_turns m s i
unfolding raw_turns
turns_any s zero m i h g = sym (turns_past m s i (omega arith))
turns_any s (suc n) zero i h g = turns_past (suc n) s i (omega arith)
turns_any s (suc n) (suc m) i h g =
    ap (pick (eqb (peek s i) 92) i)
    (further_ext (character s i) _ _ i (λ v j e.
    let l : i < j = character_strict s i v j e in
    turns_any s n m j (omega arith) (omega arith)))

module _ (s : Text) (i : ℕ) where
  pub raw_ge : i ≤ past_raw s i
  unfolding past_raw
  raw_ge = turns_ge (suc (length s)) s i

  pub raw_le : i ≤ length s → past_raw s i ≤ length s
  unfolding past_raw
  raw_le h = turns_le (suc (length s)) s i h

  -- a character that is not escaped is passed; an escape is not, nor what is no character, nor the end
  pub raw_step : {v j : ℕ} → (peek s i ≡ 92 → ⊥) → character s i ≡ done v j → past_raw s i ≡ past_raw s j
  unfolding past_raw
  raw_step {v} {j} h e =
      let l : i < j = character_strict s i v j e in
      turn_more (length s) s i h e ∙ turns_any s (length s) (suc (length s)) j (omega arith) (omega arith)

  pub raw_escape : peek s i ≡ 92 → past_raw s i ≡ i
  unfolding past_raw
  raw_escape h = turn_escape (length s) s i h

  pub raw_stop : {p : ℕ} → character s i ≡ bad p → past_raw s i ≡ i
  unfolding past_raw
  raw_stop e = turn_case (length s) s i (λ f. f) (λ v j h c f. absurd (done_bad (sym c ∙ e)))

  pub raw_past : length s ≤ i → past_raw s i ≡ i
  unfolding past_raw
  raw_past h = turns_past (suc (length s)) s i h

-- ---- a character that is not escaped is told by its own bytes

module _ (s t : Text) (i k j : ℕ) (h : (m : ℕ) → m < j - i → peek s (i + m) ≡ peek t (k + m)) where
  first_byte : i < j → peek t k ≡ peek s i
  first_byte l = ap (peek t) (sym (add-zero k)) ∙ sym (h 0 (omega arith)) ∙ ap (peek s) (add-zero i)

  two_moved : {v : ℕ} → two s i ≡ done v j → two t k ≡ done v (k + (j - i))
  unfolding two
  two_moved {v} e =
      pick_case _ _ _ e
      (λ p d.
      let q : i + 2 ≡ j = done_at d in
      let e0 : peek t k ≡ peek s i = first_byte (omega arith) in
      let e1 : peek t (k + 1) ≡ peek s (i + 1) = sym (h 1 (omega arith)) in
      let x : peek t k % 32 * 64 + peek t (k + 1) % 64 ≡ v = rw (e0, e1) (done_of d) in
      let z : k + 2 ≡ k + (j - i) = omega arith in
      pick_true _ _ (rw (e0, e1) p) ∙ ap (λ (w : ℕ). done w (k + 2)) x ∙ ap (done v) z)
      (λ _ d. absurd (bad_done d))

  three_moved : {v : ℕ} → three s i ≡ done v j → three t k ≡ done v (k + (j - i))
  unfolding three
  three_moved {v} e =
      pick_case _ _ _ e
      (λ p e1.
      pick_case _ _ _ e1
      (λ r d.
      let q : i + 3 ≡ j = done_at d in
      let a0 : peek t k ≡ peek s i = first_byte (omega arith) in
      let a1 : peek t (k + 1) ≡ peek s (i + 1) = sym (h 1 (omega arith)) in
      let a2 : peek t (k + 2) ≡ peek s (i + 2) = sym (h 2 (omega arith)) in
      let x : (peek t k % 16 * 64 + peek t (k + 1) % 64) * 64 + peek t (k + 2) % 64 ≡ v = rw (a0, a1, a2) (done_of d) in
      let z : k + 3 ≡ k + (j - i) = omega arith in
      pick_true _ _ (rw (a0, a1) p) ∙ pick_true _ _ (rw a2 r) ∙ ap (λ (w : ℕ). done w (k + 3)) x ∙ ap (done v) z)
      (λ _ d. absurd (bad_done d)))
      (λ _ d. absurd (bad_done d))

  four_moved : {v : ℕ} → four s i ≡ done v j → four t k ≡ done v (k + (j - i))
  unfolding four
  four_moved {v} e =
      pick_case _ _ _ e
      (λ p e1.
      pick_case _ _ _ e1
      (λ r e2.
      pick_case _ _ _ e2
      (λ y d.
      let q : i + 4 ≡ j = done_at d in
      let a0 : peek t k ≡ peek s i = first_byte (omega arith) in
      let a1 : peek t (k + 1) ≡ peek s (i + 1) = sym (h 1 (omega arith)) in
      let a2 : peek t (k + 2) ≡ peek s (i + 2) = sym (h 2 (omega arith)) in
      let a3 : peek t (k + 3) ≡ peek s (i + 3) = sym (h 3 (omega arith)) in
      let x : ((peek t k % 8 * 64 + peek t (k + 1) % 64) * 64 + peek t (k + 2) % 64) * 64 + peek t (k + 3) % 64 ≡ v = rw (a0, a1, a2, a3) (done_of d) in
      let z : k + 4 ≡ k + (j - i) = omega arith in
      pick_true _ _ (rw (a0, a1) p) ∙ pick_true _ _ (rw a2 r) ∙ pick_true _ _ (rw a3 y) ∙ ap (λ (w : ℕ). done w (k + 4)) x ∙ ap (done v) z)
      (λ _ d. absurd (bad_done d)))
      (λ _ d. absurd (bad_done d)))
      (λ _ d. absurd (bad_done d))

  one_moved : {v : ℕ} → i < j → done (peek s i) (i + 1) ≡ done v j → done (peek t k) (k + 1) ≡ done v (k + (j - i))
  one_moved {v} l d =
      let q : i + 1 ≡ j = done_at d in
      let z : k + 1 ≡ k + (j - i) = omega arith in
      ap (λ (w : ℕ). done w (k + 1)) (first_byte l ∙ done_of d) ∙ ap (done v) z

  -- by its class c
  classed_moved : (c : ℕ) {v : ℕ} → i < j → (eqb c 3 ≡ true → ⊥) → classed c s i ≡ done v j → classed c t k ≡ done v (k + (j - i))
  unfolding classed
  classed_moved c {v} l n e =
      pick_case _ _ _ e
      (λ a _. absurd (n a))
      (λ a e1. pick_false _ _ a ∙ pick_case _ _ _ e1
      (λ b d. pick_true _ _ b ∙ two_moved d)
      (λ b e2. pick_false _ _ b ∙ pick_case _ _ _ e2
      (λ f d. pick_true _ _ f ∙ three_moved d)
      (λ f e3. pick_false _ _ f ∙ pick_case _ _ _ e3
      (λ g d. pick_true _ _ g ∙ four_moved d)
      (λ g e4. pick_false _ _ g ∙ pick_case _ _ _ e4
      (λ _ d. absurd (bad_done d))
      (λ y d. pick_false _ _ y ∙ one_moved l d)))))

  character_moved : {v : ℕ} → (peek s i ≡ 92 → ⊥) → character s i ≡ done v j → character t k ≡ done v (k + (j - i))
  unfolding character
  character_moved {v} n e =
      let l : i < j = character_strict s i v j e in
      ap (λ (b : ℕ). classed (class_of b) t k) (first_byte l)
      ∙ classed_moved (class_of (peek s i)) l (λ a. n (only_backslash (class_within 2 (peek s i) (eqb-true _ _ a)))) e
    where
      only_backslash : ((92 ≤ peek s i) × (peek s i ≤ 92)) ⊎ ⊥ → peek s i ≡ 92
      only_backslash (inl w) = omega (arith, w.0, w.1)
      only_backslash (inr z) = absurd z

-- ---- bytes in a row

take_join : (a b : ℕ) (l : Text) → take a l ++ take b (drop a l) ≡ take (a + b) l
take_join zero b l = ap (λ (n : ℕ). take n l) (sym (zero-add b))
take_join (suc a) b [] = take_none b ∙ ap (λ (n : ℕ). take {A = ℕ} n []) (sym (suc-add a b))
  where
    take_none : (n : ℕ) → take {A = ℕ} n [] ≡ []
    take_none zero = refl
    take_none (suc n) = refl
take_join (suc a) b (x ∷ l) = ap (λ (u : Text). x ∷ u) (take_join a b l) ∙ ap (λ (n : ℕ). take n (x ∷ l)) (sym (suc-add a b))

pub part_join : (s : Text) {i j r : ℕ} → i ≤ j → j ≤ r → part s i j ++ part s j r ≡ part s i r
unfolding part
part_join s {i} {j} {r} h g =
    let p : i + (j - i) ≡ j = omega arith in
    let q : (j - i) + (r - j) ≡ r - i = omega arith in
    ap (λ (u : Text). take (j - i) (drop i s) ++ take (r - j) u) (ap (λ (n : ℕ). drop n s) (sym p) ∙ sym (drop-drop (j - i) i s))
    ∙ take_join (j - i) (r - j) (drop i s) ∙ ap (λ (n : ℕ). take n (drop i s)) q

pub next_none : (o : Out Text) → next o (prefixed []) ≡ o
unfolding next prefixed
next_none (done u j) = refl
next_none (bad p) = refl
next_none (deep p) = refl

next_more : (o : Out Text) (v : ℕ) (u : Text) → next (next o (prefixed u)) (before v) ≡ next o (prefixed (utf8 v ++ u))
unfolding next prefixed before
next_more (done x j) v u = ap (λ (y : Text). done y j) (sym (append_assoc (utf8 v) u x))
next_more (bad p) v u = refl
next_more (deep p) v u = refl

module _ (s t : Text) where
  -- what is left of a string from k on
  left : ℕ → Out Text
  left k = characters (suc (length t)) t k

  stays : (i k : ℕ) {r : ℕ} → r ≡ i → left k ≡ next (left (k + (r - i))) (prefixed (part s i r))
  stays i k {r} e =
      let z : k ≡ k + (r - i) = omega arith in
      sym (next_none (left k)) ∙ ap (λ (u : Text). next (left k) (prefixed u)) (sym (part_none s i r (sym e))) ∙ ap (λ (n : ℕ). next (left n) (prefixed (part s i r))) z

  turns_same : (n i k : ℕ) {r : ℕ} → r ≡ raw_turns n s i → ((m : ℕ) → m < r - i → peek s (i + m) ≡ peek t (k + m)) → left k ≡ next (left (k + (r - i))) (prefixed (part s i r))
  unfolding raw_turns left onward
  turns_same zero i k e h = stays i k e
  turns_same (suc n) i k {r} e h =
      turn_case n s i (λ f. stays i k (e ∙ f))
      (λ v j b c f.
      let l : i < j = character_strict s i v j c in
      let g : j ≤ r = omega (arith, turns_ge n s j, e ∙ f) in
      let y : k + (j - i) + (r - j) ≡ k + (r - i) = omega arith in
      characters_more (length t) t k (character_moved s t i k j (λ m a. h m (omega arith)) b c)
      ∙ ap (λ (o : Out Text). next o (before v)) (characters_turns t (length t) (suc (length t)) (k + (j - i)) (omega arith) (omega arith) ∙ turns_same n j (k + (j - i)) (e ∙ f) (λ m a. ap (peek s) (shifted_left m l) ∙ h (j - i + m) (omega arith) ∙ ap (peek t) (shifted_right m l)))
      ∙ next_more (left (k + (j - i) + (r - j))) v (part s j r)
      ∙ ap (λ (p : ℕ). next (left p) (prefixed (utf8 v ++ part s j r))) y
      ∙ ap (λ (u : Text). next (left (k + (r - i))) (prefixed u)) (ap (λ (x : Text). x ++ part s j r) (character_raw s i v j c b) ∙ part_join s (omega arith) g))
    where
      shifted_left : (m : ℕ) {j : ℕ} → i < j → j + m ≡ i + (j - i + m)
      shifted_left m {j} l = omega arith

      shifted_right : (m : ℕ) {j : ℕ} → i < j → k + (j - i + m) ≡ k + (j - i) + m
      shifted_right m {j} l = omega arith

  -- where the same bytes stand they are read the same, before whatever follows
  pub raw_same : (i k : ℕ) {r : ℕ} → r ≡ past_raw s i → ((m : ℕ) → m < r - i → peek s (i + m) ≡ peek t (k + m)) → characters (suc (length t)) t k ≡ next (characters (suc (length t)) t (k + (r - i))) (prefixed (part s i r))
  unfolding past_raw left
  raw_same i k e h = turns_same (suc (length s)) i k e h

-- so what is left of a string is these bytes, and then what is left past them
pub raw_reads : (s : Text) (i : ℕ) {r : ℕ} → r ≡ past_raw s i → characters (suc (length s)) s i ≡ next (characters (suc (length s)) s r) (prefixed (part s i r))
raw_reads s i {r} e =
    let l : i ≤ r = omega (arith, raw_ge s i) in
    let z : i + (r - i) ≡ r = omega arith in
    raw_same s s i i e (λ _ _. refl) ∙ ap (λ (k : ℕ). next (characters (suc (length s)) s k) (prefixed (part s i r))) z

-- ---- a character of several bytes

-- the character at i has r bytes and is not escaped; 0 if there is none
pub record Wide (s : Text) (i r : ℕ) : Type 0 where
  pub read : r ≡ bytes_in i (character s i)
  pub within : i + r ≤ length s
  pub none : r ≡ 0 → past_raw s i ≡ i
  pub some : (r ≡ 0 → ⊥) → past_raw s i ≡ past_raw s (i + r)

module _ (s : Text) (i : ℕ) (l : i ≤ length s) where
  pub wide_none : {p : ℕ} → character s i ≡ bad p → Wide s i 0
  unfolding bytes_in
  wide_none e = record { read = sym (ap (bytes_in i) e); within = omega arith; none = λ _. raw_stop s i e; some = λ n. absurd (n refl) }

  pub wide_some : {v r : ℕ} → (peek s i ≡ 92 → ⊥) → character s i ≡ done v (i + r) → Wide s i r
  unfolding bytes_in
  wide_some {v} {r} n e =
      let g : i < i + r = character_strict s i v (i + r) e in
      let z : i + r - i ≡ r = omega arith in
      record { read = sym (ap (bytes_in i) e ∙ z); within = at_done_le (character_bounded s i l) e; none = λ (z : r ≡ 0). absurd (omega arith); some = λ _. raw_step s i n e }
