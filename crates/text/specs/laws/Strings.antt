-- Laws of strings. Assumes nothing.
use Rattle.std.specs.Prelude.{◌≡◌, refl, [], ◌∷◌, ◌++◌, ℕ, zero, suc, ◌+◌, ◌-◌, ◌≤◌, ◌<◌, length, eqb}
use Rattle.std.proofs.Common.{sym, ap, ◌∙◌, arith, le_refl, length-append, eq-eqb, ne_eqb, eqb-true, le-ltb}
use Rattle.std.proofs.lemmas.Bool.{eqb-false}
use Rattle.text.specs.Reading.{Text, Out, done, bad, next, pick, peek}
use Rattle.text.specs.Class.{class_of}
use Rattle.text.specs.Strings.{pair_of, quad, low, joined, paired, escape, two, three, four, classed, character, before, onward, characters, string}
use Rattle.text.specs.laws.Peek.{peek_in, peek_end}
use Rattle.text.specs.laws.Class.{class_quote}
use Rattle.text.specs.laws.Readers.{at, fewer, Goes, front, next_byte, only_byte, Forward, Strict, Local, Closed, EndsClosed, Bounded, Past, past, wrong, pick_past, next_past, past_from, past_strict, past_forward, at_bad, done_at, bad_at, done_bad, bad_done, next_inv, next_was, next_wrong, next_bad_case, next_ext, next_le, next_local, pick_case, pick_true, pick_false, pick_le, pick_local}
use Rattle.text.specs.laws.Characters.{character_stepwise}

-- a character takes a byte at least
pair_past : (v : ℕ) (s : Text) (i : ℕ) → Past i (pair_of v s i)
unfolding pair_of
pair_past v s i = pick_past _ (pick_past _ (past (omega arith)) (wrong (omega arith))) (wrong (omega arith))

quad_past : (s : Text) (i : ℕ) → Past i (quad s i)
unfolding quad
quad_past s i = pick_past _ (pick_past _ (past_from (omega arith) (pair_past _ s (i + 2))) (wrong (omega arith))) (wrong (omega arith))

low_past : (s : Text) (i : ℕ) → Past i (low s i)
unfolding low
low_past s i =
    pick_past _
    (pick_past _
    (pick_past _
    (pick_past _ (past_from (omega arith) (pair_past _ s (i + 4))) (wrong (omega arith)))
    (wrong (omega arith)))
    (wrong (omega arith)))
    (wrong (omega arith))

paired_past : (s : Text) (v j i : ℕ) → i < j → Past i (paired s v j)
unfolding paired joined
paired_past s v j i h = pick_past _ (next_past (past_from (omega arith) (low_past s j)) (λ w k l. past l)) (past h)

escape_past : (s : Text) (i : ℕ) → Past i (escape s i)
unfolding escape
escape_past s i =
    pick_past _
    (next_past (past_from (omega arith) (quad_past s (i + 2))) (λ v j h. paired_past s v j i h))
    (pick_past _ (wrong (omega arith)) (past (omega arith)))

two_past : (s : Text) (i : ℕ) → Past i (two s i)
unfolding two
two_past s i = pick_past _ (past (omega arith)) (wrong (omega arith))

three_past : (s : Text) (i : ℕ) → Past i (three s i)
unfolding three
three_past s i = pick_past _ (pick_past _ (past (omega arith)) (wrong (omega arith))) (wrong (omega arith))

four_past : (s : Text) (i : ℕ) → Past i (four s i)
unfolding four
four_past s i =
    pick_past _ (pick_past _ (pick_past _ (past (omega arith)) (wrong (omega arith))) (wrong (omega arith))) (wrong (omega arith))

pub character_past : (s : Text) (i : ℕ) → Past i (character s i)
unfolding character classed
character_past s i =
    pick_past _ (escape_past s i)
    (pick_past _ (two_past s i)
    (pick_past _ (three_past s i)
    (pick_past _ (four_past s i)
    (pick_past _ (wrong (omega arith)) (past (omega arith))))))

-- no character starts past the end, nor with a quote
class_none : class_of 256 ≡ 0
unfolding class_of pick
class_none = refl

pub character_end : (s : Text) (i : ℕ) → length s ≤ i → character s i ≡ bad i
unfolding character classed pick
character_end s i h = rw (ap class_of (peek_end s i h) ∙ class_none)

pub character_quote : (s : Text) (i : ℕ) → peek s i ≡ 34 → character s i ≡ bad i
unfolding character classed pick
character_quote s i h = rw (ap class_of h ∙ class_quote)

-- a byte of the classes 4 to 17 is a character
pub character_plain : (s : Text) (i : ℕ) {k : ℕ} → k ≡ class_of (peek s i) → 4 ≤ k → k < 18 → character s i ≡ done (peek s i) (i + 1)
unfolding character classed pick
character_plain s i {k} e a b =
    rw (← e, ne_eqb k 3 (λ (z : k ≡ 3). omega arith), ne_eqb k 19 (λ (z : k ≡ 19). omega arith), ne_eqb k 20 (λ (z : k ≡ 20). omega arith), ne_eqb k 21 (λ (z : k ≡ 21). omega arith), le-ltb k 4 a, le-ltb 17 k (omega arith))

-- the steps of `characters`
module _ (n : ℕ) (s : Text) (i : ℕ) where
  pub characters_close : peek s i ≡ 34 → characters (suc n) s i ≡ done [] (i + 1)
  unfolding characters
  characters_close h = pick_true _ _ (eq-eqb _ _ h)

  pub characters_open : (peek s i ≡ 34 → ⊥) → characters (suc n) s i ≡ next (character s i) (onward (characters n) s)
  unfolding characters
  characters_open h = pick_false _ _ (ne_eqb _ _ h)

  pub characters_more : {v j : ℕ} → character s i ≡ done v j → characters (suc n) s i ≡ onward (characters n) s v j
  characters_more e = characters_open (λ h. absurd (let z : ◌≡◌ {A = ℕ} 0 1 = cc (character_quote s i h) in omega arith)) ∙ next_was _ e

  pub characters_bad : {p : ℕ} → (peek s i ≡ 34 → ⊥) → character s i ≡ bad p → characters (suc n) s i ≡ bad p
  characters_bad h e = characters_open h ∙ next_wrong _ e

-- past the end nothing is read
pub characters_over : (n : ℕ) (s : Text) (i : ℕ) → length s ≤ i → characters n s i ≡ bad i
unfolding characters
characters_over zero s i h = refl
characters_over (suc n) s i h = characters_bad n s i (λ (z : peek s i ≡ 34). omega (arith, peek_end s i h)) (character_end s i h)

-- the number of turns does not matter, where it is enough
pub characters_turns : (s : Text) (n m i : ℕ) → length s < n + i → length s < m + i → characters n s i ≡ characters m s i
unfolding characters onward
characters_turns s zero m i h g = characters_over zero s i (omega arith) ∙ sym (characters_over m s i (omega arith))
characters_turns s (suc n) zero i h g = characters_over (suc n) s i (omega arith)
characters_turns s (suc n) (suc m) i h g =
    ap (pick (eqb (peek s i) 34) (done [] (i + 1)))
    (next_ext (character s i) _ _ (λ v j e.
    let l : i < j = past_strict (character_past s i) e in
    ap (λ (o : Out Text). next o (before v)) (characters_turns s n m j (omega arith) (omega arith))))

-- a string starts with a quote
pub string_none : (s : Text) (i : ℕ) → (peek s i ≡ 34 → ⊥) → string s i ≡ bad i
unfolding string
string_none s i h = pick_false _ _ (ne_eqb _ _ h)

pub string_some : (s : Text) (i : ℕ) → peek s i ≡ 34 → string s i ≡ characters (suc (length s)) s (i + 1)
unfolding string
string_some s i h = pick_true _ _ (eq-eqb _ _ h)

-- what a character promises
pub character_forward : Forward character
character_forward s i = (character_stepwise i).forward s

pub character_strict : Strict character
character_strict s i v j e = past_strict (character_past s i) e

pub character_local : Local character
character_local s t i w = (character_stepwise i).local s t w

pub character_closed : Closed character
character_closed s t i v j e b = (character_stepwise i).closed s t v j e b

pub character_ends : EndsClosed character
character_ends s i p e = let w = (character_stepwise i).ends s p e in (w.0, λ t g. (w.1, w.2 t g))

pub character_bounded : Bounded character
character_bounded s i h = (character_stepwise i).within s h

-- characters and the closing quote, with so many turns
characters_case : {C : Type 0} (n : ℕ) (s : Text) (i : ℕ) {z : Out Text} → characters (suc n) s i ≡ z → (peek s i ≡ 34 → done [] (i + 1) ≡ z → C) → ((peek s i ≡ 34 → ⊥) → next (character s i) (onward (characters n) s) ≡ z → C) → C
unfolding characters
characters_case n s i e f g = pick_case _ _ _ e (λ h d. f (eqb-true _ _ h) d) (λ h d. g (eqb-false _ _ h) d)

characters_past : (n : ℕ) (s : Text) (i : ℕ) → Past i (characters n s i)
unfolding characters onward before
characters_past zero s i = wrong (le_refl i)
characters_past (suc n) s i =
    pick_past _ (past (omega arith))
    (next_past (character_past s i) (λ v j h. past_from (omega arith) (next_past (characters_past n s j) (λ x k l. past l))))

onward_forward : (n : ℕ) (s : Text) (v j : ℕ) → j ≤ at (onward (characters n) s v j)
unfolding onward before
onward_forward n s v j = past_forward (next_past (characters_past n s j) (λ x k l. past l))

characters_local : (n : ℕ) → Local (characters n)
unfolding characters onward before at
characters_local zero s t i w = refl
characters_local (suc n) s t i w =
    let p : peek t i ≡ peek s i = sym (w.same i (past_forward (characters_past (suc n) s i))) in
    pick_local _ _ _ _ _ _ (ap (λ (b : ℕ). eqb b 34) p) (λ _. refl)
    (next_local _ _ _ _ (character_local s t i) (onward_forward n s)
    (λ v j. next_local _ _ _ _ (characters_local n s t j) (λ x k. le_refl k) (λ x k _. refl)))
    w

characters_closed : (n : ℕ) → Closed (characters n)
unfolding characters onward before
characters_closed zero s t i a j e b = absurd (bad_done e)
characters_closed (suc n) s t i a j e b =
    characters_case n s i e
    (λ h d. let q : i + 1 ≡ j = done_at d in characters_close n t i (sym (b.same i (omega arith)) ∙ h) ∙ d)
    (λ h d.
    let w = next_inv (character s i) (onward (characters n) s) d in
    let v = next_inv (characters n s w.1) (before w.0) w.3 in
    let q : v.1 ≡ j = done_at v.3 in
    let l : w.1 < v.1 = past_strict (characters_past n s w.1) v.2 in
    let r : characters n t w.1 ≡ done v.0 v.1 = characters_closed n s t w.1 v.0 v.1 v.2 (fewer (omega arith) b) in
    characters_more n t i (character_closed s t i w.0 w.1 w.2 (fewer (omega arith) b)) ∙ next_was (before w.0) r ∙ v.3)

characters_bounded : (n : ℕ) → Bounded (characters n)
unfolding characters onward before at
characters_bounded zero s i h = h
characters_bounded (suc n) s i h =
    pick_le _ _ _ (length s)
    (λ e. omega (arith, peek_in s i (omega (arith, eqb-true (peek s i) 34 e))))
    (λ _. next_le _ _ (length s) (character_bounded s i h) (λ v j l. next_le _ _ (length s) (characters_bounded n s j l) (λ x k m. m)))

-- where they go wrong, some bytes finish them, with any turns that are enough
abbrev Finish : Text → ℕ → ℕ → Type 0
Finish s i p = (u : Text) × ((t : Text) → Goes s p u t → (m : ℕ) → length t < m + i → (a : Text) × (characters m t i ≡ done a (p + length u)))

-- the closing quote alone, where it is missing
close_there : (t : Text) (m i : ℕ) → peek t i ≡ 34 → length t < m + i → characters m t i ≡ done [] (i + 1)
close_there t zero i h l = absurd (omega (arith, peek_in t i (omega arith)))
close_there t (suc m) i h l = characters_close m t i h

-- a character that is read in t, and what follows it
more_there : (t : Text) (m i : ℕ) {v j : ℕ} {a : Text} {k : ℕ} → character t i ≡ done v j → length t < m + i → characters (m - 1) t j ≡ done a k → (b : Text) × (characters m t i ≡ done b k)
unfolding onward before
more_there t zero i {v} {j} {a} {k} e l f = absurd (done_bad (sym e ∙ character_end t i (omega arith)))
more_there t (suc m) i {v} {j} {a} {k} e l f =
    let z : suc m - 1 ≡ m = omega arith in
    (_, characters_more m t i e ∙ next_was (before v) (ap (λ (n : ℕ). characters n t j) (sym z) ∙ f))

-- the character at i goes wrong: finish it, and close
end_character : (s : Text) (i p : ℕ) → character s i ≡ bad p → Finish s i p
end_character s i p e =
    let w = (character_stepwise i).ends s p e in
    let u = w.0 in (
      u ++ (34 ∷ []),
      λ t g m h.
          let c : peek t (p + length u) ≡ 34 = next_byte u 34 g in
          let d : character t i ≡ done w.1 (p + length u) = w.2 t (front u (34 ∷ []) g) in
          let l : i < p + length u = character_strict t i w.1 (p + length u) d in
          let k : p + length u < length t = peek_in t (p + length u) (omega arith) in
          let q : p + length u + 1 ≡ p + length (u ++ (34 ∷ [])) = omega (arith, length-append u (34 ∷ [])) in
          more_there t m i d h (close_there t (m - 1) (p + length u) c (omega arith) ∙ ap (done []) q),
    )

characters_finish : (n : ℕ) (s : Text) (i p : ℕ) → characters n s i ≡ bad p → length s < n + i → Finish s i p
unfolding characters onward before
characters_finish zero s i p e o =
    let q : i ≡ p = bad_at e in
    (34 ∷ [], λ t g m h. ([], close_there t m i (ap (peek t) q ∙ only_byte 34 [] g) h ∙ ap (λ (k : ℕ). done [] (k + 1)) q))
characters_finish (suc n) s i p e o =
    characters_case n s i e
    (λ _ d. absurd (done_bad d))
    (λ _ d.
    next_bad_case (character s i) (onward (characters n) s) d (end_character s i p)
    (λ v j c y.
    let z : characters n s j ≡ bad p = next_bad_case (characters n s j) (before v) y (λ x. x) (λ _ _ _ x. absurd (done_bad x)) in
    let l : i < j = character_strict s i v j c in
    let k : j ≤ p = at_bad (past_forward (characters_past n s j)) z in
    let w = characters_finish n s j p z (omega arith) in (
      w.0,
      λ t g m h.
          let r = w.1 t g (m - 1) (omega arith) in
          more_there t m i (character_closed s t i v j c (fewer k g.low)) h r.1,
    )))

-- strings
string_case : {C : Type 0} (s : Text) (i : ℕ) {z : Out Text} → string s i ≡ z → (peek s i ≡ 34 → characters (suc (length s)) s (i + 1) ≡ z → C) → ((peek s i ≡ 34 → ⊥) → bad i ≡ z → C) → C
unfolding string
string_case s i e f g = pick_case _ _ _ e (λ h d. f (eqb-true _ _ h) d) (λ h d. g (eqb-false _ _ h) d)

pub string_past : (s : Text) (i : ℕ) → Past i (string s i)
unfolding string
string_past s i = pick_past _ (past_from (omega arith) (characters_past (suc (length s)) s (i + 1))) (wrong (le_refl i))

pub string_forward : Forward string
string_forward s i = past_forward (string_past s i)

-- a string has two quotes
pub string_two : (s : Text) (i : ℕ) (a : Text) (j : ℕ) → string s i ≡ done a j → i + 1 < j
string_two s i a j e = string_case s i e (λ _ d. past_strict (characters_past (suc (length s)) s (i + 1)) d) (λ _ d. absurd (bad_done d))

pub string_strict : Strict string
string_strict s i a j e = past_strict (string_past s i) e

-- the turns that a string has are enough for it in any text
turns_in : (s t : Text) (i : ℕ) → characters (suc (length s)) s (i + 1) ≡ characters (suc (length s + length t)) s (i + 1)
turns_in s t i = characters_turns s (suc (length s)) (suc (length s + length t)) (i + 1) (omega arith) (omega arith)

turns_out : (s t : Text) (i : ℕ) → characters (suc (length t)) t (i + 1) ≡ characters (suc (length s + length t)) t (i + 1)
turns_out s t i = characters_turns t (suc (length t)) (suc (length s + length t)) (i + 1) (omega arith) (omega arith)

pub string_local : Local string
unfolding string
string_local s t i w =
    let p : peek t i ≡ peek s i = sym (w.same i (string_forward s i)) in
    pick_local _ _ _ _ _ _ (ap (λ (b : ℕ). eqb b 34) p)
    (λ v. turns_out s t i ∙ characters_local (suc (length s + length t)) s t (i + 1) (rw (turns_in s t i) at v) ∙ sym (turns_in s t i))
    (λ _. refl)
    w

pub string_closed : Closed string
string_closed s t i a j e b =
    string_case s i e
    (λ h d.
    let l : i + 1 < j = string_two s i a j e in
    string_some t i (sym (b.same i (omega arith)) ∙ h) ∙ turns_out s t i ∙ characters_closed (suc (length s + length t)) s t (i + 1) a j (sym (turns_in s t i) ∙ d) b)
    (λ _ d. absurd (bad_done d))

pub string_ends : EndsClosed string
string_ends s i p e =
    string_case s i e
    (λ h d.
    let l : i + 1 ≤ p = at_bad (past_forward (characters_past (suc (length s)) s (i + 1))) d in
    let w = characters_finish (suc (length s)) s (i + 1) p d (omega arith) in (
      w.0,
      λ t g.
          let r = w.1 t g (suc (length t)) (omega arith) in
          (r.0, string_some t i (sym (g.low.same i (omega arith)) ∙ h) ∙ r.1),
    ))
    (λ _ d.
    let q : i ≡ p = bad_at d in (
      34 ∷ 34 ∷ [],
      λ t g.
          let x : peek t i ≡ 34 = ap (peek t) q ∙ only_byte 34 (34 ∷ []) g in
          let k : i + 1 ≡ p + 1 = omega arith in
          let y : peek t (i + 1) ≡ 34 = ap (peek t) k ∙ next_byte (34 ∷ []) 34 g in
          let r : (i + 1) + 1 ≡ p + 2 = omega arith in
          ([], string_some t i x ∙ characters_close (length t) t (i + 1) y ∙ ap (done []) r),
    ))

pub string_bounded : Bounded string
unfolding string at
string_bounded s i h =
    pick_le _ _ _ (length s)
    (λ e. let l : i < length s = peek_in s i (omega (arith, eqb-true (peek s i) 34 e)) in characters_bounded (suc (length s)) s (i + 1) (omega arith))
    (λ _. h)
