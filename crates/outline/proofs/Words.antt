-- What is left of a string, and a word of capital letters and underscores: it begins with the word where each character of it is read, as itself or by an escape of a
-- number; and where one is not, it begins otherwise. Assumes nothing.
use mathlib.Core.Path.{◌≡◌, refl, sym, ap, subst, ◌∙◌}
use mathlib.Core.Bool.{Bool, true, false, ◌&&◌, ◌||◌}
use mathlib.Core.List.{[], ◌∷◌, ◌++◌, append_assoc}
use mathlib.Core.Logic.{◌⊎◌, inl, inr, ⊎_elim}
use Prim.Native.Nat.{ℕ, zero, suc, ◌+◌, ◌-◌, ◌≤◌, ◌<◌}
use native.Mathlib.Omega.{arith}
use native.Mathlib.Numerals.{add-one}
use native.Mathlib.Decide.{dec_lt, ℕ_discrete}
use lib.ListN.{length, take, drop}
use lib.Seq.{take_all, take-suc, drop-cons, split_at}
use lib.Dec.{leb, eqb}
use borrow.Author.Tests.{ne_eqb, leb-true, eqb-true}
use Rattle.text.specs.Reading.{Text, Out, done, bad, deep, next, pick, peek, part}
use Rattle.text.specs.Strings.{escape_of, character, utf8, before}
use Rattle.text.specs.Escapes.{short_at}
use Rattle.text.specs.Theorems.{character_is_raw}
use Rattle.text.specs.laws.Readers.{at_done_le, done_bad, pick_false}
use Rattle.text.specs.laws.Escapes.{short_at_lem}
use Rattle.text.specs.laws.Raw.{prefixed}
use Rattle.text.specs.laws.Strings.{character_end, character_strict, character_bounded}
use Rattle.grammar.specs.Tree.{same}
use Rattle.values.specs.Strings.{is_text, rest, ascii_at}
use Rattle.values.specs.laws.Outs.{stops_bad, stops_deep, stops_is}
use Rattle.values.specs.laws.Standing.{text_stops}
use Rattle.values.specs.laws.Rest.{rest_close, rest_char, rest_stops}
use Rattle.values.specs.laws.Ordinary.{Ordinary, reads_itself}
use Rattle.values.specs.laws.Fronts.{few_one, same_front, characters_same}
use Rattle.values.specs.laws.Ascii.{ascii_reads, ascii_told}
use Rattle.outline.specs.laws.Names.{capital, capitals, Behind}

-- ---- capital letters and underscores

-- what of them matters here
pub record Letter (c : ℕ) : Type 0 where
  pub low : 65 ≤ c
  pub high : c ≤ 95
  pub other : c ≡ 92 → ⊥

letter_is : (c : ℕ) → capital c ≡ true → Letter c
letter_is c = go (leb 65 c) refl (leb c 90) refl (eqb c 95) refl
  where
    underscore : c ≡ 95 → Letter c
    underscore m = record { low = omega arith; high = omega arith; other = λ (n : c ≡ 92). omega arith }

    go : (x : Bool) → leb 65 c ≡ x → (y : Bool) → leb c 90 ≡ y → (z : Bool) → eqb c 95 ≡ z → ((x && y) || z) ≡ true → Letter c
    go true p true q z r e = record { low = leb-true 65 c p; high = omega (arith, leb-true c 90 q); other = λ (n : c ≡ 92). omega (arith, leb-true c 90 q) }
    go true p false q true r e = underscore (eqb-true c 95 r)
    go true p false q false r e = let z : ◌≡◌ {A = ℕ} 0 1 = cc in absurd (omega arith)
    go false p y q true r e = underscore (eqb-true c 95 r)
    go false p y q false r e = let z : ◌≡◌ {A = ℕ} 0 1 = cc in absurd (omega arith)

both : (x y : Bool) → (x && y) ≡ true → (x ≡ true) × (y ≡ true)
both true y e = (refl, e)
both false y e = let z : ◌≡◌ {A = ℕ} 0 1 = cc in absurd (omega arith)

-- each byte of the word is one
all_letters : (w : Text) (k : ℕ) → capitals w ≡ true → k < length w → Letter (peek w k)
unfolding peek
all_letters [] k e h = absurd (omega arith)
all_letters (b ∷ w) zero e h = letter_is b (both (capital b) _ e).0
all_letters (b ∷ w) (suc k) e h = all_letters w k (both (capital b) _ e).1 (omega arith)

pub letter_at : (w : Text) (k : ℕ) {c : ℕ} → c ≡ peek w k → capitals w ≡ true → k < length w → Letter c
letter_at w k e f h = subst Letter (sym e) (all_letters w k f h)

-- no escape of two bytes stands for one
abbrev Apart : ℕ → Type 0
Apart n = (n < 65) ⊎ (n ≡ 92)

one_more : (x y : Bool) {k m : ℕ} → Apart k → Apart m → Apart (pick x (pick y k m) m)
unfolding pick
one_more true true p q = p
one_more true false p q = q
one_more false y p q = q

apart : (b : ℕ) → Apart (escape_of b)
unfolding escape_of
apart b =
    one_more _ _ (inl (omega arith)) (one_more _ _ (inl (omega arith)) (one_more _ _ (inr refl) (one_more _ _ (inl (omega arith))
    (one_more _ _ (inl (omega arith)) (one_more _ _ (inl (omega arith)) (one_more _ _ (inl (omega arith)) (one_more _ _ (inl (omega arith)) (inl (omega arith)))))))))

no_short : (s : Text) (i : ℕ) {c : ℕ} → Letter c → c ≡ short_at s i → ⊥
no_short s i {c} l e =
    let q : c ≡ escape_of (peek s (i + 1)) = (short_at_lem s i e (omega (arith, l.low))).1 in
    ⊎_elim (λ (h : escape_of (peek s (i + 1)) < 65). omega (arith, l.low)) (λ (h : escape_of (peek s (i + 1)) ≡ 92). l.other (q ∙ h)) (apart (peek s (i + 1)))

-- ---- a character

-- no quote, and read as c up to j
pub record Read (s : Text) (i c j : ℕ) : Type 0 where
  pub unquoted : peek s i ≡ 34 → ⊥
  pub reads : character s i ≡ done c j

pub read_within : (s : Text) (i : ℕ) {c j : ℕ} → Read s i c j → i < length s → j ≤ length s
read_within s i r h = at_done_le (character_bounded s i (omega arith)) r.reads

module _ (s : Text) (i : ℕ) {c : ℕ} (l : Letter c) where
  -- escaped
  pub escaped_reads : {b : ℕ} → b ≡ peek s i → b ≡ 92 → {v : ℕ} → v ≡ ascii_at s i → v ≡ c → Read s i c (i + 6)
  escaped_reads d h {v} e f = record { unquoted = λ (q : peek s i ≡ 34). omega arith; reads = (ascii_reads s i (sym f ∙ e) (omega (arith, l.low))).reads }

  pub escaped_other : {b : ℕ} → b ≡ peek s i → b ≡ 92 → {v : ℕ} → v ≡ ascii_at s i → (v ≡ c → ⊥) → (j : ℕ) → character s i ≡ done c j → ⊥
  escaped_other d h e n j g = ⊎_elim (no_short s i l) (λ q. n (e ∙ sym q)) (ascii_told s i (sym d ∙ h) g (omega (arith, l.high)))

  -- as itself
  pub plain_reads : {b : ℕ} → b ≡ peek s i → b ≡ c → Read s i c (i + 1)
  plain_reads d e =
      let o : Ordinary c = record { low = omega (arith, l.low); high = omega (arith, l.high); other = l.other } in
      record { unquoted = λ (q : peek s i ≡ 34). omega (arith, l.low); reads = reads_itself s i (sym e ∙ d) o (λ (q : c ≡ 34). omega (arith, l.low)) }

  pub plain_other : {b : ℕ} → b ≡ peek s i → (b ≡ 92 → ⊥) → (b ≡ c → ⊥) → (j : ℕ) → character s i ≡ done c j → ⊥
  unfolding part peek
  plain_other d raw n j e = go (dec_lt i (length s))
    where
      go : Dec (i < length s) → ⊥
      go (yes h) =
          let k : i < j = character_strict s i c j e in
          let q : j - i ≡ suc (j - suc i) = omega arith in
          let w : c ∷ [] ≡ peek s i ∷ take (j - suc i) (drop (suc i) s) =
          sym (few_one c (omega (arith, l.high))) ∙ character_is_raw s i c j e (λ q. raw (d ∙ q)) ∙ ap (λ (m : ℕ). take m (drop i s)) q ∙ ap (take (suc (j - suc i))) (drop-cons s i 256 h) in
          n (cc)
      go (no m) = done_bad (sym e ∙ character_end s i (omega arith))

  -- what is left of a string, where c is not read, is no text that begins with c
  rest_other : ((j : ℕ) → character s i ≡ done c j → ⊥) → (t : Text) → is_text (rest s i) (c ∷ t) ≡ false
  unfolding is_text next before same
  rest_other n t = closed (ℕ_discrete (peek s i) 34)
    where
      after : (v : ℕ) → (v ≡ c → ⊥) → (o : Out Text) → is_text (next o (before v)) (c ∷ t) ≡ false
      after v m (done u k) =
          ap (λ (x : Text). same (utf8 v ++ u) (x ++ t)) (sym (few_one c (omega (arith, l.high)))) ∙ characters_same v c u t ∙ pick_false _ _ (ne_eqb v c m)
      after v m (bad p) = refl
      after v m (deep p) = refl

      read : (peek s i ≡ 34 → ⊥) → (o : Out ℕ) → character s i ≡ o → is_text (rest s i) (c ∷ t) ≡ false
      read h (done v j) e = ap (λ (o : Out Text). is_text o (c ∷ t)) (rest_char s i h e) ∙ after v (λ q. n j (e ∙ ap (λ (x : ℕ). done x j) q)) (rest s j)
      read h (bad p) e = text_stops _ _ (rest_stops s i h (stops_is e stops_bad))
      read h (deep p) e = text_stops _ _ (rest_stops s i h (stops_is e stops_deep))

      closed : Dec (peek s i ≡ 34) → is_text (rest s i) (c ∷ t) ≡ false
      closed (yes h) = ap (λ (o : Out Text). is_text o (c ∷ t)) (rest_close s i h)
      closed (no h) = read h (character s i) refl

-- ---- the word, up to k of its bytes

after_none : (o : Out Text) → o ≡ next o (prefixed [])
unfolding next prefixed
after_none (done t j) = refl
after_none (bad p) = refl
after_none (deep p) = refl

after_one : (u : Text) (c : ℕ) → c < 128 → (o : Out Text) → next (next o (before c)) (prefixed u) ≡ next o (prefixed (u ++ (c ∷ [])))
unfolding next before prefixed
after_one u c h (done t j) = ap (λ (x : Text). done (u ++ (x ++ t)) j) (few_one c h) ∙ ap (λ (x : Text). done x j) (sym (append_assoc u (c ∷ []) t))
after_one u c h (bad p) = refl
after_one u c h (deep p) = refl

text_after : (u v : Text) (o : Out Text) → is_text (next o (prefixed u)) (u ++ v) ≡ is_text o v
unfolding is_text next prefixed
text_after u v (done t j) = same_front u t v
text_after u v (bad p) = refl
text_after u v (deep p) = refl

-- behind a word the text goes on
pub text_behind : {s : Text} {p q : ℕ} {w : Text} → Behind s p w q → (q ≡ 0 → ⊥) → (v : Text) → is_text (rest s p) (w ++ v) ≡ is_text (rest s q) v
text_behind {s} {p} {q} {w} b n v = ap (λ (o : Out Text). is_text o (w ++ v)) (b.some n) ∙ text_after w v (rest s q)

-- the first k bytes of the word were read, up to i
pub record Along (s : Text) (from : ℕ) (w : Text) (i k : ℕ) : Type 0 where
  pub within : k ≤ length w
  pub positive : 0 < i
  pub come : rest s from ≡ next (rest s i) (prefixed (take k w))

pub along_start : (s : Text) (from : ℕ) (w : Text) → 0 < from → Along s from w from 0
along_start s from w h = record { within = omega arith; positive = h; come = after_none (rest s from) }

module _ (s : Text) (from : ℕ) (w : Text) (i k : ℕ) (a : Along s from w i k) where
  pub along_end : length w ≤ k → Behind s from w i
  along_end h =
      record {
        some = λ _. a.come ∙ ap (λ (u : Text). next (rest s i) (prefixed u)) (take_all k w h);
        none = λ (z : i ≡ 0). absurd (omega (arith, a.positive));
      }

  module _ (h : k < length w) {c : ℕ} (e : c ≡ peek w k) (l : Letter c) where
    pub along_more : {j : ℕ} → 0 < j → Read s i c j → Along s from w j (k + 1)
    unfolding peek
    along_more {j} p r =
        let q : take k w ++ (c ∷ []) ≡ take (k + 1) w = ap (λ (x : ℕ). take k w ++ (x ∷ [])) e ∙ sym (take-suc w k 256 h) ∙ ap (λ (n : ℕ). take n w) (sym (add-one k)) in
        record {
          within = omega arith;
          positive = p;
          come =
              a.come ∙ ap (λ (o : Out Text). next o (prefixed (take k w))) (rest_char s i r.unquoted r.reads) ∙ after_one (take k w) c (omega (arith, l.high)) (rest s j)
              ∙ ap (λ (u : Text). next (rest s j) (prefixed u)) q;
        }

    pub along_other : ((j : ℕ) → character s i ≡ done c j → ⊥) → Behind s from w 0
    unfolding peek
    along_other n =
        record {
          some = λ z. absurd (z refl);
          none = λ _ v.
              let q : w ≡ take k w ++ (c ∷ drop (suc k) w) = split_at w k 256 h ∙ ap (λ (x : ℕ). take k w ++ (x ∷ drop (suc k) w)) (sym e) in
              ap (λ (o : Out Text). is_text o (w ++ v)) a.come ∙ ap (λ (x : Text). is_text (next (rest s i) (prefixed (take k w))) (x ++ v)) q
              ∙ ap (is_text (next (rest s i) (prefixed (take k w)))) (append_assoc (take k w) (c ∷ drop (suc k) w) v) ∙ text_after (take k w) (c ∷ (drop (suc k) w ++ v)) (rest s i)
              ∙ rest_other s i l n (drop (suc k) w ++ v);
        }
