-- Laws of `word`: given bytes, one after the other. Assumes nothing.
use Rattle.std.specs.Prelude.{◌≡◌, refl, [], ◌∷◌, ℕ, suc, ◌+◌, ◌≤◌, ◌<◌, length, eqb, ltb, T}
use Rattle.std.proofs.Common.{sym, ap, ◌∙◌, arith, le_refl, add-zero, ltb→lt, eq-eqb, ne_eqb, eqb-true}
use Rattle.std.proofs.lemmas.Bool.{eqb-false}
use Rattle.text.specs.Reading.{Text, Out, done, bad, peek, word}
use Rattle.text.specs.laws.Peek.{peek_in}
use Rattle.text.specs.laws.Readers.{at, Forward, Strict, Local, Closed, EndsClosed, Bounded, Past, past, wrong, pick_past, past_from, past_strict, past_bad, done_at, bad_at, done_bad, bad_done, at_pick, pick_case, pick_true, pick_false, pick_le, pick_local}

-- the cases of `word`, and its steps
module _ (b : ℕ) (bs s : Text) (i : ℕ) where
  pub word_case : {C : Type 0} {z : Out (Unit {0})} → word (b ∷ bs) s i ≡ z → (peek s i ≡ b → word bs s (i + 1) ≡ z → C) → ((peek s i ≡ b → ⊥) → bad i ≡ z → C) → C
  unfolding word
  word_case e f g = pick_case _ _ _ e (λ t w. f (eqb-true _ _ t) w) (λ t w. g (eqb-false _ _ t) w)

  pub word_on : peek s i ≡ b → word (b ∷ bs) s i ≡ word bs s (i + 1)
  unfolding word
  word_on h = pick_true _ _ (eq-eqb _ _ h)

  -- a word starts with its first byte
  pub word_none : (peek s i ≡ b → ⊥) → word (b ∷ bs) s i ≡ bad i
  unfolding word
  word_none h = pick_false _ _ (ne_eqb _ _ h)

-- a word ends where its bytes do
pub word_end : (w s : Text) (i : ℕ) {u : Unit {0}} {j : ℕ} → word w s i ≡ done u j → i + length w ≡ j
unfolding word
word_end [] s i e = add-zero i ∙ done_at e
word_end (b ∷ bs) s i {u} {j} e =
    word_case b bs s i e (λ _ h. let q : (i + 1) + length bs ≡ j = word_end bs s (i + 1) h in omega arith) (λ _ h. absurd (bad_done h))

pub word_read : (w t : Text) (i : ℕ) → ((k : ℕ) → k < length w → peek t (i + k) ≡ peek w k) → word w t i ≡ done tt (i + length w)
unfolding word peek
word_read [] t i h = ap (done tt) (sym (add-zero i))
word_read (b ∷ bs) t i h =
    let z : i + 0 ≡ i = add-zero i in
    let q : (i + 1) + length bs ≡ i + suc (length bs) = omega arith in
    word_on b bs t i (ap (peek t) (sym z) ∙ h 0 (omega arith))
    ∙ word_read bs t (i + 1) (λ k l. let r : (i + 1) + k ≡ i + suc k = omega arith in ap (peek t) r ∙ h (suc k) (omega arith))
    ∙ ap (done tt) q

-- a word of one byte or more takes a byte
pub word_past : (b : ℕ) (bs s : Text) (i : ℕ) → Past i (word (b ∷ bs) s i)
unfolding word
word_past b [] s i = pick_past _ (past {j = i + 1} (omega arith)) (wrong (le_refl i))
word_past b (c ∷ bs) s i = pick_past _ (past_from (omega arith) (word_past c bs s (i + 1))) (wrong (le_refl i))

pub word_strict : (b : ℕ) (bs : Text) → Strict (word (b ∷ bs))
word_strict b bs s i a j e = past_strict (word_past b bs s i) e

pub word_forward : (w : Text) → Forward (word w)
unfolding word at
word_forward [] s i = le_refl i
word_forward (b ∷ bs) s i =
    let h : i ≤ at (word bs s (i + 1)) = omega (arith, word_forward bs s (i + 1)) in
    at_pick _ _ _ i h (le_refl i)

pub word_local : (w : Text) → Local (word w)
unfolding word
word_local [] s t i g = refl
word_local (b ∷ bs) s t i g =
    let p : peek t i ≡ peek s i = sym (g.same i (word_forward (b ∷ bs) s i)) in
    pick_local _ _ _ _ _ _ (ap (λ (c : ℕ). eqb c b) p) (word_local bs s t (i + 1)) (λ _. refl) g

pub word_closed : (w : Text) → Closed (word w)
unfolding word
word_closed [] s t i u j e b = e
word_closed (c ∷ bs) s t i u j e b =
    word_case c bs s i e
    (λ h d.
    let l : i < j = omega (arith, word_end bs s (i + 1) d) in
    word_on c bs t i (sym (b.same i l) ∙ h) ∙ word_closed bs s t (i + 1) u j d b)
    (λ _ d. absurd (bad_done d))

-- where a word goes wrong, the rest of its bytes finishes it
pub word_ends : (w : Text) → EndsClosed (word w)
unfolding word
word_ends [] s i p e = absurd (done_bad e)
word_ends (b ∷ bs) s i p e =
    word_case b bs s i e
    (λ h d.
    let l : i + 1 ≤ p = past_bad (word bs) (word_forward bs) s (i + 1) d in
    let w = word_ends bs s (i + 1) p d in
    (w.0, λ t g. let v = w.1 t g in (v.0, word_on b bs t i (sym (g.low.same i (omega arith)) ∙ h) ∙ v.1)))
    (λ _ d.
    let q : i ≡ p = bad_at d in
    (b ∷ bs, λ t g. (tt, word_read (b ∷ bs) t i (λ k l. ap (λ (n : ℕ). peek t (n + k)) q ∙ g.on k l) ∙ ap (λ (n : ℕ). done tt (n + suc (length bs))) q)))

-- bytes are below 256
abbrev pub Bytes : Text → Type 0
Bytes [] = Unit {0}
Bytes (b ∷ bs) = T (ltb b 256) × Bytes bs

pub word_bounded : (w : Text) → Bytes w → Bounded (word w)
unfolding word at
word_bounded [] o s i h = h
word_bounded (b ∷ bs) o s i h =
    pick_le _ _ _ (length s)
    (λ e. let l : i < length s = peek_in s i (omega (arith, eqb-true (peek s i) b e, ltb→lt b 256 o.0)) in word_bounded bs o.1 s (i + 1) (omega arith))
    (λ _. h)
