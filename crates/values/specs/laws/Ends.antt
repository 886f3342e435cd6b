-- Which beginning of a text was read: `ends_in` tells it by its length. Assumes nothing.
use Rattle.std.specs.Prelude.{◌≡◌, refl, Bool, true, false, [], ◌∷◌, ℕ, zero, suc, ◌+◌, ◌≤◌, length, take, eqb}
use Rattle.std.proofs.Common.{sym, ap, ◌∙◌, le_refl, arith, eq-eqb, ne_eqb, eqb-true}
use Rattle.std.proofs.Math.Seq.{take-length}
use Rattle.std.proofs.lemmas.Bool.{eqb-false}
use Rattle.text.specs.Reading.{Text, Out, done, bad, deep, pick}
use Rattle.grammar.specs.Tree.{same}
use Rattle.values.specs.Strings.{is_text, begins, ends_in}

-- one more than the length of t is the length of no beginning of it
beyond : (t : Text) (n : ℕ) → n ≤ length t → false ≡ eqb (length t + 1) n
beyond t n h = sym (ne_eqb (length t + 1) n (λ (e : length t + 1 ≡ n). omega arith))

same_suc : (a b : ℕ) → eqb a b ≡ eqb (suc a) (suc b)
same_suc a b = go (eqb a b) refl
  where
    go : (x : Bool) → eqb a b ≡ x → x ≡ eqb (suc a) (suc b)
    go true e = sym (eq-eqb (suc a) (suc b) (ap suc (eqb-true a b e)))
    go false e = sym (ne_eqb (suc a) (suc b) (λ (q : suc a ≡ suc b). eqb-false a b e (omega arith)))

-- a text u is the first n bytes of t, if t begins with it and it has n bytes
begun_same : (u t : Text) (n : ℕ) → n ≤ length t → same u (take n t) ≡ eqb (pick (begins u t) (length u) (length t + 1)) n
unfolding same begins pick
begun_same [] t zero h = refl
begun_same [] [] (suc n) h = absurd (omega arith)
begun_same [] (b ∷ t) (suc n) h = sym (ne_eqb 0 (suc n) (λ (e : 0 ≡ suc n). omega arith))
begun_same (a ∷ u) [] zero h = refl
begun_same (a ∷ u) [] (suc n) h = absurd (omega arith)
begun_same (a ∷ u) (b ∷ t) zero h = go (pick (eqb a b) (begins u t) false)
  where
    go : (x : Bool) → false ≡ eqb (pick x (suc (length u)) (suc (length t) + 1)) 0
    go true = sym (ne_eqb (suc (length u)) 0 (λ (e : suc (length u) ≡ 0). omega arith))
    go false = beyond (b ∷ t) 0 h
begun_same (a ∷ u) (b ∷ t) (suc n) h = go (eqb a b) (begins u t) (begun_same u t n (omega arith))
  where
    go : (x y : Bool) → same u (take n t) ≡ eqb (pick y (length u) (length t + 1)) n → pick x (same u (take n t)) false ≡ eqb (pick (pick x y false) (suc (length u)) (suc (length t) + 1)) (suc n)
    go true true ih = ih ∙ same_suc (length u) n
    go true false ih = ih ∙ sym (beyond t n (omega arith)) ∙ beyond (b ∷ t) (suc n) h
    go false y ih = beyond (b ∷ t) (suc n) h

-- what was read is the first n bytes of t exactly where `ends_in` gives n
pub ends_at : (o : Out Text) (t : Text) (n : ℕ) → n ≤ length t → is_text o (take n t) ≡ eqb (ends_in o t) n
unfolding is_text ends_in
ends_at (done u j) t n h = begun_same u t n h
ends_at (bad p) t n h = beyond t n h
ends_at (deep p) t n h = beyond t n h

-- and it is t where that is the length of t
pub ends_whole : (o : Out Text) (t : Text) → is_text o t ≡ eqb (ends_in o t) (length t)
ends_whole o t = ap (is_text o) (sym (take-length t)) ∙ ends_at o t (length t) (le_refl (length t))
