-- The start bytes, compared one after the other. Assumes nothing.
use Rattle.std.specs.Prelude.{◌≡◌, refl, Bool, true, false, [], ◌∷◌, ℕ, suc, ◌+◌, ◌-◌, ◌≤◌, ◌<◌, length, take, drop, eqb}
use Rattle.std.proofs.Common.{sym, ap, ◌∙◌, arith, add-one, drop_of_length-le, drop-cons, ltb→lt, ne_eqb}
use Rattle.std.proofs.Math.Decide.{dec_lt}
use Rattle.text.specs.Reading.{Text, Out, done, bad, deep, pick, peek, part, word}
use Rattle.text.specs.Class.{skip}
use Rattle.text.specs.laws.Peek.{peek_end}
use Rattle.text.specs.laws.Words.{Bytes}
use Rattle.grammar.specs.Tree.{same}
use Rattle.values.specs.laws.Outs.{Stops}
use Rattle.manifest.specs.Manifest.{start, starts}

-- whether something was read
unfoldable pub is_done : {A : Type 0} → Out A → Bool
is_done (done a j) = true
is_done (bad p) = false
is_done (deep p) = false

pub done_stops : {A : Type 0} (o : Out A) → Stops o → is_done o ≡ false
unfolding is_done
done_stops (done a j) h = absurd (h.never a j refl)
done_stops (bad p) h = refl
done_stops (deep p) h = refl

-- a word of bytes is read where these bytes stand, and nowhere else
pub word_same : (w s : Text) (i : ℕ) → Bytes w → is_done (word w s i) ≡ same (part s i (i + length w)) w
unfolding word part same is_done pick peek
word_same [] s i o = let z : i + 0 - i ≡ 0 = omega arith in sym (ap (λ (n : ℕ). same (take n (drop i s)) []) z)
word_same (b ∷ bs) s i o = go (dec_lt i (length s)) (word_same bs s (i + 1) o.1)
  where
    whole : i + suc (length bs) - i ≡ suc (length bs)
    whole = omega arith

    more : i + 1 + length bs - (i + 1) ≡ length bs
    more = omega arith

    step : (t : Bool) → is_done (pick t (word bs s (i + 1)) (bad i)) ≡ pick t (is_done (word bs s (i + 1))) false
    step true = refl
    step false = refl

    go : Dec (i < length s) → is_done (word bs s (i + 1)) ≡ same (part s (i + 1) (i + 1 + length bs)) bs → is_done (word (b ∷ bs) s i) ≡ same (part s i (i + suc (length bs))) (b ∷ bs)
    go (yes l) e =
        let first : drop i s ≡ peek s i ∷ drop (i + 1) s = rw add-one (drop-cons s i 256 l) in
        let left : part s i (i + suc (length bs)) ≡ peek s i ∷ take (length bs) (drop (i + 1) s) = ap (λ (n : ℕ). take n (drop i s)) whole ∙ ap (take (suc (length bs))) first in
        let ih : is_done (word bs s (i + 1)) ≡ same (take (length bs) (drop (i + 1) s)) bs = e ∙ ap (λ (n : ℕ). same (take n (drop (i + 1) s)) bs) more in
        step (eqb (peek s i) b) ∙ ap (λ (t : Bool). pick (eqb (peek s i) b) t false) ih ∙ sym (ap (λ (t : Text). same t (b ∷ bs)) left)
    go (no m) e =
        let past : length s ≤ i = omega arith in
        let ne : eqb (peek s i) b ≡ false = ne_eqb (peek s i) b (λ q. let small : b < 256 = ltb→lt b 256 o.0 in let end : peek s i ≡ 256 = peek_end s i past in omega arith) in
        let none : part s i (i + suc (length bs)) ≡ [] = ap (λ (n : ℕ). take n (drop i s)) whole ∙ ap (take (suc (length bs))) (drop_of_length-le s past) in
        step (eqb (peek s i) b) ∙ ap (λ (t : Bool). pick t (is_done (word bs s (i + 1))) false) ne ∙ sym (ap (λ (t : Text). same t (b ∷ bs)) none)

start_bytes : Bytes start
start_bytes = (tt, (tt, (tt, (tt, (tt, (tt, (tt, (tt, (tt, (tt, (tt, (tt, (tt, (tt, (tt, (tt, (tt, (tt, (tt, (tt, tt))))))))))))))))))))

-- so `starts` is that the start bytes are read
pub starts_word : (s : Text) → is_done (word start s (skip s 0)) ≡ starts s
unfolding starts
starts_word s = word_same start s (skip s 0) start_bytes
