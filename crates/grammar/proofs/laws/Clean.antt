-- What is read consists of bytes: numbers below 256. Of tokens.
use Rattle.std.specs.Prelude.{◌≡◌, Bool, ◌&&◌, ◌||◌, List, [], ◌∷◌, ℕ, zero, suc, ◌+◌, ◌*◌, ◌/◌, ◌≤◌, ◌<◌, eqb, leb, ltb}
use Rattle.std.proofs.Math.Path.{refl}
use Rattle.std.proofs.Common.{sym, ap, ◌∙◌, le_refl, div-lt_iff_lt-mul, ltb→lt, eq-eqb, eqb-true}
use Rattle.std.proofs.Math.Bool.{true, false}
use native.Mathlib.Omega.{arith}
use Rattle.std.proofs.Math.Decide.{dec_lt}
use Rattle.std.proofs.lemmas.Bool.{lt-leb}
use Rattle.text.specs.Reading.{Text, Out, done, bad, deep, next, pick, peek, run, word}
use Rattle.text.specs.Class.{Range, range, among, ranges, class_of, whitespace, skip, digit}
use Rattle.text.specs.Strings.{hex_of, escape_of, pair_of, quad, low, joined, paired, escape, tail, second, two, three, four, classed, character, before, onward, characters, string}
use Rattle.text.specs.Numbers.{digits, minus, sign, int, frac, exp, rest, written, number}
use Rattle.text.specs.laws.Peek.{digit_end}
use Rattle.text.specs.laws.Readers.{pick_false, bad_done, deep_done}
use Rattle.text.specs.laws.Runs.{run_inside, skipped, or_case, white_case}
use Rattle.text.specs.laws.Words.{Bytes}

-- the numbers of s from i up to j are bytes
pub record AllBytes (s : Text) (i j : ℕ) : Type 0 where
  pub byte : (k : ℕ) → i ≤ k → k < j → peek s k < 256

-- and so what a reading took from i on
pub data Clean {A : Type 0} (s : Text) (i : ℕ) : Out A → Type 0 where
  clean : {a : A} {j : ℕ} → AllBytes s i j → Clean s i (done a j)
  no_bad : {p : ℕ} → Clean s i (bad p)
  no_deep : {p : ℕ} → Clean s i (deep p)

module _ {s : Text} where
  pub nil : {i j : ℕ} → j ≤ i → AllBytes s i j
  nil l = record { byte = λ k g h. absurd (omega arith) }

  pub join : {i k j : ℕ} → AllBytes s i k → AllBytes s k j → AllBytes s i j
  join {i} {k} {j} a b = record { byte = λ n g h. go n g h (dec_lt n k) }
    where
      go : (n : ℕ) → i ≤ n → n < j → Dec (n < k) → peek s n < 256
      go n g h (yes l) = a.byte n g l
      go n g h (no m) = b.byte n (omega arith) h

  -- one byte more in front
  pub cons : {i k j : ℕ} → peek s i < 256 → AllBytes s k j → k ≡ i + 1 → AllBytes s i j
  cons {i} {k} {j} h b e = join {i = i} {k = k} {j = j} (record { byte = λ n g l. let q : n ≡ i = omega arith in let z : peek s n ≡ peek s i = ap (peek s) q in omega arith }) b

  pub pick_clean : {A : Type 0} {i : ℕ} (t : Bool) {x y : Out A} → (t ≡ true → Clean s i x) → (t ≡ false → Clean s i y) → Clean s i (pick t x y)
  unfolding pick
  pick_clean true f g = f refl
  pick_clean false f g = g refl

  pub next_clean : {A B : Type 0} {i : ℕ} {o : Out A} {f : A → ℕ → Out B} → Clean s i o → ((a : A) (j : ℕ) → AllBytes s i j → Clean s i (f a j)) → Clean s i (next o f)
  unfolding next
  next_clean (clean a) g = g _ _ a
  next_clean no_bad g = no_bad
  next_clean no_deep g = no_deep

  pub then_clean : {A : Type 0} {i k : ℕ} {o : Out A} → AllBytes s i k → Clean s k o → Clean s i o
  then_clean a (clean b) = clean (join a b)
  then_clean a no_bad = no_bad
  then_clean a no_deep = no_deep

  pub clean_done : {A : Type 0} {i : ℕ} {o : Out A} {a : A} {j : ℕ} → Clean s i o → o ≡ done a j → AllBytes s i j
  clean_done {A} {i} {o} {a} {j} (clean {j = k} b) e = record { byte = λ n g h. let q : k ≡ j = cc in b.byte n g (omega arith) }
  clean_done no_bad e = absurd (bad_done e)
  clean_done no_deep e = absurd (deep_done e)

-- a test that no number from 256 on passes
byte_by : (test : ℕ → Bool) → ((b : ℕ) → 256 ≤ b → test b ≡ false) → (b : ℕ) → test b ≡ true → b < 256
byte_by test over b e = go (dec_lt b 256)
  where
    go : Dec (b < 256) → b < 256
    go (yes l) = l
    go (no m) = let z : ◌≡◌ {A = Bool} true false = sym e ∙ over b (omega arith) in let y : ◌≡◌ {A = ℕ} 0 1 = cc in absurd (omega arith)

is_byte : (b c : ℕ) → c < 256 → eqb b c ≡ true → b < 256
is_byte b c l e = omega (arith, eqb-true b c e)

and_no : (x : Bool) {y : Bool} → y ≡ false → (x && y) ≡ false
and_no true e = e
and_no false e = refl

-- classes
small : List Range → Bool
small [] = true
small (range lo hi k ∷ rs) = ltb hi 256 && small rs

both : {C : Type 0} (x y : Bool) → (x && y) ≡ true → (x ≡ true → y ≡ true → C) → C
both true y e f = f refl e
both false y e f = let z : ◌≡◌ {A = ℕ} 0 1 = cc in absurd (omega arith)

among_over : (rs : List Range) (b : ℕ) → small rs ≡ true → 256 ≤ b → among rs b ≡ 0
unfolding pick small
among_over [] b e h = refl
among_over (range lo hi k ∷ rs) b e h =
    both (ltb hi 256) (small rs) e
    (λ l m. go (leb lo b) (lt-leb b hi (omega (arith, ltb→lt hi 256 (rw l tt)))) (among_over rs b m h))
  where
    go : (t : Bool) → leb b hi ≡ false → among rs b ≡ 0 → pick t (pick (leb b hi) k (among rs b)) (among rs b) ≡ 0
    go true f g = rw f g
    go false f g = g

class_over : (b : ℕ) → 256 ≤ b → class_of b ≡ 0
unfolding class_of small
class_over b h = among_over ranges b refl h

escape_over : (b : ℕ) → 256 ≤ b → escape_of b ≡ 0
unfolding escape_of small
escape_over b h =
    among_over (range 34 34 34 ∷ range 47 47 47 ∷ range 92 92 92 ∷ range 98 98 8 ∷ range 102 102 12 ∷ range 110 110 10 ∷ range 114 114 13 ∷ range 116 116 9 ∷ []) b refl h

class_byte : (b : ℕ) → (class_of b ≡ 0 → ⊥) → b < 256
class_byte b n = go (dec_lt b 256)
  where
    go : Dec (b < 256) → b < 256
    go (yes l) = l
    go (no m) = absurd (n (class_over b (omega arith)))

pub white_byte : (b : ℕ) → whitespace b ≡ true → b < 256
white_byte b e = white_case b e (λ h. class_byte b (λ z. omega arith)) (λ h. class_byte b (λ z. omega arith))

digit_byte : (b : ℕ) → digit b ≡ true → b < 256
unfolding digit
digit_byte b e =
    or_case _ _ e
    (λ h. let q : class_of b ≡ 5 = eqb-true _ _ h in class_byte b (λ z. omega arith))
    (λ h. let q : class_of b ≡ 6 = eqb-true _ _ h in class_byte b (λ z. omega arith))

-- hexadecimal digits
hex_over : (b : ℕ) → 256 ≤ b → hex_of b ≡ 16
unfolding hex_of
hex_over b h =
    pick_false _ _ (and_no (leb 48 b) (lt-leb b 57 (omega arith)))
    ∙ pick_false _ _ (and_no (leb 65 b) (lt-leb b 70 (omega arith)))
    ∙ pick_false _ _ (and_no (leb 97 b) (lt-leb b 102 (omega arith)))

hex_byte : (test : ℕ → Bool) → test 16 ≡ false → (b : ℕ) → test (hex_of b) ≡ true → b < 256
hex_byte test n b e = byte_by (λ c. test (hex_of c)) (λ c h. ap test (hex_over c h) ∙ n) b e

pair_clean : (v : ℕ) (s : Text) (i : ℕ) → Clean s i (pair_of v s i)
unfolding pair_of
pair_clean v s i =
    pick_clean _
    (λ e. pick_clean _
    (λ f.
    let h : peek s i < 256 = hex_byte (λ x. ltb x 16) refl _ e in
    let g : peek s (i + 1) < 256 = hex_byte (λ x. ltb x 16) refl _ f in
    let z : i + 2 ≤ i + 2 = omega arith in
    clean (cons h (cons g (nil z) (omega arith)) refl))
    (λ _. no_bad))
    (λ _. no_bad)

most_digit : (c : Bool) → ltb 16 (pick c 12 16) ≡ false
unfolding pick
most_digit true = refl
most_digit false = refl

quad_clean : (s : Text) (i : ℕ) → Clean s i (quad s i)
unfolding quad
quad_clean s i =
    pick_clean _
    (λ e. pick_clean _
    (λ f.
    let h : peek s i < 256 = hex_byte (λ x. ltb x 16) refl _ e in
    let g : peek s (i + 1) < 256 = hex_byte (λ x. ltb x (pick (eqb (hex_of (peek s i)) 13) 12 16)) (most_digit _) _ f in
    let z : i + 2 ≤ i + 2 = omega arith in
    then_clean (cons h (cons g (nil z) (omega arith)) refl) (pair_clean _ s (i + 2)))
    (λ _. no_bad))
    (λ _. no_bad)

low_clean : (s : Text) (i : ℕ) → Clean s i (low s i)
unfolding low
low_clean s i =
    pick_clean _
    (λ a. pick_clean _
    (λ b. pick_clean _
    (λ c. pick_clean _
    (λ d.
    let h0 : peek s i < 256 = is_byte _ 92 (omega arith) a in
    let h1 : peek s (i + 1) < 256 = is_byte _ 117 (omega arith) b in
    let h2 : peek s (i + 2) < 256 = hex_byte (λ x. eqb x 13) refl _ c in
    let h3 : peek s (i + 3) < 256 = hex_byte (λ x. eqb (x / 4) 3) refl _ d in
    let z : i + 4 ≤ i + 4 = omega arith in
    then_clean (cons h0 (cons h1 (cons h2 (cons h3 (nil z) (omega arith)) (omega arith)) (omega arith)) refl) (pair_clean _ s (i + 4)))
    (λ _. no_bad))
    (λ _. no_bad))
    (λ _. no_bad))
    (λ _. no_bad)

paired_clean : (s : Text) (v i j : ℕ) → AllBytes s i j → Clean s i (paired s v j)
unfolding paired joined
paired_clean s v i j a = pick_clean _ (λ _. then_clean a (next_clean (low_clean s j) (λ w k b. clean b))) (λ _. clean a)

escape_clean : (s : Text) (i : ℕ) → peek s i < 256 → Clean s i (escape s i)
unfolding escape
escape_clean s i h =
    pick_clean _
    (λ e.
    let g : peek s (i + 1) < 256 = is_byte _ 117 (omega arith) e in
    let z : i + 2 ≤ i + 2 = omega arith in
    let a : AllBytes s i (i + 2) = cons h (cons g (nil z) (omega arith)) refl in
    next_clean (then_clean a (quad_clean s (i + 2))) (λ v j b. paired_clean s v i j b))
    (λ _. pick_clean _
    (λ _. no_bad)
    (λ f.
    let g : peek s (i + 1) < 256 = escaped f in
    let z : i + 2 ≤ i + 2 = omega arith in
    clean (cons h (cons g (nil z) (omega arith)) refl)))
  where
    escaped : eqb (escape_of (peek s (i + 1))) 0 ≡ false → peek s (i + 1) < 256
    escaped f = go (dec_lt (peek s (i + 1)) 256)
      where
        go : Dec (peek s (i + 1) < 256) → peek s (i + 1) < 256
        go (yes l) = l
        go (no m) =
            let y : ◌≡◌ {A = Bool} true false = sym (eq-eqb _ _ (escape_over (peek s (i + 1)) (omega arith))) ∙ f in
            let w : ◌≡◌ {A = ℕ} 0 1 = cc in
            absurd (omega arith)

-- characters of more than one byte
tail_byte : (c : ℕ) → tail c ≡ true → c < 256
unfolding tail
tail_byte c e =
    let q : c / 64 ≡ 2 = eqb-true _ _ e in
    let l : c / 64 < 3 = omega arith in
    let m : c < 3 * 64 = (div-lt_iff_lt-mul {k = 64} {x = c} {y = 3} (omega arith)).0 l in
    omega arith

second_over : (x : ℕ) → 256 ≤ x → (t u : Bool) → leb x (pick t 159 (pick u 143 191)) ≡ false
unfolding pick
second_over x h true u = lt-leb x 159 (omega arith)
second_over x h false true = lt-leb x 143 (omega arith)
second_over x h false false = lt-leb x 191 (omega arith)

second_byte : (b c : ℕ) → second b c ≡ true → c < 256
unfolding second
second_byte b c e =
    byte_by
    (λ x. leb (pick (eqb b 224) 160 (pick (eqb b 240) 144 128)) x && leb x (pick (eqb b 237) 159 (pick (eqb b 244) 143 191)))
    (λ x h. and_no (leb (pick (eqb b 224) 160 (pick (eqb b 240) 144 128)) x) (second_over x h (eqb b 237) (eqb b 244)))
    c
    e

module _ (s : Text) (i : ℕ) (h : peek s i < 256) where
  two_clean : Clean s i (two s i)
  unfolding two
  two_clean =
      pick_clean _
      (λ e.
      let g : peek s (i + 1) < 256 = second_byte _ _ e in
      let z : i + 2 ≤ i + 2 = omega arith in
      clean (cons h (cons g (nil z) (omega arith)) refl))
      (λ _. no_bad)

  three_clean : Clean s i (three s i)
  unfolding three
  three_clean =
      pick_clean _
      (λ e. pick_clean _
      (λ f.
      let g : peek s (i + 1) < 256 = second_byte _ _ e in
      let k : peek s (i + 2) < 256 = tail_byte _ f in
      let z : i + 3 ≤ i + 3 = omega arith in
      clean (cons h (cons g (cons k (nil z) (omega arith)) (omega arith)) refl))
      (λ _. no_bad))
      (λ _. no_bad)

  four_clean : Clean s i (four s i)
  unfolding four
  four_clean =
      pick_clean _
      (λ e. pick_clean _
      (λ f. pick_clean _
      (λ d.
      let g : peek s (i + 1) < 256 = second_byte _ _ e in
      let k : peek s (i + 2) < 256 = tail_byte _ f in
      let m : peek s (i + 3) < 256 = tail_byte _ d in
      let z : i + 4 ≤ i + 4 = omega arith in
      clean (cons h (cons g (cons k (cons m (nil z) (omega arith)) (omega arith)) (omega arith)) refl))
      (λ _. no_bad))
      (λ _. no_bad))
      (λ _. no_bad)

of_class : (b k : ℕ) → eqb (class_of b) (suc k) ≡ true → b < 256
of_class b k e = let q : class_of b ≡ suc k = eqb-true _ _ e in class_byte b (λ z. omega arith)

character_clean : (s : Text) (i : ℕ) → Clean s i (character s i)
unfolding character classed
character_clean s i =
    pick_clean _ (λ e. escape_clean s i (of_class _ 2 e))
    (λ _. pick_clean _ (λ e. two_clean s i (of_class _ 18 e))
    (λ _. pick_clean _ (λ e. three_clean s i (of_class _ 19 e))
    (λ _. pick_clean _ (λ e. four_clean s i (of_class _ 20 e))
    (λ _. pick_clean _ (λ _. no_bad)
    (λ e.
    let h : peek s i < 256 = class_byte (peek s i) (λ z. plain (class_of (peek s i)) e z) in
    let z : i + 1 ≤ i + 1 = omega arith in
    clean (cons h (nil z) refl))))))
  where
    plain : (k : ℕ) → (ltb k 4 || ltb 17 k) ≡ false → k ≡ 0 → ⊥
    plain k e z = let y : ◌≡◌ {A = Bool} true false = ap (λ (m : ℕ). ltb m 4 || ltb 17 m) (sym z) ∙ e in let w : ◌≡◌ {A = ℕ} 0 1 = cc in omega arith

characters_clean : (n : ℕ) (s : Text) (i : ℕ) → Clean s i (characters n s i)
unfolding characters onward before
characters_clean zero s i = no_bad
characters_clean (suc n) s i =
    pick_clean _
    (λ e.
    let h : peek s i < 256 = is_byte _ 34 (omega arith) e in
    let z : i + 1 ≤ i + 1 = omega arith in
    clean (cons h (nil z) refl))
    (λ _. next_clean (character_clean s i) (λ v j a. next_clean (then_clean a (characters_clean n s j)) (λ t k b. clean b)))

pub string_clean : (s : Text) (i : ℕ) → Clean s i (string s i)
unfolding string
string_clean s i =
    pick_clean _
    (λ e.
    let h : peek s i < 256 = is_byte _ 34 (omega arith) e in
    let z : i + 1 ≤ i + 1 = omega arith in
    then_clean (cons h (nil z) refl) (characters_clean _ s (i + 1)))
    (λ _. no_bad)

-- numbers
run_bytes : (kind : ℕ → Bool) → kind 256 ≡ false → ((b : ℕ) → kind b ≡ true → b < 256) → (s : Text) (i : ℕ) → AllBytes s i (run kind s i)
run_bytes kind end f s i = record { byte = λ k g h. f (peek s k) (run_inside kind end s i k g h) }

digits_clean : (s : Text) (i : ℕ) → Clean s i (digits s i)
unfolding digits
digits_clean s i = pick_clean _ (λ _. clean (run_bytes digit digit_end digit_byte s i)) (λ _. no_bad)

step_bytes : (s : Text) (i : ℕ) (t : Bool) → (t ≡ true → peek s i < 256) → AllBytes s i (pick t (i + 1) i)
unfolding pick
step_bytes s i true f = let z : i + 1 ≤ i + 1 = omega arith in cons (f refl) (nil z) refl
step_bytes s i false f = nil (le_refl i)

minus_bytes : (s : Text) (i : ℕ) → AllBytes s i (minus s i)
unfolding minus
minus_bytes s i = step_bytes s i _ (λ e. is_byte _ 45 (omega arith) e)

sign_bytes : (s : Text) (i : ℕ) → AllBytes s i (sign s i)
unfolding sign
sign_bytes s i = step_bytes s i _ (λ e. or_case _ _ e (λ h. is_byte _ 45 (omega arith) h) (λ h. is_byte _ 43 (omega arith) h))

int_clean : (s : Text) (i : ℕ) → Clean s i (int s i)
unfolding int
int_clean s i = pick_clean _ (λ e. let z : i + 1 ≤ i + 1 = omega arith in clean (cons (is_byte _ 48 (omega arith) e) (nil z) refl)) (λ _. digits_clean s i)

frac_clean : (s : Text) (i : ℕ) → Clean s i (frac s i)
unfolding frac
frac_clean s i =
    pick_clean _ (λ e. let z : i + 1 ≤ i + 1 = omega arith in then_clean (cons (is_byte _ 46 (omega arith) e) (nil z) refl) (digits_clean s (i + 1))) (λ _. clean (nil (le_refl i)))

exp_clean : (s : Text) (i : ℕ) → Clean s i (exp s i)
unfolding exp
exp_clean s i =
    pick_clean _
    (λ e.
    let z : i + 1 ≤ i + 1 = omega arith in
    let h : peek s i < 256 = or_case _ _ e (λ h. is_byte _ 101 (omega arith) h) (λ h. is_byte _ 69 (omega arith) h) in
    then_clean (cons h (sign_bytes s (i + 1)) refl) (digits_clean s (sign s (i + 1))))
    (λ _. clean (nil (le_refl i)))

pub number_clean : (s : Text) (i : ℕ) → Clean s i (number s i)
unfolding number rest written
number_clean s i =
    next_clean
    (next_clean (then_clean (minus_bytes s i) (int_clean s (minus s i))) (λ u j a. then_clean a (next_clean (frac_clean s j) (λ w k b. then_clean b (exp_clean s k)))))
    (λ u n a. clean a)

-- literals
pub word_clean : (w : Text) → Bytes w → (s : Text) (i : ℕ) → Clean s i (word w s i)
unfolding word
word_clean [] o s i = clean (nil (le_refl i))
word_clean (b ∷ w) o s i =
    pick_clean _ (λ e. let z : i + 1 ≤ i + 1 = omega arith in then_clean (cons (is_byte _ b (ltb→lt b 256 o.0) e) (nil z) refl) (word_clean w o.1 s (i + 1))) (λ _. no_bad)

-- whitespace
pub skip_bytes : (s : Text) (i : ℕ) → AllBytes s i (skip s i)
skip_bytes s i = record { byte = λ k g h. white_byte (peek s k) (skipped s i k g h) }
