-- A character of a string is read stepwise: a byte after the other, and what was begun can be finished. Assumes nothing.
use Rattle.std.specs.Prelude.{◌≡◌, refl, Bool, true, false, ◌&&◌, ◌||◌, ℕ, ◌+◌, ◌*◌, ◌/◌, ◌%◌, leb, ltb, eqb}
use Rattle.std.proofs.Common.{sym, ap, subst, ◌∙◌, arith, eqb-true}
use Rattle.std.proofs.Math.Bool.{and-false}
use Rattle.text.specs.Reading.{Text, Out, done, bad, next, pick, peek}
use Rattle.text.specs.Class.{class_of}
use Rattle.text.specs.Strings.{hex_of, escape_of, pair_of, quad, low, joined, paired, escape, tail, second, two, three, four, classed, character}
use Rattle.text.specs.laws.Stepwise.{Stepwise, moved, finished, live, step_pick, wrong_here, look, gate, chain}

-- a test that no byte of the text decides
chosen : {A : Type 0} {n : ℕ} (t : Bool) {f g : Text → Out A} → Stepwise n f → Stepwise n g → Stepwise n (λ s. pick t (f s) (g s))
unfolding pick
chosen true o p = o
chosen false o p = p

-- the end is no hexadecimal digit, and 0, d and c are some
hex_end : hex_of 256 ≡ 16
unfolding hex_of pick
hex_end = refl

hex_zero : hex_of 48 ≡ 0
unfolding hex_of pick
hex_zero = refl

hex_d : hex_of 100 ≡ 13
unfolding hex_of pick
hex_d = refl

hex_c : hex_of 99 ≡ 12
unfolding hex_of pick
hex_c = refl

-- two digits
abbrev is_hex : ℕ → Bool
is_hex b = ltb (hex_of b) 16

is_hex_end : is_hex 256 ≡ false
is_hex_end = rw hex_end

is_hex_zero : is_hex 48 ≡ true
is_hex_zero = rw hex_zero

pair_stepwise : (v i : ℕ) → Stepwise i (λ s. pair_of v s i)
unfolding pair_of
pair_stepwise v i =
    let q : (i + 1) + 1 ≡ i + 2 = omega arith in
    gate i is_hex
    (λ b s. pick (ltb (hex_of (peek s (i + 1))) 16) (done ((v * 16 + hex_of b) * 16 + hex_of (peek s (i + 1))) (i + 2)) (bad (i + 1)))
    (λ b _. gate (i + 1) is_hex (λ c s. done ((v * 16 + hex_of b) * 16 + hex_of c) (i + 2)) (λ c _. moved q (finished (i + 2) _)) is_hex_end 48 is_hex_zero)
    is_hex_end
    48
    is_hex_zero

-- four digits
bounded_end : (t : Bool) → ltb 16 (pick t 12 16) ≡ false
unfolding pick
bounded_end true = refl
bounded_end false = refl

bounded_zero : (t : Bool) → ltb 0 (pick t 12 16) ≡ true
unfolding pick
bounded_zero true = refl
bounded_zero false = refl

quad_stepwise : (i : ℕ) → Stepwise i (λ s. quad s i)
unfolding quad
quad_stepwise i =
    let q : (i + 1) + 1 ≡ i + 2 = omega arith in
    gate i is_hex
    (λ b s. pick (ltb (hex_of (peek s (i + 1))) (pick (eqb (hex_of b) 13) 12 16)) (pair_of (hex_of b * 16 + hex_of (peek s (i + 1))) s (i + 2)) (bad (i + 1)))
    (λ b _.
    gate (i + 1) (λ c. ltb (hex_of c) (pick (eqb (hex_of b) 13) 12 16))
    (λ c s. pair_of (hex_of b * 16 + hex_of c) s (i + 2))
    (λ c _. moved q (pair_stepwise _ (i + 2)))
    (rw hex_end (bounded_end _))
    48
    (rw hex_zero (bounded_zero _)))
    is_hex_end
    48
    is_hex_zero

-- a low surrogate
low_stepwise : (i : ℕ) → Stepwise i (λ s. low s i)
unfolding low
low_stepwise i =
    let q2 : (i + 1) + 1 ≡ i + 2 = omega arith in
    let q3 : (i + 2) + 1 ≡ i + 3 = omega arith in
    let q4 : (i + 3) + 1 ≡ i + 4 = omega arith in
    gate i (λ b. eqb b 92)
    (λ _ s. pick (eqb (peek s (i + 1)) 117) (pick (eqb (hex_of (peek s (i + 2))) 13) (pick (eqb (hex_of (peek s (i + 3)) / 4) 3) (pair_of (208 + hex_of (peek s (i + 3))) s (i + 4)) (bad (i + 3))) (bad (i + 2))) (bad (i + 1)))
    (λ _ _.
    gate (i + 1) (λ b. eqb b 117)
    (λ _ s. pick (eqb (hex_of (peek s (i + 2))) 13) (pick (eqb (hex_of (peek s (i + 3)) / 4) 3) (pair_of (208 + hex_of (peek s (i + 3))) s (i + 4)) (bad (i + 3))) (bad (i + 2)))
    (λ _ _. moved q2 (
    gate (i + 2) (λ b. eqb (hex_of b) 13)
    (λ _ s. pick (eqb (hex_of (peek s (i + 3)) / 4) 3) (pair_of (208 + hex_of (peek s (i + 3))) s (i + 4)) (bad (i + 3)))
    (λ _ _. moved q3 (
    gate (i + 3) (λ b. eqb (hex_of b / 4) 3)
    (λ b s. pair_of (208 + hex_of b) s (i + 4))
    (λ b _. moved q4 (pair_stepwise _ (i + 4)))
    (rw hex_end)
    99
    (rw hex_c)))
    (rw hex_end)
    100
    (rw hex_d)))
    refl
    117
    refl)
    refl
    92
    refl

paired_stepwise : (v j : ℕ) → Stepwise j (λ s. paired s v j)
unfolding paired joined
paired_stepwise v j = chosen _ (chain j (λ s. low s j) (λ s. joined v) (low_stepwise j) (λ w k. finished k _)) (finished j v)

-- an escape, after its backslash at i
abbrev escaped : ℕ → ℕ → Text → Out ℕ
escaped i b s = pick (eqb b 117) (next (quad s (i + 2)) (paired s)) (pick (eqb (escape_of b) 0) (bad (i + 1)) (done (escape_of b) (i + 2)))

escaped_end : (i : ℕ) (s : Text) → escaped i 256 s ≡ bad (i + 1)
unfolding escape_of pick
escaped_end i s = refl

escaped_n : (i : ℕ) → Stepwise (i + 1 + 1) (escaped i 110)
unfolding escape_of pick
escaped_n i = let q : (i + 1) + 1 ≡ i + 2 = omega arith in moved q (finished (i + 2) 10)

escape_stepwise : (i : ℕ) → Stepwise (i + 1) (λ s. escape s i)
unfolding escape
escape_stepwise i =
    let q : (i + 1) + 1 ≡ i + 2 = omega arith in
    look (i + 1) (escaped i)
    (λ b. step_pick _
    (λ _. live (moved q (chain (i + 2) (λ s. quad s (i + 2)) paired (quad_stepwise (i + 2)) paired_stepwise)))
    (λ _. step_pick _ (λ _. wrong_here (i + 1)) (λ _. live (moved q (finished (i + 2) _)))))
    (escaped_end i)
    110
    (escaped_n i)

-- the second byte of a character: the end is none, and there is one
bound_end : (t u : Bool) → leb 256 (pick t 159 (pick u 143 191)) ≡ false
unfolding pick
bound_end true u = refl
bound_end false true = refl
bound_end false false = refl

second_end : (b : ℕ) → second b 256 ≡ false
unfolding second
second_end b = rw (bound_end (eqb b 237) (eqb b 244)) (and-false (leb (pick (eqb b 224) 160 (pick (eqb b 240) 144 128)) 256))

second_some : (b : ℕ) → (c : ℕ) × (second b c ≡ true)
unfolding second pick
second_some b = first (eqb b 224) refl
  where
    other : (t u : Bool) → leb 128 (pick t 159 (pick u 143 191)) ≡ true
    other true u = refl
    other false true = refl
    other false false = refl

    then : eqb b 224 ≡ false → (t : Bool) → eqb b 240 ≡ t → (c : ℕ) × ((leb (pick (eqb b 224) 160 (pick (eqb b 240) 144 128)) c && leb c (pick (eqb b 237) 159 (pick (eqb b 244) 143 191))) ≡ true)
    then n true e = (144, rw (eqb-true b 240 e))
    then n false e = (128, rw (n, e) (other (eqb b 237) (eqb b 244)))

    first : (t : Bool) → eqb b 224 ≡ t → (c : ℕ) × ((leb (pick (eqb b 224) 160 (pick (eqb b 240) 144 128)) c && leb c (pick (eqb b 237) 159 (pick (eqb b 244) 143 191))) ≡ true)
    first true e = (160, rw (eqb-true b 224 e))
    first false e = then e (eqb b 240) refl

-- characters of two, three and four bytes, after the first byte b at i
abbrev two_after : ℕ → ℕ → Text → Out ℕ
two_after i b s = pick (second b (peek s (i + 1))) (done (b % 32 * 64 + peek s (i + 1) % 64) (i + 2)) (bad (i + 1))

two_stepwise : (i b : ℕ) → Stepwise (i + 1) (two_after i b)
two_stepwise i b =
    let q : (i + 1) + 1 ≡ i + 2 = omega arith in
    let w = second_some b in
    gate (i + 1) (second b) (λ c s. done (b % 32 * 64 + c % 64) (i + 2)) (λ c _. moved q (finished (i + 2) _)) (second_end b) w.0 w.1

abbrev three_after : ℕ → ℕ → Text → Out ℕ
three_after i b s =
    pick (second b (peek s (i + 1)))
    (pick (tail (peek s (i + 2)))
    (done ((b % 16 * 64 + peek s (i + 1) % 64) * 64 + peek s (i + 2) % 64) (i + 3))
    (bad (i + 2)))
    (bad (i + 1))

tail_end : tail 256 ≡ false
unfolding tail
tail_end = refl

tail_some : tail 128 ≡ true
unfolding tail
tail_some = refl

three_stepwise : (i b : ℕ) → Stepwise (i + 1) (three_after i b)
three_stepwise i b =
    let q2 : (i + 1) + 1 ≡ i + 2 = omega arith in
    let q3 : (i + 2) + 1 ≡ i + 3 = omega arith in
    let w = second_some b in
    gate (i + 1) (second b)
    (λ c s. pick (tail (peek s (i + 2))) (done ((b % 16 * 64 + c % 64) * 64 + peek s (i + 2) % 64) (i + 3)) (bad (i + 2)))
    (λ c _. moved q2 (
    gate (i + 2) tail (λ d s. done ((b % 16 * 64 + c % 64) * 64 + d % 64) (i + 3)) (λ d _. moved q3 (finished (i + 3) _)) tail_end 128 tail_some))
    (second_end b)
    w.0
    w.1

abbrev four_after : ℕ → ℕ → Text → Out ℕ
four_after i b s =
    pick (second b (peek s (i + 1)))
    (pick (tail (peek s (i + 2)))
    (pick (tail (peek s (i + 3)))
    (done (((b % 8 * 64 + peek s (i + 1) % 64) * 64 + peek s (i + 2) % 64) * 64 + peek s (i + 3) % 64) (i + 4))
    (bad (i + 3)))
    (bad (i + 2)))
    (bad (i + 1))

four_stepwise : (i b : ℕ) → Stepwise (i + 1) (four_after i b)
four_stepwise i b =
    let q2 : (i + 1) + 1 ≡ i + 2 = omega arith in
    let q3 : (i + 2) + 1 ≡ i + 3 = omega arith in
    let q4 : (i + 3) + 1 ≡ i + 4 = omega arith in
    let w = second_some b in
    gate (i + 1) (second b)
    (λ c s. pick (tail (peek s (i + 2))) (pick (tail (peek s (i + 3))) (done (((b % 8 * 64 + c % 64) * 64 + peek s (i + 2) % 64) * 64 + peek s (i + 3) % 64) (i + 4)) (bad (i + 3))) (bad (i + 2)))
    (λ c _. moved q2 (
    gate (i + 2) tail
    (λ d s. pick (tail (peek s (i + 3))) (done (((b % 8 * 64 + c % 64) * 64 + d % 64) * 64 + peek s (i + 3) % 64) (i + 4)) (bad (i + 3)))
    (λ d _. moved q3 (
    gate (i + 3) tail (λ e s. done (((b % 8 * 64 + c % 64) * 64 + d % 64) * 64 + e % 64) (i + 4)) (λ e _. moved q4 (finished (i + 4) _)) tail_end 128 tail_some))
    tail_end
    128
    tail_some))
    (second_end b)
    w.0
    w.1

-- a character whose first byte at i is b, of the class k
abbrev after : ℕ → ℕ → ℕ → Text → Out ℕ
after i k b s =
    pick (eqb k 3) (escape s i)
    (pick (eqb k 19) (two_after i b s)
    (pick (eqb k 20) (three_after i b s)
    (pick (eqb k 21) (four_after i b s)
    (pick (ltb k 4 || ltb 17 k) (bad i) (done b (i + 1))))))

-- the end has class 0, the letter a 16
class_end : class_of 256 ≡ 0
unfolding class_of pick
class_end = refl

class_a : class_of 97 ≡ 16
unfolding class_of pick
class_a = refl

after_none : (i b : ℕ) (s : Text) → after i 0 b s ≡ bad i
unfolding pick
after_none i b s = refl

after_end : (i : ℕ) (s : Text) → after i (class_of 256) 256 s ≡ bad i
after_end i s = ap (λ (k : ℕ). after i k 256 s) class_end ∙ after_none i 256 s

after_letter : (i b : ℕ) → Stepwise (i + 1) (after i 16 b)
unfolding pick
after_letter i b = finished (i + 1) b

after_a : (i : ℕ) → Stepwise (i + 1) (after i (class_of 97) 97)
after_a i = subst (λ (k : ℕ). Stepwise (i + 1) (after i k 97)) (sym class_a) (after_letter i 97)

pub character_stepwise : (i : ℕ) → Stepwise i (λ s. character s i)
unfolding character classed two three four
character_stepwise i =
    look i (λ b. after i (class_of b) b)
    (λ b. step_pick _ (λ _. live (escape_stepwise i))
    (λ _. step_pick _ (λ _. live (two_stepwise i b))
    (λ _. step_pick _ (λ _. live (three_stepwise i b))
    (λ _. step_pick _ (λ _. live (four_stepwise i b))
    (λ _. step_pick _ (λ _. wrong_here i) (λ _. live (finished (i + 1) b)))))))
    (after_end i)
    97
    (after_a i)
