-- A statement on the class of every number is shown by computing it for the 256 bytes; a number past them has class 0. Assumes nothing.
use Rattle.std.specs.Prelude.{◌≡◌, refl, Bool, true, false, ◌&&◌, List, [], ◌∷◌, ℕ, zero, suc, ◌+◌, ◌≤◌, ◌<◌, leb, ltb, eqb, T}
use Rattle.std.proofs.Common.{sym, ap, ◌∙◌, arith, le_of_suc-le-suc, not-suc-le-zero, zero-add, ltb→lt, ne_eqb}
use Rattle.std.proofs.Math.Bool.{and-false}
use Rattle.std.proofs.Math.Decide.{dec_lt}
use Rattle.std.proofs.lemmas.Bool.{lt-leb}
use Rattle.text.specs.Reading.{pick}
use Rattle.text.specs.Class.{Range, range, among, ranges, class_of}

-- the two tests agree
abbrev same : Bool → Bool → Bool
same true b = b
same false true = false
same false false = true

same_eq : (a b : Bool) → T (same a b) → a ≡ b
same_eq true true h = refl
same_eq true false h = absurd h
same_eq false true h = absurd h
same_eq false false h = refl

pub both : (a b : Bool) → T (a && b) → T a × T b
both true b h = (tt, h)
both false b h = absurd h

-- they agree at i and at the n - 1 numbers after it
abbrev pub agree : (ℕ → Bool) → (ℕ → Bool) → ℕ → ℕ → Bool
agree f g i zero = true
agree f g i (suc n) = same (f i) (g i) && agree f g (suc i) n

agree_at : (f g : ℕ → Bool) (n i k : ℕ) → T (agree f g i n) → k < n → f (i + k) ≡ g (i + k)
agree_at f g zero i k h l = absurd (not-suc-le-zero l)
agree_at f g (suc n) i zero h l =
    let q : i + 0 ≡ i = omega arith in
    ap f q ∙ same_eq (f i) (g i) (both (same (f i) (g i)) (agree f g (suc i) n) h).0 ∙ ap g (sym q)
agree_at f g (suc n) i (suc k) h l =
    let q : i + suc k ≡ suc i + k = omega arith in
    ap f q ∙ agree_at f g n (suc i) k (both (same (f i) (g i)) (agree f g (suc i) n) h).1 (le_of_suc-le-suc l) ∙ ap g (sym q)

-- two tests agree on every number where they do on the bytes and past them
pub everywhere : (f g : ℕ → Bool) → T (agree f g 0 256) → ((b : ℕ) → 256 ≤ b → f b ≡ g b) → (b : ℕ) → f b ≡ g b
everywhere f g h past b = go (dec_lt b 256)
  where
    go : Dec (b < 256) → f b ≡ g b
    go (yes l) = ap f (sym (zero-add b)) ∙ agree_at f g 256 0 b h l ∙ ap g (zero-add b)
    go (no n) = past b (omega arith)

-- no range reaches past the bytes
abbrev low : List Range → Bool
low [] = true
low (range lo hi k ∷ rs) = ltb hi 256 && low rs

beyond : (rs : List Range) → T (low rs) → (b : ℕ) → 256 ≤ b → among rs b ≡ 0
unfolding pick
beyond [] h b l = refl
beyond (range lo hi k ∷ rs) h b l =
    let w = both (ltb hi 256) (low rs) h in
    let n : leb b hi ≡ false = lt-leb b hi (omega (arith, ltb→lt hi 256 w.0)) in
    go (leb lo b) n (beyond rs w.1 b l)
  where
    go : (t : Bool) → leb b hi ≡ false → among rs b ≡ 0 → pick t (pick (leb b hi) k (among rs b)) (among rs b) ≡ 0
    go true n e = rw n e
    go false n e = e

pub class_beyond : (b : ℕ) → 256 ≤ b → class_of b ≡ 0
unfolding class_of
class_beyond b l = beyond ranges tt b l

-- a test of the class, and one of the byte
pub classes : (test byte : ℕ → Bool) → T (agree (λ b. test (class_of b)) byte 0 256) → ((b : ℕ) → 256 ≤ b → byte b ≡ test 0) → (b : ℕ) → test (class_of b) ≡ byte b
classes test byte h past b = everywhere (λ c. test (class_of c)) byte h (λ c l. ap test (class_beyond c l) ∙ sym (past c l)) b

-- the bytes from lo to hi, which is below 256
abbrev pub from : ℕ → ℕ → ℕ → Bool
from lo hi b = leb lo b && leb b hi

pub from_beyond : (lo hi : ℕ) → hi < 256 → (b : ℕ) → 256 ≤ b → from lo hi b ≡ false
from_beyond lo hi h b l = rw (lt-leb b hi (omega arith)) (and-false (leb lo b))

-- the class k is that of the bytes from lo to hi
pub class_from : (k lo hi : ℕ) → T (ltb 0 k) → T (ltb hi 256) → T (agree (λ b. eqb (class_of b) k) (from lo hi) 0 256) → (b : ℕ) → eqb (class_of b) k ≡ from lo hi b
class_from k lo hi p q h =
    classes (λ c. eqb c k) (from lo hi) h
    (λ b l. from_beyond lo hi (ltb→lt hi 256 q) b l ∙ sym (ne_eqb 0 k (λ (e : 0 ≡ k). omega (arith, ltb→lt 0 k p))))
