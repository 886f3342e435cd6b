-- The class table computed for all 256 bytes. Assumes nothing.
use Rattle.std.specs.Prelude.{◌≡◌, Bool, true, ◌&&◌, ◌||◌, List, [], ◌∷◌, ℕ, leb, ltb, eqb, T}
use Rattle.std.proofs.Common.{arith, lit<, ne_eqb, le-ltb, le-leb}
use Rattle.text.specs.Reading.{pick}
use Rattle.text.specs.Class.{Range, range, class_of}
use Rattle.text.specs.laws.Bytes.{both, agree, classes, from, from_beyond, class_from}

abbrev pub blanks : ℕ → Bool
blanks b = eqb b 9 || (eqb b 10 || (eqb b 13 || eqb b 32))

white_table : T (agree (λ b. eqb (class_of b) 4 || eqb (class_of b) 1) blanks 0 256)
unfolding class_of pick
white_table = tt

pub white_bytes : (b : ℕ) → (eqb (class_of b) 4 || eqb (class_of b) 1) ≡ blanks b
white_bytes =
    classes (λ k. eqb k 4 || eqb k 1) blanks white_table
    (λ b l. rw (ne_eqb b 9 (λ (e : b ≡ 9). omega arith), ne_eqb b 10 (λ (e : b ≡ 10). omega arith), ne_eqb b 13 (λ (e : b ≡ 13). omega arith), ne_eqb b 32 (λ (e : b ≡ 32). omega arith)))

digit_table : T (agree (λ b. eqb (class_of b) 5 || eqb (class_of b) 6) (from 48 57) 0 256)
unfolding class_of pick
digit_table = tt

pub digit_bytes : (b : ℕ) → (eqb (class_of b) 5 || eqb (class_of b) 6) ≡ from 48 57 b
digit_bytes = classes (λ k. eqb k 5 || eqb k 6) (from 48 57) digit_table (λ b l. from_beyond 48 57 (lit< tt) b l)

-- control bytes, and what is no byte
control_table : T (agree (λ b. ltb (class_of b) 2) (λ b. ltb b 32 || leb 256 b) 0 256)
unfolding class_of pick
control_table = tt

pub control_bytes : (b : ℕ) → ltb (class_of b) 2 ≡ (ltb b 32 || leb 256 b)
control_bytes = classes (λ k. ltb k 2) (λ b. ltb b 32 || leb 256 b) control_table (λ b l. rw (le-ltb b 32 (omega arith), le-leb 256 b l))

-- characters of one byte that stand for themselves
abbrev pub plains : ℕ → Bool
plains b = (leb 32 b && leb b 33) || ((leb 35 b && leb b 91) || (leb 93 b && leb b 127))

plain_table : T (agree (λ b. leb 4 (class_of b) && ltb (class_of b) 18) plains 0 256)
unfolding class_of pick
plain_table = tt

pub plain_bytes : (b : ℕ) → (leb 4 (class_of b) && ltb (class_of b) 18) ≡ plains b
plain_bytes =
    classes (λ k. leb 4 k && ltb k 18) plains plain_table
    (λ b l. rw (from_beyond 32 33 (lit< tt) b l, from_beyond 35 91 (lit< tt) b l, from_beyond 93 127 (lit< tt) b l))

-- each range is exactly the bytes of its class
abbrev pub Exactly : List Range → Type 0
Exactly [] = Unit {0}
Exactly (range lo hi k ∷ rs) = ((b : ℕ) → eqb (class_of b) k ≡ (leb lo b && leb b hi)) × Exactly rs

exact : List Range → Bool
exact [] = true
exact (range lo hi k ∷ rs) = (ltb 0 k && ltb hi 256) && (agree (λ b. eqb (class_of b) k) (from lo hi) 0 256 && exact rs)

exactly : (rs : List Range) → T (exact rs) → Exactly rs
unfolding exact
exactly [] h = tt
exactly (range lo hi k ∷ rs) h =
    let v = both (ltb 0 k && ltb hi 256) (agree (λ b. eqb (class_of b) k) (from lo hi) 0 256 && exact rs) h in
    let x = both (ltb 0 k) (ltb hi 256) v.0 in
    let y = both (agree (λ b. eqb (class_of b) k) (from lo hi) 0 256) (exact rs) v.1 in
    (class_from k lo hi x.0 x.1 y.0, exactly rs y.1)

-- the classes that are one range each
abbrev pub single : List Range
single =
    range 34 34 2 ∷ range 92 92 3 ∷ range 32 32 4 ∷ range 48 48 5 ∷ range 49 57 6 ∷ range 45 45 7 ∷ range 43 43 8 ∷ range 46 46 9 ∷
    range 91 91 10 ∷ range 93 93 11 ∷ range 123 123 12 ∷ range 125 125 13 ∷ range 58 58 14 ∷ range 44 44 15 ∷
    range 128 191 18 ∷ range 194 223 19 ∷ range 224 239 20 ∷ range 240 244 21 ∷ []

single_table : T (exact single)
unfolding exact class_of pick
single_table = tt

pub single_exactly : Exactly single
single_exactly = exactly single single_table
