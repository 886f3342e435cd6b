-- A path is copied in words of eight bytes: the bytes of a number of 64 bits are those that stand one after the other in the sheet. Assumes nothing.
use mathlib.Core.Path.{◌≡◌, refl, sym, ap, ◌∙◌}
use mathlib.Core.List.{List, [], ◌∷◌, ◌++◌, append_assoc}
use Prim.Native.Nat.{ℕ, zero, suc, ◌+◌, ◌*◌, ◌/◌, ◌%◌, ◌^◌, ◌≤◌, ◌<◌}
use native.Mathlib.Omega.{arith}
use lib.Pow.{low}
use lib.ListN.{length, set, take, drop, length-append}
use lib.Seq.{length-take-le, take_at, take-take}
use Rattle.bits.specs.Bits.{number, taken_at}
use Rattle.bits.specs.laws.Number.{number_lt, number_append, number_front}
use Rattle.bits.specs.laws.Fields.{take_in}
use Rattle.bits.specs.declared.Taken.{Taken}
use Rattle.records.specs.Layout.{bytes_at}
use Rattle.index.proofs.laws.Put.{Put, put_one, put_more, put_same, put_length}

-- ---- the bytes of a number

-- the last eight bits of a number, which a bits precede
last_byte : (b : List ℕ) (at a p : ℕ) → p ≡ at + a → number b at (a + 8) % 256 ≡ number b p 8
last_byte b at a p e =
    ap (λ (x : ℕ). x % 256) (number_append b at a 8)
    ∙ low (number b at a) 8 (number_lt b (at + a) 8)
    ∙ ap (λ (k : ℕ). number b k 8) (sym e)

-- eight bits that r bits follow
byte_of : (b : List ℕ) (at a r p : ℕ) → p ≡ at + a → number b at (a + 8 + r) / 2 ^ r % 256 ≡ number b p 8
byte_of b at a r p e = ap (λ (x : ℕ). x % 256) (number_front b at (a + 8) r) ∙ last_byte b at a p e

-- a word, in the code's order
abbrev octets : ℕ → List ℕ
octets v =
    v / 2 ^ 56
    ∷ v / 2 ^ 48 % 256
    ∷ v / 2 ^ 40 % 256
    ∷ v / 2 ^ 32 % 256
    ∷ v / 2 ^ 24 % 256
    ∷ v / 2 ^ 16 % 256
    ∷ v / 2 ^ 8 % 256
    ∷ v % 256
    ∷ []

octets_are : (b : List ℕ) (at : ℕ) → octets (number b at 64) ≡ bytes_at b at 8
unfolding bytes_at
octets_are b at = λ i.
    number_front b at 8 56 i
    ∷ byte_of b at 8 48 (at + 8) (omega arith) i
    ∷ byte_of b at 16 40 (at + 8 + 8) (omega arith) i
    ∷ byte_of b at 24 32 (at + 8 + 8 + 8) (omega arith) i
    ∷ byte_of b at 32 24 (at + 8 + 8 + 8 + 8) (omega arith) i
    ∷ byte_of b at 40 16 (at + 8 + 8 + 8 + 8 + 8) (omega arith) i
    ∷ byte_of b at 48 8 (at + 8 + 8 + 8 + 8 + 8 + 8) (omega arith) i
    ∷ last_byte b at 56 (at + 8 + 8 + 8 + 8 + 8 + 8 + 8) (omega arith) i
    ∷ []

-- one byte more is put in
put_on : {old mid w : List ℕ} {base : ℕ} → Put old base w mid → {n : ℕ} → n ≡ base + length w → n < length old → (x : ℕ) → Put old base (w ++ (x ∷ [])) (set mid n x)
put_on {mid = mid} p {n} e h x = put_more p e (put_one mid n x (omega (arith, put_length p)))

module _ (b : List ℕ) (at : ℕ) {x : Taken ℕ} (e : x ≡ taken_at b at 64) (near : at < 0x2000000000) where
  word_is : x.value ≡ number b at 64
  word_is = ap (λ (y : Taken ℕ). y.value) (e ∙ take_in b at 64 (omega arith) (omega arith))

  pub word_put : (path : List ℕ) (i : ℕ) → i + 8 ≤ length path
      → Put path i (bytes_at b at 8)
      (set (set (set (set (set (set (set (set path i (x.value / 2 ^ 56)) (i + 1) (x.value / 2 ^ 48 % 256)) (i + 2) (x.value / 2 ^ 40 % 256)) (i + 3) (x.value / 2 ^ 32 % 256)) (i + 4) (x.value / 2 ^ 24 % 256)) (i + 5) (x.value / 2 ^ 16 % 256)) (i + 6) (x.value / 2 ^ 8 % 256)) (i + 7) (x.value % 256))
  word_put path i h =
      let p0 = put_one path i (x.value / 2 ^ 56) (omega arith) in
      let p1 = put_on p0 {n = i + 1} (omega arith) (omega arith) (x.value / 2 ^ 48 % 256) in
      let p2 = put_on p1 {n = i + 2} (omega arith) (omega arith) (x.value / 2 ^ 40 % 256) in
      let p3 = put_on p2 {n = i + 3} (omega arith) (omega arith) (x.value / 2 ^ 32 % 256) in
      let p4 = put_on p3 {n = i + 4} (omega arith) (omega arith) (x.value / 2 ^ 24 % 256) in
      let p5 = put_on p4 {n = i + 5} (omega arith) (omega arith) (x.value / 2 ^ 16 % 256) in
      let p6 = put_on p5 {n = i + 6} (omega arith) (omega arith) (x.value / 2 ^ 8 % 256) in
      let p7 = put_on p6 {n = i + 7} (omega arith) (omega arith) (x.value % 256) in
      put_same (ap octets word_is ∙ octets_are b at) p7

-- ---- a path, word by word

bytes_append : (b : List ℕ) (at i m : ℕ) → bytes_at b at (i + m) ≡ bytes_at b at i ++ bytes_at b (at + 8 * i) m
unfolding bytes_at
bytes_append b at zero m =
    let z : 0 + m ≡ m = omega arith in
    let e : at ≡ at + 8 * 0 = omega arith in
    ap (bytes_at b at) z ∙ ap (λ (p : ℕ). bytes_at b p m) e
bytes_append b at (suc i) m =
    let s : suc i + m ≡ suc (i + m) = omega arith in
    let e : at + 8 + 8 * i ≡ at + 8 * suc i = omega arith in
    ap (bytes_at b at) s
    ∙ ap (λ (l : List ℕ). number b at 8 ∷ l) (bytes_append b (at + 8) i m ∙ ap (λ (p : ℕ). bytes_at b (at + 8) i ++ bytes_at b p m) e)

bytes_length : (b : List ℕ) (at n : ℕ) → length (bytes_at b at n) ≡ n
unfolding bytes_at
bytes_length b at zero = refl
bytes_length b at (suc n) = ap suc (bytes_length b (at + 8) n)

pub path_start : (b : List ℕ) (at : ℕ) (path : List ℕ) → take 0 path ≡ bytes_at b at 0
unfolding bytes_at
path_start b at path = refl

pub path_next : (b : List ℕ) (at i : ℕ) (path : List ℕ) → take i path ≡ bytes_at b at i → {new : List ℕ} → Put path i (bytes_at b (at + 8 * i) 8) new
    → take (i + 8) new ≡ bytes_at b at (i + 8)
path_next b at i path e p =
    let w = bytes_at b (at + 8 * i) 8 in
    let l : length (take i path) ≡ i = length-take-le i path (omega (arith, p.fits)) in
    let n : length (take i path ++ w) ≡ i + 8 = length-append (take i path) w ∙ omega (arith, l, bytes_length b (at + 8 * i) 8) in
    ap (take (i + 8)) (p.is ∙ sym (append_assoc (take i path) w (drop (i + length w) path)))
    ∙ take_at (take i path ++ w) (drop (i + length w) path) (i + 8) n
    ∙ ap (λ (k : List ℕ). k ++ w) e
    ∙ sym (bytes_append b at i 8)

-- of more bytes than the path has the first are the path
bytes_front : (b : List ℕ) (at n i : ℕ) → n ≤ i → take n (bytes_at b at i) ≡ bytes_at b at n
unfolding bytes_at
bytes_front b at zero i h = refl
bytes_front b at (suc n) zero h = absurd (omega arith)
bytes_front b at (suc n) (suc i) h = ap (λ (l : List ℕ). number b at 8 ∷ l) (bytes_front b (at + 8) n i (omega arith))

pub front_is : (b : List ℕ) (at n i : ℕ) (path : List ℕ) → n ≤ i → take i path ≡ bytes_at b at i → take n path ≡ bytes_at b at n
front_is b at n i path h e = sym (take-take n i path h) ∙ ap (take n) e ∙ bytes_front b at n i h
