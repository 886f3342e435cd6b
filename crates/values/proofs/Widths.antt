-- A character stands within the text, and takes at least as many bytes of it as its code point has. Assumes nothing.
use mathlib.Core.Path.{◌≡◌, refl, sym, ap, ◌∙◌}
use mathlib.Core.Bool.{Bool, true, false, ◌||◌}
use mathlib.Core.List.{List, [], ◌∷◌, ◌++◌}
use Prim.Native.Nat.{ℕ, ◌+◌, ◌*◌, ◌%◌, ◌≤◌, ◌<◌}
use native.Mathlib.Omega.{arith}
use native.Mathlib.Decide.{dec_lt}
use lib.ListN.{length}
use lib.Dec.{leb, ltb}
use borrow.Author.Tests.{lt-ltb, lt-leb, ltb-true}
use Rattle.text.specs.Reading.{Text, done, pick, peek}
use Rattle.text.specs.Class.{Range, range, among, class_of}
use Rattle.text.specs.Strings.{escape_of, pair_of, quad, low, joined, paired, escape, two, three, four, classed, character, utf8}
use Rattle.text.specs.laws.Readers.{bad_done, pick_true}
use Rattle.text.specs.laws.Strings.{character_end}
use Rattle.values.specs.laws.Outs.{Gives, gives_bad, gives_done, gives_pick, gives_next}

-- ---- how many bytes a code point has

pick_holds : {A : Type 0} (P : A → Type 0) (t : Bool) {x y : A} → P x → P y → P (pick t x y)
unfolding pick
pick_holds P true g h = g
pick_holds P false g h = h

abbrev Within : ℕ → Text → Type 0
Within n x = length x ≤ n

pub at_most_four : (v : ℕ) → length (utf8 v) ≤ 4
unfolding utf8
at_most_four v = pick_holds (Within 4) _ (omega arith) (pick_holds (Within 4) _ (omega arith) (pick_holds (Within 4) _ (omega arith) (omega arith)))

abbrev Some : Text → Type 0
Some x = 0 < length x

pub at_least_one : (v : ℕ) → 0 < length (utf8 v)
unfolding utf8
at_least_one v = pick_holds Some _ (omega arith) (pick_holds Some _ (omega arith) (pick_holds Some _ (omega arith) (omega arith)))

one_byte : (v : ℕ) → v < 128 → length (utf8 v) ≤ 1
unfolding utf8 pick
one_byte v h = rw (lt-ltb v 128 h) (omega arith)

two_bytes : (v : ℕ) → v < 2048 → length (utf8 v) ≤ 2
unfolding utf8
two_bytes v h = pick_holds (Within 2) _ (omega arith) (rw (pick_true _ _ (lt-ltb v 2048 h)) (omega arith))

three_bytes : (v : ℕ) → v < 65536 → length (utf8 v) ≤ 3
unfolding utf8
three_bytes v h = pick_holds (Within 3) _ (omega arith) (pick_holds (Within 3) _ (omega arith) (rw (pick_true _ _ (lt-ltb v 65536 h)) (omega arith)))

-- ---- classes: a byte that stands for itself is below 128

-- all of these ranges end below n
abbrev below : ℕ → List Range → Bool
below n [] = true
below n (range lo hi k ∷ rs) = pick (ltb hi n) (below n rs) false

among_past : (n b : ℕ) (rs qs : List Range) → below n rs ≡ true → n ≤ b → among (rs ++ qs) b ≡ among qs b
unfolding pick
among_past n b [] qs e h = refl
among_past n b (range lo hi k ∷ rs) qs e h = go (ltb hi n) refl e (λ g. among_past n b rs qs g h) (leb lo b)
  where
    go : (t : Bool) → ltb hi n ≡ t → pick t (below n rs) false ≡ true → (below n rs ≡ true → among (rs ++ qs) b ≡ among qs b) → (u : Bool) → pick u (pick (leb b hi) k (among (rs ++ qs) b)) (among (rs ++ qs) b) ≡ among qs b
    go true f g ih true = rw (lt-leb b hi (omega (arith, ltb-true hi n f))) (ih g)
    go true f g ih false = ih g
    go false f g ih u = cc

-- what holds of the number of each range, and of 0, holds of what they give
abbrev each : (ℕ → Bool) → List Range → Bool
each test [] = test 0
each test (range lo hi k ∷ rs) = pick (test k) (each test rs) false

among_each : (test : ℕ → Bool) (rs : List Range) (b : ℕ) → each test rs ≡ true → test (among rs b) ≡ true
unfolding pick
among_each test [] b e = e
among_each test (range lo hi k ∷ rs) b e = go (test k) refl e (λ g. among_each test rs b g)
  where
    go : (t : Bool) → test k ≡ t → pick t (each test rs) false ≡ true → (each test rs ≡ true → test (among rs b) ≡ true) → test (pick (leb lo b) (pick (leb b hi) k (among rs b)) (among rs b)) ≡ true
    go true f g ih = pick_holds (λ (x : ℕ). test x ≡ true) (leb lo b) (pick_holds (λ (x : ℕ). test x ≡ true) (leb b hi) f (ih g)) (ih g)
    go false f g ih = cc

-- no class of a byte that stands for itself
abbrev other : ℕ → Bool
other k = ltb k 4 || ltb 17 k

class_high : (b : ℕ) → 128 ≤ b → other (class_of b) ≡ true
unfolding class_of pick
class_high b h =
    ap other
    (among_past 128 b
    (range 9 10 1 ∷ range 13 13 1 ∷ range 0 31 0 ∷
    range 34 34 2 ∷ range 92 92 3 ∷ range 32 32 4 ∷
    range 48 48 5 ∷ range 49 57 6 ∷ range 45 45 7 ∷ range 43 43 8 ∷ range 46 46 9 ∷
    range 91 91 10 ∷ range 93 93 11 ∷ range 123 123 12 ∷ range 125 125 13 ∷ range 58 58 14 ∷ range 44 44 15 ∷
    range 65 90 16 ∷ range 97 122 16 ∷ range 33 127 17 ∷ [])
    (range 128 191 18 ∷ range 194 223 19 ∷ range 224 239 20 ∷ range 240 244 21 ∷ range 192 255 22 ∷ []) refl h)
    ∙ among_each other (range 128 191 18 ∷ range 194 223 19 ∷ range 224 239 20 ∷ range 240 244 21 ∷ range 192 255 22 ∷ []) b refl

plain_low : (b : ℕ) → other (class_of b) ≡ false → b < 128
plain_low b e = go (dec_lt b 128)
  where
    go : Dec (b < 128) → b < 128
    go (yes h) = h
    go (no n) =
        let h : 128 ≤ b = omega arith in
        let f : other (class_of b) ≡ true = class_high b h in
        let z : false ≡ true = sym e ∙ f in
        let y : ◌≡◌ {A = ℕ} 0 1 = cc in
        absurd (omega arith)

abbrev small : ℕ → Bool
small v = ltb v 2048

escape_low : (b : ℕ) → escape_of b < 2048
unfolding escape_of pick
escape_low b =
    ltb-true _ _
    (among_each small
    (range 34 34 34 ∷ range 47 47 47 ∷ range 92 92 92 ∷ range 98 98 8 ∷ range 102 102 12 ∷ range 110 110 10 ∷
    range 114 114 13 ∷ range 116 116 9 ∷ [])
    b refl)

-- ---- a character takes at least as many bytes of the text as its code point has

-- a code point v that was read from i on
abbrev Takes : ℕ → ℕ → ℕ → Type 0
Takes i v j = i + length (utf8 v) ≤ j

-- it takes 4 bytes or more
abbrev Four : ℕ → ℕ → ℕ → Type 0
Four i v j = i + 4 ≤ j

pair_four : (v : ℕ) (s : Text) (i k : ℕ) → k + 2 ≤ i → Gives (Four k) (pair_of v s i)
unfolding pair_of
pair_four v s i k h = gives_pick _ (λ _. gives_pick _ (λ _. gives_done _ _ (omega arith)) (λ _. gives_bad)) (λ _. gives_bad)

quad_four : (s : Text) (i k : ℕ) → k ≤ i → Gives (Four k) (quad s i)
unfolding quad
quad_four s i k h = gives_pick _ (λ _. gives_pick _ (λ _. pair_four _ s (i + 2) k (omega arith)) (λ _. gives_bad)) (λ _. gives_bad)

low_four : (s : Text) (i : ℕ) → Gives (Four i) (low s i)
unfolding low
low_four s i =
    gives_pick _ (λ _. gives_pick _ (λ _. gives_pick _ (λ _. gives_pick _ (λ _. pair_four _ s (i + 4) i (omega arith)) (λ _. gives_bad)) (λ _. gives_bad)) (λ _. gives_bad)) (λ _. gives_bad)

paired_takes : (s : Text) (i v j : ℕ) → i + 4 ≤ j → Gives (Takes i) (paired s v j)
unfolding paired joined
paired_takes s i v j h =
    gives_pick _
    (λ _. gives_next _ _ (λ w k e. gives_done _ _ (omega (arith, (low_four s j).holds w k e, at_most_four (65536 + v % 1024 * 1024 + w % 1024)))))
    (λ _. gives_done _ _ (omega (arith, at_most_four v)))

escape_takes : (s : Text) (i : ℕ) → Gives (Takes i) (escape s i)
unfolding escape
escape_takes s i =
    gives_pick _
    (λ _. gives_next _ _ (λ v j e. paired_takes s i v j (omega (arith, (quad_four s (i + 2) i (omega arith)).holds v j e))))
    (λ _. gives_pick _ (λ _. gives_bad) (λ _. gives_done _ _ (omega (arith, two_bytes (escape_of (peek s (i + 1))) (escape_low _)))))

two_takes : (s : Text) (i : ℕ) → Gives (Takes i) (two s i)
unfolding two
two_takes s i = gives_pick _ (λ _. gives_done _ _ (omega (arith, two_bytes (peek s i % 32 * 64 + peek s (i + 1) % 64) (omega arith)))) (λ _. gives_bad)

three_takes : (s : Text) (i : ℕ) → Gives (Takes i) (three s i)
unfolding three
three_takes s i =
    gives_pick _
    (λ _. gives_pick _ (λ _. gives_done _ _ (omega (arith, three_bytes ((peek s i % 16 * 64 + peek s (i + 1) % 64) * 64 + peek s (i + 2) % 64) (omega arith)))) (λ _. gives_bad))
    (λ _. gives_bad)

four_takes : (s : Text) (i : ℕ) → Gives (Takes i) (four s i)
unfolding four
four_takes s i =
    gives_pick _
    (λ _. gives_pick _
    (λ _. gives_pick _
    (λ _. gives_done _ _ (omega (arith, at_most_four (((peek s i % 8 * 64 + peek s (i + 1) % 64) * 64 + peek s (i + 2) % 64) * 64 + peek s (i + 3) % 64))))
    (λ _. gives_bad))
    (λ _. gives_bad))
    (λ _. gives_bad)

character_takes : (s : Text) (i : ℕ) → Gives (Takes i) (character s i)
unfolding character classed
character_takes s i =
    gives_pick _ (λ _. escape_takes s i)
    (λ _. gives_pick _ (λ _. two_takes s i)
    (λ _. gives_pick _ (λ _. three_takes s i)
    (λ _. gives_pick _ (λ _. four_takes s i)
    (λ _. gives_pick _ (λ _. gives_bad) (λ e. gives_done _ _ (omega (arith, one_byte (peek s i) (plain_low _ e))))))))

-- a character that was read stands in the text, and ends past its start by as many bytes as it has
pub character_in : (s : Text) {i v j : ℕ} → character s i ≡ done v j → (i < length s) × (i + length (utf8 v) ≤ j)
character_in s {i} {v} {j} e = (go (dec_lt i (length s)), (character_takes s i).holds v j e)
  where
    go : Dec (i < length s) → i < length s
    go (yes h) = h
    go (no n) = absurd (bad_done (sym (character_end s i (omega arith)) ∙ e))
