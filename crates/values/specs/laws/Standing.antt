-- The questions about the value that stands at a position. Assumes nothing.
use Rattle.std.specs.Prelude.{◌≡◌, refl, Bool, true, false, ◌||◌, [], ◌∷◌, ℕ, eqb}
use Rattle.std.proofs.Common.{sym, ap, ◌∙◌, arith, eq-eqb, ne_eqb, eqb-true}
use Rattle.std.proofs.lemmas.Bool.{eqb-false}
use Rattle.text.specs.Reading.{Text, Out, done, bad, deep, pick, peek}
use Rattle.text.specs.Class.{class_of, digit, skip}
use Rattle.text.specs.Strings.{string}
use Rattle.text.specs.Numbers.{number}
use Rattle.text.specs.laws.Readers.{next_inv, pick_case, pick_true, pick_false, bad_done, done_of}
use Rattle.grammar.specs.Tree.{Tree, num, str, same}
use Rattle.grammar.specs.Document.{value, ending, most, read}
use Rattle.values.specs.Stands.{Stands, kind_of, kind_by, kind_at}
use Rattle.values.specs.Strings.{length_in, length_at, is_text, same_as, both_text, same_texts, length_of, is_string, same_strings}
use Rattle.values.specs.Integer.{integer_in, integer_at, integer_of}
use Rattle.values.specs.declared.Kind.TheVariants.{Number}
use Rattle.values.specs.declared.Integer.TheVariants.{None}
use Rattle.values.specs.laws.Outs.{Stops}
use Rattle.values.specs.laws.Shapes.{Shape, array, object, text, yes_word, no_word, null_is, figure, shape, no_number, no_text}

-- ---- two texts are the same where they are equal

pub same_self : (t : Text) → same t t ≡ true
unfolding same
same_self [] = refl
same_self (a ∷ t) = pick_true _ _ (eq-eqb a a refl) ∙ same_self t

pub same_equal : (x y : Text) → same x y ≡ true → x ≡ y
unfolding same pick
same_equal [] [] e = refl
same_equal [] (b ∷ y) e = cc
same_equal (a ∷ x) [] e = cc
same_equal (a ∷ x) (b ∷ y) e = go (eqb a b) refl e (same_equal x y)
  where
    go : (t : Bool) → eqb a b ≡ t → pick t (same x y) false ≡ true → (same x y ≡ true → x ≡ y) → a ∷ x ≡ b ∷ y
    go true f g ih = let p : a ≡ b = eqb-true a b f in let q : x ≡ y = ih g in cc
    go false f g ih = cc

-- ---- a whole text

ended : (s : Text) (u t : Tree) (j : ℕ) {n : ℕ} → ending s u j ≡ done t n → u ≡ t
unfolding ending
ended s u t j e = pick_case _ _ _ e (λ _ f. done_of f) (λ _ f. absurd (bad_done f))

pub document_is : (s : Text) (t : Tree) (n : ℕ) → read s ≡ done t n → Stands s (skip s 0) t
unfolding read
document_is s t n e =
    let w = next_inv (value most s (skip s 0)) (ending s) e in
    record { until = w.1; reads = w.2 ∙ ap (λ (x : Tree). done x w.1) (ended s w.0 t w.1 w.3) }

pub stands_once : {s : Text} {p : ℕ} {t u : Tree} → Stands s p t → Stands s p u → t ≡ u
stands_once h g = done_of (sym h.reads ∙ g.reads)

pub shape_of : {s : Text} {p : ℕ} {t : Tree} (h : Stands s p t) → Shape s p 15 t h.until
shape_of {s} {p} h = shape 15 s p h.reads

-- ---- kinds

-- a byte that begins a number begins nothing else
other_byte : (b c : ℕ) → (eqb b 45 || digit b) ≡ true → (eqb c 45 || digit c) ≡ false → eqb b c ≡ false
other_byte b c e f = ne_eqb b c (λ q. no (sym e ∙ ap (λ (x : ℕ). eqb x 45 || digit x) q ∙ f))
  where
    no : true ≡ false → ⊥
    no g = let z : ◌≡◌ {A = ℕ} 0 1 = cc in omega arith

none_123 : (eqb 123 45 || digit 123) ≡ false
unfolding digit class_of pick
none_123 = refl

none_91 : (eqb 91 45 || digit 91) ≡ false
unfolding digit class_of pick
none_91 = refl

none_34 : (eqb 34 45 || digit 34) ≡ false
unfolding digit class_of pick
none_34 = refl

none_116 : (eqb 116 45 || digit 116) ≡ false
unfolding digit class_of pick
none_116 = refl

none_102 : (eqb 102 45 || digit 102) ≡ false
unfolding digit class_of pick
none_102 = refl

none_110 : (eqb 110 45 || digit 110) ≡ false
unfolding digit class_of pick
none_110 = refl

number_byte : (b : ℕ) → (eqb b 45 || digit b) ≡ true → kind_by b ≡ Number
unfolding kind_by
number_byte b e = pick_false _ _ (other_byte b 123 e none_123) ∙ pick_false _ _ (other_byte b 91 e none_91) ∙ pick_false _ _ (other_byte b 34 e none_34) ∙ pick_true _ _ e

kind_shape : (s : Text) (p : ℕ) {l n : ℕ} {t : Tree} → Shape s p l t n → kind_at s p ≡ kind_of t
unfolding kind_at kind_of kind_by pick digit class_of
kind_shape s p (array ts h e f) = ap kind_by h ∙ sym (ap kind_of e)
kind_shape s p (object ms h e f) = ap kind_by h ∙ sym (ap kind_of e)
kind_shape s p (text u h e f) = ap kind_by h ∙ sym (ap kind_of e)
kind_shape s p (yes_word h e) = ap kind_by h ∙ sym (ap kind_of e)
kind_shape s p (no_word h e) = ap kind_by h ∙ sym (ap kind_of e)
kind_shape s p (null_is h e) = ap kind_by h ∙ sym (ap kind_of e)
kind_shape s p (figure cs h e f) = number_byte (peek s p) h ∙ sym (ap kind_of e)

pub kind_is : {s : Text} {p : ℕ} {t : Tree} → Stands s p t → kind_at s p ≡ kind_of t
kind_is {s} {p} h = kind_shape s p (shape_of h)

-- ---- where nothing was read

pub length_in_stops : (o : Out Text) → Stops o → length_in o ≡ 0
unfolding length_in
length_in_stops (done t j) h = absurd (h.never t j refl)
length_in_stops (bad p) h = refl
length_in_stops (deep p) h = refl

pub text_stops : (o : Out Text) (t : Text) → Stops o → is_text o t ≡ false
unfolding is_text
text_stops (done u j) t h = absurd (h.never u j refl)
text_stops (bad p) t h = refl
text_stops (deep p) t h = refl

pub left_stops : (o q : Out Text) → Stops o → both_text o q ≡ false
unfolding both_text
left_stops (done u j) q h = absurd (h.never u j refl)
left_stops (bad p) q h = refl
left_stops (deep p) q h = refl

pub right_stops : (o q : Out Text) → Stops q → both_text o q ≡ false
unfolding both_text
right_stops (done u j) q h = text_stops q u h
right_stops (bad p) q h = refl
right_stops (deep p) q h = refl

pub integer_stops : (o : Out Text) → Stops o → integer_in o ≡ None
unfolding integer_in
integer_stops (done cs j) h = absurd (h.never cs j refl)
integer_stops (bad p) h = refl
integer_stops (deep p) h = refl

-- ---- integers

no_integer : (s : Text) (p : ℕ) {b : ℕ} → peek s p ≡ b → (eqb b 45 || digit b) ≡ false → integer_at s p ≡ None
unfolding integer_at
no_integer s p h f = integer_stops (number s p) (record { never = λ cs n g. no_number s p h f g })

read_number : (s : Text) (p : ℕ) {cs : Text} {n : ℕ} → number s p ≡ done cs n → integer_at s p ≡ integer_of (num cs)
unfolding integer_at integer_in integer_of
read_number s p f = ap integer_in f

integer_shape : (s : Text) (p : ℕ) {l n : ℕ} {t : Tree} → Shape s p l t n → integer_at s p ≡ integer_of t
unfolding integer_of
integer_shape s p (array ts h e f) = no_integer s p h none_91 ∙ sym (ap integer_of e)
integer_shape s p (object ms h e f) = no_integer s p h none_123 ∙ sym (ap integer_of e)
integer_shape s p (text u h e f) = no_integer s p h none_34 ∙ sym (ap integer_of e)
integer_shape s p (yes_word h e) = no_integer s p h none_116 ∙ sym (ap integer_of e)
integer_shape s p (no_word h e) = no_integer s p h none_102 ∙ sym (ap integer_of e)
integer_shape s p (null_is h e) = no_integer s p h none_110 ∙ sym (ap integer_of e)
integer_shape s p (figure cs h e f) = read_number s p f ∙ sym (ap integer_of e)

pub integer_is : {s : Text} {p : ℕ} {t : Tree} → Stands s p t → integer_at s p ≡ integer_of t
integer_is {s} {p} h = integer_shape s p (shape_of h)

-- ---- strings: what stands is a text that was read, or no string

pub data Worded (s : Text) (p : ℕ) (t : Tree) (n : ℕ) : Type 0 where
  text_stands : (u : Text) → t ≡ str u → string s p ≡ done u n → Worded s p t n
  no_text_stands : Stops (string s p) → length_of t ≡ 0 → ((u : Text) → is_string t u ≡ false) → ((u : Tree) → same_strings t u ≡ false) → Worded s p t n

-- at another byte no string is read
none_at : (s : Text) (p : ℕ) {b : ℕ} → peek s p ≡ b → eqb b 34 ≡ false → Stops (string s p)
none_at s p {b} h f = record { never = λ u n e. no_text s p (λ g. eqb-false b 34 f (sym h ∙ g)) e }

other_kind : {s : Text} {p n : ℕ} {t u : Tree} → t ≡ u → Stops (string s p) → length_of u ≡ 0 → ((x : Text) → is_string u x ≡ false) → ((x : Tree) → same_strings u x ≡ false) → Worded s p t n
other_kind e h a b c = no_text_stands h (ap length_of e ∙ a) (λ x. ap (λ (y : Tree). is_string y x) e ∙ b x) (λ x. ap (λ (y : Tree). same_strings y x) e ∙ c x)

worded : (s : Text) (p : ℕ) {l n : ℕ} {t : Tree} → Shape s p l t n → Worded s p t n
unfolding length_of is_string same_strings
worded s p (array ts h e f) = other_kind e (none_at s p h refl) refl (λ _. refl) (λ _. refl)
worded s p (object ms h e f) = other_kind e (none_at s p h refl) refl (λ _. refl) (λ _. refl)
worded s p (text u h e f) = text_stands u e f
worded s p (yes_word h e) = other_kind e (none_at s p h refl) refl (λ _. refl) (λ _. refl)
worded s p (no_word h e) = other_kind e (none_at s p h refl) refl (λ _. refl) (λ _. refl)
worded s p (null_is h e) = other_kind e (none_at s p h refl) refl (λ _. refl) (λ _. refl)
worded s p (figure cs h e f) =
    other_kind e (record { never = λ u n g. no_text s p (λ q. eqb-false (peek s p) 34 (other_byte (peek s p) 34 h none_34) q) g }) refl (λ _. refl) (λ _. refl)

pub worded_of : {s : Text} {p : ℕ} {t : Tree} (h : Stands s p t) → Worded s p t h.until
worded_of {s} {p} h = worded s p (shape_of h)

length_worded : (s : Text) (p : ℕ) {n : ℕ} {t : Tree} → Worded s p t n → length_at s p ≡ length_of t
unfolding length_at length_in length_of
length_worded s p (text_stands u e f) = ap length_in f ∙ sym (ap length_of e)
length_worded s p (no_text_stands h a b c) = length_in_stops _ h ∙ sym a

pub length_is : {s : Text} {p : ℕ} {t : Tree} → Stands s p t → length_at s p ≡ length_of t
length_is {s} {p} h = length_worded s p (worded_of h)

same_worded : (s : Text) (p : ℕ) {n : ℕ} {t : Tree} (u : Text) → Worded s p t n → same_as s p u ≡ is_string t u
unfolding same_as is_text is_string
same_worded s p u (text_stands x e f) = ap (λ (o : Out Text). is_text o u) f ∙ sym (ap (λ (y : Tree). is_string y u) e)
same_worded s p u (no_text_stands h a b c) = text_stops _ u h ∙ sym (b u)

pub same_is : {s : Text} {p : ℕ} {t : Tree} → Stands s p t → (u : Text) → same_as s p u ≡ is_string t u
same_is {s} {p} h u = same_worded s p u (worded_of h)

both_worded : (s : Text) (p q : ℕ) {n : ℕ} {t u : Tree} → Worded s p t n → Stands s q u → same_texts s p q ≡ same_strings t u
unfolding same_texts both_text same_strings same_as
both_worded s p q {n} {t} {u} (text_stands x e f) h = ap (λ (o : Out Text). both_text o (string s q)) f ∙ same_is h x ∙ sym (ap (λ (y : Tree). same_strings y u) e)
both_worded s p q {n} {t} {u} (no_text_stands h a b c) g = left_stops _ _ h ∙ sym (c u)

pub both_are : {s : Text} {p q : ℕ} {t u : Tree} → Stands s p t → Stands s q u → same_texts s p q ≡ same_strings t u
both_are {s} {p} {q} h g = both_worded s p q (worded_of h) g

-- a string that stands is read
str_inj : {t u : Text} → str t ≡ str u → t ≡ u
str_inj e = cc

text_worded : (s : Text) (p : ℕ) {n : ℕ} {t : Tree} {u : Text} → t ≡ str u → Worded s p t n → string s p ≡ done u n
unfolding is_string
text_worded s p {n} e (text_stands x f g) = g ∙ ap (λ (y : Text). done y n) (str_inj (sym f ∙ e))
text_worded s p {n} {t} {u} e (no_text_stands h a b c) = absurd (no (sym (same_self u) ∙ ap (λ (y : Tree). is_string y u) (sym e) ∙ b u))
  where
    no : true ≡ false → ⊥
    no g = let z : ◌≡◌ {A = ℕ} 0 1 = cc in omega arith

pub text_is : {s : Text} {p : ℕ} {t : Text} (h : Stands s p (str t)) → string s p ≡ done t h.until
text_is {s} {p} h = text_worded s p refl (worded_of h)

-- a number that stands is read
num_inj : {t u : Text} → num t ≡ num u → t ≡ u
num_inj e = cc

figure_shape : (s : Text) (p : ℕ) {l n : ℕ} {t : Tree} {cs : Text} → t ≡ num cs → Shape s p l t n → number s p ≡ done cs n
figure_shape s p e (array ts h f g) = let z : ◌≡◌ {A = ℕ} 0 1 = cc in absurd (omega arith)
figure_shape s p e (object ms h f g) = let z : ◌≡◌ {A = ℕ} 0 1 = cc in absurd (omega arith)
figure_shape s p e (text u h f g) = let z : ◌≡◌ {A = ℕ} 0 1 = cc in absurd (omega arith)
figure_shape s p e (yes_word h f) = let z : ◌≡◌ {A = ℕ} 0 1 = cc in absurd (omega arith)
figure_shape s p e (no_word h f) = let z : ◌≡◌ {A = ℕ} 0 1 = cc in absurd (omega arith)
figure_shape s p e (null_is h f) = let z : ◌≡◌ {A = ℕ} 0 1 = cc in absurd (omega arith)
figure_shape s p {l} {n} e (figure cs h f g) = g ∙ ap (λ (y : Text). done y n) (num_inj (sym f ∙ e))

pub figure_is : {s : Text} {p : ℕ} {cs : Text} (h : Stands s p (num cs)) → number s p ≡ done cs h.until
figure_is {s} {p} h = figure_shape s p refl (shape_of h)
