-- What stands at a position, by its first byte. Assumes nothing.
use Rattle.std.specs.Prelude.{◌≡◌, refl, Bool, true, false, ◌||◌, List, ℕ, suc, ◌+◌, eqb}
use Rattle.std.proofs.Common.{sym, ap, ◌∙◌, arith, eqb-true}
use Rattle.text.specs.Reading.{Text, Out, done, next, pick, peek}
use Rattle.text.specs.Class.{class_of, digit}
use Rattle.text.specs.Strings.{string}
use Rattle.text.specs.Numbers.{digits, minus, int, rest, written, number}
use Rattle.text.specs.laws.Readers.{next_inv, pick_case, bad_done, done_of, done_at}
use Rattle.text.specs.laws.Strings.{string_none}
use Rattle.grammar.specs.Tree.{Tree, null, bool, num, str, arr, obj, trees, members}
use Rattle.grammar.specs.Document.{text_tree, number_tree, literal_tree, array_tree, object_tree, scalar, many, member, either, value}

-- the value t that ends at n, by the byte at p
pub data Shape (s : Text) (p l : ℕ) (t : Tree) (n : ℕ) : Type 0 where
  array : (ts : List Tree) → peek s p ≡ 91 → t ≡ arr (trees ts) → many (value l) 93 s (p + 1) ≡ done ts n → Shape s p l t n
  object : (ms : List (Text × Tree)) → peek s p ≡ 123 → t ≡ obj (members ms) → many (member (value l)) 125 s (p + 1) ≡ done ms n → Shape s p l t n
  text : (u : Text) → peek s p ≡ 34 → t ≡ str u → string s p ≡ done u n → Shape s p l t n
  yes_word : peek s p ≡ 116 → t ≡ bool true → Shape s p l t n
  no_word : peek s p ≡ 102 → t ≡ bool false → Shape s p l t n
  null_is : peek s p ≡ 110 → t ≡ null → Shape s p l t n
  figure : (cs : Text) → (eqb (peek s p) 45 || digit (peek s p)) ≡ true → t ≡ num cs → number s p ≡ done cs n → Shape s p l t n

or_left : (a b : Bool) → a ≡ true → (a || b) ≡ true
or_left true b e = refl
or_left false b e = cc

or_right : (a b : Bool) → b ≡ true → (a || b) ≡ true
or_right true b e = refl
or_right false b e = e

digits_first : (s : Text) (i : ℕ) {u : Unit {0}} {n : ℕ} → digits s i ≡ done u n → digit (peek s i) ≡ true
unfolding digits
digits_first s i e = pick_case _ _ _ e (λ h _. h) (λ _ f. absurd (bad_done f))

zero_digit : digit 48 ≡ true
unfolding digit class_of pick
zero_digit = refl

int_first : (s : Text) (i : ℕ) {u : Unit {0}} {n : ℕ} → int s i ≡ done u n → digit (peek s i) ≡ true
unfolding int
int_first s i e = pick_case _ _ _ e (λ h _. ap digit (eqb-true (peek s i) 48 h) ∙ zero_digit) (λ _ f. digits_first s i f)

-- a number begins with a minus or a digit
pub number_first : (s : Text) (p : ℕ) {cs : Text} {n : ℕ} → number s p ≡ done cs n → (eqb (peek s p) 45 || digit (peek s p)) ≡ true
unfolding number minus pick
number_first s p {cs} {n} e =
    let w = next_inv (next (int s (minus s p)) (rest s)) (written s p) e in
    let x = next_inv (int s (minus s p)) (rest s) w.2 in
    go (eqb (peek s p) 45) refl x.2
  where
    go : (b : Bool) → eqb (peek s p) 45 ≡ b → {u : Unit {0}} {j : ℕ} → int s (pick b (p + 1) p) ≡ done u j → (eqb (peek s p) 45 || digit (peek s p)) ≡ true
    go true h f = or_left (eqb (peek s p) 45) (digit (peek s p)) h
    go false h f = or_right (eqb (peek s p) 45) (digit (peek s p)) (int_first s p f)

word_tree : (t : Tree) (o : Out (Unit {0})) {u : Tree} {n : ℕ} → next o (literal_tree t) ≡ done u n → u ≡ t
unfolding literal_tree
word_tree t o e = let w = next_inv o (literal_tree t) e in sym (done_of w.3)

pub shape : (l : ℕ) (s : Text) (p : ℕ) {t : Tree} {n : ℕ} → value (suc l) s p ≡ done t n → Shape s p l t n
unfolding value either scalar array_tree object_tree text_tree number_tree
shape l s p {t} {n} e =
    pick_case _ _ _ e
    (λ h f.
    let w = next_inv (many (value l) 93 s (p + 1)) array_tree f in
    array w.0 (eqb-true (peek s p) 91 h) (sym (done_of w.3)) (w.2 ∙ ap (done w.0) (done_at w.3)))
    (λ _ e1. pick_case _ _ _ e1
    (λ h f.
    let w = next_inv (many (member (value l)) 125 s (p + 1)) object_tree f in
    object w.0 (eqb-true (peek s p) 123 h) (sym (done_of w.3)) (w.2 ∙ ap (done w.0) (done_at w.3)))
    (λ _ e2. pick_case _ _ _ e2
    (λ h f.
    let w = next_inv (string s p) text_tree f in
    text w.0 (eqb-true (peek s p) 34 h) (sym (done_of w.3)) (w.2 ∙ ap (done w.0) (done_at w.3)))
    (λ _ e3. pick_case _ _ _ e3
    (λ h f. yes_word (eqb-true (peek s p) 116 h) (word_tree (bool true) _ f))
    (λ _ e4. pick_case _ _ _ e4
    (λ h f. no_word (eqb-true (peek s p) 102 h) (word_tree (bool false) _ f))
    (λ _ e5. pick_case _ _ _ e5
    (λ h f. null_is (eqb-true (peek s p) 110 h) (word_tree null _ f))
    (λ _ f.
    let w = next_inv (number s p) number_tree f in
    figure w.0 (number_first s p w.2) (sym (done_of w.3)) (w.2 ∙ ap (done w.0) (done_at w.3))))))))

-- a byte that begins no number begins none
pub no_number : (s : Text) (p : ℕ) {b : ℕ} → peek s p ≡ b → (eqb b 45 || digit b) ≡ false → {cs : Text} {n : ℕ} → number s p ≡ done cs n → ⊥
no_number s p e f g =
    let h : false ≡ true = sym f ∙ ap (λ (b : ℕ). eqb b 45 || digit b) (sym e) ∙ number_first s p g in
    let z : ◌≡◌ {A = ℕ} 0 1 = cc in
    omega arith

-- a string begins with a quote
pub no_text : (s : Text) (p : ℕ) → (peek s p ≡ 34 → ⊥) → {t : Text} {n : ℕ} → string s p ≡ done t n → ⊥
no_text s p h e = bad_done (sym (string_none s p h) ∙ e)
