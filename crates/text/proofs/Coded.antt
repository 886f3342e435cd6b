-- The steps of the readers in the code's own values. Assumes nothing.
use mathlib.Core.Path.{◌≡◌, refl, sym, ap, ◌∙◌}
use mathlib.Core.Bool.{Bool, true, false, ◌||◌}
use Prim.Native.Nat.{ℕ, ◌+◌, ◌≤◌, ◌<◌}
use native.Mathlib.Numerals.{add-one}
use lib.ListN.{length, get_or, drop, drop_of_length-le}
use lib.Seq.{drop-cons}
use lib.Dec.{eqb, ltb, T}
use borrow.Author.Tests.{eq-eqb, ne_eqb, eqb-true}
use Rattle.text.specs.Reading.{Text, Out, done, bad, deep, next, pick, peek, run, word, scan}
use Rattle.text.specs.Class.{class_of, digit}
use Rattle.text.specs.Strings.{character, classed, code_of}
use Rattle.text.specs.Numbers.{digits, rest, written, number, int, minus}
use Rattle.text.specs.declared.Scan.{Scan}
use Rattle.text.specs.declared.Scan.TheVariants.{Done, Bad, Deep}
use Rattle.text.specs.declared.Code.{Code}
use Rattle.text.specs.declared.Code.TheVariants.{Of, No}
use Rattle.text.specs.laws.Peek.{found_in, run_stop, run_end, digit_end}

-- what reading says goes on as it was said
pub code_of_lem : (o : Out ℕ) (f : ℕ → ℕ → Out ℕ) {v j : ℕ} {r : Code} → code_of o ≡ Of v j → r ≡ code_of (f v j) → r ≡ code_of (next o f)
unfolding code_of next
code_of_lem (done w k) f {v} {j} e h =
    let a : w ≡ v = cc in
    let b : k ≡ j = cc in
    rw (a, b) h
code_of_lem (bad k) f e h = cc
code_of_lem (deep k) f e h = cc

pub code_no : (o : Out ℕ) (f : ℕ → ℕ → Out ℕ) {p : ℕ} → code_of o ≡ No p → No p ≡ code_of (next o f)
unfolding code_of next
code_no (done w k) f e = cc
code_no (bad k) f e = sym e
code_no (deep k) f e = sym e

module _ {A B : Type 0} where
  pub scan_done : (o : Out A) (f : A → ℕ → Out B) {j : ℕ} {r : Scan} → scan o ≡ Done j → ((a : A) → r ≡ scan (f a j)) → r ≡ scan (next o f)
  unfolding next scan
  scan_done (done a i) f {j} e h =
      let ij : i ≡ j = cc in
      rw ij (h a)
  scan_done (bad i) f e h = cc
  scan_done (deep i) f e h = cc

  pub scan_bad : (o : Out A) (f : A → ℕ → Out B) {p : ℕ} → scan o ≡ Bad p → Bad p ≡ scan (next o f)
  unfolding next scan
  scan_bad (done a j) f e = cc
  scan_bad (bad j) f e = sym e
  scan_bad (deep j) f e = sym e

  pub scan_deep : (o : Out A) (f : A → ℕ → Out B) {p : ℕ} → scan o ≡ Deep p → Deep p ≡ scan (next o f)
  unfolding next scan
  scan_deep (done a j) f e = cc
  scan_deep (bad j) f e = sym e
  scan_deep (deep j) f e = sym e

-- the digits at i end where they start: there are none
pub no_digits : (s : Text) (i : ℕ) {r : ℕ} → r ≡ run digit s i → r ≡ i → Bad i ≡ scan (digits s i)
unfolding digits pick scan
no_digits s i e h = rw (ap (λ (k : ℕ). digit (peek s k)) (sym h ∙ e) ∙ run_end digit digit_end s i)

pub some_digits : (s : Text) (i : ℕ) {r : ℕ} → r ≡ run digit s i → (r ≡ i → ⊥) → Done r ≡ scan (digits s i)
unfolding digits pick scan
some_digits s i {r} e h = go (digit (peek s i)) refl
  where
    go : (b : Bool) → digit (peek s i) ≡ b → Done r ≡ scan (digits s i)
    go true q = rw q (ap Done e)
    go false q = absurd (h (e ∙ run_stop digit digit_end s i q))

-- the characters of a number are where the number is
written_scan : (o : Out (Unit {0})) (s : Text) (i : ℕ) → scan o ≡ scan (next o (written s i))
unfolding next scan written
written_scan (done a j) s i = refl
written_scan (bad j) s i = refl
written_scan (deep j) s i = refl

pub as_number : (s : Text) (i : ℕ) {m : ℕ} {r : Scan} → m ≡ minus s i → r ≡ scan (next (int s m) (rest s)) → r ≡ scan (number s i)
unfolding number
as_number s i e h = h ∙ ap (λ (k : ℕ). scan (next (int s k) (rest s))) e ∙ written_scan _ s i

-- the bytes of w from its place k on
module _ (w s : Text) where
  pub word_step : (k i : ℕ) → k < length w → peek s i ≡ get_or w k 0 → word (drop k w) s i ≡ word (drop (k + 1) w) s (i + 1)
  unfolding word pick
  word_step k i l e = rw (drop-cons w k 0 l, eq-eqb _ _ e, add-one k)

  pub word_bad : (k i : ℕ) → k < length w → (peek s i ≡ get_or w k 0 → ⊥) → word (drop k w) s i ≡ bad i
  unfolding word pick
  word_bad k i l e = rw (drop-cons w k 0 l, ne_eqb _ _ e)

  pub word_done : (k i : ℕ) → length w ≤ k → word (drop k w) s i ≡ done tt i
  unfolding word
  word_done k i l = rw (drop_of_length-le w l)

-- one of two bytes stands within the text
pub either_in : (s : Text) (i x y : ℕ) {b : ℕ} {q : Bool} → b ≡ peek s i → q ≡ (eqb b x || eqb b y) → q ≡ true → T (ltb x 256) → T (ltb y 256) → i < length s
either_in s i x y {b} e f g hx hy = go (eqb b x) refl (sym f ∙ g)
  where
    go : (t : Bool) → eqb b x ≡ t → (t || eqb b y) ≡ true → i < length s
    go true h r = found_in s i e (eqb-true b x h) hx
    go false h r = found_in s i e (eqb-true b y r) hy

-- a character by the class k of its first byte
pub by_class : (s : Text) (i : ℕ) {k : ℕ} {r : Code} → k ≡ class_of (peek s i) → r ≡ code_of (classed k s i) → r ≡ code_of (character s i)
unfolding character
by_class s i e h = h ∙ ap (λ (k : ℕ). code_of (classed k s i)) e
