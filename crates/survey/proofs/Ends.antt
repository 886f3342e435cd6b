-- Where a string ends, passed one plain byte at a time, and where a member's name ends with its colon. Assumes nothing.
use mathlib.Core.Path.{◌≡◌, refl, sym, ap, ◌∙◌}
use Prim.Native.Nat.{ℕ, ◌+◌}
use borrow.Author.Tests.{eq-eqb}
use Rattle.text.specs.Reading.{Text, Out, done, bad, deep, next, peek, scan}
use Rattle.text.specs.Class.{skip}
use Rattle.text.specs.Strings.{before, string}
use Rattle.text.specs.declared.Scan.TheVariants.{Done}
use Rattle.text.specs.laws.Readers.{next_was, pick_true}
use Rattle.grammar.specs.Document.{colon, name}
use Rattle.values.specs.Strings.{rest}
use Rattle.values.specs.laws.Outs.{scan_done}
use Rattle.values.specs.laws.Rest.{rest_close, rest_char, string_is}
use Rattle.values.specs.laws.Ordinary.{Ordinary, reads_itself}

-- a character more before what is read, and it ends as it did
before_scan : (o : Out Text) (v : ℕ) → scan (next o (before v)) ≡ scan o
unfolding next scan before
before_scan (done a j) v = refl
before_scan (bad j) v = refl
before_scan (deep j) v = refl

-- the opening quote: what is left stands behind it
pub string_opens : (s : Text) (p : ℕ) {b : ℕ} → b ≡ peek s p → b ≡ 34 → scan (string s p) ≡ scan (rest s (p + 1))
string_opens s p e h = ap scan (string_is s p (sym e ∙ h))

-- b is the first byte that is left
module _ (s : Text) (i : ℕ) {b : ℕ} (e : b ≡ peek s i) where
  -- the closing quote
  pub rest_closes : b ≡ 34 → scan (rest s i) ≡ Done (i + 1)
  unfolding scan
  rest_closes h = ap scan (rest_close s i (sym e ∙ h))

  -- a plain byte
  pub rest_onward : (b ≡ 34 → ⊥) → Ordinary b → scan (rest s i) ≡ scan (rest s (i + 1))
  rest_onward n o = ap scan (rest_char s i (λ q. n (e ∙ q)) (reads_itself s i e o n)) ∙ before_scan (rest s (i + 1)) b

-- the name's string ends at j, and its colon stands at k
pub name_ends : (s : Text) (i : ℕ) {j : ℕ} → scan (string s i) ≡ Done j → {k : ℕ} → k ≡ skip s j → {b : ℕ} → b ≡ peek s k → b ≡ 58 → scan (name s i) ≡ Done (k + 1)
unfolding name colon scan
name_ends s i {j} e {k} ek {b} eb h =
    let w = scan_done (string s i) e in
    let q : peek s (skip s j) ≡ 58 = ap (peek s) (sym ek) ∙ sym eb ∙ h in
    ap scan (next_was _ w.1 ∙ pick_true _ _ (eq-eqb _ _ q)) ∙ ap (λ (x : ℕ). Done (x + 1)) (sym ek)
