-- Laws of `peek`, `run` and `skip`: a byte stands within the text, the end is of no kind. Assumes nothing.
use Rattle.std.proofs.Math.Path.{◌≡◌, refl, sym, ap}
use Rattle.std.proofs.Common.{◌∙◌, arith, add-one, add-zero, add-suc, zero-add, get_or-drop, ltb→lt}
use Rattle.std.specs.Prelude.{Bool, get_or, drop, ltb, T}
use Rattle.std.proofs.Math.Bool.{true, false}
use mathlib.Core.List.{[], ◌∷◌}
use Prim.Native.Nat.{ℕ, zero, suc, ◌+◌, ◌≤◌, ◌<◌, zero-le, suc-le-suc}
use Rattle.std.proofs.Math.Nat.{suc-add}
use Rattle.std.proofs.Math.ListN.{length, length-drop, get_or-eq_default}
use Rattle.std.proofs.Math.Seq.{drop-cons, drop-nil}
use Rattle.text.specs.Reading.{Text, pick, peek, count, run}
use Rattle.text.specs.Class.{class_of, whitespace, skip, digit}

-- where a byte is, the text is
pub peek_in : (s : Text) (i : ℕ) → peek s i < 256 → i < length s
unfolding peek
peek_in [] i h = omega arith
peek_in (x ∷ s) zero h = suc-le-suc zero-le
peek_in (x ∷ s) (suc i) h = suc-le-suc (peek_in s i h)

-- the same of a byte r that was read there and found to be b
pub found_in : (s : Text) (i : ℕ) {r b : ℕ} → r ≡ peek s i → r ≡ b → T (ltb b 256) → i < length s
found_in s i {r} {b} e f h = peek_in s i (omega (arith, ltb→lt b 256 h))

pub found_lt : (s : Text) (i : ℕ) {r b : ℕ} → r ≡ peek s i → r ≡ b → b < 256 → i < length s
found_lt s i e f h = peek_in s i (omega arith)

-- a byte of the text, whatever is said past the end
pub peek_at : (s : Text) (i : ℕ) → i < length s → get_or s i 0 ≡ peek s i
unfolding peek
peek_at [] i h = omega arith
peek_at (x ∷ s) zero h = refl
peek_at (x ∷ s) (suc i) h = peek_at s i (omega arith)

pub peek_end : (s : Text) (i : ℕ) → length s ≤ i → peek s i ≡ 256
unfolding peek
peek_end s i h = get_or-eq_default s 256 h

-- the bytes of a kind that stand together. The end is of no kind
module _ (kind : ℕ → Bool) (end : kind 256 ≡ false) where
  pub kind_in : (s : Text) (i : ℕ) → kind (peek s i) ≡ true → i < length s
  unfolding peek
  kind_in [] i h = let z : ◌≡◌ {A = ℕ} 0 1 = cc in absurd (omega arith)
  kind_in (x ∷ s) zero h = suc-le-suc zero-le
  kind_in (x ∷ s) (suc i) h = suc-le-suc (kind_in s i h)

  pub run_step : (s : Text) (i : ℕ) → kind (peek s i) ≡ true → run kind s i ≡ run kind s (i + 1)
  unfolding run count peek pick
  run_step s i h =
      let l : i < length s = kind_in s i h in
      rw (add-one, drop-cons s i 256, h) (add-suc i _ ∙ sym (suc-add i _))

  pub run_stop : (s : Text) (i : ℕ) → kind (peek s i) ≡ false → run kind s i ≡ i
  unfolding run count peek pick
  run_stop [] i h = rw drop-nil (add-zero i)
  run_stop (b ∷ s) zero h = rw h (zero-add 0)
  run_stop (b ∷ s) (suc i) h = suc-add i _ ∙ ap suc (run_stop s i h)

  count_le : (s : Text) → count kind s ≤ length s
  unfolding count pick
  count_le [] = zero-le
  count_le (b ∷ s) = go (kind b) (count_le s)
    where
      go : (t : Bool) → count kind s ≤ length s → pick t (suc (count kind s)) 0 ≤ suc (length s)
      go true h = suc-le-suc h
      go false h = zero-le

  pub run_le : (s : Text) (i : ℕ) → i ≤ length s → run kind s i ≤ length s
  unfolding run
  run_le s i h = omega (arith, count_le (drop i s), length-drop i s)

  count_end : (s : Text) → kind (peek s (count kind s)) ≡ false
  unfolding peek count pick
  count_end [] = end
  count_end (b ∷ s) = go (kind b) refl (count_end s)
    where
      go : (t : Bool) → kind b ≡ t → kind (peek s (count kind s)) ≡ false → kind (get_or (b ∷ s) (pick t (suc (count kind s)) 0) 256) ≡ false
      go true e f = f
      go false e f = e

  pub run_end : (s : Text) (i : ℕ) → kind (peek s (run kind s i)) ≡ false
  unfolding peek run
  run_end s i = ap kind (sym (get_or-drop i s (count kind (drop i s)) 256)) ∙ count_end (drop i s)

  -- past the end nothing is of the kind
  pub run_past : (s : Text) (i : ℕ) → length s ≤ i → run kind s i ≡ i
  run_past s i h = run_stop s i (ap kind (peek_end s i h) ∙ end)

pub run_ge : (kind : ℕ → Bool) (s : Text) (i : ℕ) → i ≤ run kind s i
unfolding run
run_ge kind s i = omega arith

-- the end is neither whitespace nor a digit
pub white_end : whitespace 256 ≡ false
unfolding whitespace class_of pick
white_end = refl

pub digit_end : digit 256 ≡ false
unfolding digit class_of pick
digit_end = refl

-- the same laws of whitespace
pub skip_step : (s : Text) (i : ℕ) → whitespace (peek s i) ≡ true → skip s i ≡ skip s (i + 1)
unfolding skip
skip_step s i h = run_step whitespace white_end s i h

pub skip_stop : (s : Text) (i : ℕ) → whitespace (peek s i) ≡ false → skip s i ≡ i
unfolding skip
skip_stop s i h = run_stop whitespace white_end s i h

pub skip_past : (s : Text) (i : ℕ) → length s ≤ i → skip s i ≡ i
unfolding skip
skip_past s i h = run_past whitespace white_end s i h

pub skip_ge : (s : Text) (i : ℕ) → i ≤ skip s i
unfolding skip
skip_ge s i = run_ge whitespace s i

pub skip_le : (s : Text) (i : ℕ) → i ≤ length s → skip s i ≤ length s
unfolding skip
skip_le s i h = run_le whitespace white_end s i h

pub skip_end : (s : Text) (i : ℕ) → whitespace (peek s (skip s i)) ≡ false
unfolding skip
skip_end s i = run_end whitespace white_end s i
