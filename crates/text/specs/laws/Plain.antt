-- The bytes that are a character of a string by themselves: the end is none, and where a byte is one, the run of them goes on. Assumes nothing.
use Rattle.std.specs.Prelude.{◌≡◌, Bool, true, false, ◌&&◌, length, get_or, leb, ltb}
use Rattle.std.proofs.Math.Path.{refl, ap}
use Rattle.std.proofs.Common.{sym, ◌∙◌, zero-add}
use Prim.Native.Nat.{ℕ, zero, suc, ◌+◌, ◌*◌, ◌≤◌, ◌<◌}
use native.Mathlib.Omega.{arith}
use Rattle.std.proofs.Math.Decide.{dec_lt}
use Rattle.std.specs.Int.Count.{count_trailing_zeros}
use Rattle.text.specs.Reading.{Text, pick, peek, run}
use Rattle.text.specs.Class.{class_of}
use Rattle.text.specs.laws.Peek.{peek_at, run_step, run_stop, run_past, run_ge, run_le}
use Rattle.text.specs.laws.Marks.{marks, First, first_no}

-- the classes 4 to 17
abbrev pub own : ℕ → Bool
own b = leb 4 (class_of b) && ltb (class_of b) 18

-- past such bytes from i on
unfoldable pub past_own : Text → ℕ → ℕ
past_own s i = run own s i

own_end : own 256 ≡ false
unfolding class_of pick
own_end = refl

module _ (s : Text) (i : ℕ) where
  module _ (l : i < length s) {r : Bool} (e : r ≡ own (get_or s i 0)) where
    here : own (peek s i) ≡ r
    here = ap own (sym (peek_at s i l)) ∙ sym e

    pub own_step : r ≡ true → past_own s i ≡ past_own s (i + 1)
    unfolding past_own
    own_step h = run_step own own_end s i (here ∙ h)

    pub own_stop : r ≡ false → past_own s i ≡ i
    unfolding past_own
    own_stop h = run_stop own own_end s i (here ∙ h)

  pub own_past : length s ≤ i → past_own s i ≡ i
  unfolding past_own
  own_past h = run_past own own_end s i h

  pub own_ge : i ≤ past_own s i
  unfolding past_own
  own_ge = run_ge own s i

  pub own_le : i ≤ length s → past_own s i ≤ length s
  unfolding past_own
  own_le h = run_le own own_end s i h

-- a run that was followed from a to r ends at r, where it stops there or the text does
pub own_over : (s : Text) (a : ℕ) {r : ℕ} → past_own s a ≡ past_own s r → (r < length s → past_own s r ≡ r) → r ≡ past_own s a
own_over s a {r} e f = go (dec_lt r (length s))
  where
    go : Dec (r < length s) → r ≡ past_own s a
    go (yes l) = sym (e ∙ f l)
    go (no n) = sym (e ∙ own_past s r (omega arith))

-- the byte j places after a position is plain
unfoldable pub own_at : Text → ℕ → ℕ → Bool
own_at s at j = own (get_or s (at + j) 0)

-- of n bytes at a position r are plain before one that is not, or all: the run of plain bytes goes on past them, and ends there if there are fewer than n
pub record Near (s : Text) (at n r : ℕ) : Type 0 where
  pub within : r ≤ n
  pub ahead : past_own s at ≡ past_own s (at + r)
  pub stops : r < n → past_own s (at + r) ≡ at + r

module _ (s : Text) (at : ℕ) where
  through : (r : ℕ) → at + r ≤ length s → ((j : ℕ) → j < r → own_at s at j ≡ true) → past_own s at ≡ past_own s (at + r)
  unfolding own_at
  through zero h f = ap (past_own s) (omega arith)
  through (suc r) h f =
      let q : at + r + 1 ≡ at + suc r = omega arith in
      through r (omega arith) (λ j l. f j (omega arith)) ∙ own_step s (at + r) (omega arith) refl (f r (omega arith)) ∙ ap (past_own s) q

  pub near_first : {n r : ℕ} → at + n ≤ length s → First (own_at s at) 0 n r → Near s at n r
  unfolding own_at
  near_first {n} {r} h f =
      let w : r ≤ n = f.within in
      record {
        within = w;
        ahead = through r (omega arith) (λ j l. ap (own_at s at) (sym (zero-add j)) ∙ f.yes j l);
        stops = λ l. own_stop s (at + r) (omega arith) refl (ap (own_at s at) (sym (zero-add r)) ∙ f.no l);
      }

  pub near_marks : at + 8 ≤ length s → {m r : ℕ} → m ≡ 3 * marks (own_at s at) 0 8 → r ≡ count_trailing_zeros 16 m → Near s at 8 r
  near_marks h {m} {r} e f =
      let q : r ≡ count_trailing_zeros 16 (3 * marks (own_at s at) 0 8) = f ∙ ap (count_trailing_zeros 16) e in
      near_first h (rw q (first_no (own_at s at) 8 16 0 (omega arith)))

  pub near_all : {n r : ℕ} → Near s at n r → n ≤ r → past_own s at ≡ past_own s (at + n)
  near_all {n} {r} f l = let w : r ≤ n = f.within in f.ahead ∙ ap (λ (k : ℕ). past_own s (at + k)) (omega arith)

-- of the i bytes from a position on n are plain, counted one by one; where all are, the run of plain bytes goes on past them
pub record Counted (s : Text) (at n i : ℕ) : Type 0 where
  pub few : n ≤ i
  pub all : n ≡ i → past_own s at ≡ past_own s (at + i)

module _ (s : Text) (at : ℕ) where
  pub counted_none : Counted s at 0 0
  counted_none = record { few = omega arith; all = λ _. ap (past_own s) (omega arith) }

  pub counted_more : {n i w : ℕ} → Counted s at n i → at + i < length s → (w ≤ 1) × (w ≡ 1 → own (get_or s (at + i) 0) ≡ true) → Counted s at (n + w) (i + 1)
  counted_more {n} {i} {w} c l p =
      let f : n ≤ i = c.few in
      let h : w ≤ 1 = p.0 in
      let q : (at + i) + 1 ≡ at + (i + 1) = omega arith in
      record {
        few = omega arith;
        all = λ (e : n + w ≡ i + 1).
            let a : n ≡ i = omega arith in
            let b : w ≡ 1 = omega arith in
            c.all a ∙ own_step s (at + i) l refl (p.1 b) ∙ ap (past_own s) q;
      }

  pub counted_all : {n i m : ℕ} → Counted s at n i → i ≡ m → n ≡ m → past_own s at ≡ past_own s (at + m)
  counted_all {n} {i} {m} c e f = c.all (f ∙ sym e) ∙ ap (λ (k : ℕ). past_own s (at + k)) e
