-- All lines put into a memory, line by line: a line taken out of the memory that holds it, the lines of the events one after another, and all of them
-- put into zeros. Assumes nothing.
use Rattle.std.specs.Prelude.{◌≡◌, refl, Bool, true, false, leb, ℤ, pos, take, get_or}
use Rattle.std.proofs.Math.Path.{sym, ap}
use Rattle.std.proofs.Common.{subst, ◌∙◌, length-append, le-leb}
use mathlib.Core.List.{List, [], ◌∷◌, ◌++◌}
use Prim.Native.Nat.{ℕ, zero, suc, ◌+◌, ◌-◌, ◌*◌, ◌/◌, ◌≤◌, ◌<◌}
use native.Mathlib.Omega.{arith}
use Rattle.std.proofs.Math.ListN.{length, replicate}
use Rattle.std.proofs.lemmas.Bool.{lt-leb}
use Rattle.text.specs.laws.Readers.{pick_true, pick_false}
use Rattle.merged.specs.Answers.{Answer}
use Rattle.merged.specs.Merged.{padded}
use Rattle.written.specs.Written.{first_line, event_line, events_of, event_lines, lines_of, lines_in}
use Rattle.written.specs.laws.Put.{Put, put_none, put_more, put_same, put_ends, put_length, put_padded, zeros_long}
use Rattle.written.proofs.laws.Room.{padded_taken}

-- ---- a line in a memory of 96 bytes

module _ {r : ℕ} (w : List ℕ) {line : List ℕ} (e : (r ≡ length w) × (line ≡ padded 0 96 w)) where
  pub line_taken : take r line ≡ w
  line_taken = ap (take r) e.1 ∙ (ap (λ (n : ℕ). take n (padded 0 96 w)) e.0 ∙ padded_taken 96 w)

  pub line_within : r ≤ length line
  line_within = omega (arith, e.0, ap length e.1, length-append w (replicate (96 - length w) 0))

-- ---- the lines of the events

module _ (times : List ℤ) (kinds steps : List ℕ) where
  -- the lines of the first k of n events are put from a place on, and end at another
  pub record Told (old : List ℕ) (at n k end : ℕ) (new : List ℕ) : Type 0 where
    pub upto : k ≤ n
    pub within : end ≤ at + 96 * k
    pub is : Put old at (event_lines k times kinds steps) end new

module _ {times : List ℤ} {kinds steps : List ℕ} where
  pub told_none : (old : List ℕ) (at n : ℕ) → at ≤ length old → Told times kinds steps old at n 0 at old
  unfolding event_lines
  told_none old at n h = record { upto = omega arith; within = omega arith; is = put_ends (omega arith) (put_none old at h) }

  pub told_next : {old mid new : List ℕ} {at n k end r : ℕ} {time : ℤ} {kind step : ℕ} → Told times kinds steps old at n k end mid → k < n → time ≡ get_or times k (pos 0) → kind ≡ get_or kinds k 0 → step ≡ get_or steps k 0
      → (r ≤ end + 96) × Put mid end (event_line k time kind step) r new → Told times kinds steps old at n (k + 1) r new
  unfolding event_lines
  told_next {k = k} t h a b d p =
      let s : suc k ≡ k + 1 = omega arith in
      let f : event_line k _ _ _ ≡ event_line k (get_or times k (pos 0)) (get_or kinds k 0) (get_or steps k 0) = λ i. event_line k (a i) (b i) (d i) in
      record {
        upto = omega arith;
        within = omega (arith, t.within, p.0);
        is = put_same (ap (λ (n : ℕ). event_lines n times kinds steps) s) (put_more t.is (put_same f p.1));
      }

  pub told_all : {old new : List ℕ} {at n k end : ℕ} → Told times kinds steps old at n k end new → n ≤ k → Put old at (event_lines n times kinds steps) end new
  told_all {n = n} {k = k} t h =
      let s : k ≡ n = omega (arith, t.upto) in
      put_same (ap (λ (m : ℕ). event_lines m times kinds steps) s) t.is

-- ---- all lines

module _ (room : ℕ) (a : Answer) (times : List ℤ) (kinds steps : List ℕ) where
  -- there is room for all
  pub all_in : {base mid new : List ℕ} {n at r : ℕ} → base ≡ replicate room 0 → n ≡ events_of a → n < length base / 96 → Put base 0 (first_line a) at mid
      → Put mid at (event_lines n times kinds steps) r new
      → (r ≡ length (lines_in room a times kinds steps)) × ((new ≡ padded 0 room (lines_in room a times kinds steps)) × (r ≤ length new))
  unfolding lines_in lines_of
  all_in {mid = mid} {n = n} {at = at} b e h p q =
      let l : 96 * suc (events_of a) ≤ room = omega (arith, ap length b, zeros_long room) in
      let w : first_line a ++ event_lines n times kinds steps ≡ lines_in room a times kinds steps =
      ap (λ (m : ℕ). first_line a ++ event_lines m times kinds steps) e ∙ sym (pick_true _ _ (le-leb _ _ l)) in
      let s = put_same w (put_more (subst (λ (k : List ℕ). Put k 0 (first_line a) at mid) b p) q) in
      let f = put_padded room s in
      (f.0, (f.1, omega (arith, s.fits, s.ends, put_length s)))

  -- there is not
  pub none_in : {base : List ℕ} {n : ℕ} → base ≡ replicate room 0 → n ≡ events_of a → length base / 96 ≤ n
      → (0 ≡ length (lines_in room a times kinds steps)) × ((base ≡ padded 0 room (lines_in room a times kinds steps)) × (0 ≤ length base))
  unfolding lines_in
  none_in {n = n} b e h =
      let l : room < 96 * suc (events_of a) = omega (arith, ap length b, zeros_long room) in
      let z : room ≡ room - 0 = omega arith in
      let w : [] ≡ lines_in room a times kinds steps = sym (pick_false _ _ (lt-leb _ _ l)) in
      (ap length w, (b ∙ (ap (λ (m : ℕ). replicate m 0) z ∙ ap (padded 0 room) w), omega arith))
