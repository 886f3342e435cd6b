-- What an answer comes to where all that it asks for is there: machines that are bytes, and memories that are long enough. Assumes nothing.
use Rattle.std.specs.Prelude.{◌≡◌, refl, List, [], ◌∷◌, map, ℕ, suc, ◌-◌, ◌≤◌, ◌<◌, min, ℤ, length, get_or, take}
use Rattle.std.proofs.Common.{sym, ap, subst, ◌∙◌, arith, length-take, get_or-take}
use Rattle.std.proofs.Math.Decide.{dec_lt}
use Rattle.std.proofs.Math.ListN.{get_or-eq_default}
use Rattle.text.specs.Reading.{Text}
use Rattle.records.specs.declared.Event.{Event}
use Rattle.sheet.specs.declared.Table.{Table}
use Rattle.clocks.specs.Answers.{filled}
use Rattle.checks.specs.Machines.{machine_table}
use Rattle.lines.specs.Lines.{clock_by, events_at, over}
use Rattle.joins.specs.Joined.{world_by, events_by, answers_by}
use Rattle.joins.proofs.laws.Arrays.{over_front, links_few, answers_length}
use Rattle.answered.specs.Answered.{as_byte, machines_in, marked_in}
use Rattle.merge.specs.laws.Answers.{Answered, Timed, answers_filled}

-- what is small stays so
take_small : (n k : ℕ) (l : List ℕ) → ((j : ℕ) → get_or l j 0 ≤ k) → (j : ℕ) → get_or (take n l) j 0 ≤ k
take_small n k l h j = go (dec_lt j n)
  where
    go : Dec (j < n) → get_or (take n l) j 0 ≤ k
    go (yes q) = subst (λ (m : ℕ). m ≤ k) (sym (get_or-take n l j 0 q)) (h j)
    go (no q) = subst (λ (m : ℕ). m ≤ k) (sym (get_or-eq_default (take n l) 0 (omega (arith, length-take n l)))) (omega arith)

-- small numbers are bytes
bytes_same : (l : List ℕ) → ((j : ℕ) → get_or l j 0 ≤ 32) → map as_byte l ≡ l
bytes_same [] h = refl
bytes_same (x ∷ l) h =
    let m : as_byte x ≡ x = omega (arith, h 0) in
    λ i. m i ∷ bytes_same l (λ j. h (suc j)) i

-- so the machines are those of their table
pub machines_same : (t : List ℕ) (sources room : ℕ) → sources ≤ 32 → sources ≤ room → ((j : ℕ) → get_or (machine_table t) j 0 ≤ 32) → machines_in t sources room ≡ take sources (machine_table t)
machines_same t sources room a b h =
    let m : min sources (min 32 room) ≡ sources = omega arith in
    ap (λ (j : ℕ). map as_byte (take j (machine_table t))) m ∙ bytes_same (take sources (machine_table t)) (take_small sources 32 (machine_table t) h)

-- what was written at the front of a long memory is read from it
pub marked_same : {A : Type 0} (f : Event → A) (b : List ℕ) (at n p q : ℕ) (m : List A) → n ≤ 0xffffffff → n ≤ p → n ≤ q → take n (over (map f (marked_in b at n p q)) m) ≡ map f (events_at b at n)
marked_same f b at n p q m h hp hq =
    let e : min n 0xffffffff ≡ n = omega arith in
    let d : n ≡ n - 0 = omega arith in
    (λ i. take (d i) (over (map f (events_at b at (min (e i) (min p q)))) m)) ∙ over_front f b at n p q m hp hq

-- the events' answers in memories that are long enough
module _ (s : Text) (b ix names t : List ℕ) (p : Table) (nt nk ns : ℕ) (ht : p.events.count ≤ nt) (hk : p.events.count ≤ nk) (hs : p.events.count ≤ ns) where
  few_links : length (world_by s b ix names t p).links ≤ 288
  unfolding world_by
  few_links = links_few s ix names t (machine_table t) b p.snapshots.at p.snapshots.count

  pub timed_is : {times : List ℤ} {kinds steps : List ℕ}
      → Answered (filled (world_by s b ix names t p) (map (clock_by t (machine_table t)) (events_by s b ix names t p)) (map (λ e. e.reading) (events_by s b ix names t p)) (record { times = nt; kinds = nk; steps = ns; matrix = 50176 })) times kinds steps
      → Timed (answers_by s b ix names t p) nt nk ns times kinds steps
  unfolding answers_by
  timed_is a =
      let n = answers_length s b ix names t p in
      answers_filled (world_by s b ix names t p) _ _ nt nk ns few_links (omega arith) (omega arith) (omega arith) a
