-- What is written before the events are placed, and when they are. Assumes nothing.
use Rattle.std.specs.Prelude.{◌≡◌, List, ◌++◌, map, ℕ, ◌-◌, ◌≤◌, ◌<◌, min, ℤ, pos, length, take, replicate}
use Rattle.std.proofs.Common.{sym, ap, ◌∙◌, arith, length-take}
use Rattle.graphs.specs.Graphs.{World}
use Rattle.clocks.specs.Answers.{Room, Filled, filled}
use Rattle.merged.specs.Answers.{Answer}
use Rattle.merged.specs.Merged.{padded}
use Rattle.checks.specs.Machines.{machine_table}
use Rattle.lines.specs.Lines.{clock_by, events_at, over, reach}
use Rattle.placed.specs.Placed.{cells, cleared}
use Rattle.placed.specs.declared.Known.{Known}
use Rattle.answered.specs.Answered.{as_byte, machines_in, clocks_in, readings_in, events_in, summed}
use Rattle.answered.specs.laws.Fronts.{machines_long, rest_cleared}

-- the machine of each source stands before zeros, and the clock and the reading of each event at the front of their memories
pub record Marked (t b : List ℕ) (sources at events : ℕ) (machines clocks : List ℕ) (readings : List ℤ) (machines' clocks' : List ℕ) (readings' : List ℤ) : Type 0 where
  pub machines_are : machines' ≡ padded 0 (length machines) (machines_in t sources (length machines))
  pub clocks_are : clocks' ≡ clocks_in t b at events clocks readings
  pub readings_are : readings' ≡ readings_in t b at events clocks readings

-- by the machines that were made, of which n count, and k events
module _ (t : List ℕ) {each : List ℕ} (e : each ≡ machine_table t) (sources nm : ℕ) {q n : ℕ} (eq : q ≡ min 32 nm) (en : n ≡ min sources q) where
  pub each_within : n ≤ length each
  each_within = omega (arith, ap length e, machines_long t)

  pub each_front : length (take n each) ≤ nm
  each_front = omega (arith, length-take n each)

module _ {t : List ℕ} {each : List ℕ} (e : each ≡ machine_table t) (b : List ℕ) (sources at events : ℕ) (m c : List ℕ) (r : List ℤ) {q n k : ℕ} (eq : q ≡ min 32 (length m)) (en : n ≡ min sources q) (ek : k ≡ min events 0xffffffff) where
  pub marked_so : {m' c' : List ℕ} {r' : List ℤ}
      → m' ≡ padded 0 (length m) (map as_byte (take n each))
      → c' ≡ over (map (clock_by t each) (events_at b at (reach k (length c) (length r)))) c
      → r' ≡ over (map (λ e. e.reading) (events_at b at (reach k (length c) (length r)))) r
      → Marked t b sources at events m c r m' c' r'
  marked_so em ec er =
      let d : n ≡ min sources (min 32 (length m)) = omega arith in
      record {
        machines_are = em ∙ (λ i. padded 0 (length m) (map as_byte (take (d i) (e i))));
        clocks_are = ec ∙ (λ i. over (map (clock_by t (e i)) (events_at b at (reach (ek i) (length c) (length r)))) c);
        readings_are = er ∙ (λ i. over (map (λ e. e.reading) (events_at b at (reach (ek i) (length c) (length r)))) r);
      }

-- the events are marked, then placed by what is marked, then the work memories are cleared
module _ (t b : List ℕ) (k : Known) (w : World) (m c : List ℕ) (re : List ℤ) (x : List ℕ) (room : Room) where
  abbrev n : ℕ
  n = k.given.events

  pub answered_so : {m' c' : List ℕ} {re' : List ℤ} → Marked t b k.sources k.at n m c re m' c' re' → length re' ≡ length re → length c' ≡ length c
      → {ti : List ℤ} {ki st x' : List ℕ} → ti ≡ (filled w (take n c') (take n re') room).times → ki ≡ (filled w (take n c') (take n re') room).kinds → st ≡ (filled w (take n c') (take n re') room).steps → x' ≡ cleared x
      → {x'' : List ℕ} {re'' : List ℤ} {c'' : List ℕ} → x'' ≡ take 50176 x' ++ replicate (length x' - 50176) 0 → re'' ≡ replicate (length re') (pos 0) → c'' ≡ replicate (length c') 0
      → {r : Answer} → r ≡ summed k.given
      → (r ≡ summed k.given) × ((m' ≡ padded 0 (length m) (machines_in t k.sources (length m))) × ((ti ≡ (events_in t b k w c re room).times) × ((ki ≡ (events_in t b k w c re room).kinds) × ((st ≡ (events_in t b k w c re room).steps) × ((x'' ≡ replicate (length x) 0) × ((re'' ≡ replicate (length re) (pos 0)) × (c'' ≡ replicate (length c) 0)))))))
  answered_so {c' = c'} {re' = re'} mk lr lc et ek es ex ex' er ec ea =
      let f : filled w (take n c') (take n re') room ≡ events_in t b k w c re room = λ i. filled w (take n (mk.clocks_are i)) (take n (mk.readings_are i)) room in (
        ea,
        (
          mk.machines_are,
          (
            et ∙ ap (λ (o : Filled). o.times) f,
            (
              ek ∙ ap (λ (o : Filled). o.kinds) f,
              (
                es ∙ ap (λ (o : Filled). o.steps) f,
                (
                  rest_cleared 50176 x ex ex',
                  (er ∙ ap (λ (j : ℕ). replicate j (pos 0)) lr, ec ∙ ap (λ (j : ℕ). replicate {A = ℕ} j 0) lc),
                ),
              ),
            ),
          ),
        ),
      )
