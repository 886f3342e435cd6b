-- What memory holds of an event, by its answer; and the answer, by what memory holds. Assumes nothing.
use Rattle.std.specs.Prelude.{◌≡◌, List, ℕ, ◌+◌, ◌≤◌, get_or, ℤ}
use Rattle.std.proofs.Math.Path.{refl, ap}
use Rattle.std.proofs.Common.{sym, ◌∙◌}
use native.Mathlib.Omega.{arith}
use Rattle.std.proofs.Math.IntN.{pos}
use Rattle.manifest.specs.Meaning.{Meaning}
use Rattle.manifest.specs.Statements.{At}
use Rattle.manifest.proofs.laws.Lists.{at_below}
use Rattle.records.specs.declared.Event.{Event}
use Rattle.paths.specs.Paths.{Leads}
use Rattle.graphs.specs.Graphs.{World, graph}
use Rattle.clocks.specs.Answers.{Answer, Placed, Dropped, answer_of, time_of, kind_of, steps_of}
use Rattle.clocks.specs.Theorems.{unrelated_no_chain, no_chain_unrelated, placed_exactly, exact_placed, early_exactly, exact_early}
use Rattle.merged.specs.Facts.{Parts, facts_of}
use Rattle.merged.specs.Timeline.{event_clock, world_of}
use Rattle.merged.specs.declared.Room.{Room}
use Rattle.merged.specs.Merged.{Outcome, accepted_by}
use Rattle.merged.proofs.Demands.{answer_at, time_of_event, kind_of_event, steps_of_event}
use Rattle.exact.specs.Words.{IsPlaced, IsOutside, IsEarly, Holds}
use Rattle.exact.proofs.laws.Lists.{at_get_d}
use Rattle.exact.proofs.laws.Values.{outside_leaves, leaves_outside, drop_range}

-- ---- an answer by its kind

module _ (w : World) (c : ℕ) (t : ℤ) where
  -- a placed event's graph is at most 3
  low_graph : {v : ℤ} {g n : ℕ} → answer_of w c t ≡ Placed v g n → g ≤ 3
  low_graph {v} {g} {n} e = (placed_exactly w c t v g n e).1.high

  -- a kind past 3 tells the drop
  pub dropped_so : (d : ℕ) → 1 ≤ d → kind_of (answer_of w c t) ≡ 3 + d → answer_of w c t ≡ Dropped d
  unfolding kind_of
  dropped_so d l h = go (answer_of w c t) refl h
    where
      go : (a : Answer) → answer_of w c t ≡ a → kind_of a ≡ 3 + d → a ≡ Dropped d
      go (Placed v g n) q h = let b : g ≤ 3 = low_graph q in absurd (omega arith)
      go (Dropped n) q h = let e : n ≡ d = omega arith in ap Dropped e

  -- a kind to 3 tells the place
  pub placed_so : {v : ℤ} {g n : ℕ} → g ≤ 3 → time_of (answer_of w c t) ≡ v → kind_of (answer_of w c t) ≡ g → steps_of (answer_of w c t) ≡ n → answer_of w c t ≡ Placed v g n
  unfolding time_of kind_of steps_of
  placed_so {v} {g} {n} l x y z = go (answer_of w c t) refl x y z
    where
      go : (a : Answer) → answer_of w c t ≡ a → time_of a ≡ v → kind_of a ≡ g → steps_of a ≡ n → a ≡ Placed v g n
      go (Placed u h m) q x y z = λ i. Placed (x i) (y i) (z i)
      go (Dropped d) q x y z = absurd (omega (arith, (drop_range w c t q).0))

  -- of every answer: its kind, and what a drop leaves
  pub kinds_are : (1 ≤ kind_of (answer_of w c t)) × (kind_of (answer_of w c t) ≤ 6)
  unfolding kind_of
  kinds_are = go (answer_of w c t) refl
    where
      go : (a : Answer) → answer_of w c t ≡ a → (1 ≤ kind_of a) × (kind_of a ≤ 6)
      go (Placed v g n) q = let k = (placed_exactly w c t v g n q).1 in (k.low, omega (arith, k.high))
      go (Dropped d) q = let (l, h) = drop_range w c t q in (omega arith, omega arith)

  pub zeros_are : 4 ≤ kind_of (answer_of w c t) → (time_of (answer_of w c t) ≡ pos 0) × (steps_of (answer_of w c t) ≡ 0)
  unfolding time_of kind_of steps_of
  zeros_are h = go (answer_of w c t) refl h
    where
      go : (a : Answer) → answer_of w c t ≡ a → 4 ≤ kind_of a → (time_of a ≡ pos 0) × (steps_of a ≡ 0)
      go (Placed v g n) q h = absurd (omega (arith, low_graph q))
      go (Dropped d) q h = (refl, refl)

-- ---- in memory

its_answer : (w : Meaning) (p : Parts) (room : Room) {k : ℕ} {e : Event} → At p.events k e → answer_at w p room k ≡ answer_of (world_of w p) (event_clock (facts_of w p) e) e.reading
its_answer w p room event = ap (λ (x : Event). answer_of (world_of w p) (event_clock (facts_of w p) x) x.reading) (at_get_d event _)

module _ (w : Meaning) (p : Parts) (room : Room) {o : Outcome} (accepted : o ≡ accepted_by w p room) {k : ℕ} {e : Event} (event : At p.events k e) where
  time_is : get_or o.times k (pos 0) ≡ time_of (answer_of (world_of w p) (event_clock (facts_of w p) e) e.reading)
  time_is = ap (λ (x : Outcome). get_or x.times k (pos 0)) accepted ∙ (time_of_event w p room k (at_below event) ∙ ap time_of (its_answer w p room event))

  kind_is : get_or o.kinds k 0 ≡ kind_of (answer_of (world_of w p) (event_clock (facts_of w p) e) e.reading)
  kind_is = ap (λ (x : Outcome). get_or x.kinds k 0) accepted ∙ (kind_of_event w p room k (at_below event) ∙ ap kind_of (its_answer w p room event))

  steps_is : get_or o.steps k 0 ≡ steps_of (answer_of (world_of w p) (event_clock (facts_of w p) e) e.reading)
  steps_is = ap (λ (x : Outcome). get_or x.steps k 0) accepted ∙ (steps_of_event w p room k (at_below event) ∙ ap steps_of (its_answer w p room event))

  -- what memory holds of an answer
  holds_so : {a : Answer} → answer_of (world_of w p) (event_clock (facts_of w p) e) e.reading ≡ a → Holds o k (time_of a) (kind_of a) (steps_of a)
  holds_so q = record { its_time = time_is ∙ ap time_of q; its_kind = kind_is ∙ ap kind_of q; its_steps = steps_is ∙ ap steps_of q }

  pub held_placed : {g : ℕ} {v : ℤ} {n : ℕ} → g ≤ 3 → Holds o k v g n → IsPlaced (world_of w p) (event_clock (facts_of w p) e) e.reading g v n
  held_placed {g} {v} {n} l h =
      let (q, x, s, y, z) = placed_exactly (world_of w p) (event_clock (facts_of w p) e) e.reading v g n (placed_so (world_of w p) (event_clock (facts_of w p) e) e.reading l (sym time_is ∙ h.its_time) (sym kind_is ∙ h.its_kind) (sym steps_is ∙ h.its_steps)) in
      record { path = q; chosen = x; exact = y; not_negative = z; length_is = omega arith }

  pub placed_held : {g : ℕ} {v : ℤ} {n : ℕ} → IsPlaced (world_of w p) (event_clock (facts_of w p) e) e.reading g v n → Holds o k v g n
  unfolding time_of kind_of steps_of
  placed_held {g} {v} {n} x = holds_so (exact_placed (world_of w p) (event_clock (facts_of w p) e) e.reading x.chosen x.exact x.not_negative ∙ ap (Placed v g) x.length_is)

  -- kind 4
  pub held_unrelated : get_or o.kinds k 0 ≡ 4 → (c : List ℕ) → Leads (graph 3 (world_of w p)) (event_clock (facts_of w p) e) c → ⊥
  held_unrelated h = unrelated_no_chain (world_of w p) (event_clock (facts_of w p) e) e.reading (dropped_so (world_of w p) (event_clock (facts_of w p) e) e.reading 1 (omega arith) (sym kind_is ∙ h))

  pub unrelated_held : ((c : List ℕ) → Leads (graph 3 (world_of w p)) (event_clock (facts_of w p) e) c → ⊥) → Holds o k (pos 0) 4 0
  unfolding time_of kind_of steps_of
  unrelated_held n = holds_so (no_chain_unrelated (world_of w p) (event_clock (facts_of w p) e) e.reading n)

  -- kind 5
  pub held_outside : get_or o.kinds k 0 ≡ 5 → IsOutside (world_of w p) (event_clock (facts_of w p) e) e.reading
  held_outside h = outside_leaves (world_of w p) (event_clock (facts_of w p) e) e.reading (dropped_so (world_of w p) (event_clock (facts_of w p) e) e.reading 2 (omega arith) (sym kind_is ∙ h))

  pub outside_held : IsOutside (world_of w p) (event_clock (facts_of w p) e) e.reading → Holds o k (pos 0) 5 0
  unfolding time_of kind_of steps_of
  outside_held x = holds_so (leaves_outside (world_of w p) (event_clock (facts_of w p) e) e.reading x)

  -- kind 6
  pub held_early : get_or o.kinds k 0 ≡ 6 → IsEarly (world_of w p) (event_clock (facts_of w p) e) e.reading
  held_early h =
      let (g, q, v, x, y, z) = early_exactly (world_of w p) (event_clock (facts_of w p) e) e.reading (dropped_so (world_of w p) (event_clock (facts_of w p) e) e.reading 3 (omega arith) (sym kind_is ∙ h)) in
      record { graph = g; path = q; chosen = x; end = v; exact = y; negative = z }

  pub early_held : IsEarly (world_of w p) (event_clock (facts_of w p) e) e.reading → Holds o k (pos 0) 6 0
  unfolding time_of kind_of steps_of
  early_held x = holds_so (exact_early (world_of w p) (event_clock (facts_of w p) e) e.reading x.chosen x.exact x.negative)

  -- of every event
  pub held_kind : (1 ≤ get_or o.kinds k 0) × (get_or o.kinds k 0 ≤ 6)
  held_kind = let (l, h) = kinds_are (world_of w p) (event_clock (facts_of w p) e) e.reading in (omega (arith, kind_is), omega (arith, kind_is))

  pub held_zeros : 4 ≤ get_or o.kinds k 0 → (get_or o.times k (pos 0) ≡ pos 0) × (get_or o.steps k 0 ≡ 0)
  held_zeros h = let (x, y) = zeros_are (world_of w p) (event_clock (facts_of w p) e) e.reading (omega (arith, kind_is)) in (time_is ∙ x, steps_is ∙ y)
