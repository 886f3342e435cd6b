-- What is known by a marked manifest and sheet together, by computing: nothing refuses them, their world, the event's clock, path and answer. Assumes nothing.
use Rattle.std.specs.Prelude.{◌≡◌, refl, List, [], ◌∷◌, ℕ, ℤ, pos, neg_ℤ}
use Rattle.std.proofs.Common.{arith}
use Rattle.manifest.specs.Meaning.{nothing_said}
use Rattle.paths.specs.Paths.{Leads}
use Rattle.graphs.specs.Graphs.{World, graph}
use Rattle.clocks.specs.Answers.{Placed, Dropped, answer_of}
use Rattle.clocks.specs.Theorems.{chosen_answer}
use Rattle.clocks.specs.laws.Chains.{Chosen}
use Rattle.clocks.specs.laws.Known.{shut_none, one_best, two_best, known_first, known_after}
use Rattle.merged.specs.Facts.{parts_of, facts_of}
use Rattle.merged.specs.Refusals.{checks, first_of}
use Rattle.merged.specs.Timeline.{world_of}
use Rattle.marked.specs.Inputs.{top}
use Rattle.marked.proofs.laws.Opened.{of_facts, of_worlds, of_graphs, of_answers}
use Rattle.marked.proofs.laws.Manifests.{says}
use Rattle.marked.proofs.laws.Sheets.{records_7, records_7_9, records_past}

-- three machines with the host, three files of which the third, the log, is pinned; clock 194 reads 0 where clock 11 reads the offset
abbrev pub world : ℤ → ℕ → World
world offset trace = record { machines = 3; files = 3; pinned = 4; trace = trace; links = record { a = 194; x = pos 0; b = 11; y = offset } ∷ [] }

-- one machine and one file; clock 2 reads 0 where clock 5, trace time, reads 1
abbrev pub world_past : World
world_past = record { machines = 1; files = 1; pinned = 0; trace = 5; links = record { a = 2; x = pos 0; b = 5; y = pos 1 } ∷ [] }

-- ---- with trace time on the host's BOOTTIME, 5, and on the phone's, 11

pub unrefused : (offset : ℤ) (machine : ℕ) → (first_of checks (facts_of (says offset machine) (parts_of records_7)) ≡ 0) × (first_of checks (facts_of (says offset machine) (parts_of records_7_9)) ≡ 0)
unfolding of_facts
unrefused offset machine = (refl, refl)

pub on_host : (offset : ℤ) → (world_of (says offset 0) (parts_of records_7) ≡ world offset 5) × (world_of (says offset 0) (parts_of records_7_9) ≡ world offset 5)
unfolding of_worlds
on_host offset = (refl, refl)

pub on_phone : (offset : ℤ) → world_of (says offset 1) (parts_of records_7) ≡ world offset 11
unfolding of_worlds
on_phone offset = refl

pub past_known : (first_of checks (facts_of nothing_said (parts_of records_past)) ≡ 0) × (world_of nothing_said (parts_of records_past) ≡ world_past)
unfolding of_worlds
past_known = (refl, refl)

-- ---- the paths

-- in graph 2, and so in graph 1, no pair leads out of 194 and 11
no_path : (offset : ℤ) (p : List ℕ) → Leads (graph 2 (world offset 5)) 194 p → ⊥
unfolding of_graphs
no_path offset = shut_none (graph 2 (world offset 5)) (194 ∷ 11 ∷ []) refl 194 refl

-- so the path is that of graph 3 by 11, where the phone's and the host's BOOTTIME are guessed to agree
pub by_two : (offset : ℤ) → Chosen (world offset 5) 194 3 (11 ∷ 5 ∷ [])
unfolding of_graphs
by_two offset = known_after 2 (omega arith) (no_path offset) (two_best (graph 3 (world offset 5)) 194 (omega arith) (omega arith) 11 (omega arith) (λ e. omega arith) refl refl refl refl)

pub by_one : (offset : ℤ) → Chosen (world offset 11) 194 1 (11 ∷ [])
unfolding of_graphs
by_one offset = known_first (one_best (graph 1 (world offset 11)) 194 (omega arith) (omega arith) (λ e. omega arith) refl)

pub by_snapshot : Chosen world_past 2 1 (5 ∷ [])
unfolding of_graphs
by_snapshot = known_first (one_best (graph 1 world_past) 2 (omega arith) (omega arith) (λ e. omega arith) refl)

-- ---- the answers

pub two_steps_7 : answer_of (world (pos 250000000) 5) 194 (pos 7) ≡ Placed (pos 250000007) 3 2
unfolding of_answers
two_steps_7 = chosen_answer (by_two (pos 250000000)) (pos 7)

pub two_steps_9 : answer_of (world (pos 250000000) 5) 194 (pos 9) ≡ Placed (pos 250000009) 3 2
unfolding of_answers
two_steps_9 = chosen_answer (by_two (pos 250000000)) (pos 9)

pub one_step_7 : answer_of (world (pos 250000000) 11) 194 (pos 7) ≡ Placed (pos 250000007) 1 1
unfolding of_answers
one_step_7 = chosen_answer (by_one (pos 250000000)) (pos 7)

pub early_7 : answer_of (world (neg_ℤ (pos 8)) 11) 194 (pos 7) ≡ Dropped 3
unfolding of_answers
early_7 = chosen_answer (by_one (neg_ℤ (pos 8))) (pos 7)

pub past_top : answer_of world_past 2 top ≡ Dropped 2
unfolding of_answers
past_top = chosen_answer by_snapshot top
