-- Worked examples, by computing: the pinned file's private clock, 194, reads 0 where clock 11 reads 250000000; trace time is clock 5.
-- First the values along a path; then that it is the event's path, and so the event's answer. Assumes nothing.
use Rattle.std.specs.Prelude.{◌≡◌, refl, List, [], ◌∷◌, ℕ, ℤ, pos, neg_ℤ, Some}
use Rattle.std.proofs.Common.{◌∙◌, arith}
use Rattle.numbers.specs.Numbers.{what_is}
use Rattle.whole.specs.Whole.{reading, shifted_of}
use Rattle.whole.specs.Pairs.{xs_of, better, place_from, place_for, carried_by, converted}
use Rattle.paths.specs.Paths.{Leads, least}
use Rattle.graphs.specs.Links.{list_of}
use Rattle.graphs.specs.Graphs.{World, domains, loose, to_trace, guess, or_guess, along, some, joined, graph}
use Rattle.clocks.specs.Answers.{Placed, Dropped, through, carried, ended, answer_of, time_of, kind_of, steps_of}
use Rattle.clocks.specs.Theorems.{no_chain_unrelated, chosen_answer}
use Rattle.clocks.specs.laws.Chains.{Chosen}
use Rattle.clocks.specs.laws.Known.{among, inside, shut_none, one_best, two_best, known_first, known_after}

abbrev world : ℤ → ℕ → World
world offset trace = record { machines = 2; files = 3; pinned = 4; trace = trace; links = record { a = 194; x = pos 0; b = 11; y = offset } ∷ [] }

-- 7 goes 194, 11, 5: graph 3, 2 steps
two_steps : ended 3 2 (carried 3 (world (pos 250000000) 5) 194 (11 ∷ 5 ∷ []) (Some (pos 7))) ≡ Placed (pos 250000007) 3 2
unfolding ended carried through along or_guess guess domains to_trace loose what_is list_of converted carried_by place_for place_from better xs_of shifted_of reading
two_steps = refl

-- with trace time on clock 11: graph 1, 1 step; and with the offset -8: drop 3
one_step : ended 1 1 (carried 1 (world (pos 250000000) 11) 194 (11 ∷ []) (Some (pos 7))) ≡ Placed (pos 250000007) 1 1
unfolding ended carried through along or_guess guess domains to_trace loose what_is list_of converted carried_by place_for place_from better xs_of shifted_of reading
one_step = refl

before_the_start : ended 1 1 (carried 1 (world (neg_ℤ (pos 8)) 11) 194 (11 ∷ []) (Some (pos 7))) ≡ Dropped 3
unfolding ended carried through along or_guess guess domains to_trace loose what_is list_of converted carried_by place_for place_from better xs_of shifted_of reading
before_the_start = refl

-- a value past 64 bits after the first pair: drop 2, whatever comes then
out_of_range : ended 3 2 (carried 3 (world (pos 9223372036854775807) 5) 194 (11 ∷ 5 ∷ []) (Some (pos 7))) ≡ Dropped 2
unfolding ended carried through along or_guess guess domains to_trace loose what_is list_of converted carried_by place_for place_from better xs_of shifted_of reading
out_of_range = refl

-- ---- the answers
-- in graph 2, and so in graph 1, no pair leads out of 194 and 11
no_path : (offset : ℤ) (p : List ℕ) → Leads (graph 2 (world offset 5)) 194 p → ⊥
unfolding among inside least joined along some or_guess list_of guess domains to_trace loose what_is
no_path offset = shut_none (graph 2 (world offset 5)) (194 ∷ 11 ∷ []) refl 194 refl

-- so the path is that of graph 3 by 11, where both BOOTTIMEs are guessed to agree
by_two : (offset : ℤ) → Chosen (world offset 5) 194 3 (11 ∷ 5 ∷ [])
unfolding least joined along some or_guess list_of guess domains to_trace loose what_is
by_two offset = known_after 2 (omega arith) (no_path offset) (two_best (graph 3 (world offset 5)) 194 (omega arith) (omega arith) 11 (omega arith) (λ e. omega arith) refl refl refl refl)

by_one : (offset : ℤ) → Chosen (world offset 11) 194 1 (11 ∷ [])
unfolding joined along some or_guess list_of guess domains to_trace loose what_is
by_one offset = known_first (one_best (graph 1 (world offset 11)) 194 (omega arith) (omega arith) (λ e. omega arith) refl)

answer_two_steps : answer_of (world (pos 250000000) 5) 194 (pos 7) ≡ Placed (pos 250000007) 3 2
answer_two_steps = chosen_answer (by_two (pos 250000000)) (pos 7) ∙ two_steps

answer_one_step : answer_of (world (pos 250000000) 11) 194 (pos 7) ≡ Placed (pos 250000007) 1 1
answer_one_step = chosen_answer (by_one (pos 250000000)) (pos 7) ∙ one_step

answer_before_the_start : answer_of (world (neg_ℤ (pos 8)) 11) 194 (pos 7) ≡ Dropped 3
answer_before_the_start = chosen_answer (by_one (neg_ℤ (pos 8))) (pos 7) ∙ before_the_start

answer_out_of_range : answer_of (world (pos 9223372036854775807) 5) 194 (pos 7) ≡ Dropped 2
answer_out_of_range = chosen_answer (by_two (pos 9223372036854775807)) (pos 7) ∙ out_of_range

-- the second machine's REALTIME, 6, is guessed to agree with the host's, 0; neither is joined to trace time: drop 1, whatever it reads
no_chain : (offset : ℤ) (p : List ℕ) → Leads (graph 3 (world offset 5)) 6 p → ⊥
unfolding among inside least joined along some or_guess list_of guess domains to_trace loose what_is
no_chain offset = shut_none (graph 3 (world offset 5)) (0 ∷ 6 ∷ []) refl 6 refl

answer_unrelated : (t : ℤ) → answer_of (world (pos 250000000) 5) 6 t ≡ Dropped 1
answer_unrelated t = no_chain_unrelated (world (pos 250000000) 5) 6 t (no_chain (pos 250000000))

-- the numbers that are written: a placed event, and the three drops
numbers : (kind_of (Placed (pos 7) 2 1) ≡ 2) × (kind_of (Dropped 1) ≡ 4) × (kind_of (Dropped 2) ≡ 5) × (kind_of (Dropped 3) ≡ 6) × (steps_of (Dropped 1) ≡ 0) × (time_of (Dropped 1) ≡ pos 0)
unfolding kind_of steps_of time_of
numbers = (refl, refl, refl, refl, refl, refl)
