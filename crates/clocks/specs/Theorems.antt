-- What the answers come to, said of chains and of exact sums, and what they do not depend on. Assumes nothing.
use Rattle.std.specs.Prelude.{◌≡◌, true, false, List, ◌∷◌, ◌++◌, ℕ, ◌<◌, length, ℤ, pos, Some}
use Rattle.std.specs.Int.Signed.{lt_z}
use Rattle.numbers.specs.Numbers.{clocks}
use Rattle.paths.specs.Paths.{Leads}
use Rattle.graphs.specs.Links.{Link}
use Rattle.graphs.specs.Graphs.{World, graph}
use Rattle.clocks.specs.Answers.{Placed, Dropped, carried, unrelated, outside, early, ended, answer_of, answers_of}
use Rattle.clocks.specs.Statements.{SameWorld, with_links, Apart, Rearranged}
use Rattle.whole.specs.Pairs.{Pair, converted}
use Rattle.clocks.specs.laws.Firsts as firsts
use Rattle.clocks.specs.laws.Firsts.{Firsts}
use Rattle.clocks.specs.laws.Chains as chains
use Rattle.clocks.specs.laws.Chains.{Exact, Chosen}
use Rattle.clocks.specs.laws.Answered as answered
use Rattle.clocks.specs.laws.Same as same
use Rattle.clocks.specs.laws.Swaps as swaps

module _ (w : World) (c : ℕ) (t : ℤ) where
  -- An event is dropped as unrelated exactly if no chain of correspondences and permitted guesses joins its clock to trace time. (A chain
  -- is a path of graph 3: each two clocks of it have a correspondence in either direction, or are guessed; `pair_is` of graphs.)
  pub unrelated_no_chain : answer_of w c t ≡ Dropped unrelated → (p : List ℕ) → Leads (graph 3 w) c p → ⊥
  unrelated_no_chain = chains.unrelated_none w c t

  pub no_chain_unrelated : ((p : List ℕ) → Leads (graph 3 w) c p → ⊥) → answer_of w c t ≡ Dropped unrelated
  no_chain_unrelated = chains.none_unrelated w c t

  -- A placed event: its path p is the best path of the lowest graph that has one, and has n pairs, fewer than there are clocks. Its time v is
  -- the exact sum of t and the picked y - x along p, within 64 bits after each pair, and is not negative.
  pub placed_exactly : (v : ℤ) (g n : ℕ) → answer_of w c t ≡ Placed v g n → (p : List ℕ) × Chosen w c g p × (length p ≡ n) × Exact g w c p t v × (lt_z v (pos 0) ≡ false)
  placed_exactly v g n = chains.placed_is w c t v g n

  -- And back: with such a path and such a sum the event is placed so.
  pub exact_placed : {g : ℕ} {p : List ℕ} {v : ℤ} → Chosen w c g p → Exact g w c p t v → lt_z v (pos 0) ≡ false → answer_of w c t ≡ Placed v g (length p)
  exact_placed k x s = answered.exact_placed k x s

  -- Out of range: there is such a path, and along it the sum does not stay within 64 bits.
  pub outside_exactly : answer_of w c t ≡ Dropped outside → (g : ℕ) × (p : List ℕ) × Chosen w c g p × ((v : ℤ) → Exact g w c p t v → ⊥)
  outside_exactly = chains.outside_is w c t

  -- And back.
  pub inexact_outside : {g : ℕ} {p : List ℕ} → Chosen w c g p → ((v : ℤ) → Exact g w c p t v → ⊥) → answer_of w c t ≡ Dropped outside
  inexact_outside k n = answered.inexact_outside k t n

  -- Before the start: the sum stays within 64 bits, and its end is negative.
  pub early_exactly : answer_of w c t ≡ Dropped early → (g : ℕ) × (p : List ℕ) × (v : ℤ) × Chosen w c g p × Exact g w c p t v × (lt_z v (pos 0) ≡ true)
  early_exactly = chains.early_is w c t

  -- And back.
  pub exact_early : {g : ℕ} {p : List ℕ} {v : ℤ} → Chosen w c g p → Exact g w c p t v → lt_z v (pos 0) ≡ true → answer_of w c t ≡ Dropped early
  exact_early k x s = answered.exact_early k x s

-- An event has at most one such graph and path, along it one sum, and by these its answer.
pub chosen_only : {w : World} {c g h : ℕ} {p q : List ℕ} → Chosen w c g p → Chosen w c h q → (g ≡ h) × (p ≡ q)
chosen_only = answered.chosen_only

pub exact_only : {g : ℕ} {w : World} {c : ℕ} {p : List ℕ} {t v u : ℤ} → Exact g w c p t v → Exact g w c p t u → v ≡ u
exact_only = answered.exact_only

pub chosen_answer : {w : World} {c g : ℕ} {p : List ℕ} → Chosen w c g p → (t : ℤ) → answer_of w c t ≡ ended g (length p) (carried g w c p (Some t))
chosen_answer = answered.chosen_answer

-- On trace time itself: graph 1 and 0 steps, and dropped if negative.
pub on_trace : (w : World) (t : ℤ) → w.trace < clocks → answer_of w w.trace t ≡ ended 1 0 (Some t)
on_trace = chains.at_trace

-- A conversion does not depend on how the list was ordered, only on what it lists first of each x: two lists that agree in these, as a
-- rearrangement that keeps the order of equals does, convert every reading alike.
pub order_free : (t : ℤ) (ps qs : List Pair) → Firsts ps qs → Firsts qs ps → converted t ps ≡ converted t qs
order_free = firsts.firsts_convert

-- So the answers depend on a world's correspondences only in what the lists of its pairs list first of each x ..
pub answers_order_free : {w u : World} → SameWorld w u → (c : ℕ) (t : ℤ) → answer_of w c t ≡ answer_of u c t
answers_order_free = same.answer_same

pub all_order_free : {w u : World} → SameWorld w u → (cs : List ℕ) (ts : List ℤ) → answers_of w cs ts ≡ answers_of u cs ts
all_order_free = same.answers_same

-- .. and two neighbours may change places if they relate different pairs of clocks, or read apart on both clocks ..
pub swap_free : (w : World) (ls rs : List Link) (p q : Link) → Apart p q → (c : ℕ) (t : ℤ)
    → answer_of (with_links w (ls ++ (p ∷ q ∷ rs))) c t ≡ answer_of (with_links w (ls ++ (q ∷ p ∷ rs))) c t
swap_free w ls rs p q a = same.answer_same (swaps.swap_same w ls rs p q a)

-- .. as often as one likes.
pub rearranged_free : (w : World) {ls ms : List Link} → Rearranged ls ms → (c : ℕ) (t : ℤ) → answer_of (with_links w ls) c t ≡ answer_of (with_links w ms) c t
rearranged_free = swaps.rearranged_same
