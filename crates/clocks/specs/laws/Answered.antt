-- The answer of an event whose path is known. Assumes nothing.
use Rattle.std.specs.Prelude.{◌≡◌, true, false, List, ℕ, ◌≤◌, ◌<◌, length, ℤ, pos, Option, Some, None}
use Rattle.std.proofs.Math.Path.{refl, ap}
use Rattle.std.proofs.Common.{sym, ◌∙◌, arith}
use Rattle.std.proofs.Math.Decide.{dec_lt}
use Rattle.std.specs.Int.Signed.{lt_z}
use Rattle.paths.specs.Paths.{Leads, path}
use Rattle.paths.proofs.Theorems.{path_best, best_is_path, far_no_path}
use Rattle.graphs.specs.Graphs.{World, graph}
use Rattle.clocks.specs.Answers.{Placed, Dropped, carried, outside, early, ended, placed, related, answer_of}
use Rattle.clocks.specs.laws.Chains.{Lowest, which, related_near, far_related, Exact, carried_exact, exact_carried, Chosen}
use Rattle.clocks.specs.laws.Chains.Lowest.{lowest, nowhere}

-- a path, so the graph is not one without
leads_related : (g : ℕ) (w : World) (c : ℕ) (p : List ℕ) → Leads (graph g w) c p → related g w c ≡ false → ⊥
leads_related g w c p l e = far_no_path (graph g w) c (omega arith) (far_related g w c e) p l

module _ {w : World} {c g : ℕ} {p : List ℕ} (k : Chosen w c g p) where
  -- the graph that the answer takes is g
  same_graph : (h : ℕ) → 1 ≤ h → related h w c ≡ true → ((i : ℕ) → 1 ≤ i → i < h → related i w c ≡ false) → h ≡ g
  same_graph h a r l = go (dec_lt h g) (dec_lt g h)
    where
      go : Dec (h < g) → Dec (g < h) → h ≡ g
      go (yes m) n = absurd (k.lowest h a m (path (graph h w) c) (path_best (graph h w) c (related_near h w c r)).leads)
      go (no m) (yes n) = absurd (leads_related g w c p k.best.leads (l g k.low n))
      go (no m) (no n) = omega arith

  -- and its path is p, so that it is the end of p
  pub chosen_answer : (t : ℤ) → answer_of w c t ≡ ended g (length p) (carried g w c p (Some t))
  unfolding placed
  chosen_answer t = go (which w c t)
    where
      q : p ≡ path (graph g w) c
      q = best_is_path (graph g w) c (omega arith) p k.best

      go : Lowest w c t → answer_of w c t ≡ ended g (length p) (carried g w c p (Some t))
      go (nowhere n e) = absurd (leads_related g w c p k.best.leads (n g k.low k.high))
      go (lowest h a b r l e) = e ∙ ap (λ (i : ℕ). placed i w c t) (same_graph h a r l) ∙ ap (λ (s : List ℕ). ended g (length s) (carried g w c s (Some t))) (sym q)

  pub exact_placed : {t v : ℤ} → Exact g w c p t v → lt_z v (pos 0) ≡ false → answer_of w c t ≡ Placed v g (length p)
  unfolding ended
  exact_placed {t} {v} x s = chosen_answer t ∙ ap (ended g (length p)) (exact_carried x) ∙ rw s refl

  pub exact_early : {t v : ℤ} → Exact g w c p t v → lt_z v (pos 0) ≡ true → answer_of w c t ≡ Dropped early
  unfolding ended
  exact_early {t} {v} x s = chosen_answer t ∙ ap (ended g (length p)) (exact_carried x) ∙ rw s refl

  pub inexact_outside : (t : ℤ) → ((v : ℤ) → Exact g w c p t v → ⊥) → answer_of w c t ≡ Dropped outside
  unfolding ended
  inexact_outside t n = go (carried g w c p (Some t)) refl
    where
      go : (s : Option ℤ) → carried g w c p (Some t) ≡ s → answer_of w c t ≡ Dropped outside
      go None e = chosen_answer t ∙ ap (ended g (length p)) e
      go (Some v) e = absurd (n v (carried_exact g w c p t v e))

-- the sum along a path has one end
pub exact_only : {g : ℕ} {w : World} {c : ℕ} {p : List ℕ} {t v u : ℤ} → Exact g w c p t v → Exact g w c p t u → v ≡ u
exact_only {g} {w} {c} {p} {t} {v} {u} x y = let e : Some v ≡ Some u = sym (exact_carried x) ∙ exact_carried y in cc

-- there is one such graph, and one such path
pub chosen_only : {w : World} {c g h : ℕ} {p q : List ℕ} → Chosen w c g p → Chosen w c h q → (g ≡ h) × (p ≡ q)
chosen_only {w} {c} {g} {h} {p} {q} k m = (e, best_unique_at e)
  where
    e : g ≡ h
    e = go (dec_lt g h) (dec_lt h g)
      where
        go : Dec (g < h) → Dec (h < g) → g ≡ h
        go (yes l) n = absurd (m.lowest g k.low l p k.best.leads)
        go (no l) (yes n) = absurd (k.lowest h m.low n q m.best.leads)
        go (no l) (no n) = omega arith

    best_unique_at : g ≡ h → p ≡ q
    best_unique_at s = let b = rw s at k.best in best_is_path (graph h w) c (omega arith) p b ∙ sym (best_is_path (graph h w) c (omega arith) q m.best)
