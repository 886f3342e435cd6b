-- Along a path a value leaves 64 bits exactly if what it is carried to is out of range. Assumes nothing.
use Rattle.std.proofs.Math.Path.{◌≡◌}
use Rattle.std.specs.Prelude.{refl, Bool, List, [], ◌∷◌, ℕ, ◌+◌, ◌≤◌, ◌<◌, length, ℤ, pos, ◌+ℤ◌, ◌-ℤ◌, Option, Some, None}
use Rattle.std.proofs.Common.{sym, ap, subst, ◌∙◌, true≢false}
use Rattle.std.proofs.Math.Bool.{true, false, cond}
use native.Mathlib.Omega.{arith}
use Rattle.std.specs.Int.Signed.{lt_z}
use Rattle.whole.specs.Whole.{Within, shifted_of}
use Rattle.whole.specs.Pairs.{Pair, xs_of, ys_of, place_for, nth, Carries}
use Rattle.whole.proofs.Theorems.{place_is, convert_at, in_sum, sum_in}
use Rattle.paths.specs.Paths.{Leads, path}
use Rattle.graphs.specs.Graphs.{World, along, some, joined, graph}
use Rattle.clocks.specs.Answers.{Placed, Dropped, through, carried, outside, ended, placed, answer_of}
use Rattle.clocks.specs.Theorems.{outside_exactly, inexact_outside}
use Rattle.clocks.specs.laws.Chains.{Lowest, which, Exact, carried_exact, exact_carried}
use Rattle.clocks.specs.laws.Chains.Lowest.{lowest, nowhere}
use Rattle.exact.specs.Words.{Leaves, at_once, later, IsOutside}

in_out : {X : Type 0} {v : ℤ} → None ≡ Some v → X
in_out e = let z : ◌≡◌ {A = ℕ} 0 1 = cc in absurd (omega arith)

out_stays : (g : ℕ) (w : World) (c : ℕ) (p : List ℕ) → carried g w c p None ≡ None
unfolding carried through
out_stays g w c [] = refl
out_stays g w c (d ∷ p) = out_stays g w d p

-- a sum that 64 bits do not hold
not_within : (t x y : ℤ) → (Within (t +ℤ y -ℤ x) → ⊥) → shifted_of t x y ≡ None
not_within t x y n = go (shifted_of t x y) refl
  where
    go : (s : Option ℤ) → shifted_of t x y ≡ s → s ≡ None
    go None e = refl
    go (Some u) e = let k = in_sum t x y u e in absurd (n (subst Within (sym k.0) k.1))

leaves_out : {g : ℕ} {w : World} {c : ℕ} {p : List ℕ} {t : ℤ} → Leaves g w c p t → carried g w c p (Some t) ≡ None
unfolding carried through
leaves_out {g} {w} (at_once {c} {d} {i} {p} {t} k n) =
    ap (carried g w d p) (convert_at t (along g w c d) i k ∙ not_within t (nth (xs_of (along g w c d)) i) (nth (ys_of (along g w c d)) i) n) ∙ out_stays g w d p
leaves_out {g} {w} (later {c} {d} {i} {p} {t} {u} k e b x) =
    ap (carried g w d p) (convert_at t (along g w c d) i k ∙ sum_in t (nth (xs_of (along g w c d)) i) (nth (ys_of (along g w c d)) i) u e b) ∙ leaves_out x

some_pair : (ps : List Pair) → some ps ≡ true → 0 < length (xs_of ps)
unfolding some xs_of
some_pair [] e = absurd (true≢false (sym e))
some_pair (x ∷ ps) e = omega arith

out_leaves : (g : ℕ) (w : World) (c : ℕ) (p : List ℕ) (t : ℤ) → Leads (graph g w) c p → carried g w c p (Some t) ≡ None → Leaves g w c p t
unfolding carried through joined
out_leaves g w c [] t l e = in_out (sym e)
out_leaves g w c (d ∷ p) t l e =
    let ps : List Pair = along g w c d in
    let k : Carries t (xs_of ps) (place_for t (xs_of ps)) = place_is t (xs_of ps) (some_pair ps l.1) in
    go k (shifted_of t (nth (xs_of ps) (place_for t (xs_of ps))) (nth (ys_of ps) (place_for t (xs_of ps)))) refl (ap (carried g w d p) (sym (convert_at t ps (place_for t (xs_of ps)) k)) ∙ e) (λ u. out_leaves g w d p u l.2)
  where
    go : {i : ℕ} → Carries t (xs_of (along g w c d)) i → (s : Option ℤ) → shifted_of t (nth (xs_of (along g w c d)) i) (nth (ys_of (along g w c d)) i) ≡ s → carried g w d p (shifted_of t (nth (xs_of (along g w c d)) i) (nth (ys_of (along g w c d)) i)) ≡ None
        → ((u : ℤ) → carried g w d p (Some u) ≡ None → Leaves g w d p u) → Leaves g w c (d ∷ p) t
    go {i} k None q e ih = at_once k (λ b. in_out (sym q ∙ sum_in t (nth (xs_of (along g w c d)) i) (nth (ys_of (along g w c d)) i) _ refl b))
    go {i} k (Some u) q e ih = let s = in_sum t (nth (xs_of (along g w c d)) i) (nth (ys_of (along g w c d)) i) u q in later k s.0 s.1 (ih u (ap (carried g w d p) (sym q) ∙ e))

module _ (w : World) (c : ℕ) (t : ℤ) where
  -- drop 2
  pub outside_leaves : answer_of w c t ≡ Dropped outside → IsOutside w c t
  outside_leaves e =
      let (g, p, k, n) = outside_exactly w c t e in
      record { graph = g; path = p; chosen = k; leaves = out_leaves g w c p t k.best.leads (go g p n (carried g w c p (Some t)) refl) }
    where
      go : (g : ℕ) (p : List ℕ) → ((v : ℤ) → Exact g w c p t v → ⊥) → (s : Option ℤ) → carried g w c p (Some t) ≡ s → carried g w c p (Some t) ≡ None
      go g p n None q = q
      go g p n (Some v) q = absurd (n v (carried_exact g w c p t v q))

  pub leaves_outside : IsOutside w c t → answer_of w c t ≡ Dropped outside
  leaves_outside x = inexact_outside w c t x.chosen (λ v y. in_out (sym (leaves_out x.leaves) ∙ exact_carried y))

  -- drops are numbered 1 to 3
  pub drop_range : {d : ℕ} → answer_of w c t ≡ Dropped d → (1 ≤ d) × (d ≤ 3)
  unfolding placed ended
  drop_range {d} e = go (which w c t)
    where
      sign : (v : ℤ) (g n : ℕ) (b : Bool) → cond b (Dropped 3) (Placed v g n) ≡ Dropped d → (1 ≤ d) × (d ≤ 3)
      sign v g n true q = let z : ◌≡◌ {A = ℕ} 3 d = cc in (omega arith, omega arith)
      sign v g n false q = let z : ◌≡◌ {A = ℕ} 0 1 = cc in absurd (omega arith)

      at_end : (g n : ℕ) (s : Option ℤ) → ended g n s ≡ Dropped d → (1 ≤ d) × (d ≤ 3)
      at_end g n None q = let z : ◌≡◌ {A = ℕ} 2 d = cc in (omega arith, omega arith)
      at_end g n (Some v) q = sign v g n (lt_z v (pos 0)) q

      go : Lowest w c t → (1 ≤ d) × (d ≤ 3)
      go (lowest g a b r l q) = at_end g (length (path (graph g w) c)) (carried g w c (path (graph g w) c) (Some t)) (sym q ∙ e)
      go (nowhere n q) = let k : Dropped 1 ≡ Dropped d = sym q ∙ e in let z : ◌≡◌ {A = ℕ} 1 d = cc in (omega arith, omega arith)
