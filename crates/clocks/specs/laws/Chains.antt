-- When an event is unrelated, and what a placed event's time is. Assumes nothing.
use Rattle.std.specs.Prelude.{◌≡◌, refl, Bool, true, false, cond, List, [], ◌∷◌, ℕ, zero, suc, ◌≤◌, ◌<◌, length, ℤ, pos, ◌+ℤ◌, ◌-ℤ◌, Option, Some, None}
use Rattle.std.proofs.Common.{sym, ap, ◌∙◌, arith, ltb-true, ltb-false}
use Rattle.std.specs.Int.Signed.{lt_z}
use Rattle.numbers.specs.Numbers.{clocks}
use Rattle.whole.specs.Whole.{Within}
use Rattle.whole.specs.Pairs.{Pair, xs_of, ys_of, converted, place_for, nth, Carries}
use Rattle.whole.proofs.Theorems.{place_is, convert_at, convert_none, in_sum, sum_in}
use Rattle.paths.specs.Paths.{Leads, IsBest, dist, trace, path}
use Rattle.paths.specs.Matrix.{far}
use Rattle.paths.proofs.Theorems.{path_best, far_no_path, no_path_far, steps_length, steps_small}
use Rattle.paths.proofs.laws.Reach.{dist_le, dist_more, goal_at}
use Rattle.graphs.specs.Graphs.{World, along, graph}
use Rattle.graphs.specs.laws.Shape.{graph_more}
use Rattle.clocks.specs.Answers.{Placed, Dropped, through, carried, unrelated, outside, early, ended, placed, related, answer_of}

-- ---- the three cases of an answer
never_one : (g n : ℕ) (s : Option ℤ) → ended g n s ≡ Dropped unrelated → ⊥
unfolding ended
never_one g n None e = let q : ◌≡◌ {A = ℕ} 2 1 = cc in omega arith
never_one g n (Some t) e = go (lt_z t (pos 0)) e
  where
    go : (b : Bool) → cond b (Dropped 3) (Placed t g n) ≡ Dropped unrelated → ⊥
    go true e = let q : ◌≡◌ {A = ℕ} 3 1 = cc in omega arith
    go false e = let q : ◌≡◌ {A = ℕ} 0 1 = cc in omega arith

placed_never : (g : ℕ) (w : World) (c : ℕ) (t : ℤ) → placed g w c t ≡ Dropped unrelated → ⊥
unfolding placed
placed_never g w c t e = never_one g _ _ e

-- the lowest graph that has a path, and none
pub data Lowest (w : World) (c : ℕ) (t : ℤ) : Type 0 where
  lowest : (g : ℕ) → 1 ≤ g → g ≤ 3 → related g w c ≡ true → ((h : ℕ) → 1 ≤ h → h < g → related h w c ≡ false) → answer_of w c t ≡ placed g w c t → Lowest w c t
  nowhere : ((h : ℕ) → 1 ≤ h → h ≤ 3 → related h w c ≡ false) → answer_of w c t ≡ Dropped unrelated → Lowest w c t

pub which : (w : World) (c : ℕ) (t : ℤ) → Lowest w c t
unfolding answer_of
which w c t = go (related 1 w c) (related 2 w c) (related 3 w c) refl refl refl
  where
    three : (P : ℕ → Type 0) → P 1 → P 2 → P 3 → (h : ℕ) → 1 ≤ h → h ≤ 3 → P h
    three P a b d zero l m = absurd (omega arith)
    three P a b d (suc zero) l m = a
    three P a b d (suc (suc zero)) l m = b
    three P a b d (suc (suc (suc zero))) l m = d
    three P a b d (suc (suc (suc (suc h)))) l m = absurd (omega arith)

    two : (P : ℕ → Type 0) → P 1 → P 2 → (h : ℕ) → 1 ≤ h → h < 3 → P h
    two P a b zero l m = absurd (omega arith)
    two P a b (suc zero) l m = a
    two P a b (suc (suc zero)) l m = b
    two P a b (suc (suc (suc h))) l m = absurd (omega arith)

    one : (P : ℕ → Type 0) → P 1 → (h : ℕ) → 1 ≤ h → h < 2 → P h
    one P a zero l m = absurd (omega arith)
    one P a (suc zero) l m = a
    one P a (suc (suc h)) l m = absurd (omega arith)

    go : (p q s : Bool) → related 1 w c ≡ p → related 2 w c ≡ q → related 3 w c ≡ s → Lowest w c t
    go true q s a b d = lowest 1 (omega arith) (omega arith) a (λ h l m. absurd (omega arith)) (rw a refl)
    go false true s a b d = lowest 2 (omega arith) (omega arith) b (one (λ h. related h w c ≡ false) a) (rw (a, b) refl)
    go false false true a b d = lowest 3 (omega arith) (omega arith) d (two (λ h. related h w c ≡ false) a b) (rw (a, b, d) refl)
    go false false false a b d = nowhere (three (λ h. related h w c ≡ false) a b d) (rw (a, b, d) refl)

-- ---- related, by chains
pub related_near : (g : ℕ) (w : World) (c : ℕ) → related g w c ≡ true → dist (graph g w) c < far
unfolding related
related_near g w c e = ltb-true (dist (graph g w) c) far e

pub far_related : (g : ℕ) (w : World) (c : ℕ) → related g w c ≡ false → dist (graph g w) c ≡ far
unfolding related
far_related g w c e = let h : far ≤ dist (graph g w) c = ltb-false (dist (graph g w) c) far e in omega (arith, dist_le (graph g w) c)

pub unrelated_none : (w : World) (c : ℕ) (t : ℤ) → answer_of w c t ≡ Dropped unrelated → (p : List ℕ) → Leads (graph 3 w) c p → ⊥
unrelated_none w c t e = go (which w c t)
  where
    go : Lowest w c t → (p : List ℕ) → Leads (graph 3 w) c p → ⊥
    go (lowest g a b r l q) p h = placed_never g w c t (sym q ∙ e)
    go (nowhere n q) p h = far_no_path (graph 3 w) c (omega arith) (far_related 3 w c (n 3 (omega arith) (omega arith))) p h

pub none_unrelated : (w : World) (c : ℕ) (t : ℤ) → ((p : List ℕ) → Leads (graph 3 w) c p → ⊥) → answer_of w c t ≡ Dropped unrelated
none_unrelated w c t n = go (which w c t)
  where
    go : Lowest w c t → answer_of w c t ≡ Dropped unrelated
    go (lowest g a b r l q) =
        let f : dist (graph g w) c < far = related_near g w c r in
        let d : dist (graph 3 w) c ≡ far = no_path_far (graph 3 w) c n in
        absurd (omega (arith, dist_more (graph_more g 3 w b) c))
    go (nowhere m q) = q

-- ---- the exact sum along a path
-- t on clock c, carried along the path p of graph g, is v: over each pair by the correspondence that carries it, exactly, and within 64 bits
pub data Exact (g : ℕ) (w : World) : ℕ → List ℕ → ℤ → ℤ → Type 0 where
  arrived : {c : ℕ} {t : ℤ} → Exact g w c [] t t
  over : {c d i : ℕ} {p : List ℕ} {t u v : ℤ} → Carries t (xs_of (along g w c d)) i → t +ℤ nth (ys_of (along g w c d)) i -ℤ nth (xs_of (along g w c d)) i ≡ u → Within u → Exact g w d p u v → Exact g w c (d ∷ p) t v

out_stays : (g : ℕ) (w : World) (c : ℕ) (p : List ℕ) → carried g w c p None ≡ None
unfolding carried through
out_stays g w c [] = refl
out_stays g w c (d ∷ p) = out_stays g w d p

in_out : {X : Type 0} {v : ℤ} → None ≡ Some v → X
in_out e = let z : ◌≡◌ {A = ℕ} 0 1 = cc in absurd (omega arith)

some_x : (t : ℤ) (ps : List Pair) (u : ℤ) → converted t ps ≡ Some u → 0 < length (xs_of ps)
unfolding xs_of
some_x t [] u q = in_out (sym (convert_none t) ∙ q)
some_x t (x ∷ ps) u q = omega arith

pub carried_exact : (g : ℕ) (w : World) (c : ℕ) (p : List ℕ) (t v : ℤ) → carried g w c p (Some t) ≡ Some v → Exact g w c p t v
unfolding carried through
carried_exact g w c [] t v e = let q : t ≡ v = cc in rw q arrived
carried_exact g w c (d ∷ p) t v e = go (converted t (along g w c d)) refl e (λ u. carried_exact g w d p u v)
  where
    go : (s : Option ℤ) → converted t (along g w c d) ≡ s → carried g w d p s ≡ Some v → ((u : ℤ) → carried g w d p (Some u) ≡ Some v → Exact g w d p u v) → Exact g w c (d ∷ p) t v
    go None q e ih = in_out (sym (out_stays g w d p) ∙ e)
    go (Some u) q e ih =
        let k : Carries t (xs_of (along g w c d)) (place_for t (xs_of (along g w c d))) = place_is t (xs_of (along g w c d)) (some_x t (along g w c d) u q) in
        let s = in_sum t (nth (xs_of (along g w c d)) (place_for t (xs_of (along g w c d)))) (nth (ys_of (along g w c d)) (place_for t (xs_of (along g w c d)))) u (sym (convert_at t (along g w c d) (place_for t (xs_of (along g w c d))) k) ∙ q) in
        over k s.0 s.1 (ih u e)

pub exact_carried : {g : ℕ} {w : World} {c : ℕ} {p : List ℕ} {t v : ℤ} → Exact g w c p t v → carried g w c p (Some t) ≡ Some v
unfolding carried through
exact_carried arrived = refl
exact_carried {g} {w} (over {c} {d} {i} {p} {t} {u} {v} k e b x) =
    ap (carried g w d p) (convert_at t (along g w c d) i k ∙ sum_in t (nth (xs_of (along g w c d)) i) (nth (ys_of (along g w c d)) i) u e b) ∙ exact_carried x

-- ---- the answer by its value at the end
ended_placed : (g n : ℕ) (s : Option ℤ) (v : ℤ) (h m : ℕ) → ended g n s ≡ Placed v h m → (s ≡ Some v) × (g ≡ h) × (n ≡ m) × (lt_z v (pos 0) ≡ false)
unfolding ended
ended_placed g n None v h m e = let z : ◌≡◌ {A = ℕ} 0 1 = cc in absurd (omega arith)
ended_placed g n (Some t) v h m e = go (lt_z t (pos 0)) refl e
  where
    go : (b : Bool) → lt_z t (pos 0) ≡ b → cond b (Dropped 3) (Placed t g n) ≡ Placed v h m → (Some t ≡ Some v) × (g ≡ h) × (n ≡ m) × (lt_z v (pos 0) ≡ false)
    go true q e = let z : ◌≡◌ {A = ℕ} 0 1 = cc in absurd (omega arith)
    go false q e = let a : t ≡ v = cc in (cc, cc, cc, ap (λ (x : ℤ). lt_z x (pos 0)) (sym a) ∙ q)

ended_outside : (g n : ℕ) (s : Option ℤ) → ended g n s ≡ Dropped outside → s ≡ None
unfolding ended
ended_outside g n None e = refl
ended_outside g n (Some t) e = go (lt_z t (pos 0)) e
  where
    go : (b : Bool) → cond b (Dropped 3) (Placed t g n) ≡ Dropped outside → Some t ≡ None
    go true e = let z : ◌≡◌ {A = ℕ} 3 2 = cc in absurd (omega arith)
    go false e = let z : ◌≡◌ {A = ℕ} 0 1 = cc in absurd (omega arith)

ended_early : (g n : ℕ) (s : Option ℤ) → ended g n s ≡ Dropped early → (v : ℤ) × (s ≡ Some v) × (lt_z v (pos 0) ≡ true)
unfolding ended
ended_early g n None e = let z : ◌≡◌ {A = ℕ} 2 3 = cc in absurd (omega arith)
ended_early g n (Some t) e = go (lt_z t (pos 0)) refl e
  where
    go : (b : Bool) → lt_z t (pos 0) ≡ b → cond b (Dropped 3) (Placed t g n) ≡ Dropped early → (v : ℤ) × (Some t ≡ Some v) × (lt_z v (pos 0) ≡ true)
    go true q e = (t, refl, q)
    go false q e = let z : ◌≡◌ {A = ℕ} 0 1 = cc in absurd (omega arith)

-- what an event's path is: the best path of the lowest graph that has one
pub record Chosen (w : World) (c g : ℕ) (p : List ℕ) : Type 0 where
  pub low : 1 ≤ g
  pub high : g ≤ 3
  pub best : IsBest (graph g w) c p
  pub lowest : (h : ℕ) → 1 ≤ h → h < g → (q : List ℕ) → Leads (graph h w) c q → ⊥
  pub short : length p < clocks

chosen : (w : World) (c g : ℕ) → 1 ≤ g → g ≤ 3 → related g w c ≡ true → ((h : ℕ) → 1 ≤ h → h < g → related h w c ≡ false) → Chosen w c g (path (graph g w) c)
chosen w c g a b r l =
    let f : dist (graph g w) c < far = related_near g w c r in record {
      low = a;
      high = b;
      best = path_best (graph g w) c f;
      lowest = λ h i j q m. far_no_path (graph h w) c (omega arith) (far_related h w c (l h i j)) q m;
      short = omega (arith, steps_length (graph g w) c, steps_small (graph g w) c f);
    }

pub placed_is : (w : World) (c : ℕ) (t v : ℤ) (g n : ℕ) → answer_of w c t ≡ Placed v g n → (p : List ℕ) × Chosen w c g p × (length p ≡ n) × Exact g w c p t v × (lt_z v (pos 0) ≡ false)
unfolding placed
placed_is w c t v g n e = go (which w c t)
  where
    go : Lowest w c t → (p : List ℕ) × Chosen w c g p × (length p ≡ n) × Exact g w c p t v × (lt_z v (pos 0) ≡ false)
    go (nowhere m q) = let k : Dropped unrelated ≡ Placed v g n = sym q ∙ e in let z : ◌≡◌ {A = ℕ} 0 1 = cc in absurd (omega arith)
    go (lowest h a b r l q) =
        let (s, i, j, k) = ended_placed h (length (path (graph h w) c)) (carried h w c (path (graph h w) c) (Some t)) v g n (sym q ∙ e) in
        let x : Exact h w c (path (graph h w) c) t v = carried_exact h w c (path (graph h w) c) t v s in
        let res : (p : List ℕ) × Chosen w c h p × (length p ≡ n) × Exact h w c p t v × (lt_z v (pos 0) ≡ false) = (path (graph h w) c, chosen w c h a b r l, j, x, k) in
        rw i at res

pub outside_is : (w : World) (c : ℕ) (t : ℤ) → answer_of w c t ≡ Dropped outside → (g : ℕ) × (p : List ℕ) × Chosen w c g p × ((v : ℤ) → Exact g w c p t v → ⊥)
unfolding placed
outside_is w c t e = go (which w c t)
  where
    go : Lowest w c t → (g : ℕ) × (p : List ℕ) × Chosen w c g p × ((v : ℤ) → Exact g w c p t v → ⊥)
    go (nowhere m q) = let k : Dropped unrelated ≡ Dropped outside = sym q ∙ e in let z : ◌≡◌ {A = ℕ} 1 2 = cc in absurd (omega arith)
    go (lowest h a b r l q) =
        let s : carried h w c (path (graph h w) c) (Some t) ≡ None = ended_outside h (length (path (graph h w) c)) (carried h w c (path (graph h w) c) (Some t)) (sym q ∙ e) in
        (h, path (graph h w) c, chosen w c h a b r l, λ v x. in_out (sym s ∙ exact_carried x))

pub early_is : (w : World) (c : ℕ) (t : ℤ) → answer_of w c t ≡ Dropped early → (g : ℕ) × (p : List ℕ) × (v : ℤ) × Chosen w c g p × Exact g w c p t v × (lt_z v (pos 0) ≡ true)
unfolding placed
early_is w c t e = go (which w c t)
  where
    go : Lowest w c t → (g : ℕ) × (p : List ℕ) × (v : ℤ) × Chosen w c g p × Exact g w c p t v × (lt_z v (pos 0) ≡ true)
    go (nowhere m q) = let k : Dropped unrelated ≡ Dropped early = sym q ∙ e in let z : ◌≡◌ {A = ℕ} 1 3 = cc in absurd (omega arith)
    go (lowest h a b r l q) =
        let (v, s, k) = ended_early h (length (path (graph h w) c)) (carried h w c (path (graph h w) c) (Some t)) (sym q ∙ e) in
        (h, path (graph h w) c, v, chosen w c h a b r l, carried_exact h w c (path (graph h w) c) t v s, k)

-- ---- trace time itself
pub at_trace : (w : World) (t : ℤ) → w.trace < clocks → answer_of w w.trace t ≡ ended 1 0 (Some t)
unfolding answer_of related placed trace carried
at_trace w t h =
    let z : dist (graph 1 w) w.trace ≡ 0 = goal_at (graph 1 w) h in
    rw (z) refl
