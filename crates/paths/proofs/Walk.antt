-- What the writing of zeros, and of the clocks along a list of next clocks, leaves in memory.
use Prim.Native.Nat.{ℕ, zero, suc, ◌+◌, ◌-◌, ◌≤◌, ◌<◌}
use native.Mathlib.Numerals.{add-one}
use native.Mathlib.Omega.{arith}
use mathlib.Core.Path.{◌≡◌, refl, sym, ap, ◌∙◌}
use mathlib.Core.List.{List, ◌∷◌, ◌++◌, append_assoc, append-nil}
use lib.ListN.{length, get_or, set, take, drop, replicate, length-set, length-replicate, take-append-drop, replicate-append-replicate}
use lib.Seq.{take-suc-set, drop-set-lt, take_all}
use Rattle.numbers.specs.Numbers.{clocks}
use Rattle.paths.specs.declared.NoRoute.{NoRoute}
use Rattle.paths.specs.declared.NoRoute.TheVariants.{Nowhere, Short}
use Rattle.std.specs.Prelude.{Result, Ok, Err}
use Rattle.paths.specs.Paths.{Net, dist, path}
use Rattle.paths.specs.Matrix.{far, graph_of, distances, nexts, along, traced}
use Rattle.paths.proofs.laws.Reach.{outside, dist_le}
use Rattle.paths.specs.laws.Graph.{graph_small, graph_far}
use Rattle.paths.proofs.laws.Table.{at_distances}
use Rattle.paths.proofs.laws.Along.{along_trace}
use Rattle.paths.proofs.laws.Traced.{traced_nowhere, traced_short, traced_steps}

pub drop_replicate : (n k x : ℕ) → drop k (replicate n x) ≡ replicate (n - k) x
drop_replicate n zero x = let e : n ≡ n - 0 = omega arith in ap (λ (i : ℕ). replicate i x) e
drop_replicate zero (suc k) x = let e : 0 ≡ 0 - suc k = omega arith in ap (λ (i : ℕ). replicate i x) e
drop_replicate (suc n) (suc k) x = let e : n - k ≡ suc n - suc k = omega arith in drop_replicate n k x ∙ ap (λ (i : ℕ). replicate i x) e

-- the first i elements are zeros
pub record Cleared (room : ℕ) (out : List ℕ) (i : ℕ) : Type 0 where
  pub whole : length out ≡ room
  pub upto : i ≤ room
  pub zeros : take i out ≡ replicate i 0

pub cleared_more : {room : ℕ} {out : List ℕ} {i : ℕ} → Cleared room out i → i < room → Cleared room (set out i 0) (i + 1)
cleared_more {room} {out} {i} c h = record {
  whole = length-set out i 0 ∙ c.whole;
  upto = omega arith;
  zeros =
      let e : i + 1 ≡ suc i = omega arith in
      rw (add-one, take-suc-set out i 0 (omega (arith, c.whole)), c.zeros) (replicate-append-replicate i 1 0 ∙ ap (λ (k : ℕ). replicate k 0) e);
}

pub cleared_all : {room : ℕ} {out : List ℕ} {i : ℕ} → Cleared room out i → room ≤ i → out ≡ replicate room 0
cleared_all {room} {out} {i} c h = let e : i ≡ room = omega (arith, c.upto) in sym (take_all i out (omega (arith, c.whole))) ∙ c.zeros ∙ ap (λ (k : ℕ). replicate k 0) e

-- s of the k steps have been written, and the walk stands at `at`
pub record Walked (ns out₀ : List ℕ) (cap c k : ℕ) (out : List ℕ) (at s : ℕ) : Type 0 where
  pub whole : length out ≡ length out₀
  pub inside : at < cap
  pub upto : s ≤ k
  pub front : take s out ++ along ns (k - s) at ≡ along ns k c
  pub rest : drop k out ≡ drop k out₀

module _ {ns out₀ : List ℕ} {cap c k : ℕ} where
  pub walk_start : c < cap → Walked ns out₀ cap c k out₀ c 0
  walk_start h = record {
    whole = refl;
    inside = h;
    upto = omega arith;
    front = ap (λ (i : ℕ). along ns i c) (omega arith);
    rest = refl;
  }

  module _ {out : List ℕ} {at s : ℕ} (w : Walked ns out₀ cap c k out at s) where
    along_one : s < k → along ns (k - s) at ≡ get_or ns at 0 ∷ along ns (k - (s + 1)) (get_or ns at 0)
    unfolding along
    along_one h = let e : k - s ≡ suc (k - (s + 1)) = omega arith in rw e

    pub walk_more : s < k → k ≤ length out₀ → get_or ns at 0 < cap → Walked ns out₀ cap c k (set out s (get_or ns at 0)) (get_or ns at 0) (s + 1)
    walk_more h l b = record {
      whole = length-set out s _ ∙ w.whole;
      inside = b;
      upto = omega arith;
      front = rw (add-one, take-suc-set out s (get_or ns at 0) (omega (arith, w.whole)), append_assoc, ← add-one, ← along_one h) w.front;
      rest = drop-set-lt k out s (get_or ns at 0) h ∙ w.rest;
    }

    pub walk_done : k ≤ s → out ≡ along ns k c ++ drop k out₀
    unfolding along
    walk_done h =
        let e : k - s ≡ 0 = omega arith in
        let q : s ≡ k = omega (arith, w.upto) in
        let f : take k out ≡ along ns k c = sym (append-nil _) ∙ (rw (e, q) at w.front) in
        sym (take-append-drop k out) ∙ rw (f, w.rest)

-- what `path` answers, and what its memory `out` holds then
abbrev Ends : List ℕ → ℕ → ℕ → ℕ → ℕ → List ℕ → Result ℕ NoRoute → Type 0
Ends m n t c room out r = (r ≡ (traced (graph_of m n t) c room).answer) × (out ≡ (traced (graph_of m n t) c room).out)

module _ (m : List ℕ) (n t c room : ℕ) {out : List ℕ} (z : out ≡ replicate room 0) where
  abbrev g : Net
  g = graph_of m n t

  -- no clock
  pub ends_outside : clocks ≤ c → Ends m n t c room out (Err Nowhere)
  ends_outside h = rw (traced_nowhere g c room (outside g c (omega (arith, graph_small m n t)))) (refl, z)

  cleared_length : length out ≡ room
  cleared_length = ap length z ∙ length-replicate {A = ℕ} room 0

  -- the clock's distance has been read
  module _ (h : c < clocks) {ds : List ℕ} (e : ds ≡ distances g) where
    pub ends_far : get_or ds c 0 ≡ far → Ends m n t c room out (Err Nowhere)
    ends_far f = rw (traced_nowhere g c room (sym (at_distances g e c h) ∙ f ∙ sym (graph_far m n t))) (refl, z)

    module _ (ne : get_or ds c 0 ≡ far → ⊥) where
      near : dist g c < g.far
      near = omega (arith, at_distances g e c h, graph_far m n t, dist_le g c)

      pub ends_short : length out < get_or ds c 0 → Ends m n t c room out (Err Short)
      ends_short l = rw (traced_short g c room near (omega (arith, at_distances g e c h, cleared_length))) (refl, z)

      -- the steps have been written over the zeros
      pub ends_steps : {ns written : List ℕ} → ns ≡ nexts g → get_or ds c 0 ≤ length out → written ≡ along ns (get_or ds c 0) c ++ drop (get_or ds c 0) out → Ends m n t c room written (Ok (get_or ds c 0))
      ends_steps {ns} {written} q l w =
          let k : get_or ds c 0 ≡ dist g c = at_distances g e c h in
          let w' : written ≡ path g c ++ replicate (room - dist g c) 0 = w ∙ rw (k, q, z, along_trace g (graph_small m n t) (dist g c) c refl near, drop_replicate room (dist g c) 0) in
          rw (traced_steps g c room near (omega (arith, cleared_length))) (ap Ok k, w')
