-- What the matrix holds when the pairs of a graph were joined in it: what `marked` says, and the graphs one after the other. Assumes nothing.
use Prim.Native.Nat.{ℕ, zero, suc, ◌+◌, ◌*◌, ◌/◌, ◌%◌, ◌<◌}
use native.Mathlib.Omega.{arith}
use Rattle.std.specs.Prelude.{Bool, true, false, ◌||◌, ◌≡◌, List, [], ◌⊎◌, ltb, ℤ, length, replicate}
use Rattle.std.proofs.Math.Bool.{cond}
use Rattle.std.proofs.Math.Path.{refl, ap}
use Rattle.std.proofs.Common.{sym, ◌∙◌, inl, inr, eq-eqb, ne_eqb}
use Rattle.std.proofs.Math.ListN.{get_or}
use Rattle.std.proofs.lemmas.List.{length-replicate, get_or-replicate}
use Rattle.numbers.specs.Numbers.{clocks}
use Rattle.paths.specs.Matrix.{graph_of, distances, nexts}
use Rattle.paths.proofs.laws.Table.{tabulate_is, length_tabulate, get_d_tabulate}
use Rattle.graphs.specs.Links.{links_of}
use Rattle.graphs.specs.Graphs.{World, world_of, to_trace, guess, joined, graph, linked, marked}
use Rattle.graphs.specs.laws.Matrix.{Holds, Marks, cell, joined_is, matrix_distances, matrix_nexts}
use Rattle.graphs.specs.laws.Added.{or_right, or_either, both_ways}
use Rattle.graphs.specs.laws.Shape.{joined_more}

module _ (P : ℕ → ℕ → Bool) (m : List ℕ) where
  -- a memory of another size
  pub marked_other : (length m ≡ clocks * clocks → ⊥) → m ≡ marked P m
  unfolding marked
  marked_other n = rw (ne_eqb (length m) (clocks * clocks) n) refl

  module _ (z : length m ≡ clocks * clocks) where
    -- the cells of P set, and no others
    pub marks_marked : {m' : List ℕ} → Marks P m m' → m' ≡ marked P m
    unfolding marked
    marks_marked {m'} k =
        rw (eq-eqb (length m) (clocks * clocks) z)
        (tabulate_is (λ i. cond (P (i / clocks) (i % clocks)) 1 (get_or m i 0)) (length m) m' k.room (λ i h. at i (omega (arith, z))))
      where
        at : (i : ℕ) → i < clocks * clocks → get_or m' i 0 ≡ cond (P (i / clocks) (i % clocks)) 1 (get_or m i 0)
        at i h =
            let e : i / clocks * clocks + i % clocks ≡ i = omega arith in
            rw e at (k.cells (i / clocks) (i % clocks) (omega arith) (omega arith))

    pub marked_length : length (marked P m) ≡ clocks * clocks
    unfolding marked
    marked_length = rw (eq-eqb (length m) (clocks * clocks) z) (length_tabulate (λ i. cond (P (i / clocks) (i % clocks)) 1 (get_or m i 0)) 0 (length m) ∙ z)

    pub marked_cell : (e f : ℕ) → e < clocks → f < clocks → cell (marked P m) e f ≡ cond (P e f) 1 (cell m e f)
    unfolding marked
    marked_cell e f he hf =
        let i : ℕ = e * clocks + f in
        let q : i / clocks ≡ e = omega arith in
        let r : i % clocks ≡ f = omega arith in
        let s : 0 + i ≡ i = omega arith in
        rw (eq-eqb (length m) (clocks * clocks) z)
        (get_d_tabulate (λ i. cond (P (i / clocks) (i % clocks)) 1 (get_or m i 0)) 0 (length m) i 0 (omega (arith, z))
        ∙ ap (λ (j : ℕ). cond (P (j / clocks) (j % clocks)) 1 (get_or m j 0)) s
        ∙ ap (λ (b : Bool). cond b 1 (get_or m i 0)) (ap (λ (j : ℕ). P j (i % clocks)) q ∙ ap (P e) r))

    -- over what it holds
    pub marked_holds : {f : ℕ → ℕ → Bool} → Holds f m → Holds (λ c d. P c d || f c d) (marked P m)
    marked_holds {f} h = record { at = λ c d hc hd. ap (ltb 0) (marked_cell c d hc hd) ∙ either (P c d) (cell m c d) ∙ ap (λ (b : Bool). P c d || b) (h.at c d hc hd) }
      where
        either : (p : Bool) (x : ℕ) → ltb 0 (cond p 1 x) ≡ (p || ltb 0 x)
        either true x = refl
        either false x = refl

-- the same pairs
holds_same : {f g : ℕ → ℕ → Bool} {m : List ℕ} → ((c d : ℕ) → f c d ≡ g c d) → Holds f m → Holds g m
holds_same e h = record { at = λ c d hc hd. h.at c d hc hd ∙ e c d }

-- zeros, and then the correspondences: the graph without guesses
pub start_holds : (w : World) → Holds (joined 0 w) (marked (linked w.links) (replicate (clocks * clocks) 0))
unfolding guess
start_holds w =
    let z = length-replicate {A = ℕ} (clocks * clocks) 0 in
    let dark : Holds (λ c d. false) (replicate (clocks * clocks) 0) = record { at = λ c d hc hd. rw (get_or-replicate {A = ℕ} (clocks * clocks) (c * clocks + d) 0 0 (omega arith)) refl } in
    holds_same (λ c d. or_none (linked w.links c d) ∙ sym (joined_is 0 w c d)) (marked_holds (linked w.links) (replicate (clocks * clocks) 0) z dark)
  where
    or_none : (p : Bool) → (p || false) ≡ p
    or_none true = refl
    or_none false = refl

-- the guesses of the next graph contain those of the one before
pub more_holds : (g h : ℕ) (w : World) (m : List ℕ) (P : ℕ → ℕ → Bool) → h ≡ g + 1 → length m ≡ clocks * clocks → ((c d : ℕ) → P c d ≡ guess h w c d) → Holds (joined g w) m → Holds (joined h w) (marked P m)
more_holds g h w m P e z s k =
    holds_same (λ c d. ap (λ (b : Bool). b || joined g w c d) (s c d) ∙ both_ways (guess h w c d || joined g w c d) (joined h w c d) (to c d) (fro c d)) (marked_holds P m z k)
  where
    up : (c d : ℕ) → (guess h w c d ≡ true) ⊎ (joined g w c d ≡ true) → joined h w c d ≡ true
    up c d (inl q) = joined_is h w c d ∙ rw q refl
    up c d (inr q) = joined_more g h w c d (omega arith) q

    to : (c d : ℕ) → (guess h w c d || joined g w c d) ≡ true → joined h w c d ≡ true
    to c d q = up c d (or_either (guess h w c d) (joined g w c d) q)

    down : (c d : ℕ) → (guess h w c d ≡ true) ⊎ (linked w.links c d ≡ true) → (guess h w c d || joined g w c d) ≡ true
    down c d (inl q) = rw q refl
    down c d (inr q) = or_right (guess h w c d) (joined_is g w c d ∙ or_right (guess g w c d) q)

    fro : (c d : ℕ) → joined h w c d ≡ true → (guess h w c d || joined g w c d) ≡ true
    fro c d q = down c d (or_either (guess h w c d) (linked w.links c d) (sym (joined_is h w c d) ∙ q))

-- a guess asks nothing of the correspondences
pub guess_alone : (g : ℕ) (fs : List ℕ) (xs : List ℤ) (gs : List ℕ) (ys : List ℤ) (machines files pinned trace c d : ℕ)
    → guess g (world_of [] [] [] [] machines files pinned trace) c d ≡ guess g (world_of fs xs gs ys machines files pinned trace) c d
unfolding guess to_trace
guess_alone g fs xs gs ys machines files pinned trace c d = refl

-- ---- one graph after the other
-- the matrix with the correspondences and the guesses of the graphs up to g
unfoldable pub filled_to : ℕ → World → List ℕ
filled_to zero w = marked (linked w.links) (replicate (clocks * clocks) 0)
filled_to (suc g) w = marked (guess (suc g) w) (filled_to g w)

filled_length : (g : ℕ) (w : World) → length (filled_to g w) ≡ clocks * clocks
unfolding filled_to
filled_length zero w = marked_length (linked w.links) (replicate (clocks * clocks) 0) (length-replicate {A = ℕ} (clocks * clocks) 0)
filled_length (suc g) w = marked_length (guess (suc g) w) (filled_to g w) (filled_length g w)

pub filled_holds : (g : ℕ) (w : World) → Holds (joined g w) (filled_to g w)
unfolding filled_to
filled_holds zero w = start_holds w
filled_holds (suc g) w = more_holds g (suc g) w (filled_to g w) (guess (suc g) w) (omega arith) (filled_length g w) (λ c d. refl) (filled_holds g w)

-- ---- what is searched: the matrix after start, and after the next graph was added
module _ (fs : List ℕ) (xs : List ℤ) (gs : List ℕ) (ys : List ℤ) (machines files pinned trace : ℕ) where
  abbrev world : World
  world = world_of fs xs gs ys machines files pinned trace

  -- the matrix has the size, and the pairs of graph g
  pub record Ready (g : ℕ) (m : List ℕ) : Type 0 where
    pub room : length m ≡ clocks * clocks
    pub pairs : Holds (joined g world) m

  pub ready_start : (k : ℕ) {n : List ℕ} → k ≡ clocks * clocks → n ≡ marked (linked (links_of fs xs gs ys)) (replicate k 0) → Ready 0 n
  ready_start k {n} z e =
      rw (e, z) (record {
        room = marked_length (linked (links_of fs xs gs ys)) (replicate (clocks * clocks) 0) (length-replicate {A = ℕ} (clocks * clocks) 0);
        pairs = start_holds world;
      })

  pub ready_more : {g h : ℕ} {m n : List ℕ} → h ≡ g + 1 → Ready g m → n ≡ marked (guess h (world_of [] [] [] [] machines files pinned trace)) m → Ready h n
  ready_more {g} {h} {m} {n} q r e =
      rw e (record {
        room = marked_length (guess h (world_of [] [] [] [] machines files pinned trace)) m r.room;
        pairs = more_holds g h world m (guess h (world_of [] [] [] [] machines files pinned trace)) q r.room (guess_alone h fs xs gs ys machines files pinned trace) r.pairs;
      })

  pub ready_distances : {g : ℕ} {m : List ℕ} → Ready g m → distances (graph_of m clocks trace) ≡ distances (graph g world)
  ready_distances {g} {m} r = matrix_distances g world m r.room r.pairs

  pub ready_nexts : {g : ℕ} {m : List ℕ} → Ready g m → nexts (graph_of m clocks trace) ≡ nexts (graph g world)
  ready_nexts {g} {m} r = matrix_nexts g world m r.room r.pairs
