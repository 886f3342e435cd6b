-- A matrix that holds a graph: which cells are set when two clocks, and the clocks of the links one after the other, are joined. Assumes nothing.
use Rattle.std.specs.Prelude.{ℕ, ◌+◌, ◌*◌, ◌/◌, ◌%◌, ◌^◌, ◌≤◌, ◌<◌, Bool, true, false, cond, ◌&&◌, ◌||◌, ◌≡◌, List, [], ◌∷◌, ◌++◌, eqb, ℤ, length, get_or, set, take}
use Rattle.std.proofs.Common.{add-one, arith, sym, ap, ◌∙◌, length-set, get_or-set_same, get_or-set_other, eq-eqb, ne_eqb}
use Rattle.std.proofs.Math.Nat.{pow-le-pow_right, div-eq_of_lt}
use Rattle.std.proofs.Math.Decide.{dec_lt, ℕ_discrete}
use Rattle.std.proofs.Math.Path.{refl}
use Rattle.std.proofs.Math.Seq.{take-length}
use Rattle.numbers.specs.Numbers.{clocks}
use Rattle.whole.specs.Pairs.{Pair}
use Rattle.paths.specs.Matrix.{pair_of, is_graph, empty, graph_of, distances, nexts}
use Rattle.paths.specs.laws.Graph.{whole_graph, graph_held, graph_empty, graph_whole}
use Rattle.graphs.specs.Links.{Link, links_of, list_of}
use Rattle.graphs.specs.Graphs.{World, guess, or_guess, along, some, joined, graph, linked}
use Rattle.graphs.specs.laws.Links.{link_at, seen, list_more, take_links}
use Rattle.graphs.specs.laws.Same.{Alike, distances_same, nexts_same, distances_none, nexts_none}

-- ---- a pair of a graph has a list or is guessed
or_guess_lem : (b : Bool) (ps : List Pair) → some (or_guess b ps) ≡ (b || some ps)
unfolding or_guess some
or_guess_lem true [] = refl
or_guess_lem true (p ∷ ps) = refl
or_guess_lem false [] = refl
or_guess_lem false (p ∷ ps) = refl

pub joined_is : (g : ℕ) (w : World) (c d : ℕ) → joined g w c d ≡ (guess g w c d || some (list_of w.links c d))
unfolding joined along
joined_is g w c d = or_guess_lem (guess g w c d) (list_of w.links c d)

-- ---- whether one correspondence joins e and f
abbrev pub joins : ℕ → ℕ → ℕ → ℕ → Bool
joins c d e f = (eqb c e && eqb d f) || (eqb c f && eqb d e)

pub some_append : (ps qs : List Pair) → some (ps ++ qs) ≡ (some ps || some qs)
unfolding some
some_append [] qs = refl
some_append (p ∷ ps) qs = refl

pub some_seen : (l : Link) (e f : ℕ) → some (seen l e f) ≡ joins l.a l.b e f
unfolding some
some_seen l e f =
    elim (eqb l.a e && eqb l.b f) as (λ p. some (cond p (record { x = l.x; y = l.y } ∷ []) (cond (eqb l.a f && eqb l.b e) (record { x = l.y; y = l.x } ∷ []) [])) ≡ (p || (eqb l.a f && eqb l.b e))) [
      | true ↦ refl
      | false ↦ elim (eqb l.a f && eqb l.b e) as (λ q. some (cond q (record { x = l.y; y = l.x } ∷ []) []) ≡ q) [ true ↦ refl | false ↦ refl ]
    ]

-- set by one, or by another
or_cond : (p q : Bool) (x : ℕ) → cond q 1 (cond p 1 x) ≡ cond (p || q) 1 x
or_cond true true x = refl
or_cond true false x = refl
or_cond false q x = refl

-- ---- what a matrix holds
-- f of every two clocks
pub record Holds (f : ℕ → ℕ → Bool) (m : List ℕ) : Type 0 where
  pub at : (e d : ℕ) → e < clocks → d < clocks → pair_of m clocks e d ≡ f e d

-- the cell of two clocks
abbrev pub cell : List ℕ → ℕ → ℕ → ℕ
cell m e f = get_or m (e * clocks + f) 0

-- m' is m with the cell of each pair of P set
pub record Marks (P : ℕ → ℕ → Bool) (m m' : List ℕ) : Type 0 where
  pub room : length m' ≡ length m
  pub cells : (e f : ℕ) → e < clocks → f < clocks → cell m' e f ≡ cond (P e f) 1 (cell m e f)

-- what stands in a cell after one is set
set_cell : (m : List ℕ) (c d e f : ℕ) → length m ≡ clocks * clocks → c < clocks → d < clocks → e < clocks → f < clocks → cell (set m (c * clocks + d) 1) e f ≡ cond (eqb c e && eqb d f) 1 (cell m e f)
set_cell m c d e f z hc hd he hf = go (ℕ_discrete c e) (ℕ_discrete d f)
  where
    other : ((e * clocks + f ≡ c * clocks + d) → ⊥) → (eqb c e && eqb d f) ≡ false → cell (set m (c * clocks + d) 1) e f ≡ cond (eqb c e && eqb d f) 1 (cell m e f)
    other n q = get_or-set_other m (c * clocks + d) (e * clocks + f) 1 0 n ∙ sym (ap (λ (b : Bool). cond b 1 (cell m e f)) q)

    go : Dec (c ≡ e) → Dec (d ≡ f) → cell (set m (c * clocks + d) 1) e f ≡ cond (eqb c e && eqb d f) 1 (cell m e f)
    go (yes p) (yes q) =
        let s : e * clocks + f ≡ c * clocks + d = omega arith in
        rw (eq-eqb c e p, eq-eqb d f q) (ap (λ (i : ℕ). get_or (set m (c * clocks + d) 1) i 0) s ∙ get_or-set_same m (c * clocks + d) 1 0 (omega arith))
    go (yes p) (no q) = other (λ s. q (omega arith)) (rw (eq-eqb c e p, ne_eqb d f q) refl)
    go (no p) q = other (λ s. p (omega arith)) (rw (ne_eqb c e p) refl)

pub join_both : (m : List ℕ) (c d : ℕ) → length m ≡ clocks * clocks → c < clocks → d < clocks → Marks (joins c d) m (set (set m (c * clocks + d) 1) (d * clocks + c) 1)
join_both m c d z hc hd = record {
  room = length-set (set m (c * clocks + d) 1) (d * clocks + c) 1 ∙ length-set m (c * clocks + d) 1;
  cells = λ e f he hf.
      set_cell (set m (c * clocks + d) 1) d c e f (length-set m (c * clocks + d) 1 ∙ z) hd hc he hf
      ∙ ap (λ (x : ℕ). cond (eqb d e && eqb c f) 1 x) (set_cell m c d e f z hc hd he hf)
      ∙ or_cond (eqb c e && eqb d f) (eqb d e && eqb c f) (cell m e f)
      ∙ ap (λ (b : Bool). cond ((eqb c e && eqb d f) || b) 1 (cell m e f)) (swap (eqb d e) (eqb c f));
}
  where
    swap : (p q : Bool) → (p && q) ≡ (q && p)
    swap true true = refl
    swap true false = refl
    swap false true = refl
    swap false false = refl

-- no clock: nothing is joined
pub join_none : (m : List ℕ) (c d : ℕ) → ((e f : ℕ) → e < clocks → f < clocks → joins c d e f ≡ false) → Marks (joins c d) m m
join_none m c d n = record { room = refl; cells = λ e f he hf. sym (ap (λ (b : Bool). cond b 1 (cell m e f)) (n e f he hf)) }

pub past_left : (c d : ℕ) → clocks ≤ c → (e f : ℕ) → e < clocks → f < clocks → joins c d e f ≡ false
past_left c d h e f he hf = rw (ne_eqb c e (λ q. omega arith), ne_eqb c f (λ q. omega arith)) refl

pub past_right : (c d : ℕ) → clocks ≤ d → (e f : ℕ) → e < clocks → f < clocks → joins c d e f ≡ false
past_right c d h e f he hf = rw (ne_eqb d f (λ q. omega arith), ne_eqb d e (λ q. omega arith)) (no (eqb c e) (eqb c f))
  where
    no : (p q : Bool) → ((p && false) || (q && false)) ≡ false
    no true true = refl
    no true false = refl
    no false true = refl
    no false false = refl

-- ---- the links one after the other
module _ (fs : List ℕ) (xs : List ℤ) (gs : List ℕ) (ys : List ℤ) (m₀ : List ℕ) where
  -- m is m₀ with the pairs of the first k links
  pub record Linked (m : List ℕ) (k : ℕ) : Type 0 where
    pub room : length m ≡ clocks * clocks
    pub upto : k ≤ length (links_of fs xs gs ys)
    pub marks : Marks (linked (take k (links_of fs xs gs ys))) m₀ m

  pub link_start : length m₀ ≡ clocks * clocks → Linked m₀ 0
  unfolding some list_of
  link_start z = record { room = z; upto = omega arith; marks = record { room = refl; cells = λ e f he hf. refl } }

  pub link_more : {m m' : List ℕ} {k : ℕ} → Linked m k → k < length (links_of fs xs gs ys) → Marks (joins (get_or fs k 0) (get_or gs k 0)) m m' → Linked m' (k + 1)
  link_more {m} {m'} {k} s h j = record {
    room = j.room ∙ s.room;
    upto = omega arith;
    marks = record {
      room = j.room ∙ s.marks.room;
      cells = λ e f he hf.
          j.cells e f he hf
          ∙ ap (λ (x : ℕ). cond (joins (get_or fs k 0) (get_or gs k 0) e f) 1 x) (s.marks.cells e f he hf)
          ∙ or_cond (linked (take k (links_of fs xs gs ys)) e f) (joins (get_or fs k 0) (get_or gs k 0) e f) (cell m₀ e f)
          ∙ ap (λ (b : Bool). cond b 1 (cell m₀ e f)) (sym (one_more e f));
    };
  }
    where
      one_more : (e f : ℕ) → some (list_of (take (k + 1) (links_of fs xs gs ys)) e f) ≡ (some (list_of (take k (links_of fs xs gs ys)) e f) || joins (get_or fs k 0) (get_or gs k 0) e f)
      one_more e f =
          ap (λ (i : ℕ). some (list_of (take i (links_of fs xs gs ys)) e f)) (add-one k)
          ∙ ap (λ (l : List Link). some (list_of l e f)) (take_links fs xs gs ys k h)
          ∙ ap some (list_more (take k (links_of fs xs gs ys)) (link_at fs xs gs ys k) e f)
          ∙ some_append (list_of (take k (links_of fs xs gs ys)) e f) (seen (link_at fs xs gs ys k) e f)
          ∙ ap (λ (b : Bool). some (list_of (take k (links_of fs xs gs ys)) e f) || b) (some_seen (link_at fs xs gs ys k) e f)

  pub link_done : {m : List ℕ} {k : ℕ} → Linked m k → length (links_of fs xs gs ys) ≤ k → Marks (linked (links_of fs xs gs ys)) m₀ m
  link_done {m} {k} s h =
      let q : k ≡ length (links_of fs xs gs ys) = omega (arith, s.upto) in
      let e : take k (links_of fs xs gs ys) ≡ links_of fs xs gs ys = ap (λ (i : ℕ). take i (links_of fs xs gs ys)) q ∙ take-length (links_of fs xs gs ys) in
      rw e at s.marks

-- ---- the matrix of the graph is the graph
module _ (g : ℕ) (w : World) (m : List ℕ) (z : length m ≡ clocks * clocks) (h : Holds (joined g w) m) where
  alike : w.trace < clocks → Alike (graph_of m clocks w.trace) (graph g w)
  alike l = rw (graph_held m clocks w.trace (whole_graph m clocks w.trace (record { small = omega arith; square = z; goal = l }))) (record { size = refl; goal = refl; far = refl; pairs = λ c d hc hd. h.at c d hc hd })

  no_graph : clocks ≤ w.trace → graph_of m clocks w.trace ≡ empty
  no_graph l = graph_empty m clocks w.trace (go (is_graph m clocks w.trace) refl)
    where
      go : (b : Bool) → is_graph m clocks w.trace ≡ b → is_graph m clocks w.trace ≡ false
      go true e = absurd (omega (arith, (graph_whole m clocks w.trace e).goal))
      go false e = e

  pub matrix_distances : distances (graph_of m clocks w.trace) ≡ distances (graph g w)
  matrix_distances = go (dec_lt w.trace clocks)
    where
      go : Dec (w.trace < clocks) → distances (graph_of m clocks w.trace) ≡ distances (graph g w)
      go (yes l) = distances_same (alike l)
      go (no l) = ap distances (no_graph (omega arith)) ∙ distances_none empty (graph g w) (omega arith) (omega arith) refl

  pub matrix_nexts : nexts (graph_of m clocks w.trace) ≡ nexts (graph g w)
  matrix_nexts = go (dec_lt w.trace clocks)
    where
      go : Dec (w.trace < clocks) → nexts (graph_of m clocks w.trace) ≡ nexts (graph g w)
      go (yes l) = nexts_same (alike l)
      go (no l) = ap nexts (no_graph (omega arith)) ∙ nexts_none empty (graph g w) (omega arith) (omega arith) refl

-- ---- a machine or a file past what is listed
pub not_pinned : (pinned f : ℕ) → pinned < 2 ^ 32 → 32 ≤ f → eqb (pinned / 2 ^ f % 2) 0 ≡ true
not_pinned pinned f h l =
    let p : 2 ^ 32 ≤ 2 ^ f = pow-le-pow_right (omega arith) l in
    let z : pinned / 2 ^ f ≡ 0 = div-eq_of_lt (omega arith) in
    rw z refl
