-- The rows of three numbers that hold the answers, graph by graph. Assumes nothing.
use Rattle.std.specs.Prelude.{◌≡◌, Bool, true, false, cond, not, ◌&&◌, eqb, leb, length, get_or, set, replicate, ℤ, pos, Option, Some, None}
use Rattle.std.proofs.Math.Path.{refl}
use Rattle.std.proofs.Common.{sym, ap, ◌∙◌, true≢false, not-suc-le-zero, le_antisymm, arith, length-set, length-append, get_or-set_same, get_or-set_other, get_or-append-add, ext_get_or, SFits, below_more, eq-eqb, ne_eqb, eqb-true, leb-true}
use mathlib.Core.List.{List, [], ◌∷◌, ◌++◌, map}
use Prim.Native.Nat.{ℕ, min, zero, suc, ◌+◌, ◌*◌, ◌-◌, ◌≤◌, ◌<◌, zero-le}
use Rattle.std.proofs.Math.Decide.{dec_lt}
use Rattle.std.proofs.lemmas.List.{length-replicate, get_or-replicate}
use Rattle.std.proofs.Math.ListN.{get_or-eq_default, get_or-append}
use Rattle.std.specs.Int.Signed.{lt_z}
use Rattle.std.specs.Int.{w64}
use Rattle.numbers.specs.Numbers.{clocks}
use Rattle.paths.specs.laws.Least.{and_left, and_right}
use Rattle.clocks.specs.declared.Row.{Row}
use Rattle.whole.specs.Pairs.{nth}
use Rattle.paths.specs.Matrix.{distances, nexts}
use Rattle.graphs.specs.Graphs.{World, graph}
use Rattle.clocks.specs.Answers.{Answer, Placed, Dropped, most, fits, filled, Room, ended, placed, related, answer_of, answers_of, time_of, kind_of, steps_of, unrelated, padded}
use Rattle.clocks.specs.laws.Walk.{Agrees, has_path, placed_by, path_related, placed_by_lem}

abbrev pub row_of : Answer → Row
row_of a = record { time = time_of a; kind = kind_of a; steps = steps_of a }

abbrev pub row_at : List ℤ → List ℕ → List ℕ → ℕ → Row
row_at ts ks ss i = record { time = nth ts i; kind = get_or ks i 0; steps = get_or ss i 0 }

abbrev pub empty : Row
empty = record { time = pos 0; kind = 0; steps = 0 }

-- the kind of a row that has no answer yet: unrelated, unless a graph has a path
abbrev pub pending : ℕ
pending = 4

-- a row, once graph g has been tried
unfoldable pub tried : ℕ → (ℕ → ℤ → Option ℤ) → List ℕ → List ℕ → ℕ → ℤ → Row → Row
tried g f ds ns c t r = cond (eqb r.kind pending && has_path ds c) (row_of (placed_by g f ds ns c t)) r

-- the events' lists and their memories go as far as n
pub record Spacious (n : ℕ) (cs : List ℕ) (rs : List ℤ) (ts : List ℤ) (ks ss : List ℕ) : Type 0 where
  pub on : n ≤ length cs
  pub reads : n ≤ length rs
  pub times : n ≤ length ts
  pub kinds : n ≤ length ks
  pub steps : n ≤ length ss

-- ---- a pass over the rows: the first i have been changed by f
pub record Passed (f : ℕ → Row → Row) (ts₀ : List ℤ) (ks₀ ss₀ : List ℕ) (ts : List ℤ) (ks ss : List ℕ) (i : ℕ) : Type 0 where
  pub times : length ts ≡ length ts₀
  pub kinds : length ks ≡ length ks₀
  pub steps : length ss ≡ length ss₀
  pub done : (j : ℕ) → j < i → row_at ts ks ss j ≡ f j (row_at ts₀ ks₀ ss₀ j)
  pub rest : (j : ℕ) → i ≤ j → row_at ts ks ss j ≡ row_at ts₀ ks₀ ss₀ j

pub pass_start : (f : ℕ → Row → Row) (ts : List ℤ) (ks ss : List ℕ) → Passed f ts ks ss ts ks ss 0
pass_start f ts ks ss = record { times = refl; kinds = refl; steps = refl; done = λ j l. absurd (omega arith); rest = λ j l. refl }

module _ {f : ℕ → Row → Row} {ts₀ : List ℤ} {ks₀ ss₀ : List ℕ} {ts : List ℤ} {ks ss : List ℕ} {i : ℕ} (p : Passed f ts₀ ks₀ ss₀ ts ks ss i) where
  -- a row that stays
  pub pass_skip : f i (row_at ts₀ ks₀ ss₀ i) ≡ row_at ts₀ ks₀ ss₀ i → Passed f ts₀ ks₀ ss₀ ts ks ss (i + 1)
  pass_skip e = record {
    times = p.times;
    kinds = p.kinds;
    steps = p.steps;
    done = below_more _ i p.done (p.rest i (omega arith) ∙ sym e);
    rest = λ j l. p.rest j (omega arith);
  }

  -- a row that is written
  pub pass_put : (t : ℤ) (k s : ℕ) → i < length ts₀ → i < length ks₀ → i < length ss₀ → f i (row_at ts₀ ks₀ ss₀ i) ≡ record { time = t; kind = k; steps = s }
      → Passed f ts₀ ks₀ ss₀ (set ts i t) (set ks i k) (set ss i s) (i + 1)
  pass_put t k s a b c e = record {
    times = length-set ts i t ∙ p.times;
    kinds = length-set ks i k ∙ p.kinds;
    steps = length-set ss i s ∙ p.steps;
    done = below_more _ i
        (λ j l. other j (λ q. omega arith) ∙ p.done j l)
        (rw (get_or-set_same ts i t (pos 0) (omega (arith, p.times)), get_or-set_same ks i k 0 (omega (arith, p.kinds)), get_or-set_same ss i s 0 (omega (arith, p.steps))) (sym e));
    rest = λ j l. other j (λ q. omega arith) ∙ p.rest j (omega arith);
  }
    where
      other : (j : ℕ) → (j ≡ i → ⊥) → row_at (set ts i t) (set ks i k) (set ss i s) j ≡ row_at ts ks ss j
      other j n = rw (get_or-set_other ts i j t (pos 0) n, get_or-set_other ks i j k 0 n, get_or-set_other ss i j s 0 n) refl

  -- what stands at i is what stood there
  pub pass_kind_at : get_or ks i 0 ≡ get_or ks₀ i 0
  pass_kind_at = ap (λ (r : Row). r.kind) (p.rest i (omega arith))

pub tried_other : (g : ℕ) (f : ℕ → ℤ → Option ℤ) (ds ns : List ℕ) (c : ℕ) (t : ℤ) (r : Row) → (r.kind ≡ pending → ⊥) → tried g f ds ns c t r ≡ r
unfolding tried
tried_other g f ds ns c t r n = rw (ne_eqb r.kind pending n) refl

pub tried_none : (g : ℕ) (f : ℕ → ℤ → Option ℤ) (ds ns : List ℕ) (c : ℕ) (t : ℤ) (r : Row) → has_path ds c ≡ false → tried g f ds ns c t r ≡ r
unfolding tried
tried_none g f ds ns c t r n = rw (n, none (eqb r.kind pending)) refl
  where
    none : (b : Bool) → (b && false) ≡ false
    none true = refl
    none false = refl

pub tried_new : (g : ℕ) (f : ℕ → ℤ → Option ℤ) (ds ns : List ℕ) (c : ℕ) (t : ℤ) (r : Row) → r.kind ≡ pending → has_path ds c ≡ true → tried g f ds ns c t r ≡ row_of (placed_by g f ds ns c t)
unfolding tried
tried_new g f ds ns c t r e h = rw (eq-eqb r.kind pending e, h) refl

-- ---- the three graphs one after the other
-- a row that has no answer yet, once graph g of w has been tried
unfoldable pub tried_in : ℕ → World → ℕ → ℤ → Row → Row
tried_in g w c t r = cond (eqb r.kind pending && related g w c) (row_of (placed g w c t)) r

pub tried_in_lem : (g : ℕ) (w : World) (f : ℕ → ℤ → Option ℤ) → Agrees f w.links (nexts (graph g w)) → (c : ℕ) (t : ℤ) (r : Row) → SFits w64 t → tried g f (distances (graph g w)) (nexts (graph g w)) c t r ≡ tried_in g w c t r
unfolding tried tried_in
tried_in_lem g w f a c t r s = rw (path_related g w c) (go (related g w c) refl)
  where
    go : (b : Bool) → related g w c ≡ b → cond (eqb r.kind pending && related g w c) (row_of (placed_by g f (distances (graph g w)) (nexts (graph g w)) c t)) r ≡ cond (eqb r.kind pending && related g w c) (row_of (placed g w c t)) r
    go true e = rw (placed_by_lem g w c f a t s e) refl
    go false e = rw (e, none (eqb r.kind pending)) refl
      where
        none : (b : Bool) → (b && false) ≡ false
        none true = refl
        none false = refl

tried_in_other : (g : ℕ) (w : World) (c : ℕ) (t : ℤ) (r : Row) → (r.kind ≡ pending → ⊥) → tried_in g w c t r ≡ r
unfolding tried_in
tried_in_other g w c t r n = rw (ne_eqb r.kind pending n) refl

-- a placed or dropped event is no longer pending
kind_some : (g n : ℕ) (s : Option ℤ) → g < 4 → kind_of (ended g n s) ≡ pending → ⊥
unfolding ended kind_of
kind_some g n None h e = omega arith
kind_some g n (Some t) h e = go (lt_z t (pos 0)) e
  where
    go : (b : Bool) → kind_of (cond b (Dropped 3) (Placed t g n)) ≡ pending → ⊥
    go true e = omega arith
    go false e = omega arith

pub kind_small : (g n : ℕ) (s : Option ℤ) → g < 256 → kind_of (ended g n s) < 256
unfolding ended kind_of
kind_small g n None h = omega arith
kind_small g n (Some t) h = go (lt_z t (pos 0))
  where
    go : (b : Bool) → kind_of (cond b (Dropped 3) (Placed t g n)) < 256
    go true = omega arith
    go false = omega arith

placed_some : (g : ℕ) (w : World) (c : ℕ) (t : ℤ) → g < 4 → kind_of (placed g w c t) ≡ pending → ⊥
unfolding placed
placed_some g w c t h e = kind_some g _ _ h e

pub all_tried : (w : World) (c : ℕ) (t : ℤ) → tried_in 3 w c t (tried_in 2 w c t (tried_in 1 w c t (row_of (Dropped unrelated)))) ≡ row_of (answer_of w c t)
unfolding tried_in answer_of kind_of time_of steps_of
all_tried w c t = go (related 1 w c) (related 2 w c) (related 3 w c)
  where
    stays : (b : Bool) (g : ℕ) (r : Row) → (r.kind ≡ pending → ⊥) → cond (eqb r.kind pending && b) (row_of (placed g w c t)) r ≡ r
    stays b g r n = rw (ne_eqb r.kind pending n) refl

    start : Row
    start = row_of (Dropped unrelated)

    go : (p q s : Bool) → cond (eqb (cond (eqb (cond p (row_of (placed 1 w c t)) start).kind pending && q) (row_of (placed 2 w c t)) (cond p (row_of (placed 1 w c t)) start)).kind pending && s) (row_of (placed 3 w c t)) (cond (eqb (cond p (row_of (placed 1 w c t)) start).kind pending && q) (row_of (placed 2 w c t)) (cond p (row_of (placed 1 w c t)) start))
        ≡ row_of (cond p (placed 1 w c t) (cond q (placed 2 w c t) (cond s (placed 3 w c t) (Dropped unrelated))))
    go true q s =
        let n : kind_of (placed 1 w c t) ≡ pending → ⊥ = placed_some 1 w c t (omega arith) in
        rw (stays q 2 (row_of (placed 1 w c t)) n) (stays s 3 (row_of (placed 1 w c t)) n)
    go false true s = stays s 3 (row_of (placed 2 w c t)) (placed_some 2 w c t (omega arith))
    go false false true = refl
    go false false false = refl

-- ---- the kinds marked as pending
pub record Marked (ks₀ ks : List ℕ) (i : ℕ) : Type 0 where
  pub same : length ks ≡ length ks₀
  pub done : (j : ℕ) → j < i → get_or ks j 0 ≡ pending
  pub rest : (j : ℕ) → i ≤ j → get_or ks j 0 ≡ get_or ks₀ j 0

-- no kind below n is pending
pub record Settled (ks : List ℕ) (n : ℕ) : Type 0 where
  pub none : (j : ℕ) → j < n → get_or ks j 0 ≡ pending → ⊥

pub settled_if : {ks : List ℕ} {n : ℕ} (b : Bool) → (b ≡ false → Settled ks n) → not b ≡ true → Settled ks n
settled_if true s e = absurd (true≢false (sym e))
settled_if false s e = s refl

-- ---- from rows to the lists of the answers
module _ (w : World) where
  pub answers_most : (cs : List ℕ) (ts : List ℤ) → (length (answers_of w cs ts) ≤ length cs) × (length (answers_of w cs ts) ≤ length ts)
  unfolding answers_of
  answers_most [] ts = (zero-le, zero-le)
  answers_most (c ∷ cs) [] = (zero-le, zero-le)
  answers_most (c ∷ cs) (t ∷ ts) = let h = answers_most cs ts in (omega (arith, h.0), omega (arith, h.1))

  pub answers_least : (cs : List ℕ) (ts : List ℤ) (n : ℕ) → n ≤ length cs → n ≤ length ts → n ≤ length (answers_of w cs ts)
  unfolding answers_of
  answers_least cs ts zero h k = zero-le
  answers_least [] ts (suc n) h k = absurd (not-suc-le-zero h)
  answers_least (c ∷ cs) [] (suc n) h k = absurd (not-suc-le-zero k)
  answers_least (c ∷ cs) (t ∷ ts) (suc n) h k = omega (arith, answers_least cs ts n (omega arith) (omega arith))

  module _ {A : Type 0} (f : Answer → A) (z : A) where
    pub length_map : (rs : List Answer) → length (map f rs) ≡ length rs
    length_map [] = refl
    length_map (r ∷ rs) = ap suc (length_map rs)

    answer_at : (cs : List ℕ) (ts : List ℤ) (j : ℕ) → j < length (answers_of w cs ts) → get_or (map f (answers_of w cs ts)) j z ≡ f (answer_of w (get_or cs j 0) (nth ts j))
    unfolding answers_of
    answer_at [] ts j h = absurd (not-suc-le-zero h)
    answer_at (c ∷ cs) [] j h = absurd (not-suc-le-zero h)
    answer_at (c ∷ cs) (t ∷ ts) zero h = refl
    answer_at (c ∷ cs) (t ∷ ts) (suc j) h = answer_at cs ts j (omega arith)

    -- a list that has the answers first and then z
    pub answers_list : (cs : List ℕ) (ts : List ℤ) (xs : List A) (room : ℕ) → length xs ≡ room → length (answers_of w cs ts) ≤ room
        → ((j : ℕ) → j < length (answers_of w cs ts) → get_or xs j z ≡ f (answer_of w (get_or cs j 0) (nth ts j)))
        → ((j : ℕ) → length (answers_of w cs ts) ≤ j → get_or xs j z ≡ z)
        → xs ≡ padded z room (map f (answers_of w cs ts))
    answers_list cs ts xs room e h front back = ext_get_or z xs (padded z room (map f (answers_of w cs ts))) size at
      where
        n : ℕ
        n = length (answers_of w cs ts)

        size : length xs ≡ length (padded z room (map f (answers_of w cs ts)))
        size =
            let a : length (map f (answers_of w cs ts)) ≡ length (answers_of w cs ts) = length_map (answers_of w cs ts) in
            let b : length (map f (answers_of w cs ts) ++ replicate (room - length (map f (answers_of w cs ts))) z) ≡ length (map f (answers_of w cs ts)) + length (replicate (room - length (map f (answers_of w cs ts))) z) = length-append (map f (answers_of w cs ts)) (replicate (room - length (map f (answers_of w cs ts))) z) in
            omega (arith, length-replicate (room - length (map f (answers_of w cs ts))) z)

        at : (j : ℕ) → j < length xs → get_or xs j z ≡ get_or (padded z room (map f (answers_of w cs ts))) j z
        at j l = go (dec_lt j (length (answers_of w cs ts)))
          where
            a : length (map f (answers_of w cs ts)) ≡ length (answers_of w cs ts)
            a = length_map (answers_of w cs ts)

            go : Dec (j < length (answers_of w cs ts)) → get_or xs j z ≡ get_or (padded z room (map f (answers_of w cs ts))) j z
            go (yes k) = front j k ∙ sym (answer_at cs ts j k) ∙ sym (get_or-append (map f (answers_of w cs ts)) (replicate (room - length (map f (answers_of w cs ts))) z) z j (omega (arith, a)))
            go (no k) =
                let q : length (map f (answers_of w cs ts)) + (j - length (map f (answers_of w cs ts))) ≡ j = omega (arith, a) in
                back j (omega (arith, a)) ∙ sym (get_or-replicate (room - length (map f (answers_of w cs ts))) (j - length (map f (answers_of w cs ts))) z z (omega (arith, a)))
                ∙ sym (get_or-append-add (map f (answers_of w cs ts)) (replicate (room - length (map f (answers_of w cs ts))) z) (j - length (map f (answers_of w cs ts))) z)
                ∙ ap (λ (i : ℕ). get_or (padded z room (map f (answers_of w cs ts))) i z) q

-- a pass by the tables of a graph is a pass by the graph
pub passed_in : {ts₀ : List ℤ} {ks₀ ss₀ : List ℕ} {ts : List ℤ} {ks ss : List ℕ} {n : ℕ} (g : ℕ) (w : World) (f : ℕ → ℤ → Option ℤ) (ds ns cs : List ℕ) (rs : List ℤ)
    → Agrees f w.links ns → ds ≡ distances (graph g w) → ns ≡ nexts (graph g w) → ((j : ℕ) → j < n → SFits w64 (nth rs j))
    → Passed (λ j r. tried g f ds ns (get_or cs j 0) (nth rs j) r) ts₀ ks₀ ss₀ ts ks ss n
    → Passed (λ j r. tried_in g w (get_or cs j 0) (nth rs j) r) ts₀ ks₀ ss₀ ts ks ss n
passed_in g w f ds ns cs rs a e q s p = record {
  times = p.times;
  kinds = p.kinds;
  steps = p.steps;
  done = λ j l. p.done j l ∙ (rw (e, q) (tried_in_lem g w f (rw q at a) (get_or cs j 0) (nth rs j) _ (s j l)));
  rest = p.rest;
}

-- ---- the memories before and after
pub record Blank (ts : List ℤ) (ks ss : List ℕ) : Type 0 where
  pub times : (j : ℕ) → nth ts j ≡ pos 0
  pub kinds : (j : ℕ) → get_or ks j 0 ≡ 0
  pub steps : (j : ℕ) → get_or ss j 0 ≡ 0

pub record Answered (w : World) (cs : List ℕ) (rs : List ℤ) (n : ℕ) (ts₀ : List ℤ) (ks₀ ss₀ : List ℕ) (ts : List ℤ) (ks ss : List ℕ) : Type 0 where
  pub times : length ts ≡ length ts₀
  pub kinds : length ks ≡ length ks₀
  pub steps : length ss ≡ length ss₀
  pub done : (j : ℕ) → j < n → row_at ts ks ss j ≡ row_of (answer_of w (get_or cs j 0) (nth rs j))
  pub rest : (j : ℕ) → n ≤ j → row_at ts ks ss j ≡ empty

-- a row after graphs 1 to g - 1
unfoldable pub up_to : ℕ → World → ℕ → ℤ → Row
up_to zero w c t = row_of (Dropped unrelated)
up_to (suc g) w c t = cond (eqb g 0) (row_of (Dropped unrelated)) (tried_in g w c t (up_to g w c t))

up_suc : (g : ℕ) (w : World) (c : ℕ) (t : ℤ) → 0 < g → up_to (g + 1) w c t ≡ tried_in g w c t (up_to g w c t)
unfolding up_to
up_suc g w c t h = let e : g + 1 ≡ suc g = omega arith in rw (e, ne_eqb g 0 (λ q. omega arith)) refl

up_four : (g : ℕ) (w : World) (c : ℕ) (t : ℤ) → g ≡ 4 → up_to g w c t ≡ row_of (answer_of w c t)
unfolding up_to
up_four g w c t e = rw e (all_tried w c t)

-- a row that is not pending stays, whatever graphs come
up_stays : (g : ℕ) (w : World) (c : ℕ) (t : ℤ) → 0 < g → ((up_to g w c t).kind ≡ pending → ⊥) → up_to (g + 1) w c t ≡ up_to g w c t
up_stays g w c t h n = up_suc g w c t h ∙ tried_in_other g w c t (up_to g w c t) n

up_settled : (k g : ℕ) (w : World) (c : ℕ) (t : ℤ) → g + k ≡ 4 → 0 < g → ((up_to g w c t).kind ≡ pending → ⊥) → up_to g w c t ≡ row_of (answer_of w c t)
up_settled zero g w c t e h n = up_four g w c t (omega arith)
up_settled (suc k) g w c t e h n =
    let s = up_stays g w c t h n in
    sym s ∙ up_settled k (g + 1) w c t (omega arith) (omega arith) (λ q. n (ap (λ (r : Row). r.kind) (sym s) ∙ q))

-- the rows once graphs 1 to g - 1 have been tried
pub record Reached (w : World) (cs : List ℕ) (rs : List ℤ) (n : ℕ) (ts₀ : List ℤ) (ks₀ ss₀ : List ℕ) (ts : List ℤ) (ks ss : List ℕ) (g : ℕ) : Type 0 where
  pub low : 0 < g
  pub high : g ≤ 4
  pub times : length ts ≡ length ts₀
  pub kinds : length ks ≡ length ks₀
  pub steps : length ss ≡ length ss₀
  pub done : (j : ℕ) → j < n → row_at ts ks ss j ≡ up_to g w (get_or cs j 0) (nth rs j)
  pub rest : (j : ℕ) → n ≤ j → row_at ts ks ss j ≡ empty

module _ {w : World} {cs : List ℕ} {rs : List ℤ} {n : ℕ} {ts₀ : List ℤ} {ks₀ ss₀ : List ℕ} where
  pub reach_start : {ks : List ℕ} → Blank ts₀ ks₀ ss₀ → Marked ks₀ ks n → Reached w cs rs n ts₀ ks ss₀ ts₀ ks ss₀ 1
  unfolding up_to kind_of time_of steps_of
  reach_start b m = record {
    low = omega arith;
    high = omega arith;
    times = refl;
    kinds = refl;
    steps = refl;
    done = λ j l. rw (b.times j, b.steps j, m.done j l) refl;
    rest = λ j l. rw (b.times j, b.steps j, m.rest j l, b.kinds j) refl;
  }

  pub reach_more : {ts : List ℤ} {ks ss : List ℕ} {ts' : List ℤ} {ks' ss' : List ℕ} {g : ℕ} → Reached w cs rs n ts₀ ks₀ ss₀ ts ks ss g → g < 4
      → Passed (λ j r. tried_in g w (get_or cs j 0) (nth rs j) r) ts ks ss ts' ks' ss' n → Reached w cs rs n ts₀ ks₀ ss₀ ts' ks' ss' (g + 1)
  reach_more {g = g} r h p = record {
    low = omega arith;
    high = omega arith;
    times = p.times ∙ r.times;
    kinds = p.kinds ∙ r.kinds;
    steps = p.steps ∙ r.steps;
    done = λ j l. p.done j l ∙ ap (tried_in g w (get_or cs j 0) (nth rs j)) (r.done j l) ∙ sym (up_more g (get_or cs j 0) (nth rs j) r.low);
    rest = λ j l. p.rest j l ∙ r.rest j l;
  }
    where
      up_more : (g c : ℕ) (t : ℤ) → 0 < g → up_to (g + 1) w c t ≡ tried_in g w c t (up_to g w c t)
      up_more g c t h = up_suc g w c t h

  -- all three graphs have been tried
  pub reach_end : {ts : List ℤ} {ks ss : List ℕ} {g : ℕ} → Reached w cs rs n ts₀ ks₀ ss₀ ts ks ss g → 4 ≤ g → Answered w cs rs n ts₀ ks₀ ss₀ ts ks ss
  reach_end {g = g} r h = record {
    times = r.times;
    kinds = r.kinds;
    steps = r.steps;
    done = λ j l. r.done j l ∙ up_four g w (get_or cs j 0) (nth rs j) (omega (arith, r.high));
    rest = r.rest;
  }

  -- or no row is pending
  pub reach_settled : {ts : List ℤ} {ks ss : List ℕ} {g : ℕ} → Reached w cs rs n ts₀ ks₀ ss₀ ts ks ss g → Settled ks n → Answered w cs rs n ts₀ ks₀ ss₀ ts ks ss
  reach_settled {g = g} r s = record {
    times = r.times;
    kinds = r.kinds;
    steps = r.steps;
    done = λ j l. r.done j l ∙ up_settled (4 - g) g w (get_or cs j 0) (nth rs j) (omega (arith, r.high)) r.low (λ q. s.none j l (ap (λ (x : Row). x.kind) (r.done j l) ∙ q));
    rest = r.rest;
  }

  -- the kinds had been marked before
  pub answered_marked : {ks₁ : List ℕ} {ts : List ℤ} {ks ss : List ℕ} → Answered w cs rs n ts₀ ks₁ ss₀ ts ks ss → Marked ks₀ ks₁ n → Answered w cs rs n ts₀ ks₀ ss₀ ts ks ss
  answered_marked a m = record { times = a.times; kinds = a.kinds ∙ m.same; steps = a.steps; done = a.done; rest = a.rest }

-- ---- the whole
module _ {w : World} {cs : List ℕ} {rs : List ℤ} {n : ℕ} {ts₀ : List ℤ} {ks₀ ss₀ : List ℕ} {ts : List ℤ} {ks ss : List ℕ} (e : n ≡ length (answers_of w cs rs)) (a : Answered w cs rs n ts₀ ks₀ ss₀ ts ks ss) where
  pub times_list : n ≤ length ts₀ → ts ≡ padded (pos 0) (length ts₀) (map time_of (answers_of w cs rs))
  times_list h =
      answers_list w time_of (pos 0) cs rs ts (length ts₀) a.times (omega arith)
      (λ j l. ap (λ (r : Row). r.time) (a.done j (omega arith))) (λ j l. ap (λ (r : Row). r.time) (a.rest j (omega arith)))

  pub kinds_list : n ≤ length ks₀ → ks ≡ padded 0 (length ks₀) (map kind_of (answers_of w cs rs))
  kinds_list h =
      answers_list w kind_of 0 cs rs ks (length ks₀) a.kinds (omega arith)
      (λ j l. ap (λ (r : Row). r.kind) (a.done j (omega arith))) (λ j l. ap (λ (r : Row). r.kind) (a.rest j (omega arith)))

  pub steps_list : n ≤ length ss₀ → ss ≡ padded 0 (length ss₀) (map steps_of (answers_of w cs rs))
  steps_list h =
      answers_list w steps_of 0 cs rs ss (length ss₀) a.steps (omega arith)
      (λ j l. ap (λ (r : Row). r.steps) (a.done j (omega arith))) (λ j l. ap (λ (r : Row). r.steps) (a.rest j (omega arith)))

pub zeros_at {ℓ} : {A : Type ℓ} (z : A) (n : ℕ) (xs : List A) (j : ℕ) → xs ≡ replicate n z → get_or xs j z ≡ z
zeros_at z n xs j e = rw e (go (dec_lt j n))
  where
    go : Dec (j < n) → get_or (replicate n z) j z ≡ z
    go (yes h) = get_or-replicate n j z z h
    go (no h) = get_or-eq_default (replicate n z) z {n = j} (omega (arith, length-replicate n z))

pub spacious_same : {w : World} {cs : List ℕ} {rs : List ℤ} {n : ℕ} {ts₀ : List ℤ} {ks₀ ss₀ : List ℕ} {ts : List ℤ} {ks ss : List ℕ} {g : ℕ}
    → Spacious n cs rs ts₀ ks₀ ss₀ → Reached w cs rs n ts₀ ks₀ ss₀ ts ks ss g → Spacious n cs rs ts ks ss
spacious_same s r = record { on = s.on; reads = s.reads; times = omega (arith, s.times, r.times); kinds = omega (arith, s.kinds, r.kinds); steps = omega (arith, s.steps, r.steps) }

pub spacious_marked : {cs : List ℕ} {rs : List ℤ} {n : ℕ} {ts : List ℤ} {ks₀ ks ss : List ℕ} → Spacious n cs rs ts ks₀ ss → Marked ks₀ ks n → Spacious n cs rs ts ks ss
spacious_marked s m = record { on = s.on; reads = s.reads; times = s.times; kinds = omega (arith, s.kinds, m.same); steps = s.steps }

-- ---- where something doesn't fit, and where all fits
module _ (w : World) (cs : List ℕ) (rs : List ℤ) (room : Room) where
  pub filled_not : fits (length w.links) (length (answers_of w cs rs)) room ≡ false
      → filled w cs rs room ≡ record { done = false; times = replicate room.times (pos 0); kinds = replicate room.kinds 0; steps = replicate room.steps 0; matrix = replicate room.matrix 0 }
  unfolding filled
  filled_not e = rw e refl

  pub filled_all : fits (length w.links) (length (answers_of w cs rs)) room ≡ true
      → filled w cs rs room ≡ record { done = true; times = padded (pos 0) room.times (map time_of (answers_of w cs rs)); kinds = padded 0 room.kinds (map kind_of (answers_of w cs rs)); steps = padded 0 room.steps (map steps_of (answers_of w cs rs)); matrix = replicate room.matrix 0 }
  unfolding filled
  filled_all e = rw e refl

-- what the test of the room says
pub record Fitting (n events : ℕ) (room : Room) : Type 0 where
  pub links : n ≤ most
  pub times : events ≤ room.times
  pub kinds : events ≤ room.kinds
  pub steps : events ≤ room.steps
  pub matrix : room.matrix ≡ clocks * clocks

pub fitting : (links events : ℕ) (room : Room) → fits links events room ≡ true → Fitting links events room
unfolding fits
fitting links events room e =
    let a = leb links most in
    let b = leb events room.times in
    let c = leb events room.kinds in
    let d = leb events room.steps in
    let f = eqb room.matrix (clocks * clocks) in
    let e₁ = and_left (((a && b) && c) && d) f e in
    let e₂ = and_left ((a && b) && c) d e₁ in
    let e₃ = and_left (a && b) c e₂ in
    record {
      links = leb-true links most (and_left a b e₃);
      times = leb-true events room.times (and_right a b e₃);
      kinds = leb-true events room.kinds (and_right (a && b) c e₂);
      steps = leb-true events room.steps (and_right ((a && b) && c) d e₁);
      matrix = eqb-true room.matrix (clocks * clocks) (and_right (((a && b) && c) && d) f e);
    }

-- the number of events is the smaller of two counts
pub events_are : (w : World) (cs : List ℕ) (rs : List ℤ) (n : ℕ) → n ≡ min (length cs) (length rs) → n ≡ length (answers_of w cs rs)
events_are w cs rs n s =
    let m = answers_most w cs rs in
    le_antisymm (answers_least w cs rs n (omega arith) (omega arith)) (omega (arith, m.0, m.1))

module _ (w : World) (cs : List ℕ) (rs : List ℤ) (n nt nk ns nm : ℕ) where
  abbrev room : Room
  room = record { times = nt; kinds = nk; steps = ns; matrix = nm }

  module _ {ts : List ℤ} {ks ss : List ℕ} (T : ts ≡ replicate nt (pos 0)) (K : ks ≡ replicate nk 0) (S : ss ≡ replicate ns 0) (e : n ≡ length (answers_of w cs rs)) (f : fits (length w.links) n room ≡ true) where
    lt : length ts ≡ nt
    lt = ap length T ∙ length-replicate nt (pos 0)

    lk : length ks ≡ nk
    lk = ap length K ∙ length-replicate nk 0

    ls : length ss ≡ ns
    ls = ap length S ∙ length-replicate ns 0

    fit : Fitting (length w.links) n room
    fit = fitting (length w.links) n room f

    pub room_links : length w.links ≤ most
    room_links = fit.links

    pub room_matrix : nm ≡ clocks * clocks
    room_matrix = fit.matrix

    pub room_space : n ≡ min (length cs) (length rs) → Spacious n cs rs ts ks ss
    room_space s = record { on = omega arith; reads = omega arith; times = omega (arith, fit.times, lt); kinds = omega (arith, fit.kinds, lk); steps = omega (arith, fit.steps, ls) }

    pub room_blank : Blank ts ks ss
    room_blank = record { times = λ j. zeros_at (pos 0) nt ts j T; kinds = λ j. zeros_at 0 nk ks j K; steps = λ j. zeros_at 0 ns ss j S }

    pub all_filled : {ts' : List ℤ} {ks' ss' ms' : List ℕ} → Answered w cs rs n ts ks ss ts' ks' ss' → ms' ≡ replicate nm 0
        → (true ≡ (filled w cs rs room).done) × (ts' ≡ (filled w cs rs room).times) × (ks' ≡ (filled w cs rs room).kinds) × (ss' ≡ (filled w cs rs room).steps) × (ms' ≡ (filled w cs rs room).matrix)
    all_filled a m =
        rw (filled_all w cs rs room (ap (λ (k : ℕ). fits (length w.links) k room) (sym e) ∙ f)) (
          refl,
          times_list e a (omega (arith, fit.times, lt)) ∙ ap (λ (k : ℕ). padded (pos 0) k (map time_of (answers_of w cs rs))) lt,
          kinds_list e a (omega (arith, fit.kinds, lk)) ∙ ap (λ (k : ℕ). padded 0 k (map kind_of (answers_of w cs rs))) lk,
          steps_list e a (omega (arith, fit.steps, ls)) ∙ ap (λ (k : ℕ). padded 0 k (map steps_of (answers_of w cs rs))) ls,
          m,
        )

  pub none_filled : {ts : List ℤ} {ks ss ms : List ℕ} → ts ≡ replicate nt (pos 0) → ks ≡ replicate nk 0 → ss ≡ replicate ns 0 → ms ≡ replicate nm 0 → n ≡ length (answers_of w cs rs) → fits (length w.links) n room ≡ false
      → (false ≡ (filled w cs rs room).done) × (ts ≡ (filled w cs rs room).times) × (ks ≡ (filled w cs rs room).kinds) × (ss ≡ (filled w cs rs room).steps) × (ms ≡ (filled w cs rs room).matrix)
  none_filled T K S M e f = rw (filled_not w cs rs room (ap (λ (k : ℕ). fits (length w.links) k room) (sym e) ∙ f)) (refl, T, K, S, M)
