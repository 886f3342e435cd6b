-- What a search over the keys of two clocks' correspondences chooses is the correspondence that carries the reading. Assumes nothing.
use Rattle.std.specs.Prelude.{◌≡◌, true, false, cond, not, List, [], ◌∷◌, ℕ, ◌+◌, ◌*◌, ◌-◌, ◌/◌, ◌%◌, ◌^◌, ◌≤◌, ◌<◌, eqb, length, get_or, take, set, ℤ, Option, Some}
use Rattle.std.proofs.Math.Path.{refl}
use Rattle.std.proofs.Common.{sym, ap, ◌∙◌, not-suc-le-zero, below_more, get_or-set_same, get_or-set_other, SFits}
use native.Mathlib.Omega.{arith}
use Rattle.std.proofs.Math.Decide.{dec_lt, ℕ_discrete}
use Rattle.std.proofs.Math.Dec.{ltb}
use Rattle.std.proofs.Math.Seq.{take-length}
use Rattle.std.specs.Int.{w64}
use borrow.Author.Tests.{eq-eqb, ne_eqb, lt-ltb, le-ltb}
use Rattle.paths.specs.Paths.{least}
use Rattle.paths.specs.laws.Least.{least_le, least_to, least_from}
use Rattle.whole.specs.Whole.{excess, shifted_of}
use Rattle.whole.specs.Pairs.{Pair, xs_of, ys_of, converted, nth, Carries}
use Rattle.whole.proofs.Theorems.{convert_at}
use Rattle.whole.proofs.laws.Keys.{excess_lt}
use Rattle.whole.proofs.laws.Places.{keys_carry}
use Rattle.whole.proofs.laws.Lists.{length_xs}
use Rattle.graphs.specs.Links.{Link, links_of, list_of}
use Rattle.graphs.specs.laws.Links.{links_most, link_at, seen, seen_forwards, seen_backwards, Sight, sight, before, before_mono, stands, found}
use Rattle.graphs.specs.laws.Links.Sight.{forwards, backwards, unseen}
use Rattle.clocks.specs.laws.Order.{side, lives, rank, Lists, rank_at, lives_at, Ordered, Sorted, Small, Grouped, Range, rank_same, side_even, side_odd, lives_even, lives_odd, side_small, side_below, not_falling}

-- the reading of a directed correspondence on the clock that it leads from; with the two lists changed, on the other
unfoldable pub read_at : List ℤ → List ℤ → ℕ → ℤ
read_at xs ys e = cond (eqb (e % 2) 0) (nth xs (e / 2)) (nth ys (e / 2))

pub read_even : (xs ys : List ℤ) (e : ℕ) → e % 2 ≡ 0 → read_at xs ys e ≡ nth xs (e / 2)
unfolding read_at
read_even xs ys e h = rw (eq-eqb (e % 2) 0 h)

pub read_odd : (xs ys : List ℤ) (e : ℕ) → (e % 2 ≡ 0 → ⊥) → read_at xs ys e ≡ nth ys (e / 2)
unfolding read_at
read_odd xs ys e h = rw (ne_eqb (e % 2) 0 h)

-- the keys of the first n readings
pub record Keyed (xs : List ℤ) (n : ℕ) (ps : List ℕ) : Type 0 where
  pub fits : (i : ℕ) → i < n → SFits w64 (nth xs i)
  pub keys : (i : ℕ) → i < n → get_or ps i 0 ≡ excess (nth xs i)

pub keyed_more : {xs : List ℤ} {i : ℕ} {ps : List ℕ} → Keyed xs i ps → i < length ps → SFits w64 (nth xs i) → Keyed xs (i + 1) (set ps i (excess (nth xs i)))
keyed_more {xs} {i} {ps} k h f = record {
  fits = below_more _ i k.fits f;
  keys = below_more _ i (λ j l. get_or-set_other ps i j (excess (nth xs i)) 0 (λ q. omega arith) ∙ k.keys j l) (get_or-set_same ps i (excess (nth xs i)) 0 h);
}

pub key_below : {xs : List ℤ} {n : ℕ} {ps : List ℕ} → Keyed xs n ps → (i : ℕ) → i < n → get_or ps i 0 < 2 ^ 64
key_below {xs} k i h = rw (k.keys i h) (excess_lt (nth xs i) (k.fits i h))

-- every correspondence in its two directions, in order, and the keys in that order; p and q are the keys as listed
pub record Tables (fs : List ℕ) (xs : List ℤ) (gs : List ℕ) (ys : List ℤ) (os ks : List ℕ) (n : ℕ) : Type 0 where
  pub p : List ℕ
  pub q : List ℕ
  pub small_a : (i : ℕ) → get_or fs i 0 < 65536
  pub small_b : (i : ℕ) → get_or gs i 0 < 65536
  pub keyed_x : Keyed xs (length (links_of fs xs gs ys)) p
  pub keyed_y : Keyed ys (length (links_of fs xs gs ys)) q
  pub ordered : Ordered (rank_at (record { a = fs; p = p; b = gs; q = q })) (lives_at (record { a = fs; p = p; b = gs; q = q })) os n (2 * length (links_of fs xs gs ys))
  pub sorted : Sorted p q os n ks
  pub room : n ≤ length os

-- ---- a search over keys
-- the keys from lo to hi don't fall
abbrev pub Rising : List ℕ → ℕ → ℕ → Type 0
Rising ks lo hi = (i j : ℕ) → lo ≤ i → i ≤ j → j < hi → get_or ks i 0 ≤ get_or ks j 0

-- the last place from lo to hi whose key is at most k, or lo: the place before the first one after lo whose key is more
unfoldable pub chosen : List ℕ → ℕ → ℕ → ℕ → ℕ
chosen ks lo hi k = lo + least (λ i. ltb k (get_or ks (lo + 1 + i) 0)) (hi - (lo + 1))

module _ (ks : List ℕ) (lo hi k : ℕ) where
  pub chosen_low : lo ≤ chosen ks lo hi k
  unfolding chosen
  chosen_low = omega arith

  pub chosen_high : lo < hi → chosen ks lo hi k < hi
  unfolding chosen
  chosen_high h = omega (arith, least_le (λ i. ltb k (get_or ks (lo + 1 + i) 0)) (hi - (lo + 1)))

  -- it stands before each key after lo that is more
  pub chosen_before : (m : ℕ) → lo < m → k < get_or ks m 0 → chosen ks lo hi k < m
  unfolding chosen
  chosen_before m h l =
      let e : lo + 1 + (m - (lo + 1)) ≡ m = omega arith in
      omega (arith, least_to (λ i. ltb k (get_or ks (lo + 1 + i) 0)) (hi - (lo + 1)) (m - (lo + 1)) (rw e (lt-ltb k (get_or ks m 0) l)))

  -- and not before any that isn't
  pub chosen_from : (m : ℕ) → Rising ks lo hi → lo ≤ m → m < hi → get_or ks m 0 ≤ k → m ≤ chosen ks lo hi k
  unfolding chosen
  chosen_from m r g h l =
      omega (
        arith,
        least_from (λ i. ltb k (get_or ks (lo + 1 + i) 0)) (hi - (lo + 1)) (m - lo) (omega arith)
            (λ i s. le-ltb k (get_or ks (lo + 1 + i) 0) (omega (arith, r (lo + 1 + i) m (omega arith) (omega arith) h))),
      )

-- what the search and the reading that it leads to ask
pub record Searchable (xs ys : List ℤ) (ks os : List ℕ) (lo hi : ℕ) : Type 0 where
  pub keys : hi ≤ length ks
  pub order : hi ≤ length os
  pub reach : (i : ℕ) → lo ≤ i → i < hi → (get_or os i 0 / 2 < length xs) × (get_or os i 0 / 2 < length ys)
  pub rising : Rising ks lo hi

-- a reading carried by the numbers from lo to hi: by the last whose key is at most the reading's, else by the first; unchanged if there is none
unfoldable pub carried_in : List ℤ → List ℤ → List ℕ → List ℕ → ℕ → ℕ → ℤ → Option ℤ
carried_in xs ys ks os lo hi t =
    let e = get_or os (chosen ks lo hi (excess t)) 0 in
    cond (ltb lo hi) (shifted_of t (read_at xs ys e) (read_at ys xs e)) (Some t)

module _ (xs ys : List ℤ) (ks os : List ℕ) (lo hi : ℕ) (t : ℤ) where
  pub in_some : lo < hi → (j : ℕ) → j ≡ chosen ks lo hi (excess t) → carried_in xs ys ks os lo hi t ≡ shifted_of t (read_at xs ys (get_or os j 0)) (read_at ys xs (get_or os j 0))
  unfolding carried_in
  in_some h j e = rw (lt-ltb lo hi h, e) refl

  pub in_none : hi ≤ lo → carried_in xs ys ks os lo hi t ≡ Some t
  unfolding carried_in
  in_none h = rw (le-ltb lo hi h) refl

-- a reading carried over a pair of a graph: by the pair's list; unchanged if it has none, which is the zero offset
unfoldable pub carried_over : List Pair → ℤ → Option ℤ
carried_over [] t = Some t
carried_over (p ∷ ps) t = converted t (p ∷ ps)

pub over_list : (ps : List Pair) (t : ℤ) → (0 < length ps) → carried_over ps t ≡ converted t ps
unfolding carried_over
over_list [] t h = absurd (not-suc-le-zero h)
over_list (p ∷ ps) t h = refl

pub over_none : (ps : List Pair) (t : ℤ) → ps ≡ [] → carried_over ps t ≡ Some t
unfolding carried_over
over_none ps t e = rw e refl

-- the clock that a number of the order leads to, and its key, are small
number_small : {fs : List ℕ} {xs : List ℤ} {gs : List ℕ} {ys : List ℤ} {os ks : List ℕ} {n : ℕ} (T : Tables fs xs gs ys os ks n) (i : ℕ) → i < n
    → Small (side fs gs (get_or os i 0)) (side gs fs (get_or os i 0)) (side T.p T.q (get_or os i 0))
number_small {fs} {xs} {gs} {ys} {os} T i h =
    let e : get_or os i 0 / 2 < length (links_of fs xs gs ys) = omega (arith, T.ordered.inside i h) in record {
      to = side_small gs fs (get_or os i 0) 65536 T.small_b T.small_a;
      key = side_below T.p T.q (get_or os i 0) (2 ^ 64) (key_below T.keyed_x (get_or os i 0 / 2) e) (key_below T.keyed_y (get_or os i 0 / 2) e);
    }

module _ (fs : List ℕ) (xs : List ℤ) (gs : List ℕ) (ys : List ℤ) (c d : ℕ) where
  -- number e is a correspondence of c and d, seen from c
  pub record Arc (e : ℕ) : Type 0 where
    pub inside : e < 2 * length (links_of fs xs gs ys)
    pub alive : lives fs gs e ≡ true
    pub from : side fs gs e ≡ c
    pub to : side gs fs e ≡ d

  arc_seen : (e : ℕ) → Arc e → seen (link_at fs xs gs ys (e / 2)) c d ≡ record { x = read_at xs ys e; y = read_at ys xs e } ∷ []
  arc_seen e r = go (ℕ_discrete (e % 2) 0)
    where
      go : Dec (e % 2 ≡ 0) → seen (link_at fs xs gs ys (e / 2)) c d ≡ record { x = read_at xs ys e; y = read_at ys xs e } ∷ []
      go (yes z) = rw (read_even xs ys e z, read_even ys xs e z) (seen_forwards (link_at fs xs gs ys (e / 2)) c d (sym (side_even fs gs e z) ∙ r.from) (sym (side_even gs fs e z) ∙ r.to))
      go (no z) =
          rw (read_odd xs ys e z, read_odd ys xs e z)
          (seen_backwards (link_at fs xs gs ys (e / 2)) c d (sym (side_odd fs gs e z) ∙ r.from) (sym (side_odd gs fs e z) ∙ r.to)
          (λ s. clash (sym (lives_odd fs gs e z ∙ ap not (eq-eqb (get_or fs (e / 2) 0) (get_or gs (e / 2) 0) s)) ∙ r.alive)))
        where
          clash : false ≡ true → ⊥
          clash s = let z : ◌≡◌ {A = ℕ} 0 1 = cc in omega arith

  abbrev at : ℕ → ℕ
  at e = before fs xs gs ys c d (e / 2)

  abbrev list : List Pair
  list = list_of (links_of fs xs gs ys) c d

  arc_stands : (e : ℕ) → Arc e → (at e < length list) × (nth (xs_of list) (at e) ≡ read_at xs ys e) × (nth (ys_of list) (at e) ≡ read_at ys xs e)
  arc_stands e r = stands fs xs gs ys c d (e / 2) (record { x = read_at xs ys e; y = read_at ys xs e }) (omega (arith, r.inside)) (arc_seen e r)

  pub arc_found : (j : ℕ) → j < length list → (e : ℕ) × Arc e × (at e ≡ j)
  arc_found j h =
      let w : take (length (links_of fs xs gs ys)) (links_of fs xs gs ys) ≡ links_of fs xs gs ys = take-length (links_of fs xs gs ys) in
      let b : length list ≡ before fs xs gs ys c d (length (links_of fs xs gs ys)) = ap (λ (l : List Link). length (list_of l c d)) (sym w) in
      let (k, l, e, s) = found fs xs gs ys c d (length (links_of fs xs gs ys)) j (omega arith) (omega arith) in
      go k l e s (sight (link_at fs xs gs ys k) c d)
    where
      go : (k : ℕ) → k < length (links_of fs xs gs ys) → before fs xs gs ys c d k ≡ j → (seen (link_at fs xs gs ys k) c d ≡ [] → ⊥) → Sight (link_at fs xs gs ys k) c d → (e : ℕ) × Arc e × (at e ≡ j)
      go k l e s (forwards p q) =
          let z : 2 * k % 2 ≡ 0 = omega arith in
          let w : 2 * k / 2 ≡ k = omega arith in (
            2 * k,
            record {
              inside = omega arith;
              alive = lives_even fs gs (2 * k) z;
              from = side_even fs gs (2 * k) z ∙ ap (λ (i : ℕ). get_or fs i 0) w ∙ p;
              to = side_even gs fs (2 * k) z ∙ ap (λ (i : ℕ). get_or gs i 0) w ∙ q;
            },
            ap (before fs xs gs ys c d) w ∙ e,
          )
      go k l e s (backwards p q n) =
          let z : (2 * k + 1) % 2 ≡ 0 → ⊥ = λ u. omega arith in
          let w : (2 * k + 1) / 2 ≡ k = omega arith in (
            2 * k + 1,
            record {
              inside = omega arith;
              alive = lives_odd fs gs (2 * k + 1) z ∙ (rw (w, ne_eqb (get_or fs k 0) (get_or gs k 0) n) refl);
              from = side_odd fs gs (2 * k + 1) z ∙ ap (λ (i : ℕ). get_or gs i 0) w ∙ p;
              to = side_odd gs fs (2 * k + 1) z ∙ ap (λ (i : ℕ). get_or fs i 0) w ∙ q;
            },
            ap (before fs xs gs ys c d) w ∙ e,
          )
      go k l e s (unseen u) = absurd (s u)

  at_mono : (e f : ℕ) → Arc f → f / 2 ≤ e / 2 → e < 2 * length (links_of fs xs gs ys) → at f ≤ at e
  at_mono e f r h l =
      let w : f / 2 + (e / 2 - f / 2) ≡ e / 2 = omega arith in
      rw w at (before_mono fs xs gs ys c d (e / 2 - f / 2) (f / 2) (omega arith))

  module _ {os ks : List ℕ} {n : ℕ} (T : Tables fs xs gs ys os ks n) where
    abbrev l : Lists
    l = record { a = fs; p = T.p; b = gs; q = T.q }

    -- the key of an arc, and its rank
    key_is : (e : ℕ) → Arc e → (side T.p T.q e ≡ excess (read_at xs ys e)) × SFits w64 (read_at xs ys e)
    key_is e r = go (ℕ_discrete (e % 2) 0)
      where
        k : e / 2 < length (links_of fs xs gs ys)
        k = omega (arith, r.inside)

        go : Dec (e % 2 ≡ 0) → (side T.p T.q e ≡ excess (read_at xs ys e)) × SFits w64 (read_at xs ys e)
        go (yes z) = rw (side_even T.p T.q e z, read_even xs ys e z) (T.keyed_x.keys (e / 2) k, T.keyed_x.fits (e / 2) k)
        go (no z) = rw (side_odd T.p T.q e z, read_odd xs ys e z) (T.keyed_y.keys (e / 2) k, T.keyed_y.fits (e / 2) k)

    rank_is : (e : ℕ) → Arc e → rank_at l e ≡ rank c d (excess (read_at xs ys e))
    unfolding rank_at
    rank_is e r = rw (r.from, r.to, (key_is e r).0) refl

    key_small : (e : ℕ) → Arc e → excess (read_at xs ys e) < 2 ^ 64
    key_small e r = excess_lt (read_at xs ys e) (key_is e r).1

    -- no earlier listed number is as the one at i
    first_at : (i : ℕ) → i < n → (f : ℕ) → f < get_or os i 0 → lives fs gs f ≡ true → rank_at l f ≡ rank_at l (get_or os i 0) → ⊥
    unfolding lives_at
    first_at i h f k a q = T.ordered.first i f h k a q

    -- ---- from lo to hi stand the numbers that lead from c to d
    module _ {lo hi : ℕ} (R : Range fs gs os n c d lo hi) (ds : d < 65536) where
      arc_at : (i : ℕ) → lo ≤ i → i < hi → Arc (get_or os i 0)
      unfolding lives_at
      arc_at i g h =
          let m : i < n = omega (arith, R.upto) in
          let s = R.inside i g h in
          record { inside = T.ordered.inside i m; alive = T.ordered.alive i m; from = s.from; to = s.to }

      key_at : (i : ℕ) → lo ≤ i → i < hi → get_or ks i 0 ≡ excess (read_at xs ys (get_or os i 0))
      key_at i g h = T.sorted.keys i (omega (arith, R.upto)) ∙ (key_is (get_or os i 0) (arc_at i g h)).0

      -- each arc has its key there
      stands_at : (e : ℕ) → Arc e → (i : ℕ) × (lo ≤ i) × (i < hi) × (get_or ks i 0 ≡ excess (read_at xs ys e))
      unfolding lives_at rank_at
      stands_at e r =
          let (i, h, q) = T.ordered.covers e r.inside r.alive in
          let s : Small (side fs gs (get_or os i 0)) (side gs fs (get_or os i 0)) (side T.p T.q (get_or os i 0)) = number_small T i h in
          let u = rank_same s (record { to = ds; key = key_small e r }) (q ∙ rank_is e r) in
          let w = R.all i h (record { from = u.0; to = u.1 }) in
          (i, w.0, w.1, T.sorted.keys i h ∙ u.2)

      pub range_rising : Rising ks lo hi
      unfolding rank
      range_rising i j g h k =
          rw (key_at i g (omega arith), key_at j (omega arith) k)
          (key_le (excess (read_at xs ys (get_or os i 0))) (excess (read_at xs ys (get_or os j 0)))
          (rw (rank_is (get_or os i 0) (arc_at i g (omega arith)), rank_is (get_or os j 0) (arc_at j (omega arith) k)) at (not_falling T.ordered i j h (omega (arith, R.upto)))))
        where
          key_le : (h k : ℕ) → rank c d h ≤ rank c d k → h ≤ k
          key_le h k a = omega arith

      module _ (t : ℤ) (ft : SFits w64 t) where
        -- an arc that is as near as any in the order carries t
        arc_carries : (e : ℕ) → Arc e
            → ((f : ℕ) → f < e → lives fs gs f ≡ true → rank_at l f ≡ rank_at l e → ⊥)
            → (excess (read_at xs ys e) ≤ excess t → (f : ℕ) → Arc f → excess (read_at xs ys f) ≤ excess t → excess (read_at xs ys f) ≤ excess (read_at xs ys e))
            → (excess t < excess (read_at xs ys e) → (f : ℕ) → Arc f → (excess t < excess (read_at xs ys f)) × (excess (read_at xs ys e) ≤ excess (read_at xs ys f)))
            → Carries t (xs_of list) (at e)
        arc_carries e r o g s =
            keys_carry t (xs_of list) fits ft (at e) (omega (arith, length_xs list, (arc_stands e r).0))
            (λ h j k u. let (f, a, w) = arc_found j (omega (arith, length_xs list)) in up f a j w (λ v. g (rw (arc_stands e r).1 at h) f a v) u)
            (λ h j k. let (f, a, w) = arc_found j (omega (arith, length_xs list)) in rw (reads f a j w, (arc_stands e r).1) (s (rw (arc_stands e r).1 at h) f a))
            (λ j k q. let (f, a, w) = arc_found j (omega (arith, (arc_stands e r).0)) in once f a j w k (sym (ap excess (reads f a j w)) ∙ q ∙ ap excess (arc_stands e r).1))
          where
            reads : (f : ℕ) → Arc f → (j : ℕ) → at f ≡ j → nth (xs_of list) j ≡ read_at xs ys f
            reads f a j w = ap (nth (xs_of list)) (sym w) ∙ (arc_stands f a).1

            fits : (j : ℕ) → j < length (xs_of list) → SFits w64 (nth (xs_of list) j)
            fits j h = let (f, a, w) = arc_found j (omega (arith, length_xs list)) in rw (reads f a j w) (key_is f a).1

            up : (f : ℕ) → Arc f → (j : ℕ) → at f ≡ j → (excess (read_at xs ys f) ≤ excess t → excess (read_at xs ys f) ≤ excess (read_at xs ys e)) → excess (nth (xs_of list) j) ≤ excess t → excess (nth (xs_of list) j) ≤ excess (nth (xs_of list) (at e))
            up f a j w i u = rw (reads f a j w, (arc_stands e r).1) (i (rw (reads f a j w) at u))

            once : (f : ℕ) → Arc f → (j : ℕ) → at f ≡ j → j < at e → excess (read_at xs ys f) ≡ excess (read_at xs ys e) → ⊥
            once f a j w k q = go (dec_lt f e)
              where
                go : Dec (f < e) → ⊥
                go (yes h) = o f h a.alive (rank_is f a ∙ ap (rank c d) q ∙ sym (rank_is e r))
                go (no h) = omega (arith, at_mono f e r (omega arith) a.inside)

        arc_converts : (e : ℕ) → Arc e → Carries t (xs_of list) (at e) → carried_over list t ≡ shifted_of t (read_at xs ys e) (read_at ys xs e)
        arc_converts e r k = over_list list t (omega (arith, (arc_stands e r).0)) ∙ convert_at t list (at e) k ∙ rw ((arc_stands e r).1, (arc_stands e r).2) refl

        -- what the search chooses carries t
        range_some : lo < hi → carried_over list t ≡ shifted_of t (read_at xs ys (get_or os (chosen ks lo hi (excess t)) 0)) (read_at ys xs (get_or os (chosen ks lo hi (excess t)) 0))
        range_some h = arc_converts e r (arc_carries e r (first_at j (omega (arith, R.upto, b))) greatest smallest)
          where
            j : ℕ
            j = chosen ks lo hi (excess t)

            e : ℕ
            e = get_or os j 0

            a : lo ≤ j
            a = chosen_low ks lo hi (excess t)

            b : j < hi
            b = chosen_high ks lo hi (excess t) h

            r : Arc e
            r = arc_at j a b

            mine : get_or ks j 0 ≡ excess (read_at xs ys e)
            mine = key_at j a b

            -- what stands after it is more than t
            more : (i : ℕ) → j < i → i < hi → excess t < get_or ks i 0
            more i g m = go (dec_lt (excess t) (get_or ks i 0))
              where
                go : Dec (excess t < get_or ks i 0) → excess t < get_or ks i 0
                go (yes s) = s
                go (no s) = absurd (omega (arith, chosen_from ks lo hi (excess t) i range_rising (omega (arith, a)) m (omega arith)))

            greatest : excess (read_at xs ys e) ≤ excess t → (f : ℕ) → Arc f → excess (read_at xs ys f) ≤ excess t → excess (read_at xs ys f) ≤ excess (read_at xs ys e)
            greatest m f s u = let (i, g, k, q) = stands_at f s in go i g k q (dec_lt j i)
              where
                go : (i : ℕ) → lo ≤ i → i < hi → get_or ks i 0 ≡ excess (read_at xs ys f) → Dec (j < i) → excess (read_at xs ys f) ≤ excess (read_at xs ys e)
                go i g k q (yes z) = absurd (omega (arith, more i z k))
                go i g k q (no z) = omega (arith, mine, range_rising i j g (omega arith) b)

            smallest : excess t < excess (read_at xs ys e) → (f : ℕ) → Arc f → (excess t < excess (read_at xs ys f)) × (excess (read_at xs ys e) ≤ excess (read_at xs ys f))
            smallest m f s = let (i, g, k, q) = stands_at f s in go i g k q (dec_lt lo j)
              where
                go : (i : ℕ) → lo ≤ i → i < hi → get_or ks i 0 ≡ excess (read_at xs ys f) → Dec (lo < j) → (excess t < excess (read_at xs ys f)) × (excess (read_at xs ys e) ≤ excess (read_at xs ys f))
                go i g k q (yes z) = absurd (omega (arith, chosen_before ks lo hi (excess t) j z (omega (arith, mine))))
                go i g k q (no z) = let v : get_or ks j 0 ≤ get_or ks i 0 = range_rising j i a (omega arith) k in (omega (arith, mine), omega (arith, mine))

        -- none: the two clocks have no list
        range_none : hi ≤ lo → carried_over list t ≡ Some t
        range_none g = over_none list t (empty list (λ h. let (f, s, q) = arc_found 0 h in let (i, a, b, u) = stands_at f s in omega arith))
          where
            empty : (ps : List Pair) → (0 < length ps → ⊥) → ps ≡ []
            empty [] h = refl
            empty (q ∷ ps) h = absurd (h (omega arith))

        pub range_carries : carried_in xs ys ks os lo hi t ≡ carried_over list t
        range_carries = go (dec_lt lo hi)
          where
            go : Dec (lo < hi) → carried_in xs ys ks os lo hi t ≡ carried_over list t
            go (yes h) = in_some xs ys ks os lo hi t h _ refl ∙ sym (range_some h)
            go (no h) = in_none xs ys ks os lo hi t (omega arith) ∙ sym (range_none (omega arith))

-- what a number of the order names is at hand
pub tables_reach : {fs : List ℕ} {xs : List ℤ} {gs : List ℕ} {ys : List ℤ} {os ks : List ℕ} {n : ℕ} (T : Tables fs xs gs ys os ks n) (i : ℕ) → i < n
    → (get_or os i 0 / 2 < length fs) × (get_or os i 0 / 2 < length xs) × (get_or os i 0 / 2 < length gs) × (get_or os i 0 / 2 < length ys)
tables_reach {fs} {xs} {gs} {ys} T i h =
    let e = T.ordered.inside i h in
    let m = links_most fs xs gs ys in
    (omega (arith, e, m.0), omega (arith, e, m.1), omega (arith, e, m.2), omega (arith, e, m.3))

pub tables_grouped : {fs : List ℕ} {xs : List ℤ} {gs : List ℕ} {ys : List ℤ} {os ks : List ℕ} {n : ℕ} → Tables fs xs gs ys os ks n → Grouped fs gs os n
unfolding rank_at rank
tables_grouped {fs} {gs = gs} {os = os} T = record {
  between = λ c d i j k h g l a b.
      let s = number_small T i (omega arith) in
      let t = number_small T j (omega arith) in
      let u = number_small T k l in
      let p = not_falling T.ordered i j h (omega arith) in
      let q = not_falling T.ordered j k g l in
      record { from = omega (arith, s.to, s.key, t.to, t.key, u.to, u.key, a.from, a.to, b.from, b.to, p, q); to = omega (arith, s.to, s.key, t.to, t.key, u.to, u.key, a.from, a.to, b.from, b.to, p, q) };
  reach = λ i h. let m = tables_reach T i h in (m.0, m.2);
  room = T.room;
}

pub tables_search : {fs : List ℕ} {xs : List ℤ} {gs : List ℕ} {ys : List ℤ} {os ks : List ℕ} {n c d lo hi : ℕ} (T : Tables fs xs gs ys os ks n) → Range fs gs os n c d lo hi → d < 65536 → Searchable xs ys ks os lo hi
tables_search {fs} {xs} {gs} {ys} {c = c} {d = d} T R ds = record {
  keys = omega (arith, T.sorted.room, R.upto);
  order = omega (arith, T.room, R.upto);
  reach = λ i g h. let m = tables_reach T i (omega (arith, R.upto)) in (m.1, m.3);
  rising = range_rising fs xs gs ys c d T R ds;
}

pub tables_of : (fs : List ℕ) (xs : List ℤ) (gs : List ℕ) (ys : List ℤ) {p q os ks : List ℕ} {n k : ℕ} → k ≡ length (links_of fs xs gs ys)
    → ((i : ℕ) → get_or fs i 0 < 65536) → ((i : ℕ) → get_or gs i 0 < 65536) → Keyed xs k p → Keyed ys k q
    → Ordered (rank_at (record { a = fs; p = p; b = gs; q = q })) (lives_at (record { a = fs; p = p; b = gs; q = q })) os n (2 * k) → Sorted p q os n ks → n ≤ length os
    → Tables fs xs gs ys os ks n
tables_of fs xs gs ys {p} {q} e a b x y o s r =
    record { p = p; q = q; small_a = a; small_b = b; keyed_x = rw e at x; keyed_y = rw e at y; ordered = rw e at o; sorted = s; room = r }
