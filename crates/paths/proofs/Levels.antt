-- What each move of a search does that goes level by level, over plain lists.
use Prim.Native.Nat.{ℕ, zero, suc, ◌+◌, ◌-◌, ◌≤◌, ◌<◌, zero-le}
use native.Mathlib.Omega.{arith}
use native.Mathlib.Decide.{dec_lt, ℕ_discrete}
use mathlib.Core.Bool.{true, true≢false}
use mathlib.Core.Path.{◌≡◌, refl, sym, ap, ◌∙◌}
use mathlib.Core.List.{List}
use borrow.Author.Count.{below_more}
use lib.ListN.{length, get_or, set, replicate, length-set, length-replicate, get_or-replicate}
use lib.Seq.{get_or-set_same, get_or-set_other}
use Rattle.paths.specs.Paths.{Net, dist, next}
use Rattle.paths.proofs.laws.Reach.{dist_in, dist_le, dist_rise, at_goal, goal_at}
use Rattle.paths.proofs.laws.Best.{next_is, next_zero, next_far}
use Rattle.paths.specs.laws.Search.{Among, First, NoneOf, Selves, Level, Rest, Noted, Blank, State}
use Rattle.paths.proofs.Picked.{Picked, picked_none, picked_skip, picked_put}

-- a clock e at k pairs or more, and the clocks at one pair less than k in the queue from a to b
module _ {g : Net} {k : ℕ} {qs : List ℕ} {a b e : ℕ} (v : Level g k qs a b) (l : e < g.size) (u : k ≤ dist g e) (f : k < g.far) where
  -- a pair leads to one of them: it is at k pairs
  hit_dist : {c : ℕ} → First (g.adj e) qs a b c → dist g e ≡ k
  hit_dist {c} h = omega (arith, u, dist_rise g e c l h.has, rw h.here at (v.at h.at h.from h.below))

  -- the first to which one leads is the smallest, which is the next clock
  hit_next : {c : ℕ} → First (g.adj e) qs a b c → c ≡ next g e
  hit_next {c} h = go k refl
    where
      near : suc (dist g c) ≡ k
      near = rw h.here at (v.at h.at h.from h.below)

      -- it stands at the same place
      same : (i : ℕ) → a ≤ i → i < b → get_or qs i 0 ≡ next g e → next g e ≤ c → g.adj e (next g e) ≡ true → Dec (i < h.at) → Dec (h.at < i) → c ≡ next g e
      same i p q z m y (yes w) r = absurd (true≢false (sym y ∙ sym (ap (g.adj e) z) ∙ h.before i p w))
      same i p q z m y (no w) (yes r) = absurd (omega (arith, v.rising h.at i h.from r q, h.here))
      same i p q z m y (no w) (no r) = let x : h.at ≡ i = omega arith in sym h.here ∙ ap (λ (j : ℕ). get_or qs j 0) x ∙ z

      go : (m : ℕ) → k ≡ m → c ≡ next g e
      go zero q = absurd (omega (arith, near))
      go (suc j) q =
          let n = next_is g j e (hit_dist h ∙ q) (omega arith) in
          let w = v.all (next g e) (omega (arith, n.near)) in
          same w.0 w.1 w.2 w.3 (n.smallest c (dist_in g c (omega (arith, near))) h.has (omega (arith, near))) n.pair (dec_lt w.0 h.at) (dec_lt h.at w.0)

  -- none does: it is at more
  miss_off : 0 < k → NoneOf (g.adj e) qs a b → k < dist g e
  miss_off z n = go k refl (ℕ_discrete (dist g e) k)
    where
      go : (m : ℕ) → k ≡ m → Dec (dist g e ≡ k) → k < dist g e
      go m q (no y) = omega (arith, u)
      go zero q (yes y) = absurd (omega arith)
      go (suc j) q (yes y) =
          let i = next_is g j e (y ∙ q) (omega arith) in
          let w = v.all (next g e) (omega (arith, i.near)) in
          absurd (true≢false (sym i.pair ∙ sym (ap (g.adj e) w.3) ∙ n w.0 w.1 w.2))

-- a level stays as it is when something is put after it
level_kept : {g : Net} {k : ℕ} {qs : List ℕ} {a b : ℕ} (t x : ℕ) → Level g k qs a b → b ≤ t → Level g k (set qs t x) a b
level_kept {g} {k} {qs} {a} {b} t x v h = record {
  at = λ i p q. rw (same i q) (v.at i p q);
  rising = λ i j p q r. rw (same i (omega arith), same j r) (v.rising i j p q r);
  all = λ c q. let w = v.all c q in (w.0, w.1, w.2, same w.0 w.2 ∙ w.3);
}
  where
    same : (i : ℕ) → i < b → get_or (set qs t x) i 0 ≡ get_or qs i 0
    same i q = get_or-set_other qs t i x 0 (λ z. omega arith)

-- the next level is found: of the m clocks of the rest, listed in ls₀, the first d have been looked at; those at k pairs are noted and stand in the queue from b to tail, and the others are the first of ls
pub record Turn (g : Net) (cap : ℕ) (ls₀ : List ℕ) (m : ℕ) (ds ns ls qs : List ℕ) (a b tail k kept d : ℕ) : Type 0 where
  pub fits : g.size < g.far
  pub big : g.size ≤ cap
  pub above : 0 < k
  pub low : k ≤ a + 1
  pub some : a < b
  pub few : b + m ≤ g.size
  pub upto : d ≤ m
  pub sum : tail + kept ≡ b + d
  pub room_d : length ds ≡ cap
  pub room_n : length ns ≡ cap
  pub room_l : length ls ≡ cap
  pub room_q : length qs ≡ cap
  pub level : Level g k qs a b
  pub rest : Rest g k ls₀ m g.size
  pub same : (i : ℕ) → d ≤ i → get_or ls i 0 ≡ get_or ls₀ i 0
  pub put : Picked (λ c. dist g c ≡ k) ls₀ d qs b tail
  pub keep : Picked (λ c. k < dist g c) ls₀ d ls 0 kept
  pub near : (i : ℕ) → i < cap → dist g i < k → Noted g ds ns i
  pub new : (i : ℕ) → i < d → dist g (get_or ls₀ i 0) ≡ k → Noted g ds ns (get_or ls₀ i 0)
  pub off : (i : ℕ) → i < cap → k < dist g i → Blank g ds ns i

pub turn_start : {g : Net} {cap : ℕ} {ds ns ls : List ℕ} {left : ℕ} {qs : List ℕ} {a b k : ℕ} → State g cap ds ns ls left qs a b k → a < b → Turn g cap ls left ds ns ls qs a b b k 0 0
turn_start s h = record {
  fits = s.fits;
  big = s.big;
  above = s.above;
  low = s.low;
  some = h;
  few = s.few;
  upto = zero-le;
  sum = refl;
  room_d = s.room_d;
  room_n = s.room_n;
  room_l = s.room_l;
  room_q = s.room_q;
  level = s.level;
  rest = s.rest;
  same = λ i _. refl;
  put = picked_none _ _ _ _;
  keep = picked_none _ _ _ _;
  near = s.near;
  new = λ i l. absurd (omega arith);
  off = λ i l f. s.off i l (omega arith);
}

module _ {g : Net} {cap : ℕ} {ls₀ : List ℕ} {m : ℕ} {ds ns ls qs : List ℕ} {a b tail k kept d : ℕ} (s : Turn g cap ls₀ m ds ns ls qs a b tail k kept d) where
  short : k < g.far
  short = omega (arith, s.low, s.some, s.few, s.fits)

  -- the level before is of clocks
  pub level_in : (i : ℕ) → a ≤ i → i < b → get_or qs i 0 < g.size
  level_in i p q = dist_in g (get_or qs i 0) (omega (arith, s.level.at i p q, short))

  pub end_fits : b ≤ cap
  end_fits = omega (arith, s.few, s.big)

  -- all have been looked at
  pub turn_end : m ≤ d → State g cap ds ns ls kept qs b tail (k + 1)
  turn_end h = record {
    fits = s.fits;
    big = s.big;
    above = omega arith;
    low = omega (arith, s.low, s.some);
    order = s.put.order;
    few = omega (arith, s.sum, s.upto, s.few);
    room_d = s.room_d;
    room_n = s.room_n;
    room_l = s.room_l;
    room_q = s.room_q;
    level = record {
      at = λ i p q. omega (arith, s.put.has i p q);
      rising = s.put.rising;
      all = λ c q. at_k c (omega arith);
    };
    rest = record {
      below = λ i l. let w = s.keep.from i zero-le l in rw w.3 at (s.rest.below w.0 (omega (arith, w.2, s.upto)));
      off = λ i l. omega (arith, s.keep.has i zero-le l);
      rising = s.keep.rising;
      all = λ e l u f. let w = s.rest.all e l (omega arith) f in rw w.3 at (s.keep.all w.0 (omega (arith, w.2)) (rw w.3 (omega arith)));
    };
    near = λ i l q. noted i l (dec_lt (dist g i) k) q;
    off = λ i l q. s.off i l (omega arith);
  }
    where
      stands : (c : ℕ) → dist g c ≡ k → Among ls₀ 0 m c
      stands c q = s.rest.all c (dist_in g c (omega (arith, short))) (omega arith) (omega (arith, short))

      at_k : (c : ℕ) → dist g c ≡ k → Among qs b tail c
      at_k c q = let w = stands c q in rw w.3 at (s.put.all w.0 (omega (arith, w.2)) (rw w.3 q))

      noted : (i : ℕ) → i < cap → Dec (dist g i < k) → dist g i < k + 1 → Noted g ds ns i
      noted i l (yes p) q = s.near i l p
      noted i l (no p) q =
          let z : dist g i ≡ k = omega arith in
          let w = stands i z in
          rw w.3 at (s.new w.0 (omega (arith, w.2)) (rw w.3 z))

  -- the next clock
  module _ (l : d < m) where
    abbrev e : ℕ
    e = get_or ls d 0

    was : get_or ls₀ d 0 ≡ e
    was = sym (s.same d (omega arith))

    pub here_in : e < g.size
    here_in = rw was at (s.rest.below d l)

    pub here_fits : e < cap
    here_fits = omega (arith, here_in, s.big)

    here_off : k ≤ dist g e
    here_off = rw was at (s.rest.off d l)

    pub turn_few : m ≤ cap
    turn_few = omega (arith, s.few, s.big)

    pub turn_room : tail < cap
    turn_room = omega (arith, s.sum, s.few, s.big)

    pub kept_room : kept < cap
    kept_room = omega (arith, s.sum, s.put.order, s.few, s.big)

    -- no pair leads from it to the level: it stays
    pub turn_keep : NoneOf (g.adj e) qs a b → Turn g cap ls₀ m ds ns (set ls kept e) qs a b tail k (kept + 1) (d + 1)
    turn_keep n = record {
      fits = s.fits;
      big = s.big;
      above = s.above;
      low = s.low;
      some = s.some;
      few = s.few;
      upto = omega arith;
      sum = omega (arith, s.sum);
      room_d = s.room_d;
      room_n = s.room_n;
      room_l = rw length-set s.room_l;
      room_q = s.room_q;
      level = s.level;
      rest = s.rest;
      same = λ i h. get_or-set_other ls kept i e 0 (λ z. omega (arith, s.sum, s.put.order)) ∙ s.same i (omega arith);
      put = picked_skip s.put (λ q. omega (arith, more, ap (dist g) was));
      keep = picked_put s.keep was s.rest.rising l (omega (arith, s.room_l, kept_room)) more;
      near = s.near;
      new = below_more _ d s.new (λ q. absurd (omega (arith, more, ap (dist g) was)));
      off = s.off;
    }
      where
        more : k < dist g e
        more = miss_off s.level here_in here_off short s.above n

    -- one does, first to c: it is noted
    module _ {c : ℕ} (h : First (g.adj e) qs a b c) where
      abbrev ds' : List ℕ
      ds' = set ds e k

      abbrev ns' : List ℕ
      ns' = set ns e c

      at_k : dist g e ≡ k
      at_k = hit_dist s.level here_in here_off short h

      noted : Noted g ds' ns' e
      noted = (get_or-set_same ds e k 0 (omega (arith, here_fits, s.room_d)) ∙ sym at_k, get_or-set_same ns e c 0 (omega (arith, here_fits, s.room_n)) ∙ hit_next s.level here_in here_off short h)

      other : (i : ℕ) → (i ≡ e → ⊥) → (get_or ds' i 0 ≡ get_or ds i 0) × (get_or ns' i 0 ≡ get_or ns i 0)
      other i n = (get_or-set_other ds e i k 0 n, get_or-set_other ns e i c 0 n)

      apart : (i : ℕ) → (dist g i ≡ k → ⊥) → i ≡ e → ⊥
      apart i n z = n (ap (dist g) z ∙ at_k)

      still : (i : ℕ) → (i ≡ e → ⊥) → Noted g ds ns i → Noted g ds' ns' i
      still i n w = ((other i n).0 ∙ w.0, (other i n).1 ∙ w.1)

      pub turn_put : Turn g cap ls₀ m ds' ns' ls (set qs tail e) a b (tail + 1) k kept (d + 1)
      turn_put = record {
        fits = s.fits;
        big = s.big;
        above = s.above;
        low = s.low;
        some = s.some;
        few = s.few;
        upto = omega arith;
        sum = omega (arith, s.sum);
        room_d = rw length-set s.room_d;
        room_n = rw length-set s.room_n;
        room_l = s.room_l;
        room_q = rw length-set s.room_q;
        level = level_kept tail e s.level s.put.order;
        rest = s.rest;
        same = λ i p. s.same i (omega arith);
        put = picked_put s.put was s.rest.rising l (omega (arith, s.room_q, turn_room)) at_k;
        keep = picked_skip s.keep (λ q. omega (arith, at_k, ap (dist g) was));
        near = λ i p q. still i (apart i (λ z. omega arith)) (s.near i p q);
        new = below_more _ d (λ i p q. still _ (λ z. omega (arith, was, s.rest.rising i d zero-le p l)) (s.new i p q)) (λ q. rw was noted);
        off = λ i p q. let n = other i (apart i (λ z. omega arith)) in let w = s.off i p q in (n.0 ∙ w.0, n.1 ∙ w.1);
      }

-- where the search begins: the target alone is noted
module _ (g : Net) (cap : ℕ) (fits : g.size < g.far) (big : g.size ≤ cap) (goal-in : g.goal < g.size) where
  abbrev ds₀ : List ℕ
  ds₀ = set (replicate cap g.far) g.goal 0

  abbrev qs₀ : List ℕ
  qs₀ = set (replicate cap 0) 0 g.goal

  at_first : get_or qs₀ 0 0 ≡ g.goal
  at_first = get_or-set_same (replicate cap 0) 0 g.goal 0 (rw length-replicate (omega arith))

  at_zero : dist g g.goal ≡ 0
  at_zero = goal_at g goal-in

  only : (c : ℕ) → dist g c ≡ 0 → c ≡ g.goal
  only c e = at_goal g c e (omega arith)

  pub start : {ns ls : List ℕ} {left : ℕ} → Selves cap ns → length ls ≡ cap → Rest g 1 ls left g.size → left < g.size → State g cap ds₀ ns ls left qs₀ 0 1 1
  start {ns} {ls} {left} n z r l = record {
    fits = fits;
    big = big;
    above = omega arith;
    low = omega arith;
    order = zero-le;
    few = omega arith;
    room_d = simp (length-set, length-replicate);
    room_n = n.room;
    room_l = z;
    room_q = simp (length-set, length-replicate);
    level = record {
      at = λ i p q. let w : i ≡ 0 = omega arith in rw (w, at_first, at_zero) refl;
      rising = λ i j p q h. absurd (omega arith);
      all = λ c q. (0, zero-le, omega arith, at_first ∙ sym (only c (omega arith)));
    };
    rest = r;
    near = λ i p q. noted i p (omega arith);
    off = λ i p q. (get_or-set_other (replicate cap g.far) g.goal i 0 0 (λ w. omega (arith, ap (dist g) w, at_zero)) ∙ get_or-replicate cap i g.far 0 p, n.self i p);
  }
    where
      noted : (i : ℕ) → i < cap → dist g i ≡ 0 → Noted g ds₀ ns i
      noted i p q = (ap (λ (c : ℕ). get_or ds₀ c 0) (only i q) ∙ get_or-set_same (replicate cap g.far) g.goal 0 0 (rw length-replicate (omega arith)) ∙ sym q, n.self i p ∙ sym (next_zero g i q))

-- without a clock at j pairs there is none at more, since a path from there would lead by such a clock
gone : (g : Net) (j : ℕ) → ((c : ℕ) → dist g c ≡ j → ⊥) → (m c : ℕ) → dist g c ≡ m + j → m + j < g.far → ⊥
gone g j n zero c e f = n c (omega arith)
gone g j n (suc m) c e f = gone g j n m (next g c) (next_is g (m + j) c (omega arith) (omega arith)).near (omega arith)

-- the last level is empty: all clocks that have a path are noted
pub done : {g : Net} {cap : ℕ} {ds ns ls : List ℕ} {left : ℕ} {qs : List ℕ} {a b k : ℕ} → State g cap ds ns ls left qs a b k → b ≤ a → (c : ℕ) → c < cap → Noted g ds ns c
done {g} {cap} {ds} {ns} {ls} {left} {qs} {a} {b} {k} s h c l = go (dec_lt (dist g c) k) (dec_lt (dist g c) g.far)
  where
    none : (i : ℕ) → dist g i ≡ k - 1 → ⊥
    none i e = let w = s.level.all i (omega (arith, s.above)) in omega (arith, w.1, w.2)

    go : Dec (dist g c < k) → Dec (dist g c < g.far) → Noted g ds ns c
    go (yes p) q = s.near c l p
    go (no p) (yes q) = absurd (gone g (k - 1) none (dist g c - (k - 1)) c (omega arith) (omega arith))
    go (no p) (no q) =
        let f : dist g c ≡ g.far = omega (arith, dist_le g c) in
        let w = s.off c l (omega arith) in
        (w.0 ∙ sym f, w.1 ∙ sym (next_far g c f))
