-- A reading carried along the next clocks of a graph is carried along its best path. Assumes nothing.
use Rattle.std.specs.Prelude.{◌≡◌, Bool, true, false, ◌&&◌, List, [], ◌∷◌, ℕ, zero, suc, ◌+◌, ◌<◌, length, ℤ, pos, Option, Some, None, slice_get}
use Rattle.std.proofs.Math.Path.{refl}
use Rattle.std.proofs.Common.{sym, ap, ◌∙◌, true≢false, arith, SFits}
use Rattle.std.proofs.Math.Decide.{dec_lt}
use Rattle.std.proofs.Math.Dec.{ltb}
use Rattle.std.proofs.Math.ListN.{get_or}
use Rattle.std.proofs.Math.IntN.{+ℤ-neg_ℤ_cancel}
use Rattle.std.specs.Int.{w64}
use borrow.Author.Tests.{lt-ltb, le-ltb, ltb-true}
use Rattle.numbers.specs.Numbers.{clocks}
use Rattle.whole.specs.Pairs.{Pair, xs_of, converted, carried_by, place_for, place_from}
use Rattle.whole.proofs.laws.Sums.{shifted_in, in_shifted}
use Rattle.paths.specs.Paths.{dist, next, trace}
use Rattle.paths.specs.Matrix.{far, distances, nexts}
use Rattle.paths.proofs.laws.Best.{next_is, length_trace}
use Rattle.paths.proofs.laws.Reach.{dist_in, outside}
use Rattle.paths.proofs.laws.Table.{get_d_nexts, get_d_distances}
use Rattle.graphs.specs.Links.{Link, links_of, list_of}
use Rattle.graphs.specs.Graphs.{World, guess, or_guess, along, some, joined, graph}
use Rattle.clocks.specs.Answers.{Answer, through, carried, ended, placed, related}
use Rattle.clocks.specs.laws.Chosen.{carried_over, Tables, Searchable, carried_in, range_carries, tables_search}
use Rattle.clocks.specs.laws.Order.{Ranges}
use Rattle.paths.specs.laws.Least.{and_left}

-- a value carried by f; what was out of range stays so
unfoldable pub over : (ℤ → Option ℤ) → Option ℤ → Option ℤ
over f (Some t) = f t
over f None = None

-- k steps along a list of next clocks from c, where f carries a reading from a clock to its next
unfoldable pub followed : (ℕ → ℤ → Option ℤ) → List ℕ → ℕ → ℕ → Option ℤ → Option ℤ
followed f ns zero c v = v
followed f ns (suc k) c v = followed f ns k (get_or ns c 0) (over (f c) v)

pub followed_out : (f : ℕ → ℤ → Option ℤ) (ns : List ℕ) (k c : ℕ) → followed f ns k c None ≡ None
unfolding followed over
followed_out f ns zero c = refl
followed_out f ns (suc k) c = followed_out f ns k (get_or ns c 0)

pub followed_end : (f : ℕ → ℤ → Option ℤ) (ns : List ℕ) (k c : ℕ) (v : Option ℤ) → k ≡ 0 → followed f ns k c v ≡ v
unfolding followed
followed_end f ns k c v e = rw e refl

-- one of the steps left
pub followed_step : (f : ℕ → ℤ → Option ℤ) (ns : List ℕ) (k m c : ℕ) (t : ℤ) (v : Option ℤ) → k ≡ m + 1 → v ≡ f c t → followed f ns k c (Some t) ≡ followed f ns m (get_or ns c 0) v
unfolding followed over
followed_step f ns k m c t v e q = let s : k ≡ suc m = omega arith in rw (s, q) refl

-- ---- the tables that carry a reading from a clock to its next: the readings, the order with its keys, and where each clock's part of it lies
pub record Lookup : Type 0 where
  pub x : List ℤ
  pub y : List ℤ
  pub keys : List ℕ
  pub order : List ℕ
  pub low : List ℕ
  pub high : List ℕ

unfoldable pub carried_from : Lookup → ℕ → ℤ → Option ℤ
carried_from l c t = carried_in l.x l.y l.keys l.order (get_or l.low c 0) (get_or l.high c 0) t

-- the next clock of each clock is one
abbrev pub Inside : List ℕ → Type 0
Inside ns = (c : ℕ) → c < clocks → get_or ns c 0 < clocks

-- every clock can be looked up
pub record Sound (l : Lookup) : Type 0 where
  pub low : length l.low ≡ clocks
  pub high : length l.high ≡ clocks
  pub search : (c : ℕ) → c < clocks → Searchable l.x l.y l.keys l.order (get_or l.low c 0) (get_or l.high c 0)

-- f carries a reading over the list of each clock and its next
abbrev pub Agrees : (ℕ → ℤ → Option ℤ) → List Link → List ℕ → Type 0
Agrees f ls ns = (c : ℕ) (t : ℤ) → c < clocks → SFits w64 t → f c t ≡ carried_over (list_of ls c (get_or ns c 0)) t

module _ {fs : List ℕ} {xs : List ℤ} {gs : List ℕ} {ys : List ℤ} {os ks : List ℕ} {n : ℕ} {ns lows highs : List ℕ} (T : Tables fs xs gs ys os ks n) (R : Ranges fs gs os n ns lows highs) (N : Inside ns) where
  pub tables_sound : Sound (record { x = xs; y = ys; keys = ks; order = os; low = lows; high = highs })
  tables_sound = record { low = R.low; high = R.high; search = λ c h. tables_search T (R.ranges c h) (omega (arith, N c h)) }

  pub tables_agree : Agrees (carried_from (record { x = xs; y = ys; keys = ks; order = os; low = lows; high = highs })) (links_of fs xs gs ys) ns
  unfolding carried_from
  tables_agree c t h f = range_carries fs xs gs ys c (get_or ns c 0) T (R.ranges c h) (omega (arith, N c h)) t f

-- ---- what stays within 64 bits
carried_fits : (t u : ℤ) (o : Option Pair) → carried_by t o ≡ Some u → SFits w64 u
unfolding carried_by
carried_fits t u None e = let z : ◌≡◌ {A = ℕ} 0 1 = cc in absurd (omega arith)
carried_fits t u (Some p) e = (in_shifted t p.x p.y u e).1

converted_fits : (t u : ℤ) (ps : List Pair) → converted t ps ≡ Some u → SFits w64 u
unfolding converted
converted_fits t u ps e = go (slice_get ps (place_for t (xs_of ps))) e
  where
    go : (o : Option Pair) → carried_by t o ≡ Some u → SFits w64 u
    go o e = carried_fits t u o e

pub over_fits : (ps : List Pair) (t u : ℤ) → SFits w64 t → carried_over ps t ≡ Some u → SFits w64 u
unfolding carried_over
over_fits [] t u f e = let q : t ≡ u = cc in rw q at f
over_fits (p ∷ ps) t u f e = converted_fits t u (p ∷ ps) e

-- ---- over a pair of a graph
zero_offset : (t : ℤ) → SFits w64 t → converted t (record { x = pos 0; y = pos 0 } ∷ []) ≡ Some t
unfolding converted carried_by place_for place_from xs_of
zero_offset t f = shifted_in t (pos 0) (pos 0) t (+ℤ-neg_ℤ_cancel t (pos 0)) f

pub over_pair : (b : Bool) (ps : List Pair) (t : ℤ) → SFits w64 t → some (or_guess b ps) ≡ true → through (or_guess b ps) (Some t) ≡ carried_over ps t
unfolding or_guess some through carried_over
over_pair b (p ∷ ps) t f e = refl
over_pair true [] t f e = zero_offset t f
over_pair false [] t f e = absurd (true≢false (sym e))

pub over_joined : (g : ℕ) (w : World) (c d : ℕ) (t : ℤ) → SFits w64 t → joined g w c d ≡ true → through (along g w c d) (Some t) ≡ carried_over (list_of w.links c d) t
unfolding joined along
over_joined g w c d t f e = over_pair (guess g w c d) (list_of w.links c d) t f e

carried_out : (g : ℕ) (w : World) (c : ℕ) (p : List ℕ) → carried g w c p None ≡ None
unfolding carried through
carried_out g w c [] = refl
carried_out g w c (d ∷ p) = carried_out g w d p

pub followed_carried : (g : ℕ) (w : World) (f : ℕ → ℤ → Option ℤ) → Agrees f w.links (nexts (graph g w)) → (k c : ℕ) (t : ℤ) → dist (graph g w) c ≡ k → k < far → SFits w64 t
    → followed f (nexts (graph g w)) k c (Some t) ≡ carried g w c (trace (graph g w) k c) (Some t)
unfolding followed carried trace over
followed_carried g w f a zero c t e l s = refl
followed_carried g w f a (suc k) c t e l s =
    let n = next_is (graph g w) k c e l in
    let b : c < clocks = dist_in (graph g w) c (omega arith) in
    let q : get_or (nexts (graph g w)) c 0 ≡ next (graph g w) c = get_d_nexts (graph g w) c b in
    let d : ℕ = next (graph g w) c in
    ap (followed f (nexts (graph g w)) k (get_or (nexts (graph g w)) c 0)) (a c t b s)
    ∙ ap (λ (i : ℕ). followed f (nexts (graph g w)) k i (carried_over (list_of w.links c i) t)) q
    ∙ go (carried_over (list_of w.links c d) t) refl (λ u z. followed_carried g w f a k d u n.near (omega arith) (over_fits (list_of w.links c d) t u s z))
    ∙ sym (ap (carried g w d (trace (graph g w) k d)) (over_joined g w c d t s n.pair))
  where
    go : (v : Option ℤ) → carried_over (list_of w.links c (next (graph g w) c)) t ≡ v
        → ((u : ℤ) → carried_over (list_of w.links c (next (graph g w) c)) t ≡ Some u → followed f (nexts (graph g w)) k (next (graph g w) c) (Some u) ≡ carried g w (next (graph g w) c) (trace (graph g w) k (next (graph g w) c)) (Some u))
        → followed f (nexts (graph g w)) k (next (graph g w) c) v ≡ carried g w (next (graph g w) c) (trace (graph g w) k (next (graph g w) c)) v
    go (Some u) e ih = ih u e
    go None e ih = followed_out f (nexts (graph g w)) k (next (graph g w) c) ∙ sym (carried_out g w (next (graph g w) c) (trace (graph g w) k (next (graph g w) c)))

-- ---- an event's answer from the tables of a graph
-- the table of distances has a path for c
unfoldable pub has_path : List ℕ → ℕ → Bool
has_path ds c = ltb c clocks && ltb (get_or ds c 0) far

-- and by the tables it comes to
unfoldable pub placed_by : ℕ → (ℕ → ℤ → Option ℤ) → List ℕ → List ℕ → ℕ → ℤ → Answer
placed_by g f ds ns c t = ended g (get_or ds c 0) (followed f ns (get_or ds c 0) c (Some t))

module _ (g : ℕ) (w : World) (c : ℕ) where
  pub path_related : has_path (distances (graph g w)) c ≡ related g w c
  unfolding has_path related
  path_related = go (dec_lt c clocks)
    where
      go : Dec (c < clocks) → (ltb c clocks && ltb (get_or (distances (graph g w)) c 0) far) ≡ ltb (dist (graph g w) c) far
      go (yes h) = rw (lt-ltb c clocks h, get_d_distances (graph g w) c h) refl
      go (no h) = rw (le-ltb c clocks (omega arith)) (sym (le-ltb (dist (graph g w) c) far (omega (arith, outside (graph g w) c (omega arith)))))

  pub placed_by_lem : (f : ℕ → ℤ → Option ℤ) → Agrees f w.links (nexts (graph g w)) → (t : ℤ) → SFits w64 t → related g w c ≡ true → placed_by g f (distances (graph g w)) (nexts (graph g w)) c t ≡ placed g w c t
  unfolding placed_by placed related
  placed_by_lem f a t s r =
      let l : dist (graph g w) c < far = ltb-true (dist (graph g w) c) far r in
      let e : get_or (distances (graph g w)) c 0 ≡ dist (graph g w) c = get_d_distances (graph g w) c (dist_in (graph g w) c l) in
      rw (e, length_trace (graph g w) (dist (graph g w) c) c) (ap (ended g (dist (graph g w) c)) (followed_carried g w f a (dist (graph g w) c) c t refl l s))

pub path_clock : (ds : List ℕ) (c : ℕ) → has_path ds c ≡ true → c < clocks
unfolding has_path
path_clock ds c e = ltb-true c clocks (and_left (ltb c clocks) (ltb (get_or ds c 0) far) e)
