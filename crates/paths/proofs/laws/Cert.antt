-- How to know the distances without searching for them: a function that is 0 at the goal, is the length of some path wherever it is below far, and rises by at most one over a pair, is the distance.
use Rattle.std.specs.Prelude.{ℕ, zero, suc, ◌+◌, ◌≤◌, ◌<◌, Bool, true, cond, not, ◌&&◌, ◌||◌, ◌≡◌, refl, eqb, ltb, leb}
use Rattle.std.proofs.Common.{arith, true≢false, sym, ap, ◌∙◌, eqb-true, leb-true, lt-ltb}
use Rattle.std.proofs.Math.Decide.{dec_lt}
use Rattle.std.proofs.Math.Bool.{false}
use Rattle.paths.specs.Paths.{Net, least, reach, dist, nearer, next}
use Rattle.paths.specs.Statements.{Levels}
use Rattle.paths.specs.laws.Least.{and_left, and_right, not_so, least_from, least_le, least_same, all, all_has}
use Rattle.paths.proofs.laws.Reach.{reach_next, reach_here, reach_step, reach_goal, reach_in, dist_le, dist_to, dist_rise, at_goal, goal_at}
use Rattle.paths.proofs.laws.Best.{next_is}

-- every clock with a pair to i is at most one farther than i
abbrev pub Closed : Net → (ℕ → ℕ) → ℕ → Type 0
Closed g f i = (j : ℕ) → j < g.size → g.adj j i ≡ true → f j ≤ f i + 1

pub record Cert (g : Net) (f : ℕ → ℕ) : Type 0 where
  pub goal_zero : f g.goal ≡ 0
  pub bound : (i : ℕ) → i < g.size → f i ≤ g.far
  pub sound : (i : ℕ) → i < g.size → f i < g.far → reach g (f i) i ≡ true
  pub closed : (i : ℕ) → i < g.size → f i < g.far → Closed g f i

module _ {g : Net} {f : ℕ → ℕ} (r : Cert g f) where
  -- no path is shorter
  cert_le : (k c : ℕ) → reach g k c ≡ true → f c ≤ k
  cert_le zero c e = let z : f c ≡ 0 = ap f (reach_goal g c e) ∙ r.goal_zero in omega arith
  cert_le (suc k) c e =
      let (d, l, a, w) = reach_next g k c e in
      go d l a (cert_le k d w) (dec_lt (f d) g.far)
    where
      go : (d : ℕ) → d < g.size → g.adj c d ≡ true → f d ≤ k → Dec (f d < g.far) → f c ≤ suc k
      go d l a i (yes q) = omega (arith, r.closed d l q c (reach_in g (suc k) c e) a)
      go d l a i (no q) = omega (arith, r.bound c (reach_in g (suc k) c e))

  pub cert_dist : (c : ℕ) → c < g.size → f c ≡ dist g c
  unfolding dist
  cert_dist c h = omega (arith, least_from (λ k. reach g k c) g.far (f c) (r.bound c h) none, top (dec_lt (f c) g.far))
    where
      none : (i : ℕ) → i < f c → reach g i c ≡ false
      none i l = not_so (reach g i c) (λ e. omega (arith, cert_le i c e))

      top : Dec (f c < g.far) → least (λ k. reach g k c) g.far ≤ f c
      top (yes l) = dist_to g c (f c) (r.sound c h l)
      top (no l) = omega (arith, least_le (λ k. reach g k c) g.far, r.bound c h)

-- the next clock, by a function that gives the distances
abbrev pub next_by : Net → (ℕ → ℕ) → ℕ → ℕ
next_by g f c = cond (ltb 0 (f c) && ltb (f c) g.far) (least (λ d. g.adj c d && eqb (suc (f d)) (f c)) g.size) c

pub next_by_lem : (g : Net) (f : ℕ → ℕ) → ((i : ℕ) → i < g.size → f i ≡ dist g i) → (c : ℕ) → f c ≡ dist g c → next_by g f c ≡ next g c
unfolding next
next_by_lem g f h c e =
    rw e
    (ap (λ (x : ℕ). cond (ltb 0 (dist g c) && ltb (dist g c) g.far) x c)
    (least_same (λ d. g.adj c d && eqb (suc (f d)) (dist g c)) (nearer g c) g.size (λ d m. ap (λ (x : ℕ). g.adj c d && eqb (suc x) (dist g c)) (h d m))))

-- the certificate as a test, for graphs small enough to compute
abbrev pub checked : Net → (ℕ → ℕ) → Bool
checked g f =
    eqb (f g.goal) 0 &&
    all (λ i. leb (f i) g.far && (not (ltb (f i) g.far) || (reach g (f i) i && all (λ j. not (g.adj j i) || leb (f j) (f i + 1)) g.size))) g.size

or_right : (a b : Bool) → (not a || b) ≡ true → a ≡ true → b ≡ true
or_right true b e q = e
or_right false b e q = absurd (true≢false (sym q))

pub checked_cert : (g : Net) (f : ℕ → ℕ) → checked g f ≡ true → Cert g f
checked_cert g f e = record {
  goal_zero = eqb-true (f g.goal) 0 (and_left (eqb (f g.goal) 0) (all each g.size) e);
  bound = λ i h. leb-true (f i) g.far (and_left (leb (f i) g.far) (near i) (at i h));
  sound = λ i h l. and_left (reach g (f i) i) (shut i) (more i h l);
  closed = λ i h l j m a. leb-true (f j) (f i + 1) (or_right (g.adj j i) (leb (f j) (f i + 1)) (all_has (λ j. not (g.adj j i) || leb (f j) (f i + 1)) g.size (and_right (reach g (f i) i) (shut i) (more i h l)) j m) a);
}
  where
    shut : ℕ → Bool
    shut i = all (λ j. not (g.adj j i) || leb (f j) (f i + 1)) g.size

    near : ℕ → Bool
    near i = not (ltb (f i) g.far) || (reach g (f i) i && shut i)

    each : ℕ → Bool
    each i = leb (f i) g.far && near i

    at : (i : ℕ) → i < g.size → each i ≡ true
    at = all_has each g.size (and_right (eqb (f g.goal) 0) (all each g.size) e)

    more : (i : ℕ) → i < g.size → f i < g.far → (reach g (f i) i && shut i) ≡ true
    more i h l = or_right (ltb (f i) g.far) (reach g (f i) i && shut i) (and_right (leb (f i) g.far) (near i) (at i h)) (lt-ltb (f i) g.far l)

pub levels_cert : (g : Net) (f : ℕ → ℕ) → Levels g f → Cert g f
levels_cert g f r = record {
  goal_zero = r.goal_zero;
  bound = r.bound;
  sound = λ i h l. sound (f i) i h refl l;
  closed = λ i h l j m a. omega (arith, r.rise j i m h a);
}
  where
    sound : (k i : ℕ) → i < g.size → f i ≡ k → k < g.far → reach g k i ≡ true
    sound zero i h e l = reach_here g i h (r.zero_goal i h e l)
    sound (suc k) i h e l =
        let (d, m, a, q) = r.down i k h e l in
        reach_step g k i d h a (sound k d m q (omega arith))

pub dist_levels : (g : Net) → g.goal < g.size → Levels g (dist g)
dist_levels g h = record {
  goal_zero = goal_at g h;
  zero_goal = λ c l e f. at_goal g c e f;
  bound = λ c l. dist_le g c;
  down = λ c k l e f. let n = next_is g k c e f in (next g c, n.below, n.pair, n.near);
  rise = λ c d l m a. dist_rise g c d l a;
}
