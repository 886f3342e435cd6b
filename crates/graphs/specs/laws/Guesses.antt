-- The guesses of a graph as pairs that are added one after the other: domains machine by machine, and then files. Assumes nothing.
use Rattle.std.specs.Prelude.{Some, ◌≡◌, Bool, false, cond, ◌&&◌, ◌||◌, List, [], ◌⊎◌, ℕ, ◌+◌, ◌*◌, ◌-◌, ◌/◌, ◌%◌, ◌^◌, ◌≤◌, ◌<◌, leb}
use Rattle.std.proofs.Math.Path.{refl, sym}
use Rattle.std.proofs.Common.{ap, ◌∙◌, arith}
use Rattle.std.proofs.Math.Bool.{true, not}
use Rattle.std.proofs.Math.Logic.{inl, inr}
use Rattle.std.proofs.Math.Decide.{dec_lt}
use Rattle.std.proofs.Math.Dec.{eqb, ltb}
use borrow.Author.Tests.{eq-eqb, ne_eqb, lt-ltb, le-ltb, le-leb, lt-leb, ltb-true, leb-true, eqb-true, eqb-false, not-true}
use Rattle.numbers.specs.declared.Machine.{Machine}
use Rattle.numbers.specs.declared.File.{File}
use Rattle.numbers.specs.declared.Clock.{Clock}
use Rattle.numbers.specs.declared.Owner.TheVariants.{Domain, Private}
use Rattle.numbers.specs.Numbers.{clocks, no_clock, clock_of, private_of, what_is}
use Rattle.numbers.specs.Theorems.{domain_number, private_number}
use Rattle.paths.specs.laws.Least.{and_left, and_right}
use Rattle.graphs.specs.Graphs.{World, world_of, owner, domains, loose, to_trace, guess}
use Rattle.graphs.specs.laws.Matrix.{Marks, joins}
use Rattle.graphs.specs.laws.Shape.{guess_sym}
use Rattle.graphs.specs.laws.Added.{clash, or_right, or_either, Added, One, added_none, added_then, added_same, joined_added, added_marks}

-- graph g guesses domain d
abbrev pub guesses : ℕ → ℕ → Bool
guesses g d = leb 3 g || eqb d 1

-- ---- the numbers of clocks, also past the last machine and file
past_machines : (d : ℕ) (m : Machine) → 32 ≤ m.0 → (clock_of d m).0 ≡ clocks
unfolding clock_of
past_machines d m h = rw (le-ltb m.0 32 h) (go (ltb 0 d && leb d 6))
  where
    go : (b : Bool) → (cond {A = Clock} (b && false) (record { 0 = 6 * m.0 + d - 1 }) no_clock).0 ≡ clocks
    go true = refl
    go false = refl

pub record Numbered (d : ℕ) (m : Machine) : Type 0 where
  pub listed : m.0 < 32
  pub number : (clock_of d m).0 ≡ 6 * m.0 + d - 1

numbered : (d : ℕ) (m : Machine) → 1 ≤ d → d ≤ 6 → (clock_of d m).0 < clocks → Numbered d m
numbered d m a b h = go (dec_lt m.0 32)
  where
    go : Dec (m.0 < 32) → Numbered d m
    go (yes l) = record { listed = l; number = domain_number d m a b l }
    go (no l) = absurd (omega (arith, past_machines d m (omega arith)))

past_files : (f : File) → 32 ≤ f.0 → (private_of f).0 ≡ clocks
unfolding private_of
past_files f h = rw (le-ltb f.0 32 h) refl

file_number_lem : (f : File) → (private_of f).0 < clocks → (private_of f).0 ≡ 192 + f.0
file_number_lem f h = go (dec_lt f.0 32)
  where
    go : Dec (f.0 < 32) → (private_of f).0 ≡ 192 + f.0
    go (yes l) = private_number f l
    go (no l) = absurd (omega (arith, past_files f (omega arith)))

-- ---- one domain of a machine and of those before it
-- e is domain d of machine m, f that of one of the first n machines
pub record Row (d m n e f : ℕ) : Type 0 where
  pub listed : m < 32
  pub own : e ≡ 6 * m + d - 1
  pub domain : f % 6 + 1 ≡ d
  pub upto : f / 6 < n

pub row_start : (d m : ℕ) (t : List ℕ) → Added (Row d m 0) t t
row_start d m t = added_none (λ e f he hf r. let l = r.upto in omega arith)

pub row_more : {d m n : ℕ} {p q : Machine} {s t u : List ℕ} → 1 ≤ d → d ≤ 6 → n < m → p.0 ≡ m → q.0 ≡ n → Added (Row d m n) s t → Marks (joins (clock_of d p).0 (clock_of d q).0) t u → Added (Row d m (n + 1)) s u
row_more {d} {m} {n} {p} {q} {s} {t} {u} a b l pm qn r j = added_then r (joined_added j) weak one parts
  where
    weak : (e f : ℕ) → e < clocks → f < clocks → Row d m n e f → Row d m (n + 1) e f
    weak e f he hf k = record { listed = k.listed; own = k.own; domain = k.domain; upto = omega (arith, k.upto) }

    one : (e f : ℕ) → e < clocks → f < clocks → One (clock_of d p).0 (clock_of d q).0 e f → Row d m (n + 1) e f
    one e f he hf o =
        let x = numbered d p a b (omega (arith, o.left)) in
        let y = numbered d q a b (omega (arith, o.right)) in
        record { listed = omega (arith, x.listed); own = omega (arith, x.number, o.left); domain = omega (arith, y.number, o.right); upto = omega (arith, y.number, o.right) }

    split : (e f : ℕ) → Row d m (n + 1) e f → Dec (f / 6 < n) → Row d m n e f ⊎ One (clock_of d p).0 (clock_of d q).0 e f
    split e f k (yes h) = inl (record { listed = k.listed; own = k.own; domain = k.domain; upto = h })
    split e f k (no h) = inr (record {
      left = omega (arith, k.own, domain_number d p a b (omega (arith, k.listed)));
      right = omega (arith, k.domain, k.upto, domain_number d q a b (omega (arith, k.listed)));
    })

    parts : (e f : ℕ) → e < clocks → f < clocks → Row d m (n + 1) e f → Row d m n e f ⊎ One (clock_of d p).0 (clock_of d q).0 e f
    parts e f he hf k = split e f k (dec_lt (f / 6) n)

-- ---- clocks of machines from a to b, each with the clocks of its domain on the machines before, where graph g guesses it
pub record Part (g a b e f : ℕ) : Type 0 where
  pub from : a ≤ e
  pub to : e < b
  pub listed : e < 192
  pub domain : e % 6 ≡ f % 6
  pub before : f < e
  pub guessed : guesses g (e % 6 + 1) ≡ true

pub part_start : {g a b : ℕ} (t : List ℕ) → b ≤ a → Added (Part g a b) t t
part_start t h = added_none (λ e f he hf r. omega (arith, r.from, r.to))

pub part_more : {g a b c d x : ℕ} {s t u : List ℕ} → a ≤ b → b ≡ c → c ≤ d → d ≡ x → Added (Part g a b) s t → Added (Part g c d) t u → Added (Part g a x) s u
part_more {g} {a} {b} {c} {d} {x} {s} {t} {u} ab bc cd dx p q = added_then p q first last parts
  where
    first : (e f : ℕ) → e < clocks → f < clocks → Part g a b e f → Part g a x e f
    first e f he hf k = record { from = k.from; to = omega (arith, k.to); listed = k.listed; domain = k.domain; before = k.before; guessed = k.guessed }

    last : (e f : ℕ) → e < clocks → f < clocks → Part g c d e f → Part g a x e f
    last e f he hf k = record { from = omega (arith, k.from); to = omega (arith, k.to); listed = k.listed; domain = k.domain; before = k.before; guessed = k.guessed }

    split : (e f : ℕ) → Part g a x e f → Dec (e < b) → Part g a b e f ⊎ Part g c d e f
    split e f k (yes h) = inl (record { from = k.from; to = h; listed = k.listed; domain = k.domain; before = k.before; guessed = k.guessed })
    split e f k (no h) = inr (record { from = omega arith; to = omega (arith, k.to); listed = k.listed; domain = k.domain; before = k.before; guessed = k.guessed })

    parts : (e f : ℕ) → e < clocks → f < clocks → Part g a x e f → Part g a b e f ⊎ Part g c d e f
    parts e f he hf k = split e f k (dec_lt e b)

pub part_upto : {g a b c : ℕ} {s t : List ℕ} → b ≡ c → Added (Part g a b) s t → Added (Part g a c) s t
part_upto h p = rw (← h) p

-- a domain that is guessed, and one that isn't
pub part_row : {d m : ℕ} {s t : List ℕ} (g : ℕ) → 1 ≤ d → d ≤ 6 → guesses g d ≡ true → Added (Row d m m) s t → Added (Part g (6 * m + d - 1) (6 * m + d)) s t
part_row {d} {m} {s} {t} g a b h r = added_same r to fro
  where
    to : (e f : ℕ) → e < clocks → f < clocks → Row d m m e f → Part g (6 * m + d - 1) (6 * m + d) e f
    to e f he hf k =
        let w : e % 6 + 1 ≡ d = omega (arith, k.own) in
        record {
          from = omega (arith, k.own);
          to = omega (arith, k.own);
          listed = omega (arith, k.own, k.listed);
          domain = omega (arith, k.domain);
          before = omega (arith, k.own, k.domain, k.upto);
          guessed = rw w h;
        }

    fro : (e f : ℕ) → e < clocks → f < clocks → Part g (6 * m + d - 1) (6 * m + d) e f → Row d m m e f
    fro e f he hf k = record {
      listed = omega (arith, k.from, k.listed);
      own = omega (arith, k.from, k.to);
      domain = omega (arith, k.from, k.to, k.domain);
      upto = omega (arith, k.from, k.to, k.domain, k.before);
    }

pub part_none : (g d m : ℕ) (t : List ℕ) → 1 ≤ d → d ≤ 6 → guesses g d ≡ false → Added (Part g (6 * m + d - 1) (6 * m + d)) t t
part_none g d m t a b h = added_none none
  where
    none : (e f : ℕ) → e < clocks → f < clocks → Part g (6 * m + d - 1) (6 * m + d) e f → ⊥
    none e f he hf k =
        let w : e % 6 + 1 ≡ d = omega (arith, k.from, k.to) in
        clash (sym h ∙ rw w at k.guessed)

-- ---- trace time and the private clocks of files from a to b that aren't pinned
pub record Free (pinned trace a b e f : ℕ) : Type 0 where
  pub goal : e ≡ trace
  pub from : 192 + a ≤ f
  pub to : f < 192 + b
  pub free : eqb (pinned / 2 ^ (f - 192) % 2) 0 ≡ true
  pub apart : e ≡ f → ⊥

pub free_start : (pinned trace : ℕ) (t : List ℕ) → Added (Free pinned trace 0 0) t t
free_start pinned trace t = added_none (λ e f he hf r. omega (arith, r.from, r.to))

pub free_more : {pinned trace k : ℕ} {s t u : List ℕ} → Added (Free pinned trace 0 k) s t → Added (Free pinned trace k (k + 1)) t u → Added (Free pinned trace 0 (k + 1)) s u
free_more {pinned} {trace} {k} {s} {t} {u} p q = added_then p q first last parts
  where
    first : (e f : ℕ) → e < clocks → f < clocks → Free pinned trace 0 k e f → Free pinned trace 0 (k + 1) e f
    first e f he hf r = record { goal = r.goal; from = r.from; to = omega (arith, r.to); free = r.free; apart = r.apart }

    last : (e f : ℕ) → e < clocks → f < clocks → Free pinned trace k (k + 1) e f → Free pinned trace 0 (k + 1) e f
    last e f he hf r = record { goal = r.goal; from = omega (arith, r.from); to = r.to; free = r.free; apart = r.apart }

    split : (e f : ℕ) → Free pinned trace 0 (k + 1) e f → Dec (f < 192 + k) → Free pinned trace 0 k e f ⊎ Free pinned trace k (k + 1) e f
    split e f r (yes h) = inl (record { goal = r.goal; from = r.from; to = h; free = r.free; apart = r.apart })
    split e f r (no h) = inr (record { goal = r.goal; from = omega arith; to = r.to; free = r.free; apart = r.apart })

    parts : (e f : ℕ) → e < clocks → f < clocks → Free pinned trace 0 (k + 1) e f → Free pinned trace 0 k e f ⊎ Free pinned trace k (k + 1) e f
    parts e f he hf r = split e f r (dec_lt f (192 + k))

module _ (pinned trace : ℕ) (k : File) (t : List ℕ) where
  -- a file that is pinned
  pub free_not : eqb (pinned / 2 ^ k.0 % 2) 0 ≡ false → Added (Free pinned trace k.0 (k.0 + 1)) t t
  free_not h = added_none none
    where
      none : (e f : ℕ) → e < clocks → f < clocks → Free pinned trace k.0 (k.0 + 1) e f → ⊥
      none e f he hf r =
          let w : f - 192 ≡ k.0 = omega (arith, r.from, r.to) in
          clash (sym h ∙ rw w at r.free)

  -- a file whose clock is trace time
  pub free_own : (private_of k).0 ≡ trace → Added (Free pinned trace k.0 (k.0 + 1)) t t
  free_own h = added_none none
    where
      none : (e f : ℕ) → e < clocks → f < clocks → Free pinned trace k.0 (k.0 + 1) e f → ⊥
      none e f he hf r = r.apart (omega (arith, r.goal, r.from, r.to, private_number k (omega (arith, r.from))))

  -- any other
  pub free_joined : {u : List ℕ} → eqb (pinned / 2 ^ k.0 % 2) 0 ≡ true → ((private_of k).0 ≡ trace → ⊥) → Marks (joins trace (private_of k).0) t u → Added (Free pinned trace k.0 (k.0 + 1)) t u
  free_joined {u} h n j = added_same (joined_added j) to fro
    where
      to : (e f : ℕ) → e < clocks → f < clocks → One trace (private_of k).0 e f → Free pinned trace k.0 (k.0 + 1) e f
      to e f he hf o =
          let x = file_number_lem k (omega (arith, o.right)) in
          let w : f - 192 ≡ k.0 = omega (arith, o.right) in
          record { goal = o.left; from = omega (arith, o.right); to = omega (arith, o.right); free = rw w h; apart = λ q. n (omega (arith, o.left, o.right)) }

      fro : (e f : ℕ) → e < clocks → f < clocks → Free pinned trace k.0 (k.0 + 1) e f → One trace (private_of k).0 e f
      fro e f he hf r = record { left = r.goal; right = omega (arith, r.from, r.to, private_number k (omega (arith, r.from))) }

-- ---- what a clock is
own_domain : (e : ℕ) → e < 192 → owner e ≡ Some (Domain (e % 6 + 1) (record { 0 = e / 6 }))
unfolding what_is
own_domain e h = rw (lt-ltb e 192 h) refl

own_file : (e : ℕ) → 192 ≤ e → e < clocks → owner e ≡ Some (Private (record { 0 = e - 192 }))
unfolding what_is
own_file e h l = rw (le-ltb e 192 h, lt-ltb e clocks l) refl

-- ---- all machines: the domains that are guessed
part_true : (g n e f : ℕ) → Part g 0 (6 * n) e f → domains g n (owner e) (owner f) ≡ true
unfolding domains
part_true g n e f k =
    let w : e % 6 + 1 ≡ f % 6 + 1 = omega (arith, k.domain) in
    let x : (e / 6 ≡ f / 6) → ⊥ = λ q. omega (arith, k.domain, k.before) in
    rw (own_domain e k.listed, own_domain f (omega (arith, k.listed, k.before)), eq-eqb (e % 6 + 1) (f % 6 + 1) w, ne_eqb (e / 6) (f / 6) x, k.guessed, lt-ltb (e / 6) n (omega (arith, k.to)), lt-ltb (f / 6) n (omega (arith, k.to, k.before))) refl

after : {e f : ℕ} → (f < e → ⊥) → (e ≡ f → ⊥) → e < f
after {e} {f} n z = go (dec_lt e f)
  where
    go : Dec (e < f) → e < f
    go (yes l) = l
    go (no l) = absurd (z (omega arith))

part_both : (g n e f : ℕ) → e < 192 → f < 192 → domains g n (owner e) (owner f) ≡ true → Part g 0 (6 * n) e f ⊎ Part g 0 (6 * n) f e
unfolding domains
part_both g n e f he hf h = go (rw (own_domain e he, own_domain f hf) at h) (dec_lt f e)
  where
    go : ((((eqb (e % 6 + 1) (f % 6 + 1) && guesses g (e % 6 + 1)) && not (eqb (e / 6) (f / 6))) && ltb (e / 6) n) && ltb (f / 6) n) ≡ true → Dec (f < e) → Part g 0 (6 * n) e f ⊎ Part g 0 (6 * n) f e
    go k d =
        let a = eqb (e % 6 + 1) (f % 6 + 1) in
        let b = guesses g (e % 6 + 1) in
        let x = not (eqb (e / 6) (f / 6)) in
        let y = ltb (e / 6) n in
        let k₁ = and_left (((a && b) && x) && y) (ltb (f / 6) n) k in
        let k₂ = and_left ((a && b) && x) y k₁ in
        let k₃ = and_left (a && b) x k₂ in
        let same : e % 6 + 1 ≡ f % 6 + 1 = eqb-true (e % 6 + 1) (f % 6 + 1) (and_left a b k₃) in
        let gs : guesses g (e % 6 + 1) ≡ true = and_right a b k₃ in
        let apart = eqb-false (e / 6) (f / 6) (not-true (eqb (e / 6) (f / 6)) (and_right (a && b) x k₂)) in
        let le : e / 6 < n = ltb-true (e / 6) n (and_right ((a && b) && x) y k₁) in
        let lf : f / 6 < n = ltb-true (f / 6) n (and_right (((a && b) && x) && y) (ltb (f / 6) n) k) in
        pick same gs apart le lf d
      where
        pick : e % 6 + 1 ≡ f % 6 + 1 → guesses g (e % 6 + 1) ≡ true → (e / 6 ≡ f / 6 → ⊥) → e / 6 < n → f / 6 < n → Dec (f < e) → Part g 0 (6 * n) e f ⊎ Part g 0 (6 * n) f e
        pick same gs apart le lf (yes q) = inl (record { from = omega arith; to = omega arith; listed = he; domain = omega arith; before = q; guessed = gs })
        pick same gs apart le lf (no q) = inr (record { from = omega arith; to = omega arith; listed = hf; domain = omega arith; before = after q (λ z. apart (ap (λ (i : ℕ). i / 6) z)); guessed = rw (← same) gs })

part_from : (g n e f : ℕ) → e < clocks → f < clocks → domains g n (owner e) (owner f) ≡ true → Part g 0 (6 * n) e f ⊎ Part g 0 (6 * n) f e
unfolding domains
part_from g n e f he hf h = go (dec_lt e 192) (dec_lt f 192)
  where
    go : Dec (e < 192) → Dec (f < 192) → Part g 0 (6 * n) e f ⊎ Part g 0 (6 * n) f e
    go (yes a) (yes b) = part_both g n e f a b h
    go (yes a) (no b) = clash (rw (own_domain e a, own_file f (omega arith) hf) at h)
    go (no a) b = clash (rw (own_file e (omega arith) he) at h)

-- ---- all files: the private clocks that are guessed
module _ (machines files pinned trace : ℕ) where
  abbrev world : World
  world = world_of [] [] [] [] machines files pinned trace

  free_true : (e f : ℕ) → f < clocks → Free pinned trace 0 files e f → to_trace world e f ≡ true
  unfolding to_trace loose
  free_true e f hf k = rw (own_file f (omega (arith, k.from)) hf, eq-eqb e trace k.goal, lt-ltb (f - 192) files (omega (arith, k.from, k.to)), k.free, ne_eqb e f k.apart) refl

  free_from : (e f : ℕ) → f < clocks → to_trace world e f ≡ true → Free pinned trace 0 files e f
  unfolding to_trace loose
  free_from e f hf h = go (dec_lt f 192)
    where
      private : 192 ≤ f → ((eqb e trace && (ltb (f - 192) files && eqb (pinned / 2 ^ (f - 192) % 2) 0)) && not (eqb e f)) ≡ true → Free pinned trace 0 files e f
      private l k =
          let a = eqb e trace in
          let b = ltb (f - 192) files && eqb (pinned / 2 ^ (f - 192) % 2) 0 in
          let k₁ = and_left (a && b) (not (eqb e f)) k in
          let k₂ = and_right a b k₁ in
          let m : f - 192 < files = ltb-true (f - 192) files (and_left (ltb (f - 192) files) (eqb (pinned / 2 ^ (f - 192) % 2) 0) k₂) in
          record {
            goal = eqb-true e trace (and_left a b k₁);
            from = l;
            to = omega arith;
            free = and_right (ltb (f - 192) files) (eqb (pinned / 2 ^ (f - 192) % 2) 0) k₂;
            apart = eqb-false e f (not-true (eqb e f) (and_right (a && b) (not (eqb e f)) k));
          }

      none : (a b : Bool) → ((a && false) && b) ≡ true → Free pinned trace 0 files e f
      none true b q = clash q
      none false b q = clash q

      go : Dec (f < 192) → Free pinned trace 0 files e f
      go (yes l) = none (eqb e trace) (not (eqb e f)) (rw (own_domain f l) at h)
      go (no l) = private (omega arith) (rw (own_file f (omega arith) hf) at h)

  -- ---- the guesses of each graph
  module _ (g : ℕ) (m : List ℕ) where
    -- graph 1 has none
    pub guess_none : g < 2 → Marks (guess g world) m m
    unfolding guess
    guess_none h = record { room = refl; cells = λ e f he hf. sym (rw (lt-leb 2 g h) refl) }

    -- graph 2 has those of domains
    pub guess_domains : {n : List ℕ} → 2 ≤ g → g < 3 → Added (Part g 0 (6 * machines)) m n → Marks (guess g world) m n
    unfolding guess
    guess_domains {n} h l a = added_marks (guess g world) a (guess_sym g world) to fro
      where
        to : (e f : ℕ) → e < clocks → f < clocks → Part g 0 (6 * machines) e f → guess g world e f ≡ true
        to e f he hf k = rw (le-leb 2 g h, part_true g machines e f k) refl

        pick : (e f : ℕ) → e < clocks → f < clocks → (domains g machines (owner e) (owner f) ≡ true) ⊎ ((leb 3 g && (to_trace world e f || to_trace world f e)) ≡ true) → Part g 0 (6 * machines) e f ⊎ Part g 0 (6 * machines) f e
        pick e f he hf (inl k) = part_from g machines e f he hf k
        pick e f he hf (inr k) = absurd (omega (arith, leb-true 3 g (and_left (leb 3 g) (to_trace world e f || to_trace world f e) k)))

        fro : (e f : ℕ) → e < clocks → f < clocks → guess g world e f ≡ true → Part g 0 (6 * machines) e f ⊎ Part g 0 (6 * machines) f e
        fro e f he hf k = pick e f he hf (or_either (domains g machines (owner e) (owner f)) (leb 3 g && (to_trace world e f || to_trace world f e)) (and_right (leb 2 g) (domains g machines (owner e) (owner f) || (leb 3 g && (to_trace world e f || to_trace world f e))) k))

    -- graph 3 those of files too
    abbrev Either : ℕ → ℕ → Type 0
    Either e f = Part g 0 (6 * machines) e f ⊎ Free pinned trace 0 files e f

    pub guess_files : {n o : List ℕ} → 3 ≤ g → Added (Part g 0 (6 * machines)) m n → Added (Free pinned trace 0 files) n o → Marks (guess g world) m o
    unfolding guess
    guess_files {n} {o} h a b = added_marks (guess g world) (added_then a b (λ e f he hf k. inl k) (λ e f he hf k. inr k) (λ e f he hf k. k)) (guess_sym g world) to fro
      where
        to : (e f : ℕ) → e < clocks → f < clocks → Either e f → guess g world e f ≡ true
        to e f he hf (inl k) = rw (le-leb 2 g (omega arith), part_true g machines e f k) refl
        to e f he hf (inr k) = rw (le-leb 2 g (omega arith), le-leb 3 g h, free_true e f hf k) (or_right (domains g machines (owner e) (owner f)) refl)

        turn : (e f : ℕ) → Part g 0 (6 * machines) e f ⊎ Part g 0 (6 * machines) f e → Either e f ⊎ Either f e
        turn e f (inl k) = inl (inl k)
        turn e f (inr k) = inr (inl k)

        file : (e f : ℕ) → e < clocks → f < clocks → (to_trace world e f ≡ true) ⊎ (to_trace world f e ≡ true) → Either e f ⊎ Either f e
        file e f he hf (inl k) = inl (inr (free_from e f hf k))
        file e f he hf (inr k) = inr (inr (free_from f e he k))

        pick : (e f : ℕ) → e < clocks → f < clocks → (domains g machines (owner e) (owner f) ≡ true) ⊎ ((leb 3 g && (to_trace world e f || to_trace world f e)) ≡ true) → Either e f ⊎ Either f e
        pick e f he hf (inl k) = turn e f (part_from g machines e f he hf k)
        pick e f he hf (inr k) = file e f he hf (or_either (to_trace world e f) (to_trace world f e) (and_right (leb 3 g) (to_trace world e f || to_trace world f e) k))

        fro : (e f : ℕ) → e < clocks → f < clocks → guess g world e f ≡ true → Either e f ⊎ Either f e
        fro e f he hf k = pick e f he hf (or_either (domains g machines (owner e) (owner f)) (leb 3 g && (to_trace world e f || to_trace world f e)) (and_right (leb 2 g) (domains g machines (owner e) (owner f) || (leb 3 g && (to_trace world e f || to_trace world f e))) k))
