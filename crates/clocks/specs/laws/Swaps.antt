-- Correspondences that are apart may change places. Assumes nothing.
use Rattle.std.specs.Prelude.{◌≡◌, refl, List, [], ◌∷◌, ◌++◌, ℕ, zero, suc, ◌<◌, ℤ}
use Rattle.std.proofs.Common.{sym, ap, ◌∙◌, arith}
use Rattle.whole.specs.Pairs.{Pair, xs_of, ys_of, nth}
use Rattle.graphs.specs.Links.{Link, list_of}
use Rattle.graphs.specs.Graphs.{World}
use Rattle.graphs.specs.laws.Links.{seen, list_cons, list_append, seen_forwards, seen_backwards, Sight, sight}
use Rattle.graphs.specs.laws.Links.Sight.{forwards, backwards, unseen}
use Rattle.clocks.specs.Answers.{answer_of}
use Rattle.clocks.specs.laws.Firsts.{First, Firsts}
use Rattle.clocks.specs.Statements.{SameWorld, with_links, Apart, Rearranged}
use Rattle.clocks.specs.Statements.Rearranged.{as_it_was, swap}
use Rattle.clocks.specs.laws.Same.{answer_same}

-- ---- what a list has first of x is y
data Finds (x y : ℤ) : List Pair → Type 0 where
  here : {p : Pair} {ps : List Pair} → p.x ≡ x → p.y ≡ y → Finds x y (p ∷ ps)
  past : {p : Pair} {ps : List Pair} → (p.x ≡ x → ⊥) → Finds x y ps → Finds x y (p ∷ ps)

first_finds : (ps : List Pair) (i : ℕ) → First ps i → Finds (nth (xs_of ps) i) (nth (ys_of ps) i) ps
unfolding xs_of ys_of
first_finds [] i f = absurd (omega (arith, f.listed))
first_finds (p ∷ ps) zero f = here refl refl
first_finds (p ∷ ps) (suc i) f =
    past (f.none 0 (omega arith)) (first_finds ps i (record { listed = omega (arith, f.listed); none = λ j l e. f.none (suc j) (omega arith) e }))

finds_first : {x y : ℤ} {ps : List Pair} → Finds x y ps → (j : ℕ) × First ps j × (nth (xs_of ps) j ≡ x) × (nth (ys_of ps) j ≡ y)
unfolding xs_of ys_of
finds_first (here e f) = (0, record { listed = omega arith; none = λ j l e. omega arith }, e, f)
finds_first {x} {y} (past {p} {ps} m r) = more (finds_first r)
  where
    more : (j : ℕ) × First ps j × (nth (xs_of ps) j ≡ x) × (nth (ys_of ps) j ≡ y) → (j : ℕ) × First (p ∷ ps) j × (nth (xs_of (p ∷ ps)) j ≡ x) × (nth (ys_of (p ∷ ps)) j ≡ y)
    more (j, f, a, b) = (suc j, record { listed = omega (arith, f.listed); none = none }, a, b)
      where
        none : (k : ℕ) → k < suc j → nth (xs_of (p ∷ ps)) k ≡ nth (xs_of (p ∷ ps)) (suc j) → ⊥
        none zero l e = m (e ∙ a)
        none (suc k) l e = f.none k (omega arith) e

finds_firsts : (ps qs : List Pair) → ((x y : ℤ) → Finds x y ps → Finds x y qs) → Firsts ps qs
finds_firsts ps qs to i f = finds_first (to (nth (xs_of ps) i) (nth (ys_of ps) i) (first_finds ps i f))

-- ---- two neighbours of different x, or of which one is missing
data Slim : List Pair → List Pair → Type 0 where
  left : {ss : List Pair} → Slim [] ss
  right : {rs : List Pair} → Slim rs []
  both : {r s : Pair} → (r.x ≡ s.x → ⊥) → Slim (r ∷ []) (s ∷ [])

finds_swap : {x y : ℤ} {rs ss : List Pair} (ps qs : List Pair) → Slim rs ss → Finds x y (ps ++ (rs ++ (ss ++ qs))) → Finds x y (ps ++ (ss ++ (rs ++ qs)))
finds_swap [] qs left f = f
finds_swap [] qs right f = f
finds_swap [] qs (both n) (here e f) = past (λ d. n (e ∙ sym d)) (here e f)
finds_swap [] qs (both n) (past m (here e f)) = here e f
finds_swap [] qs (both n) (past m (past k f)) = past k (past m f)
finds_swap (p ∷ ps) qs s (here e f) = here e f
finds_swap (p ∷ ps) qs s (past m f) = past m (finds_swap ps qs s f)

-- ---- correspondences that are apart
-- two of different pairs of clocks
pub other_pair : {p q : Link} → (p.a ≡ q.a → p.b ≡ q.b → ⊥) → (p.a ≡ q.b → p.b ≡ q.a → ⊥) → Apart p q
other_pair n m = record { same_way = λ e f. absurd (n e f); other_way = λ e f. absurd (m e f) }

apart_sym : {p q : Link} → Apart p q → Apart q p
apart_sym a = record {
  same_way = λ e f. let k = a.same_way (sym e) (sym f) in (λ d. k.0 (sym d), λ d. k.1 (sym d));
  other_way = λ e f. let k = a.other_way (sym f) (sym e) in (λ d. k.1 (sym d), λ d. k.0 (sym d));
}

apart_slim : {p q : Link} → Apart p q → (c d : ℕ) → Slim (seen p c d) (seen q c d)
apart_slim {p} {q} a c d = go (sight p c d) (sight q c d)
  where
    go : Sight p c d → Sight q c d → Slim (seen p c d) (seen q c d)
    go (unseen u) s = rw u left
    go (forwards e f) (unseen u) = rw u right
    go (backwards e f n) (unseen u) = rw u right
    go (forwards e f) (forwards g h) = rw (seen_forwards p c d e f, seen_forwards q c d g h) (both (a.same_way (e ∙ sym g) (f ∙ sym h)).0)
    go (forwards e f) (backwards g h m) = rw (seen_forwards p c d e f, seen_backwards q c d g h m) (both (a.other_way (e ∙ sym g) (f ∙ sym h)).0)
    go (backwards e f n) (forwards g h) = rw (seen_backwards p c d e f n, seen_forwards q c d g h) (both (a.other_way (f ∙ sym h) (e ∙ sym g)).1)
    go (backwards e f n) (backwards g h m) = rw (seen_backwards p c d e f n, seen_backwards q c d g h m) (both (a.same_way (f ∙ sym h) (e ∙ sym g)).1)

list_two : (ls rs : List Link) (p q : Link) (c d : ℕ) → list_of (ls ++ (p ∷ q ∷ rs)) c d ≡ list_of ls c d ++ (seen p c d ++ (seen q c d ++ list_of rs c d))
list_two ls rs p q c d =
    list_append ls (p ∷ q ∷ rs) c d
    ∙ ap (λ (x : List Pair). list_of ls c d ++ x) (list_cons p (q ∷ rs) c d ∙ ap (λ (x : List Pair). seen p c d ++ x) (list_cons q rs c d))

swap_firsts : (ls rs : List Link) (p q : Link) → Apart p q → (c d : ℕ) → Firsts (list_of (ls ++ (p ∷ q ∷ rs)) c d) (list_of (ls ++ (q ∷ p ∷ rs)) c d)
swap_firsts ls rs p q a c d =
    rw (list_two ls rs p q c d, list_two ls rs q p c d) (finds_firsts _ _ (λ x y. finds_swap (list_of ls c d) (list_of rs c d) (apart_slim a c d)))

pub swap_same : (w : World) (ls rs : List Link) (p q : Link) → Apart p q → SameWorld (with_links w (ls ++ (p ∷ q ∷ rs))) (with_links w (ls ++ (q ∷ p ∷ rs)))
swap_same w ls rs p q a = record {
  machines = refl;
  files = refl;
  pinned = refl;
  trace = refl;
  to = λ c d. swap_firsts ls rs p q a c d;
  from = λ c d. swap_firsts ls rs q p (apart_sym a) c d;
}

pub rearranged_same : (w : World) {ls ms : List Link} → Rearranged ls ms → (c : ℕ) (t : ℤ) → answer_of (with_links w ls) c t ≡ answer_of (with_links w ms) c t
rearranged_same w as_it_was c t = refl
rearranged_same w (swap ls rs p q a r) c t = answer_same (swap_same w ls rs p q a) c t ∙ rearranged_same w r c t
