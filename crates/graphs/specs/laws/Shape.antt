-- The graphs are symmetric, and each contains the one before. Assumes nothing.
use Rattle.std.specs.Prelude.{Option, Some, None, ◌≡◌, refl, Bool, true, false, not, ◌&&◌, ◌||◌, List, [], ◌∷◌, ◌++◌, map, ℕ, ◌≤◌, eqb, leb, ltb}
use Rattle.std.proofs.Common.{sym, ap, ap₂, ◌∙◌, arith, eq-eqb, ne_eqb, le-leb, leb-true}
use Rattle.std.proofs.Math.Decide.{ℕ_discrete}
use Rattle.numbers.specs.declared.Owner.{Owner}
use Rattle.numbers.specs.declared.Owner.TheVariants.{Domain, Private}
use Rattle.whole.specs.Pairs.{Pair, swapped}
use Rattle.paths.specs.laws.Least.{and_left, and_right, and_both}
use Rattle.paths.specs.Statements.{Within}
use Rattle.graphs.specs.Links.{Link, list_of}
use Rattle.graphs.specs.Graphs.{World, owner, domains, to_trace, guess, some, joined, graph}
use Rattle.graphs.specs.laws.Links.{seen, Sight, sight, list_cons, seen_forwards, seen_backwards}
use Rattle.graphs.specs.laws.Links.Sight.{forwards, backwards, unseen}
use Rattle.graphs.specs.laws.Matrix.{joined_is}

eqb_sym : (a b : ℕ) → eqb a b ≡ eqb b a
eqb_sym a b = go (ℕ_discrete a b)
  where
    go : Dec (a ≡ b) → eqb a b ≡ eqb b a
    go (yes e) = eq-eqb a b e ∙ sym (eq-eqb b a (sym e))
    go (no e) = ne_eqb a b e ∙ sym (ne_eqb b a (λ q. e (sym q)))

-- ---- the list of a pair seen from the other end
map_append : (ps qs : List Pair) → map swapped (ps ++ qs) ≡ map swapped ps ++ map swapped qs
map_append [] qs = refl
map_append (p ∷ ps) qs = ap (λ (l : List Pair). swapped p ∷ l) (map_append ps qs)

seen_swapped : (l : Link) (c d : ℕ) → (c ≡ d → ⊥) → seen l d c ≡ map swapped (seen l c d)
seen_swapped l c d n = go (sight l c d)
  where
    go : Sight l c d → seen l d c ≡ map swapped (seen l c d)
    go (forwards p q) = seen_backwards l d c q p (λ e. n (sym p ∙ e ∙ q)) ∙ sym (ap (map swapped) (seen_forwards l c d p q))
    go (backwards p q m) = seen_forwards l d c q p ∙ sym (ap (map swapped) (seen_backwards l c d p q m))
    go (unseen u) = back (sight l d c) ∙ sym (ap (map swapped) u)
      where
        clash : {X : Type 0} {p : Pair} → p ∷ [] ≡ [] → X
        clash e = let z : ◌≡◌ {A = ℕ} 0 1 = cc in absurd (omega arith)

        back : Sight l d c → seen l d c ≡ []
        back (forwards p q) = clash (sym (seen_backwards l c d q p (λ e. n (sym q ∙ sym e ∙ p))) ∙ u)
        back (backwards p q m) = clash (sym (seen_forwards l c d q p) ∙ u)
        back (unseen v) = v

pub list_swapped : (ls : List Link) (c d : ℕ) → (c ≡ d → ⊥) → list_of ls d c ≡ map swapped (list_of ls c d)
unfolding list_of
list_swapped [] c d n = refl
list_swapped (l ∷ ls) c d n =
    list_cons l ls d c ∙ ap₂ (λ (p q : List Pair). p ++ q) (seen_swapped l c d n) (list_swapped ls c d n)
    ∙ sym (map_append (seen l c d) (list_of ls c d)) ∙ sym (ap (map swapped) (list_cons l ls c d))

some_map : (ps : List Pair) → some (map swapped ps) ≡ some ps
unfolding some
some_map [] = refl
some_map (p ∷ ps) = refl

-- ---- symmetric
or_swap : (p q : Bool) → (p || q) ≡ (q || p)
or_swap true true = refl
or_swap true false = refl
or_swap false true = refl
or_swap false false = refl

and_swap : (p q r : Bool) → ((p && q) && r) ≡ ((p && r) && q)
and_swap true true true = refl
and_swap true true false = refl
and_swap true false true = refl
and_swap true false false = refl
and_swap false q r = refl

domains_sym : (g n : ℕ) (p q : Option Owner) → domains g n p q ≡ domains g n q p
unfolding domains
domains_sym g n (Some (Domain d m)) (Some (Domain e k)) = go (ℕ_discrete d e)
  where
    go : Dec (d ≡ e) → ((((eqb d e && (leb 3 g || eqb d 1)) && not (eqb m.0 k.0)) && ltb m.0 n) && ltb k.0 n) ≡ ((((eqb e d && (leb 3 g || eqb e 1)) && not (eqb k.0 m.0)) && ltb k.0 n) && ltb m.0 n)
    go (yes s) = rw (s, eqb_sym m.0 k.0) (and_swap ((eqb e e && (leb 3 g || eqb e 1)) && not (eqb k.0 m.0)) (ltb m.0 n) (ltb k.0 n))
    go (no s) = rw (ne_eqb d e s, ne_eqb e d (λ z. s (sym z))) refl
domains_sym g n (Some (Domain d m)) (Some (Private f)) = refl
domains_sym g n (Some (Domain d m)) None = refl
domains_sym g n (Some (Private f)) (Some (Domain d m)) = refl
domains_sym g n (Some (Private f)) (Some (Private h)) = refl
domains_sym g n (Some (Private f)) None = refl
domains_sym g n None (Some (Domain d m)) = refl
domains_sym g n None (Some (Private f)) = refl
domains_sym g n None None = refl

pub guess_sym : (g : ℕ) (w : World) (c d : ℕ) → guess g w c d ≡ guess g w d c
unfolding guess
guess_sym g w c d = rw (domains_sym g w.machines (owner c) (owner d), or_swap (to_trace w c d) (to_trace w d c)) refl

pub joined_sym : (g : ℕ) (w : World) (c d : ℕ) → joined g w c d ≡ joined g w d c
joined_sym g w c d = go (ℕ_discrete c d)
  where
    go : Dec (c ≡ d) → joined g w c d ≡ joined g w d c
    go (yes e) = rw e refl
    go (no e) = joined_is g w c d ∙ ap₂ (λ (p q : Bool). p || q) (guess_sym g w c d) (sym (ap some (list_swapped w.links c d e) ∙ some_map (list_of w.links c d))) ∙ sym (joined_is g w d c)

-- ---- each in the next
or_left : (p q r s : Bool) → (p ≡ true → r ≡ true) → (q ≡ true → s ≡ true) → (p || q) ≡ true → (r || s) ≡ true
or_left true q r s f h e = rw (f refl) refl
or_left false q r s f h e = rw (h e) (always r)
  where
    always : (r : Bool) → (r || true) ≡ true
    always true = refl
    always false = refl

more : (k g h : ℕ) → g ≤ h → leb k g ≡ true → leb k h ≡ true
more k g h l e = le-leb k h (omega (arith, leb-true k g e))

domains_more : (g h n : ℕ) (p q : Option Owner) → g ≤ h → domains g n p q ≡ true → domains h n p q ≡ true
unfolding domains
domains_more g h n (Some (Domain d m)) (Some (Domain e k)) l s =
    let a = eqb d e in
    let b = leb 3 g || eqb d 1 in
    let x = not (eqb m.0 k.0) in
    let y = ltb m.0 n in
    let z = ltb k.0 n in
    let s₁ = and_left (((a && b) && x) && y) z s in
    let s₂ = and_left ((a && b) && x) y s₁ in
    let s₃ = and_left (a && b) x s₂ in
    and_both _ _ (and_both _ _ (and_both _ _ (and_both _ _ (and_left a b s₃) (or_left (leb 3 g) (eqb d 1) (leb 3 h) (eqb d 1) (more 3 g h l) (λ u. u) (and_right a b s₃))) (and_right (a && b) x s₂)) (and_right ((a && b) && x) y s₁)) (and_right (((a && b) && x) && y) z s)
domains_more g h n (Some (Domain d m)) (Some (Private f)) l s = s
domains_more g h n (Some (Domain d m)) None l s = s
domains_more g h n (Some (Private f)) q l s = s
domains_more g h n None q l s = s

guess_more : (g h : ℕ) (w : World) (c d : ℕ) → g ≤ h → guess g w c d ≡ true → guess h w c d ≡ true
unfolding guess
guess_more g h w c d l e =
    let a = domains g w.machines (owner c) (owner d) in
    let b = to_trace w c d || to_trace w d c in
    and_both _ _ (more 2 g h l (and_left (leb 2 g) (a || (leb 3 g && b)) e))
    (or_left a (leb 3 g && b) (domains h w.machines (owner c) (owner d)) (leb 3 h && b)
    (domains_more g h w.machines (owner c) (owner d) l)
    (λ s. and_both _ _ (more 3 g h l (and_left (leb 3 g) b s)) (and_right (leb 3 g) b s))
    (and_right (leb 2 g) (a || (leb 3 g && b)) e))

pub joined_more : (g h : ℕ) (w : World) (c d : ℕ) → g ≤ h → joined g w c d ≡ true → joined h w c d ≡ true
joined_more g h w c d l e =
    joined_is h w c d
    ∙ or_left (guess g w c d) (some (list_of w.links c d)) (guess h w c d) (some (list_of w.links c d)) (guess_more g h w c d l) (λ s. s) (sym (joined_is g w c d) ∙ e)

pub graph_more : (g h : ℕ) (w : World) → g ≤ h → Within (graph g w) (graph h w)
graph_more g h w l = record { size = omega arith; goal = refl; far = refl; pairs = λ c d e. joined_more g h w c d l e }
