-- What a row tells of its object: the value that stands there, its columns, and that no flaw is in it. Assumes nothing.
use mathlib.Core.Path.{◌≡◌, refl, sym, ap, subst, ◌∙◌}
use mathlib.Core.Bool.{Bool, true, false, not, ◌&&◌, ◌||◌, or-false}
use mathlib.Core.List.{List, [], ◌∷◌, map}
use Prim.Native.Nat.{ℕ, zero, suc, ◌+◌, ◌≤◌, ◌<◌}
use native.Mathlib.Decide.{ℕ_discrete}
use native.Mathlib.Omega.{arith}
use lib.Dec.{eqb, ltb}
use lib.ListN.{get_or, replicate}
use borrow.Author.Tests.{eq-eqb, ne_eqb, ltb-true, not-false}
use Rattle.text.specs.Reading.{Text, done, pick}
use Rattle.text.specs.Class.{skip}
use Rattle.text.specs.laws.Readers.{next_inv, next_was, pick_true, pick_false, done_of, done_at}
use Rattle.grammar.specs.Tree.{Tree, obj, Members, members, same, get}
use Rattle.grammar.specs.Document.{object_tree, value, name, member}
use Rattle.grammar.proofs.laws.Firm.{either_object, member_read}
use Rattle.values.specs.Stands.{Stands}
use Rattle.places.specs.Places.{inner, named_place, value_place, member_place, listed, members_at, places_of, counted}
use Rattle.places.specs.Visits.{Both, both_none, both_one, Hold}
use Rattle.places.specs.laws.Paired.{many_paired}
use Rattle.places.specs.laws.Standing.{object_of, get_holds, first_holds}
use Rattle.manifest.proofs.laws.Judge.{tag, judged}
use Rattle.manifest.proofs.laws.Table.{Line, lines, kind_at}
use Rattle.manifest.proofs.laws.Walk.{from}
use Rattle.members.specs.laws.Flaw.{sought}
use Rattle.table.specs.Table.{line_at, wanted_of}
use Rattle.table.specs.laws.Some.{some, some_none, some_not}
use Rattle.members.specs.laws.Walked.{twices, ills, said_in}
use Rattle.members.specs.laws.Judged.{free_judged, scalar_judged, members_judged}
use Rattle.members.specs.laws.Lines.{begin_twice, begin_ill}
use Rattle.index.specs.Index.{column}
use Rattle.index.proofs.laws.Seen.{column_there}
use Rattle.survey.specs.laws.Walked.{Spot, spotted, spot, placing, valued, placed, under, Fine, slot, Held, free, held, Row}
use Rattle.survey.proofs.Stepping.{value_to, stands_low}

-- ---- a member, as it was read

pub placed_inv : (l : ℕ) (s : Text) (i : ℕ) {x : Text × Spot} {e : ℕ} → placed l s i ≡ done x e → (j : ℕ) × (name s i ≡ done x.0 j) × (x.1.0 ≡ skip s j) × (value l s (skip s j) ≡ done x.1.1 e)
unfolding placed valued placing spot spotted
placed_inv l s i {x} {e} r =
    let w = next_inv (name s i) (valued l s) r in
    let u = next_inv (spot l s (skip s w.1)) (placing w.0) w.3 in
    let y = next_inv (value l s (skip s w.1)) (spotted (skip s w.1)) u.2 in
    let a : (w.0, u.0) ≡ x = done_of u.3 in
    let b : (skip s w.1, y.0) ≡ u.0 = done_of y.3 in
    let c : y.1 ≡ e = done_at y.3 ∙ done_at u.3 in
    let d : (skip s w.1, y.0) ≡ x.1 = b ∙ ap (λ (q : Text × Spot). q.1) a in (
      w.1,
      w.2 ∙ ap (λ (q : Text). done q w.1) (ap (λ (q : Text × Spot). q.0) a),
      sym (ap (λ (q : Spot). q.0) d),
      y.2 ∙ (λ t. done (d t).1 (c t)),
    )

abbrev untold : Text × Spot → Text × Tree
untold m = (m.0, m.1.1)

abbrev spot_of : Text × Spot → Text × ℕ
spot_of m = (m.0, m.1.0)

pub both_map : {A B : Type 0} (f : A → B) {xs : List A} {ys : List B} → Both (λ (x : A) (y : B). y ≡ f x) xs ys → ys ≡ map f xs
both_map f both_none = refl
both_map f (both_one h b) = λ t. h t ∷ both_map f b t

member_of : (l : ℕ) (s : Text) (i : ℕ) (x : Text × Spot) (e : ℕ) → placed l s i ≡ done x e → (y : Text × Tree) × (member (value l) s i ≡ done y e) × (y ≡ untold x)
member_of l s i x e r = let w = placed_inv l s i r in (untold x, member_read (value l) s i w.1 w.3, refl)

place_of_lem : (l : ℕ) → l ≤ 15 → (s : Text) (i : ℕ) (x : Text × Spot) (e : ℕ) → placed l s i ≡ done x e → (y : Text × ℕ) × (member_place s i ≡ done y e) × (y ≡ spot_of x)
unfolding member_place value_place named_place
place_of_lem l low s i x e r =
    let w = placed_inv l s i r in
    let v : value inner s (skip s w.0) ≡ done x.1.1 e = value_to l 15 low s (skip s w.0) w.3 in
    (spot_of x, next_was _ w.1 ∙ next_was _ v ∙ ap (λ (q : ℕ). done (x.0, q) e) (sym w.2), refl)

-- ---- the values under a name

under_places : (n : Text) (xs : List (Text × Spot)) → places_of n (map spot_of xs) ≡ map (λ (x : Spot). x.0) (under n xs)
unfolding places_of under
under_places n [] = refl
under_places n (x ∷ xs) = ap (λ (l : List ℕ). pick (same x.0 n) (x.1.0 ∷ l) l) (under_places n xs) ∙ go (same x.0 n)
  where
    go : (b : Bool) → pick b (x.1.0 ∷ map (λ (y : Spot). y.0) (under n xs)) (map (λ (y : Spot). y.0) (under n xs)) ≡ map (λ (y : Spot). y.0) (pick b (x.1 ∷ under n xs) (under n xs))
    go true = pick_true _ _ refl ∙ ap (map (λ (y : Spot). y.0)) (sym (pick_true _ _ refl))
    go false = pick_false _ _ refl ∙ ap (map (λ (y : Spot). y.0)) (sym (pick_false _ _ refl))

under_trees : (n : Text) (xs : List (Text × Spot)) → get n (members (map untold xs)) ≡ map (λ (x : Spot). x.1) (under n xs)
unfolding get under
under_trees n [] = refl
under_trees n (x ∷ xs) = ap (λ (l : List Tree). pick (same x.0 n) (x.1.1 ∷ l) l) (under_trees n xs) ∙ go (same x.0 n)
  where
    go : (b : Bool) → pick b (x.1.1 ∷ map (λ (y : Spot). y.1) (under n xs)) (map (λ (y : Spot). y.1) (under n xs)) ≡ map (λ (y : Spot). y.1) (pick b (x.1 ∷ under n xs) (under n xs))
    go true = pick_true _ _ refl ∙ ap (map (λ (y : Spot). y.1)) (sym (pick_true _ _ refl))
    go false = pick_false _ _ refl ∙ ap (map (λ (y : Spot). y.1)) (sym (pick_false _ _ refl))

held_first : {k c : ℕ} {u : List Spot} → Held k c u → (counted (map (λ (x : Spot). x.0) u)).at ≡ c
unfolding counted
held_first free = refl
held_first (held n f) = refl

-- ---- flaws

-- a text, an integer, or any value
pub scalar_fine : (k : ℕ) → k < 3 → (t : Tree) → ((k ≡ 2 → ⊥) → tag t ≡ wanted_of k) → Fine k t
unfolding wanted_of pick
scalar_fine zero l t f =
    let g : tag t ≡ 2 = f (λ z. omega arith) in
    record { none = λ b a. sym (scalar_judged 0 (omega arith) (λ z. omega arith) b a t (f (λ z. omega arith)) (λ z. omega arith) (λ z. omega arith)) }
scalar_fine (suc zero) l t f =
    let g : tag t ≡ 3 = f (λ z. omega arith) in
    record { none = λ b a. sym (scalar_judged 1 (omega arith) (λ z. omega arith) b a t (f (λ z. omega arith)) (λ z. omega arith) (λ z. omega arith)) }
scalar_fine (suc (suc zero)) l t f = record { none = λ b a. sym (free_judged {k = 2} refl b a t) }
scalar_fine (suc (suc (suc k))) l t f = absurd (omega arith)

-- the lines of an object that are no scalars are among those that f tells
pub scalars_but : (o : ℕ) (f : ℕ → Bool) → some (λ j. eqb (line_at j).place o && not (ltb (line_at j).kind 3 || f j)) 20 ≡ false → (j : ℕ) → j < 20 → (line_at j).place ≡ o → f j ≡ false → (line_at j).kind < 3
scalars_but o f z j l h n =
    let a : (eqb (line_at j).place o && not (ltb (line_at j).kind 3 || f j)) ≡ false = some_not (λ i. eqb (line_at i).place o && not (ltb (line_at i).kind 3 || f i)) 20 j z l in
    let b : not (ltb (line_at j).kind 3 || f j) ≡ false = sym (ap (λ (x : Bool). x && not (ltb (line_at j).kind 3 || f j)) (eq-eqb _ _ h)) ∙ a in
    let c : (ltb (line_at j).kind 3 || false) ≡ true = sym (ap (λ (x : Bool). ltb (line_at j).kind 3 || x) n) ∙ not-false _ b in
    ltb-true _ _ (sym (or-false (ltb (line_at j).kind 3)) ∙ c)

pub unseen : (n j : ℕ) → get_or (replicate {A = ℕ} n 0) j 0 ≡ 0
unseen zero j = refl
unseen (suc n) zero = refl
unseen (suc n) (suc j) = unseen n j

-- a line whose member is absent and not asked for, or there once with no flaw in it
pub data Good (l : Line) : List Tree → Type 0 where
  absent_one : l.asked ≡ false → Good l []
  good_one : {t : Tree} → Fine l.kind t → Good l (t ∷ [])

good_twice : (l : Line) {g : List Tree} → Good l g → twices false l g ≡ false
unfolding twices
good_twice l (absent_one n) = refl
good_twice l (good_one f) = or-false _ ∙ f.none false l.asked

good_ill : (l : Line) {g : List Tree} → Good l g → ills false l g ≡ false
unfolding ills
good_ill l (absent_one n) = n
good_ill l (good_one f) = or-false _ ∙ f.none true l.asked

module _ (o : ℕ) (small : o < 12) (bound : o ≡ 2 → ⊥) (wants : wanted_of o ≡ 6) (ms : Members) (good : (j : ℕ) → j < 20 → (line_at j).place ≡ o → Good (line_at j) (get (line_at j).name ms)) where
  not_said : (says : Bool → Line → List Tree → Bool) → ((l : Line) (g : List Tree) → Good l g → says false l g ≡ false) → some (said_in says o (replicate 20 0) ms) 20 ≡ false
  unfolding said_in
  not_said says h = some_none (said_in says o (replicate 20 0) ms) 20 (λ j l. go j l (ℕ_discrete (line_at j).place o))
    where
      go : (j : ℕ) → j < 20 → Dec ((line_at j).place ≡ o) → (eqb (line_at j).place o && says (eqb (get_or (replicate {A = ℕ} 20 0) j 0) 1) (line_at j) (get (line_at j).name ms)) ≡ false
      go j l (yes q) =
          (λ t. eq-eqb (line_at j).place o q t && says (eqb (unseen 20 j t) 1) (line_at j) (get (line_at j).name ms)) ∙ h (line_at j) _ (good j l q)
      go j l (no q) = ap (λ (x : Bool). x && says (eqb (get_or (replicate {A = ℕ} 20 0) j 0) 1) (line_at j) (get (line_at j).name ms)) (ne_eqb (line_at j).place o q)

  none_twice : from (sought false) o ms lines ≡ false
  none_twice = begin_twice o ms (replicate 20 0) (λ j l. unseen 20 j) ∙ not_said twices (λ l g. good_twice l)

  none_ill : from (sought true) o ms lines ≡ false
  none_ill = begin_ill o ms (replicate 20 0) (λ j l. unseen 20 j) none_twice ∙ not_said ills (λ l g. good_ill l)

  pub object_fine : Fine o (obj ms)
  object_fine = record { none = λ b a. go b a }
    where
      go : (b a : Bool) → judged (sought b) a (kind_at o) (obj ms) ≡ false
      go true a = sym (members_judged o small bound true a wants ms) ∙ none_ill
      go false a = sym (members_judged o small bound false a wants ms) ∙ none_twice

-- two values that stand at one place are the same
pub stands_same : {s : Text} {p : ℕ} {t u : Tree} → Stands s p t → Stands s p u → t ≡ u
stands_same h g = done_of (sym h.reads ∙ g.reads)

-- ---- an object by its row

module _ (o l : ℕ) (s : Text) (p : ℕ) {row : List ℕ} (w : Row o l s p row) where
  abbrev pub its_members : Members
  its_members = members (map untold w.members)

  pub row_value : value (suc l) s p ≡ done (obj its_members) (get_or row 0 0)
  unfolding value object_tree
  row_value =
      let q = many_paired (placed l) (member (value l)) 125 s (λ (x : Text × Spot) (y : Text × Tree). y ≡ untold x) (member_of l s) (p + 1) w.reads in
      either_object s p _ _ w.opens ∙ next_was _ q.1 ∙ ap (λ (ys : List (Text × Tree)). done (obj (members ys)) (get_or row 0 0)) (both_map untold q.2)

  module _ (low : l ≤ 15) where
    pub row_stands : Stands s p (obj its_members)
    row_stands = stands_low (suc l) (omega arith) s p row_value

    row_places : members_at s p ≡ map spot_of w.members
    unfolding members_at listed
    row_places =
        let q = many_paired (placed l) member_place 125 s (λ (x : Text × Spot) (y : Text × ℕ). y ≡ spot_of x) (place_of_lem l low s) (p + 1) w.reads in
        pick_true _ _ (eq-eqb _ _ w.opens) ∙ ap listed q.1 ∙ both_map spot_of q.2

    module _ (past : p ≡ 0 → ⊥) (j : ℕ) (h : j < 20) (g : (line_at j).place ≡ o) where
      pub row_column : column s p (line_at j).name ≡ get_or row (slot o j) 0
      row_column =
          column_there s p (line_at j).name past
          ∙ ap (λ (ps : List (Text × ℕ)). (counted (places_of (line_at j).name ps)).at) row_places
          ∙ ap (λ (ps : List ℕ). (counted ps).at) (under_places (line_at j).name w.members)
          ∙ held_first (w.columns j h g)

    -- the one place in a column that is not free
    pub row_single : (j : ℕ) → j < 20 → (line_at j).place ≡ o → (get_or row (slot o j) 0 ≡ 0 → ⊥) → places_of (line_at j).name (members_at s p) ≡ get_or row (slot o j) 0 ∷ []
    row_single j h g n =
        ap (places_of (line_at j).name) row_places ∙ under_places (line_at j).name w.members ∙ one (w.columns j h g) n
      where
        one : {k c : ℕ} {u : List Spot} → Held k c u → (c ≡ 0 → ⊥) → map (λ (x : Spot). x.0) u ≡ c ∷ []
        one free z = absurd (z refl)
        one (held m f) z = refl

    -- the value in a column
    module _ (j : ℕ) (h : j < 20) (g : (line_at j).place ≡ o) where
      holds : Hold s (map (λ (x : Spot). x.0) (under (line_at j).name w.members)) (map (λ (x : Spot). x.1) (under (line_at j).name w.members))
      holds =
          let b = object_of row_stands in
          let a : places_of (line_at j).name b.places ≡ map (λ (x : Spot). x.0) (under (line_at j).name w.members) = ap (places_of (line_at j).name) (sym b.are ∙ row_places) ∙ under_places (line_at j).name w.members in
          subst (λ (ts : List Tree). Hold s (map (λ (x : Spot). x.0) (under (line_at j).name w.members)) ts) (under_trees (line_at j).name w.members) (subst (λ (ps : List ℕ). Hold s ps (get (line_at j).name its_members)) a (get_holds (line_at j).name b.belongs))

      good : {c : ℕ} {u : List Spot} → Held (line_at j).kind c u → Hold s (map (λ (x : Spot). x.0) u) (map (λ (x : Spot). x.1) u) → ((line_at j).asked ≡ true → c ≡ 0 → ⊥)
          → ((t : Tree) → (c ≡ 0 → ⊥) → Stands s c t → (((line_at j).kind ≡ 2 → ⊥) → tag t ≡ wanted_of (line_at j).kind) → Fine (line_at j).kind t) → Good (line_at j) (map (λ (x : Spot). x.1) u)
      unfolding counted
      good free b asked deep = absent_one (go (line_at j).asked refl)
        where
          go : (x : Bool) → (line_at j).asked ≡ x → (line_at j).asked ≡ false
          go true e = absurd (asked e refl)
          go false e = e
      good (held {v = v} {t = t} n f) b asked deep = good_one (deep t n (first_holds b) f)

      pub row_good : ((t : Tree) → (get_or row (slot o j) 0 ≡ 0 → ⊥) → Stands s (get_or row (slot o j) 0) t → (((line_at j).kind ≡ 2 → ⊥) → tag t ≡ wanted_of (line_at j).kind) → Fine (line_at j).kind t) → Good (line_at j) (get (line_at j).name its_members)
      row_good deep =
          subst (Good (line_at j)) (sym (under_trees (line_at j).name w.members))
          (good (w.columns j h g) holds (w.complete.there j h g) deep)

    -- no flaw is in it, if none is in its objects and arrays
    pub row_fine : o < 12 → (o ≡ 2 → ⊥) → wanted_of o ≡ 6 → ((j : ℕ) → j < 20 → (line_at j).place ≡ o → (t : Tree) → (get_or row (slot o j) 0 ≡ 0 → ⊥) → Stands s (get_or row (slot o j) 0) t → (((line_at j).kind ≡ 2 → ⊥) → tag t ≡ wanted_of (line_at j).kind) → Fine (line_at j).kind t) → Fine o (obj its_members)
    row_fine small bound wants deep = object_fine o small bound wants its_members (λ j h g. row_good j h g (deep j h g))
