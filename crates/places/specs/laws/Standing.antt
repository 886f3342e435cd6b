-- The members and items of what stands at a position. Assumes nothing.
use Rattle.std.specs.Prelude.{◌≡◌, refl, Bool, true, false, List, [], ◌∷◌, ℕ, zero, suc, ◌+◌, min, length, eqb}
use Rattle.std.proofs.Common.{sym, ap, subst, ◌∙◌, arith, eq-eqb, eqb-true}
use Rattle.text.specs.Reading.{Text, Out, done, pick, peek}
use Rattle.text.specs.Class.{skip}
use Rattle.text.specs.Strings.{string}
use Rattle.text.specs.laws.Readers.{next_inv, next_was, pick_case, pick_true, pick_false, bad_done, done_of, done_at}
use Rattle.grammar.specs.Tree.{Tree, arr, obj, Trees, Members, one_member, trees, members, list_of_trees, same, get}
use Rattle.grammar.specs.Document.{value, name, colon, named, bound, member, many, items, after, in_front}
use Rattle.grammar.proofs.laws.Levels.{value_more}
use Rattle.values.specs.Stands.{Stands}
use Rattle.values.specs.laws.Shapes.{Shape, array, object, text, yes_word, no_word, null_is, figure}
use Rattle.values.specs.laws.Standing.{shape_of}
use Rattle.places.specs.declared.Step.{Step}
use Rattle.places.specs.declared.Step.TheVariants.{Item, End}
use Rattle.places.specs.declared.Entry.{Entry}
use Rattle.places.specs.declared.Entry.TheVariants.{Named, Last}
use Rattle.places.specs.Places.{inner, place, item_place, named_place, value_place, member_place, listed, items_at, members_at, places_of, counted, item_of, item_from, first_item, next_item, entry_of, entry_from, first_member, next_member}
use Rattle.places.specs.Visits.{Both, both_none, both_one, Hold, Belong, belong_none, belong_one, Visits, visits_end, visits_item, Passes, passes_end, passes_member}
use Rattle.places.specs.laws.Paired.{many_paired}

-- ---- a value that was read with fewer levels stands

stands_inner : (s : Text) (p : ℕ) {t : Tree} {n : ℕ} → value inner s p ≡ done t n → Stands s p t
stands_inner s p {t} {n} e = record { until = n; reads = value_more inner s p t n e }

-- ---- readers of places

item_inv : (s : Text) (i : ℕ) {v j : ℕ} → item_place s i ≡ done v j → (t : Tree) × (value inner s i ≡ done t j) × (i ≡ v)
unfolding item_place place
item_inv s i e = let w = next_inv (value inner s i) (place i) e in (w.0, w.2 ∙ ap (done w.0) (done_at w.3), done_of w.3)

-- a name is a string
pub name_string : (s : Text) (i : ℕ) {k : Text} {j : ℕ} → name s i ≡ done k j → (m : ℕ) × (string s i ≡ done k m)
unfolding name colon
name_string s i {k} {j} e =
    let w = next_inv (string s i) (colon s) e in
    pick_case _ _ _ w.3
    (λ _ f. let q : w.0 ≡ k = cc in (w.1, w.2 ∙ ap (λ (x : Text). done x w.1) q))
    (λ _ f. absurd (bad_done f))

-- a member that was read: its name, and its value's place
pub member_inv : (s : Text) (i : ℕ) {k : Text} {v e : ℕ} → member_place s i ≡ done (k, v) e → (j : ℕ) × (t : Tree) × (name s i ≡ done k j) × (v ≡ skip s j) × (value inner s v ≡ done t e)
unfolding member_place value_place named_place
member_inv s i {k} {v} {e} f =
    let w = next_inv (name s i) (value_place s) f in
    let x = next_inv (value inner s (skip s w.1)) (named_place w.0 (skip s w.1)) w.3 in
    let g : ◌≡◌ {A = Out (Text × ℕ)} (done (w.0, skip s w.1) x.1) (done (k, v) e) = x.3 in
    let p : w.0 ≡ k = ap (λ (m : Text × ℕ). m.0) (done_of g) in
    let q : skip s w.1 ≡ v = ap (λ (m : Text × ℕ). m.1) (done_of g) in
    let r : x.1 ≡ e = done_at g in
    (w.1, x.0, w.2 ∙ ap (λ (y : Text). done y w.1) p, sym q, ap (value inner s) (sym q) ∙ x.2 ∙ ap (done x.0) r)

-- an item has its place
pub item_pair : (s : Text) (i : ℕ) (t : Tree) (j : ℕ) → value inner s i ≡ done t j → (v : ℕ) × (item_place s i ≡ done v j) × Stands s v t
unfolding item_place place
item_pair s i t j e = (i, next_was _ e, stands_inner s i e)

-- a member has its name and its value's place
pub record Same (s : Text) (x : Text × Tree) (m : Text × ℕ) : Type 0 where
  pub name : x.0 ≡ m.0
  pub value : Stands s m.1 x.1

pub member_pair : (s : Text) (i : ℕ) (x : Text × Tree) (j : ℕ) → member (value inner) s i ≡ done x j → (m : Text × ℕ) × (member_place s i ≡ done m j) × Same s x m
unfolding member named bound member_place value_place named_place
member_pair s i x j e =
    let w = next_inv (name s i) (named (value inner) s) e in
    let u = next_inv (value inner s (skip s w.1)) (bound w.0) w.3 in
    let g : ◌≡◌ {A = Out (Text × Tree)} (done (w.0, u.0) u.1) (done x j) = u.3 in
    let m : Text × ℕ = (w.0, skip s w.1) in
    let q : u.1 ≡ j = done_at g in (
      m,
      next_was _ w.2 ∙ next_was _ u.2 ∙ ap (done m) q,
      record {
        name = ap (λ (y : Text × Tree). y.0) (sym (done_of g));
        value = subst (λ (y : Tree). Stands s (skip s w.1) y) (ap (λ (y : Text × Tree). y.1) (done_of g)) (stands_inner s (skip s w.1) u.2);
      },
    )

-- ---- an array that stands

arr_inj : {t u : Trees} → arr t ≡ arr u → t ≡ u
arr_inj e = cc

array_shape : (s : Text) (p : ℕ) {l n : ℕ} {t : Tree} {ts : Trees} → t ≡ arr ts → Shape s p l t n → (xs : List Tree) × (trees xs ≡ ts) × (peek s p ≡ 91) × (many (value l) 93 s (p + 1) ≡ done xs n)
array_shape s p e (array xs h f g) = (xs, arr_inj (sym f ∙ e), h, g)
array_shape s p e (object ms h f g) = let z : ◌≡◌ {A = ℕ} 0 1 = cc in absurd (omega arith)
array_shape s p e (text u h f g) = let z : ◌≡◌ {A = ℕ} 0 1 = cc in absurd (omega arith)
array_shape s p e (yes_word h f) = let z : ◌≡◌ {A = ℕ} 0 1 = cc in absurd (omega arith)
array_shape s p e (no_word h f) = let z : ◌≡◌ {A = ℕ} 0 1 = cc in absurd (omega arith)
array_shape s p e (null_is h f) = let z : ◌≡◌ {A = ℕ} 0 1 = cc in absurd (omega arith)
array_shape s p e (figure cs h f g) = let z : ◌≡◌ {A = ℕ} 0 1 = cc in absurd (omega arith)

items_of_trees : (xs : List Tree) → list_of_trees (trees xs) ≡ xs
unfolding list_of_trees
items_of_trees [] = refl
items_of_trees (x ∷ xs) = ap (λ (ys : List Tree). x ∷ ys) (items_of_trees xs)

hold_swap : {s : Text} {xs : List Tree} {ps : List ℕ} → Both (λ (t : Tree) (p : ℕ). Stands s p t) xs ps → Hold s ps xs
hold_swap both_none = both_none
hold_swap (both_one h b) = both_one h (hold_swap b)

-- the places of the items of an array that stands at p
pub record Array (s : Text) (p : ℕ) (ts : Trees) : Type 0 where
  pub places : List ℕ
  pub until : ℕ
  pub opens : peek s p ≡ 91
  pub reads : many item_place 93 s (p + 1) ≡ done places until
  pub are : items_at s p ≡ places
  pub hold : Hold s places (list_of_trees ts)

pub array_of : {s : Text} {p : ℕ} {ts : Trees} → Stands s p (arr ts) → Array s p ts
unfolding items_at listed
array_of {s} {p} {ts} h =
    let w = array_shape s p refl (shape_of h) in
    let q = many_paired (value inner) item_place 93 s (λ (t : Tree) (v : ℕ). Stands s v t) (item_pair s) (p + 1) w.3 in
    record {
      places = q.0;
      until = h.until;
      opens = w.2;
      reads = q.1;
      are = pick_true _ _ (eq-eqb _ _ w.2) ∙ ap listed q.1;
      hold = subst (Hold s q.0) (sym (items_of_trees w.0) ∙ ap list_of_trees w.1) (hold_swap q.2);
    }

-- ---- an object that stands

obj_inj : {t u : Members} → obj t ≡ obj u → t ≡ u
obj_inj e = cc

object_shape : (s : Text) (p : ℕ) {l n : ℕ} {t : Tree} {ms : Members} → t ≡ obj ms → Shape s p l t n → (xs : List (Text × Tree)) × (members xs ≡ ms) × (peek s p ≡ 123) × (many (member (value l)) 125 s (p + 1) ≡ done xs n)
object_shape s p e (array xs h f g) = let z : ◌≡◌ {A = ℕ} 0 1 = cc in absurd (omega arith)
object_shape s p e (object xs h f g) = (xs, obj_inj (sym f ∙ e), h, g)
object_shape s p e (text u h f g) = let z : ◌≡◌ {A = ℕ} 0 1 = cc in absurd (omega arith)
object_shape s p e (yes_word h f) = let z : ◌≡◌ {A = ℕ} 0 1 = cc in absurd (omega arith)
object_shape s p e (no_word h f) = let z : ◌≡◌ {A = ℕ} 0 1 = cc in absurd (omega arith)
object_shape s p e (null_is h f) = let z : ◌≡◌ {A = ℕ} 0 1 = cc in absurd (omega arith)
object_shape s p e (figure cs h f g) = let z : ◌≡◌ {A = ℕ} 0 1 = cc in absurd (omega arith)

belong : {s : Text} {xs : List (Text × Tree)} {ps : List (Text × ℕ)} → Both (Same s) xs ps → Belong s ps (members xs)
belong both_none = belong_none
belong {s} (both_one {x} {y} {xs} {ys} h b) =
    subst (λ (k : Text). Belong s (y ∷ ys) (one_member k x.1 (members xs))) (sym h.name) (belong_one h.value (belong b))

pub record Object (s : Text) (p : ℕ) (ms : Members) : Type 0 where
  pub places : List (Text × ℕ)
  pub until : ℕ
  pub opens : peek s p ≡ 123
  pub reads : many member_place 125 s (p + 1) ≡ done places until
  pub are : members_at s p ≡ places
  pub belongs : Belong s places ms

pub object_of : {s : Text} {p : ℕ} {ms : Members} → Stands s p (obj ms) → Object s p ms
unfolding members_at listed
object_of {s} {p} {ms} h =
    let w = object_shape s p refl (shape_of h) in
    let q = many_paired (member (value inner)) member_place 125 s (Same s) (member_pair s) (p + 1) w.3 in
    record {
      places = q.0;
      until = h.until;
      opens = w.2;
      reads = q.1;
      are = pick_true _ _ (eq-eqb _ _ w.2) ∙ ap listed q.1;
      belongs = subst (Belong s q.0) w.1 (belong q.2);
    }

-- ---- the places of a name

pub get_holds : {s : Text} {ps : List (Text × ℕ)} {ms : Members} (n : Text) → Belong s ps ms → Hold s (places_of n ps) (get n ms)
unfolding places_of get pick
get_holds n belong_none = both_none
get_holds {s} n (belong_one {m} {t} {ps} {ms} h b) = go (same m.0 n) (get_holds n b)
  where
    go : (t' : Bool) → Hold s (places_of n ps) (get n ms) → Hold s (pick t' (m.1 ∷ places_of n ps) (places_of n ps)) (pick t' (t ∷ get n ms) (get n ms))
    go true ih = both_one h ih
    go false ih = ih

pub count_holds : {s : Text} {ps : List ℕ} {ts : List Tree} → Hold s ps ts → (counted ps).count ≡ min 2 (length ts)
unfolding counted
count_holds both_none = refl
count_holds (both_one h both_none) = refl
count_holds (both_one h (both_one g b)) = omega arith

pub first_holds : {s : Text} {ps : List ℕ} {t : Tree} {ts : List Tree} → Hold s ps (t ∷ ts) → Stands s (counted ps).at t
unfolding counted
first_holds (both_one h both_none) = h
first_holds (both_one h (both_one g b)) = h

-- ---- one after the other

comma_not : (b c : ℕ) → eqb b c ≡ true → eqb c 44 ≡ false → eqb b 44 ≡ false
comma_not b c e f = ap (λ (x : ℕ). eqb x 44) (eqb-true b c e) ∙ f

visits_from : (n : ℕ) (s : Text) (i : ℕ) {ps : List ℕ} {m : ℕ} → items item_place 93 n s i ≡ done ps m → Visits s (item_from s (skip s i)) ps
unfolding items after in_front item_from item_of next_item
visits_from zero s i e = absurd (bad_done e)
visits_from (suc n) s i {ps} {m} e =
    let w = next_inv (item_place s (skip s i)) (after 93 (items item_place 93 n) s) e in
    let v = item_inv s (skip s i) w.2 in
    let is : item_of (skip s i) (value inner s (skip s i)) ≡ Item w.0 w.1 = ap (item_of (skip s i)) v.1 ∙ ap (λ (p : ℕ). Item p w.1) v.2 in
    pick_case _ _ _ w.3
    (λ h f. here is (done_of f) (pick_false _ _ (comma_not (peek s (skip s w.1)) 93 h refl)) visits_end)
    (λ h f. pick_case _ _ _ f
    (λ g u.
    let x = next_inv (items item_place 93 n s (skip s w.1 + 1)) (in_front w.0) u in
    here is (done_of x.3) (pick_true _ _ g) (visits_from n s (skip s w.1 + 1) x.2))
    (λ _ u. absurd (bad_done u)))
  where
    here : {r q : Step} {p j : ℕ} {qs : List ℕ} → r ≡ Item p j → p ∷ qs ≡ ps → next_item s j ≡ q → Visits s q qs → Visits s r ps
    here {r} {q} {p} {j} {qs} a b c d = subst (Visits s r) b (subst (λ (x : Step). Visits s x (p ∷ qs)) (sym a) (visits_item (subst (λ (x : Step). Visits s x qs) (sym c) d)))

pub visits_many : (s : Text) (p : ℕ) {ps : List ℕ} {m : ℕ} → peek s p ≡ 91 → many item_place 93 s (p + 1) ≡ done ps m → Visits s (first_item s p) ps
unfolding many first_item
visits_many s p {ps} {m} o e = subst (λ (x : Step). Visits s x ps) (sym (pick_true _ _ (eq-eqb _ _ o))) (pick_case _ _ _ e closed opened)
  where
    closed : eqb (peek s (skip s (p + 1))) 93 ≡ true → done [] (skip s (p + 1) + 1) ≡ done ps m → Visits s (pick (eqb (peek s (skip s (p + 1))) 93) End (item_from s (skip s (p + 1)))) ps
    closed h f = subst (λ (x : Step). Visits s x ps) (sym (pick_true _ _ h)) (subst (Visits s End) (done_of f) visits_end)

    opened : eqb (peek s (skip s (p + 1))) 93 ≡ false → items item_place 93 (suc (length s)) s (p + 1) ≡ done ps m → Visits s (pick (eqb (peek s (skip s (p + 1))) 93) End (item_from s (skip s (p + 1)))) ps
    opened h f = subst (λ (x : Step). Visits s x ps) (sym (pick_false _ _ h)) (visits_from (suc (length s)) s (p + 1) f)

passes_from : (n : ℕ) (s : Text) (i : ℕ) {ps : List (Text × ℕ)} {m : ℕ} → items member_place 125 n s i ≡ done ps m → Passes s (entry_from s (skip s i)) ps
unfolding items after in_front entry_from entry_of next_member
passes_from zero s i e = absurd (bad_done e)
passes_from (suc n) s i {ps} {m} e =
    let w = next_inv (member_place s (skip s i)) (after 125 (items member_place 125 n) s) e in
    let v = member_inv s (skip s i) w.2 in
    let k = name_string s (skip s i) v.2 in
    let is : entry_of (skip s i) (member_place s (skip s i)) ≡ Named (skip s i) w.0.1 w.1 = ap (entry_of (skip s i)) w.2 in
    pick_case _ _ _ w.3
    (λ h f. here k.1 is (done_of f) (pick_false _ _ (comma_not (peek s (skip s w.1)) 125 h refl)) passes_end)
    (λ h f. pick_case _ _ _ f
    (λ g u.
    let x = next_inv (items member_place 125 n s (skip s w.1 + 1)) (in_front w.0) u in
    here k.1 is (done_of x.3) (pick_true _ _ g) (passes_from n s (skip s w.1 + 1) x.2))
    (λ _ u. absurd (bad_done u)))
  where
    here : {r q : Entry} {a j l : ℕ} {p : Text × ℕ} {qs : List (Text × ℕ)} → string s a ≡ done p.0 l → r ≡ Named a p.1 j → p ∷ qs ≡ ps → next_member s j ≡ q → Passes s q qs → Passes s r ps
    here {r} {q} {a} {j} {l} {p} {qs} o b c d f = subst (Passes s r) c (subst (λ (x : Entry). Passes s x (p ∷ qs)) (sym b) (passes_member o (subst (λ (x : Entry). Passes s x qs) (sym d) f)))

pub passes_many : (s : Text) (p : ℕ) {ps : List (Text × ℕ)} {m : ℕ} → peek s p ≡ 123 → many member_place 125 s (p + 1) ≡ done ps m → Passes s (first_member s p) ps
unfolding many first_member
passes_many s p {ps} {m} o e = subst (λ (x : Entry). Passes s x ps) (sym (pick_true _ _ (eq-eqb _ _ o))) (pick_case _ _ _ e closed opened)
  where
    closed : eqb (peek s (skip s (p + 1))) 125 ≡ true → done [] (skip s (p + 1) + 1) ≡ done ps m → Passes s (pick (eqb (peek s (skip s (p + 1))) 125) Last (entry_from s (skip s (p + 1)))) ps
    closed h f = subst (λ (x : Entry). Passes s x ps) (sym (pick_true _ _ h)) (subst (Passes s Last) (done_of f) passes_end)

    opened : eqb (peek s (skip s (p + 1))) 125 ≡ false → items member_place 125 (suc (length s)) s (p + 1) ≡ done ps m → Passes s (pick (eqb (peek s (skip s (p + 1))) 125) Last (entry_from s (skip s (p + 1)))) ps
    opened h f = subst (λ (x : Entry). Passes s x ps) (sym (pick_false _ _ h)) (passes_from (suc (length s)) s (p + 1) f)
