-- What is the same looks the same: related values have equal views. Assumes nothing.
use Rattle.std.specs.Prelude.{◌≡◌, refl, Bool, true, false, List, [], ◌∷◌, map, eqb}
use Rattle.std.proofs.Common.{sym, ap, ◌∙◌, true≢false, eqb-true}
use Rattle.text.specs.Reading.{Text, pick}
use Rattle.grammar.specs.Tree.{Tree, arr, obj, Trees, Members, one_member, same, get, list_of_trees}
use Rattle.manifest.specs.Kinds.{Kind, text, integer, free, array, object, Fields, end, field, manifest}
use Rattle.manifest.specs.Same.{known, kind_of, fields_of, item_of, Same, itself, back, after, objects, arrays, SameMembers, no_more, keep, extra, swap, back_members, after_members, SameItems, no_items, item}
use Rattle.manifest.specs.View.{Cell, one, View, Row, view, row, rank, cell, as_text, as_integer, as_free, as_array, as_object}
use Rattle.manifest.proofs.laws.Cells.{cell_swap, cell_keep}

-- A table is good if no object knows a name twice
unfoldable mutual
  pub good : Kind → Bool
  good text = true
  good integer = true
  good free = true
  good (array k) = good k
  good (object fs) = goods fs

  pub goods : Fields → Bool
  goods end = true
  goods (field n r k fs) = pick (known n fs) false (pick (good k) (goods fs) false)

-- the manifest's is
pub manifest_good : good (object manifest) ≡ true
unfolding good known same pick
manifest_good = refl

both : (a b : Bool) → pick a b false ≡ true → (a ≡ true) × (b ≡ true)
unfolding pick
both true b e = (refl, e)
both false b e = absurd (true≢false (sym e))

neither : (a b : Bool) → pick a true b ≡ false → (a ≡ false) × (b ≡ false)
unfolding pick
neither true b e = absurd (true≢false e)
neither false b e = (refl, e)

first_fails : (a b : Bool) → pick a false b ≡ true → (a ≡ false) × (b ≡ true)
unfolding pick
first_fails true b e = absurd (true≢false (sym e))
first_fails false b e = (refl, e)

pub same_true : (s t : Text) → same s t ≡ true → s ≡ t
unfolding same
same_true [] [] e = refl
same_true [] (b ∷ t) e = absurd (true≢false (sym e))
same_true (a ∷ s) [] e = absurd (true≢false (sym e))
same_true (a ∷ s) (b ∷ t) e = λ i. eqb-true a b (both (eqb a b) (same s t) e).0 i ∷ same_true s t (both (eqb a b) (same s t) e).1 i

good_fields : (k : Kind) → good k ≡ true → goods (fields_of k) ≡ true
unfolding good fields_of
good_fields text e = refl
good_fields integer e = refl
good_fields free e = refl
good_fields (array k) e = refl
good_fields (object fs) e = e

good_item : (k : Kind) → good k ≡ true → good (item_of k) ≡ true
unfolding good item_of
good_item text e = refl
good_item integer e = refl
good_item free e = refl
good_item (array k) e = e
good_item (object fs) e = refl

good_kind : (n : Text) (fs : Fields) → goods fs ≡ true → good (kind_of n fs) ≡ true
unfolding good kind_of pick
good_kind n end e = refl
good_kind n (field m r k fs) e =
    let b : pick (good k) (goods fs) false ≡ true = (first_fails (known m fs) (pick (good k) (goods fs) false) e).1 in
    choose (same n m) (both (good k) (goods fs) b).0 (good_kind n fs (both (good k) (goods fs) b).1)
  where
    choose : (c : Bool) → good k ≡ true → good (kind_of n fs) ≡ true → good (pick c k (kind_of n fs)) ≡ true
    choose true p q = p
    choose false p q = q

-- an unknown member is not seen
pub row_extra : (fs : Fields) (n : Text) (t : Tree) (ms : Members) → known n fs ≡ false → row fs (one_member n t ms) ≡ row fs ms
unfolding view get known pick
row_extra end n t ms h = refl
row_extra (field m r k fs) n t ms h =
    let (p, q) = neither (same n m) (known n fs) h in
    λ i. (cell (rank k) (λ u. view k u) (pick (p i) (t ∷ get m ms) (get m ms)), row_extra fs n t ms q i)

-- nor is an order
pub row_swap : (fs : Fields) (n m : Text) (t u : Tree) (ms : Members) → row fs (one_member n t (one_member m u ms)) ≡ row fs (one_member m u (one_member n t ms))
unfolding view get
row_swap end n m t u ms = refl
row_swap (field l r k fs) n m t u ms =
    λ i. (cell_swap (rank k) (λ v. view k v) (same n l) (same m l) t u (get l ms) i, row_swap fs n m t u ms i)

pub row_keep : (fs : Fields) (n : Text) (t u : Tree) (ms ns : Members) → goods fs ≡ true → view (kind_of n fs) t ≡ view (kind_of n fs) u → row fs ms ≡ row fs ns
    → row fs (one_member n t ms) ≡ row fs (one_member n u ns)
unfolding view get good kind_of pick
row_keep end n t u ms ns g e h = refl
row_keep (field m r k fs) n t u ms ns g e h =
    let (lone, rest) = first_fails (known m fs) (pick (good k) (goods fs) false) g in
    go (same n m) refl lone e (row_keep fs n t u ms ns (both (good k) (goods fs) rest).1)
  where
    go : (b : Bool) → same n m ≡ b → known m fs ≡ false → view (pick b k (kind_of n fs)) t ≡ view (pick b k (kind_of n fs)) u
        → (view (kind_of n fs) t ≡ view (kind_of n fs) u → row fs ms ≡ row fs ns → row fs (one_member n t ms) ≡ row fs (one_member n u ns))
        → ◌≡◌ {A = Cell (View k) × Row fs}
        (cell (rank k) (λ v. view k v) (pick b (t ∷ get m ms) (get m ms)), row fs (one_member n t ms))
        (cell (rank k) (λ v. view k v) (pick b (u ∷ get m ns) (get m ns)), row fs (one_member n u ns))
    go true q lone f ih =
        let z : known n fs ≡ false = ap (λ (l : Text). known l fs) (same_true n m q) ∙ lone in
        let w : row fs (one_member n t ms) ≡ row fs (one_member n u ns) = row_extra fs n t ms z ∙ ((λ i. (h i).1) ∙ sym (row_extra fs n u ns z)) in
        λ i. (cell_keep (rank k) (λ v. view k v) t u (get m ms) (get m ns) f (λ j. (h j).0) i, w i)
    go false q lone f ih = let w : row fs (one_member n t ms) ≡ row fs (one_member n u ns) = ih f (λ i. (h i).1) in λ i. ((h i).0, w i)

of_objects : (k : Kind) (ms ns : Members) → row (fields_of k) ms ≡ row (fields_of k) ns → view k (obj ms) ≡ view k (obj ns)
unfolding view fields_of as_text as_integer as_free as_array as_object
of_objects text ms ns e = refl
of_objects integer ms ns e = refl
of_objects free ms ns e = refl
of_objects (array k) ms ns e = refl
of_objects (object fs) ms ns e = ap one e

unfoldable pub views : (k : Kind) → Trees → List (Cell (View k))
views k ts = map (λ t. view k t) (list_of_trees ts)

of_arrays : (k : Kind) (ts us : Trees) → views (item_of k) ts ≡ views (item_of k) us → view k (arr ts) ≡ view k (arr us)
unfolding view item_of as_text as_integer as_free as_array as_object views
of_arrays text ts us e = refl
of_arrays integer ts us e = refl
of_arrays free ts us e = refl
of_arrays (array k) ts us e = ap one e
of_arrays (object fs) ts us e = refl

-- DEMAND 3, for every kind
mutual
  unfolding views list_of_trees

  pub same_view : {k : Kind} {t u : Tree} → Same k t u → good k ≡ true → view k t ≡ view k u
  same_view itself g = refl
  same_view (back s) g = sym (same_view s g)
  same_view (after s r) g = same_view s g ∙ same_view r g
  same_view {k} (objects {ms = ms} {ns = ns} s) g = of_objects k ms ns (same_row s (good_fields k g))
  same_view {k} (arrays {ts = ts} {us = us} s) g = of_arrays k ts us (same_views s (good_item k g))

  pub same_row : {fs : Fields} {ms ns : Members} → SameMembers fs ms ns → goods fs ≡ true → row fs ms ≡ row fs ns
  same_row no_more g = refl
  same_row {fs} (keep {n = n} {t = t} {u = u} {ms = ms} {ns = ns} s r) g =
      row_keep fs n t u ms ns g (same_view s (good_kind n fs g)) (same_row r g)
  same_row {fs} (extra {n = n} {t = t} {ms = ms} h r) g = row_extra fs n t ms h ∙ same_row r g
  same_row {fs} (swap {n = n} {m = m} {t = t} {u = u} {ms = ms}) g = row_swap fs n m t u ms
  same_row (back_members s) g = sym (same_row s g)
  same_row (after_members s r) g = same_row s g ∙ same_row r g

  pub same_views : {k : Kind} {ts us : Trees} → SameItems k ts us → good k ≡ true → views k ts ≡ views k us
  same_views no_items g = refl
  same_views (item s r) g = λ i. same_view s g i ∷ same_views r g i
