-- The items of an array and the members of an object in the text, one after the other, and where the whole ends. Assumes nothing.
use Rattle.std.specs.Prelude.{◌≡◌, Bool, true, false, eqb, length}
use Rattle.std.proofs.Math.Path.{refl, sym, ap}
use Rattle.std.proofs.Common.{subst, ◌∙◌, arith, eq-eqb, ne_eqb, eqb-true}
use mathlib.Core.List.{List, [], ◌∷◌}
use Prim.Native.Nat.{ℕ, zero, suc, ◌+◌, ◌<◌, ◌≤◌}
use Rattle.text.specs.Reading.{Text, Out, done, bad, deep, Reader, peek}
use Rattle.text.specs.Class.{skip}
use Rattle.text.specs.laws.Peek.{found_lt}
use Rattle.text.specs.laws.Readers.{Forward, next_inv, next_was, pick_case, pick_true, pick_false, past_done, bad_done, done_of, done_at}
use Rattle.grammar.specs.Tree.{Tree, obj, members}
use Rattle.grammar.specs.Document.{array_tree, object_tree, after, items, many, in_front, member, value, most}
use Rattle.grammar.proofs.laws.Firm.{either_array, either_object, member_read}
use Rattle.values.specs.laws.Outs.{Stops}
use Rattle.places.specs.Places.{inner, item_place, member_place, listed, items_at, members_at}
use Rattle.places.specs.laws.Paired.{many_paired}
use Rattle.places.specs.laws.Standing.{item_pair, member_pair, member_inv}

-- ---- one after the other

-- from i on stand xs, with commas between, and past `close` is m
pub data Row {A : Type 0} (one : Reader A) (close : ℕ) (s : Text) : ℕ → List A → ℕ → Type 0 where
  last : {i m : ℕ} {xs : List A} (x : A) (j : ℕ) → one s i ≡ done x j → peek s (skip s j) ≡ close → xs ≡ x ∷ [] → m ≡ skip s j + 1 → Row one close s i xs m
  more : {i m : ℕ} {xs : List A} (x : A) (j : ℕ) (ys : List A) → one s i ≡ done x j → peek s (skip s j) ≡ 44 → xs ≡ x ∷ ys → Row one close s (skip s (skip s j + 1)) ys m → Row one close s i xs m

module _ {A : Type 0} (one : Reader A) (close : ℕ) (s : Text) where
  row_items : (n i : ℕ) {xs : List A} {m : ℕ} → items one close n s i ≡ done xs m → Row one close s (skip s i) xs m
  unfolding items after in_front
  row_items zero i e = absurd (bad_done e)
  row_items (suc n) i {xs} {m} e =
      let w = next_inv (one s (skip s i)) (after close (items one close n) s) e in
      pick_case _ _ _ w.3
      (λ h f. last w.0 w.1 w.2 (eqb-true (peek s (skip s w.1)) close h) (sym (done_of f)) (sym (done_at f)))
      (λ h f. pick_case _ _ _ f
      (λ g u.
      let x = next_inv (items one close n s (skip s w.1 + 1)) (in_front w.0) u in
      more w.0 w.1 x.0 w.2 (eqb-true (peek s (skip s w.1)) 44 g) (sym (done_of x.3))
      (subst (Row one close s (skip s (skip s w.1 + 1)) x.0) (done_at x.3) (row_items n (skip s w.1 + 1) x.2)))
      (λ _ u. absurd (bad_done u)))

  -- at the start
  module _ (p : ℕ) {xs : List A} {m : ℕ} (e : many one close s p ≡ done xs m) where
    pub many_empty : peek s (skip s p) ≡ close → (xs ≡ []) × (skip s p + 1 ≡ m)
    unfolding many
    many_empty h = let f = sym (pick_true _ _ (eq-eqb _ _ h)) ∙ e in (sym (done_of f), done_at f)

    pub many_row : (peek s (skip s p) ≡ close → ⊥) → Row one close s (skip s p) xs m
    unfolding many
    many_row h = row_items (suc (length s)) p (sym (pick_false _ _ (ne_eqb _ _ h)) ∙ e)

pub row_reads : {A : Type 0} {one : Reader A} {close : ℕ} {s : Text} {i : ℕ} {xs : List A} {m : ℕ} → Row one close s i xs m → (x : A) × (j : ℕ) × (ys : List A) × (one s i ≡ done x j) × (xs ≡ x ∷ ys)
row_reads (last x j e h f g) = (x, j, [], e, f)
row_reads (more x j ys e h f r) = (x, j, ys, e, f)

module _ {A : Type 0} (one : Reader A) (close : ℕ) (s : Text) where
  -- the first of them ends at e
  module _ (i : ℕ) {e : ℕ} (ends : (x : A) (j : ℕ) → one s i ≡ done x j → e ≡ j) (small : close < 256) (other : close ≡ 44 → ⊥) where
    pub row_inside : {xs : List A} {m : ℕ} → Row one close s i xs m → skip s e < length s
    row_inside (last x j r h f g) = found_lt s _ refl (ap (λ (k : ℕ). peek s (skip s k)) (ends x j r) ∙ h) small
    row_inside (more x j ys r h f w) = found_lt s _ refl (ap (λ (k : ℕ). peek s (skip s k)) (ends x j r) ∙ h) (omega arith)

    pub row_onward : {xs : List A} {m : ℕ} → Forward one → Row one close s i xs m → i ≤ e
    row_onward go (last x j r h f g) = omega (arith, past_done one go s i r, ends x j r)
    row_onward go (more x j ys r h f w) = omega (arith, past_done one go s i r, ends x j r)

    pub row_last : {xs : List A} {m : ℕ} → (peek s (skip s e) ≡ 44 → ⊥) → Row one close s i xs m → (x : A) × (j : ℕ) × (one s i ≡ done x j) × (xs ≡ x ∷ []) × (skip s e + 1 ≡ m)
    row_last ne (last x j r h f g) = (x, j, r, f, ap (λ (k : ℕ). skip s k + 1) (ends x j r) ∙ sym g)
    row_last ne (more x j ys r h f w) = absurd (ne (ap (λ (k : ℕ). peek s (skip s k)) (ends x j r) ∙ h))

    pub row_next : {xs : List A} {m : ℕ} → peek s (skip s e) ≡ 44 → Row one close s i xs m → (x : A) × (j : ℕ) × (ys : List A) × (one s i ≡ done x j) × (xs ≡ x ∷ ys) × Row one close s (skip s (skip s e + 1)) ys m
    row_next q (last x j r h f g) = absurd (other (sym h ∙ ap (λ (k : ℕ). peek s (skip s k)) (sym (ends x j r)) ∙ q))
    row_next {xs} {m} q (more x j ys r h f w) =
        (x, j, ys, r, f, subst (λ (k : ℕ). Row one close s (skip s (skip s k + 1)) ys m) (sym (ends x j r)) w)

-- ---- what stands at p

array_parts : (l : ℕ) (s : Text) (p : ℕ) {t : Tree} {n : ℕ} → peek s p ≡ 91 → value (suc l) s p ≡ done t n → (xs : List Tree) × (many (value l) 93 s (p + 1) ≡ done xs n)
unfolding value array_tree
array_parts l s p h e =
    let w = next_inv (many (value l) 93 s (p + 1)) array_tree (sym (either_array s p _ _ h) ∙ e) in
    (w.0, w.2 ∙ ap (done w.0) (done_at w.3))

object_parts : (l : ℕ) (s : Text) (p : ℕ) {t : Tree} {n : ℕ} → peek s p ≡ 123 → value (suc l) s p ≡ done t n → (xs : List (Text × Tree)) × (many (member (value l)) 125 s (p + 1) ≡ done xs n)
unfolding value object_tree
object_parts l s p h e =
    let w = next_inv (many (member (value l)) 125 s (p + 1)) object_tree (sym (either_object s p _ _ h) ∙ e) in
    (w.0, w.2 ∙ ap (done w.0) (done_at w.3))

object_whole : (l : ℕ) (s : Text) (p : ℕ) {xs : List (Text × Tree)} {n : ℕ} → peek s p ≡ 123 → many (member (value l)) 125 s (p + 1) ≡ done xs n → value (suc l) s p ≡ done (obj (members xs)) n
unfolding value object_tree
object_whole l s p h e = either_object s p _ _ h ∙ next_was object_tree e

module _ (s : Text) (p : ℕ) where
  module _ {t : Tree} {n : ℕ} (e : value most s p ≡ done t n) where
    -- the items of an array end where it ends
    pub array_read : peek s p ≡ 91 → (ps : List ℕ) × (many item_place 93 s (p + 1) ≡ done ps n) × (items_at s p ≡ ps)
    unfolding items_at listed
    array_read h =
        let w = array_parts inner s p h e in
        let q = many_paired (value inner) item_place 93 s (λ _ _. Unit {0}) (λ i x j f. let v = item_pair s i x j f in (v.0, v.1, tt)) (p + 1) w.1 in
        (q.0, q.1, pick_true _ _ (eq-eqb _ _ h) ∙ ap listed q.1)

    -- and the members of an object
    pub object_read : peek s p ≡ 123 → (ps : List (Text × ℕ)) × (many member_place 125 s (p + 1) ≡ done ps n) × (members_at s p ≡ ps)
    unfolding members_at listed
    object_read h =
        let w = object_parts inner s p h e in
        let q = many_paired (member (value inner)) member_place 125 s (λ _ _. Unit {0}) (λ i x j f. let v = member_pair s i x j f in (v.0, v.1, tt)) (p + 1) w.1 in
        (q.0, q.1, pick_true _ _ (eq-eqb _ _ h) ∙ ap listed q.1)

  pub no_array : (peek s p ≡ 91 → ⊥) → items_at s p ≡ []
  unfolding items_at
  no_array h = pick_false _ _ (ne_eqb _ _ h)

  pub no_object : (peek s p ≡ 123 → ⊥) → members_at s p ≡ []
  unfolding members_at
  no_object h = pick_false _ _ (ne_eqb _ _ h)

  member_back : (i : ℕ) (m : Text × ℕ) (j : ℕ) → member_place s i ≡ done m j → (x : Text × Tree) × (member (value inner) s i ≡ done x j) × Unit {0}
  member_back i m j e =
      let w = member_inv s i {k = m.0} {v = m.1} {e = j} e in
      ((m.0, w.1), member_read (value inner) s i w.2 (ap (value inner s) (sym w.3) ∙ w.4), tt)

  -- where no value stands no member is found
  pub not_read : Stops (value most s p) → members_at s p ≡ []
  unfolding members_at listed
  not_read h = go (eqb (peek s p) 123) refl
    where
      none : (o : Out (List (Text × ℕ))) → ((xs : List (Text × ℕ)) (n : ℕ) → o ≡ done xs n → ⊥) → listed o ≡ []
      none (done xs n) f = absurd (f xs n refl)
      none (bad q) f = refl
      none (deep q) f = refl

      never : peek s p ≡ 123 → (xs : List (Text × ℕ)) (n : ℕ) → many member_place 125 s (p + 1) ≡ done xs n → ⊥
      never o xs n e =
          let q = many_paired member_place (member (value inner)) 125 s (λ _ _. Unit {0}) member_back (p + 1) e in
          h.never (obj (members q.0)) n (object_whole inner s p o q.1)

      go : (b : Bool) → eqb (peek s p) 123 ≡ b → members_at s p ≡ []
      go true e = pick_true _ _ e ∙ none (many member_place 125 s (p + 1)) (never (eqb-true _ _ e))
      go false e = pick_false _ _ e
