-- Objects that hold no others, and the items of `machines`. Assumes nothing.
use mathlib.Core.Path.{◌≡◌, refl, sym, ap, subst, ◌∙◌}
use mathlib.Core.Bool.{false, not, ◌&&◌, ◌||◌}
use mathlib.Core.List.{List, [], ◌∷◌}
use Prim.Native.Nat.{ℕ, ◌+◌, ◌*◌, ◌≤◌, ◌<◌}
use native.Mathlib.Decide.{ℕ_discrete}
use native.Mathlib.Omega.{arith}
use lib.Dec.{eqb, ltb}
use lib.ListN.{length, get_or, set, replicate, length-set}
use borrow.Author.Tests.{eq-eqb}
use Rattle.text.specs.Reading.{Text, pick, peek}
use Rattle.text.specs.Class.{skip}
use Rattle.text.specs.laws.Readers.{pick_true}
use Rattle.grammar.specs.Tree.{Tree, obj}
use Rattle.values.specs.Stands.{Stands}
use Rattle.table.specs.Table.{line_at, wanted_of}
use Rattle.table.specs.laws.Some.{some}
use Rattle.index.specs.Index.{column, items_of, rows, item_row}
use Rattle.index.proofs.laws.Put.{Put, put_one, put_more, put_same}
use Rattle.survey.specs.laws.Bare.{Bare}
use Rattle.survey.specs.laws.Walked.{Spot, Fine, slot, Row, Inner, gone, stood, RowAt, Machines, Holds}
use Rattle.survey.proofs.Objects.{scalar_fine, scalars_but, unseen, stands_same, its_members, row_value, row_stands, row_column, row_fine}
use Rattle.survey.proofs.Known.{Known, known_column, line_7, line_8}
use Rattle.survey.proofs.Arrays.{places, Collecting, Collected, collect_start, collect_none, collect_on, collect_end, array_places}

-- ---- objects that hold no others

-- o is such an object's kind
pub record Leaf (o : ℕ) : Type 0 where
  pub small : o < 12
  pub bound : o ≡ 2 → ⊥
  pub wants : wanted_of o ≡ 6
  pub flat : some (λ j. eqb (line_at j).place o && not (ltb (line_at j).kind 3 || false)) 20 ≡ false

pub leaf_sync : Leaf 3
unfolding some line_at wanted_of pick
leaf_sync = record { small = omega arith; bound = λ z. omega arith; wants = refl; flat = refl }

pub leaf_item : Leaf 5
unfolding some line_at wanted_of pick
leaf_item = record { small = omega arith; bound = λ z. omega arith; wants = refl; flat = refl }

pub leaf_machine : Leaf 6
unfolding some line_at wanted_of pick
leaf_machine = record { small = omega arith; bound = λ z. omega arith; wants = refl; flat = refl }

pub leaf_trace : Leaf 10
unfolding some line_at wanted_of pick
leaf_trace = record { small = omega arith; bound = λ z. omega arith; wants = refl; flat = refl }

pub leaf_fine : (o l : ℕ) → Leaf o → l ≤ 15 → (s : Text) (p : ℕ) {row : List ℕ} (w : Row o l s p row) → Fine o (obj (its_members o l s p w))
leaf_fine o l f low s p w =
    row_fine o l s p w low f.small f.bound f.wants
    (λ j h g t n st ty. scalar_fine (line_at j).kind (scalars_but o (λ i. false) f.flat j h g refl) t ty)

-- ---- an object that may be absent

-- as an object's column tells it, if all was 0 before
pub inner_of : {o l : ℕ} {s : Text} {c : ℕ} {new : List ℕ} → Holds (RowAt o l s) c (replicate 5 0) new → Inner o l s c new
inner_of {o} {l} {s} {c} {new} a = go (ℕ_discrete c 0)
  where
    go : Dec (c ≡ 0) → Inner o l s c new
    go (yes z) = subst (Inner o l s c) (sym (a.without z)) (subst (λ (x : ℕ). Inner o l s x (replicate 5 0)) (sym z) gone)
    go (no n) = stood n (a.within n)

pub inner_column : (o l : ℕ) → l ≤ 15 → (s : Text) {p : ℕ} {row : List ℕ} → Inner o l s p row → (j : ℕ) → j < 20 → (line_at j).place ≡ o → column s p (line_at j).name ≡ get_or row (slot o j) 0
unfolding column
inner_column o l low s gone j h g = pick_true _ _ (eq-eqb 0 0 refl) ∙ sym (unseen 5 (slot o j))
inner_column o l low s {p} (stood n w) j h g = row_column o l s p w low n j h g

pub inner_known : {j o k m : ℕ} {n : Text} → Known j o n k m → (l : ℕ) → l ≤ 15 → (s : Text) (p : ℕ) {row : List ℕ} → Inner o l s p row → column s p n ≡ get_or row k 0
inner_known {j} {o} a l low s p {row} w =
    ap (column s p) (sym a.name) ∙ inner_column o l low s w j a.small a.place ∙ ap (λ (x : ℕ). get_or row x 0) a.column

pub inner_fine : (o l : ℕ) → Leaf o → l ≤ 15 → (s : Text) {p : ℕ} {row : List ℕ} → Inner o l s p row → (p ≡ 0 → ⊥) → {t : Tree} → Stands s p t → Fine o t
inner_fine o l f low s gone n st = absurd (n refl)
inner_fine o l f low s {p} (stood m w) n st = subst (Fine o) (stands_same (row_stands o l s p w low) st) (leaf_fine o l f low s p w)

-- ---- an item of `machines`

module _ (s : Text) (p : ℕ) (past : p ≡ 0 → ⊥) {row : List ℕ} (w : Row 5 10 s p row) where
  item_numbers : get_or row 1 0 ∷ get_or row 2 0 ∷ [] ≡ item_row s p
  unfolding item_row
  item_numbers = λ t. sym (known_column line_7 10 (omega arith) s p past w) t ∷ sym (known_column line_8 10 (omega arith) s p past w) t ∷ []

  item_put : (ix : List ℕ) (b : ℕ) → b + 2 ≤ length ix → Put ix b (item_row s p) (set (set ix b (get_or row 1 0)) (b + 1) (get_or row 2 0))
  item_put ix b h =
      put_same item_numbers
      (put_more (put_one ix b (get_or row 1 0) (omega arith)) refl (put_one (set ix b (get_or row 1 0)) (b + 1) (get_or row 2 0) (omega (arith, length-set ix b (get_or row 1 0)))))

  item_fine : Fine 5 (obj (its_members 5 10 s p w))
  item_fine = leaf_fine 5 10 leaf_item (omega arith) s p w

wide_item : (s : Text) (q : ℕ) → length (item_row s q) ≡ 2
unfolding item_row
wide_item s q = refl

no_item : (s : Text) → item_row s 0 ≡ replicate 2 0
unfolding item_row column pick
no_item s = refl

-- ---- `machines`

abbrev pub Sound : Spot → Type 0
Sound x = Fine 5 x.1

machines_told : (s : Text) (p base : ℕ) → (p ≡ 0 → ⊥) → {e : ℕ} {old new : List ℕ} → Collected Sound 11 (item_row s) s p base e old new → Machines s base p e old new
machines_told s p base past d =
    let q : items_of s p ≡ places d.items = array_places 11 s p d.opens d.reads (omega arith) past in
    record {
      listed = record { opens = d.opens; items = d.items; reads = d.reads; fine = d.each; few = d.few };
      sized = d.sized;
      put = λ z. put_same (λ t. length (sym q t) ∷ rows (λ j. item_row s (get_or (sym q t) j 0)) 32) (d.put z);
    }

module _ (s : Text) (p base : ℕ) {old : List ℕ} (size : length old ≡ 2470) (fits : base + 65 ≤ 2470) where
  pub machines_none : (p ≡ 0 → ⊥) → {e : ℕ} → Bare s p e → Machines s base p e old old
  machines_none past b = machines_told s p base past (collect_none Sound 11 (omega arith) (item_row s) s p base 2 (wide_item s) (no_item s) (omega arith) b)

  pub machines_start : {i : ℕ} → i ≡ skip s (p + 1) → Collecting Sound 11 (item_row s) s p base old i 0 old
  machines_start ei = collect_start Sound 11 (omega arith) (item_row s) s p base (omega arith) ei

  module _ {i n : ℕ} {ix : List ℕ} (c : Collecting Sound 11 (item_row s) s p base old i n ix) (more : n < 32) where
    pub machines_room : base + 1 + 2 * n + 2 ≤ length ix
    machines_room = omega (arith, c.sized)

    module _ {row : List ℕ} (w : Row 5 10 s i row) {k b : ℕ} (ek : k ≡ skip s (get_or row 0 0)) (eb : b ≡ peek s k) where
      abbrev next_ix : List ℕ
      next_ix = set (set ix (base + 1 + 2 * n) (get_or row 1 0)) (base + 1 + 2 * n + 1) (get_or row 2 0)

      same_size : length next_ix ≡ length ix
      same_size = length-set (set ix (base + 1 + 2 * n) (get_or row 1 0)) (base + 1 + 2 * n + 1) (get_or row 2 0) ∙ length-set ix (base + 1 + 2 * n) (get_or row 1 0)

      pub machines_sized : length next_ix ≡ 2470
      machines_sized = same_size ∙ c.sized ∙ size

      pub machines_on : (b ≡ 93 → ⊥) → b ≡ 44 → {y : ℕ} → y ≡ skip s (k + 1) → Collecting Sound 11 (item_row s) s p base old y (n + 1) next_ix
      machines_on =
          collect_on Sound 11 (omega arith) (item_row s) s p base 2 (wide_item s) c more (row_value 5 10 s i w) (item_fine s i c.off w) same_size
          (λ _. item_put s i c.off w ix (base + 1 + 2 * n) machines_room) ek eb

      pub machines_end : (p ≡ 0 → ⊥) → peek s p ≡ 91 → b ≡ 93 → Machines s base p (k + 1) old (set next_ix base (n + 1))
      machines_end past opens h = machines_told s p base past (collect_end Sound 11 (omega arith) (item_row s) s p base 2 (wide_item s) c more (row_value 5 10 s i w) (item_fine s i c.off w) same_size
          (λ _. item_put s i c.off w ix (base + 1 + 2 * n) machines_room) ek eb opens (no_item s) (omega arith) h)
