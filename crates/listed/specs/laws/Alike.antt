-- Two indexes that read alike: they differ in cells of names alone, and there by positions of the same text. They stand for one manifest, and settling a name's cell gives an index alike.
-- Assumes nothing.
use Rattle.std.specs.Prelude.{◌≡◌, Bool, true, ◌||◌, List, [], ◌∷◌, ◌++◌, ℕ, zero, suc, ◌+◌, ◌*◌, ◌≤◌, ◌<◌, min, pos, set, length}
use Rattle.std.proofs.Math.Path.{refl, sym, ap}
use Rattle.std.proofs.Common.{subst, ◌∙◌, get_or-set_same}
use Rattle.std.proofs.Math.Bool.{false}
use native.Mathlib.Omega.{arith}
use Rattle.std.proofs.Math.Decide.{dec_lt, ℕ_discrete}
use Rattle.std.proofs.Math.Dec.{eqb, ltb}
use Rattle.std.proofs.Math.ListN.{get_or, get_or-eq_default}
use borrow.Author.Tests.{le-ltb, ne_eqb, eqb-false}
use Rattle.text.specs.Reading.{Text, pick}
use Rattle.text.specs.laws.Readers.{pick_false}
use Rattle.values.specs.Integer.{whole}
use Rattle.manifest.specs.View.{one}
use Rattle.manifest.specs.Rows.{flat}
use Rattle.manifest.specs.Statements.{All, all_none, all_one}
use Rattle.manifest.proofs.laws.Bools.{halves}
use Rattle.index.specs.Index.{col_of, item_of, entries_in, items_in, text_at, at, text_cell, id_cell, offset_cell, listed, item_by, sync_by, clocks_by, entry_by, items_from, entry_at, trace_at, manifest_of}
use Rattle.index.proofs.laws.Paths.{few_items}
use Rattle.listed.specs.Settled.{item_cell, entry_cells, name_cells, first_of, Settled, cell_settled, cells_settled, settled, settled_in}
use Rattle.listed.specs.laws.Cells.{AllSome, none_some, first_text, first_is, cell_case, cell_none, cell_other, cell_all_some}

-- ---- the cells of names

-- of `trace_time`; of an entry's `machine`, its `clocks`, its `sync_to`; of one of its items
pub data NameCell (c : ℕ) : Type 0 where
  of_trace : c ≡ 4 → NameCell c
  of_machine : (i : ℕ) → c ≡ 6 + (77 * i + 2) → NameCell c
  of_clocks : (i : ℕ) → c ≡ 6 + (77 * i + 6) → NameCell c
  of_sync : (i : ℕ) → c ≡ 6 + (77 * i + 9) → NameCell c
  of_item : (i k : ℕ) → k < 32 → c ≡ item_cell i k → NameCell c

pub item_cells : (i j n : ℕ) → j + n ≤ 32 → All NameCell (listed (item_cell i) j n)
unfolding listed
item_cells i j zero h = all_none
item_cells i j (suc n) h = all_one (of_item i j (omega arith) refl) (item_cells i (suc j) n (omega arith))

pub entry_cells_lem : (ix : List ℕ) (i : ℕ) → All NameCell (entry_cells ix i)
unfolding entry_cells
entry_cells_lem ix i = all_one (of_machine i refl) (all_one (of_clocks i refl) (all_one (of_sync i refl) (item_cells i 0 (items_in ix i) (omega (arith, few_items ix i)))))

all_append : {A : Type 0} {P : A → Type 0} {l k : List A} → All P l → All P k → All P (l ++ k)
all_append all_none b = b
all_append (all_one p a) b = all_one p (all_append a b)

all_flat : {A B : Type 0} {P : B → Type 0} (f : A → List B) → ((a : A) → All P (f a)) → (l : List A) → All P (flat f l)
unfolding flat
all_flat f h [] = all_none
all_flat f h (a ∷ l) = all_append (h a) (all_flat f h l)

pub name_cells_lem : (ix : List ℕ) → All NameCell (name_cells ix)
unfolding name_cells
name_cells_lem ix = all_one (of_trace refl) (all_flat (entry_cells ix) (entry_cells_lem ix) (listed (λ i. i) 0 (entries_in ix)))

-- ---- and the others

pub head_apart : (j : ℕ) → j < 6 → (j ≡ 4 → ⊥) → NameCell j → ⊥
unfolding item_cell
head_apart j h n (of_trace e) = n e
head_apart j h n (of_machine i e) = omega arith
head_apart j h n (of_clocks i e) = omega arith
head_apart j h n (of_sync i e) = omega arith
head_apart j h n (of_item i k b e) = omega arith

-- column j of an entry is that of a name
unfoldable pub name_column : ℕ → Bool
name_column j = eqb j 2 || (eqb j 6 || eqb j 9)

-- places of rows of 77
row_place : (i m a b : ℕ) → a < 77 → b < 77 → 6 + (77 * i + a) ≡ 6 + (77 * m + b) → a ≡ b
row_place i m a b ha hb e = go (dec_lt i m) (dec_lt m i)
  where
    go : Dec (i < m) → Dec (m < i) → a ≡ b
    go (yes x) y = absurd (omega arith)
    go (no x) (yes y) = absurd (omega arith)
    go (no x) (no y) = omega arith

module _ (i j : ℕ) (h : j < 13) (n : name_column j ≡ false) where
  not_these : (j ≡ 2 → ⊥) × (j ≡ 6 → ⊥) × (j ≡ 9 → ⊥)
  unfolding name_column
  not_these =
      let (a, r) = halves (eqb j 2) (eqb j 6 || eqb j 9) n in
      let (b, d) = halves (eqb j 6) (eqb j 9) r in
      (eqb-false j 2 a, eqb-false j 6 b, eqb-false j 9 d)

  pub column_apart : NameCell (6 + (77 * i + j)) → ⊥
  unfolding item_cell
  column_apart (of_trace e) = omega arith
  column_apart (of_machine m e) = not_these.0 (row_place i m j 2 (omega arith) (omega arith) e)
  column_apart (of_clocks m e) = not_these.1 (row_place i m j 6 (omega arith) (omega arith) e)
  column_apart (of_sync m e) = not_these.2 (row_place i m j 9 (omega arith) (omega arith) e)
  column_apart (of_item m k b e) = omega (arith, row_place i m j (13 + (2 * k + 1)) (omega arith) (omega arith) e)

pub id_apart : (i k : ℕ) → k < 32 → NameCell (6 + (77 * i + (13 + (2 * k + 0)))) → ⊥
unfolding item_cell
id_apart i k h (of_trace e) = omega arith
id_apart i k h (of_machine m e) = omega (arith, row_place i m (13 + (2 * k + 0)) 2 (omega arith) (omega arith) e)
id_apart i k h (of_clocks m e) = omega (arith, row_place i m (13 + (2 * k + 0)) 6 (omega arith) (omega arith) e)
id_apart i k h (of_sync m e) = omega (arith, row_place i m (13 + (2 * k + 0)) 9 (omega arith) (omega arith) e)
id_apart i k h (of_item m l b e) = omega (arith, row_place i m (13 + (2 * k + 0)) (13 + (2 * l + 1)) (omega arith) (omega arith) e)

-- ---- indexes alike

-- iy reads as ix does, but that cells of names may hold other positions of the same texts
pub record Alike (s : Text) (ix iy : List ℕ) : Type 0 where
  pub others : (c : ℕ) → (NameCell c → ⊥) → get_or iy c 0 ≡ get_or ix c 0
  pub texts : (c : ℕ) → text_cell s (get_or iy c 0) ≡ text_cell s (get_or ix c 0)

pub alike_refl : (s : Text) (ix : List ℕ) → Alike s ix ix
alike_refl s ix = record { others = λ c n. refl; texts = λ c. refl }

pub alike_then : {s : Text} {ix iy iz : List ℕ} → Alike s ix iy → Alike s iy iz → Alike s ix iz
alike_then a b = record { others = λ c n. b.others c n ∙ a.others c n; texts = λ c. b.texts c ∙ a.texts c }

picked_text : (s : Text) (b : Bool) (p q : ℕ) → text_cell s q ≡ text_cell s p → text_cell s (pick b q 0) ≡ text_cell s (pick b p 0)
unfolding pick
picked_text s true p q e = e
picked_text s false p q e = refl

module _ {s : Text} {ix iy : List ℕ} (a : Alike s ix iy) where
  pub alike_head : (j : ℕ) → j < 6 → (j ≡ 4 → ⊥) → get_or iy j 0 ≡ get_or ix j 0
  alike_head j h n = a.others j (head_apart j h n)

  pub alike_entries : entries_in iy ≡ entries_in ix
  unfolding entries_in
  alike_entries = let x : get_or iy 0 0 ≡ get_or ix 0 0 = alike_head 0 (omega arith) (λ e. omega arith) in let y : get_or iy 5 0 ≡ get_or ix 5 0 = alike_head 5 (omega arith) (λ e. omega arith) in λ u. pick (eqb (x u) 0) 0 (min 32 (y u))

  module _ (i : ℕ) where
    -- a column that holds no name, and the text of any
    pub alike_column : (j : ℕ) → j < 12 → name_column j ≡ false → col_of iy i j ≡ col_of ix i j
    unfolding col_of
    alike_column j h n = ap (λ (p : ℕ). pick (ltb i 32) (pick (ltb j 12) p 0) 0) (a.others _ (column_apart i j (omega arith) n))

    pub alike_text : (j : ℕ) → text_cell s (col_of iy i j) ≡ text_cell s (col_of ix i j)
    unfolding col_of
    alike_text j = picked_text s (ltb i 32) _ _ (picked_text s (ltb j 12) _ _ (a.texts (6 + (77 * i + j))))

    pub alike_items : items_in iy i ≡ items_in ix i
    unfolding items_in name_column
    alike_items =
        let x : col_of iy i 3 ≡ col_of ix i 3 = alike_column 3 (omega arith) refl in
        let y : get_or iy (6 + (77 * i + 12)) 0 ≡ get_or ix (6 + (77 * i + 12)) 0 = a.others _ (column_apart i 12 (omega arith) refl) in
        λ u. pick (eqb (x u) 0) 0 (min 32 (y u))

    pub alike_cells : entry_cells iy i ≡ entry_cells ix i
    unfolding entry_cells
    alike_cells = λ u. (6 + (77 * i + 2)) ∷ (6 + (77 * i + 6)) ∷ (6 + (77 * i + 9)) ∷ listed (item_cell i) 0 (alike_items u)

    pub alike_id : (k : ℕ) → item_of iy i k 0 ≡ item_of ix i k 0
    unfolding item_of
    alike_id k = ap (λ (p : ℕ). pick (ltb i 32) p 0) (go (dec_lt k 32))
      where
        go : Dec (k < 32) → pick (ltb k 32) (pick (ltb 0 2) (get_or iy (6 + (77 * i + (13 + (2 * k + 0)))) 0) 0) 0 ≡ pick (ltb k 32) (pick (ltb 0 2) (get_or ix (6 + (77 * i + (13 + (2 * k + 0)))) 0) 0) 0
        go (yes h) = ap (λ (p : ℕ). pick (ltb k 32) (pick (ltb 0 2) p 0) 0) (a.others _ (id_apart i k h))
        go (no h) = let z : ltb k 32 ≡ false = le-ltb k 32 (omega arith) in pick_false _ _ z ∙ sym (pick_false _ _ z)

    pub alike_name : (k : ℕ) → text_cell s (item_of iy i k 1) ≡ text_cell s (item_of ix i k 1)
    unfolding item_of
    alike_name k = picked_text s (ltb i 32) _ _ (picked_text s (ltb k 32) _ _ (picked_text s (ltb 1 2) _ _ (a.texts (6 + (77 * i + (13 + (2 * k + 1)))))))

    pub alike_item : (k : ℕ) → item_by s (item_of iy i k) ≡ item_by s (item_of ix i k)
    unfolding item_by
    alike_item k = λ u. (id_cell s (alike_id k u), (alike_name k u, tt))

    pub alike_entry : entry_at s iy i ≡ entry_at s ix i
    unfolding entry_at entry_by clocks_by sync_by items_from name_column
    alike_entry =
        let machine : col_of iy i 1 ≡ col_of ix i 1 = alike_column 1 (omega arith) refl in
        let machines : col_of iy i 3 ≡ col_of ix i 3 = alike_column 3 (omega arith) refl in
        let clocks : col_of iy i 4 ≡ col_of ix i 4 = alike_column 4 (omega arith) refl in
        let sync : col_of iy i 7 ≡ col_of ix i 7 = alike_column 7 (omega arith) refl in
        let offset : col_of iy i 11 ≡ col_of ix i 11 = alike_column 11 (omega arith) refl in
        λ u. (
          alike_text 0 u,
          (
            at (machine u) (one (alike_text 2 u, tt)),
            (
              at (machines u) (one (listed (λ k. one (alike_item k u)) 0 (alike_items u))),
              (
                at (clocks u) (one (alike_text 5 u, (alike_text 6 u, (at (sync u) (one (alike_text 8 u, (alike_text 9 u, (alike_text 10 u, tt)))), (offset_cell s (offset u), tt))))),
                tt,
              ),
            ),
          ),
        )

  pub alike_manifest : manifest_of s iy ≡ manifest_of s ix
  unfolding manifest_of trace_at
  alike_manifest =
      let files : get_or iy 0 0 ≡ get_or ix 0 0 = alike_head 0 (omega arith) (λ e. omega arith) in
      let trace : get_or iy 1 0 ≡ get_or ix 1 0 = alike_head 1 (omega arith) (λ e. omega arith) in
      λ u. (
        one (whole (pos 1)),
        (
          at (trace u) (one (a.texts 2 u, (a.texts 3 u, (a.texts 4 u, tt)))),
          (at (files u) (one (listed (λ i. one (alike_entry i u)) 0 (alike_entries u))), tt),
        ),
      )

-- ---- a name's cell is settled

-- positions of one text
same_text : (s : Text) (p q : ℕ) → (p ≡ 0 → ⊥) → (q ≡ 0 → ⊥) → text_at s q ≡ text_at s p → text_cell s q ≡ text_cell s p
unfolding at
same_text s p q n m e = pick_false _ _ (ne_eqb q 0 m) ∙ ap one e ∙ sym (pick_false _ _ (ne_eqb p 0 n))

module _ (s : Text) where
  put_text : (l ix : List ℕ) (c : ℕ) → (get_or ix c 0 ≡ 0 → ⊥) → AllSome l → text_cell s (get_or (set ix c (first_of s l (get_or ix c 0))) c 0) ≡ text_cell s (get_or ix c 0)
  put_text l ix c n a = go (dec_lt c (length ix))
    where
      go : Dec (c < length ix) → text_cell s (get_or (set ix c (first_of s l (get_or ix c 0))) c 0) ≡ text_cell s (get_or ix c 0)
      go (yes h) = ap (text_cell s) (get_or-set_same ix c (first_of s l (get_or ix c 0)) 0 h) ∙ same_text s (get_or ix c 0) (first_of s l (get_or ix c 0)) n (first_is s (get_or ix c 0) n l a) (first_text s (get_or ix c 0) l)
      go (no h) = absurd (n (get_or-eq_default ix 0 (omega arith)))

  pub cell_alike : (c : ℕ) (t : Settled) → NameCell c → AllSome t.firsts → Alike s t.index (cell_settled s c t).index
  cell_alike c t m a = record { others = λ d n. cell_other s c d t (λ e. n (subst NameCell (sym e) m)); texts = λ d. go d (ℕ_discrete d c) }
    where
      go : (d : ℕ) → Dec (d ≡ c) → text_cell s (get_or (cell_settled s c t).index d 0) ≡ text_cell s (get_or t.index d 0)
      go d (yes e) = subst (λ (x : ℕ). text_cell s (get_or (cell_settled s c t).index x 0) ≡ text_cell s (get_or t.index x 0)) (sym e) (cell_case s (λ u. text_cell s (get_or u.index c 0) ≡ text_cell s (get_or t.index c 0)) c t refl (λ n. put_text t.firsts t.index c n a))
      go d (no e) = ap (text_cell s) (cell_other s c d t e)

  pub cells_alike : {l : List ℕ} → All NameCell l → (t : Settled) → AllSome t.firsts → Alike s t.index (cells_settled s l t).index
  unfolding cells_settled
  cells_alike all_none t a = alike_refl s t.index
  cells_alike (all_one {a = c} m r) t a = alike_then (cell_alike c t m a) (cells_alike r (cell_settled s c t) (cell_all_some s c t a))

-- all cells of names
pub settled_alike : (s : Text) (ix : List ℕ) → Alike s ix (settled_in s ix)
unfolding settled_in settled
settled_alike s ix = cells_alike s (name_cells_lem ix) (record { firsts = []; index = ix }) none_some

-- an index with no entries that tells of no machine in `trace_time`
pub settled_nothing : (s : Text) (ix : List ℕ) → entries_in ix ≡ 0 → get_or ix 4 0 ≡ 0 → settled_in s ix ≡ ix
unfolding settled_in settled name_cells listed flat cells_settled
settled_nothing s ix e z =
    let start : Settled = record { firsts = []; index = ix } in
    ap (λ (n : ℕ). (cells_settled s (4 ∷ flat (entry_cells ix) (listed (λ i. i) 0 n)) start).index) e ∙ ap (λ (t : Settled). t.index) (cell_none s 4 start z)
