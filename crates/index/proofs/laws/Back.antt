-- An index read back: what it stands for is what is seen by positions. Assumes nothing.
use Rattle.std.specs.Prelude.{◌≡◌, refl, Bool, true, false, List, [], map, eqb, ltb, pos, get_or}
use Rattle.std.proofs.Math.Path.{ap}
use Rattle.std.proofs.Common.{◌∙◌, length-append}
use Prim.Native.Nat.{ℕ, ◌+◌, ◌*◌, ◌≤◌, ◌<◌, min}
use native.Mathlib.Omega.{arith}
use Rattle.std.proofs.Math.ListN.{length, get_or-append}
use Rattle.std.proofs.Math.Seq.{get_or-append-add}
use borrow.Author.Tests.{lt-ltb, ltb-true}
use Rattle.text.specs.Reading.{Text, pick}
use Rattle.text.specs.laws.Readers.{pick_true}
use Rattle.values.specs.Integer.{whole}
use Rattle.places.specs.Places.{items_at}
use Rattle.manifest.specs.Names.{bytes}
use Rattle.manifest.specs.Kinds.{object, entry, item, manifest, trace_time_fields}
use Rattle.manifest.specs.View.{one}
use Rattle.index.specs.Index.{column, items_of, rows, head_row, entry_row, item_row, block, index_of, col_of, item_of, entries_in, items_in, at, listed, item_by, sync_by, clocks_by, entry_by, items_from, entry_at, trace_at, manifest_of}
use Rattle.index.proofs.laws.Rows.{rows_length, rows_at, listed_map}
use Rattle.index.proofs.laws.Seen.{seen, seen_row}

-- the items of `files`, and of the `machines` of the entry at p
abbrev pub files_of : Text → ℕ → List ℕ
files_of s v = items_of s (column s v (bytes "files"))

abbrev pub machines_of : Text → ℕ → List ℕ
machines_of s p = items_of s (column s p (bytes "machines"))

item_row_length : (s : Text) (p : ℕ) → length (item_row s p) ≡ 2
unfolding item_row
item_row_length s p = refl

pub entry_row_length : (s : Text) (p : ℕ) → length (entry_row s p) ≡ 13
unfolding entry_row
entry_row_length s p = refl

pub items_length : (s : Text) (p n : ℕ) → length (rows (λ k. item_row s (get_or (machines_of s p) k 0)) n) ≡ 2 * n
items_length s p n = rows_length 2 (λ k. item_row s (get_or (machines_of s p) k 0)) (λ k. item_row_length s _) n

pub block_length : (s : Text) (p : ℕ) → length (block s p) ≡ 77
unfolding block
block_length s p = length-append (entry_row s p) _ ∙ (λ t. entry_row_length s p t + items_length s p 32 t)

-- so the index has 2470 numbers
pub index_long : (s : Text) (v : ℕ) → length (index_of s v) ≡ 2470
unfolding index_of head_row
index_long s v =
    length-append (head_row s v) (rows (λ k. block s (get_or (files_of s v) k 0)) 32)
    ∙ ap (λ (n : ℕ). 6 + n) (rows_length 77 (λ k. block s (get_or (files_of s v) k 0)) (λ k. block_length s _) 32)

-- at most 32 items are counted as they are, and without an array there are none
counted : (s : Text) (p : ℕ) → length (items_of s p) ≤ 32 → pick (eqb p 0) 0 (min 32 (length (items_of s p))) ≡ length (items_of s p)
unfolding items_of pick
counted s p = go (eqb p 0) (items_at s p)
  where
    go : (b : Bool) (l : List ℕ) → length (pick b [] l) ≤ 32 → pick b 0 (min 32 (length (pick b [] l))) ≡ length (pick b [] l)
    go true l h = refl
    go false l h = omega arith

-- one condition, two values
under : (b : Bool) {x y : ℕ} → (b ≡ true → x ≡ y) → pick b x 0 ≡ pick b y 0
unfolding pick
under true h = h refl
under false h = refl

module _ (s : Text) (v : ℕ) where
  -- in the block of entry i
  module _ (i : ℕ) (small : i < 32) where
    in_block : (j : ℕ) → j < 77 → get_or (index_of s v) (6 + (77 * i + j)) 0 ≡ get_or (block s (get_or (files_of s v) i 0)) j 0
    unfolding index_of head_row
    in_block j h = get_or-append-add (head_row s v) (rows (λ k. block s (get_or (files_of s v) k 0)) 32) (77 * i + j) 0 ∙ rows_at 77 (λ k. block s (get_or (files_of s v) k 0)) (λ k. block_length s _) 32 i j small h

    pub in_row : (j : ℕ) → j < 13 → get_or (index_of s v) (6 + (77 * i + j)) 0 ≡ get_or (entry_row s (get_or (files_of s v) i 0)) j 0
    unfolding block
    in_row j h =
        in_block j (omega arith)
        ∙ get_or-append (entry_row s (get_or (files_of s v) i 0)) _ 0 j (omega (arith, entry_row_length s (get_or (files_of s v) i 0)))

    in_item : (k j : ℕ) → k < 32 → j < 2 → get_or (index_of s v) (6 + (77 * i + (13 + (2 * k + j)))) 0 ≡ get_or (item_row s (get_or (machines_of s (get_or (files_of s v) i 0)) k 0)) j 0
    unfolding block entry_row
    in_item k j a b =
        in_block (13 + (2 * k + j)) (omega arith)
        ∙ get_or-append-add (entry_row s (get_or (files_of s v) i 0)) (rows (λ m. item_row s (get_or (machines_of s (get_or (files_of s v) i 0)) m 0)) 32) (2 * k + j) 0
        ∙ rows_at 2 (λ m. item_row s (get_or (machines_of s (get_or (files_of s v) i 0)) m 0)) (λ m. item_row_length s _) 32 k j a b

    cols_are : col_of (index_of s v) i ≡ (λ j. pick (ltb j 12) (get_or (entry_row s (get_or (files_of s v) i 0)) j 0) 0)
    unfolding col_of
    cols_are = λ t j. each j t
      where
        each : (j : ℕ) → pick (ltb i 32) (pick (ltb j 12) (get_or (index_of s v) (6 + (77 * i + j)) 0) 0) 0 ≡ pick (ltb j 12) (get_or (entry_row s (get_or (files_of s v) i 0)) j 0) 0
        each j = pick_true _ _ (lt-ltb i 32 small) ∙ under (ltb j 12) (λ e. in_row j (omega (arith, ltb-true j 12 e)))

    item_cols : (k : ℕ) → k < 32 → item_of (index_of s v) i k ≡ (λ j. pick (ltb j 2) (get_or (item_row s (get_or (machines_of s (get_or (files_of s v) i 0)) k 0)) j 0) 0)
    unfolding item_of
    item_cols k h = λ t j. each j t
      where
        each : (j : ℕ) → pick (ltb i 32) (pick (ltb k 32) (pick (ltb j 2) (get_or (index_of s v) (6 + (77 * i + (13 + (2 * k + j)))) 0) 0) 0) 0 ≡ pick (ltb j 2) (get_or (item_row s (get_or (machines_of s (get_or (files_of s v) i 0)) k 0)) j 0) 0
        each j = pick_true _ _ (lt-ltb i 32 small) ∙ (pick_true _ _ (lt-ltb k 32 h) ∙ under (ltb j 2) (λ e. in_item k j h (ltb-true j 2 e)))

    -- the items, where there are at most 32
    module _ (few : length (machines_of s (get_or (files_of s v) i 0)) ≤ 32) where
      items_count : items_in (index_of s v) i ≡ length (machines_of s (get_or (files_of s v) i 0))
      unfolding items_in entry_row pick column
      items_count =
          (λ t. pick (eqb (cols_are t 3) 0) 0 (min 32 (in_row 12 (omega arith) t)))
          ∙ counted s (column s (get_or (files_of s v) i 0) (bytes "machines")) few

      items_back : items_from s (index_of s v) i ≡ map (λ q. seen (object item) s q) (machines_of s (get_or (files_of s v) i 0))
      unfolding items_from seen item_by item_row pick
      items_back =
          ap (listed (λ k. one (item_by s (item_of (index_of s v) i k))) 0) items_count
          ∙ listed_map (λ k. one (item_by s (item_of (index_of s v) i k))) (λ q. seen (object item) s q) (machines_of s (get_or (files_of s v) i 0)) 0 each
        where
          each : (k : ℕ) → k < length (machines_of s (get_or (files_of s v) i 0)) → one (item_by s (item_of (index_of s v) i (0 + k))) ≡ seen (object item) s (get_or (machines_of s (get_or (files_of s v) i 0)) k 0)
          each k h =
              (let z : 0 + k ≡ k = omega arith in ap (λ (m : ℕ). one (item_by s (item_of (index_of s v) i m))) z)
              ∙ ap (λ (c : ℕ → ℕ). one (item_by s c)) (item_cols k (omega arith))

      entry_back : entry_at s (index_of s v) i ≡ seen_row entry s (get_or (files_of s v) i 0)
      unfolding entry_at entry_by clocks_by sync_by seen entry_row pick
      entry_back = (λ t. entry_by s (cols_are t) (items_back t))

  -- the whole, where the index holds all
  module _ (few : length (files_of s v) ≤ 32) (each-few : (i : ℕ) → i < length (files_of s v) → length (machines_of s (get_or (files_of s v) i 0)) ≤ 32) where
    entries_back : listed (λ i. one (entry_at s (index_of s v) i)) 0 (entries_in (index_of s v)) ≡ map (λ q. seen (object entry) s q) (files_of s v)
    unfolding entries_in index_of head_row seen
    entries_back =
        ap (listed (λ i. one (entry_at s (index_of s v) i)) 0) (counted s (column s v (bytes "files")) few)
        ∙ listed_map (λ i. one (entry_at s (index_of s v) i)) (λ q. seen (object entry) s q) (files_of s v) 0 each
      where
        each : (k : ℕ) → k < length (files_of s v) → one (entry_at s (index_of s v) (0 + k)) ≡ seen (object entry) s (get_or (files_of s v) k 0)
        each k h =
            (let z : 0 + k ≡ k = omega arith in ap (λ (m : ℕ). one (entry_at s (index_of s v) m)) z)
            ∙ ap one (entry_back k (omega arith) (each-few k h))

    pub back : manifest_of s (index_of s v) ≡ (one (whole (pos 1)), (seen_row manifest s v).1)
    unfolding manifest_of index_of head_row trace_at seen
    back = λ t. (one (whole (pos 1)), (at (column s v (bytes "trace_time")) (one (seen_row trace_time_fields s (column s v (bytes "trace_time")))), (at (column s v (bytes "files")) (one (entries_back t)), tt)))
