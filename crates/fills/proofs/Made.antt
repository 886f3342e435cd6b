-- The rows that are made, and the index that they make. Assumes nothing.
use mathlib.Core.Path.{◌≡◌, refl, sym, ap, subst, ◌∙◌}
use mathlib.Core.List.{List, [], ◌∷◌}
use Prim.Native.Nat.{ℕ, ◌+◌, ◌*◌, ◌-◌, ◌≤◌, ◌<◌, min}
use native.Mathlib.Omega.{arith}
use native.Mathlib.Decide.{dec_lt}
use lib.ListN.{length, get_or, replicate, get_or-eq_default}
use Rattle.text.specs.Reading.{Text, pick}
use Rattle.manifest.specs.Names.{bytes}
use Rattle.index.specs.Index.{column, items_of, rows, head_row, entry_row, item_row, block, index_of}
use Rattle.index.proofs.laws.Rows.{rows_length}
use Rattle.index.proofs.laws.Back.{entry_row_length, block_length, index_long}
use Rattle.index.proofs.laws.Put.{Put, put_none, put_before, put_all, put_row, put_same}
use Rattle.fills.specs.laws.Blank.{Blank, blank_same, blank_on, blank_put, put_zeros, put_rest}
use Rattle.fills.specs.laws.Held.{PutHeld}
use Rattle.fills.specs.laws.Walked.{none, RowTo, row_by, entry_by, head_by, EntryHas, HeadHas}

-- of an item, of whose row only the first two are wanted
pub item_made : (s : Text) (p : ℕ) {x : Text} {r : List ℕ} → RowTo s p (bytes "id") (bytes "name") x r → get_or r 0 0 ∷ get_or r 1 0 ∷ [] ≡ item_row s p
unfolding item_row
item_made s p w = λ t. get_or (w.is t) 0 0 ∷ get_or (w.is t) 1 0 ∷ []

-- ---- rows put into the index

rows_long : (s : Text) (m k : ℕ) → length (rows (λ j. item_row s (get_or (items_of s m) j 0)) k) ≡ 2 * k
unfolding item_row
rows_long s m k = rows_length 2 (λ j. item_row s (get_or (items_of s m) j 0)) (λ j. refl) k

blocks_long : (s : Text) (f i : ℕ) → length (rows (λ k. block s (get_or (items_of s f) k 0)) i) ≡ 77 * i
blocks_long s f i = rows_length 77 (λ k. block s (get_or (items_of s f) k 0)) (λ k. block_length s _) i

-- the numbers of no item and of no entry are zeros
no_item : (s : Text) → item_row s 0 ≡ replicate 2 0
unfolding item_row column pick
no_item s = refl

no_entry : (s : Text) → block s 0 ≡ replicate 77 0
unfolding block entry_row item_row rows column items_of pick
no_entry s = refl

-- rows of width w of the first items of the array at m, 32 at most: when these are put, the zeros past them stand there
rest : (s : Text) (m w : ℕ) (g : ℕ → List ℕ) → g 0 ≡ replicate w 0 → {old new : List ℕ} {base n : ℕ} (k : ℕ) → n ≡ min 32 (length (items_of s m)) → base + length (rows (λ j. g (get_or (items_of s m) j 0)) 32) ≤ length old
    → Blank old base → k ≤ n → n ≤ k → Put old base (rows (λ j. g (get_or (items_of s m) j 0)) k) new → Put old base (rows (λ j. g (get_or (items_of s m) j 0)) 32) new
rest s m w g z {old} {new} {base} {n} k en l h a b p =
    let e : k + (32 - k) ≡ 32 = omega arith in
    let c : length (rows (λ j. g (get_or (items_of s m) j 0)) (k + (32 - k))) ≡ length (rows (λ j. g (get_or (items_of s m) j 0)) 32) =
    ap (λ (x : ℕ). length (rows (λ j. g (get_or (items_of s m) j 0)) x)) e in
    put_same (ap (rows (λ j. g (get_or (items_of s m) j 0))) e) (put_rest w (λ j. g (get_or (items_of s m) j 0)) k (32 - k) past h p (omega arith))
  where
    past : (j : ℕ) → k ≤ j → j < k + (32 - k) → g (get_or (items_of s m) j 0) ≡ replicate w 0
    past j c d = ap g (get_or-eq_default (items_of s m) 0 (omega arith)) ∙ z

-- one row more, if it is held
held_more : (w : ℕ) (f : ℕ → List ℕ) → ((i : ℕ) → length (f i) ≡ w) → {old mid new : List ℕ} {base : ℕ} (k : ℕ)
    → Put old base (rows f (min 32 k)) mid → PutHeld k mid (base + w * k) (f k) new → Put old base (rows f (min 32 (k + 1))) new
held_more w f h {old} {mid} {new} {base} k p q = go (dec_lt k 32)
  where
    go : Dec (k < 32) → Put old base (rows f (min 32 (k + 1))) new
    go (yes l) =
        let a : min 32 k ≡ k = omega arith in
        let b : k + 1 ≡ min 32 (k + 1) = omega arith in
        put_same (ap (rows f) b) (put_row [] f k (put_same (ap (rows f) a) p) (ap (λ (x : ℕ). base + x) (sym (rows_length w f h k))) (q.held l))
    go (no l) =
        let a : min 32 k ≡ min 32 (k + 1) = omega arith in
        subst (λ (x : List ℕ). Put old base (rows f (min 32 (k + 1))) x) (sym (q.past l)) (put_same (ap (rows f) a) p)

-- the items of the array at m, from base on
module _ (s : Text) (m base : ℕ) {old : List ℕ} where
  pub items_start : base ≤ length old → Put old base (rows (λ j. item_row s (get_or (items_of s m) j 0)) (min 32 0)) old
  unfolding rows
  items_start h = put_none old base h

  pub items_more : {mid new : List ℕ} (k : ℕ) {p : ℕ} → Put old base (rows (λ j. item_row s (get_or (items_of s m) j 0)) (min 32 k)) mid
      → p ≡ get_or (items_of s m) k 0 → PutHeld k mid (base + 2 * k) (item_row s p) new → Put old base (rows (λ j. item_row s (get_or (items_of s m) j 0)) (min 32 (k + 1))) new
  unfolding item_row
  items_more {mid} {new} k h e q =
      held_more 2 (λ j. item_row s (get_or (items_of s m) j 0)) (λ j. refl) k h (subst (λ (x : ℕ). PutHeld k mid (base + 2 * k) (item_row s x) new) e q)

  pub items_end : {new : List ℕ} (k : ℕ) → length old ≡ 2470 → base + 64 ≤ 2470 → Blank old base → k ≡ length (items_of s m)
      → Put old base (rows (λ j. item_row s (get_or (items_of s m) j 0)) (min 32 k)) new → Put old base (rows (λ j. item_row s (get_or (items_of s m) j 0)) 32) new
  items_end k l f h e p =
      let n : min 32 (length (items_of s m)) ≡ min 32 (length (items_of s m)) = refl in
      rest s m 2 (item_row s) (no_item s) (min 32 k) n (omega (arith, rows_long s m 32)) h (omega arith) (omega arith) p

-- an entry: its items, then its row before them
module _ (s : Text) (p base : ℕ) {o : List ℕ} where
  -- nothing was met
  pub entry_start : length o ≡ 2470 → base + 77 ≤ 2470 → Blank o base → EntryHas s base o none (replicate 13 0) o
  unfolding entry_by row_by column items_of pick
  entry_start l h b = record { is = refl; items = items_end s 0 (base + 13) 0 l (omega arith) (blank_on 13 b) refl (items_start s 0 (base + 13) (omega arith)); fresh = λ _. refl }

  -- all was met
  pub entry_put : {f : Text → ℕ} {row ix new : List ℕ} → EntryHas s base o f row ix → ((n : Text) → f n ≡ column s p n) → Put ix base row new → Put o base (block s p) new
  unfolding block entry_row entry_by row_by
  entry_put {f} {row} {ix} {new} q h w =
      let row_is : row ≡ entry_row s p = q.is ∙ λ i. entry_by s (λ n. h n i) in
      put_before (omega (arith, entry_row_length s p))
      (put_same (λ i. rows (λ k. item_row s (get_or (items_of s (h (bytes "machines") i)) k 0)) 32) q.items) (put_same row_is w)

-- the entries, the items of the array at f
module _ (s : Text) (f : ℕ) {old : List ℕ} where
  pub entries_start : length old ≡ 2470 → Put old 6 (rows (λ k. block s (get_or (items_of s f) k 0)) (min 32 0)) old
  unfolding rows
  entries_start h = put_none old 6 (omega arith)

  pub entries_blank : {mid : List ℕ} (i : ℕ) → Blank old 6 → Put old 6 (rows (λ k. block s (get_or (items_of s f) k 0)) (min 32 i)) mid → i < 32 → Blank mid (6 + 77 * i)
  entries_blank i z h l = blank_same (let a : min 32 i ≡ i = omega arith in ap (λ (n : ℕ). 6 + n) (blocks_long s f (min 32 i) ∙ ap (λ (n : ℕ). 77 * n) a)) (blank_put h z)

  pub entries_more : {mid new : List ℕ} (i : ℕ) {p : ℕ} → Put old 6 (rows (λ k. block s (get_or (items_of s f) k 0)) (min 32 i)) mid → p ≡ get_or (items_of s f) i 0
      → PutHeld i mid (6 + 77 * i) (block s p) new → Put old 6 (rows (λ k. block s (get_or (items_of s f) k 0)) (min 32 (i + 1))) new
  entries_more {mid} {new} i h e q =
      held_more 77 (λ k. block s (get_or (items_of s f) k 0)) (λ k. block_length s _) i h (subst (λ (x : ℕ). PutHeld i mid (6 + 77 * i) (block s x) new) e q)

  pub entries_end : {new : List ℕ} (i : ℕ) → length old ≡ 2470 → Blank old 6 → i ≡ length (items_of s f)
      → Put old 6 (rows (λ k. block s (get_or (items_of s f) k 0)) (min 32 i)) new → Put old 6 (rows (λ k. block s (get_or (items_of s f) k 0)) 32) new
  entries_end i l h e p =
      let n : min 32 (length (items_of s f)) ≡ min 32 (length (items_of s f)) = refl in
      rest s f 77 (block s) (no_entry s) (min 32 i) n (omega (arith, blocks_long s f 32)) h (omega arith) (omega arith) p

-- the index: the entries, then the row of the manifest object before them
module _ (s : Text) (p : ℕ) {o : List ℕ} where
  pub head_start : length o ≡ 2470 → Blank o 0 → HeadHas s o none (replicate 6 0) o
  unfolding head_by column items_of pick
  head_start l b = record { is = refl; entries = entries_end s 0 0 l (blank_on 6 b) refl (entries_start s 0 l); fresh = λ _. refl }

  pub index_all : length o ≡ 2470 → {f : Text → ℕ} {row ix new : List ℕ} → HeadHas s o f row ix → ((n : Text) → f n ≡ column s p n) → Put ix 0 row new → new ≡ index_of s p
  unfolding index_of head_row head_by
  index_all l {f} {row} {ix} {new} q h w =
      let row_is : row ≡ head_row s p = q.is ∙ λ i. head_by s (λ n. h n i) in
      let n : 6 ≡ 0 + length (head_row s p) = refl in
      put_all (put_before n (put_same (λ i. rows (λ k. block s (get_or (items_of s (h (bytes "files") i)) k 0)) 32) q.entries) (put_same row_is w)) (index_long s p ∙ sym l)

  -- no columns: an index of zeros
  pub index_none : length o ≡ 2470 → Blank o 0 → ((n : Text) → 0 ≡ column s p n) → o ≡ index_of s p
  index_none l b h = index_all l (head_start l b) h (put_zeros 6 b (omega arith))
