-- The rows of the table: each has its width, so that number j of row i stands at a known place. Assumes nothing.
use Rattle.std.specs.Prelude.{◌≡◌, refl, Bool, true, false, List, [], ◌++◌, ltb, length, get_or, take, drop, replicate}
use Rattle.std.proofs.Common.{sym, ◌∙◌, arith, length-take-le, get_or-append-add, get_or-take, lt-ltb}
use Rattle.std.proofs.Math.Path.{ap}
use Prim.Native.Nat.{ℕ, suc, ◌+◌, ◌*◌, ◌≤◌, ◌<◌}
use Rattle.std.proofs.lemmas.List.{length-replicate}
use Rattle.std.proofs.Math.ListN.{get_or-append}
use Rattle.text.specs.Reading.{Text, pick}
use Rattle.text.specs.laws.Readers.{pick_true}
use Rattle.sheet.specs.declared.Table.{Table}
use Rattle.index.specs.Index.{rows}
use Rattle.index.proofs.laws.Rows.{rows_length}
use Rattle.index.proofs.laws.Put.{Put, put_none, put_row, put_same}
use Rattle.meant.specs.declared.Owned.{Owned}
use Rattle.meant.specs.declared.Owned.TheVariants.{Nobody, Whole, Split}
use Rattle.meant.specs.declared.Part.{Part}
use Rattle.meant.specs.declared.Part.TheVariants.{Undeclared, Of}
use Rattle.gather.specs.Gathered.{part_code, owned_code, row_in, file_row, source_row}

-- ---- widths

row_length : (n k : ℕ) (row : ℕ → List ℕ) → ((i : ℕ) → length (row i) ≡ k) → (i : ℕ) → length (row_in n k row i) ≡ k
unfolding row_in pick
row_length n k row h i = go (ltb i n)
  where
    go : (b : Bool) → length (pick b (row i) (replicate k 0)) ≡ k
    go true = h i
    go false = length-replicate k 0

pub owned_length : (o : Owned) (p : Part) → length (owned_code o p) ≡ 2
unfolding owned_code part_code
owned_length Nobody p = refl
owned_length (Whole m) p = refl
owned_length Split Undeclared = refl
owned_length Split (Of m) = refl

module _ (s : Text) (ix names b : List ℕ) (t : Table) where
  pub file_length : (i : ℕ) → length (row_in t.files 6 (file_row s ix names b t) i) ≡ 6
  unfolding file_row
  file_length i = row_length t.files 6 (file_row s ix names b t) (λ k. refl) i

  pub source_length : (i : ℕ) → length (row_in t.sources.count 4 (source_row s ix names b t) i) ≡ 4
  unfolding source_row
  source_length i = row_length t.sources.count 4 (source_row s ix names b t) (λ k. ap (λ (n : ℕ). suc (suc n)) (owned_length _ _)) i

-- a row that is there
pub row_here : (n k : ℕ) (row : ℕ → List ℕ) (i : ℕ) → i < n → row_in n k row i ≡ row i
unfolding row_in
row_here n k row i h = pick_true _ _ (lt-ltb i n h)

-- ---- what was put is there, and what stands before it is as it was
module _ {old new : List ℕ} {base : ℕ} {w : List ℕ} (p : Put old base w new) where
  pub put_at : (k : ℕ) → k < length w → get_or new (base + k) 0 ≡ get_or w k 0
  put_at k h =
      let l : length (take base old) ≡ base = length-take-le base old (omega (arith, p.fits)) in
      ap (λ (x : List ℕ). get_or x (base + k) 0) p.is
      ∙ ap (λ (n : ℕ). get_or (take base old ++ (w ++ drop (base + length w) old)) (n + k) 0) (sym l)
      ∙ get_or-append-add (take base old) (w ++ drop (base + length w) old) k 0
      ∙ get_or-append w (drop (base + length w) old) 0 k h

  pub put_before : (k : ℕ) → k < base → get_or new k 0 ≡ get_or old k 0
  put_before k h =
      let l : length (take base old) ≡ base = length-take-le base old (omega (arith, p.fits)) in
      ap (λ (x : List ℕ). get_or x k 0) p.is
      ∙ get_or-append (take base old) (w ++ drop (base + length w) old) 0 k (omega arith)
      ∙ get_or-take base old k 0 h

-- ---- rows that are put in one after the other
module _ (w : ℕ) (f : ℕ → List ℕ) (h : (i : ℕ) → length (f i) ≡ w) (base : ℕ) {old : List ℕ} where
  pub rows_start : base ≤ length old → Put old base (rows f 0) old
  unfolding rows
  rows_start l = put_none old base l

  pub rows_more : {mid new : List ℕ} (k : ℕ) → Put old base (rows f k) mid → {row : List ℕ} → row ≡ f k → Put mid (base + w * k) row new → Put old base (rows f (k + 1)) new
  rows_more k p e q = put_row [] f k p (ap (λ (n : ℕ). base + n) (sym (rows_length w f h k))) (put_same e q)

  pub rows_end : {new : List ℕ} (k : ℕ) → k ≤ 32 → 32 ≤ k → Put old base (rows f k) new → Put old base (rows f 32) new
  rows_end k a b p = let e : k ≡ 32 = omega arith in put_same (ap (rows f) e) p
