-- 10 of paths, at an index: the lengths at the positions tell whether a size is broken, in an entry and in `trace_time`. Assumes nothing.
use Rattle.std.specs.Prelude.{◌≡◌, Bool, ◌||◌, ◌&&◌, List, [], ◌++◌, ℕ, ◌≤◌, ◌<◌, eqb, length, get_or}
use Rattle.std.proofs.Math.Path.{refl, sym, ap}
use Rattle.std.proofs.Common.{◌∙◌, eq-eqb, ne_eqb, lt-ltb, le-ltb}
use Rattle.std.proofs.Math.Bool.{true, false, not, or-false}
use Rattle.std.proofs.Math.Dec.{ltb}
use Rattle.text.specs.Reading.{Text, pick}
use Rattle.text.specs.laws.Readers.{pick_true, pick_false}
use Rattle.manifest.specs.View.{Cell, absent, wrong, many, one}
use Rattle.manifest.specs.Rows.{TraceTime, Clocks, SyncTo, trace_file, sync_to, sync_file, the, holds, any, flat, cited_files}
use Rattle.manifest.specs.Rules.{no_path}
use Rattle.index.specs.Index.{text_at, text_cell, at, col_of, sync_by, clocks_by, entry_by, entry_at, trace_at, manifest_of}
use Rattle.listed.specs.laws.Rules.{own_10, cited_10, trace_10}
use Rattle.listed.specs.laws.Parts.{in_entry, size_broken}

-- the position p of a value inside the value at another position
abbrev pub inside : ℕ → ℕ → ℕ
inside outer p = pick (eqb outer 0) 0 p

pub inside_none : {outer : ℕ} (p : ℕ) → outer ≡ 0 → 0 ≡ inside outer p
inside_none p e = sym (pick_true 0 p (eq-eqb _ _ e))

pub inside_some : {outer : ℕ} (p : ℕ) → (outer ≡ 0 → ⊥) → p ≡ inside outer p
inside_some p z = sym (pick_false 0 p (ne_eqb _ _ z))

-- a size at p: there is no text, it is too short, or its length is compared with the most
module _ (p n : ℕ) where
  pub size_none : p ≡ 0 → false ≡ size_broken p n
  unfolding size_broken
  size_none e = sym (ap (λ (b : Bool). not b && (ltb n 1 || ltb 255 n)) (eq-eqb p 0 e))

  module _ (z : p ≡ 0 → ⊥) where
    stands : size_broken p n ≡ (ltb n 1 || ltb 255 n)
    unfolding size_broken
    stands = ap (λ (b : Bool). not b && (ltb n 1 || ltb 255 n)) (ne_eqb p 0 z)

    pub size_short : n < 1 → true ≡ size_broken p n
    size_short h = sym (stands ∙ ap (λ (b : Bool). b || ltb 255 n) (lt-ltb n 1 h))

    pub size_most : 1 ≤ n → ltb 255 n ≡ size_broken p n
    size_most h = sym (stands ∙ ap (λ (b : Bool). b || ltb 255 n) (le-ltb n 1 h))

-- the length of the text at p tells of its size, where it stands and where it may stand
module _ (s : Text) (p : ℕ) {n : ℕ} (en : n ≡ length (text_at s p)) where
  size_here : size_broken p n ≡ holds no_path (text_cell s p)
  unfolding size_broken at holds pick
  size_here = ap (size_broken p) en ∙ go (eqb p 0)
    where
      go : (b : Bool) → (not b && no_path (text_at s p)) ≡ holds no_path (pick b absent (one (text_at s p)))
      go true = refl
      go false = refl

  size_inside : (outer : ℕ) → size_broken (inside outer p) n ≡ holds no_path (text_cell s (inside outer p))
  unfolding size_broken at holds pick
  size_inside outer = go (eqb outer 0)
    where
      go : (b : Bool) → size_broken (pick b 0 p) n ≡ holds no_path (text_cell s (pick b 0 p))
      go true = refl
      go false = size_here

-- ---- in `trace_time`

module _ (s : Text) (ix : List ℕ) where
  trace_are : trace_10 (manifest_of s ix) ≡ holds no_path (text_cell s (inside (get_or ix 1 0) (get_or ix 3 0)))
  unfolding manifest_of at holds pick trace_at
  trace_are = go (eqb (get_or ix 1 0) 0)
    where
      go : (b : Bool) → holds {A = TraceTime} (λ t. holds no_path (trace_file t)) (pick b absent (one (trace_at s ix))) ≡ holds no_path (text_cell s (pick b 0 (get_or ix 3 0)))
      go true = refl
      go false = refl

  -- n is the length of the text at the `file`, and q is where the `file` stands, if there is a `trace_time`
  pub trace_told : {n q : ℕ} {r : Bool} → n ≡ length (text_at s (get_or ix 3 0)) → q ≡ inside (get_or ix 1 0) (get_or ix 3 0) → r ≡ size_broken q n → r ≡ trace_10 (manifest_of s ix)
  trace_told {n} en eq er = er ∙ ap (λ (x : ℕ). size_broken x n) eq ∙ size_inside s (get_or ix 3 0) en (get_or ix 1 0) ∙ sym trace_are

-- ---- in an entry

-- one text of a value
pub one_text : (t : Text → Bool) (c : Cell Text) → any t (the c ++ []) ≡ holds t c
unfolding any the holds
one_text t absent = refl
one_text t wrong = refl
one_text t (many i) = refl
one_text t (one a) = or-false (t a)

-- the text g of the `sync_to` v of the `clocks` c, which stand unless b
module _ (t : Text → Bool) (s : Text) (g : SyncTo → Cell Text) (v : SyncTo) (c : Clocks) (q p : ℕ) (e : sync_to c ≡ at q (one v)) (h : g v ≡ text_cell s p) where
  pub synced : (b : Bool) → any t (flat (λ w. the (g w)) (flat (λ d. the (sync_to d)) (the (pick b absent (one c))))) ≡ holds t (text_cell s (inside (pick b 0 q) p))
  unfolding pick flat the any at holds
  synced true = refl
  synced false = ap (λ (d : Cell SyncTo). any t (flat (λ w. the (g w)) (the d ++ []))) e ∙ go (eqb q 0)
    where
      go : (b : Bool) → any t (flat (λ w. the (g w)) (the (pick b absent (one v)) ++ [])) ≡ holds t (text_cell s (pick b 0 p))
      go true = refl
      go false = one_text t (g v) ∙ ap (holds t) h

module _ (s : Text) (ix : List ℕ) (i : ℕ) where
  -- where the cited file stands, if `clocks` and `sync_to` do
  abbrev file_at : ℕ
  file_at = inside (inside (col_of ix i 4) (col_of ix i 7)) (col_of ix i 8)

  files_are : any no_path (cited_files (entry_at s ix i)) ≡ holds no_path (text_cell s file_at)
  unfolding entry_at entry_by clocks_by sync_by at
  files_are = synced no_path s sync_file (sync_by s (col_of ix i)) (clocks_by s (col_of ix i)) (col_of ix i 7) (col_of ix i 8) refl refl (eqb (col_of ix i 4) 0)

  cited_are : in_entry cited_10 s ix i ≡ holds no_path (text_cell s file_at)
  unfolding cited_10 holds
  cited_are = files_are

  own_is : in_entry own_10 s ix i ≡ holds no_path (text_cell s (col_of ix i 0))
  unfolding own_10 holds entry_at entry_by
  own_is = refl

  -- the code's position of the path, and its length
  pub path_told : {p n : ℕ} → p ≡ col_of ix i 0 → n ≡ length (text_at s p) → {r : Bool} → r ≡ size_broken p n → r ≡ in_entry own_10 s ix i
  path_told {p} ep en er = er ∙ size_here s p en ∙ ap (λ (z : ℕ). holds no_path (text_cell s z)) ep ∙ sym own_is

  -- the code's positions of the cited file, of `clocks` and of `sync_to`; and the length of the file
  module _ {q c v y f n : ℕ} (eq : q ≡ col_of ix i 8) (en : n ≡ length (text_at s q)) (ec : c ≡ col_of ix i 4) (ev : v ≡ col_of ix i 7) (ey : y ≡ inside c v) (ef : f ≡ inside y q) where
    file_is : f ≡ file_at
    file_is = ef ∙ (λ k. inside ((ey ∙ (λ l. inside (ec l) (ev l))) k) (eq k))

    pub file_told : {r : Bool} → r ≡ size_broken f n → r ≡ in_entry cited_10 s ix i
    file_told er =
        er ∙ ap (λ (z : ℕ). size_broken z n) ef ∙ size_inside s q en y ∙ ap (λ (z : ℕ). holds no_path (text_cell s z)) (sym ef ∙ file_is)
        ∙ sym cited_are
