-- The lines of the table that the index is made by, one by one: each with its object, its name, its column in the object's row, and the kind of its value.
-- Assumes nothing.
use mathlib.Core.Path.{◌≡◌, refl, sym, ap, subst, ◌∙◌}
use mathlib.Core.List.{List}
use Prim.Native.Nat.{ℕ, ◌≤◌, ◌<◌}
use native.Mathlib.Omega.{arith}
use lib.ListN.{get_or}
use Rattle.text.specs.Reading.{Text, pick}
use Rattle.grammar.specs.Tree.{Tree}
use Rattle.values.specs.Stands.{Stands}
use Rattle.manifest.specs.Names.{bytes}
use Rattle.table.specs.Table.{line_at, lines_before, first_line}
use Rattle.index.specs.Index.{column}
use Rattle.survey.specs.laws.Walked.{Fine, slot, Row}
use Rattle.survey.proofs.Objects.{row_column}

pub record Known (j o : ℕ) (n : Text) (k m : ℕ) : Type 0 where
  pub small : j < 20
  pub place : (line_at j).place ≡ o
  pub name : (line_at j).name ≡ n
  pub column : slot o j ≡ k
  pub kind : (line_at j).kind ≡ m

pub line_0 : Known 0 3 (bytes "file") 1 0
unfolding line_at first_line lines_before pick
line_0 = record { small = omega arith; place = refl; name = refl; column = refl; kind = refl }

pub line_1 : Known 1 3 (bytes "machine") 2 0
unfolding line_at first_line lines_before pick
line_1 = record { small = omega arith; place = refl; name = refl; column = refl; kind = refl }

pub line_2 : Known 2 3 (bytes "clock") 3 0
unfolding line_at first_line lines_before pick
line_2 = record { small = omega arith; place = refl; name = refl; column = refl; kind = refl }

pub line_3 : Known 3 4 (bytes "clock") 1 0
unfolding line_at first_line lines_before pick
line_3 = record { small = omega arith; place = refl; name = refl; column = refl; kind = refl }

pub line_4 : Known 4 4 (bytes "machine") 2 0
unfolding line_at first_line lines_before pick
line_4 = record { small = omega arith; place = refl; name = refl; column = refl; kind = refl }

pub line_5 : Known 5 4 (bytes "sync_to") 3 3
unfolding line_at first_line lines_before pick
line_5 = record { small = omega arith; place = refl; name = refl; column = refl; kind = refl }

pub line_6 : Known 6 4 (bytes "offset_ns") 4 2
unfolding line_at first_line lines_before pick
line_6 = record { small = omega arith; place = refl; name = refl; column = refl; kind = refl }

pub line_7 : Known 7 5 (bytes "id") 1 1
unfolding line_at first_line lines_before pick
line_7 = record { small = omega arith; place = refl; name = refl; column = refl; kind = refl }

pub line_8 : Known 8 5 (bytes "name") 2 0
unfolding line_at first_line lines_before pick
line_8 = record { small = omega arith; place = refl; name = refl; column = refl; kind = refl }

pub line_9 : Known 9 6 (bytes "name") 1 0
unfolding line_at first_line lines_before pick
line_9 = record { small = omega arith; place = refl; name = refl; column = refl; kind = refl }

pub line_10 : Known 10 8 (bytes "path") 1 0
unfolding line_at first_line lines_before pick
line_10 = record { small = omega arith; place = refl; name = refl; column = refl; kind = refl }

pub line_11 : Known 11 8 (bytes "machine") 2 6
unfolding line_at first_line lines_before pick
line_11 = record { small = omega arith; place = refl; name = refl; column = refl; kind = refl }

pub line_12 : Known 12 8 (bytes "machines") 3 7
unfolding line_at first_line lines_before pick
line_12 = record { small = omega arith; place = refl; name = refl; column = refl; kind = refl }

pub line_13 : Known 13 8 (bytes "clocks") 4 4
unfolding line_at first_line lines_before pick
line_13 = record { small = omega arith; place = refl; name = refl; column = refl; kind = refl }

pub line_14 : Known 14 10 (bytes "clock") 1 0
unfolding line_at first_line lines_before pick
line_14 = record { small = omega arith; place = refl; name = refl; column = refl; kind = refl }

pub line_15 : Known 15 10 (bytes "file") 2 0
unfolding line_at first_line lines_before pick
line_15 = record { small = omega arith; place = refl; name = refl; column = refl; kind = refl }

pub line_16 : Known 16 10 (bytes "machine") 3 0
unfolding line_at first_line lines_before pick
line_16 = record { small = omega arith; place = refl; name = refl; column = refl; kind = refl }

pub line_17 : Known 17 11 (bytes "version") 1 2
unfolding line_at first_line lines_before pick
line_17 = record { small = omega arith; place = refl; name = refl; column = refl; kind = refl }

pub line_18 : Known 18 11 (bytes "trace_time") 2 10
unfolding line_at first_line lines_before pick
line_18 = record { small = omega arith; place = refl; name = refl; column = refl; kind = refl }

pub line_19 : Known 19 11 (bytes "files") 3 9
unfolding line_at first_line lines_before pick
line_19 = record { small = omega arith; place = refl; name = refl; column = refl; kind = refl }

-- its column in the row of an object that stands at p
pub known_column : {j o k m : ℕ} {n : Text} → Known j o n k m → (l : ℕ) → l ≤ 15 → (s : Text) (p : ℕ) → (p ≡ 0 → ⊥) → {row : List ℕ} → Row o l s p row → column s p n ≡ get_or row k 0
known_column {j} {o} a l low s p past {row} w =
    ap (column s p) (sym a.name) ∙ row_column o l s p w low past j a.small a.place ∙ ap (λ (x : ℕ). get_or row x 0) a.column

-- the value of line j, which is this one
pub known_fine : {i o k m : ℕ} {n : Text} → Known i o n k m → (s : Text) (row : List ℕ) {t : Tree} → ((get_or row k 0 ≡ 0 → ⊥) → Stands s (get_or row k 0) t → Fine m t) → (j : ℕ) → j ≡ i → (get_or row (slot o j) 0 ≡ 0 → ⊥) → Stands s (get_or row (slot o j) 0) t → Fine (line_at j).kind t
known_fine {o = o} a s row {t} f j e n h =
    let c : slot o j ≡ _ = ap (slot o) e ∙ a.column in
    let k : (line_at j).kind ≡ _ = ap (λ (x : ℕ). (line_at x).kind) e ∙ a.kind in
    subst (λ (x : ℕ). Fine x t) (sym k) (f (λ z. n (ap (λ (x : ℕ). get_or row x 0) c ∙ z)) (subst (λ (x : ℕ). Stands s (get_or row x 0) t) c h))
