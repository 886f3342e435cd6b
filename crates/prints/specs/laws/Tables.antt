-- A table of 32 numbers that a loop fills, one for each entry; and the table of the prints of the entries' paths. Assumes nothing.
use Rattle.std.specs.Prelude.{◌≡◌, List, ℕ, zero, suc, ◌+◌, ◌≤◌, ◌<◌, length, get_or, set}
use Rattle.std.proofs.Common.{sym, ap, ◌∙◌, arith, length-set, get_or-set_same, get_or-set_other, ext_get_or}
use Rattle.std.proofs.Math.Decide.{ℕ_discrete}
use Rattle.text.specs.Reading.{Text}
use Rattle.index.specs.Index.{col_of, listed}
use Rattle.index.proofs.laws.Entries.{listed_length}
use Rattle.prints.specs.Prints.{print_at, path_print, path_prints}

-- f 0, f 1, .. are the first n numbers of a table
pub record Tabled (f : ℕ → ℕ) (table : List ℕ) (n : ℕ) : Type 0 where
  pub long : length table ≡ 32
  pub each : (j : ℕ) → j < n → get_or table j 0 ≡ f j

-- number j of those from i on
listed_at : (f : ℕ → ℕ) (i n j : ℕ) → j < n → get_or (listed f i n) j 0 ≡ f (i + j)
unfolding listed
listed_at f i n zero h = first n h
  where
    first : (m : ℕ) → 0 < m → get_or (listed f i m) 0 0 ≡ f (i + 0)
    first zero l = absurd (omega arith)
    first (suc m) l = let e : i ≡ i + 0 = omega arith in ap f e
listed_at f i zero (suc j) h = absurd (omega arith)
listed_at f i (suc n) (suc j) h = let e : suc i + j ≡ i + suc j = omega arith in listed_at f (suc i) n j (omega arith) ∙ ap f e

module _ (f : ℕ → ℕ) where
  -- what stands in a whole table
  pub table_at : (i : ℕ) → i < 32 → get_or (listed f 0 32) i 0 ≡ f i
  table_at i h = let e : 0 + i ≡ i = omega arith in listed_at f 0 32 i h ∙ ap f e

  -- nothing is in; one number more; all are
  pub tabled_none : {table : List ℕ} → length table ≡ 32 → Tabled f table 0
  tabled_none e = record { long = e; each = λ j h. absurd (omega arith) }

  pub tabled_more : {table : List ℕ} {n v : ℕ} → n < 32 → Tabled f table n → v ≡ f n → Tabled f (set table n v) (n + 1)
  tabled_more {table} {n} {v} h a e = record { long = length-set table n v ∙ a.long; each = λ j b. go j b (ℕ_discrete j n) }
    where
      go : (j : ℕ) → j < n + 1 → Dec (j ≡ n) → get_or (set table n v) j 0 ≡ f j
      go j b (yes q) =
          let m : n < length table = omega (arith, a.long) in
          ap (λ (x : ℕ). get_or (set table n v) x 0) q ∙ get_or-set_same table n v 0 m ∙ e ∙ ap f (sym q)
      go j b (no q) = let c : j < n = omega arith in get_or-set_other table n j v 0 q ∙ a.each j c

  pub tabled_all : {table : List ℕ} {n : ℕ} → 32 ≤ n → Tabled f table n → table ≡ listed f 0 32
  tabled_all {table} {n} h a = ext_get_or 0 table (listed f 0 32) (a.long ∙ sym (listed_length f 0 32)) (λ j b. let l : j < 32 = omega (arith, a.long) in a.each j (omega arith) ∙ sym (table_at j l))

-- ---- the prints of the paths

pub print_of : (s : Text) (ix : List ℕ) {prints : List ℕ} → prints ≡ path_prints s ix → (i : ℕ) → i < 32 → get_or prints i 0 ≡ print_at s (col_of ix i 0)
unfolding path_prints
print_of s ix e i h = ap (λ (l : List ℕ). get_or l i 0) e ∙ table_at (path_print s ix) i h
