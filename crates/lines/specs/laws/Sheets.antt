-- The records of an accepted sheet by their places. Assumes nothing.
use Rattle.std.specs.Prelude.{◌≡◌, Bool, ℕ}
use Rattle.std.proofs.Common.{sym, ◌∙◌, arith}
use Rattle.std.proofs.Math.Path.{ap}
use Rattle.std.proofs.Math.Bool.{true, false}
use mathlib.Core.List.{List}
use Rattle.text.specs.Reading.{pick}
use Rattle.records.specs.Layout.{Record}
use Rattle.sheet.specs.Twice.{again}
use Rattle.sheet.specs.Sheets.{Out, refused, records, table_of, size_wrong, sheet_of}
use Rattle.sheet.specs.Accepted.{Accepted, accepted}
use Rattle.merged.specs.Merged.{once, records_of}
use Rattle.merged.proofs.laws.Sheets.{told, read_told}

never : {k : ℕ} {rs : List Record} → refused k ≡ records rs → ⊥
never e = let z : ◌≡◌ {A = ℕ} 0 1 = cc in omega arith

same_records : {rs qs : List Record} → records rs ≡ records qs → rs ≡ qs
same_records e = cc

module _ (b : List ℕ) (rs : List Record) (e : records_of b ≡ records rs) where
  pub sheet_is : sheet_of b ≡ records rs
  unfolding records_of once pick
  sheet_is = go (size_wrong b) (sheet_of b) e
    where
      last : (qs : List Record) (c : Bool) → pick c (refused 31) (records qs) ≡ records rs → records qs ≡ records rs
      last qs true q = absurd (never q)
      last qs false q = q

      go : (c : Bool) (o : Out) → pick c (refused 25) (once o) ≡ records rs → o ≡ records rs
      go true o q = absurd (never q)
      go false (refused k) q = absurd (never q)
      go false (records qs) q = last qs (again qs) q

  pub accepted_is : Accepted b (table_of rs)
  unfolding told
  accepted_is = accepted b (table_of rs) (read_told b ∙ ap told e)

  pub same_rs : accepted_is.rs ≡ rs
  same_rs = same_records (sym accepted_is.sheet ∙ sheet_is)
