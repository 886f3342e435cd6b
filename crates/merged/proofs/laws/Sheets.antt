-- The sheet's reader and the sheet's records say the same. Assumes nothing.
use Rattle.std.specs.Prelude.{◌≡◌, refl, Bool, true, false, List, ℕ}
use Rattle.std.proofs.Common.{sym, ap, ◌∙◌, arith}
use Rattle.text.specs.Reading.{pick}
use Rattle.records.specs.Layout.{Record}
use Rattle.records.specs.Layout as layout
use Rattle.sheet.specs.Twice.{again}
use Rattle.sheet.specs.Sheets.{Out, refused, records, table_of, judged, size_wrong, sheet_of, read_of}
use Rattle.sheet.specs.declared.Table.{Table}
use Rattle.sheet.specs.Sheets.{Sheet, Refused, Listed}
use Rattle.merged.specs.Merged.{once, records_of}

-- what reading gives for records
unfoldable pub told : Out → Sheet
told (refused k) = Refused k
told (records rs) = Listed (table_of rs)

pub read_told : (b : List ℕ) → read_of b ≡ told (records_of b)
unfolding read_of records_of judged once told pick layout.pick
read_told b = go (size_wrong b) (sheet_of b)
  where
    last : (rs : List Record) (c : Bool) → layout.pick c (Refused 31) (Listed (table_of rs)) ≡ told (pick c (refused 31) (records rs))
    last rs true = refl
    last rs false = refl

    go : (c : Bool) (o : Out) → layout.pick c (Refused 25) (judged o) ≡ told (pick c (refused 25) (once o))
    go true o = refl
    go false (refused k) = refl
    go false (records rs) = last rs (again rs)

never : {k : ℕ} {t : Table} → Refused k ≡ Listed t → ⊥
never e = let z : ◌≡◌ {A = ℕ} 0 1 = cc in omega arith

same_number : {k n : ℕ} → Refused k ≡ Refused n → k ≡ n
same_number e = cc

-- a refused sheet has no records, and has that number
pub refused_so : (b : List ℕ) {k : ℕ} → read_of b ≡ Refused k → records_of b ≡ refused k
unfolding told
refused_so b {k} e = go (records_of b) refl (sym (read_told b) ∙ e)
  where
    go : (o : Out) → records_of b ≡ o → told o ≡ Refused k → records_of b ≡ refused k
    go (refused n) q h = q ∙ ap refused (same_number h)
    go (records rs) q h = absurd (never (sym h))

-- a listed sheet has records, which its table counts and places
pub record Listing (b : List ℕ) (t : Table) : Type 0 where
  pub rs : List Record
  pub sheet : records_of b ≡ records rs
  pub table : t ≡ table_of rs

same_table : {t u : Table} → Listed t ≡ Listed u → t ≡ u
same_table e = cc

pub listed_so : (b : List ℕ) {t : Table} → read_of b ≡ Listed t → Listing b t
unfolding told
listed_so b {t} e = go (records_of b) refl (sym (read_told b) ∙ e)
  where
    go : (o : Out) → records_of b ≡ o → told o ≡ Listed t → Listing b t
    go (refused n) q h = absurd (never h)
    go (records rs) q h = record { rs = rs; sheet = q; table = sym (same_table h) }
