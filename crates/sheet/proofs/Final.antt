-- `read` in the code's own values. Assumes nothing.
use mathlib.Core.Path.{◌≡◌, refl, sym, subst, ◌∙◌}
use mathlib.Core.Bool.{Bool, true, false, ◌||◌}
use mathlib.Core.List.{List}
use Prim.Native.Nat.{ℕ, ◌+◌, ◌*◌, ◌<◌, ◌≤◌}
use native.Mathlib.Omega.{arith}
use lib.ListN.{length}
use lib.Dec.{eqb}
use borrow.Author.Tests.{ne_eqb, lt-ltb, le-ltb, eqb-false}
use Rattle.records.specs.Layout.{Record, pick}
use Rattle.records.specs.Readers.{far}
use Rattle.records.specs.States.{start, Fit}
use Rattle.records.specs.laws.States.{fit_start}
use Rattle.records.specs.declared.State.{State}
use Rattle.sheet.specs.Twice.{repeats, again, same_bytes, same_source}
use Rattle.sheet.specs.Sheets.{Out, refused, records, sheet_of, judged, read_of, Refused, Listed}
use Rattle.sheet.specs.Places.{paths_from, sources_from}
use Rattle.sheet.specs.laws.Ended.{Ended, at_end, at_fault, Held, ended_of, table_at}
use Rattle.sheet.specs.laws.Reads.{Reads, Both, bad, good, walks, fit_end}
use Rattle.sheet.specs.laws.Listed.{Lies, lies, held, table_is}
use Rattle.sheet.specs.declared.Table.{Table}

-- a test that the sheet is empty, and what it says where it fails
pub not_empty : (s : List ℕ) {b : Bool} → b ≡ eqb (length s) 0 → b ≡ false → length s ≡ 0 → ⊥
not_empty s e h = eqb-false (length s) 0 (sym e ∙ h)

pub read_empty : (s : List ℕ) {b : Bool} → b ≡ eqb (length s) 0 → b ≡ true → Refused 25 ≡ read_of s
unfolding read_of pick
read_empty s e h = rw (sym e ∙ h)

pub read_long : (s : List ℕ) {b : Bool} → b ≡ eqb (length s) 0 → b ≡ false → 65536 < length s → Refused 25 ≡ read_of s
unfolding read_of pick
read_long s e h l = rw (sym e ∙ h, lt-ltb 65536 (length s) l)

read_fits : (s : List ℕ) → (length s ≡ 0 → ⊥) → length s ≤ 65536 → read_of s ≡ judged (sheet_of s)
unfolding read_of pick
read_fits s z h = simp (ne_eqb (length s) 0 z, le-ltb 65536 (length s) h)

on_bad : {s : List ℕ} {st : State} {o : Out} {e : Ended} {k : ℕ} → Both s st o e → at_fault k ≡ e → o ≡ refused k
on_bad (bad k) h = cc
on_bad (good rd) h = let z : ◌≡◌ {A = ℕ} 0 1 = cc in absurd (omega arith)

on_good : {s : List ℕ} {st : State} {o : Out} {e : Ended} {n : State} → Both s st o e → at_end n ≡ e → (rs : List Record) × (o ≡ records rs) × Reads s st rs n
on_good (bad k) h = let z : ◌≡◌ {A = ℕ} 0 1 = cc in absurd (omega arith)
on_good {s} {st} {n = n} (good {rs} {e} rd) h = let q : e ≡ n = cc in (rs, refl, subst (λ (m : State). Reads s st rs m) q rd)

module _ (s : List ℕ) (some : length s ≡ 0 → ⊥) (short : length s ≤ 65536) where
  pub read_bad : {k : ℕ} → at_fault k ≡ ended_of s → Refused k ≡ read_of s
  unfolding judged
  read_bad e = rw (read_fits s some short, on_bad (walks s) e)

  module _ {st : State} (e : at_end st ≡ ended_of s) where
    found : (rs : List Record) × (sheet_of s ≡ records rs) × Reads s start rs st
    found = on_good (walks s) e

    pub end_fit : Fit s st
    end_fit = fit_end found.2 (fit_start (omega arith))

    pub end_held : Held st
    end_held = held found.2 end_fit

    pub close : (table_at st).sources.at + 40 * st.sources < far
    close = omega (arith, end_held.near, end_held.inside)

    list : Lies s found.0 (table_at st)
    list = lies found.2

    outcome : {t : Table} {a b : Bool} → t ≡ table_at st → a ≡ repeats same_bytes (paths_from s 0 t.files) → b ≡ repeats same_source (sources_from s t.sources.at t.sources.count) →
        read_of s ≡ pick (a || b) (Refused 31) (Listed t)
    unfolding judged again
    outcome et ea eb = rw (read_fits s some short, found.1, table_is found.2, list.paths, list.sources, ea, eb, et)

    pub read_path : {t : Table} {a : Bool} → t ≡ table_at st → a ≡ repeats same_bytes (paths_from s 0 t.files) → a ≡ true → Refused 31 ≡ read_of s
    unfolding pick
    read_path {t} et ea h = rw (outcome et ea refl, h)

    module _ {t : Table} {a b : Bool} (et : t ≡ table_at st) (ea : a ≡ repeats same_bytes (paths_from s 0 t.files)) (eb : b ≡ repeats same_source (sources_from s t.sources.at t.sources.count)) where
      pub read_source : a ≡ false → b ≡ true → Refused 31 ≡ read_of s
      unfolding pick
      read_source h g = rw (outcome et ea eb, h, g)

      pub read_all : a ≡ false → b ≡ false → Listed t ≡ read_of s
      unfolding pick
      read_all h g = rw (outcome et ea eb, h, g)
