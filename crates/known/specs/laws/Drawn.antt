-- The correspondences, as four lists. Assumes nothing.
use Rattle.std.specs.Prelude.{◌≡◌, refl, List, map, ℕ, ◌+◌, ◌≤◌, ◌<◌, ℤ, pos, length}
use Rattle.std.proofs.Common.{sym, ap, subst, ◌∙◌, arith}
use Rattle.text.specs.Reading.{Text}
use Rattle.sheet.specs.Sheets.{read_of}
use Rattle.sheet.specs.Accepted.{Accepted, accepted}
use Rattle.sheet.specs.declared.Run.{Run}
use Rattle.sheet.specs.declared.Table.{Table}
use Rattle.sheet.specs.Sheets.{Sheet, Refused, Listed}
use Rattle.graphs.specs.Links.{Link}
use Rattle.merged.specs.Merged.{padded}
use Rattle.checks.specs.Machines.{machine_table}
use Rattle.lines.specs.Lines.{links_by}
use Rattle.known.specs.Known.{table_in}

-- four lists hold these correspondences, and zeros past them
pub record Holds (l : List Link) (n : ℕ) (a : List ℕ) (x : List ℤ) (c : List ℕ) (y : List ℤ) : Type 0 where
  pub count : n ≡ length l
  pub from : a ≡ padded 0 288 (map (λ k. k.a) l)
  pub reads : x ≡ padded (pos 0) 288 (map (λ k. k.x) l)
  pub to : c ≡ padded 0 288 (map (λ k. k.b) l)
  pub gives : y ≡ padded (pos 0) 288 (map (λ k. k.y) l)

abbrev pub Drawn : Text → List ℕ → List ℕ → List ℕ → List ℕ → Run → ℕ → List ℕ → List ℤ → List ℕ → List ℤ → Type 0
Drawn s ix names t b run n a x c y = Holds (links_by s ix names t (machine_table t) b run.at run.count) n a x c y

-- equal correspondences
pub holds_same : {l m : List Link} → l ≡ m → {n : ℕ} {a : List ℕ} {x : List ℤ} {c : List ℕ} {y : List ℤ} → Holds l n a x c y → Holds m n a x c y
holds_same e {n} {a} {x} {c} {y} h = subst (λ (k : List Link). Holds k n a x c y) e h

-- where a sheet's records lie fits 32 bits
pub record Near (p : Table) : Type 0 where
  pub snapshots : p.snapshots.at < 4294967296
  pub events : p.events.at < 4294967296

near_by : (b : List ℕ) (o : Sheet) → read_of b ≡ o → Near (table_in o)
unfolding table_in
near_by b (Refused k) e = record { snapshots = omega arith; events = omega arith }
near_by b (Listed p) e =
    let a : Accepted b p = accepted b p e in
    record { snapshots = omega (arith, a.snapshots_end, a.events_end, a.short); events = omega (arith, a.events_end, a.short) }

pub near : (b : List ℕ) → Near (table_in (read_of b))
near b = near_by b (read_of b) refl
