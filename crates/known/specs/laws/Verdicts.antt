-- The four verdicts, and what is read. Assumes nothing.
use Rattle.std.specs.Prelude.{◌≡◌, refl, List, map, ℕ, ℤ, pos, length}
use Rattle.std.proofs.Math.Path.{sym, ap}
use Rattle.std.proofs.Common.{◌∙◌, eq-eqb, ne_eqb}
use Rattle.text.specs.Reading.{Text}
use Rattle.text.specs.laws.Readers.{pick_true, pick_false}
use Rattle.manifest.specs.Manifest.{refusal_of}
use Rattle.sheet.specs.Sheets.{read_of}
use Rattle.sheet.specs.declared.Table.{Table}
use Rattle.sheet.specs.Sheets.{Sheet, Refused as SheetRefused, Listed}
use Rattle.reader.specs.Reader.{table_of, lookups_of}
use Rattle.graphs.specs.Links.{Link}
use Rattle.merged.specs.Refusals.{checks, first_of}
use Rattle.merged.specs.Merged.{padded}
use Rattle.checks.specs.Table.{facts_by}
use Rattle.checks.specs.Machines.{machine_table}
use Rattle.gather.specs.Gathered.{gathered}
use Rattle.lines.specs.Lines.{links_by}
use Rattle.placed.specs.declared.Given.{Given}
use Rattle.placed.specs.Told.{Told, Refused, Accepted}
use Rattle.known.specs.Known.{table_in, given_by, verdict_by, verdict, fact_table, links_in, given_in, told}
use Rattle.known.specs.laws.Drawn.{Holds, Drawn, holds_same}

module _ (m : ℕ) (o : Sheet) (both : ℕ) (g : Given) where
  pub by_manifest : (m ≡ 0 → ⊥) → Refused m ≡ verdict m o both g
  unfolding verdict
  by_manifest n = sym (pick_false _ _ (ne_eqb m 0 n))

  module _ (z : m ≡ 0) where
    after : verdict m o both g ≡ verdict_by o both g
    unfolding verdict
    after = pick_true _ _ (eq-eqb m 0 z)

    pub by_sheet : {k : ℕ} → o ≡ SheetRefused k → Refused k ≡ verdict m o both g
    unfolding verdict_by
    by_sheet e = sym (after ∙ ap (λ (q : Sheet). verdict_by q both g) e)

    pub by_both : {p : Table} → o ≡ Listed p → (both ≡ 0 → ⊥) → Refused both ≡ verdict m o both g
    unfolding verdict_by
    by_both e n = sym (after ∙ (ap (λ (q : Sheet). verdict_by q both g) e ∙ pick_false _ _ (ne_eqb both 0 n)))

    pub by_none : {p : Table} → o ≡ Listed p → both ≡ 0 → Accepted (record { sources = p.sources.count; at = p.events.at; given = g }) ≡ verdict m o both g
    unfolding verdict_by
    by_none e n = sym (after ∙ (ap (λ (q : Sheet). verdict_by q both g) e ∙ pick_true _ _ (eq-eqb both 0 n)))

-- what is read, one table after the other
pub read_made : (s : Text) (b : List ℕ) {ix names t : List ℕ} {o : Sheet} {p : Table} {m both n : ℕ} {g : Given} {r : Told} {a : List ℕ} {x : List ℤ} {c : List ℕ} {y : List ℤ}
    → m ≡ refusal_of s → ix ≡ table_of s → names ≡ lookups_of s → o ≡ read_of b → t ≡ gathered s ix names b → both ≡ first_of checks (facts_by t) → p ≡ table_in o
    → Drawn s ix names t b p.snapshots n a x c y → g ≡ given_by s ix names t p n → r ≡ verdict m o both g
    → (r ≡ told s b) × ((t ≡ fact_table s b) × ((a ≡ padded 0 288 (map (λ l. l.a) (links_in s b))) × ((x ≡ padded (pos 0) 288 (map (λ l. l.x) (links_in s b))) × ((c ≡ padded 0 288 (map (λ l. l.b) (links_in s b))) × (y ≡ padded (pos 0) 288 (map (λ l. l.y) (links_in s b)))))))
unfolding told
read_made s b {ix} {names} {t} {o} {p} {m} {both} {n} {g} em ei en eo et eb ep d eg er =
    let f : t ≡ fact_table s b = et ∙ (λ i. gathered s (ei i) (en i) b) in
    let q : p ≡ table_in (read_of b) = ep ∙ ap table_in eo in
    let l : links_by s ix names t (machine_table t) b p.snapshots.at p.snapshots.count ≡ links_in s b = λ i. links_by s (ei i) (en i) (f i) (machine_table (f i)) b (q i).snapshots.at (q i).snapshots.count in
    let h = holds_same l d in
    let k : g ≡ given_in s b = eg ∙ (λ i. given_by s (ei i) (en i) (f i) (q i) (h.count i)) in
    (er ∙ (λ i. verdict (em i) (eo i) ((eb ∙ ap (λ (u : List ℕ). first_of checks (facts_by u)) f) i) (k i)), (f, (h.from, (h.reads, (h.to, h.gives)))))
