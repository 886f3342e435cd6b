-- What the table means: over the tables of a manifest that tell a meaning, it is the facts of the sheet's files and sources under that meaning.
-- Each number is compared with the fact that it stands for; the i-th file, source and snapshot are those of the sheet's records. Assumes nothing.
use Rattle.std.specs.Prelude.{◌≡◌, Bool, true, false, List, map, ℕ, ◌+◌, ◌*◌, ◌<◌, get_or}
use Rattle.std.proofs.Common.{sym, ◌∙◌}
use Rattle.std.proofs.Math.Path.{ap}
use native.Mathlib.Omega.{arith}
use Rattle.std.proofs.Math.ListN.{length}
use Rattle.text.specs.Reading.{Text, pick}
use Rattle.numbers.specs.declared.Machine.{Machine}
use Rattle.manifest.specs.Meaning.{Meaning}
use Rattle.records.specs.Layout.{Record}
use Rattle.records.specs.Readers.{source_at, path_at}
use Rattle.records.specs.declared.Source.{Source}
use Rattle.sheet.specs.Places.{place_of}
use Rattle.sheet.specs.Lists.{files_of, sources_of}
use Rattle.sheet.specs.Sheets.{Out, refused, records, sheet_of, size_wrong, table_of, read_of}
use Rattle.sheet.specs.Twice.{again}
use Rattle.sheet.specs.Accepted.{Accepted, accepted, source_of}
use Rattle.sheet.specs.declared.Table.{Table}
use Rattle.sheet.specs.Sheets.{Listed}
use Rattle.index.specs.Index.{listed, manifest_of}
use Rattle.index.specs.Cited.{entry_of}
use Rattle.finds.specs.Finds.{lookups}
use Rattle.meant.specs.Meant.{base_of, owned_of, part_of, link_of}
use Rattle.meant.specs.Told.{Tells}
use Rattle.merged.specs.Facts.{Filed, filed, no_file, no_source, parts_of, said, tie_by, given_by, file_fact, file_facts, source_fact, facts_of}
use Rattle.merged.specs.Facts.{entry_for as entry_by}
use Rattle.merged.specs.Merged.{once, records_of}
use Rattle.merged.proofs.laws.Sheets.{told, read_told}
use Rattle.merged.proofs.laws.Lists.{length_map}
use Rattle.checks.specs.Table.{file_number, source_number, tie_of, given_of, is_set, file_by, source_by, files_in, sources_held, facts_by}
use Rattle.gather.specs.Gathered.{owned_code, entry_with, entry_for, file_row, source_row, gathered_in, gathered_by, gathered}
use Rattle.gather.specs.laws.Listings.{entry_listed}
use Rattle.gather.specs.laws.Near.{source_below}
use Rattle.gather.specs.laws.Codes.{given_in, tie_right, given_right, flag_right}
use Rattle.gather.specs.laws.Lists.{listed_map, listed_files}
use Rattle.gather.specs.laws.Held.{file_number_lem, source_number_lem, file_held, recorded_held, files_counted, sources_counted}
use Rattle.gather.specs.laws.Said.{entry_found, base_said, link_said, owned_said, part_said}

module _ {s : Text} {ix : List ℕ} {w : Meaning} (k : Tells s ix w) {b : List ℕ} {t : Table} (a : Accepted b t) where
  abbrev table : List ℕ
  table = gathered_in s ix (lookups s ix) b t

  -- file f of the sheet
  abbrev here : ℕ → Filed
  here f = get_or (map filed (files_of a.rs)) f no_file

  -- its entry
  entry_right : (f : ℕ) → f < t.files → entry_for s ix (lookups s ix) b t f ≡ entry_by w (here f).path
  unfolding entry_for entry_by
  entry_right f h = entry_listed s ix (path_at b (place_of b 0 f)) ∙ k.entry_told (path_at b (place_of b 0 f)) ∙ ap (λ (v : Filed). entry_by w v.path) (sym (file_held a f h))

  -- ---- a file
  module _ (f : ℕ) (h : f < t.files) where
    number : (j : ℕ) → j < 6 → file_number table f j ≡ get_or (file_row s ix (lookups s ix) b t f) j 0
    number j l = file_number_lem s ix (lookups s ix) b t f j h a.few_files l

    tie_is : tie_of (file_number table f 1) ≡ tie_by (said w (here f)).link
    unfolding file_row said
    tie_is =
        ap tie_of (number 1 (omega arith)) ∙ tie_right _
        ∙ ap tie_by (ap (link_of s ix (lookups s ix)) (entry_right f h) ∙ link_said k _ (entry_found w (here f).path))

    base_is : ◌≡◌ {A = Machine} (record { 0 = file_number table f 2 }) (said w (here f)).base
    unfolding file_row said
    base_is =
        (λ i. record { 0 = number 2 (omega arith) i })
        ∙ ap (base_of s ix (lookups s ix)) (entry_right f h) ∙ base_said k _ (entry_found w (here f).path)

    pub file_right : file_by table f ≡ file_fact w (parts_of a.rs) f (here f)
    unfolding file_by file_fact file_row
    file_right =
        let e0 : file_number table f 0 ≡ entry_by w (here f).path = number 0 (omega arith) ∙ entry_right f h in
        let e3 : is_set (file_number table f 3) ≡ (here f).container =
        ap is_set (number 3 (omega arith)) ∙ flag_right _ ∙ ap (λ (v : Filed). v.container) (sym (file_held a f h)) in
        let e4 : file_number table f 4 ≡ (here f).claim = number 4 (omega arith) ∙ ap (λ (v : Filed). v.claim) (sym (file_held a f h)) in
        let e5 = ap is_set (number 5 (omega arith)) ∙ flag_right _ ∙ recorded_held a s ix (lookups s ix) f in
        λ i. record { entry = e0 i; tie = tie_is i; base = base_is i; container = e3 i; claim = e4 i; recorded = e5 i }

  -- ---- a source
  module _ (j : ℕ) (h : j < t.sources.count) where
    abbrev read : Source
    read = source_at b (t.sources.at + 40 * j)

    given_is : given_of (source_number table j 2) (source_number table j 3) ≡ given_by (said w (here read.file.0)).owns read.id
    unfolding source_row said
    given_is =
        let n2 = source_number_lem s ix (lookups s ix) b t j 2 h a.few_sources (omega arith) in
        let n3 = source_number_lem s ix (lookups s ix) b t j 3 h a.few_sources (omega arith) in
        let e = entry_right read.file.0 (source_below a j h) in
        let v = entry_found w (here read.file.0).path in
        (λ i. given_of (n2 i) (n3 i))
        ∙ ap (λ (n : ℕ). given_in (owned_code (owned_of s ix (lookups s ix) n) (part_of s ix (lookups s ix) n read.id))) e
        ∙ (λ i. given_in (owned_code (owned_said k _ v i) (part_said k _ v read.id i)))
        ∙ given_right _ read.id

    pub source_right : source_by table j ≡ source_fact w (parts_of a.rs) (get_or (sources_of a.rs) j no_source)
    unfolding source_by source_fact source_row
    source_right =
        let n0 = source_number_lem s ix (lookups s ix) b t j 0 h a.few_sources (omega arith) in
        let n1 = source_number_lem s ix (lookups s ix) b t j 1 h a.few_sources (omega arith) in
        let e : source_by table j ≡ source_fact w (parts_of a.rs) read = λ i. record { file = n0 i; id = n1 i; given = given_is i } in
        e ∙ ap (source_fact w (parts_of a.rs)) (source_of a j no_source h)

  -- ---- all of them
  files_right : listed (file_by table) 0 (files_in table) ≡ file_facts w (parts_of a.rs) 0 (map filed (files_of a.rs))
  unfolding files_in gathered_in
  files_right =
      let n : files_in table ≡ length (map filed (files_of a.rs)) = omega (arith, a.few_files, files_counted a, length_map filed (files_of a.rs)) in
      ap (listed (file_by table) 0) n
      ∙ listed_files w (parts_of a.rs) (file_by table) no_file (map filed (files_of a.rs)) 0
      (λ i l. let z : 0 + i ≡ i = omega arith in
      ap (file_by table) z
      ∙ file_right i (omega (arith, files_counted a, length_map filed (files_of a.rs)))
      ∙ ap (λ (m : ℕ). file_fact w (parts_of a.rs) m (here i)) (sym z))

  sources_right : listed (source_by table) 0 (sources_held table) ≡ map (source_fact w (parts_of a.rs)) (sources_of a.rs)
  unfolding sources_held gathered_in
  sources_right =
      let n : sources_held table ≡ length (sources_of a.rs) = omega (arith, a.few_sources, sources_counted a) in
      ap (listed (source_by table) 0) n
      ∙ listed_map (source_by table) (source_fact w (parts_of a.rs)) no_source (sources_of a.rs) 0
      (λ i l. let z : 0 + i ≡ i = omega arith in ap (source_by table) z ∙ source_right i (omega (arith, sources_counted a)))

  pub facts_held : facts_by table ≡ facts_of w (parts_of a.rs)
  unfolding facts_by facts_of gathered_in
  facts_held = λ i. record { files = files_right i; sources = sources_right i; entries = k.entries_told i; names = k.names_told i }

-- ---- the records that are accepted are the sheet's
never : {k : ℕ} {rs : List Record} → refused k ≡ records rs → ⊥
never e = let z : ◌≡◌ {A = ℕ} 0 1 = cc in omega arith

sheet_is : (b : List ℕ) (rs : List Record) → records_of b ≡ records rs → sheet_of b ≡ records rs
unfolding records_of once pick
sheet_is b rs e = go (size_wrong b) (sheet_of b) e
  where
    last : (c : Bool) (qs : List Record) → pick c (refused 31) (records qs) ≡ records rs → records qs ≡ records rs
    last true qs e = absurd (never e)
    last false qs e = e

    go : (c : Bool) (o : Out) → pick c (refused 25) (once o) ≡ records rs → o ≡ records rs
    go true o e = absurd (never e)
    go false (refused n) e = absurd (never e)
    go false (records qs) e = last (again qs) qs e

same_records : {qs rs : List Record} → records qs ≡ records rs → qs ≡ rs
same_records e = cc

-- by the manifest's table the entry of a path is the one that the rules find: its print decides nothing that its text would not
pub entry_is : (s : Text) (ix : List ℕ) (path : Text) → entry_with s ix (lookups s ix) path ≡ entry_of (manifest_of s ix) path
entry_is s ix path = entry_listed s ix path

-- THE TABLE IS THE FACTS
pub facts_are : (s : Text) (ix b : List ℕ) (w : Meaning) (rs : List Record) → Tells s ix w → records_of b ≡ records rs
    → facts_by (gathered s ix (lookups s ix) b) ≡ facts_of w (parts_of rs)
unfolding gathered gathered_by told
facts_are s ix b w rs k e =
    let r : read_of b ≡ Listed (table_of rs) = read_told b ∙ ap told e in
    let a : Accepted b (table_of rs) = accepted b (table_of rs) r in
    let q : a.rs ≡ rs = same_records (sym a.sheet ∙ sheet_is b rs e) in
    ap (λ (x : _). facts_by (gathered_by s ix (lookups s ix) b x)) r
    ∙ facts_held k a
    ∙ ap (λ (l : List Record). facts_of w (parts_of l)) q
