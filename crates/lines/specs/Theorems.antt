-- What the definitions mean for an accepted manifest and sheet: clocks, correspondences and events are those of the merge. Assumes nothing.
use Rattle.std.specs.Prelude.{◌≡◌, Bool, not, ◌&&◌, ◌||◌, List, map, ℕ, ◌+◌, ◌*◌, ◌≤◌, ◌<◌, min, ltb, leb}
use Rattle.std.proofs.Math.Path.{refl, sym, ap}
use Rattle.std.proofs.Common.{◌∙◌, arith, ltb-true, ltb-false}
use Rattle.std.proofs.Math.Bool.{true, false}
use Rattle.std.proofs.Math.Dec.{eqb}
use Rattle.std.proofs.Math.ListN.{length, get_or, get_or-eq_default}
use Rattle.text.specs.Reading.{Text, pick}
use Rattle.manifest.specs.Rows.{flat}
use Rattle.manifest.specs.Meaning.{Meaning, Listed}
use Rattle.records.specs.Layout.{Record}
use Rattle.records.specs.Readers.{snapshot_at, event_at}
use Rattle.records.specs.declared.Snapshot.{Snapshot}
use Rattle.records.specs.declared.Event.{Event}
use Rattle.sheet.specs.Lists.{snapshots_of, events_of}
use Rattle.sheet.specs.Sheets.{records, table_of}
use Rattle.sheet.specs.Accepted.{snapshot_of_lem, event_of}
use Rattle.index.specs.Index.{entries_in}
use Rattle.finds.specs.Finds.{lookups}
use Rattle.meant.specs.Meant as meant
use Rattle.meant.specs.Told.{Tells}
use Rattle.merged.specs.Machines.{sources_in, is_silent, by_id, machine_by, machine_of, machines_of}
use Rattle.merged.specs.Refusals.{is_pinned}
use Rattle.merged.specs.Merged.{records_of}
use Rattle.merged.specs.Timeline.{private_clock, domain_clock, file_at, source_at, link_from, link_of, event_clock}
use Rattle.merged.proofs.laws.Lists.{length_map, get_d_map, padded_below, padded_past}
use Rattle.checks.specs.Table.{facts_by}
use Rattle.checks.specs.Machines.{machine_table}
use Rattle.lines.specs.Lines.{link_by, clock_by, entry_links, snapshot_links, events_at}
use Rattle.lines.specs.laws.Lists.{listed_is, flat_is}
use Rattle.lines.specs.laws.Sheets.{accepted_is, same_rs}

-- ---- clocks

module _ (t : List ℕ) where
  nobody : (b : Bool) (m : ℕ) → pick (true && b && not (eqb 0 0)) m 0 ≡ 0
  unfolding pick
  nobody true m = refl
  nobody false m = refl

  past : (j : ℕ) → length (facts_by t).sources ≤ j → 0 ≡ machine_of (facts_by t) (source_at (facts_by t) j)
  unfolding machine_of machine_by by_id is_silent
  past j h =
      sym (ap (machine_of (facts_by t)) (get_or-eq_default (facts_by t).sources _ h) ∙ nobody (leb 2 (sources_in 0 (facts_by t).sources)) _)

  -- the table holds the machine of each source; past the last both are 0
  pub machine_told : (j : ℕ) → get_or (machine_table t) j 0 ≡ machine_of (facts_by t) (source_at (facts_by t) j)
  unfolding machine_table machines_of
  machine_told j = go (ltb j (length (facts_by t).sources)) refl
    where
      below : j < length (facts_by t).sources → get_or (machine_table t) j 0 ≡ machine_of (facts_by t) (source_at (facts_by t) j)
      below h =
          padded_below 0 32 (machines_of (facts_by t)) j (omega (arith, length_map (machine_of (facts_by t)) (facts_by t).sources))
          ∙ get_d_map (machine_of (facts_by t)) (facts_by t).sources j _ 0 h

      above : length (facts_by t).sources ≤ j → get_or (machine_table t) j 0 ≡ machine_of (facts_by t) (source_at (facts_by t) j)
      above h =
          padded_past 0 32 (machines_of (facts_by t)) j (omega (arith, length_map (machine_of (facts_by t)) (facts_by t).sources))
          ∙ past j h

      go : (b : Bool) → ltb j (length (facts_by t).sources) ≡ b → get_or (machine_table t) j 0 ≡ machine_of (facts_by t) (source_at (facts_by t) j)
      go true e = below (ltb-true j (length (facts_by t).sources) e)
      go false e = above (ltb-false j (length (facts_by t).sources) e)

  pub clock_told : (e : Event) → clock_by t (machine_table t) e ≡ event_clock (facts_by t) e
  unfolding clock_by event_clock
  clock_told e =
      ap (λ (m : ℕ). pick (is_pinned (file_at (facts_by t) (source_at (facts_by t) e.source).file).tie || eqb e.clock 0)
      (private_clock (source_at (facts_by t) e.source).file)
      (domain_clock e.clock m)) (machine_told e.source)

  pub link_told : (n : Snapshot) → link_by t (machine_table t) n ≡ link_of (facts_by t) n
  unfolding link_by link_of
  link_told n =
      ap (λ (m : ℕ). record { a = domain_clock n.clock m; x = n.reading; b = domain_clock n.clock2 m; y = n.reading2 }) (machine_told n.source)

-- ---- correspondences

-- of the entries: those of the meaning's listed files
pub entries_told : (s : Text) (ix t : List ℕ) (w : Meaning) → Tells s ix w → entry_links s ix (lookups s ix) t ≡ flat (λ l. link_from (facts_by t) l.link) w.listed
unfolding entry_links
entries_told s ix t w k =
    flat_is (λ i. link_from (facts_by t) (meant.link_of s ix (lookups s ix) i)) (λ (l : Listed). link_from (facts_by t) l.link) w.listed (entries_in ix)
    k.entries_told (λ i h d. ap (link_from (facts_by t)) (k.link_told h d))

module _ (b : List ℕ) (rs : List Record) (e : records_of b ≡ records rs) where
  -- of the snapshots
  pub snapshots_are : (i : ℕ) → i < length (snapshots_of rs) → (d : Snapshot) → snapshot_at b ((table_of rs).snapshots.at + 142 * i) ≡ get_or (snapshots_of rs) i d
  snapshots_are i h d = snapshot_of_lem (accepted_is b rs e) i d h ∙ ap (λ (q : List Record). get_or (snapshots_of q) i d) (same_rs b rs e)

  pub events_are : (i : ℕ) → i < length (events_of rs) → (d : Event) → event_at b ((table_of rs).events.at + 75 * i) ≡ get_or (events_of rs) i d
  events_are i h d = event_of (accepted_is b rs e) i d h ∙ ap (λ (q : List Record). get_or (events_of q) i d) (same_rs b rs e)

map_same : {A B : Type 0} (f g : A → B) → ((a : A) → f a ≡ g a) → (l : List A) → map f l ≡ map g l
map_same f g h l = λ i. map (λ a. h a i) l

pub snapshots_told : (t b : List ℕ) (rs : List Record) → records_of b ≡ records rs
    → snapshot_links t (machine_table t) b (table_of rs).snapshots.at (table_of rs).snapshots.count ≡ map (link_of (facts_by t)) (snapshots_of rs)
unfolding snapshot_links
snapshots_told t b rs e =
    let f : min 256 (length (snapshots_of rs)) ≡ length (snapshots_of rs) = omega (arith, (accepted_is b rs e).few_snapshots) in
    ap (map (link_by t (machine_table t))) (listed_is (λ i. snapshot_at b ((table_of rs).snapshots.at + 142 * i)) (snapshots_of rs) _ f (λ i h d. snapshots_are b rs e i (omega arith) d))
    ∙ map_same (link_by t (machine_table t)) (link_of (facts_by t)) (link_told t) (snapshots_of rs)

-- ---- events

pub events_told : (b : List ℕ) (rs : List Record) → records_of b ≡ records rs → events_at b (table_of rs).events.at (table_of rs).events.count ≡ events_of rs
unfolding events_at
events_told b rs e = listed_is (λ i. event_at b ((table_of rs).events.at + 75 * i)) (events_of rs) (length (events_of rs)) refl (events_are b rs e)

-- ---- how large the numbers of an accepted sheet's table are

pub record Bounds (rs : List Record) : Type 0 where
  pub files : (table_of rs).files ≤ 32
  pub sources : (table_of rs).sources.count ≤ 32
  pub snapshots : (table_of rs).snapshots.count ≤ 256
  pub events : (table_of rs).events.count ≤ 6990
  pub sources_placed : (table_of rs).sources.at ≤ 524288
  pub snapshots_placed : (table_of rs).snapshots.at ≤ 524288
  pub events_placed : (table_of rs).events.at ≤ 524288

pub table_bounds : (b : List ℕ) (rs : List Record) → records_of b ≡ records rs → Bounds rs
table_bounds b rs e =
    let k = accepted_is b rs e in
    record {
      files = k.few_files;
      sources = k.few_sources;
      snapshots = k.few_snapshots;
      events = omega (arith, k.events_end, k.short);
      sources_placed = omega (arith, k.sources_end, k.snapshots_end, k.events_end, k.short);
      snapshots_placed = omega (arith, k.snapshots_end, k.events_end, k.short);
      events_placed = omega (arith, k.events_end, k.short);
    }
