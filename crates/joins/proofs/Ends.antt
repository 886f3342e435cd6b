-- How a merge ends, in the values that the code has: one theorem for each ending, in the order of the checks. Assumes nothing.
use Rattle.std.specs.Prelude.{◌≡◌, true, false, length, replicate}
use Rattle.std.proofs.Common.{sym, ◌∙◌, arith, eq-eqb, ne_eqb}
use Rattle.std.proofs.Math.Path.{ap}
use mathlib.Core.List.{List, ◌++◌, map}
use Prim.Native.Nat.{ℕ, ◌+◌, ◌-◌, ◌≤◌, ◌<◌}
use Rattle.std.proofs.Math.Decide.{dec_lt}
use Rattle.std.proofs.Math.ListN.{get_or}
use Rattle.text.specs.Reading.{Text}
use Rattle.text.specs.laws.Readers.{pick_true, pick_false}
use Rattle.manifest.specs.View.{one}
use Rattle.manifest.specs.Meaning.{Meaning, meant}
use Rattle.manifest.specs.Manifest.{refusal_of, meaning_of}
use Rattle.records.specs.Layout.{Record}
use Rattle.sheet.specs.Sheets.{Out, records, read_of}
use Rattle.sheet.specs.Lists.{sources_of}
use Rattle.sheet.specs.Accepted.{Accepted, accepted}
use Rattle.sheet.specs.declared.Table.{Table}
use Rattle.sheet.specs.Sheets.{Refused}
use Rattle.index.specs.Index.{manifest_of}
use Rattle.reader.specs.Reader.{table_of, lookups_of, meaning_by}
use Rattle.reader.specs.Theorems.{table_means}
use Rattle.merged.specs.Facts.{Parts, parts_of, Facts, source_fact, facts_of}
use Rattle.merged.specs.Machines.{machine_count, machine_of, machines_of}
use Rattle.merged.specs.Refusals.{checks, first_of}
use Rattle.merged.specs.declared.Room.{Room}
use Rattle.merged.specs.Merged.{records_of, roomy, refused_by, accepted_by, refusal_joined, joined, merged_with, merged}
use Rattle.merged.proofs.laws.Lists.{length_map, padded_below, padded_past}
use Rattle.merged.proofs.laws.Sheets.{refused_so, Listing, listed_so}
use Rattle.checks.specs.Table.{facts_by}
use Rattle.checks.specs.Machines.{machine_table}
use Rattle.gather.specs.Gathered.{gathered}
use Rattle.joins.specs.Joined.{Read, Small, roomy_for, accepted_with}
use Rattle.joins.proofs.Theorems.{files_long, refusal_told, facts_told, accepted_so}
use Rattle.joins.proofs.laws.Numbered.{count_most, machine_number}

-- 1 to 24
pub by_manifest : (m : Text) (b : List ℕ) (room : Room) → (refusal_of m ≡ 0 → ⊥) → merged m b room ≡ refused_by (refusal_of m) room
unfolding merged
by_manifest m b room n = pick_false _ _ (ne_eqb (refusal_of m) 0 n)

module _ (m : Text) (b : List ℕ) (room : Room) (ok : refusal_of m ≡ 0) where
  after_manifest : merged m b room ≡ merged_with (meaning_of m) (records_of b) room
  unfolding merged
  after_manifest = pick_true _ _ (eq-eqb (refusal_of m) 0 ok)

  -- 25 to 31
  pub by_sheet : {n : ℕ} → read_of b ≡ Refused n → merged m b room ≡ refused_by n room
  unfolding merged_with
  by_sheet e = after_manifest ∙ ap (λ (o : Out). merged_with (meaning_of m) o room) (refused_so b e)

  after_sheet : {rs : List Record} → records_of b ≡ records rs → merged m b room ≡ joined (meaning_of m) (parts_of rs) room
  unfolding merged_with
  after_sheet e = after_manifest ∙ ap (λ (o : Out). merged_with (meaning_of m) o room) e

-- of a refusal, and of none
module _ (w : Meaning) (p : Parts) (room : Room) where
  joined_both : {n : ℕ} → first_of checks (facts_of w p) ≡ n → (n ≡ 0 → ⊥) → joined w p room ≡ refused_by n room
  unfolding joined refusal_joined
  joined_both {n} e some =
      let q : refusal_joined w p room ≡ n = pick_false _ _ (ne_eqb (first_of checks (facts_of w p)) 0 (λ h. some (sym e ∙ h))) ∙ e in
      pick_false _ _ (ne_eqb (refusal_joined w p room) 0 (λ h. some (sym q ∙ h))) ∙ ap (λ (k : ℕ). refused_by k room) q

  module _ (none : first_of checks (facts_of w p) ≡ 0) where
    joined_room : roomy p room ≡ false → joined w p room ≡ refused_by 38 room
    unfolding joined refusal_joined
    joined_room e =
        let q : refusal_joined w p room ≡ 38 = pick_true _ _ (eq-eqb (first_of checks (facts_of w p)) 0 none) ∙ pick_false _ _ e in
        pick_false _ _ (ne_eqb (refusal_joined w p room) 0 (λ h. omega arith)) ∙ ap (λ (k : ℕ). refused_by k room) q

    joined_none : roomy p room ≡ true → joined w p room ≡ accepted_by w p room
    unfolding joined refusal_joined
    joined_none e =
        let q : refusal_joined w p room ≡ 0 = pick_true _ _ (eq-eqb (first_of checks (facts_of w p)) 0 none) ∙ pick_true _ _ e in
        pick_true _ _ (eq-eqb (refusal_joined w p room) 0 q)

-- as many machines as sources
machines_long : (w : Meaning) (rs : List Record) → length (machines_of (facts_of w (parts_of rs))) ≡ length (sources_of rs)
unfolding machines_of facts_of
machines_long w rs = length_map (machine_of (facts_of w (parts_of rs))) (map (source_fact w (parts_of rs)) (sources_of rs)) ∙ length_map (source_fact w (parts_of rs)) (sources_of rs)

-- zeros after a list leave its numbers small
padded_small : (n room : ℕ) (l : List ℕ) (j : ℕ) → get_or l j 0 ≤ n → get_or (l ++ replicate (room - length l) 0) j 0 ≤ n
padded_small n room l j h = go (dec_lt j (length l))
  where
    go : Dec (j < length l) → get_or (l ++ replicate (room - length l) 0) j 0 ≤ n
    go (yes q) = rw (padded_below 0 room l j q) h
    go (no q) = rw (padded_past 0 room l j (omega arith)) (omega arith)

module _ {s : Text} {b ix names t : List ℕ} {p : Table} (r : Read s b ix names t p) where
  abbrev list : Listing b p
  list = listed_so b r.sheet

  known_is : t ≡ gathered s (table_of s) (lookups_of s) b
  known_is = r.known ∙ (λ i. gathered s (r.index i) (r.names_are i) b)

  refusal_is : first_of checks (facts_by t) ≡ first_of checks (facts_of (meaning_of s) (parts_of list.rs))
  refusal_is = ap (λ (k : List ℕ). first_of checks (facts_by k)) known_is ∙ refusal_told s b list.rs r.manifest list.sheet

  -- 32 to 37
  pub by_both : (room : Room) {n : ℕ} → n ≡ first_of checks (facts_by t) → (n ≡ 0 → ⊥) → merged s b room ≡ refused_by n room
  by_both room e some = after_sheet s b room r.manifest list.sheet ∙ joined_both (meaning_of s) (parts_of list.rs) room (sym refusal_is ∙ sym e) some

  module _ (none : first_of checks (facts_by t) ≡ 0) where
    roomy_is : (room : Room) → roomy_for p.sources.count p.events.count room ≡ roomy (parts_of list.rs) room
    unfolding roomy_for roomy
    roomy_is room = ap (λ (q : Table). roomy_for q.sources.count q.events.count room) list.table

    -- 38
    pub by_room : (room : Room) → roomy_for p.sources.count p.events.count room ≡ false → merged s b room ≡ refused_by 38 room
    by_room room e = after_sheet s b room r.manifest list.sheet ∙ joined_room (meaning_of s) (parts_of list.rs) room (sym refusal_is ∙ none) (sym (roomy_is room) ∙ e)

    -- no refusal
    pub accepted_is : (room : Room) → roomy_for p.sources.count p.events.count room ≡ true → merged s b room ≡ accepted_with s b ix names t p room
    accepted_is room e =
        after_sheet s b room r.manifest list.sheet
        ∙ (joined_none (meaning_of s) (parts_of list.rs) room (sym refusal_is ∙ none) (sym (roomy_is room) ∙ e)
        ∙ (accepted_so s b list.rs r.manifest list.sheet (ap (λ (k : List ℕ). first_of checks (facts_by k)) (sym known_is) ∙ none) room
        ∙ sym (λ i. accepted_with s b (r.index i) (r.names_are i) (known_is i) (list.table i) room)))

    facts_are : facts_by t ≡ facts_of (meant (one (manifest_of s (table_of s)))) (parts_of list.rs)
    unfolding meaning_by
    facts_are =
        ap facts_by known_is
        ∙ (facts_told s b list.rs r.manifest list.sheet (ap (λ (k : List ℕ). first_of checks (facts_by k)) (sym known_is) ∙ none)
        ∙ ap (λ (w : Meaning). facts_of w (parts_of list.rs)) (sym (table_means s)))

    -- a byte takes the machines' numbers
    pub few_machines : machine_count (facts_by t) ≤ 32
    few_machines = count_most (facts_by t) none

    pub machine_small : (j : ℕ) → get_or (machine_table t) j 0 ≤ 32
    unfolding machine_table
    machine_small j =
        let all : List ℕ = machines_of (facts_by t) in
        let h : get_or all j 0 ≤ machine_count (facts_by t) = rw facts_are (machine_number s (table_of s) (parts_of list.rs) j) in
        padded_small 32 32 all j (omega (arith, few_machines))

    -- as many as there are sources
    pub machines_counted : length (machines_of (facts_by t)) ≡ p.sources.count
    machines_counted =
        ap (λ (k : Facts). length (machines_of k)) facts_are
        ∙ (machines_long (meant (one (manifest_of s (table_of s)))) list.rs ∙ ap (λ (q : Table). q.sources.count) (sym list.table))

    -- and as many files as the sheet has
    pub files_counted : length (facts_by t).files ≡ p.files
    files_counted =
        ap (λ (k : Facts). length k.files) facts_are
        ∙ (sym (files_long (meant (one (manifest_of s (table_of s)))) list.rs) ∙ ap (λ (q : Table). q.files) (sym list.table))

  -- the sheet's counts and places
  pub small : Small p
  small =
      let a : Accepted b p = accepted b p r.sheet in
      record {
        files = a.few_files;
        sources = a.few_sources;
        snapshots_placed = omega (arith, a.snapshots_end, a.events_end, a.short);
        events = omega (arith, a.events_end, a.short);
        events_placed = omega (arith, a.events_end, a.short);
      }
