-- What a manifest's tables and a sheet come to together is what the manifest's meaning and the sheet's records come to. Assumes nothing.
use Rattle.std.specs.Prelude.{◌≡◌, pos}
use Rattle.std.proofs.Math.Path.{refl, sym, ap}
use Rattle.std.proofs.Common.{subst, ◌∙◌}
use mathlib.Core.List.{List, [], ◌∷◌, ◌++◌, map}
use Prim.Native.Nat.{ℕ, suc, ◌+◌, ◌-◌, ◌≤◌, ◌<◌, min}
use native.Mathlib.Omega.{arith}
use Rattle.std.proofs.Math.Decide.{dec_lt}
use Rattle.std.proofs.Math.ListN.{length, length-take}
use Rattle.text.specs.Reading.{Text}
use Rattle.manifest.specs.View.{one}
use Rattle.manifest.specs.Rows.{flat}
use Rattle.manifest.specs.Rules.{refusal_5_or_later}
use Rattle.manifest.specs.Meaning.{Meaning, Listed, names_in, meant}
use Rattle.manifest.specs.Manifest.{refusal_of, meaning_of}
use Rattle.records.specs.Layout.{Record}
use Rattle.sheet.specs.Sheets.{records, table_of as places_of}
use Rattle.sheet.specs.Lists.{files_of, snapshots_of, events_of}
use Rattle.index.specs.Index.{manifest_of}
use Rattle.reader.specs.Reader.{table_of, lookups_of, meaning_by}
use Rattle.reader.specs.Theorems.{table_means, table_accepted}
use Rattle.meant.specs.Meant.{timeline_of}
use Rattle.meant.specs.Told.{Tells}
use Rattle.meant.proofs.Theorems.{told}
use Rattle.clocks.specs.Answers.{answers_of, time_of, kind_of, steps_of}
use Rattle.merged.specs.Facts.{Filed, filed, parts_of, Facts, file_facts, facts_of}
use Rattle.merged.specs.Machines.{machine_count, machines_of}
use Rattle.merged.specs.Refusals.{checks, first_of, is_pinned}
use Rattle.merged.specs.Timeline.{bits_of, link_from, link_of, event_clock, trace_by, trace_of, world_of}
use Rattle.merged.specs.Answers.{Merged}
use Rattle.merged.specs.declared.Room.{Room}
use Rattle.merged.specs.Merged.{records_of, padded, answers_in, accepted_by}
use Rattle.merged.proofs.laws.Lists.{length_map}
use Rattle.merged.proofs.laws.Shape.{many_refused, few_names}
use Rattle.checks.specs.Table.{facts_by}
use Rattle.checks.specs.Machines.{machine_table}
use Rattle.gather.specs.Gathered.{gathered}
use Rattle.gather.specs.Theorems.{facts_are}
use Rattle.lines.specs.Theorems.{clock_told, entries_told, snapshots_told, events_told}
use Rattle.lines.specs.Lines.{clock_by, links_by}
use Rattle.joins.specs.Own.{own}
use Rattle.joins.specs.Joined.{world_by, answers_by, accepted_with}
use Rattle.joins.proofs.laws.Owned.{own_tells}
use Rattle.joins.proofs.laws.Alike.{facts_alike}

-- ---- lists

map_same : {A B : Type 0} {f g : A → B} → ((a : A) → f a ≡ g a) → (l : List A) → map f l ≡ map g l
map_same h [] = refl
map_same h (a ∷ l) = λ i. h a i ∷ map_same h l i

files_mapped : (l : List Record) → length l ≡ length (map filed l)
files_mapped l = sym (length_map filed l)

pub files_long : (w : Meaning) (rs : List Record) → length (files_of rs) ≡ length (facts_of w (parts_of rs)).files
unfolding facts_of file_facts
files_long w rs = files_mapped (files_of rs) ∙ sym (counted 0 (map filed (files_of rs)))
  where
    counted : (f : ℕ) (k : List Filed) → length (file_facts w (parts_of rs) f k) ≡ length k
    counted f [] = refl
    counted f (v ∷ k) = ap suc (counted (suc f) k)

-- ---- a manifest and a sheet that are each accepted

module _ (s : Text) (b : List ℕ) (rs : List Record) (manifest : refusal_of s ≡ 0) (sheet : records_of b ≡ records rs) where
  -- the table of what is known
  abbrev pub known : List ℕ
  known = gathered s (table_of s) (lookups_of s) b

  accepted : refusal_5_or_later (one (manifest_of s (table_of s))) ≡ 0
  accepted = table_accepted s manifest

  abbrev said : Meaning
  said = meant (one (manifest_of s (table_of s)))

  means : said ≡ meaning_of s
  unfolding meaning_by
  means = table_means s

  -- for any meaning that the tables tell
  facts_for : (w : Meaning) → Tells s (table_of s) w → facts_by known ≡ facts_of w (parts_of rs)
  unfolding lookups_of
  facts_for w t = facts_are s (table_of s) b w rs t sheet

  few_tell : length (names_in (manifest_of s (table_of s))) ≤ 32 → Tells s (table_of s) said
  few_tell f = told s (table_of s) f accepted

  names_are : (facts_of said (parts_of rs)).names ≡ length (names_in (manifest_of s (table_of s)))
  unfolding facts_of meant
  names_are = refl

  own_names : 32 < length (names_in (manifest_of s (table_of s))) → (facts_of (own s (table_of s) said) (parts_of rs)).names ≡ 32
  unfolding facts_of meant
  own_names h = let e : min 32 (length (names_in (manifest_of s (table_of s)))) ≡ 32 = omega arith in length-take 32 (names_in (manifest_of s (table_of s))) ∙ e

  -- the refusal 32 to 37, if one applies
  pub refusal_told : first_of checks (facts_by known) ≡ first_of checks (facts_of (meaning_of s) (parts_of rs))
  refusal_told = go (dec_lt 32 (length (names_in (manifest_of s (table_of s))))) ∙ ap (λ (w : Meaning). first_of checks (facts_of w (parts_of rs))) means
    where
      go : Dec (32 < length (names_in (manifest_of s (table_of s)))) → first_of checks (facts_by known) ≡ first_of checks (facts_of said (parts_of rs))
      go (yes h) =
          ap (first_of checks) (facts_for (own s (table_of s) said) (own_tells s (table_of s) accepted))
          ∙ many_refused _ _ (facts_alike s (table_of s) (parts_of rs)) (let e = own_names h in omega arith) (let e = names_are in omega arith)
      go (no h) = ap (first_of checks) (facts_for said (few_tell (omega arith)))

  -- accepted together
  module _ (both : first_of checks (facts_by known) ≡ 0) where
    few : length (names_in (manifest_of s (table_of s))) ≤ 32
    few =
        let e : (facts_of said (parts_of rs)).names ≤ 31 = few_names (facts_of said (parts_of rs)) (ap (λ (w : Meaning). first_of checks (facts_of w (parts_of rs))) means ∙ (sym refusal_told ∙ both)) in
        let n = names_are in
        omega arith

    tells : Tells s (table_of s) (meaning_of s)
    tells = subst (Tells s (table_of s)) means (few_tell few)

    -- what is known
    pub facts_told : facts_by known ≡ facts_of (meaning_of s) (parts_of rs)
    facts_told = facts_for (meaning_of s) tells

    -- the world
    trace_told : timeline_of s (table_of s) (lookups_of s) ≡ (meaning_of s).trace
    unfolding lookups_of
    trace_told = tells.timeline_told

    links_told : links_by s (table_of s) (lookups_of s) known (machine_table known) b (places_of rs).snapshots.at (places_of rs).snapshots.count
        ≡ flat (λ (l : Listed). link_from (facts_of (meaning_of s) (parts_of rs)) l.link) (meaning_of s).listed ++ map (link_of (facts_of (meaning_of s) (parts_of rs))) (snapshots_of rs)
    unfolding links_by lookups_of
    links_told =
        (λ i. entries_told s (table_of s) known (meaning_of s) tells i ++ snapshots_told known b rs sheet i)
        ∙ ap (λ (k : Facts). flat (λ (l : Listed). link_from k l.link) (meaning_of s).listed ++ map (link_of k) (snapshots_of rs)) facts_told

    pub world_told : world_by s b (table_of s) (lookups_of s) known (places_of rs) ≡ world_of (meaning_of s) (parts_of rs)
    unfolding world_by world_of
    world_told = λ i. record {
      machines = machine_count (facts_told i);
      files = files_long (meaning_of s) rs i;
      pinned = bits_of (λ f. is_pinned f.tie) (facts_told i).files;
      trace = trace_by (facts_told i) (trace_told i);
      links = links_told i;
    }

    -- each event's answer
    answers_told : answers_by s b (table_of s) (lookups_of s) known (places_of rs) ≡ answers_in (meaning_of s) (parts_of rs)
    unfolding answers_by answers_in
    answers_told =
        (λ i. answers_of (world_told i) (map (clock_by known (machine_table known)) (events_told b rs sheet i)) (map (λ e. e.reading) (events_told b rs sheet i)))
        ∙ ap (λ (cs : List ℕ). answers_of (world_of (meaning_of s) (parts_of rs)) cs (map (λ e. e.reading) (events_of rs)))
        (map_same (clock_told known) (events_of rs) ∙ ap (λ (k : Facts). map (event_clock k) (events_of rs)) facts_told)

    -- all of it
    pub accepted_so : (room : Room) → accepted_by (meaning_of s) (parts_of rs) room ≡ accepted_with s b (table_of s) (lookups_of s) known (places_of rs) room
    unfolding accepted_by accepted_with
    accepted_so room = sym (λ i. record {
      answer = Merged (record { files = files_mapped (files_of rs) i; machines = machine_count (facts_told i); events = length (events_of rs); trace = trace_of (facts_told i) (trace_told i) });
      machines = padded 0 room.machines (machines_of (facts_told i));
      times = padded (pos 0) room.times (map time_of (answers_told i));
      kinds = padded 0 room.kinds (map kind_of (answers_told i));
      steps = padded 0 room.steps (map steps_of (answers_told i));
    })
