-- What the merge's definitions come to, each beside document 01's sentence: acceptance and 32 to 36, what memory holds of an event, clocks, and the machine of a
-- source. The words are in Words. Assumes nothing.
use Rattle.std.specs.Prelude.{◌≡◌, List, ℕ, ◌≤◌, ◌<◌, ℤ, pos, length, get_or}
use Rattle.std.proofs.Common.{sym, ap, ◌∙◌}
use Rattle.text.specs.Reading.{Text}
use Rattle.numbers.specs.declared.Machine.{Machine}
use Rattle.manifest.specs.declared.Cited.TheVariants.{Private}
use Rattle.manifest.specs.Meaning.{Listed, whole_file, parts}
use Rattle.manifest.specs.Manifest.{refusal_of, meaning_of}
use Rattle.manifest.specs.Statements.{At}
use Rattle.records.specs.Layout.{Record}
use Rattle.records.specs.declared.Source.{Source}
use Rattle.records.specs.declared.Event.{Event}
use Rattle.sheet.specs.Sheets.{records}
use Rattle.paths.specs.Paths.{Leads}
use Rattle.graphs.specs.Graphs.{World, graph}
use Rattle.merged.specs.declared.Summary.{Summary}
use Rattle.merged.specs.Answers.{Merged}
use Rattle.merged.specs.Facts.{Filed, Parts, parts_of, no_source, facts_of}
use Rattle.merged.specs.Refusals.{checks, first_of, refusal_32_path_not_in_sheet, refusal_33_clocks_on_a_container, refusal_34_id_not_declared, refusal_35_machine_on_several_sources, refusal_36_pinned_file_with_a_snapshot}
use Rattle.merged.specs.Timeline.{private_clock, domain_clock, clock_for, event_clock, world_of}
use Rattle.merged.specs.declared.Room.{Room}
use Rattle.merged.specs.Merged.{records_of, merged}
use Rattle.merged.proofs.Demands.{Accepts}
use Rattle.exact.specs.Words.{Exactly, ListedFile, Pins, SourceOf, Applies, PathNotInSheet, ClocksOnContainer, IdNotDeclared, MachineOnSeveral, PinnedWithSnapshot, NoneTogether, Agrees, IsPlaced, IsOutside, IsEarly, Holds, Unsaid, ById}
use Rattle.exact.proofs.laws.Entries.{Tidy, accepted_tidy}
use Rattle.exact.proofs.laws.Sheets.{Sound, accepted_sound}
use Rattle.exact.proofs.laws.Checks.{applies_32, is_32, applies_33, is_33, applies_34, is_34, applies_35, is_35, applies_36, is_36}
use Rattle.exact.proofs.laws.Together.{none_so, so_none, accepted_agrees, agrees_accepted}
use Rattle.exact.proofs.laws.Events as events
use Rattle.exact.proofs.laws.Ids as ids
use Rattle.exact.proofs.laws.Clocks as clocks
use Rattle.exact.proofs.laws.Lists.{get_d_at}

-- ---- 32 to 36, of a manifest and a sheet that are each accepted

module _ (m : Text) (b : List ℕ) {rs : List Record} (manifest : refusal_of m ≡ 0) (sheet : records_of b ≡ records rs) where
  tidy : Tidy (meaning_of m)
  tidy = accepted_tidy m manifest

  sound : Sound (parts_of rs)
  sound = accepted_sound b sheet

  -- 32: "sheet has a file, and an entry's path isn't in it"
  pub exactly_32 : Exactly (Applies refusal_32_path_not_in_sheet (meaning_of m) (parts_of rs)) (PathNotInSheet (meaning_of m) (parts_of rs))
  exactly_32 = (applies_32 tidy (parts_of rs), is_32 tidy (parts_of rs))

  -- 33: "`clocks` on a container"
  pub exactly_33 : Exactly (Applies refusal_33_clocks_on_a_container (meaning_of m) (parts_of rs)) (ClocksOnContainer (meaning_of m) (parts_of rs))
  exactly_33 = (applies_33 tidy (parts_of rs), is_33 tidy (parts_of rs))

  -- 34: "source id not declared in its file's `machines`"
  pub exactly_34 : Exactly (Applies refusal_34_id_not_declared (meaning_of m) (parts_of rs)) (IdNotDeclared (meaning_of m) (parts_of rs))
  exactly_34 = (applies_34 tidy (parts_of rs) sound, is_34 tidy (parts_of rs) sound)

  -- 35: "`machine` on a file with two or more sources"
  pub exactly_35 : Exactly (Applies refusal_35_machine_on_several_sources (meaning_of m) (parts_of rs)) (MachineOnSeveral (meaning_of m) (parts_of rs))
  exactly_35 = (applies_35 tidy (parts_of rs) sound, is_35 tidy (parts_of rs) sound)

  -- 36: "pinned file with a snapshot"
  pub exactly_36 : Exactly (Applies refusal_36_pinned_file_with_a_snapshot (meaning_of m) (parts_of rs)) (PinnedWithSnapshot (meaning_of m) (parts_of rs))
  exactly_36 = (applies_36 tidy (parts_of rs) sound, is_36 tidy (parts_of rs))

  -- none of 32 to 37 is given exactly if none of the sentences holds
  pub none_exactly : Exactly (first_of checks (facts_of (meaning_of m) (parts_of rs)) ≡ 0) (NoneTogether (meaning_of m) (parts_of rs))
  none_exactly = (none_so tidy (parts_of rs) sound, so_none tidy (parts_of rs) sound)

-- "acceptance is exact": a merge is accepted exactly if no number applies
pub accepted_exactly : (m : Text) (b : List ℕ) (room : Room) → Exactly ((s : Summary) × ((merged m b room).answer ≡ Merged s)) (Agrees m b room)
accepted_exactly m b room = (λ e. accepted_agrees m b room e.1, agrees_accepted m b room)

-- ---- an accepted merge

module _ {m : Text} {b : List ℕ} {room : Room} (a : Accepts m b room) where
  -- its sheet's content, the world of its graphs, and an event's clock there
  abbrev pub content : Parts
  content = parts_of a.rs

  abbrev pub world : World
  world = world_of (meaning_of m) (parts_of a.rs)

  abbrev pub clock : Event → ℕ
  clock e = event_clock (facts_of (meaning_of m) (parts_of a.rs)) e

  -- what memory holds of event k, which is e
  module _ {k : ℕ} {e : Event} (event : At content.events k e) where
    -- a kind is 1 to 6: placed by graph 1, 2 or 3, or "Dropped: 1 unrelated, 2 out of range, 3 before the start", which has no time and no steps
    pub kinds : (1 ≤ get_or (merged m b room).kinds k 0) × (get_or (merged m b room).kinds k 0 ≤ 6)
    kinds = events.held_kind (meaning_of m) content room a.outcome event

    pub dropped_zeros : 4 ≤ get_or (merged m b room).kinds k 0 → (get_or (merged m b room).times k (pos 0) ≡ pos 0) × (get_or (merged m b room).steps k 0 ≡ 0)
    dropped_zeros = events.held_zeros (meaning_of m) content room a.outcome event

    -- "An event uses the lowest graph with a path to trace time; there, the path with fewest pairs; of these, .. the one smaller at the first differing
    -- clock number. So steps .. equal that path's length": it is placed so exactly if the sum along that path is this time, and is not negative
    pub placed_exactly : (time : ℤ) (g steps : ℕ) → Exactly ((g ≤ 3) × Holds (merged m b room) k time g steps) (IsPlaced world (clock e) e.reading g time steps)
    placed_exactly time g steps = (
      (λ h. events.held_placed (meaning_of m) content room a.outcome event h.0 h.1),
      (λ x. (x.chosen.high, events.placed_held (meaning_of m) content room a.outcome event x)),
    )

    -- "Drop 1: no path in graph 3"
    pub drop_1_exactly : Exactly (get_or (merged m b room).kinds k 0 ≡ 4) ((path : List ℕ) → Leads (graph 3 world) (clock e) path → ⊥)
    drop_1_exactly = (
      events.held_unrelated (meaning_of m) content room a.outcome event,
      (λ n. (events.unrelated_held (meaning_of m) content room a.outcome event n).its_kind),
    )

    -- "Drop 2: a path exists and a value after some pair is outside -2^63 to 2^63-1"
    pub drop_2_exactly : Exactly (get_or (merged m b room).kinds k 0 ≡ 5) (IsOutside world (clock e) e.reading)
    drop_2_exactly = (
      events.held_outside (meaning_of m) content room a.outcome event,
      (λ x. (events.outside_held (meaning_of m) content room a.outcome event x).its_kind),
    )

    -- "Drop 3: no drop 2, and the end value is negative"
    pub drop_3_exactly : Exactly (get_or (merged m b room).kinds k 0 ≡ 6) (IsEarly world (clock e) e.reading)
    drop_3_exactly = (
      events.held_early (meaning_of m) content room a.outcome event,
      (λ x. (events.early_held (meaning_of m) content room a.outcome event x).its_kind),
    )

    -- its clock, of source s: "`clocks` without `clock` pins the file: all its events are on its private clock, whatever they name"
    module _ {s : Source} (source : At content.sources e.source s) where
      pub clock_of_pinned : {v : Filed} {l : Listed} → ListedFile (meaning_of m) content s.file.0 v l → Pins l.link → clock e ≡ private_clock s.file.0
      clock_of_pinned = clocks.clock_pinned (accepted_tidy m a.manifest) content (accepted_sound b a.sheet) e source

      -- "an event's clock 0 is its file's private clock"
      pub clock_of_zero : e.clock ≡ 0 → clock e ≡ private_clock s.file.0
      clock_of_zero = clocks.clock_zero (accepted_tidy m a.manifest) content (accepted_sound b a.sheet) e source

      -- else "Clock d (1 to 6) of machine m", the machine that memory holds of its source
      pub clock_of_machine : ((v : Filed) (l : Listed) → ListedFile (meaning_of m) content s.file.0 v l → Pins l.link → ⊥) → (e.clock ≡ 0 → ⊥)
          → clock e ≡ domain_clock e.clock (get_or (merged m b room).machines e.source 0)
      clock_of_machine n z =
          clocks.clock_other (accepted_tidy m a.manifest) content (accepted_sound b a.sheet) e source n z
          ∙ ap (domain_clock e.clock) (sym (ids.machine_at (accepted_tidy m a.manifest) content (accepted_sound b a.sheet) room a.outcome source))

    -- each event is of a source of the sheet
    pub event_source : (s : Source) × At content.sources e.source s
    event_source = (get_or content.sources e.source no_source, get_d_at content.sources e.source no_source ((accepted_sound b a.sheet).events k e event))

  -- "the reference file's private clock": what an entry's number stands for in a correspondence is the file with that entry's path
  pub private_clock_lem : {f : ℕ} {v : Filed} {l : Listed} (x : ListedFile (meaning_of m) content f v l)
      → clock_for (facts_of (meaning_of m) content) (Private x.lists.number) ≡ private_clock f
  private_clock_lem = clocks.private_of (accepted_tidy m a.manifest) content (accepted_sound b a.sheet)

  -- the machine of source j, which is x
  module _ {j : ℕ} {x : Source} (source : At content.sources j x) where
    -- "the `machine` name"
    pub machine_of_file : {v : Filed} {l : Listed} {n : Machine} → ListedFile (meaning_of m) content x.file.0 v l → l.owns ≡ whole_file n
        → get_or (merged m b room).machines j 0 ≡ n.0
    machine_of_file = ids.machine_whole (accepted_tidy m a.manifest) content (accepted_sound b a.sheet) room a.outcome source

    -- "or the name declared for its id"
    pub machine_of_name : {v : Filed} {l : Listed} {items : List (ℤ × Machine)} {i : ℕ} {n : Machine} → ListedFile (meaning_of m) content x.file.0 v l
        → l.owns ≡ parts items → At items i (pos x.id, n) → get_or (merged m b room).machines j 0 ≡ n.0
    machine_of_name = ids.machine_named (accepted_tidy m a.manifest) content (accepted_sound b a.sheet) room a.outcome source

    -- "or else, if the file has one source, the host"
    pub host_of_one : Unsaid (meaning_of m) content x.file.0 → ((i : ℕ) → SourceOf content x.file.0 i → i ≡ j) → get_or (merged m b room).machines j 0 ≡ 0
    host_of_one = ids.host_alone (accepted_tidy m a.manifest) content (accepted_sound b a.sheet) room a.outcome source

    -- "with several, id 0 is the host"
    pub host_of_zero : Unsaid (meaning_of m) content x.file.0 → x.id ≡ 0 → get_or (merged m b room).machines j 0 ≡ 0
    host_of_zero = ids.host_zero (accepted_tidy m a.manifest) content (accepted_sound b a.sheet) room a.outcome source

  -- "and another id is the machine of that id, the same in all such files": two such sources, of one file or of two, have one machine exactly if they
  -- have one id
  pub machine_of_id : {i j n k : ℕ} → ById (meaning_of m) content i n → ById (meaning_of m) content j k
      → Exactly (get_or (merged m b room).machines i 0 ≡ get_or (merged m b room).machines j 0) (n ≡ k)
  machine_of_id x y = (
    ids.same_machine_id (accepted_tidy m a.manifest) content (accepted_sound b a.sheet) room a.outcome x y,
    ids.same_id_machine (accepted_tidy m a.manifest) content (accepted_sound b a.sheet) room a.outcome x y,
  )

  -- "then unnamed ids": it comes after the host and every named machine
  pub ids_after_names : {j n : ℕ} → ById (meaning_of m) content j n → length (meaning_of m).names < get_or (merged m b room).machines j 0
  ids_after_names = ids.past_named (accepted_tidy m a.manifest) content (accepted_sound b a.sheet) room a.outcome
