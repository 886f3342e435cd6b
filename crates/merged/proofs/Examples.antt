-- Worked examples. Assumes nothing.
use Rattle.std.specs.Prelude.{◌≡◌, refl, [], ◌∷◌, pos, replicate, None}
use Rattle.std.proofs.Common.{ap}
use Rattle.text.specs.Reading.{pick}
use Rattle.bits.specs.Bits.{number}
use Rattle.manifest.specs.Rows.{any}
use Rattle.text.specs.Reading as text
use Rattle.text.specs.Numbers as digits
use Rattle.text.specs.Class as class
use Rattle.grammar.specs.Document as json
use Rattle.manifest.specs.Meaning.{Meaning, nothing_said}
use Rattle.manifest.specs.Manifest.{refusal_of, meaning_in, meaning_of}
use Rattle.records.specs.Layout.{bytes_at, record_of, record_at}
use Rattle.records.specs.Layout.{pick as pickRecord}
use Rattle.records.specs.Faults.{fault_of, after_end, step_for, step_at}
use Rattle.sheet.specs.Lists.{files_of, paths_of, sources_of, snapshots_of, events_of}
use Rattle.sheet.specs.Twice.{among, repeats, same_bytes, again}
use Rattle.sheet.specs.Sheets.{records_from, sheet_of}
use Rattle.clocks.specs.Answers.{answers_of}
use Rattle.merged.specs.Answers.{Merged}
use Rattle.merged.specs.Facts.{facts_of, file_facts}
use Rattle.merged.specs.Machines.{distinct, ids_by, unnamed, machine_count, machines_of}
use Rattle.merged.specs.Refusals.{unused, first_of, refusal_32_path_not_in_sheet, refusal_33_clocks_on_a_container, refusal_34_id_not_declared, refusal_35_machine_on_several_sources, refusal_36_pinned_file_with_a_snapshot, refusal_37_too_many_machines}
use Rattle.merged.specs.Timeline.{trace_of}
use Rattle.merged.specs.Merged.{once, records_of, Room, roomy, refused_by, answers_in, accepted_by, refusal_joined, joined, merged_with, merged}

-- lent memory for four sources and two events
abbrev room : Room
room = record { machines = 4; times = 2; kinds = 2; steps = 2; matrix = 50176; readings = 2; clocks = 2 }

-- no bytes are no manifest, which says nothing
no_manifest : meaning_of [] ≡ nothing_said
unfolding meaning_of meaning_in refusal_of pick json.read text.next json.value json.either text.peek json.scalar digits.number digits.int digits.digits class.digit class.class_of
no_manifest = refl

-- "Sheet `00` with no manifest: accepted, nothing in it"
nothing_in_it : merged [] (0x00 ∷ []) room
    ≡ record {
      answer = Merged (record { files = 0; machines = 1; events = 0; trace = None });
      machines = replicate 4 0;
      times = replicate 2 (pos 0);
      kinds = replicate 2 0;
      steps = replicate 2 0;
    }
unfolding merged merged_with joined refusal_joined accepted_by refused_by answers_in roomy records_of once pick refusal_of facts_of file_facts distinct ids_by unnamed machine_count machines_of unused first_of refusal_32_path_not_in_sheet refusal_33_clocks_on_a_container refusal_34_id_not_declared refusal_35_machine_on_several_sources refusal_36_pinned_file_with_a_snapshot refusal_37_too_many_machines trace_of any answers_of sheet_of records_from step_at step_for record_at record_of pickRecord fault_of after_end bytes_at number again repeats among same_bytes files_of paths_of sources_of snapshots_of events_of
nothing_in_it = ap (λ (w : Meaning). merged_with w (records_of (0x00 ∷ [])) room) no_manifest

-- "A sheet of no bytes: 25"
no_sheet : merged [] [] room ≡ refused_by 25 room
unfolding merged merged_with joined refusal_joined accepted_by refused_by roomy records_of once pick refusal_of meaning_of
no_sheet = refl
