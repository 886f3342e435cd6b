-- The marked merges: what is known of each two inputs, put together. Assumes nothing.
use Rattle.std.specs.Prelude.{◌≡◌, refl, List, [], ◌∷◌, ℕ, pos, neg_ℤ, Some}
use Rattle.std.proofs.Common.{arith}
use Rattle.std.proofs.Math.Numerals.{unary_clauses}
use Rattle.text.specs.Reading.{Text}
use Rattle.manifest.specs.Meaning.{nothing_said}
use Rattle.clocks.specs.Answers.{answers_of}
use Rattle.manifest.specs.Manifest.{refusal_of, meaning_of}
use Rattle.merged.specs.declared.Summary.{Summary}
use Rattle.merged.specs.Answers.{Merged}
use Rattle.merged.specs.declared.Room.{Room}
use Rattle.merged.specs.Merged.{records_of, refused_by, answers_in, accepted_by, merged}
use Rattle.marked.specs.Inputs.{no_manifest, example, on_the_phone, eight_less, too_low, lowest, no_bytes, sheet_00, sheet_7, sheet_past, top}
use Rattle.marked.specs.Example.{goes, holds, LongEnough, Written, OnPath, nothing_in_it}
use Rattle.marked.proofs.laws.Opened.{of_worlds, of_answers}
use Rattle.marked.proofs.laws.Manifests.{says, no_manifest_means, example_means, on_the_phone_means, eight_less_means, lowest_means, too_low_refused}
use Rattle.marked.proofs.laws.Sheets.{records_7, records_past, no_bytes_refused, sheet_00_holds, sheet_7_holds, sheet_past_holds}
use Rattle.marked.proofs.laws.Worlds.{world, world_past, unrefused, on_host, on_phone, past_known, by_two, by_one, two_steps_7, one_step_7, early_7, past_top}
use Rattle.marked.proofs.laws.Ends.{manifest_refused, sheet_refused, Known, accepted_so, written, answered, on_path}

-- ---- what is refused

pub refused_no_bytes : (m : Text) → refusal_of m ≡ 0 → (room : Room) → merged m no_bytes room ≡ refused_by 25 room
refused_no_bytes m e room = sheet_refused m no_bytes 25 e no_bytes_refused room

pub refused_too_low : (b : List ℕ) (room : Room) → merged too_low b room ≡ refused_by 23 room
refused_too_low b room = manifest_refused too_low b 23 too_low_refused refl room

-- ---- sheet `00` with no manifest

pub known_00 : Known no_manifest sheet_00 nothing_said []
unfolding of_worlds
known_00 = record { manifest = no_manifest_means.0; meaning = no_manifest_means.1; sheet = sheet_00_holds; both = refl }

pub reads_00 : (room : Room) → LongEnough sheet_00 room → merged no_manifest sheet_00 room ≡ nothing_in_it room
unfolding of_worlds accepted_by answers_in answers_of
reads_00 room h = simp unary_clauses at (accepted_so known_00 room h)

-- ---- document 000's example and its variants

pub known_7 : Known example sheet_7 (says (pos 250000000) 0) records_7
known_7 = record { manifest = example_means.0; meaning = example_means.1; sheet = sheet_7_holds; both = (unrefused _ _).0 }

pub known_phone : Known on_the_phone sheet_7 (says (pos 250000000) 1) records_7
known_phone = record { manifest = on_the_phone_means.0; meaning = on_the_phone_means.1; sheet = sheet_7_holds; both = (unrefused _ _).0 }

pub known_less : Known eight_less sheet_7 (says (neg_ℤ (pos 8)) 1) records_7
known_less = record { manifest = eight_less_means.0; meaning = eight_less_means.1; sheet = sheet_7_holds; both = (unrefused _ _).0 }

pub known_lowest : Known lowest sheet_7 (says (neg_ℤ (pos 9223372036854775807)) 0) records_7
known_lowest = record { manifest = lowest_means.0; meaning = lowest_means.1; sheet = sheet_7_holds; both = (unrefused _ _).0 }

-- three files, three machines, one event, and trace time on this clock
abbrev pub counts : ℕ → Summary
counts trace = record { files = 3; machines = 3; events = 1; trace = Some (record { 0 = trace }) }

pub lowest_accepted : (room : Room) → LongEnough sheet_7 room → (merged lowest sheet_7 room).answer ≡ Merged (counts 5)
unfolding of_worlds accepted_by
lowest_accepted = answered known_lowest (counts 5) (λ room. refl)

pub example_accepted : (room : Room) → LongEnough sheet_7 room → (merged example sheet_7 room).answer ≡ Merged (counts 5)
unfolding of_worlds accepted_by
example_accepted = answered known_7 (counts 5) (λ room. refl)

pub phone_accepted : (room : Room) → LongEnough sheet_7 room → (merged on_the_phone sheet_7 room).answer ≡ Merged (counts 11)
unfolding of_worlds accepted_by
phone_accepted = answered known_phone (counts 11) (λ room. refl)

pub path_7 : OnPath (meaning_of example) (records_of sheet_7) 0 194 3 (11 ∷ 5 ∷ [])
unfolding of_worlds
path_7 = on_path known_7 (world (pos 250000000) 5) (on_host _).0 0 194 3 (11 ∷ 5 ∷ []) refl (by_two _)

pub written_7 : (room : Room) → LongEnough sheet_7 room → Written (merged example sheet_7 room) 0 (pos 250000007) 3 2
unfolding of_worlds of_answers
written_7 = written known_7 (world (pos 250000000) 5) (on_host _).0 0 194 (pos 7) (omega arith) refl refl _ two_steps_7

pub goes_7 : holds (goes example sheet_7 0 194 (11 ∷ 5 ∷ []) (pos 250000007) 3 2)
goes_7 = (path_7, written_7)

pub path_phone : OnPath (meaning_of on_the_phone) (records_of sheet_7) 0 194 1 (11 ∷ [])
unfolding of_worlds
path_phone = on_path known_phone (world (pos 250000000) 11) (on_phone _) 0 194 1 (11 ∷ []) refl (by_one _)

pub written_phone : (room : Room) → LongEnough sheet_7 room → Written (merged on_the_phone sheet_7 room) 0 (pos 250000007) 1 1
unfolding of_worlds of_answers
written_phone = written known_phone (world (pos 250000000) 11) (on_phone _) 0 194 (pos 7) (omega arith) refl refl _ one_step_7

pub goes_phone : holds (goes on_the_phone sheet_7 0 194 (11 ∷ []) (pos 250000007) 1 1)
goes_phone = (path_phone, written_phone)

pub written_less : (room : Room) → LongEnough sheet_7 room → Written (merged eight_less sheet_7 room) 0 (pos 0) 6 0
unfolding of_worlds of_answers
written_less = written known_less (world (neg_ℤ (pos 8)) 11) (on_phone _) 0 194 (pos 7) (omega arith) refl refl _ early_7

-- ---- past the top

pub known_past : Known no_manifest sheet_past nothing_said records_past
known_past = record { manifest = no_manifest_means.0; meaning = no_manifest_means.1; sheet = sheet_past_holds; both = past_known.0 }

pub written_past : (room : Room) → LongEnough sheet_past room → Written (merged no_manifest sheet_past room) 0 (pos 0) 5 0
unfolding of_worlds of_answers
written_past = written known_past world_past past_known.1 0 2 top (omega arith) refl refl _ past_top
