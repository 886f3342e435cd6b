-- Document 000's manifest with two app_log events, 7 and 9: what memory holds; and what a refusal leaves. The merges that are shut out fail on these. Assumes nothing.
use Rattle.std.specs.Prelude.{◌≡◌, ℕ, zero, suc, pos, replicate, Some}
use Rattle.std.proofs.Math.Path.{refl, ap}
use Rattle.std.proofs.Common.{◌∙◌, arith}
use Rattle.std.proofs.Math.ListN.{get_or}
use Rattle.merged.specs.declared.Summary.{Summary}
use Rattle.merged.specs.Answers.{Merged}
use Rattle.merged.specs.Facts.{parts_of}
use Rattle.merged.specs.declared.Room.{Room}
use Rattle.merged.specs.Merged.{Outcome, refused_by, accepted_by, merged}
use Rattle.merged.proofs.Demands.{machine_of_source}
use Rattle.marked.specs.Inputs.{no_manifest, example, no_bytes, sheet_7_9}
use Rattle.marked.specs.Example.{LongEnough, Written}
use Rattle.marked.proofs.laws.Opened.{of_worlds, of_answers}
use Rattle.marked.proofs.laws.Manifests.{says, no_manifest_means, example_means}
use Rattle.marked.proofs.laws.Sheets.{records_7_9, sheet_7_9_holds}
use Rattle.marked.proofs.laws.Worlds.{world, unrefused, on_host, two_steps_7, two_steps_9}
use Rattle.marked.proofs.laws.Ends.{Known, accepted_so, written, answered}
use Rattle.marked.proofs.laws.Merges.{refused_no_bytes}

pub known_7_9 : Known example sheet_7_9 (says (pos 250000000) 0) records_7_9
known_7_9 = record { manifest = example_means.0; meaning = example_means.1; sheet = sheet_7_9_holds; both = (unrefused _ _).1 }

-- three files, three machines, two events, trace time on the host's BOOTTIME
abbrev pub counts_7_9 : Summary
counts_7_9 = record { files = 3; machines = 3; events = 2; trace = Some (record { 0 = 5 }) }

module _ (room : Room) (h : LongEnough sheet_7_9 room) where
  pub accepted_7_9 : (merged example sheet_7_9 room).answer ≡ Merged counts_7_9
  unfolding of_worlds accepted_by
  accepted_7_9 = answered known_7_9 counts_7_9 (λ room. refl) room h

  pub first_written : Written (merged example sheet_7_9 room) 0 (pos 250000007) 3 2
  unfolding of_worlds of_answers
  first_written = written known_7_9 (world (pos 250000000) 5) (on_host _).1 0 194 (pos 7) (omega arith) refl refl _ two_steps_7 room h

  pub second_written : Written (merged example sheet_7_9 room) 1 (pos 250000009) 3 2
  unfolding of_worlds of_answers
  second_written = written known_7_9 (world (pos 250000000) 5) (on_host _).1 1 194 (pos 9) (omega arith) refl refl _ two_steps_9 room h

  -- source 0 is the phone's
  pub first_machine : get_or (merged example sheet_7_9 room).machines 0 0 ≡ 1
  unfolding of_worlds
  first_machine = ap (λ (x : Outcome). get_or x.machines 0 0) (accepted_so known_7_9 room h) ∙ machine_of_source (says (pos 250000000) 0) (parts_of records_7_9) room 0 (omega arith)

-- ---- what is refused leaves zeros

zeros : {A : Type 0} (z : A) (n k : ℕ) → get_or (replicate n z) k z ≡ z
zeros z zero k = refl
zeros z (suc n) zero = refl
zeros z (suc n) (suc k) = zeros z n k

module _ (room : Room) where
  refused_25 : merged no_manifest no_bytes room ≡ refused_by 25 room
  refused_25 = refused_no_bytes no_manifest no_manifest_means.0 room

  pub zero_written : (k : ℕ) → Written (merged no_manifest no_bytes room) k (pos 0) 0 0
  unfolding refused_by
  zero_written k = record {
    its_time = ap (λ (x : Outcome). get_or x.times k (pos 0)) refused_25 ∙ zeros (pos 0) room.times k;
    its_kind = ap (λ (x : Outcome). get_or x.kinds k 0) refused_25 ∙ zeros 0 room.kinds k;
    its_steps = ap (λ (x : Outcome). get_or x.steps k 0) refused_25 ∙ zeros 0 room.steps k;
  }

  pub zero_machine : (j : ℕ) → get_or (merged no_manifest no_bytes room).machines j 0 ≡ 0
  unfolding refused_by
  zero_machine j = ap (λ (x : Outcome). get_or x.machines j 0) refused_25 ∙ zeros 0 room.machines j
