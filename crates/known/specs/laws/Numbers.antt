-- The numbers of refusals: 1 to 24 of a manifest. Assumes nothing.
use Rattle.std.specs.Prelude.{◌≡◌, refl, Bool, true, false, List, [], ◌∷◌, ℕ, zero, suc, ◌≤◌, eqb, ltb, length, Result, Err}
use Rattle.std.proofs.Common.{subst, arith, sym, ap, ◌∙◌}
use Rattle.refusals.specs.declared.Refusal.{Refusal}
use Rattle.refusals.specs.declared.Refusal.TheVariants.{ManifestTooLong, StartBytesAbsent, NotJson, TooManyLevels, MemberBesideManifest, NoVersion, VersionNot1, KnownMemberTwice, WrongTypeOrAbsent, Size, UnknownClockName, MachineWithMachines, EmptyMachineName, IdOutOfRange, PathOrIdTwice, ClocksWithoutSyncTo, MachineWithoutFile, SyncToWithoutFile, FileNamesNoEntry, NoMachineOfASplitFile, MachineNotDeclared, OffsetNotAnInteger, OffsetOutOfRange, ClockRelatedToItself, SheetEmptyOrTooLong, RecordCutOff, WrongKindOfRecord, WrongField, SomethingAfterTheEnd, TooManyRecords, PathOrSourceTwice, PathNotInSheet, ClocksOnAContainer, IdNotDeclared, MachineOnSeveralSources, PinnedFileWithASnapshot, TooManyMachines, MemoryTooShort}
use Rattle.refusals.specs.Refusals.{number, refused}
use Rattle.text.specs.Reading.{Text, Out, done, bad, deep, pick}
use Rattle.grammar.specs.Tree.{Tree}
use Rattle.grammar.specs.Document.{read}
use Rattle.manifest.specs.View.{Cell, absent, wrong, many, one}
use Rattle.manifest.specs.Rows.{Manifest}
use Rattle.manifest.specs.Rules.{Rule, applies, first, rules, root, refusal, refusal_5_or_later, refusal_6_no_version, refusal_7_version_not_1, refusal_8_known_member_twice, refusal_9_wrong_type_or_absent, refusal_10_size, refusal_11_unknown_clock_name, refusal_12_machine_with_machines, refusal_13_empty_machine_name, refusal_14_id_out_of_range, refusal_15_path_or_id_twice, refusal_16_clocks_without_sync_to, refusal_17_machine_without_file, refusal_18_sync_to_without_file, refusal_19_file_names_no_entry, refusal_20_no_machine_of_a_split_file, refusal_21_machine_not_declared, refusal_22_offset_not_an_integer, refusal_23_offset_out_of_range, refusal_24_clock_related_to_itself}
use Rattle.manifest.specs.Manifest.{most_bytes, starts, refusal_in, refusal_of}

-- ---- a manifest

abbrev Few : List Rule → Type 0
Few [] = Unit
Few (r ∷ rs) = (r.number ≤ 37) × Few rs

first_few : (rs : List Rule) (m : Manifest) → Few rs → first rs m ≤ 37
unfolding first pick
first_few [] m f = omega arith
first_few (r ∷ rs) m f = go (applies r m) (first_few rs m f.1)
  where
    go : (b : Bool) → first rs m ≤ 37 → pick b r.number (first rs m) ≤ 37
    go true h = f.0
    go false h = h

rules_few : Few rules
unfolding refusal_6_no_version refusal_7_version_not_1 refusal_8_known_member_twice refusal_9_wrong_type_or_absent refusal_10_size refusal_11_unknown_clock_name refusal_12_machine_with_machines refusal_13_empty_machine_name refusal_14_id_out_of_range refusal_15_path_or_id_twice refusal_16_clocks_without_sync_to refusal_17_machine_without_file refusal_18_sync_to_without_file refusal_19_file_names_no_entry refusal_20_no_machine_of_a_split_file refusal_21_machine_not_declared refusal_22_offset_not_an_integer refusal_23_offset_out_of_range refusal_24_clock_related_to_itself
rules_few = (
  omega arith,
  (
    omega arith,
    (
      omega arith,
      (
        omega arith,
        (
          omega arith,
          (
            omega arith,
            (
              omega arith,
              (
                omega arith,
                (
                  omega arith,
                  (
                    omega arith,
                    (omega arith, (omega arith, (omega arith, (omega arith, (omega arith, (omega arith, (omega arith, (omega arith, (omega arith, tt))))))))),
                  ),
                ),
              ),
            ),
          ),
        ),
      ),
    ),
  ),
)

read_few : (o : Out Tree) → refusal_in o ≤ 37
unfolding refusal_in refusal refusal_5_or_later
read_few (done t j) = go (root t)
  where
    go : (c : Cell Manifest) → refusal_5_or_later c ≤ 37
    go absent = omega arith
    go wrong = omega arith
    go (many i) = omega arith
    go (one m) = first_few rules m rules_few
read_few (bad p) = omega arith
read_few (deep p) = omega arith

pub manifest_few : (s : Text) → refusal_of s ≤ 37
unfolding refusal_of pick
manifest_few s = go (eqb (length s) 0) (ltb most_bytes (length s)) (starts s)
  where
    go : (a b c : Bool) → pick a 0 (pick b 1 (pick c (refusal_in (read s)) 2)) ≤ 37
    go true b c = omega arith
    go false true c = omega arith
    go false false true = read_few (read s)
    go false false false = omega arith

-- ---- a result

-- no refusal has the number 0
number_some : (r : Refusal) → number r ≡ 0 → ⊥
number_some ManifestTooLong e = absurd (omega arith)
number_some StartBytesAbsent e = absurd (omega arith)
number_some NotJson e = absurd (omega arith)
number_some TooManyLevels e = absurd (omega arith)
number_some MemberBesideManifest e = absurd (omega arith)
number_some NoVersion e = absurd (omega arith)
number_some VersionNot1 e = absurd (omega arith)
number_some KnownMemberTwice e = absurd (omega arith)
number_some WrongTypeOrAbsent e = absurd (omega arith)
number_some Size e = absurd (omega arith)
number_some UnknownClockName e = absurd (omega arith)
number_some MachineWithMachines e = absurd (omega arith)
number_some EmptyMachineName e = absurd (omega arith)
number_some IdOutOfRange e = absurd (omega arith)
number_some PathOrIdTwice e = absurd (omega arith)
number_some ClocksWithoutSyncTo e = absurd (omega arith)
number_some MachineWithoutFile e = absurd (omega arith)
number_some SyncToWithoutFile e = absurd (omega arith)
number_some FileNamesNoEntry e = absurd (omega arith)
number_some NoMachineOfASplitFile e = absurd (omega arith)
number_some MachineNotDeclared e = absurd (omega arith)
number_some OffsetNotAnInteger e = absurd (omega arith)
number_some OffsetOutOfRange e = absurd (omega arith)
number_some ClockRelatedToItself e = absurd (omega arith)
number_some SheetEmptyOrTooLong e = absurd (omega arith)
number_some RecordCutOff e = absurd (omega arith)
number_some WrongKindOfRecord e = absurd (omega arith)
number_some WrongField e = absurd (omega arith)
number_some SomethingAfterTheEnd e = absurd (omega arith)
number_some TooManyRecords e = absurd (omega arith)
number_some PathOrSourceTwice e = absurd (omega arith)
number_some PathNotInSheet e = absurd (omega arith)
number_some ClocksOnAContainer e = absurd (omega arith)
number_some IdNotDeclared e = absurd (omega arith)
number_some MachineOnSeveralSources e = absurd (omega arith)
number_some PinnedFileWithASnapshot e = absurd (omega arith)
number_some TooManyMachines e = absurd (omega arith)
number_some MemoryTooShort e = absurd (omega arith)

pub refused_some : {A : Type 0} {x : Result A Refusal} {r : Refusal} → x ≡ Err r → refused x ≡ 0 → ⊥
refused_some {r = r} e z = number_some r (sym (ap refused e) ∙ z)
