-- A number tells its refusal, and a result that is told by it: what is promised of a number is promised of the refusal. By the way back, from each number to its
-- refusal. Assumes nothing.
use Rattle.std.specs.Prelude.{◌≡◌, ℕ, Option, Some, None, Result, Ok, Err, ⊤, eqb, cond}
use Rattle.std.proofs.Common.{refl, sym, ap, ◌∙◌}
use Rattle.refusals.specs.declared.Refusal.{Refusal}
use Rattle.refusals.specs.declared.Refusal.TheVariants.{ManifestTooLong, StartBytesAbsent, NotJson, TooManyLevels, MemberBesideManifest, NoVersion, VersionNot1, KnownMemberTwice, WrongTypeOrAbsent, Size, UnknownClockName, MachineWithMachines, EmptyMachineName, IdOutOfRange, PathOrIdTwice, ClocksWithoutSyncTo, MachineWithoutFile, SyncToWithoutFile, FileNamesNoEntry, NoMachineOfASplitFile, MachineNotDeclared, OffsetNotAnInteger, OffsetOutOfRange, ClockRelatedToItself, SheetEmptyOrTooLong, RecordCutOff, WrongKindOfRecord, WrongField, SomethingAfterTheEnd, TooManyRecords, PathOrSourceTwice, PathNotInSheet, ClocksOnAContainer, IdNotDeclared, MachineOnSeveralSources, PinnedFileWithASnapshot, TooManyMachines, MemoryTooShort}
use Rattle.refusals.specs.Refusals.{number, refused}

-- the refusal of a number
abbrev pub named : ℕ → Option Refusal
named n =
    cond (eqb n 1) (Some ManifestTooLong) (
    cond (eqb n 2) (Some StartBytesAbsent) (
    cond (eqb n 3) (Some NotJson) (
    cond (eqb n 4) (Some TooManyLevels) (
    cond (eqb n 5) (Some MemberBesideManifest) (
    cond (eqb n 6) (Some NoVersion) (
    cond (eqb n 7) (Some VersionNot1) (
    cond (eqb n 8) (Some KnownMemberTwice) (
    cond (eqb n 9) (Some WrongTypeOrAbsent) (
    cond (eqb n 10) (Some Size) (
    cond (eqb n 11) (Some UnknownClockName) (
    cond (eqb n 12) (Some MachineWithMachines) (
    cond (eqb n 13) (Some EmptyMachineName) (
    cond (eqb n 14) (Some IdOutOfRange) (
    cond (eqb n 15) (Some PathOrIdTwice) (
    cond (eqb n 16) (Some ClocksWithoutSyncTo) (
    cond (eqb n 17) (Some MachineWithoutFile) (
    cond (eqb n 18) (Some SyncToWithoutFile) (
    cond (eqb n 19) (Some FileNamesNoEntry) (
    cond (eqb n 20) (Some NoMachineOfASplitFile) (
    cond (eqb n 21) (Some MachineNotDeclared) (
    cond (eqb n 22) (Some OffsetNotAnInteger) (
    cond (eqb n 23) (Some OffsetOutOfRange) (
    cond (eqb n 24) (Some ClockRelatedToItself) (
    cond (eqb n 25) (Some SheetEmptyOrTooLong) (
    cond (eqb n 26) (Some RecordCutOff) (
    cond (eqb n 27) (Some WrongKindOfRecord) (
    cond (eqb n 28) (Some WrongField) (
    cond (eqb n 29) (Some SomethingAfterTheEnd) (
    cond (eqb n 30) (Some TooManyRecords) (
    cond (eqb n 31) (Some PathOrSourceTwice) (
    cond (eqb n 32) (Some PathNotInSheet) (
    cond (eqb n 33) (Some ClocksOnAContainer) (
    cond (eqb n 34) (Some IdNotDeclared) (
    cond (eqb n 35) (Some MachineOnSeveralSources) (
    cond (eqb n 36) (Some PinnedFileWithASnapshot) (
    cond (eqb n 37) (Some TooManyMachines) (
    cond (eqb n 38) (Some MemoryTooShort) (
    None))))))))))))))))))))))))))))))))))))))

pub named_by_number : (r : Refusal) → named (number r) ≡ Some r
named_by_number ManifestTooLong = refl
named_by_number StartBytesAbsent = refl
named_by_number NotJson = refl
named_by_number TooManyLevels = refl
named_by_number MemberBesideManifest = refl
named_by_number NoVersion = refl
named_by_number VersionNot1 = refl
named_by_number KnownMemberTwice = refl
named_by_number WrongTypeOrAbsent = refl
named_by_number Size = refl
named_by_number UnknownClockName = refl
named_by_number MachineWithMachines = refl
named_by_number EmptyMachineName = refl
named_by_number IdOutOfRange = refl
named_by_number PathOrIdTwice = refl
named_by_number ClocksWithoutSyncTo = refl
named_by_number MachineWithoutFile = refl
named_by_number SyncToWithoutFile = refl
named_by_number FileNamesNoEntry = refl
named_by_number NoMachineOfASplitFile = refl
named_by_number MachineNotDeclared = refl
named_by_number OffsetNotAnInteger = refl
named_by_number OffsetOutOfRange = refl
named_by_number ClockRelatedToItself = refl
named_by_number SheetEmptyOrTooLong = refl
named_by_number RecordCutOff = refl
named_by_number WrongKindOfRecord = refl
named_by_number WrongField = refl
named_by_number SomethingAfterTheEnd = refl
named_by_number TooManyRecords = refl
named_by_number PathOrSourceTwice = refl
named_by_number PathNotInSheet = refl
named_by_number ClocksOnAContainer = refl
named_by_number IdNotDeclared = refl
named_by_number MachineOnSeveralSources = refl
named_by_number PinnedFileWithASnapshot = refl
named_by_number TooManyMachines = refl
named_by_number MemoryTooShort = refl

abbrev or_else : {A : Type 0} → A → Option A → A
or_else a (Some x) = x
or_else a None = a

-- what has a way back is told by what it is made into
pub back_tells : {A B : Type 0} (f : A → B) (back : B → Option A) → ((a : A) → back (f a) ≡ Some a) → (a b : A) → f a ≡ f b → a ≡ b
back_tells f back known a b e = ap (or_else a) (sym (known a) ∙ ap back e ∙ known b)

-- two refusals of one number are one
pub number_tells : (a b : Refusal) → number a ≡ number b → a ≡ b
number_tells = back_tells number named named_by_number

-- the result that a number stands for: 0 for no refusal
abbrev result_of : Option Refusal → Result ⊤ Refusal
result_of None = Ok tt
result_of (Some r) = Err r

result_known : (a : Result ⊤ Refusal) → Some (result_of (named (refused a))) ≡ Some a
result_known (Ok x) = refl
result_known (Err r) = ap (λ o. Some (result_of o)) (named_by_number r)

-- two results that are a refusal or nothing are one where they are told by one number
pub refused_tells : (a b : Result ⊤ Refusal) → refused a ≡ refused b → a ≡ b
refused_tells = back_tells refused (λ n. Some (result_of (named n))) result_known
