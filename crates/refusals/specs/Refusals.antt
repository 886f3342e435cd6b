-- The refusals by number, as document 01 counts them; and a result that may be a refusal, by number.
use Rattle.std.specs.Prelude.{ℕ, List, ◌++◌, Result, Ok, Err, codes}
use Rattle.std.specs.Fmt.{decimal}
use Rattle.refusals.specs.declared.Refusal.{Refusal}
use Rattle.refusals.specs.declared.Refusal.TheVariants.{ManifestTooLong, StartBytesAbsent, NotJson, TooManyLevels, MemberBesideManifest, NoVersion, VersionNot1, KnownMemberTwice, WrongTypeOrAbsent, Size, UnknownClockName, MachineWithMachines, EmptyMachineName, IdOutOfRange, PathOrIdTwice, ClocksWithoutSyncTo, MachineWithoutFile, SyncToWithoutFile, FileNamesNoEntry, NoMachineOfASplitFile, MachineNotDeclared, OffsetNotAnInteger, OffsetOutOfRange, ClockRelatedToItself, SheetEmptyOrTooLong, RecordCutOff, WrongKindOfRecord, WrongField, SomethingAfterTheEnd, TooManyRecords, PathOrSourceTwice, PathNotInSheet, ClocksOnAContainer, IdNotDeclared, MachineOnSeveralSources, PinnedFileWithASnapshot, TooManyMachines, MemoryTooShort}

-- the number of a refusal
abbrev pub number : Refusal → ℕ
number ManifestTooLong = 1
number StartBytesAbsent = 2
number NotJson = 3
number TooManyLevels = 4
number MemberBesideManifest = 5
number NoVersion = 6
number VersionNot1 = 7
number KnownMemberTwice = 8
number WrongTypeOrAbsent = 9
number Size = 10
number UnknownClockName = 11
number MachineWithMachines = 12
number EmptyMachineName = 13
number IdOutOfRange = 14
number PathOrIdTwice = 15
number ClocksWithoutSyncTo = 16
number MachineWithoutFile = 17
number SyncToWithoutFile = 18
number FileNamesNoEntry = 19
number NoMachineOfASplitFile = 20
number MachineNotDeclared = 21
number OffsetNotAnInteger = 22
number OffsetOutOfRange = 23
number ClockRelatedToItself = 24
number SheetEmptyOrTooLong = 25
number RecordCutOff = 26
number WrongKindOfRecord = 27
number WrongField = 28
number SomethingAfterTheEnd = 29
number TooManyRecords = 30
number PathOrSourceTwice = 31
number PathNotInSheet = 32
number ClocksOnAContainer = 33
number IdNotDeclared = 34
number MachineOnSeveralSources = 35
number PinnedFileWithASnapshot = 36
number TooManyMachines = 37
number MemoryTooShort = 38

-- the text of a refusal: "Otherwise `refused N` alone"
abbrev pub refused_text : Refusal → List ℕ
refused_text r = codes "refused " ++ decimal (number r)

-- the number of the refusal that a result is; 0 of a result that is none
abbrev pub refused : {A : Type 0} → Result A Refusal → ℕ
refused (Ok x) = 0
refused (Err r) = number r
