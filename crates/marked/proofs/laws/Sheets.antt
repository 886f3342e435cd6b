-- What the marked sheets hold, by computing: their records. Assumes nothing.
use Rattle.std.specs.Prelude.{◌≡◌, refl, false, List, [], ◌∷◌, ℕ, pos}
use Rattle.manifest.specs.Names.{bytes}
use Rattle.records.specs.Layout.{Record, file, source, snapshot, event}
use Rattle.sheet.specs.Sheets.{refused, records}
use Rattle.merged.specs.Merged.{records_of}
use Rattle.marked.specs.Inputs.{no_bytes, sheet_00, sheet_7, sheet_7_9, sheet_past, top}
use Rattle.marked.proofs.laws.Opened.{of_sheets}

-- the three files, a source of each with id 0, and what comes then
abbrev pub three : List Record → List Record
three rest =
    file false 0 (bytes "phone.pftrace")
    ∷ file false 0 (bytes "watch.pftrace")
    ∷ file false 0 (bytes "app_log.json")
    ∷ source (record { file = record { 0 = 0 }; id = 0 })
    ∷ source (record { file = record { 0 = 1 }; id = 0 })
    ∷ source (record { file = record { 0 = 2 }; id = 0 })
    ∷ rest

-- one file and its source, a snapshot and an event
abbrev pub records_past : List Record
records_past =
    file false 6 (bytes "a")
    ∷ source (record { file = record { 0 = 0 }; id = 0 })
    ∷ snapshot (record { source = 0; clock = 3; reading = pos 0; clock2 = 6; reading2 = pos 1 })
    ∷ event (record { source = 0; clock = 3; reading = top })
    ∷ []

-- an event of app_log
abbrev pub logged : ℕ → Record
logged t = event (record { source = 2; clock = 0; reading = pos t })

abbrev pub records_7 : List Record
records_7 = three (logged 7 ∷ [])

abbrev pub records_7_9 : List Record
records_7_9 = three (logged 7 ∷ logged 9 ∷ [])

pub no_bytes_refused : records_of no_bytes ≡ refused 25
unfolding of_sheets
no_bytes_refused = refl

pub sheet_00_holds : records_of sheet_00 ≡ records []
unfolding of_sheets
sheet_00_holds = refl

pub sheet_7_holds : records_of sheet_7 ≡ records records_7
unfolding of_sheets
sheet_7_holds = refl

pub sheet_7_9_holds : records_of sheet_7_9 ≡ records records_7_9
unfolding of_sheets
sheet_7_9_holds = refl

pub sheet_past_holds : records_of sheet_past ≡ records records_past
unfolding of_sheets
sheet_past_holds = refl
