-- Refusals 32 to 37, of a manifest and a sheet that are each accepted. Each is true or false of what is known of files and sources. Assumes nothing.
use Rattle.std.specs.Prelude.{Bool, true, false, not, ◌&&◌, List, [], ◌∷◌, ℕ, zero, suc, eqb, leb, ltb, length}
use Rattle.text.specs.Reading.{pick}
use Rattle.manifest.specs.Rows.{any}
use Rattle.merged.specs.Facts.{Tie, untied, tied, pinned, Given, silent, whole, named, undeclared, FileFact, Facts}
use Rattle.merged.specs.Machines.{sources_in, machine_count}

-- a check: its number, and whether it applies
pub record Check : Type 0 where
  pub number : ℕ
  pub applies : Facts → Bool

-- ---- 32: sheet has a file, and an entry's path isn't in it

-- a file is the one that entry e lists
abbrev pub listed_by : ℕ → FileFact → Bool
listed_by e f = eqb f.entry e

-- one of the entries below n lists none of the files
unfoldable pub unused : ℕ → List FileFact → Bool
unused zero fs = false
unused (suc n) fs = pick (any (listed_by n) fs) (unused n fs) true

unfoldable pub refusal_32_path_not_in_sheet : Check
refusal_32_path_not_in_sheet = record { number = 32; applies = λ k. not (eqb (length k.files) 0) && unused k.entries k.files }

-- ---- 33: `clocks` on a container

unfoldable pub has_clocks : Tie → Bool
has_clocks untied = false
has_clocks tied = true
has_clocks pinned = true

unfoldable pub refusal_33_clocks_on_a_container : Check
refusal_33_clocks_on_a_container = record { number = 33; applies = λ k. any (λ f. f.container && has_clocks f.tie) k.files }

-- ---- 34: source id not declared in its file's `machines`

unfoldable pub is_undeclared : Given → Bool
is_undeclared silent = false
is_undeclared (whole m) = false
is_undeclared (named m) = false
is_undeclared undeclared = true

unfoldable pub refusal_34_id_not_declared : Check
refusal_34_id_not_declared = record { number = 34; applies = λ k. any (λ x. is_undeclared x.given) k.sources }

-- ---- 35: `machine` on a file with two or more sources: one of these sources tells

unfoldable pub is_whole : Given → Bool
is_whole silent = false
is_whole (whole m) = true
is_whole (named m) = false
is_whole undeclared = false

unfoldable pub refusal_35_machine_on_several_sources : Check
refusal_35_machine_on_several_sources = record { number = 35; applies = λ k. any (λ x. is_whole x.given && leb 2 (sources_in x.file k.sources)) k.sources }

-- ---- 36: pinned file with a snapshot

unfoldable pub is_pinned : Tie → Bool
is_pinned untied = false
is_pinned tied = false
is_pinned pinned = true

unfoldable pub refusal_36_pinned_file_with_a_snapshot : Check
refusal_36_pinned_file_with_a_snapshot = record { number = 36; applies = λ k. any (λ f. is_pinned f.tie && f.recorded) k.files }

-- ---- 37: more than 32 machines

unfoldable pub refusal_37_too_many_machines : Check
refusal_37_too_many_machines = record { number = 37; applies = λ k. ltb 32 (machine_count k) }

-- ---- the order

abbrev pub checks : List Check
checks =
    refusal_32_path_not_in_sheet
    ∷ refusal_33_clocks_on_a_container
    ∷ refusal_34_id_not_declared
    ∷ refusal_35_machine_on_several_sources
    ∷ refusal_36_pinned_file_with_a_snapshot
    ∷ refusal_37_too_many_machines
    ∷ []

-- the number of the first check that applies; 0 if none does
unfoldable pub first_of : List Check → Facts → ℕ
first_of [] k = 0
first_of (c ∷ cs) k = pick (c.applies k) c.number (first_of cs k)
