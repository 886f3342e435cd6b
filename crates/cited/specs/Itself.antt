-- The two clocks that an entry relates, by the columns of the index. Refusal 24 asks whether they are one. Assumes nothing.
use Rattle.std.specs.Prelude.{List, ℕ}
use Rattle.text.specs.Reading.{Text}
use Rattle.manifest.specs.Rules.{Clock, clock_at}
use Rattle.index.specs.Index.{col_of, text_cell, entry_at}

-- the clock that entry i relates: the one that `clock` (column 5) and `machine` (column 6) of its `clocks` name for its own file.
-- "The source clock is otherwise the named clock of `clocks.machine` or the base machine"; without `clock` it is the file's private clock
abbrev pub own_clock : Text → List ℕ → ℕ → Clock
own_clock s ix i = clock_at i (entry_at s ix i) (text_cell s (col_of ix i 5)) (text_cell s (col_of ix i 6))

-- the clock that entry i relates it to: the one that `clock` (column 10) and `machine` (column 9) of its `sync_to` name for the file of entry e.
-- "the reference likewise, or the reference file's private clock if `sync_to.clock` is absent"
abbrev pub other_clock : Text → List ℕ → ℕ → ℕ → Clock
other_clock s ix i e = clock_at e (entry_at s ix e) (text_cell s (col_of ix i 10)) (text_cell s (col_of ix i 9))
