-- `reader::later` meets its contract: part after part, as the rules stand one after the other; what is known of the paths and the names comes from the last part, which settles the index, and tells the others of them. Assumes nothing.
use mathlib.Core.Path.{ap}
use native.Mathlib.Omega.{arith}
use Rattle.finds.specs.Finds.{of_entries}
use Rattle.reader.proofs.Ends.{sizes_told, once_told, in_sizes, in_once, in_cited}
use Rattle.reader.proofs.later.Goals as goal

pub returns-then-size-ne0 : goal.returns-then-size-ne0
returns-then-size-ne0 c =
    let j = c.refusal-judged.ensures in (
      j.index,
      in_sizes _ (sizes_told _ j.broken j.names_broken c.either-broken.ensures j.names_empty c.refusal-size.ensures) (λ q. omega arith),
      record { cites_right = j.cites; trace_right = j.trace; prints_right = ap (of_entries _) j.prints },
    )

pub returns-then-twice-ne0 : goal.returns-then-twice-ne0
returns-then-twice-ne0 c =
    let j = c.refusal-judged.ensures in (
      j.index,
      in_once _ (sizes_told _ j.broken j.names_broken c.either-broken.ensures j.names_empty c.refusal-size.ensures) (omega arith) (once_told _ j.twice c.refusal-twice.ensures) (λ q. omega arith),
      record { cites_right = j.cites; trace_right = j.trace; prints_right = ap (of_entries _) j.prints },
    )

pub returns : goal.returns
returns c =
    let j = c.refusal-judged.ensures in (
      j.index,
      in_cited _ (sizes_told _ j.broken j.names_broken c.either-broken.ensures j.names_empty c.refusal-size.ensures) (omega arith) (once_told _ j.twice c.refusal-twice.ensures) (omega arith) j.refusal,
      record { cites_right = j.cites; trace_right = j.trace; prints_right = ap (of_entries _) j.prints },
    )
