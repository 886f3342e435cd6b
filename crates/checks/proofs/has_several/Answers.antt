-- `checks::has_several` meets its contract: the count is that of the source's file. Assumes nothing.
use mathlib.Core.Path.{ap, ◌∙◌}
use Prim.Native.Nat.{ℕ}
use lib.Dec.{leb}
use Rattle.merged.specs.Machines.{sources_in}
use Rattle.checks.specs.Table.{source_by, facts_by}
use Rattle.checks.proofs.has_several.Goals as goal

pub returns : goal.returns
unfolding source_by
returns c = ap (leb 2) (c.sources_in.ensures ∙ ap (λ (n : ℕ). sources_in n (facts_by c.args.t.now).sources) c.source_number.ensures)
