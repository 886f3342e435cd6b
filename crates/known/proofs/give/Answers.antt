-- `known::give` meets its contract: each number is that of the tables. Assumes nothing.
use Rattle.known.specs.Known.{given_by}
use Rattle.checks.specs.Table.{facts_by}
use Rattle.merged.specs.Timeline.{trace_by}
use mathlib.Core.Path.{ap, ◌∙◌}
use Prim.Native.Nat.{ℕ, min}
use Rattle.known.proofs.give.Goals as goal

pub returns : goal.returns
unfolding given_by
returns c = λ i. record { links = c.args.links; events = c.args.table.events.count; machines = (c.byte.ensures ∙ ap (λ (n : ℕ). min 255 n) c.machines-count.ensures.0) i; files = c.byte-2.ensures i; pinned = c.pinned.ensures i; trace = record { 0 = (c.clock-trace.ensures ∙ ap (trace_by (facts_by c.args.t.now)) c.timeline-asked.ensures) i } }
