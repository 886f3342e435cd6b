-- `traced::clock` meets its contract: what is asked for is the clock, or the claimed one. Assumes nothing.
use mathlib.Core.Path.{sym, ap, ◌∙◌}
use Rattle.merged.specs.Timeline.{trace_by}
use Rattle.checks.specs.Table.{facts_by}
use Rattle.traced.specs.laws.Files.{unset_is}
use Rattle.traced.proofs.clock.Goals as goal

pub returns-in-Set : goal.returns-in-Set
unfolding trace_by
returns-in-Set c = ap (λ k. k.0) c.domain_clock.ensures ∙ sym (ap (trace_by (facts_by c.args.t.now)) c.in-Set.is)

pub returns-in-Unset : goal.returns-in-Unset
returns-in-Unset c = c.claimed.ensures ∙ sym (ap (trace_by (facts_by c.args.t.now)) c.in-Unset.is ∙ unset_is c.args.t.now)
