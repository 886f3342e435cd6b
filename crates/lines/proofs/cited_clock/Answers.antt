-- `lines::cited_clock` meets its contract: a law for each kind of cited clock. Assumes nothing.
use mathlib.Core.Path.{sym, ap, ◌∙◌}
use Prim.Native.Nat.{ℕ}
use Rattle.merged.specs.Timeline.{private_clock, clock_for}
use Rattle.checks.specs.Table.{facts_by}
use Rattle.lines.proofs.cited_clock.Goals as goal

pub returns-in-Private : goal.returns-in-Private
unfolding clock_for
returns-in-Private c = c.private_of.ensures ∙ (ap (λ (f : ℕ). private_clock f) c.file_of.ensures ∙ sym (ap (clock_for (facts_by c.args.t.now)) c.in-Private.is))

pub returns-in-Domain : goal.returns-in-Domain
unfolding clock_for
returns-in-Domain c = c.clock_on.ensures ∙ sym (ap (clock_for (facts_by c.args.t.now)) c.in-Domain.is)
