-- `checks::machines` meets its contract: the invariant is that the ids before source j are met, each once, and that the machines before it are written.
-- Assumes nothing.
use mathlib.Core.Path.{ap, ◌∙◌}
use Prim.Native.Nat.{ℕ, ◌+◌}
use native.Mathlib.Omega.{arith}
use lib.ListN.{replicate, length-replicate}
use Rattle.checks.specs.Table.{facts_by}
use Rattle.checks.specs.laws.Listed.{sources_most}
use Rattle.checks.specs.laws.Met.{reached_start, reached_length, reached_turn, reached_count, reached_table}
use Rattle.checks.proofs.machines.Goals as goal

pub loop-j-init : goal.loop-j-init
loop-j-init c = reached_start c.args.t.now (replicate {A = ℕ} 32 0) (length-replicate {A = ℕ} 32 0)

pub enrol-n-requires : goal.enrol-n-requires
enrol-n-requires c = (omega (arith, c.sources-j-end.ensures, sources_most c.args.t.now), omega (arith, c.sources-j-end.ensures, sources_most c.args.t.now, c.loop-j.invariant.few), c.loop-j.invariant.long)

pub machine_at-requires : goal.machine_at-requires
machine_at-requires c = (omega (arith, c.sources-j-end.ensures, sources_most c.args.t.now), omega (arith, c.sources-j-end.ensures, sources_most c.args.t.now, c.loop-j.invariant.few, c.enrol-n.ensures.most))

pub offset_bounds-out-j : goal.offset_bounds-out-j
offset_bounds-out-j c = omega (arith, c.sources-j-end.ensures, sources_most c.args.t.now)

pub bounds-out-j : goal.bounds-out-j
bounds-out-j c = omega (arith, c.sources-j-end.ensures, sources_most c.args.t.now, reached_length c.loop-j.invariant)

pub loop-j-preserved : goal.loop-j-preserved
loop-j-preserved c = reached_turn c.loop-j.invariant (omega (arith, c.sources-j-end.ensures)) c.enrol-n.ensures c.machine_at.ensures

pub overflow_add-result : goal.overflow_add-result
overflow_add-result c = omega (arith, c.names.ensures.1, c.sources-j-end.ensures, sources_most c.args.t.now, c.loop-j.invariant.few)

pub overflow_add-result-2 : goal.overflow_add-result-2
overflow_add-result-2 c = omega (arith, c.names.ensures.1, c.sources-j-end.ensures, sources_most c.args.t.now, c.loop-j.invariant.few)

pub returns : goal.returns
unfolding facts_by
returns c = (ap (λ (m : ℕ). 1 + (m + c.loop-j.n)) c.names.ensures.0 ∙ reached_count c.loop-j.invariant (omega (arith, c.sources-j-end.ensures)), reached_table c.loop-j.invariant (omega (arith, c.sources-j-end.ensures)))
