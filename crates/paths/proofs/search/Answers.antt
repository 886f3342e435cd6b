-- `paths::search` meets its contract. The invariant is `State` of `specs/laws/Search.antt`, which each level keeps; when a level is empty, the arrays hold all distances and next clocks (`table_done`). The measure counts the clocks that do not stand in the queue before the level. Assumes nothing.
use Prim.Native.Nat.{ℕ}
use lib.ListN.{length-replicate}
use mathlib.Core.Path.{sym, ◌∙◌}
use native.Mathlib.Omega.{arith}
use Rattle.numbers.specs.Numbers.{clocks}
use Rattle.paths.specs.laws.Graph.{whole_graph, graph_whole}
use Rattle.paths.proofs.Table.{table_empty, table_done}
use Rattle.paths.proofs.Levels.{start}
use Rattle.paths.proofs.search.Goals as goal

pub name_selves-requires : goal.name_selves-requires
name_selves-requires c = length-replicate {A = ℕ} clocks 0

pub returns-then-not-is_graph : goal.returns-then-not-is_graph
returns-then-not-is_graph c = table_empty _ _ _ (sym c.is_graph.ensures ∙ c.if-not-is_graph.true) c.name_selves.ensures

pub others-left-requires : goal.others-left-requires
others-left-requires c = let w = graph_whole _ _ _ (sym c.is_graph.ensures ∙ c.if-not-is_graph.false) in (w, length-replicate {A = ℕ} clocks 0)

pub offset_bounds-found-target : goal.offset_bounds-found-target
offset_bounds-found-target c = let w = graph_whole _ _ _ (sym c.is_graph.ensures ∙ c.if-not-is_graph.false) in omega arith

pub bounds-found-target : goal.bounds-found-target
bounds-found-target c = let w = graph_whole _ _ _ (sym c.is_graph.ensures ∙ c.if-not-is_graph.false) in omega arith

pub overflow_cast-queue : goal.overflow_cast-queue
overflow_cast-queue c = let w = graph_whole _ _ _ (sym c.is_graph.ensures ∙ c.if-not-is_graph.false) in omega arith

pub loop-from-init : goal.loop-from-init
loop-from-init c =
    let w = graph_whole _ _ _ (sym c.is_graph.ensures ∙ c.if-not-is_graph.false) in
    (start _ clocks (omega arith) w.small w.goal c.name_selves.ensures c.others-left.ensures.1 c.others-left.ensures.2 c.others-left.ensures.0, w)

pub level-ends-requires : goal.level-ends-requires
level-ends-requires c = record { whole = (c.loop-from.invariant.1, c.loop-from-test.true); state = c.loop-from.invariant.0 }

pub overflow_add-k : goal.overflow_add-k
overflow_add-k c = omega (arith, c.loop-from.invariant.0.low, c.loop-from-test.true, c.loop-from.invariant.0.few, c.loop-from.invariant.1.small)

pub loop-from-smaller : goal.loop-from-smaller
loop-from-smaller c = omega (arith, c.loop-from-test.true, c.loop-from.invariant.0.few)

pub loop-from-preserved : goal.loop-from-preserved
loop-from-preserved c = (c.level-ends.ensures, c.loop-from.invariant.1)

pub returns : goal.returns
returns c = table_done _ _ _ (whole_graph _ _ _ c.loop-from.invariant.1) c.loop-from.invariant.0 c.loop-from-test.false
