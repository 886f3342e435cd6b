-- `paths::level` meets its contract. The invariant is `Turn` of `proofs/Levels.antt`: of the rest the first d have been looked at; those at k pairs are noted and stand in the queue, and those that stay stand at the front. The mask stays that of the level, since the queue grows behind it. Assumes nothing.
use Prim.Native.Nat.{◌≤◌}
use lib.ListN.{length, get_or}
use Rattle.paths.specs.Matrix.{pair_of}
use native.Mathlib.Omega.{arith}
use Rattle.paths.proofs.Mask.{marked_kept}
use Rattle.paths.proofs.Span.{below_span, first_span, none_span, marked_span, span_marked}
use Rattle.paths.proofs.Levels.{turn_start, turn_end, turn_keep, turn_put, level_in, end_fits}
use Rattle.paths.proofs.level.Goals as goal
use Rattle.paths.proofs.level.Goals.{in-Some, in-None}

pub mask_of-mask-requires : goal.mask_of-mask-requires
mask_of-mask-requires c =
    let t = turn_start c.requires.state c.requires.whole.1 in
    below_span c.args.queue.now c.args.from c.args.end (omega (arith, end_fits t, t.room_q)) (λ i p q. omega (arith, level_in t i p q, c.requires.whole.0.small))

pub loop-d-init : goal.loop-d-init
loop-d-init c =
    let t = turn_start c.requires.state c.requires.whole.1 in
    (t, marked_span c.args.queue.now c.args.from c.args.end (omega (arith, end_fits t, t.room_q)) c.mask_of-mask.ensures)

pub nearer_in-requires-clause-by_index : goal.nearer_in-requires-clause-by_index
nearer_in-requires-clause-by_index c =
    let t = c.loop-d.invariant.0 in
    below_span c.loop-d.queue c.args.from c.args.end (omega (arith, end_fits t, t.room_q)) (level_in t)

pub nearer_in-requires-clause-marked : goal.nearer_in-requires-clause-marked
nearer_in-requires-clause-marked c =
    let t = c.loop-d.invariant.0 in
    span_marked c.loop-d.queue c.args.from c.args.end (omega (arith, end_fits t, t.room_q)) c.loop-d.invariant.1

pub loop-d-preserved : goal.loop-d-preserved
loop-d-preserved c =
    let t = c.loop-d.invariant.0 in
    let room : c.args.end ≤ length c.loop-d.queue = omega (arith, end_fits t, t.room_q) in
    elim c.match-nearer_in.branch [
      | in-Some w ↦ rw (w.found-is, w.rest-is, w.queue-is, w.tail-is, w.kept-is, c.from-e.ensures) (
        turn_put t c.loop-d-test.true (first_span c.loop-d.queue c.args.from c.args.end room (rw c.from-e.ensures at w.in-Some.ensures)),
        marked_kept _ _ c.loop-d.invariant.1 t.put.order,
      )
      | in-None w ↦ rw (w.found-is, w.rest-is, w.queue-is, w.tail-is, w.kept-is, c.from-e.ensures) (
        turn_keep t c.loop-d-test.true (none_span c.loop-d.queue c.args.from c.args.end room (pair_of c.args.matrix.now c.args.n (get_or c.loop-d.rest c.loop-d.d 0)) (rw c.from-e.ensures at w.in-None.ensures)),
        c.loop-d.invariant.1,
      )
    ]

pub returns : goal.returns
returns c = turn_end c.loop-d.invariant.0 (omega arith)
