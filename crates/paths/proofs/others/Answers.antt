-- `paths::others` meets its contract. Of the clocks passed, those other than the target from which a pair leads are listed (`Rest`); the others are the target, at no pair, and clocks without a path (`bare_far`). They are fewer than the clocks, since the target is none of them. Assumes nothing.
use lib.ListN.{length-set}
use mathlib.Core.Path.{◌≡◌}
use native.Mathlib.Omega.{arith}
use Rattle.paths.specs.Matrix.{held}
use Rattle.paths.proofs.Rest.{bare_far, other_off, rest_none, rest_skip, rest_goal, rest_put}
use Rattle.paths.proofs.others.Goals as goal
use Rattle.paths.proofs.others.Goals.{then-c-target+then-has_pair, else-c-target, else-c-target-via-then-c-target+else-has_pair, else-c-target-via-else-c-target}

pub loop-c-init : goal.loop-c-init
loop-c-init c = (c.requires.1, omega arith, (λ h. absurd (omega arith)), rest_none _ _ _)

pub loop-c-preserved : goal.loop-c-preserved
loop-c-preserved c =
    let s = c.loop-c.invariant in
    let m = c.args.matrix.now in
    let n = c.args.n in
    let t = c.args.target in
    elim c.if-c-target.branch [
      | then-c-target+then-has_pair w ↦ rw (w.out-is, w.count-is) (
        rw length-set s.0,
        omega arith,
        (λ h. omega (arith, s.2 (omega (arith, w.if-c-target.true)))),
        rest_put s.3 (other_off (held m n t) c.loop-c.c (omega arith) w.if-c-target.true) (omega (arith, c.requires.0.small, s.0, s.1)),
      )
      | else-c-target w ↦ rw (w.out-is, w.count-is) (
        s.0,
        omega arith,
        (λ h. omega arith),
        elim w.else-c-target.branch [
          | else-c-target-via-then-c-target+else-has_pair v ↦ rest_skip s.3 (λ h f. omega (arith, bare_far m n t c.loop-c.c v.if-c-target.true (v.has_pair.ensures v.if-has_pair.false)))
          | else-c-target-via-else-c-target v ↦ rest_goal s.3 v.if-c-target.false c.requires.0.goal (omega arith)
        ],
      )
    ]

pub returns : goal.returns
returns c = let s = c.loop-c.invariant in
    let e : c.loop-c.c ≡ c.args.n = omega arith in
    (omega (arith, s.2 (omega (arith, c.requires.0.goal))), s.0, rw e at s.3)
