-- `whole::pick` meets its contract. The invariant: the search from `i` on, with `best` as the place so far, ends where the search of
-- the whole list ends. Assumes nothing.
use Rattle.std.proofs.Common.{◌<◌, length, sym, ◌∙◌, add-one, arith, rules, to_z-of_z, w64, SFits}
use Rattle.whole.specs.Pairs.{nth}
use Rattle.whole.proofs.laws.Places.{place_start, place_taken, place_left, place_end}
use Rattle.whole.proofs.pick.Goals as goal
use Rattle.whole.proofs.pick.Goals.{then-closer, else-closer}

pub loop-i-init : goal.loop-i-init
loop-i-init c = (omega arith, place_start _ c.args.xs.now)

pub loop-i-preserved : goal.loop-i-preserved
loop-i-preserved c = let l = c.loop-i in
    let xs = c.args.xs.now in
    let h : l.i < length xs = omega arith in
    let fb : SFits w64 (nth xs l.best) = search rules in
    let fx : SFits w64 (nth xs l.i) = search rules in
    let e = rw (to_z-of_z fb, to_z-of_z fx) at c.closer.ensures in
    elim c.if-closer.branch [
      | then-closer w ↦ rw w.best-is (omega arith, rw add-one (sym (place_taken _ xs l.best l.i _ h (sym e ∙ w.if-closer.true)) ∙ l.invariant.1))
      | else-closer w ↦ rw w.best-is (omega arith, rw add-one (sym (place_left _ xs l.best l.i _ h (sym e ∙ w.if-closer.false)) ∙ l.invariant.1))
    ]

pub returns : goal.returns
returns c = let l = c.loop-i in
    let t = to_z-of_z c.ranges.t in
    rw t at (sym (place_end _ c.args.xs.now l.best l.i _ (omega arith)) ∙ l.invariant.1)
