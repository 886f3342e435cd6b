-- `whole::convert` meets its contract: `pick` searched the xs as far as both lists go, which are the xs of the correspondences, so the
-- place that it found is theirs; past the end of either list there is no correspondence. Assumes nothing.
use Rattle.std.proofs.Common.{◌≡◌, pos, take, sym, ◌∙◌, arith, to_z-of_z, w64, SFits, rules}
use Rattle.whole.specs.Pairs.{place_for, nth}
use Rattle.whole.proofs.Found.{converted_found, converted_none}
use Rattle.whole.proofs.convert.Goals as goal
use Rattle.whole.proofs.convert.Goals.{After-pick-k}

-- what `pick` found
found : (c : After-pick-k) → c.pick-k.result ≡ place_for c.args.t (take c.min-n.result c.args.xs.now)
found c = rw (to_z-of_z c.ranges.t) at c.pick-k.ensures

pub returns-in_err-get : goal.returns-in_err-get
returns-in_err-get c =
    let h = c.in_err-get.ensures.lookup in
    c.from_residual.ensures ∙ sym (converted_none _ _ _ _ _ c.min-n.ensures (found (goal.at.returns-in_err-get c).After-pick-k) (omega (arith, h.3)))

pub returns-in_err-get-2 : goal.returns-in_err-get-2
returns-in_err-get-2 c =
    let h = c.in_err-get-2.ensures.lookup in
    c.from_residual-in_err-get-2.ensures ∙ sym (converted_none _ _ _ _ _ c.min-n.ensures (found (goal.at.returns-in_err-get-2 c).After-pick-k) (omega (arith, h.3)))

pub returns : goal.returns
returns c =
    let a = c.args in
    let k = c.pick-k.result in
    let x = c.in_ok-get.ensures.lookup.3 in
    let y = c.in_ok-get-2.ensures.lookup.3 in
    let fx : SFits w64 (nth a.xs.now k) = search rules in
    let fy : SFits w64 (nth a.ys.now k) = search rules in
    (rw (x.1 (pos 0), y.1 (pos 0), to_z-of_z c.ranges.t, to_z-of_z fx, to_z-of_z fy) at c.shifted.ensures)
    ∙ sym (converted_found _ _ _ _ _ c.min-n.ensures (found (goal.at.returns c).After-pick-k) x.0 y.0)
