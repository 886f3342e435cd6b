-- `lines::snapshot_links` meets its contract. The loop's invariant: the correspondences of the snapshots before number i are added. Assumes nothing.
use mathlib.Core.List.{[]}
use mathlib.Core.Path.{◌≡◌, ap, ◌∙◌}
use Prim.Native.Nat.{ℕ, min}
use native.Mathlib.Omega.{arith}
use Rattle.lines.specs.Lines.{snapshot_links}
use Rattle.lines.specs.laws.Tables.{snapshots_to, snaps_length, snaps_none, snaps_more, snaps_all}
use Rattle.lines.specs.laws.Written.{adds_none, adds_both, adds_same}
use Rattle.lines.proofs.snapshot_links.Goals as goal

pub loop-i-init : goal.loop-i-init
loop-i-init c = (omega arith, omega (arith, c.at_most-m.ensures), λ t. adds_same (snaps_none t c.args.machines.now c.args.b.now c.wide-base.result) (adds_none c.args.from c.requires.1))

pub overflow_add-base : goal.overflow_add-base
overflow_add-base c = omega (arith, c.wide-base.ensures.1, c.loop-i.invariant.1)

pub snapshot_link-k-requires : goal.snapshot_link-k-requires
snapshot_link-k-requires c = (omega (arith, (c.loop-i.invariant.2 []).count, snaps_length [] c.args.machines.now c.args.b.now c.wide-base.result c.loop-i.i, c.loop-i.invariant.1, c.requires.0), (c.loop-i.invariant.2 []).sized)

pub loop-i-preserved : goal.loop-i-preserved
loop-i-preserved c = (omega arith, c.loop-i.invariant.1, λ t. adds_same (snaps_more t c.args.machines.now c.args.b.now c.wide-base.result c.loop-i.i) (adds_both (c.loop-i.invariant.2 t) (c.snapshot_link-k.ensures t)))

pub returns : goal.returns
returns c = λ t. let e : c.loop-i.i ≡ min 256 c.args.n = omega (arith, c.at_most-m.ensures, c.loop-i.invariant.0) in adds_same (ap (snapshots_to t c.args.machines.now c.args.b.now c.wide-base.result) e ∙ (snaps_all t c.args.machines.now c.args.b.now c.wide-base.result c.args.n ∙ ap (λ (p : ℕ). snapshot_links t c.args.machines.now c.args.b.now p c.args.n) c.wide-base.ensures.0)) (c.loop-i.invariant.2 t)
