-- `recorded_files`: the invariant is that the snapshots before number i have set their files' flags. Assumes nothing.
use Rattle.gather.proofs.Recorded.{noted_start, file_in_lem, noted_next, noted_all}
use native.Mathlib.Omega.{arith}
use Rattle.gather.proofs.recorded_files.Goals as goal

pub loop-i-init : goal.loop-i-init
loop-i-init c = (omega arith, noted_start c.args.b.now c.args.t)

pub snapshot_file-requires : goal.snapshot_file-requires
snapshot_file-requires c = (c.requires, omega (arith, c.requires.few_snapshots))

pub bounds-out-snapshot_file : goal.bounds-out-snapshot_file
bounds-out-snapshot_file c = file_in_lem c.args.b.now c.args.t _ c.loop-i.invariant.1 c.loop-i-test.true c.snapshot_file.ensures

pub loop-i-preserved : goal.loop-i-preserved
loop-i-preserved c = (omega arith, noted_next c.args.b.now c.args.t _ c.loop-i.invariant.1 c.loop-i-test.true c.snapshot_file.ensures)

pub returns : goal.returns
returns c = noted_all c.args.b.now c.args.t _ c.loop-i.invariant.1 c.loop-i-test.false
