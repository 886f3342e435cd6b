-- `answered::answer` meets its contract: the events are marked, placed by what is marked, and the work memories cleared (`answered_so`). Assumes nothing.
use Rattle.answered.specs.laws.Marks.{answered_so}
use Rattle.clocks.specs.Answers.{Room}
use Rattle.graphs.specs.Graphs.{World}
use Rattle.placed.specs.Placed.{world_in, cells}
use lib.ListN.{length}
use native.Mathlib.Omega.{arith}
use Rattle.answered.proofs.answer.Goals as goal

pub returns : goal.returns
returns c =
    let world : World = world_in c.args.known.given c.args.a.now c.args.x.now c.args.c.now c.args.y.now in
    let room : Room = record {
      times = length c.args.times.now;
      kinds = length c.args.kinds.now;
      steps = length c.args.steps.now;
      matrix = cells c.args.matrix.now;
    } in
    let so = answered_so c.args.t.now c.args.b.now c.args.known world c.args.machines.now c.args.clocks.now c.args.readings.now c.args.matrix.now room
    c.mark.ensures (omega arith) (omega arith) c.place.ensures.times c.place.ensures.kinds c.place.ensures.steps c.place.ensures.matrix
    c.work.ensures.matrix c.work.ensures.readings c.work.ensures.clocks c.summary.ensures in
    let rest = so.1.1.1.1 in
    record {
      answer = so.0;
      machines = so.1.0;
      times = so.1.1.0;
      kinds = so.1.1.1.0;
      steps = rest.0;
      matrix = rest.1.0;
      readings = rest.1.1.0;
      clocks = rest.1.1.1;
    }
