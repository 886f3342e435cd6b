-- `settled::settle` meets its contract: a case for each kind of what was told. Assumes nothing.
use mathlib.Core.Path.{ap}
use Rattle.placed.specs.Told.{as_told}
use Rattle.settled.specs.laws.Endings.{refused_so, answered_so}
use Rattle.merged.specs.declared.Room.{Room}
use Rattle.settled.specs.Settled.{room_in}
use Rattle.settled.proofs.settle.Goals as goal

pub returns-in-Err : goal.returns-in-Err
returns-in-Err c =
    let room : Room = room_in c.args.machines.now c.args.times.now c.args.kinds.now c.args.steps.now c.args.matrix.now c.args.readings.now c.args.clocks.now in
    let so = refused_so c.args.t.now c.args.b.now c.args.a.now c.args.x.now c.args.c.now c.args.y.now c.args.clocks.now c.args.readings.now room
    (ap as_told c.in-Err.is) c.all.ensures.machines c.all.ensures.times c.all.ensures.kinds c.all.ensures.steps in
    record {
      answer = so.answer_is;
      machines = so.machines_are;
      times = so.times_are;
      kinds = so.kinds_are;
      steps = so.steps_are;
      matrix = c.all.ensures.matrix;
      readings = c.all.ensures.readings;
      clocks = c.all.ensures.clocks;
    }

pub returns-in-Ok : goal.returns-in-Ok
returns-in-Ok c =
    let room : Room = room_in c.args.machines.now c.args.times.now c.args.kinds.now c.args.steps.now c.args.matrix.now c.args.readings.now c.args.clocks.now in
    let so = answered_so c.args.t.now c.args.b.now c.args.a.now c.args.x.now c.args.c.now c.args.y.now c.args.clocks.now c.args.readings.now room
    (ap as_told c.in-Ok.is) c.answer.ensures.answer c.answer.ensures.machines c.answer.ensures.times c.answer.ensures.kinds c.answer.ensures.steps in
    record {
      answer = so.answer_is;
      machines = so.machines_are;
      times = so.times_are;
      kinds = so.kinds_are;
      steps = so.steps_are;
      matrix = c.answer.ensures.matrix;
      readings = c.answer.ensures.readings;
      clocks = c.answer.ensures.clocks;
    }
