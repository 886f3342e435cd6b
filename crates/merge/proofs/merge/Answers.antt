-- `merge::merge` meets its contract: what is settled of what was told and fits is the merge (`settled_is`). Assumes nothing.
use Rattle.merge.specs.laws.Ended.{with_outcome, settled_is}
use Rattle.merge.specs.laws.Told.{held_length}
use Rattle.graphs.specs.Links.{Link}
use mathlib.Core.Path.{sym}
use lib.IntN.{pos}
use Rattle.merge.proofs.merge.Goals as goal

pub slice_bounds-settle-end : goal.slice_bounds-settle-end
slice_bounds-settle-end c = sym (held_length c.args.manifest.now c.args.sheet.now (λ (l : Link). l.a) 0 c.read-both.ensures.from)

pub slice_bounds-settle-end-2 : goal.slice_bounds-settle-end-2
slice_bounds-settle-end-2 c = sym (held_length c.args.manifest.now c.args.sheet.now (λ (l : Link). l.x) (pos 0) c.read-both.ensures.reads)

pub slice_bounds-settle-end-3 : goal.slice_bounds-settle-end-3
slice_bounds-settle-end-3 c = sym (held_length c.args.manifest.now c.args.sheet.now (λ (l : Link). l.b) 0 c.read-both.ensures.to)

pub slice_bounds-settle-end-4 : goal.slice_bounds-settle-end-4
slice_bounds-settle-end-4 c = sym (held_length c.args.manifest.now c.args.sheet.now (λ (l : Link). l.y) (pos 0) c.read-both.ensures.gives)

pub returns : goal.returns
returns c =
    let same = settled_is c.args.manifest.now c.args.sheet.now c.args.machines.now c.args.times.now c.args.kinds.now c.args.steps.now c.args.matrix.now
    c.args.readings.now c.args.clocks.now c.read-both.ensures.facts _ _ _ _ c.read-both.ensures.from c.read-both.ensures.reads c.read-both.ensures.to
    c.read-both.ensures.gives c.read-both.ensures.told c.fitted-found.ensures in
    let s = c.settle.ensures in
    let so = with_outcome same (s.answer, (s.machines, (s.times, (s.kinds, (s.steps, s.matrix))))) in
    let rest = so.1.1.1 in
    record {
      answer = so.0;
      machines = so.1.0;
      times = so.1.1.0;
      kinds = rest.0;
      steps = rest.1.0;
      matrix = rest.1.1;
      readings = s.readings;
      clocks = s.clocks;
    }
