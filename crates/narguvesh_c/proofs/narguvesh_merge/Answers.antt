-- `narguvesh_c::narguvesh_merge` meets its contract: what merge promises, its answer told as numbers. Assumes nothing.
use mathlib.Core.Path.{ap, ◌∙◌}
use Rattle.narguvesh_c.specs.Plain.{number_of, summary_of}
use Rattle.narguvesh_c.specs.laws.Counts.{events_small}
use Rattle.narguvesh_c.proofs.narguvesh_merge.Goals as goal

pub tell-requires : goal.tell-requires
tell-requires c = events_small _ _ _ _ c.merge-answer.ensures.answer

pub returns : goal.returns
returns c =
    let m = c.merge-answer.ensures in
    record {
      number = c.tell.ensures.0 ∙ ap number_of m.answer;
      summary = c.tell.ensures.1 ∙ ap summary_of m.answer;
      machines = m.machines;
      times = m.times;
      kinds = m.kinds;
      steps = m.steps;
      matrix = m.matrix;
      readings = m.readings;
      clocks = m.clocks;
    }
