-- `placed::place` meets its contract: what is passed on are fronts of the lists and of the matrix, which comes back as zeros before its rest. Assumes nothing.
use Rattle.placed.specs.laws.Fronts.{cut_within, placed_so}
use lib.ListN.{length}
use mathlib.Core.Path.{refl}
use Rattle.placed.proofs.place.Goals as goal

pub slice_bounds-answers-end : goal.slice_bounds-answers-end
slice_bounds-answers-end c = cut_within 50176 _ c.min-used.ensures

pub returns : goal.returns
returns c =
    let l = c.args in
    let (t, (k, (s, m))) = placed_so l.given l.a.now l.x.now l.c.now l.y.now l.on.now l.reads.now (length l.times.now) (length l.kinds.now)
    (length l.steps.now)
    l.matrix.now c.min-used.ensures c.front.ensures c.front-2.ensures c.front-3.ensures c.front-4.ensures c.front-5.ensures
    c.front-6.ensures refl c.answers.ensures.times c.answers.ensures.kinds c.answers.ensures.steps c.answers.ensures.matrix in
    record { times = t; kinds = k; steps = s; matrix = m }
