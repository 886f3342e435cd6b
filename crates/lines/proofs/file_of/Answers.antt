-- `lines::file_of` meets its contract. The loop's invariant: the first file that the entry lists is the first from number f on. Assumes nothing.
use mathlib.Core.Path.{refl, sym, ◌∙◌}
use native.Mathlib.Omega.{arith}
use Rattle.merged.specs.Refusals.{listed_by}
use Rattle.lines.specs.laws.Listed.{listed_here, listed_not}
use Rattle.checks.specs.Table.{file_number, file_by, files_in, facts_by}
use Rattle.lines.specs.laws.Lists.{first_start, first_past, first_found, first_on}
use Rattle.lines.proofs.file_of.Goals as goal

pub loop-f-init : goal.loop-f-init
loop-f-init c = (c.files-n.ensures.1, refl)

pub returns-then-t-f : goal.returns-then-t-f
unfolding facts_by file_number
returns-then-t-f c = sym (first_start 32 (listed_by c.args.e) (file_by c.args.t.now) (files_in c.args.t.now) ∙ (c.loop-f.invariant.1 ∙ first_found 32 (listed_by c.args.e) (file_by c.args.t.now) (files_in c.args.t.now) c.loop-f.f (omega (arith, c.files-n.ensures.0)) (listed_here c.args.t.now c.loop-f.f refl c.if-t-f.true)))

pub loop-f-preserved : goal.loop-f-preserved
unfolding file_number
loop-f-preserved c = (c.loop-f.invariant.0, c.loop-f.invariant.1 ∙ first_on 32 (listed_by c.args.e) (file_by c.args.t.now) (files_in c.args.t.now) c.loop-f.f (omega (arith, c.files-n.ensures.0)) (listed_not c.args.t.now c.loop-f.f refl c.if-t-f.false))

pub returns : goal.returns
unfolding facts_by
returns c = sym (first_start 32 (listed_by c.args.e) (file_by c.args.t.now) (files_in c.args.t.now) ∙ (c.loop-f.invariant.1 ∙ first_past 32 (listed_by c.args.e) (file_by c.args.t.now) (files_in c.args.t.now) c.loop-f.f (omega (arith, c.files-n.ensures.0))))
