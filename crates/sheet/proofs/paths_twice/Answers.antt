-- `paths_twice` looks for each path among the later ones. The invariant says that the paths from a file on repeat themselves exactly if all do. Assumes nothing.
use Rattle.sheet.proofs.Again.{repeats_hit, repeats_miss, repeats_none}
use Rattle.sheet.proofs.Printing.{paths_start, paths_on, paths_past}
use Rattle.sheet.specs.Twice.{repeats, same_bytes}
use native.Mathlib.Omega.{arith}
use mathlib.Core.Path.{ap, sym, ◌∙◌}
use Rattle.sheet.proofs.paths_twice.Goals as goal

pub print_paths-prints-requires : goal.print_paths-prints-requires
print_paths-prints-requires c = (c.requires, c.file_places-places.ensures)

pub loop-file-init : goal.loop-file-init
loop-file-init c = ap (repeats same_bytes) (paths_start c.args.s.now c.args.n)

pub path_again-requires : goal.path_again-requires
path_again-requires c = ((omega arith), c.requires, c.file_places-places.ensures, c.print_paths-prints.ensures)

pub returns-then-path_again : goal.returns-then-path_again
returns-then-path_again c = repeats_hit same_bytes (paths_on c.args.s.now c.args.n c.loop-file.file (omega arith)) c.path_again.ensures c.if-path_again.true ∙ c.loop-file.invariant

pub loop-file-preserved : goal.loop-file-preserved
loop-file-preserved c = sym (repeats_miss same_bytes (paths_on c.args.s.now c.args.n c.loop-file.file (omega arith)) c.path_again.ensures c.if-path_again.false) ∙ c.loop-file.invariant

pub returns : goal.returns
returns c = repeats_none same_bytes (paths_past c.args.s.now c.args.n c.loop-file.file (omega arith)) ∙ c.loop-file.invariant
