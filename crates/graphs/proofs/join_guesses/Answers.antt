-- `graphs::join_guesses` meets its contract: what is joined are the guesses, of graph 1, 2 or 3.
use Rattle.graphs.specs.laws.Guesses.{guess_none, guess_domains, guess_files}
use Rattle.graphs.proofs.join_guesses.Goals as goal

pub returns-then-g-lt2 : goal.returns-then-g-lt2
returns-then-g-lt2 c = guess_none c.args.machines c.args.files c.args.pinned c.args.trace c.args.g _ c.if-g-lt2.true

pub returns-then-g-lt3 : goal.returns-then-g-lt3
returns-then-g-lt3 c = guess_domains c.args.machines c.args.files c.args.pinned c.args.trace c.args.g _ c.if-g-lt2.false c.if-g-lt3.true c.join_machines.ensures

pub returns : goal.returns
returns c = guess_files c.args.machines c.args.files c.args.pinned c.args.trace c.args.g _ c.if-g-lt3.false c.join_machines.ensures c.join_files.ensures
