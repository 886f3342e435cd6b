-- `survey::any_files` meets its contract: without an entry the numbers to put are zeros, which are there; otherwise `files` tells. Assumes nothing.
use Rattle.survey.proofs.Blocks.{files_none}
use Rattle.survey.proofs.any_files.Goals as goal

pub returns-then-end-ne0 : goal.returns-then-end-ne0
returns-then-end-ne0 c = λ n. files_none _ _ c.requires.1 c.requires.0 (c.bare-end.ensures n)

pub files-requires : goal.files-requires
files-requires c = c.requires

pub returns : goal.returns
returns c = λ n. c.files.ensures n
