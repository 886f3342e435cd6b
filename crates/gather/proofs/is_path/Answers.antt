-- `is_path`: at 0 no path stands; a text of another length is another text; and one of the path's length is there whole, so that its first bytes decide. Assumes nothing.
use mathlib.Core.Path.{ap, ◌∙◌}
use lib.ListN.{length}
use Rattle.index.proofs.laws.Paths.{path_none}
use Rattle.prints.specs.laws.Fronts.{front_length}
use Rattle.gather.proofs.Texts.{length_differs, text_whole}
use Rattle.gather.proofs.is_path.Goals as goal

pub returns-then-at-eq0 : goal.returns-then-at-eq0
returns-then-at-eq0 c = path_none _ _ _ c.if-at-eq0.true

pub returns-then-n-path : goal.returns-then-n-path
returns-then-n-path c = length_differs c.args.s.now c.args.at c.args.path.now c.unescape-n.ensures.0 c.if-n-path.true

pub starts_with-requires : goal.starts_with-requires
starts_with-requires c = (ap length c.unescape-n.ensures.1 ∙ front_length _, c.requires)

pub returns : goal.returns
returns c = text_whole c.args.s.now c.args.at c.args.path.now c.unescape-n.ensures.0 c.if-at-eq0.false c.if-n-path.false c.requires c.unescape-n.ensures.1 c.starts_with.ensures
