-- `listed::same_path` meets its contract: a path stands where the position is not 0. Texts with different lengths differ, those of one length are told by their slots, and where these do
-- not hold them both are strings. Assumes nothing.
use native.Mathlib.Omega.{arith}
use Rattle.index.specs.Index.{text_at}
use Rattle.index.proofs.laws.Paths.{path_none}
use Rattle.listed.specs.laws.Slots.{lengths_differ, long_same, short_same}
use Rattle.listed.proofs.same_path.Goals as goal

pub returns-then-q-eq0 : goal.returns-then-q-eq0
returns-then-q-eq0 c = path_none c.args.s.now (text_at c.args.s.now c.args.p) c.args.q c.if-q-eq0.true

pub returns-then-length-other : goal.returns-then-length-other
returns-then-length-other c = lengths_differ c.requires.0 c.requires.1 c.if-length-other.true

pub returns-then-length-gt256 : goal.returns-then-length-gt256
returns-then-length-gt256 c = long_same c.requires.0 c.requires.1 c.if-q-eq0.false (omega arith) c.same_texts.ensures

pub same_slots-requires : goal.same_slots-requires
same_slots-requires c = (c.requires.0.room, c.requires.0.among, c.requires.1.among, omega arith)

pub returns : goal.returns
returns c = short_same c.requires.0 c.requires.1 c.if-q-eq0.false c.if-length-other.false (omega arith) c.same_slots.ensures
