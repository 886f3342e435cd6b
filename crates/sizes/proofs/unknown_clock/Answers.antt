-- `sizes::unknown_clock` meets its contract: where a text is, it is no clock's name if its number is 0.
-- Assumes nothing.
use Rattle.manifest.specs.Rules.{no_clock}
use Rattle.sizes.proofs.Clock.{clock_decides}
use Rattle.sizes.proofs.Nested.{no_text}
use Rattle.sizes.proofs.unknown_clock.Goals as goal

pub returns-then-p-eq0 : goal.returns-then-p-eq0
returns-then-p-eq0 c = no_text no_clock c.args.s.now c.if-p-eq0.true

pub returns : goal.returns
returns c = clock_decides c.args.s.now c.if-p-eq0.false c.domain-number.ensures
