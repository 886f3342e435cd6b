-- `source_keys` holds the keys of the first sources: that is the invariant, and `Keyed` says it. Assumes nothing.
use Rattle.sheet.proofs.Keying.{keyed_none, keyed_more, keyed_all}
use native.Mathlib.Omega.{arith}
use mathlib.Core.Path.{refl}
use Rattle.sheet.proofs.source_keys.Goals as goal

pub loop-source-init : goal.loop-source-init
loop-source-init c = keyed_none c.args.s.now c.args.from refl

pub loop-source-preserved : goal.loop-source-preserved
loop-source-preserved c = keyed_more c.args.s.now c.args.from (omega arith) (omega arith) c.loop-source.invariant c.source_at.ensures c.key_of.ensures

pub returns : goal.returns
returns c = keyed_all c.args.s.now c.args.from (omega arith) c.loop-source.invariant
