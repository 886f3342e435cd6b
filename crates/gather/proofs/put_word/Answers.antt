-- `put_word`: the eight bytes of the number are those at the position, put in one after the other. Assumes nothing.
use Rattle.gather.proofs.Words.{word_put}
use native.Mathlib.Omega.{arith}
use Rattle.gather.proofs.put_word.Goals as goal

pub returns : goal.returns
returns c = word_put c.args.b.now c.args.at c.take-x.ensures c.requires.0 c.args.path.now c.args.i (omega (arith, c.requires.1, c.requires.2))
