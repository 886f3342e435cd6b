-- `prints::word` meets its contract: eight bytes are the digits of one number, to the base 256. Assumes nothing.
use Rattle.prints.specs.laws.Prints.{word_is}
use Rattle.prints.proofs.word.Goals as goal

pub returns : goal.returns
returns c = word_is _ _ c.requires c.long.ensures.0 c.long-2.ensures.0 c.long-3.ensures.0 c.long-4.ensures.0 c.long-5.ensures.0 c.long-6.ensures.0 c.long-7.ensures.0 c.long-8.ensures.0
