-- `named::count` meets its contract: the names end where 0 first stands. Assumes nothing.
use Rattle.named.specs.Named.{count_in}
use Rattle.named.proofs.count.Goals as goal

pub returns : goal.returns
unfolding count_in
returns c = c.stands_at.ensures
