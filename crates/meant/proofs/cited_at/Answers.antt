-- `meant::cited_at` meets its contract: without a `clock` the private clock, whose number is below 32; else the domain and the machine that were found. Assumes nothing.
use Rattle.meant.proofs.Steps.{cited_private, cited_domain}
use Rattle.meant.proofs.cited_at.Goals as goal

pub returns-then-clock-eq0 : goal.returns-then-clock-eq0
returns-then-clock-eq0 c = cited_private c.args.s.now c.args.ix.now c.args.lookups.now _ _ _ c.if-clock-eq0.true

pub returns : goal.returns
returns c = cited_domain c.args.s.now c.args.ix.now c.args.lookups.now _ _ _ c.if-clock-eq0.false c.domain-domain.ensures c.machine_at-name.ensures c.number_at-whose.ensures
