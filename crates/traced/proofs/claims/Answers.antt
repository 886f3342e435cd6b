-- `traced::claims` meets its contract: each way out is one way through the three tests of a claim. Assumes nothing.
use Rattle.checks.specs.Table.{file_number}
use Rattle.traced.specs.laws.Files.{claims_nothing, claims_pinned, claims_open}
use Rattle.traced.proofs.claims.Goals as goal

pub returns-then-t-f-eq0 : goal.returns-then-t-f-eq0
unfolding file_number
returns-then-t-f-eq0 c = claims_nothing c.args.t.now c.args.f c.if-t-f-eq0.true

pub returns-then-t-f-eq-PINNED : goal.returns-then-t-f-eq-PINNED
unfolding file_number
returns-then-t-f-eq-PINNED c = claims_pinned c.args.t.now c.args.f c.if-t-f-eq0.false c.if-t-f-eq-PINNED.true

pub returns : goal.returns
unfolding file_number
returns c = claims_open c.args.t.now c.args.f c.if-t-f-eq0.false c.if-t-f-eq-PINNED.false
