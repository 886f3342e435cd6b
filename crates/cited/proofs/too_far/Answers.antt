-- `cited::too_far` meets its contract: the case of the 64-bit integer decides.
-- Assumes nothing.
use mathlib.Core.Path.{refl}
use Rattle.manifest.specs.Rules.{too_far}
use Rattle.cited.proofs.laws.Offsets.{far_in, no_offset, far_there, far_in_lem}
use borrow.Author.Rules.{rules}
use Rattle.cited.proofs.too_far.Goals as goal

pub returns-then-p-eq0 : goal.returns-then-p-eq0
returns-then-p-eq0 c = no_offset c.args.s.now c.args.p too_far c.if-p-eq0.true

pub returns-in-In : goal.returns-in-In
returns-in-In c = far_in_lem c.args.s.now c.args.p c.if-p-eq0.false c.integer_at.ensures c.in-In.is (search rules)

pub returns-in-Below : goal.returns-in-Below
unfolding far_in
returns-in-Below c = far_there c.args.s.now c.args.p c.if-p-eq0.false c.integer_at.ensures c.in-Below.is refl

pub returns-in-Above : goal.returns-in-Above
unfolding far_in
returns-in-Above c = far_there c.args.s.now c.args.p c.if-p-eq0.false c.integer_at.ensures c.in-Above.is refl

pub returns-in-None : goal.returns-in-None
unfolding far_in
returns-in-None c = far_there c.args.s.now c.args.p c.if-p-eq0.false c.integer_at.ensures c.in-None.is refl
