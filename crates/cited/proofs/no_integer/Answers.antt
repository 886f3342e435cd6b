-- `cited::no_integer` meets its contract: the case of the 64-bit integer decides.
-- Assumes nothing.
use mathlib.Core.Path.{refl}
use Rattle.manifest.specs.Rules.{no_integer}
use Rattle.cited.proofs.laws.Offsets.{none_in, no_offset, none_there}
use Rattle.cited.proofs.no_integer.Goals as goal

pub returns-then-p-eq0 : goal.returns-then-p-eq0
returns-then-p-eq0 c = no_offset c.args.s.now c.args.p no_integer c.if-p-eq0.true

pub returns-in-In : goal.returns-in-In
unfolding none_in
returns-in-In c = none_there c.args.s.now c.args.p c.if-p-eq0.false c.integer_at.ensures c.in-In.is refl

pub returns-in-Below : goal.returns-in-Below
unfolding none_in
returns-in-Below c = none_there c.args.s.now c.args.p c.if-p-eq0.false c.integer_at.ensures c.in-Below.is refl

pub returns-in-Above : goal.returns-in-Above
unfolding none_in
returns-in-Above c = none_there c.args.s.now c.args.p c.if-p-eq0.false c.integer_at.ensures c.in-Above.is refl

pub returns-in-None : goal.returns-in-None
unfolding none_in
returns-in-None c = none_there c.args.s.now c.args.p c.if-p-eq0.false c.integer_at.ensures c.in-None.is refl
