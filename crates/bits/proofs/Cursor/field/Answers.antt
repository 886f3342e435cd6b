-- `field` gives `field_at`: may it not stand, or does the slice end before its last byte, there is none; else it is what `take` gives. Assumes nothing.
use mathlib.Core.Path.{sym, ◌∙◌}
use native.Mathlib.Omega.{arith}
use Rattle.bits.specs.laws.Fields.{end_stands, end_none, field_in, field_out, field_short, take_in}
use Rattle.bits.proofs.Cursor.field.Goals as goal

pub returns-in_err-end : goal.returns-in_err-end
returns-in_err-end c = let a = c.args in c.from_residual.ensures ∙ sym (field_out a.s.now a.self.at a.width (end_none a.self.at a.width (sym c.end_of.ensures ∙ c.in_err-end.was)))

pub returns-then-s-div_ceil : goal.returns-then-s-div_ceil
returns-then-s-div_ceil c =
    let a = c.args in
    let h = end_stands a.self.at a.width (sym c.end_of.ensures ∙ c.in_ok-end.was) in
    sym (field_short a.s.now a.self.at a.width (omega (arith, h.1)))

pub returns : goal.returns
returns c =
    let a = c.args in
    let h = end_stands a.self.at a.width (sym c.end_of.ensures ∙ c.in_ok-end.was) in
    rw (c.take.ensures, take_in a.s.now a.self.at a.width h.0.narrow h.0.near) (sym (field_in a.s.now a.self.at a.width h.0.narrow h.0.near (omega (arith, h.1))))
