-- `take` gives `taken_at`: where the field may stand `gather` has its number, else nothing is read or moved. Assumes nothing.
use mathlib.Core.Path.{sym, ◌∙◌}
use Rattle.bits.specs.laws.Fields.{end_stands, end_none, take_in, take_out}
use Rattle.bits.proofs.Cursor.take.Goals as goal

pub gather-requires : goal.gather-requires
gather-requires c = let h = end_stands c.args.self.at c.args.width (sym c.end_of.ensures ∙ c.in-Some.is) in (h.0.narrow, h.0.near)

pub returns-in-Some : goal.returns-in-Some
returns-in-Some c =
    let a = c.args in
    let h = end_stands a.self.at a.width (sym c.end_of.ensures ∙ c.in-Some.is) in
    rw (c.gather.ensures, h.1) (sym (take_in a.s.now a.self.at a.width h.0.narrow h.0.near))

pub returns-in-None : goal.returns-in-None
returns-in-None c = let a = c.args in sym (take_out a.s.now a.self.at a.width (end_none a.self.at a.width (sym c.end_of.ensures ∙ c.in-None.is)))
