-- `gather`: a listed sheet is accepted, so its table is near and its sources cite its files. Assumes nothing.
use Rattle.gather.proofs.Steps.{refused_made, listed_made}
use Rattle.gather.specs.laws.Near.{near, cites}
use Rattle.sheet.specs.Accepted.{accepted}
use Rattle.sheet.specs.Sheets.{told}
use lib.ListN.{length-replicate}
use Prim.Native.Nat.{ℕ}
use mathlib.Core.Path.{◌≡◌, sym, ap, ◌∙◌}
use borrow.Author.Rules.{rules}
use Rattle.std.specs.Prelude.{Err}
use Rattle.gather.proofs.gather.Goals as goal

pub fill-requires : goal.fill-requires
fill-requires c =
    let a = accepted _ _ (sym c.read.ensures ∙ ap told c.in_ok-table.was) in
    (near a, length-replicate {A = ℕ} 324 0, cites a)

pub returns-in_err-table : goal.returns-in_err-table
returns-in_err-table c =
    let e : c.from_residual.result ≡ Err c.in_err-table.field-0.0 = search rules in
    let refused = ap told c.in_err-table.was in
    (ap told e ∙ sym refused ∙ c.read.ensures, refused_made c.args.s.now c.args.ix.now c.args.lookups.now c.args.b.now (sym c.read.ensures ∙ refused))

pub returns : goal.returns
returns c =
    let listed = ap told c.in_ok-table.was in
    (sym listed ∙ c.read.ensures, listed_made c.args.s.now c.args.ix.now c.args.lookups.now c.args.b.now (sym c.read.ensures ∙ listed) c.fill.ensures)
