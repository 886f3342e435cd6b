-- `known::read` meets its contract: each table is made of those before it (`read_made`), and the records lie within 32 bits (`near`). Assumes nothing.
use Rattle.known.specs.laws.Verdicts.{read_made}
use Rattle.known.specs.laws.Drawn.{near}
use Rattle.known.specs.laws.Numbers.{manifest_few}
use Rattle.known.specs.Known.{table_in}
use Rattle.sheet.specs.declared.Table.{Table}
use Rattle.sheet.specs.Sheets.{Sheet}
use mathlib.Core.Path.{sym, ap, subst, ◌∙◌}
use Prim.Native.Nat.{ℕ, ◌<◌, ◌≤◌}
use Rattle.known.proofs.read.Goals as goal

pub judged-manifest-requires : goal.judged-manifest-requires
judged-manifest-requires c = subst (λ (n : ℕ). n ≤ 37) (sym c.read.ensures.0) (manifest_few c.args.s.now)

pub draw-n-requires : goal.draw-n-requires
draw-n-requires c =
    let sheet = c.gather-sheet.ensures.0 in
    subst (λ (p : Table). p.snapshots.at < 4294967296) (sym (c.table_in-table.ensures ∙ ap table_in sheet)) (near c.args.b.now).snapshots

pub tell-requires : goal.tell-requires
tell-requires c = subst (λ (o : Sheet). (table_in o).events.at < 4294967296) (sym c.gather-sheet.ensures.0) (near c.args.b.now).events

pub returns : goal.returns
returns c =
    let made = read_made c.args.s.now c.args.b.now (c.judged-manifest.ensures ∙ c.read.ensures.0) c.read.ensures.1 c.read.ensures.2
    c.gather-sheet.ensures.0 c.gather-sheet.ensures.1 c.refusal-both.ensures c.table_in-table.ensures c.draw-n.ensures c.give-given.ensures c.tell.ensures in
    record { told = made.0; facts = made.1.0; from = made.1.1.0; reads = made.1.1.1.0; to = made.1.1.1.1.0; gives = made.1.1.1.1.1 }
