-- `checks::place_of` meets its contract: the place is where `position` finds the id, among the first n. Assumes nothing.
use borrow.Author.Rules.{rules}
use borrow.Author.Tests.{tests}
use mathlib.Core.Path.{sym, ap, ◌∙◌}
use native.Mathlib.Omega.{arith}
use Prim.Native.Nat.{ℕ}
use mathlib.Core.List.{List}
use lib.ListN.{take}
use lib.Dec.{eqb}
use Rattle.std.proofs.Common.{length-take-le}
use Rattle.std.proofs.lemmas.Iterator.{YieldsList-from_slice}
use Rattle.std.proofs.lemmas.Iterator.Search.{position_from_yields_List}
use Rattle.checks.specs.laws.Ids.{place_in, firsts_take, place_found}
use Rattle.checks.proofs.place_of.Goals as goal

pub returns : goal.returns
returns c =
    let l : List ℕ = take c.args.n c.args.ids.now in
    c.unwrap_or.ensures
    ∙ (place_found c.args.id l c.args.n (length-take-le c.args.n c.args.ids.now (omega (arith, c.requires, c.told-ids)))
    (position_from_yields_List (eqb c.args.id) _ _ c.position.result c.position.ensures.ran (YieldsList-from_slice l cc) (λ x b q k. search (rules, tests)))
    ∙ ap (place_in c.args.n c.args.id) (sym (firsts_take c.args.ids.now c.args.n (omega (arith, c.requires, c.told-ids)))))
