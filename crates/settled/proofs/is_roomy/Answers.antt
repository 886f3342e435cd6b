-- `settled::is_roomy` meets its contract: all pairs pass the one test. Assumes nothing.
use borrow.Author.Rules.{rules}
use borrow.Author.Tests.{tests}
use mathlib.Core.Path.{◌∙◌}
use mathlib.Core.List.{List, [], ◌∷◌}
use Prim.Native.Nat.{ℕ}
use lib.Dec.{leb}
use Rattle.std.proofs.lemmas.Iterator.{YieldsList-from_slice}
use Rattle.std.proofs.lemmas.Iterator.Search.{all_from_yields_List}
use Rattle.joins.specs.Joined.{roomy_for}
use Rattle.settled.specs.laws.Fits.{seven}
use Rattle.settled.proofs.is_roomy.Goals as goal

pub returns : goal.returns
unfolding roomy_for
returns c =
    let n = c.args.known.given.events in
    let r = c.args.room in
    let pairs : List (ℕ × ℕ) = (c.args.known.sources, r.machines) ∷ (n, r.times) ∷ (n, r.kinds) ∷ (n, r.steps) ∷ (50176, r.matrix) ∷ (n, r.readings) ∷ (n, r.clocks) ∷ [] in
    all_from_yields_List (λ (p : ℕ × ℕ). leb p.0 p.1) _ _ c.all.result c.all.ensures.ran (YieldsList-from_slice pairs cc) (λ x b q k. search (rules, tests))
    ∙ seven (leb c.args.known.sources r.machines) (leb n r.times) (leb n r.kinds) (leb n r.steps) (leb 50176 r.matrix) (leb n r.readings) (leb n r.clocks)
