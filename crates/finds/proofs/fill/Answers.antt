-- `finds::fill` meets its contract: the last number is put first; then the invariant is that the first i numbers of each of the four parts are in the table. Assumes nothing.
use mathlib.Core.Path.{refl, sym, ap, ◌∙◌}
use mathlib.Core.List.{List, map}
use Prim.Native.Nat.{ℕ}
use native.Mathlib.Omega.{arith}
use lib.ListN.{get_or, length-map}
use Rattle.named.proofs.Theorems.{table_length}
use Rattle.finds.specs.Finds.{from_one, of_entries}
use Rattle.finds.specs.laws.Lookups.{fourths_none, fourths_more, fourths_all, prints_length, kept_length, kept_is, get_d_map}
use Rattle.finds.proofs.fill.Goals as goal

pub loop-i-init : goal.loop-i-init
loop-i-init c = (omega arith, omega arith, fourths_none refl c.from_one.ensures)

pub bounds-entries-i : goal.bounds-entries-i
bounds-entries-i c = omega (arith, c.loop-i.invariant.1)

pub loop-i-preserved : goal.loop-i-preserved
loop-i-preserved c = (omega arith, c.loop-i.invariant.1, fourths_more c.loop-i-test.true c.loop-i.invariant.2 (ap (λ (l : List ℕ). get_or l c.loop-i.i 0) c.fill-names.ensures.0) (c.wide.ensures ∙ ap (λ (l : List ℕ). get_or l c.loop-i.i 0) c.fill-names.ensures.1) (c.from_one-in-loop-i.ensures ∙ sym (get_d_map from_one c.args.cites.now c.loop-i.i 0 0 (omega (arith, c.loop-i.invariant.1)))) (kept_is c.args.ix.now c.args.prints.now c.loop-i.i c.loop-i-test.true c.entries-n.ensures c.path_print.ensures.0 c.path_print.ensures.1))

pub returns : goal.returns
returns c = fourths_all _ _ (map from_one c.args.cites.now) (of_entries c.args.ix.now c.args.prints.now) _ (table_length _ _) (prints_length _ _) (length-map c.args.cites.now from_one ∙ c.loop-i.invariant.1) (kept_length _ _) c.loop-i-test.false c.loop-i.invariant.2
