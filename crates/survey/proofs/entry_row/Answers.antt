-- `survey::entry_row` meets its contract: the invariant is that of `row`, and that `machines` is in the index, and `machine` and `clocks` are kept, each if its
-- column is not free. Assumes nothing.
use mathlib.Core.Path.{refl, sym, ◌∙◌}
use Prim.Native.Nat.{◌+◌}
use native.Mathlib.Omega.{arith}
use Rattle.text.specs.laws.Peek.{found_in}
use Rattle.survey.proofs.Holding.{holds_sized}
use Rattle.survey.proofs.Entries.{entry_none, entry_on, entry_kept}
use Rattle.survey.proofs.Walking.{walk_start, walk_place, walk_sized, walk_end, walk_on, walk_further}
use Rattle.survey.proofs.Stepping.{column_small}
use Rattle.survey.proofs.entry_row.Goals as goal

pub returns-then-byte-ne123 : goal.returns-then-byte-ne123
returns-then-byte-ne123 c = λ n. absurd (n refl)

pub overflow_add-at : goal.overflow_add-at
overflow_add-at c = omega (arith, found_in _ _ c.byte.ensures c.if-byte-ne123.false tt)

pub loop-found-init : goal.loop-found-init
loop-found-init c = (walk_start _ _ _ _ c.blank-i.ensures, entry_none _ _ _ _ _)

pub entry_member-m-requires : goal.entry_member-m-requires
entry_member-m-requires c = (holds_sized _ (λ e. e.1.sized) c.loop-found.invariant.1.items ∙ c.requires.0, c.requires.1)

pub noted-requires : goal.noted-requires
noted-requires c =
    let w = c.loop-found.invariant in
    let en = c.entry_member-m.ensures c.if-m-eq0.false in
    (w.0.sized, omega arith, walk_place _ _ _ _ (omega arith) w.0 en.0)

pub returns-then-m-eq0 : goal.returns-then-m-eq0
returns-then-m-eq0 c = λ n. absurd (n refl)

pub lacking-requires : goal.lacking-requires
lacking-requires c =
    let w = c.loop-found.invariant in
    let en = c.entry_member-m.ensures c.if-m-eq0.false in
    let d = c.noted.ensures c.if-not-noted.false in
    (walk_sized _ _ _ _ (omega arith) w.0 en.0 d, omega arith)

pub returns-then-lacking : goal.returns-then-lacking
returns-then-lacking c = λ n. absurd (n refl)

pub overflow_add-found : goal.overflow_add-found
overflow_add-found c = omega (arith, found_in _ _ c.byte-b.ensures c.if-b-eq125.true tt, c.well_formed)

pub bounds-found-0 : goal.bounds-found-0
bounds-found-0 c =
    let w = c.loop-found.invariant in
    let en = c.entry_member-m.ensures c.if-m-eq0.false in
    let d = c.noted.ensures c.if-not-noted.false in
    omega (arith, walk_sized _ _ _ _ (omega arith) w.0 en.0 d)

pub returns-then-b-eq125 : goal.returns-then-b-eq125
returns-then-b-eq125 c =
    let w = c.loop-found.invariant in
    let en = c.entry_member-m.ensures c.if-m-eq0.false in
    let d = c.noted.ensures c.if-not-noted.false in
    λ _. (
      walk_end _ _ _ _ (omega arith) w.0 en.0 d (λ h. column_small _ (omega arith) refl _ h (walk_place _ _ _ _ (omega arith) w.0 en.0 h))
          c.blank-e.ensures c.byte-b.ensures (sym c.byte.ensures ∙ c.if-byte-ne123.false) c.if-b-eq125.true (c.lacking.ensures c.if-lacking.false),
      entry_kept _ _ (c.blank-e.result + 1) c.noted.new.found (entry_on _ _ _ w.0 en.0 d w.1 en.1),
    )

pub returns-then-b-ne44 : goal.returns-then-b-ne44
returns-then-b-ne44 c = λ n. absurd (n refl)

pub overflow_add-e : goal.overflow_add-e
overflow_add-e c = omega (arith, found_in _ _ c.byte-b.ensures c.if-b-ne44.false tt)

pub loop-found-smaller : goal.loop-found-smaller
loop-found-smaller c =
    let w = c.loop-found.invariant in
    let en = c.entry_member-m.ensures c.if-m-eq0.false in
    let d = c.noted.ensures c.if-not-noted.false in
    walk_further _ _ _ _ (omega arith) w.0 en.0 d (λ h. column_small _ (omega arith) refl _ h (walk_place _ _ _ _ (omega arith) w.0 en.0 h))
    c.blank-e.ensures c.byte-b.ensures c.if-b-eq125.false c.if-b-ne44.false c.blank-i-in-loop-found.ensures

pub loop-found-preserved : goal.loop-found-preserved
loop-found-preserved c =
    let w = c.loop-found.invariant in
    let en = c.entry_member-m.ensures c.if-m-eq0.false in
    let d = c.noted.ensures c.if-not-noted.false in (
      walk_on _ _ _ _ (omega arith) w.0 en.0 d (λ h. column_small _ (omega arith) refl _ h (walk_place _ _ _ _ (omega arith) w.0 en.0 h))
          c.blank-e.ensures c.byte-b.ensures c.if-b-eq125.false c.if-b-ne44.false c.blank-i-in-loop-found.ensures,
      (entry_on _ _ _ w.0 en.0 d w.1 en.1),
    )
