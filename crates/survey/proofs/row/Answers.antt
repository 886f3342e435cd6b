-- `survey::row` meets its contract: the invariant is that the members so far were read, and each column holds what stands under its line's name.
-- Assumes nothing.
use mathlib.Core.Path.{refl, sym, ◌∙◌}
use native.Mathlib.Omega.{arith}
use Rattle.text.specs.laws.Peek.{found_in}
use Rattle.survey.proofs.Walking.{walk_start, walk_place, walk_sized, walk_end, walk_on, walk_further}
use Rattle.survey.proofs.Stepping.{column_small}
use Rattle.survey.proofs.row.Goals as goal

pub returns-then-byte-ne123 : goal.returns-then-byte-ne123
returns-then-byte-ne123 c = λ n. absurd (n refl)

pub overflow_add-at : goal.overflow_add-at
overflow_add-at c = omega (arith, found_in _ _ c.byte.ensures c.if-byte-ne123.false tt)

pub loop-found-init : goal.loop-found-init
loop-found-init c = walk_start _ _ _ _ c.blank-i.ensures

pub member-m-requires : goal.member-m-requires
member-m-requires c = c.requires

pub noted-requires : goal.noted-requires
noted-requires c = (c.loop-found.invariant.sized, c.requires.0, walk_place _ _ _ _ c.requires.0 c.loop-found.invariant (c.member-m.ensures c.if-m-eq0.false))

pub returns-then-m-eq0 : goal.returns-then-m-eq0
returns-then-m-eq0 c = λ n. absurd (n refl)

pub lacking-requires : goal.lacking-requires
lacking-requires c =
    let w = c.loop-found.invariant in
    let en = c.member-m.ensures c.if-m-eq0.false in
    let d = c.noted.ensures c.if-not-noted.false in
    (walk_sized _ _ _ _ c.requires.0 w en d, c.requires.0)

pub returns-then-lacking : goal.returns-then-lacking
returns-then-lacking c = λ n. absurd (n refl)

pub overflow_add-found : goal.overflow_add-found
overflow_add-found c = omega (arith, found_in _ _ c.byte-b.ensures c.if-b-eq125.true tt)

pub bounds-found-0 : goal.bounds-found-0
bounds-found-0 c =
    let w = c.loop-found.invariant in
    let en = c.member-m.ensures c.if-m-eq0.false in
    let d = c.noted.ensures c.if-not-noted.false in
    omega (arith, walk_sized _ _ _ _ c.requires.0 w en d)

pub returns-then-b-eq125 : goal.returns-then-b-eq125
returns-then-b-eq125 c =
    let w = c.loop-found.invariant in
    let en = c.member-m.ensures c.if-m-eq0.false in
    let d = c.noted.ensures c.if-not-noted.false in
    λ _. walk_end _ _ _ _ c.requires.0 w en d (λ h. column_small _ c.requires.0 refl _ h (walk_place _ _ _ _ c.requires.0 w en h))
    c.blank-e.ensures c.byte-b.ensures (sym c.byte.ensures ∙ c.if-byte-ne123.false) c.if-b-eq125.true (c.lacking.ensures c.if-lacking.false)

pub returns-then-b-ne44 : goal.returns-then-b-ne44
returns-then-b-ne44 c = λ n. absurd (n refl)

pub overflow_add-e : goal.overflow_add-e
overflow_add-e c = omega (arith, found_in _ _ c.byte-b.ensures c.if-b-ne44.false tt)

pub loop-found-smaller : goal.loop-found-smaller
loop-found-smaller c =
    let w = c.loop-found.invariant in
    let en = c.member-m.ensures c.if-m-eq0.false in
    let d = c.noted.ensures c.if-not-noted.false in
    walk_further _ _ _ _ c.requires.0 w en d (λ h. column_small _ c.requires.0 refl _ h (walk_place _ _ _ _ c.requires.0 w en h))
    c.blank-e.ensures c.byte-b.ensures c.if-b-eq125.false c.if-b-ne44.false c.blank-i-in-loop-found.ensures

pub loop-found-preserved : goal.loop-found-preserved
loop-found-preserved c =
    let w = c.loop-found.invariant in
    let en = c.member-m.ensures c.if-m-eq0.false in
    let d = c.noted.ensures c.if-not-noted.false in
    walk_on _ _ _ _ c.requires.0 w en d (λ h. column_small _ c.requires.0 refl _ h (walk_place _ _ _ _ c.requires.0 w en h))
    c.blank-e.ensures c.byte-b.ensures c.if-b-eq125.false c.if-b-ne44.false c.blank-i-in-loop-found.ensures
