-- `scan` ends where the walk over the records ends. The invariant `Left` says that what is left to walk is the whole walk; the measure is the bits that are left. Assumes nothing.
use Rattle.std.proofs.Common.{◌≡◌, refl, sym, subst, arith}
use Rattle.records.specs.States.{start}
use Rattle.records.specs.declared.State.{State}
use Rattle.sheet.specs.laws.Reads.{Left, left_start, left_step, left_next, left_end, left_bad, left_some}
use Rattle.sheet.proofs.scan.Goals as goal

pub loop-next-init : goal.loop-next-init
loop-next-init c =
    let q = c.default-st.ensures in
    let e : c.default-st.result ≡ start =
    λ i. record { at = q.0 i; last = q.1.0 i; files = q.1.1.0 i; containers = q.1.1.1.0 i; sources = q.1.1.1.1.0 i; snapshots = q.1.1.1.1.1.0 i; events = q.1.1.1.1.1.1 i } in
    subst (λ (st : State). Left c.args.s.now st) (sym e) (left_start c.args.s.now c.requires)

pub loop-next-smaller : goal.loop-next-smaller
loop-next-smaller c =
    let l = c.loop-next.invariant in
    let q = left_next l (left_step l (rw c.in-Ok-Some.field-0-is at c.in-Ok-Some.ensures) refl) in
    omega (arith, q.1, q.0.fit.here)

pub loop-next-preserved : goal.loop-next-preserved
loop-next-preserved c = let l = c.loop-next.invariant in (left_next l (left_step l (rw c.in-Ok-Some.field-0-is at c.in-Ok-Some.ensures) refl)).0

pub returns-in-Ok-None : goal.returns-in-Ok-None
returns-in-Ok-None c = let l = c.loop-next.invariant in left_end l (left_step l (rw c.in-Ok-None.field-0-is at c.in-Ok-None.ensures) refl)

pub returns-in-Err-Refused : goal.returns-in-Err-Refused
returns-in-Err-Refused c =
    let l = c.loop-next.invariant in
    rw c.in-Err-Refused.refusal-is (left_bad l (left_step l (rw c.in-Err-Refused.field-0-is at c.in-Err-Refused.ensures) refl))

pub unreachable-requires : goal.unreachable-requires
unreachable-requires c = let l = c.loop-next.invariant in left_some l (left_step l (rw c.in-Err-NoState.field-0-is at c.in-Err-NoState.ensures) refl)
