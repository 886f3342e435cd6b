-- `lines::events` meets its contract. The loop's invariant: both memories have the first k events over their front, so their lengths stay. Assumes nothing.
use borrow.Author.Rules.{rules}
use mathlib.Core.List.{map}
use mathlib.Core.Path.{◌≡◌, ap, ◌∙◌}
use Prim.Native.Nat.{◌<◌}
use native.Mathlib.Omega.{arith}
use mir.Facts.{to_z-of_z}
use mir.Syntax.{w64}
use mir.Val.{SFits}
use lib.ListN.{set, length}
use Rattle.records.specs.declared.Event.{Event}
use Rattle.lines.specs.Lines.{events_at, over, reach, clock_by}
use Rattle.lines.specs.laws.Tables.{events_to, events_none, events_length, events_more}
use Rattle.lines.proofs.events.Goals as goal

pub loop-k-init : goal.loop-k-init
loop-k-init c = (omega arith, events_none (clock_by c.args.t.now c.args.machines.now) c.args.b.now c.wide-base.result c.args.on.now, events_none (λ (v : Event). v.reading) c.args.b.now c.wide-base.result c.args.readings.now)

pub bounds-on-k : goal.bounds-on-k
bounds-on-k c = omega (arith, c.least-m.ensures, ap length c.loop-k.invariant.1, events_length (clock_by c.args.t.now c.args.machines.now) c.args.b.now c.wide-base.result c.args.on.now {k = c.loop-k.k} (omega (arith, c.least-m.ensures, c.loop-k.invariant.0)))

pub bounds-readings-k : goal.bounds-readings-k
bounds-readings-k c = omega (arith, c.least-m.ensures, ap length c.loop-k.invariant.2, events_length (λ (v : Event). v.reading) c.args.b.now c.wide-base.result c.args.readings.now {k = c.loop-k.k} (omega (arith, c.least-m.ensures, c.loop-k.invariant.0)))

pub loop-k-preserved : goal.loop-k-preserved
loop-k-preserved c = let f : SFits w64 c.event_at-e.result.reading = search rules in let u : c.loop-k.k < length c.args.on.now = omega (arith, c.least-m.ensures, c.loop-k-test.true) in let v : c.loop-k.k < length c.args.readings.now = omega (arith, c.least-m.ensures, c.loop-k-test.true) in (omega arith, ap (set c.loop-k.on c.loop-k.k) c.event_clock.ensures ∙ events_more (clock_by c.args.t.now c.args.machines.now) c.args.b.now c.wide-base.result c.args.on.now u c.loop-k.invariant.1 c.event_at-e.ensures, rw (to_z-of_z f) (events_more (λ (v : Event). v.reading) c.args.b.now c.wide-base.result c.args.readings.now v c.loop-k.invariant.2 c.event_at-e.ensures))

pub returns : goal.returns
unfolding events_to
returns c =
    let e : c.loop-k.k ≡ reach c.args.n (length c.args.on.now) (length c.args.readings.now) = omega (arith, c.least-m.ensures, c.loop-k.invariant.0) in
    record {
      on = c.loop-k.invariant.1
          ∙ (λ i. over (map (clock_by c.args.t.now c.args.machines.now) (events_at c.args.b.now (c.wide-base.ensures.0 i) (e i))) c.args.on.now);
      readings = c.loop-k.invariant.2
          ∙ (λ i. over (map (λ (v : Event). v.reading) (events_at c.args.b.now (c.wide-base.ensures.0 i) (e i))) c.args.readings.now);
    }
