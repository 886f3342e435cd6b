-- `lines::events` meets its contract. The loop's invariant: both memories have the first k events over their front, so their lengths stay. Assumes nothing.
use mathlib.Core.Path.{◌≡◌}
use Prim.Native.Nat.{◌-◌, ◌≤◌}
use Rattle.records.specs.declared.Event.{Event}
use Rattle.lines.specs.Lines.{clock_by}
use Rattle.lines.specs.laws.Tables.{events_to}
use Rattle.lines.proofs.events.Given as goal

abbrev pub invariant-loop-k : goal.invariant-loop-k
invariant-loop-k l = (l.k ≤ l.m) × (l.on ≡ events_to (clock_by l.t l.machines) l.b l.base l.initial.on l.k) × (l.readings ≡ events_to (λ (v : Event). v.reading) l.b l.base l.initial.readings l.k)

abbrev pub decreases-loop-k : goal.decreases-loop-k
decreases-loop-k l = l.m - l.k
