-- `lines::source_clock` meets its contract: past the table's end the machine is 0. Assumes nothing.
use mathlib.Core.Path.{sym, ap, ◌∙◌}
use Prim.Native.Nat.{ℕ}
use native.Mathlib.Omega.{arith}
use lib.ListN.{get_or-eq_default}
use Rattle.merged.specs.Timeline.{domain_clock}
use Rattle.lines.proofs.source_clock.Goals as goal

pub returns-then-j-gt31 : goal.returns-then-j-gt31
returns-then-j-gt31 c = c.clock_of.ensures ∙ ap (λ (m : ℕ). domain_clock c.args.d m) (sym (get_or-eq_default c.args.machines.now 0 (omega arith)))
