-- `traced::clock_of` meets its contract: past domain 6 or machine 31 there is no clock, as for domain 0; else the crate numbers says it. Assumes nothing.
use mathlib.Core.Path.{sym, ap, ◌∙◌}
use Rattle.numbers.specs.Numbers.{clock_of}
use Rattle.traced.specs.laws.Files.{domain_past, machine_past}
use Rattle.traced.proofs.clock_of.Goals as goal

pub returns-then-d-gt6 : goal.returns-then-d-gt6
unfolding clock_of
returns-then-d-gt6 c = ap (λ k. k.0) c.domain_clock.ensures ∙ sym (domain_past c.args.d c.args.m c.if-d-gt6.true)

pub returns-then-m-gt31 : goal.returns-then-m-gt31
unfolding clock_of
returns-then-m-gt31 c = ap (λ k. k.0) c.domain_clock-then-m-gt31.ensures ∙ sym (machine_past c.args.d c.args.m c.if-m-gt31.true)

pub returns : goal.returns
returns c = ap (λ k. k.0) c.domain_clock-2.ensures
