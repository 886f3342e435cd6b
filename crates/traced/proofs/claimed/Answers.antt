-- `traced::claimed` meets its contract. The loop's invariant: the first that claims is the first from number f on. Assumes nothing.
use mathlib.Core.Path.{refl, sym, ap, ◌∙◌}
use native.Mathlib.Omega.{arith}
use Rattle.checks.specs.Table.{file_number}
use Rattle.traced.specs.laws.Files.{files_few, found_is, goes_on, none_is}
use Rattle.traced.proofs.claimed.Goals as goal

pub loop-f-init : goal.loop-f-init
loop-f-init c = (omega (arith, c.files-n.ensures, files_few c.args.t.now), refl)

pub returns-then-claims : goal.returns-then-claims
unfolding file_number
returns-then-claims c = c.clock_of.ensures ∙ found_is c.args.t.now c.loop-f.f c.loop-f.invariant.1 (omega (arith, c.files-n.ensures)) (sym c.claims.ensures ∙ c.if-claims.true)

pub loop-f-preserved : goal.loop-f-preserved
loop-f-preserved c = (c.loop-f.invariant.0, goes_on c.args.t.now c.loop-f.f c.loop-f.invariant.1 (omega (arith, c.files-n.ensures)) (sym c.claims.ensures ∙ c.if-claims.false))

pub returns : goal.returns
returns c = ap (λ k. k.0) c.private_clock.ensures ∙ none_is c.args.t.now c.loop-f.f c.loop-f.invariant.1 (omega (arith, c.files-n.ensures))
