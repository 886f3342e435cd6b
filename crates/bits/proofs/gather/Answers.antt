-- `gather` gives the number of w bits: both ways to read them do, the word from the byte and the bit in it at which the position lies, of whose 64 bits the
-- first w are left (`number_front`). Assumes nothing.
use mathlib.Core.Path.{◌≡◌, ap, ◌∙◌}
use Prim.Native.Nat.{ℕ, ◌+◌, ◌-◌, ◌*◌, ◌/◌, ◌%◌, ◌^◌}
use native.Mathlib.Omega.{arith}
use Rattle.bits.specs.Bits.{number}
use Rattle.bits.specs.laws.Number.{number_front}
use Rattle.bits.proofs.gather.Goals as goal

pub returns-then-i-s : goal.returns-then-i-s
returns-then-i-s c = let a = c.args in
    let e : 8 * (a.at / 8) + a.at % 8 ≡ a.at = omega arith in
    let w : 64 ≡ a.w + (64 - a.w) = omega arith in
    rw (c.word.ensures, e) (ap (λ (k : ℕ). number a.s.now a.at k / 2 ^ (64 - a.w)) w ∙ number_front a.s.now a.at a.w (64 - a.w))
