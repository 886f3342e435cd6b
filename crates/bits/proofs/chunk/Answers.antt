-- `chunk` gives the number of n bits in one byte: the law `in_byte` says which shift and which cut that is. Assumes nothing.
use mathlib.Core.Path.{◌≡◌, sym}
use Prim.Native.Nat.{◌*◌, ◌%◌, ◌^◌, ◌≤◌}
use native.Mathlib.Omega.{arith}
use lib.Pow.{pow_mono}
use Rattle.bits.specs.laws.Number.{in_byte}
use Rattle.bits.proofs.chunk.Goals as goal

pub returns : goal.returns
returns c =
    let a = c.args in
    let l : a.n ≤ 8 = omega arith in
    let e : 1 * 2 ^ a.n % 18446744073709551616 ≡ 2 ^ a.n = omega (arith, pow_mono {j = 8} l) in
    rw (e, c.from.ensures, c.byte.ensures) (sym (in_byte a.s.now a.p a.n (omega arith)))
