-- The cells of an n by n matrix that is held in a list, row after row.
use Prim.Native.Nat.{ℕ, ◌+◌, ◌*◌, ◌≤◌, ◌<◌}
use native.Mathlib.Nat.{mul-le-mul, suc-mul, le_refl}
use native.Mathlib.Omega.{arith}

-- a cell stands below n * n
pub cell : (n c d : ℕ) → c < n → d < n → c * n + d < n * n
cell n c d h k = omega (arith, suc-mul c n, mul-le-mul h (le_refl n))

pub square : (n m : ℕ) → n ≤ m → n * n ≤ m * m
square n m h = mul-le-mul h h
