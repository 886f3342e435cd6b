-- A field that was taken is below its power of 2. Assumes nothing.
use mathlib.Core.Path.{◌≡◌}
use mathlib.Core.Bool.{Bool, true, false, cond}
use mathlib.Core.List.{List}
use Prim.Native.Nat.{ℕ, ◌^◌, ◌<◌}
use lib.Pow.{pow_pos}
use Rattle.bits.specs.Bits.{taken, may_stand, taken_at}
use Rattle.bits.specs.laws.Number.{number_lt}
use Rattle.bits.specs.declared.Taken.{Taken}

taken_lt : (s : List ℕ) (i w : ℕ) → (taken_at s i w).value < 2 ^ w
unfolding taken_at
taken_lt s i w = go (may_stand i w)
  where
    go : (b : Bool) → (cond b (taken s i w) (record { value = 0; next = record { at = i } })).value < 2 ^ w
    go true = number_lt s i w
    go false = pow_pos w

pub field_lt : (s : List ℕ) (i w : ℕ) {t : Taken ℕ} → t ≡ taken_at s i w → t.value < 2 ^ w
field_lt s i w e = rw e (taken_lt s i w)
