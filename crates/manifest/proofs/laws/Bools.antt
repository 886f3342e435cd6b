-- Tests taken apart. Assumes nothing.
use Rattle.std.specs.Prelude.{◌≡◌, refl, Bool, true, false, not, ◌||◌, ◌&&◌, ℕ, suc}
use Rattle.std.proofs.Common.{sym, true≢false, arith}
use Rattle.text.specs.Reading.{pick}

-- neither holds
pub halves : (a b : Bool) → (a || b) ≡ false → (a ≡ false) × (b ≡ false)
halves true b e = absurd (true≢false e)
halves false b e = (refl, e)

-- both hold
pub two : (a b : Bool) → (a && b) ≡ true → (a ≡ true) × (b ≡ true)
two true b e = (refl, e)
two false b e = absurd (true≢false (sym e))

pub not_false : (b : Bool) → not b ≡ false → b ≡ true
not_false true e = refl
not_false false e = absurd (true≢false e)

-- a number that is 0 was not picked
pub zero_pick : (b : Bool) (n k : ℕ) → pick b (suc n) k ≡ 0 → (b ≡ false) × (k ≡ 0)
unfolding pick
zero_pick true n k e = absurd (omega arith)
zero_pick false n k e = (refl, e)
