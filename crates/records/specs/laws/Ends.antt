-- 29 in plain numbers. Assumes nothing.
use Rattle.std.specs.Prelude.{◌≡◌, refl, Bool, true, false, ◌||◌, List, ℕ, ◌+◌, ◌*◌, ◌≤◌, ltb, length}
use Rattle.std.proofs.Common.{arith, ltb-false, le-ltb}
use Rattle.bits.specs.Bits.{number}
use Rattle.records.specs.Faults.{to_byte_end, after_end}

or_false : (a b : Bool) → (a || b) ≡ false → (a ≡ false) × (b ≡ false)
or_false true b h = let z : ◌≡◌ {A = ℕ} 0 1 = cc in absurd (omega arith)
or_false false b h = (refl, h)

pub nothing_after : (s : List ℕ) (e : ℕ) → after_end s e ≡ false → (number s e (to_byte_end e) ≡ 0) × (8 * length s ≤ e + to_byte_end e)
unfolding after_end
nothing_after s e h =
    let q = or_false (ltb 0 (number s e (to_byte_end e))) (ltb (e + to_byte_end e) (8 * length s)) h in
    (omega (arith, ltb-false 0 (number s e (to_byte_end e)) q.0), ltb-false (e + to_byte_end e) (8 * length s) q.1)

pub no_more_after : (s : List ℕ) (e : ℕ) → number s e (to_byte_end e) ≡ 0 → 8 * length s ≤ e + to_byte_end e → after_end s e ≡ false
unfolding after_end
no_more_after s e z l = rw (le-ltb 0 (number s e (to_byte_end e)) (omega arith), le-ltb (e + to_byte_end e) (8 * length s) l)
