-- `listed::clear` meets its contract: the invariant is that k zeros are put in, from the start of the slot on. Assumes nothing.
use mathlib.Core.Path.{◌≡◌, ap}
use Prim.Native.Nat.{ℕ}
use native.Mathlib.Omega.{arith}
use lib.ListN.{length, replicate, length-replicate, replicate-append-replicate}
use Rattle.index.proofs.laws.Put.{put_none, put_one, put_more, put_same, put_length}
use Rattle.listed.specs.laws.Slots.{put_kept}
use Rattle.listed.proofs.clear.Goals as goal

pub loop-k-init : goal.loop-k-init
loop-k-init c = (omega arith, put_none _ _ (omega (arith, c.requires.0, c.requires.1)))

pub overflow_add-texts : goal.overflow_add-texts
overflow_add-texts c = omega arith

pub bounds-texts-base : goal.bounds-texts-base
bounds-texts-base c = omega arith

pub loop-k-preserved : goal.loop-k-preserved
loop-k-preserved c = let k : ℕ = c.loop-k.k in
    let n : length (replicate {A = ℕ} k 0) ≡ k = length-replicate {A = ℕ} k 0 in
    let p = c.loop-k.invariant.1 in
    (omega arith, put_same (replicate-append-replicate {A = ℕ} k 1 0) (put_more p (omega arith) (put_one _ _ 0 (omega (arith, put_length p, c.loop-k-test.true, c.requires.0, c.requires.1)))))

pub returns : goal.returns
returns c = let e : c.loop-k.k ≡ 256 = omega arith in
    put_kept _ c.requires.1 (length-replicate {A = ℕ} 256 0) (put_same (ap (λ (n : ℕ). replicate {A = ℕ} n 0) e) c.loop-k.invariant.1)
