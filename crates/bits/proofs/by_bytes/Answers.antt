-- `by_bytes` gives the number of w bits. Invariant: v is the number of the first k bits; a turn joins the next n to them (`number_append`).
-- The measure is the bits left. Assumes nothing.
use mathlib.Core.Path.{◌≡◌, sym, ap, ◌∙◌}
use mathlib.Core.List.{List}
use Prim.Native.Nat.{ℕ, ◌+◌, ◌*◌, ◌%◌, ◌^◌, ◌<◌, ◌≤◌}
use native.Mathlib.Omega.{arith}
use Rattle.bits.specs.Bits.{number}
use Rattle.bits.specs.laws.Number.{number_none, number_append, number_fits}
use Rattle.bits.proofs.by_bytes.Goals as goal

-- the bits so far, shifted, and n more, which are no more than w, are the number of them all, and nothing is shifted out of the word
joined : (s : List ℕ) (i k n w : ℕ) {v x : ℕ} → v ≡ number s i k → x ≡ number s (i + k) n → k + n ≤ w → w ≤ 64 → v * 2 ^ n % 18446744073709551616 + x ≡ number s i (k + n)
joined s i k n w ev ex h l =
    let f : number s i k * 2 ^ n + number s (i + k) n < 18446744073709551616 = rw (← number_append s i k n) (number_fits s i (k + n) (omega arith)) in
    rw (ev, ex, number_append s i k n) (omega arith)

pub loop-k-init : goal.loop-k-init
loop-k-init c = (omega arith, sym (number_none c.args.s.now c.args.at))

pub overflow_add-v : goal.overflow_add-v
overflow_add-v c =
    let a = c.args in
    let l = c.loop-k in
    rw (joined a.s.now a.at l.k c.min-n.result a.w l.invariant.1 c.chunk.ensures (omega arith) (omega arith))
    (record { fits = number_fits a.s.now a.at (l.k + c.min-n.result) (omega arith) })

pub loop-k-preserved : goal.loop-k-preserved
loop-k-preserved c =
    let a = c.args in
    let l = c.loop-k in
    (omega arith, joined a.s.now a.at l.k c.min-n.result a.w l.invariant.1 c.chunk.ensures (omega arith) (omega arith))

pub returns : goal.returns
returns c = let e : c.loop-k.k ≡ c.args.w = omega arith in c.loop-k.invariant.1 ∙ ap (number c.args.s.now c.args.at) e
