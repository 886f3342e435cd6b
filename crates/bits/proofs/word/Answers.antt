-- `word` gives 64 bits: eight bytes are so many (`eight_bytes`), and the law `word_at` says what shifting them and the top of the ninth make of them. Assumes nothing.
use Rattle.std.proofs.Common.{◌≡◌, sym, ◌∙◌}
use Prim.Native.Nat.{ℕ, ◌+◌, ◌*◌}
use native.Mathlib.Omega.{arith}
use Rattle.bits.specs.Bits.{number}
use Rattle.bits.specs.BigEndian.{Bytes}
use Rattle.bits.specs.laws.Number.{number_lt}
use Rattle.bits.specs.laws.Words.{eight_bytes, word_at}
use Rattle.bits.proofs.word.Goals as goal

pub overflow_add-result : goal.overflow_add-result
overflow_add-result c =
    let a = c.args in
    let b : Bytes a.s.now = λ (k : ℕ). (c.type_inv.s k).fits in
    let e : c.from_be_bytes-eight.result ≡ number a.s.now (8 * a.i) 64 = c.from_be_bytes-eight.ensures ∙ eight_bytes a.s.now a.i b in
    let w = word_at a.s.now a.i a.r (omega arith) (b (a.i + 8)) in
    rw (e, c.from.ensures, ← w) (record { fits = number_lt a.s.now (8 * a.i + a.r) 64 })

pub returns : goal.returns
returns c =
    let a = c.args in
    let b : Bytes a.s.now = λ (k : ℕ). (c.type_inv.s k).fits in
    let e : c.from_be_bytes-eight.result ≡ number a.s.now (8 * a.i) 64 = c.from_be_bytes-eight.ensures ∙ eight_bytes a.s.now a.i b in
    rw (e, c.from.ensures) (sym (word_at a.s.now a.i a.r (omega arith) (b (a.i + 8))))
