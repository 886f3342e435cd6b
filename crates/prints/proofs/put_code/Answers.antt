-- `prints::put_code` meets its contract: for each width the bytes that are put, one after the other, are those of `utf8`. Assumes nothing.
use mathlib.Core.Path.{sym}
use Rattle.prints.specs.laws.Fronts.{puts_same, puts_then, utf8_one, utf8_two, utf8_three, utf8_four}
use Rattle.prints.proofs.put_code.Goals as goal

pub returns-then-v-lt128 : goal.returns-then-v-lt128
returns-then-v-lt128 c = puts_same (sym (utf8_one _ c.if-v-lt128.true)) c.put.ensures

pub returns-then-v-lt2048 : goal.returns-then-v-lt2048
returns-then-v-lt2048 c = puts_same (sym (utf8_two _ c.if-v-lt128.false c.if-v-lt2048.true)) (puts_then c.put-one.ensures c.put-then-v-lt2048.ensures)

pub returns-then-v-lt65536 : goal.returns-then-v-lt65536
returns-then-v-lt65536 c = puts_same (sym (utf8_three _ c.if-v-lt128.false c.if-v-lt2048.false c.if-v-lt65536.true)) (puts_then (puts_then c.put-one-then-v-lt65536.ensures c.put-two.ensures) c.put-then-v-lt65536.ensures)

pub returns : goal.returns
returns c = puts_same (sym (utf8_four _ c.if-v-lt128.false c.if-v-lt2048.false c.if-v-lt65536.false)) (puts_then (puts_then (puts_then c.put-one-2.ensures c.put-two-2.ensures) c.put-three.ensures) c.put-2.ensures)
