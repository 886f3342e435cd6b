-- What the definitions of the table mean. Assumes nothing.
use Rattle.std.specs.Prelude.{◌≡◌, ℕ, ◌<◌}
use Rattle.std.proofs.Common.{sym, ◌∙◌, true≢false, arith}
use Rattle.std.proofs.Math.Decide.{ℕ_discrete}
use Rattle.text.specs.Reading.{Text}
use Rattle.table.specs.Table.{LineAt}

-- a line below 20 that is about the member is the only one that may be told
told_alone : {o : ℕ} {s : Text} {p j k : ℕ} → LineAt o s p j → LineAt o s p k → j < 20 → (j ≡ k → ⊥) → ⊥
told_alone {j = j} h g l n = let a = h.about l in true≢false (sym a.1 ∙ g.others j l n a.0)

-- one line at most is told: whatever meets `LineAt` is one answer
pub line_one : {o : ℕ} {s : Text} {p j k : ℕ} → LineAt o s p j → LineAt o s p k → j ≡ k
line_one {j = j} {k = k} h g = go (ℕ_discrete j k) (ℕ_discrete j 20)
  where
    go : Dec (j ≡ k) → Dec (j ≡ 20) → j ≡ k
    go (yes e) d = e
    go (no n) (no m) = absurd (told_alone h g (omega (arith, h.few)) n)
    go (no n) (yes m) = absurd (told_alone g h (omega (arith, g.few)) (λ e. n (sym e)))
