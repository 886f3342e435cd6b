-- Whether a file is the one that an entry lists, told by the file's number. Assumes nothing.
use Rattle.std.specs.Prelude.{◌≡◌, true, false, List, ℕ}
use Rattle.std.proofs.Common.{sym, ◌∙◌, eq-eqb, ne_eqb}
use Rattle.merged.specs.Refusals.{listed_by}
use Rattle.checks.specs.Table.{file_number, file_by}

module _ (t : List ℕ) (f : ℕ) {a : ℕ} (ea : a ≡ file_number t f 0) {e : ℕ} where
  pub listed_here : a ≡ e → listed_by e (file_by t f) ≡ true
  unfolding file_by
  listed_here q = eq-eqb (file_number t f 0) e (sym ea ∙ q)

  pub listed_not : (a ≡ e → ⊥) → listed_by e (file_by t f) ≡ false
  unfolding file_by
  listed_not q = ne_eqb (file_number t f 0) e (λ p. q (ea ∙ p))
