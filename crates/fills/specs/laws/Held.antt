-- Numbers put in, if an index holds them. Assumes nothing.
use Rattle.std.specs.Prelude.{◌≡◌, List, ℕ, ◌<◌}
use Rattle.index.proofs.laws.Put.{Put}

-- new is old with the numbers w of number k from base on, if k is among the 32 that an index holds; else new is old
pub record PutHeld (k : ℕ) (old : List ℕ) (base : ℕ) (w new : List ℕ) : Type 0 where
  pub held : k < 32 → Put old base w new
  pub past : (k < 32 → ⊥) → new ≡ old
