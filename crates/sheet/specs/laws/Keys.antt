-- The key of a source: its file and its id as one number. An id has 32 bits, so sources have one key exactly where they have one file and id. Assumes nothing.
use Rattle.std.specs.Prelude.{◌≡◌, ◌&&◌, List, eqb, length, get_or}
use Rattle.std.proofs.Math.Path.{refl}
use Prim.Native.Nat.{ℕ, zero, suc, ◌+◌, ◌*◌, ◌<◌}
use Rattle.std.proofs.Common.{arith, eq-eqb, ne_eqb}
use Rattle.std.proofs.Math.Decide.{ℕ_discrete}
use Rattle.bits.specs.laws.Number.{number_lt}
use Rattle.records.specs.Layout.{source_here}
use Rattle.records.specs.declared.Source.{Source}
use Rattle.sheet.specs.Twice.{among, same_source}
use Rattle.sheet.specs.Places.{every, sources_from}

abbrev pub key_of : Source → ℕ
key_of x = x.file.0 * 0x100000000 + x.id

-- the keys of the n sources from a bit position on
abbrev pub keys_from : List ℕ → ℕ → ℕ → List ℕ
keys_from s at n = every (λ a. key_of (source_here s a)) 40 at n

-- the same in an array for 32
pub record Keyed (s : List ℕ) (at : ℕ) (keys : List ℕ) (n : ℕ) : Type 0 where
  pub long : length keys ≡ 32
  pub each : (k : ℕ) → k < n → get_or keys k 0 ≡ key_of (source_here s (at + 40 * k))

pair_key : (f g i j : ℕ) → i < 0x100000000 → j < 0x100000000 → eqb (f * 0x100000000 + i) (g * 0x100000000 + j) ≡ (eqb f g && eqb i j)
pair_key f g i j li lj = go (ℕ_discrete f g) (ℕ_discrete i j)
  where
    go : Dec (f ≡ g) → Dec (i ≡ j) → eqb (f * 0x100000000 + i) (g * 0x100000000 + j) ≡ (eqb f g && eqb i j)
    go (yes e) (yes h) = rw (eq-eqb f g e, eq-eqb i j h, eq-eqb (f * 0x100000000 + i) (g * 0x100000000 + j) (omega arith))
    go (yes e) (no h) = rw (eq-eqb f g e, ne_eqb i j h, ne_eqb (f * 0x100000000 + i) (g * 0x100000000 + j) (λ (q : f * 0x100000000 + i ≡ g * 0x100000000 + j). h (omega arith)))
    go (no e) _ = rw (ne_eqb f g e, ne_eqb (f * 0x100000000 + i) (g * 0x100000000 + j) (λ (q : f * 0x100000000 + i ≡ g * 0x100000000 + j). e (omega arith)))

module _ (s : List ℕ) where
  -- keys are equal exactly where file and id are
  key_tells : (a b : ℕ) → eqb (key_of (source_here s a)) (key_of (source_here s b)) ≡ same_source (source_here s a) (source_here s b)
  key_tells a b = pair_key _ _ _ _ (number_lt s (a + 3 + 5) 32) (number_lt s (b + 3 + 5) 32)

  -- so a source is among others exactly where its key is among theirs
  pub among_keys : (a p n : ℕ) → among eqb (key_of (source_here s a)) (keys_from s p n) ≡ among same_source (source_here s a) (sources_from s p n)
  unfolding among every
  among_keys a p zero = refl
  among_keys a p (suc n) = rw (key_tells a p, among_keys a (p + 40) n)
