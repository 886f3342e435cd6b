-- A reading's key is its pattern and 2^63, and a key's reading that of the key less 2^63, as far as 64 bits go. Assumes nothing.
use Rattle.std.proofs.Common.{◌≡◌, ℕ, suc, ◌+◌, ◌-◌, ◌%◌, ◌^◌, ◌<◌, ◌≤◌, sym, ap, ◌∙◌, le-ltb, ℤ, pos, negsuc, arith, w64, SFits, to_z, of_z, ⊎_elim}
use mir.Facts.{to_z_pos}
use Rattle.whole.specs.Whole.{excess, of_excess}
use Rattle.whole.proofs.laws.Ints.{split, sub_pos, sub_neg}
use Rattle.whole.proofs.laws.Keys.{of_excess_is}

pub pattern_key : (x : ℤ) → SFits w64 x → (of_z w64 x + 2 ^ 63) % 2 ^ 64 ≡ excess x
unfolding excess
pattern_key (pos n) f = omega arith
pattern_key (negsuc n) f = omega arith

pub key_pattern : (k : ℕ) → k < 2 ^ 64 → to_z w64 ((k + 2 ^ 63) % 2 ^ 64) ≡ of_excess k
key_pattern k h = ⊎_elim low high (split k (2 ^ 63))
  where
    low : k < 2 ^ 63 → to_z w64 ((k + 2 ^ 63) % 2 ^ 64) ≡ of_excess k
    low l =
        let m : (k + 2 ^ 63) % 2 ^ 64 ≡ k + 2 ^ 63 = omega arith in
        let e : 2 ^ 64 - suc (k + 2 ^ 63) ≡ 2 ^ 63 - suc k = omega arith in
        rw m (simp (le-ltb (k + 2 ^ 63) (2 ^ 63) (omega arith)) (ap negsuc e ∙ sym (of_excess_is k ∙ sub_neg k (2 ^ 63) l)))

    high : 2 ^ 63 ≤ k → to_z w64 ((k + 2 ^ 63) % 2 ^ 64) ≡ of_excess k
    high l =
        let m : (k + 2 ^ 63) % 2 ^ 64 ≡ k - 2 ^ 63 = omega arith in
        rw m (to_z_pos w64 (omega arith) ∙ sym (of_excess_is k ∙ sub_pos k (2 ^ 63) l))
