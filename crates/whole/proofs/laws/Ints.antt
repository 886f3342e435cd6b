-- A whole number as a difference of two naturals: by these laws an equation of whole numbers becomes one of naturals. Assumes nothing.
use Rattle.std.specs.Prelude.{◌≡◌, ℕ, suc, ◌+◌, ◌-◌, ◌<◌, ◌≤◌, Bool, true, false, ◌⊎◌, pos, negsuc, nat_lt, refl}
use Rattle.std.proofs.Common.{sym, ap, ◌∙◌, inl, inr, ⊎_elim, arith, ltb-true, ltb-false, lt-ltb, le-ltb}
use Rattle.std.proofs.Math.IntN.{sub_ℕ}

pub split : (a b : ℕ) → (a < b) ⊎ (b ≤ a)
split a b = go (nat_lt a b) refl
  where
    go : (t : Bool) → nat_lt a b ≡ t → (a < b) ⊎ (b ≤ a)
    go true e = inl (ltb-true a b e)
    go false e = inr (ltb-false a b e)

pub sub_pos : (a b : ℕ) → b ≤ a → sub_ℕ a b ≡ pos (a - b)
sub_pos a b h = simp (le-ltb a b h)

pub sub_neg : (a b : ℕ) → a < b → sub_ℕ a b ≡ negsuc (b - suc a)
sub_neg a b h = simp (lt-ltb a b h)

-- two differences are equal where the cross sums are: so an equation of whole numbers becomes one of naturals
pub sub_eq : (a b c d : ℕ) → a + d ≡ c + b → sub_ℕ a b ≡ sub_ℕ c d
sub_eq a b c d h = ⊎_elim below above (split a b)
  where
    below : a < b → sub_ℕ a b ≡ sub_ℕ c d
    below l =
        let e : b - suc a ≡ d - suc c = omega arith in
        sub_neg a b l ∙ ap negsuc e ∙ sym (sub_neg c d (omega arith))

    above : b ≤ a → sub_ℕ a b ≡ sub_ℕ c d
    above l =
        let e : a - b ≡ c - d = omega arith in
        sub_pos a b l ∙ ap pos e ∙ sym (sub_pos c d (omega arith))

pub pos_sub : (n : ℕ) → pos n ≡ sub_ℕ n 0
pos_sub n = let e : n ≡ n - 0 = omega arith in ap pos e ∙ sym (sub_pos n 0 (omega arith))

pub negsuc_sub : (n : ℕ) → negsuc n ≡ sub_ℕ 0 (suc n)
negsuc_sub n = let e : n ≡ suc n - 1 = omega arith in ap negsuc e ∙ sym (sub_neg 0 (suc n) (omega arith))
