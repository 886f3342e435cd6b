-- What `shifted_of` answers. Assumes nothing.
use Rattle.std.specs.Prelude.{◌≡◌, ℤ, ◌+ℤ◌, ◌-ℤ◌, FitsSigned, refl, Some}
use Rattle.std.proofs.Common.{sym, ap, ◌∙◌}
use Rattle.std.proofs.Math.IntN.{+ℤ-neg_ℤ_cancel, -ℤ-+ℤ_cancel}
use Rattle.std.specs.Int.{w64}
use Rattle.whole.specs.Whole.{reading, shifted_of}
use Rattle.whole.proofs.laws.Range.{reading_in, in_reading}

pub shifted_is : (t x y : ℤ) → shifted_of t x y ≡ reading (t +ℤ y -ℤ x)
unfolding shifted_of
shifted_is t x y = refl

pub shifted_in : (t x y u : ℤ) → t +ℤ y -ℤ x ≡ u → FitsSigned w64 u → shifted_of t x y ≡ Some u
shifted_in t x y u e f = shifted_is t x y ∙ ap reading e ∙ reading_in u f

-- what is Some is the sum itself, and again a reading
pub in_shifted : (t x y u : ℤ) → shifted_of t x y ≡ Some u → (t +ℤ y -ℤ x ≡ u) × FitsSigned w64 u
in_shifted t x y u e =
    let k = in_reading (t +ℤ y -ℤ x) u (sym (shifted_is t x y) ∙ e) in
    (k.0, rw k.0 at k.1)

-- there and back by one correspondence
pub shifted_back : (t x y u : ℤ) → FitsSigned w64 t → shifted_of t x y ≡ Some u → shifted_of u y x ≡ Some t
shifted_back t x y u f e =
    let z : t +ℤ y -ℤ x ≡ u = (in_shifted t x y u e).0 in
    shifted_in u y x t (ap (λ (v : ℤ). v +ℤ x -ℤ y) (sym z) ∙ ap (λ (v : ℤ). v -ℤ y) (-ℤ-+ℤ_cancel (t +ℤ y) x) ∙ +ℤ-neg_ℤ_cancel t y) f
