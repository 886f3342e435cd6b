-- The order of whole numbers, by its test `le_z`. Assumes nothing.
use Rattle.std.specs.Prelude.{◌≡◌, Bool, true, false, not, T, ℤ, pos, negsuc, ◌≤ℤ◌, ◌<ℤ◌, nat_le, nat_lt, refl}
use Rattle.std.proofs.Common.{sym, ap, subst, ◌∙◌, arith, leb-true, leb-false, le-leb, lt-ltb, le-ltb}
use Rattle.std.specs.Int.Signed.{le_z, lt_z}

pub clash {ℓ} : {X : Type ℓ} {b : Bool} → b ≡ true → b ≡ false → X
clash p q = absurd (subst T (sym p ∙ q) tt)

pub le_refl : (a : ℤ) → le_z a a ≡ true
le_refl (pos a) = le-leb a a (omega arith)
le_refl (negsuc a) = le-leb a a (omega arith)

pub le_trans : (a b c : ℤ) → le_z a b ≡ true → le_z b c ≡ true → le_z a c ≡ true
le_trans (pos a) (pos b) (pos c) h k = le-leb a c (omega (arith, leb-true))
le_trans (pos a) (pos b) (negsuc c) h k = k
le_trans (pos a) (negsuc b) c h k = absurd (subst T (sym h) tt)
le_trans (negsuc a) (pos b) (pos c) h k = refl
le_trans (negsuc a) (pos b) (negsuc c) h k = absurd (subst T (sym k) tt)
le_trans (negsuc a) (negsuc b) (pos c) h k = refl
le_trans (negsuc a) (negsuc b) (negsuc c) h k = le-leb c a (omega (arith, leb-true))

pub le_total : (a b : ℤ) → le_z a b ≡ false → le_z b a ≡ true
le_total (pos a) (pos b) h = le-leb b a (omega (arith, leb-false))
le_total (pos a) (negsuc b) h = refl
le_total (negsuc a) (pos b) h = sym h
le_total (negsuc a) (negsuc b) h = le-leb a b (omega (arith, leb-false))

pub lt_is : (a b : ℤ) → lt_z a b ≡ not (le_z b a)
lt_is (pos a) (pos b) = go (nat_le b a) refl
  where
    go : (q : Bool) → nat_le b a ≡ q → nat_lt a b ≡ not (nat_le b a)
    go true e = le-ltb a b (leb-true b a e) ∙ sym (ap not e)
    go false e = lt-ltb a b (leb-false b a e) ∙ sym (ap not e)
lt_is (pos a) (negsuc b) = refl
lt_is (negsuc a) (pos b) = refl
lt_is (negsuc a) (negsuc b) = go (nat_le a b) refl
  where
    go : (q : Bool) → nat_le a b ≡ q → nat_lt b a ≡ not (nat_le a b)
    go true e = le-ltb b a (leb-true a b e) ∙ sym (ap not e)
    go false e = lt-ltb b a (leb-false a b e) ∙ sym (ap not e)

pub le_antisym : (a b : ℤ) → le_z a b ≡ true → le_z b a ≡ true → a ≡ b
le_antisym (pos a) (pos b) h k = ap pos (omega (arith, leb-true))
le_antisym (pos a) (negsuc b) h k = absurd (subst T (sym h) tt)
le_antisym (negsuc a) (pos b) h k = absurd (subst T (sym k) tt)
le_antisym (negsuc a) (negsuc b) h k = ap negsuc (omega (arith, leb-true))

-- the tests and the orders
is_true : (q : Bool) → T q → q ≡ true
is_true true h = refl
is_true false h = absurd h

pub le_test : (a b : ℤ) → a ≤ℤ b → le_z a b ≡ true
le_test a b h = is_true (le_z a b) h.le

pub test_le : (a b : ℤ) → le_z a b ≡ true → a ≤ℤ b
test_le a b e = record { le = subst T (sym e) tt }

pub lt_test : (a b : ℤ) → a <ℤ b → le_z b a ≡ false
lt_test a b h = go (le_z b a) refl
  where
    go : (q : Bool) → le_z b a ≡ q → le_z b a ≡ false
    go true e = clash (is_true (lt_z a b) h.lt) (lt_is a b ∙ ap not e)
    go false e = e

pub test_lt : (a b : ℤ) → le_z b a ≡ false → a <ℤ b
test_lt a b e = record { lt = subst T (sym (lt_is a b ∙ ap not e)) tt }
