-- What is said of a source and of a file, told by its numbers. Assumes nothing.
use Rattle.std.specs.Prelude.{◌≡◌, Bool, not, ◌&&◌, ℕ}
use Rattle.std.proofs.Math.Path.{refl, sym}
use Rattle.std.proofs.Common.{ap, subst, ◌∙◌, eqb-true}
use Rattle.std.proofs.Math.Bool.{true, false}
use Rattle.std.proofs.Math.Dec.{T, eqb, leb}
use Rattle.text.specs.Reading.{pick}
use Rattle.text.specs.laws.Readers.{pick_true, pick_false}
use Rattle.merged.specs.Facts.{untied, tied, pinned, Given, silent, whole, named, undeclared, SourceFact, Facts}
use Rattle.merged.specs.Machines.{sources_in, is_silent, by_id, machine_by, machine_of, unnamed_machine}
use Rattle.merged.specs.Refusals.{has_clocks, is_undeclared, is_whole, is_pinned}
use Rattle.checks.specs.Table.{tie_of, given_of}

-- ---- of a source

-- the machine that is given; the host, if none is
unfoldable pub machine_given : Given → ℕ
machine_given silent = 0
machine_given (whole m) = m.0
machine_given (named m) = m.0
machine_given undeclared = 0

module _ (n m : ℕ) where
  pub silent_is : is_silent (given_of n m) ≡ pick (eqb n 1) false (pick (eqb n 2) false (not (eqb n 3)))
  unfolding given_of is_silent pick
  silent_is = go (eqb n 1) (eqb n 2) (eqb n 3)
    where
      go : (a b c : Bool) → is_silent (pick a (whole (record { 0 = m })) (pick b (named (record { 0 = m })) (pick c undeclared silent))) ≡ pick a false (pick b false (not c))
      go true b c = refl
      go false true c = refl
      go false false true = refl
      go false false false = refl

  pub given_is : machine_given (given_of n m) ≡ pick (eqb n 1) m (pick (eqb n 2) m 0)
  unfolding given_of machine_given pick
  given_is = go (eqb n 1) (eqb n 2) (eqb n 3)
    where
      go : (a b c : Bool) → machine_given (pick a (whole (record { 0 = m })) (pick b (named (record { 0 = m })) (pick c undeclared silent))) ≡ pick a m (pick b m 0)
      go true b c = refl
      go false true c = refl
      go false false true = refl
      go false false false = refl

  pub whole_is : is_whole (given_of n m) ≡ eqb n 1
  unfolding given_of is_whole pick
  whole_is = go (eqb n 1) (eqb n 2) (eqb n 3)
    where
      go : (a b c : Bool) → is_whole (pick a (whole (record { 0 = m })) (pick b (named (record { 0 = m })) (pick c undeclared silent))) ≡ a
      go true b c = refl
      go false true c = refl
      go false false true = refl
      go false false false = refl

  pub undeclared_is : is_undeclared (given_of n m) ≡ eqb n 3
  unfolding given_of is_undeclared pick
  undeclared_is = go (eqb n 1) refl (eqb n 2) refl (eqb n 3) refl
    where
      go : (a : Bool) → eqb n 1 ≡ a → (b : Bool) → eqb n 2 ≡ b → (c : Bool) → eqb n 3 ≡ c → is_undeclared (pick a (whole (record { 0 = m })) (pick b (named (record { 0 = m })) (pick c undeclared silent))) ≡ c
      go true e b f c g = sym (ap (λ (k : ℕ). eqb k 3) (eqb-true n 1 e)) ∙ g
      go false e true f c g = sym (ap (λ (k : ℕ). eqb k 3) (eqb-true n 2 f)) ∙ g
      go false e false f true g = refl
      go false e false f false g = refl

-- a source by its id, and another
module _ (k : Facts) (x : SourceFact) where
  pub machine_given_lem : by_id k x ≡ false → machine_of k x ≡ machine_given x.given
  unfolding machine_of machine_by machine_given
  machine_given_lem h = go x.given
    where
      go : (g : Given) → machine_by k g x ≡ machine_given g
      go silent = pick_false _ _ h
      go (whole m) = refl
      go (named m) = refl
      go undeclared = refl

  pub machine_by_id : by_id k x ≡ true → machine_of k x ≡ unnamed_machine k x.id
  unfolding machine_of machine_by by_id is_silent
  machine_by_id h = go x.given (both (is_silent x.given) (leb 2 (sources_in x.file k.sources)) (both (is_silent x.given && leb 2 (sources_in x.file k.sources)) (not (eqb x.id 0)) h))
    where
      both : (a b : Bool) → (a && b) ≡ true → a ≡ true
      both true b e = refl
      both false b e = absurd (subst T (sym e) tt)

      go : (g : Given) → is_silent g ≡ true → machine_by k g x ≡ unnamed_machine k x.id
      go silent e = pick_true _ _ h
      go (whole m) e = absurd (subst T (sym e) tt)
      go (named m) e = absurd (subst T (sym e) tt)
      go undeclared e = absurd (subst T (sym e) tt)

-- ---- of a file

module _ (n : ℕ) where
  pub clocks_are : has_clocks (tie_of n) ≡ pick (eqb n 1) true (eqb n 2)
  unfolding tie_of has_clocks pick
  clocks_are = go (eqb n 1) (eqb n 2)
    where
      go : (a b : Bool) → has_clocks (pick a tied (pick b pinned untied)) ≡ pick a true b
      go true b = refl
      go false true = refl
      go false false = refl

  pub pinned_is : is_pinned (tie_of n) ≡ eqb n 2
  unfolding tie_of is_pinned pick
  pinned_is = go (eqb n 1) refl (eqb n 2) refl
    where
      go : (a : Bool) → eqb n 1 ≡ a → (b : Bool) → eqb n 2 ≡ b → is_pinned (pick a tied (pick b pinned untied)) ≡ b
      go true e b g = sym (ap (λ (k : ℕ). eqb k 2) (eqb-true n 1 e)) ∙ g
      go false e true g = refl
      go false e false g = refl
