-- What an entry says of machines and clocks, as the tests of it tell. Assumes nothing.
use Rattle.std.specs.Prelude.{◌≡◌, refl, Bool, true, false, List, [], ◌∷◌, ℕ, zero, suc, ◌<◌, ℤ, pos, negsuc}
use Rattle.std.proofs.Common.{sym, ap, subst, ◌∙◌, true≢false, arith, eqb-true, eq-eqb}
use Rattle.text.specs.Reading.{pick}
use Rattle.numbers.specs.declared.Machine.{Machine}
use Rattle.manifest.specs.declared.Cited.{Cited}
use Rattle.manifest.specs.declared.Cited.TheVariants.{Private, Domain}
use Rattle.manifest.specs.declared.Relation.{Relation}
use Rattle.manifest.specs.declared.Link.{Link}
use Rattle.manifest.specs.declared.Link.TheVariants.{Unrelated, Related}
use Rattle.manifest.specs.Rules.{same_id}
use Rattle.manifest.specs.Meaning.{Owns, nothing, whole_file, parts}
use Rattle.manifest.specs.Statements.{At, here, further}
use Rattle.manifest.proofs.laws.Lists.{at_below}
use Rattle.merged.specs.Facts.{tie_from, tie_by, Given, named, undeclared, named_for, given_by}
use Rattle.merged.specs.Refusals.{has_clocks, is_undeclared, is_whole, is_pinned}
use Rattle.exact.proofs.laws.Lists.{at_only}
use Rattle.exact.specs.Words.{Pins}

pub same_id_true : (a b : ℤ) → same_id a b ≡ true → b ≡ a
unfolding same_id
same_id_true (pos a) (pos b) e = ap pos (sym (eqb-true a b e))
same_id_true (pos a) (negsuc b) e = absurd (true≢false (sym e))
same_id_true (negsuc a) (pos b) e = absurd (true≢false (sym e))
same_id_true (negsuc a) (negsuc b) e = ap negsuc (sym (eqb-true a b e))

pub same_id_refl : (z : ℤ) → same_id z z ≡ true
unfolding same_id
same_id_refl (pos a) = eq-eqb a a refl
same_id_refl (negsuc a) = eq-eqb a a refl

-- `clocks`
pub tied_so : (k : Link) → has_clocks (tie_by k) ≡ true → (r : Relation) × (k ≡ Related r)
unfolding has_clocks tie_by
tied_so Unrelated e = absurd (true≢false (sym e))
tied_so (Related r) e = (r, refl)

pub so_tied : (r : Relation) → has_clocks (tie_by (Related r)) ≡ true
unfolding has_clocks tie_by tie_from
so_tied r = go r.from
  where
    go : (c : Cited) → has_clocks (tie_from c) ≡ true
    go (Private i) = refl
    go (Domain d m) = refl

-- `clocks` without `clock`
pub pinned_so : (k : Link) → is_pinned (tie_by k) ≡ true → Pins k
unfolding is_pinned tie_by tie_from
pinned_so Unrelated e = absurd (true≢false (sym e))
pinned_so (Related r) e = go r.from refl e
  where
    go : (c : Cited) → r.from ≡ c → is_pinned (tie_from c) ≡ true → Pins (Related r)
    go (Private i) q h = record { relation = r; is = refl; own = i; from_own = q }
    go (Domain d m) q h = absurd (true≢false (sym h))

pub so_pinned : {k : Link} → Pins k → is_pinned (tie_by k) ≡ true
unfolding is_pinned tie_by tie_from
so_pinned x = ap (λ (k : Link). is_pinned (tie_by k)) x.is ∙ ap (λ (c : Cited). is_pinned (tie_from c)) x.from_own

-- `machines`: the first item with the id, or none has it
pub data Naming (id : ℕ) (l : List (ℤ × Machine)) : Given → Type 0 where
  names : {i : ℕ} {m : Machine} → At l i (pos id, m) → ((j : ℕ) (n : Machine) → j < i → At l j (pos id, n) → ⊥) → Naming id l (named m)
  lacks : ((i : ℕ) (m : Machine) → At l i (pos id, m) → ⊥) → Naming id l undeclared

pub naming : (id : ℕ) (l : List (ℤ × Machine)) → Naming id l (named_for id l)
unfolding named_for pick
naming id [] = lacks (λ i m h. omega (arith, at_below h))
naming id (x ∷ l) = go (same_id (pos id) x.0) refl (naming id l)
  where
    other : same_id (pos id) x.0 ≡ false → {m : Machine} → At (x ∷ l) 0 (pos id, m) → ⊥
    other e {m} h = true≢false (sym (same_id_refl (pos id)) ∙ (ap (λ (y : ℤ × Machine). same_id (pos id) y.0) (at_only h here) ∙ e))

    past : same_id (pos id) x.0 ≡ false → ((i : ℕ) (m : Machine) → At l i (pos id, m) → ⊥) → (i : ℕ) (m : Machine) → At (x ∷ l) i (pos id, m) → ⊥
    past e n zero m h = other e h
    past e n (suc i) m (further h) = n i m h

    before : same_id (pos id) x.0 ≡ false → {k : ℕ} → ((j : ℕ) (n : Machine) → j < k → At l j (pos id, n) → ⊥) → (j : ℕ) (n : Machine) → j < suc k → At (x ∷ l) j (pos id, n) → ⊥
    before e b zero n h a = other e a
    before e b (suc j) n h (further a) = b j n (omega arith) a

    step : {g : Given} → same_id (pos id) x.0 ≡ false → Naming id l g → Naming id (x ∷ l) g
    step e (names h b) = names (further h) (before e b)
    step e (lacks n) = lacks (past e n)

    go : (b : Bool) → same_id (pos id) x.0 ≡ b → Naming id l (named_for id l) → Naming id (x ∷ l) (pick b (named x.1) (named_for id l))
    go true e r = names (subst (λ (z : ℤ). At (x ∷ l) 0 (z, x.1)) (same_id_true (pos id) x.0 e) here) (λ j n h a. omega arith)
    go false e r = step e r

-- `machine`
pub whole_so : (o : Owns) (id : ℕ) → is_whole (given_by o id) ≡ true → (m : Machine) × (o ≡ whole_file m)
unfolding is_whole given_by
whole_so nothing id e = absurd (true≢false (sym e))
whole_so (whole_file m) id e = (m, refl)
whole_so (parts l) id e = go (naming id l) e
  where
    go : {g : Given} → Naming id l g → is_whole g ≡ true → (m : Machine) × (parts l ≡ whole_file m)
    go (names h b) e = absurd (true≢false (sym e))
    go (lacks n) e = absurd (true≢false (sym e))

pub so_whole : (m : Machine) (id : ℕ) → is_whole (given_by (whole_file m) id) ≡ true
unfolding is_whole given_by
so_whole m id = refl

-- `machines` without the id
pub record Lacks (o : Owns) (id : ℕ) : Type 0 where
  pub items : List (ℤ × Machine)
  pub is : o ≡ parts items
  pub none : (i : ℕ) (m : Machine) → At items i (pos id, m) → ⊥

pub lacking_so : (o : Owns) (id : ℕ) → is_undeclared (given_by o id) ≡ true → Lacks o id
unfolding is_undeclared given_by
lacking_so nothing id e = absurd (true≢false (sym e))
lacking_so (whole_file m) id e = absurd (true≢false (sym e))
lacking_so (parts l) id e = go (naming id l) e
  where
    go : {g : Given} → Naming id l g → is_undeclared g ≡ true → Lacks (parts l) id
    go (names h b) e = absurd (true≢false (sym e))
    go (lacks n) e = record { items = l; is = refl; none = n }

pub so_lacking : (items : List (ℤ × Machine)) (id : ℕ) → ((i : ℕ) (m : Machine) → At items i (pos id, m) → ⊥) → is_undeclared (given_by (parts items) id) ≡ true
unfolding is_undeclared given_by
so_lacking items id n = go (naming id items)
  where
    go : {g : Given} → Naming id items g → is_undeclared g ≡ true
    go (names {i} {m} h b) = absurd (n i m h)
    go (lacks k) = refl
