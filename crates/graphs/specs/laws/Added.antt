-- A matrix to which pairs are added, in both directions: how two additions are one, and what holds them all in the end. Assumes nothing.
use Rattle.std.specs.Prelude.{◌≡◌, refl, Bool, true, false, cond, ◌&&◌, ◌||◌, List, ◌⊎◌, ℕ, ◌<◌, eqb, length}
use Rattle.std.proofs.Common.{sym, ap, ◌∙◌, inl, inr, arith, eq-eqb, eqb-true}
use Rattle.numbers.specs.Numbers.{clocks}
use Rattle.paths.specs.laws.Least.{and_left, and_right, not_so}
use Rattle.graphs.specs.laws.Matrix.{Marks, cell, joins}

-- ---- tests
pub clash : {X : Type 0} → false ≡ true → X
clash e = let z : ◌≡◌ {A = ℕ} 0 1 = cc in absurd (omega arith)

pub or_right : (a : Bool) {b : Bool} → b ≡ true → (a || b) ≡ true
or_right true e = refl
or_right false e = e

pub or_either : (a b : Bool) → (a || b) ≡ true → (a ≡ true) ⊎ (b ≡ true)
or_either true b e = inl refl
or_either false b e = inr e

pub both_ways : (a b : Bool) → (a ≡ true → b ≡ true) → (b ≡ true → a ≡ true) → a ≡ b
both_ways a true f g = g refl
both_ways a false f g = not_so a (λ e. clash (f e))

-- ---- why a cell is as it is: it stayed, or P has the pair, in one direction or the other
pub data Came (P : ℕ → ℕ → Type 0) (m m' : List ℕ) (e f : ℕ) : Type 0 where
  stayed : cell m' e f ≡ cell m e f → Came P m m' e f
  there : P e f → Came P m m' e f
  back : P f e → Came P m m' e f

-- m' is m with the cells of the pairs of P set, in both directions
pub record Added (P : ℕ → ℕ → Type 0) (m m' : List ℕ) : Type 0 where
  pub room : length m' ≡ length m
  pub new : (e f : ℕ) → e < clocks → f < clocks → P e f → (cell m' e f ≡ 1) × (cell m' f e ≡ 1)
  pub only : (e f : ℕ) → e < clocks → f < clocks → Came P m m' e f

-- what was set stays set
pub added_kept : {P : ℕ → ℕ → Type 0} {m m' : List ℕ} → Added P m m' → (e f : ℕ) → e < clocks → f < clocks → cell m e f ≡ 1 → cell m' e f ≡ 1
added_kept {P} {m} {m'} a e f he hf h = go (a.only e f he hf)
  where
    go : Came P m m' e f → cell m' e f ≡ 1
    go (stayed q) = q ∙ h
    go (there q) = (a.new e f he hf q).0
    go (back q) = (a.new f e hf he q).1

-- no pairs
pub added_none : {P : ℕ → ℕ → Type 0} {m : List ℕ} → ((e f : ℕ) → e < clocks → f < clocks → P e f → ⊥) → Added P m m
added_none n = record {
  room = refl;
  new = λ e f he hf p. absurd (n e f he hf p);
  only = λ e f he hf. stayed refl;
}

-- some, and then others
pub added_then : {P Q R : ℕ → ℕ → Type 0} {m n o : List ℕ} → Added P m n → Added Q n o
    → ((e f : ℕ) → e < clocks → f < clocks → P e f → R e f)
    → ((e f : ℕ) → e < clocks → f < clocks → Q e f → R e f)
    → ((e f : ℕ) → e < clocks → f < clocks → R e f → P e f ⊎ Q e f)
    → Added R m o
added_then {P} {Q} {R} {m} {n} {o} a b p q r = record {
  room = b.room ∙ a.room;
  new = λ e f he hf h. made e f he hf (r e f he hf h);
  only = λ e f he hf. later e f he hf (a.only e f he hf) (b.only e f he hf);
}
  where
    made : (e f : ℕ) → e < clocks → f < clocks → P e f ⊎ Q e f → (cell o e f ≡ 1) × (cell o f e ≡ 1)
    made e f he hf (inl h) = let k = a.new e f he hf h in (added_kept b e f he hf k.0, added_kept b f e hf he k.1)
    made e f he hf (inr h) = b.new e f he hf h

    later : (e f : ℕ) → e < clocks → f < clocks → Came P m n e f → Came Q n o e f → Came R m o e f
    later e f he hf (stayed h) (stayed k) = stayed (k ∙ h)
    later e f he hf (there h) (stayed k) = there (p e f he hf h)
    later e f he hf (back h) (stayed k) = back (p f e hf he h)
    later e f he hf h (there k) = there (q e f he hf k)
    later e f he hf h (back k) = back (q f e hf he k)

-- the same pairs said in another way
pub added_same : {P R : ℕ → ℕ → Type 0} {m n : List ℕ} → Added P m n
    → ((e f : ℕ) → e < clocks → f < clocks → P e f → R e f)
    → ((e f : ℕ) → e < clocks → f < clocks → R e f → P e f)
    → Added R m n
added_same {P} {R} {m} {n} a p r = record {
  room = a.room;
  new = λ e f he hf h. a.new e f he hf (r e f he hf h);
  only = λ e f he hf. turned e f he hf (a.only e f he hf);
}
  where
    turned : (e f : ℕ) → e < clocks → f < clocks → Came P m n e f → Came R m n e f
    turned e f he hf (stayed h) = stayed h
    turned e f he hf (there h) = there (p e f he hf h)
    turned e f he hf (back h) = back (p f e hf he h)

-- the pair c, d alone
pub record One (c d e f : ℕ) : Type 0 where
  pub left : e ≡ c
  pub right : f ≡ d

pub joined_added : {m n : List ℕ} {c d : ℕ} → Marks (joins c d) m n → Added (One c d) m n
joined_added {m} {n} {c} {d} j = record {
  room = j.room;
  new = λ e f he hf h. (set_at e f he hf (forth e f h), set_at f e hf he (turn e f h));
  only = λ e f he hf. came e f he hf (joins c d e f) refl;
}
  where
    both : (e f : ℕ) → One c d e f → (eqb c e && eqb d f) ≡ true
    both e f o = rw (eq-eqb c e (sym o.left), eq-eqb d f (sym o.right)) refl

    forth : (e f : ℕ) → One c d e f → joins c d e f ≡ true
    forth e f o = rw (both e f o) refl

    turn : (e f : ℕ) → One c d e f → joins c d f e ≡ true
    turn e f o = or_right (eqb c f && eqb d e) (both e f o)

    set_at : (e f : ℕ) → e < clocks → f < clocks → joins c d e f ≡ true → cell n e f ≡ 1
    set_at e f he hf h = j.cells e f he hf ∙ ap (λ (b : Bool). cond b 1 (cell m e f)) h

    one : (e f : ℕ) → (eqb c e && eqb d f) ≡ true → One c d e f
    one e f h = record { left = sym (eqb-true c e (and_left (eqb c e) (eqb d f) h)); right = sym (eqb-true d f (and_right (eqb c e) (eqb d f) h)) }

    which : (e f : ℕ) → ((eqb c e && eqb d f) ≡ true) ⊎ ((eqb c f && eqb d e) ≡ true) → Came (One c d) m n e f
    which e f (inl h) = there (one e f h)
    which e f (inr h) = back (one f e h)

    came : (e f : ℕ) → e < clocks → f < clocks → (b : Bool) → joins c d e f ≡ b → Came (One c d) m n e f
    came e f he hf true h = which e f (or_either (eqb c e && eqb d f) (eqb c f && eqb d e) h)
    came e f he hf false h = stayed (j.cells e f he hf ∙ ap (λ (b : Bool). cond b 1 (cell m e f)) h)

-- pairs that a test h has, and it has no others, but for their direction
pub added_marks : {P : ℕ → ℕ → Type 0} {m n : List ℕ} (h : ℕ → ℕ → Bool)
    → Added P m n
    → ((e f : ℕ) → h e f ≡ h f e)
    → ((e f : ℕ) → e < clocks → f < clocks → P e f → h e f ≡ true)
    → ((e f : ℕ) → e < clocks → f < clocks → h e f ≡ true → P e f ⊎ P f e)
    → Marks h m n
added_marks {P} {m} {n} h a s to fro = record { room = a.room; cells = λ e f he hf. go e f he hf (h e f) refl }
  where
    made : (e f : ℕ) → e < clocks → f < clocks → P e f ⊎ P f e → cell n e f ≡ 1
    made e f he hf (inl k) = (a.new e f he hf k).0
    made e f he hf (inr k) = (a.new f e hf he k).1

    not_new : (e f : ℕ) → e < clocks → f < clocks → h e f ≡ false → Came P m n e f → cell n e f ≡ cell m e f
    not_new e f he hf q (stayed k) = k
    not_new e f he hf q (there k) = clash (sym q ∙ to e f he hf k)
    not_new e f he hf q (back k) = clash (sym q ∙ s e f ∙ to f e hf he k)

    go : (e f : ℕ) → e < clocks → f < clocks → (b : Bool) → h e f ≡ b → cell n e f ≡ cond (h e f) 1 (cell m e f)
    go e f he hf true q = rw q (made e f he hf (fro e f he hf q))
    go e f he hf false q = rw q (not_new e f he hf q (a.only e f he hf))
