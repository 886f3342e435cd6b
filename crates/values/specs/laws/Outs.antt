-- What is known of a reading: of all that it may read, and where nothing is read. Assumes nothing.
use Rattle.std.proofs.Math.Path.{◌≡◌, refl, sym}
use Rattle.std.proofs.Common.{ap, ◌∙◌}
use Rattle.std.specs.Prelude.{Bool, ℕ}
use Rattle.std.proofs.Math.Bool.{true, false}
use native.Mathlib.Omega.{arith}
use Rattle.text.specs.Reading.{Out, done, bad, deep, next, pick, scan}
use Rattle.text.specs.declared.Scan.TheVariants.{Done, Bad, Deep}
use Rattle.text.specs.laws.Readers.{bad_done, deep_done, next_inv, next_was}

-- where a reading is done, something was read
pub scan_done : {A : Type 0} (o : Out A) {j : ℕ} → scan o ≡ Done j → (a : A) × (o ≡ done a j)
unfolding scan
scan_done (done a i) {j} e = let q : i ≡ j = cc in (a, ap (done a) q)
scan_done (bad i) e = let z : ◌≡◌ {A = ℕ} 0 1 = cc in absurd (omega arith)
scan_done (deep i) e = let z : ◌≡◌ {A = ℕ} 0 1 = cc in absurd (omega arith)

-- what holds of all that is read
pub record Gives {A : Type 0} (P : A → ℕ → Type 0) (o : Out A) : Type 0 where
  pub holds : (a : A) (j : ℕ) → o ≡ done a j → P a j

module _ {A : Type 0} {P : A → ℕ → Type 0} where
  pub gives_bad : {i : ℕ} → Gives P (bad i)
  gives_bad = record { holds = λ a j e. absurd (bad_done e) }

  pub gives_deep : {i : ℕ} → Gives P (deep i)
  gives_deep = record { holds = λ a j e. absurd (deep_done e) }

  pub gives_done : (a : A) (i : ℕ) → P a i → Gives P (done a i)
  gives_done a i h =
      record {
        holds = λ b j e.
            let p : a ≡ b = cc in
            let q : i ≡ j = cc in
            rw (← p, ← q) h;
      }

  pub gives_pick : (t : Bool) {x y : Out A} → (t ≡ true → Gives P x) → (t ≡ false → Gives P y) → Gives P (pick t x y)
  unfolding pick
  gives_pick true f g = f refl
  gives_pick false f g = g refl

pub gives_next : {A B : Type 0} {P : B → ℕ → Type 0} (o : Out A) (f : A → ℕ → Out B) → ((a : A) (j : ℕ) → o ≡ done a j → Gives P (f a j)) → Gives P (next o f)
unfolding next
gives_next (done a j) f h = h a j refl
gives_next (bad i) f h = gives_bad
gives_next (deep i) f h = gives_deep

-- nothing was read
pub record Stops {A : Type 0} (o : Out A) : Type 0 where
  pub never : (a : A) (j : ℕ) → o ≡ done a j → ⊥

module _ {A B : Type 0} where
  pub stops_next : (o : Out A) (f : A → ℕ → Out B) → Stops o → Stops (next o f)
  stops_next o f h = record { never = λ b n e. let w = next_inv o f e in h.never w.0 w.1 w.2 }

  pub stops_after : (o : Out A) (f : A → ℕ → Out B) {a : A} {j : ℕ} → o ≡ done a j → Stops (f a j) → Stops (next o f)
  stops_after o f e h = record { never = λ b n g. h.never b n (sym (next_was f e) ∙ g) }

module _ {A : Type 0} where
  pub stops_bad : {i : ℕ} → Stops {A = A} (bad i)
  stops_bad = record { never = λ a j e. bad_done e }

  pub stops_deep : {i : ℕ} → Stops {A = A} (deep i)
  stops_deep = record { never = λ a j e. deep_done e }

  pub stops_is : {o p : Out A} → o ≡ p → Stops p → Stops o
  stops_is e h = record { never = λ a j g. h.never a j (sym e ∙ g) }

  pub scan_bad : (o : Out A) {p : ℕ} → scan o ≡ Bad p → Stops o
  unfolding scan
  scan_bad o e = record { never = λ a j g. let f : Done j ≡ Bad _ = sym (ap scan g) ∙ e in no f }
    where
      no : {j p : ℕ} → Done j ≡ Bad p → ⊥
      no f = let z : ◌≡◌ {A = ℕ} 0 1 = cc in omega arith

  pub scan_deep : (o : Out A) {p : ℕ} → scan o ≡ Deep p → Stops o
  unfolding scan
  scan_deep o e = record { never = λ a j g. let f : Done j ≡ Deep _ = sym (ap scan g) ∙ e in no f }
    where
      no : {j p : ℕ} → Done j ≡ Deep p → ⊥
      no f = let z : ◌≡◌ {A = ℕ} 0 1 = cc in omega arith
