-- Whether a member that is asked for was not seen: the loop over the lines of one object. Assumes nothing.
use Rattle.std.specs.Prelude.{◌≡◌, refl, Bool, true, false, not, ◌&&◌, List, ◌⊎◌, ℕ, ◌+◌, ◌<◌, ◌≤◌, eqb, get_or}
use Rattle.std.proofs.Common.{sym, ap, ◌∙◌, inl, inr, arith, eq-eqb, ne_eqb}
use Rattle.std.proofs.Math.Bool.{and-false}
use Rattle.std.proofs.Math.Decide.{ℕ_discrete}
use Rattle.grammar.specs.Tree.{no_members, get}
use Rattle.table.specs.Table.{line_at, first_line}
use Rattle.table.specs.laws.Some.{some, some_none, some_hit}
use Rattle.members.specs.laws.Walked.{ills, said_in}
use Rattle.table.specs.laws.Lines.{first_few, about_there, there_about}

-- the lines about the object before j lack nothing
pub record Full (o : ℕ) (seen : List ℕ) (j : ℕ) : Type 0 where
  pub start : first_line o ≤ j
  pub fine : (i : ℕ) → first_line o ≤ i → i < j → said_in ills o seen no_members i ≡ false

asked_none : (o : ℕ) (seen : List ℕ) (i : ℕ) (a b : Bool) → eqb (get_or seen i 0) 1 ≡ a → (line_at i).asked ≡ b → said_in ills o seen no_members i ≡ (eqb (line_at i).place o && (not a && b))
unfolding said_in ills get
asked_none o seen i a b p q = λ x. eqb (line_at i).place o && (not (p x) && q x)

module _ (o : ℕ) (seen : List ℕ) {j : ℕ} where
  pub full_start : j ≡ first_line o → Full o seen j
  full_start e = record { start = omega arith; fine = λ i h g. absurd (omega arith) }

  module _ (small : o < 12) {past : ℕ} (ep : past ≡ first_line (o + 1)) (l : Full o seen j) where
    pub full_inside : j < past → j < 20
    full_inside h = omega (arith, first_few (o + 1) (omega arith))

    pub full_on : {x : Bool} → x ≡ (line_at j).asked → (x ≡ false) ⊎ (get_or seen j 0 ≡ 1) → Full o seen (j + 1)
    full_on {x} ex came = record { start = omega (arith, l.start); fine = λ i h g. go i h g (ℕ_discrete i j) }
      where
        none : (x ≡ false) ⊎ (get_or seen j 0 ≡ 1) → said_in ills o seen no_members j ≡ false
        none (inl f) = asked_none o seen j (eqb (get_or seen j 0) 1) false refl (sym ex ∙ f) ∙ ap (λ (b : Bool). eqb (line_at j).place o && b) (and-false (not (eqb (get_or seen j 0) 1))) ∙ and-false (eqb (line_at j).place o)
        none (inr f) = asked_none o seen j true (line_at j).asked (eq-eqb (get_or seen j 0) 1 f) refl ∙ and-false (eqb (line_at j).place o)

        go : (i : ℕ) → first_line o ≤ i → i < j + 1 → Dec (i ≡ j) → said_in ills o seen no_members i ≡ false
        go i h g (yes e) = ap (said_in ills o seen no_members) e ∙ none came
        go i h g (no e) = l.fine i h (omega arith)

    pub full_hit : j < past → {x : Bool} → x ≡ (line_at j).asked → x ≡ true → (get_or seen j 0 ≡ 1 → ⊥) → true ≡ some (said_in ills o seen no_members) 20
    full_hit h {x} ex f ne =
        sym (some_hit (said_in ills o seen no_members) 20 j (full_inside h)
        (asked_none o seen j false true (ne_eqb _ _ ne) (sym ex ∙ f) ∙ ap (λ (b : Bool). b && true) (eq-eqb _ _ (about_there o j small l.start (omega arith)))))

    pub full_over : (j < past → ⊥) → false ≡ some (said_in ills o seen no_members) 20
    full_over h = sym (some_none (said_in ills o seen no_members) 20 (λ i w. go i w (ℕ_discrete (line_at i).place o)))
      where
        go : (i : ℕ) → i < 20 → Dec ((line_at i).place ≡ o) → said_in ills o seen no_members i ≡ false
        go i w (yes y) = let (a, b) = there_about o i small w y in l.fine i a (omega arith)
        go i w (no y) = asked_none o seen i (eqb (get_or seen i 0) 1) (line_at i).asked refl refl ∙ ap (λ (b : Bool). b && (not (eqb (get_or seen i 0) 1) && (line_at i).asked)) (ne_eqb (line_at i).place o y)
