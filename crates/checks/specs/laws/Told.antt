-- What each test tells: the laws of the tests that the code makes, in their order. Assumes nothing.
use Rattle.std.specs.Prelude.{◌≡◌, Bool, true, false, ◌&&◌, ◌||◌, List, eqb, length, get_or}
use Rattle.std.proofs.Math.Path.{refl, sym, ap}
use Rattle.std.proofs.Common.{◌∙◌}
use Rattle.std.proofs.Math.Bool.{not}
use Prim.Native.Nat.{ℕ, ◌+◌}
use Rattle.std.proofs.Math.Dec.{leb}
use borrow.Author.Tests.{eq-eqb, ne_eqb}
use Rattle.text.specs.Reading.{pick}
use Rattle.text.specs.laws.Readers.{pick_true, pick_false}
use Rattle.index.proofs.laws.Entries.{listed_length}
use Rattle.merged.specs.Facts.{FileFact, SourceFact, Facts}
use Rattle.merged.specs.Machines.{sources_in, is_silent, by_id}
use Rattle.merged.specs.Refusals.{unused, has_clocks, is_undeclared, is_whole, is_pinned, checks, first_of, refusal_32_path_not_in_sheet, refusal_33_clocks_on_a_container, refusal_34_id_not_declared, refusal_35_machine_on_several_sources, refusal_36_pinned_file_with_a_snapshot, refusal_37_too_many_machines}
use Rattle.checks.specs.Table.{file_number, source_number, tie_of, given_of, is_set, file_by, source_by, files_in, facts_by}
use Rattle.checks.specs.laws.Ids.{place_in}
use Rattle.checks.specs.laws.Given.{machine_given, silent_is, given_is, whole_is, undeclared_is, clocks_are, pinned_is}
use Rattle.checks.specs.laws.Met.{machine_met}

-- the tests of 33 to 36, of one file or source
abbrev pub clocks_on_container : FileFact → Bool
clocks_on_container f = f.container && has_clocks f.tie

abbrev pub not_declared : SourceFact → Bool
not_declared x = is_undeclared x.given

abbrev pub whole_of_several : List SourceFact → SourceFact → Bool
whole_of_several l x = is_whole x.given && leb 2 (sources_in x.file l)

abbrev pub pinned_with_snapshot : FileFact → Bool
pinned_with_snapshot f = is_pinned f.tie && f.recorded

-- ---- of a file

module _ (t : List ℕ) (f : ℕ) {a : ℕ} (ea : a ≡ file_number t f 3) where
  pub container_not : a ≡ 0 → false ≡ clocks_on_container (file_by t f)
  unfolding file_by is_set
  container_not z = ap (λ (b : Bool). not b && has_clocks (tie_of (file_number t f 1))) (sym (eq-eqb (file_number t f 3) 0 (sym ea ∙ z)))

  module _ (n : a ≡ 0 → ⊥) {b : ℕ} (eb : b ≡ file_number t f 1) where
    container_is : pick (eqb b 1) true (eqb b 2) ≡ clocks_on_container (file_by t f)
    unfolding file_by is_set
    container_is =
        sym (clocks_are b) ∙ (ap (λ (m : ℕ). has_clocks (tie_of m)) eb
        ∙ ap (λ (q : Bool). not q && has_clocks (tie_of (file_number t f 1))) (sym (ne_eqb (file_number t f 3) 0 (λ p. n (ea ∙ p)))))

    pub container_tied : b ≡ 1 → true ≡ clocks_on_container (file_by t f)
    container_tied q = sym (pick_true _ _ (eq-eqb b 1 q)) ∙ container_is

    pub container_else : (b ≡ 1 → ⊥) → eqb b 2 ≡ clocks_on_container (file_by t f)
    container_else q = sym (pick_false _ _ (ne_eqb b 1 q)) ∙ container_is

module _ (t : List ℕ) (f : ℕ) {a : ℕ} (ea : a ≡ file_number t f 1) where
  pub pinned_not : (a ≡ 2 → ⊥) → false ≡ pinned_with_snapshot (file_by t f)
  unfolding file_by
  pinned_not n = ap (λ (b : Bool). b && is_set (file_number t f 5)) (sym (pinned_is (file_number t f 1) ∙ ne_eqb (file_number t f 1) 2 (λ p. n (ea ∙ p))))

  pub pinned_yes : a ≡ 2 → {b : ℕ} → b ≡ file_number t f 5 → not (eqb b 0) ≡ pinned_with_snapshot (file_by t f)
  unfolding file_by is_set
  pinned_yes q eb =
      ap (λ (m : ℕ). not (eqb m 0)) eb
      ∙ ap (λ (b : Bool). b && is_set (file_number t f 5)) (sym (pinned_is (file_number t f 1) ∙ eq-eqb (file_number t f 1) 2 (sym ea ∙ q)))

-- ---- of a source

either_pick : {A : Type 0} (b c : Bool) (x y : A) → pick (b || c) x y ≡ pick b x (pick c x y)
unfolding pick
either_pick true c x y = refl
either_pick false c x y = refl

no_pick : (b c d : Bool) → (not (b || c) && d) ≡ pick b false (pick c false d)
unfolding pick
no_pick true c d = refl
no_pick false true d = refl
no_pick false false d = refl

module _ (t : List ℕ) (j : ℕ) {a : ℕ} (ea : a ≡ source_number t j 2) where
  pub undeclared_said : eqb a 3 ≡ not_declared (source_by t j)
  unfolding source_by
  undeclared_said = ap (λ (n : ℕ). eqb n 3) ea ∙ sym (undeclared_is (source_number t j 2) (source_number t j 3))

  pub whole_said : {m : Bool} → m ≡ leb 2 (sources_in (source_by t j).file (facts_by t).sources) → (eqb a 1 && m) ≡ whole_of_several (facts_by t).sources (source_by t j)
  unfolding source_by
  whole_said e = λ i. (ap (λ (n : ℕ). eqb n 1) ea ∙ sym (whole_is (source_number t j 2) (source_number t j 3))) i && e i

  silent_said : pick (eqb a 1) false (pick (eqb a 2) false (not (eqb a 3))) ≡ is_silent (source_by t j).given
  unfolding source_by
  silent_said = sym (silent_is a (source_number t j 3)) ∙ ap (λ (m : ℕ). is_silent (given_of m (source_number t j 3))) ea

  pub silent_is_so : {h : Bool} → h ≡ (eqb a 1 || eqb a 2) → (not h && not (eqb a 3)) ≡ is_silent (source_by t j).given
  silent_is_so e = ap (λ (b : Bool). not b && not (eqb a 3)) e ∙ (no_pick (eqb a 1) (eqb a 2) (not (eqb a 3)) ∙ silent_said)

  module _ {m : ℕ} (em : m ≡ source_number t j 3) where
    given_said : pick (eqb a 1) m (pick (eqb a 2) m 0) ≡ machine_given (source_by t j).given
    unfolding source_by
    given_said = sym (given_is a m) ∙ (λ i. machine_given (given_of (ea i) (em i)))

    pub given_so : {h : Bool} → h ≡ (eqb a 1 || eqb a 2) → pick h m 0 ≡ machine_given (source_by t j).given
    given_so e = ap (λ (b : Bool). pick b m 0) e ∙ (either_pick (eqb a 1) (eqb a 2) m 0 ∙ given_said)

-- its machine is that of its id
pub by_id_said : (t : List ℕ) (j : ℕ) {s m : Bool} {id : ℕ} → s ≡ is_silent (source_by t j).given → m ≡ leb 2 (sources_in (source_by t j).file (facts_by t).sources) → id ≡ source_number t j 1
    → (s && m && not (eqb id 0)) ≡ by_id (facts_by t) (source_by t j)
unfolding by_id source_by
by_id_said t j es em e = λ i. es i && em i && not (eqb (e i) 0)

module _ (t : List ℕ) (j : ℕ) {b : Bool} (eb : b ≡ by_id (facts_by t) (source_by t j)) (n : ℕ) (l : List ℕ) where
  pub met_given : b ≡ false → {g : ℕ} → g ≡ machine_given (source_by t j).given → g ≡ machine_met (facts_by t) (source_by t j) n l
  unfolding machine_met
  met_given q e = e ∙ sym (pick_false _ _ (sym eb ∙ q))

  pub met_by_id : b ≡ true → {id p m : ℕ} → id ≡ source_number t j 1 → p ≡ place_in n id l → m ≡ get_or t 3 0 → 1 + (m + p) ≡ machine_met (facts_by t) (source_by t j) n l
  unfolding machine_met source_by facts_by
  met_by_id q e ep em = (λ i. 1 + (em i + (ep ∙ ap (λ (k : ℕ). place_in n k l) e) i)) ∙ sym (pick_true _ _ (sym eb ∙ q))

-- ---- 32

module _ (t : List ℕ) {n : ℕ} (en : n ≡ files_in t) where
  pub path_no_file : n ≡ 0 → false ≡ refusal_32_path_not_in_sheet.applies (facts_by t)
  unfolding refusal_32_path_not_in_sheet facts_by
  path_no_file z = ap (λ (b : Bool). not b && unused (facts_by t).entries (facts_by t).files) (sym (eq-eqb (length (facts_by t).files) 0 (listed_length (file_by t) 0 (files_in t) ∙ (sym en ∙ z))))

  pub path_start : (n ≡ 0 → ⊥) → refusal_32_path_not_in_sheet.applies (facts_by t) ≡ unused (get_or t 2 0) (facts_by t).files
  unfolding refusal_32_path_not_in_sheet facts_by
  path_start z = ap (λ (b : Bool). not b && unused (facts_by t).entries (facts_by t).files) (ne_eqb (length (facts_by t).files) 0 (λ p. z (en ∙ (sym (listed_length (file_by t) 0 (files_in t)) ∙ p))))

-- ---- the order

module _ (k : Facts) where
  first_is : first_of checks k
      ≡ pick (refusal_32_path_not_in_sheet.applies k) 32
      (pick (refusal_33_clocks_on_a_container.applies k) 33
      (pick (refusal_34_id_not_declared.applies k) 34
      (pick (refusal_35_machine_on_several_sources.applies k) 35
      (pick (refusal_36_pinned_file_with_a_snapshot.applies k) 36
      (pick (refusal_37_too_many_machines.applies k) 37 0)))))
  unfolding first_of refusal_32_path_not_in_sheet refusal_33_clocks_on_a_container refusal_34_id_not_declared refusal_35_machine_on_several_sources refusal_36_pinned_file_with_a_snapshot refusal_37_too_many_machines
  first_is = refl

module _ (k : Facts) {a : Bool} (ea : a ≡ refusal_32_path_not_in_sheet.applies k) where
  pub first_32 : a ≡ true → 32 ≡ first_of checks k
  first_32 q = sym (first_is k ∙ pick_true _ _ (sym ea ∙ q))

  module _ (na : a ≡ false) {b : Bool} (eb : b ≡ refusal_33_clocks_on_a_container.applies k) where
    pub first_33 : b ≡ true → 33 ≡ first_of checks k
    first_33 q = sym (first_is k ∙ (pick_false _ _ (sym ea ∙ na) ∙ pick_true _ _ (sym eb ∙ q)))

    module _ (nb : b ≡ false) {c : Bool} (ec : c ≡ refusal_34_id_not_declared.applies k) where
      pub first_34 : c ≡ true → 34 ≡ first_of checks k
      first_34 q = sym (first_is k ∙ (pick_false _ _ (sym ea ∙ na) ∙ (pick_false _ _ (sym eb ∙ nb) ∙ pick_true _ _ (sym ec ∙ q))))

      module _ (nc : c ≡ false) {d : Bool} (ed : d ≡ refusal_35_machine_on_several_sources.applies k) where
        past_34 : first_of checks k
            ≡ pick (refusal_35_machine_on_several_sources.applies k) 35
            (pick (refusal_36_pinned_file_with_a_snapshot.applies k) 36 (pick (refusal_37_too_many_machines.applies k) 37 0))
        past_34 = first_is k ∙ (pick_false _ _ (sym ea ∙ na) ∙ (pick_false _ _ (sym eb ∙ nb) ∙ pick_false _ _ (sym ec ∙ nc)))

        pub first_35 : d ≡ true → 35 ≡ first_of checks k
        first_35 q = sym (past_34 ∙ pick_true _ _ (sym ed ∙ q))

        module _ (nd : d ≡ false) {e : Bool} (ee : e ≡ refusal_36_pinned_file_with_a_snapshot.applies k) where
          pub first_36 : e ≡ true → 36 ≡ first_of checks k
          first_36 q = sym (past_34 ∙ (pick_false _ _ (sym ed ∙ nd) ∙ pick_true _ _ (sym ee ∙ q)))

          module _ (ne : e ≡ false) {f : Bool} (ef : f ≡ refusal_37_too_many_machines.applies k) where
            pub first_37 : f ≡ true → 37 ≡ first_of checks k
            first_37 q = sym (past_34 ∙ (pick_false _ _ (sym ed ∙ nd) ∙ (pick_false _ _ (sym ee ∙ ne) ∙ pick_true _ _ (sym ef ∙ q))))

            pub first_none : f ≡ false → 0 ≡ first_of checks k
            first_none q = sym (past_34 ∙ (pick_false _ _ (sym ed ∙ nd) ∙ (pick_false _ _ (sym ee ∙ ne) ∙ pick_false _ _ (sym ef ∙ q))))
