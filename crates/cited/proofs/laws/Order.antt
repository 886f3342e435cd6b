-- The first of the rules 19 to 24, by the tests of the code. Assumes nothing.
use Rattle.std.specs.Prelude.{◌≡◌, Bool, true, false, ℕ}
use Rattle.std.proofs.Math.Path.{refl}
use Rattle.std.proofs.Common.{sym, ◌∙◌}
use Rattle.text.specs.Reading.{pick}
use Rattle.manifest.specs.Rows.{Manifest}
use Rattle.manifest.specs.Rules.{applies, first, refusal_19_file_names_no_entry, refusal_20_no_machine_of_a_split_file, refusal_21_machine_not_declared, refusal_22_offset_not_an_integer, refusal_23_offset_out_of_range, refusal_24_clock_related_to_itself}
use Rattle.cited.specs.Cited.{cited_rules}

-- the number of the first test that holds
unfoldable by_tests : Bool → Bool → Bool → Bool → Bool → Bool → ℕ
by_tests a b c d e f = pick a 19 (pick b 20 (pick c 21 (pick d 22 (pick e 23 (pick f 24 0)))))

module _ (m : Manifest) where
  in_order : by_tests (applies refusal_19_file_names_no_entry m) (applies refusal_20_no_machine_of_a_split_file m) (applies refusal_21_machine_not_declared m) (applies refusal_22_offset_not_an_integer m) (applies refusal_23_offset_out_of_range m) (applies refusal_24_clock_related_to_itself m) ≡ first cited_rules m
  unfolding by_tests first refusal_19_file_names_no_entry refusal_20_no_machine_of_a_split_file refusal_21_machine_not_declared refusal_22_offset_not_an_integer refusal_23_offset_out_of_range refusal_24_clock_related_to_itself
  in_order = refl

  module _ {a : Bool} (ea : a ≡ applies refusal_19_file_names_no_entry m) where
    pub is_19 : a ≡ true → 19 ≡ first cited_rules m
    unfolding by_tests pick
    is_19 h = (λ j. by_tests ((sym h ∙ ea) j) (applies refusal_20_no_machine_of_a_split_file m) (applies refusal_21_machine_not_declared m) (applies refusal_22_offset_not_an_integer m) (applies refusal_23_offset_out_of_range m) (applies refusal_24_clock_related_to_itself m)) ∙ in_order

    module _ (na : a ≡ false) {b : Bool} (eb : b ≡ applies refusal_20_no_machine_of_a_split_file m) where
      pub is_20 : b ≡ true → 20 ≡ first cited_rules m
      unfolding by_tests pick
      is_20 h = (λ j. by_tests ((sym na ∙ ea) j) ((sym h ∙ eb) j) (applies refusal_21_machine_not_declared m) (applies refusal_22_offset_not_an_integer m) (applies refusal_23_offset_out_of_range m) (applies refusal_24_clock_related_to_itself m)) ∙ in_order

      module _ (nb : b ≡ false) {c : Bool} (ec : c ≡ applies refusal_21_machine_not_declared m) where
        pub is_21 : c ≡ true → 21 ≡ first cited_rules m
        unfolding by_tests pick
        is_21 h = (λ j. by_tests ((sym na ∙ ea) j) ((sym nb ∙ eb) j) ((sym h ∙ ec) j) (applies refusal_22_offset_not_an_integer m) (applies refusal_23_offset_out_of_range m) (applies refusal_24_clock_related_to_itself m)) ∙ in_order

        module _ (nc : c ≡ false) {d : Bool} (ed : d ≡ applies refusal_22_offset_not_an_integer m) where
          pub is_22 : d ≡ true → 22 ≡ first cited_rules m
          unfolding by_tests pick
          is_22 h = (λ j. by_tests ((sym na ∙ ea) j) ((sym nb ∙ eb) j) ((sym nc ∙ ec) j) ((sym h ∙ ed) j) (applies refusal_23_offset_out_of_range m) (applies refusal_24_clock_related_to_itself m)) ∙ in_order

          module _ (nd : d ≡ false) {e : Bool} (ee : e ≡ applies refusal_23_offset_out_of_range m) where
            pub is_23 : e ≡ true → 23 ≡ first cited_rules m
            unfolding by_tests pick
            is_23 h = (λ j. by_tests ((sym na ∙ ea) j) ((sym nb ∙ eb) j) ((sym nc ∙ ec) j) ((sym nd ∙ ed) j) ((sym h ∙ ee) j) (applies refusal_24_clock_related_to_itself m)) ∙ in_order

            module _ (ne : e ≡ false) {f : Bool} (ef : f ≡ applies refusal_24_clock_related_to_itself m) where
              pub is_24 : f ≡ true → 24 ≡ first cited_rules m
              unfolding by_tests pick
              is_24 h = (λ j. by_tests ((sym na ∙ ea) j) ((sym nb ∙ eb) j) ((sym nc ∙ ec) j) ((sym nd ∙ ed) j) ((sym ne ∙ ee) j) ((sym h ∙ ef) j)) ∙ in_order

              pub is_0 : f ≡ false → 0 ≡ first cited_rules m
              unfolding by_tests pick
              is_0 h = (λ j. by_tests ((sym na ∙ ea) j) ((sym nb ∙ eb) j) ((sym nc ∙ ec) j) ((sym nd ∙ ed) j) ((sym ne ∙ ee) j) ((sym h ∙ ef) j)) ∙ in_order
