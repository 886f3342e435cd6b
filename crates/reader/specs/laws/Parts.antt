-- The rules in parts, one after the other. Assumes nothing.
use Rattle.std.specs.Prelude.{◌≡◌, refl, true, List, [], ◌∷◌, ◌++◌}
use Rattle.std.proofs.Common.{◌∙◌, eq-eqb, ne_eqb}
use Rattle.text.specs.laws.Readers.{pick_true, pick_false}
use Rattle.manifest.specs.Rows.{Manifest}
use Rattle.manifest.specs.Rules.{Rule, first, rules, refusal_6_no_version, refusal_7_version_not_1, refusal_8_known_member_twice, refusal_9_wrong_type_or_absent, refusal_10_size, refusal_11_unknown_clock_name, refusal_12_machine_with_machines, refusal_13_empty_machine_name, refusal_14_id_out_of_range, refusal_15_path_or_id_twice, refusal_16_clocks_without_sync_to, refusal_17_machine_without_file, refusal_18_sync_to_without_file, refusal_19_file_names_no_entry, refusal_20_no_machine_of_a_split_file, refusal_21_machine_not_declared, refusal_22_offset_not_an_integer, refusal_23_offset_out_of_range}
use Rattle.manifest.proofs.laws.Order.{some_number, numbered, first_append}
use Rattle.members.specs.Members.{member_rules}
use Rattle.cited.specs.Cited.{cited_rules}

-- 6 and 7
abbrev pub version_rules : List Rule
version_rules = refusal_6_no_version ∷ refusal_7_version_not_1 ∷ []

-- 10 to 13 and 14 to 18, of which `sizes` and `once` judge all but what is said of paths
abbrev pub size_rules : List Rule
size_rules = refusal_10_size ∷ refusal_11_unknown_clock_name ∷ refusal_12_machine_with_machines ∷ refusal_13_empty_machine_name ∷ []

abbrev pub twice_rules : List Rule
twice_rules =
    refusal_14_id_out_of_range ∷ refusal_15_path_or_id_twice ∷ refusal_16_clocks_without_sync_to ∷ refusal_17_machine_without_file ∷ refusal_18_sync_to_without_file ∷ []

-- 10 to 24, which are judged over the index
abbrev pub later_rules : List Rule
later_rules = size_rules ++ (twice_rules ++ cited_rules)

-- all of them, in their order
pub in_parts : rules ≡ version_rules ++ (member_rules ++ later_rules)
in_parts = refl

module _ (ps qs : List Rule) (m : Manifest) (h : numbered ps ≡ true) where
  -- where none of the first part applies, the rest decides
  pub first_rest : first ps m ≡ 0 → first (ps ++ qs) m ≡ first qs m
  first_rest e = first_append ps qs m h ∙ pick_true _ _ (eq-eqb (first ps m) 0 e)

  -- else the first part does
  pub first_here : (first ps m ≡ 0 → ⊥) → first (ps ++ qs) m ≡ first ps m
  first_here some = first_append ps qs m h ∙ pick_false _ _ (ne_eqb (first ps m) 0 some)

-- every number can be told from none
pub versions_numbered : numbered version_rules ≡ true
unfolding numbered some_number refusal_6_no_version refusal_7_version_not_1
versions_numbered = refl

pub members_numbered : numbered member_rules ≡ true
unfolding numbered some_number refusal_8_known_member_twice refusal_9_wrong_type_or_absent
members_numbered = refl

pub sizes_numbered : numbered size_rules ≡ true
unfolding numbered some_number refusal_10_size refusal_11_unknown_clock_name refusal_12_machine_with_machines refusal_13_empty_machine_name
sizes_numbered = refl

pub once_numbered : numbered twice_rules ≡ true
unfolding numbered some_number refusal_14_id_out_of_range refusal_15_path_or_id_twice refusal_16_clocks_without_sync_to refusal_17_machine_without_file refusal_18_sync_to_without_file
once_numbered = refl
