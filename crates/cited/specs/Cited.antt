-- Refusals 19 to 24: cited files and machines, offsets, and clocks related to themselves. Assumes nothing.
use Rattle.std.specs.Prelude.{List, [], ◌∷◌}
use Rattle.manifest.specs.Rules.{Rule, refusal_19_file_names_no_entry, refusal_20_no_machine_of_a_split_file, refusal_21_machine_not_declared, refusal_22_offset_not_an_integer, refusal_23_offset_out_of_range, refusal_24_clock_related_to_itself}

abbrev pub cited_rules : List Rule
cited_rules =
    refusal_19_file_names_no_entry ∷ refusal_20_no_machine_of_a_split_file ∷ refusal_21_machine_not_declared ∷ refusal_22_offset_not_an_integer ∷ refusal_23_offset_out_of_range ∷ refusal_24_clock_related_to_itself ∷ []
