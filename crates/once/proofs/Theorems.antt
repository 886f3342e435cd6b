-- Told of the manifest's own paths, these are the rules 14 to 18 of the manifest. Assumes nothing.
use Rattle.std.specs.Prelude.{◌≡◌, [], ◌∷◌}
use Rattle.manifest.specs.Rows.{Manifest}
use Rattle.manifest.specs.Rules.{applies, first, refusal_14_id_out_of_range, refusal_15_path_or_id_twice, refusal_16_clocks_without_sync_to, refusal_17_machine_without_file, refusal_18_sync_to_without_file}
use Rattle.once.specs.Once.{path_twice, twice_rule, once_rules}
use Rattle.once.proofs.laws.Told.{told_right, rules_right}

pub twice_rule_is : (m : Manifest) → applies (twice_rule (path_twice m)) m ≡ applies refusal_15_path_or_id_twice m
twice_rule_is m = told_right m

pub once_are : (m : Manifest)
    → first (once_rules (path_twice m)) m
    ≡ first (refusal_14_id_out_of_range ∷ refusal_15_path_or_id_twice ∷ refusal_16_clocks_without_sync_to ∷ refusal_17_machine_without_file ∷ refusal_18_sync_to_without_file ∷ []) m
once_are m = rules_right m
