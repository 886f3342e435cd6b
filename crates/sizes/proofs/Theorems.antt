-- Told of the manifest's own paths and names, these are the rules 10 to 13 of the manifest. Assumes nothing.
use Rattle.std.specs.Prelude.{◌≡◌, ◌||◌, [], ◌∷◌}
use Rattle.manifest.specs.Rows.{Manifest}
use Rattle.manifest.specs.Rules.{applies, first, refusal_10_size, refusal_11_unknown_clock_name, refusal_12_machine_with_machines, refusal_13_empty_machine_name}
use Rattle.sizes.specs.Sizes.{broken_paths, broken_names, size_rule, sizes_rules}
use Rattle.sizes.proofs.laws.Told.{size_told, rules_told}

pub size_rule_is : (m : Manifest) → applies (size_rule (broken_paths m || broken_names m)) m ≡ applies refusal_10_size m
size_rule_is m = size_told m

pub sizes_are : (m : Manifest)
    → first (sizes_rules (broken_paths m || broken_names m) (applies refusal_13_empty_machine_name m)) m
    ≡ first (refusal_10_size ∷ refusal_11_unknown_clock_name ∷ refusal_12_machine_with_machines ∷ refusal_13_empty_machine_name ∷ []) m
sizes_are m = rules_told m
