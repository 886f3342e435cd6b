-- Refusals 14 to 18: ids, what stands twice, and members that ask for others. Paths are read elsewhere: 15 is told of them. Assumes nothing.
use Rattle.std.specs.Prelude.{Bool, List, [], ◌∷◌, take}
use Rattle.manifest.specs.Rows.{Manifest, holds, any, any_at, entries, path, ids}
use Rattle.manifest.specs.Rules.{Rule, each, has_path, twice_in, refusal_14_id_out_of_range, refusal_16_clocks_without_sync_to, refusal_17_machine_without_file, refusal_18_sync_to_without_file}

-- a path in two entries: what 15 says of paths
unfoldable pub path_twice : Manifest → Bool
path_twice m = any_at (λ i e. holds (λ v. holds (λ t. any (holds (has_path t)) (take i (entries m))) (path v)) e) 0 (entries m)

-- 15, where it is told whether a path stands twice (theorem `twice_rule_is`)
unfoldable pub twice_rule : Bool → Rule
twice_rule twice = record { number = 15; outside = λ m. twice; within = each (λ e. twice_in (ids e)) }

abbrev pub once_rules : Bool → List Rule
once_rules twice =
    refusal_14_id_out_of_range ∷ twice_rule twice ∷ refusal_16_clocks_without_sync_to ∷ refusal_17_machine_without_file ∷ refusal_18_sync_to_without_file ∷ []
