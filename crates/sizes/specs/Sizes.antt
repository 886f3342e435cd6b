-- Refusals 10 to 13: sizes, clock names, machine with machines, empty names. Paths and names are read elsewhere: 10 and 13 are told of them. Assumes nothing.
use Rattle.std.specs.Prelude.{Bool, false, ◌||◌, List, [], ◌∷◌, ltb, length}
use Rattle.manifest.specs.Rows.{Manifest, trace_file, trace_machine, path, machines_of, every, holds, any, entries, declared, cited_files, cited_machines}
use Rattle.manifest.specs.Rules.{Rule, each, in_trace_time, most_entries, most_items, outside_of, no_path, no_name, refusal_11_unknown_clock_name, refusal_12_machine_with_machines}

-- a path, a cited file or that of `trace_time` of a size that no path has: what 10 says of paths
unfoldable pub broken_paths : Manifest → Bool
broken_paths m = in_trace_time (λ t. holds no_path (trace_file t)) m || any (holds (λ e. holds no_path (path e) || any no_path (cited_files e))) (entries m)

-- a name of a size that no name has: what 10 says of names
unfoldable pub broken_names : Manifest → Bool
broken_names m = in_trace_time (λ t. holds no_name (trace_machine t)) m || any (holds (λ e. any no_name (cited_machines e) || any (outside_of 0 64) (declared e))) (entries m)

-- 10, where it is told whether the paths or the names break it (theorem `size_rule_is`)
unfoldable pub size_rule : Bool → Rule
size_rule broken = record {
  number = 10;
  outside = λ m. broken || ltb most_entries (length (entries m));
  within = each (λ e. ltb most_items (length (every (machines_of e))));
}

-- 13, where it is told (theorem `sizes_are`)
unfoldable pub empty_rule : Bool → Rule
empty_rule empty = record { number = 13; outside = λ m. empty; within = each (λ e. false) }

abbrev pub sizes_rules : Bool → Bool → List Rule
sizes_rules broken empty = size_rule broken ∷ refusal_11_unknown_clock_name ∷ refusal_12_machine_with_machines ∷ empty_rule empty ∷ []
