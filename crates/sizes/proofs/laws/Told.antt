-- 10 is that a path or a name is of a broken size, or that there are too many entries or items: the parts may be asked apart, and 13 may be told. Assumes nothing.
use Rattle.std.specs.Prelude.{◌≡◌, Bool, true, false, ◌||◌, List, [], ◌∷◌, ℕ, suc, ltb, length}
use Rattle.std.proofs.Math.Path.{refl, sym, ap}
use Rattle.std.proofs.Common.{◌∙◌}
use Rattle.std.proofs.Math.Bool.{or-false, or_assoc, or_comm}
use Rattle.text.specs.Reading.{pick}
use Rattle.manifest.specs.View.{Cell, absent, wrong, many, one}
use Rattle.manifest.specs.Rows.{Manifest, TraceTime, Entry, trace_time, trace_file, trace_machine, path, machines_of, every, holds, any, any_at, entries, declared, cited_files, cited_machines}
use Rattle.manifest.specs.Rules.{applies, first, most_entries, most_items, outside_of, no_path, no_name, refusal_10_size, refusal_11_unknown_clock_name, refusal_12_machine_with_machines, refusal_13_empty_machine_name}
use Rattle.manifest.proofs.laws.Lists.{any_at_none}
use Rattle.sizes.specs.Sizes.{broken_paths, broken_names, size_rule, empty_rule, sizes_rules}

-- ---- one of several tests

or_crosses : (a b c d : Bool) → ((a || b) || (c || d)) ≡ ((a || c) || (b || d))
or_crosses true b c d = refl
or_crosses false true true d = refl
or_crosses false true false d = refl
or_crosses false false c d = refl

-- a test that asks no number, and one of two such
any_at_or : {A : Type 0} (p q : A → Bool) (i : ℕ) (l : List A) → any_at (λ j a. p a || q a) i l ≡ (any p l || any_at (λ j a. q a) i l)
unfolding any any_at
any_at_or p q i [] = refl
any_at_or p q i (a ∷ l) = ap (λ (b : Bool). (p a || q a) || b) (any_at_or p q (suc i) l) ∙ or_crosses (p a) (q a) (any p l) (any_at (λ j b. q b) (suc i) l)

-- paths and names (of `trace_time` and of entries) asked before what else is asked outside and in entries
told_first : (file paths machine names more within : Bool)
    → ((((file || paths) || (machine || names)) || more) || within) ≡ ((more || (file || machine)) || (paths || (names || within)))
told_first file paths machine names more within =
    ap (λ (b : Bool). (b || more) || within) (or_crosses file paths machine names)
    ∙ or_assoc ((file || machine) || (paths || names)) more within
    ∙ or_crosses (file || machine) (paths || names) more within
    ∙ (λ k. or_comm (file || machine) more k || or_assoc paths names within k)

-- ---- 10

-- of an entry: its paths, its names, and how many items it has
abbrev of_paths : Entry → Bool
of_paths e = holds no_path (path e) || any no_path (cited_files e)

abbrev of_names : Entry → Bool
of_names e = any no_name (cited_machines e) || any (outside_of 0 64) (declared e)

abbrev of_items : Entry → Bool
of_items e = ltb most_items (length (every (machines_of e)))

-- of `trace_time`
abbrev of_file : TraceTime → Bool
of_file t = holds no_path (trace_file t)

abbrev of_machine : TraceTime → Bool
of_machine t = holds no_name (trace_machine t)

in_trace : (t : Cell TraceTime) → (holds of_file t || holds of_machine t) ≡ holds (λ v. of_file v || of_machine v) t
unfolding holds
in_trace absent = refl
in_trace wrong = refl
in_trace (many i) = refl
in_trace (one v) = refl

module _ (m : Manifest) where
  in_entry : (e : Cell Entry) → (holds of_paths e || (holds of_names e || holds of_items e)) ≡ refusal_10_size.within m 0 e
  unfolding holds refusal_10_size
  in_entry absent = refl
  in_entry wrong = refl
  in_entry (many i) = refl
  in_entry (one v) =
      or_assoc (holds no_path (path v)) (any no_path (cited_files v)) (of_names v || of_items v)
      ∙ ap (λ (b : Bool). holds no_path (path v) || (any no_path (cited_files v) || b)) (or_assoc (any no_name (cited_machines v)) (any (outside_of 0 64) (declared v)) (of_items v))

  in_entries : (any (holds of_paths) (entries m) || (any (holds of_names) (entries m) || any_at (λ i e. holds of_items e) 0 (entries m))) ≡ any_at (refusal_10_size.within m) 0 (entries m)
  unfolding refusal_10_size
  in_entries =
      ap (λ (b : Bool). any (holds of_paths) (entries m) || b) (sym (any_at_or (holds of_names) (holds of_items) 0 (entries m)))
      ∙ sym (any_at_or (holds of_paths) (λ e. holds of_names e || holds of_items e) 0 (entries m))
      ∙ (λ k. any_at (λ i e. in_entry e k) 0 (entries m))

  abbrev too_many : Bool
  too_many = ltb most_entries (length (entries m))

  pub size_told : applies (size_rule (broken_paths m || broken_names m)) m ≡ applies refusal_10_size m
  unfolding applies broken_paths broken_names size_rule refusal_10_size
  size_told =
      told_first (holds of_file (trace_time m)) (any (holds of_paths) (entries m)) (holds of_machine (trace_time m)) (any (holds of_names) (entries m)) too_many (any_at (λ i e. holds of_items e) 0 (entries m))
      ∙ (λ k. (too_many || in_trace (trace_time m) k) || in_entries k)

-- ---- 13

holds_none : {A : Type 0} (c : Cell A) → holds (λ a. false) c ≡ false
unfolding holds
holds_none absent = refl
holds_none wrong = refl
holds_none (many i) = refl
holds_none (one a) = refl

-- it says what it is told, of any manifest
pub empty_told : (empty : Bool) (m : Manifest) → applies (empty_rule empty) m ≡ empty
unfolding applies empty_rule
empty_told empty m = (λ k. empty || any_at (λ i e. holds_none e k) 0 (entries m)) ∙ ap (λ (b : Bool). empty || b) (any_at_none 0 (entries m)) ∙ or-false empty

-- ---- all four

pub rules_told : (m : Manifest)
    → first (sizes_rules (broken_paths m || broken_names m) (applies refusal_13_empty_machine_name m)) m
    ≡ first (refusal_10_size ∷ refusal_11_unknown_clock_name ∷ refusal_12_machine_with_machines ∷ refusal_13_empty_machine_name ∷ []) m
unfolding first size_rule empty_rule refusal_10_size refusal_11_unknown_clock_name refusal_12_machine_with_machines refusal_13_empty_machine_name
rules_told m = λ k.
    pick (size_told m k) 10 (pick (applies refusal_11_unknown_clock_name m) 11 (pick (applies refusal_12_machine_with_machines m) 12 (pick (empty_told (applies refusal_13_empty_machine_name m) m k) 13 0)))
