-- Refusals 5 to 24: each is true or false of the whole manifest, judged over all its members. The refusal is the first in the order. Assumes nothing.
use Rattle.std.specs.Prelude.{Bool, true, false, not, ◌||◌, ◌&&◌, List, [], ◌∷◌, ℕ, suc, eqb, ltb, length, take, ℤ, pos, negsuc}
use Rattle.std.specs.Int.Signed.{lt_z}
use Rattle.text.specs.Reading.{Text, pick}
use Rattle.grammar.specs.Tree.{Tree, null, bool, num, str, arr, obj, no_members, one_member, same}
use Rattle.values.specs.Integer.{Whole, whole, none}
use Rattle.manifest.specs.Names.{bytes}
use Rattle.manifest.specs.Kinds.{Kind, text, integer, free, array, object, Fields, end, field, manifest, entry}
use Rattle.manifest.specs.View.{Cell, absent, wrong, many, one, View, Row, is_one, view}
use Rattle.manifest.specs.Rows.{Manifest, TraceTime, Entry, Item, Clocks, SyncTo, version, trace_time, files, trace_clock, trace_file, trace_machine, path, machine_of, machines_of, its_name, id, item_name, own_clock, own_machine, sync_to, offset, sync_file, sync_machine, sync_clock, every, onto, is_absent, holds, any, any_at, first_or, entries, its_clocks, its_syncs, its_items, split, declared, ids, cited_files, cited_machines, cited_clocks}

-- A rule: its number, whether it applies outside the entries, and whether it applies in an item of `files`, given the item's number and what it is
pub record Rule : Type 0 where
  pub number : ℕ
  pub outside : Manifest → Bool
  pub within : Manifest → ℕ → Cell Entry → Bool

-- a rule applies to a manifest if it does so anywhere
unfoldable pub applies : Rule → Manifest → Bool
applies r m = r.outside m || any_at (r.within m) 0 (entries m)

-- within, where the entries that are objects are looked at each by itself; and where none is looked at
abbrev pub each : (Entry → Bool) → Manifest → ℕ → Cell Entry → Bool
each p m i e = holds p e

abbrev pub in_none : Manifest → ℕ → Cell Entry → Bool
in_none m i e = false

-- outside, where nothing is looked at; and where `trace_time` is
abbrev pub nowhere_else : Manifest → Bool
nowhere_else m = false

abbrev pub in_trace_time : (TraceTime → Bool) → Manifest → Bool
in_trace_time p m = holds p (trace_time m)

-- ---- 6: no `version`

unfoldable pub refusal_6_no_version : Rule
refusal_6_no_version = record { number = 6; outside = λ m. is_absent (version m); within = in_none }

-- ---- 7: a `version` that isn't the integer 1 (of several any one: the least rank tells)

unfoldable pub not_1 : Cell Whole → Bool
not_1 absent = false
not_1 wrong = true
not_1 (many least) = eqb least 0
not_1 (one w) = not (is_one w)

unfoldable pub refusal_7_version_not_1 : Rule
refusal_7_version_not_1 = record { number = 7; outside = λ m. not_1 (version m); within = in_none }

-- ---- 8: known member twice in one object (house).
-- ---- 9: known member of wrong JSON type (`id`: no integer), an item of `files` or `machines` that is no object, or a required member absent, unless 6, 7, 16, 18 or 22 names it

-- how a cell looks, whatever its value
pub data Look : Type 0 where
  missing mistyped repeated fine : Look

unfoldable pub look : {A : Type 0} → Cell A → Look
look absent = missing
look wrong = mistyped
look (many i) = repeated
look (one a) = fine

-- Whether somewhere in a value there is a cell with such a look; a test gets whether the member is required, and the look. An item is required
unfoldable mutual
  pub somewhere : (test : Bool → Look → Bool) → (k : Kind) → View k → Bool
  somewhere test text v = false
  somewhere test integer v = false
  somewhere test free v = false
  somewhere test (array k) v = any (λ c. test true (look c) || holds (λ w. somewhere test k w) c) v
  somewhere test (object fs) v = across test fs v

  pub across : (test : Bool → Look → Bool) → (fs : Fields) → Row fs → Bool
  across test end v = false
  across test (field n r k fs) v = (test r (look v.0) || holds (λ w. somewhere test k w) v.0) || across test fs v.1

-- 8's test and 9's
abbrev pub twice : Bool → Look → Bool
twice r missing = false
twice r mistyped = false
twice r repeated = true
twice r fine = false

abbrev pub ill : Bool → Look → Bool
ill r missing = r
ill r mistyped = true
ill r repeated = false
ill r fine = false

-- outside the entries: in the manifest with the items of `files` left out
unfoldable pub emptied : {A : Type 0} → Cell (List A) → Cell (List A)
emptied absent = absent
emptied wrong = wrong
emptied (many i) = many i
emptied (one l) = one []

abbrev pub bare : Manifest → Manifest
bare m = (version m, (trace_time m, (emptied (files m), tt)))

-- in an item of `files`: the item itself, or somewhere in it
abbrev pub tested : (Bool → Look → Bool) → Cell Entry → Bool
tested test e = test true (look e) || holds (somewhere test (object entry)) e

unfoldable pub refusal_8_known_member_twice : Rule
refusal_8_known_member_twice = record { number = 8; outside = λ m. across twice manifest (bare m); within = λ m i e. tested twice e }

unfoldable pub refusal_9_wrong_type_or_absent : Rule
refusal_9_wrong_type_or_absent = record { number = 9; outside = λ m. across ill manifest (bare m); within = λ m i e. tested ill e }

-- ---- 10: a size above is broken in the manifest, also where a path or machine is only cited (empty `name`: 13; count of machines: 37)

-- "At most 32 `files` entries, 32 `machines` items per entry"
abbrev pub most_entries : ℕ
most_entries = 32

abbrev pub most_items : ℕ
most_items = 32

-- "Paths 1 to 255 bytes, machine names 1 to 64 bytes, after unescaping"
abbrev pub outside_of : ℕ → ℕ → Text → Bool
outside_of low high t = ltb (length t) low || ltb high (length t)

abbrev pub no_path : Text → Bool
no_path = outside_of 1 255

abbrev pub no_name : Text → Bool
no_name = outside_of 1 64

unfoldable pub refusal_10_size : Rule
refusal_10_size = record {
  number = 10;
  outside = λ m. ltb most_entries (length (entries m)) || in_trace_time (λ t. holds no_path (trace_file t) || holds no_name (trace_machine t)) m;
  within = each (λ e.
      holds no_path (path e)
      || (any no_path (cited_files e)
      || (any no_name (cited_machines e)
      || (any (outside_of 0 64) (declared e)
      || ltb most_items (length (every (machines_of e)))))));
}

-- ---- 11: unknown clock name

-- "The six names and their numbers"
abbrev pub clock_names : List Text
clock_names =
    bytes "REALTIME" ∷ bytes "REALTIME_COARSE" ∷ bytes "MONOTONIC" ∷ bytes "MONOTONIC_COARSE" ∷ bytes "MONOTONIC_RAW" ∷ bytes "BOOTTIME" ∷ []

-- the number of a clock's name, from 1 to 6; of any other text 0
unfoldable pub domain : Text → ℕ
domain t = first_or 0 (same t) clock_names 1

abbrev pub no_clock : Text → Bool
no_clock t = eqb (domain t) 0

unfoldable pub refusal_11_unknown_clock_name : Rule
refusal_11_unknown_clock_name = record {
  number = 11;
  outside = in_trace_time (λ t. holds no_clock (trace_clock t));
  within = each (λ e. any no_clock (cited_clocks e));
}

-- ---- 12: `machine` with `machines`

unfoldable pub refusal_12_machine_with_machines : Rule
refusal_12_machine_with_machines = record { number = 12; outside = nowhere_else; within = each (λ e. not (is_absent (machine_of e)) && split e) }

-- ---- 13: empty machine name, in `machine` or `machines`

abbrev pub is_empty : Text → Bool
is_empty t = eqb (length t) 0

unfoldable pub refusal_13_empty_machine_name : Rule
refusal_13_empty_machine_name = record { number = 13; outside = nowhere_else; within = each (λ e. any is_empty (declared e)) }

-- ---- 14: `id` integer outside 0 to 4294967295

abbrev pub no_id : ℤ → Bool
no_id z = lt_z z (pos 0) || lt_z (pos 4294967295) z

unfoldable pub refusal_14_id_out_of_range : Rule
refusal_14_id_out_of_range = record { number = 14; outside = nowhere_else; within = each (λ e. any no_id (ids e)) }

-- ---- 15: path in two entries, or id twice in one `machines` (house). Of two entries it applies in the later one

unfoldable pub same_id : ℤ → ℤ → Bool
same_id (pos a) (pos b) = eqb a b
same_id (pos a) (negsuc b) = false
same_id (negsuc a) (pos b) = false
same_id (negsuc a) (negsuc b) = eqb a b

unfoldable pub twice_in : List ℤ → Bool
twice_in [] = false
twice_in (z ∷ l) = any (same_id z) l || twice_in l

abbrev pub has_path : Text → Entry → Bool
has_path t e = holds (same t) (path e)

unfoldable pub refusal_15_path_or_id_twice : Rule
refusal_15_path_or_id_twice = record {
  number = 15;
  outside = nowhere_else;
  within = λ m i e. holds (λ v. holds (λ t. any (holds (has_path t)) (take i (entries m))) (path v) || twice_in (ids v)) e;
}

-- ---- 16: `clocks` without `sync_to`

unfoldable pub refusal_16_clocks_without_sync_to : Rule
refusal_16_clocks_without_sync_to = record { number = 16; outside = nowhere_else; within = each (λ e. any (λ c. is_absent (sync_to c)) (its_clocks e)) }

-- ---- 17: `machine` without `file` in `sync_to` or `trace_time`

unfoldable pub refusal_17_machine_without_file : Rule
refusal_17_machine_without_file = record {
  number = 17;
  outside = in_trace_time (λ t. not (is_absent (trace_machine t)) && is_absent (trace_file t));
  within = each (λ e. any (λ s. not (is_absent (sync_machine s)) && is_absent (sync_file s)) (its_syncs e));
}

-- ---- 18: `sync_to` without `file`

unfoldable pub refusal_18_sync_to_without_file : Rule
refusal_18_sync_to_without_file = record { number = 18; outside = nowhere_else; within = each (λ e. any (λ s. is_absent (sync_file s)) (its_syncs e)) }

-- ---- 19: `file` in `sync_to` or `trace_time` names no entry

-- the first entry with a path, and its number, counted from i
unfoldable pub find : Text → ℕ → List (Cell Entry) → Cell (ℕ × Entry)
find t i [] = absent
find t i (absent ∷ l) = find t (suc i) l
find t i (wrong ∷ l) = find t (suc i) l
find t i (many j ∷ l) = find t (suc i) l
find t i (one e ∷ l) = pick (has_path t e) (one (i, e)) (find t (suc i) l)

-- the entry that a `file` names
abbrev pub named_entry : Manifest → Cell Text → Cell (ℕ × Entry)
named_entry m f = onto f (λ t. find t 0 (entries m))

abbrev pub no_entry : Manifest → Text → Bool
no_entry m t = is_absent (find t 0 (entries m))

unfoldable pub refusal_19_file_names_no_entry : Rule
refusal_19_file_names_no_entry = record {
  number = 19;
  outside = λ m. in_trace_time (λ t. holds (no_entry m) (trace_file t)) m;
  within = λ m i e. holds (λ v. any (no_entry m) (cited_files v)) e;
}

-- ---- 20: no `machine` in the `clocks` of a split file, or in a `sync_to` that names one, with a `clock` or without

unfoldable pub refusal_20_no_machine_of_a_split_file : Rule
refusal_20_no_machine_of_a_split_file = record {
  number = 20;
  outside = nowhere_else;
  within = λ m i e. holds (λ v.
      any (λ c. split v && is_absent (own_machine c)) (its_clocks v)
      || any (λ s. is_absent (sync_machine s) && holds (λ p. split p.1) (named_entry m (sync_file s))) (its_syncs v)) e;
}

-- ---- 21: `machine` in `clocks`, `sync_to` or `trace_time` not declared by that file

abbrev pub not_declared : Entry → Text → Bool
not_declared e t = not (any (same t) (declared e))

unfoldable pub refusal_21_machine_not_declared : Rule
refusal_21_machine_not_declared = record {
  number = 21;
  outside = λ m. in_trace_time (λ t. holds (λ p. holds (not_declared p.1) (trace_machine t)) (named_entry m (trace_file t))) m;
  within = λ m i e. holds (λ v.
      any (λ c. holds (not_declared v) (own_machine c)) (its_clocks v)
      || any (λ s. holds (λ p. holds (not_declared p.1) (sync_machine s)) (named_entry m (sync_file s))) (its_syncs v)) e;
}

-- ---- 22: `offset_ns` not an integer. 23: `offset_ns` below -(2^63-1) or above 2^63-1

unfoldable pub no_integer : Whole → Bool
no_integer (whole z) = false
no_integer none = true

-- (-(2^63-1) is one more than -2^63, which is -9223372036854775808)
unfoldable pub too_far : Whole → Bool
too_far (whole z) = lt_z z (negsuc 9223372036854775806) || lt_z (pos 9223372036854775807) z
too_far none = false

unfoldable pub refusal_22_offset_not_an_integer : Rule
refusal_22_offset_not_an_integer = record { number = 22; outside = nowhere_else; within = each (λ e. any (λ c. holds no_integer (offset c)) (its_clocks e)) }

unfoldable pub refusal_23_offset_out_of_range : Rule
refusal_23_offset_out_of_range = record { number = 23; outside = nowhere_else; within = each (λ e. any (λ c. holds too_far (offset c)) (its_clocks e)) }

-- ---- 24: a clock related to itself (house)

-- a machine: the host, or the machine of a name (one named `host` is not the host)
pub data Whose : Type 0 where
  host : Whose
  called : Text → Whose

-- the machine that a `machine` cites; d where it is absent
unfoldable pub cited_or : Cell Text → Whose → Whose
cited_or absent d = d
cited_or wrong d = d
cited_or (many i) d = d
cited_or (one t) d = called t

unfoldable pub name_of_id : ℤ → List Item → Cell Text
name_of_id z [] = absent
name_of_id z (v ∷ l) = pick (holds (same_id z) (id v)) (item_name v) (name_of_id z l)

-- "A file's base machine: its `machine`; or its name for id 0; or the host"
unfoldable pub base : Entry → Whose
base e = cited_or (onto (machine_of e) its_name) (cited_or (name_of_id (pos 0) (its_items e)) host)

-- a clock: the private clock of the file of an entry, or a domain of a machine, which all its files share
pub data Clock : Type 0 where
  private : ℕ → Clock
  shared : Whose → ℕ → Clock

unfoldable pub same_machine : Whose → Whose → Bool
same_machine host host = true
same_machine host (called t) = false
same_machine (called s) host = false
same_machine (called s) (called t) = same s t

unfoldable pub same_clock : Clock → Clock → Bool
same_clock (private i) (private j) = eqb i j
same_clock (private i) (shared n e) = false
same_clock (shared m d) (private j) = false
same_clock (shared m d) (shared n e) = same_machine m n && eqb d e

-- the clock that a `clock` and a `machine` name for the file of entry i: the named clock of the named machine or of the base machine;
-- without a `clock` the file's private clock
unfoldable pub clock_at : ℕ → Entry → Cell Text → Cell Text → Clock
clock_at i e absent n = private i
clock_at i e wrong n = private i
clock_at i e (many j) n = private i
clock_at i e (one t) n = shared (cited_or n (base e)) (domain t)

-- "The source clock is otherwise the named clock of `clocks.machine` or the base machine"
abbrev pub source : ℕ → Entry → Clocks → Clock
source i e c = clock_at i e (own_clock c) (own_machine c)

-- "the reference likewise, or the reference file's private clock if `sync_to.clock` is absent"
abbrev pub reference : ℕ × Entry → SyncTo → Clock
reference p s = clock_at p.0 p.1 (sync_clock s) (sync_machine s)

unfoldable pub refusal_24_clock_related_to_itself : Rule
refusal_24_clock_related_to_itself = record {
  number = 24;
  outside = nowhere_else;
  within = λ m i e. holds (λ v.
      any (λ c. holds (λ s. holds (λ p. same_clock (source i v c) (reference p s)) (named_entry m (sync_file s))) (sync_to c)) (its_clocks v)) e;
}

-- ---- the order

abbrev pub rules : List Rule
rules =
    refusal_6_no_version ∷ refusal_7_version_not_1 ∷ refusal_8_known_member_twice ∷ refusal_9_wrong_type_or_absent ∷ refusal_10_size
    ∷ refusal_11_unknown_clock_name ∷ refusal_12_machine_with_machines ∷ refusal_13_empty_machine_name ∷ refusal_14_id_out_of_range
    ∷ refusal_15_path_or_id_twice ∷ refusal_16_clocks_without_sync_to ∷ refusal_17_machine_without_file ∷ refusal_18_sync_to_without_file
    ∷ refusal_19_file_names_no_entry ∷ refusal_20_no_machine_of_a_split_file ∷ refusal_21_machine_not_declared
    ∷ refusal_22_offset_not_an_integer ∷ refusal_23_offset_out_of_range ∷ refusal_24_clock_related_to_itself ∷ []

-- the number of the first rule that applies; 0 if none does
unfoldable pub first : List Rule → Manifest → ℕ
first [] m = 0
first (r ∷ rs) m = pick (applies r m) r.number (first rs m)

-- The manifest object, if the document is an object with one member and that is an object; else wrong. (Theorem `opening`: the start bytes fix that member's name)
unfoldable pub root : Tree → Cell Manifest
root null = wrong
root (bool b) = wrong
root (num cs) = wrong
root (str s) = wrong
root (arr ts) = wrong
root (obj no_members) = wrong
root (obj (one_member k t no_members)) = view (object manifest) t
root (obj (one_member k t (one_member l u ms))) = wrong

-- 5: outermost object has a second member, or the first isn't an object. From 6 on by the rules
unfoldable pub refusal_5_or_later : Cell Manifest → ℕ
refusal_5_or_later absent = 5
refusal_5_or_later wrong = 5
refusal_5_or_later (many i) = 5
refusal_5_or_later (one m) = first rules m

-- the refusal of a document, from 5 on; 0 if there is none
unfoldable pub refusal : Tree → ℕ
refusal t = refusal_5_or_later (root t)
