-- What is proved of the definitions. Assumes nothing.
use Rattle.std.specs.Prelude.{◌≡◌, refl, false, List, [], ◌∷◌, map, ℕ, ◌-◌, eqb, length}
use Rattle.std.proofs.Common.{sym, ap, subst, ◌∙◌}
use Rattle.text.specs.Reading.{Text, pick}
use Rattle.grammar.specs.Tree.{Tree, obj, Members, no_members, one_member, get}
use Rattle.manifest.specs.Names.{bytes}
use Rattle.manifest.specs.Kinds.{manifest}
use Rattle.manifest.specs.View.{Cell, wrong, one, row}
use Rattle.manifest.specs.Rows.{Manifest, TraceTime, Entry, Clocks, SyncTo, version, trace_time, trace_clock, trace_file, trace_machine, clocks_of, own_machine, sync_to, sync_file, sync_machine, any, entries, declared, cited_files, cited_clocks}
use Rattle.manifest.specs.Rules.{applies, not_1, rules, root, refusal_5_or_later, refusal, domain, called, refusal_6_no_version, refusal_7_version_not_1, refusal_8_known_member_twice, refusal_9_wrong_type_or_absent, refusal_10_size, refusal_11_unknown_clock_name, refusal_12_machine_with_machines, refusal_13_empty_machine_name, refusal_14_id_out_of_range, refusal_15_path_or_id_twice, refusal_16_clocks_without_sync_to, refusal_17_machine_without_file, refusal_18_sync_to_without_file, refusal_19_file_names_no_entry, refusal_20_no_machine_of_a_split_file, refusal_21_machine_not_declared, refusal_22_offset_not_an_integer, refusal_23_offset_out_of_range, refusal_24_clock_related_to_itself}
use Rattle.manifest.specs.Meaning.{nothing_said, names_in, number_of, meant, meaning}
use Rattle.manifest.specs.Manifest.{refusal_of, meaning_of}
use Rattle.manifest.specs.Same.{SameDocument, document}
use Rattle.manifest.specs.Statements.{At, here, further, All, Untouched, Opened, First, IsOne, SoundRow, Found, Numbered, OfSix, ClocksIn, Accepted, RelatedBy}
use Rattle.manifest.proofs.laws.Views.{same_view, manifest_good}
use Rattle.manifest.proofs.laws.Members.{not_one, seven}
use Rattle.manifest.proofs.laws.Order.{first_is}
use Rattle.manifest.proofs.laws.Accepted.{no_rule, members_sound, file_found, clock_numbered, trace_file_found, trace_clock_numbered, declared_numbered, own_machine_numbered, sync_machine_numbered, trace_machine_numbered, clocks_related}
use Rattle.manifest.proofs.laws.Opening.{first_named}
use Rattle.manifest.proofs.laws.Version.{version_refused}
use Rattle.manifest.proofs.laws.Ranges.{refused_means, all_in_range}
use Rattle.manifest.proofs.laws.Bytes.{refusal_of_document, meaning_of_document, accepted_bytes}

-- ---- Demand 3: unknown members and the order of members change neither the refusal nor the meaning

-- all that the rules see of two such documents is the same
pub same_root : {t u : Tree} → SameDocument t u → root t ≡ root u
unfolding root
same_root (document {ms = no_members} s) = same_view s manifest_good
same_root (document {ms = one_member k v ms} s) = refl

-- over trees: the refusal, and the meaning
pub same_refusal : {t u : Tree} → SameDocument t u → refusal t ≡ refusal u
unfolding refusal
same_refusal s = ap refusal_5_or_later (same_root s)

pub same_meaning : {t u : Tree} → SameDocument t u → meaning t ≡ meaning u
unfolding meaning
same_meaning s = ap meant (same_root s)

-- over bytes: two manifests that are untouched by 1 to 4, and the same but for unknown members and order, have one refusal and one meaning
module _ {r s : Text} {t u : Tree} (a : Untouched r t) (b : Untouched s u) (same : SameDocument t u) where
  pub same_refusal_of : refusal_of r ≡ refusal_of s
  same_refusal_of = refusal_of_document a ∙ (same_refusal same ∙ sym (refusal_of_document b))

  pub same_meaning_of : meaning_of r ≡ meaning_of s
  same_meaning_of =
      meaning_of_document a
      ∙ ((λ i. pick (eqb (same_refusal same i) 0) (same_meaning same i) nothing_said) ∙ sym (meaning_of_document b))

-- ---- The start bytes

-- they fix the name of the outermost object's first member, so `root` need not look at it
pub opening : {s : Text} {t : Tree} → Untouched s t → Opened t
opening u = first_named u

-- ---- The order

-- of a manifest the refusal is the number of the first rule in the order that applies, or 0 and none applies
pub refusal_first : (t : Tree) {m : Manifest} → root t ≡ one m → First rules m (refusal t)
unfolding refusal refusal_5_or_later
refusal_first t {m} e = subst (λ (c : Cell Manifest). First rules m (refusal_5_or_later c)) (sym e) (first_is rules m)

-- the order is that of the numbers
pub numbers : map (λ r. r.number) rules ≡ 6 ∷ 7 ∷ 8 ∷ 9 ∷ 10 ∷ 11 ∷ 12 ∷ 13 ∷ 14 ∷ 15 ∷ 16 ∷ 17 ∷ 18 ∷ 19 ∷ 20 ∷ 21 ∷ 22 ∷ 23 ∷ 24 ∷ []
unfolding refusal_6_no_version refusal_7_version_not_1 refusal_8_known_member_twice refusal_9_wrong_type_or_absent refusal_10_size refusal_11_unknown_clock_name refusal_12_machine_with_machines refusal_13_empty_machine_name refusal_14_id_out_of_range refusal_15_path_or_id_twice refusal_16_clocks_without_sync_to refusal_17_machine_without_file refusal_18_sync_to_without_file refusal_19_file_names_no_entry refusal_20_no_machine_of_a_split_file refusal_21_machine_not_declared refusal_22_offset_not_an_integer refusal_23_offset_out_of_range refusal_24_clock_related_to_itself
numbers = refl

-- 5 is given to every document that is no object with one member which is an object
pub refusal_5 : (t : Tree) → root t ≡ wrong → refusal t ≡ 5
unfolding refusal refusal_5_or_later
refusal_5 t e = ap refusal_5_or_later e

-- to an accepted manifest no rule applies
pub accepted_none : (m : Manifest) → refusal_5_or_later (one m) ≡ 0 → All (λ r. applies r m ≡ false) rules
accepted_none m e = no_rule m e

-- ---- The version

-- 7 looks at each member named `version`, in words of the members: some one of them isn't the integer 1
pub version_judged : (ms : Members) → not_1 (version (row manifest ms)) ≡ any not_one (get (bytes "version") ms)
version_judged ms = seven ms

-- a version that is not the integer 1 is refused as 7, whatever else is wrong from 6 on
pub other_version : (n : Text) (ms : Members) {i : ℕ} {v : Tree} → At (get (bytes "version") ms) i v → (IsOne v → ⊥)
    → refusal (obj (one_member n (obj ms) no_members)) ≡ 7
other_version n ms h no_one = version_refused n ms h no_one

-- the same over bytes: untouched by 1 to 4, and one object in one object (so untouched by 5)
pub other_version_of : {s n : Text} {ms : Members} → Untouched s (obj (one_member n (obj ms) no_members)) → {i : ℕ} {v : Tree} → At (get (bytes "version") ms) i v → (IsOne v → ⊥)
    → refusal_of s ≡ 7
other_version_of {n = n} {ms = ms} u h no_one = refusal_of_document u ∙ other_version n ms h no_one

-- ---- An accepted manifest

-- bytes that are accepted are a manifest to which no rule applies: they are some, are read, and are one object in one object
pub accepted_is : (s : Text) → (length s ≡ 0 → ⊥) → refusal_of s ≡ 0 → Accepted s
accepted_is s some e = accepted_bytes s some e

module _ (m : Manifest) (accepted : refusal_5_or_later (one m) ≡ 0) where
  -- each known member is absent and optional, or one value of its type, all the way down: no default is ever read for a repeated or ill-typed one
  pub accepted_sound : SoundRow manifest m
  accepted_sound = members_sound m accepted

  module _ {i : ℕ} {e : Entry} (listed : At (entries m) i (one e)) where
    -- a `file` in `sync_to` is the path of an entry
    pub cited_file_found : {j : ℕ} {t : Text} → At (cited_files e) j t → Found m t
    cited_file_found a = file_found m accepted listed a

    -- a clock's name in `clocks` or `sync_to` has a number from 1 to 6
    pub cited_clock_numbered : {j : ℕ} {t : Text} → At (cited_clocks e) j t → OfSix (domain t)
    cited_clock_numbered a = clock_numbered m accepted listed a

    -- a declared name has a machine number of its own, from 1 on; so has a `machine` in `clocks` and in `sync_to`
    pub declared_machine_numbered : {j : ℕ} {t : Text} → At (declared e) j t → Numbered m t
    declared_machine_numbered a = declared_numbered m accepted listed a

    module _ {c : Clocks} (clocks : clocks_of e ≡ one c) where
      pub cited_machine_numbered : {t : Text} → own_machine c ≡ one t → Numbered m t
      cited_machine_numbered q = own_machine_numbered m accepted listed clocks q

      -- an entry with `clocks` is related, as they say: no default is read for an absent `sync_to` or an unknown file
      pub entry_related : RelatedBy m i e c
      entry_related = clocks_related m accepted listed clocks

      pub reference_machine_numbered : {s : SyncTo} {f t : Text} → sync_to c ≡ one s → sync_file s ≡ one f → sync_machine s ≡ one t → Found m f → Numbered m t
      reference_machine_numbered g k w r = sync_machine_numbered m accepted listed clocks g k w r

  -- and so in `trace_time`
  module _ {v : TraceTime} (trace : trace_time m ≡ one v) where
    pub trace_time_file_found : {t : Text} → trace_file v ≡ one t → Found m t
    trace_time_file_found q = trace_file_found m accepted trace q

    pub trace_time_clock_numbered : {t : Text} → trace_clock v ≡ one t → OfSix (domain t)
    trace_time_clock_numbered q = trace_clock_numbered m accepted trace q

    pub trace_time_machine_numbered : {f t : Text} → trace_file v ≡ one f → trace_machine v ≡ one t → Found m f → Numbered m t
    trace_time_machine_numbered k w r = trace_machine_numbered m accepted trace k w r

-- equal numbers are equal names: two names never share a machine
pub one_name : {m : Manifest} {t u : Text} → Numbered m t → Numbered m u → number_of (names_in m) (called t) ≡ number_of (names_in m) (called u) → t ≡ u
one_name {m} {t} {u} a b e = one_place (subst (λ k. At (names_in m) (k.0 - 1) t) e a.its) b.its
  where
    one_place : {l : List Text} {i : ℕ} {x y : Text} → At l i x → At l i y → x ≡ y
    one_place here here = refl
    one_place (further h) (further k) = one_place h k

-- a refused manifest says nothing
pub refused_says_nothing : (s : Text) → eqb (refusal_of s) 0 ≡ false → meaning_of s ≡ nothing_said
refused_says_nothing s e = refused_means s e

-- every clock of a meaning is a private clock of one of its entries, or one of the six of the host or of a named machine
pub clocks_in_range : (s : Text) → ClocksIn (meaning_of s)
clocks_in_range s = all_in_range s
