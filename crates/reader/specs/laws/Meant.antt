-- What the tables say. Assumes nothing.
use Rattle.std.specs.Prelude.{◌≡◌, refl, Bool, true, false, List, [], ◌∷◌, ℕ, eqb, length}
use Rattle.std.proofs.Common.{sym, ap, ◌∙◌, arith, eq-eqb, ne_eqb}
use Rattle.std.proofs.Math.Decide.{ℕ_discrete}
use Rattle.std.proofs.lemmas.List.{length-replicate}
use Rattle.text.specs.Reading.{Text, pick}
use Rattle.text.specs.laws.Readers.{pick_true}
use Rattle.grammar.specs.Tree.{Tree}
use Rattle.manifest.specs.Kinds.{manifest}
use Rattle.manifest.specs.View.{one, is_one, row}
use Rattle.manifest.specs.Rows.{Manifest, every, is_absent, holds, any_at, flat}
use Rattle.manifest.specs.Rules.{applies, not_1, look, somewhere, emptied, first, rules, refusal_5_or_later, refusal_6_no_version, refusal_7_version_not_1, refusal_8_known_member_twice, refusal_9_wrong_type_or_absent, refusal_10_size, refusal_11_unknown_clock_name, refusal_12_machine_with_machines, refusal_13_empty_machine_name, refusal_14_id_out_of_range, refusal_15_path_or_id_twice, refusal_16_clocks_without_sync_to, refusal_17_machine_without_file, refusal_18_sync_to_without_file, refusal_19_file_names_no_entry, refusal_20_no_machine_of_a_split_file, refusal_21_machine_not_declared, refusal_22_offset_not_an_integer, refusal_23_offset_out_of_range, refusal_24_clock_related_to_itself}
use Rattle.manifest.specs.Meaning.{nothing_said, distinct, names_in, listings, timeline, meant}
use Rattle.manifest.specs.Manifest.{refusal_of, meaning_of}
use Rattle.manifest.specs.Statements.{Untouched, Accepted}
use Rattle.manifest.proofs.Theorems.{accepted_is, refused_says_nothing}
use Rattle.manifest.proofs.laws.Bytes.{nothing_meant}
use Rattle.outline.specs.declared.Standing.{Standing}
use Rattle.outline.specs.declared.Standing.TheVariants.{At, Refused}
use Rattle.outline.specs.Outline.{root_at, versions_at}
use Rattle.outline.specs.Theorems.{root_refused, versions_refused}
use Rattle.members.specs.Members.{member_refusal_at}
use Rattle.index.specs.Index.{index_of, too_many, manifest_of}
use Rattle.index.proofs.Theorems.{index_length, zeros_say_nothing}
use Rattle.survey.specs.Survey.{index_from}
use Rattle.listed.specs.Settled.{settled_in}
use Rattle.listed.specs.Theorems.{settled_is, settled_length}
use Rattle.reader.specs.Reader.{table_of, meaning_by}
use Rattle.reader.specs.laws.Passed.{Passed, passed, members_refused, index_holds, many_refused}
use Rattle.reader.specs.laws.Tables.{zeros, refused_zeros, accepted_index, none_zeros}

-- ---- zeros

-- they say nothing, and are refused by no rule
zeros_mean : (s : Text) → meaning_by s zeros ≡ nothing_said
unfolding meaning_by meant names_in distinct flat listings timeline every
zeros_mean s = ap (λ (m : Manifest). meant (one m)) (zeros_say_nothing s)

zeros_accepted : (s : Text) → refusal_5_or_later (one (manifest_of s zeros)) ≡ 0
unfolding refusal_5_or_later first applies not_1 is_one is_absent every any_at look somewhere emptied holds pick refusal_6_no_version refusal_7_version_not_1 refusal_8_known_member_twice refusal_9_wrong_type_or_absent refusal_10_size refusal_11_unknown_clock_name refusal_12_machine_with_machines refusal_13_empty_machine_name refusal_14_id_out_of_range refusal_15_path_or_id_twice refusal_16_clocks_without_sync_to refusal_17_machine_without_file refusal_18_sync_to_without_file refusal_19_file_names_no_entry refusal_20_no_machine_of_a_split_file refusal_21_machine_not_declared refusal_22_offset_not_an_integer refusal_23_offset_out_of_range refusal_24_clock_related_to_itself
zeros_accepted s = ap (λ (m : Manifest). refusal_5_or_later (one m)) (zeros_say_nothing s)

-- ---- an accepted manifest

-- what is accepted and is not nothing has passed 1 to 9
pub accepted_passed : (s : Text) → (length s ≡ 0 → ⊥) → refusal_of s ≡ 0 → (v : ℕ) × Passed s v
accepted_passed s some e = let a : Accepted s = accepted_is s some e in go a.untouched (root_at s) refl
  where
    judged : {t : Tree} (v : ℕ) → Untouched s t → root_at s ≡ At v → Dec (versions_at s v ≡ 0) → Dec (member_refusal_at s v ≡ 0) → Passed s v
    judged v u r (yes a) (yes b) = passed u r a b
    judged v u r (yes a) (no b) = absurd (b (sym (members_refused u r a b) ∙ e))
    judged v u r (no a) d = absurd (a (sym (versions_refused u r a) ∙ e))

    go : {t : Tree} → Untouched s t → (r : Standing) → root_at s ≡ r → (v : ℕ) × Passed s v
    go u (At v) r = (v, judged v u r (ℕ_discrete (versions_at s v) 0) (ℕ_discrete (member_refusal_at s v) 0))
    go u Refused r = let z : refusal_of s ≡ 5 = root_refused u r in absurd (omega arith)

-- and its index holds all
few : {s : Text} {v : ℕ} → Passed s v → refusal_of s ≡ 0 → too_many s v ≡ false
few {s} {v} p e = go (too_many s v) refl
  where
    go : (b : Bool) → too_many s v ≡ b → too_many s v ≡ false
    go true h = let z : refusal_of s ≡ 10 = many_refused p h in absurd (omega arith)
    go false h = h

table_holds : {s : Text} {v : ℕ} (p : Passed s v) → refusal_of s ≡ 0 → manifest_of s (table_of s) ≡ row manifest p.members
table_holds {s} {v} p e = ap (manifest_of s) (accepted_index s e p.its_root) ∙ settled_is s (index_of s v) ∙ index_holds p (few p e)

passed_means : {s : Text} {v : ℕ} → Passed s v → refusal_of s ≡ 0 → meaning_by s (table_of s) ≡ meaning_of s
unfolding meaning_by
passed_means {s} p e = ap (λ (m : Manifest). meant (one m)) (table_holds p e) ∙ sym (p.said ∙ pick_true _ _ (eq-eqb (refusal_of s) 0 e))

passed_accepted : {s : Text} {v : ℕ} → Passed s v → refusal_of s ≡ 0 → refusal_5_or_later (one (manifest_of s (table_of s))) ≡ 0
unfolding refusal_5_or_later
passed_accepted p e = ap (first rules) (table_holds p e) ∙ (sym p.all_judged ∙ e)

-- ---- all texts

pub table_meaning : (s : Text) → meaning_by s (table_of s) ≡ meaning_of s
table_meaning [] = ap (meaning_by []) (none_zeros [] refl) ∙ (zeros_mean [] ∙ sym nothing_meant)
table_meaning (b ∷ s) = go (ℕ_discrete (refusal_of (b ∷ s)) 0)
  where
    go : Dec (refusal_of (b ∷ s) ≡ 0) → meaning_by (b ∷ s) (table_of (b ∷ s)) ≡ meaning_of (b ∷ s)
    go (yes e) = passed_means (accepted_passed (b ∷ s) (λ h. omega arith) e).1 e
    go (no n) = ap (meaning_by (b ∷ s)) (refused_zeros (b ∷ s) refl n) ∙ (zeros_mean (b ∷ s) ∙ sym (refused_says_nothing (b ∷ s) (ne_eqb (refusal_of (b ∷ s)) 0 n)))

pub table_refusal : (s : Text) → refusal_of s ≡ 0 → refusal_5_or_later (one (manifest_of s (table_of s))) ≡ 0
table_refusal [] e = ap (λ (ix : List ℕ). refusal_5_or_later (one (manifest_of [] ix))) (none_zeros [] refl) ∙ zeros_accepted []
table_refusal (b ∷ s) e = passed_accepted (accepted_passed (b ∷ s) (λ h. omega arith) e).1 e

from_long : (s : Text) (r : Standing) → length (index_from s r) ≡ 2470
unfolding index_from
from_long s (At v) = index_length s v
from_long s Refused = length-replicate {A = ℕ} 2470 0

pub table_long : (s : Text) → length (table_of s) ≡ 2470
unfolding table_of pick
table_long s = go (eqb (refusal_of s) 0)
  where
    go : (b : Bool) → length (pick b (settled_in s (index_from s (root_at s))) zeros) ≡ 2470
    go true = settled_length s (index_from s (root_at s)) ∙ from_long s (root_at s)
    go false = length-replicate {A = ℕ} 2470 0
