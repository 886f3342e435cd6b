-- The tables of a refused manifest, of an accepted one, and of none. Assumes nothing.
use Rattle.std.specs.Prelude.{◌≡◌, refl, List, [], ◌∷◌, ◌++◌, map, ℕ, length, replicate}
use Rattle.std.proofs.Common.{sym, ap, ◌∙◌, arith, eq-eqb, ne_eqb}
use Rattle.text.specs.Reading.{Text, pick, peek, count, run}
use Rattle.text.specs.Class.{skip, class_of, whitespace}
use Rattle.text.specs.laws.Readers.{pick_true, pick_false}
use Rattle.places.specs.Places.{first_member}
use Rattle.manifest.specs.Rows.{flat}
use Rattle.manifest.specs.Manifest.{refusal_of}
use Rattle.outline.specs.declared.Standing.{Standing}
use Rattle.outline.specs.declared.Standing.TheVariants.{At, Refused}
use Rattle.outline.specs.Outline.{root_from, root_at}
use Rattle.index.specs.Index.{index_of, col_of, entries_in, listed}
use Rattle.survey.specs.Survey.{index_from}
use Rattle.reader.specs.Reader.{table_of, lookups_of}
use Rattle.prints.specs.Prints.{path_prints}
use Rattle.named.specs.Named.{declared_in, distinct_at, name_places, name_table, name_print, print_table}
use Rattle.index.specs.Cited.{cited_by, cites_of, trace_cited, entry_cited}
use Rattle.finds.specs.Finds.{from_one, of_entries, lookups}
use Rattle.listed.specs.declared.PathFacts.{PathFacts}
use Rattle.listed.specs.Settled.{settled_in}
use Rattle.listed.specs.laws.Alike.{settled_nothing}

abbrev pub zeros : List ℕ
zeros = replicate 2470 0

-- what is known of the paths is right for an index: which entries are cited, and the prints of the entries that there are
pub record Facts (s : Text) (ix : List ℕ) (f : PathFacts) : Type 0 where
  pub cites_right : f.cites ≡ cites_of s ix
  pub trace_right : f.trace ≡ trace_cited s ix
  pub prints_right : of_entries ix f.prints ≡ of_entries ix (path_prints s ix)

-- a refusal leaves zeros
pub refused_zeros : (s : Text) {n : ℕ} → refusal_of s ≡ n → (n ≡ 0 → ⊥) → table_of s ≡ zeros
unfolding table_of
refused_zeros s e some = pick_false _ _ (ne_eqb (refusal_of s) 0 (λ q. some (sym e ∙ q)))

-- an accepted manifest its index, with the names settled
pub accepted_index : (s : Text) {v : ℕ} → refusal_of s ≡ 0 → root_at s ≡ At v → table_of s ≡ settled_in s (index_of s v)
unfolding table_of index_from
accepted_index s e r = pick_true _ _ (eq-eqb (refusal_of s) 0 e) ∙ ap (λ (q : Standing). settled_in s (index_from s q)) r

-- no bytes are no manifest, and leave zeros
none_rooted : root_at [] ≡ Refused
unfolding root_at root_from first_member skip count run peek class_of whitespace pick
none_rooted = refl

pub none_accepted : (s : Text) → length s ≡ 0 → refusal_of s ≡ 0
unfolding refusal_of
none_accepted s e = pick_true _ _ (eq-eqb (length s) 0 e)

pub none_indexed : (s : Text) → length s ≡ 0 → index_from s (root_at s) ≡ zeros
unfolding index_from
none_indexed [] e = ap (index_from []) none_rooted
none_indexed (b ∷ s) e = absurd (omega arith)

-- zeros tell of no name
zeros_settled : (s : Text) → settled_in s zeros ≡ zeros
unfolding entries_in pick
zeros_settled s = settled_nothing s zeros refl refl

pub none_zeros : (s : Text) → length s ≡ 0 → table_of s ≡ zeros
unfolding table_of
none_zeros s e = pick_true _ _ (eq-eqb (refusal_of s) 0 (none_accepted s e)) ∙ ap (settled_in s) (none_indexed s e) ∙ zeros_settled s

-- zeros name no machine, and cite no entry
zeros_unnamed : (s : Text) → name_table s zeros ≡ replicate 32 0
unfolding name_table name_places declared_in distinct_at entries_in listed flat pick
zeros_unnamed s = refl

zeros_unprinted : (s : Text) → print_table s zeros ≡ replicate 32 0
unfolding print_table name_print pick
zeros_unprinted s = ap (map (name_print s)) (zeros_unnamed s)

pub zeros_cite : (s : Text) → cites_of s zeros ≡ replicate 32 32
unfolding cites_of entry_cited col_of listed pick
zeros_cite s = refl

zeros_cited : (s : Text) → map from_one (cites_of s zeros) ≡ replicate 32 0
unfolding from_one pick
zeros_cited s = ap (map from_one) (zeros_cite s)

-- they have no paths, and no `trace_time`
zeros_pathless : (s : Text) → of_entries zeros (path_prints s zeros) ≡ replicate 32 0
unfolding of_entries entries_in listed pick
zeros_pathless s = refl

zeros_untraced : (s : Text) → from_one (trace_cited s zeros) ≡ 0
unfolding from_one entry_cited pick
zeros_untraced s = refl

pub zeros_lookups : (s : Text) → table_of s ≡ zeros → lookups_of s ≡ replicate 129 0
unfolding lookups_of lookups
zeros_lookups s e = ap (lookups s) e ∙ (λ t. zeros_unnamed s t ++ (zeros_unprinted s t ++ (zeros_cited s t ++ (zeros_pathless s t ++ (zeros_untraced s t ∷ [])))))

-- ---- and of their paths nothing is known

pub zeros_facts : (s : Text) {ix : List ℕ} {f : PathFacts} → ix ≡ zeros → f.cites ≡ replicate 32 32 → f.trace ≡ 32 → Facts s ix f
unfolding of_entries entries_in listed entry_cited pick
zeros_facts s {ix} {f} e c t = record {
  cites_right = c ∙ sym (ap (cites_of s) e ∙ zeros_cite s);
  trace_right = t ∙ sym (ap (trace_cited s) e);
  prints_right = ap (λ (l : List ℕ). of_entries l f.prints) e ∙ sym (ap (λ (l : List ℕ). of_entries l (path_prints s l)) e);
}
