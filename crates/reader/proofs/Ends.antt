-- The steps of judging 10 to 24 over the index, and what is left in it. Assumes nothing.
use mathlib.Core.Path.{◌≡◌, sym, ap, subst, ◌∙◌}
use mathlib.Core.Bool.{Bool, false, ◌||◌}
use mathlib.Core.List.{List, [], ◌∷◌, ◌++◌, map}
use Prim.Native.Nat.{ℕ}
use Rattle.text.specs.Reading.{Text}
use Rattle.manifest.specs.Rows.{Manifest}
use Rattle.manifest.specs.Rules.{first, applies, refusal_13_empty_machine_name}
use Rattle.manifest.specs.Manifest.{refusal_of}
use Rattle.index.specs.Index.{index_of, too_many, manifest_of}
use Rattle.reader.specs.Reader.{table_of, lookups_of}
use Rattle.reader.specs.laws.Parts.{size_rules, twice_rules, later_rules, first_rest, first_here, sizes_numbered, once_numbered}
use Rattle.reader.specs.laws.Passed.{Passed, index_judged}
use Rattle.reader.specs.laws.Tables.{zeros, Facts, refused_zeros, accepted_index}
use Rattle.named.specs.Named.{name_table, print_table}
use Rattle.finds.specs.Finds.{from_one, of_entries, lookups}
use Rattle.sizes.specs.Sizes.{broken_paths, broken_names, sizes_rules}
use Rattle.sizes.proofs.Theorems.{sizes_are}
use Rattle.once.specs.Once.{path_twice, once_rules}
use Rattle.once.proofs.Theorems.{once_are}
use Rattle.listed.specs.declared.PathFacts.{PathFacts}
use Rattle.listed.specs.Settled.{settled_in}
use Rattle.listed.specs.Theorems.{settled_is}
use Rattle.cited.specs.Cited.{cited_rules}

-- ---- part after part

-- told of the manifest's own paths and names, `sizes` and `once` judge the rules
module _ (m : Manifest) where
  pub sizes_told : {paths names either empty : Bool} {a : ℕ} → paths ≡ broken_paths m → names ≡ broken_names m → either ≡ (paths || names) → empty ≡ applies refusal_13_empty_machine_name m
      → a ≡ first (sizes_rules either empty) m → a ≡ first size_rules m
  sizes_told ep en ee ez h = h ∙ (λ i. first (sizes_rules ((ee ∙ (λ k. ep k || en k)) i) (ez i)) m) ∙ sizes_are m

  pub once_told : {told : Bool} {a : ℕ} → told ≡ path_twice m → a ≡ first (once_rules told) m → a ≡ first twice_rules m
  once_told e h = h ∙ ap (λ (b : Bool). first (once_rules b) m) e ∙ once_are m

module _ (m : Manifest) {a : ℕ} (sizes : a ≡ first size_rules m) where
  pub in_sizes : (a ≡ 0 → ⊥) → a ≡ first later_rules m
  in_sizes h = sizes ∙ sym (first_here size_rules _ m sizes_numbered (λ q. h (sizes ∙ q)))

  module _ (no_size : a ≡ 0) {b : ℕ} (once : b ≡ first twice_rules m) where
    after_sizes : first later_rules m ≡ first (twice_rules ++ cited_rules) m
    after_sizes = first_rest size_rules _ m sizes_numbered (sym sizes ∙ no_size)

    pub in_once : (b ≡ 0 → ⊥) → b ≡ first later_rules m
    in_once h = once ∙ sym (after_sizes ∙ first_here twice_rules _ m once_numbered (λ q. h (once ∙ q)))

    pub in_cited : b ≡ 0 → {d : ℕ} → d ≡ first cited_rules m → d ≡ first later_rules m
    in_cited no-once cited = cited ∙ sym (after_sizes ∙ first_rest twice_rules _ m once_numbered (sym once ∙ no-once))

-- ---- the index

-- n is what is judged over the index of a manifest object that has passed, with its names settled
module _ {s : Text} {v : ℕ} (p : Passed s v) (few : too_many s v ≡ false) {ix iy : List ℕ} (fills : ix ≡ index_of s v) (settles : iy ≡ settled_in s ix) {n : ℕ} (judged : n ≡ first later_rules (manifest_of s iy)) where
  is_settled : iy ≡ settled_in s (index_of s v)
  is_settled = settles ∙ ap (settled_in s) fills

  is_refusal : n ≡ refusal_of s
  is_refusal = judged ∙ ap (λ (l : List ℕ). first later_rules (manifest_of s l)) is_settled ∙ ap (first later_rules) (settled_is s (index_of s v)) ∙ sym (index_judged p few)

  pub ends_later : (n ≡ 0 → ⊥) → (n ≡ refusal_of s) × (zeros ≡ table_of s)
  ends_later some = (is_refusal, sym (refused_zeros s (sym is_refusal) some))

  pub accepts : n ≡ 0 → (n ≡ refusal_of s) × (iy ≡ table_of s)
  accepts none = (is_refusal, is_settled ∙ sym (accepted_index s (sym is_refusal ∙ none) p.its_root))

-- ---- what is looked up

pub lookups_are : (s : Text) {ix table : List ℕ} {f : PathFacts} → ix ≡ table_of s → Facts s (table_of s) f
    → table ≡ name_table s ix ++ (print_table s ix ++ (map from_one f.cites ++ (of_entries ix f.prints ++ (from_one f.trace ∷ [])))) → table ≡ lookups_of s
unfolding lookups_of lookups
lookups_are s {ix} {table} {f} e k g =
    g ∙ (λ t. name_table s (e t) ++ (print_table s (e t) ++ (map from_one f.cites ++ (of_entries (e t) f.prints ++ (from_one f.trace ∷ [])))))
    ∙ (λ t. name_table s (table_of s) ++ (print_table s (table_of s) ++ (map from_one (k.cites_right t) ++ (k.prints_right t ++ (from_one (k.trace_right t) ∷ [])))))

-- what is known for an index is known for the table that it is left as
pub facts_kept : (s : Text) {ix : List ℕ} {f : PathFacts} → ix ≡ table_of s → Facts s ix f → Facts s (table_of s) f
facts_kept s {ix} {f} e k = subst (λ (l : List ℕ). Facts s l f) e k
