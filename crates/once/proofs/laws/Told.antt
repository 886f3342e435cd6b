-- 15 is that a path stands in two entries, or that an id stands twice in one: the two parts may be asked apart. Assumes nothing.
use Rattle.std.specs.Prelude.{◌≡◌, Bool, true, false, ◌||◌, List, [], ◌∷◌, ℕ, suc, take}
use Rattle.std.proofs.Math.Path.{refl, sym, ap}
use Rattle.std.proofs.Common.{◌∙◌}
use Rattle.text.specs.Reading.{pick}
use Rattle.manifest.specs.View.{Cell, absent, wrong, many, one}
use Rattle.manifest.specs.Rows.{Manifest, Entry, holds, any, any_at, entries, path, ids}
use Rattle.manifest.specs.Rules.{applies, first, nowhere_else, has_path, twice_in, refusal_14_id_out_of_range, refusal_15_path_or_id_twice, refusal_16_clocks_without_sync_to, refusal_17_machine_without_file, refusal_18_sync_to_without_file}
use Rattle.once.specs.Once.{path_twice, twice_rule, once_rules}

-- ---- one of two tests

holds_or : {A : Type 0} (p q : A → Bool) (c : Cell A) → holds (λ a. p a || q a) c ≡ (holds p c || holds q c)
unfolding holds
holds_or p q absent = refl
holds_or p q wrong = refl
holds_or p q (many i) = refl
holds_or p q (one a) = refl

or_crosses : (a b c d : Bool) → ((a || b) || (c || d)) ≡ ((a || c) || (b || d))
or_crosses true b c d = refl
or_crosses false true true d = refl
or_crosses false true false d = refl
or_crosses false false c d = refl

any_at_or : {A : Type 0} (p q : ℕ → A → Bool) (i : ℕ) (l : List A) → any_at (λ j a. p j a || q j a) i l ≡ (any_at p i l || any_at q i l)
unfolding any_at
any_at_or p q i [] = refl
any_at_or p q i (a ∷ l) = ap (λ (b : Bool). (p i a || q i a) || b) (any_at_or p q (suc i) l) ∙ or_crosses (p i a) (q i a) (any_at p (suc i) l) (any_at q (suc i) l)

-- ---- the rule

module _ (m : Manifest) where
  -- the path of an entry is that of one of the first i
  abbrev earlier : ℕ → Entry → Bool
  earlier i v = holds (λ t. any (holds (has_path t)) (take i (entries m))) (path v)

  abbrev again : Entry → Bool
  again v = twice_in (ids v)

  pub told_right : applies (twice_rule (path_twice m)) m ≡ applies refusal_15_path_or_id_twice m
  unfolding applies path_twice twice_rule refusal_15_path_or_id_twice
  told_right =
      sym (any_at_or (λ i e. holds (earlier i) e) (λ i e. holds again e) 0 (entries m))
      ∙ (λ k. any_at (λ i e. sym (holds_or (earlier i) again e) k) 0 (entries m))

  -- what is told is itself a rule's part
  pub twice_as_rule : path_twice m ≡ applies (record { number = 15; outside = nowhere_else; within = λ n i e. holds (λ v. holds (λ t. any (holds (has_path t)) (take i (entries n))) (path v)) e }) m
  unfolding applies path_twice
  twice_as_rule = refl

  pub rules_right :
      first (once_rules (path_twice m)) m
      ≡ first (refusal_14_id_out_of_range ∷ refusal_15_path_or_id_twice ∷ refusal_16_clocks_without_sync_to ∷ refusal_17_machine_without_file ∷ refusal_18_sync_to_without_file ∷ []) m
  unfolding first twice_rule refusal_15_path_or_id_twice
  rules_right =
      ap (λ (b : Bool). pick (applies refusal_14_id_out_of_range m) refusal_14_id_out_of_range.number (pick b 15 (first (refusal_16_clocks_without_sync_to ∷ refusal_17_machine_without_file ∷ refusal_18_sync_to_without_file ∷ []) m))) told_right
