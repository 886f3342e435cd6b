-- The rules 10 to 13 asked in their order, at an index: 10 and 13 are what is told. Assumes nothing.
use mathlib.Core.Path.{◌≡◌, sym, ◌∙◌}
use mathlib.Core.Bool.{Bool, true, false}
use mathlib.Core.List.{List, [], ◌∷◌}
use Prim.Native.Nat.{ℕ}
use Rattle.text.specs.Reading.{Text}
use Rattle.manifest.specs.Rows.{Manifest}
use Rattle.manifest.specs.Rules.{Rule, applies, first, refusal_11_unknown_clock_name, refusal_12_machine_with_machines}
use Rattle.index.specs.Index.{manifest_of}
use Rattle.sizes.specs.Sizes.{size_rule, empty_rule, sizes_rules}
use Rattle.sizes.proofs.laws.Told.{empty_told}
use Rattle.sizes.proofs.Judged.{first_hit, first_miss}
use Rattle.sizes.proofs.Size.{told_decides}

abbrev from_13 : Bool → List Rule
from_13 empty = empty_rule empty ∷ []

abbrev from_12 : Bool → List Rule
from_12 empty = refusal_12_machine_with_machines ∷ from_13 empty

abbrev from_11 : Bool → List Rule
from_11 empty = refusal_11_unknown_clock_name ∷ from_12 empty

module _ (s : Text) (ix : List ℕ) (broken empty : Bool) where
  abbrev m : Manifest
  m = manifest_of s ix

  abbrev answer : ℕ
  answer = first (sizes_rules broken empty) m

  pub is_10 : broken ≡ true → 10 ≡ answer
  unfolding size_rule
  is_10 h = first_hit (size_rule broken) (from_11 empty) m (told_decides s ix broken) h

  module _ (na : broken ≡ false) {b : Bool} (eb : b ≡ applies refusal_11_unknown_clock_name m) where
    not_10 : first (from_11 empty) m ≡ answer
    not_10 = first_miss (size_rule broken) (from_11 empty) m (told_decides s ix broken) na

    pub is_11 : b ≡ true → 11 ≡ answer
    unfolding refusal_11_unknown_clock_name
    is_11 h = first_hit refusal_11_unknown_clock_name (from_12 empty) m eb h ∙ not_10

    module _ (nb : b ≡ false) {c : Bool} (ec : c ≡ applies refusal_12_machine_with_machines m) where
      not_11 : first (from_12 empty) m ≡ answer
      not_11 = first_miss refusal_11_unknown_clock_name (from_12 empty) m eb nb ∙ not_10

      pub is_12 : c ≡ true → 12 ≡ answer
      unfolding refusal_12_machine_with_machines
      is_12 h = first_hit refusal_12_machine_with_machines (from_13 empty) m ec h ∙ not_11

      module _ (nc : c ≡ false) where
        not_12 : first (from_13 empty) m ≡ answer
        not_12 = first_miss refusal_12_machine_with_machines (from_13 empty) m ec nc ∙ not_11

        pub is_13 : empty ≡ true → 13 ≡ answer
        unfolding empty_rule
        is_13 h = first_hit (empty_rule empty) [] m (sym (empty_told empty m)) h ∙ not_12

        pub is_none : empty ≡ false → 0 ≡ answer
        unfolding first
        is_none h = first_miss (empty_rule empty) [] m (sym (empty_told empty m)) h ∙ not_12
