-- The first of the five rules that applies, as they are asked one after the other. Assumes nothing.
use mathlib.Core.Path.{◌≡◌, refl, sym, ap, ◌∙◌}
use mathlib.Core.Bool.{Bool, true, false, ◌||◌}
use mathlib.Core.List.{List, [], ◌∷◌}
use Rattle.text.specs.laws.Readers.{pick_true, pick_false}
use Rattle.manifest.specs.Rows.{Manifest}
use Rattle.manifest.specs.Rules.{Rule, applies, first, refusal_14_id_out_of_range, refusal_16_clocks_without_sync_to, refusal_17_machine_without_file, refusal_18_sync_to_without_file}
use Rattle.once.specs.Once.{twice_rule, once_rules}

module _ (r : Rule) (rs : List Rule) (m : Manifest) {b : Bool} (eb : b ≡ applies r m) where
  -- it is this one
  this : b ≡ true → r.number ≡ first (r ∷ rs) m
  unfolding first
  this e = sym (pick_true r.number (first rs m) (sym eb ∙ e))

  -- or one of the others
  later : b ≡ false → first rs m ≡ first (r ∷ rs) m
  unfolding first
  later e = sym (pick_false r.number (first rs m) (sym eb ∙ e))

-- the rules after 14, after 15, ..
abbrev after_17 : List Rule
after_17 = refusal_18_sync_to_without_file ∷ []

abbrev after_16 : List Rule
after_16 = refusal_17_machine_without_file ∷ after_17

abbrev after_15 : List Rule
after_15 = refusal_16_clocks_without_sync_to ∷ after_16

abbrev after_14 : Bool → List Rule
after_14 twice = twice_rule twice ∷ after_15

-- 15, as it is told of paths and found of ids
told : (twice : Bool) (m : Manifest) → applies (twice_rule twice) m ≡ (twice || applies (twice_rule false) m)
unfolding applies twice_rule
told twice m = refl

module _ (m : Manifest) (twice : Bool) {a : Bool} (ea : a ≡ applies refusal_14_id_out_of_range m) where
  pub gives_14 : a ≡ true → 14 ≡ first (once_rules twice) m
  unfolding refusal_14_id_out_of_range
  gives_14 t = this refusal_14_id_out_of_range (after_14 twice) m ea t

  module _ (fa : a ≡ false) where
    past_14 : first (after_14 twice) m ≡ first (once_rules twice) m
    past_14 = later refusal_14_id_out_of_range (after_14 twice) m ea fa

    pub gives_15_path : twice ≡ true → 15 ≡ first (once_rules twice) m
    unfolding twice_rule
    gives_15_path t = this (twice_rule twice) after_15 m (sym (told twice m ∙ ap (λ (x : Bool). x || applies (twice_rule false) m) t)) refl ∙ past_14

    module _ (ft : twice ≡ false) {b : Bool} (eb : b ≡ applies (twice_rule false) m) where
      ids_decide : b ≡ applies (twice_rule twice) m
      ids_decide = eb ∙ sym (told twice m ∙ ap (λ (x : Bool). x || applies (twice_rule false) m) ft)

      pub gives_15_id : b ≡ true → 15 ≡ first (once_rules twice) m
      unfolding twice_rule
      gives_15_id t = this (twice_rule twice) after_15 m ids_decide t ∙ past_14

      module _ (fb : b ≡ false) {c : Bool} (ec : c ≡ applies refusal_16_clocks_without_sync_to m) where
        past_15 : first after_15 m ≡ first (once_rules twice) m
        past_15 = later (twice_rule twice) after_15 m ids_decide fb ∙ past_14

        pub gives_16 : c ≡ true → 16 ≡ first (once_rules twice) m
        unfolding refusal_16_clocks_without_sync_to
        gives_16 t = this refusal_16_clocks_without_sync_to after_16 m ec t ∙ past_15

        module _ (fc : c ≡ false) {d : Bool} (ed : d ≡ applies refusal_17_machine_without_file m) where
          past_16 : first after_16 m ≡ first (once_rules twice) m
          past_16 = later refusal_16_clocks_without_sync_to after_16 m ec fc ∙ past_15

          pub gives_17 : d ≡ true → 17 ≡ first (once_rules twice) m
          unfolding refusal_17_machine_without_file
          gives_17 t = this refusal_17_machine_without_file after_17 m ed t ∙ past_16

          module _ (fd : d ≡ false) {e : Bool} (ee : e ≡ applies refusal_18_sync_to_without_file m) where
            past_17 : first after_17 m ≡ first (once_rules twice) m
            past_17 = later refusal_17_machine_without_file after_17 m ed fd ∙ past_16

            pub gives_18 : e ≡ true → 18 ≡ first (once_rules twice) m
            unfolding refusal_18_sync_to_without_file
            gives_18 t = this refusal_18_sync_to_without_file [] m ee t ∙ past_17

            pub gives_none : e ≡ false → 0 ≡ first (once_rules twice) m
            unfolding first
            gives_none f = later refusal_18_sync_to_without_file [] m ee f ∙ past_17
