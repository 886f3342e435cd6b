-- The refusal is the first rule in the order that applies; an accepted manifest is one to which none applies. Assumes nothing.
use Rattle.std.specs.Prelude.{◌≡◌, refl, Bool, true, false, ◌&&◌, List, [], ◌∷◌, ◌++◌, ℕ, zero, suc, eqb}
use Rattle.std.proofs.Common.{sym, ap, true≢false, arith, ne_eqb}
use Rattle.text.specs.Reading.{pick}
use Rattle.manifest.specs.Rows.{Manifest}
use Rattle.manifest.specs.Rules.{Rule, applies, first, rules, refusal_6_no_version, refusal_7_version_not_1, refusal_8_known_member_twice, refusal_9_wrong_type_or_absent, refusal_10_size, refusal_11_unknown_clock_name, refusal_12_machine_with_machines, refusal_13_empty_machine_name, refusal_14_id_out_of_range, refusal_15_path_or_id_twice, refusal_16_clocks_without_sync_to, refusal_17_machine_without_file, refusal_18_sync_to_without_file, refusal_19_file_names_no_entry, refusal_20_no_machine_of_a_split_file, refusal_21_machine_not_declared, refusal_22_offset_not_an_integer, refusal_23_offset_out_of_range, refusal_24_clock_related_to_itself}
use Rattle.manifest.specs.Statements.{First, none_left, this, later, All, all_none, all_one}

pub first_is : (rs : List Rule) (m : Manifest) → First rs m (first rs m)
unfolding first pick
first_is [] m = none_left
first_is (r ∷ rs) m = go (applies r m) refl (first_is rs m)
  where
    go : (b : Bool) → applies r m ≡ b → First rs m (first rs m) → First (r ∷ rs) m (pick b r.number (first rs m))
    go true e f = this e
    go false e f = later e f

-- the first does not apply, the second does
pub first_second : (r q : Rule) (rs : List Rule) (m : Manifest) → applies r m ≡ false → applies q m ≡ true → first (r ∷ (q ∷ rs)) m ≡ q.number
unfolding first pick
first_second r q rs m a b = λ i. pick (a i) r.number (pick (b i) q.number (first rs m))

-- whether a rule's number can be told from none
unfoldable pub some_number : ℕ → Bool
some_number zero = false
some_number (suc n) = true

unfoldable pub numbered : List Rule → Bool
numbered [] = true
numbered (r ∷ rs) = some_number r.number && numbered rs

-- of rules in two parts: the first part's number, or the second's where the first has none
pub first_append : (ps qs : List Rule) (m : Manifest) → numbered ps ≡ true → first (ps ++ qs) m ≡ pick (eqb (first ps m) 0) (first qs m) (first ps m)
unfolding first pick numbered some_number
first_append [] qs m h = refl
first_append (r ∷ ps) qs m h = go (applies r m) r.number h (first_append ps qs m)
  where
    go : (b : Bool) (n : ℕ) → (some_number n && numbered ps) ≡ true → (numbered ps ≡ true → first (ps ++ qs) m ≡ pick (eqb (first ps m) 0) (first qs m) (first ps m))
        → pick b n (first (ps ++ qs) m) ≡ pick (eqb (pick b n (first ps m)) 0) (first qs m) (pick b n (first ps m))
    go b zero g ih = absurd (true≢false (sym g))
    go true (suc n) g ih = sym (ap (λ (c : Bool). pick c (first qs m) (suc n)) (ne_eqb (suc n) 0 (omega arith)))
    go false (suc n) g ih = ih g

pub none_applies : (rs : List Rule) (m : Manifest) → numbered rs ≡ true → first rs m ≡ 0 → All (λ r. applies r m ≡ false) rs
unfolding first pick numbered some_number
none_applies [] m h e = all_none
none_applies (r ∷ rs) m h e = go (applies r m) r.number refl h e (none_applies rs m)
  where
    go : (b : Bool) (n : ℕ) → applies r m ≡ b → (some_number n && numbered rs) ≡ true → pick b n (first rs m) ≡ 0
        → (numbered rs ≡ true → first rs m ≡ 0 → All (λ q. applies q m ≡ false) rs) → All (λ q. applies q m ≡ false) (r ∷ rs)
    go b zero q g f ih = absurd (true≢false (sym g))
    go true (suc n) q g f ih = absurd (omega arith)
    go false (suc n) q g f ih = all_one q (ih g f)

pub rules_numbered : numbered rules ≡ true
unfolding numbered some_number refusal_6_no_version refusal_7_version_not_1 refusal_8_known_member_twice refusal_9_wrong_type_or_absent refusal_10_size refusal_11_unknown_clock_name refusal_12_machine_with_machines refusal_13_empty_machine_name refusal_14_id_out_of_range refusal_15_path_or_id_twice refusal_16_clocks_without_sync_to refusal_17_machine_without_file refusal_18_sync_to_without_file refusal_19_file_names_no_entry refusal_20_no_machine_of_a_split_file refusal_21_machine_not_declared refusal_22_offset_not_an_integer refusal_23_offset_out_of_range refusal_24_clock_related_to_itself
rules_numbered = refl
