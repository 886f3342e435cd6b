-- A version that is not the integer 1. Assumes nothing.
use Rattle.std.specs.Prelude.{◌≡◌, refl, Bool, true, false, ◌||◌, List, [], ◌∷◌, ℕ}
use Rattle.std.proofs.Common.{◌∙◌}
use Rattle.text.specs.Reading.{Text}
use Rattle.grammar.specs.Tree.{Tree, obj, Members, no_members, one_member, get}
use Rattle.manifest.specs.Names.{bytes}
use Rattle.manifest.specs.Kinds.{free, manifest}
use Rattle.manifest.specs.View.{Cell, rank, cell, as_object, view, row}
use Rattle.manifest.specs.Rows.{Manifest, version, is_absent, any_at, entries}
use Rattle.manifest.specs.Rules.{applies, not_1, root, refusal_5_or_later, refusal, refusal_6_no_version, refusal_7_version_not_1}
use Rattle.manifest.specs.Statements.{At, IsOne}
use Rattle.manifest.proofs.laws.Cells.{Full, is_wrong, is_many, is_one as is-just}
use Rattle.manifest.proofs.laws.Lists.{any_true, any_at_none}
use Rattle.manifest.proofs.laws.Members.{cell_some, not_one, only_one, seven}
use Rattle.manifest.proofs.laws.Order.{first_second}

full_present : {A : Type 0} {c : Cell A} → Full c → is_absent c ≡ false
unfolding is_absent
full_present is_wrong = refl
full_present is_many = refl
full_present is-just = refl

has_version : (l : List Tree) {i : ℕ} {v : Tree} → At l i v → is_absent (cell (rank free) (view free) l) ≡ false
has_version (t ∷ l) h = full_present (cell_some free t l)
has_version [] h = elim h [ ]

-- 6 does not apply, 7 does
pub version_refused : (n : Text) (ms : Members) {i : ℕ} {v : Tree} → At (get (bytes "version") ms) i v → (IsOne v → ⊥)
    → refusal (obj (one_member n (obj ms) no_members)) ≡ 7
unfolding refusal refusal_5_or_later root view as_object applies refusal_6_no_version refusal_7_version_not_1
version_refused n ms {v = v} h no_one =
    let m : Manifest = row manifest ms in
    let b : not_one v ≡ true = go (not_one v) refl in
    let six : is_absent (version m) || any_at (λ i e. false) 0 (entries m) ≡ false = λ i. has_version (get (bytes "version") ms) h i || any_at_none 0 (entries m) i in
    let seventh : not_1 (version m) || any_at (λ i e. false) 0 (entries m) ≡ true = λ i. (seven ms ∙ any_true not_one h b) i || any_at_none 0 (entries m) i in
    first_second refusal_6_no_version refusal_7_version_not_1 _ m six seventh
  where
    go : (b : Bool) → not_one v ≡ b → not_one v ≡ true
    go true e = e
    go false e = absurd (no_one (only_one v e))
