-- What the survey's answer says of the reading: it ends there, or the manifest object has passed 1 to 9 and its index holds it. Assumes nothing.
use Rattle.std.specs.Prelude.{◌≡◌, refl, Bool, List, ℕ, eqb, length}
use Rattle.std.proofs.Common.{sym, ◌∙◌, arith, eq-eqb, ne_eqb}
use Rattle.std.proofs.Math.Path.{ap, subst}
use Rattle.std.proofs.Math.Bool.{true, false}
use Rattle.std.proofs.Math.Decide.{ℕ_discrete}
use Rattle.text.specs.Reading.{Text, pick}
use Rattle.text.specs.laws.Readers.{pick_true, pick_false}
use Rattle.manifest.specs.Manifest.{refusal_of}
use Rattle.outline.specs.declared.Standing.{Standing}
use Rattle.outline.specs.declared.Standing.TheVariants.{At, Refused}
use Rattle.outline.specs.Outline.{root_at, versions_at}
use Rattle.outline.specs.Theorems.{root_refused, versions_refused}
use Rattle.members.specs.Members.{member_refusal_at}
use Rattle.index.specs.Index.{index_of, too_many}
use Rattle.survey.specs.Survey.{early_of, object_refusal, root_refusal, survey_of, index_from, surveyed}
use Rattle.reader.specs.Reader.{table_of}
use Rattle.reader.specs.laws.Early.{Document, early_refused, early_passed}
use Rattle.reader.specs.laws.Passed.{Passed, passed, members_refused, many_refused}
use Rattle.reader.specs.laws.Tables.{zeros, refused_zeros, none_accepted, none_indexed, none_zeros}

-- `Found s n`: there are no bytes; or n is the refusal; or a manifest object has passed, and its index holds it
pub data Found (s : Text) : ℕ → Type 0 where
  no_bytes : length s ≡ 0 → Found s 0
  refused : {n : ℕ} → (n ≡ 0 → ⊥) → refusal_of s ≡ n → Found s n
  goes_on : {v : ℕ} → Passed s v → too_many s v ≡ false → Found s 0

-- ---- 6 to 10

module _ {s : Text} (d : Document s) {v : ℕ} (r : root_at s ≡ At v) where
  by_many : (p : Passed s v) (b : Bool) → too_many s v ≡ b → Found s (pick b 10 0)
  unfolding pick
  by_many p true h = refused {n = 10} (λ z. omega arith) (many_refused p h)
  by_many p false h = goes_on p h

  by_members : versions_at s v ≡ 0 → Dec (member_refusal_at s v ≡ 0) → Found s (pick (eqb (member_refusal_at s v) 0) (pick (too_many s v) 10 0) (member_refusal_at s v))
  by_members z (yes e) = subst (Found s) (sym (pick_true _ _ (eq-eqb (member_refusal_at s v) 0 e))) (by_many (passed d.untouched r z e) (too_many s v) refl)
  by_members z (no n) = subst (Found s) (sym (pick_false _ _ (ne_eqb (member_refusal_at s v) 0 n))) (refused n (members_refused d.untouched r z n))

  by_versions : Dec (versions_at s v ≡ 0) → Found s (object_refusal s v)
  unfolding object_refusal
  by_versions (yes e) = subst (Found s) (sym (pick_true _ _ (eq-eqb (versions_at s v) 0 e))) (by_members e (ℕ_discrete (member_refusal_at s v) 0))
  by_versions (no n) = subst (Found s) (sym (pick_false _ _ (ne_eqb (versions_at s v) 0 n))) (refused n (versions_refused d.untouched r n))

-- ---- 1 to 5

by_root : {s : Text} → Document s → (q : Standing) → root_at s ≡ q → Found s (root_refusal s q)
unfolding root_refusal
by_root {s} d (At v) r = by_versions d r (ℕ_discrete (versions_at s v) 0)
by_root d Refused r = refused {n = 5} (λ z. omega arith) (root_refused d.untouched r)

pub found : (s : Text) → Found s (survey_of s)
unfolding survey_of
found s = by_length (ℕ_discrete (length s) 0)
  where
    by_early : (length s ≡ 0 → ⊥) → Dec (early_of s ≡ 0) → Found s (pick (eqb (early_of s) 0) (root_refusal s (root_at s)) (early_of s))
    by_early some (yes e) = subst (Found s) (sym (pick_true _ _ (eq-eqb (early_of s) 0 e))) (by_root (early_passed s e) (root_at s) refl)
    by_early some (no n) = subst (Found s) (sym (pick_false _ _ (ne_eqb (early_of s) 0 n))) (refused n (early_refused s some n))

    by_length : Dec (length s ≡ 0) → Found s (pick (eqb (length s) 0) 0 (pick (eqb (early_of s) 0) (root_refusal s (root_at s)) (early_of s)))
    by_length (yes e) = subst (Found s) (sym (pick_true _ _ (eq-eqb (length s) 0 e))) (no_bytes e)
    by_length (no n) = subst (Found s) (sym (pick_false _ _ (ne_eqb (length s) 0 n))) (by_early n (ℕ_discrete (early_of s) 0))

-- ---- what the code finds: n is the answer, and ix what is left in the index

module _ (s : Text) {n : ℕ} (en : n ≡ survey_of s) {ix : List ℕ} (ei : ix ≡ surveyed s) where
  left : ix ≡ pick (eqb n 0) (index_from s (root_at s)) zeros
  unfolding surveyed
  left = ei ∙ ap (λ (x : ℕ). pick (eqb x 0) (index_from s (root_at s)) zeros) (sym en)

  -- a refusal
  pub found_refused : (n ≡ 0 → ⊥) → (n ≡ refusal_of s) × (ix ≡ table_of s)
  found_refused some = go (found s) (sym en)
    where
      go : {m : ℕ} → Found s m → m ≡ n → (n ≡ refusal_of s) × (ix ≡ table_of s)
      go (no_bytes e) q = absurd (some (sym q))
      go (refused m e) q = (sym (e ∙ q), left ∙ pick_false _ _ (ne_eqb n 0 some) ∙ sym (refused_zeros s (e ∙ q) some))
      go (goes_on p h) q = absurd (some (sym q))

  module _ (zero : n ≡ 0) where
    -- no bytes
    pub found_none : length s ≡ 0 → (0 ≡ refusal_of s) × (ix ≡ table_of s)
    found_none e = (sym (none_accepted s e), left ∙ pick_true _ _ (eq-eqb n 0 zero) ∙ none_indexed s e ∙ sym (none_zeros s e))

    -- a manifest object has passed, and the index is its index
    pub record Goes : Type 0 where
      pub at : ℕ
      pub passes : Passed s at
      pub few : too_many s at ≡ false
      pub index : ix ≡ index_of s at

    pub found_passed : (length s ≡ 0 → ⊥) → Goes
    unfolding index_from
    found_passed some = go (found s) (sym en)
      where
        go : {m : ℕ} → Found s m → m ≡ n → Goes
        go (no_bytes e) q = absurd (some e)
        go (refused m e) q = absurd (m (q ∙ zero))
        go (goes_on {v = v} p h) q = record { at = v; passes = p; few = h; index = left ∙ pick_true _ _ (eq-eqb n 0 zero) ∙ ap (index_from s) p.its_root }
