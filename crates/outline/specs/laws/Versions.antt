-- The versions at their places, and the rules 6 and 7. Assumes nothing.
use Rattle.std.specs.Prelude.{◌≡◌, refl, Bool, true, false, not, ◌&&◌, ◌||◌, List, [], ◌∷◌, ℕ, ◌<◌, ◌^◌, eqb, ltb, pos, negsuc, neg_ℤ}
use Rattle.std.proofs.Common.{sym, ap, ◌∙◌, arith, ne_eqb, lt-ltb, le-ltb}
use Rattle.std.proofs.Math.Bool.{or-false}
use Rattle.std.proofs.Math.Decide.{dec_lt}
use Rattle.std.specs.Int.Signed.{lt_z}
use Rattle.text.specs.Reading.{Text, pick}
use Rattle.text.specs.laws.Readers.{pick_true, pick_false}
use Rattle.grammar.specs.Tree.{Tree, null, bool, num, str, arr, obj, Members, get}
use Rattle.values.specs.declared.Integer.{Integer}
use Rattle.values.specs.declared.Integer.TheVariants.{In, Below, Above}
use Rattle.values.specs.Stands.{Stands}
use Rattle.values.specs.Strings.{same_as}
use Rattle.values.specs.Integer.{Whole, whole, none, integer, ranged, integer_of}
use Rattle.values.specs.Theorems.{integer_stands}
use Rattle.places.specs.Visits.{both_none, both_one, Hold}
use Rattle.places.specs.Theorems.{member_stands}
use Rattle.manifest.specs.Names.{bytes}
use Rattle.manifest.specs.Kinds.{free, manifest}
use Rattle.manifest.specs.View.{Cell, is_one, as_free, rank, cell, view, row}
use Rattle.manifest.specs.Rows.{Manifest, version, is_absent, any, any_at, entries}
use Rattle.manifest.specs.Rules.{applies, not_1, first, refusal_6_no_version, refusal_7_version_not_1}
use Rattle.manifest.proofs.laws.Cells.{Full, is_wrong, is_many, is_one as is-just}
use Rattle.manifest.proofs.laws.Lists.{any_at_none}
use Rattle.manifest.proofs.laws.Members.{cell_some, not_one, seven}
use Rattle.outline.specs.Outline.{is_1, not_1_at, version_places, versions_by, versions_at}

-- a member with its name at i and its value at v is a version that isn't the integer 1
unfoldable pub misnumbered : Text → ℕ → ℕ → Bool
misnumbered s i v = same_as s i (bytes "version") && not_1_at s v

-- ---- the integer 1

negative : (n : ℕ) (b c : Bool) → is_1 (pick b Below (pick c (In (negsuc n)) Above)) ≡ false
unfolding is_1 pick
negative n true c = refl
negative n false true = refl
negative n false false = refl

positive : (n : ℕ) → is_1 (pick (ltb n (2 ^ 63)) (In (pos n)) Above) ≡ eqb n 1
unfolding is_1
positive n = go (dec_lt n (2 ^ 63))
  where
    go : Dec (n < 2 ^ 63) → is_1 (pick (ltb n (2 ^ 63)) (In (pos n)) Above) ≡ eqb n 1
    go (yes l) = ap is_1 (pick_true _ _ (lt-ltb n (2 ^ 63) l))
    go (no m) = ap is_1 (pick_false _ _ (le-ltb n (2 ^ 63) (omega arith))) ∙ sym (ne_eqb n 1 (λ q. omega arith))

-- 64 bits hold the 1
one_ranged : (w : Whole) → is_1 (ranged w) ≡ is_one w
unfolding ranged is_1 is_one pick
one_ranged (whole (pos n)) = positive n
one_ranged (whole (negsuc n)) = negative n (lt_z (negsuc n) (neg_ℤ (pos (2 ^ 63)))) (lt_z (negsuc n) (pos (2 ^ 63)))
one_ranged none = refl

one_tree : (t : Tree) → not (is_1 (integer_of t)) ≡ not_one t
unfolding integer_of not_one as_free is_1 is_one
one_tree null = refl
one_tree (bool b) = refl
one_tree (num cs) = ap not (one_ranged (integer cs))
one_tree (str t) = refl
one_tree (arr ts) = refl
one_tree (obj ms) = refl

pub not_1_stands : {s : Text} {p : ℕ} {t : Tree} → Stands s p t → not_1_at s p ≡ not_one t
unfolding not_1_at
not_1_stands {t = t} h = ap (λ (z : Integer). not (is_1 z)) (integer_stands h) ∙ one_tree t

pub any_not_1 : {s : Text} {ps : List ℕ} {ts : List Tree} → Hold s ps ts → any (not_1_at s) ps ≡ any not_one ts
unfolding any
any_not_1 both_none = refl
any_not_1 (both_one h b) = λ i. not_1_stands h i || any_not_1 b i

-- ---- the rules 6 and 7

-- by the values named `version`
unfoldable pub versions_of : List Tree → ℕ
versions_of [] = 6
versions_of (t ∷ ts) = pick (any not_one (t ∷ ts)) 7 0

places_versions : {s : Text} {ps : List ℕ} {ts : List Tree} → Hold s ps ts → versions_by s ps ≡ versions_of ts
unfolding versions_by versions_of
places_versions both_none = refl
places_versions (both_one h b) = ap (λ (c : Bool). pick c 7 0) (any_not_1 (both_one h b))

full_present : {A : Type 0} {c : Cell A} → Full c → is_absent c ≡ false
unfolding is_absent
full_present is_wrong = refl
full_present is_many = refl
full_present is-just = refl

-- a rule that looks at the version alone
outside_alone : (b : Bool) (m : Manifest) → (b || any_at (λ i e. false) 0 (entries m)) ≡ b
outside_alone b m = ap (λ (c : Bool). b || c) (any_at_none 0 (entries m)) ∙ or-false b

rules_versions : (ms : Members) (l : List Tree) → get (bytes "version") ms ≡ l → first (refusal_6_no_version ∷ refusal_7_version_not_1 ∷ []) (row manifest ms) ≡ versions_of l
unfolding first applies refusal_6_no_version refusal_7_version_not_1 versions_of view cell is_absent pick
rules_versions ms l e =
    let m : Manifest = row manifest ms in
    let six : applies refusal_6_no_version m ≡ is_absent (cell (rank free) (view free) l) = outside_alone (is_absent (version m)) m ∙ ap (λ (ts : List Tree). is_absent (cell (rank free) (view free) ts)) e in
    let seventh : applies refusal_7_version_not_1 m ≡ any not_one l = outside_alone (not_1 (version m)) m ∙ seven ms ∙ ap (any not_one) e in
    (λ i. pick (six i) 6 (pick (seventh i) 7 0)) ∙ go l
  where
    go : (ts : List Tree) → pick (is_absent (cell (rank free) (view free) ts)) 6 (pick (any not_one ts) 7 0) ≡ versions_of ts
    go [] = refl
    go (t ∷ ts) = ap (λ (b : Bool). pick b 6 (pick (any not_one (t ∷ ts)) 7 0)) (full_present (cell_some free t ts))

pub versions_rules : {s : Text} {p : ℕ} {ms : Members} → Stands s p (obj ms) → versions_at s p ≡ first (refusal_6_no_version ∷ refusal_7_version_not_1 ∷ []) (row manifest ms)
unfolding versions_at version_places
versions_rules {ms = ms} h = places_versions (member_stands h (bytes "version")) ∙ sym (rules_versions ms (get (bytes "version") ms) refl)
