-- The steps of judging 1 to 10 one after the other, and what is left in the index. Assumes nothing.
use mathlib.Core.Path.{◌≡◌, refl, sym, ap, ◌∙◌}
use mathlib.Core.Bool.{Bool, true, false, not}
use mathlib.Core.List.{List, [], ◌∷◌}
use Prim.Native.Nat.{ℕ, suc, ◌+◌, ◌-◌, ◌≤◌, ◌<◌, ◌^◌}
use native.Mathlib.Omega.{arith}
use lib.Dec.{eqb}
use lib.IntN.{ℤ, pos, negsuc}
use lib.ListN.{length, replicate}
use mir.Syntax.{w64}
use mir.Val.{SFits, of_z}
use borrow.Author.Tests.{eq-eqb, ne_eqb, lt-ltb, le-ltb}
use Rattle.text.specs.Reading.{Text, Out, done, bad, deep, pick, peek, count, run, scan}
use Rattle.text.specs.Class.{skip, class_of, whitespace}
use Rattle.text.specs.declared.Scan.{Scan}
use Rattle.text.specs.declared.Scan.TheVariants.{Done, Bad, Deep}
use Rattle.text.specs.laws.Readers.{pick_true, pick_false}
use Rattle.grammar.specs.Tree.{Tree}
use Rattle.grammar.specs.Document.{name, read}
use Rattle.values.specs.laws.Outs.{scan_done}
use Rattle.values.specs.declared.Integer.{Integer}
use Rattle.values.specs.declared.Integer.TheVariants.{In, Below, Above, None}
use Rattle.values.specs.Integer.{integer_at}
use Rattle.places.specs.Places.{first_member}
use Rattle.manifest.specs.Manifest.{most_bytes, starts}
use Rattle.outline.specs.declared.Standing.{Standing}
use Rattle.outline.specs.declared.Standing.TheVariants.{At, Refused}
use Rattle.outline.specs.Outline.{root_from, root_at, versions_at, is_1, not_1_at}
use Rattle.members.specs.Members.{member_refusal_at}
use Rattle.index.specs.Index.{index_of, too_many}
use Rattle.survey.specs.Survey.{early_in, early_of, object_refusal, root_refusal, survey_of, index_from, surveyed}
use Rattle.survey.specs.laws.Sole.{Closes, sole, sole_root}
use Rattle.survey.specs.laws.Walked.{Manifest, Clear}

-- what is told of reading
unfoldable pub told : Scan → ℕ
told (Done j) = 0
told (Bad p) = 3
told (Deep p) = 4

early_told : (o : Out Tree) → early_in o ≡ told (scan o)
unfolding early_in told scan
early_told (done t j) = λ i. 0
early_told (bad p) = λ i. 3
early_told (deep p) = λ i. 4

module _ (s : Text) where
  pub is_long : most_bytes < length s → 1 ≡ early_of s
  unfolding early_of
  is_long h = sym (pick_true _ _ (lt-ltb most_bytes (length s) h))

  module _ (short : length s ≤ most_bytes) where
    pub is_unstarted : starts s ≡ false → 2 ≡ early_of s
    unfolding early_of
    is_unstarted h = sym (pick_false _ _ (le-ltb most_bytes (length s) short) ∙ pick_false _ _ h)

    module _ {r : Scan} (h : starts s ≡ true) (e : r ≡ scan (read s)) where
      by_told : {q : Scan} → r ≡ q → told q ≡ early_of s
      unfolding early_of
      by_told g = sym (pick_false _ _ (le-ltb most_bytes (length s) short) ∙ (pick_true _ _ h ∙ (early_told (read s) ∙ ap told (sym e ∙ g))))

      pub is_read : {j : ℕ} → r ≡ Done j → 0 ≡ early_of s
      unfolding told
      is_read g = by_told g

      pub is_bad : {p : ℕ} → r ≡ Bad p → 3 ≡ early_of s
      unfolding told
      is_bad g = by_told g

      pub is_deep : {p : ℕ} → r ≡ Deep p → 4 ≡ early_of s
      unfolding told
      is_deep g = by_told g

-- ---- the version

-- the 64 bits of an integer are those of 1 only if it is 1
one_bits : (z : ℤ) → SFits w64 z → eqb (of_z w64 z) 1 ≡ is_1 (In z)
unfolding is_1
one_bits (pos n) f = refl
one_bits (negsuc n) f = let l : n < 2 ^ 63 = f.sfits in ne_eqb (2 ^ 64 - suc n) 1 (λ q. omega arith)

-- `not_one`: q is the integer at v
module _ (s : Text) (v : ℕ) {q : Integer} (eq : q ≡ integer_at s v) where
  found : not (is_1 q) ≡ not_1_at s v
  unfolding not_1_at
  found = ap (λ (x : Integer). not (is_1 x)) eq

  pub not_one_in : {z : ℤ} → q ≡ In z → SFits w64 z → not (eqb (of_z w64 z) 1) ≡ not_1_at s v
  not_one_in {z} g f = ap not (one_bits z f) ∙ sym (ap (λ (x : Integer). not (is_1 x)) g) ∙ found

  pub not_one_below : q ≡ Below → true ≡ not_1_at s v
  unfolding is_1
  not_one_below g = sym (ap (λ (x : Integer). not (is_1 x)) g) ∙ found

  pub not_one_above : q ≡ Above → true ≡ not_1_at s v
  unfolding is_1
  not_one_above g = sym (ap (λ (x : Integer). not (is_1 x)) g) ∙ found

  pub not_one_none : q ≡ None → true ≡ not_1_at s v
  unfolding is_1
  not_one_none g = sym (ap (λ (x : Integer). not (is_1 x)) g) ∙ found

-- ---- the manifest object

abbrev zeros : List ℕ
zeros = replicate 2470 0

module _ (s : Text) (v : ℕ) {a : ℕ} (ea : a ≡ versions_at s v) where
  pub object_version : (a ≡ 0 → ⊥) → {ix : List ℕ} → (a ≡ object_refusal s v) × (a ≡ 0 → ix ≡ index_of s v)
  unfolding object_refusal
  object_version some = (ea ∙ sym (pick_false _ _ (ne_eqb (versions_at s v) 0 (λ z. some (ea ∙ z)))), λ z. absurd (some z))

  module _ (za : a ≡ 0) {b : ℕ} (eb : b ≡ member_refusal_at s v) where
    from_8 : object_refusal s v ≡ pick (eqb (member_refusal_at s v) 0) (pick (too_many s v) 10 0) (member_refusal_at s v)
    unfolding object_refusal
    from_8 = pick_true _ _ (eq-eqb (versions_at s v) 0 (sym ea ∙ za))

    pub object_member : (b ≡ 0 → ⊥) → {ix : List ℕ} → (b ≡ object_refusal s v) × (b ≡ 0 → ix ≡ index_of s v)
    object_member some = (eb ∙ sym (from_8 ∙ pick_false _ _ (ne_eqb (member_refusal_at s v) 0 (λ z. some (eb ∙ z)))), λ z. absurd (some z))

    module _ (zb : b ≡ 0) {m : Bool} (em : m ≡ too_many s v) where
      from_10 : object_refusal s v ≡ pick m 10 0
      from_10 = from_8 ∙ pick_true _ _ (eq-eqb (member_refusal_at s v) 0 (sym eb ∙ zb)) ∙ ap (λ (x : Bool). pick x 10 0) (sym em)

      pub object_many : m ≡ true → {ix : List ℕ} → (10 ≡ object_refusal s v) × (◌≡◌ {A = ℕ} 10 0 → ix ≡ index_of s v)
      object_many h = (sym (from_10 ∙ pick_true _ _ h), λ z. absurd (omega arith))

      pub object_passed : m ≡ false → {ix : List ℕ} → ix ≡ index_of s v → (0 ≡ object_refusal s v) × (◌≡◌ {A = ℕ} 0 0 → ix ≡ index_of s v)
      object_passed h e = (sym (from_10 ∙ pick_false _ _ h), λ _. e)

-- ---- the whole text

-- what is left in the index by the answer
by_answer : (s : Text) {r : ℕ} → r ≡ survey_of s → surveyed s ≡ pick (eqb r 0) (index_from s (root_at s)) zeros
unfolding surveyed
by_answer s e = ap (λ (x : ℕ). pick (eqb x 0) (index_from s (root_at s)) zeros) (sym e)

-- no bytes
none_rooted : root_at [] ≡ Refused
unfolding root_at root_from first_member skip count run peek class_of whitespace pick
none_rooted = refl

none : survey_of [] ≡ 0
unfolding survey_of
none = pick_true _ _ (eq-eqb 0 0 refl)

pub survey_none : (s : Text) → length s ≡ 0 → {ix : List ℕ} → ix ≡ zeros → (0 ≡ survey_of s) × (ix ≡ surveyed s)
unfolding index_from
survey_none [] e z = (sym none, z ∙ sym (by_answer [] (sym none) ∙ pick_true _ _ (eq-eqb 0 0 refl) ∙ ap (index_from []) none_rooted))
survey_none (b ∷ s) e z = absurd (omega arith)

module _ (s : Text) (some : length s ≡ 0 → ⊥) {a : ℕ} (ea : a ≡ early_of s) where
  from_1 : survey_of s ≡ pick (eqb a 0) (root_refusal s (root_at s)) a
  unfolding survey_of
  from_1 = pick_false _ _ (ne_eqb (length s) 0 some) ∙ ap (λ (x : ℕ). pick (eqb x 0) (root_refusal s (root_at s)) x) (sym ea)

  pub turn_early : (a ≡ 0 → ⊥) → {ix : List ℕ} → (a ≡ survey_of s) × (a ≡ 0 → ix ≡ surveyed s)
  turn_early h = (sym (from_1 ∙ pick_false _ _ (ne_eqb a 0 h)), λ z. absurd (h z))

  module _ (za : a ≡ 0) where
    from_5 : {q : Standing} → root_at s ≡ q → survey_of s ≡ root_refusal s q
    from_5 e = from_1 ∙ pick_true _ _ (eq-eqb a 0 za) ∙ ap (root_refusal s) e

    pub turn_5 : {q : Standing} → q ≡ root_at s → q ≡ Refused → {ix : List ℕ} → (5 ≡ survey_of s) × (◌≡◌ {A = ℕ} 5 0 → ix ≡ surveyed s)
    unfolding root_refusal
    turn_5 e f = (sym (from_5 (sym e ∙ f)), λ z. absurd (omega arith))

    pub turn_object : {q : Standing} → q ≡ root_at s → {v : ℕ} → q ≡ At v → {r : ℕ} {ix : List ℕ} → (r ≡ object_refusal s v) × (r ≡ 0 → ix ≡ index_of s v) → (r ≡ survey_of s) × (r ≡ 0 → ix ≡ surveyed s)
    unfolding root_refusal index_from
    turn_object e f {r} (p, q) =
        let g : r ≡ survey_of s = p ∙ sym (from_5 (sym e ∙ f)) in
        (g, λ z. q z ∙ sym (by_answer s g ∙ pick_true _ _ (eq-eqb r 0 z) ∙ ap (index_from s) (sym e ∙ f)))

-- all was judged in turn, and a refusal leaves zeros
module _ (s : Text) {r : ℕ} (er : r ≡ survey_of s) where
  pub survey_refused : (r ≡ 0 → ⊥) → {ix : List ℕ} → ix ≡ zeros → (r ≡ survey_of s) × (ix ≡ surveyed s)
  survey_refused some z = (er, z ∙ sym (by_answer s er ∙ pick_false _ _ (ne_eqb r 0 some)))

  pub survey_passed : r ≡ 0 → {ix : List ℕ} → (r ≡ 0 → ix ≡ surveyed s) → (r ≡ survey_of s) × (ix ≡ surveyed s)
  survey_passed z f = (er, f z)

-- one walk told all
pub survey_walked : (s : Text) {ix : List ℕ} → Clear s ix → (0 ≡ survey_of s) × (ix ≡ surveyed s)
survey_walked s c = (sym c.accepted, c.index)

-- the text is a document whose manifest object stands at v, and none of 6 to 10 applies
pub all_clear : (s : Text) {t : Tree} {n v : ℕ} → length s ≤ most_bytes → starts s ≡ true → read s ≡ done t n → root_at s ≡ At v → versions_at s v ≡ 0 → member_refusal_at s v ≡ 0 → too_many s v ≡ false → {ix : List ℕ} → ix ≡ index_of s v → Clear s ix
unfolding early_of early_in root_refusal index_from survey_of
all_clear s {v = v} short begins reads root versions members few {ix} e =
    let early : early_of s ≡ 0 = pick_false _ _ (le-ltb most_bytes (length s) short) ∙ pick_true _ _ begins ∙ ap early_in reads in
    let inside : root_refusal s (root_at s) ≡ 0 = ap (root_refusal s) root ∙ sym (object_passed s v {a = 0} (sym versions) refl {b = 0} (sym members) refl {m = false} (sym few) refl e).0 in
    let rest : pick (eqb (early_of s) 0) (root_refusal s (root_at s)) (early_of s) ≡ 0 = pick_true _ _ (eq-eqb (early_of s) 0 early) ∙ inside in
    let zero_all : survey_of s ≡ 0 = go (eqb (length s) 0) rest in
    record { accepted = zero_all; index = e ∙ sym (by_answer s (sym zero_all) ∙ pick_true _ _ (eq-eqb 0 0 refl) ∙ ap (index_from s) root) }
  where
    go : (b : Bool) {x : ℕ} → x ≡ 0 → pick b 0 x ≡ 0
    go true h = pick_true _ _ refl
    go false h = pick_false _ _ refl ∙ h

-- as the walk finds it: a is the first byte's place and c that byte, i the name's place, and the manifest object stands at v
pub walked_clear : (s : Text) → length s ≤ most_bytes → {b : Bool} → b ≡ starts s → b ≡ true → {a : ℕ} → a ≡ skip s 0 → {c : ℕ} → c ≡ peek s a → c ≡ 123 → {i : ℕ} → i ≡ skip s (a + 1) → {j : ℕ} → scan (name s i) ≡ Done j → {v : ℕ} → v ≡ skip s j → {e : ℕ} {old ix : List ℕ} → Manifest s v e old ix → old ≡ zeros → Closes s e → Clear s ix
walked_clear s short eb tb {a} ea ec tc {i} ei {j} en ev m z closed =
    let w = scan_done (name s i) en in
    let at_name : i ≡ skip s (skip s 0 + 1) = ei ∙ ap (λ (x : ℕ). skip s (x + 1)) ea in
    let named : name s (skip s (skip s 0 + 1)) ≡ done w.0 j = ap (name s) (sym at_name) ∙ w.1 in
    let begins : peek s (skip s 0) ≡ 123 = ap (peek s) (sym ea) ∙ sym ec ∙ tc in
    all_clear s short (sym eb ∙ tb) (sole s begins named ev m.reads closed) (sole_root s begins named ev m.reads closed) m.versions m.flawless m.few (m.index z)
