-- The manifest object that 1 to 9 leave, and its refusal from 10 on. Assumes nothing.
use Rattle.std.specs.Prelude.{◌≡◌, refl, true, false, not, ◌||◌, List, ◌++◌, ℕ, eqb, pos, negsuc}
use Rattle.std.proofs.Math.Path.{sym}
use Rattle.std.proofs.Common.{ap, subst, ◌∙◌, true≢false, arith, eqb-true}
use Rattle.text.specs.Reading.{Text, pick}
use Rattle.text.specs.Class.{skip}
use Rattle.text.specs.laws.Readers.{pick_true}
use Rattle.grammar.specs.Tree.{Tree, obj, Members, no_members, one_member}
use Rattle.values.specs.Integer.{Whole, whole, none}
use Rattle.values.specs.Stands.{Stands, kind_at}
use Rattle.values.specs.declared.Kind.{Kind}
use Rattle.values.specs.declared.Kind.TheVariants.{Nothing, Null, Truth, Number, String, Array, Object as Object-kind}
use Rattle.values.specs.Theorems.{document_stands}
use Rattle.places.specs.declared.Entry.{Entry}
use Rattle.places.specs.declared.Entry.TheVariants.{Named, Last}
use Rattle.places.specs.Places.{next_member}
use Rattle.places.specs.Visits.{Passes, passes_end, passes_member}
use Rattle.places.specs.Theorems.{members_passed}
use Rattle.manifest.specs.Kinds.{free, manifest}
use Rattle.manifest.specs.View.{Cell, one, is_one, as_object, view, row}
use Rattle.manifest.specs.Rows.{Manifest, version, is_absent, any_at, entries}
use Rattle.manifest.specs.Rules.{applies, not_1, first, rules, root, refusal_5_or_later, refusal, refusal_6_no_version, refusal_7_version_not_1, refusal_10_size}
use Rattle.manifest.specs.Meaning.{nothing_said, meant, meaning}
use Rattle.manifest.specs.Manifest.{refusal_of, meaning_of}
use Rattle.manifest.specs.Statements.{Untouched, All, all_one, Meets, left_out, stands, Sound, SoundRow}
use Rattle.manifest.proofs.laws.Bools.{halves, not_false, zero_pick}
use Rattle.manifest.proofs.laws.Bytes.{refusal_of_document, meaning_of_document}
use Rattle.outline.specs.declared.Standing.TheVariants.{At}
use Rattle.outline.specs.Outline.{object_at, alone, root_from, root_at, versions_at}
use Rattle.outline.specs.Statements.{Rooted, stands_at}
use Rattle.outline.specs.Theorems.{root_right, versions_right}
use Rattle.members.specs.Members.{member_rules, member_refusal_of, member_refusal_at}
use Rattle.members.specs.Theorems.{object_judged, passed_sound}
use Rattle.index.specs.Index.{index_of, too_many, manifest_of}
use Rattle.index.proofs.Theorems.{index_right, too_many_10}
use Rattle.index.proofs.laws.Positive.{members_positive}
use Rattle.reader.specs.laws.Parts.{version_rules, later_rules, first_rest, first_here, versions_numbered, members_numbered}

-- ---- the manifest object

-- it stands at v, and its rules decide
pub record Object (s : Text) (v : ℕ) : Type 0 where
  pub members : Members
  pub here : Stands s v (obj members)
  pub its_root : root_at s ≡ At v
  pub judged : refusal_of s ≡ first rules (row manifest members)
  pub said : meaning_of s ≡ pick (eqb (refusal_of s) 0) (meant (one (row manifest members))) nothing_said

of_root : (n : Text) (ms : Members) → refusal (obj (one_member n (obj ms) no_members)) ≡ first rules (row manifest ms)
unfolding refusal refusal_5_or_later root view as_object
of_root n ms = refl

root_means : (n : Text) (ms : Members) → meaning (obj (one_member n (obj ms) no_members)) ≡ meant (one (row manifest ms))
unfolding meaning root view as_object
root_means n ms = refl

pub object_there : {s : Text} {t : Tree} {v : ℕ} → Untouched s t → root_at s ≡ At v → Object s v
object_there {s} {t} {v} u e = go (refusal_of_document u) (meaning_of_document u) (subst (Rooted s t) e (root_right u))
  where
    go : {d : Tree} → refusal_of s ≡ refusal d → meaning_of s ≡ pick (eqb (refusal d) 0) (meaning d) nothing_said → Rooted s d (At v) → Object s v
    go q w (stands_at {n = n} {ms = ms} h) = record {
      members = ms;
      here = h;
      its_root = e;
      judged = q ∙ of_root n ms;
      said = w ∙ (λ i. pick (eqb (sym q i) 0) (root_means n ms i) nothing_said);
    }

-- no value of a member stands at 0
alone_at : (s : Text) (p v : ℕ) (e : Entry) → alone s p e ≡ At v → p ≡ v
unfolding alone object_at
alone_at s p v (Named i w j) h = let z : ◌≡◌ {A = ℕ} 0 1 = cc in absurd (omega arith)
alone_at s p v Last h = go (kind_at s p) h
  where
    go : (k : Kind) → object_at p k ≡ At v → p ≡ v
    go Nothing g = let z : ◌≡◌ {A = ℕ} 0 1 = cc in absurd (omega arith)
    go Null g = let z : ◌≡◌ {A = ℕ} 0 1 = cc in absurd (omega arith)
    go Truth g = let z : ◌≡◌ {A = ℕ} 0 1 = cc in absurd (omega arith)
    go Number g = let z : ◌≡◌ {A = ℕ} 0 1 = cc in absurd (omega arith)
    go String g = let z : ◌≡◌ {A = ℕ} 0 1 = cc in absurd (omega arith)
    go Array g = let z : ◌≡◌ {A = ℕ} 0 1 = cc in absurd (omega arith)
    go Object-kind g = cc

member_past : (s : Text) (v : ℕ) {e : Entry} {ps : List (Text × ℕ)} → Passes s e ps → All (λ m. m.1 ≡ 0 → ⊥) ps → root_from s e ≡ At v → v ≡ 0 → ⊥
unfolding root_from
member_past s v passes_end a h z = let y : ◌≡◌ {A = ℕ} 0 1 = cc in omega arith
member_past s v (passes_member {j = j} {m = m} o p) (all_one n a) h z = n (alone_at s m.1 v (next_member s j) h ∙ z)

pub root_past : {s : Text} {t : Tree} {v : ℕ} → Untouched s t → root_at s ≡ At v → v ≡ 0 → ⊥
unfolding root_at
root_past {s} {t} {v} u e = go (document_stands s t u.until u.reads) (subst (Rooted s t) e (root_right u))
  where
    go : {d : Tree} → Stands s (skip s 0) d → Rooted s d (At v) → v ≡ 0 → ⊥
    go h (stands_at g) = member_past s v (members_passed h) (members_positive s (skip s 0)) e

-- ---- 6 and 7, 8 and 9

-- a version that neither 6 nor 7 refuses is the integer 1, if it is one at all
is_1 : (w : Whole) → not (is_one w) ≡ false → w ≡ whole (pos 1)
unfolding is_one
is_1 (whole (pos n)) h = ap (λ (k : ℕ). whole (pos k)) (eqb-true n 1 (not_false (eqb n 1) h))
is_1 (whole (negsuc n)) h = absurd (true≢false h)
is_1 none h = absurd (true≢false h)

version_cell : {c : Cell Whole} → Meets (λ w. Sound free w) false c → is_absent c ≡ false → not_1 c ≡ false → c ≡ one (whole (pos 1))
unfolding is_absent not_1
version_cell left_out a b = absurd (true≢false a)
version_cell (stands {a = w} h) a b = ap one (is_1 w b)

pub version_1 : (m : Manifest) → SoundRow manifest m → first version_rules m ≡ 0 → version m ≡ one (whole (pos 1))
unfolding first applies refusal_6_no_version refusal_7_version_not_1
version_1 m sound e =
    let (six, f) = zero_pick (is_absent (version m) || any_at (λ i c. false) 0 (entries m)) 5 _ e in
    let (seventh, g) = zero_pick (not_1 (version m) || any_at (λ i c. false) 0 (entries m)) 6 _ f in
    version_cell sound.0 (halves _ _ six).0 (halves _ _ seventh).0

-- ---- what 1 to 9 leave

-- the manifest object stands at v, is sound, its version is 1, and the rules from 10 on decide
pub record Passed (s : Text) (v : ℕ) : Type 0 where
  pub members : Members
  pub here : Stands s v (obj members)
  pub its_root : root_at s ≡ At v
  pub past : v ≡ 0 → ⊥
  pub sound : SoundRow manifest (row manifest members)
  pub numbered_1 : version (row manifest members) ≡ one (whole (pos 1))
  pub all_judged : refusal_of s ≡ first rules (row manifest members)
  pub judged : refusal_of s ≡ first later_rules (row manifest members)
  pub said : meaning_of s ≡ pick (eqb (refusal_of s) 0) (meant (one (row manifest members))) nothing_said

module _ {s : Text} {t : Tree} {v : ℕ} (u : Untouched s t) (e : root_at s ≡ At v) (versions : versions_at s v ≡ 0) where
  versions_out : (o : Object s v) → first version_rules (row manifest o.members) ≡ 0
  versions_out o = sym (versions_right o.here) ∙ versions

  from_8 : (o : Object s v) → refusal_of s ≡ first (member_rules ++ later_rules) (row manifest o.members)
  from_8 o = o.judged ∙ first_rest version_rules (member_rules ++ later_rules) (row manifest o.members) versions_numbered (versions_out o)

  -- what 8 or 9 refuses is refused so, whatever else is wrong
  pub members_refused : (member_refusal_at s v ≡ 0 → ⊥) → refusal_of s ≡ member_refusal_at s v
  members_refused some =
      let o : Object s v = object_there u e in
      let q : member_refusal_at s v ≡ first member_rules (row manifest o.members) = object_judged o.here in
      from_8 o ∙ (first_here member_rules later_rules (row manifest o.members) members_numbered (λ z. some (q ∙ z)) ∙ sym q)

  -- and the rest has passed
  pub passed : member_refusal_at s v ≡ 0 → Passed s v
  unfolding member_refusal_of
  passed z =
      let o : Object s v = object_there u e in
      let q : first member_rules (row manifest o.members) ≡ 0 = sym (object_judged o.here) ∙ z in
      let sound : SoundRow manifest (row manifest o.members) = passed_sound o.members q in
      record {
        members = o.members;
        here = o.here;
        its_root = e;
        past = root_past u e;
        sound = sound;
        numbered_1 = version_1 (row manifest o.members) sound (versions_out o);
        judged = from_8 o ∙ first_rest member_rules later_rules (row manifest o.members) members_numbered q;
        said = o.said;
        all_judged = o.judged;
      }

module _ {s : Text} {v : ℕ} (p : Passed s v) where
  -- too many entries or items are 10, which is the first of what is left
  pub many_refused : too_many s v ≡ true → refusal_of s ≡ 10
  unfolding first refusal_10_size
  many_refused h = p.judged ∙ pick_true _ _ (too_many_10 p.here p.past p.sound h)

  -- else the index holds all, and the rules are judged over it
  pub index_holds : too_many s v ≡ false → manifest_of s (index_of s v) ≡ row manifest p.members
  index_holds h = index_right p.here p.past p.sound p.numbered_1 h

  pub index_judged : too_many s v ≡ false → refusal_of s ≡ first later_rules (manifest_of s (index_of s v))
  index_judged h = p.judged ∙ sym (ap (first later_rules) (index_holds h))
