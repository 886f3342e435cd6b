-- The manifest object's position, told by the tree. Assumes nothing.
use Rattle.std.specs.Prelude.{◌≡◌, refl, List, ℕ}
use Rattle.std.proofs.Common.{sym, ap, subst, ◌∙◌, arith, ne_eqb}
use Rattle.text.specs.Reading.{Text, pick, peek}
use Rattle.text.specs.Class.{skip}
use Rattle.text.specs.laws.Readers.{pick_false}
use Rattle.grammar.specs.Tree.{Tree, null, bool, num, str, arr, obj, Members, no_members, one_member}
use Rattle.values.specs.declared.Kind.{Kind}
use Rattle.values.specs.declared.Kind.TheVariants.{Object}
use Rattle.values.specs.Stands.{Stands, kind_of, kind_by, kind_at}
use Rattle.values.specs.Theorems.{kind_stands}
use Rattle.places.specs.declared.Entry.{Entry}
use Rattle.places.specs.declared.Entry.TheVariants.{Last}
use Rattle.places.specs.Places.{first_member}
use Rattle.places.specs.Visits.{Belong, belong_none, belong_one, Passes, passes_end, passes_member}
use Rattle.places.specs.Theorems.{members_stand, members_passed}
use Rattle.manifest.specs.View.{wrong, as_object, view}
use Rattle.manifest.specs.Rules.{root}
use Rattle.outline.specs.declared.Standing.{Standing}
use Rattle.outline.specs.declared.Standing.TheVariants.{Refused}
use Rattle.outline.specs.Outline.{object_at, alone, root_from, root_at}
use Rattle.outline.specs.Statements.{Rooted, stands_at, refused}

-- the value of the one member is an object, or not
one_value : (s : Text) (v : ℕ) (n : Text) (u : Tree) → Stands s v u → Rooted s (obj (one_member n u no_members)) (object_at v (kind_of u))
unfolding object_at kind_of root view as_object
one_value s v n null h = refused refl
one_value s v n (bool b) h = refused refl
one_value s v n (num cs) h = refused refl
one_value s v n (str t) h = refused refl
one_value s v n (arr ts) h = refused refl
one_value s v n (obj ms) h = stands_at h

-- what comes after the first member
second : (s : Text) (v : ℕ) (n : Text) (u : Tree) → Stands s v u → {e : Entry} {ps : List (Text × ℕ)} {ms : Members} → Passes s e ps → Belong s ps ms → Rooted s (obj (one_member n u ms)) (alone s v e)
unfolding alone root
second s v n u h passes_end belong_none = subst (λ (k : Kind). Rooted s (obj (one_member n u no_members)) (object_at v k)) (sym (kind_stands h)) (one_value s v n u h)
second s v n u h (passes_member o p) (belong_one g b) = refused refl

members_rooted : (s : Text) {e : Entry} {ps : List (Text × ℕ)} {ms : Members} → Passes s e ps → Belong s ps ms → Rooted s (obj ms) (root_from s e)
unfolding root_from root
members_rooted s passes_end belong_none = refused refl
members_rooted s (passes_member {m = m} o p) (belong_one {t = t} h b) = second s m.1 m.0 t h p b

brace_kind : kind_by 123 ≡ Object
unfolding kind_by pick
brace_kind = refl

-- where no object stands there is no first member
no_object : (s : Text) (p : ℕ) {t : Tree} → Stands s p t → (kind_of t ≡ Object → ⊥) → first_member s p ≡ Last
unfolding first_member kind_at
no_object s p h other = pick_false _ _ (ne_eqb (peek s p) 123 (λ q. other (sym (kind_stands h) ∙ ap kind_by q ∙ brace_kind)))

no_root : (s : Text) {t : Tree} → Stands s (skip s 0) t → (kind_of t ≡ Object → ⊥) → root t ≡ wrong → Rooted s t (root_at s)
unfolding root_at root_from
no_root s {t} h other e = subst (λ (x : Entry). Rooted s t (root_from s x)) (sym (no_object s (skip s 0) h other)) (refused e)

pub rooted : (s : Text) (t : Tree) → Stands s (skip s 0) t → Rooted s t (root_at s)
unfolding root_at kind_of root
rooted s null h = no_root s h (λ q. let z : ◌≡◌ {A = ℕ} 0 1 = cc in omega arith) refl
rooted s (bool b) h = no_root s h (λ q. let z : ◌≡◌ {A = ℕ} 0 1 = cc in omega arith) refl
rooted s (num cs) h = no_root s h (λ q. let z : ◌≡◌ {A = ℕ} 0 1 = cc in omega arith) refl
rooted s (str t) h = no_root s h (λ q. let z : ◌≡◌ {A = ℕ} 0 1 = cc in omega arith) refl
rooted s (arr ts) h = no_root s h (λ q. let z : ◌≡◌ {A = ℕ} 0 1 = cc in omega arith) refl
rooted s (obj ms) h = members_rooted s (members_passed h) (members_stand h)

-- what was refused
pub refused_root : {s : Text} {t : Tree} {r : Standing} → Rooted s t r → r ≡ Refused → root t ≡ wrong
refused_root (stands_at h) e = let z : ◌≡◌ {A = ℕ} 0 1 = cc in absurd (omega arith)
refused_root (refused q) e = q
