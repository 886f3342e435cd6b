-- What is proved of the definitions. Assumes nothing.
use Rattle.std.specs.Prelude.{◌≡◌, refl, false, [], ◌∷◌, ℕ, eqb}
use Rattle.std.proofs.Common.{sym, ap, subst, ◌∙◌, ne_eqb}
use Rattle.text.specs.Reading.{Text}
use Rattle.text.specs.laws.Readers.{pick_false}
use Rattle.grammar.specs.Tree.{Tree, str, obj, Members}
use Rattle.values.specs.Stands.{Stands}
use Rattle.values.specs.Theorems.{document_stands}
use Rattle.manifest.specs.Kinds.{manifest}
use Rattle.manifest.specs.View.{as_object, view, row}
use Rattle.manifest.specs.Rows.{Manifest}
use Rattle.manifest.specs.Rules.{first, root, refusal_5_or_later, refusal, domain, refusal_6_no_version, refusal_7_version_not_1}
use Rattle.manifest.specs.Manifest.{refusal_of}
use Rattle.manifest.specs.Statements.{Untouched}
use Rattle.manifest.proofs.Theorems.{refusal_5}
use Rattle.manifest.proofs.laws.Bytes.{refusal_of_document}
use Rattle.manifest.proofs.laws.Order.{numbered, some_number, first_append}
use Rattle.outline.specs.declared.Standing.TheVariants.{At, Refused}
use Rattle.outline.specs.Outline.{root_at, versions_at, domain_at}
use Rattle.outline.specs.Statements.{Rooted, stands_at}
use Rattle.outline.specs.laws.Roots.{rooted, refused_root}
use Rattle.outline.specs.laws.Versions.{versions_rules}
use Rattle.outline.specs.laws.Names.{text_stands}

-- ---- 5

-- of a document that 1 to 4 leave, the manifest object stands at the position that `root_at` says, and is the one member of the outermost object; or the document is refused as 5
pub root_right : {s : Text} {t : Tree} → Untouched s t → Rooted s t (root_at s)
root_right {s} {t} u = rooted s t (document_stands s t u.until u.reads)

-- so over bytes
pub root_refused : {s : Text} {t : Tree} → Untouched s t → root_at s ≡ Refused → refusal_of s ≡ 5
root_refused {s} {t} u e = refusal_of_document u ∙ refusal_5 t (refused_root (root_right u) e)

-- ---- 6 and 7

-- of the object at p: the number of the first of the rules 6 and 7 that applies to it, or 0
pub versions_right : {s : Text} {p : ℕ} {ms : Members} → Stands s p (obj ms) → versions_at s p ≡ first (refusal_6_no_version ∷ refusal_7_version_not_1 ∷ []) (row manifest ms)
versions_right h = versions_rules h

-- so over bytes: what is refused by its versions is refused so, whatever else is wrong
pub versions_refused : {s : Text} {t : Tree} {v : ℕ} → Untouched s t → root_at s ≡ At v → (versions_at s v ≡ 0 → ⊥) → refusal_of s ≡ versions_at s v
unfolding refusal refusal_5_or_later root view as_object numbered some_number refusal_6_no_version refusal_7_version_not_1
versions_refused {s} {t} {v} u e some = refusal_of_document u ∙ go (subst (Rooted s t) e (root_right u))
  where
    go : {d : Tree} → Rooted s d (At v) → refusal d ≡ versions_at s v
    go (stands_at {ms = ms} h) =
        let m : Manifest = row manifest ms in
        let q : versions_at s v ≡ first (refusal_6_no_version ∷ refusal_7_version_not_1 ∷ []) m = versions_rules h in
        let z : eqb (first (refusal_6_no_version ∷ refusal_7_version_not_1 ∷ []) m) 0 ≡ false = ne_eqb _ _ (λ x. some (q ∙ x)) in
        first_append (refusal_6_no_version ∷ refusal_7_version_not_1 ∷ []) _ m refl ∙ pick_false _ _ z ∙ sym q

-- ---- clocks' names

-- of the string at p: the number of the clock that its text names
pub domain_right : {s : Text} {p : ℕ} {t : Text} → Stands s p (str t) → domain_at s p ≡ domain t
unfolding domain_at
domain_right h = ap domain (text_stands h)
