-- Every clock of a meaning has a number. Assumes nothing.
use Rattle.std.specs.Prelude.{◌≡◌, refl, Bool, true, false, [], ◌∷◌, eqb, length}
use Rattle.std.proofs.Common.{sym, ap, subst, arith, eqb-true}
use Rattle.text.specs.Reading.{Text, pick}
use Rattle.grammar.specs.Tree.{Tree}
use Rattle.grammar.specs.Document.{read}
use Rattle.manifest.specs.View.{Cell, absent, wrong, many, one}
use Rattle.manifest.specs.Rows.{Manifest}
use Rattle.manifest.specs.Rules.{root, refusal_5_or_later, refusal}
use Rattle.manifest.specs.Meaning.{nothing_said, meant, meaning}
use Rattle.manifest.specs.Manifest.{refusal_of, meaning_of, meaning_in}
use Rattle.manifest.specs.Statements.{all_none, Untouched, ClocksIn, unset}
use Rattle.manifest.proofs.laws.Accepted.{links_in, trace_in}
use Rattle.manifest.proofs.laws.Bytes.{meaning_of_document, accepted_bytes, nothing_meant}

-- a refused manifest says nothing
pub refused_means : (s : Text) → eqb (refusal_of s) 0 ≡ false → meaning_of s ≡ nothing_said
unfolding meaning_of pick
refused_means s e = ap (λ (b : Bool). pick b (meaning_in (read s)) nothing_said) e

in_range : (t : Tree) → refusal t ≡ 0 → ClocksIn (meaning t)
unfolding refusal refusal_5_or_later meaning meant
in_range t e = go (root t) e
  where
    go : (c : Cell Manifest) → refusal_5_or_later c ≡ 0 → ClocksIn (meant c)
    go absent h = absurd (omega arith)
    go wrong h = absurd (omega arith)
    go (many i) h = absurd (omega arith)
    go (one m) h = record { links = links_in m h; trace = trace_in m h }

nothing_in_range : ClocksIn nothing_said
nothing_in_range = record { links = all_none; trace = unset }

of_document : {s : Text} {t : Tree} → Untouched s t → ClocksIn (meaning_of s)
unfolding pick
of_document {t = t} u = subst ClocksIn (sym (meaning_of_document u)) (go (eqb (refusal t) 0) refl)
  where
    go : (b : Bool) → eqb (refusal t) 0 ≡ b → ClocksIn (pick b (meaning t) nothing_said)
    go true e = in_range t (eqb-true (refusal t) 0 e)
    go false e = nothing_in_range

of_some : (s : Text) → (length s ≡ 0 → ⊥) → ClocksIn (meaning_of s)
of_some s some = go (eqb (refusal_of s) 0) refl
  where
    go : (b : Bool) → eqb (refusal_of s) 0 ≡ b → ClocksIn (meaning_of s)
    go true e = of_document (accepted_bytes s some (eqb-true (refusal_of s) 0 e)).untouched
    go false e = subst ClocksIn (sym (refused_means s e)) nothing_in_range

pub all_in_range : (s : Text) → ClocksIn (meaning_of s)
all_in_range [] = subst ClocksIn (sym nothing_meant) nothing_in_range
all_in_range (b ∷ s) = of_some (b ∷ s) (λ h. omega arith)
