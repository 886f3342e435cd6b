-- Refusals 1 to 4, which the bytes alone decide. Assumes nothing.
use Rattle.std.specs.Prelude.{◌≡◌, refl, Bool, true, false, ℕ, ◌≤◌, ltb, length}
use Rattle.std.proofs.Common.{◌∙◌, arith, ne_eqb, ltb-false}
use Rattle.text.specs.Reading.{Text, Out, done, bad, deep, pick}
use Rattle.text.specs.laws.Readers.{pick_false}
use Rattle.grammar.specs.Tree.{Tree}
use Rattle.grammar.specs.Document.{read}
use Rattle.manifest.specs.Manifest.{most_bytes, starts, refusal_in, refusal_of}
use Rattle.manifest.specs.Statements.{Untouched}
use Rattle.manifest.proofs.laws.Bools.{zero_pick}
use Rattle.survey.specs.Survey.{early_in, early_of}

-- the text is a document, and none of 1 to 4 applies
pub record Document (s : Text) : Type 0 where
  pub tree : Tree
  pub untouched : Untouched s tree

-- the two orders of picking agree where something is refused
same_3_or_4 : (a b : Bool) (o : Out Tree) → (pick a 1 (pick b (early_in o) 2) ≡ 0 → ⊥) → pick a 1 (pick b (refusal_in o) 2) ≡ pick a 1 (pick b (early_in o) 2)
unfolding pick early_in refusal_in
same_3_or_4 true b o h = refl
same_3_or_4 false true (done t j) h = absurd (h refl)
same_3_or_4 false true (bad p) h = refl
same_3_or_4 false true (deep p) h = refl
same_3_or_4 false false o h = refl

-- so of a text that has bytes what they say is the refusal
pub early_refused : (s : Text) → (length s ≡ 0 → ⊥) → (early_of s ≡ 0 → ⊥) → refusal_of s ≡ early_of s
unfolding refusal_of early_of
early_refused s some h = pick_false _ _ (ne_eqb (length s) 0 some) ∙ same_3_or_4 (ltb most_bytes (length s)) (starts s) (read s) h

begun : (b : Bool) (n : ℕ) → pick b n 2 ≡ 0 → (b ≡ true) × (n ≡ 0)
unfolding pick
begun true n e = (refl, e)
begun false n e = absurd (omega arith)

-- and where they say nothing there is a document
pub early_passed : (s : Text) → early_of s ≡ 0 → Document s
unfolding early_of early_in
early_passed s e =
    let (short, f) = zero_pick (ltb most_bytes (length s)) 0 (pick (starts s) (early_in (read s)) 2) e in
    let (opens, g) = begun (starts s) (early_in (read s)) f in
    go (read s) refl (ltb-false most_bytes (length s) short) opens g
  where
    go : (o : Out Tree) → read s ≡ o → length s ≤ most_bytes → starts s ≡ true → early_in o ≡ 0 → Document s
    go (done t j) q a b h = record { tree = t; untouched = record { short = a; begins = b; until = j; reads = q } }
    go (bad p) q a b h = absurd (omega arith)
    go (deep p) q a b h = absurd (omega arith)
