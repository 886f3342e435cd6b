-- From bytes to the document that they are. Assumes nothing.
use Rattle.std.specs.Prelude.{◌≡◌, refl, true, Bool, [], ◌∷◌, length, ℕ}
use Rattle.std.proofs.Common.{sym, ap, ◌∙◌, true≢false, arith}
use Rattle.std.proofs.Math.Bool.{false}
use Rattle.std.proofs.Math.Dec.{eqb, ltb}
use borrow.Author.Tests.{ne_eqb, le-ltb, ltb-false}
use Rattle.text.specs.Reading.{Out, Text, pick, count, run, part, bad, deep, next, peek, done}
use Rattle.text.specs.Class.{skip, class_of, whitespace, digit}
use Rattle.grammar.specs.Tree.{Tree, same}
use Rattle.text.specs.Numbers.{digits, minus, int, rest, number}
use Rattle.grammar.specs.Document.{scalar, either, value, ending, read}
use Rattle.manifest.proofs.laws.Order.{none_applies, rules_numbered}
use Rattle.manifest.proofs.laws.Bools.{zero_pick}
use Rattle.manifest.specs.Rows.{Manifest}
use Rattle.manifest.specs.View.{Cell, absent, wrong, many, one}
use Rattle.manifest.specs.Rules.{refusal, rules, root, refusal_5_or_later}
use Rattle.manifest.specs.Meaning.{nothing_said, meaning}
use Rattle.manifest.specs.Manifest.{most_bytes, starts, refusal_in, refusal_of, meaning_in, meaning_of}
use Rattle.manifest.specs.Statements.{Untouched, Accepted}

-- no bytes do not start
pub begun : (s : Text) → starts s ≡ true → length s ≡ 0 → ⊥
unfolding starts part skip run count same
begun [] e h = true≢false (sym e)
begun (b ∷ s) e h = omega arith

module _ {s : Text} {t : Tree} (u : Untouched s t) where
  -- 1 to 4 don't apply: the refusal is the document's
  pub refusal_of_document : refusal_of s ≡ refusal t
  unfolding refusal_of refusal_in pick
  refusal_of_document =
      let a : eqb (length s) 0 ≡ false = ne_eqb (length s) 0 (begun s u.begins) in
      let b : ltb most_bytes (length s) ≡ false = le-ltb most_bytes (length s) u.short in
      λ i. pick (a i) 0 (pick (b i) 1 (pick (u.begins i) (refusal_in (u.reads i)) 2))

  -- and so is the meaning, if it is accepted
  pub meaning_of_document : meaning_of s ≡ pick (eqb (refusal t) 0) (meaning t) nothing_said
  unfolding meaning_of meaning_in
  meaning_of_document = λ i. pick (eqb (refusal_of_document i) 0) (meaning_in (u.reads i)) nothing_said

-- ---- accepted bytes

starts_or_2 : (b : Bool) (n : ℕ) → pick b n 2 ≡ 0 → (b ≡ true) × (n ≡ 0)
unfolding pick
starts_or_2 true n e = (refl, e)
starts_or_2 false n e = absurd (omega arith)

-- a document without refusal
record Fine (o : Out Tree) : Type 0 where
  tree : Tree
  until : ℕ
  is : o ≡ done tree until
  none : refusal tree ≡ 0

fine_read : (o : Out Tree) → refusal_in o ≡ 0 → Fine o
unfolding refusal_in
fine_read (done t j) e = record { tree = t; until = j; is = refl; none = e }
fine_read (bad p) e = absurd (omega arith)
fine_read (deep p) e = absurd (omega arith)

rooted : {s : Text} {t : Tree} → Untouched s t → (c : Cell Manifest) → root t ≡ c → refusal_5_or_later c ≡ 0 → Accepted s
unfolding refusal_5_or_later
rooted u absent q e = absurd (omega arith)
rooted u wrong q e = absurd (omega arith)
rooted u (many i) q e = absurd (omega arith)
rooted {t = t} u (one m) q e = record { tree = t; manifest = m; untouched = u; its_root = q; none_applies = none_applies rules m rules_numbered e }

pub accepted_bytes : (s : Text) → (length s ≡ 0 → ⊥) → refusal_of s ≡ 0 → Accepted s
unfolding refusal_of refusal pick
accepted_bytes s some e =
    let a : pick (ltb most_bytes (length s)) 1 (pick (starts s) (refusal_in (read s)) 2) ≡ 0 = sym (ap (λ (b : Bool). pick b 0 (pick (ltb most_bytes (length s)) 1 (pick (starts s) (refusal_in (read s)) 2))) (ne_eqb (length s) 0 some)) ∙ e in
    let (b, c) = zero_pick (ltb most_bytes (length s)) 0 (pick (starts s) (refusal_in (read s)) 2) a in
    let (d, f) = starts_or_2 (starts s) (refusal_in (read s)) c in
    let g : Fine (read s) = fine_read (read s) f in
    rooted (record { short = ltb-false most_bytes (length s) b; begins = d; until = g.until; reads = g.is }) (root g.tree) refl g.none

-- no bytes mean nothing
pub nothing_meant : meaning_of [] ≡ nothing_said
unfolding meaning_of refusal_of meaning_in pick read next value either scalar number digits minus int rest peek count run skip class_of whitespace digit ending
nothing_meant = refl
