-- What is read consists of bytes: numbers below 256. Of names, values and whole texts.
use Rattle.std.specs.Prelude.{◌≡◌, refl, true, eqb}
use Prim.Native.Nat.{ℕ, zero, suc, ◌+◌, ◌≤◌, ◌<◌}
use Rattle.std.proofs.Common.{arith, le_refl, lit<, eqb-true}
use Rattle.text.specs.Reading.{Text, Out, Reader, peek}
use Rattle.text.specs.Class.{skip}
use Rattle.grammar.specs.Tree.{Tree}
use Rattle.grammar.specs.Document.{text_tree, number_tree, literal_tree, array_tree, object_tree, true_word, false_word, null_word, scalar, in_front, after, items, many, colon, name, bound, named, member, either, value, ending, most, read}
use Rattle.grammar.proofs.laws.Clean.{AllBytes, Clean, clean, no_bad, no_deep, nil, join, cons, pick_clean, next_clean, then_clean, string_clean, number_clean, word_clean, skip_bytes}

-- what is read from i on
abbrev pub OfBytes : {A : Type 0} → Reader A → Type 0
OfBytes r = (s : Text) (i : ℕ) → Clean s i (r s i)

-- past the whitespace at j, and a byte there
module _ (s : Text) (j c : ℕ) (small : c < 256) where
  next_bytes : eqb (peek s (skip s j)) c ≡ true → AllBytes s j (skip s j + 1)
  next_bytes e =
      let z : skip s j + 1 ≤ skip s j + 1 = le_refl _ in
      let h : peek s (skip s j) < 256 = omega (arith, eqb-true (peek s (skip s j)) c e) in
      join (skip_bytes s j) (cons h (nil z) refl)

scalar_clean : OfBytes scalar
unfolding scalar text_tree number_tree literal_tree
scalar_clean s i =
    pick_clean _ (λ _. next_clean (string_clean s i) (λ _ _ a. clean a))
    (λ _. pick_clean _ (λ _. next_clean (word_clean true_word (tt, (tt, (tt, (tt, tt)))) s i) (λ _ _ a. clean a))
    (λ _. pick_clean _ (λ _. next_clean (word_clean false_word (tt, (tt, (tt, (tt, (tt, tt))))) s i) (λ _ _ a. clean a))
    (λ _. pick_clean _ (λ _. next_clean (word_clean null_word (tt, (tt, (tt, (tt, tt)))) s i) (λ _ _ a. clean a))
    (λ _. next_clean (number_clean s i) (λ _ _ a. clean a)))))

name_clean : OfBytes name
unfolding name colon
name_clean s i = next_clean (string_clean s i) (λ k j a. pick_clean _ (λ e. clean (join a (next_bytes s j 58 (lit< tt) e))) (λ _. no_bad))

module _ {A : Type 0} (one : Reader A) (close : ℕ) (small : close < 256) (bytes : OfBytes one) where
  items_clean : (n : ℕ) → OfBytes (items one close n)
  unfolding items after in_front
  items_clean zero s i = no_bad
  items_clean (suc n) s i =
      next_clean (then_clean (skip_bytes s i) (bytes s (skip s i)))
      (λ x j a. pick_clean _
      (λ e. clean (join a (next_bytes s j close small e)))
      (λ _. pick_clean _
      (λ e. next_clean (then_clean (join a (next_bytes s j 44 (lit< tt) e)) (items_clean n s (skip s j + 1))) (λ xs k b. clean b))
      (λ _. no_bad)))

  many_clean : OfBytes (many one close)
  unfolding many
  many_clean s i = pick_clean _ (λ e. clean (next_bytes s i close small e)) (λ _. items_clean _ s i)

member_clean : (v : Reader Tree) → OfBytes v → OfBytes (member v)
unfolding member named bound
member_clean v bytes s i = next_clean (name_clean s i) (λ k j a. next_clean (then_clean (join a (skip_bytes s j)) (bytes s (skip s j))) (λ t n b. clean b))

either_clean : (s : Text) (i : ℕ) {x y : Out Tree} → (peek s i < 256 → Clean s i x) → (peek s i < 256 → Clean s i y) → Clean s i (either s i x y)
unfolding either
either_clean s i f g =
    pick_clean _ (λ e. f (omega (arith, eqb-true (peek s i) 91 e)))
    (λ _. pick_clean _ (λ e. g (omega (arith, eqb-true (peek s i) 123 e)))
    (λ _. scalar_clean s i))

pub value_clean : (l : ℕ) → OfBytes (value l)
unfolding value array_tree object_tree
value_clean zero s i = either_clean s i (λ _. no_deep) (λ _. no_deep)
value_clean (suc l) s i =
    let z : i + 1 ≤ i + 1 = le_refl _ in
    either_clean s i
    (λ h. next_clean (then_clean (cons h (nil z) refl) (many_clean (value l) 93 (lit< tt) (value_clean l) s (i + 1))) (λ ts j a. clean a))
    (λ h. next_clean (then_clean (cons h (nil z) refl) (many_clean (member (value l)) 125 (lit< tt) (member_clean (value l) (value_clean l)) s (i + 1))) (λ ms j a. clean a))

pub read_clean : (s : Text) → Clean s 0 (read s)
unfolding read ending
read_clean s =
    next_clean (then_clean (skip_bytes s 0) (value_clean most s (skip s 0)))
    (λ t j a. pick_clean _ (λ _. clean (join a (skip_bytes s j))) (λ _. no_bad))
