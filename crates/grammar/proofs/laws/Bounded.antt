-- No position that reading finds lies past the end.
use Rattle.std.specs.Prelude.{◌≡◌, List, eqb}
use Rattle.std.proofs.Math.Path.{refl, ap}
use Prim.Native.Nat.{ℕ, zero, suc, ◌+◌, ◌≤◌, ◌<◌, zero-le}
use Rattle.std.proofs.Common.{arith, lit<}
use Rattle.std.proofs.Math.ListN.{length}
use Rattle.text.specs.Reading.{Text, Out, done, bad, Reader, next, peek}
use Rattle.text.specs.Class.{skip}
use Rattle.text.specs.laws.Peek.{peek_in, skip_le}
use Rattle.text.specs.laws.Readers.{at, next_le, pick_case, Bounded}
use Rattle.grammar.specs.Tree.{Tree}
use Rattle.grammar.specs.Document.{array_tree, object_tree, in_front, after, items, many, name, bound, named, member, either, scalar, value, ending, most, read}
use Rattle.grammar.proofs.laws.Scalars.{scalar_bounded}
use Rattle.grammar.proofs.laws.Names.{name_bounded}
use Rattle.grammar.proofs.laws.Firm.{after_case, many_case, either_case}

module _ {A : Type 0} (one : Reader A) (close : ℕ) (small : close < 256) (bounded : Bounded one) where
  after_bounded : (more : Reader (List A)) → Bounded more → (s : Text) (x : A) (j : ℕ) → j ≤ length s → at (after close more s x j) ≤ length s
  unfolding in_front at
  after_bounded more go s x j h =
      let k : skip s j ≤ length s = skip_le s j h in
      after_case close more s x j refl
      (λ c d. let e : skip s j + 1 ≡ at (after close more s x j) = ap at d in omega (arith, peek_in s (skip s j) (omega arith)))
      (λ _ c d.
      let l : skip s j < length s = peek_in s (skip s j) (omega arith) in
      let e : at (next (more s (skip s j + 1)) (in_front x)) ≡ at (after close more s x j) = ap at d in
      omega (arith, next_le (more s (skip s j + 1)) (in_front x) (length s) (go s (skip s j + 1) (omega arith)) (λ xs n g. g)))
      (λ _ _ d. let e : skip s j ≡ at (after close more s x j) = ap at d in omega arith)

  items_bounded : (n : ℕ) → Bounded (items one close n)
  unfolding items at
  items_bounded zero s i h = h
  items_bounded (suc n) s i h = next_le (one s (skip s i)) (after close (items one close n) s) (length s) (bounded s (skip s i) (skip_le s i h)) (λ x j g. after_bounded (items one close n) (items_bounded n) s x j g)

  pub many_bounded : Bounded (many one close)
  unfolding at
  many_bounded s i h =
      many_case one close s i refl
      (λ c d. let e : skip s i + 1 ≡ at (many one close s i) = ap at d in omega (arith, peek_in s (skip s i) (omega arith)))
      (λ c d. let e : at (items one close (suc (length s)) s i) ≡ at (many one close s i) = ap at d in omega (arith, items_bounded (suc (length s)) s i h))

pub member_bounded : (v : Reader Tree) → Bounded v → Bounded (member v)
unfolding member named bound at
member_bounded v go s i h = next_le (name s i) (named v s) (length s) (name_bounded s i h) (λ k j g. next_le (v s (skip s j)) (bound k) (length s) (go s (skip s j) (skip_le s j g)) (λ x n f. f))

either_bounded : (s : Text) (i : ℕ) (x y : Out Tree) → i ≤ length s → (peek s i < 256 → at x ≤ length s) → (peek s i < 256 → at y ≤ length s) → at (either s i x y) ≤ length s
unfolding at
either_bounded s i x y h f g =
    either_case s i x y refl
    (λ c d. let e : at x ≡ at (either s i x y) = ap at d in omega (arith, f (omega arith)))
    (λ c d. let e : at y ≡ at (either s i x y) = ap at d in omega (arith, g (omega arith)))
    (λ _ _ d. let e : at (scalar s i) ≡ at (either s i x y) = ap at d in omega (arith, scalar_bounded s i h))

pub value_bounded : (l : ℕ) → Bounded (value l)
unfolding value array_tree object_tree at
value_bounded zero s i h = either_bounded s i _ _ h (λ _. h) (λ _. h)
value_bounded (suc l) s i h =
    either_bounded s i _ _ h
    (λ c. let b : i < length s = peek_in s i c in next_le (many (value l) 93 s (i + 1)) _ (length s) (many_bounded (value l) 93 (lit< tt) (value_bounded l) s (i + 1) (omega arith)) (λ ts j g. g))
    (λ c. let b : i < length s = peek_in s i c in next_le (many (member (value l)) 125 s (i + 1)) _ (length s) (many_bounded (member (value l)) 125 (lit< tt) (member_bounded (value l) (value_bounded l)) s (i + 1) (omega arith)) (λ ms j g. g))

ending_bounded : (s : Text) (x : Tree) (j : ℕ) → j ≤ length s → at (ending s x j) ≤ length s
unfolding ending at
ending_bounded s x j h =
    pick_case (eqb (peek s (skip s j)) 256) (done x (skip s j)) (bad (skip s j)) {z = ending s x j} refl
    (λ _ d. let e : skip s j ≡ at (ending s x j) = ap at d in omega (arith, skip_le s j h))
    (λ _ d. let e : skip s j ≡ at (ending s x j) = ap at d in omega (arith, skip_le s j h))

pub read_bounded : (s : Text) → at (read s) ≤ length s
unfolding read
read_bounded s = next_le (value most s (skip s 0)) (ending s) (length s) (value_bounded most s (skip s 0) (skip_le s 0 zero-le)) (ending_bounded s)
