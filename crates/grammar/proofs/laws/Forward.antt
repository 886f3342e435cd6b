-- No reader goes back.
use Rattle.std.specs.Prelude.{Bool, true, false, List}
use Prim.Native.Nat.{ℕ, zero, suc, ◌+◌, ◌≤◌, ◌<◌}
use native.Mathlib.Omega.{arith}
use Rattle.std.proofs.Math.Nat.{le_refl, le_trans}
use Rattle.text.specs.Reading.{Text, Out, Reader, next}
use Rattle.text.specs.Class.{skip}
use Rattle.text.specs.laws.Peek.{skip_ge}
use Rattle.text.specs.laws.Readers.{at, at_next, at_pick, Forward, Past, past, wrong, pick_past, next_past, past_forward}
use Rattle.grammar.specs.Tree.{Tree}
use Rattle.grammar.specs.Document.{text_tree, number_tree, literal_tree, scalar, colon, name, array_tree, object_tree, in_front, after, items, many, bound, named, member, either, value, ending}
use Rattle.grammar.specs.Items.{item}
use Rattle.text.specs.laws.Strings.{string_past}
use Rattle.text.specs.laws.Numbers.{number_past}
use Rattle.text.specs.laws.Words.{word_past}

-- a scalar takes a byte at least and goes wrong no earlier than it starts, and no level is too deep for it
pub scalar_past : (s : Text) (i : ℕ) → Past i (scalar s i)
unfolding scalar text_tree number_tree literal_tree
scalar_past s i =
    pick_past _ (next_past (string_past s i) (λ _ _ h. past h))
    (pick_past _ (next_past (word_past _ _ s i) (λ _ _ h. past h))
    (pick_past _ (next_past (word_past _ _ s i) (λ _ _ h. past h))
    (pick_past _ (next_past (word_past _ _ s i) (λ _ _ h. past h))
    (next_past (number_past s i) (λ _ _ h. past h)))))

pub scalar_forward : Forward scalar
scalar_forward s i = past_forward (scalar_past s i)

pub colon_skip : (s k : Text) (j : ℕ) → skip s j ≤ at (colon s k j)
unfolding colon at
colon_skip s k j =
    let h : skip s j ≤ skip s j + 1 = omega arith in
    at_pick _ _ _ _ h (le_refl _)

pub colon_onward : (s k : Text) (j : ℕ) → j ≤ at (colon s k j)
colon_onward s k j = le_trans (skip_ge s j) (colon_skip s k j)

colon_past : (s k : Text) (i j : ℕ) → i < j → Past i (colon s k j)
unfolding colon
colon_past s k i j h =
    let l : j ≤ skip s j = skip_ge s j in
    pick_past _ (past (omega arith)) (wrong (omega arith))

pub name_past : (s : Text) (i : ℕ) → Past i (name s i)
unfolding name
name_past s i = next_past (string_past s i) (λ k j h. colon_past s k i j h)

pub name_forward : Forward name
name_forward s i = past_forward (name_past s i)

module _ {A : Type 0} (close : ℕ) where
  pub after_skip : (more : Reader (List A)) → Forward more → (s : Text) (x : A) (j : ℕ) → skip s j ≤ at (after close more s x j)
  unfolding after in_front at
  after_skip more go s x j =
      let k : skip s j ≤ skip s j + 1 = omega arith in
      let m : skip s j ≤ at (more s (skip s j + 1)) = omega (arith, go s (skip s j + 1)) in
      at_pick _ _ _ _ k (at_pick _ _ _ _ (at_next _ _ _ m (λ xs n g. g)) (le_refl _))

  pub after_onward : (more : Reader (List A)) → Forward more → (s : Text) (x : A) (j : ℕ) → j ≤ at (after close more s x j)
  after_onward more go s x j = le_trans (skip_ge s j) (after_skip more go s x j)

  module _ (one : Reader A) (go : Forward one) where
    pub items_forward : (n : ℕ) → Forward (items one close n)
    unfolding items at
    items_forward zero s i = le_refl i
    items_forward (suc n) s i =
        let h : i ≤ at (one s (skip s i)) = omega (arith, skip_ge s i, go s (skip s i)) in
        at_next _ _ i h (λ x j g. le_trans g (after_onward (items one close n) (items_forward n) s x j))

    pub items_skip : (n : ℕ) (s : Text) (i : ℕ) → skip s i ≤ at (items one close (suc n) s i)
    unfolding items
    items_skip n s i = at_next _ _ _ (go s (skip s i)) (λ x j g. le_trans g (after_onward (items one close n) (items_forward n) s x j))

    pub many_skip : (s : Text) (i : ℕ) → skip s i ≤ at (many one close s i)
    unfolding many at
    many_skip s i =
        let k : skip s i ≤ skip s i + 1 = omega arith in
        at_pick _ _ _ _ k (items_skip _ s i)

    pub many_forward : Forward (many one close)
    many_forward s i = le_trans (skip_ge s i) (many_skip s i)

pub named_skip : (v : Reader Tree) → Forward v → (s k : Text) (j : ℕ) → skip s j ≤ at (named v s k j)
unfolding named bound at
named_skip v go s k j = at_next _ _ _ (go s (skip s j)) (λ t n g. g)

pub named_onward : (v : Reader Tree) → Forward v → (s k : Text) (j : ℕ) → j ≤ at (named v s k j)
named_onward v go s k j = le_trans (skip_ge s j) (named_skip v go s k j)

pub member_forward : (v : Reader Tree) → Forward v → Forward (member v)
unfolding member
member_forward v go s i = at_next _ _ i (name_forward s i) (λ k j h. le_trans h (named_onward v go s k j))

pub either_forward : (s : Text) (i : ℕ) (x y : Out Tree) → i ≤ at x → i ≤ at y → i ≤ at (either s i x y)
unfolding either
either_forward s i x y g h = at_pick _ _ _ i g (at_pick _ _ _ i h (scalar_forward s i))

-- what stands between the brackets and between the braces, with so many levels inside
module _ (l : ℕ) (go : Forward (value l)) (s : Text) (i : ℕ) where
  pub array_forward : i ≤ at (next (many (value l) 93 s (i + 1)) array_tree)
  unfolding array_tree at
  array_forward =
      let a : i ≤ at (many (value l) 93 s (i + 1)) = omega (arith, many_forward 93 (value l) go s (i + 1)) in
      at_next _ _ i a (λ ts j h. h)

  pub object_forward : i ≤ at (next (many (member (value l)) 125 s (i + 1)) object_tree)
  unfolding object_tree at
  object_forward =
      let o : i ≤ at (many (member (value l)) 125 s (i + 1)) = omega (arith, many_forward 125 (member (value l)) (member_forward _ go) s (i + 1)) in
      at_next _ _ i o (λ ms j h. h)

pub value_forward : (l : ℕ) → Forward (value l)
unfolding value at
value_forward zero s i = either_forward s i _ _ (le_refl i) (le_refl i)
value_forward (suc l) s i = either_forward s i _ _ (array_forward l (value_forward l) s i) (object_forward l (value_forward l) s i)

pub ending_skip : (s : Text) (x : Tree) (j : ℕ) → skip s j ≤ at (ending s x j)
unfolding ending at
ending_skip s x j = at_pick _ _ _ _ (le_refl _) (le_refl _)

pub item_forward : (object : Bool) (l : ℕ) → Forward (item object l)
item_forward true l = member_forward (value l) (value_forward l)
item_forward false l = value_forward l
