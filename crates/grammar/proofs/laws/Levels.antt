-- More levels change nothing but that a reading which went too deep goes on past the byte where it did.
use Rattle.std.specs.Prelude.{◌≡◌, Bool, true, false, List}
use Rattle.std.proofs.Common.{sym, subst, le_trans}
use Prim.Native.Nat.{ℕ, zero, suc, ◌+◌, ◌≤◌, ◌<◌}
use native.Mathlib.Omega.{arith}
use Rattle.std.proofs.Math.Nat.{le_refl}
use Rattle.text.specs.Reading.{Text, Out, done, bad, deep, Reader, next, pick}
use Rattle.text.specs.Class.{skip}
use Rattle.text.specs.laws.Peek.{skip_ge}
use Rattle.text.specs.laws.Readers.{at, at_next, Forward, bad_done, done_bad, deep_done, deep_bad, Past, past, wrong}
use Rattle.grammar.specs.Tree.{Tree}
use Rattle.grammar.specs.Document.{array_tree, object_tree, in_front, after, items, many, bound, named, member, either, value, ending}
use Rattle.grammar.proofs.laws.Forward.{scalar_past, name_past, after_onward, items_forward, many_forward, named_onward, member_forward, value_forward, ending_skip}

-- the second reading with more levels than the first
pub data More {A : Type 0} : Out A → Out A → Type 0 where
  still_done : {a : A} {n : ℕ} → More (done a n) (done a n)
  still_bad : {p : ℕ} → More (bad p) (bad p)
  onward : {p : ℕ} {y : Out A} → p < at y → More (deep p) y

-- what reads with no levels
equal : {A : Type 0} {i : ℕ} {x : Out A} → Past i x → More x x
equal (past h) = still_done
equal (wrong h) = still_bad

next_more : {A B : Type 0} {o o' : Out A} {f f' : A → ℕ → Out B} → More o o' → ((a : A) (j : ℕ) → More (f a j) (f' a j)) → ((a : A) (j : ℕ) → j ≤ at (f' a j)) → More (next o f) (next o' f')
unfolding next
next_more (still_done {a = a} {n = j}) g on = g a j
next_more still_bad g on = still_bad
next_more {o' = o'} (onward h) g on = onward (at_next o' _ _ h (λ a j l. le_trans l (on a j)))

pick_more : {A : Type 0} (t : Bool) {x x' y y' : Out A} → More x x' → More y y' → More (pick t x y) (pick t x' y')
unfolding pick
pick_more true g h = g
pick_more false g h = h

-- a reader with more levels than another
abbrev pub Deeper : {A : Type 0} → Reader A → Reader A → Type 0
Deeper r r' = (s : Text) (i : ℕ) → More (r s i) (r' s i)

module _ {A : Type 0} (close : ℕ) where
  after_more : (r r' : Reader (List A)) → Deeper r r' → (s : Text) (x : A) (j : ℕ) → More (after close r s x j) (after close r' s x j)
  unfolding after in_front at
  after_more r r' h s x j = pick_more _ still_done (pick_more _ (next_more (h s _) (λ a k. still_done) (λ a k. le_refl k)) still_bad)

  module _ (one one' : Reader A) (go : Forward one') (h : Deeper one one') where
    items_more : (n : ℕ) → Deeper (items one close n) (items one' close n)
    unfolding items
    items_more zero s i = still_bad
    items_more (suc n) s i =
        next_more (h s _) (after_more _ _ (items_more n) s) (after_onward close (items one' close n) (items_forward close one' go n) s)

    many_more : Deeper (many one close) (many one' close)
    unfolding many
    many_more s i = pick_more _ still_done (items_more _ s i)

member_more : (v v' : Reader Tree) → Forward v' → Deeper v v' → Deeper (member v) (member v')
unfolding member named bound at
member_more v v' go h s i = next_more (equal (name_past s i)) (λ k j. next_more (h s _) (λ a n. still_done) (λ a n. le_refl n)) (named_onward v' go s)

either_more : (s : Text) (i : ℕ) (x x' y y' : Out Tree) → More x x' → More y y' → More (either s i x y) (either s i x' y')
unfolding either
either_more s i x x' y y' g h = pick_more _ g (pick_more _ h (equal (scalar_past s i)))

-- between brackets or braces, the reading goes on past the byte that opens
array_past : (l : ℕ) (s : Text) (i : ℕ) → i < at (next (many (value l) 93 s (i + 1)) array_tree)
unfolding array_tree at
array_past l s i =
    let a : i < at (many (value l) 93 s (i + 1)) = omega (arith, many_forward 93 (value l) (value_forward l) s (i + 1)) in
    at_next _ _ _ a (λ ts j h. h)

object_past : (l : ℕ) (s : Text) (i : ℕ) → i < at (next (many (member (value l)) 125 s (i + 1)) object_tree)
unfolding object_tree at
object_past l s i =
    let o : i < at (many (member (value l)) 125 s (i + 1)) = omega (arith, many_forward 125 (member (value l)) (member_forward _ (value_forward l)) s (i + 1)) in
    at_next _ _ _ o (λ ms j h. h)

pub value_level : (l : ℕ) → Deeper (value l) (value (suc l))
unfolding value array_tree object_tree at
value_level zero s i = either_more s i _ _ _ _ (onward (array_past zero s i)) (onward (object_past zero s i))
value_level (suc l) s i =
    either_more s i _ _ _ _
    (next_more (many_more 93 _ _ (value_forward (suc l)) (value_level l) s _) (λ ts j. still_done) (λ ts j. le_refl j))
    (next_more (many_more 125 _ _ (member_forward _ (value_forward (suc l))) (member_more _ _ (value_forward (suc l)) (value_level l)) s _) (λ ms j. still_done) (λ ms j. le_refl j))

-- what `More` says of each outcome
module _ {A : Type 0} where
  pub more_done : {x y : Out A} {a : A} {n : ℕ} → More x y → x ≡ done a n → y ≡ done a n
  more_done still_done e = e
  more_done still_bad e = absurd (bad_done e)
  more_done (onward h) e = absurd (deep_done e)

  pub more_bad : {x y : Out A} {p : ℕ} → More x y → x ≡ bad p → y ≡ bad p
  more_bad still_done e = absurd (done_bad e)
  more_bad still_bad e = e
  more_bad (onward h) e = absurd (deep_bad e)

  pub more_deep : {x y : Out A} {p : ℕ} → More x y → x ≡ deep p → p < at y
  more_deep still_done e = absurd (deep_done (sym e))
  more_deep still_bad e = absurd (deep_bad (sym e))
  more_deep {p = p} (onward {p = q} h) e = let z : q ≡ p = cc in omega arith

  -- one step after another
  pub more_then : {x y z : Out A} → More x y → More y z → More x z
  unfolding at
  more_then still_done h = h
  more_then still_bad h = h
  more_then (onward g) still_done = onward g
  more_then (onward g) still_bad = onward g
  more_then (onward {p = p} g) (onward {p = q} {y = z} h) = let l : p < at z = omega arith in onward l

-- a value that is read with so many levels is read as the same with one more
pub value_more : (l : ℕ) (s : Text) (i : ℕ) (t : Tree) (j : ℕ) → value l s i ≡ done t j → value (suc l) s i ≡ done t j
value_more l s i t j e = more_done (value_level l s i) e

-- a value and a whole text with any number of levels more
pub levels_more : (n l : ℕ) → Deeper (value l) (value (suc n + l))
levels_more zero l s i = let z : suc l ≡ 1 + l = omega arith in subst (λ (m : ℕ). More (value l s i) (value m s i)) z (value_level l s i)
levels_more (suc n) l s i =
    let z : suc (suc n + l) ≡ suc (suc n) + l = omega arith in
    subst (λ (m : ℕ). More (value l s i) (value m s i)) z (more_then (levels_more n l s i) (value_level (suc n + l) s i))

pub ending_more : (n l : ℕ) (s : Text) → More (next (value l s (skip s 0)) (ending s)) (next (value (suc n + l) s (skip s 0)) (ending s))
unfolding ending
ending_more n l s = next_more (levels_more n l s (skip s 0)) (λ t j. pick_more _ still_done still_bad) (λ t j. le_trans (skip_ge s j) (ending_skip s t j))
