-- What the reader's answers mean, beside their definition. Assumes nothing.
use Rattle.std.specs.Prelude.{◌≡◌, refl, ◌⊎◌, ℕ, suc, ◌+◌, ◌≤◌, ◌<◌, length, take}
use Rattle.std.proofs.Common.{sym, ap, ◌∙◌, ⊎_elim, arith}
use mathlib.Core.List.{List, ◌∷◌, ◌++◌, Permᴰ}
use Rattle.text.specs.Reading.{Text, Out, done, bad, deep, next, peek}
use Rattle.text.specs.Class.{skip}
use Rattle.text.specs.laws.Peek.{peek_in}
use Rattle.text.specs.laws.Readers.{at}
use Rattle.grammar.specs.Tree.{Tree, members, get}
use Rattle.grammar.specs.Document.{value, ending, most, read}
use Rattle.grammar.proofs.laws.Local.{read_local, agree_take}
use Rattle.grammar.proofs.laws.Bounded.{read_bounded}
use Rattle.grammar.proofs.laws.Complete.{completed}
use Rattle.grammar.proofs.laws.Clean.{clean_done}
use Rattle.grammar.proofs.laws.Bytes.{read_clean}
use Rattle.grammar.proofs.laws.Deep.{read_opens}
use Rattle.grammar.proofs.laws.Levels as levels
use Rattle.grammar.proofs.laws.Order as order

-- (i) Where a text is bad at p, so is every text with the same first p + 1 bytes, whatever follows: no well-formed text begins with them.
-- Where p is the length, only the text itself has the same first p + 1 bytes: its end is what is wrong.
pub bad_local : (s t : Text) (p : ℕ) → read s ≡ bad p → take (suc p) s ≡ take (suc p) t → read t ≡ bad p
unfolding at
bad_local s t p e h =
    let q : p ≡ at (read s) = sym (ap at e) in
    read_local s t (rw q at (agree_take s t p h)) ∙ e

-- (ii) The first p bytes begin a well-formed text: some bytes u complete them.
pub bad_complete : (s : Text) (p : ℕ) → read s ≡ bad p → (u : Text) × ((k : ℕ) → k < length u → peek u k < 256) × (t : Tree) × (n : ℕ) × (read (take p s ++ u) ≡ done t n)
bad_complete s p e = completed s p e

-- What is read is bytes, up to where it ends: no number from 256 on is taken for one.
pub done_bytes : (s : Text) (t : Tree) (n : ℕ) → read s ≡ done t n → (k : ℕ) → k < n → peek s k < 256
done_bytes s t n e k l = (clean_done (read_clean s) e).byte k (omega arith) l

-- The bad position is a byte of the text or its end.
pub bad_inside : (s : Text) (p : ℕ) → read s ≡ bad p → p ≤ length s
unfolding at
bad_inside s p e = let q : at (read s) ≡ p = ap at e in omega (arith, read_bounded s)

-- One level too many is judged by the bytes up to the one that opens it.
pub deep_local : (s t : Text) (p : ℕ) → read s ≡ deep p → take (suc p) s ≡ take (suc p) t → read t ≡ deep p
unfolding at
deep_local s t p e h =
    let q : p ≡ at (read s) = sym (ap at e) in
    read_local s t (rw q at (agree_take s t p h)) ∙ e

-- How the limit of levels and the bad byte stand to each other. A text read with at most so many levels, of which `read` has 16:
unfoldable pub with_levels : ℕ → Text → Out Tree
with_levels l s = next (value l s (skip s 0)) (ending s)

pub read_levels : (s : Text) → read s ≡ with_levels most s
unfolding read with_levels
read_levels s = refl

-- What is read with so many levels is read as the same with more;
pub done_unlimited : (s : Text) (t : Tree) (n l m : ℕ) → with_levels l s ≡ done t n → with_levels (suc m + l) s ≡ done t n
unfolding with_levels
done_unlimited s t n l m e = levels.more_done (levels.ending_more m l s) e

-- what is bad is bad at the same byte with more: the bad byte is judged with no limit in mind;
pub bad_unlimited : (s : Text) (p l m : ℕ) → with_levels l s ≡ bad p → with_levels (suc m + l) s ≡ bad p
unfolding with_levels
bad_unlimited s p l m e = levels.more_bad (levels.ending_more m l s) e

-- and what is too deep at p goes on past p with more: but for the levels nothing is wrong up to p, p among them.
pub deep_unlimited : (s : Text) (p l m : ℕ) → with_levels l s ≡ deep p → p < at (with_levels (suc m + l) s)
unfolding with_levels
deep_unlimited s p l m e = levels.more_deep (levels.ending_more m l s) e

-- What is too deep is a bracket or a brace.
pub deep_opens : (s : Text) (p : ℕ) → read s ≡ deep p → (peek s p ≡ 91) ⊎ (peek s p ≡ 123)
deep_opens s p e = read_opens s p e

-- So its position is a byte of the text.
pub deep_inside : (s : Text) (p : ℕ) → read s ≡ deep p → p < length s
deep_inside s p e = ⊎_elim (λ h. peek_in s p (omega arith)) (λ h. peek_in s p (omega arith)) (read_opens s p e)

-- A value that is read with so many levels is read as the same with one more.
pub value_more : (l : ℕ) (s : Text) (i : ℕ) (t : Tree) (j : ℕ) → value l s i ≡ done t j → value (suc l) s i ≡ done t j
value_more l s i t j e = levels.value_more l s i t j e

-- A member with another name, put in anywhere, changes nothing.
pub get_other : (n k : Text) (t : Tree) (xs ys : List (Text × Tree)) → (k ≡ n → ⊥) → get n (members (xs ++ ((k, t) ∷ ys))) ≡ get n (members (xs ++ ys))
get_other n k t xs ys h = order.get_after n xs _ _ (order.get_skip n k t ys h)

-- Two neighbours with different names may change places.
pub get_swap : (n j k : Text) (t u : Tree) (xs ys : List (Text × Tree)) → (j ≡ k → ⊥) → get n (members (xs ++ ((j, t) ∷ (k, u) ∷ ys))) ≡ get n (members (xs ++ ((k, u) ∷ (j, t) ∷ ys)))
get_swap n j k t u xs ys h = order.get_after n xs _ _ (order.swap_here n j k t u ys h)

-- Members in any other order give the same values, in some order.
pub get_permuted : (n : Text) (xs ys : List (Text × Tree)) → Permᴰ xs ys → Permᴰ (get n (members xs)) (get n (members ys))
get_permuted n xs ys p = order.get_permutes n p

-- And where a name has one member or none, just the same.
pub get_single : (n : Text) (xs ys : List (Text × Tree)) → Permᴰ xs ys → length (get n (members xs)) ≤ 1 → get n (members ys) ≡ get n (members xs)
get_single n xs ys p h = order.short_order (order.get_permutes n p) h
