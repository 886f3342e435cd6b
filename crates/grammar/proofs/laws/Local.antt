-- Locality: what a reader finds at a position depends on no byte past that position.
use Rattle.std.specs.Prelude.{◌≡◌, Bool, List, [], ◌∷◌, take, get_or}
use Rattle.std.proofs.Math.Path.{refl, sym, ap}
use Rattle.std.proofs.Common.{◌∙◌, arith, le_trans, get_or-take}
use Rattle.std.proofs.Math.Bool.{true, false}
use Prim.Native.Nat.{ℕ, zero, suc, ◌+◌, ◌≤◌, ◌<◌}
use Rattle.std.proofs.Math.Nat.{le_refl}
use Rattle.std.proofs.Math.ListN.{length}
use Rattle.std.proofs.Math.Dec.{eqb}
use borrow.Author.Tests.{eqb-true}
use Rattle.text.specs.Reading.{Text, Out, done, bad, Reader, next, pick, peek}
use Rattle.text.specs.Class.{skip}
use Rattle.text.specs.laws.Peek.{skip_ge, peek_in}
use Rattle.text.specs.laws.Readers.{at, at_next, Forward, Agree, below, Local, next_local, pick_local, next_ext}
use Rattle.text.specs.laws.Runs.{skip_local}
use Rattle.grammar.specs.Tree.{Tree}
use Rattle.grammar.specs.Document.{array_tree, object_tree, in_front, after, items, many, bound, named, member, either, value, ending, most, read}
use Rattle.grammar.proofs.laws.Scalars.{scalar_local}
use Rattle.grammar.proofs.laws.Names.{name_local}
use Rattle.grammar.proofs.laws.Forward.{after_skip, after_onward, items_forward, items_skip, many_skip, named_skip, named_onward, member_forward, either_forward, array_forward, object_forward, value_forward, ending_skip}

module _ {A : Type 0} (close : ℕ) where
  after_local : (more : Reader (List A)) → Forward more → Local more → (s t : Text) (x : A) (j : ℕ) → Agree s t (at (after close more s x j)) → after close more t x j ≡ after close more s x j
  unfolding after in_front at
  after_local more go loc s t x j w =
      let l : skip s j ≤ at (after close more s x j) = after_skip close more go s x j in
      let e : skip t j ≡ skip s j = skip_local s t j (below l w) in
      let p : peek t (skip s j) ≡ peek s (skip s j) = sym (w.same _ l) in
      rw e (pick_local _ _ _ _ _ _ (ap (λ (b : ℕ). eqb b close) p) (λ _. refl)
      (pick_local _ _ _ _ _ _ (ap (λ (b : ℕ). eqb b 44) p)
      (next_local _ _ _ _ (loc s t _) (λ xs k. le_refl k) (λ a k _. refl))
      (λ _. refl)) w)

  module _ (one : Reader A) (go : Forward one) where
    -- the number of turns does not matter, where it is enough
    after_turns : (s : Text) (n m : ℕ) (x : A) (j : ℕ) → (skip s j < length s → items one close n s (skip s j + 1) ≡ items one close m s (skip s j + 1)) → after close (items one close n) s x j ≡ after close (items one close m) s x j
    unfolding after pick
    after_turns s n m x j h = first (eqb (peek s (skip s j)) close)
      where
        second : (b : Bool) → eqb (peek s (skip s j)) 44 ≡ b → pick b (next (items one close n s (skip s j + 1)) (in_front x)) (bad (skip s j)) ≡ pick b (next (items one close m s (skip s j + 1)) (in_front x)) (bad (skip s j))
        second true e = ap (λ (o : Out (List A)). next o (in_front x)) (h (peek_in s (skip s j) (omega (arith, eqb-true (peek s (skip s j)) 44 e))))
        second false e = refl

        first : (b : Bool) → pick b (done (x ∷ []) (skip s j + 1)) (pick (eqb (peek s (skip s j)) 44) (next (items one close n s (skip s j + 1)) (in_front x)) (bad (skip s j))) ≡ pick b (done (x ∷ []) (skip s j + 1)) (pick (eqb (peek s (skip s j)) 44) (next (items one close m s (skip s j + 1)) (in_front x)) (bad (skip s j)))
        first true = refl
        first false = second (eqb (peek s (skip s j)) 44) refl

    on : (s : Text) (i : ℕ) {x : A} {j : ℕ} → one s (skip s i) ≡ done x j → i ≤ skip s j
    unfolding at
    on s i {x} {j} e =
        let h : at (one s (skip s i)) ≡ j = ap at e in
        omega (arith, skip_ge s i, go s (skip s i), skip_ge s j)

    pub items_turns : (s : Text) (n m i : ℕ) → length s ≤ n + i → length s ≤ m + i → items one close (suc n) s i ≡ items one close (suc m) s i
    unfolding items
    items_turns s zero m i h g = next_ext _ _ _ (λ x j e. after_turns s zero m x j (λ l. absurd (omega (arith, on s i e))))
    items_turns s (suc n) zero i h g = next_ext _ _ _ (λ x j e. after_turns s (suc n) zero x j (λ l. absurd (omega (arith, on s i e))))
    items_turns s (suc n) (suc m) i h g = next_ext _ _ _ (λ x j e. after_turns s (suc n) (suc m) x j (λ l. items_turns s n m (skip s j + 1) (omega (arith, on s i e)) (omega (arith, on s i e))))

    module _ (loc : Local one) where
      items_local : (n : ℕ) → Local (items one close n)
      unfolding items
      items_local zero s t i w = refl
      items_local (suc n) s t i w =
          let e : skip t i ≡ skip s i = skip_local s t i (below (items_skip close one go n s i) w) in
          rw e (next_local _ _ _ _ (loc s t _) (after_onward close (items one close n) (items_forward close one go n) s) (λ x j. after_local (items one close n) (items_forward close one go n) (items_local n) s t x j) w)

      pub many_local : Local (many one close)
      unfolding many
      many_local s t i w =
          let l : skip s i ≤ at (many one close s i) = many_skip close one go s i in
          let e : skip t i ≡ skip s i = skip_local s t i (below l w) in
          let p : peek t (skip s i) ≡ peek s (skip s i) = sym (w.same _ l) in
          let f : ℕ = length s + length t in
          let es : items one close (suc (length s)) s i ≡ items one close (suc f) s i = items_turns s (length s) f i (omega arith) (omega arith) in
          let et : items one close (suc (length t)) t i ≡ items one close (suc f) t i = items_turns t (length t) f i (omega arith) (omega arith) in
          rw e (pick_local _ _ _ _ _ _ (ap (λ (b : ℕ). eqb b close) p) (λ _. refl)
          (λ v. et ∙ items_local (suc f) s t i (rw es at v) ∙ sym es)
          w)

named_local : (v : Reader Tree) → Forward v → Local v → (s t k : Text) (j : ℕ) → Agree s t (at (named v s k j)) → named v t k j ≡ named v s k j
unfolding named bound at
named_local v go loc s t k j w =
    let e : skip t j ≡ skip s j = skip_local s t j (below (named_skip v go s k j) w) in
    rw e (next_local _ _ _ _ (loc s t _) (λ x n. le_refl n) (λ x n _. refl) w)

pub member_local : (v : Reader Tree) → Forward v → Local v → Local (member v)
unfolding member
member_local v go loc s t i w = next_local _ _ _ _ (name_local s t i) (named_onward v go s) (named_local v go loc s t) w

either_local : (s t : Text) (i : ℕ) (x x' y y' : Out Tree) → i ≤ at x → i ≤ at y → (Agree s t (at x) → x' ≡ x) → (Agree s t (at y) → y' ≡ y) → Agree s t (at (either s i x y)) → either t i x' y' ≡ either s i x y
unfolding either
either_local s t i x x' y y' lx ly h g w =
    let p : peek t i ≡ peek s i = sym (w.same _ (either_forward s i x y lx ly)) in
    rw p (pick_local _ _ _ _ _ _ refl h (pick_local _ _ _ _ _ _ refl g (scalar_local s t i)) w)

pub value_local : (l : ℕ) → Local (value l)
unfolding value array_tree object_tree at
value_local zero s t i w = either_local s t i _ _ _ _ (le_refl i) (le_refl i) (λ _. refl) (λ _. refl) w
value_local (suc l) s t i w =
    either_local s t i _ _ _ _
    (array_forward l (value_forward l) s i)
    (object_forward l (value_forward l) s i)
    (next_local _ _ _ _ (many_local 93 (value l) (value_forward l) (value_local l) s t _) (λ ts j. le_refl j) (λ ts j _. refl))
    (next_local _ _ _ _ (many_local 125 (member (value l)) (member_forward _ (value_forward l)) (member_local _ (value_forward l) (value_local l)) s t _) (λ ts j. le_refl j) (λ ts j _. refl))
    w

ending_local : (s t : Text) (x : Tree) (j : ℕ) → Agree s t (at (ending s x j)) → ending t x j ≡ ending s x j
unfolding ending at
ending_local s t x j w =
    let l : skip s j ≤ at (ending s x j) = ending_skip s x j in
    let e : skip t j ≡ skip s j = skip_local s t j (below l w) in
    let p : peek t (skip s j) ≡ peek s (skip s j) = sym (w.same _ l) in
    rw (e, p)

-- what reading a text finds depends on no byte past the position that it finds it at
pub read_local : (s t : Text) → Agree s t (at (read s)) → read t ≡ read s
unfolding read
read_local s t w =
    let l : skip s 0 ≤ at (read s) = at_next _ _ _ (value_forward most s (skip s 0)) (λ x j g. le_trans g (le_trans (skip_ge s j) (ending_skip s x j))) in
    let e : skip t 0 ≡ skip s 0 = skip_local s t 0 (below l w) in
    rw e (next_local _ _ _ _ (value_local most s t _) (λ x j. le_trans (skip_ge s j) (ending_skip s x j)) (ending_local s t) w)

pub agree_take : (s t : Text) (p : ℕ) → take (suc p) s ≡ take (suc p) t → Agree s t p
unfolding peek
agree_take s t p e = record { same = λ k l. sym (get_or-take (suc p) s k 256 (omega arith)) ∙ ap (λ (x : List ℕ). get_or x k 256) e ∙ get_or-take (suc p) t k 256 (omega arith) }
