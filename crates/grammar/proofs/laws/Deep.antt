-- Where reading goes too deep stands a bracket or a brace.
use Rattle.std.specs.Prelude.{◌≡◌, refl, ◌⊎◌, length}
use Rattle.std.proofs.Common.{sym, ap, ◌∙◌, inl, inr}
use Prim.Native.Nat.{ℕ, zero, suc, ◌+◌}
use Rattle.text.specs.Reading.{Text, Out, done, bad, deep, Reader, next, peek}
use Rattle.text.specs.Class.{skip}
use Rattle.text.specs.laws.Readers.{pick_case, deep_done, deep_bad, past_deep}
use Rattle.grammar.specs.Tree.{Tree}
use Rattle.grammar.specs.Document.{array_tree, object_tree, in_front, after, items, many, name, bound, named, member, value, ending, most, read}
use Rattle.grammar.proofs.laws.Forward.{scalar_past, name_past}
use Rattle.grammar.proofs.laws.Firm.{after_case, many_case, either_case}

done_deep : {C A : Type 0} {a : A} {n p : ℕ} → done a n ≡ deep p → C
done_deep e = absurd (deep_done (sym e))

bad_deep : {C A : Type 0} {n p : ℕ} → ◌≡◌ {A = Out A} (bad n) (deep p) → C
bad_deep e = absurd (deep_bad (sym e))

deep_at : {A : Type 0} {i n : ℕ} → ◌≡◌ {A = Out A} (deep n) (deep i) → n ≡ i
deep_at e = cc

next_deep_case : {A B C : Type 0} (o : Out A) (f : A → ℕ → Out B) {p : ℕ} → next o f ≡ deep p → (o ≡ deep p → C) → ((a : A) (j : ℕ) → o ≡ done a j → f a j ≡ deep p → C) → C
unfolding next
next_deep_case (done a j) f e g h = h a j refl e
next_deep_case (bad i) f e g h = bad_deep e
next_deep_case (deep i) f e g h = g (ap deep (deep_at e))

abbrev pub Opens : {A : Type 0} → Reader A → Type 0
Opens r = (s : Text) (i p : ℕ) → r s i ≡ deep p → (peek s p ≡ 91) ⊎ (peek s p ≡ 123)

module _ {A : Type 0} (one : Reader A) (close : ℕ) (opens : Opens one) where
  items_opens : (n : ℕ) → Opens (items one close n)
  unfolding items in_front
  items_opens zero s i p e = bad_deep e
  items_opens (suc n) s i p e =
      next_deep_case (one s (skip s i)) (after close (items one close n) s) e
      (opens s (skip s i) p)
      (λ x j _ w. after_case close (items one close n) s x j w
      (λ _ y. done_deep y)
      (λ _ _ y. next_deep_case (items one close n s (skip s j + 1)) (in_front x) y (items_opens n s (skip s j + 1) p) (λ _ _ _ v. done_deep v))
      (λ _ _ y. bad_deep y))

  many_opens : Opens (many one close)
  many_opens s i p e = many_case one close s i e (λ _ y. done_deep y) (λ _ y. items_opens (suc (length s)) s i p y)

member_opens : (v : Reader Tree) → Opens v → Opens (member v)
unfolding member named bound
member_opens v opens s i p e =
    next_deep_case (name s i) (named v s) e
    (λ d. absurd (past_deep (name_past s i) d))
    (λ k j _ w. next_deep_case (v s (skip s j)) (bound k) w (opens s (skip s j) p) (λ _ _ _ y. done_deep y))

pub value_opens : (l : ℕ) → Opens (value l)
unfolding value array_tree object_tree
value_opens zero s i p e =
    either_case s i _ _ e
    (λ h d. inl (ap (peek s) (sym (deep_at d)) ∙ h))
    (λ h d. inr (ap (peek s) (sym (deep_at d)) ∙ h))
    (λ _ _ d. absurd (past_deep (scalar_past s i) d))
value_opens (suc l) s i p e =
    either_case s i _ _ e
    (λ _ d. next_deep_case (many (value l) 93 s (i + 1)) array_tree d (many_opens (value l) 93 (value_opens l) s (i + 1) p) (λ _ _ _ y. done_deep y))
    (λ _ d. next_deep_case (many (member (value l)) 125 s (i + 1)) object_tree d (many_opens (member (value l)) 125 (member_opens (value l) (value_opens l)) s (i + 1) p) (λ _ _ _ y. done_deep y))
    (λ _ _ d. absurd (past_deep (scalar_past s i) d))

pub read_opens : (s : Text) (p : ℕ) → read s ≡ deep p → (peek s p ≡ 91) ⊎ (peek s p ≡ 123)
unfolding read ending
read_opens s p e =
    next_deep_case (value most s (skip s 0)) (ending s) e
    (value_opens most s (skip s 0) p)
    (λ x j _ w. pick_case _ _ _ w (λ _ y. done_deep y) (λ _ y. bad_deep y))
