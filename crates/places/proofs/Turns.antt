-- Going through the items of an array or the members of an object, a turn for each, with a result that grows. Assumes nothing.
use mathlib.Core.Path.{◌≡◌, refl, sym, ap, ◌∙◌}
use mathlib.Core.List.{List, [], ◌∷◌}
use Prim.Native.Nat.{ℕ, zero, suc, ◌+◌, ◌≤◌, ◌<◌}
use native.Mathlib.Omega.{arith}
use lib.ListN.{length}
use borrow.Author.Tests.{eq-eqb, ne_eqb}
use Rattle.text.specs.Reading.{Text, Out, done, bad, deep, Reader, next, peek}
use Rattle.text.specs.Class.{skip}
use Rattle.text.specs.laws.Peek.{skip_ge, skip_le, found_in}
use Rattle.text.specs.laws.Readers.{next_was, pick_true, pick_false}
use Rattle.grammar.specs.Document.{after, items, many, in_front}
use Rattle.values.specs.laws.Outs.{Stops, stops_next}

-- f of what was read; z where nothing was
unfoldable pub result : {A B : Type 0} → (List A → B) → B → Out (List A) → B
result f z (done xs j) = f xs
result f z (bad p) = z
result f z (deep p) = z

module _ {A B : Type 0} (f : List A → B) (z : B) where
  pub result_stops : (o : Out (List A)) → Stops o → result f z o ≡ z
  unfolding result
  result_stops (done xs j) h = absurd (h.never xs j refl)
  result_stops (bad p) h = refl
  result_stops (deep p) h = refl

  pub result_front : (g : List A → B) (x : A) → ((xs : List A) → f (x ∷ xs) ≡ g xs) → (o : Out (List A)) → result f z (next o (in_front x)) ≡ result g z o
  unfolding result next in_front
  result_front g x h (done xs j) = h xs
  result_front g x h (bad p) = refl
  result_front g x h (deep p) = refl

-- what is left from an item at v on
pub walk : {A : Type 0} → Reader A → ℕ → ℕ → Reader (List A)
walk one close turns s v = next (one s v) (after close (items one close turns) s)

-- what is left from an item at v on gives r, by f
pub record Left {A B : Type 0} (one : Reader A) (close : ℕ) (s : Text) (f : List A → B) (z r : B) (v : ℕ) : Type 0 where
  pub turns : ℕ
  pub enough : length s ≤ turns + v
  pub same : result f z (walk one close turns s v) ≡ r

module _ {A B : Type 0} (one : Reader A) (close : ℕ) (s : Text) (f : List A → B) (z : B) {r : B} where
  -- at the start: nothing, or an item; v is past the whitespace at i, b the byte there
  module _ (i : ℕ) {v b : ℕ} (ev : v ≡ skip s i) (eb : b ≡ peek s v) (e : result f z (many one close s i) ≡ r) where
    pub many_none : b ≡ close → f [] ≡ r
    unfolding many result
    many_none h = sym (ap (result f z) (pick_true _ _ (eq-eqb _ _ (ap (peek s) (sym ev) ∙ sym eb ∙ h)))) ∙ e

    pub many_some : (b ≡ close → ⊥) → Left one close s f z r v
    unfolding many items walk
    many_some h =
        record {
          turns = length s;
          enough = omega arith;
          same =
              ap (λ (u : ℕ). result f z (walk one close (length s) s u)) ev
              ∙ sym (ap (result f z) (pick_false _ _ (ne_eqb _ _ (λ q. h (eb ∙ ap (peek s) ev ∙ q))))) ∙ e;
        }

  module _ (v : ℕ) (l : Left one close s f z r v) where
    -- no item
    pub turn_none : Stops (one s v) → z ≡ r
    unfolding walk
    turn_none h = sym (result_stops f z _ (stops_next (one s v) _ h)) ∙ l.same

    -- an item x that ends at j; k is past the whitespace there, b the byte at it
    module _ {x : A} {j : ℕ} (e : one s v ≡ done x j) {k b : ℕ} (ek : k ≡ skip s j) (eb : b ≡ peek s k) where
      walked : result f z (after close (items one close l.turns) s x j) ≡ r
      unfolding walk
      walked = sym (ap (result f z) (next_was _ e)) ∙ l.same

      there : b ≡ peek s (skip s j)
      there = eb ∙ ap (peek s) ek

      pub turn_last : b ≡ close → f (x ∷ []) ≡ r
      unfolding after result
      turn_last h = sym (ap (result f z) (pick_true _ _ (eq-eqb _ _ (sym there ∙ h)))) ∙ walked

      pub turn_wrong : (b ≡ close → ⊥) → (b ≡ 44 → ⊥) → z ≡ r
      unfolding after result
      turn_wrong g h = sym (ap (result f z) (pick_false _ _ (ne_eqb _ _ (λ q. g (there ∙ q))) ∙ pick_false _ _ (ne_eqb _ _ (λ q. h (there ∙ q))))) ∙ walked

      -- after a comma, at w, what is left gives the same
      pub turn_more : (b ≡ close → ⊥) → b ≡ 44 → v ≤ j → {w : ℕ} → w ≡ skip s (k + 1) → (g : List A → B) → ((xs : List A) → f (x ∷ xs) ≡ g xs) → (v < w) × (v < length s) × (w ≤ length s) × Left one close s g z r w
      unfolding after walk items
      turn_more c h le {w} ew g q =
          (omega (arith, skip_ge s j, skip_ge s (k + 1)), omega (arith, skip_ge s j, inside), omega (arith, skip_le s (k + 1) (omega (arith, inside))), go l.turns refl)
        where
          inside : k < length s
          inside = found_in s k eb h tt

          on : result g z (items one close l.turns s (skip s j + 1)) ≡ r
          on =
              sym (result_front f z g x q (items one close l.turns s (skip s j + 1)))
              ∙ sym (ap (result f z) (pick_false _ _ (ne_eqb _ _ (λ y. c (there ∙ y))) ∙ pick_true _ _ (eq-eqb _ _ (sym there ∙ h)))) ∙ walked

          start : w ≡ skip s (skip s j + 1)
          start = ew ∙ ap (λ (u : ℕ). skip s (u + 1)) ek

          go : (n : ℕ) → l.turns ≡ n → Left one close s g z r w
          go zero t = absurd (omega (arith, inside, skip_ge s j, l.enough))
          go (suc n) t =
              record {
                turns = n;
                enough = omega (arith, inside, skip_ge s j, skip_ge s (k + 1), l.enough);
                same = ap (λ (u : ℕ). result g z (walk one close n s u)) start ∙ ap (λ (m : ℕ). result g z (items one close m s (skip s j + 1))) (sym t) ∙ on;
              }
