-- The items of an array and the members of an object in the text, one after the other, and what was found so far with what is to come. Assumes nothing.
use mathlib.Core.Path.{◌≡◌, sym, ap, subst, ◌∙◌}
use mathlib.Core.Bool.{Bool, false, ◌||◌, or-false, or_assoc}
use mathlib.Core.List.{List, [], ◌∷◌}
use Prim.Native.Nat.{ℕ, zero, suc, ◌+◌, ◌<◌, ◌≤◌}
use native.Mathlib.Omega.{arith}
use lib.ListN.{length}
use borrow.Author.Tests.{eq-eqb, ne_eqb, eqb-true}
use Rattle.text.specs.Reading.{Text, Out, done, Reader, peek, scan}
use Rattle.text.specs.declared.Scan.{Scan}
use Rattle.text.specs.Class.{skip}
use Rattle.text.specs.laws.Peek.{skip_ge, found_lt}
use Rattle.text.specs.laws.Readers.{Forward, next_inv, pick_case, pick_true, pick_false, past_done, bad_done, done_of, done_at}
use Rattle.grammar.specs.Document.{after, items, many, in_front}
use Rattle.values.specs.laws.Outs.{Gives, gives_done}
use Rattle.manifest.proofs.laws.Bools.{halves}
use Rattle.members.specs.laws.Walked.{reached, Over}

-- ---- one after the other

-- from i on stand xs, with commas between, and past `close` is m
pub data Row {A : Type 0} (one : Reader A) (close : ℕ) (s : Text) : ℕ → List A → ℕ → Type 0 where
  last : {i m : ℕ} {xs : List A} (x : A) (j : ℕ) → one s i ≡ done x j → peek s (skip s j) ≡ close → xs ≡ x ∷ [] → m ≡ skip s j + 1 → Row one close s i xs m
  more : {i m : ℕ} {xs : List A} (x : A) (j : ℕ) (ys : List A) → one s i ≡ done x j → peek s (skip s j) ≡ 44 → xs ≡ x ∷ ys → Row one close s (skip s (skip s j + 1)) ys m → Row one close s i xs m

module _ {A : Type 0} (one : Reader A) (close : ℕ) (s : Text) where
  row_items : (n i : ℕ) {xs : List A} {m : ℕ} → items one close n s i ≡ done xs m → Row one close s (skip s i) xs m
  unfolding items after in_front
  row_items zero i e = absurd (bad_done e)
  row_items (suc n) i {xs} {m} e =
      let w = next_inv (one s (skip s i)) (after close (items one close n) s) e in
      pick_case _ _ _ w.3
      (λ h f. last w.0 w.1 w.2 (eqb-true (peek s (skip s w.1)) close h) (sym (done_of f)) (sym (done_at f)))
      (λ h f. pick_case _ _ _ f
      (λ g u.
      let x = next_inv (items one close n s (skip s w.1 + 1)) (in_front w.0) u in
      more w.0 w.1 x.0 w.2 (eqb-true (peek s (skip s w.1)) 44 g) (sym (done_of x.3))
      (subst (Row one close s (skip s (skip s w.1 + 1)) x.0) (done_at x.3) (row_items n (skip s w.1 + 1) x.2)))
      (λ _ u. absurd (bad_done u)))

  -- at the start: v is past the whitespace at p, b the byte there
  module _ (p : ℕ) {v b : ℕ} (ev : v ≡ skip s p) (eb : b ≡ peek s v) where
    pub many_empty : b ≡ close → {xs : List A} {m : ℕ} → many one close s p ≡ done xs m → ([] ≡ xs) × (v + 1 ≡ m)
    unfolding many
    many_empty h e =
        let f = sym (pick_true _ _ (eq-eqb _ _ (ap (peek s) (sym ev) ∙ sym eb ∙ h))) ∙ e in
        (done_of f, ap (λ (u : ℕ). u + 1) ev ∙ done_at f)

    pub many_row : (b ≡ close → ⊥) → {xs : List A} {m : ℕ} → many one close s p ≡ done xs m → Row one close s v xs m
    unfolding many
    many_row h {xs} {m} e =
        let f = sym (pick_false _ _ (ne_eqb _ _ (λ q. h (eb ∙ ap (peek s) ev ∙ q)))) ∙ e in
        subst (λ (u : ℕ). Row one close s u xs m) (sym ev) (row_items (suc (length s)) p f)

pub row_reads : {A : Type 0} {one : Reader A} {close : ℕ} {s : Text} {i : ℕ} {xs : List A} {m : ℕ} → Row one close s i xs m → (x : A) × (j : ℕ) × (one s i ≡ done x j)
row_reads (last x j e h f g) = (x, j, e)
row_reads (more x j ys e h f r) = (x, j, e)

module _ {A : Type 0} (one : Reader A) (close : ℕ) (s : Text) where
  -- the first of them ends at `end`; k is past the whitespace there, b the byte at it
  module _ (i : ℕ) {end : ℕ} (ends : (x : A) (j : ℕ) → one s i ≡ done x j → end ≡ j) {k b : ℕ} (ek : k ≡ skip s end) (eb : b ≡ peek s k) (small : close < 256) (other : close ≡ 44 → ⊥) where
    there : (x : A) (j : ℕ) → one s i ≡ done x j → k ≡ skip s j
    there x j e = ek ∙ ap (skip s) (ends x j e)

    pub row_inside : {xs : List A} {m : ℕ} → Row one close s i xs m → k < length s
    row_inside (last x j e h f g) = found_lt s k eb (eb ∙ ap (peek s) (there x j e) ∙ h) small
    row_inside (more x j ys e h f r) = found_lt s k eb (eb ∙ ap (peek s) (there x j e) ∙ h) (omega arith)

    pub row_onward : {xs : List A} {m : ℕ} → Forward one → Row one close s i xs m → i ≤ k
    row_onward go (last x j e h f g) = omega (arith, past_done one go s i e, skip_ge s j, there x j e)
    row_onward go (more x j ys e h f r) = omega (arith, past_done one go s i e, skip_ge s j, there x j e)

    pub row_last : {xs : List A} {m : ℕ} → (b ≡ 44 → ⊥) → Row one close s i xs m → (x : A) × (j : ℕ) × (one s i ≡ done x j) × (xs ≡ x ∷ []) × (k + 1 ≡ m)
    row_last ne (last x j e h f g) = (x, j, e, f, ap (λ (u : ℕ). u + 1) (there x j e) ∙ sym g)
    row_last ne (more x j ys e h f r) = absurd (ne (eb ∙ ap (peek s) (there x j e) ∙ h))

    pub row_next : {xs : List A} {m : ℕ} → b ≡ 44 → {u : ℕ} → u ≡ skip s (k + 1) → Row one close s i xs m → (x : A) × (j : ℕ) × (ys : List A) × (one s i ≡ done x j) × (xs ≡ x ∷ ys) × Row one close s u ys m
    row_next q eu (last x j e h f g) = absurd (other (sym h ∙ ap (peek s) (sym (there x j e)) ∙ sym eb ∙ q))
    row_next {xs} {m} q {u} eu (more x j ys e h f r) =
        (x, j, ys, e, f, subst (λ (v : ℕ). Row one close s v ys m) (sym (eu ∙ ap (λ (v : ℕ). skip s (v + 1)) (there x j e))) r)

-- where something was read, the reading ended past it
pub reached_done : {A : Type 0} {v : Scan} {j : ℕ} → j ≡ reached v → (o : Out A) → v ≡ scan o → {a : A} {n : ℕ} → o ≡ done a n → j ≡ n
unfolding scan
reached_done ej o ev e = ej ∙ ap reached (ev ∙ ap scan e)

-- what holds of what was read holds of all that may be read
pub gives_was : {A : Type 0} {P : A → ℕ → Type 0} {o : Out A} {a : A} {n : ℕ} → o ≡ done a n → P a n → Gives P o
gives_was {A} {P} {o} {a} {n} e h = subst (Gives P) (sym e) (gives_done a n h)

-- ---- what was found so far, and what is to come

pub record Sum (all-twice all-ill twice ill rest-twice rest-ill : Bool) : Type 0 where
  pub doubled : all-twice ≡ (twice || rest-twice)
  pub faulty : all-twice ≡ false → all-ill ≡ (ill || rest-ill)

module _ {A B a b r q : Bool} (sum : Sum A B a b r q) where
  -- one more: x twice, y ill in it, where the code found v and w
  pub sum_on : {x y r' q' : Bool} → r ≡ (x || r') → q ≡ (y || q') → {v w : Bool} → v ≡ x → (x ≡ false → w ≡ y) → {a' b' : Bool} → a' ≡ (a || v) → b' ≡ (b || w) → Sum A B a' b' r' q'
  sum_on {x} {y} {r'} {q'} er eq {v} {w} ev ew {a'} {b'} ea eb = record { doubled = twice_on; faulty = λ z. ill_on z }
    where
      all_x : A ≡ (a || (x || r'))
      all_x = sum.doubled ∙ ap (λ (c : Bool). a || c) er

      twice_on : A ≡ (a' || r')
      twice_on = all_x ∙ sym (or_assoc a x r') ∙ ap (λ (c : Bool). c || r') (sym (ea ∙ ap (λ (c : Bool). a || c) ev))

      ill_on : A ≡ false → B ≡ (b' || q')
      ill_on z =
          let n : x ≡ false = (halves x r' (halves a (x || r') (sym all_x ∙ z)).1).0 in
          sum.faulty z ∙ ap (λ (c : Bool). b || c) eq ∙ sym (or_assoc b y q') ∙ ap (λ (c : Bool). c || q') (sym (eb ∙ ap (λ (c : Bool). b || c) (ew n)))

  -- nothing to come
  pub sum_over : r ≡ false → {c : Bool} → c ≡ (b || q) → {k n : ℕ} → k ≡ n → Over (record { end = k; twice = a; ill = c }) n A B
  sum_over z {c} ec e = record {
    ends = e;
    doubled = sym (sum.doubled ∙ ap (λ (x : Bool). a || x) z ∙ or-false a);
    faulty = λ f. ec ∙ sym (sum.faulty f);
  }
