-- Each text stands once in the table of names: so a position that stands there is the first whose text is its own. Assumes nothing.
use Rattle.std.proofs.Math.Path.{◌≡◌, refl, sym, ap}
use Rattle.std.proofs.Common.{◌∙◌}
use Rattle.std.specs.Prelude.{Bool, ◌||◌, ◌&&◌, take, replicate}
use Rattle.std.proofs.Math.Bool.{true, false, not}
use mathlib.Core.List.{List, [], ◌∷◌, ◌++◌}
use Prim.Native.Nat.{ℕ, zero, suc, ◌+◌, ◌-◌, ◌<◌}
use native.Mathlib.Omega.{arith}
use Rattle.std.proofs.Math.Dec.{eqb}
use Rattle.std.proofs.Math.ListN.{length}
use borrow.Author.Tests.{ne_eqb, eqb-true}
use Rattle.text.specs.Reading.{Text, pick}
use Rattle.text.specs.laws.Readers.{pick_true, pick_false}
use Rattle.grammar.specs.Tree.{same}
use Rattle.grammar.proofs.laws.Order.{same_true, same_refl}
use Rattle.manifest.specs.Rows.{any, first_or}
use Rattle.manifest.proofs.laws.Bools.{halves}
use Rattle.manifest.proofs.laws.Lists.{any_append}
use Rattle.index.specs.Index.{text_at}
use Rattle.named.specs.Named.{without_at, distinct_at, name_places, name_table, is_called}
use Rattle.named.specs.laws.Firsts.{called_itself}

-- ---- what some or none of a list passes

any_member : (f : ℕ → Bool) (p : ℕ) (l : List ℕ) → any (λ q. eqb q p) l ≡ true → any f l ≡ false → f p ≡ false
unfolding any
any_member f p [] h e = let z : ◌≡◌ {A = ℕ} 0 1 = cc in absurd (omega arith)
any_member f p (q ∷ l) h e = go (eqb q p) refl (λ m. any_member f p l m (halves (f q) (any f l) e).1)
  where
    go : (b : Bool) → eqb q p ≡ b → (any (λ r. eqb r p) l ≡ true → f p ≡ false) → f p ≡ false
    go true g more = ap f (sym (eqb-true q p g)) ∙ (halves (f q) (any f l) e).0
    go false g more = more (sym (ap (λ (b : Bool). b || any (λ r. eqb r p) l) g) ∙ h)

first_none : (d : ℕ) (f : ℕ → Bool) (l : List ℕ) (i : ℕ) → any f l ≡ false → first_or d f l i ≡ d
unfolding any first_or
first_none d f [] i e = refl
first_none d f (q ∷ l) i e = pick_false _ _ (halves (f q) (any f l) e).0 ∙ first_none d f l (suc i) (halves (f q) (any f l) e).1

module _ (s : Text) where
  -- ---- no two of a list have one text

  unfoldable pub Once : List ℕ → Type 0
  Once [] = Unit
  Once (q ∷ l) = (any (is_called s q) l ≡ false) × Once l

  -- a position of such a list is the first whose text is its own
  module _ (p : ℕ) (some : p ≡ 0 → ⊥) where
    swapped : (q : ℕ) → is_called s q p ≡ false → is_called s p q ≡ false
    unfolding is_called
    swapped q e = go (same (text_at s p) (text_at s q)) refl
      where
        no : same (text_at s q) (text_at s p) ≡ false
        no = sym (ap (λ (b : Bool). not b && same (text_at s q) (text_at s p)) (ne_eqb p 0 some)) ∙ e

        never : {A : Type 0} → same (text_at s p) (text_at s q) ≡ true → A
        never h =
            let t : same (text_at s q) (text_at s p) ≡ true = ap (λ (u : Text). same (text_at s q) u) (same_true _ _ h) ∙ same_refl (text_at s q) in
            let z : true ≡ false = sym t ∙ no in
            let y : ◌≡◌ {A = ℕ} 0 1 = cc in absurd (omega arith)

        go : (b : Bool) → same (text_at s p) (text_at s q) ≡ b → (not (eqb q 0) && same (text_at s p) (text_at s q)) ≡ false
        go true h = never h
        go false h = ap (λ (b : Bool). not (eqb q 0) && b) h ∙ last (not (eqb q 0))
          where
            last : (b : Bool) → (b && false) ≡ false
            last true = refl
            last false = refl

    found : (l : List ℕ) (i : ℕ) → Once l → any (λ q. eqb q p) l ≡ true → first_or 32 (λ q. eqb q p) l i + 1 ≡ first_or 0 (is_called s p) l (i + 1)
    unfolding any first_or Once
    found [] i o h = let z : ◌≡◌ {A = ℕ} 0 1 = cc in absurd (omega arith)
    found (q ∷ l) i o h = go (eqb q p) refl (found l (suc i) o.1)
      where
        go : (b : Bool) → eqb q p ≡ b → (any (λ r. eqb r p) l ≡ true → first_or 32 (λ r. eqb r p) l (suc i) + 1 ≡ first_or 0 (is_called s p) l (suc i + 1)) → first_or 32 (λ r. eqb r p) (q ∷ l) i + 1 ≡ first_or 0 (is_called s p) (q ∷ l) (i + 1)
        go true g more =
            let e : q ≡ p = eqb-true q p g in
            ap (λ (n : ℕ). n + 1) (pick_true _ _ g) ∙ sym (pick_true _ _ (sym (called_itself s p q (λ z. some (sym e ∙ z)) e)))
        go false g more =
            let m : any (λ r. eqb r p) l ≡ true = sym (ap (λ (b : Bool). b || any (λ r. eqb r p) l) g) ∙ h in
            let n : suc i + 1 ≡ suc (i + 1) = omega arith in
            ap (λ (k : ℕ). k + 1) (pick_false _ _ g) ∙ more m ∙ ap (first_or 0 (is_called s p) l) n
            ∙ sym (pick_false _ _ (swapped q (any_member (is_called s q) p l m o.0)))

    pub placed_first : (l : List ℕ) → Once l → first_or 32 (λ q. eqb q p) l 0 < 32 → first_or 32 (λ q. eqb q p) l 0 + 1 ≡ first_or 0 (is_called s p) l 1
    placed_first l o h = go (any (λ q. eqb q p) l) refl
      where
        go : (b : Bool) → any (λ q. eqb q p) l ≡ b → first_or 32 (λ q. eqb q p) l 0 + 1 ≡ first_or 0 (is_called s p) l 1
        go true e = found l 0 o e
        go false e = let z : first_or 32 (λ q. eqb q p) l 0 ≡ 32 = first_none 32 (λ q. eqb q p) l 0 e in absurd (omega arith)

  -- ---- the table is such a list

  any_without : (f : ℕ → Bool) (p : ℕ) (l : List ℕ) → any f l ≡ false → any f (without_at s p l) ≡ false
  unfolding any without_at pick
  any_without f p [] e = refl
  any_without f p (q ∷ l) e = go (same (text_at s q) (text_at s p)) (any_without f p l (halves (f q) (any f l) e).1)
    where
      go : (b : Bool) → any f (without_at s p l) ≡ false → any f (pick b (without_at s p l) (q ∷ without_at s p l)) ≡ false
      go true h = h
      go false h = λ t. (halves (f q) (any f l) e).0 t || h t

  -- what is left has another text
  other : (p q : ℕ) → same (text_at s q) (text_at s p) ≡ false → is_called s p q ≡ false
  unfolding is_called
  other p q e = go (same (text_at s p) (text_at s q)) refl
    where
      never : {A : Type 0} → same (text_at s p) (text_at s q) ≡ true → A
      never h =
          let t : same (text_at s q) (text_at s p) ≡ true = ap (λ (u : Text). same (text_at s q) u) (same_true _ _ h) ∙ same_refl (text_at s q) in
          let z : true ≡ false = sym t ∙ e in
          let y : ◌≡◌ {A = ℕ} 0 1 = cc in absurd (omega arith)

      last : (b : Bool) → (b && false) ≡ false
      last true = refl
      last false = refl

      go : (b : Bool) → same (text_at s p) (text_at s q) ≡ b → (not (eqb q 0) && same (text_at s p) (text_at s q)) ≡ false
      go true h = never h
      go false h = ap (λ (b : Bool). not (eqb q 0) && b) h ∙ last (not (eqb q 0))

  none_without : (p : ℕ) (l : List ℕ) → any (is_called s p) (without_at s p l) ≡ false
  unfolding any without_at pick
  none_without p [] = refl
  none_without p (q ∷ l) = go (same (text_at s q) (text_at s p)) refl (none_without p l)
    where
      go : (b : Bool) → same (text_at s q) (text_at s p) ≡ b → any (is_called s p) (without_at s p l) ≡ false → any (is_called s p) (pick b (without_at s p l) (q ∷ without_at s p l)) ≡ false
      go true e h = h
      go false e h = λ t. other p q e t || h t

  once_without : (p : ℕ) (l : List ℕ) → Once l → Once (without_at s p l)
  unfolding Once without_at pick
  once_without p [] o = tt
  once_without p (q ∷ l) o = go (same (text_at s q) (text_at s p)) (once_without p l o.1)
    where
      go : (b : Bool) → Once (without_at s p l) → Once (pick b (without_at s p l) (q ∷ without_at s p l))
      go true h = h
      go false h = (any_without (is_called s q) p l o.0, h)

  once_distinct : (l : List ℕ) → Once (distinct_at s l)
  unfolding Once distinct_at
  once_distinct [] = tt
  once_distinct (p ∷ l) = (none_without p (distinct_at s l), once_without p (distinct_at s l) (once_distinct l))

  any_take : (f : ℕ → Bool) (n : ℕ) (l : List ℕ) → any f l ≡ false → any f (take n l) ≡ false
  unfolding any
  any_take f zero l e = refl
  any_take f (suc n) [] e = refl
  any_take f (suc n) (q ∷ l) e = λ t. (halves (f q) (any f l) e).0 t || any_take f n l (halves (f q) (any f l) e).1 t

  once_take : (n : ℕ) (l : List ℕ) → Once l → Once (take n l)
  unfolding Once
  once_take zero l o = tt
  once_take (suc n) [] o = tt
  once_take (suc n) (q ∷ l) o = (any_take (is_called s q) n l o.0, once_take n l o.1)

  -- no name stands at 0
  any_zeros : (q n : ℕ) → any (is_called s q) (replicate n 0) ≡ false
  unfolding any is_called
  any_zeros q zero = refl
  any_zeros q (suc n) = any_zeros q n

  once_zeros : (l : List ℕ) (n : ℕ) → Once l → Once (l ++ replicate n 0)
  unfolding Once
  once_zeros [] zero o = tt
  once_zeros [] (suc n) o = (any_zeros 0 n, once_zeros [] n tt)
  once_zeros (q ∷ l) n o = (any_append (is_called s q) l (replicate n 0) ∙ (λ t. o.0 t || any_zeros q n t), once_zeros l n o.1)

  pub names_once : (ix : List ℕ) → Once (name_table s ix)
  unfolding name_table name_places
  names_once ix = once_zeros (take 32 (name_places s ix)) (32 - length (take 32 (name_places s ix))) (once_take 32 (name_places s ix) (once_distinct _))
