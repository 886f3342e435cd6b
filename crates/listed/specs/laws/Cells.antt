-- Cells that are settled one after the other: what stays as it was in the index, and what is known of the first positions. Assumes nothing.
use Rattle.std.specs.Prelude.{◌≡◌, Bool, ℕ, suc, ◌+◌, ◌≤◌, ◌<◌, min, eqb, length, get_or, take, set}
use Rattle.std.proofs.Math.Path.{refl, sym}
use Rattle.std.proofs.Common.{ap, ◌∙◌, arith, length-append, length-take, length-set, get_or-set_other, get_or-take, eq-eqb}
use Rattle.std.proofs.Math.Bool.{true, false}
use mathlib.Core.List.{List, [], ◌∷◌, ◌++◌}
use Rattle.std.proofs.Math.Decide.{dec_lt}
use Rattle.std.proofs.Math.ListN.{get_or-append}
use Rattle.std.proofs.lemmas.List.{get_or_at}
use Rattle.std.proofs.lemmas.Bool.{eqb-false}
use Rattle.text.specs.Reading.{Text, pick}
use Rattle.text.specs.laws.Readers.{pick_true}
use Rattle.grammar.specs.Tree.{same}
use Rattle.grammar.proofs.laws.Order.{same_true}
use Rattle.manifest.specs.Rows.{any}
use Rattle.index.specs.Index.{text_at}
use Rattle.listed.specs.Settled.{first_of, with_first, Settled, settled_at, cell_settled, cells_settled}

-- ---- the first positions

-- all of them are positions: none is 0
abbrev pub AllSome : List ℕ → Type 0
AllSome l = (k : ℕ) → k < length l → get_or l k 0 ≡ 0 → ⊥

pub none_some : AllSome []
none_some k h = absurd (omega arith)

-- one more, as far as 32 go
module _ (l : List ℕ) (p : ℕ) where
  pub taken_length : length (take 32 (l ++ p ∷ [])) ≡ min 32 (length l + 1)
  taken_length = length-take 32 (l ++ p ∷ []) ∙ ap (min 32) (length-append l (p ∷ []))

  module _ (k : ℕ) (h : k < 32) where
    pub taken_old : k < length l → get_or (take 32 (l ++ p ∷ [])) k 0 ≡ get_or l k 0
    taken_old b = get_or-take 32 (l ++ p ∷ []) k 0 h ∙ get_or-append l (p ∷ []) 0 k b

    pub taken_new : length l ≡ k → get_or (take 32 (l ++ p ∷ [])) k 0 ≡ p
    taken_new e = get_or-take 32 (l ++ p ∷ []) k 0 h ∙ get_or_at l p [] 0 k e

  taken_some : (p ≡ 0 → ⊥) → AllSome l → AllSome (take 32 (l ++ p ∷ []))
  taken_some n a k h e = go (dec_lt k (length l))
    where
      go : Dec (k < length l) → ⊥
      go (yes b) = a k b (sym (taken_old k (omega (arith, taken_length)) b) ∙ e)
      go (no b) = n (sym (taken_new k (omega (arith, taken_length)) (omega (arith, taken_length))) ∙ e)

module _ (s : Text) (l : List ℕ) (p : ℕ) where
  -- what holds of the positions, and of them with p, whose text stands at none of them
  pub first_case : (P : List ℕ → Type 0) → P l → (any (λ q. same (text_at s p) (text_at s q)) l ≡ false → P (take 32 (l ++ p ∷ []))) → P (with_first s l p)
  unfolding with_first pick
  first_case P x y = go (any (λ q. same (text_at s p) (text_at s q)) l) y
    where
      go : (b : Bool) → (b ≡ false → P (take 32 (l ++ p ∷ []))) → P (pick b l (take 32 (l ++ p ∷ [])))
      go true f = x
      go false f = f refl

  pub first_some : (p ≡ 0 → ⊥) → AllSome l → AllSome (with_first s l p)
  first_some n a = first_case AllSome a (λ _. taken_some l p n a)

  pub first_few : length l ≤ 32 → length (with_first s l p) ≤ 32
  first_few h = first_case (λ x. length x ≤ 32) h (λ _. omega (arith, taken_length l p))

-- the first of them is a position of the same text
module _ (s : Text) (p : ℕ) where
  pub first_text : (l : List ℕ) → text_at s (first_of s l p) ≡ text_at s p
  unfolding first_of pick
  first_text [] = refl
  first_text (q ∷ l) = go (same (text_at s p) (text_at s q)) refl (first_text l)
    where
      go : (b : Bool) → same (text_at s p) (text_at s q) ≡ b → text_at s (first_of s l p) ≡ text_at s p → text_at s (pick b q (first_of s l p)) ≡ text_at s p
      go true e r = sym (same_true (text_at s p) (text_at s q) e)
      go false e r = r

  pub first_is : (p ≡ 0 → ⊥) → (l : List ℕ) → AllSome l → first_of s l p ≡ 0 → ⊥
  unfolding first_of pick
  first_is n [] a = n
  first_is n (q ∷ l) a = go (same (text_at s p) (text_at s q)) (first_is n l (λ k h. a (suc k) (omega arith)))
    where
      go : (b : Bool) → (first_of s l p ≡ 0 → ⊥) → pick b q (first_of s l p) ≡ 0 → ⊥
      go true r = a 0 (omega arith)
      go false r = r

-- ---- one cell, and some

-- the position that a cell holds becomes the first of its text
abbrev pub cell_put : Text → ℕ → Settled → Settled
cell_put s c t = record { firsts = with_first s t.firsts (get_or t.index c 0); index = set t.index c (first_of s t.firsts (get_or t.index c 0)) }

module _ (s : Text) where
  -- what holds before, and after a position was put for another
  pub cell_case : (P : Settled → Type 0) (c : ℕ) (t : Settled) → P t → ((get_or t.index c 0 ≡ 0 → ⊥) → P (cell_put s c t)) → P (cell_settled s c t)
  unfolding cell_settled settled_at pick
  cell_case P c t x y = go (eqb (get_or t.index c 0) 0) (λ e. y (eqb-false _ 0 e))
    where
      go : (b : Bool) → (b ≡ false → P (cell_put s c t)) → P (pick b t (cell_put s c t))
      go true f = x
      go false f = f refl

  -- a cell that holds no position, and one that does
  pub cell_none : (c : ℕ) (t : Settled) → get_or t.index c 0 ≡ 0 → cell_settled s c t ≡ t
  unfolding cell_settled settled_at
  cell_none c t e = pick_true _ _ (eq-eqb _ 0 e)

  pub cells_append : (l k : List ℕ) (t : Settled) → cells_settled s (l ++ k) t ≡ cells_settled s k (cells_settled s l t)
  unfolding cells_settled
  cells_append [] k t = refl
  cells_append (c ∷ l) k t = cells_append l k (cell_settled s c t)

  -- what each cell keeps
  pub cells_keep : (P : Settled → Type 0) → ((c : ℕ) (t : Settled) → P t → P (cell_settled s c t)) → (l : List ℕ) (t : Settled) → P t → P (cells_settled s l t)
  unfolding cells_settled
  cells_keep P f [] t x = x
  cells_keep P f (c ∷ l) t x = cells_keep P f l (cell_settled s c t) (f c t x)

  -- ---- the index

  -- the other cells
  pub cell_other : (c d : ℕ) (t : Settled) → (d ≡ c → ⊥) → get_or (cell_settled s c t).index d 0 ≡ get_or t.index d 0
  cell_other c d t n = cell_case (λ u. get_or u.index d 0 ≡ get_or t.index d 0) c t refl (λ _. get_or-set_other t.index c d (first_of s t.firsts (get_or t.index c 0)) 0 n)

  pub cell_length : (c : ℕ) (t : Settled) → length (cell_settled s c t).index ≡ length t.index
  cell_length c t = cell_case (λ u. length u.index ≡ length t.index) c t refl (λ _. length-set t.index c (first_of s t.firsts (get_or t.index c 0)))

  pub cells_length : (l : List ℕ) (t : Settled) → length (cells_settled s l t).index ≡ length t.index
  cells_length l t = cells_keep (λ u. length u.index ≡ length t.index) (λ c u e. cell_length c u ∙ e) l t refl

  -- ---- the first positions
  pub cell_all_some : (c : ℕ) (t : Settled) → AllSome t.firsts → AllSome (cell_settled s c t).firsts
  cell_all_some c t a = cell_case (λ u. AllSome u.firsts) c t a (λ n. first_some s t.firsts (get_or t.index c 0) n a)

  pub cells_all_some : (l : List ℕ) (t : Settled) → AllSome t.firsts → AllSome (cells_settled s l t).firsts
  cells_all_some = cells_keep (λ u. AllSome u.firsts) cell_all_some

  pub cell_few : (c : ℕ) (t : Settled) → length t.firsts ≤ 32 → length (cell_settled s c t).firsts ≤ 32
  cell_few c t h = cell_case (λ u. length u.firsts ≤ 32) c t h (λ _. first_few s t.firsts (get_or t.index c 0) h)

  pub cells_few : (l : List ℕ) (t : Settled) → length t.firsts ≤ 32 → length (cells_settled s l t).firsts ≤ 32
  cells_few = cells_keep (λ u. length u.firsts ≤ 32) cell_few
