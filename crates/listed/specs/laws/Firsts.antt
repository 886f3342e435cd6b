-- The texts at the positions at which names first stand are different: a position is added only where its text stands at none of the others. Assumes nothing.
use Rattle.std.specs.Prelude.{◌≡◌, false, List, [], ◌∷◌, ◌++◌, get_or, take, replicate}
use Rattle.std.proofs.Common.{sym, ap, ◌∙◌, true≢false, arith, length-append, get_or-append-add}
use Prim.Native.Nat.{ℕ, zero, suc, ◌+◌, ◌-◌, ◌≤◌, ◌<◌}
use Rattle.std.proofs.Math.Decide.{dec_lt}
use Rattle.std.proofs.Math.ListN.{length, get_or-append, get_or-eq_default}
use Rattle.std.proofs.lemmas.List.{length-replicate, get_or-replicate}
use Rattle.text.specs.Reading.{Text}
use Rattle.grammar.specs.Tree.{same}
use Rattle.grammar.proofs.laws.Order.{same_refl, same_false}
use Rattle.manifest.specs.Rows.{any}
use Rattle.manifest.specs.Statements.{At, here, further}
use Rattle.manifest.proofs.laws.Lists.{any_false}
use Rattle.index.specs.Index.{text_at}
use Rattle.listed.specs.Settled.{with_first, Settled, cell_settled, cells_settled, name_cells, settled, firsts_in}
use Rattle.listed.specs.laws.Cells.{taken_length, taken_old, taken_new, first_case, cell_case, cells_keep, cells_few}

-- the texts at the positions l are different
abbrev pub Apart : Text → List ℕ → Type 0
Apart s l = (j k : ℕ) → j < length l → k < length l → (j ≡ k → ⊥) → same (text_at s (get_or l j 0)) (text_at s (get_or l k 0)) ≡ false

pub none_apart : (s : Text) → Apart s []
none_apart s j k hj hk n = absurd (omega arith)

stands_at : (l : List ℕ) (i : ℕ) → i < length l → At l i (get_or l i 0)
stands_at [] i h = absurd (omega arith)
stands_at (a ∷ l) zero h = here
stands_at (a ∷ l) (suc i) h = further (stands_at l i (omega arith))

other_way : (a b : Text) → same a b ≡ false → same b a ≡ false
other_way a b h = same_false b a (λ e. true≢false (sym (same_refl a) ∙ ap (same a) (sym e) ∙ h))

module _ (s : Text) where
  -- p is added
  taken_apart : (l : List ℕ) (p : ℕ) → Apart s l → any (λ q. same (text_at s p) (text_at s q)) l ≡ false → Apart s (take 32 (l ++ p ∷ []))
  taken_apart l p a e j k hj hk n = go (dec_lt j (length l)) (dec_lt k (length l))
    where
      old : (i : ℕ) → i < length (take 32 (l ++ p ∷ [])) → i < length l → text_at s (get_or (take 32 (l ++ p ∷ [])) i 0) ≡ text_at s (get_or l i 0)
      old i h b = ap (text_at s) (taken_old l p i (omega (arith, taken_length l p)) b)

      new : (i : ℕ) → i < length (take 32 (l ++ p ∷ [])) → length l ≤ i → text_at s (get_or (take 32 (l ++ p ∷ [])) i 0) ≡ text_at s p
      new i h b = ap (text_at s) (taken_new l p i (omega (arith, taken_length l p)) (omega (arith, taken_length l p)))

      go : Dec (j < length l) → Dec (k < length l) → same (text_at s (get_or (take 32 (l ++ p ∷ [])) j 0)) (text_at s (get_or (take 32 (l ++ p ∷ [])) k 0)) ≡ false
      go (yes x) (yes y) = (λ u. same (old j hj x u) (old k hk y u)) ∙ a j k x y n
      go (no x) (yes y) = (λ u. same (new j hj (omega arith) u) (old k hk y u)) ∙ any_false (λ q. same (text_at s p) (text_at s q)) e (stands_at l k y)
      go (yes x) (no y) = (λ u. same (old j hj x u) (new k hk (omega arith) u)) ∙ other_way (text_at s p) (text_at s (get_or l j 0)) (any_false (λ q. same (text_at s p) (text_at s q)) e (stands_at l j x))
      go (no x) (no y) = absurd (n (omega (arith, taken_length l p)))

  pub first_apart : (l : List ℕ) (p : ℕ) → Apart s l → Apart s (with_first s l p)
  first_apart l p a = first_case s l p (Apart s) a (taken_apart l p a)

  pub cell_apart : (c : ℕ) (t : Settled) → Apart s t.firsts → Apart s (cell_settled s c t).firsts
  cell_apart c t a = cell_case s (λ u. Apart s u.firsts) c t a (λ _. first_apart t.firsts (get_or t.index c 0) a)

  pub cells_apart : (l : List ℕ) (t : Settled) → Apart s t.firsts → Apart s (cells_settled s l t).firsts
  cells_apart = cells_keep s (λ u. Apart s u.firsts) cell_apart

-- ---- with zeros behind

abbrev zeros : ℕ → List ℕ
zeros n = replicate n 0

pub zero_at : (n i : ℕ) → get_or (zeros n) i 0 ≡ 0
zero_at n i = go (dec_lt i n)
  where
    go : Dec (i < n) → get_or (zeros n) i 0 ≡ 0
    go (yes h) = get_or-replicate n i 0 0 h
    go (no h) = get_or-eq_default (zeros n) 0 (omega (arith, length-replicate {A = ℕ} n 0))

module _ (l : List ℕ) (n : ℕ) where
  padded_length : length (l ++ zeros n) ≡ length l + n
  padded_length = length-append l (zeros n) ∙ ap (λ (k : ℕ). length l + k) (length-replicate n 0)

  -- what is not 0 is none of the zeros
  before_zeros : (i : ℕ) → (get_or (l ++ zeros n) i 0 ≡ 0 → ⊥) → i < length l
  before_zeros i h = go (dec_lt i (length l))
    where
      go : Dec (i < length l) → i < length l
      go (yes b) = b
      go (no b) =
          let e : i ≡ length l + (i - length l) = omega arith in
          absurd (h (ap (λ (k : ℕ). get_or (l ++ zeros n) k 0) e ∙ get_or-append-add l (zeros n) (i - length l) 0 ∙ zero_at n (i - length l)))

  padded_apart : (s : Text) → Apart s l → (j k : ℕ) → (get_or (l ++ zeros n) j 0 ≡ 0 → ⊥) → (get_or (l ++ zeros n) k 0 ≡ 0 → ⊥)
      → (get_or (l ++ zeros n) j 0 ≡ get_or (l ++ zeros n) k 0 → ⊥) → same (text_at s (get_or (l ++ zeros n) j 0)) (text_at s (get_or (l ++ zeros n) k 0)) ≡ false
  padded_apart s a j k hj hk d =
      let x : j < length l = before_zeros j hj in
      let y : k < length l = before_zeros k hk in
      (λ u. same (text_at s (get_or-append l (zeros n) 0 j x u)) (text_at s (get_or-append l (zeros n) 0 k y u))) ∙ a j k x y (λ e. d (ap (λ (i : ℕ). get_or (l ++ zeros n) i 0) e))

-- ---- of a whole index

module _ (s : Text) (ix : List ℕ) where
  pub settled_few : length (settled s ix).firsts ≤ 32
  unfolding settled
  settled_few = cells_few s (name_cells ix) (record { firsts = []; index = ix }) (omega arith)

  pub settled_apart : Apart s (settled s ix).firsts
  unfolding settled
  settled_apart = cells_apart s (name_cells ix) (record { firsts = []; index = ix }) (none_apart s)

  pub firsts_long : length (firsts_in s ix) ≡ 32
  unfolding firsts_in
  firsts_long =
      let n : ℕ = 32 - length (settled s ix).firsts in
      omega (arith, padded_length (settled s ix).firsts n, settled_few)

  pub firsts_differ : (j k : ℕ) → (get_or (firsts_in s ix) j 0 ≡ 0 → ⊥) → (get_or (firsts_in s ix) k 0 ≡ 0 → ⊥)
      → (get_or (firsts_in s ix) j 0 ≡ get_or (firsts_in s ix) k 0 → ⊥) → same (text_at s (get_or (firsts_in s ix) j 0)) (text_at s (get_or (firsts_in s ix) k 0)) ≡ false
  unfolding firsts_in
  firsts_differ = padded_apart (settled s ix).firsts (32 - length (settled s ix).firsts) s settled_apart
