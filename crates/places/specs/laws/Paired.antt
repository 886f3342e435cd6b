-- Two readers of one item, of which one gives the value and the other its place: what they read stands together. Assumes nothing.
use Rattle.std.specs.Prelude.{◌≡◌, false, length}
use Rattle.std.proofs.Math.Path.{ap, subst}
use Rattle.std.proofs.Common.{◌∙◌}
use Rattle.std.proofs.Math.Bool.{true}
use mathlib.Core.List.{List, [], ◌∷◌}
use Prim.Native.Nat.{ℕ, zero, suc, ◌+◌}
use Rattle.std.proofs.Math.Dec.{eqb}
use Rattle.text.specs.Reading.{Text, done, Reader, next, peek}
use Rattle.text.specs.Class.{skip}
use Rattle.text.specs.laws.Readers.{next_inv, next_was, pick_case, pick_true, pick_false, bad_done, done_of, done_at}
use Rattle.grammar.specs.Document.{after, items, many, in_front}
use Rattle.places.specs.Visits.{Both, both_none, both_one}

module _ {A B : Type 0} (one : Reader A) (place : Reader B) (close : ℕ) (s : Text) (R : A → B → Type 0) (pair : (i : ℕ) (x : A) (j : ℕ) → one s i ≡ done x j → (y : B) × (place s i ≡ done y j) × R x y) where
  pub items_paired : (n i : ℕ) {xs : List A} {m : ℕ} → items one close n s i ≡ done xs m → (ys : List B) × (items place close n s i ≡ done ys m) × Both R xs ys
  unfolding items after in_front
  items_paired zero i e = absurd (bad_done e)
  items_paired (suc n) i {xs} {m} e =
      let w = next_inv (one s (skip s i)) (after close (items one close n) s) e in
      let q = pair (skip s i) w.0 w.1 w.2 in
      pick_case _ _ _ w.3 (λ h f. closed w.1 q h f)
      (λ h f. pick_case _ _ _ f
      (λ g u.
      let x = next_inv (items one close n s (skip s w.1 + 1)) (in_front w.0) u in
      more w.1 q h g x.3 (items_paired n (skip s w.1 + 1) x.2))
      (λ _ u. absurd (bad_done u)))
    where
      closed : {x : A} (j : ℕ) → (y : B) × (place s (skip s i) ≡ done y j) × R x y → eqb (peek s (skip s j)) close ≡ true → done (x ∷ []) (skip s j + 1) ≡ done xs m → (ys : List B) × (next (place s (skip s i)) (after close (items place close n) s) ≡ done ys m) × Both R xs ys
      closed j q h f =
          let y = q.0 in
          (y ∷ [], next_was _ q.1 ∙ pick_true _ _ h ∙ ap (done (y ∷ [])) (done_at f), subst (λ (zs : List A). Both R zs (y ∷ [])) (done_of f) (both_one q.2 both_none))

      more : {x : A} {zs : List A} {k : ℕ} (j : ℕ) → (y : B) × (place s (skip s i) ≡ done y j) × R x y → eqb (peek s (skip s j)) close ≡ false → eqb (peek s (skip s j)) 44 ≡ true → done (x ∷ zs) k ≡ done xs m → (ys : List B) × (items place close n s (skip s j + 1) ≡ done ys k) × Both R zs ys → (ys : List B) × (next (place s (skip s i)) (after close (items place close n) s) ≡ done ys m) × Both R xs ys
      more j q h g f ih =
          let y = q.0 in
          (y ∷ ih.0, next_was _ q.1 ∙ pick_false _ _ h ∙ pick_true _ _ g ∙ next_was _ ih.1 ∙ ap (done (y ∷ ih.0)) (done_at f), subst (λ (us : List A). Both R us (y ∷ ih.0)) (done_of f) (both_one q.2 ih.2))

  pub many_paired : (i : ℕ) {xs : List A} {m : ℕ} → many one close s i ≡ done xs m → (ys : List B) × (many place close s i ≡ done ys m) × Both R xs ys
  unfolding many
  many_paired i {xs} {m} e =
      pick_case _ _ _ e
      (λ h f. ([], pick_true _ _ h ∙ ap (done []) (done_at f), subst (λ (us : List A). Both R us []) (done_of f) both_none))
      (λ h f. let w = items_paired (suc (length s)) i f in (w.0, pick_false _ _ h ∙ w.1, w.2))
