-- Whether there are too many, by the counts that stand in an index. Assumes nothing.
use mathlib.Core.Path.{◌≡◌, sym, ap, ◌∙◌}
use mathlib.Core.Bool.{Bool, true, false, ◌||◌}
use mathlib.Core.List.{List}
use Prim.Native.Nat.{ℕ, suc, ◌+◌, ◌*◌, ◌≤◌, ◌<◌}
use native.Mathlib.Omega.{arith}
use lib.Dec.{ltb}
use lib.ListN.{length, get_or, drop}
use lib.Seq.{drop-cons, drop-length}
use borrow.Author.Tests.{lt-ltb, le-ltb}
use Rattle.text.specs.Reading.{Text}
use Rattle.manifest.specs.Rows.{any}
use Rattle.index.specs.Index.{head_row, entry_row, index_of, many_items, too_many}
use Rattle.index.proofs.laws.Back.{files_of, machines_of, in_row}

any_at : (q : ℕ → Bool) (l : List ℕ) (i : ℕ) → i < length l → any q (drop i l) ≡ (q (get_or l i 0) || any q (drop (i + 1) l))
unfolding any
any_at q l i h = let e : suc i ≡ i + 1 = omega arith in ap (any q) (drop-cons l i 0 h) ∙ ap (λ (m : ℕ). q (get_or l i 0) || any q (drop m l)) e

module _ (s : Text) (v : ℕ) {ix : List ℕ} (is : ix ≡ index_of s v) where
  count_entries : get_or ix 5 0 ≡ length (files_of s v)
  unfolding index_of head_row
  count_entries = ap (λ (l : List ℕ). get_or l 5 0) is

  count_items : (i : ℕ) → i < 32 → get_or ix (6 + (77 * i + 12)) 0 ≡ length (machines_of s (get_or (files_of s v) i 0))
  unfolding entry_row
  count_items i h = ap (λ (l : List ℕ). get_or l (6 + (77 * i + 12)) 0) is ∙ in_row s v i h 12 (omega arith)

  pub many_entries : 32 < get_or ix 5 0 → true ≡ too_many s v
  unfolding too_many
  many_entries h = sym (ap (λ (b : Bool). b || any (many_items s) (files_of s v)) (lt-ltb 32 (length (files_of s v)) (omega (arith, count_entries))))

  module _ (few : get_or ix 5 0 ≤ 32) where
    -- what is left decides
    pub many_left : too_many s v ≡ any (many_items s) (drop 0 (files_of s v))
    unfolding too_many
    many_left = ap (λ (b : Bool). b || any (many_items s) (files_of s v)) (le-ltb 32 (length (files_of s v)) (omega (arith, count_entries)))

    module _ {i : ℕ} (inv : too_many s v ≡ any (many_items s) (drop i (files_of s v))) where
      module _ (h : i < get_or ix 5 0) where
        told : many_items s (get_or (files_of s v) i 0) ≡ ltb 32 (get_or ix (6 + (77 * i + 12)) 0)
        unfolding many_items
        told = ap (ltb 32) (sym (count_items i (omega arith)))

        turned : too_many s v ≡ (ltb 32 (get_or ix (6 + (77 * i + 12)) 0) || any (many_items s) (drop (i + 1) (files_of s v)))
        turned =
            inv ∙ (any_at (many_items s) (files_of s v) i (omega (arith, count_entries))
            ∙ ap (λ (b : Bool). b || any (many_items s) (drop (i + 1) (files_of s v))) told)

        pub many_here : 32 < get_or ix (6 + (77 * i + 12)) 0 → true ≡ too_many s v
        many_here l = sym (turned ∙ ap (λ (b : Bool). b || any (many_items s) (drop (i + 1) (files_of s v))) (lt-ltb 32 (get_or ix (6 + (77 * i + 12)) 0) l))

        pub many_on : get_or ix (6 + (77 * i + 12)) 0 ≤ 32 → too_many s v ≡ any (many_items s) (drop (i + 1) (files_of s v))
        many_on l = turned ∙ ap (λ (b : Bool). b || any (many_items s) (drop (i + 1) (files_of s v))) (le-ltb 32 (get_or ix (6 + (77 * i + 12)) 0) l)

      pub many_none : i ≤ get_or ix 5 0 → get_or ix 5 0 ≤ i → false ≡ too_many s v
      unfolding any
      many_none a b =
          let e : i ≡ length (files_of s v) = omega (arith, count_entries) in
          sym (inv ∙ (ap (λ (m : ℕ). any (many_items s) (drop m (files_of s v))) e ∙ ap (any (many_items s)) (drop-length (files_of s v))))
