-- A path is compared with a text whose first bytes are in memory. Assumes nothing.
use mathlib.Core.Path.{◌≡◌, sym, ap, ◌∙◌}
use mathlib.Core.Bool.{Bool, true, false}
use mathlib.Core.List.{List}
use Prim.Native.Nat.{ℕ, ◌≤◌, ◌<◌}
use lib.ListN.{length, get_or, take}
use lib.Seq.{length-take-le, get_or-take, ext_get_or}
use Rattle.text.specs.Reading.{Text}
use Rattle.grammar.specs.Tree.{same}
use Rattle.grammar.proofs.laws.Order.{same_refl, same_false}
use Rattle.manifest.specs.Rows.{holds}
use Rattle.index.specs.Index.{text_at, text_cell}
use Rattle.prints.specs.Prints.{front}
use Rattle.prints.specs.laws.Fronts.{front_whole}
use Rattle.index.proofs.laws.Paths.{path_some, path_other}

-- ---- byte by byte

module _ (path text : List ℕ) where
  pub begins : length path ≤ length text → ((k : ℕ) → k < length path → get_or text k 0 ≡ get_or path k 0) → true ≡ same path (take (length path) text)
  begins h f =
      let e : path ≡ take (length path) text =
      ext_get_or 0 path (take (length path) text) (sym (length-take-le (length path) text h)) (λ k l. sym (f k l) ∙ sym (get_or-take (length path) text k 0 l)) in
      sym (ap (same path) (sym e) ∙ same_refl path)

  pub byte_differs : (k : ℕ) → k < length path → (get_or text k 0 ≡ get_or path k 0 → ⊥) → false ≡ same path (take (length path) text)
  byte_differs k h d = sym (same_false path (take (length path) text) (λ e. d (sym (ap (λ (l : List ℕ). get_or l k 0) e ∙ get_or-take (length path) text k 0 h))))

-- ---- by a text's length and first bytes

module _ (s : Text) (at : ℕ) (path : Text) {n : ℕ} (en : n ≡ length (text_at s at)) where
  pub length_differs : (n ≡ length path → ⊥) → false ≡ holds (same path) (text_cell s at)
  length_differs d = path_other s path at (same_false path (text_at s at) (λ e. d (en ∙ sym (ap length e))))

  pub text_whole : (at ≡ 0 → ⊥) → n ≡ length path → length path ≤ 256 → {text : List ℕ} → text ≡ front (text_at s at) → {r : Bool} → r ≡ same path (take (length path) text)
      → r ≡ holds (same path) (text_cell s at)
  text_whole there l h et e =
      path_some s path at there
      (e ∙ ap (λ (u : List ℕ). same path (take (length path) u)) et ∙ ap (same path) (front_whole (text_at s at) (sym l ∙ en) h))
