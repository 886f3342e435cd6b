-- Where the index does not hold all, and where it does. Assumes nothing.
use Rattle.std.specs.Prelude.{◌≡◌, Bool, true, false, ◌||◌, ℕ, zero, suc, ◌≤◌, ◌<◌, eqb, length, get_or}
use Rattle.std.proofs.Math.Path.{refl, ap}
use Rattle.std.proofs.Common.{◌∙◌, arith}
use Rattle.std.proofs.Math.Bool.{or-true}
use mathlib.Core.List.{List, [], ◌∷◌, map}
use Rattle.std.proofs.Math.Dec.{ltb}
use borrow.Author.Tests.{ltb-false}
use Rattle.text.specs.Reading.{Text, pick}
use Rattle.places.specs.Places.{items_at}
use Rattle.manifest.specs.Names.{bytes}
use Rattle.manifest.specs.Kinds.{object, entry, item, manifest}
use Rattle.manifest.specs.View.{Cell, absent, one}
use Rattle.manifest.specs.Rows.{Entry, Item, machines_of as machines-in, path, cited_files, cited_machines, declared, trace_file, trace_machine, holds, every, any, any_at, entries}
use Rattle.manifest.specs.Rules.{applies, refusal_10_size, no_path, no_name, outside_of, in_trace_time}
use Rattle.manifest.proofs.laws.Bools.{halves}
use Rattle.index.specs.Index.{column, items_of, many_items, too_many, at}
use Rattle.index.proofs.laws.Seen.{seen, seen_row}
use Rattle.index.proofs.laws.Back.{files_of, machines_of}

-- a test that holds of no element
any_none : (p : ℕ → Bool) (l : List ℕ) → any p l ≡ false → (i : ℕ) → i < length l → p (get_or l i 0) ≡ false
unfolding any
any_none p [] e i h = absurd (omega arith)
any_none p (a ∷ l) e zero h = (halves (p a) (any p l) e).0
any_none p (a ∷ l) e (suc i) h = any_none p l (halves (p a) (any p l) e).1 i (omega arith)

-- not too many: at most 32 each
module _ (s : Text) (v : ℕ) (few : too_many s v ≡ false) where
  pub few_entries : length (files_of s v) ≤ 32
  unfolding too_many
  few_entries = ltb-false 32 (length (files_of s v)) (halves (ltb 32 (length (files_of s v))) (any (many_items s) (files_of s v)) few).0

  pub few_items : (i : ℕ) → i < length (files_of s v) → length (machines_of s (get_or (files_of s v) i 0)) ≤ 32
  unfolding too_many many_items
  few_items i h =
      ltb-false 32 (length (machines_of s (get_or (files_of s v) i 0)))
      (any_none (many_items s) (files_of s v) (halves (ltb 32 (length (files_of s v))) (any (many_items s) (files_of s v)) few).1 i h)

-- the items that are seen are those of the text
every_at : {A : Type 0} (s : Text) (p : ℕ) (g : ℕ → A) → every (at p (one (map g (items_of s p)))) ≡ map g (items_of s p)
unfolding items_of at every pick
every_at s p g = go (eqb p 0)
  where
    go : (b : Bool) → every (pick b absent (one (map g (pick b [] (items_at s p))))) ≡ map g (pick b [] (items_at s p))
    go true = refl
    go false = refl

length_map : {A : Type 0} (g : ℕ → A) (l : List ℕ) → length (map g l) ≡ length l
length_map g [] = refl
length_map g (a ∷ l) = ap suc (length_map g l)

some_at : {A : Type 0} (q : ℕ → Bool) (f : A → Bool) (g : ℕ → A) → ((a : ℕ) → q a ≡ true → f (g a) ≡ true) → (l : List ℕ) (i : ℕ) → any q l ≡ true → any_at (λ j c. f c) i (map g l) ≡ true
unfolding any any_at
some_at q f g h [] i e = e
some_at q f g h (a ∷ l) i e = go (q a) refl e (λ x. some_at q f g h l (suc i) x)
  where
    go : (b : Bool) → q a ≡ b → (b || any q l) ≡ true → (any q l ≡ true → any_at (λ j c. f c) (suc i) (map g l) ≡ true) → (f (g a) || any_at (λ j c. f c) (suc i) (map g l)) ≡ true
    go true x y ih = ap (λ (b : Bool). b || any_at (λ j c. f c) (suc i) (map g l)) (h a x)
    go false x y ih = ap (λ (b : Bool). f (g a) || b) (ih y) ∙ or-true (f (g a))

at_last : (a b c d e : Bool) → e ≡ true → (a || (b || (c || (d || e)))) ≡ true
at_last true b c d e h = refl
at_last false true c d e h = refl
at_last false false true d e h = refl
at_last false false false true e h = refl
at_last false false false false e h = h

-- too many: 10 applies to what is seen
module _ (s : Text) (v : ℕ) where
  seen_entries : entries (seen_row manifest s v) ≡ map (λ q. seen (object entry) s q) (files_of s v)
  unfolding seen
  seen_entries = every_at s (column s v (bytes "files")) (λ q. seen (object entry) s q)

  seen_machines : (p : ℕ) → every (machines-in (seen_row entry s p)) ≡ map (λ q. seen (object item) s q) (machines_of s p)
  unfolding seen
  seen_machines p = every_at s (column s p (bytes "machines")) (λ q. seen (object item) s q)

  pub many_applies : too_many s v ≡ true → applies refusal_10_size (seen_row manifest s v) ≡ true
  unfolding too_many applies refusal_10_size many_items holds seen
  many_applies e = go (ltb 32 (length (files_of s v))) refl e
    where
      long : ltb 32 (length (entries (seen_row manifest s v))) ≡ ltb 32 (length (files_of s v))
      long = ap (λ (l : List (Cell Entry)). ltb 32 (length l)) seen_entries ∙ ap (ltb 32) (length_map (λ q. seen (object entry) s q) (files_of s v))

      inside : (p : ℕ) → many_items s p ≡ true → refusal_10_size.within (seen_row manifest s v) 0 (seen (object entry) s p) ≡ true
      inside p h =
          at_last (holds no_path (path (seen_row entry s p))) (any no_path (cited_files (seen_row entry s p))) (any no_name (cited_machines (seen_row entry s p))) (any (outside_of 0 64) (declared (seen_row entry s p))) (ltb 32 (length (every (machines-in (seen_row entry s p)))))
          (ap (λ (l : List (Cell Item)). ltb 32 (length l)) (seen_machines p) ∙ (ap (ltb 32) (length_map (λ q. seen (object item) s q) (machines_of s p)) ∙ h))

      go : (b : Bool) → ltb 32 (length (files_of s v)) ≡ b → (b || any (many_items s) (files_of s v)) ≡ true → applies refusal_10_size (seen_row manifest s v) ≡ true
      go true h x = ap (λ (b : Bool). (b || in_trace_time (λ t. holds no_path (trace_file t) || holds no_name (trace_machine t)) (seen_row manifest s v)) || any_at (refusal_10_size.within (seen_row manifest s v)) 0 (entries (seen_row manifest s v))) (long ∙ h)
      go false h x =
          ap (λ (b : Bool). refusal_10_size.outside (seen_row manifest s v) || b)
          (ap (any_at (refusal_10_size.within (seen_row manifest s v)) 0) seen_entries
          ∙ some_at (many_items s) (λ c. refusal_10_size.within (seen_row manifest s v) 0 c) (λ q. seen (object entry) s q) inside (files_of s v) 0 x)
          ∙ or-true (refusal_10_size.outside (seen_row manifest s v))
