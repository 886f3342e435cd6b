-- Positions and the texts that stand there: each text once, and one position more. Assumes nothing.
use Rattle.std.specs.Prelude.{◌≡◌, Bool, ◌||◌, ℕ}
use Rattle.std.proofs.Math.Path.{refl, ap}
use Rattle.std.proofs.Common.{sym, ◌∙◌}
use Rattle.std.proofs.Math.Bool.{true, false}
use mathlib.Core.List.{List, [], ◌∷◌, ◌++◌, map, append_assoc}
use Rattle.text.specs.Reading.{Text, pick}
use Rattle.grammar.specs.Tree.{same}
use Rattle.manifest.specs.Rows.{any, flat}
use Rattle.manifest.specs.Meaning.{without, distinct}
use Rattle.manifest.proofs.laws.Cited.{any_distinct}
use Rattle.index.specs.Index.{text_at}
use Rattle.named.specs.Named.{without_at, distinct_at}

-- ---- lists

pub map_append : {A B : Type 0} (f : A → B) (l k : List A) → map f (l ++ k) ≡ map f l ++ map f k
map_append f [] k = refl
map_append {B = B} f (a ∷ l) k = ap (λ (x : List B). f a ∷ x) (map_append f l k)

any_map : {A B : Type 0} (p : B → Bool) (f : A → B) (l : List A) → any (λ a. p (f a)) l ≡ any p (map f l)
unfolding any
any_map p f [] = refl
any_map p f (a ∷ l) = ap (λ (b : Bool). p (f a) || b) (any_map p f l)

pub flat_append : {A B : Type 0} (f : A → List B) (l k : List A) → flat f (l ++ k) ≡ flat f l ++ flat f k
unfolding flat
flat_append f [] k = refl
flat_append {B = B} f (a ∷ l) k = ap (λ (x : List B). f a ++ x) (flat_append f l k) ∙ sym (append_assoc (f a) (flat f l) (flat f k))

-- ---- texts

module _ (s : Text) where
  without_texts : (p : ℕ) (l : List ℕ) → map (text_at s) (without_at s p l) ≡ without (text_at s p) (map (text_at s) l)
  unfolding without_at without pick
  without_texts p [] = refl
  without_texts p (q ∷ l) = go (same (text_at s q) (text_at s p)) (without_texts p l)
    where
      go : (b : Bool) → map (text_at s) (without_at s p l) ≡ without (text_at s p) (map (text_at s) l)
          → map (text_at s) (pick b (without_at s p l) (q ∷ without_at s p l)) ≡ pick b (without (text_at s p) (map (text_at s) l)) (text_at s q ∷ without (text_at s p) (map (text_at s) l))
      go true e = e
      go false e = ap (λ (k : List Text). text_at s q ∷ k) e

  -- the texts of the positions that are kept are the texts, each once
  pub distinct_texts : (l : List ℕ) → map (text_at s) (distinct_at s l) ≡ distinct (map (text_at s) l)
  unfolding distinct_at distinct
  distinct_texts [] = refl
  distinct_texts (p ∷ l) = ap (λ (k : List Text). text_at s p ∷ k) (without_texts p (distinct_at s l) ∙ ap (without (text_at s p)) (distinct_texts l))

  -- the text at p stands at one of the positions l
  abbrev pub known : ℕ → List ℕ → Bool
  known p l = any (λ q. same (text_at s p) (text_at s q)) l

  -- and it still does when each text is kept once
  pub known_distinct : (p : ℕ) (l : List ℕ) → known p (distinct_at s l) ≡ known p l
  known_distinct p l =
      any_map (same (text_at s p)) (text_at s) (distinct_at s l)
      ∙ (ap (any (same (text_at s p))) (distinct_texts l)
      ∙ (any_distinct (text_at s p) (map (text_at s) l) ∙ sym (any_map (same (text_at s p)) (text_at s) l)))

  -- the last of the positions goes if its text is that at a
  last_without : (a : ℕ) (l : List ℕ) (p : ℕ) → without_at s a (l ++ p ∷ []) ≡ pick (same (text_at s p) (text_at s a)) (without_at s a l) (without_at s a l ++ p ∷ [])
  unfolding without_at pick
  last_without a [] p = refl
  last_without a (q ∷ l) p = go (same (text_at s q) (text_at s a)) (same (text_at s p) (text_at s a)) (last_without a l p)
    where
      go : (b c : Bool) → without_at s a (l ++ p ∷ []) ≡ pick c (without_at s a l) (without_at s a l ++ p ∷ [])
          → pick b (without_at s a (l ++ p ∷ [])) (q ∷ without_at s a (l ++ p ∷ [])) ≡ pick c (pick b (without_at s a l) (q ∷ without_at s a l)) (pick b (without_at s a l) (q ∷ without_at s a l) ++ p ∷ [])
      go true c e = e
      go false true e = ap (λ (k : List ℕ). q ∷ k) e
      go false false e = ap (λ (k : List ℕ). q ∷ k) e

  -- one position more: it is kept if its text stands nowhere before it
  pub distinct_more : (l : List ℕ) (p : ℕ) → distinct_at s (l ++ p ∷ []) ≡ pick (known p l) (distinct_at s l) (distinct_at s l ++ p ∷ [])
  unfolding distinct_at without_at any pick
  distinct_more [] p = refl
  distinct_more (a ∷ l) p =
      ap (λ (k : List ℕ). a ∷ without_at s a k) (distinct_more l p)
      ∙ go (same (text_at s p) (text_at s a)) (known p l) (last_without a (distinct_at s l) p)
    where
      go : (b c : Bool) → without_at s a (distinct_at s l ++ p ∷ []) ≡ pick b (without_at s a (distinct_at s l)) (without_at s a (distinct_at s l) ++ p ∷ [])
          → a ∷ without_at s a (pick c (distinct_at s l) (distinct_at s l ++ p ∷ [])) ≡ pick (b || c) (a ∷ without_at s a (distinct_at s l)) (a ∷ (without_at s a (distinct_at s l) ++ p ∷ []))
      go true true e = refl
      go false true e = refl
      go true false e = ap (λ (k : List ℕ). a ∷ k) e
      go false false e = ap (λ (k : List ℕ). a ∷ k) e
