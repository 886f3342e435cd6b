-- Lists by number: one that is listed is one that is mapped, if each element is. Assumes nothing.
use Rattle.std.specs.Prelude.{◌≡◌, refl, Bool, true, false, ◌||◌, ◌⊎◌, List, [], ◌∷◌, map, ℕ, suc, ◌+◌, ◌<◌, length, get_or}
use Rattle.std.proofs.Common.{sym, ap, ◌∙◌, inl, inr, arith}
use Rattle.text.specs.Reading.{pick}
use Rattle.manifest.specs.Rows.{first_or, any}
use Rattle.manifest.specs.Meaning.{Meaning}
use Rattle.index.specs.Index.{listed}
use Rattle.merged.specs.Facts.{Filed, Parts, FileFact, file_fact, file_facts}

-- an element of a list that starts at number i, and the same one of its rest
module _ {A : Type 0} (f : ℕ → A) (i : ℕ) where
  first : {a : A} → f (i + 0) ≡ a → f i ≡ a
  first e = let z : i ≡ i + 0 = omega arith in ap f z ∙ e

  later : (k : ℕ) {a : A} → f (i + suc k) ≡ a → f (suc i + k) ≡ a
  later k e = let z : suc i + k ≡ i + suc k = omega arith in ap f z ∙ e

pub listed_map : {A B : Type 0} (f : ℕ → B) (g : A → B) (d : A) (l : List A) (i : ℕ) → ((k : ℕ) → k < length l → f (i + k) ≡ g (get_or l k d)) → listed f i (length l) ≡ map g l
unfolding listed
listed_map f g d [] i h = refl
listed_map f g d (a ∷ l) i h =
    let x : f i ≡ g a = first f i (h 0 (omega arith)) in
    let y : listed f (suc i) (length l) ≡ map g l = listed_map f g d l (suc i) (λ k b. later f i k (h (suc k) (omega arith))) in
    λ t. x t ∷ y t

pub listed_any : {A B : Type 0} (p : A → Bool) (f : ℕ → A) (q : B → Bool) (d : B) (l : List B) (i : ℕ) → ((k : ℕ) → k < length l → p (f (i + k)) ≡ q (get_or l k d))
    → any p (listed f i (length l)) ≡ any q l
unfolding listed any
listed_any p f q d [] i h = refl
listed_any p f q d (a ∷ l) i h =
    let x : p (f i) ≡ q a = first (λ (n : ℕ). p (f n)) i (h 0 (omega arith)) in
    let y : any p (listed f (suc i) (length l)) ≡ any q l = listed_any p f q d l (suc i) (λ k b. later (λ (n : ℕ). p (f n)) i k (h (suc k) (omega arith))) in
    λ t. x t || y t

pub listed_files : (w : Meaning) (p : Parts) (f : ℕ → FileFact) (d : Filed) (l : List Filed) (i : ℕ) → ((k : ℕ) → k < length l → f (i + k) ≡ file_fact w p (i + k) (get_or l k d))
    → listed f i (length l) ≡ file_facts w p i l
unfolding listed file_facts
listed_files w p f d [] i h = refl
listed_files w p f d (a ∷ l) i h =
    let z : i ≡ i + 0 = omega arith in
    let x : f i ≡ file_fact w p i a = ap f z ∙ h 0 (omega arith) ∙ ap (λ (n : ℕ). file_fact w p n a) (sym z) in
    let y : listed f (suc i) (length l) ≡ file_facts w p (suc i) l =
    listed_files w p f d l (suc i) (λ k b. let n : suc i + k ≡ i + suc k = omega arith in ap f n ∙ h (suc k) (omega arith) ∙ ap (λ (m : ℕ). file_fact w p m (get_or l k d)) (sym n)) in
    λ t. x t ∷ y t

-- the first place is one of the list, or none
pub first_or_lem : {A : Type 0} (d : ℕ) (p : A → Bool) (l : List A) (i : ℕ) → (first_or d p l i < i + length l) ⊎ (first_or d p l i ≡ d)
unfolding first_or pick
first_or_lem d p [] i = inr refl
first_or_lem d p (a ∷ l) i = go (p a) (first_or_lem d p l (suc i))
  where
    go : (b : Bool) → (first_or d p l (suc i) < suc i + length l) ⊎ (first_or d p l (suc i) ≡ d) → (pick b i (first_or d p l (suc i)) < i + suc (length l)) ⊎ (pick b i (first_or d p l (suc i)) ≡ d)
    go true r = inl (omega arith)
    go false (inl h) = inl (omega arith)
    go false (inr e) = inr e
