-- Passes over the files and sources that a table holds: a test of each, and a count. Assumes nothing.
use Rattle.std.specs.Prelude.{◌≡◌, Bool, true, false, not, ◌||◌, List, [], ◌∷◌, ◌++◌}
use Rattle.std.specs.List.{list_any, range_with_len}
use Rattle.std.proofs.Math.Path.{ap, refl}
use Rattle.std.proofs.Common.{◌∙◌, eq-eqb, ne_eqb}
use Prim.Native.Nat.{ℕ, zero, suc, ◌+◌, ◌-◌, ◌≤◌, ◌<◌}
use native.Mathlib.Omega.{arith}
use Rattle.text.specs.laws.Readers.{pick_true, pick_false}
use Rattle.manifest.specs.Rows.{any}
use Rattle.index.specs.Index.{listed}
use Rattle.index.proofs.laws.Entries.{from, from_here, from_past}
use Rattle.text.specs.Reading.{pick}
use Rattle.merged.specs.Facts.{FileFact, SourceFact}
use Rattle.merged.specs.Refusals.{listed_by, unused}
use Rattle.merged.specs.Machines.{sources_in}
use Rattle.checks.specs.Table.{files_in, sources_held}

pub files_most : (t : List ℕ) → files_in t ≤ 32
unfolding files_in
files_most t = omega arith

pub sources_most : (t : List ℕ) → sources_held t ≤ 32
unfolding sources_held
sources_most t = omega arith

pub from_start : {A : Type 0} (f : ℕ → A) (n : ℕ) → listed f 0 n ≡ from f n 0
unfolding from
from_start f n = let e : n ≡ n - 0 = omega arith in ap (listed f 0) e

pub from_next : {A : Type 0} (f : ℕ → A) (n i : ℕ) → i < n → from f n i ≡ f i ∷ from f n (i + 1)
from_next f n i h = let s : suc i ≡ i + 1 = omega arith in from_here f n i h ∙ ap (λ (k : ℕ). f i ∷ from f n k) s

-- ---- how many of n sources belong to a file

module _ (file : ℕ) (f : ℕ → SourceFact) (n : ℕ) where
  -- so many up to number i
  unfoldable pub Counted : ℕ → ℕ → Type 0
  Counted c i = sources_in file (listed f 0 n) ≡ c + sources_in file (from f n i)

  pub counted_start : Counted 0 0
  unfolding Counted
  counted_start = let e : sources_in file (listed f 0 n) ≡ sources_in file (from f n 0) = ap (sources_in file) (from_start f n) in omega arith

  module _ (c i : ℕ) (o : Counted c i) where
    pub counted_one : i < n → (f i).file ≡ file → {m : ℕ} → m ≡ c + 1 → Counted m (i + 1)
    unfolding Counted sources_in
    counted_one h e q =
        let a : sources_in file (from f n i) ≡ suc (sources_in file (from f n (i + 1))) = ap (sources_in file) (from_next f n i h) ∙ pick_true _ _ (eq-eqb (f i).file file e) in
        omega arith

    pub counted_none : i < n → ((f i).file ≡ file → ⊥) → {m : ℕ} → m ≡ c → Counted m (i + 1)
    unfolding Counted sources_in
    counted_none h e q =
        let a : sources_in file (from f n i) ≡ sources_in file (from f n (i + 1)) = ap (sources_in file) (from_next f n i h) ∙ pick_false _ _ (ne_eqb (f i).file file e) in
        omega arith

    pub counted_all : n ≤ i → c ≡ sources_in file (listed f 0 n)
    unfolding Counted sources_in
    counted_all h =
        let a : sources_in file (from f n i) ≡ 0 = ap (sources_in file) (from_past f n i h) in
        omega arith

-- ---- a test over a range of numbers

pub any_range : {A : Type 0} (p : A → Bool) (f : ℕ → A) (k n : ℕ) → list_any (λ i. p (f i)) (range_with_len k n) ≡ any p (listed f k n)
unfolding any listed
any_range p f k zero = refl
any_range p f k (suc n) =
    let s : k + 1 ≡ suc k = omega arith in
    ap (λ (b : Bool). p (f k) || b) (ap (λ (m : ℕ). list_any (λ i. p (f i)) (range_with_len m n)) s ∙ any_range p f (suc k) n)

-- an entry that lists no file is found from the front on, or from the end
list_any_end : (p : ℕ → Bool) (l : List ℕ) (x : ℕ) → list_any p (l ++ x ∷ []) ≡ (list_any p l || p x)
list_any_end p [] x = or_false (p x)
  where
    or_false : (b : Bool) → (b || false) ≡ b
    or_false true = refl
    or_false false = refl
list_any_end p (a ∷ l) x = go (p a) (list_any_end p l x)
  where
    go : (b : Bool) → list_any p (l ++ x ∷ []) ≡ (list_any p l || p x) → (b || list_any p (l ++ x ∷ [])) ≡ ((b || list_any p l) || p x)
    go true e = refl
    go false e = e

range_end : (k n : ℕ) → range_with_len k (suc n) ≡ range_with_len k n ++ (k + n) ∷ []
range_end k zero = let e : k ≡ k + 0 = omega arith in ap (λ (m : ℕ). m ∷ []) e
range_end k (suc n) = let e : k + 1 + n ≡ k + suc n = omega arith in ap (λ (l : List ℕ). k ∷ l) (range_end (k + 1) n ∙ ap (λ (m : ℕ). range_with_len (k + 1) n ++ m ∷ []) e)

pub unused_range : (fs : List FileFact) (n : ℕ) → list_any (λ e. not (any (listed_by e) fs)) (range_with_len 0 n) ≡ unused n fs
unfolding unused pick
unused_range fs zero = refl
unused_range fs (suc n) =
    let z : 0 + n ≡ n = omega arith in
    ap (list_any (λ e. not (any (listed_by e) fs))) (range_end 0 n ∙ ap (λ (m : ℕ). range_with_len 0 n ++ m ∷ []) z)
    ∙ (list_any_end (λ e. not (any (listed_by e) fs)) (range_with_len 0 n) n ∙ go (any (listed_by n) fs) (list_any (λ e. not (any (listed_by e) fs)) (range_with_len 0 n)) (unused_range fs n))
  where
    go : (a b : Bool) → b ≡ unused n fs → (b || not a) ≡ pick a (unused n fs) true
    go true true e = e
    go true false e = e
    go false true e = refl
    go false false e = refl
