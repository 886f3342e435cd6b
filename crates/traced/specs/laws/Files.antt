-- The files of a table, one after the other: the first that claims trace time, and which are pinned. Assumes nothing.
use Rattle.std.specs.Prelude.{◌≡◌, Bool, cond, ◌&&◌, ℕ, zero, suc, ◌+◌, ◌*◌, ◌-◌, ◌^◌, ◌≤◌, ◌<◌, eqb, ltb, leb, get_or}
use Rattle.std.proofs.Math.Path.{refl, sym, ap}
use Rattle.std.proofs.Common.{◌∙◌, eq-eqb, ne_eqb, lt-ltb, le-ltb, pow-suc}
use Rattle.std.proofs.Math.Bool.{true, false, not}
use mathlib.Core.List.{List, [], ◌∷◌}
use native.Mathlib.Omega.{arith}
use Rattle.std.proofs.Math.ListN.{length}
use Rattle.std.proofs.lemmas.Bool.{lt-leb}
use Rattle.text.specs.Reading.{pick}
use Rattle.text.specs.laws.Readers.{pick_true, pick_false}
use Rattle.manifest.specs.Rows.{first_or}
use Rattle.index.specs.Index.{listed}
use Rattle.std.proofs.Math.Nat.{one-le-pow}
use Rattle.index.proofs.laws.Entries.{from, from_here, from_past, listed_length}
use Rattle.manifest.specs.declared.Timeline.TheVariants.{Unset}
use Rattle.numbers.specs.Numbers.{clock_of, no_clock}
use Rattle.merged.specs.Facts.{FileFact, untied, tied, pinned}
use Rattle.merged.specs.Refusals.{is_pinned}
use Rattle.merged.specs.Timeline.{bits_of, claims, claimed, domain_clock, private_clock, trace_by}
use Rattle.checks.specs.Table.{file_number, tie_of, is_set, file_by, files_in, facts_by}

-- ---- lists by number

pub listed_at : {A : Type 0} (f : ℕ → A) (i n k : ℕ) (d : A) → k < n → get_or (listed f i n) k d ≡ f (i + k)
unfolding listed
listed_at f i zero k d h = absurd (omega arith)
listed_at f i (suc n) zero d h = let e : i ≡ i + 0 = omega arith in ap f e
listed_at f i (suc n) (suc k) d h = listed_at f (suc i) n k d (omega arith) ∙ (let e : suc i + k ≡ i + suc k = omega arith in ap f e)

-- ---- bits

-- k tests are a number below 2^k
pub bits_small : {A : Type 0} (test : A → Bool) (l : List A) (k : ℕ) → length l ≤ k → bits_of test l < 2 ^ k
unfolding bits_of pick
bits_small test [] k h = omega (arith, one-le-pow k 2 (omega arith))
bits_small test (a ∷ l) zero h = absurd (omega arith)
bits_small test (a ∷ l) (suc k) h = go (test a) (bits_small test l k (omega arith)) (pow-suc 2 k)
  where
    go : (b : Bool) → bits_of test l < 2 ^ k → 2 ^ suc k ≡ 2 ^ k * 2 → pick b 1 0 + 2 * bits_of test l < 2 ^ suc k
    go true s e = omega arith
    go false s e = omega arith

-- ---- clocks and ties by numbers

pub domain_past : (d m : ℕ) → 6 < d → domain_clock d m ≡ 224
unfolding clock_of
domain_past d m h = go (ltb 0 d) (ltb m 32) (lt-leb d 6 h)
  where
    go : (a b : Bool) {x : Bool} → x ≡ false → (cond (a && x && b) (record { 0 = 6 * m + d - 1 }) no_clock).0 ≡ 224
    go true b e = ap (λ (x : Bool). (cond (x && b) (record { 0 = 6 * m + d - 1 }) no_clock).0) e
    go false b e = refl

pub machine_past : (d m : ℕ) → 31 < m → domain_clock d m ≡ 224
unfolding clock_of
machine_past d m h = go (ltb 0 d) (leb d 6) (le-ltb m 32 (omega arith))
  where
    go : (a b : Bool) {x : Bool} → x ≡ false → (cond (a && b && x) (record { 0 = 6 * m + d - 1 }) no_clock).0 ≡ 224
    go true true e = ap (λ (x : Bool). (cond x (record { 0 = 6 * m + d - 1 }) no_clock).0) e
    go true false e = refl
    go false b e = refl

tie_two : (n : ℕ) → n ≡ 2 → is_pinned (tie_of n) ≡ true
unfolding is_pinned tie_of pick
tie_two n e = ap (λ (k : ℕ). is_pinned (tie_of k)) e

tie_other : (n : ℕ) → (n ≡ 2 → ⊥) → is_pinned (tie_of n) ≡ false
unfolding is_pinned tie_of pick
tie_other n h = go (eqb n 1)
  where
    go : (b : Bool) → is_pinned (pick b tied (pick (eqb n 2) pinned untied)) ≡ false
    go true = refl
    go false = ap (λ (b : Bool). is_pinned (pick b pinned untied)) (ne_eqb n 2 h)

-- ---- the files of a table

module _ (t : List ℕ) where
  count_is : length (facts_by t).files ≡ files_in t
  unfolding facts_by
  count_is = listed_length (file_by t) 0 (files_in t)

  pub files_few : files_in t ≤ 32
  unfolding files_in
  files_few = omega arith

  -- whether file f claims a clock, by its numbers: without a claim, pinned, and by the container flag
  pub claims_nothing : (f : ℕ) → file_number t f 4 ≡ 0 → false ≡ claims (facts_by t) (file_by t f)
  unfolding claims file_by
  claims_nothing f e = sym (ap (λ (b : Bool). not b && not (is_pinned (tie_of (file_number t f 1))) && not (is_set (file_number t f 3))) (eq-eqb _ _ e))

  pub claims_pinned : (f : ℕ) → (file_number t f 4 ≡ 0 → ⊥) → file_number t f 1 ≡ 2 → false ≡ claims (facts_by t) (file_by t f)
  unfolding claims file_by
  claims_pinned f n e =
      sym
      (ap (λ (b : Bool). not b && not (is_pinned (tie_of (file_number t f 1))) && not (is_set (file_number t f 3))) (ne_eqb _ _ n)
      ∙ ap (λ (b : Bool). not b && not (is_set (file_number t f 3))) (tie_two _ e))

  pub claims_open : (f : ℕ) → (file_number t f 4 ≡ 0 → ⊥) → (file_number t f 1 ≡ 2 → ⊥) → eqb (file_number t f 3) 0 ≡ claims (facts_by t) (file_by t f)
  unfolding claims file_by is_set
  claims_open f n m =
      sym
      (ap (λ (b : Bool). not b && not (is_pinned (tie_of (file_number t f 1))) && not (is_set (file_number t f 3))) (ne_eqb _ _ n)
      ∙ (ap (λ (b : Bool). not b && not (is_set (file_number t f 3))) (tie_other _ m) ∙ twice (eqb (file_number t f 3) 0)))
    where
      twice : (b : Bool) → not (not b) ≡ b
      twice true = refl
      twice false = refl

  -- the first that claims from number f on; the number of files, if none does
  unfoldable pub claim_from : ℕ → ℕ
  claim_from f = first_or (files_in t) (claims (facts_by t)) (from (file_by t) (files_in t) f) f

  pub claim_past : (f : ℕ) → files_in t ≤ f → claim_from f ≡ files_in t
  unfolding claim_from first_or
  claim_past f h = ap (λ (l : List FileFact). first_or (files_in t) (claims (facts_by t)) l f) (from_past (file_by t) (files_in t) f h)

  pub claim_found : (f : ℕ) → f < files_in t → claims (facts_by t) (file_by t f) ≡ true → claim_from f ≡ f
  unfolding claim_from first_or
  claim_found f h e = ap (λ (l : List FileFact). first_or (files_in t) (claims (facts_by t)) l f) (from_here (file_by t) (files_in t) f h) ∙ pick_true _ _ e

  pub claim_on : (f : ℕ) → f < files_in t → claims (facts_by t) (file_by t f) ≡ false → claim_from f ≡ claim_from (suc f)
  unfolding claim_from first_or
  claim_on f h e = ap (λ (l : List FileFact). first_or (files_in t) (claims (facts_by t)) l f) (from_here (file_by t) (files_in t) f h) ∙ pick_false _ _ e

  -- the clock that is claimed by number f
  pub claimed_here : (f : ℕ) → f < files_in t → claimed (facts_by t) f ≡ domain_clock (file_number t f 4) (file_number t f 2)
  unfolding claimed facts_by file_by
  claimed_here f h =
      let e : 0 + f ≡ f = omega arith in
      pick_true _ _ (lt-ltb f (length (listed (file_by t) 0 (files_in t))) (let l : length (listed (file_by t) 0 (files_in t)) ≡ files_in t = count_is in omega arith))
      ∙ ap (λ (v : FileFact). domain_clock v.claim v.base.0) (listed_at (file_by t) 0 (files_in t) f _ h ∙ ap (file_by t) e)

  pub claimed_past : claimed (facts_by t) (files_in t) ≡ private_clock 0
  unfolding claimed
  claimed_past = pick_false _ _ (le-ltb (files_in t) (length (facts_by t).files) (let e : length (facts_by t).files ≡ files_in t = count_is in omega arith))

  -- the loop over the files: it finds one that claims, goes on, or comes to the end
  module _ (f : ℕ) (e : claim_from 0 ≡ claim_from f) where
    pub found_is : f < files_in t → claims (facts_by t) (file_by t f) ≡ true → domain_clock (file_number t f 4) (file_number t f 2) ≡ claimed (facts_by t) (claim_from 0)
    found_is h y = sym (ap (claimed (facts_by t)) (e ∙ claim_found f h y) ∙ claimed_here f h)

    pub goes_on : f < files_in t → claims (facts_by t) (file_by t f) ≡ false → claim_from 0 ≡ claim_from (f + 1)
    goes_on h n = let s : suc f ≡ f + 1 = omega arith in e ∙ (claim_on f h n ∙ ap (λ (k : ℕ). claim_from k) s)

    pub none_is : files_in t ≤ f → private_clock 0 ≡ claimed (facts_by t) (claim_from 0)
    none_is h = sym (ap (claimed (facts_by t)) (e ∙ claim_past f h) ∙ claimed_past)

  -- trace time without `trace_time`
  pub unset_is : trace_by (facts_by t) Unset ≡ claimed (facts_by t) (claim_from 0)
  unfolding trace_by claim_from from facts_by
  unset_is =
      let e : files_in t ≡ files_in t - 0 = omega arith in
      ap (λ (n : ℕ). claimed (facts_by t) (first_or n (claims (facts_by t)) (facts_by t).files 0)) count_is
      ∙ ap (λ (n : ℕ). claimed (facts_by t) (first_or (files_in t) (claims (facts_by t)) (listed (file_by t) 0 n) 0)) e

  -- the pinned files from number f on, as bits
  unfoldable pub pinned_from : ℕ → ℕ
  pinned_from f = bits_of (λ v. is_pinned v.tie) (from (file_by t) (files_in t) f)

  pub pinned_is : pinned_from 0 ≡ bits_of (λ v. is_pinned v.tie) (facts_by t).files
  unfolding pinned_from from facts_by
  pinned_is = let e : files_in t - 0 ≡ files_in t = omega arith in ap (λ (n : ℕ). bits_of (λ v. is_pinned v.tie) (listed (file_by t) 0 n)) e

  pub pinned_past : (f : ℕ) → files_in t ≤ f → pinned_from f ≡ 0
  unfolding pinned_from bits_of
  pinned_past f h = ap (bits_of (λ v. is_pinned v.tie)) (from_past (file_by t) (files_in t) f h)

  -- 32 files at most, so past file 0 there are 31
  pub pinned_small : (f : ℕ) → 0 < f → pinned_from f < 2147483648
  unfolding pinned_from from files_in
  pinned_small f h = bits_small (λ v. is_pinned v.tie) (listed (file_by t) f (files_in t - f)) 31 (omega (arith, listed_length (file_by t) f (files_in t - f)))

  step : (f : ℕ) → f < files_in t → pinned_from f ≡ pick (is_pinned (tie_of (file_number t f 1))) 1 0 + 2 * pinned_from (suc f)
  unfolding pinned_from bits_of file_by
  step f h = ap (bits_of (λ v. is_pinned v.tie)) (from_here (file_by t) (files_in t) f h)

  -- the file before number g, pinned or not
  module _ (g : ℕ) (low : 0 < g) (high : g ≤ files_in t) {bits : ℕ} (e : bits ≡ pinned_from g) where
    pub pinned_set : file_number t (g - 1) 1 ≡ 2 → 2 * bits + 1 ≡ pinned_from (g - 1)
    pinned_set h =
        let s : suc (g - 1) ≡ g = omega arith in
        omega (arith, ap (λ (n : ℕ). pinned_from n) s, step (g - 1) (omega arith), pick_true {A = ℕ} 1 0 (tie_two _ h))

    pub pinned_clear : (file_number t (g - 1) 1 ≡ 2 → ⊥) → 2 * bits ≡ pinned_from (g - 1)
    pinned_clear h =
        let s : suc (g - 1) ≡ g = omega arith in
        omega (arith, ap (λ (n : ℕ). pinned_from n) s, step (g - 1) (omega arith), pick_false {A = ℕ} 1 0 (tie_other _ h))
