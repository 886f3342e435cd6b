-- The laws of `tabulate`, and of the lists of distances and next clocks.
use Rattle.std.specs.Prelude.{ℕ, zero, suc, ◌+◌, ◌<◌, ◌≡◌, refl, List, length, get_or}
use Rattle.std.proofs.Common.{le_of_suc-le-suc, not-suc-le-zero, arith, sym, ◌∙◌, ext_get_or}
use Rattle.std.proofs.Math.Path.{ap}
use Rattle.numbers.specs.Numbers.{clocks}
use Rattle.paths.specs.Paths.{Net, dist, next}
use Rattle.paths.specs.Matrix.{tabulate, distances, nexts}

pub length_tabulate : (f : ℕ → ℕ) (a n : ℕ) → length (tabulate f a n) ≡ n
unfolding tabulate
length_tabulate f a zero = refl
length_tabulate f a (suc n) = ap suc (length_tabulate f (suc a) n)

pub get_d_tabulate : (f : ℕ → ℕ) (a n i z : ℕ) → i < n → get_or (tabulate f a n) i z ≡ f (a + i)
unfolding tabulate
get_d_tabulate f a zero i z h = absurd (not-suc-le-zero h)
get_d_tabulate f a (suc n) zero z h = ap f (omega arith)
get_d_tabulate f a (suc n) (suc i) z h = get_d_tabulate f (suc a) n i z (le_of_suc-le-suc h) ∙ ap f (omega arith)

-- a list of n elements, each as f says
pub tabulate_is : (f : ℕ → ℕ) (n : ℕ) (xs : List ℕ) → length xs ≡ n → ((i : ℕ) → i < n → get_or xs i 0 ≡ f i) → xs ≡ tabulate f 0 n
tabulate_is f n xs z h =
    ext_get_or 0 xs (tabulate f 0 n) (z ∙ sym (length_tabulate f 0 n))
    (λ i l. h i (omega arith) ∙ sym (get_d_tabulate f 0 n i 0 (omega arith) ∙ ap f (omega arith)))

pub tabulate_same : (f e : ℕ → ℕ) (n : ℕ) → ((i : ℕ) → i < n → f i ≡ e i) → tabulate f 0 n ≡ tabulate e 0 n
tabulate_same f e n h =
    tabulate_is e n (tabulate f 0 n) (length_tabulate f 0 n)
    (λ i l. get_d_tabulate f 0 n i 0 l ∙ ap f (omega arith) ∙ h i l)

module _ (g : Net) where
  pub get_d_distances : (c : ℕ) → c < clocks → get_or (distances g) c 0 ≡ dist g c
  unfolding distances
  get_d_distances c h = get_d_tabulate (dist g) 0 clocks c 0 h ∙ ap (dist g) (omega arith)

  pub get_d_nexts : (c : ℕ) → c < clocks → get_or (nexts g) c 0 ≡ next g c
  unfolding nexts
  get_d_nexts c h = get_d_tabulate (next g) 0 clocks c 0 h ∙ ap (next g) (omega arith)

  pub distances_is : (ds : List ℕ) → length ds ≡ clocks → ((c : ℕ) → c < clocks → get_or ds c 0 ≡ dist g c) → ds ≡ distances g
  unfolding distances
  distances_is ds z h = tabulate_is (dist g) clocks ds z h

  pub nexts_is : (ns : List ℕ) → length ns ≡ clocks → ((c : ℕ) → c < clocks → get_or ns c 0 ≡ next g c) → ns ≡ nexts g
  unfolding nexts
  nexts_is ns z h = tabulate_is (next g) clocks ns z h

  -- what stands in a list that is the list of distances, or of next clocks
  pub at_distances : {ds : List ℕ} → ds ≡ distances g → (c : ℕ) → c < clocks → get_or ds c 0 ≡ dist g c
  at_distances e c h = rw e (get_d_distances c h)

  pub at_nexts : {ns : List ℕ} → ns ≡ nexts g → (c : ℕ) → c < clocks → get_or ns c 0 ≡ next g c
  at_nexts e c h = rw e (get_d_nexts c h)
