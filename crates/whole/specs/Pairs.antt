-- A list of correspondences, which of them carries a reading, and the reading on the other clock. Assumes nothing.
use Rattle.std.specs.Prelude.{◌≡◌, ℕ, suc, ◌<◌, Bool, cond, ◌&&◌, List, [], ◌∷◌, map, length, ℤ, pos, ◌≤ℤ◌, ◌<ℤ◌, int_le, int_lt, slice_get, slice_index_or, Option, Some, None}
use Rattle.whole.specs.Whole.{shifted_of}

-- a correspondence: where the one clock reads x, the other reads y
pub record Pair : Type 0 where
  pub x : ℤ
  pub y : ℤ

abbrev pub swapped : Pair → Pair
swapped p = record { x = p.y; y = p.x }

unfoldable pub xs_of : List Pair → List ℤ
xs_of ps = map (λ (p : Pair). p.x) ps

unfoldable pub ys_of : List Pair → List ℤ
ys_of ps = map (λ (p : Pair). p.y) ps

-- the correspondences of two lists of readings, as far as both go
unfoldable pub pairs : List ℤ → List ℤ → List Pair
pairs [] ys = []
pairs (x ∷ xs) [] = []
pairs (x ∷ xs) (y ∷ ys) = record { x = x; y = y } ∷ pairs xs ys

-- whether x serves t better than b: "the greatest x at most t, else the smallest x"
unfoldable pub better : ℤ → ℤ → ℤ → Bool
better t b x = cond (int_le b t) (int_lt b x && int_le x t) (int_lt x b)

-- the place that serves t best, of a place so far, the reading b there, and the readings from the next place on
unfoldable pub place_from : ℤ → ℕ → ℤ → ℕ → List ℤ → ℕ
place_from t place b next [] = place
place_from t place b next (x ∷ xs) = cond (better t b x) (place_from t next x (suc next) xs) (place_from t place b (suc next) xs)

-- the place of the x that carries t, of equals the first; in an empty list 0, its length
unfoldable pub place_for : ℤ → List ℤ → ℕ
place_for t [] = 0
place_for t (x ∷ xs) = place_from t 0 x 1 xs

-- t carried by a correspondence; without one, nothing carries it
unfoldable pub carried_by : ℤ → Option Pair → Option ℤ
carried_by t None = None
carried_by t (Some p) = shifted_of t p.x p.y

-- t on the other clock
unfoldable pub converted : ℤ → List Pair → Option ℤ
converted t ps = carried_by t (slice_get ps (place_for t (xs_of ps)))

-- "Backwards, x and y swap."
unfoldable pub converted_back : ℤ → List Pair → Option ℤ
converted_back u ps = converted u (map swapped ps)

-- the reading at a place of a list
abbrev pub nth : List ℤ → ℕ → ℤ
nth xs i = slice_index_or xs i (pos 0)

-- what place i must be to carry t, said with no order of search
pub record Carries (t : ℤ) (xs : List ℤ) (i : ℕ) : Type 0 where
  pub listed : i < length xs
  -- if x_i is at most t, then it is the greatest of those at most t
  pub greatest : nth xs i ≤ℤ t → (j : ℕ) → j < length xs → nth xs j ≤ℤ t → nth xs j ≤ℤ nth xs i
  -- if x_i is past t, then all are, and it is the smallest
  pub smallest : t <ℤ nth xs i → (j : ℕ) → j < length xs → (t <ℤ nth xs j) × (nth xs i ≤ℤ nth xs j)
  -- of equals the first
  pub first : (j : ℕ) → j < i → nth xs j ≡ nth xs i → ⊥
