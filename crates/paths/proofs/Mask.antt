-- A mask of some places of a list: a byte for each clock, which is not 0 where the clock stands there.
use Prim.Native.Nat.{ℕ, ◌+◌, ◌≤◌, ◌<◌}
use native.Mathlib.Omega.{arith}
use native.Mathlib.Decide.{ℕ_discrete}
use mathlib.Core.Path.{◌≡◌}
use mathlib.Core.List.{List}
use borrow.Author.Count.{below_more}
use lib.ListN.{length, get_or, set}
use lib.Seq.{get_or-set_same, get_or-set_other}
use Rattle.paths.specs.laws.Search.{Marked}

-- one more clock is marked: a clock that was marked is so still
stays : (bs : List ℕ) (c d : ℕ) → c < length bs → 0 < get_or bs d 0 → 0 < get_or (set bs c 255) d 0
stays bs c d l h = go (ℕ_discrete d c)
  where
    go : Dec (d ≡ c) → 0 < get_or (set bs c 255) d 0
    go (yes q) = rw q (omega (arith, get_or-set_same bs c 255 0 l))
    go (no q) = omega (arith, h, get_or-set_other bs c d 255 0 q)

-- no place yet
pub marked_none : (bs xs : List ℕ) (a : ℕ) → Marked bs xs a a
marked_none bs xs a = record { each = λ i p q. absurd (omega arith) }

-- the clock at the next place is marked
pub marked_more : {bs xs : List ℕ} {a b : ℕ} → Marked bs xs a b → get_or xs b 0 < length bs → Marked (set bs (get_or xs b 0) 255) xs a (b + 1)
marked_more {bs} {xs} {a} {b} s l = record { each = λ i p q. below_more (λ i. a ≤ i → 0 < get_or (set bs (get_or xs b 0) 255) (get_or xs i 0) 0) b (λ i q p. stays bs (get_or xs b 0) (get_or xs i 0) l (s.each i p q)) (λ p. omega (arith, get_or-set_same bs (get_or xs b 0) 255 0 l)) i q p }

-- something is put after the places
pub marked_kept : {bs xs : List ℕ} {a b : ℕ} (t x : ℕ) → Marked bs xs a b → b ≤ t → Marked bs (set xs t x) a b
marked_kept {bs} {xs} t x s h = record { each = λ i p q. rw (get_or-set_other xs t i x 0 (λ z. omega arith)) (s.each i p q) }
