-- A list repeats itself exactly where two of its places hold the same. Assumes nothing.
use Rattle.std.specs.Prelude.{◌≡◌, refl, Bool, true, false, ◌||◌, ◌&&◌, eqb, length, get_or}
use mathlib.Core.List.{List, [], ◌∷◌}
use Prim.Native.Nat.{ℕ, zero, suc, ◌<◌}
use native.Mathlib.Omega.{arith}
use Rattle.std.proofs.Common.{eqb-true, eq-eqb}
use Rattle.records.specs.Layout.{Record}
use Rattle.records.specs.declared.Source.{Source}
use Rattle.sheet.specs.Lists.{paths_of, sources_of}
use Rattle.sheet.specs.Twice.{among, repeats, same_bytes, same_source, again}
use Rattle.sheet.specs.Meaning.{Twice, no_source, Repeated, a_path, a_source}

-- a test that tells equal things
pub record Tells {A : Type 0} (same : A → A → Bool) : Type 0 where
  pub sound : (x y : A) → same x y ≡ true → x ≡ y
  pub whole : (x : A) → same x x ≡ true

pub no_way : false ≡ true → ⊥
no_way e = let z : ◌≡◌ {A = ℕ} 0 1 = cc in omega arith

pub or_split : {P : Type 0} (a b : Bool) → (a || b) ≡ true → (a ≡ true → P) → (b ≡ true → P) → P
or_split true b h f g = f refl
or_split false b h f g = g h

or_left : {a : Bool} (b : Bool) → a ≡ true → (a || b) ≡ true
or_left b h = rw h

or_right : (a : Bool) {b : Bool} → b ≡ true → (a || b) ≡ true
or_right true h = refl
or_right false h = h

module _ {A : Type 0} (d : A) (same : A → A → Bool) (tells : Tells same) where
  among_has : (x : A) (xs : List A) → among same x xs ≡ true → (j : ℕ) × (j < length xs) × (x ≡ get_or xs j d)
  unfolding among
  among_has x [] h = absurd (no_way h)
  among_has x (y ∷ ys) h =
      or_split (same x y) (among same x ys) h (λ (e : same x y ≡ true). (0, omega arith, tells.sound x y e))
      (λ (e : among same x ys ≡ true). let q = among_has x ys e in (suc q.0, omega (arith, q.1), q.2))

  among_at : (x : A) (xs : List A) (j : ℕ) → j < length xs → x ≡ get_or xs j d → among same x xs ≡ true
  unfolding among
  among_at x [] j h e = absurd (omega arith)
  among_at x (y ∷ ys) zero h e = rw (← e, tells.whole x)
  among_at x (y ∷ ys) (suc j) h e = or_right (same x y) (among_at x ys j (omega arith) e)

  pub repeats_twice : (xs : List A) → repeats same xs ≡ true → Twice d xs
  unfolding repeats
  repeats_twice [] h = absurd (no_way h)
  repeats_twice (x ∷ xs) h =
      or_split (among same x xs) (repeats same xs) h
      (λ (e : among same x xs ≡ true). let q = among_has x xs e in record { first = 0; second = suc q.0; order = omega arith; inside = omega (arith, q.1); equal = q.2 })
      (λ (e : repeats same xs ≡ true). let q = repeats_twice xs e in record { first = suc q.first; second = suc q.second; order = omega (arith, q.order); inside = omega (arith, q.inside); equal = q.equal })

  at_twice : (xs : List A) (i j : ℕ) → i < j → j < length xs → get_or xs i d ≡ get_or xs j d → repeats same xs ≡ true
  unfolding repeats
  at_twice [] i j l h e = absurd (omega arith)
  at_twice (x ∷ xs) i zero l h e = absurd (omega arith)
  at_twice (x ∷ xs) zero (suc j) l h e = rw (among_at x xs j (omega arith) e)
  at_twice (x ∷ xs) (suc i) (suc j) l h e = or_right (among same x xs) (at_twice xs i j (omega arith) (omega arith) e)

  pub twice_repeats : (xs : List A) → Twice d xs → repeats same xs ≡ true
  twice_repeats xs t = at_twice xs t.first t.second t.order t.inside t.equal

-- ---- the two tests of 31 tell equal things
and_split : {P : Type 0} (a b : Bool) → (a && b) ≡ true → (a ≡ true → b ≡ true → P) → P
and_split true b h f = f refl h
and_split false b h f = absurd (no_way h)

bytes_sound : (xs ys : List ℕ) → same_bytes xs ys ≡ true → xs ≡ ys
unfolding same_bytes
bytes_sound [] [] h = refl
bytes_sound [] (y ∷ ys) h = absurd (no_way h)
bytes_sound (x ∷ xs) [] h = absurd (no_way h)
bytes_sound (x ∷ xs) (y ∷ ys) h =
    and_split (eqb x y) (same_bytes xs ys) h
    (λ (a : eqb x y ≡ true) (b : same_bytes xs ys ≡ true). let e : x ≡ y = eqb-true x y a in let f : xs ≡ ys = bytes_sound xs ys b in cc)

bytes_whole : (xs : List ℕ) → same_bytes xs xs ≡ true
unfolding same_bytes
bytes_whole [] = refl
bytes_whole (x ∷ xs) = rw (eq-eqb x x refl, bytes_whole xs)

pub bytes_tell : Tells same_bytes
bytes_tell = record { sound = bytes_sound; whole = bytes_whole }

source_sound : (x y : Source) → same_source x y ≡ true → x ≡ y
source_sound x y h =
    and_split (eqb x.file.0 y.file.0) (eqb x.id y.id) h
    (λ (a : eqb x.file.0 y.file.0 ≡ true) (b : eqb x.id y.id ≡ true). rebuilt (eqb-true x.file.0 y.file.0 a) (eqb-true x.id y.id b))
  where
    made : ℕ → ℕ → Source
    made f i = record { file = record { 0 = f }; id = i }

    rebuilt : x.file.0 ≡ y.file.0 → x.id ≡ y.id → made x.file.0 x.id ≡ made y.file.0 y.id
    rebuilt e g = rw (e, g)

pub sources_tell : Tells same_source
sources_tell = record { sound = source_sound; whole = λ x. rw (eq-eqb x.file.0 x.file.0 refl, eq-eqb x.id x.id refl) }

-- ---- 31
pub again_repeated : (rs : List Record) → again rs ≡ true → Repeated rs
unfolding again
again_repeated rs h =
    or_split (repeats same_bytes (paths_of rs)) (repeats same_source (sources_of rs)) h
    (λ (e : repeats same_bytes (paths_of rs) ≡ true). a_path (repeats_twice [] same_bytes bytes_tell (paths_of rs) e))
    (λ (e : repeats same_source (sources_of rs) ≡ true). a_source (repeats_twice no_source same_source sources_tell (sources_of rs) e))

pub repeated_again : (rs : List Record) → Repeated rs → again rs ≡ true
unfolding again
repeated_again rs (a_path t) = or_left (repeats same_source (sources_of rs)) (twice_repeats [] same_bytes bytes_tell (paths_of rs) t)
repeated_again rs (a_source t) = or_right (repeats same_bytes (paths_of rs)) (twice_repeats no_source same_source sources_tell (sources_of rs) t)
