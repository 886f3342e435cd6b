-- Where neither 8 nor 9 applies, each known member is as its kind asks. Assumes nothing.
use Rattle.std.specs.Prelude.{◌≡◌, Bool, true, false, ◌||◌, List, [], ◌∷◌}
use Rattle.std.proofs.Common.{true≢false}
use Rattle.manifest.specs.Kinds.{Kind, text, integer, free, array, object, Fields, end, field}
use Rattle.manifest.specs.View.{Cell, absent, wrong, many, one, View, Row}
use Rattle.manifest.specs.Rows.{holds, any}
use Rattle.manifest.specs.Rules.{look, somewhere, across, twice, ill}
use Rattle.manifest.specs.Statements.{Meets, left_out, stands, All, all_none, all_one, Sound, SoundRow}
use Rattle.manifest.proofs.laws.Bools.{halves}

-- an item of an array that is no object, text, .. is 9; `absent` and `many` do not occur there, and would be 9 and 8
one_cell : {A : Type 0} (P : A → Type 0) (p q : A → Bool) (r : Bool) (c : Cell A) → ((a : A) → p a ≡ false → q a ≡ false → P a)
    → (twice r (look c) || holds p c) ≡ false → (ill r (look c) || holds q c) ≡ false → Meets P r c
unfolding look holds
one_cell P p q true absent f e h = absurd (true≢false h)
one_cell P p q false absent f e h = left_out
one_cell P p q r wrong f e h = absurd (true≢false h)
one_cell P p q r (many i) f e h = absurd (true≢false e)
one_cell P p q r (one a) f e h = stands (f a e h)

items_sound : {A : Type 0} (P : A → Type 0) (p q : A → Bool) (l : List (Cell A)) → ((a : A) → p a ≡ false → q a ≡ false → P a)
    → any (λ c. twice true (look c) || holds p c) l ≡ false → any (λ c. ill true (look c) || holds q c) l ≡ false → All (λ c. Meets P true c) l
unfolding any
items_sound P p q [] f e h = all_none
items_sound P p q (c ∷ l) f e h =
    let (a, b) = halves (twice true (look c) || holds p c) (any (λ d. twice true (look d) || holds p d) l) e in
    let (x, y) = halves (ill true (look c) || holds q c) (any (λ d. ill true (look d) || holds q d) l) h in
    all_one (one_cell P p q true c f a x) (items_sound P p q l f b y)

mutual
  unfolding somewhere

  pub sound : (k : Kind) (v : View k) → somewhere twice k v ≡ false → somewhere ill k v ≡ false → Sound k v
  sound text v e h = tt
  sound integer v e h = tt
  sound free v e h = tt
  sound (array k) v e h = items_sound (λ w. Sound k w) (λ w. somewhere twice k w) (λ w. somewhere ill k w) v (λ w a b. sound k w a b) e h
  sound (object fs) v e h = sound_row fs v e h

  pub sound_row : (fs : Fields) (v : Row fs) → across twice fs v ≡ false → across ill fs v ≡ false → SoundRow fs v
  sound_row end v e h = tt
  sound_row (field n r k fs) v e h =
      let (a, b) = halves (twice r (look v.0) || holds (λ w. somewhere twice k w) v.0) (across twice fs v.1) e in
      let (x, y) = halves (ill r (look v.0) || holds (λ w. somewhere ill k w) v.0) (across ill fs v.1) h in
      (one_cell (λ w. Sound k w) (λ w. somewhere twice k w) (λ w. somewhere ill k w) r v.0 (λ w p q. sound k w p q) a x, sound_row fs v.1 b y)
