-- What is taken from the front of a list, and what is left of a matrix. Assumes nothing.
use Rattle.std.specs.Prelude.{◌≡◌, refl, Bool, true, false, cond, List, ◌++◌, ℕ, ◌-◌, ◌≤◌, ◌<◌, min, ℤ, length, take, drop, replicate}
use Rattle.std.proofs.Common.{sym, ap, ◌∙◌, arith, take_all, length-take-le}
use Rattle.std.proofs.Math.Decide.{dec_lt}
use Rattle.graphs.specs.Graphs.{World, world_of}
use Rattle.clocks.specs.Answers.{Room, Filled, fits, answers_of, filled}
use Rattle.placed.specs.Placed.{world_in, cells, cleared}
use Rattle.placed.specs.declared.Given.{Given}

-- a count that is cut at a list's length is within it
pub cut_within : (n m : ℕ) {k : ℕ} → k ≡ min n m → k ≤ m
cut_within n m e = omega arith

-- and takes what the count takes
pub front_is : {A : Type 0} (n : ℕ) {k : ℕ} (xs : List A) → k ≡ min n (length xs) → take k xs ≡ take n xs
front_is n {k} xs e = go (dec_lt n (length xs))
  where
    go : Dec (n < length xs) → take k xs ≡ take n xs
    go (yes h) = let d : k ≡ n = omega arith in ap (λ (j : ℕ). take j xs) d
    go (no h) = take_all k xs (omega arith) ∙ sym (take_all n xs (omega arith))

pub cut_length : {A : Type 0} (n : ℕ) {k : ℕ} (m : List A) → k ≡ min n (length m) → length (take k m) ≡ min n (length m)
cut_length n {k} m e = length-take-le k m (omega arith) ∙ omega arith

-- the matrix is zeros, whatever is answered
filled_matrix : (w : World) (cs : List ℕ) (ts : List ℤ) (room : Room) → (filled w cs ts room).matrix ≡ replicate room.matrix 0
unfolding filled
filled_matrix w cs ts room = go (fits (length w.links) (length (answers_of w cs ts)) room) _ _ refl refl
  where
    go : (b : Bool) (x y : Filled) {m : List ℕ} → x.matrix ≡ m → y.matrix ≡ m → (cond b x y).matrix ≡ m
    go true x y p q = p
    go false x y p q = q

pub part_cleared : (w : World) (cs : List ℕ) (ts : List ℤ) (room : Room) (m : List ℕ) {k : ℕ} {p : List ℕ}
    → k ≡ cells m → room.matrix ≡ cells m → p ≡ (filled w cs ts room).matrix → p ++ drop k m ≡ cleared m
part_cleared w cs ts room m {k} {p} ek er e =
    λ i. (e ∙ (filled_matrix w cs ts room ∙ ap (λ (j : ℕ). replicate {A = ℕ} j 0) er)) i ++ drop (ek i) m

-- answers that are made of fronts, in the front of a matrix
module _ (g : Given) (a : List ℕ) (x : List ℤ) (c : List ℕ) (y : List ℤ) (on : List ℕ) (reads : List ℤ) (nt nk ns : ℕ) (m : List ℕ) where
  abbrev in_fronts : Filled
  in_fronts = filled (world_in g a x c y) (take g.events on) (take g.events reads) (record { times = nt; kinds = nk; steps = ns; matrix = cells m })

  pub placed_so : {k : ℕ} {a' c' on' : List ℕ} {x' y' reads' : List ℤ} → k ≡ cells m
      → a' ≡ take g.links a → x' ≡ take g.links x → c' ≡ take g.links c → y' ≡ take g.links y → on' ≡ take g.events on → reads' ≡ take g.events reads
      → {f : Filled} → f ≡ filled (world_of a' x' c' y' g.machines g.files g.pinned g.trace.0) on' reads' (record { times = nt; kinds = nk; steps = ns; matrix = length (take k m) })
      → {times : List ℤ} {kinds steps p : List ℕ} → times ≡ f.times → kinds ≡ f.kinds → steps ≡ f.steps → p ≡ f.matrix
      → (times ≡ in_fronts.times) × ((kinds ≡ in_fronts.kinds) × ((steps ≡ in_fronts.steps) × (p ++ drop k m ≡ cleared m)))
  placed_so {k} ek ea ex ec ey eo er {f} e qt qk qs qp =
      let l : length (take k m) ≡ cells m = cut_length 50176 m ek in
      let h : f ≡ in_fronts = e ∙ (λ i. filled (world_of (ea i) (ex i) (ec i) (ey i) g.machines g.files g.pinned g.trace.0) (eo i) (er i) (record { times = nt; kinds = nk; steps = ns; matrix = l i })) in (
        qt ∙ ap (λ (o : Filled). o.times) h,
        (
          qk ∙ ap (λ (o : Filled). o.kinds) h,
          (
            qs ∙ ap (λ (o : Filled). o.steps) h,
            part_cleared (world_in g a x c y) (take g.events on) (take g.events reads) (record { times = nt; kinds = nk; steps = ns; matrix = cells m }) m ek refl (qp ∙ ap (λ (o : Filled). o.matrix) h),
          ),
        ),
      )
