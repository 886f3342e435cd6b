-- Two worlds whose lists agree in what they list first of each x have the same answers. Assumes nothing.
use Rattle.std.specs.Prelude.{◌≡◌, Bool, ◌||◌, ℕ, zero, suc, length, ℤ, Option, Some, None}
use Rattle.std.proofs.Math.Path.{refl, ap, ap₂}
use Rattle.std.proofs.Common.{sym, ◌∙◌, arith}
use mathlib.Core.List.{List, [], ◌∷◌}
use Rattle.std.proofs.Math.Dec.{ltb}
use Rattle.whole.specs.Pairs.{Pair, converted}
use Rattle.paths.specs.Paths.{Net, dist, next, trace, path}
use Rattle.paths.specs.Matrix.{far}
use Rattle.graphs.specs.Links.{list_of}
use Rattle.graphs.specs.Graphs.{World, to_trace, guess, or_guess, along, some, joined, graph}
use Rattle.graphs.specs.laws.Matrix.{joined_is}
use Rattle.graphs.specs.laws.Same.{Alike, dist_same, next_same}
use Rattle.clocks.specs.Answers.{Answer, through, carried, ended, placed, related, answer_of, answers_of}
use Rattle.clocks.specs.laws.Firsts.{Firsts, firsts_convert}
use Rattle.clocks.specs.Statements.{SameWorld}

-- ---- lists that agree in their firsts
-- one that is empty agrees with an empty one alone
none_first : (p : Pair) (ps : List Pair) → Firsts (p ∷ ps) [] → ⊥
none_first p ps to = let (j, f, x, y) = to 0 (record { listed = omega arith; none = λ j l e. omega arith }) in omega (arith, f.listed)

some_same : (ps qs : List Pair) → Firsts ps qs → Firsts qs ps → some ps ≡ some qs
unfolding some
some_same [] [] to from = refl
some_same [] (q ∷ qs) to from = absurd (none_first q qs from)
some_same (p ∷ ps) [] to from = absurd (none_first p ps to)
some_same (p ∷ ps) (q ∷ qs) to from = refl

guess_convert : (b : Bool) (t : ℤ) (ps qs : List Pair) → Firsts ps qs → Firsts qs ps → converted t (or_guess b ps) ≡ converted t (or_guess b qs)
unfolding or_guess
guess_convert b t [] [] to from = refl
guess_convert b t [] (q ∷ qs) to from = absurd (none_first q qs from)
guess_convert b t (p ∷ ps) [] to from = absurd (none_first p ps to)
guess_convert b t (p ∷ ps) (q ∷ qs) to from = firsts_convert t (p ∷ ps) (q ∷ qs) to from

-- ---- the same path
trace_same : {g h : Net} → Alike g h → (k c : ℕ) → trace g k c ≡ trace h k c
unfolding trace
trace_same a zero c = refl
trace_same {g} {h} a (suc k) c = ap₂ (λ (d : ℕ) (p : List ℕ). d ∷ p) (next_same a c) (trace_same a k (next g c) ∙ ap (trace h k) (next_same a c))

path_same : {g h : Net} → Alike g h → (c : ℕ) → path g c ≡ path h c
path_same {g} {h} a c = trace_same a (dist g c) c ∙ ap (λ (k : ℕ). trace h k c) (dist_same a c)

module _ {w u : World} (s : SameWorld w u) where
  guess_same : (g c d : ℕ) → guess g w c d ≡ guess g u c d
  unfolding guess to_trace
  guess_same g c d = rw (s.machines, s.files, s.pinned, s.trace) refl

  joined_same : (g c d : ℕ) → joined g w c d ≡ joined g u c d
  joined_same g c d =
      joined_is g w c d
      ∙ ap₂ (λ (p q : Bool). p || q) (guess_same g c d) (some_same (list_of w.links c d) (list_of u.links c d) (s.to c d) (s.from c d))
      ∙ sym (joined_is g u c d)

  alike : (g : ℕ) → Alike (graph g w) (graph g u)
  alike g = record { size = refl; goal = s.trace; far = refl; pairs = λ c d _ _. joined_same g c d }

  -- ---- the same value along it
  through_same : (g c d : ℕ) (v : Option ℤ) → through (along g w c d) v ≡ through (along g u c d) v
  unfolding through along
  through_same g c d None = refl
  through_same g c d (Some t) =
      guess_convert (guess g w c d) t (list_of w.links c d) (list_of u.links c d) (s.to c d) (s.from c d)
      ∙ ap (λ (b : Bool). converted t (or_guess b (list_of u.links c d))) (guess_same g c d)

  carried_same : (g c : ℕ) (p : List ℕ) (v : Option ℤ) → carried g w c p v ≡ carried g u c p v
  unfolding carried
  carried_same g c [] v = refl
  carried_same g c (d ∷ p) v = carried_same g d p (through (along g w c d) v) ∙ ap (carried g u d p) (through_same g c d v)

  -- ---- the same answer
  related_same : (g c : ℕ) → related g w c ≡ related g u c
  unfolding related
  related_same g c = ap (λ (k : ℕ). ltb k far) (dist_same (alike g) c)

  placed_same : (g c : ℕ) (t : ℤ) → placed g w c t ≡ placed g u c t
  unfolding placed
  placed_same g c t =
      ap (ended g (length (path (graph g w) c))) (carried_same g c (path (graph g w) c) (Some t))
      ∙ ap (λ (p : List ℕ). ended g (length p) (carried g u c p (Some t))) (path_same (alike g) c)

  pub answer_same : (c : ℕ) (t : ℤ) → answer_of w c t ≡ answer_of u c t
  unfolding answer_of
  answer_same c t = rw (related_same 1 c, related_same 2 c, related_same 3 c, placed_same 1 c t, placed_same 2 c t, placed_same 3 c t) refl

  pub answers_same : (cs : List ℕ) (ts : List ℤ) → answers_of w cs ts ≡ answers_of u cs ts
  unfolding answers_of
  answers_same [] ts = refl
  answers_same (c ∷ cs) [] = refl
  answers_same (c ∷ cs) (t ∷ ts) = ap₂ (λ (r : Answer) (rs : List Answer). r ∷ rs) (answer_same c t) (answers_same cs ts)
