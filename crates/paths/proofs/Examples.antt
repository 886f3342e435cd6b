-- Seven clocks and the goal 5, with the pairs 0-1, 0-2, 1-4, 2-3, 3-5, 4-5 and 5-6, each in this direction only. Two paths of three pairs lead from 0 to 5. The best goes by 1 and 4, since 1 is smaller than 2, though 3 is smaller than 4. From 6 there is no path.
use Rattle.std.specs.Prelude.{ℕ, ◌-◌, ◌<◌, ◌≡◌, refl, List, [], ◌∷◌, ◌++◌, get_or, replicate, Ok, Err}
use Rattle.std.proofs.Common.{arith, sym, ◌∙◌}
use Rattle.std.proofs.Math.Decide.{dec_lt}
use Rattle.std.proofs.Math.ListN.{get_or-eq_default}
use Rattle.numbers.specs.Numbers.{clocks}
use Rattle.paths.specs.Paths.{Net, reach, least, dist, next, trace}
use Rattle.paths.specs.Matrix.{far, is_graph, held, graph_of, tabulate, distances, nexts, traced}
use Rattle.paths.specs.declared.NoRoute.TheVariants.{Nowhere, Short}
use Rattle.paths.proofs.laws.Reach.{outside}
use Rattle.paths.proofs.laws.Cert.{Cert, checked_cert, cert_dist, next_by, next_by_lem}
use Rattle.paths.proofs.laws.Table.{tabulate_same}
use Rattle.paths.specs.laws.Graph.{graph_held}

abbrev pub matrix : List ℕ
matrix =
    0 ∷ 1 ∷ 1 ∷ 0 ∷ 0 ∷ 0 ∷ 0 ∷
    0 ∷ 0 ∷ 0 ∷ 0 ∷ 1 ∷ 0 ∷ 0 ∷
    0 ∷ 0 ∷ 0 ∷ 1 ∷ 0 ∷ 0 ∷ 0 ∷
    0 ∷ 0 ∷ 0 ∷ 0 ∷ 0 ∷ 1 ∷ 0 ∷
    0 ∷ 0 ∷ 0 ∷ 0 ∷ 0 ∷ 1 ∷ 0 ∷
    0 ∷ 0 ∷ 0 ∷ 0 ∷ 0 ∷ 0 ∷ 1 ∷
    0 ∷ 0 ∷ 0 ∷ 0 ∷ 0 ∷ 0 ∷ 0 ∷ []

abbrev g : Net
g = held matrix 7 5

is_held : graph_of matrix 7 5 ≡ g
unfolding is_graph
is_held = graph_held matrix 7 5 refl

abbrev f : ℕ → ℕ
f c = get_or (3 ∷ 2 ∷ 2 ∷ 1 ∷ 1 ∷ 0 ∷ []) c far

certificate : Cert g f
unfolding reach least
certificate = checked_cert g f refl

dist_is : (c : ℕ) → dist g c ≡ f c
dist_is c = go (dec_lt c 7)
  where
    go : Dec (c < 7) → dist g c ≡ f c
    go (yes h) = sym (cert_dist certificate c h)
    go (no h) = outside g c (omega arith) ∙ sym (get_or-eq_default (3 ∷ 2 ∷ 2 ∷ 1 ∷ 1 ∷ 0 ∷ []) far {n = c} (omega arith))

next_is : (c : ℕ) → next g c ≡ next_by g f c
next_is c = sym (next_by_lem g f (λ i _. sym (dist_is i)) c (sym (dist_is c)))

pub distances_example : distances (graph_of matrix 7 5) ≡ (3 ∷ 2 ∷ 2 ∷ 1 ∷ 1 ∷ 0 ∷ []) ++ replicate (clocks - 6) far
unfolding distances tabulate
distances_example = rw is_held (tabulate_same (dist g) f clocks (λ c _. dist_is c))

pub nexts_example : nexts (graph_of matrix 7 5) ≡ (1 ∷ 4 ∷ 3 ∷ 5 ∷ 5 ∷ []) ++ tabulate (λ c. c) 5 (clocks - 5)
unfolding nexts tabulate least
nexts_example = rw is_held (tabulate_same (next g) (next_by g f) clocks (λ c _. next_is c))

pub steps_example : traced (graph_of matrix 7 5) 0 5 ≡ record { answer = Ok 3; out = 1 ∷ 4 ∷ 5 ∷ 0 ∷ 0 ∷ [] }
unfolding traced trace least
steps_example = rw is_held (rw (dist_is 0) (rw (next_is 0) (rw (next_is 1) (rw (next_is 4) refl))))

pub short_example : traced (graph_of matrix 7 5) 0 2 ≡ record { answer = Err Short; out = 0 ∷ 0 ∷ [] }
unfolding traced
short_example = rw is_held (rw (dist_is 0) refl)

pub nowhere_example : traced (graph_of matrix 7 5) 6 2 ≡ record { answer = Err Nowhere; out = 0 ∷ 0 ∷ [] }
unfolding traced
nowhere_example = rw is_held (rw (dist_is 6) refl)
