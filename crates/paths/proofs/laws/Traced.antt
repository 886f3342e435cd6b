-- The three answers of the tracing of a path, and what each tells.
use Rattle.std.specs.Prelude.{ℕ, ◌-◌, ◌≤◌, ◌<◌, ◌≡◌, refl, ◌++◌, length, take, drop, replicate, Ok, Err}
use Rattle.std.proofs.Common.{arith, ◌∙◌, take_at, drop_at}
use Rattle.std.proofs.Math.Decide.{dec_lt}
use borrow.Author.Tests.{eq-eqb, ne_eqb, lt-ltb, le-ltb}
use Rattle.paths.specs.declared.NoRoute.TheVariants.{Nowhere, Short}
use Rattle.paths.specs.Paths.{Net, IsBest, dist, path}
use Rattle.paths.specs.Matrix.{Traced, traced}
use Rattle.paths.proofs.laws.Reach.{dist_le}
use Rattle.paths.proofs.laws.Best.{path_best, length_trace}

module _ (g : Net) (c room : ℕ) where
  pub traced_nowhere : dist g c ≡ g.far → traced g c room ≡ record { answer = Err Nowhere; out = replicate room 0 }
  unfolding traced
  traced_nowhere e = rw (eq-eqb (dist g c) g.far e)

  pub traced_short : dist g c < g.far → room < dist g c → traced g c room ≡ record { answer = Err Short; out = replicate room 0 }
  unfolding traced
  traced_short f h = rw (ne_eqb (dist g c) g.far (λ e. omega arith), lt-ltb room (dist g c) h)

  pub traced_steps : dist g c < g.far → dist g c ≤ room → traced g c room ≡ record { answer = Ok (dist g c); out = path g c ++ replicate (room - dist g c) 0 }
  unfolding traced
  traced_steps f h = rw (ne_eqb (dist g c) g.far (λ e. omega arith), le-ltb room (dist g c) h)

  -- which case it is
  by_cases : (P : Traced → Type 0) → (dist g c ≡ g.far → P (record { answer = Err Nowhere; out = replicate room 0 })) → (dist g c < g.far → room < dist g c → P (record { answer = Err Short; out = replicate room 0 }))
      → (dist g c < g.far → dist g c ≤ room → P (record { answer = Ok (dist g c); out = path g c ++ replicate (room - dist g c) 0 })) → P (traced g c room)
  by_cases P n s t = go (dec_lt (dist g c) g.far) (dec_lt room (dist g c))
    where
      go : Dec (dist g c < g.far) → Dec (room < dist g c) → P (traced g c room)
      go (no f) h = let e : dist g c ≡ g.far = omega (arith, dist_le g c) in rw (traced_nowhere e) (n e)
      go (yes f) (yes h) = rw (traced_short f h) (s f h)
      go (yes f) (no h) = let l : dist g c ≤ room = omega arith in rw (traced_steps f l) (t f l)

  pub steps_best : (k : ℕ) → (traced g c room).answer ≡ Ok k → (k ≤ room) × IsBest g c (take k (traced g c room).out) × (drop k (traced g c room).out ≡ replicate (room - k) 0)
  steps_best k =
      by_cases (λ t. t.answer ≡ Ok k → (k ≤ room) × IsBest g c (take k t.out) × (drop k t.out ≡ replicate (room - k) 0))
      (λ _ e. let z : ◌≡◌ {A = ℕ} 0 1 = cc in absurd (omega arith))
      (λ _ _ e. let z : ◌≡◌ {A = ℕ} 0 1 = cc in absurd (omega arith))
      (λ f l e.
      let q : dist g c ≡ k = cc in
      let m : length (path g c) ≡ k = length_trace g (dist g c) c ∙ q in
      (omega arith, rw (take_at (path g c) (replicate (room - dist g c) 0) k m) (path_best g c f), rw (drop_at (path g c) (replicate (room - dist g c) 0) k m, q)))

  pub nowhere_far : (traced g c room).answer ≡ Err Nowhere → (dist g c ≡ g.far) × ((traced g c room).out ≡ replicate room 0)
  nowhere_far =
      by_cases (λ t. t.answer ≡ Err Nowhere → (dist g c ≡ g.far) × (t.out ≡ replicate room 0))
      (λ f e. (f, refl))
      (λ _ _ e. let z : ◌≡◌ {A = ℕ} 0 1 = cc in absurd (omega arith))
      (λ _ _ e. let z : ◌≡◌ {A = ℕ} 0 1 = cc in absurd (omega arith))

  pub short_longer : (traced g c room).answer ≡ Err Short → IsBest g c (path g c) × (room < length (path g c)) × ((traced g c room).out ≡ replicate room 0)
  short_longer =
      by_cases (λ t. t.answer ≡ Err Short → IsBest g c (path g c) × (room < length (path g c)) × (t.out ≡ replicate room 0))
      (λ _ e. let z : ◌≡◌ {A = ℕ} 0 1 = cc in absurd (omega arith))
      (λ f h e. (path_best g c f, rw (length_trace g (dist g c) c) h, refl))
      (λ _ _ e. let z : ◌≡◌ {A = ℕ} 0 1 = cc in absurd (omega arith))
