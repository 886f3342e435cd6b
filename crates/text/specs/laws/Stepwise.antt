-- Readings that look at one byte after the other: each byte either goes wrong there or leaves a reading that can be finished. What such a reading
-- promises is shown here once, for every choice of the bytes. Assumes nothing.
use Rattle.std.proofs.Math.Path.{◌≡◌, ap}
use Rattle.std.specs.Prelude.{refl, Bool, ◌⊎◌, [], ◌∷◌, ◌++◌, ℕ, suc, ◌+◌, ◌≤◌, ◌<◌}
use Rattle.std.proofs.Common.{sym, subst, ◌∙◌, inl, inr, le_refl, le_trans, add-zero, length-append, get_or-append-add}
use Rattle.std.proofs.Math.Bool.{true, false}
use native.Mathlib.Omega.{arith}
use Rattle.std.proofs.Math.Decide.{dec_lt}
use Rattle.std.proofs.Math.ListN.{length, get_or-append}
use Rattle.text.specs.Reading.{Text, Out, done, bad, next, pick, peek}
use Rattle.text.specs.laws.Peek.{peek_end}
use Rattle.text.specs.laws.Readers.{at, Agree, Below, fewer, Goes, front, at_next, at_done, at_bad, bad_at, done_bad, bad_done, next_inv, next_was, next_bad_case, next_le, next_local}

-- the bytes u stand in t from n on
pub record Stands (t : Text) (n : ℕ) (u : Text) : Type 0 where
  pub on : (k : ℕ) → k < length u → peek t (n + k) ≡ peek u k

stands_first : {t : Text} {n : ℕ} (b : ℕ) (u : Text) → Stands t n (b ∷ u) → peek t n ≡ b
unfolding peek
stands_first {t} {n} b u g = ap (peek t) (sym (add-zero n)) ∙ g.on 0 (omega arith)

stands_rest : {t : Text} {n : ℕ} (b : ℕ) (u : Text) → Stands t n (b ∷ u) → Stands t (n + 1) u
unfolding peek
stands_rest {t} {n} b u g = record { on = λ k l. let q : (n + 1) + k ≡ n + suc k = omega arith in ap (peek t) q ∙ g.on (suc k) (omega arith) }

stands_front : {t : Text} {n : ℕ} (u v : Text) → Stands t n (u ++ v) → Stands t n u
unfolding peek
stands_front u v g = record { on = λ k l. g.on k (omega (arith, length-append u v)) ∙ get_or-append u v 256 k l }

stands_rear : {t : Text} {n : ℕ} (u v : Text) → Stands t n (u ++ v) → Stands t (n + length u) v
unfolding peek
stands_rear {t} {n} u v g =
    record { on = λ k l. let q : (n + length u) + k ≡ n + (length u + k) = omega arith in ap (peek t) q ∙ g.on (length u + k) (omega (arith, length-append u v)) ∙ get_or-append-add u v k 256 }

pub goes_stands : {s : Text} {p : ℕ} {u t : Text} → Goes s p u t → Stands t p u
goes_stands g = record { on = g.on }

-- f reads a text from n on, a byte at a time
pub record Stepwise {A : Type 0} (n : ℕ) (f : Text → Out A) : Type 0 where
  pub forward : (s : Text) → n ≤ at (f s)
  pub local : (s t : Text) → Agree s t (at (f s)) → f t ≡ f s
  pub closed : (s t : Text) (a : A) (j : ℕ) → f s ≡ done a j → Below s t j → f t ≡ done a j
  pub fill : (u : Text) × (a : A) × ((t : Text) → Stands t n u → f t ≡ done a (n + length u))
  pub ends : (s : Text) (p : ℕ) → f s ≡ bad p → (u : Text) × (a : A) × ((t : Text) → Goes s p u t → f t ≡ done a (p + length u))
  pub within : (s : Text) → n ≤ length s → at (f s) ≤ length s

pub moved : {A : Type 0} {m n : ℕ} {f : Text → Out A} → m ≡ n → Stepwise n f → Stepwise m f
moved {A} {m} {n} {f} e o = subst (λ (k : ℕ). Stepwise k f) (sym e) o

-- all is read
pub finished : {A : Type 0} (n : ℕ) (a : A) → Stepwise n (λ s. done a n)
unfolding at
finished n a =
    record {
      forward = λ s. le_refl n;
      local = λ s t w. refl;
      closed = λ s t b j e w. e;
      fill = ([], a, λ t w. ap (done a) (sym (add-zero n)));
      ends = λ s p e. absurd (done_bad e);
      within = λ s h. h;
    }

-- after the byte at n: it is wrong, or the reading goes on past it
pub data Step {A : Type 0} (n : ℕ) (f : Text → Out A) : Type 0 where
  dead : ((s : Text) → f s ≡ bad n) → Step n f
  live : Stepwise (n + 1) f → Step n f

pub step_pick : {A : Type 0} {n : ℕ} (t : Bool) {f g : Text → Out A} → (t ≡ true → Step n f) → (t ≡ false → Step n g) → Step n (λ s. pick t (f s) (g s))
unfolding pick
step_pick true p q = p refl
step_pick false p q = q refl

pub wrong_here : {A : Type 0} (n : ℕ) → Step {A = A} n (λ s. bad n)
wrong_here n = dead (λ s. refl)

module _ {A : Type 0} (n : ℕ) (f : Text → Out A) where
  step_forward : Step n f → (s : Text) → n ≤ at (f s)
  unfolding at
  step_forward (dead h) s = let q : at (f s) ≡ n = ap at (h s) in omega arith
  step_forward (live o) s = omega (arith, o.forward s)

  step_local : Step n f → (s t : Text) → Agree s t (at (f s)) → f t ≡ f s
  step_local (dead h) s t w = h t ∙ sym (h s)
  step_local (live o) s t w = o.local s t w

  step_past : Step n f → (s : Text) {a : A} {j : ℕ} → f s ≡ done a j → n < j
  step_past (dead h) s e = absurd (bad_done (sym (h s) ∙ e))
  step_past (live o) s {a} {j} e = let l : n + 1 ≤ j = at_done (o.forward s) e in omega arith

  step_closed : Step n f → (s t : Text) (a : A) (j : ℕ) → f s ≡ done a j → Below s t j → f t ≡ done a j
  step_closed (dead h) s t a j e b = absurd (bad_done (sym (h s) ∙ e))
  step_closed (live o) s t a j e b = o.closed s t a j e b

  step_ends : Step n f → (s : Text) (p : ℕ) → f s ≡ bad p → (n ≡ p) ⊎ ((n < p) × ((u : Text) × (a : A) × ((t : Text) → Goes s p u t → f t ≡ done a (p + length u))))
  step_ends (dead h) s p e = inl (bad_at (sym (h s) ∙ e))
  step_ends (live o) s p e = let l : n + 1 ≤ p = at_bad (o.forward s) e in let q : n < p = omega arith in inr (q, o.ends s p e)

  step_within : Step n f → (s : Text) → n < length s → at (f s) ≤ length s
  unfolding at
  step_within (dead h) s l = let q : at (f s) ≡ n = ap at (h s) in omega arith
  step_within (live o) s l = o.within s (omega arith)

-- look at the byte at n. At the end nothing goes on, and b is a byte with which it does
module _ {A : Type 0} (n : ℕ) (f : ℕ → Text → Out A) (steps : (b : ℕ) → Step n (f b)) (end : (s : Text) → f 256 s ≡ bad n) (b : ℕ) (some : Stepwise (n + 1) (f b)) where
  looked_fill : (u : Text) × (a : A) × ((t : Text) → Stands t n u → f (peek t n) t ≡ done a (n + length u))
  looked_fill =
      let w = some.fill in
      let u = w.0 in (
        b ∷ u,
        w.1,
        λ t g.
            let q : (n + 1) + length u ≡ n + suc (length u) = omega arith in
            ap (λ (c : ℕ). f c t) (stands_first b u g) ∙ w.2 t (stands_rest b u g) ∙ ap (done w.1) q,
      )

  looked_ends : (s : Text) (p : ℕ) → f (peek s n) s ≡ bad p → (u : Text) × (a : A) × ((t : Text) → Goes s p u t → f (peek t n) t ≡ done a (p + length u))
  looked_ends s p e = go (step_ends n (f (peek s n)) (steps (peek s n)) s p e)
    where
      go : (n ≡ p) ⊎ ((n < p) × ((u : Text) × (a : A) × ((t : Text) → Goes s p u t → f (peek s n) t ≡ done a (p + length u)))) → (u : Text) × (a : A) × ((t : Text) → Goes s p u t → f (peek t n) t ≡ done a (p + length u))
      go (inl q) =
          let w = looked_fill in
          (w.0, w.1, λ t g. w.2 t (subst (λ (k : ℕ). Stands t k w.0) (sym q) (goes_stands g)) ∙ ap (λ (k : ℕ). done w.1 (k + length w.0)) q)
      go (inr h) =
          let w = h.1 in
          (w.0, w.1, λ t g. ap (λ (c : ℕ). f c t) (sym (g.low.same n h.0)) ∙ w.2 t g)

  looked_within : (s : Text) → n ≤ length s → at (f (peek s n) s) ≤ length s
  unfolding at
  looked_within s h = go (dec_lt n (length s))
    where
      go : Dec (n < length s) → at (f (peek s n) s) ≤ length s
      go (yes l) = step_within n (f (peek s n)) (steps (peek s n)) s l
      go (no m) =
          let q : f (peek s n) s ≡ bad n = ap (λ (c : ℕ). f c s) (peek_end s n (omega arith)) ∙ end s in
          let z : at (f (peek s n) s) ≡ n = ap at q in
          omega arith

  pub look : Stepwise n (λ s. f (peek s n) s)
  look =
      record {
        forward = λ s. step_forward n (f (peek s n)) (steps (peek s n)) s;
        local = λ s t w.
            ap (λ (c : ℕ). f c t) (sym (w.same n (step_forward n (f (peek s n)) (steps (peek s n)) s)))
            ∙ step_local n (f (peek s n)) (steps (peek s n)) s t w;
        closed = λ s t a j e w.
            ap (λ (c : ℕ). f c t) (sym (w.same n (step_past n (f (peek s n)) (steps (peek s n)) s e)))
            ∙ step_closed n (f (peek s n)) (steps (peek s n)) s t a j e w;
        fill = looked_fill;
        ends = looked_ends;
        within = looked_within;
      }

-- look at the byte at n: where the test holds the reading goes on, else it is wrong there
module _ {A : Type 0} (n : ℕ) (test : ℕ → Bool) (f : ℕ → Text → Out A) (goes_on : (b : ℕ) → test b ≡ true → Stepwise (n + 1) (f b)) (end : test 256 ≡ false) (b : ℕ) (holds : test b ≡ true) where
  passed : (t : Bool) → t ≡ true → {g : Text → Out A} → Stepwise (n + 1) g → Stepwise (n + 1) (λ s. pick t (g s) (bad n))
  unfolding pick
  passed true e o = o
  passed false e o = let z : ◌≡◌ {A = ℕ} 0 1 = cc in absurd (omega arith)

  pub gate : Stepwise n (λ s. pick (test (peek s n)) (f (peek s n) s) (bad n))
  unfolding pick
  gate =
      look n (λ c s. pick (test c) (f c s) (bad n))
      (λ c. step_pick (test c) (λ h. live (goes_on c h)) (λ _. wrong_here n))
      (λ s. rw end)
      b
      (passed (test b) holds (goes_on b holds))

-- one reading after the other
module _ {A B : Type 0} (n : ℕ) (f : Text → Out A) (g : Text → A → ℕ → Out B) (first : Stepwise n f) (second : (a : A) (j : ℕ) → Stepwise j (λ s. g s a j)) where
  chain_ends : (s : Text) (p : ℕ) → next (f s) (g s) ≡ bad p → (u : Text) × (b : B) × ((t : Text) → Goes s p u t → next (f t) (g t) ≡ done b (p + length u))
  chain_ends s p e =
      next_bad_case (f s) (g s) e
      (λ d.
      let w = first.ends s p d in
      let u = w.0 in
      let v = (second w.1 (p + length u)).fill in (
        u ++ v.0,
        v.1,
        λ t h.
            let q : (p + length u) + length v.0 ≡ p + length (u ++ v.0) = omega (arith, length-append u v.0) in
            next_was (g t) (w.2 t (front u v.0 h)) ∙ v.2 t (stands_rear u v.0 (goes_stands h)) ∙ ap (done v.1) q,
      ))
      (λ a j d y.
      let w = (second a j).ends s p y in
      let l : j ≤ p = at_bad ((second a j).forward s) y in
      (w.0, w.1, λ t h. next_was (g t) (first.closed s t a j d (fewer l h.low)) ∙ w.2 t h))

  chain_fill : (u : Text) × (b : B) × ((t : Text) → Stands t n u → next (f t) (g t) ≡ done b (n + length u))
  chain_fill =
      let w = first.fill in
      let u = w.0 in
      let v = (second w.1 (n + length u)).fill in (
        u ++ v.0,
        v.1,
        λ t h.
            let q : (n + length u) + length v.0 ≡ n + length (u ++ v.0) = omega (arith, length-append u v.0) in
            next_was (g t) (w.2 t (stands_front u v.0 h)) ∙ v.2 t (stands_rear u v.0 h) ∙ ap (done v.1) q,
      )

  pub chain : Stepwise n (λ s. next (f s) (g s))
  chain =
      record {
        forward = λ s. at_next (f s) (g s) n (first.forward s) (λ a j h. le_trans h ((second a j).forward s));
        local = λ s t w. next_local (f s) (f t) (g s) (g t) (first.local s t) (λ a j. (second a j).forward s) (λ a j. (second a j).local s t) w;
        closed = λ s t b j e w.
            let v = next_inv (f s) (g s) e in
            let l : v.1 ≤ j = at_done ((second v.0 v.1).forward s) v.3 in
            next_was (g t) (first.closed s t v.0 v.1 v.2 (fewer l w)) ∙ (second v.0 v.1).closed s t b j v.3 w;
        fill = chain_fill;
        ends = chain_ends;
        within = λ s h. next_le (f s) (g s) (length s) (first.within s h) (λ a j l. (second a j).within s l);
      }
