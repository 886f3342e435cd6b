-- Laws of a member's name with its colon, from those of strings.
use Rattle.std.specs.Prelude.{◌≡◌, refl, Bool, true, false, [], ◌∷◌, ◌++◌, ℕ, ◌+◌, ◌≤◌, length, eqb}
use Rattle.std.proofs.Common.{sym, ap, ◌∙◌, arith, length-append, eq-eqb, eqb-true}
use Rattle.std.proofs.lemmas.Bool.{eqb-false}
use Rattle.text.specs.Reading.{Text, Out, done, bad, pick, peek}
use Rattle.text.specs.Class.{class_of, whitespace, skip}
use Rattle.text.specs.Strings.{string}
use Rattle.text.specs.laws.Peek.{peek_in, skip_ge, skip_le, skip_stop}
use Rattle.text.specs.laws.Readers.{at, Agree, below, Local, next_local, pick_case, next_was, next_inv, next_bad_case, next_le, bad_done, done_bad, done_at, done_of, bad_at, fewer, front, next_byte, only_byte, Closed, EndsClosed, Bounded}
use Rattle.text.specs.laws.Runs.{skip_local, skip_same, skip_below}
use Rattle.grammar.proofs.laws.Scalars.{Solid}
use Rattle.grammar.proofs.laws.Forward.{colon_skip, colon_onward}
use Rattle.text.specs.laws.Strings.{string_local, string_closed, string_ends, string_bounded, string_none}
use Rattle.grammar.specs.Document.{colon, name}

colon_local : (s t k : Text) (j : ℕ) → Agree s t (at (colon s k j)) → colon t k j ≡ colon s k j
unfolding colon
colon_local s t k j w =
    let l : skip s j ≤ at (colon s k j) = colon_skip s k j in
    let e : skip t j ≡ skip s j = skip_local s t j (below l w) in
    let p : peek t (skip s j) ≡ peek s (skip s j) = sym (w.same _ l) in
    rw (e, p)

pub name_local : Local name
unfolding name
name_local s t i w = next_local _ _ _ _ (string_local s t i) (colon_onward s) (colon_local s t) w

-- the cases of the colon
colon_case : {C : Type 0} (s k : Text) (j : ℕ) {z : Out Text} → colon s k j ≡ z → (peek s (skip s j) ≡ 58 → done k (skip s j + 1) ≡ z → C) → ((peek s (skip s j) ≡ 58 → ⊥) → bad (skip s j) ≡ z → C) → C
unfolding colon
colon_case s k j e f g = pick_case _ _ _ e (λ t w. f (eqb-true _ _ t) w) (λ t w. g (eqb-false _ _ t) w)

-- a name that was read: the string, and the colon after it
pub name_read : (s : Text) (i : ℕ) {k : Text} {j : ℕ} → string s i ≡ done k j → peek s (skip s j) ≡ 58 → name s i ≡ done k (skip s j + 1)
unfolding name colon pick
name_read s i {k} {j} e c = next_was (colon s) e ∙ rw (eq-eqb _ _ c)

pub name_inv : (s : Text) (i : ℕ) {k : Text} {n : ℕ} → name s i ≡ done k n → (j : ℕ) × (string s i ≡ done k j) × (peek s (skip s j) ≡ 58) × (skip s j + 1 ≡ n)
unfolding name
name_inv s i {k} {n} e =
    let w = next_inv (string s i) (colon s) e in
    colon_case s w.0 w.1 w.3
    (λ c d. (w.1, w.2 ∙ ap (λ (x : Text). done x w.1) (done_of d), c, done_at d))
    (λ _ d. absurd (bad_done d))

pub name_closed : Closed name
name_closed s t i k n e b =
    let w = name_inv s i e in
    let j = w.0 in
    let l : skip s j + 1 ≡ n = w.3 in
    let es : skip t j ≡ skip s j = skip_below s t j b (omega arith) in
    let d : string t i ≡ done k j = string_closed s t i k j w.1 (fewer (omega (arith, skip_ge s j)) b) in
    name_read t i d (ap (peek t) es ∙ sym (b.same _ (omega arith)) ∙ w.2) ∙ ap (λ (q : ℕ). done k (q + 1)) es ∙ ap (done k) l

pub quote_first : (s : Text) (i : ℕ) {k : Text} {n : ℕ} → string s i ≡ done k n → peek s i ≡ 34
quote_first s i e = go (eqb (peek s i) 34) refl
  where
    go : (q : Bool) → eqb (peek s i) 34 ≡ q → peek s i ≡ 34
    go true h = eqb-true _ _ h
    go false h = absurd (bad_done (sym (string_none s i (eqb-false _ _ h)) ∙ e))

pub name_solid : Solid name
unfolding whitespace class_of pick
name_solid s i k n e = ap whitespace (quote_first s i (name_inv s i e).1)

colon_none : whitespace 58 ≡ false
unfolding whitespace class_of pick
colon_none = refl

pub name_ends : EndsClosed name
unfolding name
name_ends s i p e =
    next_bad_case (string s i) (colon s) e
    (λ d.
    let w = string_ends s i p d in
    let u = w.0 in (
      u ++ (58 ∷ []),
      λ t g.
          let v = w.1 t (front u (58 ∷ []) g) in
          let c : peek t (p + length u) ≡ 58 = next_byte u 58 g in
          let es : skip t (p + length u) ≡ p + length u = skip_stop t (p + length u) (ap whitespace c ∙ colon_none) in
          let q : skip t (p + length u) + 1 ≡ p + length (u ++ (58 ∷ [])) = omega (arith, length-append u (58 ∷ [])) in
          (v.0, name_read t i v.1 (ap (peek t) es ∙ c) ∙ ap (done v.0) q),
    ))
    (λ k j d y. colon_case s k j y
    (λ _ z. absurd (done_bad z))
    (λ _ z.
    let q : skip s j ≡ p = bad_at z in (
      58 ∷ [],
      λ t g.
          let c : peek t (skip s j) ≡ 58 = ap (peek t) q ∙ only_byte 58 [] g in
          let es : skip t j ≡ skip s j = skip_same s t j g.low (omega arith) (ap whitespace c ∙ colon_none) in
          let l : skip t j + 1 ≡ p + 1 = omega arith in
          (k, name_read t i (string_closed s t i k j d (fewer (omega (arith, skip_ge s j)) g.low)) (ap (peek t) es ∙ c) ∙ ap (done k) l),
    )))

pub name_bounded : Bounded name
unfolding name at
name_bounded s i h =
    next_le (string s i) (colon s) (length s) (string_bounded s i h)
    (λ k j g. colon_case s k j {z = colon s k j} refl
    (λ c d. let e : skip s j + 1 ≡ at (colon s k j) = ap at d in omega (arith, peek_in s (skip s j) (omega arith)))
    (λ c d. let e : skip s j ≡ at (colon s k j) = ap at d in omega (arith, skip_le s j g)))
