-- A value that was read is read again in every text that has the same bytes up to its end and then a byte that can follow a value.
use Rattle.std.specs.Prelude.{◌≡◌, refl, true, false, List, [], ◌∷◌, length}
use Rattle.std.proofs.Math.Path.{sym, ap}
use Rattle.std.proofs.Common.{◌∙◌, arith}
use Prim.Native.Nat.{ℕ, zero, suc, ◌+◌, ◌≤◌, ◌<◌}
use borrow.Author.Tests.{eq-eqb, ne_eqb, eqb-true, eqb-false}
use Rattle.text.specs.Reading.{Text, Out, done, bad, Reader, next, pick, peek}
use Rattle.text.specs.Class.{class_of, whitespace, skip}
use Rattle.text.specs.laws.Peek.{skip_ge}
use Rattle.text.specs.laws.Readers.{Forward, pick_case, next_was, next_inv, bad_done, deep_done, done_at, done_of, past_done, Below, fewer, stop, Strict, Firm, Closed}
use Rattle.text.specs.laws.Runs.{skip_same, skip_below, stop_skip, stop_comma, stop_array, stop_object}
use Rattle.grammar.proofs.laws.Scalars.{Solid}
use Rattle.grammar.specs.Tree.{Tree}
use Rattle.grammar.specs.Document.{array_tree, object_tree, in_front, after, items, many, name, bound, named, member, either, scalar, value}
use Rattle.grammar.proofs.laws.Scalars.{scalar_strict, scalar_solid, scalar_firm}
use Rattle.grammar.proofs.laws.Names.{name_solid, name_closed}
use Rattle.grammar.proofs.laws.Forward.{name_forward, items_forward, many_forward, member_forward, value_forward}
use Rattle.grammar.proofs.laws.Local.{items_turns}

-- the cases of `after` and `either`
module _ {A : Type 0} (close : ℕ) (more : Reader (List A)) (s : Text) (x : A) (j : ℕ) where
  pub after_case : {C : Type 0} {z : Out (List A)} → after close more s x j ≡ z → (peek s (skip s j) ≡ close → done (x ∷ []) (skip s j + 1) ≡ z → C) → ((peek s (skip s j) ≡ close → ⊥) → peek s (skip s j) ≡ 44 → next (more s (skip s j + 1)) (in_front x) ≡ z → C) → ((peek s (skip s j) ≡ close → ⊥) → (peek s (skip s j) ≡ 44 → ⊥) → bad (skip s j) ≡ z → C) → C
  unfolding after
  after_case e f g h =
      pick_case _ _ _ e (λ t w. f (eqb-true _ _ t) w)
      (λ n w. pick_case _ _ _ w (λ t v. g (eqb-false _ _ n) (eqb-true _ _ t) v)
      (λ m v. h (eqb-false _ _ n) (eqb-false _ _ m) v))

  pub after_closed : peek s (skip s j) ≡ close → after close more s x j ≡ done (x ∷ []) (skip s j + 1)
  unfolding after pick
  after_closed e = rw (eq-eqb _ _ e)

  pub after_comma : (peek s (skip s j) ≡ close → ⊥) → peek s (skip s j) ≡ 44 → after close more s x j ≡ next (more s (skip s j + 1)) (in_front x)
  unfolding after pick
  after_comma n e = rw (ne_eqb _ _ n, eq-eqb _ _ e)

module _ (s : Text) (i : ℕ) (x y : Out Tree) where
  pub either_case : {C : Type 0} {z : Out Tree} → either s i x y ≡ z → (peek s i ≡ 91 → x ≡ z → C) → (peek s i ≡ 123 → y ≡ z → C) → ((peek s i ≡ 91 → ⊥) → (peek s i ≡ 123 → ⊥) → scalar s i ≡ z → C) → C
  unfolding either
  either_case e a o f =
      pick_case _ _ _ e (λ t w. a (eqb-true _ _ t) w)
      (λ n e1. pick_case _ _ _ e1 (λ t w. o (eqb-true _ _ t) w)
      (λ m w. f (eqb-false _ _ n) (eqb-false _ _ m) w))

  pub either_array : peek s i ≡ 91 → either s i x y ≡ x
  unfolding either pick
  either_array e = rw e

  pub either_object : peek s i ≡ 123 → either s i x y ≡ y
  unfolding either pick
  either_object e = rw e

  pub either_scalar : (peek s i ≡ 91 → ⊥) → (peek s i ≡ 123 → ⊥) → either s i x y ≡ scalar s i
  unfolding either pick
  either_scalar a o = rw (ne_eqb _ _ a, ne_eqb _ _ o)

pub comma_none : whitespace 44 ≡ false
unfolding whitespace class_of pick
comma_none = refl

-- a list
module _ {A : Type 0} (one : Reader A) (close : ℕ) where
  pub items_turn : (n : ℕ) (t : Text) (i : ℕ) {x : A} {j : ℕ} → one t (skip t i) ≡ done x j → items one close (suc n) t i ≡ after close (items one close n) t x j
  unfolding items
  items_turn n t i e = next_was _ e

  pub many_case : {C : Type 0} (s : Text) (i : ℕ) {z : Out (List A)} → many one close s i ≡ z → (peek s (skip s i) ≡ close → done [] (skip s i + 1) ≡ z → C) → ((peek s (skip s i) ≡ close → ⊥) → items one close (suc (length s)) s i ≡ z → C) → C
  unfolding many
  many_case s i e f g = pick_case _ _ _ e (λ t w. f (eqb-true _ _ t) w) (λ t w. g (eqb-false _ _ t) w)

  pub many_empty : (s : Text) (i : ℕ) → peek s (skip s i) ≡ close → many one close s i ≡ done [] (skip s i + 1)
  unfolding many pick
  many_empty s i e = rw (eq-eqb _ _ e)

  pub many_items : (s : Text) (i : ℕ) → (peek s (skip s i) ≡ close → ⊥) → many one close s i ≡ items one close (suc (length s)) s i
  unfolding many pick
  many_items s i e = rw (ne_eqb _ _ e)

module _ {A : Type 0} (one : Reader A) (close : ℕ) (go : Forward one) (strict : Strict one) (firm : Firm one) (stops : stop close ≡ true) (nospace : whitespace close ≡ false) where
  after_past : (n : ℕ) (s : Text) (x : A) (j : ℕ) {xs : List A} {k : ℕ} → after close (items one close n) s x j ≡ done xs k → skip s j < k
  unfolding in_front
  after_past n s x j {xs} {k} e =
      after_case close (items one close n) s x j e
      (λ _ d. let h : skip s j + 1 ≡ k = done_at d in omega arith)
      (λ _ _ d.
      let w = next_inv (items one close n s (skip s j + 1)) (in_front x) d in
      let h : w.1 ≡ k = done_at w.3 in
      omega (arith, past_done (items one close n) (items_forward close one go n) s (skip s j + 1) w.2))
      (λ _ _ d. absurd (bad_done d))

  -- the same item is read in t, if what follows it there can
  pub turn_same : (s t : Text) (i : ℕ) {x : A} {j p : ℕ} → one s (skip s i) ≡ done x j → Below s t p → skip s j ≤ p → stop (peek t (skip s j)) ≡ true → whitespace (peek t (skip s j)) ≡ false → (one t (skip t i) ≡ done x j) × (skip t j ≡ skip s j)
  turn_same s t i {x} {j} {p} e b l st ns =
      let q : skip s i < j = strict s (skip s i) x j e in
      let g : j ≤ skip s j = skip_ge s j in
      let es : skip t i ≡ skip s i = skip_below s t i b (omega arith) in
      let ej : skip t j ≡ skip s j = skip_same s t j b l ns in
      let sj : stop (peek t j) ≡ true = stop_skip t j (ap (λ (k : ℕ). stop (peek t k)) ej ∙ st) in
      (ap (one t) es ∙ firm s t (skip s i) x j e (fewer (omega arith) b) sj, ej)

  items_past : (n : ℕ) (s : Text) (i : ℕ) {xs : List A} {k : ℕ} → items one close (suc n) s i ≡ done xs k → skip s i < k
  unfolding items
  items_past n s i {xs} {k} e =
      let w = next_inv (one s (skip s i)) (after close (items one close n) s) e in
      omega (arith, strict s (skip s i) w.0 w.1 w.2, skip_ge s w.1, after_past n s w.0 w.1 w.3)

  items_closed : (n : ℕ) → Closed (items one close n)
  unfolding items in_front
  items_closed zero s t i xs k e b = absurd (bad_done e)
  items_closed (suc n) s t i xs k e b = turn (items_closed n) (next_inv (one s (skip s i)) (after close (items one close n) s) e)
    where
      turn : Closed (items one close n) → (x : A) × (j : ℕ) × (one s (skip s i) ≡ done x j) × (after close (items one close n) s x j ≡ done xs k) → items one close (suc n) t i ≡ done xs k
      turn ih w =
          let x = w.0 in
          let j = w.1 in
          let l : skip s j < k = after_past n s x j w.3 in
          let p : peek s (skip s j) ≡ peek t (skip s j) = b.same _ l in
          after_case close (items one close n) s x j w.3
          (λ c d.
          let o = turn_same s t i w.2 b (omega arith) (ap stop (sym p ∙ c) ∙ stops) (ap whitespace (sym p ∙ c) ∙ nospace) in
          items_turn one close n t i o.0 ∙ after_closed close (items one close n) t x j (ap (peek t) o.1 ∙ sym p ∙ c) ∙ ap (λ (q : ℕ). done (x ∷ []) (q + 1)) o.1 ∙ d)
          (λ nc c d.
          let o = turn_same s t i w.2 b (omega arith) (ap stop (sym p ∙ c) ∙ stop_comma) (ap whitespace (sym p ∙ c) ∙ comma_none) in
          let v = next_inv (items one close n s (skip s j + 1)) (in_front x) d in
          let m : v.1 ≡ k = done_at v.3 in
          let r : items one close n t (skip s j + 1) ≡ done v.0 v.1 = ih s t (skip s j + 1) v.0 v.1 v.2 (fewer (omega arith) b) in
          items_turn one close n t i o.0 ∙ after_comma close (items one close n) t x j (λ z. nc (p ∙ ap (peek t) (sym o.1) ∙ z)) (ap (peek t) o.1 ∙ sym p ∙ c) ∙ ap (λ (q : ℕ). next (items one close n t (q + 1)) (in_front x)) o.1 ∙ next_was _ r ∙ v.3)
          (λ _ _ d. absurd (bad_done d))

  pub many_closed : Closed (many one close)
  many_closed s t i xs k e b =
      many_case one close s i e
      (λ c d.
      let h : skip s i + 1 ≡ k = done_at d in
      let es : skip t i ≡ skip s i = skip_below s t i b (omega arith) in
      many_empty one close t i (ap (peek t) es ∙ sym (b.same _ (omega arith)) ∙ c) ∙ ap (λ (q : ℕ). done [] (q + 1)) es ∙ d)
      (λ n d.
      let l : skip s i < k = items_past (length s) s i d in
      let es : skip t i ≡ skip s i = skip_below s t i b l in
      let f : ℕ = length s + length t in
      let ds : items one close (suc f) s i ≡ done xs k = items_turns close one go s f (length s) i (omega arith) (omega arith) ∙ d in
      many_items one close t i (λ z. n (b.same _ l ∙ ap (peek t) (sym es) ∙ z))
      ∙ items_turns close one go t (length t) f i (omega arith) (omega arith)
      ∙ items_closed (suc f) s t i xs k ds b)

-- a member
pub member_read : (v : Reader Tree) (s : Text) (i : ℕ) {k : Text} {j n : ℕ} {t : Tree} → name s i ≡ done k j → v s (skip s j) ≡ done t n → member v s i ≡ done (k, t) n
unfolding member named bound
member_read v s i e f = next_was (named v s) e ∙ next_was _ f

pub member_inv : (v : Reader Tree) (s : Text) (i : ℕ) {m : Text × Tree} {n : ℕ} → member v s i ≡ done m n → (k : Text) × (j : ℕ) × (t : Tree) × (name s i ≡ done k j) × (v s (skip s j) ≡ done t n) × (m ≡ (k, t))
unfolding member named bound
member_inv v s i e =
    let x = next_inv (name s i) (named v s) e in
    let y = next_inv _ _ x.3 in
    (x.0, x.1, y.0, x.2, y.2 ∙ ap (done y.0) (done_at y.3), sym (done_of y.3))

module _ (v : Reader Tree) (strict : Strict v) where
  pub member_strict : Strict (member v)
  member_strict s i m n e =
      let x = member_inv v s i e in
      omega (arith, past_done name name_forward s i x.3, skip_ge s x.1, strict s (skip s x.1) x.2 n x.4)

  pub member_firm : Firm v → Firm (member v)
  member_firm firm s t i m n e b st =
      let x = member_inv v s i e in
      let l : skip s x.1 < n = strict s (skip s x.1) x.2 n x.4 in
      let es : skip t x.1 ≡ skip s x.1 = skip_below s t x.1 b l in
      member_read v t i
      (name_closed s t i x.0 x.1 x.3 (fewer (omega (arith, skip_ge s x.1)) b))
      (ap (v t) es ∙ firm s t (skip s x.1) x.2 n x.4 b st)
      ∙ ap (λ (q : Text × Tree). done q n) (sym x.5)

pub member_solid : (v : Reader Tree) → Solid (member v)
member_solid v s i m n e = let x = member_inv v s i e in name_solid s i x.0 x.1 x.3

-- a value
pub value_strict : (l : ℕ) → Strict (value l)
unfolding value array_tree object_tree
value_strict zero s i t j e =
    either_case s i _ _ e (λ _ d. absurd (deep_done d)) (λ _ d. absurd (deep_done d)) (λ _ _ d. scalar_strict s i t j d)
value_strict (suc l) s i t j e =
    either_case s i _ _ e
    (λ _ d. let w = next_inv _ _ d in let h : w.1 ≡ j = done_at w.3 in omega (arith, past_done (many (value l) 93) (many_forward 93 (value l) (value_forward l)) s (i + 1) w.2))
    (λ _ d. let w = next_inv _ _ d in let h : w.1 ≡ j = done_at w.3 in omega (arith, past_done (many (member (value l)) 125) (many_forward 125 (member (value l)) (member_forward _ (value_forward l))) s (i + 1) w.2))
    (λ _ _ d. scalar_strict s i t j d)

pub bracket_solid : whitespace 91 ≡ false
unfolding whitespace class_of pick
bracket_solid = refl

pub brace_solid : whitespace 123 ≡ false
unfolding whitespace class_of pick
brace_solid = refl

pub either_solid : (s : Text) (i : ℕ) (x y : Out Tree) (t : Tree) (j : ℕ) → either s i x y ≡ done t j → whitespace (peek s i) ≡ false
either_solid s i x y t j e =
    either_case s i _ _ e (λ h _. ap whitespace h ∙ bracket_solid) (λ h _. ap whitespace h ∙ brace_solid) (λ _ _ d. scalar_solid s i t j d)

pub value_solid : (l : ℕ) → Solid (value l)
unfolding value
value_solid zero s i t j e = either_solid s i _ _ t j e
value_solid (suc l) s i t j e = either_solid s i _ _ t j e

pub array_none : whitespace 93 ≡ false
unfolding whitespace class_of pick
array_none = refl

pub object_none : whitespace 125 ≡ false
unfolding whitespace class_of pick
object_none = refl

module _ (l : ℕ) (firm : Firm (value l)) where
  pub array_closed : Closed (many (value l) 93)
  array_closed = many_closed (value l) 93 (value_forward l) (value_strict l) firm stop_array array_none

  pub object_closed : Closed (many (member (value l)) 125)
  object_closed = many_closed (member (value l)) 125 (member_forward _ (value_forward l)) (member_strict (value l) (value_strict l)) (member_firm (value l) (value_strict l) firm) stop_object object_none

pub value_firm : (l : ℕ) → Firm (value l)
unfolding value array_tree object_tree
value_firm zero s t i a j e b st =
    either_case s i _ _ e
    (λ _ d. absurd (deep_done d))
    (λ _ d. absurd (deep_done d))
    (λ n m d.
    let p : peek s i ≡ peek t i = b.same i (scalar_strict s i a j d) in
    either_scalar t i _ _ (λ z. n (p ∙ z)) (λ z. m (p ∙ z)) ∙ scalar_firm s t i a j d b st)
value_firm (suc l) s t i a j e b st =
    either_case s i _ _ e
    (λ h d.
    let w = next_inv (many (value l) 93 s (i + 1)) array_tree d in
    let g : w.1 ≡ j = done_at w.3 in
    let f : i + 1 ≤ w.1 = past_done (many (value l) 93) (many_forward 93 (value l) (value_forward l)) s (i + 1) w.2 in
    either_array t i _ _ (sym (b.same i (omega arith)) ∙ h)
    ∙ next_was _ (array_closed l (value_firm l) s t (i + 1) w.0 w.1 w.2 (fewer (omega arith) b))
    ∙ w.3)
    (λ h d.
    let w = next_inv (many (member (value l)) 125 s (i + 1)) object_tree d in
    let g : w.1 ≡ j = done_at w.3 in
    let f : i + 1 ≤ w.1 = past_done (many (member (value l)) 125) (many_forward 125 (member (value l)) (member_forward _ (value_forward l))) s (i + 1) w.2 in
    either_object t i _ _ (sym (b.same i (omega arith)) ∙ h)
    ∙ next_was _ (object_closed l (value_firm l) s t (i + 1) w.0 w.1 w.2 (fewer (omega arith) b))
    ∙ w.3)
    (λ n m d.
    let p : peek s i ≡ peek t i = b.same i (scalar_strict s i a j d) in
    either_scalar t i _ _ (λ z. n (p ∙ z)) (λ z. m (p ∙ z)) ∙ scalar_firm s t i a j d b st)
