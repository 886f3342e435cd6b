-- Laws of a scalar, from those of strings, literals and numbers: by its first byte it is read by one of five readers, and what holds of each of them
-- holds of it.
use Rattle.std.specs.Prelude.{◌≡◌, Bool, ◌||◌, ℕ, ◌+◌, ◌<◌}
use Rattle.std.proofs.Math.Path.{refl, ap}
use Rattle.std.proofs.Common.{sym, ◌∙◌, ⊎_elim, arith, le_refl, eq-or-lt_of_le}
use Rattle.std.proofs.Math.Bool.{true, false}
use Rattle.std.proofs.Math.ListN.{length}
use Rattle.std.proofs.Math.Dec.{eqb}
use borrow.Author.Tests.{ne_eqb, eqb-true}
use Rattle.text.specs.Reading.{Text, Out, done, bad, Reader, next, pick, peek, word}
use Rattle.text.specs.Class.{class_of, whitespace, digit}
use Rattle.text.specs.Strings.{string}
use Rattle.text.specs.Numbers.{number}
use Rattle.text.specs.laws.Readers.{at, Local, next_local, next_was, next_inv, next_bad_case, next_le, bad_done, done_bad, done_at, past_bad, stop, Goes, only_byte, Strict, Firm, Ends, Bounded, closed_firm, closed_ends, past_strict}
use Rattle.grammar.proofs.laws.Forward.{scalar_past, scalar_forward}
use Rattle.text.specs.laws.Strings.{string_local, string_closed, string_ends, string_bounded}
use Rattle.text.specs.laws.Numbers.{number_local, number_firm, number_ends, number_bounded, number_none}
use Rattle.text.specs.laws.Words.{word_local, word_closed, word_ends, word_read, word_bounded}
use Rattle.grammar.specs.Tree.{Tree, null, bool, num, str}
use Rattle.grammar.specs.Document.{text_tree, number_tree, literal_tree, true_word, false_word, null_word, scalar}

-- what r reads, made a tree
unfoldable from : {A : Type 0} → Reader A → (A → ℕ → Out Tree) → Reader Tree
from r f s i = next (r s i) f

-- the reader for the first byte b
unfoldable first : ℕ → Reader Tree
first b =
    pick (eqb b 34) (from string text_tree)
    (pick (eqb b 116) (from (word true_word) (literal_tree (bool true)))
    (pick (eqb b 102) (from (word false_word) (literal_tree (bool false)))
    (pick (eqb b 110) (from (word null_word) (literal_tree null))
    (from number number_tree))))

pick_at : (c : Bool) (x y : Reader Tree) (s : Text) (i : ℕ) → pick c x y s i ≡ pick c (x s i) (y s i)
unfolding pick
pick_at true x y s i = refl
pick_at false x y s i = refl

by_first : (s : Text) (i : ℕ) → scalar s i ≡ first (peek s i) s i
unfolding scalar first from
by_first s i =
    sym (pick_at _ _ _ s i
    ∙ ap (pick _ _) (pick_at _ _ _ s i
    ∙ ap (pick _ _) (pick_at _ _ _ s i
    ∙ ap (pick _ _) (pick_at _ _ _ s i))))

-- what holds of the five readers holds of the one that the first byte picks
module _ (P : Reader Tree → Type 0) where
  pick_of : (c : Bool) (x y : Reader Tree) → P x → P y → P (pick c x y)
  unfolding pick
  pick_of true x y p q = p
  pick_of false x y p q = q

  first_of : P (from string text_tree) → P (from (word true_word) (literal_tree (bool true))) → P (from (word false_word) (literal_tree (bool false))) → P (from (word null_word) (literal_tree null)) → P (from number number_tree) → (b : ℕ) → P (first b)
  unfolding first
  first_of p q r n m b = pick_of _ _ _ p (pick_of _ _ _ q (pick_of _ _ _ r (pick_of _ _ _ n m)))

-- a reader's laws hold of what is made of it by a function that moves no position
abbrev Keeps : {A : Type 0} → (A → ℕ → Out Tree) → Type 0
Keeps {A} f = (a : A) (j : ℕ) → (t : Tree) × (f a j ≡ done t j)

keeps_text : Keeps text_tree
unfolding text_tree
keeps_text a j = (str a, refl)

keeps_word : (t : Tree) → Keeps (literal_tree t)
unfolding literal_tree
keeps_word t a j = (t, refl)

keeps_number : Keeps number_tree
unfolding number_tree
keeps_number a j = (num a, refl)

module _ {A : Type 0} (r : Reader A) (f : A → ℕ → Out Tree) (keeps : Keeps f) where
  -- where the tree ends, r's reading did
  from_done : (s : Text) (i : ℕ) {x : Tree} {j : ℕ} → from r f s i ≡ done x j → (a : A) × (r s i ≡ done a j) × (f a j ≡ done x j)
  unfolding from
  from_done s i {x} {j} e =
      let w = next_inv (r s i) f e in
      let g : w.1 ≡ j = done_at (sym (keeps w.0 w.1).1 ∙ w.3) in
      (w.0, w.2 ∙ ap (done w.0) g, ap (f w.0) (sym g) ∙ w.3)

  from_local : Local r → Local (from r f)
  unfolding from at
  from_local h s t i w = next_local _ _ _ _ (h s t i) (λ a j. rw (keeps a j).1 (le_refl j)) (λ _ _ _. refl) w

  from_firm : Firm r → Firm (from r f)
  unfolding from
  from_firm h s t i x j e b st =
      let w = from_done s i e in
      next_was f (h s t i w.0 j w.1 b st) ∙ w.2

  from_ends : Ends r → Ends (from r f)
  unfolding from
  from_ends h s i p e =
      next_bad_case (r s i) f e
      (λ d.
      let w = h s i p d in (
        w.0,
        λ t g st. let v = w.1 t g st in ((keeps v.0 (p + length w.0)).0, next_was f v.1 ∙ (keeps v.0 (p + length w.0)).1),
      ))
      (λ a j d y. absurd (done_bad (sym (keeps a j).1 ∙ y)))

  from_bounded : Bounded r → Bounded (from r f)
  unfolding from at
  from_bounded h s i l = next_le (r s i) f (length s) (h s i l) (λ a j g. rw (keeps a j).1 g)

-- the laws of a scalar
first_local : (b : ℕ) → Local (first b)
first_local b =
    first_of (λ (r : Reader Tree). Local r) (from_local string text_tree keeps_text string_local)
    (from_local (word true_word) (literal_tree (bool true)) (keeps_word (bool true)) (word_local true_word))
    (from_local (word false_word) (literal_tree (bool false)) (keeps_word (bool false)) (word_local false_word))
    (from_local (word null_word) (literal_tree null) (keeps_word null) (word_local null_word))
    (from_local number number_tree keeps_number number_local) b

pub scalar_local : Local scalar
scalar_local s t i w =
    let p : peek t i ≡ peek s i = sym (w.same _ (scalar_forward s i)) in
    by_first t i ∙ ap (λ (b : ℕ). first b t i) p ∙ first_local (peek s i) s t i (rw by_first at w) ∙ sym (by_first s i)

pub scalar_strict : Strict scalar
scalar_strict s i x j e = past_strict (scalar_past s i) e

first_firm : (b : ℕ) → Firm (first b)
first_firm b =
    first_of (λ (r : Reader Tree). Firm r) (from_firm string text_tree keeps_text (closed_firm string string_closed))
    (from_firm (word true_word) (literal_tree (bool true)) (keeps_word (bool true)) (closed_firm (word true_word) (word_closed true_word)))
    (from_firm (word false_word) (literal_tree (bool false)) (keeps_word (bool false)) (closed_firm (word false_word) (word_closed false_word)))
    (from_firm (word null_word) (literal_tree null) (keeps_word null) (closed_firm (word null_word) (word_closed null_word)))
    (from_firm number number_tree keeps_number number_firm) b

pub scalar_firm : Firm scalar
scalar_firm s t i x j e b st =
    let p : peek s i ≡ peek t i = b.same i (scalar_strict s i x j e) in
    by_first t i ∙ ap (λ (c : ℕ). first c t i) (sym p) ∙ first_firm (peek s i) s t i x j (sym (by_first s i) ∙ e) b st

first_bounded : (b : ℕ) → Bounded (first b)
first_bounded b =
    first_of (λ (r : Reader Tree). Bounded r) (from_bounded string text_tree keeps_text string_bounded)
    (from_bounded (word true_word) (literal_tree (bool true)) (keeps_word (bool true)) (word_bounded true_word (tt, (tt, (tt, (tt, tt))))))
    (from_bounded (word false_word) (literal_tree (bool false)) (keeps_word (bool false)) (word_bounded false_word (tt, (tt, (tt, (tt, (tt, tt)))))))
    (from_bounded (word null_word) (literal_tree null) (keeps_word null) (word_bounded null_word (tt, (tt, (tt, (tt, tt))))))
    (from_bounded number number_tree keeps_number number_bounded) b

pub scalar_bounded : Bounded scalar
scalar_bounded s i h = rw by_first (first_bounded (peek s i) s i h)

-- what begins no scalar
module _ (s : Text) (i : ℕ) where
  none : (peek s i ≡ 34 → ⊥) → (peek s i ≡ 116 → ⊥) → (peek s i ≡ 102 → ⊥) → (peek s i ≡ 110 → ⊥) → digit (peek s i) ≡ false → (peek s i ≡ 45 → ⊥) → scalar s i ≡ bad i
  unfolding scalar pick next
  none q t f n d m = rw (ne_eqb _ _ q, ne_eqb _ _ t, ne_eqb _ _ f, ne_eqb _ _ n, number_none s i d m)

  pub not_bracket : peek s i ≡ 91 → scalar s i ≡ bad i
  unfolding digit class_of pick
  not_bracket h = none (λ z. omega arith) (λ z. omega arith) (λ z. omega arith) (λ z. omega arith) (ap digit h) (λ z. omega arith)

  pub not_brace : peek s i ≡ 123 → scalar s i ≡ bad i
  unfolding digit class_of pick
  not_brace h = none (λ z. omega arith) (λ z. omega arith) (λ z. omega arith) (λ z. omega arith) (ap digit h) (λ z. omega arith)

  -- no byte of whitespace is the first of a scalar
  not_byte : (b : ℕ) → whitespace b ≡ false → whitespace (peek s i) ≡ true → peek s i ≡ b → ⊥
  not_byte b f w e = let z : ◌≡◌ {A = Bool} true false = sym w ∙ ap whitespace e ∙ f in let y : ◌≡◌ {A = ℕ} 0 1 = cc in omega arith

  no_digit : whitespace (peek s i) ≡ true → digit (peek s i) ≡ false
  unfolding whitespace digit
  no_digit w = go (class_of (peek s i)) (eqb (class_of (peek s i)) 4) refl w
    where
      go : (c : ℕ) (q : Bool) → eqb c 4 ≡ q → (q || eqb c 1) ≡ true → (eqb c 5 || eqb c 6) ≡ false
      go c true e h = ap (λ (k : ℕ). eqb k 5 || eqb k 6) (eqb-true c 4 e)
      go c false e h = ap (λ (k : ℕ). eqb k 5 || eqb k 6) (eqb-true c 1 h)

  pub not_space : whitespace (peek s i) ≡ true → scalar s i ≡ bad i
  unfolding whitespace class_of pick
  not_space w = none (not_byte 34 refl w) (not_byte 116 refl w) (not_byte 102 refl w) (not_byte 110 refl w) (no_digit w) (not_byte 45 refl w)

-- what is read begins with no whitespace
abbrev pub Solid : {A : Type 0} → Reader A → Type 0
Solid {A} r = (s : Text) (i : ℕ) (a : A) (j : ℕ) → r s i ≡ done a j → whitespace (peek s i) ≡ false

pub scalar_solid : Solid scalar
scalar_solid s i x j e = go (whitespace (peek s i)) refl
  where
    go : (q : Bool) → whitespace (peek s i) ≡ q → whitespace (peek s i) ≡ false
    go true w = absurd (bad_done (sym (not_space s i w) ∙ e))
    go false w = w

-- null, wherever it stands
pub null_here : {s : Text} (t : Text) (k : ℕ) → Goes s k null_word t → scalar t k ≡ done null (k + 4)
unfolding scalar pick next literal_tree
null_here t k g =
    let h : peek t k ≡ 110 = only_byte 110 _ g in
    let w : word null_word t k ≡ done tt (k + 4) = word_read null_word t k g.on in
    rw (h, w)

first_ends : (b : ℕ) → Ends (first b)
first_ends b =
    first_of (λ (r : Reader Tree). Ends r) (from_ends string text_tree keeps_text (closed_ends string string_ends))
    (from_ends (word true_word) (literal_tree (bool true)) (keeps_word (bool true)) (closed_ends (word true_word) (word_ends true_word)))
    (from_ends (word false_word) (literal_tree (bool false)) (keeps_word (bool false)) (closed_ends (word false_word) (word_ends false_word)))
    (from_ends (word null_word) (literal_tree null) (keeps_word null) (closed_ends (word null_word) (word_ends null_word)))
    (from_ends number number_tree keeps_number number_ends) b

-- where a scalar goes wrong at its first byte, null is one; and further on what was begun can be finished
pub scalar_ends : Ends scalar
scalar_ends s i p e = ⊎_elim here there (eq-or-lt_of_le (past_bad scalar scalar_forward s i e))
  where
    here : i ≡ p → (u : Text) × ((t : Text) → Goes s p u t → stop (peek t (p + length u)) ≡ true → (a : Tree) × (scalar t i ≡ done a (p + length u)))
    here q = (null_word, λ t g st. (null, ap (scalar t) q ∙ null_here t p g))

    there : i < p → (u : Text) × ((t : Text) → Goes s p u t → stop (peek t (p + length u)) ≡ true → (a : Tree) × (scalar t i ≡ done a (p + length u)))
    there l =
        let w = first_ends (peek s i) s i p (sym (by_first s i) ∙ e) in (
          w.0,
          λ t g st.
              let v = w.1 t g st in
              (v.0, by_first t i ∙ ap (λ (c : ℕ). first c t i) (sym (g.low.same i l)) ∙ v.1),
        )
