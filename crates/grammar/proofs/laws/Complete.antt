-- Completability: what stands before the position at which a text goes wrong begins a well-formed text.
use Rattle.std.specs.Prelude.{◌≡◌, refl, false}
use Rattle.std.proofs.Math.Path.{sym, ap}
use Rattle.std.proofs.Common.{◌∙◌, eq-or-lt_of_le, add-zero, get_or-append-add}
use Rattle.std.proofs.Math.Bool.{true}
use Rattle.std.proofs.Math.Logic.{⊎_elim}
use mathlib.Core.List.{List, [], ◌∷◌, ◌++◌}
use Prim.Native.Nat.{ℕ, zero, suc, ◌+◌, ◌-◌, ◌≤◌, ◌<◌, zero-le}
use native.Mathlib.Omega.{arith}
use Rattle.std.proofs.Math.ListN.{length, take, length-append}
use Rattle.text.specs.Reading.{Text, done, bad, Reader, pick, peek}
use Rattle.text.specs.Class.{class_of, whitespace, skip}
use Rattle.text.specs.laws.Peek.{peek_in, skip_ge, skip_le, skip_stop, white_end}
use Rattle.text.specs.laws.Readers.{at, Forward, pick_case, next_was, next_bad_case, bad_done, done_bad, deep_bad, bad_at, past_bad, fewer, stop, Goes, front, next_byte, only_byte, Strict, Firm, Ends, EndsClosed, goes, goes_end}
use Rattle.text.specs.laws.Runs.{skip_same, skip_below, stop_skip, stop_comma, stop_array, stop_object, stop_end}
use Rattle.grammar.proofs.laws.Scalars.{Solid}
use Rattle.grammar.specs.Tree.{Tree, null, arr, obj, trees, members}
use Rattle.grammar.specs.Document.{null_word, array_tree, object_tree, in_front, after, items, many, name, bound, named, member, scalar, value, ending, most, read}
use Rattle.grammar.proofs.laws.Scalars.{scalar_ends, not_bracket, not_brace, null_here}
use Rattle.grammar.proofs.laws.Names.{name_closed, name_ends}
use Rattle.grammar.proofs.laws.Forward.{items_forward, items_skip, many_forward, member_forward, value_forward}
use Rattle.grammar.proofs.laws.Firm.{after_case, after_closed, after_comma, either_case, either_scalar, either_array, either_object, comma_none, array_none, object_none}
use Rattle.grammar.proofs.laws.Firm.{items_turn, turn_same, many_case, many_empty, many_items, member_read, member_strict, member_solid, member_firm, value_strict, value_solid, value_firm}
use Rattle.grammar.proofs.laws.Bounded.{value_bounded, read_bounded}
use Rattle.grammar.proofs.laws.Clean.{AllBytes, clean_done}
use Rattle.grammar.proofs.laws.Bytes.{read_clean}

-- a list
module _ {A : Type 0} (one : Reader A) (close : ℕ) (go : Forward one) (strict : Strict one) (solid : Solid one) (firm : Firm one) (ends : Ends one) (stops : stop close ≡ true) (nospace : whitespace close ≡ false) where
  -- where the items from i on go wrong at p, some bytes finish them, in every text and with every number of turns that is enough
  abbrev ItemsEnd : Text → ℕ → ℕ → Type 0
  ItemsEnd s i p = (u : Text) × ((t : Text) → Goes s p u t → (m : ℕ) → length t ≤ m + i → (xs : List A) × (items one close (suc m) t i ≡ done xs (p + length u)))

  -- the item itself goes wrong: finish it, and close
  end_item : (s : Text) (i p : ℕ) → one s (skip s i) ≡ bad p → ItemsEnd s i p
  end_item s i p e =
      let w = ends s (skip s i) p e in
      let u = w.0 in (
        u ++ (close ∷ []),
        λ t g m h.
            let c : peek t (p + length u) ≡ close = next_byte u close g in
            let v = w.1 t (front u (close ∷ []) g) (ap stop c ∙ stops) in
            let es : skip t i ≡ skip s i = skip_same s t i g.low (past_bad one go s (skip s i) e) (solid t (skip s i) v.0 (p + length u) v.1) in
            let ee : skip t (p + length u) ≡ p + length u = skip_stop t (p + length u) (ap whitespace c ∙ nospace) in
            let l : p + length u + 1 ≡ p + length (u ++ (close ∷ [])) = omega (arith, length-append u (close ∷ [])) in (
              v.0 ∷ [],
              items_turn one close m t i (ap (one t) es ∙ v.1)
                  ∙ after_closed close (items one close m) t v.0 (p + length u) (ap (peek t) ee ∙ c)
                  ∙ ap (λ (q : ℕ). done (v.0 ∷ []) (q + 1)) ee
                  ∙ ap (done (v.0 ∷ [])) l,
            ),
      )

  -- what follows an item is neither a comma nor the end: close
  end_close : (s : Text) (i p : ℕ) (x : A) (j : ℕ) → one s (skip s i) ≡ done x j → skip s j ≡ p → ItemsEnd s i p
  end_close s i p x j e q = (
    close ∷ [],
    λ t g m h.
        let c : peek t (skip s j) ≡ close = ap (peek t) q ∙ only_byte close [] g in
        let o = turn_same one close go strict firm stops nospace s t i e g.low (omega arith) (ap stop c ∙ stops) (ap whitespace c ∙ nospace) in
        let l : skip t j + 1 ≡ p + 1 = omega (arith, o.1) in (
          x ∷ [],
          items_turn one close m t i o.0
              ∙ after_closed close (items one close m) t x j (ap (peek t) o.1 ∙ c)
              ∙ ap (done (x ∷ [])) l,
        ),
  )

  -- a later item goes wrong
  end_comma : (s : Text) (i p : ℕ) (x : A) (j : ℕ) → one s (skip s i) ≡ done x j → (peek s (skip s j) ≡ close → ⊥) → peek s (skip s j) ≡ 44 → skip s j < p → ItemsEnd s (skip s j + 1) p → ItemsEnd s i p
  unfolding in_front
  end_comma s i p x j e nc c l w = (
    w.0,
    λ t g m h.
        let b : peek s (skip s j) ≡ peek t (skip s j) = g.low.same (skip s j) l in
        let o = turn_same one close go strict firm stops nospace s t i e g.low (omega arith) (ap stop (sym b ∙ c) ∙ stop_comma) (ap whitespace (sym b ∙ c) ∙ comma_none) in
        let k : skip s j < length t = peek_in t (skip s j) (omega arith) in
        let f : i ≤ skip s j = omega (arith, skip_ge s i, strict s (skip s i) x j e, skip_ge s j) in
        let z : suc (m - 1) ≡ m = omega arith in
        let v = w.1 t g (m - 1) (omega arith) in
        let r : items one close m t (skip t j + 1) ≡ done v.0 (p + length w.0) = ap (λ (q : ℕ). items one close m t (q + 1)) o.1 ∙ ap (λ (q : ℕ). items one close q t (skip s j + 1)) (sym z) ∙ v.1 in (
          x ∷ v.0,
          items_turn one close m t i o.0
              ∙ after_comma close (items one close m) t x j (λ y. nc (b ∙ ap (peek t) (sym o.1) ∙ y)) (ap (peek t) o.1 ∙ sym b ∙ c)
              ∙ next_was _ r,
        ),
  )

  items_end : (n : ℕ) (s : Text) (i p : ℕ) → length s ≤ n + i → items one close (suc n) s i ≡ bad p → ItemsEnd s i p
  unfolding items in_front
  items_end zero s i p h e =
      next_bad_case (one s (skip s i)) (after close (items one close zero) s) e (end_item s i p)
      (λ x j d w. after_case close (items one close zero) s x j w
      (λ _ y. absurd (done_bad y))
      (λ nc c y. absurd (omega (arith, peek_in s (skip s j) (omega arith), skip_ge s i, strict s (skip s i) x j d, skip_ge s j)))
      (λ _ _ y. end_close s i p x j d (bad_at y)))
  items_end (suc n) s i p h e =
      next_bad_case (one s (skip s i)) (after close (items one close (suc n)) s) e (end_item s i p)
      (λ x j d w. after_case close (items one close (suc n)) s x j w
      (λ _ y. absurd (done_bad y))
      (λ nc c y.
      let z : items one close (suc n) s (skip s j + 1) ≡ bad p = next_bad_case (items one close (suc n) s (skip s j + 1)) (in_front x) y (λ v. v) (λ _ _ _ v. absurd (done_bad v)) in
      end_comma s i p x j d nc c
      (omega (arith, past_bad (items one close (suc n)) (items_forward close one go (suc n)) s (skip s j + 1) z))
      (items_end n s (skip s j + 1) p (omega (arith, skip_ge s i, strict s (skip s i) x j d, skip_ge s j)) z))
      (λ _ _ y. end_close s i p x j d (bad_at y)))

  -- at the very first item the list is closed, further on the item is finished and then the list
  pub many_ends : EndsClosed (many one close)
  unfolding at
  many_ends s i p e =
      many_case one close s i e
      (λ _ y. absurd (done_bad y))
      (λ nc y. ⊎_elim (here nc y) (there nc y) (eq-or-lt_of_le (at_least y)))
    where
      at_least : items one close (suc (length s)) s i ≡ bad p → skip s i ≤ p
      at_least y =
          let h : at (items one close (suc (length s)) s i) ≡ p = ap at y in
          omega (arith, items_skip close one go (length s) s i)

      here : (peek s (skip s i) ≡ close → ⊥) → items one close (suc (length s)) s i ≡ bad p → skip s i ≡ p → (u : Text) × ((t : Text) → Goes s p u t → (a : List A) × (many one close t i ≡ done a (p + length u)))
      here nc y q = (
        close ∷ [],
        λ t g.
            let c : peek t (skip s i) ≡ close = ap (peek t) q ∙ only_byte close [] g in
            let es : skip t i ≡ skip s i = skip_same s t i g.low (omega arith) (ap whitespace c ∙ nospace) in
            let l : skip t i + 1 ≡ p + 1 = omega arith in
            ([], many_empty one close t i (ap (peek t) es ∙ c) ∙ ap (done []) l),
      )

      there : (peek s (skip s i) ≡ close → ⊥) → items one close (suc (length s)) s i ≡ bad p → skip s i < p → (u : Text) × ((t : Text) → Goes s p u t → (a : List A) × (many one close t i ≡ done a (p + length u)))
      there nc y q =
          let w = items_end (length s) s i p (omega arith) y in (
            w.0,
            λ t g.
                let es : skip t i ≡ skip s i = skip_below s t i g.low q in
                let v = w.1 t g (length t) (omega arith) in
                (v.0, many_items one close t i (λ z. nc (g.low.same _ q ∙ ap (peek t) (sym es) ∙ z)) ∙ v.1),
          )

-- a value that is a scalar
scalar_value : (l : ℕ) (t : Text) (i : ℕ) {x : Tree} {j : ℕ} → scalar t i ≡ done x j → value l t i ≡ done x j
unfolding value
scalar_value zero t i e = either_scalar t i _ _ (λ z. bad_done (sym (not_bracket t i z) ∙ e)) (λ z. bad_done (sym (not_brace t i z) ∙ e)) ∙ e
scalar_value (suc l) t i e = either_scalar t i _ _ (λ z. bad_done (sym (not_bracket t i z) ∙ e)) (λ z. bad_done (sym (not_brace t i z) ∙ e)) ∙ e

-- the bytes v after the bytes u
back : {s : Text} {p : ℕ} (u v : Text) {t : Text} → Goes s p (u ++ v) t → Goes t (p + length u) v t
unfolding peek
back {s} {p} u v {t} g =
    record {
      low = record { same = λ _ _. refl };
      on = λ k l.
          let z : p + length u + k ≡ p + (length u + k) = omega arith in
          ap (peek t) z ∙ g.on (length u + k) (omega (arith, length-append u v)) ∙ get_or-append-add u v k 256;
    }

null_solid : whitespace 110 ≡ false
unfolding whitespace class_of pick
null_solid = refl

-- a member: finish the name, and its value is null; or finish the value
module _ (l : ℕ) (ends : Ends (value l)) where
  member_ends : Ends (member (value l))
  unfolding member named bound
  member_ends s i p e =
      next_bad_case (name s i) (named (value l) s) e
      (λ d.
      let w = name_ends s i p d in
      let u = w.0 in (
        u ++ null_word,
        λ t g st.
            let v = w.1 t (front u null_word g) in
            let b : Goes t (p + length u) null_word t = back u null_word g in
            let c : peek t (p + length u) ≡ 110 = only_byte 110 _ b in
            let es : skip t (p + length u) ≡ p + length u = skip_stop t (p + length u) (ap whitespace c ∙ null_solid) in
            let q : p + length u + 4 ≡ p + length (u ++ null_word) = omega (arith, length-append u null_word) in
            ((v.0, null), member_read (value l) t i v.1 (ap (value l t) es ∙ scalar_value l t (p + length u) (null_here t (p + length u) b) ∙ ap (done null) q)),
      ))
      (λ k j d y.
      let z : value l s (skip s j) ≡ bad p = next_bad_case (value l s (skip s j)) (bound k) y (λ v. v) (λ _ _ _ v. absurd (done_bad v)) in
      let b : skip s j ≤ p = past_bad (value l) (value_forward l) s (skip s j) z in
      let w = ends s (skip s j) p z in (
        w.0,
        λ t g st.
            let v = w.1 t g st in
            let es : skip t j ≡ skip s j = skip_same s t j g.low b (value_solid l t (skip s j) v.0 _ v.1) in
            ((k, v.0), member_read (value l) t i (name_closed s t i k j d (fewer (omega (arith, skip_ge s j)) g.low)) (ap (value l t) es ∙ v.1)),
      ))

-- where a scalar goes wrong, the value does, and is finished as the scalar is
scalar_there : (l : ℕ) (s : Text) (i p : ℕ) → scalar s i ≡ bad p → (u : Text) × ((t : Text) → Goes s p u t → stop (peek t (p + length u)) ≡ true → (a : Tree) × (value l t i ≡ done a (p + length u)))
scalar_there l s i p e =
    let w = scalar_ends s i p e in (
      w.0,
      λ t g st.
          let v = w.1 t g st in
          (v.0, scalar_value l t i v.1),
    )

module _ (l : ℕ) (ends : Ends (value l)) where
  array_ends : EndsClosed (many (value l) 93)
  array_ends = many_ends (value l) 93 (value_forward l) (value_strict l) (value_solid l) (value_firm l) ends stop_array array_none

  object_ends : EndsClosed (many (member (value l)) 125)
  object_ends = many_ends (member (value l)) 125 (member_forward _ (value_forward l)) (member_strict (value l) (value_strict l)) (member_solid (value l)) (member_firm (value l) (value_strict l) (value_firm l)) (member_ends l ends) stop_object object_none

pub value_ends : (l : ℕ) → Ends (value l)
unfolding value array_tree object_tree
value_ends zero s i p e =
    either_case s i _ _ e (λ _ y. absurd (deep_bad y)) (λ _ y. absurd (deep_bad y)) (λ _ _ y. scalar_there zero s i p y)
value_ends (suc l) s i p e =
    either_case s i _ _ e
    (λ h y.
    let z : many (value l) 93 s (i + 1) ≡ bad p = next_bad_case (many (value l) 93 s (i + 1)) array_tree y (λ v. v) (λ _ _ _ v. absurd (done_bad v)) in
    let b : i + 1 ≤ p = past_bad (many (value l) 93) (many_forward 93 (value l) (value_forward l)) s (i + 1) z in
    let w = array_ends l (value_ends l) s (i + 1) p z in (
      w.0,
      λ t g st.
          let v = w.1 t g in
          (arr (trees v.0), either_array t i _ _ (sym (g.low.same i (omega arith)) ∙ h) ∙ next_was _ v.1),
    ))
    (λ h y.
    let z : many (member (value l)) 125 s (i + 1) ≡ bad p = next_bad_case (many (member (value l)) 125 s (i + 1)) object_tree y (λ v. v) (λ _ _ _ v. absurd (done_bad v)) in
    let b : i + 1 ≤ p = past_bad (many (member (value l)) 125) (many_forward 125 (member (value l)) (member_forward _ (value_forward l))) s (i + 1) z in
    let w = object_ends l (value_ends l) s (i + 1) p z in (
      w.0,
      λ t g st.
          let v = w.1 t g in
          (obj (members v.0), either_object t i _ _ (sym (g.low.same i (omega arith)) ∙ h) ∙ next_was _ v.1),
    ))
    (λ _ _ y. scalar_there (suc l) s i p y)

read_of : (t : Text) {x : Tree} {n : ℕ} → value most t (skip t 0) ≡ done x n → peek t (skip t n) ≡ 256 → read t ≡ done x (skip t n)
unfolding read ending pick
read_of t {x} {n} e f = next_was (ending t) e ∙ rw f

ending_bad : (s : Text) (x : Tree) (j : ℕ) {p : ℕ} → ending s x j ≡ bad p → skip s j ≡ p
unfolding ending
ending_bad s x j e = pick_case _ _ _ e (λ _ d. absurd (done_bad d)) (λ _ d. bad_at d)

-- a text that goes wrong at p: its first p bytes, and some more, are read as a value and nothing after it
module _ (s : Text) (p : ℕ) where
  Completed : Type 0
  Completed = (u : Text) × (t : Tree) × (n : ℕ) × (p + length u ≤ n) × (read (take p s ++ u) ≡ done t n)

  inside : at (value most s (skip s 0)) ≤ length s
  inside = value_bounded most s (skip s 0) (skip_le s 0 zero-le)

  -- the value goes wrong
  in_value : value most s (skip s 0) ≡ bad p → Completed
  unfolding at Completed
  in_value d =
      let h : p ≤ length s = omega (arith, inside, ap at d) in
      let w = value_ends most s (skip s 0) p d in
      let t = take p s ++ w.0 in
      let g : Goes s p w.0 t = goes s p w.0 h in
      let z : peek t (p + length w.0) ≡ 256 = goes_end s p w.0 h in
      let v = w.1 t g (ap stop z ∙ stop_end) in
      let es : skip t 0 ≡ skip s 0 = skip_same s t 0 g.low (past_bad (value most) (value_forward most) s (skip s 0) d) (value_solid most t (skip s 0) v.0 _ v.1) in
      let ee : skip t (p + length w.0) ≡ p + length w.0 = skip_stop t _ (ap whitespace z ∙ white_end) in
      (w.0, v.0, skip t (p + length w.0), skip_ge t (p + length w.0), read_of t (ap (value most t) es ∙ v.1) (ap (peek t) ee ∙ z))

  -- the value ends at j, and what follows it is not the end
  after_value : (x : Tree) (j : ℕ) → value most s (skip s 0) ≡ done x j → skip s j ≡ p → Completed
  unfolding at Completed
  after_value x j d q =
      let jl : j ≤ length s = omega (arith, inside, ap at d) in
      let h : p ≤ length s = omega (arith, skip_le s j jl) in
      let t = take p s ++ [] in
      let g : Goes s p [] t = goes s p [] h in
      let z : peek t (skip s j) ≡ 256 = ap (peek t) (q ∙ sym (add-zero p)) ∙ goes_end s p [] h in
      let l : skip s 0 < j = value_strict most s (skip s 0) x j d in
      let es : skip t 0 ≡ skip s 0 = skip_below s t 0 g.low (omega (arith, skip_ge s j)) in
      let ej : skip t j ≡ skip s j = skip_same s t j g.low (omega arith) (ap whitespace z ∙ white_end) in
      let st : stop (peek t j) ≡ true = stop_skip t j (ap (λ (k : ℕ). stop (peek t k)) ej ∙ ap stop z ∙ stop_end) in
      ([], x, skip t j, omega arith, read_of t (ap (value most t) es ∙ value_firm most s t (skip s 0) x j d (fewer (omega (arith, skip_ge s j)) g.low) st) (ap (peek t) ej ∙ z))

-- and these are bytes, since nothing else is read
pub completed : (s : Text) (p : ℕ) → read s ≡ bad p → (u : Text) × ((k : ℕ) → k < length u → peek u k < 256) × (t : Tree) × (n : ℕ) × (read (take p s ++ u) ≡ done t n)
unfolding read Completed at
completed s p e =
    let h : p ≤ length s = omega (arith, read_bounded s, ap at e) in
    let c : Completed s p = next_bad_case (value most s (skip s 0)) (ending s) e (in_value s p) (λ x j d y. after_value s p x j d (ending_bad s x j y)) in
    let u = c.0 in
    let t = take p s ++ u in
    let b : AllBytes t 0 c.2 = clean_done (read_clean t) c.4 in (
      u,
      λ k l.
          let g : peek t (p + k) ≡ peek u k = (goes s p u h).on k l in
          let f : peek t (p + k) < 256 = b.byte (p + k) (omega arith) (omega (arith, c.3)) in
          omega arith,
      c.1,
      c.2,
      c.4,
    )
