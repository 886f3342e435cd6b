-- What a reader may promise, and the laws of `next` and `pick` that carry the promises on. Assumes nothing.
use Rattle.std.specs.Prelude.{◌≡◌, Bool, ◌||◌, [], ◌∷◌, ◌++◌, ℕ, suc, ◌+◌, ◌≤◌, ◌<◌, length, take, get_or, eqb}
use Rattle.std.proofs.Math.Path.{refl}
use Rattle.std.proofs.Common.{sym, ap, ◌∙◌, ⊎_elim, arith, le_trans, add-zero, eq-or-lt_of_le, length-append, get_or-append-add, get_or-take, length-take-le}
use Rattle.std.proofs.Math.Bool.{true, false}
use Rattle.std.proofs.Math.ListN.{get_or-append}
use Rattle.std.proofs.Math.Seq.{get_or-append_seam}
use Rattle.text.specs.Reading.{Text, Out, done, bad, deep, Reader, next, pick, peek}
use Rattle.text.specs.Class.{whitespace}
use Rattle.text.specs.laws.Peek.{peek_end}

-- the position that a reading ends with
unfoldable pub at : {A : Type 0} → Out A → ℕ
at (done a i) = i
at (bad i) = i
at (deep i) = i

-- s and t have the same bytes up to p, p among them; the end is a byte here
pub record Agree (s t : Text) (p : ℕ) : Type 0 where
  pub same : (k : ℕ) → k ≤ p → peek s k ≡ peek t k

pub below : {s t : Text} {p q : ℕ} → p ≤ q → Agree s t q → Agree s t p
below h g = record { same = λ k l. g.same k (le_trans l h) }

-- s and t have the same bytes below p
pub record Below (s t : Text) (p : ℕ) : Type 0 where
  pub same : (k : ℕ) → k < p → peek s k ≡ peek t k

pub fewer : {s t : Text} {p q : ℕ} → p ≤ q → Below s t q → Below s t p
fewer h b = record { same = λ k l. b.same k (omega arith) }

-- t goes on as s does up to p, and then with u
pub record Goes (s : Text) (p : ℕ) (u t : Text) : Type 0 where
  pub low : Below s t p
  pub on : (k : ℕ) → k < length u → peek t (p + k) ≡ peek u k

pub front : {s : Text} {p : ℕ} (u v : Text) {t : Text} → Goes s p (u ++ v) t → Goes s p u t
unfolding peek
front u v g = record { low = g.low; on = λ k l. g.on k (omega (arith, length-append u v)) ∙ get_or-append u v 256 k l }

pub next_byte : {s : Text} {p : ℕ} (u : Text) (b : ℕ) {t : Text} → Goes s p (u ++ (b ∷ [])) t → peek t (p + length u) ≡ b
unfolding peek
next_byte u b g = g.on (length u) (omega (arith, length-append u (b ∷ []))) ∙ get_or-append_seam u b [] 256

pub only_byte : {s : Text} {p : ℕ} (b : ℕ) (v : Text) {t : Text} → Goes s p (b ∷ v) t → peek t p ≡ b
unfolding peek
only_byte {s} {p} b v {t} g = ap (peek t) (sym (add-zero p)) ∙ g.on 0 (omega arith)

-- a text made of the first p bytes of s and of u goes on so
pub goes : (s : Text) (p : ℕ) (u : Text) → p ≤ length s → Goes s p u (take p s ++ u)
unfolding peek
goes s p u h =
    let l : length (take p s) ≡ p = length-take-le p s h in
    record {
      low = record { same = λ k b. sym (get_or-append (take p s) u 256 k (omega arith) ∙ get_or-take p s k 256 b) };
      on = λ k b. ap (λ (n : ℕ). get_or (take p s ++ u) (n + k) 256) (sym l) ∙ get_or-append-add (take p s) u k 256;
    }

pub goes_end : (s : Text) (p : ℕ) (u : Text) → p ≤ length s → peek (take p s ++ u) (p + length u) ≡ 256
goes_end s p u h = peek_end (take p s ++ u) (p + length u) (omega (arith, length-append (take p s) u, length-take-le p s h))

-- what can follow a value: whitespace, a comma, ], }, or the end
unfoldable pub stop : ℕ → Bool
stop b = whitespace b || (eqb b 44 || (eqb b 93 || (eqb b 125 || eqb b 256)))

-- a reading ends at its start or after it
abbrev pub Forward : {A : Type 0} → Reader A → Type 0
Forward r = (s : Text) (i : ℕ) → i ≤ at (r s i)

-- what was read took a byte at least
abbrev pub Strict : {A : Type 0} → Reader A → Type 0
Strict {A} r = (s : Text) (i : ℕ) (a : A) (j : ℕ) → r s i ≡ done a j → i < j

-- texts that agree up to the position where a reading ends, and there, read the same
abbrev pub Local : {A : Type 0} → Reader A → Type 0
Local r = (s t : Text) (i : ℕ) → Agree s t (at (r s i)) → r t i ≡ r s i

-- what was read is read again with the same bytes up to its end and one that can follow a value
abbrev pub Firm : {A : Type 0} → Reader A → Type 0
Firm {A} r = (s t : Text) (i : ℕ) (a : A) (j : ℕ) → r s i ≡ done a j → Below s t j → stop (peek t j) ≡ true → r t i ≡ done a j

-- what ends with a byte of its own is read again whatever follows
abbrev pub Closed : {A : Type 0} → Reader A → Type 0
Closed {A} r = (s t : Text) (i : ℕ) (a : A) (j : ℕ) → r s i ≡ done a j → Below s t j → r t i ≡ done a j

-- where a reading goes wrong, some bytes finish it, if what follows them can follow a value
abbrev pub Ends : {A : Type 0} → Reader A → Type 0
Ends {A} r = (s : Text) (i p : ℕ) → r s i ≡ bad p → (u : Text) × ((t : Text) → Goes s p u t → stop (peek t (p + length u)) ≡ true → (a : A) × (r t i ≡ done a (p + length u)))

-- and whatever follows
abbrev pub EndsClosed : {A : Type 0} → Reader A → Type 0
EndsClosed {A} r = (s : Text) (i p : ℕ) → r s i ≡ bad p → (u : Text) × ((t : Text) → Goes s p u t → (a : A) × (r t i ≡ done a (p + length u)))

-- no position lies past the end
abbrev pub Bounded : {A : Type 0} → Reader A → Type 0
Bounded r = (s : Text) (i : ℕ) → i ≤ length s → at (r s i) ≤ length s

-- what can be followed by anything can be followed by what follows a value
pub closed_firm : {A : Type 0} (r : Reader A) → Closed r → Firm r
closed_firm r h s t i a j e b st = h s t i a j e b

pub closed_ends : {A : Type 0} (r : Reader A) → EndsClosed r → Ends r
closed_ends r h s i p e = let w = h s i p e in (w.0, λ t g st. w.1 t g)

-- no two of the three outcomes are one
pub bad_done : {A : Type 0} {a : A} {i n : ℕ} → bad i ≡ done a n → ⊥
bad_done e = let z : ◌≡◌ {A = ℕ} 0 1 = cc in omega arith

pub done_bad : {A : Type 0} {a : A} {i n : ℕ} → done a n ≡ bad i → ⊥
done_bad e = let z : ◌≡◌ {A = ℕ} 0 1 = cc in omega arith

pub deep_done : {A : Type 0} {a : A} {i n : ℕ} → deep i ≡ done a n → ⊥
deep_done e = let z : ◌≡◌ {A = ℕ} 0 1 = cc in omega arith

pub deep_bad : {A : Type 0} {i n : ℕ} → ◌≡◌ {A = Out A} (deep n) (bad i) → ⊥
deep_bad e = let z : ◌≡◌ {A = ℕ} 0 1 = cc in omega arith

pub done_at : {A : Type 0} {a b : A} {i j : ℕ} → done a i ≡ done b j → i ≡ j
done_at e = cc

pub done_of : {A : Type 0} {a b : A} {i j : ℕ} → done a i ≡ done b j → a ≡ b
done_of e = cc

pub bad_at : {A : Type 0} {i n : ℕ} → ◌≡◌ {A = Out A} (bad n) (bad i) → n ≡ i
bad_at e = cc

pub past_done : {A : Type 0} (r : Reader A) → Forward r → (s : Text) (i : ℕ) {a : A} {j : ℕ} → r s i ≡ done a j → i ≤ j
unfolding at
past_done r go s i {a} {j} e =
    let h : at (r s i) ≡ j = ap at e in
    omega (arith, go s i)

-- the same of an outcome
pub at_done : {A : Type 0} {o : Out A} {i : ℕ} {a : A} {j : ℕ} → i ≤ at o → o ≡ done a j → i ≤ j
unfolding at
at_done {A} {o} {i} {a} {j} h e = let q : at o ≡ j = ap at e in omega arith

pub at_done_le : {A : Type 0} {o : Out A} {n : ℕ} {a : A} {j : ℕ} → at o ≤ n → o ≡ done a j → j ≤ n
unfolding at
at_done_le {A} {o} {n} {a} {j} h e = let q : at o ≡ j = ap at e in omega arith

pub at_bad : {A : Type 0} {o : Out A} {i p : ℕ} → i ≤ at o → o ≡ bad p → i ≤ p
unfolding at
at_bad {A} {o} {i} {p} h e = let q : at o ≡ p = ap at e in omega arith

pub past_bad : {A : Type 0} (r : Reader A) → Forward r → (s : Text) (i : ℕ) {p : ℕ} → r s i ≡ bad p → i ≤ p
unfolding at
past_bad r go s i {p} e =
    let h : at (r s i) ≡ p = ap at e in
    omega (arith, go s i)

-- the cases of `pick` and `next`
pub pick_case : {A C : Type 0} (b : Bool) (x y : A) {z : A} → pick b x y ≡ z → (b ≡ true → x ≡ z → C) → (b ≡ false → y ≡ z → C) → C
unfolding pick
pick_case true x y e f g = f refl e
pick_case false x y e f g = g refl e

pub pick_true : {A : Type 0} {b : Bool} (x y : A) → b ≡ true → pick b x y ≡ x
unfolding pick
pick_true x y e = rw e

pub pick_false : {A : Type 0} {b : Bool} (x y : A) → b ≡ false → pick b x y ≡ y
unfolding pick
pick_false x y e = rw e

module _ {A B : Type 0} where
  -- a value was read, and what followed read one too
  pub next_inv : (o : Out A) (f : A → ℕ → Out B) {b : B} {n : ℕ} → next o f ≡ done b n → (a : A) × (j : ℕ) × (o ≡ done a j) × (f a j ≡ done b n)
  unfolding next
  next_inv (done a j) f e = (a, j, refl, e)
  next_inv (bad i) f e = absurd (bad_done e)
  next_inv (deep i) f e = absurd (deep_done e)

  pub next_was : (f : A → ℕ → Out B) {o : Out A} {a : A} {j : ℕ} → o ≡ done a j → next o f ≡ f a j
  unfolding next
  next_was f e = rw e

  pub next_wrong : (f : A → ℕ → Out B) {o : Out A} {p : ℕ} → o ≡ bad p → next o f ≡ bad p
  unfolding next
  next_wrong f e = rw e

  pub next_bad_case : {C : Type 0} (o : Out A) (f : A → ℕ → Out B) {p : ℕ} → next o f ≡ bad p → (o ≡ bad p → C) → ((a : A) (j : ℕ) → o ≡ done a j → f a j ≡ bad p → C) → C
  unfolding next
  next_bad_case (done a j) f e g h = h a j refl e
  next_bad_case (bad i) f e g h = g (ap bad (bad_at e))
  next_bad_case (deep i) f e g h = absurd (deep_bad e)

  pub next_ext : (o : Out A) (f f' : A → ℕ → Out B) → ((a : A) (j : ℕ) → o ≡ done a j → f a j ≡ f' a j) → next o f ≡ next o f'
  unfolding next
  next_ext (done b j) f f' h = h b j refl
  next_ext (bad j) f f' h = refl
  next_ext (deep j) f f' h = refl

-- going forward
pub at_next : {A B : Type 0} (o : Out A) (f : A → ℕ → Out B) (i : ℕ) → i ≤ at o → ((a : A) (j : ℕ) → i ≤ j → i ≤ at (f a j)) → i ≤ at (next o f)
unfolding next at
at_next (done a j) f i h g = g a j h
at_next (bad j) f i h g = h
at_next (deep j) f i h g = h

pub at_pick : {A : Type 0} (t : Bool) (x y : Out A) (i : ℕ) → i ≤ at x → i ≤ at y → i ≤ at (pick t x y)
unfolding pick at
at_pick true x y i g h = g
at_pick false x y i g h = h

-- a reading that ends past i, or goes wrong at i or past it, and never goes too deep
pub data Past {A : Type 0} (i : ℕ) : Out A → Type 0 where
  past : {a : A} {j : ℕ} → i < j → Past i (done a j)
  wrong : {p : ℕ} → i ≤ p → Past i (bad p)

pub pick_past : {A : Type 0} {i : ℕ} (t : Bool) {x y : Out A} → Past i x → Past i y → Past i (pick t x y)
unfolding pick
pick_past true p q = p
pick_past false p q = q

pub pick_past_if : {A : Type 0} {i : ℕ} (t : Bool) {x y : Out A} → (t ≡ true → Past i x) → (t ≡ false → Past i y) → Past i (pick t x y)
unfolding pick
pick_past_if true p q = p refl
pick_past_if false p q = q refl

pub next_past : {A B : Type 0} {i : ℕ} {o : Out A} {f : A → ℕ → Out B} → Past i o → ((a : A) (j : ℕ) → i < j → Past i (f a j)) → Past i (next o f)
unfolding next
next_past (past h) g = g _ _ h
next_past (wrong h) g = wrong h

pub past_from : {A : Type 0} {i k : ℕ} {o : Out A} → i ≤ k → Past k o → Past i o
past_from {A} {i} {k} l (past {a} {j} h) = let q : i < j = omega arith in past q
past_from l (wrong h) = wrong (le_trans l h)

pub past_forward : {A : Type 0} {i : ℕ} {o : Out A} → Past i o → i ≤ at o
unfolding at
past_forward (past h) = omega arith
past_forward (wrong h) = h

pub past_strict : {A : Type 0} {i : ℕ} {o : Out A} {b : A} {k : ℕ} → Past i o → o ≡ done b k → i < k
past_strict {A} {i} {o} {b} {k} (past {a} {j} h) e = let q : j ≡ k = cc in omega arith
past_strict (wrong h) e = absurd (bad_done e)

pub past_deep : {A : Type 0} {i : ℕ} {o : Out A} {p : ℕ} → Past i o → o ≡ deep p → ⊥
past_deep (past h) e = let z : ◌≡◌ {A = ℕ} 0 1 = cc in omega arith
past_deep (wrong h) e = let z : ◌≡◌ {A = ℕ} 0 1 = cc in omega arith

-- staying within the text
pub next_le : {A B : Type 0} (o : Out A) (f : A → ℕ → Out B) (n : ℕ) → at o ≤ n → ((a : A) (j : ℕ) → j ≤ n → at (f a j) ≤ n) → at (next o f) ≤ n
unfolding next at
next_le (done a j) f n h g = g a j h
next_le (bad i) f n h g = h
next_le (deep i) f n h g = h

pub pick_le : {A : Type 0} (b : Bool) (x y : Out A) (n : ℕ) → (b ≡ true → at x ≤ n) → (b ≡ false → at y ≤ n) → at (pick b x y) ≤ n
unfolding pick
pick_le true x y n f g = f refl
pick_le false x y n f g = g refl

-- reading the same
module _ {s t : Text} where
  pub next_local : {A B : Type 0} (o o' : Out A) (f f' : A → ℕ → Out B) → (Agree s t (at o) → o' ≡ o) → ((a : A) (j : ℕ) → j ≤ at (f a j)) → ((a : A) (j : ℕ) → Agree s t (at (f a j)) → f' a j ≡ f a j) → Agree s t (at (next o f)) → next o' f' ≡ next o f
  unfolding next at
  next_local (done a j) o' f f' h on g w = rw (h (below (on a j) w)) (g a j w)
  next_local (bad i) o' f f' h on g w = rw (h w)
  next_local (deep i) o' f f' h on g w = rw (h w)

  pub pick_local : {A : Type 0} (b b' : Bool) (x x' y y' : Out A) → b' ≡ b → (Agree s t (at x) → x' ≡ x) → (Agree s t (at y) → y' ≡ y) → Agree s t (at (pick b x y)) → pick b' x' y' ≡ pick b x y
  unfolding pick
  pick_local true b' x x' y y' e h g w = rw e (h w)
  pick_local false b' x x' y y' e h g w = rw e (g w)

-- what was read up to k is read again in a text that agrees below j, where k is j and what follows can follow a value, or k lies before j
pub reached : {A : Type 0} (r : Reader A) → Local r → Firm r → (s t : Text) (i : ℕ) {a : A} {k j : ℕ} → r s i ≡ done a k → k ≤ j → Below s t j → stop (peek t j) ≡ true → r t i ≡ done a k
unfolding at
reached r local firm s t i {a} {k} {j} e l b st =
    ⊎_elim
    (λ (q : k ≡ j). firm s t i a k e (fewer l b) (ap (λ (n : ℕ). stop (peek t n)) q ∙ st))
    (λ (q : k < j).
    let w : at (r s i) ≡ k = ap at e in
    local s t i (record { same = λ n h. b.same n (omega arith) }) ∙ e)
    (eq-or-lt_of_le l)

-- and so in any text that agrees below a later position
pub repeated : {A : Type 0} (r : Reader A) → Local r → (s t : Text) (i : ℕ) {a : A} {k j : ℕ} → r s i ≡ done a k → k < j → Below s t j → r t i ≡ done a k
unfolding at
repeated r local s t i {a} {k} {j} e l b =
    let w : at (r s i) ≡ k = ap at e in
    local s t i (record { same = λ n h. b.same n (omega arith) }) ∙ e

pub agree_take : (s t : Text) (p : ℕ) → take (suc p) s ≡ take (suc p) t → Agree s t p
unfolding peek
agree_take s t p e = record { same = λ k l. sym (get_or-take (suc p) s k 256 (omega arith)) ∙ ap (λ (x : Text). get_or x k 256) e ∙ get_or-take (suc p) t k 256 (omega arith) }

-- where a reading goes wrong at p, it does in every text with the same first p + 1 bytes (where p is the end: in that text)
pub bad_stays : {A : Type 0} (r : Reader A) → Local r → (s t : Text) (i p : ℕ) → r s i ≡ bad p → take (suc p) s ≡ take (suc p) t → r t i ≡ bad p
unfolding at
bad_stays r local s t i p e h =
    let q : at (r s i) ≡ p = ap at e in
    local s t i (below (omega arith) (agree_take s t p h)) ∙ e

-- and its first p bytes can be completed, so that at the end of that text all is read
pub bad_completes : {A : Type 0} (r : Reader A) → Ends r → Bounded r → stop 256 ≡ true → (s : Text) (i p : ℕ) → i ≤ length s → r s i ≡ bad p → (u : Text) × (a : A) × (r (take p s ++ u) i ≡ done a (p + length u))
unfolding at
bad_completes r ends bounded se s i p h e =
    let q : at (r s i) ≡ p = ap at e in
    let l : p ≤ length s = omega (arith, bounded s i h) in
    let w = ends s i p e in
    let v = w.1 (take p s ++ w.0) (goes s p w.0 l) (ap stop (goes_end s p w.0 l) ∙ se) in
    (w.0, v.0, v.1)
