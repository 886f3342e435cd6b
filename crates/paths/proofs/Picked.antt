-- A list is looked through, and those of its elements that have a property are put one after the other into another list, in the order in which they stood.
use Prim.Native.Nat.{ℕ, ◌+◌, ◌≤◌, ◌<◌, zero-le}
use native.Mathlib.Omega.{arith}
use mathlib.Core.Path.{◌≡◌, sym, ◌∙◌}
use mathlib.Core.List.{List}
use borrow.Author.Count.{below_more}
use lib.ListN.{length, get_or, set}
use lib.Seq.{get_or-set_same, get_or-set_other}
use Rattle.paths.specs.laws.Search.{Among, Rising}

-- out from a to r holds those of the first m of ls that have P, in rising order
pub record Picked (P : ℕ → Type 0) (ls : List ℕ) (m : ℕ) (out : List ℕ) (a r : ℕ) : Type 0 where
  pub order : a ≤ r
  pub from : (i : ℕ) → a ≤ i → i < r → Among ls 0 m (get_or out i 0)
  pub has : (i : ℕ) → a ≤ i → i < r → P (get_or out i 0)
  pub rising : Rising out a r
  pub all : (i : ℕ) → i < m → P (get_or ls i 0) → Among out a r (get_or ls i 0)

pub picked_none : (P : ℕ → Type 0) (ls out : List ℕ) (a : ℕ) → Picked P ls 0 out a a
picked_none P ls out a = record { order = omega arith; from = λ i h k. absurd (omega arith); has = λ i h k. absurd (omega arith); rising = λ i j h k l. absurd (omega arith); all = λ i h. absurd (omega arith) }

module _ {P : ℕ → Type 0} {ls : List ℕ} {m : ℕ} {out : List ℕ} {a r : ℕ} (s : Picked P ls m out a r) where
  from_more : (i : ℕ) → a ≤ i → i < r → Among ls 0 (m + 1) (get_or out i 0)
  from_more i h k = let w = s.from i h k in (w.0, w.1, omega (arith, w.2), w.3)

  -- the next doesn't have it
  pub picked_skip : (P (get_or ls m 0) → ⊥) → Picked P ls (m + 1) out a r
  picked_skip n = record {
    order = s.order;
    from = from_more;
    has = s.has;
    rising = s.rising;
    all = below_more _ m s.all (λ p. absurd (n p));
  }

  -- it is put at the end
  module _ {e k : ℕ} (q : get_or ls m 0 ≡ e) (up : Rising ls 0 k) (l : m < k) (room : r < length out) where
    abbrev out' : List ℕ
    out' = set out r e

    old : (i : ℕ) → i < r → get_or out' i 0 ≡ get_or out i 0
    old i h = get_or-set_other out r i e 0 (λ z. omega arith)

    new : get_or out' r 0 ≡ e
    new = get_or-set_same out r e 0 room

    smaller : (i : ℕ) → a ≤ i → i < r → get_or out i 0 < e
    smaller i h k = let w = s.from i h k in omega (arith, w.3, q, up w.0 m zero-le w.2 l)

    stays : (c : ℕ) → Among out a r c → Among out' a (r + 1) c
    stays c w = (w.0, w.1, omega (arith, w.2), old w.0 w.2 ∙ w.3)

    pub picked_put : P e → Picked P ls (m + 1) out' a (r + 1)
    picked_put p = record {
      order = omega (arith, s.order);
      from = λ i h k. below_more (λ i. a ≤ i → Among ls 0 (m + 1) (get_or out' i 0)) r (λ i k h. rw (old i k) (from_more i h k)) (λ h. (m, zero-le, omega arith, q ∙ sym new)) i k h;
      has = λ i h k. below_more (λ i. a ≤ i → P (get_or out' i 0)) r (λ i k h. rw (old i k) (s.has i h k)) (λ h. rw new p) i k h;
      rising = λ i j h k l. below_more (λ j. (i : ℕ) → a ≤ i → i < j → get_or out' i 0 < get_or out' j 0) r (λ j l i h k. omega (arith, old i (omega arith), old j l, s.rising i j h k l)) (λ i h k. omega (arith, old i k, new, smaller i h k)) j l i h k;
      all = below_more _ m (λ i h p. stays (get_or ls i 0) (s.all i h p)) (λ _. (r, s.order, omega arith, new ∙ sym q));
    }
