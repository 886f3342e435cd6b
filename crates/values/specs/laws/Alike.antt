-- Plain bytes at two positions, of two texts or of one, that are the same. Assumes nothing.
use Rattle.std.specs.Prelude.{◌≡◌, refl, Bool, true, false, ◌&&◌, get_or, eqb}
use Rattle.std.proofs.Math.Path.{sym, ap}
use Rattle.std.proofs.Common.{subst, ◌∙◌, not-suc-le-zero, eqb-true}
use Prim.Native.Nat.{ℕ, suc, ◌+◌, ◌-◌, ◌≤◌, ◌<◌}
use Rattle.std.proofs.Math.Decide.{ℕ_discrete, dec_lt}
use native.Mathlib.Omega.{arith}
use Rattle.std.proofs.Math.ListN.{length}
use Rattle.text.specs.Reading.{Text, peek}
use Rattle.text.specs.laws.Peek.{peek_at}
use Rattle.text.specs.laws.Plain.{own}

-- two bytes are one plain byte twice
unfoldable pub twice : ℕ → ℕ → Bool
twice b d = eqb b d && own b

-- those j places after two positions are
unfoldable pub twice_at : Text → ℕ → Text → ℕ → ℕ → Bool
twice_at s i t k j = twice (get_or s (i + j) 0) (get_or t (k + j) 0)

-- the r bytes at two positions are plain and the same, and stand within the texts
pub record Alike (s : Text) (i : ℕ) (t : Text) (k r : ℕ) : Type 0 where
  pub left : i + r ≤ length s
  pub right : k + r ≤ length t
  pub each : (j : ℕ) → j < r → twice_at s i t k j ≡ true

pub alike_none : (s : Text) (i : ℕ) (t : Text) (k : ℕ) → i ≤ length s → k ≤ length t → Alike s i t k 0
alike_none s i t k g h = record { left = omega arith; right = omega arith; each = λ j l. absurd (not-suc-le-zero l) }

-- one plain byte twice, within the texts
pub record Twice (s : Text) (i : ℕ) (t : Text) (k : ℕ) : Type 0 where
  pub left : i < length s
  pub right : k < length t
  pub same : peek s i ≡ peek t k
  pub plain : own (get_or s i 0) ≡ true
  pub plain_too : own (get_or t k 0) ≡ true

apart_not : (b d : ℕ) → twice b d ≡ true → (b ≡ d) × (own b ≡ true)
unfolding twice
apart_not b d = go (eqb b d) refl
  where
    go : (t : Bool) → eqb b d ≡ t → (t && own b) ≡ true → (b ≡ d) × (own b ≡ true)
    go true e h = (eqb-true b d e, h)
    go false e h = let z : ◌≡◌ {A = ℕ} 0 1 = cc in absurd (omega arith)

module _ {s : Text} {i : ℕ} {t : Text} {k r : ℕ} (a : Alike s i t k (suc r)) where
  -- all but the last
  pub alike_less : Alike s i t k r
  alike_less =
      let g : i + suc r ≤ length s = a.left in
      let h : k + suc r ≤ length t = a.right in
      record { left = omega arith; right = omega arith; each = λ j l. a.each j (omega arith) }

  -- and the last
  pub alike_last : Twice s (i + r) t (k + r)
  unfolding twice_at
  alike_last =
      let g : i + suc r ≤ length s = a.left in
      let h : k + suc r ≤ length t = a.right in
      let x : i + r < length s = omega arith in
      let y : k + r < length t = omega arith in
      let w = apart_not (get_or s (i + r) 0) (get_or t (k + r) 0) (a.each r (omega arith)) in
      record {
        left = x;
        right = y;
        same = sym (peek_at s (i + r) x) ∙ w.0 ∙ peek_at t (k + r) y;
        plain = w.1;
        plain_too = ap own (sym w.0) ∙ w.1;
      }

-- one more
pub alike_more : {s : Text} {i : ℕ} {t : Text} {k r : ℕ} → Alike s i t k r → i + r < length s → k + r < length t → twice (get_or s (i + r) 0) (get_or t (k + r) 0) ≡ true → Alike s i t k (r + 1)
unfolding twice_at
alike_more {s} {i} {t} {k} {r} a g h e =
    record {
      left = omega arith;
      right = omega arith;
      each = λ j l. go j (ℕ_discrete j r) l;
    }
  where
    go : (j : ℕ) → Dec (j ≡ r) → j < r + 1 → twice_at s i t k j ≡ true
    go j (yes q) l = ap (λ (n : ℕ). twice (get_or s (i + n) 0) (get_or t (k + n) 0)) q ∙ e
    go j (no n) l = a.each j (omega arith)

-- some, and some after them
pub alike_join : {s : Text} {i : ℕ} {t : Text} {k m n : ℕ} → Alike s i t k m → Alike s (i + m) t (k + m) n → Alike s i t k (m + n)
unfolding twice_at
alike_join {s} {i} {t} {k} {m} {n} a b =
    let g : i + m + n ≤ length s = b.left in
    let h : k + m + n ≤ length t = b.right in
    record {
      left = omega arith;
      right = omega arith;
      each = λ j l. go j (dec_lt j m) l;
    }
  where
    go : (j : ℕ) → Dec (j < m) → j < m + n → twice_at s i t k j ≡ true
    go j (yes q) l = a.each j q
    go j (no q) l =
        let x : i + m + (j - m) ≡ i + j = omega arith in
        let y : k + m + (j - m) ≡ k + j = omega arith in
        sym (λ z. twice (get_or s (x z) 0) (get_or t (y z) 0)) ∙ b.each (j - m) (omega arith)

-- n of the first j bytes at two positions were counted as plain and the same
pub record Counted (s : Text) (i : ℕ) (t : Text) (k n j : ℕ) : Type 0 where
  pub few : n ≤ j
  pub all : n ≡ j → Alike s i t k j

module _ (s : Text) (i : ℕ) (t : Text) (k : ℕ) where
  pub counted_none : i ≤ length s → k ≤ length t → Counted s i t k 0 0
  counted_none g h = record { few = omega arith; all = λ _. alike_none s i t k g h }

  pub counted_more : {n j r : ℕ} → Counted s i t k n j → i + j < length s → k + j < length t → (r ≤ 1) × (r ≡ 1 → twice (get_or s (i + j) 0) (get_or t (k + j) 0) ≡ true) → Counted s i t k (n + r) (j + 1)
  counted_more {n} {j} {r} c g h (w, f) =
      record {
        few = omega (arith, c.few);
        all = λ (e : n + r ≡ j + 1). alike_more (c.all (omega (arith, c.few))) g h (f (omega (arith, c.few)));
      }

  pub counted_all : {n j : ℕ} → Counted s i t k n j → j ≡ 16 → n ≡ 16 → Alike s i t k 16
  counted_all {n} {j} c e f = subst (Alike s i t k) e (c.all (f ∙ sym e))
