-- Laws of fields: when a field is got, and what is known of one that was. Assumes nothing.
use Rattle.std.proofs.Math.Path.{◌≡◌, refl}
use Rattle.std.proofs.Common.{sym, ap, subst, ◌∙◌}
use Rattle.std.specs.Prelude.{Bool, ◌&&◌, Some, None, List, ℕ, ◌+◌, ◌*◌, ◌^◌, ◌<◌, ◌≤◌, T, ltb}
use Rattle.std.proofs.Math.Bool.{true, false, cond}
use native.Mathlib.Omega.{arith}
use Rattle.std.proofs.Math.Dec.{leb}
use Rattle.std.proofs.Math.ListN.{length}
use borrow.Author.Tests.{le-leb, lt-leb, lt-ltb, le-ltb, leb-true, leb-false, ltb-true}
use Rattle.bits.specs.declared.Cursor.{Cursor}
use Rattle.bits.specs.declared.Taken.{Taken}
use Rattle.bits.specs.Bits.{number, may_stand, inside, end_of, field_at, taken, taken_at}
use Rattle.bits.specs.laws.Number.{number_append}

pub stand_in : (i w : ℕ) → w ≤ 64 → i + w < 2 ^ 64 → may_stand i w ≡ true
unfolding may_stand
stand_in i w h l = simp (le-leb w 64 h, lt-ltb (i + w) (2 ^ 64) l)

pub stand_wide : (i w : ℕ) → 64 < w → may_stand i w ≡ false
unfolding may_stand
stand_wide i w h = simp (lt-leb w 64 h)

pub stand_far : (i w : ℕ) → 2 ^ 64 ≤ i + w → may_stand i w ≡ false
unfolding may_stand
stand_far i w h = go (leb w 64)
  where
    go : (t : Bool) → (t && ltb (i + w) (2 ^ 64)) ≡ false
    go true = le-ltb (i + w) (2 ^ 64) h
    go false = refl

-- what a field that may stand at i has
pub record Stands (i w : ℕ) : Type 0 where
  pub narrow : w ≤ 64
  pub near : i + w < 2 ^ 64

pub stands : (i w : ℕ) → may_stand i w ≡ true → Stands i w
unfolding may_stand
stands i w e = go (leb w 64) (ltb (i + w) (2 ^ 64)) refl refl e
  where
    go : (a b : Bool) → leb w 64 ≡ a → ltb (i + w) (2 ^ 64) ≡ b → (a && b) ≡ true → Stands i w
    go true true p q e = record { narrow = leb-true w 64 p; near = ltb-true (i + w) (2 ^ 64) q }
    go true false p q e = absurd (subst T (sym e) tt)
    go false b p q e = absurd (subst T (sym e) tt)

-- there is a position past it exactly if it may stand there
pub end_stands : (i w : ℕ) {e : ℕ} → end_of i w ≡ Some e → Stands i w × (e ≡ i + w)
end_stands i w {e} h = go (may_stand i w) refl h
  where
    go : (t : Bool) → may_stand i w ≡ t → cond t (Some (i + w)) None ≡ Some e → Stands i w × (e ≡ i + w)
    go true q h = (stands i w q, cc)
    go false q h = let z : ◌≡◌ {A = ℕ} 0 1 = cc in absurd (omega arith)

pub end_none : (i w : ℕ) → end_of i w ≡ None → may_stand i w ≡ false
end_none i w h = go (may_stand i w) h
  where
    go : (t : Bool) → cond t (Some (i + w)) None ≡ None → t ≡ false
    go true h = let z : ◌≡◌ {A = ℕ} 0 1 = cc in absurd (omega arith)
    go false h = refl

-- what is known of a field that was got: its number, where the cursor stands, and that the slice has all its bits
pub record IsGot (s : List ℕ) (i w v : ℕ) (next : Cursor) : Type 0 where
  pub value : v ≡ number s i w
  pub past : next ≡ record { at = i + w }
  pub stand : Stands i w
  pub whole : i + w ≤ 8 * length s

module _ (s : List ℕ) (i w : ℕ) where
  -- where a field may stand, it is taken
  pub take_in : w ≤ 64 → i + w < 2 ^ 64 → taken_at s i w ≡ taken s i w
  unfolding taken_at
  take_in h l = rw (stand_in i w h l)

  -- where it may not, the value is 0 and the cursor stays
  pub take_out : may_stand i w ≡ false → taken_at s i w ≡ record { value = 0; next = record { at = i } }
  unfolding taken_at
  take_out e = rw e

  -- where a field may stand and the slice has all its bits, it is got
  pub field_in : w ≤ 64 → i + w < 2 ^ 64 → i + w ≤ 8 * length s → field_at s i w ≡ Some (taken s i w)
  unfolding field_at inside
  field_in h l k = simp (stand_in i w h l, le-leb (i + w) (8 * length s) k)

  -- where it may not stand, it is cut
  pub field_out : may_stand i w ≡ false → field_at s i w ≡ None
  unfolding field_at
  field_out e = rw e

  -- where the slice lacks a bit, it is cut
  pub field_short : 8 * length s < i + w → field_at s i w ≡ None
  unfolding field_at inside
  field_short k = go (may_stand i w) refl
    where
      go : (a : Bool) → may_stand i w ≡ a → cond (a && leb (i + w) (8 * length s)) (Some (taken s i w)) None ≡ None
      go true e = simp (lt-leb (i + w) (8 * length s) k)
      go false e = refl

  -- a field that is got is this one
  pub field_got : {v : ℕ} {next : Cursor} → field_at s i w ≡ Some (record { value = v; next = next }) → IsGot s i w v next
  unfolding field_at inside
  field_got {v} {next} e = go (may_stand i w) (leb (i + w) (8 * length s)) refl refl e
    where
      apart : ◌≡◌ {A = ℕ} 0 1 → ⊥
      apart z = omega arith

      go : (a b : Bool) → may_stand i w ≡ a → leb (i + w) (8 * length s) ≡ b → cond (a && b) (Some (taken s i w)) None ≡ Some (record { value = v; next = next }) → IsGot s i w v next
      go true true p q e =
          let g : taken s i w ≡ record { value = v; next = next } = cc in
          record {
            value = sym (ap (λ (t : Taken ℕ). t.value) g);
            past = sym (ap (λ (t : Taken ℕ). t.next) g);
            stand = stands i w p;
            whole = leb-true (i + w) (8 * length s) q;
          }
      go true false p q e = let z : ◌≡◌ {A = ℕ} 0 1 = cc in absurd (apart z)
      go false b p q e = let z : ◌≡◌ {A = ℕ} 0 1 = cc in absurd (apart z)

  -- a field that may stand there and is cut lacks a bit
  pub field_cut : w ≤ 64 → i + w < 2 ^ 64 → field_at s i w ≡ None → 8 * length s < i + w
  field_cut h l e = go (leb (i + w) (8 * length s)) refl
    where
      go : (t : Bool) → leb (i + w) (8 * length s) ≡ t → 8 * length s < i + w
      go true q = let z : ◌≡◌ {A = ℕ} 0 1 = cc (field_in h l (leb-true (i + w) (8 * length s) q)) in omega arith
      go false q = leb-false (i + w) (8 * length s) q

  -- where a field is got, taking it gives the same
  pub take_got : {v : ℕ} {next : Cursor} → field_at s i w ≡ Some (record { value = v; next = next }) → taken_at s i w ≡ record { value = v; next = next }
  take_got e = let g = field_got e in rw (g.value, g.past) (take_in g.stand.narrow g.stand.near)

-- two fields got one after the other are one field
pub field_joined : (s : List ℕ) (i a b : ℕ) {v x : ℕ} {c d : Cursor} → a + b ≤ 64 → field_at s i a ≡ Some (record { value = v; next = c }) → field_at s c.at b ≡ Some (record { value = x; next = d }) → field_at s i (a + b) ≡ Some (record { value = v * 2 ^ b + x; next = d })
field_joined s i a b {v} {x} {c} {d} h e f =
    let g = field_got s i a e in
    let at : c.at ≡ i + a = ap (λ (k : Cursor). k.at) g.past in
    let k : IsGot s (i + a) b x d = field_got s (i + a) b (rw (← at) f) in
    let r : i + (a + b) ≡ i + a + b = omega arith in
    field_in s i (a + b) h (omega (arith, k.stand.near)) (omega (arith, k.whole)) ∙ rw (number_append s i a b, r, g.value, k.value, k.past)
