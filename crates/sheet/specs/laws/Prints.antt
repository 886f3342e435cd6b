-- The print of a path: a number that is computed from its length and its bytes, eight at a time. Equal paths have equal prints, since a field of whole
-- bytes is a function of these bytes. Assumes nothing.
use Rattle.std.specs.Prelude.{◌≡◌, refl, Bool, true, false, List, ◌∷◌, get_or}
use Rattle.std.proofs.Math.Path.{sym, ap}
use Rattle.std.proofs.Common.{◌∙◌}
use Prim.Native.Nat.{ℕ, zero, suc, ◌+◌, ◌*◌, ◌/◌, ◌%◌, ◌<◌}
use native.Mathlib.Omega.{arith}
use Rattle.std.proofs.Math.ListN.{length}
use Rattle.bits.specs.Bits.{number}
use Rattle.bits.specs.laws.Number.{number_none, number_append}
use Rattle.records.specs.Layout.{bytes_at, head_here, path_here}
use Rattle.records.specs.laws.Fields.{length_bytes}
use Rattle.sheet.specs.Twice.{same_bytes}
use Rattle.sheet.specs.Places.{place_of}
use Rattle.sheet.specs.laws.Repeats.{bytes_tell}

-- one field more. (No sum passes 64 bits)
abbrev pub step : ℕ → ℕ → ℕ
step print x = print % 0x100000000 * 0x1000193 + x / 0x100000000 * 0x9e3779b1 + x % 0x100000000

-- k fields of eight bytes from a bit position on, and one of the r bytes after them
unfoldable pub print_from : List ℕ → ℕ → ℕ → ℕ → ℕ → ℕ
print_from s print at zero r = step print (number s at (8 * r))
print_from s print at (suc k) r = print_from s (step print (number s at 64)) (at + 64) k r

-- the print of n bytes
abbrev pub print_of : List ℕ → ℕ → ℕ → ℕ
print_of s at n = print_from s n at (n / 8) (n % 8)

-- the print of the path of the file at a bit position
unfoldable pub print_here : List ℕ → ℕ → ℕ
print_here s a = print_of s (a + 15) (head_here s a).length

-- the prints of the paths of the first n files
pub record Printed (s prints : List ℕ) (n : ℕ) : Type 0 where
  pub long : length prints ≡ 32
  pub each : (k : ℕ) → k < n → get_or prints k 0 ≡ print_here s (place_of s 0 k)

module _ (s : List ℕ) where
  -- where m + n bytes are the same, so is the field of the first m, and so are the n after them
  record Alike (m n a b : ℕ) : Type 0 where
    field_same : number s a (8 * m) ≡ number s b (8 * m)
    rest_same : bytes_at s (a + 8 * m) n ≡ bytes_at s (b + 8 * m) n

  alike : (m n a b : ℕ) → bytes_at s a (m + n) ≡ bytes_at s b (m + n) → Alike m n a b
  unfolding bytes_at
  alike zero n a b h =
      let e : 0 + n ≡ n = omega arith in
      let ea : a + 0 ≡ a = omega arith in
      let eb : b + 0 ≡ b = omega arith in
      record { field_same = number_none s a ∙ sym (number_none s b); rest_same = rw (ea, eb) (rw e at h) }
  alike (suc m) n a b h =
      let e : suc m + n ≡ suc (m + n) = omega arith in
      let w : 8 * suc m ≡ 8 + 8 * m = omega arith in
      let g : number s a 8 ∷ bytes_at s (a + 8) (m + n) ≡ number s b 8 ∷ bytes_at s (b + 8) (m + n) = (rw e at h) in
      let x : number s a 8 ≡ number s b 8 = cc in
      let t : bytes_at s (a + 8) (m + n) ≡ bytes_at s (b + 8) (m + n) = cc in
      let i = alike m n (a + 8) (b + 8) t in
      let ea : a + (8 + 8 * m) ≡ a + 8 + 8 * m = omega arith in
      let eb : b + (8 + 8 * m) ≡ b + 8 + 8 * m = omega arith in
      record {
        field_same = rw (w, number_append s a 8 (8 * m), number_append s b 8 (8 * m), x, i.field_same);
        rest_same = rw (w, ea, eb) i.rest_same;
      }

  -- the same bytes have the same print
  same_print : (k r print a b : ℕ) → bytes_at s a (8 * k + r) ≡ bytes_at s b (8 * k + r) → print_from s print a k r ≡ print_from s print b k r
  unfolding print_from
  same_print zero r print a b h =
      let e : 8 * 0 + r ≡ r + 0 = omega arith in
      ap (step print) (alike r 0 a b (rw e at h)).field_same
  same_print (suc k) r print a b h =
      let e : 8 * suc k + r ≡ 8 + (8 * k + r) = omega arith in
      let i = alike 8 (8 * k + r) a b (rw e at h) in
      ap (λ (x : ℕ). print_from s (step print x) (a + 64) k r) i.field_same ∙ same_print k r (step print (number s b 64)) (a + 64) (b + 64) i.rest_same

  path_print_lem : (a b : ℕ) → path_here s a ≡ path_here s b → print_here s a ≡ print_here s b
  unfolding print_here
  path_print_lem a b h =
      let n = (head_here s a).length in
      let m = (head_here s b).length in
      let e : n ≡ m = sym (length_bytes s (a + 15) n) ∙ ap length h ∙ length_bytes s (b + 15) m in
      let w : n ≡ 8 * (n / 8) + n % 8 = omega arith in
      let g : bytes_at s (a + 15) n ≡ bytes_at s (b + 15) n = h ∙ ap (bytes_at s (b + 15)) (sym e) in
      same_print (n / 8) (n % 8) n (a + 15) (b + 15) (sym (ap (bytes_at s (a + 15)) w) ∙ g ∙ ap (bytes_at s (b + 15)) w) ∙ ap (print_of s (b + 15)) e

  -- so paths with different prints differ
  pub prints_differ : (a b : ℕ) {x y : ℕ} → x ≡ print_here s a → y ≡ print_here s b → (x ≡ y → ⊥) → false ≡ same_bytes (path_here s a) (path_here s b)
  prints_differ a b ex ey d = go (same_bytes (path_here s a) (path_here s b)) refl
    where
      go : (t : Bool) → same_bytes (path_here s a) (path_here s b) ≡ t → false ≡ t
      go true h = absurd (d (ex ∙ path_print_lem a b (bytes_tell.sound (path_here s a) (path_here s b) h) ∙ sym ey))
      go false h = refl
