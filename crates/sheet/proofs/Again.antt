-- Laws of paths and of 31 in the code's own values: bytes at bit positions, one more element of a list, a hit, a miss, the end. Assumes nothing.
use mathlib.Core.Path.{◌≡◌, refl, sym, ap, ◌∙◌}
use mathlib.Core.Bool.{Bool, true, false, ◌&&◌}
use mathlib.Core.List.{List, [], ◌∷◌}
use Prim.Native.Nat.{ℕ, suc, ◌+◌, ◌-◌, ◌*◌, ◌<◌, ◌≤◌}
use native.Mathlib.Omega.{arith}
use native.Mathlib.Numerals.{add-one}
use lib.Dec.{eqb, ltb}
use lib.ListN.{length, drop, get_or}
use lib.Seq.{drop-cons, drop-length}
use borrow.Author.Tests.{eq-eqb, ne_eqb, ltb-true}
use Rattle.bits.specs.Bits.{number, taken_at}
use Rattle.bits.specs.laws.Number.{number_lt}
use Rattle.bits.specs.laws.Fields.{take_in}
use Rattle.bits.specs.declared.Taken.{Taken}
use Rattle.records.specs.Layout.{pick, bytes_at, head_here, path_here, file_here, source_here, size_of}
use Rattle.records.specs.Readers.{far, head_at, path_at}
use Rattle.records.specs.laws.Fields.{length_bytes, head_near}
use Rattle.records.specs.declared.Head.{Head}
use Rattle.sheet.specs.Twice.{among, repeats, same_bytes}
use Rattle.sheet.specs.Places.{paths_from, every, sources_from}

-- ---- lists
module _ {A : Type 0} (same : A → A → Bool) where
  pub among_none : (x : A) {xs : List A} → xs ≡ [] → false ≡ among same x xs
  unfolding among
  among_none x e = rw e

  pub among_hit : (x : A) {xs ys : List A} {y : A} {b : Bool} → xs ≡ y ∷ ys → b ≡ same x y → b ≡ true → true ≡ among same x xs
  unfolding among
  among_hit x e q h = rw (e, ← q, h)

  pub among_miss : (x : A) {xs ys : List A} {y : A} {b : Bool} → xs ≡ y ∷ ys → b ≡ same x y → b ≡ false → among same x xs ≡ among same x ys
  unfolding among
  among_miss x e q h = rw (e, ← q, h)

  pub repeats_none : {xs : List A} → xs ≡ [] → false ≡ repeats same xs
  unfolding repeats
  repeats_none e = rw e

  pub repeats_hit : {xs ys : List A} {y : A} {b : Bool} → xs ≡ y ∷ ys → b ≡ among same y ys → b ≡ true → true ≡ repeats same xs
  unfolding repeats
  repeats_hit e q h = rw (e, ← q, h)

  pub repeats_miss : {xs ys : List A} {y : A} {b : Bool} → xs ≡ y ∷ ys → b ≡ among same y ys → b ≡ false → repeats same xs ≡ repeats same ys
  unfolding repeats
  repeats_miss e q h = rw (e, ← q, h)

pub unequal : (xs ys : List ℕ) → (length xs ≡ length ys → ⊥) → false ≡ same_bytes xs ys
unfolding same_bytes
unequal [] [] h = absurd (h refl)
unequal [] (y ∷ ys) h = refl
unequal (x ∷ xs) [] h = refl
unequal (x ∷ xs) (y ∷ ys) h = rest (eqb x y) (unequal xs ys (λ e. h (ap suc e)))
  where
    rest : (b : Bool) {c : Bool} → false ≡ c → false ≡ (b && c)
    rest true e = e
    rest false e = refl

-- ---- bytes
module _ (s : List ℕ) where
  bytes_step : {p left : ℕ} {x : Taken ℕ} → x ≡ taken_at s p 8 → p ≤ 0x2000000000 → 0 < left → bytes_at s p left ≡ x.value ∷ bytes_at s (p + 8) (left - 1)
  unfolding bytes_at
  bytes_step {p} {left} {x} e l h =
      let n : left ≡ suc (left - 1) = omega arith in
      let v : x.value ≡ number s p 8 = rw (e ∙ take_in s p 8 (omega arith) (omega arith)) in
      ap (bytes_at s p) n ∙ ap (λ (b : ℕ). b ∷ bytes_at s (p + 8) (left - 1)) (sym v)

  -- the first of the bytes from byte k on, of n
  pub cut_off : (a n k : ℕ) {x : Taken ℕ} → x ≡ taken_at s (a + 8 * k) 8 → a + 8 * k ≤ 0x2000000000 → k < n → bytes_at s (a + 8 * k) (n - k) ≡ x.value ∷ bytes_at s (a + 8 * (k + 1)) (n - (k + 1))
  cut_off a n k ex l h =
      let p : a + 8 * k + 8 ≡ a + 8 * (k + 1) = omega arith in
      let m : n - k - 1 ≡ n - (k + 1) = omega arith in
      let z : 0 < n - k = omega arith in
      rw (bytes_step ex l z, p, m)

  -- what is left of n bytes at a and of those at b, from byte k on
  module _ (a b n k : ℕ) where
    module _ {x y : Taken ℕ} (ex : x ≡ taken_at s (a + 8 * k) 8) (ey : y ≡ taken_at s (b + 8 * k) 8) (la : a + 8 * k ≤ 0x2000000000) (lb : b + 8 * k ≤ 0x2000000000) (h : k < n) where
      pub differ : (x.value ≡ y.value → ⊥) → false ≡ same_bytes (bytes_at s (a + 8 * k) (n - k)) (bytes_at s (b + 8 * k) (n - k))
      unfolding same_bytes
      differ d = rw (cut_off a n k ex la h, cut_off b n k ey lb h, ne_eqb x.value y.value d)

      pub agree : x.value ≡ y.value →
          same_bytes (bytes_at s (a + 8 * (k + 1)) (n - (k + 1))) (bytes_at s (b + 8 * (k + 1)) (n - (k + 1))) ≡ same_bytes (bytes_at s (a + 8 * k) (n - k)) (bytes_at s (b + 8 * k) (n - k))
      unfolding same_bytes
      agree d = rw (cut_off a n k ex la h, cut_off b n k ey lb h, eq-eqb x.value y.value d)

    pub none_left : n ≤ k → true ≡ same_bytes (bytes_at s (a + 8 * k) (n - k)) (bytes_at s (b + 8 * k) (n - k))
    unfolding bytes_at same_bytes
    none_left h = let z : n - k ≡ 0 = omega arith in rw z

  pub all_left : (a b n : ℕ) → same_bytes (bytes_at s (a + 8 * 0) (n - 0)) (bytes_at s (b + 8 * 0) (n - 0)) ≡ same_bytes (bytes_at s a n) (bytes_at s b n)
  all_left a b n =
      let ea : a + 8 * 0 ≡ a = omega arith in
      let eb : b + 8 * 0 ≡ b = omega arith in
      let en : n - 0 ≡ n = omega arith in
      rw (ea, eb, en)

  -- ---- paths
  pub length_is : {a : ℕ} {g : Head} → g ≡ head_at s a → a < far → (head_here s a).length ≡ g.length
  length_is {a} e l = rw (e ∙ head_near s a l)

  path_is : {a : ℕ} {g : Head} → g ≡ head_at s a → a < far → path_here s a ≡ bytes_at s (a + 15) g.length
  path_is {a} e l = ap (bytes_at s (a + 15)) (length_is e l)

  pub paths_differ : {a b : ℕ} {g h : Head} → g ≡ head_at s a → h ≡ head_at s b → a < far → b < far → (g.length ≡ h.length → ⊥) → false ≡ same_bytes (path_here s a) (path_here s b)
  paths_differ {a} {b} {g} {h} eg eh la lb d =
      rw (path_is eg la, path_is eh lb)
      (unequal (bytes_at s (a + 15) g.length) (bytes_at s (b + 15) h.length) (λ e. d (sym (length_bytes s (a + 15) g.length) ∙ e ∙ length_bytes s (b + 15) h.length)))

  pub paths_equal : {a b n : ℕ} {g h : Head} {r : Bool} → g ≡ head_at s a → h ≡ head_at s b → a < far → b < far → g.length ≡ h.length → n ≡ g.length →
      r ≡ same_bytes (bytes_at s (a + 15) n) (bytes_at s (b + 15) n) → r ≡ same_bytes (path_here s a) (path_here s b)
  paths_equal eg eh la lb d en q = rw (path_is eg la, path_is eh lb, ← d, ← en) q

  pub size_is : {a n : ℕ} {g : Head} → g ≡ head_at s a → n ≡ g.length → a < far → a + (15 + 8 * n) ≡ a + size_of (file_here s a)
  size_is {a} e en l = simp length_bytes (ap (λ (n : ℕ). a + (15 + 8 * n)) (en ∙ sym (length_is e l)))

  pub paths_step : (p : ℕ) {q left : ℕ} → q ≡ p + size_of (file_here s p) → 0 < left → paths_from s p left ≡ path_here s p ∷ paths_from s q (left - 1)
  unfolding paths_from
  paths_step p {q} {left} e h =
      let n : left ≡ suc (left - 1) = omega arith in
      ap (paths_from s p) n ∙ ap (λ (j : ℕ). path_here s p ∷ paths_from s j (left - 1)) (sym e)

  pub paths_none : (p : ℕ) {left : ℕ} → left ≡ 0 → paths_from s p left ≡ []
  unfolding paths_from
  paths_none p e = rw e

  -- ---- sources
  pub sources_step : (p : ℕ) {left : ℕ} → 0 < left → sources_from s p left ≡ source_here s p ∷ sources_from s (p + 40) (left - 1)
  unfolding every
  sources_step p {left} h =
      let n : left ≡ suc (left - 1) = omega arith in
      ap (sources_from s p) n

  pub sources_none : (p : ℕ) {left : ℕ} → left ≡ 0 → sources_from s p left ≡ []
  unfolding every
  sources_none p e = rw e

-- ---- a path and other bytes: what is left of both from byte i on
module _ (s t : List ℕ) (at : ℕ) {h : Head} {n : ℕ} (eh : h ≡ head_at s at) (en : n ≡ h.length) where
  path_bytes : path_at s at ≡ bytes_at s (at + 15) n
  path_bytes = ap (bytes_at s (at + 15)) (sym (en ∙ ap (λ (g : Head). g.length) eh))

  -- a file with a path lies near
  pub path_near : 0 < n → at < far
  unfolding head_at pick
  path_near l = go (ltb at far) refl (ap (λ (g : Head). g.length) eh)
    where
      go : (b : Bool) → ltb at far ≡ b → h.length ≡ (head_at s at).length → at < far
      go true q e = ltb-true at far q
      go false q e = let z : h.length ≡ 0 = (rw q at e) in absurd (omega arith)

  pub path_unequal : (n ≡ length t → ⊥) → false ≡ same_bytes (path_at s at) t
  path_unequal d = rw path_bytes (unequal (bytes_at s (at + 15) n) t (λ e. d (sym (length_bytes s (at + 15) n) ∙ e)))

  pub rest_start : same_bytes (bytes_at s (at + 15 + 8 * 0) (n - 0)) (drop 0 t) ≡ same_bytes (path_at s at) t
  rest_start =
      let a : at + 15 + 8 * 0 ≡ at + 15 = omega arith in
      let b : n - 0 ≡ n = omega arith in
      rw (a, b, path_bytes)

  module _ (i : ℕ) {x : Taken ℕ} (el : n ≡ length t) (ex : x ≡ taken_at s (at + 15 + 8 * i) 8) (l : i < n) where
    close : at + 15 + 8 * i ≤ 0x2000000000
    close = omega (arith, path_near (omega arith), small)
      where
        small : h.length < 256
        small = rw (eh ∙ head_near s at (path_near (omega arith))) (number_lt s (at + 3 + 1 + 3) 8)

    cut_text : drop i t ≡ get_or t i 0 ∷ drop (i + 1) t
    cut_text = let q : i < length t = omega arith in rw (add-one, drop-cons t i 0)

    pub rest_differ : (x.value ≡ get_or t i 0 → ⊥) → false ≡ same_bytes (bytes_at s (at + 15 + 8 * i) (n - i)) (drop i t)
    unfolding same_bytes
    rest_differ d = rw (cut_off s (at + 15) n i ex close l, cut_text, ne_eqb x.value (get_or t i 0) d)

    pub rest_agree : x.value ≡ get_or t i 0 → same_bytes (bytes_at s (at + 15 + 8 * (i + 1)) (n - (i + 1))) (drop (i + 1) t) ≡ same_bytes (bytes_at s (at + 15 + 8 * i) (n - i)) (drop i t)
    unfolding same_bytes
    rest_agree d = rw (cut_off s (at + 15) n i ex close l, cut_text, eq-eqb x.value (get_or t i 0) d)

  pub rest_none : (i : ℕ) → n ≡ length t → i ≡ n → true ≡ same_bytes (bytes_at s (at + 15 + 8 * i) (n - i)) (drop i t)
  unfolding same_bytes bytes_at
  rest_none i el e =
      let a : n - i ≡ 0 = omega arith in
      let b : drop i t ≡ [] = ap (λ (k : ℕ). drop k t) (e ∙ el) ∙ drop-length t in
      rw (a, b)
