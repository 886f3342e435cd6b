-- The known names by number, and which of them a string is: no two have both the first letter and the length in common, so these tell it. Assumes nothing.
use Rattle.std.specs.Prelude.{◌≡◌, Bool, not, ◌&&◌, ◌||◌, ℕ, zero, suc, ◌+◌, ◌<◌, ◌≤◌, ltb, leb, get_or, length, take}
use Rattle.std.proofs.Math.Path.{refl, ap}
use Rattle.std.proofs.Common.{sym, ◌∙◌, true≢false, le_of_suc-le-suc, not-suc-le-zero, eqb-true, eq-eqb, ne_eqb, ltb-true, leb-true}
use Rattle.std.proofs.Math.Bool.{true, false}
use mathlib.Core.List.{List, [], ◌∷◌}
use Rattle.std.proofs.Math.Decide.{ℕ_discrete}
use native.Mathlib.Omega.{arith}
use Rattle.std.proofs.Math.Dec.{eqb}
use Rattle.text.specs.Reading.{Text, pick}
use Rattle.grammar.specs.Tree.{same}
use Rattle.manifest.specs.Names.{bytes}
use Rattle.manifest.specs.Rows.{first_or}
use Rattle.manifest.proofs.laws.Bools.{two}
use Rattle.values.specs.Strings.{is_text, same_as, rest, ends_in}
use Rattle.values.specs.Theorems.{ends_is, same_is_equal}
use Rattle.table.specs.laws.Some.{some, some_not}
use Rattle.table.specs.laws.Heads.{Heads}

abbrev pub names : List Text
names =
    bytes "file" ∷ bytes "files" ∷ bytes "machine" ∷ bytes "machines" ∷ bytes "clock" ∷ bytes "clocks" ∷ bytes "sync_to" ∷ bytes "offset_ns" ∷ bytes "id"
    ∷ bytes "name" ∷ bytes "path" ∷ bytes "version" ∷ bytes "trace_time" ∷ []

unfoldable pub name_at : ℕ → Text
name_at i = get_or names i []

-- r is the number of the name that the string at p is; 13 if it is none of them
pub record Named (s : Text) (p r : ℕ) : Type 0 where
  pub few : r ≤ 13
  pub each : (i : ℕ) → i < 13 → same_as s p (name_at i) ≡ eqb i r

-- a name is the letter c and n bytes more
abbrev pub shaped : ℕ → ℕ → Text → Bool
shaped c n [] = false
shaped c n (d ∷ ds) = eqb c d && eqb n (length ds)

-- the number of the name that is the letter c and n bytes more; 13 if there is none
unfoldable pub number_of : ℕ → ℕ → ℕ
number_of c n = first_or 13 (shaped c n) names 0

-- ---- one name at most has a letter and a length

data Found (f : Text → Bool) (ws : List Text) (k r : ℕ) : Type 0 where
  nowhere : r ≡ 13 → ((i : ℕ) → i < length ws → f (get_or ws i []) ≡ false) → Found f ws k r
  there : (m : ℕ) → m < length ws → r ≡ k + m → f (get_or ws m []) ≡ true → Found f ws k r

found : (f : Text → Bool) (ws : List Text) (k : ℕ) → Found f ws k (first_or 13 f ws k)
unfolding first_or pick
found f [] k = nowhere refl (λ i h. absurd (not-suc-le-zero h))
found f (w ∷ ws) k = go (f w) refl (found f ws (suc k))
  where
    misses : f w ≡ false → ((i : ℕ) → i < length ws → f (get_or ws i []) ≡ false) → (i : ℕ) → i < suc (length ws) → f (get_or (w ∷ ws) i []) ≡ false
    misses e h zero l = e
    misses e h (suc i) l = h i (le_of_suc-le-suc l)

    go : (b : Bool) → f w ≡ b → Found f ws (suc k) (first_or 13 f ws (suc k)) → Found f (w ∷ ws) k (pick b k (first_or 13 f ws (suc k)))
    go true e h = there 0 (omega arith) (omega arith) e
    go false e (nowhere q h) = nowhere q (misses e h)
    go false e (there m l q t) = there (suc m) (omega arith) (omega arith) t

abbrev alike : Text → Text → Bool
alike [] v = false
alike (c ∷ cs) [] = false
alike (c ∷ cs) (d ∷ ds) = eqb c d && eqb (length cs) (length ds)

both_shaped : (c n : ℕ) (u v : Text) → shaped c n u ≡ true → shaped c n v ≡ true → alike u v ≡ true
both_shaped c n [] v e f = absurd (true≢false (sym e))
both_shaped c n (a ∷ u) [] e f = absurd (true≢false (sym f))
both_shaped c n (a ∷ u) (b ∷ v) e f =
    let x = two (eqb c a) (eqb n (length u)) e in
    let y = two (eqb c b) (eqb n (length v)) f in
    λ i. eq-eqb a b (sym (eqb-true c a x.0) ∙ eqb-true c b y.0) i && eq-eqb (length u) (length v) (sym (eqb-true n _ x.1) ∙ eqb-true n _ y.1) i

shapes_once : some (λ i. some (λ j. not (eqb i j) && alike (name_at i) (name_at j)) 13) 13 ≡ false
unfolding some name_at
shapes_once = refl

shapes_differ : (i j : ℕ) → i < 13 → j < 13 → (i ≡ j → ⊥) → alike (name_at i) (name_at j) ≡ false
shapes_differ i j hi hj ne =
    sym (λ x. not (ne_eqb i j ne x) && alike (name_at i) (name_at j))
    ∙ some_not (λ k. not (eqb i k) && alike (name_at i) (name_at k)) 13 j (some_not (λ n. some (λ k. not (eqb n k) && alike (name_at n) (name_at k)) 13) 13 i shapes_once hi) hj

module _ (c n : ℕ) where
  number_few : number_of c n ≤ 13
  unfolding number_of
  number_few = go (found (shaped c n) names 0)
    where
      go : {r : ℕ} → Found (shaped c n) names 0 r → r ≤ 13
      go (nowhere q h) = omega arith
      go (there m l q t) = omega arith

  shaped_one : (i : ℕ) → i < 13 → shaped c n (name_at i) ≡ eqb i (number_of c n)
  unfolding number_of name_at
  shaped_one i l = go (found (shaped c n) names 0)
    where
      other : (b : Bool) → shaped c n (name_at i) ≡ b → (m : ℕ) → m < 13 → shaped c n (name_at m) ≡ true → (i ≡ m → ⊥) → shaped c n (name_at i) ≡ false
      other true e m g t ne = absurd (true≢false (sym (both_shaped c n (name_at i) (name_at m) e t) ∙ shapes_differ i m l g ne))
      other false e m g t ne = e

      here : {r : ℕ} (m : ℕ) → Dec (i ≡ m) → m < 13 → r ≡ 0 + m → shaped c n (name_at m) ≡ true → shaped c n (name_at i) ≡ eqb i r
      here {r} m (yes e) g q t = ap (λ (k : ℕ). shaped c n (name_at k)) e ∙ t ∙ sym (eq-eqb i r (omega arith))
      here {r} m (no e) g q t = other (shaped c n (name_at i)) refl m g t e ∙ sym (ne_eqb i r (λ (z : i ≡ r). e (omega arith)))

      go : {r : ℕ} → Found (shaped c n) names 0 r → shaped c n (name_at i) ≡ eqb i r
      go {r} (nowhere q h) = h i l ∙ sym (ne_eqb i r (λ (z : i ≡ r). omega arith))
      go (there m g q t) = here m (ℕ_discrete i m) g q t

-- ---- the name that a string is

-- a name begins with another letter than c, or is c and a beginning of t
abbrev covered : ℕ → Text → Text → Bool
covered c t [] = false
covered c t (d ∷ ds) = ltb d 128 && (not (eqb c d) || (leb (length ds) (length t) && same ds (take (length ds) t)))

abbrev all : (Text → Bool) → List Text → Bool
all f [] = true
all f (w ∷ ws) = f w && all f ws

each_of : (f : Text → Bool) (ws : List Text) → all f ws ≡ true → (i : ℕ) → i < length ws → f (get_or ws i []) ≡ true
each_of f [] e i h = absurd (not-suc-le-zero h)
each_of f (w ∷ ws) e zero h = (two (f w) (all f ws) e).0
each_of f (w ∷ ws) e (suc i) h = each_of f ws (two (f w) (all f ws) e).1 i (le_of_suc-le-suc h)

abbrev pub covers : ℕ → Text → Bool
covers c t = all (covered c t) names

module _ (s : Text) (p : ℕ) {c k : ℕ} (h : Heads s p c k) (t : Text) where
  -- where the string begins with c, its length tells which of these names it is
  told : (w : Text) → covered c t w ≡ true → same_as s p w ≡ shaped c (ends_in (rest s k) t) w
  unfolding pick
  told [] e = absurd (true≢false (sym e))
  told (d ∷ ds) e =
      let x = two (ltb d 128) _ e in
      h.begins d ds (ltb-true d 128 x.0) ∙ go (eqb c d) x.1
    where
      go : (b : Bool) → (not b || (leb (length ds) (length t) && same ds (take (length ds) t))) ≡ true → pick b (is_text (rest s k) ds) false ≡ (b && eqb (ends_in (rest s k) t) (length ds))
      go true f =
          let y = two (leb (length ds) (length t)) _ f in
          ap (is_text (rest s k)) (same_is_equal ds (take (length ds) t) y.1) ∙ ends_is (rest s k) t (length ds) (leb-true _ _ y.0)
      go false f = refl

  named_at : covers c t ≡ true → Named s p (number_of c (ends_in (rest s k) t))
  unfolding name_at
  named_at e = record { few = number_few _ _; each = λ i l. told (name_at i) (each_of (covered c t) names e i l) ∙ shaped_one _ _ i l }

-- by the letter, and by how many bytes of t are left
pub named_by : (s : Text) (p : ℕ) {l c k : ℕ} → Heads s p l k → l ≡ c → (t : Text) → covers c t ≡ true → {r n : ℕ} → r ≡ number_of c n → n ≡ ends_in (rest s k) t → Named s p r
named_by s p {l} {c} {k} h e t f q g =
    let heads : Heads s p c k = rw e at h in
    rw (q ∙ ap (number_of c) g) (named_at s p heads t f)
