-- The characters of a string that stand for their own bytes: what is left of it is these bytes, and then what is left past them. Where the same bytes stand at two positions,
-- the same is so at both. Assumes nothing.
use Rattle.std.specs.Prelude.{◌≡◌, refl, Bool, true, [], ◌∷◌, ℕ, suc, ◌+◌, ◌-◌, ◌≤◌, ◌<◌, get_or, take, drop}
use Rattle.std.proofs.Common.{sym, ◌∙◌, add-zero, not-suc-le-zero, length-drop, get_or-drop, eq-eqb}
use Rattle.std.proofs.Math.Path.{ap}
use native.Mathlib.Omega.{arith}
use Rattle.std.proofs.Math.Decide.{ℕ_discrete}
use Rattle.std.proofs.Math.ListN.{length}
use Rattle.std.proofs.Math.Seq.{length-take-le, get_or-take}
use Rattle.text.specs.Reading.{Text, next, peek, part}
use Rattle.text.specs.Raw.{past_raw}
use Rattle.text.specs.laws.Peek.{peek_at}
use Rattle.text.specs.laws.Runs.{part_same}
use Rattle.text.specs.laws.Utf8.{part_none}
use Rattle.text.specs.laws.Raw.{prefixed, next_none, raw_ge, raw_le, raw_same}
use Rattle.values.specs.Strings.{rest, both_text}
use Rattle.values.specs.laws.Compared.{starts_from}

-- ---- of one text

pub part_length : (s : Text) (i j : ℕ) → j - i ≤ length s - i → length (part s i j) ≡ j - i
unfolding part
part_length s i j h = length-take-le (j - i) (drop i s) (omega (arith, length-drop i s))

module _ (s : Text) (i : ℕ) {k : ℕ} (e : k ≡ past_raw s i) where
  pub raw_from : i ≤ k
  raw_from = omega (arith, raw_ge s i)

-- ---- of two texts, or of one at two positions

-- the r bytes at two positions are the same, and stand within the texts
pub record Equal (s : Text) (i : ℕ) (t : Text) (k r : ℕ) : Type 0 where
  pub left : i + r ≤ length s
  pub right : k + r ≤ length t
  pub each : (j : ℕ) → j < r → get_or s (i + j) 0 ≡ get_or t (k + j) 0

module _ (s : Text) (i : ℕ) (t : Text) (k : ℕ) where
  pub equal_none : i ≤ length s → k ≤ length t → Equal s i t k 0
  equal_none g h = record { left = omega arith; right = omega arith; each = λ j l. absurd (not-suc-le-zero l) }

  pub equal_more : {r : ℕ} → Equal s i t k r → i + r < length s → k + r < length t → get_or s (i + r) 0 ≡ get_or t (k + r) 0 → Equal s i t k (r + 1)
  equal_more {r} a g h e = record { left = omega arith; right = omega arith; each = λ j l. go j (ℕ_discrete j r) l }
    where
      go : (j : ℕ) → Dec (j ≡ r) → j < r + 1 → get_or s (i + j) 0 ≡ get_or t (k + j) 0
      go j (yes q) l = ap (λ (n : ℕ). get_or s (i + n) 0) q ∙ e ∙ ap (λ (n : ℕ). get_or t (k + n) 0) (sym q)
      go j (no n) l = a.each j (omega arith)

  peeks : {r : ℕ} → Equal s i t k r → (j : ℕ) → j < r → peek s (i + j) ≡ peek t (k + j)
  peeks {r} a j l = sym (peek_at s (i + j) (omega (arith, a.left))) ∙ a.each j l ∙ peek_at t (k + j) (omega (arith, a.right))

-- these bytes are characters that stand for them, at both positions; and they stand in the second text
pub record Raws (s : Text) (i : ℕ) (t : Text) (k r : ℕ) : Type 0 where
  pub left : r ≤ length s - i
  pub right : r ≤ length t - k
  pub reads : rest s i ≡ next (rest s (i + r)) (prefixed (part s i (i + r)))
  pub reads_too : rest t k ≡ next (rest t (k + r)) (prefixed (part s i (i + r)))
  pub stands : starts_from true (part s i (i + r)) t k ≡ true

-- r bytes can be passed at two positions: what is left past them is one text where what was left is
pub record Passed (s : Text) (i k r : ℕ) : Type 0 where
  pub left : r ≤ length s - i
  pub right : r ≤ length s - k
  pub on : both_text (rest s (i + r)) (rest s (k + r)) ≡ both_text (rest s i) (rest s k)

-- ---- none

part_empty : (s : Text) (i : ℕ) → part s i (i + 0) ≡ []
part_empty s i = part_none s i (i + 0) (sym (add-zero i))

none_read : (t : Text) (k : ℕ) {u : Text} → u ≡ [] → rest t k ≡ next (rest t (k + 0)) (prefixed u)
none_read t k {u} e = sym (next_none (rest t k)) ∙ ap (λ (x : Text). next (rest t k) (prefixed x)) (sym e) ∙ ap (λ (n : ℕ). next (rest t n) (prefixed u)) (sym (add-zero k))

pub raws_none : (s : Text) (i : ℕ) (t : Text) (k : ℕ) → Raws s i t k 0
unfolding starts_from
raws_none s i t k =
    record {
      left = omega arith;
      right = omega arith;
      reads = none_read s i (part_empty s i);
      reads_too = none_read t k (part_empty s i);
      stands = ap (λ (u : Text). starts_from true u t k) (part_empty s i);
    }

-- ---- some

-- bytes that are those of t from k on stand there
all_stand : (u t : Text) (k : ℕ) → ((j : ℕ) → j < length u → peek u j ≡ peek t (k + j)) → starts_from true u t k ≡ true
unfolding starts_from peek
all_stand [] t k f = refl
all_stand (x ∷ u) t k f =
    let q : x ≡ get_or t k 256 = f 0 (omega arith) ∙ ap (λ (n : ℕ). get_or t n 256) (add-zero k) in
    ap (λ (b : Bool). starts_from b u t (k + 1)) (eq-eqb _ _ q) ∙ all_stand u t (k + 1) (λ j l. f (suc j) (omega arith) ∙ ap (λ (n : ℕ). get_or t n 256) (shifted j))
  where
    shifted : (j : ℕ) → k + suc j ≡ k + 1 + j
    shifted j = omega arith

pub part_peek : (s : Text) (i j m : ℕ) → m < j - i → peek (part s i j) m ≡ peek s (i + m)
unfolding part peek
part_peek s i j m l = get_or-take (j - i) (drop i s) m 256 l ∙ get_or-drop i s m 256

-- the first so many bytes of s, in which the characters are told
module _ (s : Text) (i : ℕ) (t : Text) (k m : ℕ) (a : Equal s i t k m) where
  front : Text
  front = take (i + m) s

  front_length : length front ≡ i + m
  unfolding front
  front_length = length-take-le (i + m) s a.left

  front_peek : (j : ℕ) → j < i + m → peek front j ≡ peek s j
  unfolding front peek
  front_peek j l = get_or-take (i + m) s j 256 l

  front_part : (j : ℕ) → j ≤ i + m → part front i j ≡ part s i j
  front_part j l = part_same front s i j (record { same = λ n h. front_peek n (omega arith) }) (omega (arith, front_length)) (omega (arith, a.left))

  pub raws_some : {e r : ℕ} → e ≡ past_raw (take (i + m) s) i → r ≡ e - i → Raws s i t k r
  unfolding front rest
  raws_some {e} {r} f g =
      let lo : i ≤ e = omega (arith, raw_ge front i) in
      let hi : e ≤ i + m = omega (arith, front_length, raw_le front i (omega (arith, front_length))) in
      let q : i + r ≡ e = omega arith in
      let ll : i + m ≤ length s = a.left in
      let lr : k + m ≤ length t = a.right in
      let p : part front i e ≡ part s i (i + r) = front_part e hi ∙ ap (part s i) (sym q) in
      let x : i + (e - i) ≡ i + r = omega arith in
      let y : k + (e - i) ≡ k + r = omega arith in
      record {
        left = omega arith;
        right = omega arith;
        reads = raw_same front s i i f (λ j l. front_peek (i + j) (omega arith)) ∙ ap (λ (n : ℕ). next (rest s n) (prefixed (part front i e))) x ∙ ap (λ (u : Text). next (rest s (i + r)) (prefixed u)) p;
        reads_too = raw_same front t i k f (λ j l. front_peek (i + j) (omega arith) ∙ peeks s i t k a j (omega arith)) ∙ ap (λ (n : ℕ). next (rest t n) (prefixed (part front i e))) y ∙ ap (λ (u : Text). next (rest t (k + r)) (prefixed u)) p;
        stands = all_stand (part s i (i + r)) t k (λ j l. let z : length (part s i (i + r)) ≡ i + r - i = part_length s i (i + r) (omega arith) in part_peek s i (i + r) j (omega arith) ∙ peeks s i t k a j (omega arith));
      }
