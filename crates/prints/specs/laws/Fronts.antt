-- The first bytes of a text in memory: how bytes are put behind those that are there, and what stands there of a whole text. Assumes nothing.
use Rattle.std.specs.Prelude.{◌≡◌, refl, ℕ, suc, ◌+◌, ◌-◌, ◌/◌, ◌%◌, ◌≤◌, ◌<◌, drop, set, replicate}
use Rattle.std.proofs.Math.Path.{sym, ap}
use Rattle.std.proofs.Common.{subst, ◌∙◌, length-append, length-take, lt-ltb, le-ltb}
use mathlib.Core.List.{List, [], ◌∷◌, ◌++◌, append_assoc, append-nil}
use native.Mathlib.Omega.{arith}
use Rattle.std.proofs.Math.Decide.{dec_lt}
use Rattle.std.proofs.Math.ListN.{length, get_or, take, length-drop}
use Rattle.std.proofs.lemmas.List.{length-replicate, take-append-le, set_at}
use Rattle.std.proofs.Math.Seq.{drop-cons, take_all, take_at, length-take-le}
use Rattle.text.specs.Reading.{Text, part}
use Rattle.text.specs.Strings.{utf8}
use Rattle.text.specs.laws.Raw.{part_join}
use Rattle.text.specs.laws.Readers.{pick_true, pick_false}
use Rattle.prints.specs.Prints.{print_from, told_of, print_of, front}

-- r of k bytes have room in a text of 256 behind n: all of them, or as many as fill it
pub record Room (n k r : ℕ) : Type 0 where
  pub few : r ≤ k
  pub fits : r ≤ 256 - n
  pub full : r < k → 256 ≤ n + r

-- memory that held the front of some n bytes holds that of these and the bytes t behind them, r in all
pub record Puts (memory : List ℕ) (n : ℕ) (t : Text) (after : List ℕ) (r : ℕ) : Type 0 where
  pub count : r ≡ n + length t
  pub bytes : (d : Text) → length d ≡ n → memory ≡ front d → after ≡ front (d ++ t)

-- ---- fronts

pub front_length : (t : Text) → length (front t) ≡ 256
unfolding front
front_length t = simp (length-append, length-take, length-replicate) (omega arith)

-- a text of at most 256 bytes is there whole
pub front_whole : (t : Text) {n : ℕ} → n ≡ length t → n ≤ 256 → take n (front t) ≡ t
unfolding front
front_whole t {n} e h =
    let z : List ℕ = replicate (256 - length t) 0 in
    ap (λ (l : List ℕ). take n (l ++ z)) (take_all 256 t (omega arith)) ∙ take_at t z n (sym e)

-- of no text
pub front_none : replicate 256 0 ≡ front []
unfolding front
front_none = refl

-- of one that has filled it, whatever follows
front_full : (d t : Text) → 256 ≤ length d → front d ≡ front (d ++ t)
unfolding front
front_full d t h =
    let x : 256 - length d ≡ 0 = omega arith in
    let y : 256 - length (d ++ t) ≡ 0 = omega (arith, length-append d t) in
    rw (x, y, take-append-le 256 d t h)

-- with a byte more
front_more : (d : Text) (b : ℕ) → length d < 256 → set (front d) (length d) b ≡ front (d ++ (b ∷ []))
unfolding front
front_more d b h =
    let x : 256 - length d ≡ suc (256 - (length d + 1)) = omega arith in
    let m : length (d ++ (b ∷ [])) ≡ length d + 1 = length-append d (b ∷ []) in
    let y : 256 - length (d ++ (b ∷ [])) ≡ 256 - (length d + 1) = ap (λ (k : ℕ). 256 - k) m in
    let e : take 256 d ≡ d = take_all 256 d (omega arith) in
    let f : take 256 (d ++ (b ∷ [])) ≡ d ++ (b ∷ []) = take_all 256 (d ++ (b ∷ [])) (omega arith) in
    rw (x, y, e, f) (set_at d 0 (replicate (256 - (length d + 1)) 0) b (length d) refl ∙ sym (append_assoc d (b ∷ []) (replicate (256 - (length d + 1)) 0)))

-- ---- bytes are put behind others

module _ (memory : List ℕ) (n : ℕ) where
  -- none; a byte where there is room; and any where there is none
  puts_none : Puts memory n [] memory n
  puts_none = record { count = omega arith; bytes = λ d l e. e ∙ ap front (sym (append-nil d)) }

  pub puts_byte : (b : ℕ) {after : List ℕ} → n < 256 → after ≡ set memory n b → Puts memory n (b ∷ []) after (n + 1)
  puts_byte b h q = record { count = refl; bytes = λ d l e. q ∙ ap (λ (m : List ℕ). set m n b) e ∙ ap (λ (k : ℕ). set (front d) k b) (sym l) ∙ front_more d b (omega arith) }

  pub puts_past : (t : Text) {after : List ℕ} {r : ℕ} → 256 ≤ n → after ≡ memory → r ≡ n + length t → Puts memory n t after r
  puts_past t h q f = record { count = f; bytes = λ d l e. q ∙ e ∙ front_full d t (omega arith) }

-- some, and then others behind them
pub puts_then : {memory after last : List ℕ} {n k r : ℕ} {t u : Text} → Puts memory n t after k → Puts after k u last r → Puts memory n (t ++ u) last r
puts_then {t = t} {u = u} a b =
    record {
      count = omega (arith, a.count, b.count, length-append t u);
      bytes = λ d l e. b.bytes (d ++ t) (length-append d t ∙ ap (λ (x : ℕ). x + length t) l ∙ sym a.count) (a.bytes d l e) ∙ ap front (append_assoc d t u);
    }

-- ---- the bytes of a code point

-- by its width
module _ (v : ℕ) where
  pub utf8_one : v < 128 → utf8 v ≡ v ∷ []
  unfolding utf8
  utf8_one h = pick_true _ _ (lt-ltb v 128 h)

  module _ (h : 128 ≤ v) where
    pub utf8_two : v < 2048 → utf8 v ≡ (192 + v / 64) ∷ (128 + v % 64) ∷ []
    unfolding utf8
    utf8_two l = pick_false _ _ (le-ltb v 128 h) ∙ pick_true _ _ (lt-ltb v 2048 l)

    module _ (g : 2048 ≤ v) where
      pub utf8_three : v < 65536 → utf8 v ≡ (224 + v / 4096) ∷ (128 + v / 64 % 64) ∷ (128 + v % 64) ∷ []
      unfolding utf8
      utf8_three l = pick_false _ _ (le-ltb v 128 h) ∙ pick_false _ _ (le-ltb v 2048 g) ∙ pick_true _ _ (lt-ltb v 65536 l)

      pub utf8_four : 65536 ≤ v → utf8 v ≡ (240 + v / 262144) ∷ (128 + v / 4096 % 64) ∷ (128 + v / 64 % 64) ∷ (128 + v % 64) ∷ []
      unfolding utf8
      utf8_four l = pick_false _ _ (le-ltb v 128 h) ∙ pick_false _ _ (le-ltb v 2048 g) ∙ pick_false _ _ (le-ltb v 65536 l)

  -- they are four at most
  pub utf8_few : length (utf8 v) ≤ 4
  utf8_few = one (dec_lt v 128)
    where
      three : 128 ≤ v → 2048 ≤ v → Dec (v < 65536) → length (utf8 v) ≤ 4
      three h g (yes l) = omega (arith, ap length (utf8_three h g l))
      three h g (no l) = omega (arith, ap length (utf8_four h g (omega arith)))

      two : 128 ≤ v → Dec (v < 2048) → length (utf8 v) ≤ 4
      two h (yes l) = omega (arith, ap length (utf8_two h l))
      two h (no l) = three h (omega arith) (dec_lt v 65536)

      one : Dec (v < 128) → length (utf8 v) ≤ 4
      one (yes l) = omega (arith, ap length (utf8_one l))
      one (no l) = two (omega arith) (dec_lt v 2048)

-- the same bytes, told otherwise
pub puts_same : {memory after : List ℕ} {n r : ℕ} {t u : Text} → t ≡ u → Puts memory n t after r → Puts memory n u after r
puts_same {memory} {after} {n} {r} e a = subst (λ (w : Text). Puts memory n w after r) e a

-- ---- bytes in a row

module _ (s : Text) (from : ℕ) where
  part_nothing : part s from (from + 0) ≡ []
  unfolding part
  part_nothing = let n : from + 0 - from ≡ 0 = omega arith in rw n

  part_more : (i : ℕ) → from + i < length s → part s from (from + i) ++ (get_or s (from + i) 0 ∷ []) ≡ part s from (from + (i + 1))
  unfolding part
  part_more i h =
      let n : from + (i + 1) - (from + i) ≡ 1 = omega arith in
      let e : part s (from + i) (from + (i + 1)) ≡ get_or s (from + i) 0 ∷ [] = rw (n, drop-cons s (from + i) 0 h) in
      let a : from ≤ from + i = omega arith in
      let b : from + i ≤ from + (i + 1) = omega arith in
      ap (λ (u : Text). part s from (from + i) ++ u) (sym e) ∙ part_join s a b

  pub part_long : {end : ℕ} → end ≤ length s → length (part s from end) ≡ end - from
  unfolding part
  part_long {end} h = length-take-le (end - from) (drop from s) (omega (arith, length-drop from s))

-- none of them is put yet; one more is; all are that have room
module _ (s : Text) (from : ℕ) (memory : List ℕ) (n : ℕ) where
  pub row_none : Puts memory n (part s from (from + 0)) memory (n + 0)
  row_none = let z : n ≡ n + 0 = omega arith in subst (λ (r : ℕ). Puts memory n (part s from (from + 0)) memory r) z (puts_same (sym (part_nothing s from)) (puts_none memory n))

  module _ (i : ℕ) {after : List ℕ} (a : Puts memory n (part s from (from + i)) after (n + i)) where
    pub row_more : n + i < 256 → from + i < length s → Puts memory n (part s from (from + (i + 1))) (set after (n + i) (get_or s (from + i) 0)) (n + (i + 1))
    row_more h l =
        let z : n + i + 1 ≡ n + (i + 1) = omega arith in
        subst (λ (r : ℕ). Puts memory n (part s from (from + (i + 1))) (set after (n + i) (get_or s (from + i) 0)) r) z (puts_same (part_more s from i l) (puts_then a (puts_byte after (n + i) (get_or s (from + i) 0) h refl)))

    pub row_all : {end k r : ℕ} → Room n (end - from) k → i ≤ k → k ≤ i → from ≤ end → end ≤ length s → r ≡ n + (end - from) → Puts memory n (part s from end) after r
    row_all {end} {k} {r} m h g f l q = go (dec_lt k (end - from))
      where
        x : r ≡ n + i + length (part s (from + i) end)
        x = omega (arith, part_long s (from + i) l, m.few)

        go : Dec (k < end - from) → Puts memory n (part s from end) after r
        go (yes y) =
            let u : from ≤ from + i = omega arith in
            let v : from + i ≤ end = omega arith in
            puts_same (part_join s u v) (puts_then a (puts_past after (n + i) (part s (from + i) end) (omega (arith, m.full y)) refl x))
        go (no y) =
            let v : from + i ≡ end = omega (arith, m.few) in
            let w : n + i ≡ r = omega arith in
            subst (λ (j : ℕ). Puts memory n (part s from end) after j) w (puts_same (ap (part s from) v) a)

-- ---- the print of a front

part_start : (s : Text) (k : ℕ) → part s 0 k ≡ take k s
unfolding part
part_start s k = let n : k - 0 ≡ k = omega arith in ap (λ (m : ℕ). take m s) n

module _ (t : Text) {k : ℕ} (m : Room 0 (length t) k) where
  -- that many bytes it has
  front_long : length (take 256 t) ≡ k
  front_long = go (dec_lt k (length t))
    where
      go : Dec (k < length t) → length (take 256 t) ≡ k
      go (yes l) = omega (arith, length-take 256 t, m.fits, m.full l)
      go (no l) = omega (arith, length-take 256 t, m.few, m.fits)

  front_print : {w r : ℕ} → w ≡ print_from 0 (part (front t) 0 k) → r ≡ told_of w (length t) → r ≡ print_of t
  unfolding print_of front
  front_print e f = f ∙ ap (λ (x : ℕ). told_of x (length t)) (e ∙ ap (print_from 0) (part_start (front t) k ∙ take_at (take 256 t) (replicate (256 - length t) 0) k front_long))

  -- of the text itself as many
  pub print_text : {w r : ℕ} → w ≡ print_from 0 (part t 0 k) → r ≡ told_of w (length t) → r ≡ print_of t
  unfolding print_of
  print_text e f = f ∙ ap (λ (x : ℕ). told_of x (length t)) (e ∙ ap (print_from 0) (part_start t k ∙ go (dec_lt k (length t))))
    where
      go : Dec (k < length t) → take k t ≡ take 256 t
      go (yes l) = let z : k ≡ 256 = omega (arith, m.fits, m.full l) in ap (λ (n : ℕ). take n t) z
      go (no l) = take_all k t (omega arith) ∙ sym (take_all 256 t (omega (arith, m.fits, m.few)))

-- where n is its length, and its front is in memory
pub print_front : (t : Text) {n k w r : ℕ} {memory : List ℕ} → n ≡ length t → memory ≡ front t → Room 0 n k → w ≡ print_from 0 (part memory 0 k) → r ≡ told_of w n → r ≡ print_of t
print_front t {n} {k} {w} {r} {memory} l f m e g = front_print t (subst (λ (x : ℕ). Room 0 x k) l m) (e ∙ ap (λ (u : List ℕ). print_from 0 (part u 0 k)) f) (g ∙ ap (told_of w) l)
