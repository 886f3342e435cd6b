-- A character of several bytes is told by comparing them, and a run of plain bytes is some characters: each is passed as `past_raw` passes it. Assumes nothing.
use mathlib.Core.Path.{◌≡◌, refl, sym, ap, ◌∙◌}
use mathlib.Core.Bool.{Bool, true, false}
use Prim.Native.Nat.{ℕ, zero, suc, ◌+◌, ◌/◌, ◌≤◌, ◌<◌}
use native.Mathlib.Omega.{arith}
use native.Mathlib.Decide.{dec_lt}
use lib.ListN.{length, get_or}
use lib.Dec.{eqb}
use borrow.Author.Tests.{eq-eqb, ne_eqb, eqb-true, eqb-false, lt-ltb, le-ltb}
use Rattle.text.specs.Reading.{Text, bad, pick, peek}
use Rattle.text.specs.Class.{class_of}
use Rattle.text.specs.Strings.{tail, second, two, three, four, classed, character}
use Rattle.text.specs.Raw.{past_raw}
use Rattle.text.specs.Escapes.{bytes_in, several_at}
use Rattle.text.specs.laws.Peek.{peek_at, peek_end}
use Rattle.text.specs.laws.Plain.{own, past_own, own_step, own_stop, own_past}
use Rattle.text.specs.laws.Readers.{pick_true, pick_false}
use Rattle.text.specs.laws.Strings.{character_past, character_end}
use Rattle.text.specs.laws.Raw.{raw_step, raw_stop, raw_escape, Wide, wide_none, wide_some}
use Rattle.text.proofs.Quick.{plain_at, high_byte}
use Rattle.text.proofs.Leads.{leads_two, leads_three, leads_four, leads_below, leads_above}
use Rattle.text.proofs.Ends.{code_bad}

-- what `wide` asks for
pub several_at_lem : (s : Text) (i : ℕ) → i < length s → 128 ≤ get_or s i 0 → (i < length s) × (128 ≤ peek s i)
several_at_lem s i l h = (l, omega (arith, peek_at s i l))

-- what `several` tells: past the end, of a byte below 128, of another
pub several_past : (s : Text) (i : ℕ) → length s ≤ i → 0 ≡ several_at s i
unfolding several_at bytes_in
several_past s i h = let l : 128 ≤ peek s i = omega (arith, peek_end s i h) in sym (pick_false _ _ (le-ltb _ _ l) ∙ ap (bytes_in i) (character_end s i h))

pub several_few : (s : Text) (i : ℕ) → i < length s → get_or s i 0 < 128 → 0 ≡ several_at s i
unfolding several_at
several_few s i l h = let m : peek s i < 128 = omega (arith, peek_at s i l) in sym (pick_true _ _ (lt-ltb _ _ m))

pub several_wide : (s : Text) (i : ℕ) → i < length s → 128 ≤ get_or s i 0 → {r : ℕ} → Wide s i r → r ≡ several_at s i
unfolding several_at
several_wide s i l h w = let m : 128 ≤ peek s i = omega (arith, peek_at s i l) in w.read ∙ sym (pick_false _ _ (le-ltb _ _ m))

-- b is the byte at i
module _ (s : Text) (i : ℕ) (l : i < length s) {b : ℕ} (e : b ≡ peek s i) where
  found : b ≡ get_or s i 0
  found = e ∙ sym (peek_at s i l)

  is_two : 194 ≤ b → b < 224 → character s i ≡ two s i
  unfolding character classed pick
  is_two h g = ap (λ (k : ℕ). classed k s i) (sym (leads_two s i l found h g))

  is_three : 224 ≤ b → b < 240 → character s i ≡ three s i
  unfolding character classed pick
  is_three h g = ap (λ (k : ℕ). classed k s i) (sym (leads_three s i l found h g))

  is_four : 240 ≤ b → b < 245 → character s i ≡ four s i
  unfolding character classed pick
  is_four h g = ap (λ (k : ℕ). classed k s i) (sym (leads_four s i l found h g))

  none : {p : ℕ} → character s i ≡ bad p → Wide s i 0
  none f = wide_none s i (omega arith) f

  -- no such character begins with these
  pub several_below : 128 ≤ b → b < 194 → Wide s i 0
  several_below h g = none (code_bad (character s i) (character_past s i) (sym (leads_below s i l found (λ (z : b ≡ 92). omega arith) (high_byte b (omega arith)) refl g)))

  pub several_above : 244 < b → Wide s i 0
  several_above h = none (code_bad (character s i) (character_past s i) (sym (leads_above s i l found (λ (z : b ≡ 92). omega arith) (high_byte b (omega arith)) refl (omega arith))))

  -- c is the byte after it, and r tells whether it may be
  module _ {c : ℕ} (ec : c ≡ peek s (i + 1)) {r : Bool} (er : r ≡ second b c) where
    its_second : {x : Bool} → r ≡ x → second (peek s i) (peek s (i + 1)) ≡ x
    its_second f = ap (λ (y : ℕ). second y (peek s (i + 1))) (sym e) ∙ ap (second b) (sym ec) ∙ sym er ∙ f

    pub several_second : 194 ≤ b → b ≤ 244 → r ≡ false → Wide s i 0
    unfolding two three four
    several_second h g f = first (dec_lt b 224) (dec_lt b 240)
      where
        first : Dec (b < 224) → Dec (b < 240) → Wide s i 0
        first (yes m) q = none (is_two h m ∙ pick_false _ _ (its_second f))
        first (no m) (yes k) = none (is_three (omega arith) k ∙ pick_false _ _ (its_second f))
        first (no m) (no k) = none (is_four (omega arith) (omega arith) ∙ pick_false _ _ (its_second f))

    pub several_two : 194 ≤ b → b < 224 → r ≡ true → Wide s i 2
    unfolding two
    several_two h g f = wide_some s i (omega arith) (λ (z : peek s i ≡ 92). omega arith) (is_two h g ∙ pick_true _ _ (its_second f))

    -- d is the third
    module _ {d : ℕ} (ed : d ≡ peek s (i + 2)) where
      its_third : {x : Bool} → eqb (d / 64) 2 ≡ x → tail (peek s (i + 2)) ≡ x
      unfolding tail
      its_third f = ap (λ (y : ℕ). eqb (y / 64) 2) (sym ed) ∙ f

      pub several_third : 224 ≤ b → b ≤ 244 → r ≡ true → (d / 64 ≡ 2 → ⊥) → Wide s i 0
      unfolding three four
      several_third h g f n = first (dec_lt b 240)
        where
          first : Dec (b < 240) → Wide s i 0
          first (yes m) = none (is_three h m ∙ pick_true _ _ (its_second f) ∙ pick_false _ _ (its_third (ne_eqb _ _ n)))
          first (no m) = none (is_four (omega arith) (omega arith) ∙ pick_true _ _ (its_second f) ∙ pick_false _ _ (its_third (ne_eqb _ _ n)))

      pub several_three : 224 ≤ b → b < 240 → r ≡ true → d / 64 ≡ 2 → Wide s i 3
      unfolding three
      several_three h g f y =
          wide_some s i (omega arith) (λ (z : peek s i ≡ 92). omega arith) (is_three h g ∙ pick_true _ _ (its_second f) ∙ pick_true _ _ (its_third (eq-eqb _ _ y)))

      -- a is the fourth
      module _ {a : ℕ} (ea : a ≡ peek s (i + 3)) where
        its_fourth : {x : Bool} → eqb (a / 64) 2 ≡ x → tail (peek s (i + 3)) ≡ x
        unfolding tail
        its_fourth f = ap (λ (y : ℕ). eqb (y / 64) 2) (sym ea) ∙ f

        pub several_fourth : 240 ≤ b → b ≤ 244 → r ≡ true → d / 64 ≡ 2 → (a / 64 ≡ 2 → ⊥) → Wide s i 0
        unfolding four
        several_fourth h g f y n =
            none (is_four h (omega arith) ∙ pick_true _ _ (its_second f) ∙ pick_true _ _ (its_third (eq-eqb _ _ y)) ∙ pick_false _ _ (its_fourth (ne_eqb _ _ n)))

        pub several_four : 240 ≤ b → b ≤ 244 → r ≡ true → d / 64 ≡ 2 → a / 64 ≡ 2 → Wide s i 4
        unfolding four
        several_four h g f y w =
            wide_some s i (omega arith) (λ (z : peek s i ≡ 92). omega arith)
            (is_four h (omega arith) ∙ pick_true _ _ (its_second f) ∙ pick_true _ _ (its_third (eq-eqb _ _ y)) ∙ pick_true _ _ (its_fourth (eq-eqb _ _ w)))

-- a backslash is not plain
own_backslash : own 92 ≡ false
unfolding class_of pick
own_backslash = refl

-- plain bytes are such characters, n at most
own_turns : (n : ℕ) (s : Text) (i : ℕ) → length s ≤ n + i → past_raw s i ≡ past_raw s (past_own s i)
own_turns zero s i h = ap (past_raw s) (sym (own_past s i (omega arith)))
own_turns (suc n) s i h = go (dec_lt i (length s)) (own_turns n s (i + 1) (omega arith))
  where
    unescaped : (l : i < length s) → true ≡ own (get_or s i 0) → peek s i ≡ 92 → ⊥
    unescaped l e q = let z : true ≡ false = e ∙ ap own (peek_at s i l ∙ q) ∙ own_backslash in absurd (let y : ◌≡◌ {A = ℕ} 0 1 = cc in omega arith)

    here : past_raw s (i + 1) ≡ past_raw s (past_own s (i + 1)) → (l : i < length s) (r : Bool) → r ≡ own (get_or s i 0) → past_raw s i ≡ past_raw s (past_own s i)
    here f l true e = raw_step s i (unescaped l e) (plain_at s i l e refl) ∙ f ∙ ap (past_raw s) (sym (own_step s i l e refl))
    here f l false e = ap (past_raw s) (sym (own_stop s i l e refl))

    go : Dec (i < length s) → past_raw s (i + 1) ≡ past_raw s (past_own s (i + 1)) → past_raw s i ≡ past_raw s (past_own s i)
    go (yes l) f = here f l _ refl
    go (no g) f = ap (past_raw s) (sym (own_past s i (omega arith)))

pub raw_own : (s : Text) (i : ℕ) {k : ℕ} → k ≡ past_own s i → past_raw s i ≡ past_raw s k
raw_own s i e = own_turns (length s) s i (omega arith) ∙ ap (past_raw s) (sym e)

module _ (s : Text) (i : ℕ) (l : i < length s) {r : Bool} (e : r ≡ own (get_or s i 0)) where
  -- a byte below 128 that is not plain is not passed
  pub raw_odd : r ≡ false → get_or s i 0 < 128 → past_raw s i ≡ i
  raw_odd h m = go (eqb (get_or s i 0) 92) refl
    where
      go : (b : Bool) → eqb (get_or s i 0) 92 ≡ b → past_raw s i ≡ i
      go true f = raw_escape s i (sym (peek_at s i l) ∙ eqb-true _ _ f)
      go false f = raw_stop s i (code_bad (character s i) (character_past s i) (sym (leads_below s i l refl (eqb-false _ _ f) e h (omega arith))))
