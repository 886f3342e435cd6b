-- Where the characters from a position on end, one character at a time. Assumes nothing.
use mathlib.Core.Path.{◌≡◌, refl, sym, ap, ◌∙◌}
use mathlib.Core.Bool.{Bool, true, false}
use Prim.Native.Nat.{ℕ, zero, suc, ◌+◌, ◌≤◌, ◌<◌}
use native.Mathlib.Omega.{arith}
use native.Mathlib.Decide.{dec_lt}
use lib.ListN.{length, get_or}
use Rattle.text.specs.Reading.{Text, Out, done, bad, deep, next, peek, scan}
use Rattle.text.specs.Strings.{character, code_of, before, onward, characters, string}
use Rattle.text.specs.declared.Scan.{Scan}
use Rattle.text.specs.declared.Scan.TheVariants.{Done, Bad}
use Rattle.text.specs.declared.Code.{Code}
use Rattle.text.specs.declared.Code.TheVariants.{Of, No}
use Rattle.text.specs.laws.Readers.{at_done_le, Past, past_strict, past_deep}
use Rattle.text.specs.laws.Strings.{character_past, character_bounded, characters_close, characters_more, characters_bad, characters_over, characters_turns, string_none, string_some}
use Rattle.text.specs.laws.Plain.{own, past_own, own_step, own_stop, own_past}
use Rattle.text.proofs.Quick.{plain_at}

-- where the characters from i on end
unfoldable pub ends : Text → ℕ → Scan
ends s i = scan (characters (suc (length s)) s i)

before_scan : (o : Out Text) (v : ℕ) → scan (next o (before v)) ≡ scan o
unfolding next scan before
before_scan (done a j) v = refl
before_scan (bad j) v = refl
before_scan (deep j) v = refl

code_done : (o : Out ℕ) {v j : ℕ} → code_of o ≡ Of v j → o ≡ done v j
unfolding code_of
code_done (done w k) {v} {j} e =
    let a : w ≡ v = cc in
    let b : k ≡ j = cc in
    rw (a, b)
code_done (bad k) e = cc
code_done (deep k) e = cc

pub code_bad : (o : Out ℕ) {p i : ℕ} → Past i o → code_of o ≡ No p → o ≡ bad p
unfolding code_of
code_bad (done w k) g e = cc
code_bad (bad k) {p} g e = let a : k ≡ p = cc in rw a
code_bad (deep k) g e = absurd (past_deep g refl)

pub ends_more : (s : Text) (i : ℕ) {v j : ℕ} → character s i ≡ done v j → ends s i ≡ ends s j
unfolding onward ends
ends_more s i {v} {j} e =
    let l : i < j = past_strict (character_past s i) e in
    ap scan (characters_more (length s) s i e) ∙ before_scan _ v ∙ ap scan (characters_turns s (length s) (suc (length s)) j (omega arith) (omega arith))

module _ (s : Text) (i : ℕ) where
  -- a character that was told
  pub was_read : {r : Code} {v j : ℕ} → r ≡ code_of (character s i) → r ≡ Of v j → character s i ≡ done v j
  was_read e f = code_done _ (sym e ∙ f)

  module _ {b : ℕ} (e : b ≡ peek s i) where
    -- the closing quote
    pub closes : b ≡ 34 → ends s i ≡ Done (i + 1)
    unfolding scan ends
    closes h = ap scan (characters_close (length s) s i (sym e ∙ h))

    -- no character; so it is past the end too
    pub stops : (b ≡ 34 → ⊥) → {r : Code} {p : ℕ} → r ≡ code_of (character s i) → r ≡ No p → ends s i ≡ Bad p
    unfolding scan ends
    stops h f g = ap scan (characters_bad (length s) s i (λ q. h (e ∙ q)) (code_bad _ (character_past s i) (sym f ∙ g)))

  -- the opening quote
  pub opens : {b : ℕ} → b ≡ peek s i → b ≡ 34 → scan (string s i) ≡ ends s (i + 1)
  unfolding ends
  opens e h = ap scan (string_some s i (sym e ∙ h))

  pub no_string : {b : ℕ} → b ≡ peek s i → (b ≡ 34 → ⊥) → Bad i ≡ scan (string s i)
  unfolding scan
  no_string e h = ap scan (sym (string_none s i (λ q. h (e ∙ q))))

-- bytes that are characters by themselves, n at most
own_turns : (n : ℕ) (s : Text) (i : ℕ) → length s ≤ n + i → ends s i ≡ ends s (past_own s i)
own_turns zero s i h = ap (ends s) (sym (own_past s i (omega arith)))
own_turns (suc n) s i h = go (dec_lt i (length s)) (own_turns n s (i + 1) (omega arith))
  where
    here : ends s (i + 1) ≡ ends s (past_own s (i + 1)) → (l : i < length s) (r : Bool) → r ≡ own (get_or s i 0) → ends s i ≡ ends s (past_own s i)
    here f l true e = ends_more s i (plain_at s i l e refl) ∙ f ∙ ap (ends s) (sym (own_step s i l e refl))
    here f l false e = ap (ends s) (sym (own_stop s i l e refl))

    go : Dec (i < length s) → ends s (i + 1) ≡ ends s (past_own s (i + 1)) → ends s i ≡ ends s (past_own s i)
    go (yes l) f = here f l _ refl
    go (no g) f = ap (ends s) (sym (own_past s i (omega arith)))

-- the run of them
pub goes_own : (s : Text) (i : ℕ) {k : ℕ} → k ≡ past_own s i → ends s i ≡ ends s k
goes_own s i e = own_turns (length s) s i (omega arith) ∙ ap (ends s) (sym e)

-- a character goes forward and stays within the text
pub ahead : (s : Text) (i : ℕ) {v j : ℕ} → i ≤ length s → character s i ≡ done v j → (i < j) × (j ≤ length s)
ahead s i h e = (past_strict (character_past s i) e, at_done_le (character_bounded s i h) e)

-- no quote stands past the end
pub unclosed : (s : Text) (i : ℕ) → length s ≤ i → ends s i ≡ Bad i
unfolding scan ends
unclosed s i h = ap scan (characters_over (suc (length s)) s i h)
