-- 11 at an index: the names of clocks in `trace_time` and in each entry. Assumes nothing.
use mathlib.Core.Path.{◌≡◌, refl, sym, ap, ◌∙◌}
use mathlib.Core.Bool.{Bool, true, false, ◌||◌}
use mathlib.Core.List.{List}
use Prim.Native.Nat.{ℕ}
use lib.Dec.{eqb}
use lib.ListN.{get_or}
use Rattle.text.specs.Reading.{Text, Out, done, bad, deep}
use Rattle.text.specs.Strings.{string}
use Rattle.manifest.specs.View.{one}
use Rattle.manifest.specs.Rows.{TraceTime, trace_clock, holds}
use Rattle.manifest.specs.Rules.{domain, no_clock, refusal_11_unknown_clock_name}
use Rattle.outline.specs.Outline.{domain_at, text_in as outlineIn, text_at as outlineAt}
use Rattle.index.specs.Index.{text_in, text_at, text_cell, at, col_of, entry_at, trace_at, manifest_of}
use Rattle.sizes.proofs.Judged.{hit, miss}
use Rattle.sizes.proofs.Nested.{inside, inside_is, in_clocks, in_sync, some_text, moved, holds_inside, clocks_are}

-- the text at a position is the same for both
same_text : (s : Text) (p : ℕ) → outlineAt s p ≡ text_at s p
unfolding outlineAt text_at outlineIn text_in
same_text s p = go (string s p)
  where
    go : (o : Out Text) → outlineIn o ≡ text_in o
    go (done t j) = refl
    go (bad q) = refl
    go (deep q) = refl

pub clock_decides : (s : Text) {p d : ℕ} → (p ≡ 0 → ⊥) → d ≡ domain_at s p → eqb d 0 ≡ holds no_clock (text_cell s p)
unfolding domain_at
clock_decides s {p} z e = ap (λ (n : ℕ). eqb n 0) (e ∙ ap domain (same_text s p)) ∙ some_text no_clock s z

-- in `trace_time`
pub trace_clock_decides : (s : Text) (ix : List ℕ) {p : ℕ} {a : Bool} → p ≡ inside (get_or ix 1 0) (get_or ix 2 0) → a ≡ holds no_clock (text_cell s p) → a ≡ refusal_11_unknown_clock_name.outside (manifest_of s ix)
unfolding refusal_11_unknown_clock_name manifest_of at trace_at
trace_clock_decides s ix ep ea = moved no_clock s ep ea ∙ sym (holds_inside no_clock s {A = TraceTime} trace_clock (trace_at s ix) (get_or ix 2 0) refl (eqb (get_or ix 1 0) 0))

-- in an entry
module _ (s : Text) (ix : List ℕ) (i : ℕ) where
  abbrev within : Bool
  within = refusal_11_unknown_clock_name.within (manifest_of s ix) i (one (entry_at s ix i))

  within_are : within ≡ (holds no_clock (text_cell s (in_clocks ix i 5)) || holds no_clock (text_cell s (in_sync ix i 10)))
  unfolding refusal_11_unknown_clock_name holds
  within_are = clocks_are no_clock s ix i

  -- the code's positions: `clocks` and the clock in it (number w)
  module _ {c w o : ℕ} {a : Bool} (ec : c ≡ col_of ix i 4) (ew : w ≡ col_of ix i 5) (eo : o ≡ inside c w) (ea : a ≡ holds no_clock (text_cell s o)) where
    own_is : a ≡ holds no_clock (text_cell s (in_clocks ix i 5))
    own_is = moved no_clock s (inside_is ec ew eo) ea

    pub own_clock_unknown : a ≡ true → true ≡ within
    own_clock_unknown h = hit _ _ within_are own_is h

    -- `sync_to` (number v) and the clock in it (number x)
    pub sync_clock_decides : a ≡ false → {v y x p : ℕ} {b : Bool} → v ≡ col_of ix i 7 → y ≡ inside c v → x ≡ col_of ix i 10 → p ≡ inside y x → b ≡ holds no_clock (text_cell s p) → b ≡ within
    sync_clock_decides h ev ey ex ep eb = moved no_clock s (inside_is (inside_is ec ev ey) ex ep) eb ∙ sym (miss _ _ within_are own_is h)
