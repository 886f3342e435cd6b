-- The lines by the parts that the functions put, case by case. Assumes nothing.
use Rattle.std.specs.Prelude.{Option, None, Some}
use mathlib.Core.Path.{◌≡◌, sym, ap}
use mathlib.Core.List.{List, ◌++◌, append_assoc}
use Prim.Native.Nat.{ℕ, ◌-◌, ◌≤◌, ◌<◌}
use lib.IntN.{ℤ}
use borrow.Author.Tests.{lt-ltb, le-ltb}
use Rattle.text.specs.laws.Readers.{pick_true, pick_false}
use Rattle.manifest.specs.Names.{bytes}
use Rattle.numbers.specs.declared.Clock.{Clock}
use Rattle.merged.specs.declared.Summary.{Summary}
use Rattle.merged.specs.Answers.{Answer, Refused, Merged}
use Rattle.written.specs.Written.{decimal, signed, line_feed, trace_text, first_line, event_line}

pub no_trace : {t : Option Clock} → t ≡ None → bytes "-" ≡ trace_text t
unfolding trace_text
no_trace e = sym (ap trace_text e)

pub on_clock : {t : Option Clock} {c : Clock} → t ≡ Some c → decimal c.0 ≡ trace_text t
unfolding trace_text
on_clock e = sym (ap trace_text e)

pub refused_line : {a : Answer} {n : ℕ} → a ≡ Refused n → bytes "refused " ++ (decimal n ++ line_feed) ≡ first_line a
unfolding first_line
refused_line e = sym (ap first_line e)

-- the line feed after the summary, not after its last part
pub merged_line : {a : Answer} {s : Summary} → a ≡ Merged s
    → (bytes "ok files " ++ (decimal s.files ++ (bytes " machines " ++ (decimal s.machines ++ (bytes " trace " ++ trace_text s.trace))))) ++ line_feed ≡ first_line a
unfolding first_line
merged_line e = simp append_assoc (sym (ap first_line e))

abbrev pub placed : ℤ → ℕ → ℕ → List ℕ
placed time kind steps = bytes " at " ++ (signed time ++ (bytes " graph " ++ (decimal kind ++ (bytes " steps " ++ decimal steps))))

module _ (k : ℕ) (time : ℤ) (kind steps : ℕ) where
  pub placed_line : kind < 4 → decimal k ++ (placed time kind steps ++ line_feed) ≡ event_line k time kind steps
  unfolding event_line
  placed_line h = ap (λ (w : List ℕ). decimal k ++ (w ++ line_feed)) (sym (pick_true _ _ (lt-ltb kind 4 h)))

  pub dropped_line : 4 ≤ kind → decimal k ++ ((bytes " dropped " ++ decimal (kind - 3)) ++ line_feed) ≡ event_line k time kind steps
  unfolding event_line
  dropped_line h = ap (λ (w : List ℕ). decimal k ++ (w ++ line_feed)) (sym (pick_false _ _ (le-ltb kind 4 h)))
