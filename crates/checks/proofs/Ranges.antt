-- A closure that runs at the numbers of a range may ask that they are below its end, which stays as it is. Assumes nothing.
use Rattle.std.proofs.Math.Path.{sym, ap}
use Rattle.std.proofs.Common.{◌≡◌, ◌∙◌, ℕ, List, [], ◌∷◌}
use Rattle.std.specs.declared.option.Option.{Option}
use Rattle.std.specs.declared.option.Option.TheVariants.{Some}
use Rattle.std.specs.Iterator.{Yields, CallableAtEachTurn}

module _ {S A : Type 0} (steps : S → Option A → S → Type 0) (end : S → ℕ) (keeps : (s : S) (x : A) (t : S) → steps s (Some x) t → end t ≡ end s) where
  stays : (xs : List A) (s t : S) → Yields steps s xs t → end t ≡ end s
  stays [] s t y = sym (ap end y)
  stays (x ∷ xs) s t y = stays xs y.0 t y.2 ∙ keeps s x y.0 y.1

pub by_end : {S A P : Type 0} {steps : S → Option A → S → Type 0} {R : P → A → P → Type 0} {Q : P → A → Type 0} {s : S} {p : P} (end : S → ℕ)
    → ((s : S) (x : A) (t : S) → steps s (Some x) t → end t ≡ end s)
    → ((t : S) (q : P) (x : A) (u : S) → end t ≡ end s → steps t (Some x) u → Q q x) → CallableAtEachTurn steps R Q s p
by_end {steps = steps} {s = s} end keeps h = record { at = λ xs t q x u y ch e. h t q x u (stays steps end keeps xs s t y) e }
