-- `written::put` meets its contract: what is copied stands between what was before it and what was behind.
-- Assumes nothing.
use mathlib.Core.Path.{◌≡◌, refl, ap, ◌∙◌}
use mathlib.Core.List.{◌++◌}
use Prim.Native.Nat.{ℕ, ◌+◌, ◌-◌}
use native.Mathlib.Omega.{arith}
use Rattle.std.proofs.Common.{drop-drop}
use lib.ListN.{length, take, drop}
use Rattle.written.proofs.put.Goals as goal

pub returns : goal.returns
returns c =
    let l = c.args in
    let end : l.at + (l.at + length l.text.now - l.at) ≡ l.at + length l.text.now = omega arith in
    record {
      fits = c.requires;
      ends = refl;
      is = λ i. take l.at l.out.now ++ (c.copy_from_slice.ensures.after i ++ (drop-drop (l.at + length l.text.now - l.at) l.at l.out.now ∙ ap (λ (n : ℕ). drop n l.out.now) end) i);
    }
