-- A list that is copied over the front of a memory, one element after the other. Assumes nothing.
use Rattle.std.specs.Prelude.{◌≡◌, refl, List, [], ◌∷◌, ◌++◌, ℕ, ◌+◌, ◌<◌, length, get_or, take, drop, set}
use Rattle.std.proofs.Common.{sym, ap, ◌∙◌, arith, add-one, length-set, take-append-drop, take-suc, take-suc-set, drop-set-lt, drop-drop}
use Rattle.std.proofs.Math.Seq.{take-length}

-- the first j elements of `from` stand at the front of a memory that was `old`, and the rest is as it was
pub record Copied (from old new : List ℕ) (j : ℕ) : Type 0 where
  pub whole : length new ≡ length old
  pub front : take j new ≡ take j from
  pub rest : drop j new ≡ drop j old

pub copied_none : (from old : List ℕ) → Copied from old old 0
copied_none from old = record { whole = refl; front = refl; rest = refl }

pub copied_more : {from old new : List ℕ} {j v : ℕ} → Copied from old new j → j < length from → j < length old → v ≡ get_or from j 0 → Copied from old (set new j v) (j + 1)
copied_more {from} {old} {new} {j} {v} k f h e =
    let l : j < length new = omega (arith, k.whole) in
    record {
      whole = length-set new j v ∙ k.whole;
      front = rw (add-one j, take-suc-set new j v l, take-suc from j 0 f) (λ i. k.front i ++ (e i ∷ []));
      rest = rw (drop-set-lt (j + 1) new j v (omega arith), ← drop-drop 1 j new, ← drop-drop 1 j old) (ap (drop 1) k.rest);
    }

pub copied_all : {from old new : List ℕ} {j : ℕ} → Copied from old new j → j ≡ length from → new ≡ from ++ drop (length from) old
copied_all {from} {old} {new} {j} k e =
    sym (take-append-drop j new)
    ∙ ((λ i. k.front i ++ k.rest i) ∙ ((λ i. take (e i) from ++ drop (e i) old) ∙ ap (λ (l : List ℕ). l ++ drop (length from) old) (take-length from)))
