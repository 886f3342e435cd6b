-- `files`: its entries one after the other, and their blocks. Assumes nothing.
use mathlib.Core.Path.{◌≡◌, refl, sym, subst, ◌∙◌}
use mathlib.Core.List.{List, ◌∷◌}
use Prim.Native.Nat.{ℕ, ◌+◌, ◌*◌, ◌≤◌, ◌<◌}
use native.Mathlib.Omega.{arith}
use lib.ListN.{length, get_or, set, replicate}
use Rattle.text.specs.Reading.{Text, pick, peek}
use Rattle.text.specs.Class.{skip}
use Rattle.manifest.specs.Names.{bytes}
use Rattle.manifest.specs.Statements.{All, all_none, all_one}
use Rattle.index.specs.Index.{column, items_of, rows, item_row, entry_row, block}
use Rattle.index.proofs.laws.Back.{block_length}
use Rattle.index.proofs.laws.Put.{put_same}
use Rattle.survey.specs.laws.Bare.{Bare}
use Rattle.survey.specs.laws.Walked.{Spot, Fine, Told, Files}
use Rattle.survey.proofs.Arrays.{places, Collecting, Collected, collect_start, collect_none, collect_on, collect_end, array_places}

-- the numbers of no entry are zeros
pub no_entry : (s : Text) → block s 0 ≡ replicate 77 0
unfolding block entry_row item_row rows column items_of pick
no_entry s = refl

-- an entry without a flaw and with few items
pub record Whole (s : Text) (x : Spot) : Type 0 where
  pub fine : Fine 8 x.1
  pub few : length (items_of s (column s x.0 (bytes "machines"))) ≤ 32

all_fine : {s : Text} {l : List Spot} → All (Whole s) l → All (λ x. Fine 8 x.1) l
all_fine all_none = all_none
all_fine (all_one h a) = all_one h.fine (all_fine a)

all_few : {s : Text} {l : List Spot} → All (Whole s) l → All (λ q. length (items_of s (column s q (bytes "machines"))) ≤ 32) (places l)
all_few all_none = all_none
all_few (all_one h a) = all_one h.few (all_few a)

files_told : (s : Text) (p : ℕ) → (p ≡ 0 → ⊥) → {e : ℕ} {old new : List ℕ} → Collected (Whole s) 13 (block s) s p 5 e old new → Files s p e old new
files_told s p past d =
    let q : items_of s p ≡ places d.items = array_places 13 s p d.opens d.reads (omega arith) past in
    record {
      listed = record { opens = d.opens; items = d.items; reads = d.reads; fine = all_fine d.each; few = d.few };
      sized = d.sized;
      few = subst (All (λ x. length (items_of s (column s x (bytes "machines"))) ≤ 32)) (sym q) (all_few d.each);
      put = λ z. put_same (λ u. length (sym q u) ∷ rows (λ j. block s (get_or (sym q u) j 0)) 32) (d.put z);
    }

module _ (s : Text) (p : ℕ) {old : List ℕ} (size : length old ≡ 2470) where
  pub files_none : (p ≡ 0 → ⊥) → {e : ℕ} → Bare s p e → Files s p e old old
  files_none past b = files_told s p past (collect_none (Whole s) 13 (omega arith) (block s) s p 5 77 (block_length s) (no_entry s) (omega arith) b)

  pub files_start : {i : ℕ} → i ≡ skip s (p + 1) → Collecting (Whole s) 13 (block s) s p 5 old i 0 old
  files_start ei = collect_start (Whole s) 13 (omega arith) (block s) s p 5 (omega arith) ei

  module _ {i n : ℕ} {ix : List ℕ} (c : Collecting (Whole s) 13 (block s) s p 5 old i n ix) (more : n < 32) {e : ℕ} {mid : List ℕ} (t : Told s (6 + 77 * n) i e ix mid) where
    this : Whole s (i, t.tree)
    this = record { fine = t.fine; few = t.few }

    pub files_sized : length mid ≡ 2470
    files_sized = t.sized ∙ c.sized ∙ size

    module _ {k b : ℕ} (ek : k ≡ skip s e) (eb : b ≡ peek s k) where
      pub files_on : (b ≡ 93 → ⊥) → b ≡ 44 → {y : ℕ} → y ≡ skip s (k + 1) → Collecting (Whole s) 13 (block s) s p 5 old y (n + 1) mid
      files_on = collect_on (Whole s) 13 (omega arith) (block s) s p 5 77 (block_length s) c more t.reads this t.sized t.put ek eb

      pub files_end : (p ≡ 0 → ⊥) → peek s p ≡ 91 → b ≡ 93 → Files s p (k + 1) old (set mid 5 (n + 1))
      files_end past opens h =
          files_told s p past (collect_end (Whole s) 13 (omega arith) (block s) s p 5 77 (block_length s) c more t.reads this t.sized t.put ek eb opens (no_entry s) (omega arith) h)
