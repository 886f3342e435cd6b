-- The loops over the members of `clocks`, of an entry and of the manifest object: the members that are left, and the row of those that were met. Assumes nothing.
use mathlib.Core.Path.{◌≡◌, sym, ap, subst, ◌∙◌}
use mathlib.Core.Bool.{false, ◌||◌}
use mathlib.Core.List.{List}
use Prim.Native.Nat.{ℕ, ◌+◌, ◌≤◌}
use lib.Dec.{ltb}
use lib.ListN.{length, get_or, set, replicate, length-set, length-replicate}
use Rattle.text.specs.Reading.{Text, pick}
use Rattle.values.specs.laws.Outs.{Gives}
use Rattle.places.specs.Places.{member_place}
use Rattle.manifest.specs.Names.{bytes}
use Rattle.manifest.specs.Rows.{any}
use Rattle.index.specs.Index.{column, items_of, block, index_of, many_items, too_many}
use Rattle.index.proofs.laws.Put.{Put, put_length}
use Rattle.fills.specs.declared.Next.{Next}
use Rattle.fills.specs.laws.Blank.{Blank, blank_on, blank_zeros}
use Rattle.fills.specs.laws.Walked.{There, Ends, Opens, Follows, met, none, row_by, entry_by, head_by, ClockMet, ClocksMet, EntryHas, EntryMet, HeadHas, HeadMet}
use Rattle.fills.proofs.Passed.{Left, left_start, left_end, left_on}
use Rattle.fills.proofs.Made.{entry_start, entry_put, head_start, index_all, index_none}

-- ---- of `clocks`, which are noted in the row of their entry

pub record ClocksLeft (s : Text) (p : ℕ) (at : Next) (old row : List ℕ) : Type 0 where
  pub found : Text → ℕ
  pub left : Left s p at found
  pub sized : length row ≡ 13
  pub is : (path machine name machines clocks n : ℕ) → old ≡ row_by s path machine name machines clocks none n → row ≡ row_by s path machine name machines clocks found n

pub clocks_start : {s : Text} {p : ℕ} {at : Next} (row : List ℕ) → length row ≡ 13 → There s p → Opens s p 123 125 at → ClocksLeft s p at (set row 4 p) (set row 4 p)
clocks_start {p = p} row l h o = record { found = none; left = left_start h o; sized = length-set row 4 p ∙ l; is = λ path machine name machines clocks n e. e }

module _ {s : Text} {p : ℕ} {at : Next} {old row : List ℕ} (l : ClocksLeft s p at old row) where
  pub clocks_on : (n : at.start ≡ 0 → ⊥) {v : ℕ} → Gives (λ m j. v ≡ m.1) (member_place s at.start) → {e : ℕ} → Ends s v e → {at' : Next} → Follows s e at'
      → {row' : List ℕ} → ClockMet s at.start v row row' → ClocksLeft s p at' old row'
  clocks_on n {v} ev ee g m = record {
    found = met s at.start v l.found;
    left = left_on l.left n ev ee g;
    sized = m.sized ∙ l.sized;
    is = λ path machine name machines clocks k e. m.is path machine name machines clocks k l.found (l.is path machine name machines clocks k e);
  }

pub clocks_end : {s : Text} {p : ℕ} {at : Next} {old row : List ℕ} → ClocksLeft s p at (set old 4 p) row → at.start ≡ 0 → ClocksMet s p old row
unfolding row_by
clocks_end {s} {p} l z =
    let w = (left_end l.left z).1 in
    record {
      is = λ path machine name machines clocks n e.
          l.is path machine name machines p n (ap (λ (r : List ℕ). set r 4 p) e) ∙ λ i. row_by s path machine name machines p (λ k. w k i) n;
    }

-- ---- of an entry, whose items are in the index

pub record EntryLeft (s : Text) (p base : ℕ) (at : Next) (o row ix : List ℕ) : Type 0 where
  pub found : Text → ℕ
  pub left : Left s p at found
  pub has : EntryHas s base o found row ix

pub entry_begin : {s : Text} {p base : ℕ} {at : Next} {o : List ℕ} → There s p → Opens s p 123 125 at → length o ≡ 2470 → base + 77 ≤ 2470 → Blank o base → EntryLeft s p base at o (replicate 13 0) o
entry_begin {s} {p} {base} h a l f b = record { found = none; left = left_start h a; has = entry_start s p base l f b }

module _ {s : Text} {p base : ℕ} {at : Next} {o row ix : List ℕ} (l : EntryLeft s p base at o row ix) where
  pub entry_sized : length row ≡ 13
  unfolding entry_by row_by
  entry_sized = ap length l.has.is

  pub entry_long : length o ≡ 2470 → length ix ≡ 2470
  entry_long h = put_length l.has.items ∙ h

  pub entry_fresh : Blank o base → get_or row 3 0 ≡ 0 → Blank ix (base + 13)
  unfolding entry_by row_by
  entry_fresh b z = subst (λ (x : List ℕ). Blank x (base + 13)) (sym (l.has.fresh (sym (ap (λ (r : List ℕ). get_or r 3 0) l.has.is) ∙ z))) (blank_on 13 b)

  pub entry_on : (n : at.start ≡ 0 → ⊥) {v : ℕ} → Gives (λ m j. v ≡ m.1) (member_place s at.start) → {e : ℕ} → Ends s v e → {at' : Next} → Follows s e at'
      → {row' ix' : List ℕ} → EntryMet s at.start v base row row' ix ix' → EntryLeft s p base at' o row' ix'
  entry_on n {v} ev ee g m = record { found = met s at.start v l.found; left = left_on l.left n ev ee g; has = m.is o l.found l.has }

  pub entry_end : at.start ≡ 0 → {new : List ℕ} → Put ix base row new → Put o base (block s p) new
  entry_end z w = entry_put s p base l.has (left_end l.left z).1 w

-- ---- of the manifest object, whose entries are in the index

pub record HeadLeft (s : Text) (p : ℕ) (at : Next) (o row ix : List ℕ) : Type 0 where
  pub found : Text → ℕ
  pub left : Left s p at found
  pub has : HeadHas s o found row ix

pub head_begin : {s : Text} {p : ℕ} {at : Next} {o : List ℕ} → There s p → Opens s p 123 125 at → length o ≡ 2470 → Blank o 0 → HeadLeft s p at o (replicate 6 0) o
head_begin {s} {p} h a l b = record { found = none; left = left_start h a; has = head_start s p l b }

module _ {s : Text} {p : ℕ} {at : Next} {o row ix : List ℕ} (l : HeadLeft s p at o row ix) where
  pub head_sized : length row ≡ 6
  unfolding head_by
  head_sized = ap length l.has.is

  pub head_long : length o ≡ 2470 → length ix ≡ 2470
  head_long h = put_length l.has.entries ∙ h

  pub head_fresh : Blank o 0 → get_or row 0 0 ≡ 0 → Blank ix 6
  unfolding head_by
  head_fresh b z = subst (λ (x : List ℕ). Blank x 6) (sym (l.has.fresh (sym (ap (λ (r : List ℕ). get_or r 0 0) l.has.is) ∙ z))) (blank_on 6 b)

  pub head_on : (n : at.start ≡ 0 → ⊥) {v : ℕ} → Gives (λ m j. v ≡ m.1) (member_place s at.start) → {e : ℕ} → Ends s v e → {at' : Next} → Follows s e at'
      → {row' ix' : List ℕ} → HeadMet s at.start v row row' ix ix' → HeadLeft s p at' o row' ix'
  head_on n {v} ev ee g m = record { found = met s at.start v l.found; left = left_on l.left n ev ee g; has = m.is o l.found l.has }

  pub head_end : length o ≡ 2470 → at.start ≡ 0 → {new : List ℕ} → Put ix 0 row new → new ≡ index_of s p
  head_end h z w = index_all s p h l.has (left_end l.left z).1 w

-- ---- where no manifest object is

module _ (s : Text) (p : ℕ) (h : (n : Text) → 0 ≡ column s p n) where
  pub zeros_index : replicate 2470 0 ≡ index_of s p
  zeros_index = index_none s p (length-replicate {A = ℕ} 2470 0) (blank_zeros 2470) h

  pub none_many : false ≡ too_many s p
  unfolding too_many items_of any pick
  none_many = λ i. ltb 32 (length (items_of s (h (bytes "files") i))) || any (many_items s) (items_of s (h (bytes "files") i))
