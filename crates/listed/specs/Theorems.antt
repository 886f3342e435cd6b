-- What settled names are good for: the index stands for the same manifest, and different names are told by different positions. Assumes nothing.
use Rattle.std.specs.Prelude.{◌≡◌, false, List, [], ℕ, length, get_or}
use Rattle.text.specs.Reading.{Text}
use Rattle.grammar.specs.Tree.{same}
use Rattle.index.specs.Index.{text_at, manifest_of}
use Rattle.listed.specs.Settled.{name_cells, settled, settled_in, firsts_in}
use Rattle.listed.specs.laws.Cells.{cells_length}
use Rattle.listed.specs.laws.Alike.{alike_manifest, settled_alike}
use Rattle.listed.specs.laws.Firsts.{firsts_long, firsts_differ}

-- the index stands for the same manifest, and is as long
pub settled_is : (s : Text) (ix : List ℕ) → manifest_of s (settled_in s ix) ≡ manifest_of s ix
settled_is s ix = alike_manifest (settled_alike s ix)

pub settled_length : (s : Text) (ix : List ℕ) → length (settled_in s ix) ≡ length ix
unfolding settled_in settled
settled_length s ix = cells_length s (name_cells ix) (record { firsts = []; index = ix })

-- there is room for 32 positions
pub firsts_length : (s : Text) (ix : List ℕ) → length (firsts_in s ix) ≡ 32
firsts_length s ix = firsts_long s ix

-- and at two that differ stand different names
pub firsts_apart : (s : Text) (ix : List ℕ) (j k : ℕ) → (get_or (firsts_in s ix) j 0 ≡ 0 → ⊥) → (get_or (firsts_in s ix) k 0 ≡ 0 → ⊥)
    → (get_or (firsts_in s ix) j 0 ≡ get_or (firsts_in s ix) k 0 → ⊥) → same (text_at s (get_or (firsts_in s ix) j 0)) (text_at s (get_or (firsts_in s ix) k 0)) ≡ false
firsts_apart s ix = firsts_differ s ix
