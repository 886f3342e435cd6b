-- The tables' own meaning: a meaning whose machines have the numbers that the tables tell. With more than 32 names the table of lookups holds 32 of them, so
-- that these numbers are not the meaning's; all else is. Assumes nothing.
use Rattle.std.specs.Prelude.{List, [], ◌∷◌, ℕ, suc, ℤ, pos, negsuc, take}
use Rattle.text.specs.Reading.{Text}
use Rattle.numbers.specs.declared.Machine.{Machine}
use Rattle.manifest.specs.Meaning.{Owns, nothing, whole_file, parts, Listed, Meaning}
use Rattle.finds.specs.Finds.{lookups}
use Rattle.meant.specs.declared.Part.{Part}
use Rattle.meant.specs.declared.Part.TheVariants.{Undeclared, Of}
use Rattle.meant.specs.Meant.{base_of, part_of, link_of, timeline_of}

-- the number of an id, and the machine of a part; 0 where there is none
unfoldable pub id_in : ℤ → ℕ
id_in (pos n) = n
id_in (negsuc n) = 0

unfoldable pub machine_in : Part → Machine
machine_in Undeclared = record { 0 = 0 }
machine_in (Of m) = m

module _ (s : Text) (ix : List ℕ) where
  -- the same ids, each with the machine that entry i names for it
  unfoldable pub own_parts : ℕ → List (ℤ × Machine) → List (ℤ × Machine)
  own_parts i [] = []
  own_parts i (p ∷ l) = (p.0, machine_in (part_of s ix (lookups s ix) i (id_in p.0))) ∷ own_parts i l

  unfoldable pub own_owns : ℕ → Owns → Owns
  own_owns i nothing = nothing
  own_owns i (whole_file m) = whole_file (base_of s ix (lookups s ix) i)
  own_owns i (parts l) = parts (own_parts i l)

  abbrev pub own_listed : ℕ → Listed → Listed
  own_listed i l = record { path = l.path; owns = own_owns i l.owns; base = base_of s ix (lookups s ix) i; link = link_of s ix (lookups s ix) i }

  unfoldable pub own_all : ℕ → List Listed → List Listed
  own_all i [] = []
  own_all i (l ∷ ls) = own_listed i l ∷ own_all (suc i) ls

  abbrev pub own : Meaning → Meaning
  own w = record { listed = own_all 0 w.listed; trace = timeline_of s ix (lookups s ix); names = take 32 w.names }
