-- The numbers of a table say what they were made of. Assumes nothing.
use Rattle.std.specs.Prelude.{◌≡◌, refl, Bool, true, false, List, [], ◌∷◌, ℕ, ℤ, pos, get_or}
use Rattle.text.specs.Reading.{pick}
use Rattle.numbers.specs.declared.Machine.{Machine}
use Rattle.manifest.specs.declared.Cited.{Cited}
use Rattle.manifest.specs.declared.Cited.TheVariants.{Private, Domain}
use Rattle.manifest.specs.declared.Link.{Link}
use Rattle.manifest.specs.declared.Link.TheVariants.{Unrelated, Related}
use Rattle.manifest.specs.Rules.{same_id}
use Rattle.manifest.specs.Meaning.{Owns, nothing, whole_file, parts}
use Rattle.meant.specs.declared.Part.TheVariants.{Of}
use Rattle.meant.specs.Told.{told_owned, part_with, told_part}
use Rattle.merged.specs.Facts.{tie_from, tie_by, named, named_for, Given, given_by}
use Rattle.checks.specs.Table.{tie_of, given_of, is_set}
use Rattle.gather.specs.Gathered.{cited_code, tie_code, part_code, owned_code, flag}

cited_right : (c : Cited) → tie_of (cited_code c) ≡ tie_from c
unfolding tie_of cited_code tie_from pick
cited_right (Private i) = refl
cited_right (Domain d m) = refl

pub tie_right : (l : Link) → tie_of (tie_code l) ≡ tie_by l
unfolding tie_of tie_code tie_by pick
tie_right Unrelated = refl
tie_right (Related r) = cited_right r.from

-- of two numbers
abbrev pub given_in : List ℕ → Given
given_in l = given_of (get_or l 0 0) (get_or l 1 0)

parted : (id : ℕ) (l : List (ℤ × Machine)) → given_in (part_code (part_with id l)) ≡ named_for id l
unfolding given_of part_code part_with named_for pick
parted id [] = refl
parted id (p ∷ l) = go (same_id (pos id) p.0) (parted id l)
  where
    go : (b : Bool) → given_in (part_code (part_with id l)) ≡ named_for id l → given_in (part_code (pick b (Of p.1) (part_with id l))) ≡ pick b (named p.1) (named_for id l)
    go true e = refl
    go false e = e

pub given_right : (o : Owns) (id : ℕ) → given_in (owned_code (told_owned o) (told_part id o)) ≡ given_by o id
unfolding given_of owned_code told_owned told_part given_by pick
given_right nothing id = refl
given_right (whole_file m) id = refl
given_right (parts l) id = parted id l

pub flag_right : (c : Bool) → is_set (flag c) ≡ c
unfolding is_set flag pick
flag_right true = refl
flag_right false = refl
