-- The machine for an id in a split file, where each item has an id and a name. Assumes nothing.
use Rattle.std.specs.Prelude.{◌≡◌, Bool, List, [], ◌∷◌, ◌++◌, ℕ, ℤ, pos}
use Rattle.std.proofs.Math.Path.{refl}
use Rattle.std.proofs.Math.Bool.{true, false}
use Rattle.text.specs.Reading.{Text, pick}
use Rattle.numbers.specs.declared.Machine.{Machine}
use Rattle.manifest.specs.Kinds.{item}
use Rattle.manifest.specs.View.{Cell, absent, wrong, many, one}
use Rattle.manifest.specs.Rows.{Manifest, Item, id, item_name, the, flat, holds}
use Rattle.manifest.specs.Rules.{same_id, called, name_of_id}
use Rattle.manifest.specs.Meaning.{names_in, number_of, part}
use Rattle.manifest.specs.Statements.{All, all_none, all_one, Meets, stands, SoundRow}
use Rattle.meant.specs.declared.Part.{Part}
use Rattle.meant.specs.declared.Part.TheVariants.{Undeclared, Of}
use Rattle.meant.specs.Told.{part_with}

-- the machine of a name, if there is one
unfoldable pub part_named : Manifest → Cell Text → Part
part_named m absent = Undeclared
part_named m wrong = Undeclared
part_named m (many i) = Undeclared
part_named m (one t) = Of (number_of (names_in m) (called t))

module _ (m : Manifest) (z : ℕ) where
  -- one item more, with an id and a name
  more : (d : Cell ℤ) (n : Cell Text) (l : List (ℤ × Machine)) (c : Cell Text) → Meets (λ (w : ℤ). Unit {0}) true d → Meets (λ (t : Text). Unit {0}) true n → part_with z l ≡ part_named m c
      → part_with z (flat (λ y. flat (λ t. (y, number_of (names_in m) (called t)) ∷ []) (the n)) (the d) ++ l) ≡ part_named m (pick (holds (same_id (pos z)) d) n c)
  unfolding part_with part_named the flat holds pick
  more (one y) (one t) l c (stands u) (stands v) e = go (same_id (pos z) y)
    where
      go : (b : Bool) → pick b (Of (number_of (names_in m) (called t))) (part_with z l) ≡ part_named m (pick b (one t) c)
      go true = refl
      go false = e
  more absent n l c s _ e = elim s [ ]
  more wrong n l c s _ e = elim s [ ]
  more (many _) n l c s _ e = elim s [ ]
  more (one y) absent l c _ s e = elim s [ ]
  more (one y) wrong l c _ s e = elim s [ ]
  more (one y) (many _) l c _ s e = elim s [ ]

  pub part_named_lem : {l : List (Cell Item)} → All (λ c. Meets (λ v. SoundRow item v) true c) l → part_with z (flat (part m) (flat the l)) ≡ part_named m (name_of_id (pos z) (flat the l))
  unfolding part_with part_named part name_of_id the flat
  part_named_lem all_none = refl
  part_named_lem (all_one {l = l} (stands {a = v} q) r) =
      more (id v) (item_name v) (flat (part m) (flat the l)) (name_of_id (pos z) (flat the l)) q.0 q.1.0 (part_named_lem r)
