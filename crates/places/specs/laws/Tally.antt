-- Counting the places of the members with a name, one after the other. Assumes nothing.
use Rattle.std.specs.Prelude.{◌≡◌, refl, Bool, true, false, List, [], ◌∷◌, ℕ, eqb}
use Rattle.std.proofs.Common.{sym, ap, ◌∙◌}
use Rattle.text.specs.Reading.{Text, pick}
use Rattle.grammar.specs.Tree.{same}
use Rattle.places.specs.declared.Member.{Member}
use Rattle.places.specs.Places.{places_of, counted}

-- one place more, v, if it was hit
unfoldable pub noted : Member → Bool → ℕ → Member
noted m hit v = pick hit (pick (eqb m.count 0) (record { count = 1; at = v }) (record { count = 2; at = m.at })) m

-- all of these places more
unfoldable pub tally : Member → List ℕ → Member
tally m [] = m
tally m (p ∷ ps) = tally (noted m true p) ps

-- nothing counted yet
abbrev pub none : Member
none = record { count = 0; at = 0 }

tally_two : (p : ℕ) (ps : List ℕ) → tally (record { count = 2; at = p }) ps ≡ record { count = 2; at = p }
unfolding tally noted pick
tally_two p [] = refl
tally_two p (q ∷ ps) = tally_two p ps

-- counted one after the other they are counted
pub counted_is : (ps : List ℕ) → tally none ps ≡ counted ps
unfolding tally noted pick counted
counted_is [] = refl
counted_is (p ∷ []) = refl
counted_is (p ∷ (q ∷ ps)) = tally_two p ps

-- a member more, with the name k and its value at v
pub tally_member : (n : Text) (m : Member) (x : Text × ℕ) {hit : Bool} → hit ≡ same x.0 n → (xs : List (Text × ℕ)) → tally m (places_of n (x ∷ xs)) ≡ tally (noted m hit x.1) (places_of n xs)
unfolding places_of tally noted pick
tally_member n m x e xs = go (same x.0 n) ∙ ap (λ (b : Bool). tally (noted m b x.1) (places_of n xs)) (sym e)
  where
    go : (b : Bool) → tally m (pick b (x.1 ∷ places_of n xs) (places_of n xs)) ≡ tally (noted m b x.1) (places_of n xs)
    go true = refl
    go false = refl
