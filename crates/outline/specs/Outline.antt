-- Where the manifest object stands, what its versions are, and which clock a string names: by positions of the text. Assumes nothing.
use Rattle.std.specs.Prelude.{Bool, false, not, List, [], ◌∷◌, ℕ, eqb, pos, negsuc}
use Rattle.text.specs.Reading.{Text, Out, done, bad, deep, pick}
use Rattle.text.specs.Class.{skip}
use Rattle.text.specs.Strings.{string}
use Rattle.values.specs.declared.Kind.{Kind}
use Rattle.values.specs.declared.Kind.TheVariants.{Nothing, Null, Truth, Number, String, Array, Object}
use Rattle.values.specs.declared.Integer.{Integer}
use Rattle.values.specs.declared.Integer.TheVariants.{In, Below, Above, None}
use Rattle.values.specs.Stands.{kind_at}
use Rattle.values.specs.Integer.{integer_at}
use Rattle.places.specs.declared.Entry.{Entry}
use Rattle.places.specs.declared.Entry.TheVariants.{Named, Last}
use Rattle.places.specs.Places.{members_at, places_of, first_member, next_member}
use Rattle.manifest.specs.Names.{bytes}
use Rattle.manifest.specs.Rows.{any}
use Rattle.manifest.specs.Rules.{domain}
use Rattle.outline.specs.declared.Standing.{Standing}
use Rattle.outline.specs.declared.Standing.TheVariants.{At, Refused}

-- ---- 5: outermost object has a second member, or the first isn't an object

-- the value at v, if it is an object
unfoldable pub object_at : ℕ → Kind → Standing
object_at v Nothing = Refused
object_at v Null = Refused
object_at v Truth = Refused
object_at v Number = Refused
object_at v String = Refused
object_at v Array = Refused
object_at v Object = At v

-- the same, if what comes after it is no further member
unfoldable pub alone : Text → ℕ → Entry → Standing
alone s v (Named i w j) = Refused
alone s v Last = object_at v (kind_at s v)

unfoldable pub root_from : Text → Entry → Standing
root_from s (Named i v j) = alone s v (next_member s j)
root_from s Last = Refused

-- where the manifest object stands: it is the one member of the outermost object
unfoldable pub root_at : Text → Standing
root_at s = root_from s (first_member s (skip s 0))

-- ---- 6: no `version`. 7: a `version` that isn't the integer 1

unfoldable pub is_1 : Integer → Bool
is_1 (In (pos n)) = eqb n 1
is_1 (In (negsuc n)) = false
is_1 Below = false
is_1 Above = false
is_1 None = false

-- the value at v isn't the integer 1
unfoldable pub not_1_at : Text → ℕ → Bool
not_1_at s v = not (is_1 (integer_at s v))

-- the places of the members named `version` of the object at p
unfoldable pub version_places : Text → ℕ → List ℕ
version_places s p = places_of (bytes "version") (members_at s p)

-- 6 if there is none, 7 if one of them isn't the integer 1, else 0
unfoldable pub versions_by : Text → List ℕ → ℕ
versions_by s [] = 6
versions_by s (v ∷ vs) = pick (any (not_1_at s) (v ∷ vs)) 7 0

unfoldable pub versions_at : Text → ℕ → ℕ
versions_at s p = versions_by s (version_places s p)

-- ---- clocks' names

-- the text that was read; no bytes where no string stands
unfoldable pub text_in : Out Text → Text
text_in (done t j) = t
text_in (bad p) = []
text_in (deep p) = []

-- the text of the string at p
unfoldable pub text_at : Text → ℕ → Text
text_at s p = text_in (string s p)

-- the number, 1 to 6, of the clock that the string at p names; 0 if it names none
unfoldable pub domain_at : Text → ℕ → ℕ
domain_at s p = domain (text_at s p)
