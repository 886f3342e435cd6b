-- The value at a position, and its kind. Assumes nothing.
use Rattle.std.specs.Prelude.{◌≡◌, ◌||◌, ℕ, eqb}
use Rattle.text.specs.Reading.{Text, done, pick, peek}
use Rattle.text.specs.Class.{digit}
use Rattle.grammar.specs.Tree.{Tree, null, bool, num, str, arr, obj}
use Rattle.grammar.specs.Document.{value, most}
use Rattle.values.specs.declared.Kind.{Kind}
use Rattle.values.specs.declared.Kind.TheVariants.{Nothing, Null, Truth, Number, String, Array, Object}

-- the value t stands at p in the text s
pub record Stands (s : Text) (p : ℕ) (t : Tree) : Type 0 where
  pub until : ℕ
  pub reads : value most s p ≡ done t until

-- the kind of a value
unfoldable pub kind_of : Tree → Kind
kind_of null = Null
kind_of (bool b) = Truth
kind_of (num cs) = Number
kind_of (str t) = String
kind_of (arr ts) = Array
kind_of (obj ms) = Object

-- the kind of value that a byte begins
unfoldable pub kind_by : ℕ → Kind
kind_by b =
    pick (eqb b 123) Object
    (pick (eqb b 91) Array
    (pick (eqb b 34) String
    (pick (eqb b 45 || digit b) Number
    (pick (eqb b 116 || eqb b 102) Truth
    (pick (eqb b 110) Null Nothing)))))

-- the kind of value that begins at p; a law says that it is the kind of what stands there
unfoldable pub kind_at : Text → ℕ → Kind
kind_at s p = kind_by (peek s p)
