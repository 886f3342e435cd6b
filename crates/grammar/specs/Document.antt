-- RFC 8259's grammar as a reader, line by line, with a limit of levels. Assumes nothing.
use Rattle.std.specs.Prelude.{true, false, List, [], ◌∷◌, ℕ, zero, suc, ◌+◌, length, eqb}
use Rattle.text.specs.Reading.{Text, Out, done, bad, deep, Reader, next, pick, peek, word}
use Rattle.text.specs.Class.{skip}
use Rattle.text.specs.Strings.{string}
use Rattle.text.specs.Numbers.{number}
use Rattle.grammar.specs.Tree.{Tree, null, bool, num, str, arr, obj, trees, members}

-- what was read as a tree
unfoldable pub text_tree : Text → ℕ → Out Tree
text_tree t j = done (str t) j

unfoldable pub number_tree : Text → ℕ → Out Tree
number_tree t j = done (num t) j

unfoldable pub literal_tree : Tree → Unit {0} → ℕ → Out Tree
literal_tree t u j = done t j

unfoldable pub array_tree : List Tree → ℕ → Out Tree
array_tree ts j = done (arr (trees ts)) j

unfoldable pub object_tree : List (Text × Tree) → ℕ → Out Tree
object_tree ms j = done (obj (members ms)) j

-- true, false, null
abbrev pub true_word : Text
true_word = 116 ∷ 114 ∷ 117 ∷ 101 ∷ []

abbrev pub false_word : Text
false_word = 102 ∷ 97 ∷ 108 ∷ 115 ∷ 101 ∷ []

abbrev pub null_word : Text
null_word = 110 ∷ 117 ∷ 108 ∷ 108 ∷ []

-- a string, a literal or a number, by its first byte
unfoldable pub scalar : Reader Tree
scalar s i =
    pick (eqb (peek s i) 34) (next (string s i) text_tree)
    (pick (eqb (peek s i) 116) (next (word true_word s i) (literal_tree (bool true)))
    (pick (eqb (peek s i) 102) (next (word false_word s i) (literal_tree (bool false)))
    (pick (eqb (peek s i) 110) (next (word null_word s i) (literal_tree null))
    (next (number s i) number_tree))))

-- the item x before the items xs
unfoldable pub in_front : {A : Type 0} → A → List A → ℕ → Out (List A)
in_front x xs k = done (x ∷ xs) k

-- after an item x that ends at j: `close`; or a comma, and then what `more` reads
unfoldable pub after : {A : Type 0} → ℕ → Reader (List A) → Text → A → ℕ → Out (List A)
after close more s x j =
    pick (eqb (peek s (skip s j)) close) (done (x ∷ []) (skip s j + 1))
    (pick (eqb (peek s (skip s j)) 44) (next (more s (skip s j + 1)) (in_front x))
    (bad (skip s j)))

-- one item or more, with commas between and `close` at the end. A turn ends with a comma, so a turn more than the text has bytes is enough
unfoldable pub items : {A : Type 0} → Reader A → ℕ → ℕ → Reader (List A)
items item close zero s i = bad i
items item close (suc turns) s i = next (item s (skip s i)) (after close (items item close turns) s)

-- `close` at once, or items
unfoldable pub many : {A : Type 0} → Reader A → ℕ → Reader (List A)
many item close s i =
    pick (eqb (peek s (skip s i)) close) (done [] (skip s i + 1)) (items item close (suc (length s)) s i)

-- after the text k of a name, which ends at j: a colon
unfoldable pub colon : Text → Text → ℕ → Out Text
colon s k j = pick (eqb (peek s (skip s j)) 58) (done k (skip s j + 1)) (bad (skip s j))

-- a name and its colon
unfoldable pub name : Reader Text
name s i = next (string s i) (colon s)

-- the name k with its value
unfoldable pub bound : Text → Tree → ℕ → Out (Text × Tree)
bound k t n = done (k, t) n

-- after the name k and its colon, which ends at j: a value
unfoldable pub named : Reader Tree → Text → Text → ℕ → Out (Text × Tree)
named value s k j = next (value s (skip s j)) (bound k)

-- member = string name-separator value
unfoldable pub member : Reader Tree → Reader (Text × Tree)
member value s i = next (name s i) (named value s)

-- what a bracket or a brace opens, or a scalar
unfoldable pub either : Text → ℕ → Out Tree → Out Tree → Out Tree
either s i array object = pick (eqb (peek s i) 91) array (pick (eqb (peek s i) 123) object (scalar s i))

-- a value with at most so many levels of objects and arrays
unfoldable pub value : ℕ → Reader Tree
value zero s i = either s i (deep i) (deep i)
value (suc levels) s i =
    either s i
    (next (many (value levels) 93 s (i + 1)) array_tree)
    (next (many (member (value levels)) 125 s (i + 1)) object_tree)

-- after the value, which ends at j: whitespace, and nothing more
unfoldable pub ending : Text → Tree → ℕ → Out Tree
ending s t j = pick (eqb (peek s (skip s j)) 256) (done t (skip s j)) (bad (skip s j))

-- the most levels
abbrev pub most : ℕ
most = 16

-- JSON-text = ws value ws
unfoldable pub read : Text → Out Tree
read s = next (value most s (skip s 0)) (ending s)
