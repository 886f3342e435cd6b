-- The members of an object (true) and the items of an array (false) under one name, for what reads both alike. Assumes nothing.
use Rattle.std.specs.Prelude.{Bool, true, false, ℕ}
use Rattle.text.specs.Reading.{Text, Reader}
use Rattle.grammar.specs.Tree.{Tree}
use Rattle.grammar.specs.Document.{member, value}

abbrev pub Item : Bool → Type 0
Item true = Text × Tree
Item false = Tree

abbrev pub item : (object : Bool) → ℕ → Reader (Item object)
item true levels = member (value levels)
item false levels = value levels

-- what closes them
abbrev pub closer : Bool → ℕ
closer true = 125
closer false = 93
