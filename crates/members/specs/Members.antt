-- Refusals 8 and 9 by themselves, of the manifest object at a position. Assumes nothing.
use Rattle.std.specs.Prelude.{List, [], ◌∷◌, ℕ}
use Rattle.text.specs.Reading.{Text, Out, done, bad, deep}
use Rattle.grammar.specs.Tree.{Tree, null, bool, num, str, arr, obj}
use Rattle.grammar.specs.Document.{value, most}
use Rattle.manifest.specs.Kinds.{manifest}
use Rattle.manifest.specs.View.{row}
use Rattle.manifest.specs.Rules.{Rule, first, refusal_8_known_member_twice, refusal_9_wrong_type_or_absent}

-- the two rules, in their order
abbrev pub member_rules : List Rule
member_rules = refusal_8_known_member_twice ∷ refusal_9_wrong_type_or_absent ∷ []

-- of a value that has to be the manifest object: 8, 9 or 0. Another value is of a wrong type
unfoldable pub member_refusal_of : Tree → ℕ
member_refusal_of null = 9
member_refusal_of (bool b) = 9
member_refusal_of (num cs) = 9
member_refusal_of (str t) = 9
member_refusal_of (arr ts) = 9
member_refusal_of (obj ms) = first member_rules (row manifest ms)

-- of a value that was read; 0 where there is none
unfoldable pub member_refusal_in : Out Tree → ℕ
member_refusal_in (done t j) = member_refusal_of t
member_refusal_in (bad p) = 0
member_refusal_in (deep p) = 0

-- of the value at p
unfoldable pub member_refusal_at : Text → ℕ → ℕ
member_refusal_at s p = member_refusal_in (value most s p)
