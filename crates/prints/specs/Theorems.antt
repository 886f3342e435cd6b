-- What a print is good for, and what stands in memory of a text. Assumes nothing.
use Rattle.std.specs.Prelude.{true, ◌≡◌, refl, [], ℕ, ◌≤◌, length, take}
use Rattle.text.specs.Reading.{Text}
use Rattle.grammar.specs.Tree.{same}
use Rattle.index.specs.Index.{text_at}
use Rattle.prints.specs.Prints.{print_of, print_at, front}
use Rattle.prints.specs.laws.Prints.{same_print, print_empty}
use Rattle.prints.specs.laws.Fronts.{front_whole}

-- equal texts have one print, and the empty text alone has 0
pub one_text_one_print : (s : Text) (p q : ℕ) → same (text_at s p) (text_at s q) ≡ true → print_at s p ≡ print_at s q
one_text_one_print s p q h = same_print s p q h

pub print_0_of_nothing : (t : Text) → print_of t ≡ 0 → t ≡ []
print_0_of_nothing t h = print_empty t h

-- a text that no rule refuses for its size is in memory whole
pub memory_has_all : (t : Text) → length t ≤ 256 → take (length t) (front t) ≡ t
memory_has_all t h = front_whole t refl h
