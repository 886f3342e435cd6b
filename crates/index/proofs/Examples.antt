-- Worked examples, by computing. Assumes nothing.
use Rattle.std.specs.Prelude.{◌≡◌, refl, false, [], ◌∷◌}
use Rattle.text.specs.Reading.{Text, next, pick, peek, count, run, part, word}
use Rattle.text.specs.Class.{class_of, whitespace, skip, digit}
use Rattle.text.specs.Strings.{hex_of, escape_of, pair_of, quad, low, joined, paired, escape, tail, second, two, three, four, classed, character, utf8, before, onward, characters, string}
use Rattle.text.specs.Numbers.{digits, minus, sign, int, frac, exp, rest, written, number}
use Rattle.grammar.specs.Tree.{same}
use Rattle.grammar.specs.Document.{text_tree, number_tree, literal_tree, array_tree, object_tree, scalar, in_front, after, items, many, colon, name, bound, named, member, either, value}
use Rattle.places.specs.Places.{place, item_place, named_place, value_place, member_place, listed, items_at, members_at, places_of, counted, member_at}
use Rattle.manifest.specs.Rows.{any}
use Rattle.index.specs.Index.{text_in, text_at, column, items_of, head_row, entry_row, many_items, too_many}

-- what the examples compute with
opened : Unit {0}
unfolding next pick peek count run part word class_of whitespace skip digit hex_of escape_of pair_of quad low joined paired escape tail second two three four classed character utf8 before onward characters string digits minus sign int frac exp rest written number same text_tree number_tree literal_tree array_tree object_tree scalar in_front after items many colon name bound named member either value place item_place named_place value_place member_place listed items_at members_at places_of counted member_at any text_in text_at column items_of head_row entry_row many_items too_many
opened = tt

-- {"files":[{"path":"a"}]} after a space
one_entry : Text
one_entry = 32 ∷ 123 ∷ 34 ∷ 102 ∷ 105 ∷ 108 ∷ 101 ∷ 115 ∷ 34 ∷ 58 ∷ 91 ∷ 123 ∷ 34 ∷ 112 ∷ 97 ∷ 116 ∷ 104 ∷ 34 ∷ 58 ∷ 34 ∷ 97 ∷ 34 ∷ 125 ∷ 93 ∷ 125 ∷ []

-- `files` is at 10, there is no `trace_time`, and there is one entry
its_head : head_row one_entry 1 ≡ 10 ∷ 0 ∷ 0 ∷ 0 ∷ 0 ∷ 1 ∷ []
unfolding opened one_entry
its_head = refl

-- the entry is at 11, its `path` at 19, and it has nothing else
its_entry : entry_row one_entry 11 ≡ 19 ∷ 0 ∷ 0 ∷ 0 ∷ 0 ∷ 0 ∷ 0 ∷ 0 ∷ 0 ∷ 0 ∷ 0 ∷ 0 ∷ 0 ∷ []
unfolding opened one_entry
its_entry = refl

-- its path is a
its_path : text_at one_entry 19 ≡ 97 ∷ []
unfolding opened one_entry
its_path = refl

-- and the index holds it all
not_too_many : too_many one_entry 1 ≡ false
unfolding opened one_entry
not_too_many = refl
