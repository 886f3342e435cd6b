-- Worked examples, by computing. Assumes nothing.
use Rattle.std.specs.Prelude.{◌≡◌, refl, [], ◌∷◌}
use Rattle.text.specs.Reading.{next, pick, peek, count, run, part, word}
use Rattle.text.specs.Class.{class_of, whitespace, skip, digit}
use Rattle.text.specs.Strings.{hex_of, escape_of, pair_of, quad, low, joined, paired, escape, tail, second, two, three, four, classed, character, utf8, before, onward, characters, string}
use Rattle.text.specs.Numbers.{digits, minus, sign, int, frac, exp, rest, written, number}
use Rattle.grammar.specs.Tree.{same}
use Rattle.grammar.specs.Document.{text_tree, number_tree, literal_tree, array_tree, object_tree, scalar, in_front, after, items, many, colon, name, bound, named, member, either, value}
use Rattle.places.specs.Places.{place, item_place, named_place, value_place, member_place, listed, items_at, members_at, places_of, counted, member_at, item_of, item_from, first_item, next_item, entry_of, entry_from, first_member, next_member}
use Rattle.places.specs.declared.Step.TheVariants.{Item, End}
use Rattle.places.specs.declared.Entry.TheVariants.{Named, Last}

-- what the examples compute with
opened : Unit {0}
unfolding next pick peek count run part word class_of whitespace skip digit hex_of escape_of pair_of quad low joined paired escape tail second two three four classed character utf8 before onward characters string digits minus sign int frac exp rest written number same text_tree number_tree literal_tree array_tree object_tree scalar in_front after items many colon name bound named member either value place item_place named_place value_place member_place listed items_at members_at places_of counted member_at item_of item_from first_item next_item entry_of entry_from first_member next_member
opened = tt

-- in {"a":{"b":1},"b":2} there is one b, at 17: the one of the object inside is not counted
not_inside : member_at (123 ∷ 34 ∷ 97 ∷ 34 ∷ 58 ∷ 123 ∷ 34 ∷ 98 ∷ 34 ∷ 58 ∷ 49 ∷ 125 ∷ 44 ∷ 34 ∷ 98 ∷ 34 ∷ 58 ∷ 50 ∷ 125 ∷ []) 0 (98 ∷ []) ≡ record { count = 1; at = 17 }
unfolding opened
not_inside = refl

-- in {"\\u0070ath":0} there is one path
escaped_name : member_at (123 ∷ 34 ∷ 92 ∷ 117 ∷ 48 ∷ 48 ∷ 55 ∷ 48 ∷ 97 ∷ 116 ∷ 104 ∷ 34 ∷ 58 ∷ 48 ∷ 125 ∷ []) 0 (112 ∷ 97 ∷ 116 ∷ 104 ∷ []) ≡ record { count = 1; at = 13 }
unfolding opened
escaped_name = refl

-- in {"x":{"offset_ns":5}} there is no offset_ns
not_skipped_into : member_at (123 ∷ 34 ∷ 120 ∷ 34 ∷ 58 ∷ 123 ∷ 34 ∷ 111 ∷ 102 ∷ 102 ∷ 115 ∷ 101 ∷ 116 ∷ 95 ∷ 110 ∷ 115 ∷ 34 ∷ 58 ∷ 53 ∷ 125 ∷ 125 ∷ []) 0 (111 ∷ 102 ∷ 102 ∷ 115 ∷ 101 ∷ 116 ∷ 95 ∷ 110 ∷ 115 ∷ []) ≡ record { count = 0; at = 0 }
unfolding opened
not_skipped_into = refl

-- of {"a":1,"a":2,"a":3} the first a is told, and that there are more
first_of_three : member_at (123 ∷ 34 ∷ 97 ∷ 34 ∷ 58 ∷ 49 ∷ 44 ∷ 34 ∷ 97 ∷ 34 ∷ 58 ∷ 50 ∷ 44 ∷ 34 ∷ 97 ∷ 34 ∷ 58 ∷ 51 ∷ 125 ∷ []) 0 (97 ∷ []) ≡ record { count = 2; at = 5 }
unfolding opened
first_of_three = refl

-- {"a":1,} is no object, and has no member
no_object : member_at (123 ∷ 34 ∷ 97 ∷ 34 ∷ 58 ∷ 49 ∷ 44 ∷ 125 ∷ []) 0 (97 ∷ []) ≡ record { count = 0; at = 0 }
unfolding opened
no_object = refl

-- [1, [2,3]] has two items, at 1 and at 4
two_items : items_at (91 ∷ 49 ∷ 44 ∷ 32 ∷ 91 ∷ 50 ∷ 44 ∷ 51 ∷ 93 ∷ 93 ∷ []) 0 ≡ 1 ∷ 4 ∷ []
unfolding opened
two_items = refl

-- the first is 1, from 1 to 2
first_of_two : first_item (91 ∷ 49 ∷ 44 ∷ 32 ∷ 91 ∷ 50 ∷ 44 ∷ 51 ∷ 93 ∷ 93 ∷ []) 0 ≡ Item 1 2
unfolding opened
first_of_two = refl

-- the next is [2,3], from 4 to 9
second_of_two : next_item (91 ∷ 49 ∷ 44 ∷ 32 ∷ 91 ∷ 50 ∷ 44 ∷ 51 ∷ 93 ∷ 93 ∷ []) 2 ≡ Item 4 9
unfolding opened
second_of_two = refl

-- and then comes the end
end_of_two : next_item (91 ∷ 49 ∷ 44 ∷ 32 ∷ 91 ∷ 50 ∷ 44 ∷ 51 ∷ 93 ∷ 93 ∷ []) 9 ≡ End
unfolding opened
end_of_two = refl

-- the one member of {"a" : 1}: its name at 1, its value from 7 to 8
one_member : first_member (123 ∷ 34 ∷ 97 ∷ 34 ∷ 32 ∷ 58 ∷ 32 ∷ 49 ∷ 125 ∷ []) 0 ≡ Named 1 7 8
unfolding opened
one_member = refl

-- after it comes no other
no_member_more : next_member (123 ∷ 34 ∷ 97 ∷ 34 ∷ 32 ∷ 58 ∷ 32 ∷ 49 ∷ 125 ∷ []) 8 ≡ Last
unfolding opened
no_member_more = refl
