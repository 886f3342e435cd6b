-- Worked examples, by computing. Assumes nothing.
use Rattle.std.specs.Prelude.{◌≡◌, refl, map, eqb}
use Prim.Native.String.{String}
use Rattle.text.specs.Reading.{Text, next, pick, peek, count, run, part, word}
use Rattle.text.specs.Class.{class_of, whitespace, skip, digit}
use Rattle.text.specs.Strings.{hex_of, escape_of, pair_of, quad, low, joined, paired, escape, tail, second, two, three, four, classed, character, utf8, before, onward, characters, string}
use Rattle.text.specs.Numbers.{digits, minus, sign, int, frac, exp, rest, written, number}
use Rattle.grammar.specs.Tree.{list_of_trees, same, get}
use Rattle.grammar.specs.Document.{text_tree, number_tree, literal_tree, array_tree, object_tree, scalar, in_front, after, items, many as many_items, colon, name, bound, named, member, either, value}
use Rattle.values.specs.Integer.{broken, decimal, signed, integer}
use Rattle.manifest.specs.Names.{bytes}
use Rattle.manifest.specs.View.{is_one, rank, rank_of, beside, join, cell, as_text, as_integer, as_free, as_array, as_object, view}
use Rattle.manifest.specs.Rows.{every, holds, any, any_at}
use Rattle.manifest.specs.Rules.{applies, look, somewhere, emptied, first, refusal_8_known_member_twice, refusal_9_wrong_type_or_absent}
use Rattle.members.specs.Members.{member_refusal_of, member_refusal_in, member_refusal_at}

-- what the examples compute with
opened : Unit {0}
unfolding next pick peek count run part word class_of whitespace skip digit hex_of escape_of pair_of quad low joined paired escape tail second two three four classed character utf8 before onward characters string digits minus sign int frac exp rest written number list_of_trees same get text_tree number_tree literal_tree array_tree object_tree scalar in_front after items many_items colon name bound named member either value broken decimal signed integer is_one rank rank_of beside join cell as_text as_integer as_free as_array as_object view every holds any any_at applies look somewhere emptied first refusal_8_known_member_twice refusal_9_wrong_type_or_absent member_refusal_of member_refusal_in member_refusal_at
opened = tt

-- JSON with ' for the quote
abbrev json : String → Text
json s = map (λ b. pick (eqb b 39) 34 b) (bytes s)

-- a path twice in one entry; the second name is written with an escape
twice : member_refusal_at (json "{'files':[{'path':'a','\\u0070ath':'b'}]}") 0 ≡ 8
unfolding opened
twice = refl

-- 8 comes before 9, wherever they are: the number in place of a path stands before the second `file`
twice_first : member_refusal_at (json "{'files':[{'path':1}],'trace_time':{'clock':'x','file':'a','file':'b'}}") 0 ≡ 8
unfolding opened
twice_first = refl

-- an entry without a path; an id with a fraction; an item that is no object
no_path : member_refusal_at (json "{'files':[{}]}") 0 ≡ 9
unfolding opened
no_path = refl

fraction : member_refusal_at (json "{'files':[{'path':'a','machines':[{'id':1.5,'name':'b'}]}]}") 0 ≡ 9
unfolding opened
fraction = refl

no_object : member_refusal_at (json "{'files':[null]}") 0 ≡ 9
unfolding opened
no_object = refl

-- below a value of a wrong type nothing is looked at: the machine is no text, and what is twice in it is not seen
not_entered : member_refusal_at (json "{'trace_time':{'clock':'x','machine':{'name':'a','name':'b'}}}") 0 ≡ 9
unfolding opened
not_entered = refl

-- unknown members are not entered, and no rule here asks for `version`, `sync_to` or its `file`, or what `offset_ns` is
passed : member_refusal_at (json " {'x':{'path':1,'path':2},'files':[{'path':'a','clocks':{'offset_ns':'b','sync_to':{}}}]}") 1 ≡ 0
unfolding opened
passed = refl

-- what is no object is no manifest object; where no value stands there is no answer but 0
wrong_type : member_refusal_at (json "[1]") 0 ≡ 9
unfolding opened
wrong_type = refl

no_value : member_refusal_at (json "{'files':}") 0 ≡ 0
unfolding opened
no_value = refl
