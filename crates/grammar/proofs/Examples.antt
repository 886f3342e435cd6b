-- Worked examples, by computing. Assumes nothing.
use Rattle.std.specs.Prelude.{◌≡◌, refl, true, [], ◌∷◌, ℕ, zero, suc}
use Rattle.text.specs.Reading.{Text, done, bad, deep, next, pick, peek, count, run, part, word, scan}
use Rattle.text.specs.Class.{class_of, whitespace, skip, digit}
use Rattle.text.specs.Strings.{hex_of, escape_of, pair_of, quad, low, joined, paired, escape, tail, second, two, three, four, classed, character, utf8, before, onward, characters, string}
use Rattle.text.specs.Numbers.{digits, minus, sign, int, frac, exp, rest, written, number}
use Rattle.text.specs.declared.Scan.TheVariants.{Done}
use Rattle.grammar.specs.Tree.{bool, num, arr, obj, no_members, one_member, no_trees, one_tree, same, get}
use Rattle.grammar.specs.Document.{text_tree, number_tree, literal_tree, array_tree, object_tree, scalar, in_front, after, items, many, colon, name, bound, named, member, either, value, ending, read}

-- what the examples compute with
opened : Unit {0}
unfolding next pick peek count run part word scan class_of whitespace skip digit hex_of escape_of pair_of quad low joined paired escape tail second two three four classed character utf8 before onward characters string digits minus sign int frac exp rest written number text_tree number_tree literal_tree array_tree object_tree scalar in_front after items many colon name bound named member either value ending read
opened = tt

-- {"a":[true]}
small : read (123 ∷ 34 ∷ 97 ∷ 34 ∷ 58 ∷ 91 ∷ 116 ∷ 114 ∷ 117 ∷ 101 ∷ 93 ∷ 125 ∷ []) ≡ done (obj (one_member (97 ∷ []) (arr (one_tree (bool true) no_trees)) no_members)) 12
unfolding opened
small = refl

-- n brackets, opened and closed
brackets : ℕ → Text → Text
brackets zero rest = rest
brackets (suc n) rest = 91 ∷ brackets n (93 ∷ rest)

sixteen : scan (read (brackets 16 [])) ≡ Done 32
unfolding opened brackets
sixteen = refl

seventeen : read (brackets 17 []) ≡ deep 16
unfolding opened brackets
seventeen = refl

-- a comma before the closing bracket: [1,]
comma_before_close : read (91 ∷ 49 ∷ 44 ∷ 93 ∷ []) ≡ bad 3
unfolding opened
comma_before_close = refl

-- text after the document: {} x
text_after : read (123 ∷ 125 ∷ 32 ∷ 120 ∷ []) ≡ bad 3
unfolding opened
text_after = refl

-- no colon: {"a" 1}
no_colon : read (123 ∷ 34 ∷ 97 ∷ 34 ∷ 32 ∷ 49 ∷ 125 ∷ []) ≡ bad 5
unfolding opened
no_colon = refl

-- a brace that closes a bracket: [}
wrong_close : read (91 ∷ 125 ∷ []) ≡ bad 1
unfolding opened
wrong_close = refl

-- an end too early: [
cut_off : read (91 ∷ []) ≡ bad 1
unfolding opened
cut_off = refl

-- a bracket where no value may stand opens nothing: 1[
no_place : read (49 ∷ 91 ∷ []) ≡ bad 1
unfolding opened
no_place = refl

-- {"a":1,"b":2,"a":3} has two values with the name a, in this order
repeated : get (97 ∷ []) (one_member (97 ∷ []) (num (49 ∷ [])) (one_member (98 ∷ []) (num (50 ∷ [])) (one_member (97 ∷ []) (num (51 ∷ [])) no_members))) ≡ num (49 ∷ []) ∷ num (51 ∷ []) ∷ []
unfolding get same pick
repeated = refl
