-- Worked examples, by computing. Assumes nothing.
use Rattle.std.specs.Prelude.{◌≡◌, refl}
use Rattle.text.specs.Reading.{next, pick, peek, count, run, part, word}
use Rattle.text.specs.Class.{class_of, whitespace, skip, digit}
use Rattle.text.specs.Strings.{hex_of, escape_of, pair_of, quad, low, joined, paired, escape, tail, second, two, three, four, classed, character, utf8, before, onward, characters, string}
use Rattle.text.specs.Numbers.{digits, minus, sign, int, frac, exp, rest, written, number}
use Rattle.grammar.specs.Tree.{same}
use Rattle.grammar.specs.Document.{text_tree, number_tree, literal_tree, array_tree, object_tree, scalar, in_front, after, items, many, colon, name, bound, named, member, either, value}
use Rattle.values.specs.Stands.{kind_by, kind_at}
use Rattle.values.specs.Integer.{broken, decimal, signed, integer, ranged, integer_in, integer_at}
use Rattle.places.specs.Places.{place, item_place, named_place, value_place, member_place, listed, members_at, places_of, entry_of, entry_from, first_member, next_member}
use Rattle.manifest.specs.Names.{bytes}
use Rattle.manifest.specs.Rows.{any, first_or}
use Rattle.manifest.specs.Rules.{domain}
use Rattle.outline.specs.declared.Standing.TheVariants.{At, Refused}
use Rattle.outline.specs.Outline.{object_at, alone, root_from, root_at, is_1, not_1_at, version_places, versions_by, versions_at, text_in, text_at, domain_at}

-- what the examples compute with
opened : Unit {0}
unfolding next pick peek count run part word class_of whitespace skip digit hex_of escape_of pair_of quad low joined paired escape tail second two three four classed character utf8 before onward characters string digits minus sign int frac exp rest written number same text_tree number_tree literal_tree array_tree object_tree scalar in_front after items many colon name bound named member either value kind_by kind_at broken decimal signed integer ranged integer_in integer_at place item_place named_place value_place member_place listed members_at places_of entry_of entry_from first_member next_member any first_or domain object_at alone root_from root_at is_1 not_1_at version_places versions_by versions_at text_in text_at domain_at
opened = tt

-- ---- the manifest object

-- after whitespace, at 22
one_object : root_at (bytes " {\"perfetto_manifest\":{}}") ≡ At 22
unfolding opened
one_object = refl

a_second_member : root_at (bytes "{\"a\":{},\"b\":1}") ≡ Refused
unfolding opened
a_second_member = refl

an_array : root_at (bytes "{\"a\":[]}") ≡ Refused
unfolding opened
an_array = refl

no_member : root_at (bytes "{}") ≡ Refused
unfolding opened
no_member = refl

-- ---- versions

the_version : versions_at (bytes "{\"version\":1}") 0 ≡ 0
unfolding opened
the_version = refl

no_version : versions_at (bytes "{\"versions\":1}") 0 ≡ 6
unfolding opened
no_version = refl

-- any of them counts
a_second_version : versions_at (bytes "{\"version\":1,\"version\":2}") 0 ≡ 7
unfolding opened
a_second_version = refl

a_first_version : versions_at (bytes "{\"version\":2,\"version\":1}") 0 ≡ 7
unfolding opened
a_first_version = refl

-- 1.0 has a fraction, and "1" is a string
a_fraction : versions_at (bytes "{\"version\":1.0}") 0 ≡ 7
unfolding opened
a_fraction = refl

a_string : versions_at (bytes "{\"version\":\"1\"}") 0 ≡ 7
unfolding opened
a_string = refl

-- a version of an object inside is none of the manifest's
not_inside : versions_at (bytes "{\"a\":{\"version\":2},\"version\":1}") 0 ≡ 0
unfolding opened
not_inside = refl

-- ---- clocks' names

monotonic : domain_at (bytes "\"MONOTONIC\"") 0 ≡ 3
unfolding opened
monotonic = refl

-- the B of "BOOTTIME" as an escape
escaped : domain_at (bytes "\"\\u0042OOTTIME\"") 0 ≡ 6
unfolding opened
escaped = refl

small_letters : domain_at (bytes "\"boottime\"") 0 ≡ 0
unfolding opened
small_letters = refl

a_number : domain_at (bytes "1") 0 ≡ 0
unfolding opened
a_number = refl
