-- Worked examples, by computing. Assumes nothing.
use Rattle.std.specs.Prelude.{◌≡◌, refl, [], ◌∷◌, ◌++◌, map, eqb, ℕ, zero, suc, pos}
use Prim.Native.String.{String}
use Rattle.text.specs.Reading.{Text, next, pick, peek, count, run, part, word}
use Rattle.text.specs.Class.{class_of, whitespace, skip, digit}
use Rattle.text.specs.Strings.{hex_of, escape_of, pair_of, quad, low, joined, paired, escape, tail, second, two, three, four, classed, character, utf8, before, onward, characters, string}
use Rattle.text.specs.Numbers.{digits, minus, sign, int, frac, exp, rest, written, number}
use Rattle.grammar.specs.Tree.{list_of_trees, same, get}
use Rattle.grammar.specs.Document.{text_tree, number_tree, literal_tree, array_tree, object_tree, scalar, in_front, after, items, many as many_items, colon, name, bound, named, member, either, value, ending, read}
use Rattle.values.specs.Integer.{broken, decimal, signed, integer}
use Rattle.manifest.specs.declared.Cited.TheVariants.{Private, Domain}
use Rattle.manifest.specs.declared.Link.TheVariants.{Unrelated, Related}
use Rattle.manifest.specs.declared.Timeline.TheVariants.{Unset, Set}
use Rattle.manifest.specs.Names.{bytes}
use Rattle.manifest.specs.View.{is_one, rank, rank_of, beside, join, cell, as_text, as_integer, as_free, as_array, as_object, view}
use Rattle.manifest.specs.Rows.{the, every, onto, is_absent, holds, any, any_at, first_or, flat}
use Rattle.manifest.specs.Rules.{applies, not_1, look, somewhere, emptied, domain, same_id, twice_in, find, no_integer, too_far, cited_or, name_of_id, base, same_machine, same_clock, clock_at, first, root, refusal_5_or_later, refusal, refusal_6_no_version, refusal_7_version_not_1, refusal_8_known_member_twice, refusal_9_wrong_type_or_absent, refusal_10_size, refusal_11_unknown_clock_name, refusal_12_machine_with_machines, refusal_13_empty_machine_name, refusal_14_id_out_of_range, refusal_15_path_or_id_twice, refusal_16_clocks_without_sync_to, refusal_17_machine_without_file, refusal_18_sync_to_without_file, refusal_19_file_names_no_entry, refusal_20_no_machine_of_a_split_file, refusal_21_machine_not_declared, refusal_22_offset_not_an_integer, refusal_23_offset_out_of_range, refusal_24_clock_related_to_itself}
use Rattle.manifest.specs.Meaning.{without, distinct, names_in, number_of, cited, nothing, whole_file, parts, text_or, offset_of, linked, base_of, part as part_of, owns_of, listings, timeline, nothing_said, meant, meaning}
use Rattle.manifest.specs.Manifest.{starts, refusal_in, refusal_of, meaning_in, meaning_of}

-- what the examples compute with: from a tree on, and from bytes on
of_trees : Unit {0}
unfolding pick same get list_of_trees broken decimal signed integer is_one rank rank_of beside join cell as_text as_integer as_free as_array as_object view the every onto is_absent holds any any_at first_or flat applies not_1 look somewhere emptied domain same_id twice_in find no_integer too_far cited_or name_of_id base same_machine same_clock clock_at first root refusal_5_or_later refusal refusal_6_no_version refusal_7_version_not_1 refusal_8_known_member_twice refusal_9_wrong_type_or_absent refusal_10_size refusal_11_unknown_clock_name refusal_12_machine_with_machines refusal_13_empty_machine_name refusal_14_id_out_of_range refusal_15_path_or_id_twice refusal_16_clocks_without_sync_to refusal_17_machine_without_file refusal_18_sync_to_without_file refusal_19_file_names_no_entry refusal_20_no_machine_of_a_split_file refusal_21_machine_not_declared refusal_22_offset_not_an_integer refusal_23_offset_out_of_range refusal_24_clock_related_to_itself without distinct names_in number_of cited text_or offset_of linked base_of part_of owns_of listings timeline meant meaning
of_trees = tt

of_bytes : Unit {0}
unfolding of_trees next peek count run part word class_of whitespace skip digit hex_of escape_of pair_of quad low joined paired escape tail second two three four classed character utf8 before onward characters string digits minus sign int frac exp rest written number text_tree number_tree literal_tree array_tree object_tree scalar in_front after items many_items colon name bound named member either value ending read starts refusal_in refusal_of meaning_in meaning_of
of_bytes = tt

-- ---- bytes

-- JSON with ' for the quote
abbrev json : String → Text
json s = map (λ b. pick (eqb b 39) 34 b) (bytes s)

-- a document whose manifest object has these members; and these besides `version` 1
abbrev doc : String → Text
doc s = json "{'perfetto_manifest':{" ++ (json s ++ json "}}")

abbrev doc_1 : String → Text
doc_1 s = json "{'perfetto_manifest':{'version':1," ++ (json s ++ json "}}")

-- one whose `files` has these items
abbrev listing : String → Text
listing s = json "{'perfetto_manifest':{'version':1,'files':[" ++ (json s ++ json "]}}")

-- this many times
abbrev times : ℕ → Text → Text
times zero s = []
times (suc n) s = s ++ times n s

-- document 000's example, without the line break after the first brace
abbrev example : Text
example =
    json "{'perfetto_manifest': {\n'version': 1,\n'trace_time': {'clock': 'BOOTTIME'},\n'files': [\n"
    ++ (json "{'path': 'phone.pftrace', 'machine': {'name': 'phone'}},\n{'path': 'watch.pftrace', 'machine': {'name': 'watch'}},\n"
    ++ json "{\n'path': 'app_log.json',\n'clocks': {\n'sync_to': {'file': 'phone.pftrace', 'clock': 'BOOTTIME'},\n'offset_ns': 250000000\n}\n}\n]\n}\n}")

example_accepted : refusal_of example ≡ 0
unfolding of_bytes
example_accepted = refl

-- phone is machine 1, watch 2; the log's private clock reads 250000000 less than the phone's BOOTTIME; trace time is the host's BOOTTIME
example_means : meaning_of example ≡ record {
  listed =
      record { path = bytes "phone.pftrace"; owns = whole_file (record { 0 = 1 }); base = record { 0 = 1 }; link = Unrelated }
      ∷ record { path = bytes "watch.pftrace"; owns = whole_file (record { 0 = 2 }); base = record { 0 = 2 }; link = Unrelated }
      ∷ record {
        path = bytes "app_log.json";
        owns = nothing;
        base = record { 0 = 0 };
        link = Related (record { from = Private 2; to = Domain 6 (record { 0 = 1 }); offset = pos 250000000 });
      }
      ∷ [];
  trace = Set 6 (record { 0 = 0 });
  names = bytes "phone" ∷ bytes "watch" ∷ [];
}
unfolding of_bytes
example_means = refl

-- no bytes are no manifest
nothing_given : refusal_of [] ≡ 0
unfolding of_bytes
nothing_given = refl

nothing_meant : meaning_of [] ≡ nothing_said
unfolding of_bytes
nothing_meant = refl

-- 2: as document 000 prints it
line_break : refusal_of (json "{\n'perfetto_manifest':{'version':1}}") ≡ 2
unfolding of_bytes
line_break = refl

blank_alone : refusal_of (json " ") ≡ 2
unfolding of_bytes
blank_alone = refl

leading_whitespace : refusal_of (json " \t\r\n{'perfetto_manifest':{'version':1}}") ≡ 0
unfolding of_bytes
leading_whitespace = refl

-- literally: an escape in the start bytes is 2, deeper it is not
escaped_start : refusal_of (json "{'\\u0070erfetto_manifest':{'version':1}}") ≡ 2
unfolding of_bytes
escaped_start = refl

escaped_deeper : refusal_of (json "{'perfetto_manifest':{'v\\u0065rsion':1}}") ≡ 0
unfolding of_bytes
escaped_deeper = refl

-- 3, and 3 against 4 by the earlier byte
cut_off : refusal_of (json "{'perfetto_manifest'") ≡ 3
unfolding of_bytes
cut_off = refl

seventeen : refusal_of (json "{'perfetto_manifest':{'x':[[[[[[[[[[[[[[[1]]]]]]]]]]]]]]]}}") ≡ 4
unfolding of_bytes
seventeen = refl

sixteen : refusal_of (json "{'perfetto_manifest':{'version':1,'x':[[[[[[[[[[[[[[1]]]]]]]]]]]]]]}}") ≡ 0
unfolding of_bytes
sixteen = refl

bad_before_deep : refusal_of (json "{'perfetto_manifest':{'y':01,'x':[[[[[[[[[[[[[[[1]]]]]]]]]]]]]]]}}") ≡ 3
unfolding of_bytes
bad_before_deep = refl

-- 5
second_member : refusal_of (json "{'perfetto_manifest':{'version':1},'perfetto_manifest':{'version':1}}") ≡ 5
unfolding of_bytes
second_member = refl

no_object : refusal_of (json "{'perfetto_manifest':1}") ≡ 5
unfolding of_bytes
no_object = refl

-- 6 and 7; of two versions any one
no_version : refusal_of (doc "'Version':1") ≡ 6
unfolding of_bytes
no_version = refl

version_2 : refusal_of (doc "'version':2") ≡ 7
unfolding of_bytes
version_2 = refl

version_minus_zero : refusal_of (doc "'version':-0") ≡ 7
unfolding of_bytes
version_minus_zero = refl

version_text : refusal_of (doc "'version':'1'") ≡ 7
unfolding of_bytes
version_text = refl

version_fraction : refusal_of (doc "'version':1.0") ≡ 7
unfolding of_bytes
version_fraction = refl

versions_1_2 : refusal_of (doc "'version':1,'version':2") ≡ 7
unfolding of_bytes
versions_1_2 = refl

versions_2_1 : refusal_of (doc "'version':2,'version':1") ≡ 7
unfolding of_bytes
versions_2_1 = refl

versions_1_1 : refusal_of (doc "'version':1,'version':1") ≡ 8
unfolding of_bytes
versions_1_1 = refl

-- 8 before 9, in both orders; names after unescaping
path_and_no_path : refusal_of (listing "{'path':'p','path':1}") ≡ 8
unfolding of_bytes
path_and_no_path = refl

no_path_and_path : refusal_of (listing "{'path':1,'p\\u0061th':'p'}") ≡ 8
unfolding of_bytes
no_path_and_path = refl

-- 9
path_missing : refusal_of (listing "{'machine':{'name':'m'}}") ≡ 9
unfolding of_bytes
path_missing = refl

path_null : refusal_of (listing "{'path':null}") ≡ 9
unfolding of_bytes
path_null = refl

id_fraction : refusal_of (listing "{'path':'p','machines':[{'id':0.0,'name':'m'}]}") ≡ 9
unfolding of_bytes
id_fraction = refl

machine_an_array : refusal_of (listing "{'path':'p','machine':['name']}") ≡ 9
unfolding of_bytes
machine_an_array = refl

sync_to_text : refusal_of (listing "{'path':'p','clocks':{'sync_to':'q'}}") ≡ 9
unfolding of_bytes
sync_to_text = refl

-- an object in the place of a text has no known members: no 8 from inside it
machine_in_trace_time : refusal_of (doc_1 "'trace_time':{'clock':'BOOTTIME','machine':{'name':1,'name':1}}") ≡ 9
unfolding of_bytes
machine_in_trace_time = refl

-- items that are objects are looked at beside items that are not
item_beside : refusal_of (listing "1,{'path':'p','path':'p'}") ≡ 8
unfolding of_bytes
item_beside = refl

-- unknown members, also repeated, with known names inside
unknown_repeated : refusal_of (listing "{'note':1,'path':'p','note':{'path':'p','path':'p','offset_ns':null}}") ≡ 0
unfolding of_bytes
unknown_repeated = refl

-- 10: 33 entries; of 32 the next rule is heard, since their paths are one
entries_33 : refusal_of (json "{'perfetto_manifest':{'version':1,'files':[{'path':'p'}" ++ (times 32 (json ",{'path':'p'}") ++ json "]}}")) ≡ 10
unfolding of_bytes
entries_33 = refl

entries_32 : refusal_of (json "{'perfetto_manifest':{'version':1,'files':[{'path':'p'}" ++ (times 31 (json ",{'path':'p'}") ++ json "]}}")) ≡ 15
unfolding of_bytes
entries_32 = refl

-- a name of 65 bytes, and one of 64
name_65 : refusal_of (json "{'perfetto_manifest':{'version':1,'files':[{'path':'p','machine':{'name':'" ++ (times 65 (bytes "n") ++ json "'}}]}}")) ≡ 10
unfolding of_bytes
name_65 = refl

name_64 : refusal_of (json "{'perfetto_manifest':{'version':1,'files':[{'path':'p','machine':{'name':'" ++ (times 64 (bytes "n") ++ json "'}}]}}")) ≡ 0
unfolding of_bytes
name_64 = refl

-- 10, also where a path or machine is only cited
path_empty : refusal_of (listing "{'path':''}") ≡ 10
unfolding of_bytes
path_empty = refl

file_empty : refusal_of (doc_1 "'trace_time':{'file':'','clock':'boottime'}") ≡ 10
unfolding of_bytes
file_empty = refl

machine_empty : refusal_of (listing "{'path':'p','clocks':{'machine':'','sync_to':{'file':'p'}}}") ≡ 10
unfolding of_bytes
machine_empty = refl

-- 11
clock_unknown : refusal_of (doc_1 "'trace_time':{'clock':'boottime'}") ≡ 11
unfolding of_bytes
clock_unknown = refl

-- 12, by presence
machine_with_machines : refusal_of (listing "{'path':'p','machine':{'name':'m'},'machines':[]}") ≡ 12
unfolding of_bytes
machine_with_machines = refl

-- 13
name_empty : refusal_of (listing "{'path':'p','machine':{'name':''}}") ≡ 13
unfolding of_bytes
name_empty = refl

-- 14
id_4294967295 : refusal_of (listing "{'path':'p','machines':[{'id':4294967295,'name':'m'}]}") ≡ 0
unfolding of_bytes
id_4294967295 = refl

id_4294967296 : refusal_of (listing "{'path':'p','machines':[{'id':4294967296,'name':'m'}]}") ≡ 14
unfolding of_bytes
id_4294967296 = refl

id_minus_1 : refusal_of (listing "{'path':'p','machines':[{'id':-1,'name':'m'}]}") ≡ 14
unfolding of_bytes
id_minus_1 = refl

-- 15; 0 and -0 are one id, equal names are no matter
path_twice : refusal_of (listing "{'path':'p'},{'path':'\\u0070'}") ≡ 15
unfolding of_bytes
path_twice = refl

id_twice : refusal_of (listing "{'path':'p','machines':[{'id':0,'name':'m'},{'id':-0,'name':'n'}]}") ≡ 15
unfolding of_bytes
id_twice = refl

name_twice : refusal_of (listing "{'path':'p','machines':[{'id':0,'name':'m'},{'id':1,'name':'m'}]}") ≡ 0
unfolding of_bytes
name_twice = refl

-- 16 before 22
sync_to_absent : refusal_of (listing "{'path':'p','clocks':{'offset_ns':0.5}}") ≡ 16
unfolding of_bytes
sync_to_absent = refl

-- 17 and not 18
machine_alone : refusal_of (listing "{'path':'p','clocks':{'sync_to':{'machine':'m'}}}") ≡ 17
unfolding of_bytes
machine_alone = refl

machine_alone_trace : refusal_of (doc_1 "'trace_time':{'clock':'BOOTTIME','machine':'m'}") ≡ 17
unfolding of_bytes
machine_alone_trace = refl

-- 18
file_absent : refusal_of (listing "{'path':'p','clocks':{'sync_to':{}}}") ≡ 18
unfolding of_bytes
file_absent = refl

-- 19
file_unknown : refusal_of (listing "{'path':'p','clocks':{'sync_to':{'file':'q'}}}") ≡ 19
unfolding of_bytes
file_unknown = refl

file_unknown_trace : refusal_of (doc_1 "'trace_time':{'clock':'BOOTTIME','file':'q'}") ≡ 19
unfolding of_bytes
file_unknown_trace = refl

-- 20, with a `clock` and without, for [] too, and before 21
split_own : refusal_of (listing "{'path':'p','machines':[],'clocks':{'sync_to':{'file':'p','machine':'m'}}}") ≡ 20
unfolding of_bytes
split_own = refl

split_own_clock : refusal_of (listing "{'path':'p','machines':[{'id':0,'name':'m'}],'clocks':{'clock':'BOOTTIME','sync_to':{'file':'p','machine':'m'}}}") ≡ 20
unfolding of_bytes
split_own_clock = refl

split_reference : refusal_of (listing "{'path':'p','machines':[{'id':0,'name':'m'}],'clocks':{'machine':'m','sync_to':{'file':'p'}}}") ≡ 20
unfolding of_bytes
split_reference = refl

-- and not for `trace_time`, which takes the base machine
split_trace : refusal_of (listing "{'path':'p','machines':[{'id':0,'name':'m'}]}],'trace_time':{'clock':'BOOTTIME','file':'p'},'x':[") ≡ 0
unfolding of_bytes
split_trace = refl

-- 21
not_declared : refusal_of (listing "{'path':'p','clocks':{'machine':'m','sync_to':{'file':'p'}}}") ≡ 21
unfolding of_bytes
not_declared = refl

-- 22
offset_null : refusal_of (listing "{'path':'p','clocks':{'clock':'BOOTTIME','sync_to':{'file':'p'},'offset_ns':null}}") ≡ 22
unfolding of_bytes
offset_null = refl

-- 23; here a named clock is related to the private one of the same file
offset_lowest : refusal_of (listing "{'path':'p','clocks':{'clock':'BOOTTIME','sync_to':{'file':'p'},'offset_ns':-9223372036854775808}}") ≡ 23
unfolding of_bytes
offset_lowest = refl

offset_low : refusal_of (listing "{'path':'p','clocks':{'clock':'BOOTTIME','sync_to':{'file':'p'},'offset_ns':-9223372036854775807}}") ≡ 0
unfolding of_bytes
offset_low = refl

offset_high : refusal_of (listing "{'path':'p','clocks':{'clock':'BOOTTIME','sync_to':{'file':'p'},'offset_ns':9223372036854775807}}") ≡ 0
unfolding of_bytes
offset_high = refl

offset_too_high : refusal_of (listing "{'path':'p','clocks':{'clock':'BOOTTIME','sync_to':{'file':'p'},'offset_ns':9223372036854775808}}") ≡ 23
unfolding of_bytes
offset_too_high = refl

-- 24; two files on the host are on one machine, also by a base machine, and a machine named host is another
pinned_to_itself : refusal_of (listing "{'path':'p','clocks':{'sync_to':{'file':'p'}}}") ≡ 24
unfolding of_bytes
pinned_to_itself = refl

both_on_the_host : refusal_of (listing "{'path':'p','clocks':{'clock':'BOOTTIME','sync_to':{'clock':'BOOTTIME','file':'q'}}},{'path':'q'}") ≡ 24
unfolding of_bytes
both_on_the_host = refl

both_on_one_base : refusal_of (listing "{'path':'p','machine':{'name':'m'},'clocks':{'clock':'BOOTTIME','sync_to':{'clock':'BOOTTIME','file':'q','machine':'m'}}},{'path':'q','machines':[{'id':0,'name':'m'}]}") ≡ 24
unfolding of_bytes
both_on_one_base = refl

two_domains : refusal_of (listing "{'path':'p','clocks':{'clock':'BOOTTIME','sync_to':{'clock':'REALTIME','file':'q'}}},{'path':'q'}") ≡ 0
unfolding of_bytes
two_domains = refl

named_host : refusal_of (listing "{'path':'p','machine':{'name':'host'},'clocks':{'clock':'BOOTTIME','sync_to':{'clock':'BOOTTIME','file':'q'}}},{'path':'q'}") ≡ 0
unfolding of_bytes
named_host = refl

-- a split file: its base machine is the one named for id 0, machines are numbered by names in entry and item order
split_means : meaning_of (listing "{'path':'p','machines':[{'id':7,'name':'b'},{'name':'a','id':-0}]},{'path':'q','machine':{'name':'b'},'clocks':{'clock':'MONOTONIC','sync_to':{'file':'p','machine':'a','clock':'REALTIME'}}}") ≡ record {
  listed =
      record { path = bytes "p"; owns = parts ((pos 7, record { 0 = 1 }) ∷ ((pos 0, record { 0 = 2 }) ∷ [])); base = record { 0 = 2 }; link = Unrelated }
      ∷ record {
        path = bytes "q";
        owns = whole_file (record { 0 = 1 });
        base = record { 0 = 1 };
        link = Related (record { from = Domain 3 (record { 0 = 1 }); to = Domain 1 (record { 0 = 2 }); offset = pos 0 });
      }
      ∷ [];
  trace = Unset;
  names = bytes "b" ∷ bytes "a" ∷ [];
}
unfolding of_bytes
split_means = refl
