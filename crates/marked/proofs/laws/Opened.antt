-- What the inputs are computed with: names for groups of definitions that are opened together. Assumes nothing.
use Rattle.text.specs.Reading.{next, pick, peek, count, run, part, word}
use Rattle.text.specs.Class.{class_of, whitespace, skip, digit}
use Rattle.text.specs.Strings.{hex_of, escape_of, pair_of, quad, low, joined, paired, escape, tail, second, two, three, four, classed, character, utf8, before, onward, characters, string}
use Rattle.text.specs.Numbers.{digits, minus, sign, int, frac, exp, rest, written, number}
use Rattle.grammar.specs.Tree.{list_of_trees, same, get}
use Rattle.grammar.specs.Document.{text_tree, number_tree, literal_tree, array_tree, object_tree, scalar, in_front, after, items, many as many_items, colon, name, bound, named, member, either, value, ending, read}
use Rattle.values.specs.Integer.{broken, decimal, signed, integer}
use Rattle.manifest.specs.View.{is_one, rank, rank_of, beside, join, cell, as_text, as_integer, as_free, as_array, as_object, view}
use Rattle.manifest.specs.Rows.{the, every, onto, is_absent, holds, any, any_at, first_or, flat}
use Rattle.manifest.specs.Rules.{applies, not_1, look, somewhere, emptied, domain, same_id, twice_in, find, no_integer, too_far, cited_or, name_of_id, base, same_machine, same_clock, clock_at, first, root, refusal_5_or_later, refusal, refusal_6_no_version, refusal_7_version_not_1, refusal_8_known_member_twice, refusal_9_wrong_type_or_absent, refusal_10_size, refusal_11_unknown_clock_name, refusal_12_machine_with_machines, refusal_13_empty_machine_name, refusal_14_id_out_of_range, refusal_15_path_or_id_twice, refusal_16_clocks_without_sync_to, refusal_17_machine_without_file, refusal_18_sync_to_without_file, refusal_19_file_names_no_entry, refusal_20_no_machine_of_a_split_file, refusal_21_machine_not_declared, refusal_22_offset_not_an_integer, refusal_23_offset_out_of_range, refusal_24_clock_related_to_itself}
use Rattle.manifest.specs.Meaning.{without, distinct, names_in, number_of, cited, text_or, offset_of, linked, base_of, part as part_of, owns_of, listings, timeline, meant, meaning}
use Rattle.manifest.specs.Manifest.{starts, refusal_in, refusal_of, meaning_in, meaning_of}
use Rattle.bits.specs.Bits as bits
use Rattle.numbers.specs.Numbers as numbers
use Rattle.records.specs.Layout as layout
use Rattle.records.specs.Faults as faults
use Rattle.sheet.specs.Lists as lists
use Rattle.sheet.specs.Twice as twice
use Rattle.sheet.specs.Sheets as sheets
use Rattle.whole.specs.Whole as whole
use Rattle.whole.specs.Pairs as pairs
use Rattle.paths.specs.Paths as paths
use Rattle.graphs.specs.Links as links
use Rattle.graphs.specs.Graphs as graphs
use Rattle.clocks.specs.Answers as answers
use Rattle.clocks.specs.laws.Known as known
use Rattle.merged.specs.Facts as facts
use Rattle.merged.specs.Machines as machines
use Rattle.merged.specs.Refusals as refusals
use Rattle.merged.specs.Timeline as timelines
use Rattle.merged.specs.Merged as merges

-- a manifest, from its bytes to its meaning
unfoldable pub of_manifests : Unit {0}
unfolding pick same get list_of_trees broken decimal signed integer is_one rank rank_of beside join cell as_text as_integer as_free as_array as_object view the every onto is_absent holds any any_at first_or flat applies not_1 look somewhere emptied domain same_id twice_in find no_integer too_far cited_or name_of_id base same_machine same_clock clock_at first root refusal_5_or_later refusal refusal_6_no_version refusal_7_version_not_1 refusal_8_known_member_twice refusal_9_wrong_type_or_absent refusal_10_size refusal_11_unknown_clock_name refusal_12_machine_with_machines refusal_13_empty_machine_name refusal_14_id_out_of_range refusal_15_path_or_id_twice refusal_16_clocks_without_sync_to refusal_17_machine_without_file refusal_18_sync_to_without_file refusal_19_file_names_no_entry refusal_20_no_machine_of_a_split_file refusal_21_machine_not_declared refusal_22_offset_not_an_integer refusal_23_offset_out_of_range refusal_24_clock_related_to_itself without distinct names_in number_of cited text_or offset_of linked base_of part_of owns_of listings timeline meant meaning next peek count run part word class_of whitespace skip digit hex_of escape_of pair_of quad low joined paired escape tail second two three four classed character utf8 before onward characters string digits minus sign int frac exp rest written number text_tree number_tree literal_tree array_tree object_tree scalar in_front after items many_items colon name bound named member either value ending read starts refusal_in refusal_of meaning_in meaning_of
of_manifests = tt

-- a sheet, from its bytes to its records
unfoldable pub of_sheets : Unit {0}
unfolding merges.records_of merges.once pick sheets.sheet_of sheets.records_from faults.step_at faults.step_for layout.record_at layout.record_of layout.pick faults.fault_of faults.after_end layout.bytes_at bits.number twice.again twice.repeats twice.among twice.same_bytes lists.paths_of lists.sources_of
of_sheets = tt

-- the records, to what is known of files and sources, and what 32 to 37 say
unfoldable pub of_facts : Unit {0}
unfolding pick any first_or same same_id lists.files_of lists.sources_of lists.snapshots_of lists.events_of facts.entry_for facts.said facts.tie_from facts.tie_by facts.named_for facts.given_by facts.file_fact facts.file_facts facts.source_fact facts.facts_of machines.sources_in machines.is_silent machines.without machines.distinct machines.by_id machines.ids_by machines.unnamed machines.machine_count machines.unnamed_machine machines.machine_by machines.machine_of machines.machines_of refusals.unused refusals.has_clocks refusals.is_undeclared refusals.is_whole refusals.is_pinned refusals.first_of refusals.refusal_32_path_not_in_sheet refusals.refusal_33_clocks_on_a_container refusals.refusal_34_id_not_declared refusals.refusal_35_machine_on_several_sources refusals.refusal_36_pinned_file_with_a_snapshot refusals.refusal_37_too_many_machines
of_facts = tt

-- these, to clocks, correspondences and trace time
unfoldable pub of_worlds : Unit {0}
unfolding of_facts flat numbers.clock_of numbers.private_of timelines.bits_of timelines.clock_for timelines.link_from timelines.link_of timelines.event_clock timelines.claims timelines.claimed timelines.trace_by timelines.trace_of timelines.world_of
of_worlds = tt

-- a reading, carried along lists
unfoldable pub of_conversions : Unit {0}
unfolding pairs.converted_back pairs.converted pairs.carried_by pairs.place_for pairs.place_from pairs.better pairs.xs_of whole.shifted_of whole.reading
of_conversions = tt

-- a graph and its pairs
unfoldable pub of_graphs : Unit {0}
unfolding known.among known.inside paths.least graphs.joined graphs.along graphs.some graphs.or_guess links.list_of graphs.guess graphs.domains graphs.to_trace graphs.loose numbers.what_is
of_graphs = tt

-- an answer, and its three numbers
unfoldable pub of_answers : Unit {0}
unfolding of_conversions of_graphs answers.ended answers.carried answers.through answers.time_of answers.kind_of answers.steps_of
of_answers = tt
