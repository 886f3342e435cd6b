-- `cited::first_rule` meets its contract: the rules are asked in their order.
-- Assumes nothing.
use Rattle.index.specs.Index.{manifest_of}
use Rattle.cited.proofs.laws.Order.{is_19, is_20, is_21, is_22, is_23, is_24, is_0}
use Rattle.cited.proofs.first_rule.Goals as goal

pub refusal_19_file_names_no_entry-requires : goal.refusal_19_file_names_no_entry-requires
refusal_19_file_names_no_entry-requires c = (c.requires.0, c.requires.1)

pub returns-then-refusal_19_file_names_no_entry : goal.returns-then-refusal_19_file_names_no_entry
returns-then-refusal_19_file_names_no_entry c = is_19 (manifest_of c.args.s.now c.args.ix.now) c.refusal_19_file_names_no_entry.ensures c.if-refusal_19_file_names_no_entry.true

pub refusal_20_no_machine_of_a_split_file-requires : goal.refusal_20_no_machine_of_a_split_file-requires
refusal_20_no_machine_of_a_split_file-requires c = c.requires.0

pub returns-then-refusal_20_no_machine_of_a_split_file : goal.returns-then-refusal_20_no_machine_of_a_split_file
returns-then-refusal_20_no_machine_of_a_split_file c = is_20 (manifest_of c.args.s.now c.args.ix.now) c.refusal_19_file_names_no_entry.ensures c.if-refusal_19_file_names_no_entry.false c.refusal_20_no_machine_of_a_split_file.ensures c.if-refusal_20_no_machine_of_a_split_file.true

pub refusal_21_machine_not_declared-requires : goal.refusal_21_machine_not_declared-requires
refusal_21_machine_not_declared-requires c = (c.requires.0, c.requires.1)

pub returns-then-refusal_21_machine_not_declared : goal.returns-then-refusal_21_machine_not_declared
returns-then-refusal_21_machine_not_declared c = is_21 (manifest_of c.args.s.now c.args.ix.now) c.refusal_19_file_names_no_entry.ensures c.if-refusal_19_file_names_no_entry.false c.refusal_20_no_machine_of_a_split_file.ensures c.if-refusal_20_no_machine_of_a_split_file.false c.refusal_21_machine_not_declared.ensures c.if-refusal_21_machine_not_declared.true

pub returns-then-refusal_22_offset_not_an_integer : goal.returns-then-refusal_22_offset_not_an_integer
returns-then-refusal_22_offset_not_an_integer c = is_22 (manifest_of c.args.s.now c.args.ix.now) c.refusal_19_file_names_no_entry.ensures c.if-refusal_19_file_names_no_entry.false c.refusal_20_no_machine_of_a_split_file.ensures c.if-refusal_20_no_machine_of_a_split_file.false c.refusal_21_machine_not_declared.ensures c.if-refusal_21_machine_not_declared.false c.refusal_22_offset_not_an_integer.ensures c.if-refusal_22_offset_not_an_integer.true

pub returns-then-refusal_23_offset_out_of_range : goal.returns-then-refusal_23_offset_out_of_range
returns-then-refusal_23_offset_out_of_range c = is_23 (manifest_of c.args.s.now c.args.ix.now) c.refusal_19_file_names_no_entry.ensures c.if-refusal_19_file_names_no_entry.false c.refusal_20_no_machine_of_a_split_file.ensures c.if-refusal_20_no_machine_of_a_split_file.false c.refusal_21_machine_not_declared.ensures c.if-refusal_21_machine_not_declared.false c.refusal_22_offset_not_an_integer.ensures c.if-refusal_22_offset_not_an_integer.false c.refusal_23_offset_out_of_range.ensures c.if-refusal_23_offset_out_of_range.true

pub refusal_24_clock_related_to_itself-requires : goal.refusal_24_clock_related_to_itself-requires
refusal_24_clock_related_to_itself-requires c = (c.requires.0, c.requires.2)

pub returns-then-refusal_24_clock_related_to_itself : goal.returns-then-refusal_24_clock_related_to_itself
returns-then-refusal_24_clock_related_to_itself c = is_24 (manifest_of c.args.s.now c.args.ix.now) c.refusal_19_file_names_no_entry.ensures c.if-refusal_19_file_names_no_entry.false c.refusal_20_no_machine_of_a_split_file.ensures c.if-refusal_20_no_machine_of_a_split_file.false c.refusal_21_machine_not_declared.ensures c.if-refusal_21_machine_not_declared.false c.refusal_22_offset_not_an_integer.ensures c.if-refusal_22_offset_not_an_integer.false c.refusal_23_offset_out_of_range.ensures c.if-refusal_23_offset_out_of_range.false c.refusal_24_clock_related_to_itself.ensures c.if-refusal_24_clock_related_to_itself.true

pub returns : goal.returns
returns c = is_0 (manifest_of c.args.s.now c.args.ix.now) c.refusal_19_file_names_no_entry.ensures c.if-refusal_19_file_names_no_entry.false c.refusal_20_no_machine_of_a_split_file.ensures c.if-refusal_20_no_machine_of_a_split_file.false c.refusal_21_machine_not_declared.ensures c.if-refusal_21_machine_not_declared.false c.refusal_22_offset_not_an_integer.ensures c.if-refusal_22_offset_not_an_integer.false c.refusal_23_offset_out_of_range.ensures c.if-refusal_23_offset_out_of_range.false c.refusal_24_clock_related_to_itself.ensures c.if-refusal_24_clock_related_to_itself.false
