-- `checks::refusal` meets its contract: the first check that applies, each judged after those before it did not.
-- Assumes nothing.
use Rattle.checks.specs.Table.{facts_by}
use Rattle.checks.specs.laws.Told.{first_32, first_33, first_34, first_35, first_36, first_37, first_none}
use Rattle.checks.proofs.refusal.Goals as goal

pub returns-then-refusal_32_path_not_in_sheet : goal.returns-then-refusal_32_path_not_in_sheet
returns-then-refusal_32_path_not_in_sheet c = first_32 (facts_by c.args.t.now) c.refusal_32_path_not_in_sheet.ensures c.if-refusal_32_path_not_in_sheet.true

pub returns-then-refusal_33_clocks_on_a_container : goal.returns-then-refusal_33_clocks_on_a_container
returns-then-refusal_33_clocks_on_a_container c = first_33 (facts_by c.args.t.now) c.refusal_32_path_not_in_sheet.ensures c.if-refusal_32_path_not_in_sheet.false c.refusal_33_clocks_on_a_container.ensures c.if-refusal_33_clocks_on_a_container.true

pub returns-then-refusal_34_id_not_declared : goal.returns-then-refusal_34_id_not_declared
returns-then-refusal_34_id_not_declared c = first_34 (facts_by c.args.t.now) c.refusal_32_path_not_in_sheet.ensures c.if-refusal_32_path_not_in_sheet.false c.refusal_33_clocks_on_a_container.ensures c.if-refusal_33_clocks_on_a_container.false c.refusal_34_id_not_declared.ensures c.if-refusal_34_id_not_declared.true

pub returns-then-refusal_35_machine_on_several_sources : goal.returns-then-refusal_35_machine_on_several_sources
returns-then-refusal_35_machine_on_several_sources c = first_35 (facts_by c.args.t.now) c.refusal_32_path_not_in_sheet.ensures c.if-refusal_32_path_not_in_sheet.false c.refusal_33_clocks_on_a_container.ensures c.if-refusal_33_clocks_on_a_container.false c.refusal_34_id_not_declared.ensures c.if-refusal_34_id_not_declared.false c.refusal_35_machine_on_several_sources.ensures c.if-refusal_35_machine_on_several_sources.true

pub returns-then-refusal_36_pinned_file_with_a_snapshot : goal.returns-then-refusal_36_pinned_file_with_a_snapshot
returns-then-refusal_36_pinned_file_with_a_snapshot c = first_36 (facts_by c.args.t.now) c.refusal_32_path_not_in_sheet.ensures c.if-refusal_32_path_not_in_sheet.false c.refusal_33_clocks_on_a_container.ensures c.if-refusal_33_clocks_on_a_container.false c.refusal_34_id_not_declared.ensures c.if-refusal_34_id_not_declared.false c.refusal_35_machine_on_several_sources.ensures c.if-refusal_35_machine_on_several_sources.false c.refusal_36_pinned_file_with_a_snapshot.ensures c.if-refusal_36_pinned_file_with_a_snapshot.true

pub returns-then-refusal_37_too_many_machines : goal.returns-then-refusal_37_too_many_machines
returns-then-refusal_37_too_many_machines c = first_37 (facts_by c.args.t.now) c.refusal_32_path_not_in_sheet.ensures c.if-refusal_32_path_not_in_sheet.false c.refusal_33_clocks_on_a_container.ensures c.if-refusal_33_clocks_on_a_container.false c.refusal_34_id_not_declared.ensures c.if-refusal_34_id_not_declared.false c.refusal_35_machine_on_several_sources.ensures c.if-refusal_35_machine_on_several_sources.false c.refusal_36_pinned_file_with_a_snapshot.ensures c.if-refusal_36_pinned_file_with_a_snapshot.false c.refusal_37_too_many_machines.ensures c.if-refusal_37_too_many_machines.true

pub returns : goal.returns
returns c = first_none (facts_by c.args.t.now) c.refusal_32_path_not_in_sheet.ensures c.if-refusal_32_path_not_in_sheet.false c.refusal_33_clocks_on_a_container.ensures c.if-refusal_33_clocks_on_a_container.false c.refusal_34_id_not_declared.ensures c.if-refusal_34_id_not_declared.false c.refusal_35_machine_on_several_sources.ensures c.if-refusal_35_machine_on_several_sources.false c.refusal_36_pinned_file_with_a_snapshot.ensures c.if-refusal_36_pinned_file_with_a_snapshot.false c.refusal_37_too_many_machines.ensures c.if-refusal_37_too_many_machines.false
