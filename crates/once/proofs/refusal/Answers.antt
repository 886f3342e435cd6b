-- `once::refusal` meets its contract: the five rules are asked in the order of their numbers, and the first that applies gives its own. 15 is asked of paths, which are told, and of ids.
-- Assumes nothing.
use Rattle.index.specs.Index.{manifest_of}
use Rattle.once.proofs.Order.{gives_14, gives_15_path, gives_15_id, gives_16, gives_17, gives_18, gives_none}
use Rattle.once.proofs.refusal.Goals as goal

pub returns-then-found : goal.returns-then-found
returns-then-found c = gives_14 (manifest_of c.args.s.now c.args.ix.now) c.args.twice c.ids_judged-found.ensures.0 c.if-found.true

pub returns-then-twice : goal.returns-then-twice
returns-then-twice c = gives_15_path (manifest_of c.args.s.now c.args.ix.now) c.args.twice c.ids_judged-found.ensures.0 c.if-found.false c.if-twice.true

pub returns-then-found-2 : goal.returns-then-found-2
returns-then-found-2 c = gives_15_id (manifest_of c.args.s.now c.args.ix.now) c.args.twice c.ids_judged-found.ensures.0 c.if-found.false c.if-twice.false (c.ids_judged-found.ensures.1 c.if-found.false) c.if-found-2.true

pub returns-then-refusal_16_clocks_without_sync_to : goal.returns-then-refusal_16_clocks_without_sync_to
returns-then-refusal_16_clocks_without_sync_to c = gives_16 (manifest_of c.args.s.now c.args.ix.now) c.args.twice c.ids_judged-found.ensures.0 c.if-found.false c.if-twice.false (c.ids_judged-found.ensures.1 c.if-found.false) c.if-found-2.false c.refusal_16_clocks_without_sync_to.ensures c.if-refusal_16_clocks_without_sync_to.true

pub returns-then-refusal_17_machine_without_file : goal.returns-then-refusal_17_machine_without_file
returns-then-refusal_17_machine_without_file c = gives_17 (manifest_of c.args.s.now c.args.ix.now) c.args.twice c.ids_judged-found.ensures.0 c.if-found.false c.if-twice.false (c.ids_judged-found.ensures.1 c.if-found.false) c.if-found-2.false c.refusal_16_clocks_without_sync_to.ensures c.if-refusal_16_clocks_without_sync_to.false c.refusal_17_machine_without_file.ensures c.if-refusal_17_machine_without_file.true

pub returns-then-refusal_18_sync_to_without_file : goal.returns-then-refusal_18_sync_to_without_file
returns-then-refusal_18_sync_to_without_file c = gives_18 (manifest_of c.args.s.now c.args.ix.now) c.args.twice c.ids_judged-found.ensures.0 c.if-found.false c.if-twice.false (c.ids_judged-found.ensures.1 c.if-found.false) c.if-found-2.false c.refusal_16_clocks_without_sync_to.ensures c.if-refusal_16_clocks_without_sync_to.false c.refusal_17_machine_without_file.ensures c.if-refusal_17_machine_without_file.false c.refusal_18_sync_to_without_file.ensures c.if-refusal_18_sync_to_without_file.true

pub returns : goal.returns
returns c = gives_none (manifest_of c.args.s.now c.args.ix.now) c.args.twice c.ids_judged-found.ensures.0 c.if-found.false c.if-twice.false (c.ids_judged-found.ensures.1 c.if-found.false) c.if-found-2.false c.refusal_16_clocks_without_sync_to.ensures c.if-refusal_16_clocks_without_sync_to.false c.refusal_17_machine_without_file.ensures c.if-refusal_17_machine_without_file.false c.refusal_18_sync_to_without_file.ensures c.if-refusal_18_sync_to_without_file.false
