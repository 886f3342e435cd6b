-- `step_by_kind` is the step over the record there: by the kind that was read, one law for each. Assumes nothing.
use native.Mathlib.Omega.{arith}
use Rattle.records.proofs.Steps.{is_end, is_file, is_source, is_snapshot, is_event, is_unknown}
use Rattle.records.proofs.step_by_kind.Goals as goal

pub returns-in-0 : goal.returns-in-0
returns-in-0 c = is_end c.args.s.now c.args.st c.requires c.take.ensures c.in-0.is c.step_end.ensures

pub returns-in-1 : goal.returns-in-1
returns-in-1 c = is_file c.args.s.now c.args.st c.requires c.take.ensures c.in-1.is c.step_file.ensures

pub returns-in-2 : goal.returns-in-2
returns-in-2 c = is_source c.args.s.now c.args.st c.requires c.take.ensures c.in-2.is c.step_source.ensures

pub returns-in-3 : goal.returns-in-3
returns-in-3 c = is_snapshot c.args.s.now c.args.st c.requires c.take.ensures c.in-3.is c.step_snapshot.ensures

pub returns-in-4 : goal.returns-in-4
returns-in-4 c = is_event c.args.s.now c.args.st c.requires c.take.ensures c.in-4.is c.step_event.ensures

pub returns-in_default : goal.returns-in_default
returns-in_default c = is_unknown c.args.s.now c.args.st c.requires c.take.ensures (λ z. omega arith) (λ z. omega arith) (λ z. omega arith) (λ z. omega arith) (λ z. omega arith) c.step_unknown.ensures
