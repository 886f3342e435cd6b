-- `survey::manifest_value` meets its contract: one line is told of, so either the index or what is kept of `trace_time` changes, or neither.
-- Assumes nothing.
use native.Mathlib.Omega.{arith}
use Rattle.survey.proofs.Manifests.{trace_put, files_put, rest_put}
use Rattle.survey.proofs.manifest_value.Goals as goal

pub kept-requires : goal.kept-requires
kept-requires c = (omega arith, omega arith)

pub any_files-requires : goal.any_files-requires
any_files-requires c = (c.requires.0, c.requires.1)

pub returns-in-18 : goal.returns-in-18
returns-in-18 c = λ n. trace_put _ c.in-18.is (c.kept.ensures n)

pub returns-in-19 : goal.returns-in-19
returns-in-19 c = λ n. files_put _ c.in-19.is (c.any_files.ensures n)

pub returns-in_default : goal.returns-in_default
returns-in_default c = λ n. rest_put _ (omega arith) (omega arith) c.value_kind.ensures (c.passed.ensures n)
