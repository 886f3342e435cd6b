-- `cited::refusal` meets its contract: what is known of the names and the paths is handed out as it was found, and the rules are judged by it. The settled index stands for the same manifest.
-- Assumes nothing.
use mathlib.Core.Path.{ap, ◌∙◌}
use Rattle.cited.specs.laws.Apart.{firsts_told, still_is}
use Rattle.manifest.specs.Rules.{applies, refusal_13_empty_machine_name}
use Rattle.sizes.specs.Sizes.{broken_names}
use Rattle.cited.proofs.refusal.Goals as goal

pub first_rule-refusal-requires : goal.first_rule-refusal-requires
first_rule-refusal-requires c = (c.paths-paths.ensures.cites, c.paths-paths.ensures.trace, firsts_told c.args.s.now c.args.ix.now c.names-names.ensures.firsts)

pub returns : goal.returns
returns c =
    let still = still_is c.args.s.now c.args.ix.now c.names-names.ensures.index in
    record {
      index = c.names-names.ensures.index;
      refusal = c.first_rule-refusal.ensures;
      cites = c.paths-paths.ensures.cites;
      trace = c.paths-paths.ensures.trace;
      prints = c.paths-paths.ensures.prints;
      broken = c.paths-paths.ensures.broken;
      twice = c.paths-paths.ensures.twice;
      names_broken = c.names-names.ensures.broken ∙ ap broken_names still;
      names_empty = c.names-names.ensures.empty ∙ ap (applies refusal_13_empty_machine_name) still;
      names_firsts = c.names-names.ensures.firsts;
    }
