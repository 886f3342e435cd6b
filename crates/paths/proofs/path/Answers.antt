-- `paths::path` meets its contract: each return is one of the three ends in `proofs/Walk.antt`.
use Rattle.paths.specs.Matrix.{graph_of}
use Rattle.paths.proofs.laws.Along.{nexts_below}
use Rattle.paths.specs.laws.Graph.{graph_small}
use Rattle.paths.proofs.Walk.{ends_outside, ends_far, ends_short, ends_steps}
use Rattle.paths.proofs.path.Goals as goal

pub returns-then-from-ge-CLOCKS : goal.returns-then-from-ge-CLOCKS
returns-then-from-ge-CLOCKS c = let cleared = c.fill in
    let e = ends_outside _ _ _ _ _ (cleared.ensures.after (λ y e. e)) c.if-from-ge-CLOCKS.true in
    record { answer = e.0; written = e.1 }

pub returns-then-k : goal.returns-then-k
returns-then-k c = let cleared = c.fill in
    let if1 = c.if-from-ge-CLOCKS in
    let found = c.search-found in
    let e = ends_far _ _ _ _ _ (cleared.ensures.after (λ y e. e)) if1.false found.ensures.0 c.if-k.true in
    record { answer = e.0; written = e.1 }

pub returns-then-out-from : goal.returns-then-out-from
returns-then-out-from c = let cleared = c.fill in
    let if1 = c.if-from-ge-CLOCKS in
    let found = c.search-found in
    let e = ends_short _ _ _ _ _ (cleared.ensures.after (λ y e. e)) if1.false found.ensures.0 c.if-k.false (rw c.from.ensures at c.if-out-from.true) in
    record { answer = e.0; written = e.1 }

pub follow-requires : goal.follow-requires
follow-requires c = let args = c.args in
    let found = c.search-found in
    let if1 = c.if-from-ge-CLOCKS in
    let if3 = c.if-out-from in
    record {
      by_index = nexts_below (graph_of args.matrix.now args.n args.target) (graph_small args.matrix.now args.n args.target) found.ensures.1;
      c_lt_clocks = (if1.false, rw (c.from-2.ensures, ← c.from.ensures) if3.false);
    }

pub returns : goal.returns
returns c = let cleared = c.fill in
    let if1 = c.if-from-ge-CLOCKS in
    let found = c.search-found in
    let if2 = c.if-k in
    let if3 = c.if-out-from in
    let walked = c.follow in
    let e = ends_steps _ _ _ _ _ (cleared.ensures.after (λ y e. e)) if1.false found.ensures.0 if2.false found.ensures.1 (rw c.from.ensures at if3.false) (rw c.from-2.ensures at walked.ensures) in
    record { answer = e.0; written = e.1 }
