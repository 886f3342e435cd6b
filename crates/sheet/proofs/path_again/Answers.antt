-- `path_again` looks for the path of file i among those of the files from j on. The invariant says that it is among these exactly if it is among all past i.
-- Assumes nothing.
use Rattle.sheet.proofs.Again.{among_hit, among_miss, among_none}
use Rattle.sheet.proofs.Printing.{place_is, place_low, print_at, paths_on, paths_past, matched}
use Rattle.sheet.specs.Twice.{same_bytes}
use native.Mathlib.Omega.{arith}
use mathlib.Core.Path.{refl, sym, ◌∙◌}
use Rattle.sheet.proofs.path_again.Goals as goal

pub loop-j-init : goal.loop-j-init
loop-j-init c = refl

pub paths_match-requires : goal.paths_match-requires
paths_match-requires c =
    let a = c.args in
    let r = c.requires in
    let p = place_is a.s.now r.2 r.1 r.0 in
    let q = place_is a.s.now {k = c.loop-j.j} r.2 r.1 (omega arith) in
    (place_low a.s.now p (omega arith), place_low a.s.now q (omega arith), print_at a.s.now r.3 r.0 p, print_at a.s.now r.3 (omega arith) q)

pub returns-then-paths_match : goal.returns-then-paths_match
returns-then-paths_match c =
    let a = c.args in
    let r = c.requires in
    among_hit same_bytes _ (paths_on a.s.now a.n c.loop-j.j (omega arith))
    (matched a.s.now a.i c.loop-j.j (place_is a.s.now r.2 r.1 r.0) (place_is a.s.now {k = c.loop-j.j} r.2 r.1 (omega arith)) c.paths_match.ensures) c.if-paths_match.true
    ∙ c.loop-j.invariant

pub loop-j-preserved : goal.loop-j-preserved
loop-j-preserved c =
    let a = c.args in
    let r = c.requires in
    sym
    (among_miss same_bytes _ (paths_on a.s.now a.n c.loop-j.j (omega arith))
    (matched a.s.now a.i c.loop-j.j (place_is a.s.now r.2 r.1 r.0) (place_is a.s.now {k = c.loop-j.j} r.2 r.1 (omega arith)) c.paths_match.ensures) c.if-paths_match.false)
    ∙ c.loop-j.invariant

pub returns : goal.returns
returns c = among_none same_bytes _ (paths_past c.args.s.now c.args.n c.loop-j.j (omega arith)) ∙ c.loop-j.invariant
