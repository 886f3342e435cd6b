-- `listed::path_before` meets its contract: the invariant is that the entries from number j on decide, of those before entry i. A path with another print is another text. Assumes nothing.
use mathlib.Core.Path.{refl}
use Prim.Native.Nat.{◌<◌}
use native.Mathlib.Omega.{arith}
use Rattle.index.proofs.laws.Paths.{few_entries}
use Rattle.listed.specs.laws.Slots.{path_held, path_print_lem, path_apart}
use Rattle.listed.specs.laws.Twice.{before_none, before_start, before_past, before_found, before_on}
use Rattle.listed.proofs.path_before.Goals as goal
use Rattle.listed.proofs.path_before.Goals.{then-prints-j+else-same_path, else-prints-j}

pub returns-then-p-eq0 : goal.returns-then-p-eq0
returns-then-p-eq0 c = before_none c.args.s.now c.args.ix.now c.args.i c.col-p.ensures c.if-p-eq0.true

pub offset_bounds-prints-i : goal.offset_bounds-prints-i
offset_bounds-prints-i c = omega (arith, few_entries c.args.ix.now, c.requires.0)

pub bounds-prints-i : goal.bounds-prints-i
bounds-prints-i c = omega (arith, few_entries c.args.ix.now, c.requires.0)

pub offset_bounds-lengths-i : goal.offset_bounds-lengths-i
offset_bounds-lengths-i c = omega (arith, few_entries c.args.ix.now, c.requires.0)

pub bounds-lengths-i : goal.bounds-lengths-i
bounds-lengths-i c = omega (arith, few_entries c.args.ix.now, c.requires.0)

pub loop-j-init : goal.loop-j-init
loop-j-init c = before_start c.args.s.now c.args.ix.now c.args.i c.col-p.ensures c.if-p-eq0.false c.requires.0

pub offset_bounds-prints-j : goal.offset_bounds-prints-j
offset_bounds-prints-j c = omega (arith, few_entries c.args.ix.now, c.requires.0)

pub bounds-prints-j : goal.bounds-prints-j
bounds-prints-j c = omega (arith, few_entries c.args.ix.now, c.requires.0)

pub offset_bounds-lengths-j : goal.offset_bounds-lengths-j
offset_bounds-lengths-j c = omega (arith, few_entries c.args.ix.now, c.requires.0)

pub bounds-lengths-j : goal.bounds-lengths-j
bounds-lengths-j c = omega (arith, few_entries c.args.ix.now, c.requires.0)

pub same_path-requires : goal.same_path-requires
same_path-requires c = (path_held c.requires.1 (omega (arith, few_entries c.args.ix.now, c.requires.0)) c.col-p.ensures, path_held c.requires.1 (omega (arith, few_entries c.args.ix.now, c.requires.0, c.loop-j-test.true)) c.col.ensures)

pub returns-then-same_path : goal.returns-then-same_path
returns-then-same_path c = before_found c.args.s.now c.args.ix.now c.args.i c.col-p.result c.loop-j.invariant c.loop-j-test.true c.col.ensures c.same_path.ensures c.if-same_path.true

pub overflow_add-j : goal.overflow_add-j
overflow_add-j c = omega (arith, few_entries c.args.ix.now, c.requires.0)

pub loop-j-preserved : goal.loop-j-preserved
loop-j-preserved c =
    let own : c.args.i < 32 = omega (arith, few_entries c.args.ix.now, c.requires.0) in
    let its : c.loop-j.j < 32 = omega arith in
    let print = path_print_lem c.requires.1 own c.col-p.ensures in
    let ix = c.args.ix.now in
    elim c.if-prints-j.branch [
      | then-prints-j+else-same_path w ↦ before_on c.args.s.now ix c.args.i c.col-p.result c.loop-j.invariant c.loop-j-test.true w.col.ensures w.same_path.ensures w.if-same_path.false
      | else-prints-j w ↦ before_on c.args.s.now ix c.args.i c.col-p.result c.loop-j.invariant c.loop-j-test.true refl (path_apart c.requires.1 its c.col-p.result print w.if-prints-j.false) refl
    ]

pub returns : goal.returns
returns c = before_past c.args.s.now c.args.ix.now c.args.i c.col-p.result c.loop-j.invariant c.loop-j-test.false
