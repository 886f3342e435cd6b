-- `listed::cited_entry` meets its contract: the invariant is that the entries from number j on decide which entry has the path. A path with another print is another text. Assumes nothing.
use mathlib.Core.Path.{refl, sym, ◌∙◌}
use Prim.Native.Nat.{◌<◌}
use native.Mathlib.Omega.{arith}
use Rattle.index.specs.Index.{text_at}
use Rattle.index.proofs.laws.Paths.{few_entries, entry_past, entry_on, entry_here}
use Rattle.listed.specs.laws.Slots.{path_held, path_apart}
use Rattle.listed.specs.laws.Cited.{cited_none, cited_start}
use Rattle.listed.proofs.cited_entry.Goals as goal
use Rattle.listed.proofs.cited_entry.Goals.{then-prints-j+else-same_path, else-prints-j}

pub returns-then-file-eq0 : goal.returns-then-file-eq0
returns-then-file-eq0 c = cited_none c.args.s.now c.args.ix.now c.if-file-eq0.true

pub loop-j-init : goal.loop-j-init
loop-j-init c = (omega arith, cited_start c.args.s.now c.args.ix.now c.if-file-eq0.false)

pub offset_bounds-prints-j : goal.offset_bounds-prints-j
offset_bounds-prints-j c = omega (arith, few_entries c.args.ix.now, c.entries-n.ensures)

pub bounds-prints-j : goal.bounds-prints-j
bounds-prints-j c = omega (arith, few_entries c.args.ix.now, c.entries-n.ensures)

pub offset_bounds-lengths-j : goal.offset_bounds-lengths-j
offset_bounds-lengths-j c = omega (arith, few_entries c.args.ix.now, c.entries-n.ensures)

pub bounds-lengths-j : goal.bounds-lengths-j
bounds-lengths-j c = omega (arith, few_entries c.args.ix.now, c.entries-n.ensures)

pub same_path-requires : goal.same_path-requires
same_path-requires c = (c.requires.1, path_held c.requires.0 (omega (arith, few_entries c.args.ix.now, c.entries-n.ensures, c.loop-j-test.true)) c.col-at.ensures)

pub returns-then-same_path : goal.returns-then-same_path
returns-then-same_path c = sym (c.loop-j.invariant.1 ∙ entry_here c.args.s.now c.args.ix.now (text_at c.args.s.now c.args.file) c.entries-n.ensures _ c.loop-j-test.true c.col-at.ensures c.same_path.ensures c.if-same_path.true)

pub loop-j-preserved : goal.loop-j-preserved
loop-j-preserved c =
    let few : c.loop-j.j < 32 = omega (arith, few_entries c.args.ix.now, c.entries-n.ensures) in
    let t = text_at c.args.s.now c.args.file in
    let it = c.entries-n.ensures in (
      omega arith,
      c.loop-j.invariant.1
          ∙ elim c.if-prints-j.branch [
            | then-prints-j+else-same_path w ↦ entry_on c.args.s.now c.args.ix.now t it _ c.loop-j-test.true w.col-at.ensures w.same_path.ensures w.if-same_path.false
            | else-prints-j w ↦ entry_on c.args.s.now c.args.ix.now t it _ c.loop-j-test.true refl (path_apart c.requires.0 few c.args.file c.requires.2 w.if-prints-j.false) refl
          ],
    )

pub returns : goal.returns
returns c = sym (c.loop-j.invariant.1 ∙ entry_past c.args.s.now c.args.ix.now (text_at c.args.s.now c.args.file) c.entries-n.ensures _ c.loop-j-test.false)
