-- `lines::links` meets its contract: over zeros, what the entries add and then what the snapshots add is all. Assumes nothing.
use native.Mathlib.Omega.{arith}
use Rattle.lines.specs.laws.Tables.{entries_most}
use Rattle.lines.specs.laws.Written.{adds_both, all_count, all_from, all_reads, all_to, all_gives}
use Rattle.lines.specs.Lines.{links_by}
use Rattle.lines.proofs.links.Goals as goal

pub snapshot_links-requires : goal.snapshot_links-requires
snapshot_links-requires c = (omega (arith, c.entry_links-k.ensures.count, entries_most c.args.s.now c.args.ix.now c.args.lookups.now c.args.t.now), c.entry_links-k.ensures.sized)

pub returns : goal.returns
unfolding links_by
returns c =
    let w = adds_both c.entry_links-k.ensures (c.snapshot_links.ensures c.args.t.now) in
    record { count = all_count w; from = all_from w; reads = all_reads w; to = all_to w; gives = all_gives w }
