-- `read` is the definition: one law of Final for each way out, from what the calls gave on the way there. Assumes nothing.
use Rattle.std.proofs.Common.{◌≡◌, Err, rules}
use Rattle.sheet.specs.Sheets.{Refused, read_of}
use Rattle.sheet.proofs.Final.{not_empty, read_empty, read_long, read_bad, end_held, end_fit, close, read_path, read_source, read_all}
use Rattle.sheet.proofs.read.Goals.{then-is_empty-via-then-is_empty, then-is_empty-via-else-is_empty+then-s-gt-LONGEST}
use Rattle.sheet.proofs.read.Goals.{then-paths_twice-via-then-paths_twice, then-paths_twice-via-else-paths_twice+then-sources_twice}
use Rattle.sheet.proofs.read.Goals as goal

pub returns-then-is_empty : goal.returns-then-is_empty
returns-then-is_empty c =
    let s = c.args.s.now in
    let r : Refused 25 ≡ read_of s =
    elim c.then-is_empty.branch [
      | then-is_empty-via-then-is_empty w ↦ read_empty s c.is_empty.ensures w.if-is_empty.true
      | then-is_empty-via-else-is_empty+then-s-gt-LONGEST w ↦ read_long s c.is_empty.ensures w.if-is_empty.false w.if-s-gt-LONGEST.true
    ] in
    r

pub returns-in_err-scan : goal.returns-in_err-scan
returns-in_err-scan c =
    let s = c.args.s.now in
    let some = not_empty s c.is_empty.ensures c.if-is_empty.false in
    let short = c.if-s-gt-LONGEST.false in
    let e : c.from_residual.result ≡ Err c.in_err-scan.field-0.0 = search rules in
    rw e (read_bad s some short c.in_err-scan.ensures)

pub table_at-table-requires : goal.table_at-table-requires
table_at-table-requires c =
    let s = c.args.s.now in
    let some = not_empty s c.is_empty.ensures c.if-is_empty.false in
    let short = c.if-s-gt-LONGEST.false in
    end_held s some short c.in_ok-scan.ensures

pub paths_twice-requires : goal.paths_twice-requires
paths_twice-requires c =
    let s = c.args.s.now in
    let some = not_empty s c.is_empty.ensures c.if-is_empty.false in
    let short = c.if-s-gt-LONGEST.false in
    rw c.table_at-table.ensures (end_fit s some short c.in_ok-scan.ensures).few_files

pub sources_twice-requires : goal.sources_twice-requires
sources_twice-requires c =
    let s = c.args.s.now in
    let some = not_empty s c.is_empty.ensures c.if-is_empty.false in
    let short = c.if-s-gt-LONGEST.false in
    rw c.table_at-table.ensures ((end_fit s some short c.in_ok-scan.ensures).few_sources, close s some short c.in_ok-scan.ensures)

pub returns-then-paths_twice : goal.returns-then-paths_twice
returns-then-paths_twice c =
    let s = c.args.s.now in
    let some = not_empty s c.is_empty.ensures c.if-is_empty.false in
    let short = c.if-s-gt-LONGEST.false in
    let r : Refused 31 ≡ read_of s =
    elim c.then-paths_twice.branch [
      | then-paths_twice-via-then-paths_twice w ↦ read_path s some short c.in_ok-scan.ensures c.table_at-table.ensures c.paths_twice.ensures w.if-paths_twice.true
      | then-paths_twice-via-else-paths_twice+then-sources_twice w ↦
          read_source s some short c.in_ok-scan.ensures c.table_at-table.ensures c.paths_twice.ensures w.sources_twice.ensures w.if-paths_twice.false w.if-sources_twice.true
    ] in
    r

pub returns : goal.returns
returns c =
    let s = c.args.s.now in
    let some = not_empty s c.is_empty.ensures c.if-is_empty.false in
    let short = c.if-s-gt-LONGEST.false in
    read_all s some short c.in_ok-scan.ensures c.table_at-table.ensures c.paths_twice.ensures c.sources_twice.ensures c.if-paths_twice.false c.if-sources_twice.false
