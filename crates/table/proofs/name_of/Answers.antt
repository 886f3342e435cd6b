-- `table::name_of` meets its contract: by its first letter a string can be one or two of the names, and these are told by how much is left of it. One that begins otherwise is
-- none of them.
-- Assumes nothing.
use mathlib.Core.Path.{refl}
use mathlib.Core.List.{[]}
use native.Mathlib.Omega.{arith}
use borrow.Author.Tests.{ne_eqb}
use Rattle.text.specs.Reading.{pick}
use Rattle.grammar.specs.Tree.{same}
use Rattle.manifest.specs.Names.{bytes}
use Rattle.manifest.specs.Rows.{first_or}
use Rattle.table.specs.laws.Names.{number_of, named_by}
use Rattle.table.proofs.name_of.Goals as goal

pub returns-in-99 : goal.returns-in-99
unfolding number_of first_or same pick
returns-in-99 c = named_by _ _ c.head-h.ensures c.in-99.is (bytes "locks") refl c.two.ensures c.in_clocks.ensures

pub returns-in-102 : goal.returns-in-102
unfolding number_of first_or same pick
returns-in-102 c = named_by _ _ c.head-h.ensures c.in-102.is (bytes "iles") refl c.two-in-102.ensures c.in_files.ensures

pub returns-in-105 : goal.returns-in-105
unfolding number_of first_or same pick
returns-in-105 c = named_by _ _ c.head-h.ensures c.in-105.is (bytes "d") refl c.one.ensures c.in_id.ensures

pub returns-in-109 : goal.returns-in-109
unfolding number_of first_or same pick
returns-in-109 c = named_by _ _ c.head-h.ensures c.in-109.is (bytes "achines") refl c.two-in-109.ensures c.in_machines.ensures

pub returns-in-110 : goal.returns-in-110
unfolding number_of first_or same pick
returns-in-110 c = named_by _ _ c.head-h.ensures c.in-110.is (bytes "ame") refl c.one-in-110.ensures c.in_name.ensures

pub returns-in-111 : goal.returns-in-111
unfolding number_of first_or same pick
returns-in-111 c = named_by _ _ c.head-h.ensures c.in-111.is (bytes "ffset_ns") refl c.one-in-111.ensures c.in_offset_ns.ensures

pub returns-in-112 : goal.returns-in-112
unfolding number_of first_or same pick
returns-in-112 c = named_by _ _ c.head-h.ensures c.in-112.is (bytes "ath") refl c.one-in-112.ensures c.in_path.ensures

pub returns-in-115 : goal.returns-in-115
unfolding number_of first_or same pick
returns-in-115 c = named_by _ _ c.head-h.ensures c.in-115.is (bytes "ync_to") refl c.one-in-115.ensures c.in_sync_to.ensures

pub returns-in-116 : goal.returns-in-116
unfolding number_of first_or same pick
returns-in-116 c = named_by _ _ c.head-h.ensures c.in-116.is (bytes "race_time") refl c.one-in-116.ensures c.in_trace_time.ensures

pub returns-in-118 : goal.returns-in-118
unfolding number_of first_or same pick
returns-in-118 c = named_by _ _ c.head-h.ensures c.in-118.is (bytes "ersion") refl c.one-in-118.ensures c.in_version.ensures

pub returns-in_default : goal.returns-in_default
unfolding number_of first_or same pick
returns-in_default c =
    let no = ne_eqb c.head-h.result.letter in
    named_by _ _ c.head-h.ensures refl []
    (simp (
      no 99 (omega arith),
      no 102 (omega arith),
      no 105 (omega arith),
      no 109 (omega arith),
      no 110 (omega arith),
      no 111 (omega arith),
      no 112 (omega arith),
      no 115 (omega arith),
      no 116 (omega arith),
      no 118 (omega arith),
    ))
    (simp (
      no 99 (omega arith),
      no 102 (omega arith),
      no 105 (omega arith),
      no 109 (omega arith),
      no 110 (omega arith),
      no 111 (omega arith),
      no 112 (omega arith),
      no 115 (omega arith),
      no 116 (omega arith),
      no 118 (omega arith),
    )) refl
