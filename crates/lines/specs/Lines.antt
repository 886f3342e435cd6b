-- Correspondences and events, from the table of what is known (crate checks), the machines of the sources, a manifest's tables and a sheet's bytes.
-- Assumes nothing.
use Rattle.std.specs.Prelude.{◌||◌, List, ◌++◌, map, ℕ, ◌+◌, ◌*◌, min, eqb, length, get_or, drop}
use Rattle.text.specs.Reading.{Text, pick}
use Rattle.manifest.specs.Rows.{flat}
use Rattle.records.specs.Readers.{snapshot_at, event_at}
use Rattle.records.specs.declared.Snapshot.{Snapshot}
use Rattle.records.specs.declared.Event.{Event}
use Rattle.index.specs.Index.{listed, entries_in}
use Rattle.meant.specs.Meant as meant
use Rattle.graphs.specs.Links.{Link}
use Rattle.merged.specs.Refusals.{is_pinned}
use Rattle.merged.specs.Timeline.{private_clock, domain_clock, file_at, source_at, link_from}
use Rattle.checks.specs.Table.{facts_by}

-- ---- clocks, by a table t and the machine of each source

module _ (t machines : List ℕ) where
  -- clock d of the machine of source j
  abbrev pub clock_at : ℕ → ℕ → ℕ
  clock_at j d = domain_clock d (get_or machines j 0)

  unfoldable pub link_by : Snapshot → Link
  link_by n = record { a = clock_at n.source n.clock; x = n.reading; b = clock_at n.source n.clock2; y = n.reading2 }

  unfoldable pub clock_by : Event → ℕ
  clock_by e =
      pick (is_pinned (file_at (facts_by t) (source_at (facts_by t) e.source).file).tie || eqb e.clock 0)
      (private_clock (source_at (facts_by t) e.source).file)
      (clock_at e.source e.clock)

-- ---- correspondences: those of the entries, then those of the first 256 of n snapshots, the first of which lies at a bit position

unfoldable pub entry_links : Text → List ℕ → List ℕ → List ℕ → List Link
entry_links s ix names t = flat (λ i. link_from (facts_by t) (meant.link_of s ix names i)) (listed (λ i. i) 0 (entries_in ix))

unfoldable pub snapshot_links : List ℕ → List ℕ → List ℕ → ℕ → ℕ → List Link
snapshot_links t machines b at n = map (link_by t machines) (listed (λ i. snapshot_at b (at + 142 * i)) 0 (min 256 n))

unfoldable pub links_by : Text → List ℕ → List ℕ → List ℕ → List ℕ → List ℕ → ℕ → ℕ → List Link
links_by s ix names t machines b at n = entry_links s ix names t ++ snapshot_links t machines b at n

-- ---- events: the first n, the first of which lies at a bit position

unfoldable pub events_at : List ℕ → ℕ → ℕ → List Event
events_at b at n = listed (λ k. event_at b (at + 75 * k)) 0 n

-- a list written over the front of a memory
abbrev pub over {ℓ} : {A : Type ℓ} → List A → List A → List A
over xs memory = xs ++ drop (length xs) memory

-- how many of n events two memories take
abbrev pub reach : ℕ → ℕ → ℕ → ℕ
reach n p q = min n (min p q)
