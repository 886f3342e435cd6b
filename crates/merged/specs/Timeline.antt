-- Clocks, correspondences and trace time. Assumes nothing.
use Rattle.std.specs.Prelude.{Bool, false, not, ◌&&◌, ◌||◌, List, [], ◌∷◌, ◌++◌, map, ℕ, ◌+◌, ◌*◌, eqb, ltb, pos, length, get_or, Option, None, Some}
use Rattle.text.specs.Reading.{pick}
use Rattle.numbers.specs.declared.Clock.{Clock}
use Rattle.numbers.specs.Numbers.{clock_of, private_of}
use Rattle.manifest.specs.declared.Cited.{Cited}
use Rattle.manifest.specs.declared.Cited.TheVariants.{Private, Domain}
use Rattle.manifest.specs.declared.Link.{Link as Said}
use Rattle.manifest.specs.declared.Link.TheVariants.{Unrelated, Related}
use Rattle.manifest.specs.declared.Timeline.{Timeline as Asked}
use Rattle.manifest.specs.declared.Timeline.TheVariants.{Unset, Set}
use Rattle.manifest.specs.Rows.{first_or, flat}
use Rattle.manifest.specs.Meaning.{Meaning, Listed}
use Rattle.records.specs.declared.Snapshot.{Snapshot}
use Rattle.records.specs.declared.Event.{Event}
use Rattle.graphs.specs.Links.{Link}
use Rattle.graphs.specs.Graphs.{World}
use Rattle.merged.specs.Facts.{Parts, untied, silent, FileFact, SourceFact, Facts, facts_of}
use Rattle.merged.specs.Machines.{machine_count, machine_of}
use Rattle.merged.specs.Refusals.{listed_by, is_pinned}

-- bit f of the number says whether the test holds of the f-th
unfoldable pub bits_of : {A : Type 0} → (A → Bool) → List A → ℕ
bits_of test [] = 0
bits_of test (a ∷ l) = pick (test a) 1 0 + 2 * bits_of test l

-- file f's private clock; clock d of machine m
abbrev pub private_clock : ℕ → ℕ
private_clock f = (private_of (record { 0 = f })).0

abbrev pub domain_clock : ℕ → ℕ → ℕ
domain_clock d m = (clock_of d (record { 0 = m })).0

-- what is known of file f, and of source j; nothing past the last
abbrev pub file_at : Facts → ℕ → FileFact
file_at k f = get_or k.files f (record { entry = 32; tie = untied; base = record { 0 = 0 }; container = false; claim = 0; recorded = false })

abbrev pub source_at : Facts → ℕ → SourceFact
source_at k j = get_or k.sources j (record { file = 0; id = 0; given = silent })

module _ (k : Facts) where
  -- a clock that the manifest cites: a domain of a machine, or the private clock of the file that an entry lists
  unfoldable pub clock_for : Cited → ℕ
  clock_for (Private e) = private_clock (first_or 32 (listed_by e) k.files 0)
  clock_for (Domain d m) = domain_clock d m.0

  -- "Manifest entries give the correspondence (0, offset), in entry order": "Where the source reads T, the reference reads T + offset"
  unfoldable pub link_from : Said → List Link
  link_from Unrelated = []
  link_from (Related r) = record { a = clock_for r.from; x = pos 0; b = clock_for r.to; y = r.offset } ∷ []

  -- clock d of the machine of source j
  abbrev pub clock_at : ℕ → ℕ → ℕ
  clock_at j d = domain_clock d (machine_of k (source_at k j))

  -- "then come snapshots in sheet order"
  unfoldable pub link_of : Snapshot → Link
  link_of n = record { a = clock_at n.source n.clock; x = n.reading; b = clock_at n.source n.clock2; y = n.reading2 }

  -- an event's clock: "`clocks` without `clock` pins the file: all its events are on its private clock, whatever they name"; "an event's clock 0 is
  -- its file's private clock"
  unfoldable pub event_clock : Event → ℕ
  event_clock e =
      pick (is_pinned (file_at k (source_at k e.source).file).tie || eqb e.clock 0)
      (private_clock (source_at k e.source).file)
      (clock_at e.source e.clock)

  -- "the claimed clock, on the base machine, of the first file with a claim that is neither pinned nor a container; else file 0's private clock"
  unfoldable pub claims : FileFact → Bool
  claims f = not (eqb f.claim 0) && not (is_pinned f.tie) && not f.container

  unfoldable pub claimed : ℕ → ℕ
  claimed f = pick (ltb f (length k.files)) (domain_clock (file_at k f).claim (file_at k f).base.0) (private_clock 0)

  -- "Trace time: `trace_time`'s clock on its named machine, its file's base machine, or the host. Without it: the claimed clock .."
  unfoldable pub trace_by : Asked → ℕ
  trace_by (Set d m) = domain_clock d m.0
  trace_by Unset = claimed (first_or (length k.files) claims k.files 0)

  -- "A sheet without files has no trace time, whatever the manifest says"
  unfoldable pub trace_of : Asked → Option Clock
  trace_of asked = pick (eqb (length k.files) 0) None (Some (record { 0 = trace_by asked }))

-- all that the graphs are made of
unfoldable pub world_of : Meaning → Parts → World
world_of w p =
    record {
      machines = machine_count (facts_of w p);
      files = length (facts_of w p).files;
      pinned = bits_of (λ f. is_pinned f.tie) (facts_of w p).files;
      trace = trace_by (facts_of w p) w.trace;
      links = flat (λ (l : Listed). link_from (facts_of w p) l.link) w.listed ++ map (link_of (facts_of w p)) p.snapshots;
    }
