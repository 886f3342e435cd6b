-- What may be asked of a manifest's tables, over any tables: theorem `told` says that over those of an accepted manifest the answers are the
-- meaning's parts. The table of lookups is as `lookups` in `finds` has it. Assumes nothing.
use Rattle.std.specs.Prelude.{List, ℕ, ◌+◌, ◌-◌, eqb, ltb, ℤ, pos, get_or}
use Rattle.text.specs.Reading.{Text, pick}
use Rattle.values.specs.Integer.{integer_at}
use Rattle.values.specs.declared.Integer.{Integer}
use Rattle.values.specs.declared.Integer.TheVariants.{In, Below, Above, None}
use Rattle.numbers.specs.declared.Machine.{Machine}
use Rattle.manifest.specs.declared.Cited.{Cited}
use Rattle.manifest.specs.declared.Cited.TheVariants.{Private, Domain}
use Rattle.manifest.specs.declared.Link.{Link}
use Rattle.manifest.specs.declared.Link.TheVariants.{Unrelated, Related}
use Rattle.manifest.specs.declared.Timeline.{Timeline}
use Rattle.manifest.specs.declared.Timeline.TheVariants.{Unset, Set}
use Rattle.outline.specs.Outline.{domain_at}
use Rattle.index.specs.Index.{col_of}
use Rattle.finds.specs.Finds.{name_for, base_at}
use Rattle.named.specs.Named.{number_at}
use Rattle.meant.specs.declared.Owned.{Owned}
use Rattle.meant.specs.declared.Owned.TheVariants.{Nobody, Whole, Split}
use Rattle.meant.specs.declared.Part.{Part}
use Rattle.meant.specs.declared.Part.TheVariants.{Undeclared, Of}

-- an offset that 64 bits hold. (23 leaves no other)
unfoldable pub offset_in : Integer → ℤ
offset_in (In z) = z
offset_in Below = pos 0
offset_in Above = pos 0
offset_in None = pos 0

-- the entry that entry i cites, from 1 on, as the table of lookups has it; 0 for none
unfoldable pub cites_by : List ℕ → ℕ → ℕ
cites_by lookups i = get_or lookups (64 + i) 0

-- the entry that `trace_time` cites, from 1 on, as the table has it; 0 for none
unfoldable pub trace_cites : List ℕ → ℕ
trace_cites lookups = get_or lookups 128 0

-- how entry i ties its file's clocks: 0 not at all, 1 by a clock that it names, 2 by the private one (such a file is pinned)
unfoldable pub tied_by : List ℕ → List ℕ → ℕ → ℕ
tied_by ix lookups i =
    pick (eqb (col_of ix i 4) 0) 0
    (pick (eqb (col_of ix i 7) 0) 0
    (pick (eqb (cites_by lookups i) 0) 0
    (pick (ltb 32 (cites_by lookups i)) 0 (pick (eqb (col_of ix i 5) 0) 2 1))))

-- where the name of the machine stands that a `machine` at a position names for the file of entry i: that of the base machine if there is none, and if the file is not split, since it declares no
-- other (21); theorem `told` says that it is the named one
unfoldable pub cited_name : Text → List ℕ → ℕ → ℕ → ℕ
cited_name s ix i machine = pick (eqb (col_of ix i 3) 0) (base_at s ix i) (pick (eqb machine 0) (base_at s ix i) machine)

module _ (s : Text) (ix lookups : List ℕ) where
  -- the base machine of the file that entry i lists
  unfoldable pub base_of : ℕ → Machine
  base_of i = number_at s lookups (base_at s ix i)

  -- the machine that entry i declares for its file
  unfoldable pub owned_of : ℕ → Owned
  owned_of i =
      pick (eqb (col_of ix i 3) 0)
      (pick (eqb (col_of ix i 1) 0) Nobody (Whole (base_of i)))
      Split

  -- the machine that entry i names for an id
  unfoldable pub part_of : ℕ → ℕ → Part
  part_of i id = pick (eqb (name_for s ix i id) 0) Undeclared (Of (number_at s lookups (name_for s ix i id)))

  -- the clock of the file of entry i that a `clock` and a `machine` at two positions name
  unfoldable pub cited_at : ℕ → ℕ → ℕ → Cited
  cited_at i clock machine = pick (eqb clock 0) (Private i) (Domain (domain_at s clock) (number_at s lookups (cited_name s ix i machine)))

  -- "`offset_ns` (default 0)"
  unfoldable pub offset_at : ℕ → ℤ
  offset_at p = pick (eqb p 0) (pos 0) (offset_in (integer_at s p))

  -- how entry i relates its file to the file of entry e
  unfoldable pub related_to : ℕ → ℕ → Link
  related_to i e =
      Related (record {
        from = cited_at i (col_of ix i 5) (col_of ix i 6);
        to = cited_at e (col_of ix i 10) (col_of ix i 9);
        offset = offset_at (col_of ix i 11);
      })

  unfoldable pub link_of : ℕ → Link
  link_of i =
      pick (eqb (col_of ix i 4) 0) Unrelated
      (pick (eqb (col_of ix i 7) 0) Unrelated
      (pick (eqb (cites_by lookups i) 0) Unrelated
      (pick (ltb 32 (cites_by lookups i)) Unrelated (related_to i (cites_by lookups i - 1)))))

  -- where the name of trace time's machine stands; 0 for the host
  unfoldable pub trace_machine_at : ℕ
  trace_machine_at =
      pick (eqb (get_or ix 4 0) 0)
      (pick (eqb (trace_cites lookups) 0) 0
      (pick (ltb 32 (trace_cites lookups)) 0 (base_at s ix (trace_cites lookups - 1))))
      (get_or ix 4 0)

  unfoldable pub timeline_of : Timeline
  timeline_of = pick (eqb (get_or ix 1 0) 0) Unset (Set (domain_at s (get_or ix 2 0)) (number_at s lookups trace_machine_at))
