-- Correspondences and events, out of the arrays that hold them: what is taken from the arrays are the world's. Assumes nothing.
use Rattle.std.specs.Prelude.{◌≡◌, refl, ℕ, ◌+◌, ◌*◌, ◌-◌, ◌≤◌, min, ℤ, pos, replicate}
use Rattle.std.proofs.Math.Path.{sym, ap}
use Rattle.std.proofs.Common.{◌∙◌, arith, length-append, take_at}
use mathlib.Core.List.{List, [], ◌∷◌, map}
use Rattle.std.proofs.Math.ListN.{length, take}
use Rattle.text.specs.Reading.{Text}
use Rattle.records.specs.Readers.{event_at}
use Rattle.records.specs.declared.Event.{Event}
use Rattle.sheet.specs.declared.Table.{Table}
use Rattle.index.proofs.laws.Entries.{listed_length}
use Rattle.meant.specs.Meant.{timeline_of}
use Rattle.graphs.specs.Links.{Link, links_of}
use Rattle.graphs.specs.Graphs.{world_of}
use Rattle.merged.specs.Machines.{machine_count}
use Rattle.merged.specs.Refusals.{is_pinned}
use Rattle.merged.specs.Timeline.{bits_of, trace_by}
use Rattle.merged.specs.Merged.{padded}
use Rattle.merged.proofs.laws.Lists.{length_map, answers_map}
use Rattle.checks.specs.Table.{facts_by}
use Rattle.checks.specs.Machines.{machine_table}
use Rattle.lines.specs.Lines.{clock_by, entry_links, snapshot_links, links_by, events_at, over, reach}
use Rattle.lines.specs.laws.Tables.{entries_most, snaps_length, snaps_all}
use Rattle.joins.specs.Joined.{world_by, answers_by}

-- ---- fronts

-- a front of a padded list is the list
pub padded_front : {A : Type 0} (z : A) (room n : ℕ) (l : List A) → n ≡ length l → take (n - 0) (padded z room l) ≡ l
padded_front z room n l e = take_at l (replicate (room - length l) z) (n - 0) (omega arith)

-- and so is one of a memory that it is written over
pub over_front : {A : Type 0} (f : Event → A) (b : List ℕ) (at k p q : ℕ) (m : List A) → k ≤ p → k ≤ q → take (k - 0) (over (map f (events_at b at (reach k p q))) m) ≡ map f (events_at b at k)
unfolding events_at
over_front f b at k p q m h g =
    let e : reach k p q ≡ k = omega arith in
    let n : length (map f (events_at b at k)) ≡ k - 0 = length_map f (events_at b at k) ∙ (listed_length (λ i. event_at b (at + 75 * i)) 0 k ∙ omega arith) in
    ap (λ (j : ℕ). take (k - 0) (over (map f (events_at b at j)) m)) e ∙ take_at (map f (events_at b at k)) _ (k - 0) n

-- ---- correspondences

-- there are not too many
pub links_few : (s : Text) (ix names t machines b : List ℕ) (at n : ℕ) → length (links_by s ix names t machines b at n) ≤ 288
unfolding links_by
links_few s ix names t machines b at n =
    let e : length (snapshot_links t machines b at n) ≡ min 256 n = sym (ap length (snaps_all t machines b at n)) ∙ snaps_length t machines b at (min 256 n) in
    omega (arith, length-append (entry_links s ix names t) (snapshot_links t machines b at n), entries_most s ix names t)

-- four lists of their parts are the correspondences
pub links_back : (l : List Link) → links_of (map (λ k. k.a) l) (map (λ k. k.x) l) (map (λ k. k.b) l) (map (λ k. k.y) l) ≡ l
unfolding links_of
links_back [] = refl
links_back (k ∷ l) = ap (λ (m : List Link). k ∷ m) (links_back l)

module _ (s : Text) (b ix names t : List ℕ) (p : Table) where
  -- the world, from the arrays
  module _ {each : List ℕ} (machines : each ≡ machine_table t) where
    abbrev made : List Link
    made = links_by s ix names t each b p.snapshots.at p.snapshots.count

    pub world_made : (n : ℕ) (a : List ℕ) (x : List ℤ) (c : List ℕ) (y : List ℤ) → n ≡ length made
        → a ≡ padded 0 288 (map (λ l. l.a) made) → x ≡ padded (pos 0) 288 (map (λ l. l.x) made) → c ≡ padded 0 288 (map (λ l. l.b) made) → y ≡ padded (pos 0) 288 (map (λ l. l.y) made)
        → {count files pinned trace : ℕ} → count ≡ machine_count (facts_by t) → files ≡ p.files → pinned ≡ bits_of (λ f. is_pinned f.tie) (facts_by t).files → trace ≡ trace_by (facts_by t) (timeline_of s ix names)
        → world_of (take (n - 0) a) (take (n - 0) x) (take (n - 0) c) (take (n - 0) y) count files pinned trace ≡ world_by s b ix names t p
    unfolding world_by
    world_made n a x c y e ea ex ec ey em ef ep et =
        (λ i. world_of (front (λ l. l.a) 0 ea i) (front (λ l. l.x) (pos 0) ex i) (front (λ l. l.b) 0 ec i) (front (λ l. l.y) (pos 0) ey i) (em i) (ef i) (ep i) (et i))
        ∙ (λ i. record {
          machines = machine_count (facts_by t);
          files = p.files;
          pinned = bits_of (λ f. is_pinned f.tie) (facts_by t).files;
          trace = trace_by (facts_by t) (timeline_of s ix names);
          links = (links_back made ∙ ap (λ (m : List ℕ). links_by s ix names t m b p.snapshots.at p.snapshots.count) machines) i;
        })
      where
        front : {A : Type 0} (f : Link → A) (z : A) {l : List A} → l ≡ padded z 288 (map f made) → take (n - 0) l ≡ map f made
        front f z q = ap (take (n - 0)) q ∙ padded_front z 288 n (map f made) (e ∙ sym (length_map f made))

  -- as many answers as events
  pub answers_length : length (answers_by s b ix names t p) ≡ p.events.count
  unfolding answers_by events_at
  answers_length =
      ap length (answers_map (world_by s b ix names t p) (clock_by t (machine_table t)) (λ e. e.reading) (events_at b p.events.at p.events.count))
      ∙ (length_map _ (events_at b p.events.at p.events.count) ∙ listed_length (λ i. event_at b (p.events.at + 75 * i)) 0 p.events.count)
