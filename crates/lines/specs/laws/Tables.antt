-- The table of what is known, read by number: clocks, ties, files of sources; and how many correspondences there are. Assumes nothing.
use Rattle.std.specs.Prelude.{◌≡◌, Bool, cond, ◌&&◌, ◌||◌, ℕ, zero, suc, ◌+◌, ◌*◌, ◌-◌, ◌≤◌, ◌<◌, min, ltb, leb, pos, length, get_or}
use Rattle.std.proofs.Math.Path.{refl, sym, ap}
use Rattle.std.proofs.Common.{◌∙◌, length-append, eq-eqb, ne_eqb, le-ltb}
use Rattle.std.proofs.Math.Bool.{true, false}
use mathlib.Core.List.{List, [], ◌∷◌, ◌++◌, map}
use native.Mathlib.Omega.{arith}
use Rattle.std.proofs.Math.Dec.{eqb}
use Rattle.std.proofs.Math.ListN.{set, get_or-eq_default}
use Rattle.text.specs.Reading.{Text, pick}
use Rattle.text.specs.laws.Readers.{pick_true, pick_false}
use Rattle.numbers.specs.Numbers.{clock_of, private_of, no_clock}
use Rattle.manifest.specs.Rows.{flat}
use Rattle.manifest.specs.declared.Relation.{Relation}
use Rattle.manifest.specs.declared.Link.{Link as Said}
use Rattle.manifest.specs.declared.Link.TheVariants.{Unrelated, Related}
use Rattle.records.specs.Readers.{snapshot_at, event_at}
use Rattle.records.specs.declared.Snapshot.{Snapshot}
use Rattle.records.specs.declared.Event.{Event}
use Rattle.index.specs.Index.{listed, entries_in}
use Rattle.index.proofs.laws.Entries.{listed_length}
use Rattle.meant.specs.Meant as meant
use Rattle.graphs.specs.Links.{Link}
use Rattle.merged.specs.Facts.{FileFact, SourceFact}
use Rattle.merged.proofs.laws.Lists.{length_map}
use Rattle.merged.specs.Refusals.{is_pinned}
use Rattle.merged.specs.Timeline.{private_clock, domain_clock, file_at, source_at, clock_for, link_from}
use Rattle.checks.specs.Table.{file_number, source_number, file_by, source_by, files_in, sources_held, facts_by}
use Rattle.checks.specs.laws.Given.{pinned_is}
use Rattle.lines.specs.Lines.{entry_links, snapshot_links, link_by, clock_by, events_at, over}
use Rattle.lines.specs.laws.Lists.{flat_none, flat_more, map_more, listed_more, over_set, over_length}
use Rattle.lines.specs.laws.Written.{line}

-- ---- no clock

pub machine_past : (d m : ℕ) → 31 < m → domain_clock d m ≡ 224
unfolding clock_of
machine_past d m h = go (ltb 0 d) (leb d 6) (le-ltb m 32 (omega arith))
  where
    go : (a b : Bool) {x : Bool} → x ≡ false → (cond (a && b && x) (record { 0 = 6 * m + d - 1 }) no_clock).0 ≡ 224
    go true true e = ap (λ (x : Bool). (cond x (record { 0 = 6 * m + d - 1 }) no_clock).0) e
    go true false e = refl
    go false b e = refl

pub file_past : (f : ℕ) → 31 < f → private_clock f ≡ 224
unfolding private_of
file_past f h = ap (λ (x : Bool). (cond x (record { 0 = 192 + f }) no_clock).0) (le-ltb f 32 (omega arith))

-- ---- files and sources by number

listed_at : {A : Type 0} (f : ℕ → A) (i n k : ℕ) (d : A) → k < n → get_or (listed f i n) k d ≡ f (i + k)
unfolding listed
listed_at f i zero k d h = absurd (omega arith)
listed_at f i (suc n) zero d h = let e : i ≡ i + 0 = omega arith in ap f e
listed_at f i (suc n) (suc k) d h = listed_at f (suc i) n k d (omega arith) ∙ (let e : suc i + k ≡ i + suc k = omega arith in ap f e)

listed_here : {A : Type 0} (f : ℕ → A) (n k : ℕ) (d : A) → k < n → get_or (listed f 0 n) k d ≡ f k
listed_here f n k d h = let e : 0 + k ≡ k = omega arith in listed_at f 0 n k d h ∙ ap f e

listed_past : {A : Type 0} (f : ℕ → A) (n k : ℕ) (d : A) → n ≤ k → get_or (listed f 0 n) k d ≡ d
listed_past f n k d h = get_or-eq_default (listed f 0 n) d (omega (arith, listed_length f 0 n))

module _ (t : List ℕ) where
  pub source_here : (j : ℕ) → j < sources_held t → source_number t j 0 ≡ (source_at (facts_by t) j).file
  unfolding facts_by source_by
  source_here j h = sym (ap (λ (v : SourceFact). v.file) (listed_here (source_by t) (sources_held t) j _ h))

  pub source_past : (j : ℕ) → sources_held t ≤ j → 0 ≡ (source_at (facts_by t) j).file
  unfolding facts_by
  source_past j h = sym (ap (λ (v : SourceFact). v.file) (listed_past (source_by t) (sources_held t) j _ h))

  pub pinned_here : (f : ℕ) → f < files_in t → eqb (file_number t f 1) 2 ≡ is_pinned (file_at (facts_by t) f).tie
  unfolding facts_by file_by
  pinned_here f h = sym (ap (λ (v : FileFact). is_pinned v.tie) (listed_here (file_by t) (files_in t) f _ h) ∙ pinned_is (file_number t f 1))

  pub pinned_past : (f : ℕ) → files_in t ≤ f → false ≡ is_pinned (file_at (facts_by t) f).tie
  unfolding facts_by is_pinned
  pinned_past f h = sym (ap (λ (v : FileFact). is_pinned v.tie) (listed_past (file_by t) (files_in t) f _ h))

-- ---- how many correspondences there are

pub link_most : (t : List ℕ) (l : Said) → length (link_from (facts_by t) l) ≤ 1
unfolding link_from
link_most t Unrelated = omega arith
link_most t (Related r) = omega arith

flat_most : {B : Type 0} (f : ℕ → List B) → ((i : ℕ) → length (f i) ≤ 1) → (j n : ℕ) → length (flat f (listed (λ i. i) j n)) ≤ n
unfolding flat listed
flat_most f h j zero = omega arith
flat_most f h j (suc n) = omega (arith, h j, flat_most f h (suc j) n, length-append (f j) (flat f (listed (λ i. i) (suc j) n)))

module _ (s : Text) (ix names t : List ℕ) where
  -- those of the first n entries
  unfoldable pub entries_to : ℕ → List Link
  entries_to n = flat (λ i. link_from (facts_by t) (meant.link_of s ix names i)) (listed (λ i. i) 0 n)

  pub to_most : (n : ℕ) → length (entries_to n) ≤ n
  unfolding entries_to
  to_most n = flat_most (λ i. link_from (facts_by t) (meant.link_of s ix names i)) (λ i. link_most t (meant.link_of s ix names i)) 0 n

  pub to_none : [] ≡ entries_to 0
  unfolding entries_to
  to_none = sym (flat_none (λ i. link_from (facts_by t) (meant.link_of s ix names i)))

  pub to_more : (n : ℕ) → entries_to n ++ link_from (facts_by t) (meant.link_of s ix names n) ≡ entries_to (n + 1)
  unfolding entries_to
  to_more n = sym (flat_more (λ i. link_from (facts_by t) (meant.link_of s ix names i)) n)

  pub to_all : entries_to (entries_in ix) ≡ entry_links s ix names t
  unfolding entries_to entry_links
  to_all = refl

  pub entries_few : entries_in ix ≤ 32
  unfolding entries_in pick
  entries_few = go (eqb (get_or ix 0 0) 0) (get_or ix 5 0)
    where
      go : (b : Bool) (n : ℕ) → pick b 0 (min 32 n) ≤ 32
      go true n = omega arith
      go false n = omega arith

  pub entries_most : length (entry_links s ix names t) ≤ 32
  entries_most = omega (arith, ap length to_all, to_most (entries_in ix), entries_few)

-- ---- the snapshots, one after the other

module _ (t machines b : List ℕ) (at : ℕ) where
  -- those of the first n
  unfoldable pub snapshots_to : ℕ → List Link
  snapshots_to n = map (link_by t machines) (listed (λ i. snapshot_at b (at + 142 * i)) 0 n)

  pub snaps_length : (n : ℕ) → length (snapshots_to n) ≡ n
  unfolding snapshots_to
  snaps_length n = length_map (link_by t machines) (listed (λ i. snapshot_at b (at + 142 * i)) 0 n) ∙ listed_length (λ i. snapshot_at b (at + 142 * i)) 0 n

  pub snaps_none : [] ≡ snapshots_to 0
  unfolding snapshots_to listed
  snaps_none = refl

  pub snaps_more : (n : ℕ) → snapshots_to n ++ (link_by t machines (snapshot_at b (at + 142 * n)) ∷ []) ≡ snapshots_to (n + 1)
  unfolding snapshots_to
  snaps_more n =
      sym (ap (map (link_by t machines)) (listed_more (λ i. snapshot_at b (at + 142 * i)) n)
      ∙ map_more (link_by t machines) (listed (λ i. snapshot_at b (at + 142 * i)) 0 n) (snapshot_at b (at + 142 * n)))

  pub snaps_all : (n : ℕ) → snapshots_to (min 256 n) ≡ snapshot_links t machines b at n
  unfolding snapshots_to snapshot_links
  snaps_all n = refl

pub snapshot_line : (t machines : List ℕ) {n m : Snapshot} {p q : ℕ} → n ≡ m → p ≡ domain_clock n.clock (get_or machines n.source 0) → q ≡ domain_clock n.clock2 (get_or machines n.source 0)
    → line p n.reading q n.reading2 ≡ link_by t machines m
unfolding link_by
snapshot_line t machines {n} e ep eq = (λ i. line (ep i) n.reading (eq i) n.reading2) ∙ ap (link_by t machines) e

pub entry_line : (t : List ℕ) {l : Said} {r : Relation} {p q : ℕ} → l ≡ Related r → p ≡ clock_for (facts_by t) r.from → q ≡ clock_for (facts_by t) r.to
    → line p (pos 0) q r.offset ∷ [] ≡ link_from (facts_by t) l
unfolding link_from
entry_line t {r = r} e ep eq = (λ i. line (ep i) (pos 0) (eq i) r.offset ∷ []) ∙ sym (ap (link_from (facts_by t)) e)

-- ---- the events, one after the other, written over a memory

module _ {A : Type 0} (f : Event → A) (b : List ℕ) (at : ℕ) (m : List A) where
  unfoldable pub events_to : ℕ → List A
  events_to k = over (map f (events_at b at k)) m

  many : (k : ℕ) → length (map f (events_at b at k)) ≡ k
  unfolding events_at
  many k = length_map f (events_at b at k) ∙ listed_length (λ i. event_at b (at + 75 * i)) 0 k

  pub events_none : m ≡ events_to 0
  unfolding events_to events_at listed
  events_none = refl

  pub events_length : {k : ℕ} → k ≤ length m → length (events_to k) ≡ length m
  unfolding events_to
  events_length {k} h = over_length (map f (events_at b at k)) m (omega (arith, many k))

  pub events_more : {k : ℕ} {l : List A} {e : Event} → k < length m → l ≡ events_to k → e ≡ event_at b (at + 75 * k) → set l k (f e) ≡ events_to (k + 1)
  unfolding events_to events_at
  events_more {k} {l} {e} h q g =
      (λ i. set (q i) (sym (many k) i) (f (g i)))
      ∙ (over_set (map f (events_at b at k)) m (f (event_at b (at + 75 * k))) (omega (arith, many k))
      ∙ ap (λ (v : List A). over v m) (sym (ap (map f) (listed_more (λ i. event_at b (at + 75 * i)) k) ∙ map_more f (events_at b at k) (event_at b (at + 75 * k)))))

-- ---- an event's clock: pinned, on clock 0, or else on the named clock of its source's machine

module _ (t machines : List ℕ) (e : Event) {f : ℕ} (ef : f ≡ (source_at (facts_by t) e.source).file) {p : Bool} (ep : p ≡ is_pinned (file_at (facts_by t) f).tie) where
  clock_is : pick (p || eqb e.clock 0) (private_clock f) (domain_clock e.clock (get_or machines e.source 0)) ≡ clock_by t machines e
  unfolding clock_by
  clock_is =
      ap (λ (q : Bool). pick (q || eqb e.clock 0) (private_clock f) (domain_clock e.clock (get_or machines e.source 0))) ep
      ∙ ap (λ (g : ℕ). pick (is_pinned (file_at (facts_by t) g).tie || eqb e.clock 0) (private_clock g) (domain_clock e.clock (get_or machines e.source 0))) ef

  pub clock_pinned : {r : ℕ} → p ≡ true → r ≡ private_clock f → r ≡ clock_by t machines e
  clock_pinned h q = q ∙ (sym (pick_true _ _ (ap (λ (b : Bool). b || eqb e.clock 0) h)) ∙ clock_is)

  pub clock_zero : {r : ℕ} → p ≡ false → e.clock ≡ 0 → r ≡ private_clock f → r ≡ clock_by t machines e
  clock_zero h z q = q ∙ (sym (pick_true _ _ (ap (λ (b : Bool). b || eqb e.clock 0) h ∙ eq-eqb e.clock 0 z)) ∙ clock_is)

  pub clock_named : {r : ℕ} → p ≡ false → (e.clock ≡ 0 → ⊥) → r ≡ domain_clock e.clock (get_or machines e.source 0) → r ≡ clock_by t machines e
  clock_named h z q = q ∙ (sym (pick_false _ _ (ap (λ (b : Bool). b || eqb e.clock 0) h ∙ ne_eqb e.clock 0 z)) ∙ clock_is)
