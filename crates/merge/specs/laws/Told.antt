-- What is told of a manifest and a sheet, and what the merge then comes to. Assumes nothing.
use Rattle.std.specs.Prelude.{◌≡◌, refl, List, map, ℤ, pos, length, take, replicate}
use Rattle.std.proofs.Common.{sym, ◌∙◌, arith, length-append}
use Rattle.std.proofs.Math.Path.{ap}
use Prim.Native.Nat.{ℕ, ◌+◌, ◌-◌, ◌≤◌, ◌<◌, min}
use Rattle.std.proofs.lemmas.List.{length-replicate}
use Rattle.text.specs.Reading.{Text}
use Rattle.sheet.specs.Sheets.{read_of}
use Rattle.sheet.specs.declared.Table.{Table}
use Rattle.reader.specs.Reader.{table_of, lookups_of}
use Rattle.meant.specs.Meant.{timeline_of}
use Rattle.graphs.specs.Links.{Link}
use Rattle.graphs.specs.Graphs.{world_of}
use Rattle.merged.specs.Machines.{machine_count}
use Rattle.merged.specs.Refusals.{checks, first_of, is_pinned}
use Rattle.merged.specs.Timeline.{bits_of, trace_by}
use Rattle.merged.specs.declared.Room.{Room}
use Rattle.merged.specs.Merged.{padded, refused_by, merged}
use Rattle.merged.proofs.laws.Lists.{length_map}
use Rattle.checks.specs.Table.{facts_by}
use Rattle.checks.specs.Machines.{machine_table}
use Rattle.lines.specs.Lines.{links_by}
use Rattle.placed.specs.Placed.{world_in}
use Rattle.placed.specs.declared.Known.{Known}
use Rattle.placed.specs.Told.{Told, Refused, Accepted}
use Rattle.known.specs.Known.{table_in, given_by, fact_table, links_in, given_in, told}
use Rattle.known.specs.Theorems.{told_by}
use Rattle.joins.specs.Joined.{Read, Small, world_by}
use Rattle.joins.proofs.Ends.{by_manifest, by_sheet, by_both, few_machines, small}
use Rattle.joins.proofs.laws.Arrays.{links_few, world_made}

-- ---- the variants are apart

abbrev number_in : Told → ℕ
number_in (Refused n) = n
number_in (Accepted k) = 0

abbrev kind_in : Told → ℕ
kind_in (Refused n) = 0
kind_in (Accepted k) = 1

abbrev known_in : Known → Told → Known
known_in d (Refused n) = d
known_in d (Accepted k) = k

apart : {k : Known} {n : ℕ} → Accepted k ≡ Refused n → ⊥
apart e = let z : ◌≡◌ {A = ℕ} 1 0 = ap kind_in e in omega arith

-- ---- lists

-- each list is as long as its array
pub held_length : {A : Type 0} (s : Text) (b : List ℕ) (f : Link → A) (z : A) {a : List A} → a ≡ padded z 288 (map f (links_in s b)) → length a ≡ 288
held_length s b f z e =
    let l = links_in s b in
    let n = links_few s (table_of s) (lookups_of s) (fact_table s b) (machine_table (fact_table s b)) b (table_in (read_of b)).snapshots.at (table_in (read_of b)).snapshots.count in
    let h = ap length e ∙ (length-append (map f l) (replicate (288 - length (map f l)) z) ∙ ap (λ (k : ℕ). length (map f l) + k) (length-replicate (288 - length (map f l)) z)) in
    omega (arith, length_map f l)

-- ---- a refusal

pub refused_so : (s : Text) (b : List ℕ) (room : Room) (n : ℕ) → told s b ≡ Refused n → merged s b room ≡ refused_by n room
refused_so s b room =
    told_by s b (λ r. (n : ℕ) → r ≡ Refused n → merged s b room ≡ refused_by n room)
    (λ f n e. by_manifest s b room f ∙ ap (λ (k : ℕ). refused_by k room) (ap number_in e))
    (λ z k q n e. by_sheet s b room z q ∙ ap (λ (k : ℕ). refused_by k room) (ap number_in e))
    (λ z p q f n e. by_both (record { manifest = z; index = refl; names_are = refl; sheet = q; known = refl }) room refl f ∙ ap (λ (k : ℕ). refused_by k room) (ap number_in e))
    (λ z p q f n e. absurd (apart e))

-- ---- acceptance

-- both are accepted, and what is known is that of their tables
pub record Acceptance (s : Text) (b : List ℕ) (k : Known) : Type 0 where
  pub p : Table
  pub tables : Read s b (table_of s) (lookups_of s) (fact_table s b) p
  pub none : first_of checks (facts_by (fact_table s b)) ≡ 0
  pub known : k ≡ record { sources = p.sources.count; at = p.events.at; given = given_in s b }

pub accepted_so : (s : Text) (b : List ℕ) (k : Known) → told s b ≡ Accepted k → Acceptance s b k
accepted_so s b =
    told_by s b (λ r. (k : Known) → r ≡ Accepted k → Acceptance s b k)
    (λ f k e. absurd (apart (sym e)))
    (λ z n q k e. absurd (apart (sym e)))
    (λ z p q f k e. absurd (apart (sym e)))
    (λ z p q f k e. record { p = p; tables = record { manifest = z; index = refl; names_are = refl; sheet = q; known = refl }; none = f; known = sym (ap (known_in k) e) })

module _ {s : Text} {b : List ℕ} {k : Known} (h : Acceptance s b k) where
  abbrev t : List ℕ
  t = fact_table s b

  table_is : table_in (read_of b) ≡ h.p
  unfolding table_in
  table_is = ap table_in h.tables.sheet

  pub sources_are : k.sources ≡ h.p.sources.count
  sources_are = ap (λ (q : Known). q.sources) h.known

  pub at_is : k.at ≡ h.p.events.at
  at_is = ap (λ (q : Known). q.at) h.known

  pub events_are : k.given.events ≡ h.p.events.count
  unfolding given_by
  events_are = ap (λ (q : Known). q.given.events) h.known ∙ ap (λ (q : Table). q.events.count) table_is

  links_are : k.given.links ≡ length (links_in s b)
  unfolding given_by
  links_are = ap (λ (q : Known). q.given.links) h.known

  pub machines_are : k.given.machines ≡ machine_count (facts_by t)
  unfolding given_by
  machines_are =
      let m : min 255 (machine_count (facts_by t)) ≡ machine_count (facts_by t) = omega (arith, few_machines h.tables h.none) in
      ap (λ (q : Known). q.given.machines) h.known ∙ m

  pub files_are : k.given.files ≡ h.p.files
  unfolding given_by
  files_are =
      let f : Small h.p = small h.tables in
      let m : min 255 h.p.files ≡ h.p.files = omega (arith, f.files) in
      ap (λ (q : Known). q.given.files) h.known ∙ (ap (λ (q : Table). min 255 q.files) table_is ∙ m)

  pinned_is : k.given.pinned ≡ bits_of (λ f. is_pinned f.tie) (facts_by t).files
  unfolding given_by
  pinned_is = ap (λ (q : Known). q.given.pinned) h.known

  pub trace_is : k.given.trace.0 ≡ trace_by (facts_by t) (timeline_of s (table_of s) (lookups_of s))
  unfolding given_by
  trace_is = ap (λ (q : Known). q.given.trace.0) h.known

  -- the world of the lists is that of the tables
  pub world_is : (a : List ℕ) (x : List ℤ) (c : List ℕ) (y : List ℤ)
      → a ≡ padded 0 288 (map (λ l. l.a) (links_in s b)) → x ≡ padded (pos 0) 288 (map (λ l. l.x) (links_in s b)) → c ≡ padded 0 288 (map (λ l. l.b) (links_in s b)) → y ≡ padded (pos 0) 288 (map (λ l. l.y) (links_in s b))
      → world_in k.given a x c y ≡ world_by s b (table_of s) (lookups_of s) t h.p
  world_is a x c y ea ex ec ey =
      let d : k.given.links ≡ k.given.links - 0 = omega arith in
      let l : links_in s b ≡ links_by s (table_of s) (lookups_of s) t (machine_table t) b h.p.snapshots.at h.p.snapshots.count = ap (λ (q : Table). links_by s (table_of s) (lookups_of s) t (machine_table t) b q.snapshots.at q.snapshots.count) table_is in
      (λ i. world_of (take (d i) a) (take (d i) x) (take (d i) c) (take (d i) y) k.given.machines k.given.files k.given.pinned k.given.trace.0)
      ∙ world_made s b (table_of s) (lookups_of s) t h.p refl k.given.links a x c y (links_are ∙ ap length l)
      (ea ∙ ap (λ (m : List Link). padded 0 288 (map (λ l. l.a) m)) l)
      (ex ∙ ap (λ (m : List Link). padded (pos 0) 288 (map (λ l. l.x) m)) l)
      (ec ∙ ap (λ (m : List Link). padded 0 288 (map (λ l. l.b) m)) l)
      (ey ∙ ap (λ (m : List Link). padded (pos 0) 288 (map (λ l. l.y) m)) l)
      machines_are files_are pinned_is trace_is
