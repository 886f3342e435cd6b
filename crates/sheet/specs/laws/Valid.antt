-- What 28 leaves in records that stand: files, sources and clocks that are there. Assumes nothing.
use Rattle.std.specs.Prelude.{◌≡◌, refl, Bool, true, false, ◌||◌, List, eqb, leb, length, get_or}
use Rattle.std.proofs.Common.{ap, ◌∙◌, arith}
use Prim.Native.Nat.{ℕ, zero, suc, ◌+◌, ◌≤◌, ◌<◌}
use borrow.Author.Tests.{eqb-false, leb-false}
use Rattle.bits.specs.laws.Number.{number_lt}
use Rattle.records.specs.Layout.{Record, source_here, snapshot_here, event_here}
use Rattle.records.specs.Faults.{is_container, clocks_wrong}
use Rattle.records.specs.laws.Steps.{a_file, a_source, a_snapshot, an_event}
use Rattle.records.specs.declared.State.{State}
use Rattle.records.specs.declared.Source.{Source}
use Rattle.records.specs.declared.Snapshot.{Snapshot}
use Rattle.records.specs.declared.Event.{Event}
use Rattle.sheet.specs.Lists.{sources_of, snapshots_of, events_of}
use Rattle.sheet.specs.laws.Reads.{Reads, done, more}
use Rattle.sheet.specs.laws.Listed.{grown}
use Rattle.sheet.specs.laws.Flags.{flag_kept}

-- a source is of a listed file that is no container
pub record GoodSource (e : State) (x : Source) : Type 0 where
  pub listed : x.file.0 < e.files
  pub plain : is_container e.containers x.file.0 ≡ false
  pub id : x.id < 0x100000000

-- a snapshot is of a listed source, and relates two different clocks of 1 to 6
pub record GoodSnapshot (e : State) (x : Snapshot) : Type 0 where
  pub listed : x.source < e.sources
  pub low : 1 ≤ x.clock
  pub high : x.clock ≤ 6
  pub low2 : 1 ≤ x.clock2
  pub high2 : x.clock2 ≤ 6
  pub two : x.clock ≡ x.clock2 → ⊥

-- an event is of a listed source, on a clock of 0 to 6
pub record GoodEvent (e : State) (x : Event) : Type 0 where
  pub listed : x.source < e.sources
  pub high : x.clock ≤ 6

or_none : (a b : Bool) → (a || b) ≡ false → (a ≡ false) × (b ≡ false)
or_none true b h = let z : ◌≡◌ {A = ℕ} 0 1 = cc in absurd (omega arith)
or_none false b h = (refl, h)

not_seven : (n : ℕ) → n < 8 → (n ≡ 7 → ⊥) → n ≤ 6
not_seven zero l h = omega arith
not_seven (suc n) l h = go n l (λ (e : n ≡ 6). h (ap suc e))
  where
    go : (m : ℕ) → suc m < 8 → (m ≡ 6 → ⊥) → suc m ≤ 6
    go m l h = omega arith

not_zero : (n : ℕ) → (n ≡ 0 → ⊥) → 1 ≤ n
not_zero zero h = absurd (h refl)
not_zero (suc n) h = omega arith

clocks : (a b : ℕ) → a < 8 → b < 8 → clocks_wrong a b ≡ false → (1 ≤ a) × (a ≤ 6) × (1 ≤ b) × (b ≤ 6) × (a ≡ b → ⊥)
clocks a b la lb h =
    let q = or_none (eqb a 7 || eqb b 7) ((eqb a 0 || eqb b 0) || eqb a b) h in
    let s = or_none (eqb a 7) (eqb b 7) q.0 in
    let r = or_none (eqb a 0 || eqb b 0) (eqb a b) q.1 in
    let z = or_none (eqb a 0) (eqb b 0) r.0 in
    (not_zero a (eqb-false a 0 z.0), not_seven a la (eqb-false a 7 s.0), not_zero b (eqb-false b 0 z.1), not_seven b lb (eqb-false b 7 s.1), eqb-false a b r.1)

module _ {s : List ℕ} where
  pub sources_good : {st e : State} {rs : List Record} → Reads s st rs e → (d : Source) (i : ℕ) → i < length (sources_of rs) → GoodSource e (get_or (sources_of rs) i d)
  unfolding sources_of
  sources_good done d i l = absurd (omega arith)
  sources_good (more a_file p rd) d i l = sources_good rd d i l
  sources_good {st} {e} (more a_source p rd) d zero l =
      let x = source_here s st.at in
      let q = or_none (leb st.files x.file.0) (is_container st.containers x.file.0) p.right in
      let f : x.file.0 < st.files = leb-false st.files x.file.0 q.0 in
      record {
        listed = omega (arith, (grown rd).files_up);
        plain = flag_kept rd x.file.0 f ∙ q.1;
        id = number_lt s (st.at + 3 + 5) 32;
      }
  sources_good (more a_source p rd) d (suc i) l = sources_good rd d i (omega arith)
  sources_good (more a_snapshot p rd) d i l = sources_good rd d i l
  sources_good (more an_event p rd) d i l = sources_good rd d i l

  pub snapshots_good : {st e : State} {rs : List Record} → Reads s st rs e → (d : Snapshot) (i : ℕ) → i < length (snapshots_of rs) → GoodSnapshot e (get_or (snapshots_of rs) i d)
  unfolding snapshots_of
  snapshots_good done d i l = absurd (omega arith)
  snapshots_good (more a_file p rd) d i l = snapshots_good rd d i l
  snapshots_good (more a_source p rd) d i l = snapshots_good rd d i l
  snapshots_good {st} {e} (more a_snapshot p rd) d zero l =
      let x = snapshot_here s st.at in
      let q = or_none (leb st.sources x.source) (clocks_wrong x.clock x.clock2) p.right in
      let f : x.source < st.sources = leb-false st.sources x.source q.0 in
      let c = clocks x.clock x.clock2 (number_lt s (st.at + 3 + 5) 3) (number_lt s (st.at + 3 + 5 + 3 + 64) 3) q.1 in
      record { listed = omega (arith, (grown rd).sources_up); low = c.0; high = c.1; low2 = c.2; high2 = c.3; two = c.4 }
  snapshots_good (more a_snapshot p rd) d (suc i) l = snapshots_good rd d i (omega arith)
  snapshots_good (more an_event p rd) d i l = snapshots_good rd d i l

  pub events_good : {st e : State} {rs : List Record} → Reads s st rs e → (d : Event) (i : ℕ) → i < length (events_of rs) → GoodEvent e (get_or (events_of rs) i d)
  unfolding events_of
  events_good done d i l = absurd (omega arith)
  events_good (more a_file p rd) d i l = events_good rd d i l
  events_good (more a_source p rd) d i l = events_good rd d i l
  events_good (more a_snapshot p rd) d i l = events_good rd d i l
  events_good {st} {e} (more an_event p rd) d zero l =
      let x = event_here s st.at in
      let q = or_none (leb st.sources x.source) (eqb x.clock 7) p.right in
      let f : x.source < st.sources = leb-false st.sources x.source q.0 in
      record { listed = omega (arith, (grown rd).sources_up); high = not_seven x.clock (number_lt s (st.at + 3 + 5) 3) (eqb-false x.clock 7 q.1) }
  events_good (more an_event p rd) d (suc i) l = events_good rd d i (omega arith)
