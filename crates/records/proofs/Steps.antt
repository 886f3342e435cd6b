-- A step over one record, in the code's own values: what the readers gave, the verdict, and the state after. Assumes nothing.
use mathlib.Core.Path.{◌≡◌, refl, sym, ap, ◌∙◌}
use mathlib.Core.Bool.{Bool, false, ◌||◌}
use mathlib.Core.List.{List}
use Prim.Native.Nat.{ℕ, ◌+◌, ◌*◌, ◌^◌, ◌<◌}
use native.Mathlib.Omega.{arith}
use lib.Dec.{eqb, ltb, leb}
use lib.ListN.{length}
use borrow.Author.Tests.{ne_eqb}
use Rattle.bits.specs.Bits.{number, taken_at}
use Rattle.bits.specs.laws.Number.{number_lt}
use Rattle.bits.specs.laws.Fields.{take_in}
use Rattle.bits.specs.declared.Taken.{Taken}
use Rattle.records.specs.Layout.{Record, source, snapshot, event, ending, unknown, head_here, file_here, source_here, snapshot_here, event_here, pick, record_of, record_at}
use Rattle.records.specs.Faults.{is_container, clocks_wrong, fault_of, fault, bit, Step, Next, told, passed, step_for, step_at}
use Rattle.records.specs.States.{Fit}
use Rattle.records.specs.Readers.{far, head_at, source_at, snapshot_at, event_at}
use Rattle.records.specs.laws.Fields.{length_bytes, head_near, source_near, snapshot_near, event_near}
use Rattle.std.specs.Prelude.{Option, Result, Err}
use Rattle.refusals.specs.Refusals.{number as number_of}
use Rattle.refusals.specs.declared.Refusal.{Refusal}
use Rattle.records.specs.declared.State.{State}
use Rattle.records.specs.declared.Head.{Head}
use Rattle.records.specs.declared.Source.{Source}
use Rattle.records.specs.declared.Snapshot.{Snapshot}

-- a verdict against a record is the step over it,
pub step_bad : (s : List ℕ) (st : State) (r : Record) {e : Refusal} {x : Result (Option State) Refusal} → x ≡ Err e → number_of e ≡ fault s st r → 0 < number_of e → told number_of x ≡ step_for s st r
unfolding step_for pick
step_bad s st r {e} q f p = rw (q, ← f, ne_eqb (number_of e) 0 (λ z. omega arith))

-- and where there is none the step is what the record leads to
pub step_good : (s : List ℕ) (st : State) (r : Record) {x : Step} → 0 ≡ fault s st r → x ≡ passed st r → x ≡ step_for s st r
unfolding step_for pick
step_good s st r f q = rw (← f) q

module _ (s : List ℕ) (st : State) (fit : Fit s st) where
  near : st.at < far
  near = omega (arith, fit.here, fit.short)

  -- ---- a file
  head_is : {h : Head} → h ≡ head_at s st.at → h ≡ head_here s st.at
  head_is e = e ∙ head_near s st.at near

  pub file_fault : {h : Head} {n : ℕ} {w : Bool} {k : ℕ} → h ≡ head_at s st.at → n ≡ h.length → w ≡ (eqb h.length 0 || eqb h.claim 7) →
      k ≡ fault_of (ltb (8 * length s) (st.at + (15 + 8 * n))) (ltb 1 st.last) w false (leb 32 st.files) → k ≡ fault s st (file_here s st.at)
  file_fault eh en ew ek = simp length_bytes (rw (ew, en, head_is eh) at ek)

  pub file_next : {h : Head} {n m : ℕ} → h ≡ head_at s st.at → n ≡ h.length → m ≡ st.containers + bit h.container * 2 ^ st.files →
      Next (record { at = st.at + (15 + 8 * n); last = 1; files = st.files + 1; containers = m; sources = st.sources; snapshots = st.snapshots; events = st.events })
      ≡ passed st (file_here s st.at)
  file_next eh en em = simp length_bytes (rw (em, en, head_is eh))

  -- ---- a source
  source_is : {x : Source} → x ≡ source_at s st.at → x ≡ source_here s st.at
  source_is e = e ∙ source_near s st.at near

  pub source_small : {x : Source} {f : ℕ} → x ≡ source_at s st.at → f ≡ x.file.0 → f < 32
  source_small e q = rw (q, source_is e) (number_lt s (st.at + 3) 5)

  pub source_fault : {x : Source} {f : ℕ} {c w : Bool} {k : ℕ} → x ≡ source_at s st.at → f ≡ x.file.0 → c ≡ is_container st.containers x.file.0 → w ≡ (leb st.files f || c) →
      k ≡ fault_of (ltb (8 * length s) (st.at + 40)) (ltb 2 st.last) w false (leb 32 st.sources) → k ≡ fault s st (source (source_here s st.at))
  source_fault ex ef ec ew ek = rw (ew, ec, ef, source_is ex) at ek

  -- ---- a snapshot
  pub snapshot_fault : {x : Snapshot} {o : ℕ} {c w : Bool} {k : ℕ} → x ≡ snapshot_at s st.at → o ≡ x.source → c ≡ clocks_wrong x.clock x.clock2 → w ≡ (leb st.sources o || c) →
      k ≡ fault_of (ltb (8 * length s) (st.at + 142)) (ltb 3 st.last) w false (leb 256 st.snapshots) → k ≡ fault s st (snapshot (snapshot_here s st.at))
  snapshot_fault ex eo ec ew ek = rw (ew, ec, eo, ex ∙ snapshot_near s st.at near) at ek

  -- ---- an event
  pub event_fault : {source clock o : ℕ} {w : Bool} {k : ℕ} → source ≡ (event_at s st.at).source → clock ≡ (event_at s st.at).clock → o ≡ source → w ≡ (leb st.sources o || eqb clock 7) →
      k ≡ fault_of (ltb (8 * length s) (st.at + 75)) (ltb 4 st.last) w false false → k ≡ fault s st (event (event_here s st.at))
  event_fault es ec eo ew ek = rw (ew, eo, es, ec, event_near s st.at near) at ek

  -- ---- by the kind
  kind_is : {t : Taken ℕ} → t ≡ taken_at s st.at 3 → number s st.at 3 ≡ t.value
  kind_is e = rw (e ∙ take_in s st.at 3 (omega arith) (omega (arith, near)))

  of_kind : {t : Taken ℕ} (k : ℕ) → t ≡ taken_at s st.at 3 → t.value ≡ k → step_at s st ≡ step_for s st (record_of s st.at k)
  unfolding step_at record_at
  of_kind k e h = ap (λ (n : ℕ). step_for s st (record_of s st.at n)) (kind_is e ∙ h)

  pub is_end : {t : Taken ℕ} {r : Step} → t ≡ taken_at s st.at 3 → t.value ≡ 0 → r ≡ step_for s st ending → r ≡ step_at s st
  unfolding record_of pick
  is_end e h q = q ∙ sym (of_kind 0 e h)

  pub is_file : {t : Taken ℕ} {r : Step} → t ≡ taken_at s st.at 3 → t.value ≡ 1 → r ≡ step_for s st (file_here s st.at) → r ≡ step_at s st
  unfolding record_of pick
  is_file e h q = q ∙ sym (of_kind 1 e h)

  pub is_source : {t : Taken ℕ} {r : Step} → t ≡ taken_at s st.at 3 → t.value ≡ 2 → r ≡ step_for s st (source (source_here s st.at)) → r ≡ step_at s st
  unfolding record_of pick
  is_source e h q = q ∙ sym (of_kind 2 e h)

  pub is_snapshot : {t : Taken ℕ} {r : Step} → t ≡ taken_at s st.at 3 → t.value ≡ 3 → r ≡ step_for s st (snapshot (snapshot_here s st.at)) → r ≡ step_at s st
  unfolding record_of pick
  is_snapshot e h q = q ∙ sym (of_kind 3 e h)

  pub is_event : {t : Taken ℕ} {r : Step} → t ≡ taken_at s st.at 3 → t.value ≡ 4 → r ≡ step_for s st (event (event_here s st.at)) → r ≡ step_at s st
  unfolding record_of pick
  is_event e h q = q ∙ sym (of_kind 4 e h)

  pub is_unknown : {t : Taken ℕ} {r : Step} → t ≡ taken_at s st.at 3 → (t.value ≡ 0 → ⊥) → (t.value ≡ 1 → ⊥) → (t.value ≡ 2 → ⊥) → (t.value ≡ 3 → ⊥) → (t.value ≡ 4 → ⊥) →
      r ≡ step_for s st unknown → r ≡ step_at s st
  unfolding record_of pick
  is_unknown {t} e a b c d f q =
      let u : record_of s st.at t.value ≡ unknown = simp (ne_eqb t.value 0 a, ne_eqb t.value 1 b, ne_eqb t.value 2 c, ne_eqb t.value 3 d, ne_eqb t.value 4 f) in
      q ∙ ap (step_for s st) (sym u) ∙ sym (of_kind t.value e refl)
