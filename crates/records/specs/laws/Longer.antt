-- A record that is whole in a sheet is the same record in every longer one, and so is the step over it. Assumes nothing.
use Rattle.std.specs.Prelude.{◌≡◌, Bool, List, ◌++◌, drop}
use Rattle.std.proofs.Math.Path.{refl, ap}
use Rattle.std.proofs.Common.{◌∙◌, arith, le-ltb}
use Rattle.std.proofs.Math.Bool.{true, false}
use Prim.Native.Nat.{ℕ, zero, suc, ◌+◌, ◌*◌, ◌≤◌}
use Rattle.std.proofs.Math.ListN.{length, length-append}
use Rattle.bits.specs.Bits.{number}
use Rattle.bits.specs.laws.Slices.{number_longer, number_drop}
use Rattle.records.specs.Layout.{Record, source, snapshot, event, bytes_at, head_here, file_here, source_here, snapshot_here, event_here, pick, record_of, record_at, size_of}
use Rattle.records.specs.Faults.{cut, fault_of, next, step_for, step_at, Next}
use Rattle.records.specs.laws.Fields.{length_bytes}
use Rattle.records.specs.laws.Steps.{Seen, a_file, a_source, a_snapshot, an_event, Passes, step_apart}
use Rattle.records.specs.declared.State.{State}

module _ (s t : List ℕ) where
  same : (i w : ℕ) → i + w ≤ 8 * length s → number (s ++ t) i w ≡ number s i w
  same = number_longer s t

  pub bytes_longer : (at n : ℕ) → at + 8 * n ≤ 8 * length s → bytes_at (s ++ t) at n ≡ bytes_at s at n
  unfolding bytes_at
  bytes_longer at zero h = refl
  bytes_longer at (suc n) h = rw (same at 8 (omega arith), bytes_longer (at + 8) n (omega arith))

  pub event_longer : (at : ℕ) → at + 75 ≤ 8 * length s → event_here (s ++ t) at ≡ event_here s at
  event_longer at h = rw (same (at + 3) 5 (omega arith), same (at + 3 + 5) 3 (omega arith), same (at + 3 + 5 + 3) 64 (omega arith))

  pub source_longer : (at : ℕ) → at + 40 ≤ 8 * length s → source_here (s ++ t) at ≡ source_here s at
  source_longer at h = rw (same (at + 3) 5 (omega arith), same (at + 3 + 5) 32 (omega arith))

  pub snapshot_longer : (at : ℕ) → at + 142 ≤ 8 * length s → snapshot_here (s ++ t) at ≡ snapshot_here s at
  snapshot_longer at h =
      rw (
        same (at + 3) 5 (omega arith),
        same (at + 3 + 5) 3 (omega arith),
        same (at + 3 + 5 + 3) 64 (omega arith),
        same (at + 3 + 5 + 3 + 64) 3 (omega arith),
        same (at + 3 + 5 + 3 + 64 + 3) 64 (omega arith),
      )

  pub file_longer : (at : ℕ) → at + (15 + 8 * (head_here s at).length) ≤ 8 * length s → file_here (s ++ t) at ≡ file_here s at
  file_longer at h =
      rw (
        same (at + 3) 1 (omega arith),
        same (at + 3 + 1) 3 (omega arith),
        same (at + 3 + 1 + 3) 8 (omega arith),
        bytes_longer (at + 15) (head_here s at).length (omega arith),
      )

  -- a record that is whole
  abbrev Whole : ℕ → Record → Type 0
  Whole at r = at + size_of r ≤ 8 * length s

  pick_same : (at : ℕ) (b : Bool) {x y u v : Record} → (Whole at x → u ≡ x) → (Whole at y → v ≡ y) → Whole at (pick b x y) → pick b u v ≡ pick b x y
  unfolding pick
  pick_same at true f g h = f h
  pick_same at false f g h = g h

  of_kind_same : (at k : ℕ) → Whole at (record_of s at k) → record_of (s ++ t) at k ≡ record_of s at k
  unfolding record_of
  of_kind_same at k h =
      pick_same at _ (λ w. refl)
      (pick_same at _ (λ w. file_longer at (rw length_bytes at w))
      (pick_same at _ (λ w. ap source (source_longer at w))
      (pick_same at _ (λ w. ap snapshot (snapshot_longer at w))
      (pick_same at _ (λ w. ap event (event_longer at w)) (λ w. refl))))) h

  pub record_longer : (at : ℕ) → at + 3 ≤ 8 * length s → at + size_of (record_at s at) ≤ 8 * length s → record_at (s ++ t) at ≡ record_at s at
  unfolding record_at
  record_longer at l h = ap (record_of (s ++ t) at) (same at 3 l) ∙ of_kind_same at (number s at 3) h

  step_of_seen : (st : State) {r : Record} → Seen s st.at r → Passes s st r → step_for (s ++ t) st r ≡ Next (next st r)
  unfolding step_for fault_of pick
  step_of_seen st {r} v p = go v p (le-ltb (8 * length (s ++ t)) (st.at + size_of r) (omega (arith, p.whole, length-append s t)))
    where
      go : {q : Record} → Seen s st.at q → Passes s st q → cut (s ++ t) st q ≡ false → step_for (s ++ t) st q ≡ Next (next st q)
      go a_file p c = rw (c, p.in_order, p.right, p.room)
      go a_source p c = rw (c, p.in_order, p.right, p.room)
      go a_snapshot p c = rw (c, p.in_order, p.right, p.room)
      go an_event p c = rw (c, p.in_order, p.right)

  three : (st : State) {r : Record} → Seen s st.at r → Passes s st r → st.at + 3 ≤ 8 * length s
  three st a_file p = omega (arith, p.whole)
  three st a_source p = omega (arith, p.whole)
  three st a_snapshot p = omega (arith, p.whole)
  three st an_event p = omega (arith, p.whole)

  -- the step over a record does not hang on what comes after it
  pub step_longer : (st : State) {n : State} → step_at s st ≡ Next n → step_at (s ++ t) st ≡ Next n
  unfolding step_at
  step_longer st {n} h =
      let q = step_apart s st h in
      ap (step_for (s ++ t) st) (record_longer st.at (three st q.0 q.1) q.1.whole) ∙ step_of_seen st q.0 q.1 ∙ ap Next q.2

-- ---- and the bytes in front may go: bytes at bit i of what is left are the bytes at 8 * k + i
pub bytes_drop : (s : List ℕ) (k i n : ℕ) → bytes_at (drop k s) i n ≡ bytes_at s (8 * k + i) n
unfolding bytes_at
bytes_drop s k i zero = refl
bytes_drop s k i (suc n) =
    let e : 8 * k + (i + 8) ≡ 8 * k + i + 8 = omega arith in
    rw (number_drop s k i 8, bytes_drop s k (i + 8) n, e)
