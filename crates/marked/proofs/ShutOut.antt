-- The merges that demand 2 shuts out: none of them meets the promise. Each gets one of the computed examples wrong. Assumes nothing.
use Rattle.std.proofs.Math.Path.{◌≡◌, sym}
use Rattle.std.proofs.Common.{ap, subst, ◌∙◌}
use Rattle.std.specs.Prelude.{List, ℕ, ◌≤◌, ◌<◌, ℤ, length, get_or}
use native.Mathlib.Omega.{arith}
use Rattle.std.proofs.Math.IntN.{pos}
use Rattle.text.specs.Reading.{Text}
use Rattle.manifest.specs.Manifest.{meaning_of}
use Rattle.records.specs.Layout.{Record}
use Rattle.sheet.specs.Lists.{events_of}
use Rattle.sheet.specs.Sheets.{records}
use Rattle.merged.specs.declared.Summary.{Summary}
use Rattle.merged.specs.Answers.{Refused, Merged}
use Rattle.merged.specs.declared.Room.{Room}
use Rattle.merged.specs.Merged.{records_of, Outcome, merged}
use Rattle.merged.proofs.Demands.{Meets}
use Rattle.marked.specs.Inputs.{no_manifest, example, on_the_phone, no_bytes, sheet_7, sheet_7_9}
use Rattle.marked.specs.Example.{Written, OnPath, no_event}
use Rattle.marked.proofs.laws.Sheets.{records_7_9, sheet_7_9_holds}
use Rattle.marked.proofs.laws.Ends.{some_room}
use Rattle.marked.proofs.laws.Merges.{written_7, written_phone}
use Rattle.marked.proofs.laws.Two.{accepted_7_9, first_written, second_written, first_machine, zero_written, zero_machine}
use Rattle.marked.proofs.laws.Steps.{steps_of_path}

-- whatever takes a manifest's bytes, a sheet's and the lent lengths, and says what is answered and what memory holds
abbrev pub Merge : Type 0
Merge = Text → List ℕ → Room → Outcome

-- memory that is long enough for two events
abbrev room : Room
room = (some_room sheet_7_9).0

-- event k is placed
abbrev pub PlacedAt : Outcome → ℕ → Type 0
PlacedAt o k = (1 ≤ get_or o.kinds k 0) × (get_or o.kinds k 0 ≤ 3)

module _ (f : Merge) (meets : Meets f) where
  -- what is written of an event, f writes
  kept : {m : Text} {b : List ℕ} {r : Room} {k : ℕ} {t : ℤ} {g n : ℕ} → Written (merged m b r) k t g n → Written (f m b r) k t g n
  kept {m} {b} {r} {k} {t} {g} {n} w = subst (λ (o : Outcome). Written o k t g n) (sym (meets m b r)) w

  first : Written (f example sheet_7_9 room) 0 (pos 250000007) 3 2
  first = kept (first_written room (some_room sheet_7_9).1)

  second : Written (f example sheet_7_9 room) 1 (pos 250000009) 3 2
  second = kept (second_written room (some_room sheet_7_9).1)

  none : Written (f no_manifest no_bytes room) 0 (pos 0) 0 0
  none = kept (zero_written room 0)

  -- ---- "a merge that refuses everything (acceptance is exact)"

  pub refuses_everything : ((m : Text) (b : List ℕ) (r : Room) → (n : ℕ) × ((f m b r).answer ≡ Refused n)) → ⊥
  refuses_everything bad =
      let e = bad example sheet_7_9 room in
      let a : (f example sheet_7_9 room).answer ≡ Refused e.0 = e.1 in
      let c : (f example sheet_7_9 room).answer ≡ Merged _ = ap (λ (o : Outcome). o.answer) (meets example sheet_7_9 room) ∙ accepted_7_9 room (some_room sheet_7_9).1 in
      let z : ◌≡◌ {A = ℕ} 0 1 = cc in
      omega arith

  -- ---- "one with a single constant answer (times differ)": for each lent memory one outcome; and one time for all that is placed, or for all in one merge

  pub constant : ((m n : Text) (b c : List ℕ) (r : Room) → f m b r ≡ f n c r) → ⊥
  constant bad = omega (arith, first.its_kind, none.its_kind, ap (λ (o : Outcome). get_or o.kinds 0 0) (bad example no_manifest sheet_7_9 no_bytes room))

  pub constant_time : (t : ℤ) → ((m : Text) (b : List ℕ) (r : Room) (k : ℕ) → PlacedAt (f m b r) k → get_or (f m b r).times k (pos 0) ≡ t) → ⊥
  constant_time t bad =
      apart (sym first.its_time ∙ (bad example sheet_7_9 room 0 (placed first) ∙ (sym (bad example sheet_7_9 room 1 (placed second)) ∙ second.its_time)))
    where
      placed : {k : ℕ} {u : ℤ} → Written (f example sheet_7_9 room) k u 3 2 → PlacedAt (f example sheet_7_9 room) k
      placed w = (omega (arith, w.its_kind), omega (arith, w.its_kind))

      apart : pos 250000007 ≡ pos 250000009 → ⊥
      apart e = let z : ◌≡◌ {A = ℕ} 250000007 250000009 = cc in omega arith

  pub constant_in_one : ((m : Text) (b : List ℕ) (r : Room) (k : ℕ) → PlacedAt (f m b r) k → get_or (f m b r).times k (pos 0) ≡ get_or (f m b r).times 0 (pos 0)) → ⊥
  constant_in_one bad =
      let p : PlacedAt (f example sheet_7_9 room) 1 = (omega (arith, second.its_kind), omega (arith, second.its_kind)) in
      let e : pos 250000009 ≡ pos 250000007 = sym second.its_time ∙ (bad example sheet_7_9 room 1 p ∙ first.its_time) in
      let z : ◌≡◌ {A = ℕ} 250000009 250000007 = cc in
      omega arith

  -- ---- "one that writes nothing (accepted memory is defined)": a memory that it leaves as it was is, for equal lengths, the same whatever the input

  pub writes_no_machines : ((m n : Text) (b c : List ℕ) (r : Room) → (f m b r).machines ≡ (f n c r).machines) → ⊥
  writes_no_machines bad =
      omega (
        arith,
        ap (λ (l : List ℕ). get_or l 0 0) (bad example no_manifest sheet_7_9 no_bytes room),
        ap (λ (o : Outcome). get_or o.machines 0 0) (meets example sheet_7_9 room) ∙ first_machine room (some_room sheet_7_9).1,
        ap (λ (o : Outcome). get_or o.machines 0 0) (meets no_manifest no_bytes room) ∙ zero_machine room 0,
      )

  pub writes_no_times : ((m n : Text) (b c : List ℕ) (r : Room) → (f m b r).times ≡ (f n c r).times) → ⊥
  writes_no_times bad =
      let e : pos 250000007 ≡ pos 0 = sym first.its_time ∙ (ap (λ (l : List ℤ). get_or l 0 (pos 0)) (bad example no_manifest sheet_7_9 no_bytes room) ∙ none.its_time) in
      let z : ◌≡◌ {A = ℕ} 250000007 0 = cc in
      omega arith

  pub writes_no_kinds : ((m n : Text) (b c : List ℕ) (r : Room) → (f m b r).kinds ≡ (f n c r).kinds) → ⊥
  writes_no_kinds bad = omega (arith, first.its_kind, none.its_kind, ap (λ (l : List ℕ). get_or l 0 0) (bad example no_manifest sheet_7_9 no_bytes room))

  pub writes_no_steps : ((m n : Text) (b c : List ℕ) (r : Room) → (f m b r).steps ≡ (f n c r).steps) → ⊥
  writes_no_steps bad = omega (arith, first.its_steps, none.its_steps, ap (λ (l : List ℕ). get_or l 0 0) (bad example no_manifest sheet_7_9 no_bytes room))

  -- so the four are not all as they were
  pub writes_nothing : (before : Room → Outcome)
      → ((m : Text) (b : List ℕ) (r : Room) → ((f m b r).machines ≡ (before r).machines) × ((f m b r).times ≡ (before r).times) × ((f m b r).kinds ≡ (before r).kinds) × ((f m b r).steps ≡ (before r).steps)) → ⊥
  writes_nothing before bad = writes_no_times (λ m n b c r. (bad m b r).1 ∙ sym (bad n c r).1)

  -- ---- "one that converts only the first event (each event is named)": past the first it writes zeros; or the readings as they stand in the sheet

  pub only_the_first : ((m : Text) (b : List ℕ) (r : Room) (k : ℕ) → 1 ≤ k → get_or (f m b r).times k (pos 0) ≡ pos 0) → ⊥
  only_the_first bad =
      let e : pos 250000009 ≡ pos 0 = sym second.its_time ∙ bad example sheet_7_9 room 1 (omega arith) in
      let z : ◌≡◌ {A = ℕ} 250000009 0 = cc in
      omega arith

  pub readings_past_the_first : ((m : Text) (b : List ℕ) (rs : List Record) (r : Room) (k : ℕ) → records_of b ≡ records rs → 1 ≤ k
      → get_or (f m b r).times k (pos 0) ≡ (get_or (events_of rs) k no_event).reading) → ⊥
  unfolding events_of
  readings_past_the_first bad =
      let e : pos 250000009 ≡ pos 9 = sym second.its_time ∙ bad example sheet_7_9 records_7_9 room 1 sheet_7_9_holds (omega arith) in
      let z : ◌≡◌ {A = ℕ} 250000009 9 = cc in
      omega arith

  -- ---- "one that invents steps (they are the path's length)": a placed event whose steps are not its path's length; or one number of steps for all

  pub invents_steps : (m : Text) (b : List ℕ) (r : Room) (s : Summary) → (f m b r).answer ≡ Merged s
      → (k c g : ℕ) (p : List ℕ) → k < s.events → OnPath (meaning_of m) (records_of b) k c g p → get_or (f m b r).kinds k 0 ≡ g → (get_or (f m b r).steps k 0 ≡ length p → ⊥) → ⊥
  invents_steps m b r s e k c g p l on q bad =
      let answered : (merged m b r).answer ≡ Merged s = sym (ap (λ (o : Outcome). o.answer) (meets m b r)) ∙ e in
      let kind : get_or (merged m b r).kinds k 0 ≡ g = sym (ap (λ (o : Outcome). get_or o.kinds k 0) (meets m b r)) ∙ q in
      bad (ap (λ (o : Outcome). get_or o.steps k 0) (meets m b r) ∙ steps_of_path m b r s answered k c g p l on kind)

  pub constant_steps : (n : ℕ) → ((m : Text) (b : List ℕ) (r : Room) (k : ℕ) → PlacedAt (f m b r) k → get_or (f m b r).steps k 0 ≡ n) → ⊥
  constant_steps n bad =
      let r : Room = (some_room sheet_7).0 in
      let two : Written (f example sheet_7 r) 0 (pos 250000007) 3 2 = kept (written_7 r (some_room sheet_7).1) in
      let one : Written (f on_the_phone sheet_7 r) 0 (pos 250000007) 1 1 = kept (written_phone r (some_room sheet_7).1) in
      omega (
        arith,
        two.its_steps,
        one.its_steps,
        bad example sheet_7 r 0 (omega (arith, two.its_kind), omega (arith, two.its_kind)),
        bad on_the_phone sheet_7 r 0 (omega (arith, one.its_kind), omega (arith, one.its_kind)),
      )
