-- What the plain numbers mean: 0 is acceptance and nothing else, and memory of the lengths that the C header names is never too short. Assumes nothing.
use Rattle.std.specs.Prelude.{◌≡◌, refl, true, List, ℕ, ◌≤◌, ◌*◌, length}
use Rattle.std.proofs.Common.{sym, ◌∙◌, arith, le-leb}
use Rattle.std.proofs.Math.Path.{ap}
use Rattle.text.specs.Reading.{Text}
use Rattle.numbers.specs.Numbers.{clocks}
use Rattle.records.specs.Layout.{Record}
use Rattle.sheet.specs.Lists.{sources_of, events_of}
use Rattle.sheet.specs.Sheets.{records}
use Rattle.merged.specs.Facts.{parts_of}
use Rattle.merged.specs.declared.Room.{Room}
use Rattle.merged.specs.Merged.{records_of, roomy, Outcome, refused_by, accepted_by, merged}
use Rattle.merged.proofs.Demands.{Ends, by_manifest, by_sheet, by_both, by_room, by_none, demand_1, Accepts}
use Rattle.narguvesh_c.specs.Plain.{number_of}
use Rattle.narguvesh_c.specs.laws.Counts.{few_sources, few_events, sheet_number}

-- the number of an outcome
abbrev told : Outcome → ℕ
told o = number_of o.answer

refused_told : (n : ℕ) (room : Room) → told (refused_by n room) ≡ n
unfolding refused_by number_of
refused_told n room = refl

module _ (m : Text) (b : List ℕ) (room : Room) where
  -- 0 is returned only if the merge is accepted,
  pub zero_accepts : number_of (merged m b room).answer ≡ 0 → Accepts m b room
  zero_accepts e = go (demand_1 m b room) refl
    where
      go : {o : Outcome} → Ends m b room o → merged m b room ≡ o → Accepts m b room
      go (by_manifest n) q = absurd (n (sym (ap told q ∙ refused_told _ room) ∙ e))
      go (by_sheet z h) q = absurd (sheet_number b h (sym (ap told q ∙ refused_told _ room) ∙ e))
      go (by_both z h n) q = absurd (n (sym (ap told q ∙ refused_told _ room) ∙ e))
      go (by_room z h n f) q = let k : ◌≡◌ {A = ℕ} 38 0 = sym (ap told q ∙ refused_told 38 room) ∙ e in absurd (omega arith)
      go (by_none {rs} z h n f) q = record { rs = rs; manifest = z; sheet = h; both = n; fits = f; outcome = q }

  -- and always then
  pub accepts_zero : Accepts m b room → number_of (merged m b room).answer ≡ 0
  unfolding accepted_by number_of
  accepts_zero a = ap told a.outcome

-- the lengths that the C header names fit every accepted sheet, so refusal 38 is never given with them
pub always_fits : (b : List ℕ) (room : Room) {rs : List Record} → records_of b ≡ records rs → 32 ≤ room.machines → 6990 ≤ room.times → 6990 ≤ room.kinds → 6990 ≤ room.steps
    → 50176 ≤ room.matrix → 6990 ≤ room.readings → 6990 ≤ room.clocks → roomy (parts_of rs) room ≡ true
unfolding roomy
always_fits b room {rs} e a t k s x r c =
    let n : length (events_of rs) ≤ 6990 = few_events b e in
    let f : length (sources_of rs) ≤ 32 = few_sources b e in
    rw (
      le-leb (length (sources_of rs)) room.machines (omega arith),
      le-leb (length (events_of rs)) room.times (omega arith),
      le-leb (length (events_of rs)) room.kinds (omega arith),
      le-leb (length (events_of rs)) room.steps (omega arith),
      le-leb (clocks * clocks) room.matrix (omega arith),
      le-leb (length (events_of rs)) room.readings (omega arith),
      le-leb (length (events_of rs)) room.clocks (omega arith),
    )
    refl
