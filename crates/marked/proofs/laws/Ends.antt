-- How a merge ends, from what is computed of its two inputs; for every lent memory that is long enough. Assumes nothing.
use Rattle.std.specs.Prelude.{◌≡◌, refl, true, false, List, ℕ, ◌*◌, ◌<◌, eqb, leb, ℤ, pos, length, get_or}
use Rattle.std.proofs.Common.{sym, ap, ◌∙◌, arith, le-leb}
use Rattle.numbers.specs.Numbers.{clocks}
use Rattle.text.specs.Reading.{Text, pick}
use Rattle.manifest.specs.Meaning.{Meaning}
use Rattle.manifest.specs.Manifest.{refusal_of, meaning_of}
use Rattle.records.specs.Layout.{Record}
use Rattle.sheet.specs.Lists.{sources_of, events_of}
use Rattle.sheet.specs.Sheets.{Out, refused, records}
use Rattle.graphs.specs.Graphs.{World}
use Rattle.clocks.specs.Answers.{Answer as EventAnswer, answer_of, time_of, kind_of, steps_of}
use Rattle.clocks.specs.laws.Chains.{Chosen}
use Rattle.merged.specs.declared.Summary.{Summary}
use Rattle.merged.specs.Answers.{Merged}
use Rattle.merged.specs.Facts.{parts_of, facts_of}
use Rattle.merged.specs.Refusals.{checks, first_of}
use Rattle.merged.specs.Timeline.{event_clock, world_of}
use Rattle.merged.specs.declared.Room.{Room}
use Rattle.merged.specs.Merged.{records_of, roomy, Outcome, refused_by, accepted_by, refusal_joined, joined, merged_with, merged}
use Rattle.merged.proofs.Demands.{time_of_event, kind_of_event, steps_of_event}
use Rattle.marked.specs.Example.{enough, LongEnough, Written, OnPath, no_event}

-- refused by its manifest; by its sheet
pub manifest_refused : (m : Text) (b : List ℕ) (n : ℕ) → refusal_of m ≡ n → eqb n 0 ≡ false → (room : Room) → merged m b room ≡ refused_by n room
unfolding merged pick
manifest_refused m b n e z room = rw (e, z)

pub sheet_refused : (m : Text) (b : List ℕ) (n : ℕ) → refusal_of m ≡ 0 → records_of b ≡ refused n → (room : Room) → merged m b room ≡ refused_by n room
unfolding merged merged_with pick
sheet_refused m b n e q room = rw (e, q)

-- what is computed of two inputs that are accepted
pub record Known (m : Text) (b : List ℕ) (w : Meaning) (rs : List Record) : Type 0 where
  pub manifest : refusal_of m ≡ 0
  pub meaning : meaning_of m ≡ w
  pub sheet : records_of b ≡ records rs
  pub both : first_of checks (facts_of w (parts_of rs)) ≡ 0

module _ {m : Text} {b : List ℕ} {w : Meaning} {rs : List Record} (k : Known m b w rs) where
  fits : (room : Room) → LongEnough b room → roomy (parts_of rs) room ≡ true
  fits room h = ap (λ (o : Out). enough o room) (sym k.sheet) ∙ h

  pub accepted_so : (room : Room) → LongEnough b room → merged m b room ≡ accepted_by w (parts_of rs) room
  unfolding merged merged_with joined refusal_joined pick
  accepted_so room h = rw (k.manifest, k.meaning, k.sheet, k.both, fits room h)

  -- event i's answer is what stands in memory
  pub written : (u : World) → world_of w (parts_of rs) ≡ u → (i c : ℕ) (t : ℤ) → i < length (events_of rs) → event_clock (facts_of w (parts_of rs)) (get_or (events_of rs) i no_event) ≡ c → (get_or (events_of rs) i no_event).reading ≡ t
      → (a : EventAnswer) → answer_of u c t ≡ a → (room : Room) → LongEnough b room → Written (merged m b room) i (time_of a) (kind_of a) (steps_of a)
  written u world i c t l clock reading a e room h =
      let o : merged m b room ≡ accepted_by w (parts_of rs) room = accepted_so room h in
      let q : answer_of (world_of w (parts_of rs)) (event_clock (facts_of w (parts_of rs)) (get_or (events_of rs) i no_event)) (get_or (events_of rs) i no_event).reading ≡ a = rw (world, clock, reading) e in
      record {
        its_time = ap (λ (x : Outcome). get_or x.times i (pos 0)) o ∙ (time_of_event w (parts_of rs) room i l ∙ ap time_of q);
        its_kind = ap (λ (x : Outcome). get_or x.kinds i 0) o ∙ (kind_of_event w (parts_of rs) room i l ∙ ap kind_of q);
        its_steps = ap (λ (x : Outcome). get_or x.steps i 0) o ∙ (steps_of_event w (parts_of rs) room i l ∙ ap steps_of q);
      }

  -- and the answer is the summary
  pub answered : (s : Summary) → ((room : Room) → (accepted_by w (parts_of rs) room).answer ≡ Merged s) → (room : Room) → LongEnough b room → (merged m b room).answer ≡ Merged s
  answered s e room h = ap (λ (x : Outcome). x.answer) (accepted_so room h) ∙ e room

  -- event i's path
  pub on_path : (u : World) → world_of w (parts_of rs) ≡ u → (i c g : ℕ) (p : List ℕ) → event_clock (facts_of w (parts_of rs)) (get_or (events_of rs) i no_event) ≡ c → Chosen u c g p
      → OnPath (meaning_of m) (records_of b) i c g p
  on_path u world i c g p clock chosen = rw (k.meaning, k.sheet) (clock, rw world chosen)

-- every sheet has lent memory that is long enough for it
pub some_room : (b : List ℕ) → (room : Room) × LongEnough b room
unfolding roomy
some_room b = go (records_of b)
  where
    go : (o : Out) → (room : Room) × (enough o room ≡ true)
    go (refused n) = (record { machines = 0; times = 0; kinds = 0; steps = 0; matrix = 0; readings = 0; clocks = 0 }, refl)
    go (records rs) =
        let e : leb (length (sources_of rs)) (length (sources_of rs)) ≡ true = le-leb (length (sources_of rs)) (length (sources_of rs)) (omega arith) in
        let f : leb (length (events_of rs)) (length (events_of rs)) ≡ true = le-leb (length (events_of rs)) (length (events_of rs)) (omega arith) in (
          record {
            machines = length (sources_of rs);
            times = length (events_of rs);
            kinds = length (events_of rs);
            steps = length (events_of rs);
            matrix = clocks * clocks;
            readings = length (events_of rs);
            clocks = length (events_of rs);
          },
          simp (e, f),
        )
