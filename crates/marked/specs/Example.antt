-- What an example of document 01 says: of a merge, for every lent memory that is long enough, or of a conversion. Assumes nothing.
use Rattle.std.specs.Prelude.{◌≡◌, Bool, true, List, [], ◌∷◌, ℕ, ◌+◌, ℤ, pos, get_or, replicate, None, Some}
use Rattle.text.specs.Reading.{Text}
use Rattle.whole.specs.Pairs.{Pair, converted, converted_back}
use Rattle.records.specs.declared.Event.{Event}
use Rattle.sheet.specs.Lists.{events_of}
use Rattle.sheet.specs.Sheets.{Out, refused, records}
use Rattle.clocks.specs.Answers.{Dropped, ended}
use Rattle.clocks.specs.laws.Chains.{Chosen}
use Rattle.manifest.specs.Meaning.{Meaning}
use Rattle.manifest.specs.Manifest.{refusal_of, meaning_of}
use Rattle.merged.specs.declared.Summary.{Summary}
use Rattle.merged.specs.Answers.{Merged}
use Rattle.merged.specs.Facts.{parts_of, facts_of}
use Rattle.merged.specs.Timeline.{event_clock, world_of}
use Rattle.merged.specs.declared.Room.{Room}
use Rattle.merged.specs.Merged.{records_of, roomy, Outcome, refused_by, merged}

-- ---- the kinds of example; those of a merge begin with the manifest's bytes, or the sheet's, or both

pub data Example : Type 0 where
  -- a manifest that is refused by this number, whatever the sheet; a sheet that is, with every manifest that isn't refused
  refuses_manifest : Text → ℕ → Example
  refuses_sheet : List ℕ → ℕ → Example
  -- accepted, with these counts and this trace time
  accepts : Text → List ℕ → Summary → Example
  -- "accepted, nothing in it"
  reads : Text → List ℕ → Example
  -- event k goes from its clock along these clocks to this time, by this graph and so many steps
  goes : Text → List ℕ → (k clock : ℕ) (path : List ℕ) (time : ℤ) (graph steps : ℕ) → Example
  -- event k is dropped by this number
  drops : Text → List ℕ → (k drop : ℕ) → Example
  -- a list of correspondences carries this reading to that one; back again; or drops it by this number
  forwards : List Pair → ℤ → ℤ → Example
  backwards : List Pair → ℤ → ℤ → Example
  outside : List Pair → ℤ → ℕ → Example

-- ---- what they mean

-- the lent memory is as long as the sheet's records ask for
abbrev pub enough : Out → Room → Bool
enough (refused n) room = true
enough (records rs) room = roomy (parts_of rs) room

abbrev pub LongEnough : List ℕ → Room → Type 0
LongEnough b room = enough (records_of b) room ≡ true

-- what stands in memory of event k
pub record Written (o : Outcome) (k : ℕ) (time : ℤ) (kind steps : ℕ) : Type 0 where
  pub its_time : get_or o.times k (pos 0) ≡ time
  pub its_kind : get_or o.kinds k 0 ≡ kind
  pub its_steps : get_or o.steps k 0 ≡ steps

-- what stands past the last event
abbrev pub no_event : Event
no_event = record { source = 0; clock = 0; reading = pos 0 }

-- event k's clock, and its path: the best path of the lowest graph that has one
abbrev pub OnPath : Meaning → Out → (k clock graph : ℕ) → List ℕ → Type 0
OnPath w (refused n) k c g p = ⊥
OnPath w (records rs) k c g p =
    (event_clock (facts_of w (parts_of rs)) (get_or (events_of rs) k no_event) ≡ c) × Chosen (world_of w (parts_of rs)) c g p

-- "accepted, nothing in it"
abbrev pub nothing_in_it : Room → Outcome
nothing_in_it room =
    record {
      answer = Merged (record { files = 0; machines = 1; events = 0; trace = None });
      machines = replicate room.machines 0;
      times = replicate room.times (pos 0);
      kinds = replicate room.kinds 0;
      steps = replicate room.steps 0;
    }

abbrev pub holds : Example → Type 0
holds (refuses_manifest m n) = (b : List ℕ) (room : Room) → merged m b room ≡ refused_by n room
holds (refuses_sheet b n) = (m : Text) → refusal_of m ≡ 0 → (room : Room) → merged m b room ≡ refused_by n room
holds (accepts m b s) = (room : Room) → LongEnough b room → (merged m b room).answer ≡ Merged s
holds (reads m b) = (room : Room) → LongEnough b room → merged m b room ≡ nothing_in_it room
holds (goes m b k c p t g n) = OnPath (meaning_of m) (records_of b) k c g p × ((room : Room) → LongEnough b room → Written (merged m b room) k t g n)
holds (drops m b k d) = (room : Room) → LongEnough b room → Written (merged m b room) k (pos 0) (3 + d) 0
holds (forwards ps t u) = converted t ps ≡ Some u
holds (backwards ps u t) = converted_back u ps ≡ Some t
holds (outside ps t d) = (graph steps : ℕ) → ended graph steps (converted t ps) ≡ Dropped d

-- of each of a list
pub data All {A : Type 0} (P : A → Type 0) : List A → Type 0 where
  none : All P []
  also : {a : A} {l : List A} → P a → All P l → All P (a ∷ l)
