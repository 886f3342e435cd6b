-- The three demands, said of the definition. Assumes nothing.
use Rattle.std.specs.Prelude.{◌≡◌, refl, Bool, true, false, ℕ, ◌<◌, eqb, pos, replicate}
use Rattle.std.proofs.Common.{sym, subst, ◌∙◌, arith, eqb-true}
use Rattle.std.proofs.Math.Path.{ap}
use mathlib.Core.List.{List, map}
use Rattle.std.proofs.Math.ListN.{length, get_or}
use Rattle.std.proofs.lemmas.Bool.{eqb-false}
use Rattle.text.specs.Reading.{Text, pick}
use Rattle.grammar.specs.Tree.{Tree}
use Rattle.manifest.specs.Meaning.{Meaning}
use Rattle.manifest.specs.Manifest.{refusal_of, meaning_of}
use Rattle.manifest.specs.Same.{SameDocument}
use Rattle.manifest.specs.Statements.{Untouched}
use Rattle.manifest.proofs.Theorems.{same_refusal_of, same_meaning_of}
use Rattle.records.specs.Layout.{Record}
use Rattle.sheet.specs.Sheets.{Out, refused, records}
use Rattle.records.specs.declared.Event.{Event}
use Rattle.paths.specs.Paths.{Leads}
use Rattle.graphs.specs.Graphs.{graph}
use Rattle.clocks.specs.Answers.{Answer as EventAnswer, Dropped, answer_of, time_of, kind_of, steps_of, unrelated}
use Rattle.clocks.specs.Theorems.{unrelated_no_chain, no_chain_unrelated}
use Rattle.merged.specs.declared.Summary.{Summary}
use Rattle.merged.specs.Answers.{Refused, Merged}
use Rattle.merged.specs.Facts.{Parts, parts_of, no_source, source_fact, facts_of}
use Rattle.merged.specs.Machines.{machine_of, machines_of}
use Rattle.merged.specs.Timeline.{event_clock, world_of}
use Rattle.merged.specs.Refusals.{checks, first_of}
use Rattle.merged.proofs.laws.Lists.{length_map, get_d_map, padded_below, answers_map}
use Rattle.merged.specs.Merged.{records_of, Room, roomy, padded, answers_in, Outcome, refused_by, accepted_by, joined, refusal_joined, merged_with, merged}

-- ---- Demand 1: any bytes get an answer; a refusal returns the number that the order of checks picks, and zeroes all lent output memory

-- what is known when a merge ends as it does: 1 to 24 come before 25 to 31, these before 32 to 37, these before 38, and what none refuses is accepted
pub data Ends (m : Text) (b : List ℕ) (room : Room) : Outcome → Type 0 where
  by_manifest : (refusal_of m ≡ 0 → ⊥) → Ends m b room (refused_by (refusal_of m) room)
  by_sheet : {n : ℕ} → refusal_of m ≡ 0 → records_of b ≡ refused n → Ends m b room (refused_by n room)
  by_both : {rs : List Record} → refusal_of m ≡ 0 → records_of b ≡ records rs → (first_of checks (facts_of (meaning_of m) (parts_of rs)) ≡ 0 → ⊥)
      → Ends m b room (refused_by (first_of checks (facts_of (meaning_of m) (parts_of rs))) room)
  by_room : {rs : List Record} → refusal_of m ≡ 0 → records_of b ≡ records rs → first_of checks (facts_of (meaning_of m) (parts_of rs)) ≡ 0 → roomy (parts_of rs) room ≡ false
      → Ends m b room (refused_by 38 room)
  by_none : {rs : List Record} → refusal_of m ≡ 0 → records_of b ≡ records rs → first_of checks (facts_of (meaning_of m) (parts_of rs)) ≡ 0 → roomy (parts_of rs) room ≡ true
      → Ends m b room (accepted_by (meaning_of m) (parts_of rs) room)

pub demand_1 : (m : Text) (b : List ℕ) (room : Room) → Ends m b room (merged m b room)
unfolding merged merged_with joined refusal_joined pick
demand_1 m b room = first (eqb (refusal_of m) 0) refl
  where
    last : (rs : List Record) → refusal_of m ≡ 0 → records_of b ≡ records rs → (n : ℕ) → first_of checks (facts_of (meaning_of m) (parts_of rs)) ≡ n → (c d : Bool) → eqb n 0 ≡ c → roomy (parts_of rs) room ≡ d
        → Ends m b room (pick (eqb (pick c (pick d 0 38) n) 0) (accepted_by (meaning_of m) (parts_of rs) room) (refused_by (pick c (pick d 0 38) n) room))
    last rs z q n e false d f g =
        subst (λ (k : ℕ). Ends m b room (pick (eqb k 0) (accepted_by (meaning_of m) (parts_of rs) room) (refused_by k room))) e
        (subst (λ (x : Bool). Ends m b room (pick x (accepted_by (meaning_of m) (parts_of rs) room) (refused_by (first_of checks (facts_of (meaning_of m) (parts_of rs))) room))) (sym (ap (λ (k : ℕ). eqb k 0) e ∙ f))
        (by_both z q (λ u. eqb-false n 0 f (sym e ∙ u))))
    last rs z q n e true true f g = by_none z q (e ∙ eqb-true n 0 f) g
    last rs z q n e true false f g = by_room z q (e ∙ eqb-true n 0 f) g

    second : refusal_of m ≡ 0 → (o : Out) → records_of b ≡ o → Ends m b room (merged_with (meaning_of m) o room)
    second z (refused n) q = by_sheet z q
    second z (records rs) q = last rs z q (first_of checks (facts_of (meaning_of m) (parts_of rs))) refl (eqb (first_of checks (facts_of (meaning_of m) (parts_of rs))) 0) (roomy (parts_of rs) room) refl refl

    first : (c : Bool) → eqb (refusal_of m) 0 ≡ c → Ends m b room (pick c (merged_with (meaning_of m) (records_of b) room) (refused_by (refusal_of m) room))
    first false e = by_manifest (eqb-false (refusal_of m) 0 e)
    first true e = second (eqb-true (refusal_of m) 0 e) (records_of b) refl

-- what a refusal leaves
pub refused_zeroes : (n : ℕ) (room : Room) → ((refused_by n room).answer ≡ Refused n) × ((refused_by n room).machines ≡ replicate room.machines 0) × ((refused_by n room).times ≡ replicate room.times (pos 0)) × ((refused_by n room).kinds ≡ replicate room.kinds 0) × ((refused_by n room).steps ≡ replicate room.steps 0)
unfolding refused_by
refused_zeroes n room = (refl, refl, refl, refl, refl)

-- ---- Demand 2: acceptance, machines and times are exactly document 01's

-- what stands past the last event
abbrev no_event : Event
no_event = record { source = 0; clock = 0; reading = pos 0 }

-- a refusal is no acceptance
refused_not : {n : ℕ} {s : Summary} → Refused n ≡ Merged s → ⊥
refused_not e = let z : ◌≡◌ {A = ℕ} 0 1 = cc in omega arith

-- accepted exactly if no number applies: both byte strings are accepted, and together, and the lent memory is long enough
pub record Accepts (m : Text) (b : List ℕ) (room : Room) : Type 0 where
  pub rs : List Record
  pub manifest : refusal_of m ≡ 0
  pub sheet : records_of b ≡ records rs
  pub both : first_of checks (facts_of (meaning_of m) (parts_of rs)) ≡ 0
  pub fits : roomy (parts_of rs) room ≡ true
  pub outcome : merged m b room ≡ accepted_by (meaning_of m) (parts_of rs) room

pub accepts : (m : Text) (b : List ℕ) (room : Room) {s : Summary} → (merged m b room).answer ≡ Merged s → Accepts m b room
accepts m b room {s} e = go (demand_1 m b room) refl
  where
    go : {o : Outcome} → Ends m b room o → merged m b room ≡ o → Accepts m b room
    go (by_manifest n) q = absurd (refused_not (sym (ap (λ (x : Outcome). x.answer) q ∙ (refused_zeroes _ room).0) ∙ e))
    go (by_sheet z h) q = absurd (refused_not (sym (ap (λ (x : Outcome). x.answer) q ∙ (refused_zeroes _ room).0) ∙ e))
    go (by_both z h n) q = absurd (refused_not (sym (ap (λ (x : Outcome). x.answer) q ∙ (refused_zeroes _ room).0) ∙ e))
    go (by_room z h n f) q = absurd (refused_not (sym (ap (λ (x : Outcome). x.answer) q ∙ (refused_zeroes _ room).0) ∙ e))
    go (by_none {rs} z h n f) q = record { rs = rs; manifest = z; sheet = h; both = n; fits = f; outcome = q }

-- and then: the machine of each source, and each event's answer; zeros past them
module _ (w : Meaning) (p : Parts) (room : Room) where
  pub machine_of_source : (j : ℕ) → j < length p.sources → get_or (accepted_by w p room).machines j 0 ≡ machine_of (facts_of w p) (source_fact w p (get_or p.sources j no_source))
  unfolding accepted_by machines_of facts_of
  machine_of_source j h =
      let a : length (map (machine_of (facts_of w p)) (map (source_fact w p) p.sources)) ≡ length p.sources = length_map (machine_of (facts_of w p)) (map (source_fact w p) p.sources) ∙ length_map (source_fact w p) p.sources in
      let c : length (map (source_fact w p) p.sources) ≡ length p.sources = length_map (source_fact w p) p.sources in
      padded_below 0 room.machines (map (machine_of (facts_of w p)) (map (source_fact w p) p.sources)) j (omega arith)
      ∙ (get_d_map (machine_of (facts_of w p)) (map (source_fact w p) p.sources) j (source_fact w p no_source) 0 (omega arith)
      ∙ ap (machine_of (facts_of w p)) (get_d_map (source_fact w p) p.sources j no_source (source_fact w p no_source) h))

  -- event k's answer: of its clock and its reading, in the world of these two
  abbrev pub answer_at : ℕ → EventAnswer
  answer_at k = answer_of (world_of w p) (event_clock (facts_of w p) (get_or p.events k no_event)) (get_or p.events k no_event).reading

  module _ (k : ℕ) (h : k < length p.events) where
    each : {A : Type 0} (f : EventAnswer → A) (z : A) (n : ℕ) → get_or (padded z n (map f (answers_in w p))) k z ≡ f (answer_at k)
    unfolding answers_in
    each f z n =
        let all : List EventAnswer = map (λ e. answer_of (world_of w p) (event_clock (facts_of w p) e) e.reading) p.events in
        let a : length (map f all) ≡ length p.events = length_map f all ∙ length_map (λ e. answer_of (world_of w p) (event_clock (facts_of w p) e) e.reading) p.events in
        let c : length all ≡ length p.events = length_map (λ e. answer_of (world_of w p) (event_clock (facts_of w p) e) e.reading) p.events in
        ap (λ (l : List EventAnswer). get_or (padded z n (map f l)) k z) (answers_map (world_of w p) (event_clock (facts_of w p)) (λ e. e.reading) p.events)
        ∙ (padded_below z n (map f all) k (omega arith)
        ∙ (get_d_map f all k (answer_at k) z (omega arith)
        ∙ ap f (get_d_map (λ e. answer_of (world_of w p) (event_clock (facts_of w p) e) e.reading) p.events k no_event (answer_at k) h)))

    pub time_of_event : get_or (accepted_by w p room).times k (pos 0) ≡ time_of (answer_at k)
    unfolding accepted_by
    time_of_event = each time_of (pos 0) room.times

    pub kind_of_event : get_or (accepted_by w p room).kinds k 0 ≡ kind_of (answer_at k)
    unfolding accepted_by
    kind_of_event = each kind_of 0 room.kinds

    pub steps_of_event : get_or (accepted_by w p room).steps k 0 ≡ steps_of (answer_at k)
    unfolding accepted_by
    steps_of_event = each steps_of 0 room.steps

    -- kind 4, dropped as unrelated, exactly if no chain of correspondences and permitted guesses joins the event's clock to trace time
    pub unrelated_exactly : (answer_at k ≡ Dropped unrelated → (c : List ℕ) → Leads (graph 3 (world_of w p)) (event_clock (facts_of w p) (get_or p.events k no_event)) c → ⊥)
        × (((c : List ℕ) → Leads (graph 3 (world_of w p)) (event_clock (facts_of w p) (get_or p.events k no_event)) c → ⊥) → answer_at k ≡ Dropped unrelated)
    unrelated_exactly = (
      unrelated_no_chain (world_of w p) (event_clock (facts_of w p) (get_or p.events k no_event)) (get_or p.events k no_event).reading,
      no_chain_unrelated (world_of w p) (event_clock (facts_of w p) (get_or p.events k no_event)) (get_or p.events k no_event).reading,
    )

-- ---- Demand 3: the same sheet and lent sizes, and manifests that are the same but for unknown members and order and untouched by 1 to 4, have one outcome

pub demand_3 : {m n : Text} {t u : Tree} → Untouched m t → Untouched n u → SameDocument t u → (b : List ℕ) (room : Room) → merged m b room ≡ merged n b room
unfolding merged
demand_3 {m} {n} a c same b room =
    λ i. pick (eqb (same_refusal_of a c same i) 0) (merged_with (same_meaning_of a c same i) (records_of b) room) (refused_by (same_refusal_of a c same i) room)

-- ---- Whatever meets the promise is one answer only

abbrev pub Meets : (Text → List ℕ → Room → Outcome) → Type 0
Meets f = (m : Text) (b : List ℕ) (room : Room) → f m b room ≡ merged m b room

pub one_only : (f g : Text → List ℕ → Room → Outcome) → Meets f → Meets g → (m : Text) (b : List ℕ) (room : Room) → f m b room ≡ g m b room
one_only f g p q m b room = p m b room ∙ sym (q m b room)
