-- How a merge ends: what is settled of what fits is the merge, for each ending. Assumes nothing.
use Rattle.std.proofs.Math.Path.{◌≡◌, refl, sym, ap, subst}
use Rattle.std.proofs.Common.{◌∙◌, arith}
use Rattle.std.specs.Prelude.{Bool, ℕ, ◌-◌, ◌≤◌, ◌<◌, eqb, ℤ, pos, length, replicate, None, Some}
use Rattle.std.proofs.Math.Bool.{true, false}
use mathlib.Core.List.{List, map}
use Rattle.std.proofs.Math.ListN.{take}
use Rattle.text.specs.Reading.{Text, pick}
use Rattle.sheet.specs.declared.Table.{Table}
use Rattle.reader.specs.Reader.{table_of, lookups_of}
use Rattle.meant.specs.Meant.{timeline_of}
use Rattle.clocks.specs.Answers.{Room as ClocksRoom, Filled, filled}
use Rattle.graphs.specs.Graphs.{World}
use Rattle.merged.specs.Answers.{Answer, Refused, Merged}
use Rattle.merged.specs.Machines.{machine_count, machines_of}
use Rattle.merged.specs.Timeline.{trace_of}
use Rattle.merged.specs.declared.Room.{Room}
use Rattle.merged.specs.Merged.{Outcome, padded, refused_by, merged}
use Rattle.checks.specs.Table.{facts_by}
use Rattle.checks.specs.Machines.{machine_table}
use Rattle.lines.specs.Lines.{clock_by, events_at}
use Rattle.placed.specs.Placed.{world_in, cells}
use Rattle.placed.specs.declared.Known.{Known}
use Rattle.placed.specs.Told.{Told, Refused as ToldRefused, Accepted}
use Rattle.known.specs.Known.{fact_table, links_in, told}
use Rattle.joins.specs.Joined.{Small, roomy_for, world_by, answers_by, accepted_with}
use Rattle.joins.proofs.Ends.{by_room, accepted_is, machine_small, machines_counted, files_counted, small}
use Rattle.joins.proofs.laws.Arrays.{padded_front}
use Rattle.answered.specs.Answered.{machines_in, events_in, summed}
use Rattle.settled.specs.Settled.{fitted_in, settled_in}
use Rattle.settled.specs.laws.Fits.{Long, long_is}
use Rattle.merge.specs.Memories.{room_of}
use Rattle.merge.specs.laws.Answers.{Answered, Timed}
use Rattle.merge.specs.laws.Fronts.{machines_same, marked_same, timed_is}
use Rattle.merge.specs.laws.Told.{refused_so, Acceptance, accepted_so, sources_are, at_is, events_are, machines_are, files_are, trace_is, world_is}

-- ---- a refusal

module _ (s : Text) (b : List ℕ) (room : Room) where
  -- 38
  crowded : (k : Known) → told s b ≡ Accepted k → roomy_for k.sources k.given.events room ≡ false → merged s b room ≡ refused_by 38 room
  crowded k e q =
      let h : Acceptance s b k = accepted_so s b k e in
      by_room h.tables h.none room ((λ i. roomy_for (sym (sources_are h) i) (sym (events_are h) i) room) ∙ q)

  of_short : (k : Known) → told s b ≡ Accepted k → (x : Bool) → roomy_for k.sources k.given.events room ≡ x → {n : ℕ} → pick x (Accepted k) (ToldRefused 38) ≡ ToldRefused n → merged s b room ≡ refused_by n room
  unfolding pick
  of_short k q true y {n} e = absurd (let z : ◌≡◌ {A = ℕ} 0 1 = cc in omega arith)
  of_short k q false y {n} e = crowded k q y ∙ (let z : ◌≡◌ {A = ℕ} 38 n = cc in ap (λ (j : ℕ). refused_by j room) z)

  of_told : (o : Told) → told s b ≡ o → {n : ℕ} → fitted_in room o ≡ ToldRefused n → merged s b room ≡ refused_by n room
  unfolding fitted_in
  of_told (ToldRefused m) q {n} e = refused_so s b room m q ∙ (let z : m ≡ n = cc in ap (λ (j : ℕ). refused_by j room) z)
  of_told (Accepted k) q e = of_short k q (roomy_for k.sources k.given.events room) refl e

-- ---- acceptance

-- what was told fits
pub record Fitting (s : Text) (b : List ℕ) (room : Room) (k : Known) : Type 0 where
  pub acceptance : Acceptance s b k
  pub roomy : roomy_for k.sources k.given.events room ≡ true

module _ (s : Text) (b : List ℕ) (room : Room) where
  of_long : (l k : Known) → told s b ≡ Accepted l → (x : Bool) → roomy_for l.sources l.given.events room ≡ x → pick x (Accepted l) (ToldRefused 38) ≡ Accepted k → Fitting s b room k
  unfolding pick
  of_long l k q true y e =
      let z : l ≡ k = cc in
      subst (Fitting s b room) z (record { acceptance = accepted_so s b l q; roomy = y })
  of_long l k q false y e = absurd (let z : ◌≡◌ {A = ℕ} 0 1 = cc in omega arith)

  of_all : (o : Told) (k : Known) → told s b ≡ o → fitted_in room o ≡ Accepted k → Fitting s b room k
  unfolding fitted_in
  of_all (ToldRefused m) k q e = absurd (let z : ◌≡◌ {A = ℕ} 0 1 = cc in omega arith)
  of_all (Accepted l) k q e = of_long l k q (roomy_for l.sources l.given.events room) refl e

  pub fitting : (k : Known) → fitted_in room (told s b) ≡ Accepted k → Fitting s b room k
  fitting k e = of_all (told s b) k refl e

module _ (s : Text) (b m : List ℕ) (ti : List ℤ) (ki st x : List ℕ) (re : List ℤ) (c : List ℕ) {k : Known} (f : Fitting s b (room_of m ti ki st x re c) k) where
  abbrev room : Room
  room = room_of m ti ki st x re c

  abbrev h : Acceptance s b k
  h = f.acceptance

  abbrev t : List ℕ
  t = fact_table s b

  long : Long k.sources k.given.events room
  long = long_is _ _ _ f.roomy

  -- the machines of the sources
  machines_front : take k.sources (machine_table t) ≡ machines_of (facts_by t)
  unfolding machine_table
  machines_front =
      let d : k.sources ≡ h.p.sources.count - 0 = omega (arith, sources_are h) in
      ap (λ (n : ℕ). take n (machine_table t)) d ∙ padded_front 0 32 h.p.sources.count (machines_of (facts_by t)) (sym (machines_counted h.tables h.none))

  machines_all : machines_in t k.sources (length m) ≡ machines_of (facts_by t)
  machines_all =
      let y : Small h.p = small h.tables in
      machines_same t k.sources (length m) (omega (arith, y.sources, sources_are h)) long.machines (machine_small h.tables h.none) ∙ machines_front

  -- the answer
  answer_is : summed k.given ≡ Merged (record { files = h.p.files; machines = machine_count (facts_by t); events = h.p.events.count; trace = trace_of (facts_by t) (timeline_of s (table_of s) (lookups_of s)) })
  unfolding summed trace_of
  answer_is = λ i. Merged (record { files = files_are h i; machines = machines_are h i; events = events_are h i; trace = pick (eqb ((files_are h ∙ sym (files_counted h.tables h.none)) i) 0) None (Some (record { 0 = trace_is h i })) })

  -- the events' answers
  abbrev wide : ClocksRoom
  wide = record { times = length ti; kinds = length ki; steps = length st; matrix = 50176 }

  events_in_lem : (w : World) → events_in t b k w c re (record { times = length ti; kinds = length ki; steps = length st; matrix = cells x }) ≡ filled w (map (clock_by t (machine_table t)) (events_at b k.at k.given.events)) (map (λ e. e.reading) (events_at b k.at k.given.events)) wide
  events_in_lem w =
      let y : Small h.p = small h.tables in
      let n : k.given.events ≤ 0xffffffff = omega (arith, y.events, events_are h) in
      let z : cells x ≡ 50176 = omega (arith, long.matrix) in
      λ i. filled w (marked_same (clock_by t (machine_table t)) b k.at k.given.events (length c) (length re) c n long.clocks long.readings i)
      (marked_same (λ e. e.reading) b k.at k.given.events (length c) (length re) re n long.clocks long.readings i)
      (record { times = length ti; kinds = length ki; steps = length st; matrix = z i })

  timed : {u : List ℕ} → u ≡ t → {w : World} → w ≡ world_by s b (table_of s) (lookups_of s) t h.p
      → {ti' : List ℤ} {ki' st' : List ℕ} → Answered (events_in u b k w c re (record { times = length ti; kinds = length ki; steps = length st; matrix = cells x })) ti' ki' st'
      → Timed (answers_by s b (table_of s) (lookups_of s) t h.p) (length ti) (length ki) (length st) ti' ki' st'
  timed {u} eu {w} ew {ti'} {ki'} {st'} q =
      timed_is s b (table_of s) (lookups_of s) t h.p (length ti) (length ki) (length st) (omega (arith, long.times, events_are h)) (omega (arith, long.kinds, events_are h)) (omega (arith, long.steps, events_are h))
      (subst (λ (o : Filled). Answered o ti' ki' st')
      ((λ i. events_in (eu i) b k (ew i) c re (record { times = length ti; kinds = length ki; steps = length st; matrix = cells x }))
      ∙ (events_in_lem (world_by s b (table_of s) (lookups_of s) t h.p)
      ∙ (λ i. filled (world_by s b (table_of s) (lookups_of s) t h.p) (map (clock_by t (machine_table t)) (events_at b (at_is h i) (events_are h i))) (map (λ e. e.reading) (events_at b (at_is h i) (events_are h i))) wide)))
      q)

  accepted_ended : {u : List ℕ} → u ≡ t → (a : List ℕ) (xs : List ℤ) (cs : List ℕ) (ys : List ℤ) → world_in k.given a xs cs ys ≡ world_by s b (table_of s) (lookups_of s) t h.p
      → settled_in u b a xs cs ys c re room (Accepted k) ≡ merged s b room
  unfolding accepted_with settled_in
  accepted_ended {u} eu a xs cs ys ew =
      let y : roomy_for h.p.sources.count h.p.events.count room ≡ true = (λ i. roomy_for (sym (sources_are h) i) (sym (events_are h) i) room) ∙ f.roomy in
      let o : merged s b room ≡ accepted_with s b (table_of s) (lookups_of s) t h.p room = accepted_is h.tables h.none room y in
      let d = timed eu ew (record { times_are = refl; kinds_are = refl; steps_are = refl }) in
      let e : machines_in u k.sources (length m) ≡ machines_of (facts_by t) = ap (λ (v : List ℕ). machines_in v k.sources (length m)) eu ∙ machines_all in
      (λ i. record { answer = answer_is i; machines = padded 0 (length m) (e i); times = d.times_are i; kinds = d.kinds_are i; steps = d.steps_are i }) ∙ sym o

-- ---- what is settled of what fits is the merge

-- an outcome for an equal one, beside what holds anyway
pub with_outcome : {o v : Outcome} → o ≡ v → {r : Answer} {m : List ℕ} {ti : List ℤ} {ki st : List ℕ} {W : Type 0}
    → (r ≡ o.answer) × ((m ≡ o.machines) × ((ti ≡ o.times) × ((ki ≡ o.kinds) × ((st ≡ o.steps) × W)))) → (r ≡ v.answer) × ((m ≡ v.machines) × ((ti ≡ v.times) × ((ki ≡ v.kinds) × ((st ≡ v.steps) × W))))
with_outcome e {r} {m} {ti} {ki} {st} {W} h = subst (λ (q : Outcome). (r ≡ q.answer) × ((m ≡ q.machines) × ((ti ≡ q.times) × ((ki ≡ q.kinds) × ((st ≡ q.steps) × W))))) e h

module _ (s : Text) (b m : List ℕ) (ti : List ℤ) (ki st x : List ℕ) (re : List ℤ) (c : List ℕ) {u : List ℕ} (eu : u ≡ fact_table s b) (a : List ℕ) (xs : List ℤ) (cs : List ℕ) (ys : List ℤ)
    (ea : a ≡ padded 0 288 (map (λ l. l.a) (links_in s b))) (ex : xs ≡ padded (pos 0) 288 (map (λ l. l.x) (links_in s b))) (ec : cs ≡ padded 0 288 (map (λ l. l.b) (links_in s b))) (ey : ys ≡ padded (pos 0) 288 (map (λ l. l.y) (links_in s b))) where
  by_kind : (o : Told) → fitted_in (room_of m ti ki st x re c) (told s b) ≡ o → settled_in u b a xs cs ys c re (room_of m ti ki st x re c) o ≡ merged s b (room_of m ti ki st x re c)
  unfolding settled_in
  by_kind (ToldRefused n) e = sym (of_told s b (room_of m ti ki st x re c) (told s b) refl e)
  by_kind (Accepted k) e =
      let f : Fitting s b (room_of m ti ki st x re c) k = fitting s b (room_of m ti ki st x re c) k e in
      accepted_ended s b m ti ki st x re c f eu a xs cs ys (world_is f.acceptance a xs cs ys ea ex ec ey)

  pub settled_is : {o f : Told} → o ≡ told s b → f ≡ fitted_in (room_of m ti ki st x re c) o → settled_in u b a xs cs ys c re (room_of m ti ki st x re c) f ≡ merged s b (room_of m ti ki st x re c)
  settled_is {o} {f} eo ef = by_kind f (sym (ef ∙ ap (fitted_in (room_of m ti ki st x re c)) eo))
