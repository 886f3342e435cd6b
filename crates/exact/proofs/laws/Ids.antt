-- The machine of each source: the file's, the id's name, the host, or that of an unnamed id. Assumes nothing.
use Rattle.std.specs.Prelude.{◌≡◌, Bool, true, false, ◌||◌, ◌&&◌, ◌⊎◌, List, [], ◌∷◌, map, ℕ, ◌+◌, ◌≤◌, ◌<◌, eqb, leb, pos}
use Rattle.std.proofs.Math.Path.{refl, sym, ap, subst}
use Rattle.std.proofs.Common.{◌∙◌, inl, inr}
use Rattle.std.proofs.Math.Bool.{not}
use native.Mathlib.Omega.{arith}
use Rattle.std.proofs.Math.Decide.{dec_lt}
use Rattle.std.proofs.Math.IntN.{ℤ}
use Rattle.std.proofs.Math.ListN.{length, get_or}
use borrow.Author.Tests.{eqb-true, eqb-false, eq-eqb, ne_eqb, leb-true, le-leb, not-true}
use Rattle.text.specs.Reading.{pick}
use Rattle.numbers.specs.declared.Machine.{Machine}
use Rattle.manifest.specs.Rows.{any}
use Rattle.manifest.specs.Meaning.{Meaning, Listed, Owns, whole_file, parts}
use Rattle.manifest.specs.Statements.{At, here, further}
use Rattle.manifest.proofs.laws.Bools.{two}
use Rattle.manifest.proofs.laws.Lists.{at_below}
use Rattle.records.specs.declared.Source.{Source}
use Rattle.merged.specs.Facts.{Filed, no_file, Parts, unlisted, said, Given, silent, given_by, SourceFact, no_source, source_fact, Facts, facts_of}
use Rattle.merged.specs.Machines.{sources_in, is_silent, without, distinct, by_id, ids_by, unnamed, unnamed_machine, machine_by, machine_of}
use Rattle.merged.specs.declared.Room.{Room}
use Rattle.merged.specs.Merged.{Outcome, accepted_by}
use Rattle.merged.proofs.Demands.{machine_of_source}
use Rattle.exact.specs.Words.{Lists, ListedFile, SourceOf, Unsaid, ById}
use Rattle.exact.proofs.laws.Lists.{any_some, no_true, both, at_get_d, get_d_at, at_only, at_map, map_at, First, found, none, first_or_lem}
use Rattle.exact.proofs.laws.Entries.{Tidy, speaks}
use Rattle.exact.proofs.laws.Sheets.{Sound}
use Rattle.exact.proofs.laws.Said.{Naming, names, lacks, naming}
use Rattle.exact.proofs.laws.Counts.{two_sources, sources_two}
use Rattle.exact.proofs.laws.Checks.{file_of, said_owns}

-- ---- each id once

without_has : (id n : ℕ) → eqb id n ≡ false → (l : List ℕ) → any (eqb id) (without n l) ≡ any (eqb id) l
unfolding any without pick
without_has id n e [] = refl
without_has id n e (k ∷ l) = go (eqb k n) refl (without_has id n e l)
  where
    go : (b : Bool) → eqb k n ≡ b → any (eqb id) (without n l) ≡ any (eqb id) l → any (eqb id) (pick b (without n l) (k ∷ without n l)) ≡ (eqb id k || any (eqb id) l)
    go true q ih = ih ∙ ap (λ (b : Bool). b || any (eqb id) l) (sym (ap (eqb id) (eqb-true k n q) ∙ e))
    go false q ih = ap (λ (b : Bool). eqb id k || b) ih

distinct_has : (id : ℕ) (l : List ℕ) → any (eqb id) l ≡ true → any (eqb id) (distinct l) ≡ true
unfolding any distinct
distinct_has id [] h = h
distinct_has id (n ∷ l) h = go (eqb id n) refl h (distinct_has id l)
  where
    go : (b : Bool) → eqb id n ≡ b → (b || any (eqb id) l) ≡ true → (any (eqb id) l ≡ true → any (eqb id) (distinct l) ≡ true) → (b || any (eqb id) (without n (distinct l))) ≡ true
    go true e h ih = refl
    go false e h ih = without_has id n e (distinct l) ∙ ih h

ids_have : (k : Facts) {l : List SourceFact} {i : ℕ} {x : SourceFact} → At l i x → by_id k x ≡ true → any (eqb x.id) (ids_by k l) ≡ true
unfolding any ids_by pick
ids_have k {x = x} (here {l = l}) e = rw e (ap (λ (b : Bool). b || any (eqb x.id) (ids_by k l)) (eq-eqb x.id x.id refl))
ids_have k {x = x} (further {b = y} {l = l} h) e = go (by_id k y) (ids_have k h e)
  where
    or_true : (a b : Bool) → b ≡ true → (a || b) ≡ true
    or_true true b e = refl
    or_true false b e = e

    go : (b : Bool) → any (eqb x.id) (ids_by k l) ≡ true → any (eqb x.id) (pick b (y.id ∷ ids_by k l) (ids_by k l)) ≡ true
    go true r = or_true (eqb x.id y.id) (any (eqb x.id) (ids_by k l)) r
    go false r = r

-- the machine of an unnamed id: past the named ones, by the place of the id
record Past (k : Facts) (id : ℕ) : Type 0 where
  place : ℕ
  at : At (unnamed k) place id
  is : unnamed_machine k id ≡ 1 + k.names + place

past_names : (k : Facts) {i : ℕ} {x : SourceFact} → At k.sources i x → by_id k x ≡ true → Past k x.id
unfolding unnamed unnamed_machine
past_names k {i} {x} h e = go refl (first_or_lem 0 (eqb x.id) (distinct (ids_by k k.sources)) (1 + k.names))
  where
    go : {n : ℕ} → unnamed_machine k x.id ≡ n → First 0 (eqb x.id) (distinct (ids_by k k.sources)) (1 + k.names) n → Past k x.id
    go q (found {j} {a} g t) = record { place = j; at = subst (At (distinct (ids_by k k.sources)) j) (sym (eqb-true x.id a t)) g; is = q }
    go q (none n) = let s = any_some (eqb x.id) (distinct (ids_by k k.sources)) (distinct_has x.id (ids_by k k.sources) (ids_have k h e)) in absurd (n s.place s.element s.at s.holds)

by_id_parts : (k : Facts) (x : SourceFact) → by_id k x ≡ true → (leb 2 (sources_in x.file k.sources) ≡ true) × (not (eqb x.id 0) ≡ true)
unfolding by_id
by_id_parts k x e =
    let (a, b) = two (is_silent x.given && leb 2 (sources_in x.file k.sources)) (not (eqb x.id 0)) e in
    ((two (is_silent x.given) (leb 2 (sources_in x.file k.sources)) a).1, b)

machine_silent : (k : Facts) (x : SourceFact) → x.given ≡ silent → machine_of k x ≡ pick (by_id k x) (unnamed_machine k x.id) 0
unfolding machine_of machine_by
machine_silent k x e = ap (λ (g : Given). machine_by k g x) e

module _ {w : Meaning} (tidy : Tidy w) (p : Parts) (sound : Sound p) where
  unsaid_silent : {j : ℕ} {x : Source} → At p.sources j x → Unsaid w p x.file.0 → (source_fact w p x).given ≡ silent
  unfolding source_fact given_by
  unsaid_silent {j} {x} h n = go (speaks tidy (file_of p x))
    where
      go : Lists w (file_of p x) (said w (file_of p x)) ⊎ (said w (file_of p x) ≡ unlisted) → given_by (said w (file_of p x)).owns x.id ≡ silent
      go (inl y) = ap (λ (o : Owns). given_by o x.id) (n (file_of p x) (said w (file_of p x)) (record { in_sheet = get_d_at p.files x.file.0 no_file (sound.files j x h); lists = y }))
      go (inr e) = ap (λ (l : Listed). given_by l.owns x.id) e

  -- "another id is the machine of that id"
  by_id_so : {j id : ℕ} (y : ById w p j id) → by_id (facts_of w p) (source_fact w p y.source) ≡ true
  unfolding by_id facts_of source_fact is_silent
  by_id_so {j} {id} y =
      both (both (ap is_silent (unsaid_silent y.in_sheet y.unsaid)) (le-leb 2 _ (apart (dec_lt j y.other) (dec_lt y.other j))))
      (ap not (ne_eqb _ _ (λ z. y.not_zero (sym y.its_id ∙ z))))
    where
      apart : Dec (j < y.other) → Dec (y.other < j) → 2 ≤ sources_in y.source.file.0 (map (source_fact w p) p.sources)
      apart (yes l) n = sources_two y.source.file.0 l (at_map (source_fact w p) y.in_sheet) (at_map (source_fact w p) y.beside.in_sheet) refl y.beside.its_file
      apart (no l) (yes n) = sources_two y.source.file.0 n (at_map (source_fact w p) y.beside.in_sheet) (at_map (source_fact w p) y.in_sheet) y.beside.its_file refl
      apart (no l) (no n) = absurd (y.another (omega arith))

  -- the only source of its file, and id 0
  alone_not : {j : ℕ} {x : Source} → At p.sources j x → ((i : ℕ) → SourceOf p x.file.0 i → i ≡ j) → by_id (facts_of w p) (source_fact w p x) ≡ false
  unfolding by_id facts_of source_fact
  alone_not {j} {x} h n = no_true _ (λ e. none_so (leb-true 2 _ (by_id_parts (facts_of w p) (source_fact w p x) e).0))
    where
      none_so : 2 ≤ sources_in x.file.0 (map (source_fact w p) p.sources) → ⊥
      none_so l =
          let t = two_sources x.file.0 (map (source_fact w p) p.sources) l in
          let u = map_at (source_fact w p) p.sources t.one_at in
          let v = map_at (source_fact w p) p.sources t.other_at in
          let a : t.first ≡ j = n t.first (record { source = u.element; in_sheet = u.at; its_file = sym (ap (λ (y : SourceFact). y.file) u.is) ∙ t.one_file }) in
          let b : t.second ≡ j = n t.second (record { source = v.element; in_sheet = v.at; its_file = sym (ap (λ (y : SourceFact). y.file) v.is) ∙ t.other_file }) in
          omega (arith, t.order)

  zero_not : (x : Source) → x.id ≡ 0 → by_id (facts_of w p) (source_fact w p x) ≡ false
  unfolding by_id source_fact
  zero_not x e = no_true _ (λ h. eqb-false x.id 0 (not-true _ (by_id_parts (facts_of w p) (source_fact w p x) h).1) e)

  -- ---- in memory

  module _ (room : Room) {o : Outcome} (accepted : o ≡ accepted_by w p room) where
    pub machine_at : {j : ℕ} {x : Source} → At p.sources j x → get_or o.machines j 0 ≡ machine_of (facts_of w p) (source_fact w p x)
    machine_at {j} {x} h =
        ap (λ (y : Outcome). get_or y.machines j 0) accepted
        ∙ (machine_of_source w p room j (at_below h) ∙ ap (λ (y : Source). machine_of (facts_of w p) (source_fact w p y)) (at_get_d h no_source))

    host_so : {j : ℕ} {x : Source} → At p.sources j x → Unsaid w p x.file.0 → by_id (facts_of w p) (source_fact w p x) ≡ false → get_or o.machines j 0 ≡ 0
    unfolding pick
    host_so {j} {x} h n e =
        machine_at h ∙ (machine_silent (facts_of w p) (source_fact w p x) (unsaid_silent h n)
        ∙ ap (λ (b : Bool). pick b (unnamed_machine (facts_of w p) (source_fact w p x).id) 0) e)

    pub host_alone : {j : ℕ} {x : Source} → At p.sources j x → Unsaid w p x.file.0 → ((i : ℕ) → SourceOf p x.file.0 i → i ≡ j) → get_or o.machines j 0 ≡ 0
    host_alone h n s = host_so h n (alone_not h s)

    pub host_zero : {j : ℕ} {x : Source} → At p.sources j x → Unsaid w p x.file.0 → x.id ≡ 0 → get_or o.machines j 0 ≡ 0
    host_zero {x = x} h n e = host_so h n (zero_not x e)

    -- of the file, and of the id
    pub machine_whole : {j : ℕ} {x : Source} → At p.sources j x → {v : Filed} {l : Listed} {m : Machine} → ListedFile w p x.file.0 v l → l.owns ≡ whole_file m → get_or o.machines j 0 ≡ m.0
    unfolding machine_of machine_by source_fact given_by
    machine_whole {j} {x} h y e =
        machine_at h ∙ ap (λ (k : Owns). machine_by (facts_of w p) (given_by k x.id) (source_fact w p x)) (said_owns tidy p sound y x refl ∙ e)

    pub machine_named : {j : ℕ} {x : Source} → At p.sources j x → {v : Filed} {l : Listed} {items : List (ℤ × Machine)} {i : ℕ} {m : Machine}
        → ListedFile w p x.file.0 v l → l.owns ≡ parts items → At items i (pos x.id, m) → get_or o.machines j 0 ≡ m.0
    unfolding machine_of machine_by source_fact given_by
    machine_named {j} {x} h {l = l} {items = items} {i = i} {m = m} y e k =
        machine_at h ∙ (ap (λ (n : Owns). machine_by (facts_of w p) (given_by n x.id) (source_fact w p x)) (said_owns tidy p sound y x refl ∙ e) ∙ go (naming x.id items))
      where
        go : {g : Given} → Naming x.id items g → machine_by (facts_of w p) g (source_fact w p x) ≡ m.0
        go (names {i = a} {m = n} t b) =
            let q : a ≡ i = tidy.ids y.lists.number l y.lists.entry items e a i (pos x.id, n) (pos x.id, m) t k refl in
            ap (λ (z : ℤ × Machine). z.1.0) (at_only (subst (λ (z : ℕ). At items z (pos x.id, n)) q t) k)
        go (lacks n) = absurd (n i m k)

    -- past the named machines
    numbered : {j id : ℕ} (y : ById w p j id) → (get_or o.machines j 0 ≡ unnamed_machine (facts_of w p) id) × Past (facts_of w p) id
    unfolding pick facts_of source_fact
    numbered {j} {id} y =
        let s : Past (facts_of w p) y.source.id = past_names (facts_of w p) (at_map (source_fact w p) y.in_sheet) (by_id_so y) in (
          machine_at y.in_sheet ∙ (machine_silent (facts_of w p) (source_fact w p y.source) (unsaid_silent y.in_sheet y.unsaid)
              ∙ (ap (λ (b : Bool). pick b (unnamed_machine (facts_of w p) y.source.id) 0) (by_id_so y) ∙ ap (unnamed_machine (facts_of w p)) y.its_id)),
          subst (Past (facts_of w p)) y.its_id s,
        )

    pub past_named : {j id : ℕ} → ById w p j id → length w.names < get_or o.machines j 0
    unfolding facts_of
    past_named {j} {id} y =
        let (a, b) = numbered y in
        let c : get_or o.machines j 0 ≡ 1 + length w.names + b.place = a ∙ b.is in
        omega arith

    pub same_id_machine : {i j a b : ℕ} → ById w p i a → ById w p j b → a ≡ b → get_or o.machines i 0 ≡ get_or o.machines j 0
    same_id_machine y z e = (numbered y).0 ∙ (ap (unnamed_machine (facts_of w p)) e ∙ sym (numbered z).0)

    pub same_machine_id : {i j a b : ℕ} → ById w p i a → ById w p j b → get_or o.machines i 0 ≡ get_or o.machines j 0 → a ≡ b
    unfolding facts_of
    same_machine_id {i} {j} {a} {b} y z e =
        let (c, s) = numbered y in
        let (d, t) = numbered z in
        let q : 1 + length w.names + s.place ≡ 1 + length w.names + t.place = sym (c ∙ s.is) ∙ (e ∙ (d ∙ t.is)) in
        let r : s.place ≡ t.place = omega arith in
        at_only (subst (λ (n : ℕ). At (unnamed (facts_of w p)) n a) r s.at) t.at
