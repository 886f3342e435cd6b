-- A step taken apart: which record stood there, that no number applies in it, and what it does to the state. Assumes nothing.
use Rattle.std.specs.Prelude.{◌≡◌, refl, Bool, true, false, List, ℕ, ◌+◌, ◌*◌, ◌^◌, ◌≤◌, ◌<◌, eqb, length}
use Rattle.std.proofs.Common.{sym, ap, ◌∙◌, subst, arith, add-one, pow-suc, eqb-true, ltb-false, leb-false}
use Rattle.std.proofs.lemmas.Bool.{eqb-false}
use Rattle.records.specs.Layout.{Record, file, source, snapshot, event, ending, unknown, head_here, file_here, source_here, snapshot_here, event_here, pick, record_of, record_at, size_of}
use Rattle.records.specs.Faults.{cut, low, wrong, after, full, fault_of, fault, bit, next, passed, step_for, step_at, Step, Next, End, Bad}
use Rattle.records.specs.States.{Fit}
use Rattle.records.specs.declared.State.{State}

-- a record that stands at a position
pub data Seen (s : List ℕ) (at : ℕ) : Record → Type 0 where
  a_file : Seen s at (file_here s at)
  a_source : Seen s at (source (source_here s at))
  a_snapshot : Seen s at (snapshot (snapshot_here s at))
  an_event : Seen s at (event (event_here s at))

-- none of 26, 27, 28 and 30 applies in it
pub record Passes (s : List ℕ) (st : State) (r : Record) : Type 0 where
  pub whole : st.at + size_of r ≤ 8 * length s
  pub in_order : low st r ≡ false
  pub right : wrong st r ≡ false
  pub room : full st r ≡ false

-- ---- every position has one view
data View (s : List ℕ) (at : ℕ) : Record → Type 0 where
  real : {r : Record} → Seen s at r → View s at r
  at_end : View s at ending
  no_kind : View s at unknown

either : {s : List ℕ} {at : ℕ} (t : Bool) {a b : Record} → View s at a → View s at b → View s at (pick t a b)
unfolding pick
either true p q = p
either false p q = q

view : (s : List ℕ) (at : ℕ) → View s at (record_at s at)
unfolding record_at record_of
view s at = either _ at_end (either _ (real a_file) (either _ (real a_source) (either _ (real a_snapshot) (either _ (real an_event) no_kind))))

-- ---- a step taken apart
clear : (a b c d e : Bool) → fault_of a b c d e ≡ 0 → (a ≡ false) × (b ≡ false) × (c ≡ false) × (e ≡ false)
unfolding fault_of pick
clear true b c d e h = absurd (omega arith)
clear false true c d e h = absurd (omega arith)
clear false false true d e h = absurd (omega arith)
clear false false false true e h = absurd (omega arith)
clear false false false false true h = absurd (omega arith)
clear false false false false false h = (refl, refl, refl, refl)

next_bad : {n : State} {k : ℕ} → Bad k ≡ Next n → ⊥
next_bad e = let z : ◌≡◌ {A = ℕ} 0 1 = cc in omega arith

next_end : {n : State} → End ≡ Next n → ⊥
next_end e = let z : ◌≡◌ {A = ℕ} 0 1 = cc in omega arith

bad_end : {k : ℕ} → End ≡ Bad k → ⊥
bad_end e = let z : ◌≡◌ {A = ℕ} 0 1 = cc in omega arith

bad_next : {k : ℕ} {n : State} → Next n ≡ Bad k → ⊥
bad_next e = let z : ◌≡◌ {A = ℕ} 0 1 = cc in omega arith

is_next : (b : Bool) {x : Step} {n : State} (k : ℕ) → pick b x (Bad k) ≡ Next n → (b ≡ true) × (x ≡ Next n)
unfolding pick
is_next true k h = (refl, h)
is_next false k h = absurd (next_bad h)

is_bad : (b : Bool) {x : Step} {j k : ℕ} → (x ≡ Bad k → ⊥) → pick b x (Bad j) ≡ Bad k → (b ≡ false) × (j ≡ k)
unfolding pick
is_bad true q h = absurd (q h)
is_bad false q h = (refl, cc)

passes : (s : List ℕ) (st : State) (r : Record) → fault s st r ≡ 0 → Passes s st r
passes s st r h =
    let q = clear (cut s st r) (low st r) (wrong st r) (after s st r) (full st r) h in
    record { whole = ltb-false (8 * length s) (st.at + size_of r) q.0; in_order = q.1; right = q.2; room = q.3 }

never_bad : (st : State) (r : Record) {k : ℕ} → passed st r ≡ Bad k → ⊥
never_bad st (file c k p) h = bad_next h
never_bad st (source x) h = bad_next h
never_bad st (snapshot x) h = bad_next h
never_bad st (event x) h = bad_next h
never_bad st ending h = bad_end h
never_bad st unknown h = bad_end h

step_next : {s : List ℕ} (st : State) {r : Record} {n : State} → View s st.at r → step_for s st r ≡ Next n → Seen s st.at r × Passes s st r × (next st r ≡ n)
unfolding step_for
step_next {s} st {r} (real v) h =
    let q = is_next (eqb (fault s st r) 0) (fault s st r) h in
    (v, passes s st r (eqb-true (fault s st r) 0 q.0), moved v q.1)
  where
    moved : {m : State} {t : Record} → Seen s st.at t → passed st t ≡ Next m → next st t ≡ m
    moved a_file e = cc
    moved a_source e = cc
    moved a_snapshot e = cc
    moved an_event e = cc
step_next {s} st at_end h = absurd (next_end (is_next (eqb (fault s st ending) 0) (fault s st ending) h).1)
step_next {s} st no_kind h = absurd (next_end (is_next (eqb (fault s st unknown) 0) (fault s st unknown) h).1)

-- a step that leads on went over a record that passes
pub step_apart : (s : List ℕ) (st : State) {n : State} → step_at s st ≡ Next n →
    Seen s st.at (record_at s st.at) × Passes s st (record_at s st.at) × (next st (record_at s st.at) ≡ n)
unfolding step_at
step_apart s st h = step_next st (view s st.at) h

-- a step that refuses gives the record's fault, which is not 0
pub step_fault : (s : List ℕ) (st : State) {k : ℕ} → step_at s st ≡ Bad k → (k ≡ fault s st (record_at s st.at)) × (k ≡ 0 → ⊥)
unfolding step_at step_for
step_fault s st {k} h =
    let r = record_at s st.at in
    let q = is_bad (eqb (fault s st r) 0) (never_bad st r) h in
    (sym q.1, λ (z : k ≡ 0). eqb-false (fault s st r) 0 q.0 (q.1 ∙ z))

-- ---- what a record does to the state
twice_pow : (n : ℕ) → 2 ^ (n + 1) ≡ 2 ^ n + 2 ^ n
twice_pow n =
    let e : 2 ^ n * 2 ≡ 2 ^ n + 2 ^ n = omega arith in
    ap (λ (k : ℕ). 2 ^ k) (add-one n) ∙ pow-suc 2 n ∙ e

mask_more : (c n : ℕ) (b : Bool) → c < 2 ^ n → c + bit b * 2 ^ n < 2 ^ (n + 1)
mask_more c n true h = omega (arith, twice_pow n)
mask_more c n false h = omega (arith, twice_pow n)

-- a state of a sheet leads to a state of the sheet, further on
pub fit_next : {s : List ℕ} {st : State} {r : Record} → Seen s st.at r → Passes s st r → Fit s st → Fit s (next st r) × (st.at < (next st r).at)
fit_next {s} {st} a_file p f = (
  record {
    short = f.short;
    few_files = omega (arith, leb-false 32 st.files p.room);
    here = p.whole;
    kind = omega arith;
    few_sources = f.few_sources;
    few_snapshots = f.few_snapshots;
    few_events = omega (arith, f.few_events);
    mask = mask_more st.containers st.files (head_here s st.at).container f.mask;
  },
  omega arith,
)
fit_next {s} {st} a_source p f = (
  record {
    short = f.short;
    few_files = f.few_files;
    here = p.whole;
    kind = omega arith;
    few_sources = omega (arith, leb-false 32 st.sources p.room);
    few_snapshots = f.few_snapshots;
    few_events = omega (arith, f.few_events);
    mask = f.mask;
  },
  omega arith,
)
fit_next {s} {st} a_snapshot p f = (
  record {
    short = f.short;
    few_files = f.few_files;
    here = p.whole;
    kind = omega arith;
    few_sources = f.few_sources;
    few_snapshots = omega (arith, leb-false 256 st.snapshots p.room);
    few_events = omega (arith, f.few_events);
    mask = f.mask;
  },
  omega arith,
)
fit_next {s} {st} an_event p f = (
  record {
    short = f.short;
    few_files = f.few_files;
    here = p.whole;
    kind = omega arith;
    few_sources = f.few_sources;
    few_snapshots = f.few_snapshots;
    few_events = omega (arith, f.few_events);
    mask = f.mask;
  },
  omega arith,
)

pub fit_moves : {s : List ℕ} {st n : State} → Fit s st → step_at s st ≡ Next n → Fit s n × (st.at < n.at)
fit_moves {s} {st} {n} f h =
    let q = step_apart s st h in
    subst (λ (m : State). Fit s m × (st.at < m.at)) q.2 (fit_next q.0 q.1 f)
