-- The test of a state and what it says are the same. Assumes nothing.
use Rattle.std.specs.Prelude.{◌≡◌, refl, Bool, true, false, ◌&&◌, List, ℕ, ◌*◌, ◌^◌, ◌≤◌, length}
use Rattle.std.proofs.Common.{arith, leb-true, ltb-true, le-leb, lt-ltb}
use Rattle.records.specs.Layout.{pick}
use Rattle.records.specs.Faults.{step_at}
use Rattle.records.specs.States.{start, Fit, may_be, step_of}
use Rattle.records.specs.declared.State.{State}

and_both : (a b : Bool) → (a && b) ≡ true → (a ≡ true) × (b ≡ true)
and_both true b h = (refl, h)
and_both false b h = absurd (no_way h)
  where
    no_way : false ≡ true → ⊥
    no_way e = let z : ◌≡◌ {A = ℕ} 0 1 = cc in omega arith

pub may_fit : (s : List ℕ) (st : State) → may_be s st ≡ true → Fit s st
unfolding may_be
may_fit s st h =
    let a = and_both _ _ h in
    let b = and_both _ _ a.1 in
    let c = and_both _ _ b.1 in
    let d = and_both _ _ c.0 in
    let e = and_both _ _ d.0 in
    let f = and_both _ _ d.1 in
    let g = and_both _ _ c.1 in
    record {
      short = leb-true (length s) 0xffffffff a.0;
      few_files = leb-true st.files 32 b.0;
      here = leb-true st.at (8 * length s) e.0;
      kind = leb-true st.last 4 e.1;
      few_sources = leb-true st.sources 32 f.0;
      few_snapshots = leb-true st.snapshots 256 f.1;
      few_events = leb-true st.events st.at g.0;
      mask = ltb-true st.containers (2 ^ st.files) g.1;
    }

pub fit_may : {s : List ℕ} {st : State} → Fit s st → may_be s st ≡ true
unfolding may_be
fit_may {s} {st} f =
    simp (
      le-leb (length s) 0xffffffff f.short,
      le-leb st.files 32 f.few_files,
      le-leb st.at (8 * length s) f.here,
      le-leb st.last 4 f.kind,
      le-leb st.sources 32 f.few_sources,
      le-leb st.snapshots 256 f.few_snapshots,
      le-leb st.events st.at f.few_events,
      lt-ltb st.containers (2 ^ st.files) f.mask,
    )

-- on a state of a sheet the step on every input is the step
pub fit_step : {s : List ℕ} {st : State} → Fit s st → step_of s st ≡ step_at s st
unfolding step_of pick
fit_step f = rw (fit_may f)

-- before the first record
pub fit_start : {s : List ℕ} → length s ≤ 0xffffffff → Fit s start
fit_start h =
    record {
      short = h;
      few_files = omega arith;
      here = omega arith;
      kind = omega arith;
      few_sources = omega arith;
      few_snapshots = omega arith;
      few_events = omega arith;
      mask = omega arith;
    }
