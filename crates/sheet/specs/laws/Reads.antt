-- The walk as a relation: which records stand from a state on, and what each of them met. Assumes nothing.
use Rattle.std.specs.Prelude.{◌≡◌, refl, List, [], ◌∷◌, ℕ, zero, suc, ◌+◌, ◌*◌, ◌≤◌, ◌<◌, length}
use Rattle.std.proofs.Common.{sym, ◌∙◌, subst, arith}
use Rattle.records.specs.Layout.{Record, record_at}
use Rattle.records.specs.Faults.{next, step_at, Step, Next, End, Bad}
use Rattle.records.specs.States.{start, Fit, step_of}
use Rattle.records.specs.laws.States.{fit_start, fit_step}
use Rattle.records.specs.laws.Steps.{Seen, Passes, step_apart, step_fault, fit_next, fit_moves}
use Rattle.records.specs.declared.State.{State}
use Rattle.sheet.specs.Sheets.{Out, refused, records, before, onward, records_from, sheet_of}
use Rattle.sheet.specs.Meaning.{Stands, here, on}
use Rattle.sheet.specs.laws.Ended.{Ended, at_end, at_fault, end_on, ended_from, ended_of}

-- from st on stand the records rs, each of them passed, and then the state is e
pub data Reads (s : List ℕ) : State → List Record → State → Type 0 where
  done : {st : State} → Reads s st [] st
  more : {st e : State} {r : Record} {rs : List Record} → Seen s st.at r → Passes s st r → Reads s (next st r) rs e → Reads s st (r ∷ rs) e

-- ---- a loop over the records: what is left to walk is the whole walk
pub record Left (s : List ℕ) (st : State) : Type 0 where
  pub fit : Fit s st
  pub turns : ℕ
  pub enough : 8 * length s ≤ turns + st.at
  pub same : ended_from (suc turns) s st ≡ ended_of s

pub left_start : (s : List ℕ) → length s ≤ 0xffffffff → Left s start
unfolding ended_of
left_start s h = record { fit = fit_start h; turns = 8 * length s; enough = omega arith; same = refl }

-- the step on every input is the step here
pub left_step : {s : List ℕ} {st : State} {x y : Step} → Left s st → x ≡ step_of s st → x ≡ y → step_at s st ≡ y
left_step l e h = sym (fit_step l.fit) ∙ sym e ∙ h

pub left_end : {s : List ℕ} {st : State} → Left s st → step_at s st ≡ End → at_end st ≡ ended_of s
unfolding ended_from
left_end l e = (rw e at l.same)

pub left_bad : {s : List ℕ} {st : State} {k : ℕ} → Left s st → step_at s st ≡ Bad k → at_fault k ≡ ended_of s
unfolding ended_from
left_bad l e = (rw e at l.same)

-- and it is never at no state of a sheet
pub left_some : {s : List ℕ} {st : State} → Left s st → step_at s st ≡ Bad 0 → ⊥
left_some {s} {st} l e = (step_fault s st e).1 refl

walk_next : (s : List ℕ) (st : State) {n : State} (t : ℕ) → step_at s st ≡ Next n → ended_from (suc t) s st ≡ ended_of s → ended_from t s n ≡ ended_of s
unfolding ended_from
walk_next s st t e w = rw e at w

pub left_next : {s : List ℕ} {st n : State} → Left s st → step_at s st ≡ Next n → Left s n × (st.at < n.at)
left_next {s} {st} {n} l e = go e (fit_moves l.fit e) l.turns l.enough l.same
  where
    go : step_at s st ≡ Next n → Fit s n × (st.at < n.at) → (t : ℕ) → 8 * length s ≤ t + st.at → ended_from (suc t) s st ≡ ended_of s → Left s n × (st.at < n.at)
    go e g zero h w = absurd (omega (arith, g.0.here, g.1))
    go e g (suc t) h w = (record { fit = g.0; turns = t; enough = omega (arith, g.1); same = walk_next s st (suc t) e w }, g.1)

-- ---- both walks, and the relation
pub data Both (s : List ℕ) (st : State) : Out → Ended → Type 0 where
  bad : {k : ℕ} → (k ≡ 0 → ⊥) → Both s st (refused k) (at_fault k)
  good : {rs : List Record} {e : State} → Reads s st rs e → Both s st (records rs) (at_end e)

extend : {s : List ℕ} {st n : State} {r : Record} {o : Out} {e : Ended} → Seen s st.at r → Passes s st r → next st r ≡ n → Both s n o e → Both s st (before r o) e
extend v p q (bad z) = bad z
extend {s} v p q (good {rs} {e} rd) = good (more v p (subst (λ (m : State). Reads s m rs e) (sym q) rd))

by_step : (s : List ℕ) (st : State) (out : State → Out) (end : State → Ended) → ((m : State) → Both s m (out m) (end m)) → (x : Step) → step_at s st ≡ x →
    Both s st (onward (record_at s st.at) out x) (end_on st end x)
by_step s st out end ih (Next n) h =
    let q = step_apart s st h in
    extend q.0 q.1 q.2 (ih n)
by_step s st out end ih End h = good done
by_step s st out end ih (Bad k) h = bad (step_fault s st h).1

both : (n : ℕ) (s : List ℕ) (st : State) → Both s st (records_from n s st) (ended_from n s st)
unfolding records_from ended_from
both zero s st = bad (λ (z : ◌≡◌ {A = ℕ} 26 0). omega arith)
both (suc n) s st = by_step s st (λ m. records_from n s m) (λ m. ended_from n s m) (λ m. both n s m) (step_at s st) refl

pub walks : (s : List ℕ) → Both s start (sheet_of s) (ended_of s)
unfolding sheet_of ended_of
walks s = both (suc (8 * length s)) s start

-- what stands is read
pub stands_reads : {s : List ℕ} {st e : State} {rs : List Record} → Stands s st rs e → Reads s st rs e
stands_reads here = done
stands_reads {s} {st} {e} (on {rs = rs} q h w) =
    let p = step_apart s st h in
    rw q (more p.0 p.1 (subst (λ (m : State). Reads s m rs e) (sym p.2) (stands_reads w)))

pub fit_end : {s : List ℕ} {st e : State} {rs : List Record} → Reads s st rs e → Fit s st → Fit s e
fit_end done f = f
fit_end (more v p rd) f = fit_end rd (fit_next v p f).0
