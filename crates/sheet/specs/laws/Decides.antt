-- The first record in which a number applies decides: what stands is what the walk gives, and back; and so with 25 and 31 for the answer. Assumes nothing.
use Rattle.std.specs.Prelude.{◌≡◌, Bool, ◌||◌, ◌⊎◌, List}
use Rattle.std.proofs.Math.Path.{refl, ap}
use Rattle.std.proofs.Common.{sym, ◌∙◌, arith, eq-eqb, ne_eqb, lt-ltb, le-ltb, eqb-true, ltb-true, ltb-false}
use Rattle.std.proofs.Math.Bool.{true, false}
use Rattle.std.proofs.Math.Logic.{inl, inr}
use Prim.Native.Nat.{ℕ, zero, suc, ◌+◌, ◌*◌, ◌≤◌, ◌<◌}
use Rattle.std.proofs.Math.Dec.{eqb, ltb}
use Rattle.std.proofs.Math.ListN.{length}
use Rattle.std.proofs.lemmas.Bool.{eqb-false}
use Rattle.records.specs.Layout.{Record, record_at, pick}
use Rattle.records.specs.Faults.{step_at, Step, Next, End, Bad}
use Rattle.records.specs.States.{start, Fit}
use Rattle.records.specs.laws.States.{fit_start}
use Rattle.records.specs.laws.Steps.{fit_moves}
use Rattle.records.specs.declared.State.{State}
use Rattle.sheet.specs.Twice.{again}
use Rattle.sheet.specs.Sheets.{Out, refused, records, before, onward, records_from, sheet_of, table_of, judged, size_wrong, read_of, Sheet, Refused, Listed}
use Rattle.sheet.specs.Meaning.{Stands, here, on, Repeated, Sized, Answers, by_size, by_record, by_twice, by_all}
use Rattle.sheet.specs.laws.Repeats.{no_way, or_split, again_repeated, repeated_again}

-- what the walk found
pub data Found (s : List ℕ) (st : State) : Out → Type 0 where
  ended : {rs : List Record} {e : State} → Stands s st rs e → step_at s e ≡ End → Found s st (records rs)
  stopped : {rs : List Record} {e : State} {k : ℕ} → Stands s st rs e → step_at s e ≡ Bad k → Found s st (refused k)

add_first : {s : List ℕ} {st n : State} {o : Out} → step_at s st ≡ Next n → Found s n o → Found s st (before (record_at s st.at) o)
add_first h (ended w e) = ended (on refl h w) e
add_first h (stopped w e) = stopped (on refl h w) e

module _ (s : List ℕ) where
  by_step : (st : State) (out : State → Out) (x : Step) → step_at s st ≡ x → ((m : State) → step_at s st ≡ Next m → Found s m (out m)) → Found s st (onward (record_at s st.at) out x)
  by_step st out (Next m) h f = add_first h (f m h)
  by_step st out End h f = ended here h
  by_step st out (Bad k) h f = stopped here h

  found : (n : ℕ) (st : State) → Fit s st → 8 * length s ≤ n + st.at → Found s st (records_from (suc n) s st)
  unfolding records_from
  found zero st f l = by_step st (λ m. records_from zero s m) (step_at s st) refl (λ (m : State) (h : step_at s st ≡ Next m). let q = fit_moves f h in absurd (omega (arith, q.0.here, q.1)))
  found (suc n) st f l = by_step st (λ m. records_from (suc n) s m) (step_at s st) refl (λ (m : State) (h : step_at s st ≡ Next m). let q = fit_moves f h in found n m q.0 (omega (arith, q.1)))

  pub sheet_found : length s ≤ 0xffffffff → Found s start (sheet_of s)
  unfolding sheet_of
  sheet_found l = found (8 * length s) start (fit_start l) (omega arith)

  -- ---- and back
  one_step : (n : ℕ) (st : State) {x : Step} → step_at s st ≡ x → records_from (suc n) s st ≡ onward (record_at s st.at) (λ m. records_from n s m) x
  unfolding records_from
  one_step n st e = ap (onward (record_at s st.at) (λ m. records_from n s m)) e

  gives_end : {st e : State} {rs : List Record} (n : ℕ) → Fit s st → 8 * length s ≤ n + st.at → Stands s st rs e → step_at s e ≡ End → records_from (suc n) s st ≡ records rs
  gives_end {st} n f l here h = one_step n st h
  gives_end {st} zero f l (on q e w) h = let m = fit_moves f e in absurd (omega (arith, m.0.here, m.1))
  gives_end {st} (suc n) f l (on {r = r} q e w) h =
      let m = fit_moves f e in
      one_step (suc n) st e ∙ rw (← q, gives_end n m.0 (omega (arith, m.1)) w h)

  gives_fault : {st e : State} {rs : List Record} {k : ℕ} (n : ℕ) → Fit s st → 8 * length s ≤ n + st.at → Stands s st rs e → step_at s e ≡ Bad k → records_from (suc n) s st ≡ refused k
  gives_fault {st} n f l here h = one_step n st h
  gives_fault {st} zero f l (on q e w) h = let m = fit_moves f e in absurd (omega (arith, m.0.here, m.1))
  gives_fault {st} (suc n) f l (on {r = r} q e w) h =
      let m = fit_moves f e in
      one_step (suc n) st e ∙ rw (gives_fault n m.0 (omega (arith, m.1)) w h)

  pub ends_so : {e : State} {rs : List Record} → length s ≤ 0xffffffff → Stands s start rs e → step_at s e ≡ End → sheet_of s ≡ records rs
  unfolding sheet_of
  ends_so l w h = gives_end (8 * length s) (fit_start l) (omega arith) w h

  pub refused_so : {e : State} {rs : List Record} {k : ℕ} → length s ≤ 0xffffffff → Stands s start rs e → step_at s e ≡ Bad k → sheet_of s ≡ refused k
  unfolding sheet_of
  refused_so l w h = gives_fault (8 * length s) (fit_start l) (omega arith) w h

  -- ---- the answer
  or_none : (a b : Bool) → (a || b) ≡ false → (a ≡ false) × (b ≡ false)
  or_none true b h = absurd (no_way (sym h))
  or_none false b h = (refl, h)

  sized : size_wrong s ≡ false → Sized s
  sized h =
      let q = or_none (eqb (length s) 0) (ltb 65536 (length s)) h in
      let z : length s ≡ 0 → ⊥ = eqb-false (length s) 0 q.0 in
      record { some = pos (length s) z; short = ltb-false 65536 (length s) q.1 }
    where
      pos : (n : ℕ) → (n ≡ 0 → ⊥) → 0 < n
      pos zero z = absurd (z refl)
      pos (suc n) z = omega arith

  pub size_fine : Sized s → size_wrong s ≡ false
  size_fine z = rw (ne_eqb (length s) 0 (λ (e : length s ≡ 0). omega (arith, z.some)), le-ltb 65536 (length s) z.short)

  by_again : {rs : List Record} {e : State} → Sized s → Stands s start rs e → step_at s e ≡ End → (b : Bool) → again rs ≡ b → Answers s (pick b (Refused 31) (Listed (table_of rs)))
  unfolding pick
  by_again {rs} z w h true e = by_twice z w h (again_repeated rs e)
  by_again {rs} z w h false e = by_all z w h (λ (r : Repeated rs). no_way (sym e ∙ repeated_again rs r))

  of_found : {o : Out} → Sized s → Found s start o → Answers s (judged o)
  unfolding judged
  of_found z (stopped w h) = by_record z w h
  of_found z (ended {rs} w h) = by_again z w h (again rs) refl

  pub read_answers : Answers s (read_of s)
  unfolding read_of pick
  read_answers = go (size_wrong s) refl
    where
      go : (b : Bool) → size_wrong s ≡ b → Answers s (pick b (Refused 25) (judged (sheet_of s)))
      go true e =
          by_size
          (or_split (eqb (length s) 0) (ltb 65536 (length s)) e
          (λ (h : eqb (length s) 0 ≡ true). inl (eqb-true (length s) 0 h))
          (λ (h : ltb 65536 (length s) ≡ true). inr (ltb-true 65536 (length s) h)))
      go false e = let z = sized e in of_found z (sheet_found (omega (arith, z.short)))

  fine : Sized s → read_of s ≡ judged (sheet_of s)
  unfolding read_of pick
  fine z = rw (size_fine z)

  not_again : (rs : List Record) → (Repeated rs → ⊥) → again rs ≡ false
  not_again rs n = go (again rs) refl
    where
      go : (b : Bool) → again rs ≡ b → again rs ≡ false
      go true e = absurd (n (again_repeated rs e))
      go false e = e

  size_refused : (length s ≡ 0) ⊎ (65536 < length s) → size_wrong s ≡ true
  size_refused (inl e) = rw (eq-eqb (length s) 0 e)
  size_refused (inr l) = rw (ne_eqb (length s) 0 (λ (e : length s ≡ 0). omega arith), lt-ltb 65536 (length s) l)

  pub answers_only : {x : Sheet} → Answers s x → x ≡ read_of s
  unfolding read_of judged pick
  answers_only (by_size h) = rw (size_refused h)
  answers_only (by_record z w h) = rw (fine z, refused_so (omega (arith, z.short)) w h)
  answers_only (by_twice {rs} z w h r) = rw (fine z, ends_so (omega (arith, z.short)) w h, repeated_again rs r)
  answers_only (by_all {rs} z w h n) = rw (fine z, ends_so (omega (arith, z.short)) w h, not_again rs n)
