-- Kinds never go down. Assumes nothing.
use Rattle.std.specs.Prelude.{◌≡◌, refl, List, ℕ, zero, suc, ◌≤◌, ◌<◌, length, get_or}
use Rattle.std.proofs.Common.{arith, ltb-false}
use Rattle.records.specs.Layout.{Record, unknown}
use Rattle.records.specs.Faults.{next}
use Rattle.records.specs.laws.Steps.{Seen, Passes, a_file, a_source, a_snapshot, an_event}
use Rattle.records.specs.declared.State.{State}
use Rattle.sheet.specs.Meaning.{kind_of}
use Rattle.sheet.specs.laws.Reads.{Reads, done, more}

-- a record's kind is at least the last, and is the last after it
kind_up : {s : List ℕ} {st : State} {r : Record} → Seen s st.at r → Passes s st r → (st.last ≤ kind_of r) × ((next st r).last ≡ kind_of r)
kind_up {s} {st} a_file p = (ltb-false 1 st.last p.in_order, refl)
kind_up {s} {st} a_source p = (ltb-false 2 st.last p.in_order, refl)
kind_up {s} {st} a_snapshot p = (ltb-false 3 st.last p.in_order, refl)
kind_up {s} {st} an_event p = (ltb-false 4 st.last p.in_order, refl)

above : {s : List ℕ} {st e : State} {rs : List Record} → Reads s st rs e → (i : ℕ) → i < length rs → st.last ≤ kind_of (get_or rs i unknown)
above done i l = absurd (omega arith)
above (more v p rd) zero l = (kind_up v p).0
above (more v p rd) (suc i) l = omega (arith, (kind_up v p).0, (kind_up v p).1, above rd i (omega arith))

pub never_down : {s : List ℕ} {st e : State} {rs : List Record} → Reads s st rs e → (i j : ℕ) → i < j → j < length rs → kind_of (get_or rs i unknown) ≤ kind_of (get_or rs j unknown)
never_down done i j h l = absurd (omega arith)
never_down (more v p rd) i zero h l = absurd (omega arith)
never_down (more v p rd) zero (suc j) h l = omega (arith, (kind_up v p).1, above rd j (omega arith))
never_down (more v p rd) (suc i) (suc j) h l = never_down rd i j (omega arith) (omega arith)
