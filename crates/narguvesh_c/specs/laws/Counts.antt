-- An accepted sheet has at most 32 sources, and at most 6990 events, since each takes 75 of 524,288 bits; a refused one has a number that is not 0. Assumes nothing.
use Rattle.std.specs.Prelude.{◌≡◌, refl, List, ℕ, ◌≤◌, ◌<◌, length}
use Rattle.std.proofs.Common.{sym, ap, ◌∙◌, arith}
use Rattle.text.specs.Reading.{Text}
use Rattle.records.specs.Layout.{Record}
use Rattle.records.specs.Theorems.{refuses}
use Rattle.sheet.specs.Lists.{sources_of, events_of}
use Rattle.sheet.specs.Sheets.{refused, records, table_of}
use Rattle.sheet.specs.Sheets.{Sheet, Refused as SheetRefused, Listed}
use Rattle.sheet.specs.Meaning.{Answers, by_size, by_record, by_twice, by_all}
use Rattle.sheet.specs.Theorems.{read_answers}
use Rattle.sheet.specs.Accepted.{Accepted, accepted}
use Rattle.merged.specs.declared.Summary.{Summary}
use Rattle.merged.specs.Answers.{Answer, Refused, Merged}
use Rattle.merged.specs.declared.Room.{Room}
use Rattle.merged.specs.Merged.{records_of, Outcome, accepted_by, merged}
use Rattle.merged.proofs.Demands.{Accepts, accepts}
use Rattle.merged.proofs.laws.Sheets.{told, read_told}
use Rattle.narguvesh_c.specs.Plain.{events_in}

-- the sheet of these records is listed
listed : (b : List ℕ) {rs : List Record} → records_of b ≡ records rs → Accepted b (table_of rs)
unfolding told
listed b {rs} e = accepted b (table_of rs) (read_told b ∙ ap told e)

pub few_sources : (b : List ℕ) {rs : List Record} → records_of b ≡ records rs → length (sources_of rs) ≤ 32
few_sources b e = (listed b e).few_sources

pub few_events : (b : List ℕ) {rs : List Record} → records_of b ≡ records rs → length (events_of rs) ≤ 6990
few_events b {rs} e = let a : Accepted b (table_of rs) = listed b e in omega (arith, a.events_end, a.short)

-- so it is with the answer
pub answer_events : (m : Text) (b : List ℕ) (room : Room) (x : Answer) → (merged m b room).answer ≡ x → events_in x ≤ 6990
unfolding events_in accepted_by
answer_events m b room (Refused n) e = omega arith
answer_events m b room (Merged s) e =
    let a : Accepts m b room = accepts m b room e in
    let q = sym (ap (λ (o : Outcome). o.answer) a.outcome) ∙ e in
    let z : length (events_of a.rs) ≡ s.events = cc in
    omega (arith, few_events b a.sheet)

pub events_small : (m : Text) (b : List ℕ) (room : Room) (x : Answer) → x ≡ (merged m b room).answer → events_in x < 4294967296
events_small m b room x e = omega (arith, answer_events m b room x (sym e))

-- no sheet is refused with 0
of_answer : (b : List ℕ) {x : Sheet} {n : ℕ} → Answers b x → x ≡ SheetRefused n → n ≡ 0 → ⊥
of_answer b {x} {n} (by_size h) e z = let q : ◌≡◌ {A = ℕ} 25 n = cc in omega arith
of_answer b {x} {n} (by_record {k = k} s w h) e z = let q : k ≡ n = cc in (refuses b _ h).1 (q ∙ z)
of_answer b {x} {n} (by_twice s w h r) e z = let q : ◌≡◌ {A = ℕ} 31 n = cc in omega arith
of_answer b {x} {n} (by_all s w h r) e z = let q : ◌≡◌ {A = ℕ} 0 1 = cc in omega arith

pub sheet_number : (b : List ℕ) {n : ℕ} → records_of b ≡ refused n → n ≡ 0 → ⊥
unfolding told
sheet_number b e z = of_answer b (read_answers b) (read_told b ∙ ap told e) z
