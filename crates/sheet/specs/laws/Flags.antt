-- Bit f of `containers` is the container flag of file f. Assumes nothing.
use Rattle.std.specs.Prelude.{◌≡◌, refl, Bool, true, false, List, ℕ, zero, suc, ◌+◌, ◌-◌, ◌*◌, ◌/◌, ◌%◌, ◌^◌, ◌<◌, eqb, length, get_or}
use Rattle.std.proofs.Common.{sym, ap, ◌∙◌, arith, add-one, pow-suc, mul_assoc, pow_pos, pow-add}
use Rattle.std.proofs.Math.Nat.{add-mul-div_right}
use Rattle.std.proofs.Math.Pow.{high}
use Rattle.records.specs.Layout.{Record, unknown, head_here}
use Rattle.records.specs.Faults.{bit, is_container}
use Rattle.records.specs.States.{Fit}
use Rattle.records.specs.laws.Steps.{a_file, a_source, a_snapshot, an_event, fit_next}
use Rattle.records.specs.declared.State.{State}
use Rattle.sheet.specs.Lists.{files_of}
use Rattle.sheet.specs.Meaning.{flag_of}
use Rattle.sheet.specs.laws.Reads.{Reads, done, more}

bit_kept : (c b n f : ℕ) → f < n → (c + b * 2 ^ n) / 2 ^ f % 2 ≡ c / 2 ^ f % 2
bit_kept c b n f h =
    let m = n - (f + 1) in
    let e : n ≡ m + 1 + f = omega arith in
    let p : 2 ^ n ≡ 2 ^ (m + 1) * 2 ^ f = ap (λ (k : ℕ). 2 ^ k) e ∙ pow-add 2 (m + 1) f in
    let w : 2 ^ (m + 1) ≡ 2 ^ m * 2 = ap (λ (k : ℕ). 2 ^ k) (add-one m) ∙ pow-suc 2 m in
    let g : b * 2 ^ n ≡ (b * 2 ^ m * 2) * 2 ^ f = rw (p, w) (ring_like b (2 ^ m) (2 ^ f)) in
    rw (g, add-mul-div_right c (b * 2 ^ m * 2) (pow_pos f)) (omega arith)
  where
    ring_like : (x y z : ℕ) → x * (y * 2 * z) ≡ x * y * 2 * z
    ring_like x y z = sym (mul_assoc x (y * 2) z) ∙ ap (λ (k : ℕ). k * z) (sym (mul_assoc x y 2))

bit_new : (c b n : ℕ) → c < 2 ^ n → b < 2 → (c + b * 2 ^ n) / 2 ^ n % 2 ≡ b
bit_new c b n h l =
    let e : c + b * 2 ^ n ≡ b * 2 ^ n + c = omega arith in
    rw (e, high b n h) (omega arith)

bit_small : (b : Bool) → bit b < 2
bit_small true = omega arith
bit_small false = omega arith

bit_test : (b : Bool) → eqb (bit b) 1 ≡ b
bit_test true = refl
bit_test false = refl

-- a file's bit stays as it is
pub flag_kept : {s : List ℕ} {st e : State} {rs : List Record} → Reads s st rs e → (f : ℕ) → f < st.files → is_container e.containers f ≡ is_container st.containers f
flag_kept done f l = refl
flag_kept {s} {st} (more a_file p rd) f l = flag_kept rd f (omega arith) ∙ ap (λ (b : ℕ). eqb b 1) (bit_kept st.containers (bit (head_here s st.at).container) st.files f l)
flag_kept (more a_source p rd) f l = flag_kept rd f l
flag_kept (more a_snapshot p rd) f l = flag_kept rd f l
flag_kept (more an_event p rd) f l = flag_kept rd f l

pub flag_is : {s : List ℕ} {st e : State} {rs : List Record} → Reads s st rs e → Fit s st → (i : ℕ) → i < length (files_of rs) →
    is_container e.containers (st.files + i) ≡ flag_of (get_or (files_of rs) i unknown)
unfolding files_of
flag_is done t i l = absurd (omega arith)
flag_is {s} {st} {e} (more a_file p rd) t zero l =
    let z : st.files + 0 ≡ st.files = omega arith in
    let c = (head_here s st.at).container in
    ap (is_container e.containers) z ∙ flag_kept rd st.files (omega arith)
    ∙ ap (λ (b : ℕ). eqb b 1) (bit_new st.containers (bit c) st.files t.mask (bit_small c)) ∙ bit_test c
flag_is {s} {st} {e} (more a_file p rd) t (suc i) l =
    let z : st.files + suc i ≡ st.files + 1 + i = omega arith in
    ap (is_container e.containers) z ∙ flag_is rd (fit_next a_file p t).0 i (omega arith)
flag_is (more a_source p rd) t i l = flag_is rd (fit_next a_source p t).0 i l
flag_is (more a_snapshot p rd) t i l = flag_is rd (fit_next a_snapshot p t).0 i l
flag_is (more an_event p rd) t i l = flag_is rd (fit_next an_event p t).0 i l
