-- A clock's number and what the clock is are the same knowledge: each way back undoes the other. So no two clocks share a number.
-- Assumes nothing.
use Rattle.std.specs.Prelude.{◌≡◌, refl, Some, None, Bool, true, false, ℕ, ◌+◌, ◌*◌, ◌-◌, ◌/◌, ◌%◌, ◌≤◌, ◌<◌, ltb}
use Rattle.std.proofs.Common.{ap, ap₂, arith, lt-ltb, le-ltb, le-leb, ltb-true, ltb-false}
use Rattle.numbers.specs.declared.File.{File}
use Rattle.numbers.specs.declared.Machine.{Machine}
use Rattle.numbers.specs.declared.Clock.{Clock}
use Rattle.numbers.specs.declared.Owner.TheVariants.{Domain, Private}
use Rattle.numbers.specs.Numbers.{clocks, machines, files, clock_of, private_of, what_is}

-- clock d of machine m has number 6m + d - 1
pub domain_number : (d : ℕ) (m : Machine) → 1 ≤ d → d ≤ 6 → m.0 < machines → (clock_of d m).0 ≡ 6 * m.0 + d - 1
unfolding clock_of
domain_number d m a b c = simp (lt-ltb 0 d a, le-leb d 6 b, lt-ltb m.0 32 c)

-- file f's private clock has 192 + f
pub private_number : (f : File) → f.0 < files → (private_of f).0 ≡ 192 + f.0
unfolding private_of
private_number f h = simp (lt-ltb f.0 32 h)

-- both are clocks
pub domain_is_clock : (d : ℕ) (m : Machine) → 1 ≤ d → d ≤ 6 → m.0 < machines → (clock_of d m).0 < clocks
domain_is_clock d m a b c = omega (arith, domain_number d m a b c)

pub private_is_clock : (f : File) → f.0 < files → (private_of f).0 < clocks
private_is_clock f h = omega (arith, private_number f h)

-- a clock's number tells the domain and the machine, or the file
pub domain_known : (d : ℕ) (m : Machine) → 1 ≤ d → d ≤ 6 → m.0 < machines → what_is (clock_of d m) ≡ Some (Domain d m)
unfolding what_is
domain_known d m a b c =
    let n : (clock_of d m).0 ≡ 6 * m.0 + d - 1 = domain_number d m a b c in
    let l : (clock_of d m).0 < 192 = omega arith in
    let e : (clock_of d m).0 % 6 + 1 ≡ d = omega arith in
    let q : (clock_of d m).0 / 6 ≡ m.0 = omega arith in
    simp (lt-ltb _ _ l) (ap₂ (λ (n : ℕ) (k : Machine). Some (Domain n k)) e (ap (λ (k : ℕ). record { 0 = k }) q))

pub private_known : (f : File) → f.0 < files → what_is (private_of f) ≡ Some (Private f)
unfolding what_is
private_known f h =
    let n : (private_of f).0 ≡ 192 + f.0 = private_number f h in
    let g : 192 ≤ (private_of f).0 = omega arith in
    let l : (private_of f).0 < clocks = omega arith in
    let q : (private_of f).0 - 192 ≡ f.0 = omega arith in
    simp (le-ltb _ _ g, lt-ltb _ _ l) (ap (λ (k : ℕ). Some (Private (record { 0 = k }))) q)

-- whatever number there is, it belongs to a domain of a machine, or to a file, or it is no clock's
pub data Kept (c : Clock) : Type 0 where
  of_machine : (d : ℕ) (m : Machine) → 1 ≤ d → d ≤ 6 → m.0 < machines → clock_of d m ≡ c → what_is c ≡ Some (Domain d m) → Kept c
  of_file : (f : File) → f.0 < files → private_of f ≡ c → what_is c ≡ Some (Private f) → Kept c
  of_nobody : clocks ≤ c.0 → what_is c ≡ None → Kept c

pub kept : (c : Clock) → Kept c
unfolding what_is
kept c = go (ltb c.0 192) (ltb c.0 clocks) refl refl
  where
    named : (k : Clock) → k.0 ≡ c.0 → k ≡ c
    named k e = ap (λ (n : ℕ). record { 0 = n }) e

    go : (a b : Bool) → ltb c.0 192 ≡ a → ltb c.0 clocks ≡ b → Kept c
    go true b e f =
        let l : c.0 < 192 = ltb-true _ _ e in
        let m : Machine = record { 0 = c.0 / 6 } in
        let n : (clock_of (c.0 % 6 + 1) m).0 ≡ 6 * (c.0 / 6) + (c.0 % 6 + 1) - 1 = domain_number (c.0 % 6 + 1) m (omega arith) (omega arith) (omega arith) in
        of_machine (c.0 % 6 + 1) m (omega arith) (omega arith) (omega arith) (named (clock_of (c.0 % 6 + 1) m) (omega arith)) (simp e)
    go false true e f =
        let g : 192 ≤ c.0 = ltb-false _ _ e in
        let l : c.0 < clocks = ltb-true _ _ f in
        let p : File = record { 0 = c.0 - 192 } in
        let n : (private_of p).0 ≡ 192 + (c.0 - 192) = private_number p (omega arith) in
        of_file p (omega arith) (named (private_of p) (omega arith)) (simp (e, f))
    go false false e f = of_nobody (ltb-false _ _ f) (simp (e, f))
