-- Laws of numbers: they go forward, take a byte, depend on no byte past their end but the one that ends them, and are finished by a digit. Assumes nothing.
use Rattle.std.specs.Prelude.{◌≡◌, Bool, ◌||◌, [], ◌∷◌, ℕ, ◌+◌, ◌≤◌, ◌<◌, eqb}
use Rattle.std.proofs.Math.Path.{refl}
use Rattle.std.proofs.Common.{sym, ap, ◌∙◌, le_trans, eq-eqb, ne_eqb, eqb-true}
use Rattle.std.proofs.Math.Bool.{true, false}
use native.Mathlib.Omega.{arith}
use Rattle.std.proofs.Math.Nat.{le_refl}
use Rattle.std.proofs.Math.ListN.{length}
use Rattle.std.proofs.lemmas.Bool.{eqb-false}
use Rattle.text.specs.Reading.{Text, Out, done, bad, deep, Reader, next, pick, peek, run, part}
use Rattle.text.specs.Class.{class_of, whitespace, digit}
use Rattle.text.specs.Numbers.{digits, minus, sign, int, frac, exp, rest, written, number}
use Rattle.text.specs.laws.Peek.{peek_in, kind_in, run_step, run_stop, run_ge, run_le, digit_end}
use Rattle.text.specs.laws.Readers.{at, Agree, below, Below, Goes, only_byte, stop, Forward, Strict, Local, Firm, Ends, Bounded, Past, past, wrong, pick_past, pick_past_if, next_past, past_from, past_strict, past_forward, past_deep, at_pick, at_next, at_done, at_done_le, at_bad, done_of, done_at, bad_at, done_bad, bad_done, next_inv, next_was, next_wrong, next_bad_case, next_le, next_local, pick_case, pick_true, pick_false, pick_le, pick_local, reached, repeated}
use Rattle.text.specs.laws.Runs.{run_local, run_same, part_same, stop_not, stop_digit}

-- a byte that may stand at i or not
abbrev maybe : (ℕ → Bool) → Text → ℕ → ℕ
maybe test s i = pick (test (peek s i)) (i + 1) i

module _ (test : ℕ → Bool) where
  maybe_ge : (s : Text) (i : ℕ) → i ≤ maybe test s i
  unfolding pick
  maybe_ge s i = go (test (peek s i))
    where
      go : (b : Bool) → i ≤ pick b (i + 1) i
      go true = omega arith
      go false = le_refl i

  maybe_le : test 256 ≡ false → (s : Text) (i : ℕ) → i ≤ length s → maybe test s i ≤ length s
  unfolding pick
  maybe_le end s i h = go (test (peek s i)) refl
    where
      go : (b : Bool) → test (peek s i) ≡ b → pick b (i + 1) i ≤ length s
      go true e = omega (arith, kind_in test end s i e)
      go false e = h

  maybe_local : (s t : Text) (i : ℕ) → peek t i ≡ peek s i → maybe test t i ≡ maybe test s i
  maybe_local s t i e = ap (λ (b : ℕ). pick (test b) (i + 1) i) e

  -- the same bytes before p, and none such at p
  maybe_to : (s t : Text) (i : ℕ) {p : ℕ} → maybe test s i ≡ p → Below s t p → test (peek t p) ≡ false → maybe test t i ≡ p
  maybe_to s t i {p} e b n =
      pick_case (test (peek s i)) (i + 1) i e
      (λ h q. pick_true _ _ (ap test (sym (b.same i (omega arith))) ∙ h) ∙ q)
      (λ h q. pick_false _ _ (ap (λ (k : ℕ). test (peek t k)) q ∙ n) ∙ q)

abbrev is_minus : ℕ → Bool
is_minus b = eqb b 45

abbrev is_sign : ℕ → Bool
is_sign b = eqb b 45 || eqb b 43

abbrev is_e : ℕ → Bool
is_e b = eqb b 101 || eqb b 69

minus_ge : (s : Text) (i : ℕ) → i ≤ minus s i
unfolding minus
minus_ge s i = maybe_ge is_minus s i

sign_ge : (s : Text) (i : ℕ) → i ≤ sign s i
unfolding sign
sign_ge s i = maybe_ge is_sign s i

-- digits
digits_case : {C : Type 0} (s : Text) (i : ℕ) {z : Out (Unit {0})} → digits s i ≡ z → (digit (peek s i) ≡ true → done tt (run digit s i) ≡ z → C) → (digit (peek s i) ≡ false → bad i ≡ z → C) → C
unfolding digits
digits_case s i e f g = pick_case _ _ _ e f g

digits_read : (s : Text) (i : ℕ) → digit (peek s i) ≡ true → digits s i ≡ done tt (run digit s i)
unfolding digits
digits_read s i h = pick_true _ _ h

digits_run : (s : Text) (i : ℕ) → digit (peek s i) ≡ true → i < run digit s i
digits_run s i h = omega (arith, run_step digit digit_end s i h, run_ge digit s (i + 1))

digits_past : (s : Text) (i : ℕ) → Past i (digits s i)
unfolding digits
digits_past s i = pick_past_if _ (λ h. past (digits_run s i h)) (λ _. wrong (le_refl i))

digits_local : Local digits
unfolding digits at
digits_local s t i w =
    let p : peek t i ≡ peek s i = sym (w.same _ (past_forward (digits_past s i))) in
    pick_local _ _ _ _ _ _ (ap digit p) (λ v. ap (done tt) (run_local digit digit_end s t i v)) (λ _. refl) w

digits_firm : Firm digits
digits_firm s t i u j e b st =
    digits_case s i e
    (λ h d.
    let q : run digit s i ≡ j = done_at d in
    let l : i < j = omega (arith, digits_run s i h) in
    let r : run digit t i ≡ run digit s i = run_same digit digit_end s t i b (omega arith) (ap (λ (k : ℕ). digit (peek t k)) q ∙ stop_digit _ st) in
    digits_read t i (ap digit (sym (b.same i l)) ∙ h) ∙ ap (done tt) (r ∙ q))
    (λ _ d. absurd (bad_done d))

digits_bounded : Bounded digits
unfolding digits at
digits_bounded s i h = pick_le _ _ _ (length s) (λ _. run_le digit digit_end s i h) (λ _. h)

digits_in : (s : Text) (i : ℕ) {u : Unit {0}} {j : ℕ} → digits s i ≡ done u j → j ≤ length s
digits_in s i {u} {j} e =
    digits_case s i e
    (λ h d.
    let q : run digit s i ≡ j = done_at d in
    let l : i < length s = kind_in digit digit_end s i h in
    omega (arith, run_le digit digit_end s i (omega arith)))
    (λ _ d. absurd (bad_done d))

digits_bad : (s : Text) (i : ℕ) {p : ℕ} → digits s i ≡ bad p → i ≡ p
digits_bad s i e = digits_case s i e (λ _ d. absurd (done_bad d)) (λ _ d. bad_at d)

digit_zero : digit 48 ≡ true
unfolding digit class_of pick
digit_zero = refl

-- a zero, where no digit follows
digits_zero : (t : Text) (p : ℕ) → peek t p ≡ 48 → stop (peek t (p + 1)) ≡ true → digits t p ≡ done tt (p + 1)
digits_zero t p h st =
    let d : digit (peek t p) ≡ true = ap digit h ∙ digit_zero in
    digits_read t p d ∙ ap (done tt) (run_step digit digit_end t p d ∙ run_stop digit digit_end t (p + 1) (stop_digit _ st))

-- the whole part
int_past : (s : Text) (i : ℕ) → Past i (int s i)
unfolding int
int_past s i = pick_past _ (past {j = i + 1} (omega arith)) (digits_past s i)

int_local : Local int
unfolding int
int_local s t i w =
    let p : peek t i ≡ peek s i = sym (w.same _ (past_forward (int_past s i))) in
    pick_local _ _ _ _ _ _ (ap (λ (b : ℕ). eqb b 48) p) (λ _. refl) (digits_local s t i) w

int_firm : Firm int
unfolding int
int_firm s t i u j e b st =
    let l : i < j = past_strict (int_past s i) e in
    pick_case _ _ _ e
    (λ h d. pick_true _ _ (ap (λ (c : ℕ). eqb c 48) (sym (b.same i l)) ∙ h) ∙ d)
    (λ h d. pick_false _ _ (ap (λ (c : ℕ). eqb c 48) (sym (b.same i l)) ∙ h) ∙ digits_firm s t i u j d b st)

int_bounded : Bounded int
unfolding int at
int_bounded s i h =
    pick_le _ _ _ (length s)
    (λ e. omega (arith, peek_in s i (omega (arith, eqb-true (peek s i) 48 e))))
    (λ _. digits_bounded s i h)

int_in : (s : Text) (i : ℕ) {u : Unit {0}} {j : ℕ} → int s i ≡ done u j → j ≤ length s
unfolding int
int_in s i {u} {j} e =
    pick_case _ _ _ e
    (λ h d. let q : i + 1 ≡ j = done_at d in omega (arith, peek_in s i (omega (arith, eqb-true (peek s i) 48 h))))
    (λ _ d. digits_in s i d)

int_bad : (s : Text) (i : ℕ) {p : ℕ} → int s i ≡ bad p → i ≡ p
unfolding int
int_bad s i e = pick_case _ _ _ e (λ _ d. absurd (done_bad d)) (λ _ d. digits_bad s i d)

int_zero : (t : Text) (p : ℕ) → peek t p ≡ 48 → int t p ≡ done tt (p + 1)
unfolding int
int_zero t p h = pick_true _ _ (eq-eqb _ _ h)

-- the fraction
frac_past : (s : Text) (i k : ℕ) → i < k → Past i (frac s k)
unfolding frac
frac_past s i k h = pick_past _ (past_from (omega arith) (digits_past s (k + 1))) (past h)

frac_forward : Forward frac
unfolding frac at
frac_forward s i =
    let h : i ≤ at (digits s (i + 1)) = omega (arith, past_forward (digits_past s (i + 1))) in
    at_pick _ _ _ i h (le_refl i)

frac_local : Local frac
unfolding frac
frac_local s t i w =
    let p : peek t i ≡ peek s i = sym (w.same _ (frac_forward s i)) in
    pick_local _ _ _ _ _ _ (ap (λ (b : ℕ). eqb b 46) p) (digits_local s t (i + 1)) (λ _. refl) w

-- nothing, where no point stands
frac_none : (t : Text) (i : ℕ) → (peek t i ≡ 46 → ⊥) → frac t i ≡ done tt i
unfolding frac
frac_none t i h = pick_false _ _ (ne_eqb _ _ h)

frac_some : (t : Text) (i : ℕ) → peek t i ≡ 46 → frac t i ≡ digits t (i + 1)
unfolding frac
frac_some t i h = pick_true _ _ (eq-eqb _ _ h)

frac_case : {C : Type 0} (s : Text) (i : ℕ) {z : Out (Unit {0})} → frac s i ≡ z → (peek s i ≡ 46 → digits s (i + 1) ≡ z → C) → ((peek s i ≡ 46 → ⊥) → done tt i ≡ z → C) → C
unfolding frac
frac_case s i e f g = pick_case _ _ _ e (λ h d. f (eqb-true _ _ h) d) (λ h d. g (eqb-false _ _ h) d)

stop_point : stop 46 ≡ false
unfolding stop whitespace class_of pick
stop_point = refl

frac_stop : (t : Text) (i : ℕ) → stop (peek t i) ≡ true → frac t i ≡ done tt i
frac_stop t i h = frac_none t i (stop_not h stop_point)

frac_firm : Firm frac
frac_firm s t i u j e b st =
    frac_case s i e
    (λ h d.
    let l : i + 1 < j = past_strict (digits_past s (i + 1)) d in
    frac_some t i (sym (b.same i (omega arith)) ∙ h) ∙ digits_firm s t (i + 1) u j d b st)
    (λ _ d. let q : i ≡ j = done_at d in frac_stop t i (ap (λ (k : ℕ). stop (peek t k)) q ∙ st) ∙ d)

frac_bounded : Bounded frac
unfolding frac at
frac_bounded s i h =
    pick_le _ _ _ (length s)
    (λ e. let l : i < length s = peek_in s i (omega (arith, eqb-true (peek s i) 46 e)) in digits_bounded s (i + 1) (omega arith))
    (λ _. h)

-- the exponent
exp_past : (s : Text) (i k : ℕ) → i < k → Past i (exp s k)
unfolding exp
exp_past s i k h = pick_past _ (past_from (omega (arith, sign_ge s (k + 1))) (digits_past s (sign s (k + 1)))) (past h)

exp_sign : (s : Text) (i : ℕ) → i + 1 ≤ at (digits s (sign s (i + 1)))
exp_sign s i = omega (arith, sign_ge s (i + 1), past_forward (digits_past s (sign s (i + 1))))

exp_forward : Forward exp
unfolding exp at
exp_forward s i =
    let h : i ≤ at (digits s (sign s (i + 1))) = omega (arith, exp_sign s i) in
    at_pick _ _ _ i h (le_refl i)

exp_local : Local exp
unfolding exp sign
exp_local s t i w =
    let p : peek t i ≡ peek s i = sym (w.same _ (exp_forward s i)) in
    pick_local _ _ _ _ _ _ (ap is_e p)
    (λ v.
    let q : sign t (i + 1) ≡ sign s (i + 1) = maybe_local is_sign s t (i + 1) (sym (v.same (i + 1) (exp_sign s i))) in
    ap (digits t) q ∙ digits_local s t (sign s (i + 1)) v)
    (λ _. refl) w

exp_none : (t : Text) (i : ℕ) → is_e (peek t i) ≡ false → exp t i ≡ done tt i
unfolding exp
exp_none t i h = pick_false _ _ h

exp_some : (t : Text) (i : ℕ) → is_e (peek t i) ≡ true → exp t i ≡ digits t (sign t (i + 1))
unfolding exp
exp_some t i h = pick_true _ _ h

exp_case : {C : Type 0} (s : Text) (i : ℕ) {z : Out (Unit {0})} → exp s i ≡ z → (is_e (peek s i) ≡ true → digits s (sign s (i + 1)) ≡ z → C) → (is_e (peek s i) ≡ false → done tt i ≡ z → C) → C
unfolding exp
exp_case s i e f g = pick_case _ _ _ e f g

stop_e : (b : ℕ) → stop b ≡ true → is_e b ≡ false
unfolding stop whitespace class_of pick
stop_e b h = go (stop_not {x = 101} h refl) (stop_not {x = 69} h refl)
  where
    go : (b ≡ 101 → ⊥) → (b ≡ 69 → ⊥) → is_e b ≡ false
    go m n = rw (ne_eqb b 101 m, ne_eqb b 69 n)

exp_stop : (t : Text) (i : ℕ) → stop (peek t i) ≡ true → exp t i ≡ done tt i
exp_stop t i h = exp_none t i (stop_e _ h)

exp_firm : Firm exp
unfolding sign
exp_firm s t i u j e b st =
    exp_case s i e
    (λ h d.
    let l : sign s (i + 1) < j = past_strict (digits_past s (sign s (i + 1))) d in
    let g : i + 1 ≤ sign s (i + 1) = sign_ge s (i + 1) in
    let q : sign t (i + 1) ≡ sign s (i + 1) = maybe_local is_sign s t (i + 1) (sym (b.same (i + 1) (omega arith))) in
    exp_some t i (ap is_e (sym (b.same i (omega arith))) ∙ h) ∙ ap (digits t) q ∙ digits_firm s t (sign s (i + 1)) u j d b st)
    (λ _ d. let q : i ≡ j = done_at d in exp_stop t i (ap (λ (k : ℕ). stop (peek t k)) q ∙ st) ∙ d)

exp_bounded : Bounded exp
unfolding exp sign at
exp_bounded s i h =
    pick_le _ _ _ (length s)
    (λ e. let l : i < length s = kind_in is_e refl s i e in digits_bounded s (sign s (i + 1)) (maybe_le is_sign refl s (i + 1) (omega arith)))
    (λ _. h)

-- what follows the whole part
rest_past : (s : Text) (u : Unit {0}) (i j : ℕ) → i < j → Past i (rest s u j)
unfolding rest
rest_past s u i j h = next_past (frac_past s i j h) (λ w k l. exp_past s i k l)

rest_onward : (s : Text) (u : Unit {0}) (j : ℕ) → j ≤ at (rest s u j)
unfolding rest
rest_onward s u j = at_next _ _ j (frac_forward s j) (λ w k l. le_trans l (exp_forward s k))

rest_local : (s t : Text) (u : Unit {0}) (j : ℕ) → Agree s t (at (rest s u j)) → rest t u j ≡ rest s u j
unfolding rest
rest_local s t u j w = next_local _ _ _ _ (frac_local s t j) (λ x k. exp_forward s k) (λ x k. exp_local s t k) w

rest_firm : (s t : Text) (u v : Unit {0}) (i j : ℕ) → rest s u i ≡ done v j → Below s t j → stop (peek t j) ≡ true → rest t u i ≡ done v j
unfolding rest
rest_firm s t u v i j e b st =
    let w = next_inv (frac s i) (λ x k. exp s k) e in
    let l : w.1 ≤ j = at_done (exp_forward s w.1) w.3 in
    next_was _ (reached frac frac_local frac_firm s t i w.2 l b st) ∙ exp_firm s t w.1 v j w.3 b st

rest_stop : (t : Text) (u : Unit {0}) (i : ℕ) → stop (peek t i) ≡ true → rest t u i ≡ done tt i
unfolding rest
rest_stop t u i h = next_was _ (frac_stop t i h) ∙ exp_stop t i h

rest_bounded : (s : Text) (u : Unit {0}) (j : ℕ) → j ≤ length s → at (rest s u j) ≤ length s
unfolding rest
rest_bounded s u j h = next_le _ _ (length s) (frac_bounded s j h) (λ w k l. exp_bounded s k l)

-- the number without its characters
abbrev plain : Reader (Unit {0})
plain s i = next (int s (minus s i)) (rest s)

plain_past : (s : Text) (i : ℕ) → Past i (plain s i)
plain_past s i = next_past (past_from (minus_ge s i) (int_past s (minus s i))) (λ u j h. rest_past s u i j h)

plain_local : Local plain
unfolding minus
plain_local s t i w =
    let q : minus t i ≡ minus s i = maybe_local is_minus s t i (sym (w.same i (past_forward (plain_past s i)))) in
    rw q (next_local _ _ _ _ (int_local s t (minus s i)) (rest_onward s) (rest_local s t) w)

plain_firm : Firm plain
unfolding minus
plain_firm s t i v j e b st =
    let w = next_inv (int s (minus s i)) (rest s) e in
    let l : w.1 ≤ j = at_done (rest_onward s w.0 w.1) w.3 in
    let q : minus t i ≡ minus s i = maybe_local is_minus s t i (sym (b.same i (past_strict (plain_past s i) e))) in
    next_was _ (ap (int t) q ∙ reached int int_local int_firm s t (minus s i) w.2 l b st) ∙ rest_firm s t w.0 v w.1 j w.3 b st

plain_in : (s : Text) (i : ℕ) {u : Unit {0}} {j : ℕ} → plain s i ≡ done u j → j ≤ length s
plain_in s i {u} {j} e =
    let w = next_inv (int s (minus s i)) (rest s) e in
    at_done_le (rest_bounded s w.0 w.1 (int_in s (minus s i) w.2)) w.3

plain_bounded : Bounded plain
unfolding minus
plain_bounded s i h = next_le _ _ (length s) (int_bounded s (minus s i) (maybe_le is_minus refl s i h)) (λ u j l. rest_bounded s u j l)

-- where it goes wrong, a zero finishes it
plain_ends : (s : Text) (i p : ℕ) → plain s i ≡ bad p → (t : Text) → Goes s p (48 ∷ []) t → stop (peek t (p + 1)) ≡ true → plain t i ≡ done tt (p + 1)
unfolding rest minus sign
plain_ends s i p e t g st =
    let z : peek t p ≡ 48 = only_byte 48 [] g in
    next_bad_case (int s (minus s i)) (rest s) e
    (λ d.
    let q : minus s i ≡ p = int_bad s (minus s i) d in
    let m : minus t i ≡ p = maybe_to is_minus s t i q g.low (ap is_minus z) in
    next_was (rest t) (ap (int t) m ∙ int_zero t p z) ∙ rest_stop t tt (p + 1) st)
    (λ u j d f.
    let l : j ≤ p = at_bad (rest_onward s u j) f in
    let i1 : i < j = past_strict (past_from (minus_ge s i) (int_past s (minus s i))) d in
    let m : minus t i ≡ minus s i = maybe_local is_minus s t i (sym (g.low.same i (omega arith))) in
    next_bad_case (frac s j) (λ x k. exp s k) f
    (λ h.
    frac_case s j h
    (λ c y.
    let q : j + 1 ≡ p = digits_bad s (j + 1) y in
    next_was (rest t) (ap (int t) m ∙ repeated int int_local s t (minus s i) d (omega arith) g.low)
    ∙ next_was (λ x k. exp t k) (frac_some t j (sym (g.low.same j (omega arith)) ∙ c) ∙ ap (digits t) q ∙ digits_zero t p z st)
    ∙ exp_stop t (p + 1) st)
    (λ _ y. absurd (done_bad y)))
    (λ x k h y.
    exp_case s k y
    (λ c v.
    let q : sign s (k + 1) ≡ p = digits_bad s (sign s (k + 1)) v in
    let o : k + 1 ≤ sign s (k + 1) = sign_ge s (k + 1) in
    let jk : j ≤ k = at_done (frac_forward s j) h in
    let r : sign t (k + 1) ≡ p = maybe_to is_sign s t (k + 1) q g.low (ap is_sign z) in
    next_was (rest t) (ap (int t) m ∙ repeated int int_local s t (minus s i) d (omega arith) g.low)
    ∙ next_was (λ x k. exp t k) (repeated frac frac_local s t j h (omega arith) g.low)
    ∙ exp_some t k (ap is_e (sym (g.low.same k (omega arith))) ∙ c) ∙ ap (digits t) r ∙ digits_zero t p z st)
    (λ _ v. absurd (done_bad v))))

-- a number
pub number_past : (s : Text) (i : ℕ) → Past i (number s i)
unfolding number written
number_past s i = next_past (plain_past s i) (λ u j h. past h)

pub number_forward : Forward number
number_forward s i = past_forward (number_past s i)

pub number_strict : Strict number
number_strict s i a j e = past_strict (number_past s i) e

-- it is read in t as in s where what `plain` reads is
written_same : (s t : Text) (i : ℕ) {u : Unit {0}} {j : ℕ} → Below s t j → plain s i ≡ done u j → plain t i ≡ done u j → number t i ≡ done (part s i j) j
unfolding number written
written_same s t i {u} {j} b e f =
    next_was (written t i) f ∙ ap (λ (x : Text). done x j) (sym (part_same s t i j b (plain_in s i e) (plain_in t i f)))

number_read : (s : Text) (i : ℕ) {u : Unit {0}} {j : ℕ} → plain s i ≡ done u j → number s i ≡ done (part s i j) j
unfolding number written
number_read s i e = next_was (written s i) e

number_wrong : (s : Text) (i : ℕ) {p : ℕ} → plain s i ≡ bad p → number s i ≡ bad p
unfolding number
number_wrong s i e = next_wrong (written s i) e

-- the characters of a number stand where it does
pub number_done : (s : Text) (i : ℕ) {a : Text} {j : ℕ} → number s i ≡ done a j → (a ≡ part s i j) × (plain s i ≡ done tt j)
unfolding number written
number_done s i {a} {j} e =
    let w = next_inv (plain s i) (written s i) e in
    let q : w.1 ≡ j = done_at w.3 in
    let r : part s i w.1 ≡ a = done_of w.3 in
    (sym r ∙ ap (part s i) q, w.2 ∙ ap (done tt) q)

pub number_bad : (s : Text) (i : ℕ) {p : ℕ} → number s i ≡ bad p → plain s i ≡ bad p
unfolding number written
number_bad s i e = next_bad_case (plain s i) (written s i) e (λ h. h) (λ _ _ _ h. absurd (done_bad h))

-- the position is the one that `plain` ends with
written_at : (s : Text) (i : ℕ) (o : Out (Unit {0})) → at (next o (written s i)) ≡ at o
unfolding next at written
written_at s i (done u j) = refl
written_at s i (bad p) = refl
written_at s i (deep p) = refl

plain_at : (s : Text) (i : ℕ) → at (number s i) ≡ at (plain s i)
unfolding number
plain_at s i = written_at s i (plain s i)

pub number_local : Local number
unfolding at
number_local s t i w = go (plain s i) refl (plain_local s t i (below (omega (arith, plain_at s i)) w))
  where
    go : (o : Out (Unit {0})) → plain s i ≡ o → plain t i ≡ plain s i → number t i ≡ number s i
    go (done u j) e f =
        let q : at (number s i) ≡ j = ap at (number_read s i e) in
        let b : Below s t j = record { same = λ k l. w.same k (omega arith) } in
        written_same s t i b e (f ∙ e) ∙ sym (number_read s i e)
    go (bad p) e f = number_wrong t i (f ∙ e) ∙ sym (number_wrong s i e)
    go (deep p) e f = absurd (past_deep (plain_past s i) e)

pub number_firm : Firm number
number_firm s t i a j e b st =
    let w = number_done s i e in
    written_same s t i b w.1 (plain_firm s t i tt j w.1 b st) ∙ ap (λ (x : Text). done x j) (sym w.0)

pub number_ends : Ends number
number_ends s i p e = (
  48 ∷ [],
  λ t g st. (part t i (p + 1), number_read t i (plain_ends s i p (number_bad s i e) t g st)),
)

pub number_bounded : Bounded number
unfolding number written at
number_bounded s i h = next_le _ _ (length s) (plain_bounded s i h) (λ u j l. l)

-- a number starts with a digit or a minus
pub number_none : (s : Text) (i : ℕ) → digit (peek s i) ≡ false → (peek s i ≡ 45 → ⊥) → number s i ≡ bad i
unfolding number minus int digits
number_none s i n m =
    let q : minus s i ≡ i = pick_false _ _ (ne_eqb _ _ m) in
    let z : (peek s i ≡ 48 → ⊥) = λ (h : peek s i ≡ 48). (let y : ◌≡◌ {A = ℕ} 0 1 = cc (ap digit h, digit_zero) in omega arith) in
    number_wrong s i (next_wrong (rest s) (ap (int s) q ∙ pick_false _ _ (ne_eqb _ _ z) ∙ pick_false _ _ n))
