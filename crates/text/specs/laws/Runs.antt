-- Runs of bytes of a kind, whitespace and parts in texts that agree; and the bytes that can follow a value. Assumes nothing.
use Rattle.std.specs.Prelude.{◌≡◌, refl, Bool, true, false, ◌||◌, ℕ, zero, suc, ◌+◌, ◌-◌, ◌≤◌, ◌<◌, length, take, drop, eqb}
use Rattle.std.proofs.Common.{sym, ap, ◌∙◌, ⊎_elim, arith, eq-or-lt_of_le, le_refl, length-drop, length-take-le, get_or-take, get_or-drop, ext_get_or, eqb-true}
use Rattle.text.specs.Reading.{Text, pick, peek, run, part}
use Rattle.text.specs.Class.{class_of, whitespace, skip, digit}
use Rattle.text.specs.laws.Peek.{run_ge, run_step, run_stop, run_end, skip_ge, white_end}
use Rattle.text.specs.laws.Readers.{Agree, Below, stop}

module _ (kind : ℕ → Bool) (end : kind 256 ≡ false) where
  run_of : (s : Text) (d i : ℕ) → d + i < run kind s i → kind (peek s (d + i)) ≡ true
  run_of s zero i h = go (kind (peek s i)) refl
    where
      go : (q : Bool) → kind (peek s i) ≡ q → kind (peek s (0 + i)) ≡ true
      go true e = let z : 0 + i ≡ i = omega arith in ap (λ (k : ℕ). kind (peek s k)) z ∙ e
      go false e = absurd (omega (arith, run_stop kind end s i e))
  run_of s (suc d) i h = go (kind (peek s i)) refl (run_of s d (i + 1))
    where
      go : (q : Bool) → kind (peek s i) ≡ q → (d + (i + 1) < run kind s (i + 1) → kind (peek s (d + (i + 1))) ≡ true) → kind (peek s (suc d + i)) ≡ true
      go true e ih =
          let z : suc d + i ≡ d + (i + 1) = omega arith in
          ap (λ (k : ℕ). kind (peek s k)) z ∙ ih (omega (arith, run_step kind end s i e))
      go false e ih = absurd (omega (arith, run_stop kind end s i e))

  -- each byte of a run is of the kind
  pub run_inside : (s : Text) (i k : ℕ) → i ≤ k → k < run kind s i → kind (peek s k) ≡ true
  run_inside s i k h l =
      let z : (k - i) + i ≡ k = omega arith in
      ap (λ (n : ℕ). kind (peek s n)) (sym z) ∙ run_of s (k - i) i (omega arith)

  to_by : (t : Text) (d i : ℕ) → ((k : ℕ) → i ≤ k → k < d + i → kind (peek t k) ≡ true) → kind (peek t (d + i)) ≡ false → run kind t i ≡ d + i
  to_by t zero i h n =
      let z : 0 + i ≡ i = omega arith in
      run_stop kind end t i (ap (λ (k : ℕ). kind (peek t k)) (sym z) ∙ n) ∙ sym z
  to_by t (suc d) i h n =
      let z : d + (i + 1) ≡ suc d + i = omega arith in
      run_step kind end t i (h i (omega arith) (omega arith)) ∙ to_by t d (i + 1) (λ k a b. h k (omega arith) (omega arith)) (ap (λ (k : ℕ). kind (peek t k)) z ∙ n) ∙ z

  -- a run is as long in another text that has its bytes and then one of another kind
  pub run_same : (s t : Text) (i : ℕ) {p : ℕ} → Below s t p → run kind s i ≤ p → kind (peek t (run kind s i)) ≡ false → run kind t i ≡ run kind s i
  run_same s t i b l n =
      let z : (run kind s i - i) + i ≡ run kind s i = omega (arith, run_ge kind s i) in
      to_by t (run kind s i - i) i (λ k g h. ap kind (sym (b.same k (omega arith))) ∙ run_inside s i k g (omega arith)) (ap (λ (k : ℕ). kind (peek t k)) z ∙ n) ∙ z

  pub run_below : (s t : Text) (i : ℕ) {p : ℕ} → Below s t p → run kind s i < p → run kind t i ≡ run kind s i
  run_below s t i b l = run_same s t i b (omega arith) (ap kind (sym (b.same _ l)) ∙ run_end kind end s i)

  pub run_local : (s t : Text) (i : ℕ) → Agree s t (run kind s i) → run kind t i ≡ run kind s i
  run_local s t i g = run_same s t i {p = run kind s i} (record { same = λ k l. g.same k (omega arith) }) (le_refl _) (ap kind (sym (g.same _ (le_refl _))) ∙ run_end kind end s i)

-- the same of whitespace
pub skipped : (s : Text) (i k : ℕ) → i ≤ k → k < skip s i → whitespace (peek s k) ≡ true
unfolding skip
skipped s i k h l = run_inside whitespace white_end s i k h l

pub skip_same : (s t : Text) (i : ℕ) {p : ℕ} → Below s t p → skip s i ≤ p → whitespace (peek t (skip s i)) ≡ false → skip t i ≡ skip s i
unfolding skip
skip_same s t i b l n = run_same whitespace white_end s t i b l n

pub skip_below : (s t : Text) (i : ℕ) {p : ℕ} → Below s t p → skip s i < p → skip t i ≡ skip s i
unfolding skip
skip_below s t i b l = run_below whitespace white_end s t i b l

pub skip_local : (s t : Text) (i : ℕ) → Agree s t (skip s i) → skip t i ≡ skip s i
unfolding skip
skip_local s t i g = run_local whitespace white_end s t i g

-- texts that agree below j, and go as far, have the same parts up to j
pub part_same : (s t : Text) (i j : ℕ) → Below s t j → j ≤ length s → j ≤ length t → part s i j ≡ part t i j
unfolding part peek
part_same s t i j b l m =
    let ls : length (take (j - i) (drop i s)) ≡ j - i = length-take-le (j - i) (drop i s) (omega (arith, length-drop i s)) in
    let lt : length (take (j - i) (drop i t)) ≡ j - i = length-take-le (j - i) (drop i t) (omega (arith, length-drop i t)) in
    ext_get_or 256 _ _ (ls ∙ sym lt)
    (λ k h.
    let q : k < j - i = omega arith in
    get_or-take (j - i) (drop i s) k 256 q ∙ get_or-drop i s k 256 ∙ b.same (i + k) (omega arith) ∙ sym (get_or-drop i t k 256) ∙ sym (get_or-take (j - i) (drop i t) k 256 q))

-- the cases of `stop`
pub or_case : {C : Type 0} (x y : Bool) → (x || y) ≡ true → (x ≡ true → C) → (y ≡ true → C) → C
or_case true y e f g = f refl
or_case false y e f g = g e

pub white_case : {C : Type 0} (b : ℕ) → whitespace b ≡ true → (class_of b ≡ 4 → C) → (class_of b ≡ 1 → C) → C
unfolding whitespace
white_case b e f g = or_case _ _ e (λ h. f (eqb-true _ _ h)) (λ h. g (eqb-true _ _ h))

pub stop_case : {C : Type 0} (b : ℕ) → stop b ≡ true → (whitespace b ≡ true → C) → (b ≡ 44 → C) → (b ≡ 93 → C) → (b ≡ 125 → C) → (b ≡ 256 → C) → C
unfolding stop
stop_case b e w c a o n =
    or_case _ _ e w
    (λ e1. or_case _ _ e1 (λ h. c (eqb-true _ _ h))
    (λ e2. or_case _ _ e2 (λ h. a (eqb-true _ _ h))
    (λ e3. or_case _ _ e3 (λ h. o (eqb-true _ _ h)) (λ h. n (eqb-true _ _ h)))))

pub stop_white : (b : ℕ) → whitespace b ≡ true → stop b ≡ true
unfolding stop
stop_white b e = rw e

pub stop_comma : stop 44 ≡ true
unfolding stop whitespace class_of pick
stop_comma = refl

pub stop_array : stop 93 ≡ true
unfolding stop whitespace class_of pick
stop_array = refl

pub stop_object : stop 125 ≡ true
unfolding stop whitespace class_of pick
stop_object = refl

pub stop_end : stop 256 ≡ true
unfolding stop whitespace class_of pick
stop_end = refl

-- where what follows the whitespace can follow a value, what comes first can
pub stop_skip : (s : Text) (j : ℕ) → stop (peek s (skip s j)) ≡ true → stop (peek s j) ≡ true
stop_skip s j h =
    ⊎_elim
    (λ e. ap (λ (k : ℕ). stop (peek s k)) e ∙ h)
    (λ l. stop_white _ (skipped s j j (le_refl j) l))
    (eq-or-lt_of_le (skip_ge s j))

-- what can follow a value is no byte that cannot
pub stop_not : {b x : ℕ} → stop b ≡ true → stop x ≡ false → b ≡ x → ⊥
stop_not {b} {x} h n e = let z : ◌≡◌ {A = ℕ} 0 1 = cc (ap stop e) in omega arith

-- and no digit
pub stop_digit : (b : ℕ) → stop b ≡ true → digit b ≡ false
unfolding digit class_of pick
stop_digit b h =
    stop_case b h
    (λ w. white_case b w (λ k. by_class 4 k refl) (λ k. by_class 1 k refl))
    (λ e. ap digit e)
    (λ e. ap digit e)
    (λ e. ap digit e)
    (λ e. ap digit e)
  where
    by_class : (k : ℕ) → class_of b ≡ k → (eqb k 5 || eqb k 6) ≡ false → digit b ≡ false
    by_class k e f = ap (λ (c : ℕ). eqb c 5 || eqb c 6) e ∙ f
