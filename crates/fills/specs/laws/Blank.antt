-- A list that has nothing but zeros from a place on: numbers that are zeros need not be put there. Assumes nothing.
use Rattle.std.specs.Prelude.{◌≡◌, refl, List, [], ◌++◌, ℕ, zero, suc, ◌+◌, ◌-◌, ◌≤◌, ◌<◌, length, take, drop, replicate}
use Rattle.std.proofs.Common.{sym, ap, subst, ◌∙◌, arith, length-append, length-drop, take-append-drop, drop-drop}
use Rattle.std.proofs.lemmas.List.{length-replicate, replicate-append-replicate}
use Rattle.index.specs.Index.{rows}
use Rattle.index.proofs.laws.Put.{Put, put_same, put_row, put_length, put_after}

-- from b on all of l is 0
pub record Blank (l : List ℕ) (b : ℕ) : Type 0 where
  pub rest : ℕ
  pub is : drop b l ≡ replicate rest 0

drop_zeros : (m n : ℕ) → drop {A = ℕ} m (replicate n 0) ≡ replicate (n - m) 0
drop_zeros zero n = let e : n ≡ n - 0 = omega arith in ap (λ (k : ℕ). replicate {A = ℕ} k 0) e
drop_zeros (suc m) zero = let e : 0 ≡ 0 - suc m = omega arith in ap (λ (k : ℕ). replicate {A = ℕ} k 0) e
drop_zeros (suc m) (suc n) = let e : n - m ≡ suc n - suc m = omega arith in drop_zeros m n ∙ ap (λ (k : ℕ). replicate {A = ℕ} k 0) e

pub blank_zeros : (n : ℕ) → Blank (replicate n 0) 0
blank_zeros n = record { rest = n; is = refl }

pub blank_same : {l : List ℕ} {a b : ℕ} → a ≡ b → Blank l a → Blank l b
blank_same {l} e h = subst (Blank l) e h

past : {l : List ℕ} {b : ℕ} (h : Blank l b) (m : ℕ) → drop (b + m) l ≡ replicate (h.rest - m) 0
past {l} {b} h m = sym (drop-drop m b l) ∙ (ap (drop m) h.is ∙ drop_zeros m h.rest)

-- further on too
pub blank_on : {l : List ℕ} {b : ℕ} (m : ℕ) → Blank l b → Blank l (b + m)
blank_on m h = record { rest = h.rest - m; is = past h m }

-- after the numbers that were put it is as it was
pub blank_put : {old new w : List ℕ} {base : ℕ} → Put old base w new → Blank old base → Blank new (base + length w)
blank_put {w = w} p h = record { rest = h.rest - length w; is = put_after p ∙ past h (length w) }

-- zeros are there already
pub put_zeros : {l : List ℕ} {b : ℕ} (n : ℕ) → Blank l b → b + n ≤ length l → Put l b (replicate n 0) l
put_zeros {l} {b} n h f =
    let m : length (drop b l) ≡ h.rest = ap length h.is ∙ length-replicate {A = ℕ} h.rest 0 in
    let c : n + (h.rest - n) ≡ h.rest = omega (arith, length-drop b l) in
    let k : b + n ≡ b + length {A = ℕ} (replicate n 0) = ap (λ (x : ℕ). b + x) (sym (length-replicate {A = ℕ} n 0)) in
    let d : drop b l ≡ replicate n 0 ++ drop (b + length {A = ℕ} (replicate n 0)) l =
    h.is ∙ (ap (λ (x : ℕ). replicate {A = ℕ} x 0) (sym c) ∙ (sym (replicate-append-replicate {A = ℕ} n (h.rest - n) 0)
    ∙ ap (λ (x : List ℕ). replicate n 0 ++ x) (sym (past h n) ∙ ap (λ (x : ℕ). drop x l) k))) in
    record { fits = omega (arith, length-replicate {A = ℕ} n 0); is = sym (take-append-drop b l) ∙ ap (λ (x : List ℕ). take b l ++ x) d }

-- m rows of zeros more
pub put_rest : {old mid : List ℕ} {base : ℕ} (w : ℕ) (f : ℕ → List ℕ) (k m : ℕ)
    → ((j : ℕ) → k ≤ j → j < k + m → f j ≡ replicate w 0)
    → Blank old base → Put old base (rows f k) mid → base + length (rows f (k + m)) ≤ length old → Put old base (rows f (k + m)) mid
unfolding rows
put_rest {old} {mid} w f k zero z h p l = let e : k ≡ k + 0 = omega arith in put_same (ap (rows f) e) p
put_rest {old} {mid} {base} w f k (suc m) z h p l =
    let a : length (rows f (k + suc m)) ≡ length (rows f (k + m)) + length (f (k + m)) =
    (let e : k + suc m ≡ suc (k + m) = omega arith in ap (λ (x : ℕ). length (rows f x)) e ∙ length-append (rows f (k + m)) (f (k + m))) in
    let q : Put old base (rows f (k + m)) mid = put_rest w f k m (λ j c d. z j c (omega arith)) h p (omega arith) in
    let y : f (k + m) ≡ replicate w 0 = z (k + m) (omega arith) (omega arith) in
    let u : length (f (k + m)) ≡ w = ap length y ∙ length-replicate {A = ℕ} w 0 in
    let r : Put mid (base + length (rows f (k + m))) (f (k + m)) mid =
    put_same (sym y) (put_zeros w (blank_put q h) (omega (arith, put_length q))) in
    let s : k + m + 1 ≡ k + suc m = omega arith in
    put_same (ap (rows f) s) (put_row [] f (k + m) q refl r)
