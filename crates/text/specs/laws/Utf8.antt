-- The bytes of a character that is not escaped are its code point in UTF-8, and a character's code point is no surrogate. Assumes nothing.
use Rattle.std.specs.Prelude.{◌≡◌, refl, Bool, true, false, ◌&&◌, ◌||◌, ◌⊎◌, List, [], ◌∷◌, ℕ, suc, ◌+◌, ◌*◌, ◌-◌, ◌/◌, ◌%◌, ◌≤◌, ◌<◌, length, get_or, take, drop, leb, ltb, eqb, T}
use Rattle.std.proofs.Common.{sym, ap, ◌∙◌, inl, inr, ⊎_elim, arith, drop-cons, ltb→lt, lit<, eqb-true, leb-true, ltb-true, ltb-false, lt-ltb, le-ltb, le-leb}
use Rattle.std.proofs.Math.Decide.{dec_lt}
use Rattle.std.proofs.lemmas.Bool.{eqb-false}
use Rattle.text.specs.Reading.{Text, done, pick, peek, part}
use Rattle.text.specs.Class.{Range, range, among, class_of}
use Rattle.text.specs.Strings.{hex_of, escape_of, pair_of, quad, low, joined, paired, escape, tail, second, two, three, four, classed, character, utf8}
use Rattle.text.specs.laws.Peek.{peek_in}
use Rattle.text.specs.laws.Bytes.{both}
use Rattle.text.specs.laws.Class.{class_within}
use Rattle.text.specs.laws.ClassTable.{plain_bytes}
use Rattle.text.specs.laws.Runs.{or_case}
use Rattle.text.specs.laws.Readers.{pick_case, done_at, done_of, bad_done, next_inv}

-- a part, byte by byte
part_more : (s : Text) (i j : ℕ) → i < j → i < length s → part s i j ≡ peek s i ∷ part s (i + 1) j
unfolding part peek
part_more s i j h l =
    let q : j - i ≡ suc (j - (i + 1)) = omega arith in
    let r : suc i ≡ i + 1 = omega arith in
    ap (λ (n : ℕ). take n (drop i s)) q ∙ ap (take (suc (j - (i + 1)))) (drop-cons s i 256 l) ∙ ap (λ (k : ℕ). get_or s i 256 ∷ take (j - (i + 1)) (drop k s)) r

pub part_none : (s : Text) (i j : ℕ) → i ≡ j → part s i j ≡ []
unfolding part
part_none s i j h = let q : j - i ≡ 0 = omega arith in ap (λ (n : ℕ). take n (drop i s)) q

-- what the second byte c after the first byte b may be
pub record Second (b c : ℕ) : Type 0 where
  pub least : 128 ≤ c
  pub greatest : c ≤ 191
  pub short : b ≡ 224 → 160 ≤ c
  pub surrogate : b ≡ 237 → c ≤ 159
  pub longer : b ≡ 240 → 144 ≤ c
  pub last : b ≡ 244 → c ≤ 143

both_true : (x y : Bool) → (x && y) ≡ true → (x ≡ true) × (y ≡ true)
both_true true y e = (refl, e)
both_true false y e = let z : ◌≡◌ {A = ℕ} 0 1 = cc in absurd (omega arith)

lower : (b c : ℕ) → pick (eqb b 224) 160 (pick (eqb b 240) 144 128) ≤ c → (128 ≤ c) × (b ≡ 224 → 160 ≤ c) × (b ≡ 240 → 144 ≤ c)
unfolding pick
lower b c h = go (eqb b 224) refl (eqb b 240) refl h
  where
    go : (x : Bool) → eqb b 224 ≡ x → (y : Bool) → eqb b 240 ≡ y → pick x 160 (pick y 144 128) ≤ c → (128 ≤ c) × (b ≡ 224 → 160 ≤ c) × (b ≡ 240 → 144 ≤ c)
    go true e y f l = (omega arith, λ _. l, λ _. omega arith)
    go false e true f l = (omega arith, λ z. absurd (eqb-false b 224 e z), λ _. l)
    go false e false f l = (l, λ z. absurd (eqb-false b 224 e z), λ z. absurd (eqb-false b 240 f z))

upper : (b c : ℕ) → c ≤ pick (eqb b 237) 159 (pick (eqb b 244) 143 191) → (c ≤ 191) × (b ≡ 237 → c ≤ 159) × (b ≡ 244 → c ≤ 143)
unfolding pick
upper b c h = go (eqb b 237) refl (eqb b 244) refl h
  where
    go : (x : Bool) → eqb b 237 ≡ x → (y : Bool) → eqb b 244 ≡ y → c ≤ pick x 159 (pick y 143 191) → (c ≤ 191) × (b ≡ 237 → c ≤ 159) × (b ≡ 244 → c ≤ 143)
    go true e y f l = (omega arith, λ _. l, λ (z : b ≡ 244). absurd (omega (arith, eqb-true b 237 e)))
    go false e true f l = (omega arith, λ z. absurd (eqb-false b 237 e z), λ _. l)
    go false e false f l = (l, λ z. absurd (eqb-false b 237 e z), λ z. absurd (eqb-false b 244 f z))

pub second_of : (b c : ℕ) → second b c ≡ true → Second b c
unfolding second
second_of b c e =
    let w = both_true _ _ e in
    let x = lower b c (leb-true _ _ w.0) in
    let y = upper b c (leb-true _ _ w.1) in
    record { least = x.0; greatest = y.0; short = x.1; surrogate = y.1; longer = x.2; last = y.2 }

tail_of : (c : ℕ) → tail c ≡ true → (128 ≤ c) × (c ≤ 191)
unfolding tail
tail_of c e = let q : c / 64 ≡ 2 = eqb-true (c / 64) 2 e in (omega arith, omega arith)

-- the bytes in UTF-8
utf8_one : (b : ℕ) → b < 128 → utf8 b ≡ b ∷ []
unfolding utf8 pick
utf8_one b h = rw (lt-ltb b 128 h)

cons : {x y : ℕ} {xs ys : Text} → x ≡ y → xs ≡ ys → x ∷ xs ≡ y ∷ ys
cons e f = cc

utf8_two : (b c : ℕ) → 194 ≤ b → b ≤ 223 → 128 ≤ c → c ≤ 191 → utf8 (b % 32 * 64 + c % 64) ≡ b ∷ c ∷ []
unfolding utf8 pick
utf8_two b c h k l m =
    rw (le-ltb (b % 32 * 64 + c % 64) 128 (omega arith), lt-ltb (b % 32 * 64 + c % 64) 2048 (omega arith))
    (cons (omega arith) (cons (omega arith) refl))

-- a number that starts one of these ranges or lies past its start
first_or_lem : (b n : ℕ) → n ≤ b → (b ≡ n) ⊎ (n < b)
first_or_lem b n h = go (dec_lt n b)
  where
    go : Dec (n < b) → (b ≡ n) ⊎ (n < b)
    go (yes l) = inr l
    go (no m) = inl (omega arith)

last_or : (b n : ℕ) → b ≤ n → (b ≡ n) ⊎ (b < n)
last_or b n h = go (dec_lt b n)
  where
    go : Dec (b < n) → (b ≡ n) ⊎ (b < n)
    go (yes l) = inr l
    go (no m) = inl (omega arith)

split : (b n : ℕ) → (b < n) ⊎ (n ≤ b)
split b n = go (dec_lt b n)
  where
    go : Dec (b < n) → (b < n) ⊎ (n ≤ b)
    go (yes l) = inl l
    go (no m) = inr (omega arith)

utf8_three : (b c d : ℕ) → 224 ≤ b → b ≤ 239 → Second b c → 128 ≤ d → d ≤ 191 → utf8 ((b % 16 * 64 + c % 64) * 64 + d % 64) ≡ b ∷ c ∷ d ∷ []
unfolding utf8 pick
utf8_three b c d h k w l m =
    let x : 128 ≤ c = w.least in
    let y : c ≤ 191 = w.greatest in
    let z : 2048 ≤ (b % 16 * 64 + c % 64) * 64 + d % 64 = ⊎_elim (λ (e : b ≡ 224). omega (arith, w.short e)) (λ (e : 224 < b). omega arith) (first_or_lem b 224 h) in
    rw (le-ltb ((b % 16 * 64 + c % 64) * 64 + d % 64) 128 (omega arith), le-ltb ((b % 16 * 64 + c % 64) * 64 + d % 64) 2048 z, lt-ltb ((b % 16 * 64 + c % 64) * 64 + d % 64) 65536 (omega arith))
    (cons (omega arith) (cons (omega arith) (cons (omega arith) refl)))

utf8_four : (b c d e : ℕ) → 240 ≤ b → b ≤ 244 → Second b c → 128 ≤ d → d ≤ 191 → 128 ≤ e → e ≤ 191 → utf8 (((b % 8 * 64 + c % 64) * 64 + d % 64) * 64 + e % 64) ≡ b ∷ c ∷ d ∷ e ∷ []
unfolding utf8 pick
utf8_four b c d e h k w l m p q =
    let x : 128 ≤ c = w.least in
    let y : c ≤ 191 = w.greatest in
    let z : 65536 ≤ ((b % 8 * 64 + c % 64) * 64 + d % 64) * 64 + e % 64 = ⊎_elim (λ (r : b ≡ 240). omega (arith, w.longer r)) (λ (r : 240 < b). omega arith) (first_or_lem b 240 h) in
    rw (le-ltb (((b % 8 * 64 + c % 64) * 64 + d % 64) * 64 + e % 64) 128 (omega arith), le-ltb (((b % 8 * 64 + c % 64) * 64 + d % 64) * 64 + e % 64) 2048 (omega arith), le-ltb (((b % 8 * 64 + c % 64) * 64 + d % 64) * 64 + e % 64) 65536 z)
    (cons (omega arith) (cons (omega arith) (cons (omega arith) (cons (omega arith) refl))))

-- what stands at i, and then the rest
more : (s : Text) (i k j : ℕ) {xs : Text} → k ≡ i + 1 → i < j → peek s i < 256 → part s k j ≡ xs → part s i j ≡ peek s i ∷ xs
more s i k j e h l f = part_more s i j h (peek_in s i l) ∙ ap (λ (n : ℕ). peek s i ∷ part s n j) (sym e) ∙ ap (λ (xs : Text). peek s i ∷ xs) f

two_raw : (s : Text) (i v j : ℕ) → 194 ≤ peek s i → peek s i ≤ 223 → two s i ≡ done v j → utf8 v ≡ part s i j
unfolding two
two_raw s i v j h k e =
    pick_case _ _ _ e
    (λ p d.
    let w = second_of (peek s i) (peek s (i + 1)) p in
    let x : 128 ≤ peek s (i + 1) = w.least in
    let y : peek s (i + 1) ≤ 191 = w.greatest in
    let q : i + 2 ≡ j = done_at d in
    ap utf8 (sym (done_of d)) ∙ utf8_two (peek s i) (peek s (i + 1)) h k x y
    ∙ sym (more s i (i + 1) j refl (omega arith) (omega arith)
    (more s (i + 1) (i + 2) j (omega arith) (omega arith) (omega arith) (part_none s (i + 2) j q))))
    (λ _ d. absurd (bad_done d))

three_raw : (s : Text) (i v j : ℕ) → 224 ≤ peek s i → peek s i ≤ 239 → three s i ≡ done v j → utf8 v ≡ part s i j
unfolding three
three_raw s i v j h k e =
    pick_case _ _ _ e
    (λ p e1.
    pick_case _ _ _ e1
    (λ r d.
    let w = second_of (peek s i) (peek s (i + 1)) p in
    let t = tail_of (peek s (i + 2)) r in
    let x : 128 ≤ peek s (i + 1) = w.least in
    let y : peek s (i + 1) ≤ 191 = w.greatest in
    let q : i + 3 ≡ j = done_at d in
    ap utf8 (sym (done_of d)) ∙ utf8_three (peek s i) (peek s (i + 1)) (peek s (i + 2)) h k w t.0 t.1
    ∙ sym (more s i (i + 1) j refl (omega arith) (omega arith)
    (more s (i + 1) (i + 2) j (omega arith) (omega arith) (omega arith)
    (more s (i + 2) (i + 3) j (omega arith) (omega arith) (omega arith) (part_none s (i + 3) j q)))))
    (λ _ d. absurd (bad_done d)))
    (λ _ d. absurd (bad_done d))

four_raw : (s : Text) (i v j : ℕ) → 240 ≤ peek s i → peek s i ≤ 244 → four s i ≡ done v j → utf8 v ≡ part s i j
unfolding four
four_raw s i v j h k e =
    pick_case _ _ _ e
    (λ p e1.
    pick_case _ _ _ e1
    (λ r e2.
    pick_case _ _ _ e2
    (λ z d.
    let w = second_of (peek s i) (peek s (i + 1)) p in
    let t = tail_of (peek s (i + 2)) r in
    let u = tail_of (peek s (i + 3)) z in
    let x : 128 ≤ peek s (i + 1) = w.least in
    let y : peek s (i + 1) ≤ 191 = w.greatest in
    let q : i + 4 ≡ j = done_at d in
    ap utf8 (sym (done_of d)) ∙ utf8_four (peek s i) (peek s (i + 1)) (peek s (i + 2)) (peek s (i + 3)) h k w t.0 t.1 u.0 u.1
    ∙ sym (more s i (i + 1) j refl (omega arith) (omega arith)
    (more s (i + 1) (i + 2) j (omega arith) (omega arith) (omega arith)
    (more s (i + 2) (i + 3) j (omega arith) (omega arith) (omega arith)
    (more s (i + 3) (i + 4) j (omega arith) (omega arith) (omega arith) (part_none s (i + 4) j q))))))
    (λ _ d. absurd (bad_done d)))
    (λ _ d. absurd (bad_done d)))
    (λ _ d. absurd (bad_done d))

alone : {A : Type 0} → A ⊎ ⊥ → A
alone (inl a) = a
alone (inr n) = absurd n

plain_low : (b : ℕ) → (ltb (class_of b) 4 || ltb 17 (class_of b)) ≡ false → b < 128
plain_low b e =
    let w = neither _ _ e in
    let p : (leb 4 (class_of b) && ltb (class_of b) 18) ≡ true = rw (le-leb 4 (class_of b) (ltb-false (class_of b) 4 w.0), lt-ltb (class_of b) 18 (omega (arith, ltb-false 17 (class_of b) w.1))) in
    or_case (leb 32 b && leb b 33) ((leb 35 b && leb b 91) || (leb 93 b && leb b 127)) (sym (plain_bytes b) ∙ p)
    (λ q. omega (arith, leb-true b 33 (both_true (leb 32 b) (leb b 33) q).1))
    (λ r. or_case (leb 35 b && leb b 91) (leb 93 b && leb b 127) r
    (λ q. omega (arith, leb-true b 91 (both_true (leb 35 b) (leb b 91) q).1))
    (λ q. omega (arith, leb-true b 127 (both_true (leb 93 b) (leb b 127) q).1)))
  where
    neither : (x y : Bool) → (x || y) ≡ false → (x ≡ false) × (y ≡ false)
    neither true y e = let z : ◌≡◌ {A = ℕ} 0 1 = cc in absurd (omega arith)
    neither false y e = (refl, e)

pub character_raw : (s : Text) (i v j : ℕ) → character s i ≡ done v j → (peek s i ≡ 92 → ⊥) → utf8 v ≡ part s i j
unfolding character classed
character_raw s i v j e n =
    pick_case _ _ _ e
    (λ h _. let w : (92 ≤ peek s i) × (peek s i ≤ 92) = alone (class_within 2 (peek s i) (eqb-true _ _ h)) in absurd (n (omega arith)))
    (λ _ e1. pick_case _ _ _ e1
    (λ h d. let w = alone (class_within 18 (peek s i) (eqb-true _ _ h)) in two_raw s i v j w.0 w.1 d)
    (λ _ e2. pick_case _ _ _ e2
    (λ h d. let w = alone (class_within 19 (peek s i) (eqb-true _ _ h)) in three_raw s i v j w.0 w.1 d)
    (λ _ e3. pick_case _ _ _ e3
    (λ h d. let w = alone (class_within 20 (peek s i) (eqb-true _ _ h)) in four_raw s i v j w.0 w.1 d)
    (λ _ e4. pick_case _ _ _ e4
    (λ _ d. absurd (bad_done d))
    (λ h d.
    let l : peek s i < 128 = plain_low (peek s i) h in
    let q : i + 1 ≡ j = done_at d in
    ap utf8 (sym (done_of d)) ∙ utf8_one (peek s i) l ∙ sym (more s i (i + 1) j refl (omega arith) (omega arith) (part_none s (i + 1) j q)))))))

-- a Unicode scalar value: no surrogate, and at most 10FFFF
abbrev pub Scalar : ℕ → Type 0
Scalar v = (v < 55296) ⊎ ((57344 ≤ v) × (v ≤ 1114111))

around : (v : ℕ) → v ≤ 1114111 → (55296 ≤ v → v < 57344 → ⊥) → Scalar v
around v h n = ⊎_elim (λ l. inl l) (λ m. ⊎_elim (λ l. absurd (n m l)) (λ k. inr (k, h)) (split v 57344)) (split v 55296)

two_scalar : (s : Text) (i v j : ℕ) → two s i ≡ done v j → Scalar v
unfolding two
two_scalar s i v j e =
    pick_case _ _ _ e
    (λ _ d. let q : peek s i % 32 * 64 + peek s (i + 1) % 64 ≡ v = done_of d in inl (omega arith))
    (λ _ d. absurd (bad_done d))

three_scalar : (s : Text) (i v j : ℕ) → 224 ≤ peek s i → peek s i ≤ 239 → three s i ≡ done v j → Scalar v
unfolding three
three_scalar s i v j h k e =
    pick_case _ _ _ e
    (λ p e1.
    pick_case _ _ _ e1
    (λ _ d.
    let w = second_of (peek s i) (peek s (i + 1)) p in
    let x : 128 ≤ peek s (i + 1) = w.least in
    let y : peek s (i + 1) ≤ 191 = w.greatest in
    let q : (peek s i % 16 * 64 + peek s (i + 1) % 64) * 64 + peek s (i + 2) % 64 ≡ v = done_of d in
    around v (omega arith)
    (λ (l : 55296 ≤ v) (m : v < 57344).
    let z : peek s i ≡ 237 = omega arith in
    omega (arith, w.surrogate z)))
    (λ _ d. absurd (bad_done d)))
    (λ _ d. absurd (bad_done d))

four_scalar : (s : Text) (i v j : ℕ) → 240 ≤ peek s i → peek s i ≤ 244 → four s i ≡ done v j → Scalar v
unfolding four
four_scalar s i v j h k e =
    pick_case _ _ _ e
    (λ p e1.
    pick_case _ _ _ e1
    (λ _ e2.
    pick_case _ _ _ e2
    (λ _ d.
    let w = second_of (peek s i) (peek s (i + 1)) p in
    let x : 128 ≤ peek s (i + 1) = w.least in
    let y : peek s (i + 1) ≤ 191 = w.greatest in
    let q : ((peek s i % 8 * 64 + peek s (i + 1) % 64) * 64 + peek s (i + 2) % 64) * 64 + peek s (i + 3) % 64 ≡ v = done_of d in
    let z : 65536 ≤ v = ⊎_elim (λ (r : peek s i ≡ 240). omega (arith, w.longer r)) (λ (r : 240 < peek s i). omega arith) (first_or_lem (peek s i) 240 h) in
    let u : v ≤ 1114111 = ⊎_elim (λ (r : peek s i ≡ 244). omega (arith, w.last r)) (λ (r : peek s i < 244). omega arith) (last_or (peek s i) 244 k) in
    inr (omega arith, u))
    (λ _ d. absurd (bad_done d)))
    (λ _ d. absurd (bad_done d)))
    (λ _ d. absurd (bad_done d))

-- two digits after v, four digits
pair_value : (v : ℕ) (s : Text) (i : ℕ) {x j : ℕ} → pair_of v s i ≡ done x j → (v * 256 ≤ x) × (x < v * 256 + 256)
unfolding pair_of
pair_value v s i {x} {j} e =
    pick_case _ _ _ e
    (λ a e1.
    pick_case _ _ _ e1
    (λ b d.
    let p : hex_of (peek s i) < 16 = ltb-true _ _ a in
    let q : hex_of (peek s (i + 1)) < 16 = ltb-true _ _ b in
    let r : (v * 16 + hex_of (peek s i)) * 16 + hex_of (peek s (i + 1)) ≡ x = done_of d in
    (omega arith, omega arith))
    (λ _ d. absurd (bad_done d)))
    (λ _ d. absurd (bad_done d))

bound : (a b : ℕ) → b < pick (eqb a 13) 12 16 → (b < 16) × (a ≡ 13 → b < 12)
unfolding pick
bound a b h = go (eqb a 13) refl h
  where
    go : (t : Bool) → eqb a 13 ≡ t → b < pick t 12 16 → (b < 16) × (a ≡ 13 → b < 12)
    go true e l = (omega arith, λ _. l)
    go false e l = (l, λ z. absurd (eqb-false a 13 e z))

pub quad_value : (s : Text) (i : ℕ) {v j : ℕ} → quad s i ≡ done v j → (v < 65536) × (v / 1024 ≡ 55 → ⊥)
unfolding quad
quad_value s i {v} {j} e =
    pick_case _ _ _ e
    (λ a e1.
    pick_case _ _ _ e1
    (λ b d.
    let p : hex_of (peek s i) < 16 = ltb-true _ _ a in
    let w = pair_value (hex_of (peek s i) * 16 + hex_of (peek s (i + 1))) s (i + 2) d in
    let z = bound (hex_of (peek s i)) (hex_of (peek s (i + 1))) (ltb-true _ _ b) in
    let y : hex_of (peek s (i + 1)) < 16 = z.0 in
    (omega arith, λ (q : v / 1024 ≡ 55). let g : hex_of (peek s i) ≡ 13 = omega arith in omega (arith, z.1 g)))
    (λ _ d. absurd (bad_done d)))
    (λ _ d. absurd (bad_done d))

paired_scalar : (s : Text) (v j : ℕ) {w k : ℕ} → v < 65536 → (v / 1024 ≡ 55 → ⊥) → paired s v j ≡ done w k → Scalar w
unfolding paired joined
paired_scalar s v j {w} {k} h n e =
    pick_case _ _ _ e
    (λ _ d.
    let x = next_inv (low s j) (joined v) d in
    let q : 65536 + v % 1024 * 1024 + x.0 % 1024 ≡ w = done_of x.3 in
    inr (omega arith, omega arith))
    (λ m d.
    let q : v ≡ w = done_of d in
    let o : (v / 1024 ≡ 54 → ⊥) = eqb-false (v / 1024) 54 m in
    around w (omega arith) (λ (l : 55296 ≤ w) (g : w < 57344). ⊎_elim (λ (z : v < 56320). o (omega arith)) (λ (z : 56320 ≤ v). n (omega arith)) (split v 56320)))

-- an escape of two bytes stands for a byte below 128
given_low : List Range → Bool
given_low [] = true
given_low (range lo hi k ∷ rs) = ltb k 128 && given_low rs

among_low : (rs : List Range) → T (given_low rs) → (b : ℕ) → among rs b < 128
unfolding given_low pick
among_low [] h b = lit< tt
among_low (range lo hi k ∷ rs) h b =
    let w = both (ltb k 128) (given_low rs) h in
    go (leb lo b) (leb b hi) (ltb→lt k 128 w.0) (among_low rs w.1 b)
  where
    go : (x y : Bool) → k < 128 → among rs b < 128 → pick x (pick y k (among rs b)) (among rs b) < 128
    go true true p q = p
    go true false p q = q
    go false y p q = q

pub escape_low : (b : ℕ) → escape_of b < 128
unfolding escape_of given_low
escape_low b =
    among_low
    (range 34 34 34 ∷ range 47 47 47 ∷ range 92 92 92 ∷ range 98 98 8 ∷ range 102 102 12 ∷ range 110 110 10 ∷ range 114 114 13 ∷ range 116 116 9 ∷ [])
    tt b

escape_scalar : (s : Text) (i v j : ℕ) → escape s i ≡ done v j → Scalar v
unfolding escape
escape_scalar s i v j e =
    pick_case _ _ _ e
    (λ _ d.
    let x = next_inv (quad s (i + 2)) (paired s) d in
    let y = quad_value s (i + 2) x.2 in
    paired_scalar s x.0 x.1 y.0 y.1 x.3)
    (λ _ e1. pick_case _ _ _ e1
    (λ _ d. absurd (bad_done d))
    (λ _ d. let q : escape_of (peek s (i + 1)) ≡ v = done_of d in inl (omega (arith, escape_low (peek s (i + 1))))))

pub character_scalar : (s : Text) (i v j : ℕ) → character s i ≡ done v j → Scalar v
unfolding character classed
character_scalar s i v j e =
    pick_case _ _ _ e
    (λ _ d. escape_scalar s i v j d)
    (λ _ e1. pick_case _ _ _ e1
    (λ _ d. two_scalar s i v j d)
    (λ _ e2. pick_case _ _ _ e2
    (λ h d. let w = alone (class_within 19 (peek s i) (eqb-true _ _ h)) in three_scalar s i v j w.0 w.1 d)
    (λ _ e3. pick_case _ _ _ e3
    (λ h d. let w = alone (class_within 20 (peek s i) (eqb-true _ _ h)) in four_scalar s i v j w.0 w.1 d)
    (λ _ e4. pick_case _ _ _ e4
    (λ _ d. absurd (bad_done d))
    (λ h d. let q : peek s i ≡ v = done_of d in inl (omega (arith, plain_low (peek s i) h)))))))
