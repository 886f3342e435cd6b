-- A byte that comparing alone tells to be a character of a string by itself: what reading it gives, and its form in UTF-8. Assumes nothing.
use Rattle.std.specs.Prelude.{◌≡◌, refl, Bool, true, false, not, ◌&&◌, ◌||◌, [], ◌∷◌, ◌⊎◌, ℕ, ◌+◌, ◌≤◌, ◌<◌, length, get_or, leb, ltb, eqb}
use Rattle.std.proofs.Common.{sym, ap, ◌∙◌, inl, inr, arith, le-leb, leb-true, ltb-true, lt-ltb, eq-eqb, eqb-true}
use Rattle.std.proofs.Math.Decide.{dec_lt}
use Rattle.std.proofs.lemmas.Bool.{lt-leb}
use Rattle.text.specs.Reading.{Text, done, pick, peek}
use Rattle.text.specs.Class.{class_of}
use Rattle.text.specs.Strings.{character, utf8}
use Rattle.text.specs.laws.ClassTable.{plains, plain_bytes}
use Rattle.text.specs.laws.Plain.{own}
use Rattle.text.specs.laws.Peek.{peek_in, peek_at}
use Rattle.text.specs.laws.Strings.{character_plain}

-- 32 to 127, and no backslash. Of these the quote alone is no character
pub record Ordinary (b : ℕ) : Type 0 where
  pub low : 32 ≤ b
  pub high : b ≤ 127
  pub other : b ≡ 92 → ⊥

in_plains : (b : ℕ) → Ordinary b → (b ≡ 34 → ⊥) → plains b ≡ true
in_plains b o n = go (dec_lt b 34) (dec_lt 34 b) (dec_lt b 92) (dec_lt 92 b)
  where
    go : Dec (b < 34) → Dec (34 < b) → Dec (b < 92) → Dec (92 < b) → plains b ≡ true
    go (yes l) _ _ _ = rw (le-leb 32 b o.low, le-leb b 33 (omega arith))
    go (no l) (no m) _ _ = absurd (n (omega arith))
    go (no l) (yes m) (yes h) _ = rw (le-leb 32 b o.low, lt-leb b 33 (omega arith), le-leb 35 b (omega arith), le-leb b 91 (omega arith))
    go (no l) (yes m) (no h) (no g) = absurd (o.other (omega arith))
    go (no l) (yes m) (no h) (yes g) = rw (le-leb 32 b o.low, lt-leb b 33 (omega arith), le-leb 35 b (omega arith), lt-leb b 91 (omega arith), le-leb 93 b (omega arith), le-leb b 127 o.high)

one_of : (x y : Bool) → (x || y) ≡ true → (x ≡ true) ⊎ (y ≡ true)
one_of true y h = inl refl
one_of false y h = inr h

in_range : (lo hi b : ℕ) → (leb lo b && leb b hi) ≡ true → (lo ≤ b) × (b ≤ hi)
in_range lo hi b = go (leb lo b) refl
  where
    go : (x : Bool) → leb lo b ≡ x → (x && leb b hi) ≡ true → (lo ≤ b) × (b ≤ hi)
    go true p h = (leb-true lo b p, leb-true b hi h)
    go false p h = let z : ◌≡◌ {A = ℕ} 0 1 = cc in absurd (omega arith)

-- what is plain is such a byte, and no quote
pub plain_ordinary : (b : ℕ) → own b ≡ true → Ordinary b × (b ≡ 34 → ⊥)
plain_ordinary b e = first (one_of _ _ (sym (plain_bytes b) ∙ e))
  where
    told : (32 ≤ b) → (b ≤ 127) → (b ≡ 34 → ⊥) → (b ≡ 92 → ⊥) → Ordinary b × (b ≡ 34 → ⊥)
    told l h n m = (record { low = l; high = h; other = m }, n)

    by : {lo hi : ℕ} → (lo ≤ b) × (b ≤ hi) → 32 ≤ lo → hi ≤ 127 → (lo ≤ 34 → 34 ≤ hi → ⊥) → (lo ≤ 92 → 92 ≤ hi → ⊥) → Ordinary b × (b ≡ 34 → ⊥)
    by h l m n o = told (omega arith) (omega arith) (λ (q : b ≡ 34). n (omega arith) (omega arith)) (λ (q : b ≡ 92). o (omega arith) (omega arith))

    second : ((leb 35 b && leb b 91) ≡ true) ⊎ ((leb 93 b && leb b 127) ≡ true) → Ordinary b × (b ≡ 34 → ⊥)
    second (inl h) = by (in_range 35 91 b h) (omega arith) (omega arith) (λ x y. omega arith) (λ x y. omega arith)
    second (inr h) = by (in_range 93 127 b h) (omega arith) (omega arith) (λ x y. omega arith) (λ x y. omega arith)

    first : ((leb 32 b && leb b 33) ≡ true) ⊎ (((leb 35 b && leb b 91) || (leb 93 b && leb b 127)) ≡ true) → Ordinary b × (b ≡ 34 → ⊥)
    first (inl h) = by (in_range 32 33 b h) (omega arith) (omega arith) (λ x y. omega arith) (λ x y. omega arith)
    first (inr h) = second (one_of _ _ h)

between : (k : ℕ) → (leb 4 k && ltb k 18) ≡ true → (4 ≤ k) × (k < 18)
between k = go (leb 4 k) refl
  where
    go : (x : Bool) → leb 4 k ≡ x → (x && ltb k 18) ≡ true → (4 ≤ k) × (k < 18)
    go true p h = (leb-true 4 k p, ltb-true k 18 h)
    go false p h = let z : ◌≡◌ {A = ℕ} 0 1 = cc in absurd (omega arith)

-- it is read as itself
pub reads_itself : (s : Text) (i : ℕ) {b : ℕ} → b ≡ peek s i → Ordinary b → (b ≡ 34 → ⊥) → character s i ≡ done b (i + 1)
reads_itself s i {b} e o n =
    let w = between (class_of b) (plain_bytes b ∙ in_plains b o n) in
    character_plain s i (ap class_of e) w.0 w.1 ∙ ap (λ (v : ℕ). done v (i + 1)) (sym e)

itself : (b : ℕ) → Ordinary b → utf8 b ≡ b ∷ []
unfolding utf8 pick
itself b o = let h : b < 128 = omega (arith, o.high) in rw (lt-ltb b 128 h)

-- and written in one byte
pub width_one : (b : ℕ) → Ordinary b → 1 ≡ length (utf8 b)
width_one b o = rw (itself b o)

-- by the three tests
pub by_tests : (b : ℕ) → 32 ≤ b → b ≤ 127 → not (eqb b 92) ≡ true → Ordinary b
by_tests b l h e = record { low = l; high = h; other = λ q. unlike (sym (ap not (eq-eqb b 92 q)) ∙ e) }
  where
    unlike : false ≡ true → ⊥
    unlike f = let z : ◌≡◌ {A = ℕ} 0 1 = cc in omega arith

pub untold : (b : ℕ) → false ≡ true → Ordinary b
untold b f = let z : ◌≡◌ {A = ℕ} 0 1 = cc in absurd (omega arith)

-- what is none is no character by itself
pub no_own : (b : ℕ) → (Ordinary b → ⊥) → own b ≡ false
no_own b n = go (own b) refl
  where
    go : (x : Bool) → own b ≡ x → x ≡ false
    go true e = absurd (n (plain_ordinary b e).0)
    go false e = refl

pub no_own_last : (b : ℕ) → not (eqb b 92) ≡ false → own b ≡ false
no_own_last b e = go (eqb b 92) refl e
  where
    go : (x : Bool) → eqb b 92 ≡ x → not x ≡ false → own b ≡ false
    go true q f = no_own b (λ o. o.other (eqb-true b 92 q))
    go false q f = let z : ◌≡◌ {A = ℕ} 0 1 = cc in absurd (omega arith)

-- it stands within the text
pub inside : (s : Text) (i : ℕ) {b : ℕ} → b ≡ peek s i → Ordinary b → i < length s
inside s i {b} e o = let h : b ≤ 127 = o.high in peek_in s i (omega arith)

-- a plain byte of a text, read as itself
pub record Itself (s : Text) (i : ℕ) : Type 0 where
  pub ordinary : Ordinary (peek s i)
  pub unquoted : peek s i ≡ 34 → ⊥
  pub reads : character s i ≡ done (peek s i) (i + 1)

pub plain_itself : (s : Text) (i : ℕ) → i < length s → own (get_or s i 0) ≡ true → Itself s i
plain_itself s i l e =
    let o = plain_ordinary (peek s i) (ap own (sym (peek_at s i l)) ∙ e) in
    record { ordinary = o.0; unquoted = o.1; reads = reads_itself s i refl o.0 o.1 }
