-- Slots: what is written into one, what is known of the others, and how two texts are compared by their slots. Assumes nothing.
use Rattle.std.specs.Prelude.{◌≡◌, refl, Bool, true, false, get_or, set, replicate}
use Rattle.std.proofs.Math.Path.{sym, ap}
use Rattle.std.proofs.Common.{subst, ◌∙◌, length-append, length-take, take-append-drop, drop_at, ext_get_or, below_none, below_more, eq-eqb, ne_eqb, eqb-true}
use mathlib.Core.List.{List, ◌++◌}
use Prim.Native.Nat.{ℕ, ◌+◌, ◌-◌, ◌*◌, ◌≤◌, ◌<◌}
use native.Mathlib.Omega.{arith}
use Rattle.std.proofs.Math.Decide.{dec_lt, ℕ_discrete}
use Rattle.std.proofs.Math.ListN.{length, take, drop, length-drop}
use Rattle.std.proofs.Math.Seq.{length-take-le, take_at, drop-drop, get_or-take, get_or-drop}
use Rattle.std.proofs.lemmas.List.{take-append-le, drop-append-le}
use Rattle.text.specs.Reading.{Text, peek}
use Rattle.grammar.specs.Tree.{same}
use Rattle.grammar.proofs.laws.Order.{same_refl, same_false}
use Rattle.values.specs.Strings.{same_texts}
use Rattle.manifest.specs.Rows.{holds}
use Rattle.index.specs.Index.{col_of, text_at, text_cell}
use Rattle.index.proofs.laws.Put.{Put, put_length, put_after}
use Rattle.prints.specs.Prints.{print_at, path_print, front}
use Rattle.prints.specs.laws.Fronts.{front_whole}
use Rattle.prints.specs.laws.Walks.{no_string}
use Rattle.prints.specs.laws.Empty.{same_string}
use Rattle.prints.specs.laws.Prints.{other_print, print_tells}
use Rattle.prints.specs.laws.Tables.{tabled_none, tabled_more}
use Rattle.index.proofs.laws.Paths.{path_some, path_other}
use Rattle.listed.specs.laws.Parts.{slot, Kept, Held, Measured, Agree, Counted, path_length, Read}

-- ---- a slot is written

-- a slot before the end of what two lists have in common
common : (l x y : List ℕ) (j : ℕ) → 256 * j + 256 ≤ length l → slot (l ++ x) j ≡ slot (l ++ y) j
unfolding slot
common l x y j h =
    let d : length (drop (256 * j) l) ≡ length l - 256 * j = length-drop (256 * j) l in
    first x d ∙ sym (first y d)
  where
    first : (z : List ℕ) → length (drop (256 * j) l) ≡ length l - 256 * j → take 256 (drop (256 * j) (l ++ z)) ≡ take 256 (drop (256 * j) l)
    first z d = ap (take 256) (drop-append-le (256 * j) l z (omega arith)) ∙ take-append-le 256 (drop (256 * j) l) z (omega arith)

module _ {old w new : List ℕ} (i : ℕ) (room : length old ≡ 8448) (long : length w ≡ 256) (p : Put old (256 * i) w new) where
  written : slot new i ≡ w
  unfolding slot
  written =
      let l : length (take (256 * i) old) ≡ 256 * i = length-take-le (256 * i) old (omega (arith, p.fits)) in
      ap (λ (t : List ℕ). take 256 (drop (256 * i) t)) p.is
      ∙ ap (take 256) (drop_at (take (256 * i) old) (w ++ drop (256 * i + length w) old) (256 * i) l)
      ∙ take_at w (drop (256 * i + length w) old) 256 long

  others : (j : ℕ) → (j ≡ i → ⊥) → slot new j ≡ slot old j
  unfolding slot
  others j n = go (dec_lt j i)
    where
      go : Dec (j < i) → slot new j ≡ slot old j
      go (yes h) =
          let l : length (take (256 * i) old) ≡ 256 * i = length-take-le (256 * i) old (omega (arith, p.fits)) in
          ap (λ (t : List ℕ). slot t j) p.is
          ∙ common (take (256 * i) old) (w ++ drop (256 * i + length w) old) (drop (256 * i) old) j (omega arith)
          ∙ ap (λ (t : List ℕ). slot t j) (take-append-drop (256 * i) old)
      go (no h) =
          let b : ℕ = 256 * i + length w in
          let e : b + (256 * j - b) ≡ 256 * j = omega arith in
          ap (take 256)
          (ap (λ (m : ℕ). drop m new) (sym e)
          ∙ sym (drop-drop (256 * j - b) b new)
          ∙ ap (drop (256 * j - b)) (put_after p)
          ∙ drop-drop (256 * j - b) b old
          ∙ ap (λ (m : ℕ). drop m old) e)

  pub put_kept : Kept old i w new
  put_kept = record { room = put_length p ∙ room; here = written; others = others }

-- ---- a text is measured

-- its first bytes were put into a slot
pub kept_measured : {s : Text} {p n print i : ℕ} {old new text : List ℕ} → n ≡ length (text_at s p) → print ≡ print_at s p → text ≡ front (text_at s p) → Kept old i text new
    → Measured s p old i new n print
kept_measured en ep et k = record { long = en; printed = ep; kept = record { room = k.room; here = k.here ∙ et; others = k.others } }

-- no string stands there, and the slot was set to zeros
pub none_measured : {s : Text} {p i : ℕ} {old new : List ℕ} → (peek s p ≡ 34 → ⊥) → Kept old i (replicate 256 0) new → Measured s p old i new 0 0
none_measured {s} {p} h k =
    let w = no_string s p h in
    kept_measured w.long (sym (eqb-true _ _ (print_tells s p refl ∙ eq-eqb _ _ (sym w.long)))) w.bytes k

pub measured_held : {s : Text} {p n print i : ℕ} {old new : List ℕ} → i ≤ 32 → Measured s p old i new n print → Held s new i p n
measured_held h m = record { room = m.kept.room; among = h; long = m.long; bytes = m.kept.here }

-- ---- the paths of entries

module _ {s : Text} {ix : List ℕ} where
  pub read_none : {prints lengths texts : List ℕ} → length prints ≡ 32 → length lengths ≡ 32 → length texts ≡ 8448 → Read s ix prints lengths texts 0
  read_none a b d = record { printed = tabled_none (path_print s ix) a; long = tabled_none (path_length s ix) b; room = d; bytes = λ j h. absurd (omega arith) }

  -- one path more: it stands at p
  pub read_more : {prints lengths old new : List ℕ} {i p n print : ℕ} → i < 32 → Read s ix prints lengths old i → p ≡ col_of ix i 0 → Measured s p old i new n print
      → Read s ix (set prints i print) (set lengths i n) new (i + 1)
  read_more {old = old} {new} {i} h r e m =
      record {
        printed = tabled_more (path_print s ix) h r.printed (m.printed ∙ ap (print_at s) e);
        long = tabled_more (path_length s ix) h r.long (m.long ∙ ap (λ (x : ℕ). length (text_at s x)) e);
        room = m.kept.room;
        bytes = λ j b. go j b (ℕ_discrete j i);
      }
    where
      go : (j : ℕ) → j < i + 1 → Dec (j ≡ i) → slot new j ≡ front (text_at s (col_of ix j 0))
      go j b (yes q) = ap (slot new) q ∙ m.kept.here ∙ ap (λ (x : ℕ). front (text_at s x)) e ∙ ap (λ (x : ℕ). front (text_at s (col_of ix x 0))) (sym q)
      go j b (no q) = let l : j < i = omega arith in m.kept.others j q ∙ r.bytes j l

  pub read_all : {prints lengths texts : List ℕ} {i : ℕ} → 32 ≤ i → Read s ix prints lengths texts i → Read s ix prints lengths texts 32
  read_all h r =
      record {
        printed = record { long = r.printed.long; each = λ j b. r.printed.each j (omega arith) };
        long = record { long = r.long.long; each = λ j b. r.long.each j (omega arith) };
        room = r.room;
        bytes = λ j b. r.bytes j (omega arith);
      }

  -- the last slot is none of theirs
  pub read_still : {prints lengths old new w : List ℕ} → Read s ix prints lengths old 32 → Kept old 32 w new → Read s ix prints lengths new 32
  read_still r k = record { printed = r.printed; long = r.long; room = k.room; bytes = λ j h. let n : j ≡ 32 → ⊥ = λ e. omega arith in k.others j n ∙ r.bytes j h }

  -- the path of entry j
  pub path_held : {prints lengths texts : List ℕ} → Read s ix prints lengths texts 32 → {j q : ℕ} → j < 32 → q ≡ col_of ix j 0 → Held s texts j q (get_or lengths j 0)
  path_held r {j} h e =
      record {
        room = r.room;
        among = omega arith;
        long = r.long.each j h ∙ ap (λ (x : ℕ). length (text_at s x)) (sym e);
        bytes = r.bytes j h ∙ ap (λ (x : ℕ). front (text_at s x)) (sym e);
      }

  pub path_print_lem : {prints lengths texts : List ℕ} → Read s ix prints lengths texts 32 → {j q : ℕ} → j < 32 → q ≡ col_of ix j 0 → get_or prints j 0 ≡ print_at s q
  path_print_lem r {j} h e = r.printed.each j h ∙ ap (print_at s) (sym e)

  -- with another print than that of the text at p, it is another text
  pub path_apart : {prints lengths texts : List ℕ} → Read s ix prints lengths texts 32 → {j print : ℕ} → j < 32 → (p : ℕ) → print ≡ print_at s p → (get_or prints j 0 ≡ print → ⊥)
      → false ≡ holds (same (text_at s p)) (text_cell s (col_of ix j 0))
  path_apart r {j} h p its n = path_other s (text_at s p) (col_of ix j 0) (other_print s p (col_of ix j 0) its (path_print_lem r h refl) n)

-- ---- two slots are compared

module _ {texts : List ℕ} {i j : ℕ} where
  pub agree_none : Agree texts i j 0
  agree_none = record { each = below_none _ }

  -- some bytes, and some after them
  pub agree_join : {m n : ℕ} → Agree texts i j m → Agree texts (i + m) (j + m) n → Agree texts i j (m + n)
  agree_join {m} {n} a b = record { each = λ k h. go k h (dec_lt k m) }
    where
      go : (k : ℕ) → k < m + n → Dec (k < m) → get_or texts (i + k) 0 ≡ get_or texts (j + k) 0
      go k h (yes l) = a.each k l
      go k h (no l) =
          let x : i + m + (k - m) ≡ i + k = omega arith in
          let y : j + m + (k - m) ≡ j + k = omega arith in
          ap (λ (z : ℕ). get_or texts z 0) (sym x) ∙ b.each (k - m) (omega arith) ∙ ap (λ (z : ℕ). get_or texts z 0) y

  pub counted_none : Counted texts i j 0 0
  counted_none = record { few = omega arith; all = λ _. agree_none }

  -- one byte more, which counts as r
  pub counted_more : {m n r : ℕ} → Counted texts i j m n → (r ≤ 1) × (r ≡ 1 → get_or texts (i + n) 0 ≡ get_or texts (j + n) 0) → Counted texts i j (m + r) (n + 1)
  counted_more {m} {n} {r} c (w, f) =
      record {
        few = omega (arith, c.few);
        all = λ (e : m + r ≡ n + 1). record { each = below_more _ n (c.all (omega (arith, c.few))).each (f (omega (arith, c.few))) };
      }

  pub counted_all : {m n : ℕ} → Counted texts i j m n → n ≡ 16 → m ≡ 16 → Agree texts i j 16
  counted_all c e f = subst (Agree texts i j) e (c.all (f ∙ sym e))

-- the first n bytes of slots a and b
module _ (texts : List ℕ) (room : length texts ≡ 8448) (a b n : ℕ) (ha : a ≤ 32) (hb : b ≤ 32) (hn : n ≤ 256) where
  bytes_at : (i k : ℕ) → k < n → get_or (take n (slot texts i)) k 0 ≡ get_or texts (256 * i + k) 0
  unfolding slot
  bytes_at i k h = get_or-take n (take 256 (drop (256 * i) texts)) k 0 h ∙ get_or-take 256 (drop (256 * i) texts) k 0 (omega arith) ∙ get_or-drop (256 * i) texts k 0

  bytes_long : (i : ℕ) → i ≤ 32 → length (take n (slot texts i)) ≡ n
  unfolding slot
  bytes_long i h =
      let d : length (drop (256 * i) texts) ≡ length texts - 256 * i = length-drop (256 * i) texts in
      let t : length (take 256 (drop (256 * i) texts)) ≡ 256 = length-take-le 256 (drop (256 * i) texts) (omega arith) in
      length-take-le n (take 256 (drop (256 * i) texts)) (omega arith)

  pub slots_same : ((k : ℕ) → k < n → get_or texts (256 * a + k) 0 ≡ get_or texts (256 * b + k) 0) → true ≡ same (take n (slot texts a)) (take n (slot texts b))
  slots_same f =
      let la : length (take n (slot texts a)) ≡ n = bytes_long a ha in
      let e : take n (slot texts a) ≡ take n (slot texts b) =
      ext_get_or 0 (take n (slot texts a)) (take n (slot texts b)) (la ∙ sym (bytes_long b hb)) (λ k h. let l : k < n = omega arith in bytes_at a k l ∙ f k l ∙ sym (bytes_at b k l)) in
      sym (ap (same (take n (slot texts a))) (sym e) ∙ same_refl (take n (slot texts a)))

  pub slots_differ : (k : ℕ) → k < n → (get_or texts (256 * a + k) 0 ≡ get_or texts (256 * b + k) 0 → ⊥) → false ≡ same (take n (slot texts a)) (take n (slot texts b))
  slots_differ k h d = sym (same_false (take n (slot texts a)) (take n (slot texts b)) (λ e. d (sym (bytes_at a k h) ∙ ap (λ (l : List ℕ). get_or l k 0) e ∙ bytes_at b k h)))

-- ---- two texts are compared by their lengths and slots

module _ {s texts : List ℕ} {a p n b q m : ℕ} (g : Held s texts a p n) (h : Held s texts b q m) where
  pub lengths_differ : (n ≡ m → ⊥) → false ≡ holds (same (text_at s p)) (text_cell s q)
  lengths_differ d = path_other s (text_at s p) q (same_false (text_at s p) (text_at s q) (λ e. d (g.long ∙ ap length e ∙ sym h.long)))

  module _ (there : q ≡ 0 → ⊥) where
    -- a long text is not empty, so it is a string's
    pub long_same : 256 < n → {r : Bool} → r ≡ same_texts s q p → r ≡ holds (same (text_at s p)) (text_cell s q)
    long_same l e = path_some s (text_at s p) q there (same_string s p q refl (ne_eqb (length (text_at s p)) 0 (λ z. omega (arith, g.long))) e)

    pub short_same : n ≡ m → n ≤ 256 → {r : Bool} → r ≡ same (take n (slot texts a)) (take n (slot texts b)) → r ≡ holds (same (text_at s p)) (text_cell s q)
    short_same l k e =
        path_some s (text_at s p) q there
        (e
        ∙ (λ i. same (take n (g.bytes i)) (take n (h.bytes i)))
        ∙ (λ i. same (front_whole (text_at s p) g.long k i) (front_whole (text_at s q) (l ∙ h.long) k i)))
