-- The table filled: the names of an entry, then those of all entries. Assumes nothing.
use Rattle.std.specs.Prelude.{◌≡◌, Bool, ℕ, zero, suc, ◌+◌, ◌-◌, ◌≤◌, eqb, length, take, replicate}
use Rattle.std.proofs.Math.Path.{refl, sym}
use Rattle.std.proofs.Common.{ap, ◌∙◌, eq-eqb, ne_eqb}
use Rattle.std.proofs.Math.Bool.{true, false}
use mathlib.Core.List.{List, [], ◌∷◌, ◌++◌, append-nil}
use native.Mathlib.Omega.{arith}
use Rattle.std.proofs.lemmas.List.{length-replicate}
use Rattle.text.specs.Reading.{Text, pick}
use Rattle.text.specs.laws.Readers.{pick_true, pick_false}
use Rattle.manifest.specs.Rows.{flat}
use Rattle.index.specs.Index.{col_of, item_of, entries_in, items_in, listed}
use Rattle.named.specs.Named.{place, declared_at, declared_in, distinct_at, name_places, name_table}
use Rattle.named.specs.laws.Texts.{flat_append}
use Rattle.named.specs.laws.Held.{Held, Added, added_none, added_then, added_same}

-- ---- f 0, .. one after the other, of the first k numbers

unfoldable pub up_to : (ℕ → List ℕ) → ℕ → List ℕ
up_to f k = flat f (listed (λ i. i) 0 k)

last_listed : (i k : ℕ) → listed (λ j. j) i (suc k) ≡ listed (λ j. j) i k ++ (i + k) ∷ []
unfolding listed
last_listed i zero = let e : i ≡ i + 0 = omega arith in ap (λ (j : ℕ). j ∷ []) e
last_listed i (suc k) =
    let e : suc i + k ≡ i + suc k = omega arith in
    ap (λ (l : List ℕ). i ∷ l) (last_listed (suc i) k) ∙ ap (λ (j : ℕ). i ∷ (listed (λ m. m) (suc i) k ++ j ∷ [])) e

up_to_more : (f : ℕ → List ℕ) (k : ℕ) → up_to f k ++ f k ≡ up_to f (k + 1)
unfolding up_to flat
up_to_more f k =
    let e : suc k ≡ k + 1 = omega arith in
    let z : 0 + k ≡ k = omega arith in
    sym (ap (λ (n : ℕ). flat f (listed (λ i. i) 0 n)) (sym e)
    ∙ (ap (flat f) (last_listed 0 k)
    ∙ (flat_append f (listed (λ i. i) 0 k) ((0 + k) ∷ [])
    ∙ ap (λ (l : List ℕ). flat f (listed (λ i. i) 0 k) ++ l) (append-nil (f (0 + k)) ∙ ap f z))))

module _ (s : Text) (f : ℕ → List ℕ) where
  pub up_to_start : {old : List ℕ} {n : ℕ} → length old ≡ 32 → n ≤ 32 → Added s (up_to f 0) old n old n
  unfolding up_to flat listed
  up_to_start e h = added_none s e h

  pub up_to_next : (k : ℕ) {old mid new : List ℕ} {n m r : ℕ} → Added s (up_to f k) old n mid m → Added s (f k) mid m new r → Added s (up_to f (k + 1)) old n new r
  up_to_next k a b = added_same s (up_to_more f k) (added_then s a b)

-- ---- the names of entry i

-- where the name of its `machine` stands; 0 without one
unfoldable pub machine_at : List ℕ → ℕ → ℕ
machine_at ix i = pick (eqb (col_of ix i 1) 0) 0 (col_of ix i 2)

-- where the name of item k stands, if it has one
abbrev pub item_name : List ℕ → ℕ → ℕ → List ℕ
item_name ix i k = place (item_of ix i k 1)

module _ (ix : List ℕ) (i : ℕ) where
  pub machine_none : col_of ix i 1 ≡ 0 → 0 ≡ machine_at ix i
  unfolding machine_at
  machine_none e = sym (pick_true _ _ (eq-eqb _ 0 e))

  pub machine_some : (col_of ix i 1 ≡ 0 → ⊥) → col_of ix i 2 ≡ machine_at ix i
  unfolding machine_at
  machine_some e = sym (pick_false _ _ (ne_eqb _ 0 e))

  machine_place : place (machine_at ix i) ≡ pick (eqb (col_of ix i 1) 0) [] (place (col_of ix i 2))
  unfolding machine_at place pick
  machine_place = go (eqb (col_of ix i 1) 0)
    where
      go : (b : Bool) → place (pick b 0 (col_of ix i 2)) ≡ pick b [] (place (col_of ix i 2))
      go true = refl
      go false = refl

  module _ (s : Text) where
    pub item_next : (k : ℕ) {old mid new : List ℕ} {n m r p : ℕ} → Added s (up_to (item_name ix i) k) old n mid m → p ≡ item_of ix i k 1 → Added s (place p) mid m new r
        → Added s (up_to (item_name ix i) (k + 1)) old n new r
    item_next k a e b = up_to_next s (item_name ix i) k a (added_same s (ap place e) b)

    -- first that of its `machine`, then those of its items
    pub entry_done : (k : ℕ) {old mid new : List ℕ} {n m r p items : ℕ} → p ≡ machine_at ix i → Added s (place p) old n mid m
        → items ≡ items_in ix i → k ≤ items → items ≤ k → Added s (up_to (item_name ix i) k) mid m new r → Added s (declared_at ix i) old n new r
    unfolding declared_at up_to
    entry_done k {items = items} e a f g h b =
        let q : k ≡ items = omega arith in
        added_same s (λ t. (ap place e ∙ machine_place) t ++ up_to (item_name ix i) ((q ∙ f) t)) (added_then s a b)

-- ---- all entries

-- in a table of zeros there is no name; when those of all entries are added it is the table of the names
pub zeros_long : length (replicate {A = ℕ} 32 0) ≡ 32
zeros_long = length-replicate {A = ℕ} 32 0

pub table_done : (s : Text) (ix : List ℕ) (i : ℕ) {new : List ℕ} {r entries : ℕ} → entries ≡ entries_in ix → i ≤ entries → entries ≤ i
    → Added s (up_to (declared_at ix) i) (replicate 32 0) 0 new r → new ≡ name_table s ix
unfolding name_table name_places declared_in up_to distinct_at
table_done s ix i {new} {r} {entries} e g h a =
    let q : i ≡ entries = omega arith in
    let b : Added s (declared_in ix) (replicate 32 0) 0 new r = added_same s (ap (up_to (declared_at ix)) (q ∙ e)) a in
    let d : Held s (declared_in ix) new r = b.more [] (record { count = refl; is = refl }) in
    d.is ∙ ap (λ (k : ℕ). take 32 (distinct_at s (declared_in ix)) ++ replicate (32 - k) 0) d.count
