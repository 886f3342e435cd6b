-- The rules on the sizes of names, at an index: the length that is told of a name decides each test of it; a test of the names of an entry is one of its cells, and goes over its items one by
-- one. Assumes nothing.
use Rattle.std.specs.Prelude.{◌≡◌, Bool, not, ◌||◌, ◌&&◌, ℕ, suc, ◌+◌, ◌*◌, ◌≤◌, ◌<◌, eqb, ltb, length, get_or}
use Rattle.std.proofs.Math.Path.{refl, sym, ap}
use Rattle.std.proofs.Common.{◌∙◌, arith, add-one, eq-eqb, ne_eqb, lt-ltb, le-ltb}
use Rattle.std.proofs.Math.Bool.{true, false, or-false}
use mathlib.Core.List.{List, [], ◌∷◌}
use Rattle.text.specs.Reading.{Text, pick}
use Rattle.manifest.specs.View.{Cell, absent, wrong, many, one}
use Rattle.manifest.specs.Rows.{Named, TraceTime, trace_machine, machine_of, its_name, its_clocks, its_syncs, its_items, item_name, own_machine, sync_machine, the, holds, any, flat, declared, cited_machines}
use Rattle.manifest.specs.Rules.{no_name, outside_of, is_empty, refusal_13_empty_machine_name}
use Rattle.manifest.proofs.laws.Lists.{any_append}
use Rattle.index.specs.Index.{text_at, text_cell, at, col_of, item_of, items_in, item_by, sync_by, clocks_by, entry_by, entry_at, trace_at, manifest_of}
use Rattle.index.proofs.laws.Entries.{from, from_here, any_past, item_at, items_are}
use Rattle.listed.specs.Settled.{item_cell}
use Rattle.listed.specs.laws.Rules.{names_10}
use Rattle.listed.specs.laws.Parts.{in_entry, size_at, item_names}
use Rattle.listed.specs.laws.Sizes.{inside, one_text, synced}
use Rattle.listed.specs.laws.Judged.{or_moves}
use Rattle.listed.specs.laws.Alike.{Alike, alike_refl, alike_entry}

-- ---- a test of a number that counts where a value is there

module _ {outer : ℕ} (b : Bool) where
  pub outer_none : outer ≡ 0 → false ≡ (not (eqb outer 0) && b)
  outer_none e = sym (ap (λ (x : Bool). not x && b) (eq-eqb outer 0 e))

  pub outer_some : (outer ≡ 0 → ⊥) → b ≡ (not (eqb outer 0) && b)
  outer_some z = sym (ap (λ (x : Bool). not x && b) (ne_eqb outer 0 z))

-- one of two tests, of which the first is decided
pub first_holds : {a : Bool} (b : Bool) → a ≡ true → true ≡ (a || b)
first_holds b e = sym (ap (λ (x : Bool). x || b) e)

pub first_fails : {a : Bool} (b : Bool) → a ≡ false → b ≡ (a || b)
first_fails b e = sym (ap (λ (x : Bool). x || b) e)

-- ---- a test of a name by its length

-- a test f of lengths, which does not hold of 1: of no name, then, either
module _ (f : ℕ → Bool) (none : f 1 ≡ false) (s : Text) where
  abbrev tests : Text → Bool
  tests t = f (length t)

  -- the name at p, and one at q with its text
  module _ (p q : ℕ) {n : ℕ} (en : n ≡ size_at s p) (e : text_cell s p ≡ text_cell s q) where
    size_tells : f n ≡ holds tests (text_cell s q)
    unfolding size_at at holds pick
    size_tells = ap f en ∙ go (eqb p 0) ∙ ap (holds tests) e
      where
        go : (b : Bool) → f (pick b 1 (length (text_at s p))) ≡ holds tests (pick b absent (one (text_at s p)))
        go true = none
        go false = refl

    inside_tells : (outer : ℕ) → (not (eqb outer 0) && f n) ≡ holds tests (text_cell s (inside outer q))
    unfolding at holds pick
    inside_tells outer = go (eqb outer 0)
      where
        go : (b : Bool) → (not b && f n) ≡ holds tests (text_cell s (pick b 0 q))
        go true = refl
        go false = size_tells

-- the tests of the rules: no name, one that is too long, an empty one
abbrev pub no_size : ℕ → Bool
no_size n = ltb n 1 || ltb 64 n

abbrev pub long_size : ℕ → Bool
long_size n = ltb n 0 || ltb 64 n

abbrev pub empty_size : ℕ → Bool
empty_size n = eqb n 0

pub is_long : (n : ℕ) → ltb 64 n ≡ long_size n
is_long n = first_fails (ltb 64 n) (le-ltb n 0 (omega arith))

-- ---- the names of an entry

module _ (t : Text → Bool) where
  one_name : (c : Cell Text) → any t (the c) ≡ holds t c
  unfolding any the holds
  one_name absent = refl
  one_name wrong = refl
  one_name (many i) = refl
  one_name (one a) = or-false (t a)

  -- of each value one text
  names_of : {A : Type 0} (f : A → Cell Text) (l : List A) → any t (flat (λ v. the (f v)) l) ≡ any (λ v. holds t (f v)) l
  unfolding any flat
  names_of f [] = refl
  names_of f (a ∷ l) = any_append t (the (f a)) (flat (λ v. the (f v)) l) ∙ (λ i. one_name (f a) i || names_of f l i)

  module _ (s : Text) where
    -- the text f of a value v, which is there unless b
    module _ {A : Type 0} (f : A → Cell Text) (v : A) (p : ℕ) (e : f v ≡ text_cell s p) where
      name_inside : (b : Bool) → any t (flat (λ w. the (f w)) (the (pick b absent (one v)))) ≡ holds t (text_cell s (pick b 0 p))
      unfolding pick flat the any at holds
      name_inside true = refl
      name_inside false = one_text t (f v) ∙ ap (holds t) e

    module _ (ix : List ℕ) (i : ℕ) where
      cited_are : any t (cited_machines (entry_at s ix i)) ≡ (holds t (text_cell s (inside (col_of ix i 4) (col_of ix i 6))) || holds t (text_cell s (inside (inside (col_of ix i 4) (col_of ix i 7)) (col_of ix i 9))))
      unfolding entry_at entry_by clocks_by sync_by at
      cited_are =
          any_append t (flat (λ c. the (own_machine c)) (its_clocks (entry_at s ix i))) (flat (λ v. the (sync_machine v)) (its_syncs (entry_at s ix i)))
          ∙ (λ k.
          name_inside own_machine (clocks_by s (col_of ix i)) (col_of ix i 6) refl (eqb (col_of ix i 4) 0) k
          || synced t s sync_machine (sync_by s (col_of ix i)) (clocks_by s (col_of ix i)) (col_of ix i 7) (col_of ix i 9) refl refl (eqb (col_of ix i 4) 0) k)

      declared_are : any t (declared (entry_at s ix i)) ≡ (holds t (text_cell s (inside (col_of ix i 1) (col_of ix i 2))) || any t (item_names s ix i))
      unfolding entry_at entry_by at
      declared_are =
          any_append t (flat (λ v. the (its_name v)) (the (machine_of (entry_at s ix i)))) (item_names s ix i)
          ∙ ap (λ (b : Bool). b || any t (item_names s ix i)) (name_inside {A = Named} its_name (text_cell s (col_of ix i 2), tt) (col_of ix i 2) refl (eqb (col_of ix i 1) 0))

      -- ---- a test of the names of the items: whether it held of those before the items from number k on

      unfoldable pub from_item : ℕ → Bool
      from_item k = any (λ v. holds t (item_name v)) (from (item_at s ix i) (items_in ix i) k)

      pub items_start : any t (item_names s ix i) ≡ (false || from_item 0)
      unfolding from_item
      items_start = names_of item_name (its_items (entry_at s ix i)) ∙ ap (any (λ v. holds t (item_name v))) (items_are s ix i)

      item_turn : (k : ℕ) → k < items_in ix i → from_item k ≡ (holds t (text_cell s (item_of ix i k 1)) || from_item (suc k))
      unfolding from_item any item_by
      item_turn k h = ap (any (λ v. holds t (item_name v))) (from_here (item_at s ix i) (items_in ix i) k h)

      module _ {n k : ℕ} (e : Bool) (en : n ≡ items_in ix i) (inv : any t (item_names s ix i) ≡ (e || from_item k)) where
        pub items_done : n ≤ k → e ≡ any t (item_names s ix i)
        unfolding from_item
        items_done h = sym (inv ∙ ap (λ (b : Bool). e || b) (any_past (item_at s ix i) (items_in ix i) (λ v. holds t (item_name v)) k (rw en at h)) ∙ or-false e)

        items_on : k < n → {r d : Bool} → r ≡ holds t (text_cell s (item_of ix i k 1)) → d ≡ (e || r) → any t (item_names s ix i) ≡ (d || from_item (k + 1))
        items_on h {r} er ed =
            inv ∙ ap (λ (b : Bool). e || b) (item_turn k (rw en at h))
            ∙ (λ j. e || (sym er j || from_item (sym (add-one k) j)))
            ∙ or_moves e r (from_item (k + 1))
            ∙ ap (λ (b : Bool). b || from_item (k + 1)) (sym ed)

-- ---- the name in `trace_time`

module _ (s : Text) (ix : List ℕ) where
  trace_are : names_10.outside (manifest_of s ix) ≡ holds no_name (text_cell s (inside (get_or ix 1 0) (get_or ix 4 0)))
  unfolding names_10 manifest_of at holds pick trace_at
  trace_are = go (eqb (get_or ix 1 0) 0)
    where
      go : (b : Bool) → holds {A = TraceTime} (λ t. holds no_name (trace_machine t)) (pick b absent (one (trace_at s ix))) ≡ holds no_name (text_cell s (pick b 0 (get_or ix 4 0)))
      go true = refl
      go false = refl

  -- n is the length that is told of it
  pub trace_name_told : {outer n : ℕ} {r : Bool} → outer ≡ get_or ix 1 0 → n ≡ size_at s (get_or ix 4 0) → r ≡ (not (eqb outer 0) && no_size n) → r ≡ names_10.outside (manifest_of s ix)
  trace_name_told {outer} {n} eo en er = er ∙ ap (λ (x : ℕ). not (eqb x 0) && no_size n) eo ∙ inside_tells no_size refl s (get_or ix 4 0) (get_or ix 4 0) en refl (get_or ix 1 0) ∙ sym trace_are

-- ---- what is told of the names of an entry, where the index reads as ix by the time that a name is read

module _ {s : Text} {ix iy : List ℕ} (a : Alike s ix iy) {i : ℕ} (h : i < 32) where
  column_text : (j : ℕ) → j < 12 → text_cell s (get_or iy (6 + (77 * i + j)) 0) ≡ text_cell s (col_of ix i j)
  unfolding col_of pick
  column_text j g = a.texts (6 + (77 * i + j)) ∙ ap (text_cell s) (sym (λ r. pick (lt-ltb i 32 h r) (pick (lt-ltb j 12 g r) (get_or ix (6 + (77 * i + j)) 0) 0) 0))

  item_text : (k : ℕ) → k < 32 → text_cell s (get_or iy (item_cell i k) 0) ≡ text_cell s (item_of ix i k 1)
  unfolding item_of item_cell pick
  item_text k g = a.texts (item_cell i k) ∙ ap (text_cell s) (sym (λ r. pick (lt-ltb i 32 h r) (pick (lt-ltb k 32 g r) (get_or ix (item_cell i k) 0) 0) 0))

  -- a test of the names of the items, with one more
  module _ (f : ℕ → Bool) (none : f 1 ≡ false) {n k : ℕ} (e : Bool) (en : n ≡ items_in ix i) (inv : any (λ x. f (length x)) (item_names s ix i) ≡ (e || from_item (λ x. f (length x)) s ix i k)) where
    pub item_told : k < n → k < 32 → {m : ℕ} → m ≡ size_at s (get_or iy (item_cell i k) 0) → {d : Bool} → d ≡ (e || f m) → any (λ x. f (length x)) (item_names s ix i) ≡ (d || from_item (λ x. f (length x)) s ix i (k + 1))
    item_told b g em ed = items_on (λ x. f (length x)) s ix i e en inv b (size_tells f none s _ _ em (item_text k g)) ed

  -- the name in column j, in a value that is there
  column_told : (f : ℕ → Bool) → f 1 ≡ false → (j : ℕ) → j < 12 → {m : ℕ} → m ≡ size_at s (get_or iy (6 + (77 * i + j)) 0) → {outer place : ℕ} → outer ≡ place → {r : Bool} → r ≡ (not (eqb outer 0) && f m) → r ≡ holds (λ x. f (length x)) (text_cell s (inside place (col_of ix i j)))
  column_told f none j g {m} em {outer} {place} eo er = er ∙ ap (λ (x : ℕ). not (eqb x 0) && f m) eo ∙ inside_tells f none s _ _ em (column_text j g) place

  items_told : (t : Text → Bool) → any t (item_names s iy i) ≡ any t (item_names s ix i)
  items_told t = ap (λ e. any t (flat (λ v. the (item_name v)) (its_items e))) (alike_entry a i)

-- the lengths of an entry's names: of that in its `machine`, read in ix, of those in its `clocks` and its `sync_to`, read in iy and iz, and what is found of its items, read in iw
module _ {s : Text} {ix : List ℕ} {i : ℕ} (h : i < 32) where
  pub cited_told : {iy iz : List ℕ} → Alike s ix iy → Alike s ix iz → {clocks place sync own other : ℕ} → clocks ≡ col_of ix i 4 → place ≡ col_of ix i 7 → sync ≡ inside clocks place → own ≡ size_at s (get_or iy (6 + (77 * i + 6)) 0) → other ≡ size_at s (get_or iz (6 + (77 * i + 9)) 0) → {b d r : Bool} → b ≡ (not (eqb clocks 0) && no_size own) → d ≡ (not (eqb sync 0) && no_size other) → r ≡ (b || d) → r ≡ any no_name (cited_machines (entry_at s ix i))
  cited_told y z ec ep es eo et eb ed er =
      er
      ∙ (λ k. column_told y h no_size refl 6 (omega arith) eo ec eb k || column_told z h no_size refl 9 (omega arith) et (es ∙ (λ l. inside (ec l) (ep l))) ed k)
      ∙ sym (cited_are no_name s ix i)

  pub declared_told : (f : ℕ → Bool) → f 1 ≡ false → {iw : List ℕ} → Alike s ix iw → {machine name : ℕ} → machine ≡ col_of ix i 1 → name ≡ size_at s (get_or ix (6 + (77 * i + 2)) 0) → {b d r : Bool} → b ≡ (not (eqb machine 0) && f name) → d ≡ any (λ x. f (length x)) (item_names s iw i) → r ≡ (b || d) → r ≡ any (λ x. f (length x)) (declared (entry_at s ix i))
  declared_told f none w em en eb ed er =
      er
      ∙ (λ k. column_told (alike_refl s ix) h f none 2 (omega arith) en em eb k || (ed ∙ items_told w h (λ x. f (length x))) k)
      ∙ sym (declared_are (λ x. f (length x)) s ix i)

-- what is found of entry i tells of the rules, where the index reads as ix
module _ {s : Text} {ix iy : List ℕ} (a : Alike s ix iy) (i : ℕ) {r : Bool} where
  pub entry_10 : r ≡ (any no_name (cited_machines (entry_at s iy i)) || any (outside_of 0 64) (declared (entry_at s iy i))) → r ≡ in_entry names_10 s ix i
  unfolding names_10 holds
  entry_10 e = e ∙ ap (λ v. any no_name (cited_machines v) || any (outside_of 0 64) (declared v)) (alike_entry a i)

  pub entry_13 : r ≡ any is_empty (declared (entry_at s iy i)) → r ≡ in_entry refusal_13_empty_machine_name s ix i
  unfolding refusal_13_empty_machine_name holds
  entry_13 e = e ∙ ap (λ v. any is_empty (declared v)) (alike_entry a i)
