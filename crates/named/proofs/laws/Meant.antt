-- The names by their texts: they are those of the manifest that the index stands for. Assumes nothing.
use Rattle.std.specs.Prelude.{◌≡◌, Bool, not, ◌||◌, ◌&&◌, ltb}
use Rattle.std.proofs.Math.Path.{refl, sym, ap}
use Rattle.std.proofs.Common.{subst, ◌∙◌, length-take, eq-eqb, ltb-true}
use Rattle.std.proofs.Math.Bool.{true, false}
use mathlib.Core.List.{List, [], ◌∷◌, ◌++◌, map, append-nil}
use Prim.Native.Nat.{ℕ, zero, suc, ◌+◌, ◌-◌, ◌≤◌, ◌<◌, min}
use native.Mathlib.Omega.{arith}
use Rattle.std.proofs.Math.Dec.{eqb}
use Rattle.std.proofs.Math.ListN.{length, get_or, take, replicate, length-append, length-replicate, length-map, get_or-append, get_or-map}
use Rattle.std.proofs.Math.Seq.{take_all, take_at}
use Rattle.std.proofs.lemmas.Bool.{eqb-false}
use Rattle.text.specs.Reading.{Text, pick}
use Rattle.text.specs.laws.Readers.{pick_false}
use Rattle.grammar.specs.Tree.{same}
use Rattle.numbers.specs.declared.Machine.{Machine}
use Rattle.manifest.specs.View.{absent, one}
use Rattle.manifest.specs.Rows.{its_name, item_name, machine_of, the, any, flat, first_or, entries, declared}
use Rattle.manifest.specs.Rules.{host, called}
use Rattle.manifest.specs.Meaning.{names_in, distinct, number_of}
use Rattle.manifest.proofs.laws.Bools.{halves}
use Rattle.manifest.proofs.laws.Lists.{any_append}
use Rattle.index.specs.Index.{text_at, col_of, item_of, entries_in, items_in, at, listed, item_by, entry_by, entry_at, manifest_of, whose_at}
use Rattle.index.proofs.laws.Entries.{from, entry_cell, entries_are, item_at, items_are}
use Rattle.prints.specs.Prints.{print_at}
use Rattle.named.specs.Named.{place, declared_at, declared_in, without_at, distinct_at, name_places, name_table, name_print, print_table, stands_at, count_in, is_called, is_named, number_by, number_at}
use Rattle.named.specs.laws.Texts.{map_append, distinct_texts}
use Rattle.prints.specs.laws.Prints.{same_print}
use Rattle.named.proofs.laws.Once.{placed_first, names_once}

-- ---- the texts of the names that are declared

module _ (s : Text) (ix : List ℕ) where
  place_texts : (p : ℕ) → map (text_at s) (place p) ≡ the (at p (one (text_at s p)))
  unfolding place at the pick
  place_texts p = go (eqb p 0)
    where
      go : (b : Bool) → map (text_at s) (pick b [] (p ∷ [])) ≡ the (pick b absent (one (text_at s p)))
      go true = refl
      go false = refl

  machine_texts : (i : ℕ) → map (text_at s) (pick (eqb (col_of ix i 1) 0) [] (place (col_of ix i 2))) ≡ flat (λ v. the (its_name v)) (the (machine_of (entry_at s ix i)))
  unfolding entry_at entry_by at the flat pick
  machine_texts i = go (eqb (col_of ix i 1) 0) (place_texts (col_of ix i 2))
    where
      go : (b : Bool) → map (text_at s) (place (col_of ix i 2)) ≡ the (at (col_of ix i 2) (one (text_at s (col_of ix i 2))))
          → map (text_at s) (pick b [] (place (col_of ix i 2))) ≡ flat (λ v. the (its_name v)) (the (pick b absent (one (at (col_of ix i 2) (one (text_at s (col_of ix i 2))), tt))))
      go true e = refl
      go false e = e ∙ sym (append-nil _)

  items_texts : (i k n : ℕ) → map (text_at s) (flat (λ j. place (item_of ix i j 1)) (listed (λ j. j) k n)) ≡ flat (λ v. the (item_name v)) (listed (item_at s ix i) k n)
  unfolding flat listed item_by
  items_texts i k zero = refl
  items_texts i k (suc n) =
      map_append (text_at s) (place (item_of ix i k 1)) (flat (λ j. place (item_of ix i j 1)) (listed (λ j. j) (suc k) n))
      ∙ (λ t. place_texts (item_of ix i k 1) t ++ items_texts i (suc k) n t)

  entry_texts : (i : ℕ) → map (text_at s) (declared_at ix i) ≡ declared (entry_at s ix i)
  unfolding declared_at from
  entry_texts i =
      let z : items_in ix i ≡ items_in ix i - 0 = omega arith in
      map_append (text_at s) (pick (eqb (col_of ix i 1) 0) [] (place (col_of ix i 2))) (flat (λ j. place (item_of ix i j 1)) (listed (λ j. j) 0 (items_in ix i)))
      ∙ (λ t. machine_texts i t ++ (items_texts i 0 (items_in ix i) ∙ (ap (λ (n : ℕ). flat (λ v. the (item_name v)) (listed (item_at s ix i) 0 n)) z ∙ ap (flat (λ v. the (item_name v))) (sym (items_are s ix i)))) t)

  entries_texts : (i n : ℕ) → map (text_at s) (flat (declared_at ix) (listed (λ j. j) i n)) ≡ flat (λ c. flat declared (the c)) (listed (entry_cell s ix) i n)
  unfolding flat listed the
  entries_texts i zero = refl
  entries_texts i (suc n) =
      map_append (text_at s) (declared_at ix i) (flat (declared_at ix) (listed (λ j. j) (suc i) n))
      ∙ (λ t. (entry_texts i ∙ sym (append-nil (declared (entry_at s ix i)))) t ++ entries_texts (suc i) n t)

  pub declared_texts : map (text_at s) (declared_in ix) ≡ flat (λ c. flat declared (the c)) (entries (manifest_of s ix))
  unfolding declared_in from
  declared_texts =
      let z : entries_in ix ≡ entries_in ix - 0 = omega arith in
      entries_texts 0 (entries_in ix)
      ∙ (ap (λ (n : ℕ). flat (λ c. flat declared (the c)) (listed (entry_cell s ix) 0 n)) z
      ∙ ap (flat (λ c. flat declared (the c))) (sym (entries_are s ix)))

  pub names_texts : map (text_at s) (name_places s ix) ≡ names_in (manifest_of s ix)
  unfolding name_places names_in
  names_texts = distinct_texts s (declared_in ix) ∙ ap distinct declared_texts

  pub names_length : length (name_places s ix) ≡ length (names_in (manifest_of s ix))
  names_length = sym (length-map (name_places s ix) (text_at s)) ∙ ap length names_texts

-- ---- no name stands at 0

abbrev zero_in : List ℕ → Bool
zero_in l = any (λ q. eqb q 0) l

no_zero_place : (p : ℕ) → zero_in (place p) ≡ false
unfolding place any pick
no_zero_place p = go (eqb p 0) refl
  where
    go : (b : Bool) → eqb p 0 ≡ b → zero_in (pick b [] (p ∷ [])) ≡ false
    go true e = refl
    go false e = ap (λ (c : Bool). c || false) e

no_zero_append : (l k : List ℕ) → zero_in l ≡ false → zero_in k ≡ false → zero_in (l ++ k) ≡ false
no_zero_append l k e f = any_append (λ q. eqb q 0) l k ∙ (λ t. e t || f t)

no_zero_flat : (f : ℕ → List ℕ) → ((i : ℕ) → zero_in (f i) ≡ false) → (l : List ℕ) → zero_in (flat f l) ≡ false
unfolding flat any
no_zero_flat f h [] = refl
no_zero_flat f h (i ∷ l) = no_zero_append (f i) (flat f l) (h i) (no_zero_flat f h l)

no_zero_entry : (ix : List ℕ) (i : ℕ) → zero_in (declared_at ix i) ≡ false
unfolding declared_at any pick
no_zero_entry ix i =
    no_zero_append (pick (eqb (col_of ix i 1) 0) [] (place (col_of ix i 2))) (flat (λ k. place (item_of ix i k 1)) (listed (λ k. k) 0 (items_in ix i)))
    (go (eqb (col_of ix i 1) 0))
    (no_zero_flat (λ k. place (item_of ix i k 1)) (λ k. no_zero_place (item_of ix i k 1)) (listed (λ k. k) 0 (items_in ix i)))
  where
    go : (b : Bool) → zero_in (pick b [] (place (col_of ix i 2))) ≡ false
    go true = refl
    go false = no_zero_place (col_of ix i 2)

no_zero_declared : (ix : List ℕ) → zero_in (declared_in ix) ≡ false
unfolding declared_in
no_zero_declared ix = no_zero_flat (declared_at ix) (no_zero_entry ix) (listed (λ i. i) 0 (entries_in ix))

no_zero_without : (s : Text) (p : ℕ) (l : List ℕ) → zero_in l ≡ false → zero_in (without_at s p l) ≡ false
unfolding without_at any pick
no_zero_without s p [] e = refl
no_zero_without s p (q ∷ l) e = go (same (text_at s q) (text_at s p)) (no_zero_without s p l (halves (eqb q 0) (zero_in l) e).1)
  where
    go : (b : Bool) → zero_in (without_at s p l) ≡ false → zero_in (pick b (without_at s p l) (q ∷ without_at s p l)) ≡ false
    go true h = h
    go false h = λ t. (halves (eqb q 0) (zero_in l) e).0 t || h t

no_zero_distinct : (s : Text) (l : List ℕ) → zero_in l ≡ false → zero_in (distinct_at s l) ≡ false
unfolding distinct_at any
no_zero_distinct s [] e = refl
no_zero_distinct s (p ∷ l) e =
    let (x, y) = halves (eqb p 0) (zero_in l) e in
    λ t. x t || no_zero_without s p (distinct_at s l) (no_zero_distinct s l y) t

no_zero_take : (n : ℕ) (l : List ℕ) → zero_in l ≡ false → zero_in (take n l) ≡ false
unfolding any
no_zero_take zero l e = refl
no_zero_take (suc n) [] e = refl
no_zero_take (suc n) (q ∷ l) e =
    let (x, y) = halves (eqb q 0) (zero_in l) e in
    λ t. x t || no_zero_take n l y t

pub no_zero_name : (s : Text) (ix : List ℕ) → zero_in (name_places s ix) ≡ false
unfolding name_places
no_zero_name s ix = no_zero_distinct s (declared_in ix) (no_zero_declared ix)

-- ---- names, then zeros

pub first_zero : (l : List ℕ) (i n : ℕ) → zero_in l ≡ false → first_or (i + length l + n) (λ q. eqb q 0) (l ++ replicate n 0) i ≡ i + length l
unfolding first_or any pick
first_zero [] i zero e = omega arith
first_zero [] i (suc n) e = let z : i ≡ i + 0 = omega arith in z
first_zero (q ∷ l) i n e =
    let (x, y) = halves (eqb q 0) (zero_in l) e in
    let a : i + suc (length l) + n ≡ suc i + length l + n = omega arith in
    let b : suc i + length l ≡ i + suc (length l) = omega arith in
    (λ t. pick (x t) i (first_or (a t) (λ j. eqb j 0) (l ++ replicate n 0) (suc i))) ∙ (first_zero l (suc i) n y ∙ b)

module _ (s : Text) (p : ℕ) where
  -- a test that no 0 passes
  first_none : (n i : ℕ) → first_or 0 (λ q. not (eqb q 0) && same (text_at s p) (text_at s q)) (replicate n 0) i ≡ 0
  unfolding first_or pick
  first_none zero i = refl
  first_none (suc n) i = first_none n (suc i)

  pub first_named : (l : List ℕ) (n i : ℕ) → zero_in l ≡ false → first_or 0 (λ q. not (eqb q 0) && same (text_at s p) (text_at s q)) (l ++ replicate n 0) i ≡ first_or 0 (same (text_at s p)) (map (text_at s) l) i
  unfolding first_or any pick
  first_named [] n i e = first_none n i
  first_named (q ∷ l) n i e =
      let (x, y) = halves (eqb q 0) (zero_in l) e in
      λ t. pick (not (x t) && same (text_at s p) (text_at s q)) i (first_named l n (suc i) y t)

-- ---- a name's print beside it

pub get_d_behind : (l k : List ℕ) (i d : ℕ) → get_or (l ++ k) (length l + i) d ≡ get_or k i d
get_d_behind [] k i d = let e : 0 + i ≡ i = omega arith in ap (λ (j : ℕ). get_or k j d) e
get_d_behind (q ∷ l) k i d = let e : suc (length l) + i ≡ suc (length l + i) = omega arith in ap (λ (j : ℕ). get_or (q ∷ (l ++ k)) j d) e ∙ get_d_behind l k i d

and_false : (b : Bool) → (b && false) ≡ false
and_false true = refl
and_false false = refl

-- a name that is the text at p has its print
print_needless : (s : Text) (p q : ℕ) → (eqb (name_print s q) (print_at s p) && is_called s p q) ≡ is_called s p q
unfolding name_print is_called
print_needless s p q = go (eqb q 0) refl (same (text_at s p) (text_at s q)) refl
  where
    alike : Bool
    alike = eqb (pick (eqb q 0) 0 (print_at s q)) (print_at s p)

    go : (b : Bool) → eqb q 0 ≡ b → (c : Bool) → same (text_at s p) (text_at s q) ≡ c → (alike && (not (eqb q 0) && same (text_at s p) (text_at s q))) ≡ (not (eqb q 0) && same (text_at s p) (text_at s q))
    go true e c f = ap (λ (x : Bool). alike && (not x && same (text_at s p) (text_at s q))) e ∙ and_false alike ∙ sym (ap (λ (x : Bool). not x && same (text_at s p) (text_at s q)) e)
    go false e true f = ap (λ (x : Bool). x && (not (eqb q 0) && same (text_at s p) (text_at s q))) (eq-eqb _ _ (pick_false 0 (print_at s q) e ∙ sym (same_print s p q f)))
    go false e false f =
        let none : (not (eqb q 0) && same (text_at s p) (text_at s q)) ≡ false = (λ t. not (e t) && f t) in
        ap (λ (x : Bool). alike && x) none ∙ and_false alike ∙ sym none

-- the first place of a list at which a test holds, by the places
first_listed : (d : ℕ) (p q : ℕ → Bool) (l : List ℕ) (i k : ℕ) → ((j : ℕ) → j < length l → p (k + j) ≡ q (get_or l j 0)) → first_or d p (listed (λ j. j) k (length l)) i ≡ first_or d q l i
unfolding first_or listed
first_listed d p q [] i k h = refl
first_listed d p q (x ∷ l) i k h =
    let e : k ≡ k + 0 = omega arith in
    λ t. pick ((ap p e ∙ h 0 (omega arith)) t) i (first_listed d p q l (suc i) (suc k) (λ j b. let g : suc k + j ≡ k + suc j = omega arith in ap p g ∙ h (suc j) (omega arith)) t)

-- ---- the table

module _ (s : Text) (ix : List ℕ) where
  few : length (take 32 (name_places s ix)) ≤ 32
  few = omega (arith, length-take 32 (name_places s ix))

  pub table_long : length (name_table s ix) ≡ 32
  unfolding name_table
  table_long =
      let n : ℕ = 32 - length (take 32 (name_places s ix)) in
      let a : length (replicate {A = ℕ} n 0) ≡ n = length-replicate {A = ℕ} n 0 in
      omega (arith, length-append (take 32 (name_places s ix)) (replicate n 0), few, a)

  -- behind the positions may stand anything
  pub table_count : (rest : List ℕ) → count_in (name_table s ix ++ rest) ≡ min 32 (length (names_in (manifest_of s ix)))
  unfolding name_table count_in stands_at
  table_count rest =
      let l : List ℕ = take 32 (name_places s ix) in
      let d : 32 ≡ 0 + length l + (32 - length l) = omega (arith, few) in
      let z : 0 + length l ≡ length l = omega arith in
      ap (λ (t : List ℕ). first_or 32 (λ q. eqb q 0) t 0) (take_at (name_table s ix) rest 32 table_long)
      ∙ (ap (λ (k : ℕ). first_or k (λ q. eqb q 0) (l ++ replicate (32 - length l) 0) 0) d
      ∙ (first_zero l 0 (32 - length l) (no_zero_take 32 (name_places s ix) (no_zero_name s ix))
      ∙ (z ∙ (length-take 32 (name_places s ix) ∙ ap (min 32) (names_length s ix)))))

  -- ---- the number of a machine

  -- by the texts alone
  by_texts : (p : ℕ) → length (names_in (manifest_of s ix)) ≤ 32 → first_or 0 (is_called s p) (name_table s ix) 1 ≡ first_or 0 (same (text_at s p)) (names_in (manifest_of s ix)) 1
  unfolding name_table is_called
  by_texts p h =
      let all : take 32 (name_places s ix) ≡ name_places s ix = take_all 32 (name_places s ix) (omega (arith, names_length s ix)) in
      first_named s p (take 32 (name_places s ix)) (32 - length (take 32 (name_places s ix))) 1 (no_zero_take 32 (name_places s ix) (no_zero_name s ix))
      ∙ (ap (λ (l : List ℕ). first_or 0 (same (text_at s p)) (map (text_at s) l) 1) all
      ∙ ap (λ (l : List Text). first_or 0 (same (text_at s p)) l 1) (names_texts s ix))

  -- the prints change nothing
  print_at_place : (rest : List ℕ) (k : ℕ) → k < 32 → get_or (name_table s ix ++ (print_table s ix ++ rest)) (32 + k) 0 ≡ name_print s (get_or (name_table s ix) k 0)
  unfolding print_table name_print pick
  print_at_place rest k h =
      let n : length (print_table s ix) ≡ 32 = length-map (name_table s ix) (name_print s) ∙ table_long in
      ap (λ (m : ℕ). get_or (name_table s ix ++ (print_table s ix ++ rest)) (m + k) 0) (sym table_long)
      ∙ (get_d_behind (name_table s ix) (print_table s ix ++ rest) k 0
      ∙ (get_or-append (print_table s ix) rest 0 k (omega arith)
      ∙ get_or-map (name_print s) (name_table s ix) k 0))

  named_called : (rest : List ℕ) (p k : ℕ) → k < 32 → is_named s (name_table s ix ++ (print_table s ix ++ rest)) p k ≡ is_called s p (get_or (name_table s ix) k 0)
  unfolding is_named
  named_called rest p k h =
      (λ t. eqb (print_at_place rest k h t) (print_at s p) && is_called s p (get_or-append (name_table s ix) (print_table s ix ++ rest) 0 k (omega (arith, table_long)) t))
      ∙ print_needless s p (get_or (name_table s ix) k 0)

  -- a position of the table is the first there whose text is its own
  placed_texts : (rest : List ℕ) (p : ℕ) → (p ≡ 0 → ⊥) → stands_at (name_table s ix ++ (print_table s ix ++ rest)) p < 32
      → stands_at (name_table s ix ++ (print_table s ix ++ rest)) p + 1 ≡ first_or 0 (is_called s p) (name_table s ix) 1
  unfolding stands_at
  placed_texts rest p z l =
      let cut : take 32 (name_table s ix ++ (print_table s ix ++ rest)) ≡ name_table s ix = take_at (name_table s ix) (print_table s ix ++ rest) 32 table_long in
      ap (λ (t : List ℕ). first_or 32 (λ q. eqb q p) t 0 + 1) cut
      ∙ placed_first s p z (name_table s ix) (names_once s ix) (subst (λ (t : List ℕ). first_or 32 (λ q. eqb q p) t 0 < 32) cut l)

  pub table_number : (rest : List ℕ) (p : ℕ) → length (names_in (manifest_of s ix)) ≤ 32
      → number_at s (name_table s ix ++ (print_table s ix ++ rest)) p ≡ number_of (names_in (manifest_of s ix)) (whose_at s p)
  unfolding number_at number_by number_of whose_at pick
  table_number rest p h = go (eqb p 0) refl
    where
      table : List ℕ
      table = name_table s ix ++ (print_table s ix ++ rest)

      found : number_by s table p ≡ first_or 0 (same (text_at s p)) (names_in (manifest_of s ix)) 1
      found =
          ap (λ (n : ℕ). first_or 0 (is_named s (name_table s ix ++ (print_table s ix ++ rest)) p) (listed (λ k. k) 0 n) 1) (sym table_long)
          ∙ (first_listed 0 (is_named s (name_table s ix ++ (print_table s ix ++ rest)) p) (is_called s p) (name_table s ix) 1 0 (λ j l. let z : 0 + j ≡ j = omega arith in ap (is_named s (name_table s ix ++ (print_table s ix ++ rest)) p) z ∙ named_called rest p j (omega (arith, table_long)))
          ∙ by_texts p h)

      -- what stands in the table as it stands at p is found there by its text too, since each text is in it once
      placed : (p ≡ 0 → ⊥) → stands_at table p < 32 → stands_at table p + 1 ≡ first_or 0 (same (text_at s p)) (names_in (manifest_of s ix)) 1
      placed z l = placed_texts rest p z l ∙ by_texts p h

      either : (p ≡ 0 → ⊥) → (c : Bool) → ltb (stands_at table p) 32 ≡ c → pick c (stands_at table p + 1) (number_by s table p) ≡ first_or 0 (same (text_at s p)) (names_in (manifest_of s ix)) 1
      either z true e = placed z (ltb-true _ _ e)
      either z false e = found

      go : (b : Bool) → eqb p 0 ≡ b → ◌≡◌ {A = Machine} (record { 0 = pick b 0 (pick (ltb (stands_at table p) 32) (stands_at table p + 1) (number_by s table p)) }) (number_of (names_in (manifest_of s ix)) (pick b host (called (text_at s p))))
      go true e = refl
      go false e = λ t. record { 0 = either (eqb-false p 0 e) (ltb (stands_at table p) 32) refl t }
