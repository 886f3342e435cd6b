-- The table of what is looked up: its four parts of 32 numbers and the last number, and a loop that fills the parts side by side. Assumes nothing.
use Rattle.std.specs.Prelude.{◌≡◌, List, [], ◌∷◌, ◌++◌, map, ℕ, zero, suc, ◌+◌, ◌-◌, ◌≤◌, ◌<◌, min, ltb, length, get_or, set}
use Rattle.std.proofs.Math.Path.{refl, ap}
use Rattle.std.proofs.Common.{sym, ◌∙◌, arith, length-set, length-append, get_or-set_same, get_or-set_other, ext_get_or, lt-ltb, le-ltb}
use Rattle.std.proofs.Math.Decide.{ℕ_discrete, dec_lt}
use Rattle.std.proofs.Math.ListN.{length-map, get_or-append}
use Rattle.text.specs.Reading.{Text, pick}
use Rattle.text.specs.laws.Readers.{pick_true, pick_false}
use Rattle.manifest.specs.Meaning.{names_in, number_of}
use Rattle.index.specs.Index.{col_of, entries_in, listed, manifest_of, whose_at}
use Rattle.index.proofs.laws.Entries.{listed_length}
use Rattle.prints.specs.Prints.{print_at, path_print, path_prints}
use Rattle.named.specs.Named.{name_table, print_table, name_print, count_in, number_at}
use Rattle.named.proofs.Theorems.{table_length, count_is, number_is}
use Rattle.prints.specs.laws.Tables.{table_at}
use Rattle.named.proofs.laws.Meant.{get_d_behind}
use Rattle.index.specs.Cited.{cited_by, cites_of, trace_cited}
use Rattle.finds.specs.Finds.{from_one, of_entries, lookups}

-- ---- four tables of 32 numbers and one number more as one table

-- the first i numbers of each are in, and the last number
pub record Fourths (a b c d : List ℕ) (w : ℕ) (out : List ℕ) (i : ℕ) : Type 0 where
  pub long : length out ≡ 129
  pub first : (j : ℕ) → j < i → get_or out j 0 ≡ get_or a j 0
  pub second : (j : ℕ) → j < i → get_or out (32 + j) 0 ≡ get_or b j 0
  pub third : (j : ℕ) → j < i → get_or out (64 + j) 0 ≡ get_or c j 0
  pub fourth : (j : ℕ) → j < i → get_or out (96 + j) 0 ≡ get_or d j 0
  pub last : get_or out 128 0 ≡ w

module _ {a b c d : List ℕ} {w : ℕ} where
  pub fourths_none : {out : List ℕ} → length out ≡ 129 → get_or out 128 0 ≡ w → Fourths a b c d w out 0
  fourths_none e l = record {
    long = e;
    first = λ j h. absurd (omega arith);
    second = λ j h. absurd (omega arith);
    third = λ j h. absurd (omega arith);
    fourth = λ j h. absurd (omega arith);
    last = l;
  }

  module _ {out : List ℕ} {i x y z v : ℕ} (h : i < 32) (t : Fourths a b c d w out i) (ex : x ≡ get_or a i 0) (ey : y ≡ get_or b i 0) (ez : z ≡ get_or c i 0) (ev : v ≡ get_or d i 0) where
    -- a number more of each table
    abbrev one : List ℕ
    one = set out i x

    abbrev two : List ℕ
    two = set one (32 + i) y

    abbrev three : List ℕ
    three = set two (64 + i) z

    abbrev four : List ℕ
    four = set three (96 + i) v

    long1 : length one ≡ 129
    long1 = length-set out i x ∙ t.long

    long2 : length two ≡ 129
    long2 = length-set one (32 + i) y ∙ long1

    long3 : length three ≡ 129
    long3 = length-set two (64 + i) z ∙ long2

    -- what stands elsewhere than where the last of them was put, or one of the last two, of the last three, any
    past4 : (j : ℕ) → (j ≡ 96 + i → ⊥) → get_or four j 0 ≡ get_or three j 0
    past4 j n = get_or-set_other three (96 + i) j v 0 n

    past3 : (j : ℕ) → (j ≡ 96 + i → ⊥) → (j ≡ 64 + i → ⊥) → get_or four j 0 ≡ get_or two j 0
    past3 j n m = past4 j n ∙ get_or-set_other two (64 + i) j z 0 m

    past2 : (j : ℕ) → (j ≡ 96 + i → ⊥) → (j ≡ 64 + i → ⊥) → (j ≡ 32 + i → ⊥) → get_or four j 0 ≡ get_or one j 0
    past2 j n m k = past3 j n m ∙ get_or-set_other one (32 + i) j y 0 k

    past1 : (j : ℕ) → (j ≡ 96 + i → ⊥) → (j ≡ 64 + i → ⊥) → (j ≡ 32 + i → ⊥) → (j ≡ i → ⊥) → get_or four j 0 ≡ get_or out j 0
    past1 j n m k l = past2 j n m k ∙ get_or-set_other out i j x 0 l

    -- and where they were put
    put1 : get_or four i 0 ≡ x
    put1 =
        past2 i (λ (e : i ≡ 96 + i). omega arith) (λ (e : i ≡ 64 + i). omega arith) (λ (e : i ≡ 32 + i). omega arith)
        ∙ get_or-set_same out i x 0 (omega (arith, t.long))

    put2 : get_or four (32 + i) 0 ≡ y
    put2 =
        past3 (32 + i) (λ (e : 32 + i ≡ 96 + i). omega arith) (λ (e : 32 + i ≡ 64 + i). omega arith)
        ∙ get_or-set_same one (32 + i) y 0 (omega (arith, long1))

    put3 : get_or four (64 + i) 0 ≡ z
    put3 = past4 (64 + i) (λ (e : 64 + i ≡ 96 + i). omega arith) ∙ get_or-set_same two (64 + i) z 0 (omega (arith, long2))

    put4 : get_or four (96 + i) 0 ≡ v
    put4 = get_or-set_same three (96 + i) v 0 (omega (arith, long3))

    go_first : (j : ℕ) → j < i + 1 → Dec (j ≡ i) → get_or four j 0 ≡ get_or a j 0
    go_first j l (yes q) = ap (λ (k : ℕ). get_or four k 0) q ∙ (put1 ∙ (ex ∙ ap (λ (k : ℕ). get_or a k 0) (sym q)))
    go_first j l (no q) =
        past1 j (λ (e : j ≡ 96 + i). omega arith) (λ (e : j ≡ 64 + i). omega arith) (λ (e : j ≡ 32 + i). omega arith) q
        ∙ t.first j (omega arith)

    go_second : (j : ℕ) → j < i + 1 → Dec (j ≡ i) → get_or four (32 + j) 0 ≡ get_or b j 0
    go_second j l (yes q) = ap (λ (k : ℕ). get_or four (32 + k) 0) q ∙ (put2 ∙ (ey ∙ ap (λ (k : ℕ). get_or b k 0) (sym q)))
    go_second j l (no q) =
        past1 (32 + j) (λ (e : 32 + j ≡ 96 + i). omega arith) (λ (e : 32 + j ≡ 64 + i). omega arith) (λ (e : 32 + j ≡ 32 + i). q (omega arith)) (λ (e : 32 + j ≡ i). omega arith)
        ∙ t.second j (omega arith)

    go_third : (j : ℕ) → j < i + 1 → Dec (j ≡ i) → get_or four (64 + j) 0 ≡ get_or c j 0
    go_third j l (yes q) = ap (λ (k : ℕ). get_or four (64 + k) 0) q ∙ (put3 ∙ (ez ∙ ap (λ (k : ℕ). get_or c k 0) (sym q)))
    go_third j l (no q) =
        past1 (64 + j) (λ (e : 64 + j ≡ 96 + i). omega arith) (λ (e : 64 + j ≡ 64 + i). q (omega arith)) (λ (e : 64 + j ≡ 32 + i). omega arith) (λ (e : 64 + j ≡ i). omega arith)
        ∙ t.third j (omega arith)

    go_fourth : (j : ℕ) → j < i + 1 → Dec (j ≡ i) → get_or four (96 + j) 0 ≡ get_or d j 0
    go_fourth j l (yes q) = ap (λ (k : ℕ). get_or four (96 + k) 0) q ∙ (put4 ∙ (ev ∙ ap (λ (k : ℕ). get_or d k 0) (sym q)))
    go_fourth j l (no q) =
        past1 (96 + j) (λ (e : 96 + j ≡ 96 + i). q (omega arith)) (λ (e : 96 + j ≡ 64 + i). omega arith) (λ (e : 96 + j ≡ 32 + i). omega arith) (λ (e : 96 + j ≡ i). omega arith)
        ∙ t.fourth j (omega arith)

    pub fourths_more : Fourths a b c d w (set (set (set (set out i x) (32 + i) y) (64 + i) z) (96 + i) v) (i + 1)
    fourths_more = record {
      long = length-set three (96 + i) v ∙ long3;
      first = λ j l. go_first j l (ℕ_discrete j i);
      second = λ j l. go_second j l (ℕ_discrete j i);
      third = λ j l. go_third j l (ℕ_discrete j i);
      fourth = λ j l. go_fourth j l (ℕ_discrete j i);
      last = past1 128 (λ (e : 128 ≡ 96 + i). omega arith) (λ (e : 128 ≡ 64 + i). omega arith) (λ (e : 128 ≡ 32 + i). omega arith) (λ (e : 128 ≡ i). omega arith) ∙ t.last;
    }

-- what stands where in tables one after the other
behind : (a l : List ℕ) → length a ≡ 32 → (n j : ℕ) → n ≡ 32 + j → get_or (a ++ l) n 0 ≡ get_or l j 0
behind a l la n j e = ap (λ (k : ℕ). get_or (a ++ l) k 0) (e ∙ ap (λ (k : ℕ). k + j) (sym la)) ∙ get_d_behind a l j 0

module _ (a b c d : List ℕ) (w : ℕ) (la : length a ≡ 32) (lb : length b ≡ 32) where
  -- all of them
  abbrev whole : List ℕ
  whole = a ++ (b ++ (c ++ (d ++ (w ∷ []))))

  at_first : (j : ℕ) → j < 32 → get_or whole j 0 ≡ get_or a j 0
  at_first j h = get_or-append a (b ++ (c ++ (d ++ (w ∷ [])))) 0 j (omega arith)

  at_second : (j : ℕ) → j < 32 → get_or whole (32 + j) 0 ≡ get_or b j 0
  at_second j h = behind a (b ++ (c ++ (d ++ (w ∷ [])))) la (32 + j) j (omega arith) ∙ get_or-append b (c ++ (d ++ (w ∷ []))) 0 j (omega arith)

  past_two : (j : ℕ) → get_or whole (64 + j) 0 ≡ get_or (c ++ (d ++ (w ∷ []))) j 0
  past_two j = behind a (b ++ (c ++ (d ++ (w ∷ [])))) la (64 + j) (32 + j) (omega arith) ∙ behind b (c ++ (d ++ (w ∷ []))) lb (32 + j) j (omega arith)

  module _ (lc : length c ≡ 32) where
    pub at_third : (j : ℕ) → j < 32 → get_or (a ++ (b ++ (c ++ (d ++ (w ∷ []))))) (64 + j) 0 ≡ get_or c j 0
    at_third j h = past_two j ∙ get_or-append c (d ++ (w ∷ [])) 0 j (omega arith)

    past_three : (j : ℕ) → get_or whole (96 + j) 0 ≡ get_or (d ++ (w ∷ [])) j 0
    past_three j =
        let e : 96 + j ≡ 64 + (32 + j) = omega arith in
        ap (λ (n : ℕ). get_or whole n 0) e ∙ (past_two (32 + j) ∙ behind c (d ++ (w ∷ [])) lc (32 + j) j (omega arith))

    module _ (ld : length d ≡ 32) where
      pub at_fourth : (j : ℕ) → j < 32 → get_or (a ++ (b ++ (c ++ (d ++ (w ∷ []))))) (96 + j) 0 ≡ get_or d j 0
      at_fourth j h = past_three j ∙ get_or-append d (w ∷ []) 0 j (omega arith)

      pub at_last : get_or (a ++ (b ++ (c ++ (d ++ (w ∷ []))))) 128 0 ≡ w
      at_last = past_three 32 ∙ behind d (w ∷ []) ld 32 0 (omega arith)

      pub whole_length : length (a ++ (b ++ (c ++ (d ++ (w ∷ []))))) ≡ 129
      whole_length =
          omega (
            arith,
            length-append a (b ++ (c ++ (d ++ (w ∷ [])))),
            length-append b (c ++ (d ++ (w ∷ []))),
            length-append c (d ++ (w ∷ [])),
            length-append d (w ∷ []),
            la,
            lb,
            lc,
            ld,
          )

      pub fourths_all : {out : List ℕ} {i : ℕ} → 32 ≤ i → Fourths a b c d w out i → out ≡ a ++ (b ++ (c ++ (d ++ (w ∷ []))))
      fourths_all {out} {i} h t =
          ext_get_or 0 out whole (t.long ∙ sym whole_length) (λ j l. go j (omega (arith, t.long)) (dec_lt j 32) (dec_lt j 64) (dec_lt j 96) (dec_lt j 128))
        where
          -- the number at place k + j
          placed : (k j : ℕ) → k ≤ j → get_or out (k + (j - k)) 0 ≡ get_or whole (k + (j - k)) 0 → get_or out j 0 ≡ get_or whole j 0
          placed k j l e = let n : j ≡ k + (j - k) = omega arith in ap (λ (m : ℕ). get_or out m 0) n ∙ (e ∙ ap (λ (m : ℕ). get_or whole m 0) (sym n))

          go : (j : ℕ) → j < 129 → Dec (j < 32) → Dec (j < 64) → Dec (j < 96) → Dec (j < 128) → get_or out j 0 ≡ get_or whole j 0
          go j l (yes p) _ _ _ = t.first j (omega arith) ∙ sym (at_first j p)
          go j l (no p) (yes q) _ _ = placed 32 j (omega arith) (t.second (j - 32) (omega arith) ∙ sym (at_second (j - 32) (omega arith)))
          go j l (no p) (no q) (yes r) _ = placed 64 j (omega arith) (t.third (j - 64) (omega arith) ∙ sym (at_third (j - 64) (omega arith)))
          go j l (no p) (no q) (no r) (yes u) = placed 96 j (omega arith) (t.fourth (j - 96) (omega arith) ∙ sym (at_fourth (j - 96) (omega arith)))
          go j l (no p) (no q) (no r) (no u) =
              let n : j ≡ 128 = omega arith in
              ap (λ (m : ℕ). get_or out m 0) n ∙ (t.last ∙ (sym at_last ∙ ap (λ (m : ℕ). get_or whole m 0) (sym n)))

pub get_d_map : (f : ℕ → ℕ) (l : List ℕ) (k d e : ℕ) → k < length l → get_or (map f l) k e ≡ f (get_or l k d)
get_d_map f [] k d e h = absurd (omega arith)
get_d_map f (x ∷ l) zero d e h = refl
get_d_map f (x ∷ l) (suc k) d e h = get_d_map f l k d e (omega arith)

-- ---- numbers of the entries that there are

module _ (ix l : List ℕ) where
  pub kept_length : length (of_entries ix l) ≡ 32
  unfolding of_entries
  kept_length = listed_length (λ i. pick (ltb i (entries_in ix)) (get_or l i 0) 0) 0 32

  module _ (i : ℕ) (h : i < 32) where
    kept_at : get_or (of_entries ix l) i 0 ≡ pick (ltb i (entries_in ix)) (get_or l i 0) 0
    unfolding of_entries
    kept_at = table_at (λ i. pick (ltb i (entries_in ix)) (get_or l i 0) 0) i h

    -- n is the number of entries
    module _ {n : ℕ} (en : n ≡ entries_in ix) where
      kept_some : i < n → get_or l i 0 ≡ get_or (of_entries ix l) i 0
      kept_some g = sym (kept_at ∙ pick_true _ _ (lt-ltb i (entries_in ix) (omega arith)))

      kept_none : n ≤ i → 0 ≡ get_or (of_entries ix l) i 0
      kept_none g = sym (kept_at ∙ pick_false _ _ (le-ltb i (entries_in ix) (omega arith)))

      pub kept_is : {v : ℕ} → (i < n → v ≡ get_or l i 0) → (n ≤ i → v ≡ 0) → v ≡ get_or (of_entries ix l) i 0
      kept_is {v} some none = go (dec_lt i n)
        where
          go : Dec (i < n) → v ≡ get_or (of_entries ix l) i 0
          go (yes g) = some g ∙ kept_some g
          go (no g) = none (omega arith) ∙ kept_none (omega arith)

-- ---- the table of a manifest

module _ (s : Text) (ix : List ℕ) where
  pub prints_length : length (print_table s ix) ≡ 32
  unfolding print_table
  prints_length = length-map (name_table s ix) (name_print s) ∙ table_length s ix

  cites_length : length (map from_one (cites_of s ix)) ≡ 32
  unfolding cites_of
  cites_length = length-map (cites_of s ix) from_one ∙ listed_length (cited_by s ix) 0 32

  pub lookups_length : length (lookups s ix) ≡ 129
  unfolding lookups
  lookups_length =
      whole_length (name_table s ix) (print_table s ix) (map from_one (cites_of s ix)) (of_entries ix (path_prints s ix)) (from_one (trace_cited s ix)) (table_length s ix) prints_length cites_length
      (kept_length ix (path_prints s ix))

  -- how many names there are; the number of each; which entry is cited
  pub lookups_count : count_in (lookups s ix) ≡ min 32 (length (names_in (manifest_of s ix)))
  unfolding lookups
  lookups_count = count_is s ix (print_table s ix ++ (map from_one (cites_of s ix) ++ (of_entries ix (path_prints s ix) ++ (from_one (trace_cited s ix) ∷ []))))

  pub lookups_number : (p : ℕ) → length (names_in (manifest_of s ix)) ≤ 32 → number_at s (lookups s ix) p ≡ number_of (names_in (manifest_of s ix)) (whose_at s p)
  unfolding lookups
  lookups_number p h = number_is s ix (map from_one (cites_of s ix) ++ (of_entries ix (path_prints s ix) ++ (from_one (trace_cited s ix) ∷ []))) p h

  pub lookups_cited : (i : ℕ) → i < 32 → get_or (lookups s ix) (64 + i) 0 ≡ from_one (cited_by s ix i)
  unfolding lookups cites_of from_one pick
  lookups_cited i h =
      at_third (name_table s ix) (print_table s ix) (map from_one (cites_of s ix)) (of_entries ix (path_prints s ix)) (from_one (trace_cited s ix)) (table_length s ix) prints_length cites_length i h
      ∙ (get_d_map from_one (cites_of s ix) i 0 0 (omega (arith, listed_length (cited_by s ix) 0 32)) ∙ ap from_one (table_at (cited_by s ix) i h))

  -- the print of the path of an entry; which entry `trace_time` cites
  pub lookups_print : (i : ℕ) → i < 32 → i < entries_in ix → get_or (lookups s ix) (96 + i) 0 ≡ print_at s (col_of ix i 0)
  unfolding lookups path_prints
  lookups_print i h g =
      at_fourth (name_table s ix) (print_table s ix) (map from_one (cites_of s ix)) (of_entries ix (path_prints s ix)) (from_one (trace_cited s ix)) (table_length s ix) prints_length cites_length
      (kept_length ix (path_prints s ix)) i h
      ∙ (sym (kept_some ix (path_prints s ix) i h refl g) ∙ table_at (path_print s ix) i h)

  pub lookups_trace : get_or (lookups s ix) 128 0 ≡ from_one (trace_cited s ix)
  unfolding lookups
  lookups_trace =
      at_last (name_table s ix) (print_table s ix) (map from_one (cites_of s ix)) (of_entries ix (path_prints s ix)) (from_one (trace_cited s ix)) (table_length s ix) prints_length cites_length
      (kept_length ix (path_prints s ix))
