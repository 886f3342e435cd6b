-- The rows that the walk keeps, by what was met: each store makes of the row of before the row of after. Assumes nothing.
use mathlib.Core.Path.{◌≡◌, refl, sym, ap, subst, ◌∙◌}
use mathlib.Core.Bool.{Bool, true, false, true≢false}
use mathlib.Core.List.{List, [], ◌∷◌}
use Prim.Native.Nat.{ℕ, ◌+◌}
use native.Mathlib.Omega.{arith}
use lib.Dec.{eqb}
use lib.ListN.{length, get_or, set, length-set}
use borrow.Author.Tests.{eq-eqb, eqb-true}
use Rattle.text.specs.Reading.{Text, Out, done, bad, deep, pick}
use Rattle.text.specs.Strings.{string}
use Rattle.text.specs.laws.Readers.{pick_case, pick_true, pick_false}
use Rattle.grammar.specs.Tree.{same}
use Rattle.grammar.proofs.laws.Order.{same_true}
use Rattle.values.specs.Strings.{is_text, same_as}
use Rattle.manifest.specs.Names.{bytes}
use Rattle.index.specs.Index.{column, items_of, rows, item_row, block}
use Rattle.index.proofs.laws.Put.{Put}
use Rattle.fills.specs.laws.Walked.{There, is_first, line_of, four, met, none, row_by, entry_by, head_by, ClockMet, ClocksMet, EntryHas, EntryMet, HeadHas, HeadMet}

-- ---- the first with its name

-- at 0 there are no members
pub column_none : (s : Text) {p : ℕ} → p ≡ 0 → (n : Text) → column s p n ≡ 0
unfolding column
column_none s {p} h n = pick_true _ _ (eq-eqb p 0 h)

-- the name at a is n, and none was met before
record First (s : Text) (a : ℕ) (n : Text) (w : ℕ) : Type 0 where
  is : is_first s a n w ≡ true
  fresh : w ≡ 0
  named : same_as s a n ≡ true

module _ (s : Text) (a : ℕ) where
  pub first_inv : (n : Text) (w : ℕ) → is_first s a n w ≡ true → (w ≡ 0) × (same_as s a n ≡ true)
  unfolding is_first
  first_inv n w h = pick_case _ _ _ h (λ e f. (eqb-true w 0 e, f)) (λ _ f. absurd (true≢false (sym f)))

  -- a name has one text
  only : (n m : Text) → same_as s a n ≡ true → same n m ≡ false → same_as s a m ≡ false
  unfolding same_as is_text
  only n m h d = go (string s a) h
    where
      go : (o : Out Text) → is_text o n ≡ true → is_text o m ≡ false
      go (done u j) e = ap (λ (x : Text). same x m) (same_true u n e) ∙ d
      go (bad p) e = absurd (true≢false (sym e))
      go (deep p) e = absurd (true≢false (sym e))

  not_first : (m : Text) (u : ℕ) → same_as s a m ≡ false → is_first s a m u ≡ false
  unfolding is_first pick
  not_first m u h = go (eqb u 0)
    where
      go : (b : Bool) → pick b (same_as s a m) false ≡ false
      go true = h
      go false = refl

  -- the test that was made of what stands in a row, for what the row has
  module _ (n : Text) {w u : ℕ} (q : w ≡ u) where
    told_first : is_first s a n w ≡ true → First s a n u
    told_first h =
        let k : is_first s a n u ≡ true = ap (is_first s a n) (sym q) ∙ h in
        record { is = k; fresh = (first_inv n u k).0; named = (first_inv n u k).1 }

    told_other : is_first s a n w ≡ false → is_first s a n u ≡ false
    told_other h = ap (is_first s a n) (sym q) ∙ h

  module _ (v : ℕ) (f : Text → ℕ) where
    met_yes : (n : Text) → First s a n (f n) → met s a v f n ≡ v
    unfolding met
    met_yes n h = pick_true _ _ h.is

    met_no : (n : Text) → is_first s a n (f n) ≡ false → met s a v f n ≡ f n
    unfolding met
    met_no n h = pick_false _ _ h

    met_other : (n m : Text) {w : ℕ} → First s a n w → same n m ≡ false → met s a v f m ≡ f m
    met_other n m h d = met_no m (not_first m (f m) (only n m h.named d))

-- which of four tests held first
module _ (b c d e : Bool) {r : ℕ} (er : r ≡ line_of b c d e) where
  pub line_0 : r ≡ 0 → b ≡ true
  unfolding line_of pick
  line_0 h = go b c d e (sym er ∙ h)
    where
      go : (x y z w : Bool) → line_of x y z w ≡ 0 → x ≡ true
      go true y z w q = refl
      go false true z w q = absurd (omega arith)
      go false false true w q = absurd (omega arith)
      go false false false true q = absurd (omega arith)
      go false false false false q = absurd (omega arith)

  pub line_1 : r ≡ 1 → c ≡ true
  unfolding line_of pick
  line_1 h = go b c d e (sym er ∙ h)
    where
      go : (x y z w : Bool) → line_of x y z w ≡ 1 → y ≡ true
      go true y z w q = absurd (omega arith)
      go false true z w q = refl
      go false false true w q = absurd (omega arith)
      go false false false true q = absurd (omega arith)
      go false false false false q = absurd (omega arith)

  pub line_2 : r ≡ 2 → d ≡ true
  unfolding line_of pick
  line_2 h = go b c d e (sym er ∙ h)
    where
      go : (x y z w : Bool) → line_of x y z w ≡ 2 → z ≡ true
      go true y z w q = absurd (omega arith)
      go false true z w q = absurd (omega arith)
      go false false true w q = refl
      go false false false true q = absurd (omega arith)
      go false false false false q = absurd (omega arith)

  pub line_3 : r ≡ 3 → e ≡ true
  unfolding line_of pick
  line_3 h = go b c d e (sym er ∙ h)
    where
      go : (x y z w : Bool) → line_of x y z w ≡ 3 → w ≡ true
      go true y z w q = absurd (omega arith)
      go false true z w q = absurd (omega arith)
      go false false true w q = absurd (omega arith)
      go false false false true q = refl
      go false false false false q = absurd (omega arith)

  pub line_4 : (r ≡ 0 → ⊥) → (r ≡ 1 → ⊥) → (r ≡ 2 → ⊥) → (r ≡ 3 → ⊥) → (b ≡ false) × (c ≡ false) × (d ≡ false) × (e ≡ false)
  unfolding line_of pick
  line_4 n0 n1 n2 n3 = go b c d e er
    where
      go : (x y z w : Bool) → r ≡ line_of x y z w → (x ≡ false) × (y ≡ false) × (z ≡ false) × (w ≡ false)
      go true y z w q = absurd (n0 q)
      go false true z w q = absurd (n1 q)
      go false false true w q = absurd (n2 q)
      go false false false true q = absurd (n3 q)
      go false false false false q = (refl, refl, refl, refl)

-- ---- a member of `clocks`

module _ (s : Text) where
  row_made : (path machine name machines clocks n : ℕ) (g : Text → ℕ) {c m y o : ℕ}
      → g (bytes "clock") ≡ c → g (bytes "machine") ≡ m → g (bytes "sync_to") ≡ y → g (bytes "offset_ns") ≡ o
      → path ∷ machine ∷ name ∷ machines ∷ clocks ∷ c ∷ m ∷ y ∷ column s y (bytes "file") ∷ column s y (bytes "machine") ∷ column s y (bytes "clock") ∷ o ∷ n ∷ []
      ≡ row_by s path machine name machines clocks g n
  unfolding row_by
  row_made path machine name machines clocks n g ec em ey eo =
      λ i.
      path ∷ machine ∷ name ∷ machines ∷ clocks ∷ sym ec i ∷ sym em i ∷ sym ey i ∷ column s (sym ey i) (bytes "file") ∷ column s (sym ey i) (bytes "machine")
      ∷ column s (sym ey i) (bytes "clock") ∷ sym eo i ∷ n ∷ []

module _ (s : Text) (a v : ℕ) {old : List ℕ} where
  pub clock_first : is_first s a (bytes "clock") (get_or old 5 0) ≡ true → ClockMet s a v old (set old 5 v)
  unfolding row_by same pick
  clock_first h = record {
    sized = length-set old 5 v;
    is = λ path machine name machines clocks n g eo.
        let k = told_first s a (bytes "clock") (ap (λ (l : List ℕ). get_or l 5 0) eo) h in
        ap (λ (l : List ℕ). set l 5 v) eo
        ∙ row_made s path machine name machines clocks n (met s a v g) (met_yes s a v g (bytes "clock") k)
        (met_other s a v g (bytes "clock") (bytes "machine") k refl) (met_other s a v g (bytes "clock") (bytes "sync_to") k refl) (met_other s a v g (bytes "clock") (bytes "offset_ns") k refl);
  }

  pub machine_first : is_first s a (bytes "machine") (get_or old 6 0) ≡ true → ClockMet s a v old (set old 6 v)
  unfolding row_by same pick
  machine_first h = record {
    sized = length-set old 6 v;
    is = λ path machine name machines clocks n g eo.
        let k = told_first s a (bytes "machine") (ap (λ (l : List ℕ). get_or l 6 0) eo) h in
        ap (λ (l : List ℕ). set l 6 v) eo
        ∙ row_made s path machine name machines clocks n (met s a v g) (met_other s a v g (bytes "machine") (bytes "clock") k refl) (met_yes s a v g (bytes "machine") k)
        (met_other s a v g (bytes "machine") (bytes "sync_to") k refl) (met_other s a v g (bytes "machine") (bytes "offset_ns") k refl);
  }

  pub sync_first : is_first s a (bytes "sync_to") (get_or old 7 0) ≡ true → {new : List ℕ} → new ≡ four s old 7 v (bytes "file") (bytes "machine") (bytes "clock") → ClockMet s a v old new
  unfolding row_by same pick
  sync_first h w = record {
    sized =
        ap length w
        ∙ (length-set (set (set (set old 7 v) 8 (column s v (bytes "file"))) 9 (column s v (bytes "machine"))) 10 (column s v (bytes "clock"))
        ∙ (length-set (set (set old 7 v) 8 (column s v (bytes "file"))) 9 (column s v (bytes "machine")) ∙ (length-set (set old 7 v) 8 (column s v (bytes "file")) ∙ length-set old 7 v)));
    is = λ path machine name machines clocks n g eo.
        let k = told_first s a (bytes "sync_to") (ap (λ (l : List ℕ). get_or l 7 0) eo) h in
        w
        ∙ ap (λ (l : List ℕ). four s l 7 v (bytes "file") (bytes "machine") (bytes "clock")) eo
        ∙ row_made s path machine name machines clocks n (met s a v g) (met_other s a v g (bytes "sync_to") (bytes "clock") k refl)
        (met_other s a v g (bytes "sync_to") (bytes "machine") k refl) (met_yes s a v g (bytes "sync_to") k) (met_other s a v g (bytes "sync_to") (bytes "offset_ns") k refl);
  }

  pub offset_first : is_first s a (bytes "offset_ns") (get_or old 11 0) ≡ true → ClockMet s a v old (set old 11 v)
  unfolding row_by same pick
  offset_first h = record {
    sized = length-set old 11 v;
    is = λ path machine name machines clocks n g eo.
        let k = told_first s a (bytes "offset_ns") (ap (λ (l : List ℕ). get_or l 11 0) eo) h in
        ap (λ (l : List ℕ). set l 11 v) eo
        ∙ row_made s path machine name machines clocks n (met s a v g) (met_other s a v g (bytes "offset_ns") (bytes "clock") k refl)
        (met_other s a v g (bytes "offset_ns") (bytes "machine") k refl) (met_other s a v g (bytes "offset_ns") (bytes "sync_to") k refl) (met_yes s a v g (bytes "offset_ns") k);
  }

  -- none of them, or one that was met before
  pub clock_other : is_first s a (bytes "clock") (get_or old 5 0) ≡ false → is_first s a (bytes "machine") (get_or old 6 0) ≡ false
      → is_first s a (bytes "sync_to") (get_or old 7 0) ≡ false → is_first s a (bytes "offset_ns") (get_or old 11 0) ≡ false → ClockMet s a v old old
  unfolding row_by
  clock_other hb hc hd he = record {
    sized = refl;
    is = λ path machine name machines clocks n g eo.
        eo
        ∙ row_made s path machine name machines clocks n (met s a v g)
        (met_no s a v g (bytes "clock") (told_other s a (bytes "clock") (ap (λ (l : List ℕ). get_or l 5 0) eo) hb))
        (met_no s a v g (bytes "machine") (told_other s a (bytes "machine") (ap (λ (l : List ℕ). get_or l 6 0) eo) hc))
        (met_no s a v g (bytes "sync_to") (told_other s a (bytes "sync_to") (ap (λ (l : List ℕ). get_or l 7 0) eo) hd))
        (met_no s a v g (bytes "offset_ns") (told_other s a (bytes "offset_ns") (ap (λ (l : List ℕ). get_or l 11 0) eo) he));
  }

-- ---- a member of an entry

abbrev items_on : Text → ℕ → List ℕ
items_on s m = rows (λ k. item_row s (get_or (items_of s m) k 0)) 32

module _ (s : Text) where
  entry_made : (f : Text → ℕ) {p m l c : ℕ} → f (bytes "path") ≡ p → f (bytes "machine") ≡ m → f (bytes "machines") ≡ l → f (bytes "clocks") ≡ c
      → row_by s p m (column s m (bytes "name")) l c (column s c) (length (items_of s l)) ≡ entry_by s f
  unfolding entry_by
  entry_made f ep em el ec = λ i. row_by s (sym ep i) (sym em i) (column s (sym em i) (bytes "name")) (sym el i) (sym ec i) (column s (sym ec i)) (length (items_of s (sym el i)))

module _ (s : Text) (a v base : ℕ) {row ix : List ℕ} where
  -- the items stay
  kept : {o : List ℕ} {f g : Text → ℕ} {row' : List ℕ} → EntryHas s base o f row ix → g (bytes "machines") ≡ f (bytes "machines") → row' ≡ entry_by s g → EntryHas s base o g row' ix
  kept {o} {f} h e q = record {
    is = q;
    items = subst (λ (m : ℕ). Put o (base + 13) (items_on s m) ix) (sym e) h.items;
    fresh = λ z. h.fresh (sym e ∙ z);
  }

  pub path_first : is_first s a (bytes "path") (get_or row 0 0) ≡ true → EntryMet s a v base row (set row 0 v) ix ix
  unfolding entry_by row_by same pick
  path_first h = record {
    is = λ o f q.
        let k = told_first s a (bytes "path") (ap (λ (l : List ℕ). get_or l 0 0) q.is) h in
        let m = met_other s a v f (bytes "path") (bytes "machines") k refl in
        kept q m (ap (λ (l : List ℕ). set l 0 v) q.is
        ∙ entry_made s (met s a v f) (met_yes s a v f (bytes "path") k) (met_other s a v f (bytes "path") (bytes "machine") k refl) m (met_other s a v f (bytes "path") (bytes "clocks") k refl));
  }

  pub whose_first : is_first s a (bytes "machine") (get_or row 1 0) ≡ true → {new : List ℕ} → new ≡ set (set row 1 v) 2 (column s v (bytes "name")) → EntryMet s a v base row new ix ix
  unfolding entry_by row_by same pick
  whose_first h w = record {
    is = λ o f q.
        let k = told_first s a (bytes "machine") (ap (λ (l : List ℕ). get_or l 1 0) q.is) h in
        let m = met_other s a v f (bytes "machine") (bytes "machines") k refl in
        kept q m (w
        ∙ ap (λ (l : List ℕ). set (set l 1 v) 2 (column s v (bytes "name"))) q.is
        ∙ entry_made s (met s a v f) (met_other s a v f (bytes "machine") (bytes "path") k refl) (met_yes s a v f (bytes "machine") k) m (met_other s a v f (bytes "machine") (bytes "clocks") k refl));
  }

  pub items_first : There s v → is_first s a (bytes "machines") (get_or row 3 0) ≡ true → {new ix' : List ℕ} → new ≡ set (set row 3 v) 12 (length (items_of s v))
      → Put ix (base + 13) (items_on s v) ix' → EntryMet s a v base row new ix ix'
  unfolding entry_by row_by same pick
  items_first t h {ix' = ix'} w p = record {
    is = λ o f q.
        let k = told_first s a (bytes "machines") (ap (λ (l : List ℕ). get_or l 3 0) q.is) h in
        let m = met_yes s a v f (bytes "machines") k in
        let was : ix ≡ o = q.fresh k.fresh in
        record {
          is =
              w
              ∙ ap (λ (l : List ℕ). set (set l 3 v) 12 (length (items_of s v))) q.is
              ∙ entry_made s (met s a v f) (met_other s a v f (bytes "machines") (bytes "path") k refl) (met_other s a v f (bytes "machines") (bytes "machine") k refl) m (met_other s a v f (bytes "machines") (bytes "clocks") k refl);
          items = subst (λ (x : ℕ). Put o (base + 13) (items_on s x) ix') (sym m) (subst (λ (x : List ℕ). Put x (base + 13) (items_on s v) ix') was p);
          fresh = λ z. absurd (t.past_0 (sym m ∙ z));
        };
  }

  pub clocks_first : is_first s a (bytes "clocks") (get_or row 4 0) ≡ true → {row' : List ℕ} → ClocksMet s v row row' → EntryMet s a v base row row' ix ix
  unfolding entry_by row_by same pick
  clocks_first h w = record {
    is = λ o f q.
        let k = told_first s a (bytes "clocks") (ap (λ (l : List ℕ). get_or l 4 0) q.is) h in
        let m = met_other s a v f (bytes "clocks") (bytes "machines") k refl in
        let z : f (bytes "clocks") ≡ 0 = k.fresh in
        let was : row ≡ row_by s (f (bytes "path")) (f (bytes "machine")) (column s (f (bytes "machine")) (bytes "name")) (f (bytes "machines")) (f (bytes "clocks")) none (length (items_of s (f (bytes "machines")))) =
        q.is ∙ λ i. row_by s (f (bytes "path")) (f (bytes "machine")) (column s (f (bytes "machine")) (bytes "name")) (f (bytes "machines")) (f (bytes "clocks")) (λ n. column_none s z n i) (length (items_of s (f (bytes "machines")))) in
        kept q m (w.is (f (bytes "path")) (f (bytes "machine")) (column s (f (bytes "machine")) (bytes "name")) (f (bytes "machines")) (f (bytes "clocks")) (length (items_of s (f (bytes "machines")))) was
        ∙ entry_made s (met s a v f) (met_other s a v f (bytes "clocks") (bytes "path") k refl) (met_other s a v f (bytes "clocks") (bytes "machine") k refl) m (met_yes s a v f (bytes "clocks") k));
  }

  pub entry_other : is_first s a (bytes "path") (get_or row 0 0) ≡ false → is_first s a (bytes "machine") (get_or row 1 0) ≡ false
      → is_first s a (bytes "machines") (get_or row 3 0) ≡ false → is_first s a (bytes "clocks") (get_or row 4 0) ≡ false → EntryMet s a v base row row ix ix
  unfolding entry_by row_by
  entry_other hb hc hd he = record {
    is = λ o f q.
        let m = met_no s a v f (bytes "machines") (told_other s a (bytes "machines") (ap (λ (l : List ℕ). get_or l 3 0) q.is) hd) in
        kept q m (q.is
        ∙ entry_made s (met s a v f) (met_no s a v f (bytes "path") (told_other s a (bytes "path") (ap (λ (l : List ℕ). get_or l 0 0) q.is) hb))
        (met_no s a v f (bytes "machine") (told_other s a (bytes "machine") (ap (λ (l : List ℕ). get_or l 1 0) q.is) hc)) m
        (met_no s a v f (bytes "clocks") (told_other s a (bytes "clocks") (ap (λ (l : List ℕ). get_or l 4 0) q.is) he)));
  }

-- ---- a member of the manifest object

abbrev entries_on : Text → ℕ → List ℕ
entries_on s m = rows (λ k. block s (get_or (items_of s m) k 0)) 32

module _ (s : Text) where
  head_made : (f : Text → ℕ) {l t : ℕ} → f (bytes "files") ≡ l → f (bytes "trace_time") ≡ t
      → l ∷ t ∷ column s t (bytes "clock") ∷ column s t (bytes "file") ∷ column s t (bytes "machine") ∷ length (items_of s l) ∷ [] ≡ head_by s f
  unfolding head_by
  head_made f el et =
      λ i.
      sym el i ∷ sym et i ∷ column s (sym et i) (bytes "clock") ∷ column s (sym et i) (bytes "file") ∷ column s (sym et i) (bytes "machine") ∷ length (items_of s (sym el i)) ∷ []

module _ (s : Text) (a v : ℕ) {row ix : List ℕ} where
  held : {o : List ℕ} {f g : Text → ℕ} {row' : List ℕ} → HeadHas s o f row ix → g (bytes "files") ≡ f (bytes "files") → row' ≡ head_by s g → HeadHas s o g row' ix
  held {o} {f} h e q = record {
    is = q;
    entries = subst (λ (m : ℕ). Put o 6 (entries_on s m) ix) (sym e) h.entries;
    fresh = λ z. h.fresh (sym e ∙ z);
  }

  pub files_first : There s v → is_first s a (bytes "files") (get_or row 0 0) ≡ true → {new ix' : List ℕ} → new ≡ set (set row 0 v) 5 (length (items_of s v))
      → Put ix 6 (entries_on s v) ix' → HeadMet s a v row new ix ix'
  unfolding head_by same pick
  files_first t h {ix' = ix'} w p = record {
    is = λ o f q.
        let k = told_first s a (bytes "files") (ap (λ (l : List ℕ). get_or l 0 0) q.is) h in
        let m = met_yes s a v f (bytes "files") k in
        let was : ix ≡ o = q.fresh k.fresh in
        record {
          is =
              w
              ∙ ap (λ (l : List ℕ). set (set l 0 v) 5 (length (items_of s v))) q.is
              ∙ head_made s (met s a v f) m (met_other s a v f (bytes "files") (bytes "trace_time") k refl);
          entries = subst (λ (x : ℕ). Put o 6 (entries_on s x) ix') (sym m) (subst (λ (x : List ℕ). Put x 6 (entries_on s v) ix') was p);
          fresh = λ z. absurd (t.past_0 (sym m ∙ z));
        };
  }

  pub trace_first : is_first s a (bytes "trace_time") (get_or row 1 0) ≡ true → {new : List ℕ} → new ≡ four s row 1 v (bytes "clock") (bytes "file") (bytes "machine") → HeadMet s a v row new ix ix
  unfolding head_by same pick
  trace_first h w = record {
    is = λ o f q.
        let k = told_first s a (bytes "trace_time") (ap (λ (l : List ℕ). get_or l 1 0) q.is) h in
        let m = met_other s a v f (bytes "trace_time") (bytes "files") k refl in
        held q m (w
        ∙ ap (λ (l : List ℕ). four s l 1 v (bytes "clock") (bytes "file") (bytes "machine")) q.is
        ∙ head_made s (met s a v f) m (met_yes s a v f (bytes "trace_time") k));
  }

  pub head_other : is_first s a (bytes "files") (get_or row 0 0) ≡ false → is_first s a (bytes "trace_time") (get_or row 1 0) ≡ false → HeadMet s a v row row ix ix
  unfolding head_by
  head_other hb hc = record {
    is = λ o f q.
        let m = met_no s a v f (bytes "files") (told_other s a (bytes "files") (ap (λ (l : List ℕ). get_or l 0 0) q.is) hb) in
        held q m (q.is ∙ head_made s (met s a v f) m (met_no s a v f (bytes "trace_time") (told_other s a (bytes "trace_time") (ap (λ (l : List ℕ). get_or l 1 0) q.is) hc)));
  }
