-- The steps of the walk: a value that fits, a member, and a row's columns. Assumes nothing.
use mathlib.Core.Path.{◌≡◌, refl, sym, ap, subst, ◌∙◌}
use mathlib.Core.Bool.{Bool, true, false, not}
use mathlib.Core.List.{List}
use mathlib.Core.Logic.{◌⊎◌, inl, inr}
use Prim.Native.Nat.{ℕ, suc, ◌+◌, ◌-◌, ◌≤◌, ◌<◌}
use native.Mathlib.Decide.{ℕ_discrete}
use native.Mathlib.Omega.{arith}
use lib.Dec.{leb}
use lib.ListN.{get_or, set}
use borrow.Author.Tests.{eq-eqb, leb-true, not-false}
use Rattle.text.specs.Reading.{Text, done, pick, peek, scan}
use Rattle.text.specs.laws.Readers.{next_was, pick_true}
use Rattle.text.specs.declared.Scan.{Scan}
use Rattle.text.specs.declared.Scan.TheVariants.{Done}
use Rattle.text.specs.Class.{skip}
use Rattle.text.specs.Strings.{string}
use Rattle.grammar.specs.Tree.{Tree, str}
use Rattle.grammar.specs.Document.{text_tree, scalar, name, value}
use Rattle.grammar.proofs.laws.Names.{quote_first}
use Rattle.grammar.proofs.laws.Steps.{one_scalar}
use Rattle.grammar.proofs.laws.Levels.{more_done, levels_more}
use Rattle.values.specs.Stands.{Stands}
use Rattle.values.specs.laws.Outs.{Gives, scan_done}
use Rattle.places.specs.laws.Standing.{name_string}
use Rattle.manifest.proofs.laws.Judge.{tag}
use Rattle.table.specs.Table.{line_at, wanted_of, value_kind, lines_before, first_line}
use Rattle.table.specs.laws.Looking.{LineOf}
use Rattle.table.specs.laws.Some.{some, some_not}
use Rattle.table.specs.laws.Lines.{first_few, there_about}
use Rattle.survey.specs.laws.Walked.{Fits, Entered, slot, Noted, Complete}

-- ---- levels

-- what is read with few levels is read with more
pub value_to : (l m : ℕ) → l ≤ m → (s : Text) (p : ℕ) {t : Tree} {n : ℕ} → value l s p ≡ done t n → value m s p ≡ done t n
value_to l m h s p {t} {n} e = go (ℕ_discrete l m)
  where
    go : Dec (l ≡ m) → value m s p ≡ done t n
    go (yes q) = ap (λ (x : ℕ). value x s p) (sym q) ∙ e
    go (no q) =
        let k : suc (m - l - 1) + l ≡ m = omega arith in
        subst (λ (x : ℕ). value x s p ≡ done t n) k (more_done (levels_more (m - l - 1) l s p) e)

pub stands_low : (l : ℕ) → l ≤ 16 → (s : Text) (p : ℕ) {t : Tree} {n : ℕ} → value l s p ≡ done t n → Stands s p t
stands_low l h s p {n = n} e = record { until = n; reads = value_to l 16 h s p e }

-- ---- a value

-- what starts with no bracket and no brace; b is its first byte
pub scalar_read : (s : Text) (i l : ℕ) {b : ℕ} → b ≡ peek s i → ((b ≡ 91) ⊎ (b ≡ 123) → ⊥) → {r : Scan} → r ≡ scan (scalar s i) → r ≡ scan (value l s i)
scalar_read s i l eb n e = e ∙ sym (ap scan (one_scalar s i l (λ w. n (inl (eb ∙ w))) (λ w. n (inr (eb ∙ w)))))

module _ (s : Text) (p k l : ℕ) {r : Scan} (er : r ≡ scan (value l s p)) {e : ℕ} (re : r ≡ Done e) where
  told : (t : Tree) × (value l s p ≡ done t e)
  told = scan_done (value l s p) (sym er ∙ re)

  pub fits_any : k ≡ 2 → Fits k l s p e
  fits_any h = record { tree = told.0; reads = told.1; typed = λ n. absurd (n h) }

  pub fits_type : l ≤ 15 → {a : ℕ} → ((t : Tree) → Stands s p t → a ≡ tag t) → {w : ℕ} → w ≡ wanted_of k → a ≡ w → Fits k l s p e
  fits_type low ea ew h =
      record { tree = told.0; reads = told.1; typed = λ _. sym (ea told.0 (stands_low l (omega arith) s p told.1)) ∙ h ∙ ew }

-- a string is a text, whatever the number of levels
scalar_text : (s : Text) (p : ℕ) {u : Text} {j : ℕ} → peek s p ≡ 34 → string s p ≡ done u j → scalar s p ≡ done (str u) j
unfolding scalar text_tree
scalar_text s p quote e = pick_true _ _ (eq-eqb _ _ quote) ∙ next_was _ e

text_typed : (u : Text) → tag (str u) ≡ wanted_of 0
unfolding tag wanted_of pick
text_typed u = refl

pub text_fits : (s : Text) (p l : ℕ) {j : ℕ} → scan (string s p) ≡ Done j → Fits 0 l s p j
text_fits s p l e =
    let w = scan_done (string s p) e in
    let quote : peek s p ≡ 34 = quote_first s p w.1 in
    record {
      tree = str w.0;
      reads = one_scalar s p l (λ z. omega arith) (λ z. omega arith) ∙ scalar_text s p quote w.1;
      typed = λ _. text_typed w.0;
    }

pub fits_same : {k k' l : ℕ} {s : Text} {p e : ℕ} → k ≡ k' → Fits k' l s p e → Fits k l s p e
fits_same {l = l} {s = s} {p = p} {e = e} q f = subst (λ (x : ℕ). Fits x l s p e) (sym q) f

-- ---- a member

pub entered : (o l : ℕ) (s : Text) (i : ℕ) {j : ℕ} → scan (name s i) ≡ Done j → {line : ℕ} → Gives (λ k n. LineOf o k line) (string s i) → {v : ℕ} → v ≡ skip s j → {k : ℕ} → k ≡ value_kind line → {e : ℕ} → Fits k l s v e → Entered o l s i line v e
entered o l s i {j} en {line} g {v} ev {k} ek {e} f =
    let w = scan_done (name s i) en in
    let u = name_string s i w.1 in
    record {
      key = w.0;
      colon = j;
      named = w.1;
      place = ev;
      about = g.holds w.0 u.0 u.1;
      fits = subst (λ (x : ℕ). Fits x l s v e) ek f;
    }

-- ---- the columns of a row

columns_few : some (λ k. not (leb (first_line (suc k)) (first_line k + 4))) 12 ≡ false
unfolding some first_line lines_before pick
columns_few = refl

-- the columns of the lines before j that are asked for are not free
pub record Filled (o : ℕ) (row : List ℕ) (j : ℕ) : Type 0 where
  pub start : first_line o ≤ j
  pub there : (i : ℕ) → first_line o ≤ i → i < j → (line_at i).asked ≡ true → get_or row (slot o i) 0 ≡ 0 → ⊥

module _ (o : ℕ) (small : o < 12) where
  four : first_line (o + 1) ≤ first_line o + 4
  four =
      let e : o + 1 ≡ suc o = omega arith in
      let f : first_line (o + 1) ≡ first_line (suc o) = ap first_line e in
      let g : first_line (suc o) ≤ first_line o + 4 = leb-true _ _ (not-false _ (some_not (λ k. not (leb (first_line (suc k)) (first_line k + 4))) 12 o columns_few small)) in
      omega arith

  module _ {f : ℕ} (ef : f ≡ first_line o) (j : ℕ) (l : j < 20) (h : (line_at j).place ≡ o) where
    pub column_low : f ≤ j
    column_low = let (a, b) = there_about o j small l h in omega arith

    pub column_small : j - f + 1 < 5
    column_small = let (a, b) = there_about o j small l h in omega (arith, four)

    pub noted_here : (v : ℕ) (old : List ℕ) → get_or old (j - f + 1) 0 ≡ 0 → Noted o j v old (set old (j - f + 1) v)
    noted_here v old z =
        let e : j - f + 1 ≡ slot o j = ap (λ (x : ℕ). j - x + 1) ef in
        record {
          other = λ n. absurd (n l);
          free = λ _. ap (λ (x : ℕ). get_or old x 0) (sym e) ∙ z;
          put = λ _. ap (λ (x : ℕ). set old x v) e;
        }

  module _ (row : List ℕ) where
    module _ {f : ℕ} (ef : f ≡ first_line o) where
      pub filled_start : Filled o row f
      filled_start = record { start = omega arith; there = λ i h g. absurd (omega arith) }

      module _ {past : ℕ} (ep : past ≡ first_line (o + 1)) {j : ℕ} (l : Filled o row j) where
        pub filled_inside : j < past → j < 20
        filled_inside h = omega (arith, first_few (o + 1) (omega arith))

        pub filled_low : f ≤ j
        filled_low = omega (arith, l.start)

        pub filled_small : j < past → j - f + 1 < 5
        filled_small h = omega (arith, four, l.start)

        pub filled_on : {x : Bool} → x ≡ (line_at j).asked → (x ≡ false) ⊎ (get_or row (j - f + 1) 0 ≡ 0 → ⊥) → Filled o row (j + 1)
        filled_on {x} ex came = record { start = omega (arith, l.start); there = λ i h g. go i h g (ℕ_discrete i j) }
          where
            this : (x ≡ false) ⊎ (get_or row (j - f + 1) 0 ≡ 0 → ⊥) → (line_at j).asked ≡ true → get_or row (slot o j) 0 ≡ 0 → ⊥
            this (inl n) a z = let y : ◌≡◌ {A = ℕ} 0 1 = cc (n, a, ex) in omega arith
            this (inr n) a z = n (ap (λ (y : ℕ). get_or row (j - y + 1) 0) ef ∙ z)

            go : (i : ℕ) → first_line o ≤ i → i < j + 1 → Dec (i ≡ j) → (line_at i).asked ≡ true → get_or row (slot o i) 0 ≡ 0 → ⊥
            go i h g (yes e) a z = this came (ap (λ (y : ℕ). (line_at y).asked) (sym e) ∙ a) (ap (λ (y : ℕ). get_or row (slot o y) 0) (sym e) ∙ z)
            go i h g (no e) a z = l.there i h (omega arith) a z

        pub filled_over : past ≤ j → Complete o row
        filled_over h =
            record {
              there = λ i w y a z.
                  let (c, d) = there_about o i small w y in
                  l.there i c (omega arith) a z;
            }

pub noted_none : (o j v : ℕ) (old : List ℕ) → 20 ≤ j → Noted o j v old old
noted_none o j v old h = record { other = λ _. refl; free = λ l. absurd (omega arith); put = λ l. absurd (omega arith) }
