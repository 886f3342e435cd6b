-- The steps of the walk in the code's own values: where a value ends, where its parts start, and three columns of an object. Assumes nothing.
use mathlib.Core.Path.{◌≡◌, refl, sym, ap, subst, ◌∙◌}
use mathlib.Core.Bool.{true, false, true≢false}
use mathlib.Core.List.{List, [], ◌∷◌}
use Prim.Native.Nat.{ℕ, ◌+◌}
use lib.ListN.{get_or, set}
use Rattle.text.specs.Reading.{Text, pick, peek, scan}
use Rattle.text.specs.Class.{skip}
use Rattle.text.specs.declared.Scan.{Scan}
use Rattle.text.specs.declared.Scan.TheVariants.{Done}
use Rattle.grammar.specs.Document.{value, name, most}
use Rattle.values.specs.laws.Outs.{Gives, Stops, scan_done}
use Rattle.places.specs.Places.{member_place, places_of, counted}
use Rattle.places.specs.laws.Standing.{member_inv}
use Rattle.places.specs.laws.Parts.{not_read}
use Rattle.index.specs.Index.{column}
use Rattle.index.proofs.laws.Seen.{column_there}
use Rattle.fills.specs.declared.Next.{Next}
use Rattle.fills.specs.laws.Walked.{There, IsThere, Ends, Opens, Follows, reached, is_first, met, none, RowTo, four}
use Rattle.fills.proofs.Passed.{Left, left_start, left_end, left_on}
use Rattle.fills.proofs.Rows.{column_none}

-- ---- a value

module _ (s : Text) (p : ℕ) {v : Scan} (ev : v ≡ scan (value most s p)) where
  pub ended : {r : ℕ} → r ≡ reached v → Ends s p r
  unfolding scan
  ended er = record { are = λ t n e. er ∙ ap reached (ev ∙ ap scan e) }

  module _ (h : p ≡ 0 → ⊥) where
    pub there_done : {j : ℕ} → v ≡ Done j → IsThere s p true
    there_done {j} d =
        let (t, e) = scan_done (value most s p) (sym ev ∙ d) in
        record {
          yes = λ _. record { past_0 = h; tree = t; stands = record { until = j; reads = e } };
          no = λ z. absurd (true≢false z);
        }

    pub there_not : Stops (value most s p) → IsThere s p false
    unfolding places_of counted
    there_not n = record {
      yes = λ z. absurd (true≢false (sym z));
      no = λ _ k. sym (column_there s p k h ∙ ap (λ (ms : List (Text × ℕ)). (counted (places_of k ms)).at) (not_read s p n));
    }

pub there_zero : (s : Text) {p : ℕ} → p ≡ 0 → IsThere s p false
there_zero s h = record { yes = λ z. absurd (true≢false (sym z)); no = λ _ n. sym (column_none s h n) }

-- ---- where its parts start

module _ (s : Text) (p opening closing : ℕ) {b : ℕ} (eb : b ≡ peek s p) where
  pub open_other : (b ≡ opening → ⊥) → {e : ℕ} → Ends s p e → Opens s p opening closing (record { start = 0; end = e })
  open_other n h = record { other = λ _. (refl, h); empty = λ q _. absurd (n (eb ∙ q)); some = λ q _. absurd (n (eb ∙ q)) }

  module _ (h : b ≡ opening) {i d : ℕ} (ei : i ≡ skip s (p + 1)) (ed : d ≡ peek s i) where
    pub open_empty : d ≡ closing → Opens s p opening closing (record { start = 0; end = i + 1 })
    open_empty q = record {
      other = λ n. absurd (n (sym eb ∙ h));
      empty = λ _ _. (refl, ap (λ (x : ℕ). x + 1) ei);
      some = λ _ n. absurd (n (ap (peek s) (sym ei) ∙ (sym ed ∙ q)));
    }

    pub open_some : (d ≡ closing → ⊥) → Opens s p opening closing (record { start = i; end = 0 })
    open_some n = record {
      other = λ m. absurd (m (sym eb ∙ h));
      empty = λ _ q. absurd (n (ed ∙ (ap (peek s) ei ∙ q)));
      some = λ _ _. ei;
    }

module _ (s : Text) (e : ℕ) {f b : ℕ} (ef : f ≡ skip s e) (eb : b ≡ peek s f) where
  pub follow_comma : b ≡ 44 → {u : ℕ} → u ≡ skip s (f + 1) → Follows s e (record { start = u; end = 0 })
  follow_comma h eu = record {
    comma = λ _. eu ∙ ap (λ (x : ℕ). skip s (x + 1)) ef;
    close = λ n. absurd (n (ap (peek s) (sym ef) ∙ (sym eb ∙ h)));
  }

  pub follow_close : (b ≡ 44 → ⊥) → Follows s e (record { start = 0; end = f + 1 })
  follow_close n = record {
    comma = λ q. absurd (n (eb ∙ (ap (peek s) ef ∙ q)));
    close = λ _. (refl, ap (λ (x : ℕ). x + 1) ef);
  }

-- the value of a member, past its name, the colon and the whitespace
pub valued : (s : Text) (a : ℕ) {v : Scan} {j r : ℕ} → v ≡ scan (name s a) → j ≡ reached v → r ≡ skip s j → Gives (λ m n. r ≡ m.1) (member_place s a)
unfolding scan
valued s a ev ej er = record {
  holds = λ m n e.
      let w = member_inv s a {k = m.0} {v = m.1} {e = n} e in
      er ∙ (ap (skip s) (ej ∙ ap reached (ev ∙ ap scan w.2)) ∙ sym w.3);
}

-- ---- three columns of an object

pub record RowLeft (s : Text) (p : ℕ) (a b c : Text) (at : Next) (w x y : ℕ) : Type 0 where
  pub found : Text → ℕ
  pub left : Left s p at found
  pub first : w ≡ found a
  pub second : x ≡ found b
  pub third : y ≡ found c

pub row_start : {s : Text} {p : ℕ} (a b c : Text) {at : Next} → There s p → Opens s p 123 125 at → RowLeft s p a b c at 0 0 0
row_start a b c h o = record { found = none; left = left_start h o; first = refl; second = refl; third = refl }

module _ {s : Text} {p : ℕ} {a b c : Text} {at : Next} {w x y : ℕ} (l : RowLeft s p a b c at w x y) where
  pub row_end : at.start ≡ 0 → RowTo s p a b c (w ∷ x ∷ y ∷ at.end ∷ [])
  row_end z =
      let r = left_end l.left z in
      record { until = at.end; ends = r.0; is = λ i. (l.first ∙ r.1 a) i ∷ (l.second ∙ r.1 b) i ∷ (l.third ∙ r.1 c) i ∷ at.end ∷ [] }

  module _ (n : at.start ≡ 0 → ⊥) {v : ℕ} (ev : Gives (λ m j. v ≡ m.1) (member_place s at.start)) {e : ℕ} (ee : Ends s v e) {at' : Next} (g : Follows s e at') where
    turned : (k : Text) {u u' : ℕ} → u ≡ l.found k → u' ≡ pick (is_first s at.start k u) v u → u' ≡ met s at.start v l.found k
    unfolding met
    turned k h q = q ∙ ap (λ (z : ℕ). pick (is_first s at.start k z) v z) h

    pub row_on : {w' x' y' : ℕ} → w' ≡ pick (is_first s at.start a w) v w → x' ≡ pick (is_first s at.start b x) v x → y' ≡ pick (is_first s at.start c y) v y → RowLeft s p a b c at' w' x' y'
    row_on ew ex ey = record {
      found = met s at.start v l.found;
      left = left_on l.left n ev ee g;
      first = turned a l.first ew;
      second = turned b l.second ex;
      third = turned c l.third ey;
    }

-- where the object ends
pub row_ends : {s : Text} {p : ℕ} {a b c : Text} {r : List ℕ} → RowTo s p a b c r → Ends s p (get_or r 3 0)
row_ends {s} {p} w = subst (Ends s p) (sym (ap (λ (l : List ℕ). get_or l 3 0) w.is)) w.ends

-- ---- numbers put into a row

-- v at k, and three columns of the object at v after it
pub four_made : (row : List ℕ) (k : ℕ) {s : Text} {v : ℕ} {a b c : Text} {r : List ℕ} → RowTo s v a b c r
    → set (set (set (set row k v) (k + 1) (get_or r 0 0)) (k + 2) (get_or r 1 0)) (k + 3) (get_or r 2 0) ≡ four s row k v a b c
four_made row k {v = v} w = λ i. set (set (set (set row k v) (k + 1) (get_or (w.is i) 0 0)) (k + 2) (get_or (w.is i) 1 0)) (k + 3) (get_or (w.is i) 2 0)

-- v at k, and the same number at j
pub two_made : (row : List ℕ) (k v j : ℕ) {n m : ℕ} → n ≡ m → set (set row k v) j n ≡ set (set row k v) j m
two_made row k v j e = ap (set (set row k v) j) e

pub first_column : {s : Text} {p : ℕ} {a b c : Text} {r : List ℕ} → RowTo s p a b c r → get_or r 0 0 ≡ column s p a
first_column w = ap (λ (l : List ℕ). get_or l 0 0) w.is
