-- The definitions in the terms that the code meets: a premise for each thing that was found, in the code's order. Assumes nothing.
use mathlib.Core.Path.{◌≡◌, refl, sym, ap, ◌∙◌}
use mathlib.Core.Bool.{Bool, true, false, not, ◌&&◌}
use Prim.Native.Nat.{ℕ, suc, ◌-◌, ◌<◌, ◌^◌}
use native.Mathlib.Omega.{arith}
use lib.Dec.{eqb}
use lib.IntN.{ℤ, pos, negsuc}
use mir.Syntax.{w64}
use mir.Val.{SFits, of_z}
use borrow.Author.Tests.{ne_eqb}
use Rattle.text.specs.Reading.{Text, pick, peek, word, scan}
use Rattle.text.specs.Class.{skip}
use Rattle.text.specs.declared.Scan.{Scan}
use Rattle.text.specs.declared.Scan.TheVariants.{Done}
use Rattle.text.specs.laws.Readers.{pick_false}
use Rattle.values.specs.declared.Kind.TheVariants.{Nothing, Null, Truth, Number, String, Array}
use Rattle.values.specs.declared.Integer.{Integer}
use Rattle.values.specs.declared.Integer.TheVariants.{In, Below, Above, None}
use Rattle.values.specs.Stands.{kind_by, kind_at}
use Rattle.values.specs.Strings.{same_as}
use Rattle.values.specs.Integer.{integer_at}
use Rattle.values.specs.laws.Outs.{Stops, scan_done}
use Rattle.places.specs.declared.Entry.{Entry}
use Rattle.places.specs.declared.Entry.TheVariants.{Named, Last}
use Rattle.places.specs.Places.{first_member, next_member}
use Rattle.manifest.specs.Names.{bytes}
use Rattle.manifest.specs.Manifest.{start, starts}
use Rattle.outline.specs.declared.Standing.{Standing}
use Rattle.outline.specs.declared.Standing.TheVariants.{At, Refused}
use Rattle.outline.specs.Outline.{object_at, alone, root_from, root_at, is_1, not_1_at}
use Rattle.outline.specs.laws.Start.{is_done, done_stops, starts_word}
use Rattle.outline.specs.laws.Versions.{misnumbered}

-- `opens`: r is what reading the start bytes past the whitespace found
module _ (s : Text) {i : ℕ} (ei : i ≡ skip s 0) {r : Scan} (er : r ≡ scan (word start s i)) where
  pub opens_yes : {j : ℕ} → r ≡ Done j → true ≡ starts s
  unfolding is_done
  opens_yes h =
      let w = scan_done (word start s i) (sym er ∙ h) in
      sym (ap is_done w.1) ∙ ap (λ (k : ℕ). is_done (word start s k)) ei ∙ starts_word s

  pub opens_no : Stops (word start s i) → false ≡ starts s
  opens_no h = sym (done_stops (word start s i) h) ∙ ap (λ (k : ℕ). is_done (word start s k)) ei ∙ starts_word s

-- a value that begins with no brace is no object
other_kind : (v : ℕ) (a b c d e : Bool) → object_at v (pick a Array (pick b String (pick c Number (pick d Truth (pick e Null Nothing))))) ≡ Refused
unfolding object_at pick
other_kind v true b c d e = refl
other_kind v false true c d e = refl
other_kind v false false true d e = refl
other_kind v false false false true e = refl
other_kind v false false false false true = refl
other_kind v false false false false false = refl

-- `alone`: e is the member after, b the byte at v
module _ (s : Text) (v j : ℕ) {e : Entry} (ee : e ≡ next_member s j) where
  pub alone_more : {a w k : ℕ} → e ≡ Named a w k → Refused ≡ alone s v (next_member s j)
  unfolding alone
  alone_more f = sym (ap (alone s v) (sym ee ∙ f))

  module _ (f : e ≡ Last) {b : ℕ} (eb : b ≡ peek s v) where
    last : alone s v (next_member s j) ≡ object_at v (kind_by b)
    unfolding alone kind_at
    last = ap (alone s v) (sym ee ∙ f) ∙ ap (λ (x : ℕ). object_at v (kind_by x)) (sym eb)

    pub alone_object : b ≡ 123 → At v ≡ alone s v (next_member s j)
    unfolding object_at kind_by pick
    alone_object h = sym (last ∙ ap (λ (x : ℕ). object_at v (kind_by x)) h)

    pub alone_other : (b ≡ 123 → ⊥) → Refused ≡ alone s v (next_member s j)
    unfolding kind_by
    alone_other h = sym (last ∙ ap (object_at v) (pick_false _ _ (ne_eqb b 123 h)) ∙ other_kind v _ _ _ _ _)

-- `root`: e is the first member of the outermost object
module _ (s : Text) {i : ℕ} (ei : i ≡ skip s 0) {e : Entry} (ee : e ≡ first_member s i) where
  from : root_from s e ≡ root_at s
  unfolding root_at
  from = ap (root_from s) (ee ∙ ap (first_member s) ei)

  pub root_some : {a v j : ℕ} → e ≡ Named a v j → {r : Standing} → r ≡ alone s v (next_member s j) → r ≡ root_at s
  unfolding root_from
  root_some f er = er ∙ sym (ap (root_from s) f) ∙ from

  pub root_none : e ≡ Last → Refused ≡ root_at s
  unfolding root_from
  root_none f = sym (ap (root_from s) f) ∙ from

-- the 64 bits of an integer are those of 1 only if it is 1
one_bits : (z : ℤ) → SFits w64 z → eqb (of_z w64 z) 1 ≡ is_1 (In z)
unfolding is_1
one_bits (pos n) f = refl
one_bits (negsuc n) f = let l : n < 2 ^ 63 = f.sfits in ne_eqb (2 ^ 64 - suc n) 1 (λ q. omega arith)

-- `not_one_at`: q is the integer at v
module _ (s : Text) (v : ℕ) {q : Integer} (eq : q ≡ integer_at s v) where
  found : not (is_1 q) ≡ not_1_at s v
  unfolding not_1_at
  found = ap (λ (x : Integer). not (is_1 x)) eq

  pub not_one_in : {z : ℤ} → q ≡ In z → SFits w64 z → not (eqb (of_z w64 z) 1) ≡ not_1_at s v
  not_one_in {z} g f = ap not (one_bits z f) ∙ sym (ap (λ (x : Integer). not (is_1 x)) g) ∙ found

  pub not_one_below : q ≡ Below → true ≡ not_1_at s v
  unfolding is_1
  not_one_below g = sym (ap (λ (x : Integer). not (is_1 x)) g) ∙ found

  pub not_one_above : q ≡ Above → true ≡ not_1_at s v
  unfolding is_1
  not_one_above g = sym (ap (λ (x : Integer). not (is_1 x)) g) ∙ found

  pub not_one_none : q ≡ None → true ≡ not_1_at s v
  unfolding is_1
  not_one_none g = sym (ap (λ (x : Integer). not (is_1 x)) g) ∙ found

-- `wrong_version`: r says whether the name is `version`, q whether the value at v isn't 1
module _ (s : Text) (i v : ℕ) {r : Bool} (er : r ≡ same_as s i (bytes "version")) where
  pub wrong_name : r ≡ false → false ≡ misnumbered s i v
  unfolding misnumbered
  wrong_name h = sym (ap (λ (b : Bool). b && not_1_at s v) (sym er ∙ h))

  pub wrong_value : r ≡ true → {q : Bool} → q ≡ not_1_at s v → q ≡ misnumbered s i v
  unfolding misnumbered
  wrong_value h eq = eq ∙ sym (ap (λ (b : Bool). b && not_1_at s v) (sym er ∙ h))
