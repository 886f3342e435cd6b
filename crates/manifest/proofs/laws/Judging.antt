-- The algorithm for 8 and 9 as code would run it, by numbers of kinds and lines of the table, and that it judges as the definition does.
use Rattle.std.specs.Prelude.{◌≡◌, Bool, ◌||◌, ◌&&◌, eqb, ltb}
use Rattle.std.proofs.Math.Path.{refl, sym, ap, fun_ext}
use Rattle.std.proofs.Common.{◌∙◌, true≢false, arith, lit<, eq-eqb, ne_eqb, ltb-true}
use Rattle.std.proofs.Math.Bool.{true, false}
use mathlib.Core.List.{List, [], ◌∷◌}
use Prim.Native.Nat.{ℕ, zero, suc, ◌<◌}
use Rattle.std.proofs.Math.Decide.{ℕ_discrete}
use Rattle.text.specs.Reading.{pick}
use Rattle.grammar.specs.Tree.{Tree, null, bool, num, str, arr, obj, Trees, Members, list_of_trees, get}
use Rattle.values.specs.Integer.{Whole, whole, none, integer as integer_of}
use Rattle.manifest.specs.Kinds.{Kind, integer, array, object}
use Rattle.manifest.specs.View.{view, as_text, as_integer, as_free}
use Rattle.manifest.specs.Rows.{any, holds}
use Rattle.manifest.specs.Rules.{Look, missing, mistyped, repeated, fine, look, somewhere}
use Rattle.manifest.proofs.laws.Judge.{tag_number, tag, not_a_text, not_an_array, not_an_object, fits, judged, judged_wrong, judged_array}
use Rattle.manifest.proofs.laws.Table.{Line, lines, kind_at, fields_at, falling, falls}
use Rattle.manifest.proofs.laws.Walk.{said, from, from_all, other_place, no_member, one_value, more_values}

module _ (test : Bool → Look → Bool) where
  abbrev Judge : Type 0
  Judge = ℕ → Bool → Tree → Bool

  -- one line, by how many members there are
  unfoldable pub by_count : Judge → Line → List Tree → Bool
  by_count rec l [] = test l.asked missing || false
  by_count rec l (t ∷ []) = rec l.kind l.asked t
  by_count rec l (t ∷ (u ∷ us)) = test l.asked repeated || false

  -- the loop over the lines
  unfoldable pub over : Judge → ℕ → Members → List Line → Bool
  over rec p ms [] = false
  over rec p ms (l ∷ ls) = pick (eqb l.place p) (by_count rec l (get l.name ms) || over rec p ms ls) (over rec p ms ls)

  -- below a value whose type fits
  unfoldable pub below : Judge → ℕ → Tree → Bool
  below rec k null = false
  below rec k (bool b) = false
  below rec k (str s) = false
  below rec k (num x) = false
  below rec k (arr ts) = pick (eqb k 7) (any (rec 5 true) (list_of_trees ts)) (pick (eqb k 9) (any (rec 8 true) (list_of_trees ts)) false)
  below rec k (obj ms) = over rec k ms lines

  unfoldable pub judge : ℕ → Judge
  judge zero k r t = false
  judge (suc f) k r t = pick (fits (kind_at k) (tag t)) (test r fine || below (judge f) k t) (test r mistyped || false)

  -- a judge that is right for all kinds below p
  Right : ℕ → Judge → Type 0
  Right p rec = (k : ℕ) (r : Bool) (t : Tree) → k < p → rec k r t ≡ judged test r (kind_at k) t

  halves : (a b : Bool) → (a && b) ≡ true → (a ≡ true) × (b ≡ true)
  halves true b e = (refl, e)
  halves false b e = absurd (true≢false (sym e))

  line_right : (p : ℕ) (ms : Members) (rec : Judge) → Right p rec → (l : Line) (ls : List Line) → l.kind < p → (h : l.place ≡ p) → (g : List Tree) → get l.name ms ≡ g
      → from test p ms (l ∷ ls) ≡ (by_count rec l g || from test p ms ls)
  unfolding by_count Right
  line_right p ms rec ok l ls lt h [] e = no_member test p ms l ls h e
  line_right p ms rec ok l ls lt h (t ∷ []) e = one_value test p ms l ls h e ∙ ap (λ (b : Bool). b || from test p ms ls) (sym (ok l.kind l.asked t lt))
  line_right p ms rec ok l ls lt h (t ∷ (u ∷ us)) e = more_values test p ms l ls h e

  over_right : (p : ℕ) (ms : Members) (rec : Judge) → Right p rec → (ls : List Line) → falling ls ≡ true → over rec p ms ls ≡ from test p ms ls
  unfolding over said fields_at somewhere falling pick
  over_right p ms rec ok [] f = refl
  over_right p ms rec ok (l ∷ ls) f =
      let (a, b) = halves (ltb l.kind l.place) (falling ls) f in
      go (over_right p ms rec ok ls b) (ltb-true l.kind l.place a) (ℕ_discrete l.place p)
    where
      go : over rec p ms ls ≡ from test p ms ls → l.kind < l.place → Dec (l.place ≡ p)
          → pick (eqb l.place p) (by_count rec l (get l.name ms) || over rec p ms ls) (over rec p ms ls) ≡ from test p ms (l ∷ ls)
      go ih lt (yes h) =
          ap (λ (b : Bool). pick b (by_count rec l (get l.name ms) || over rec p ms ls) (over rec p ms ls)) (eq-eqb l.place p h)
          ∙ (ap (λ (b : Bool). by_count rec l (get l.name ms) || b) ih ∙ sym (line_right p ms rec ok l ls (omega arith) h (get l.name ms) refl))
      go ih lt (no h) =
          ap (λ (b : Bool). pick b (by_count rec l (get l.name ms) || over rec p ms ls) (over rec p ms ls)) (ne_eqb l.place p h)
          ∙ (ih ∙ sym (other_place test p ms l ls h))

  -- the kinds, by their numbers
  abbrev Fit : ℕ → Judge → Type 0
  Fit k rec = (r : Bool) (t : Tree) → fits (kind_at k) (tag t) ≡ true → (test r fine || below rec k t) ≡ judged test r (kind_at k) t

  object_right : (p : ℕ) (rec : Judge) → kind_at p ≡ object (fields_at p lines) → Right p rec → Fit p rec
  unfolding below fits tag
  object_right p rec e ok r null h = absurd (true≢false (sym h ∙ ap (λ (k : Kind). fits k 0) e))
  object_right p rec e ok r (bool b) h = absurd (true≢false (sym h ∙ ap (λ (k : Kind). fits k 1) e))
  object_right p rec e ok r (str s) h = absurd (true≢false (sym h ∙ ap (λ (k : Kind). fits k 2) e))
  object_right p rec e ok r (num cs) h = absurd (true≢false (sym h ∙ (ap (λ (k : Kind). fits k (tag_number (integer_of cs))) e ∙ not_an_object (integer_of cs))))
  object_right p rec e ok r (arr ts) h = absurd (true≢false (sym h ∙ ap (λ (k : Kind). fits k 5) e))
  object_right p rec e ok r (obj ms) h = ap (λ (b : Bool). test r fine || b) (over_right p ms rec ok lines falls) ∙ sym (from_all test p ms r e)

  array_right : (p q : ℕ) (rec : Judge) → kind_at p ≡ array (kind_at q) → q < p → ((ts : Trees) → below rec p (arr ts) ≡ any (rec q true) (list_of_trees ts)) → Right p rec → Fit p rec
  unfolding fits tag Right
  array_right p q rec e lt b ok r null h = absurd (true≢false (sym h ∙ ap (λ (k : Kind). fits k 0) e))
  array_right p q rec e lt b ok r (bool x) h = absurd (true≢false (sym h ∙ ap (λ (k : Kind). fits k 1) e))
  array_right p q rec e lt b ok r (str s) h = absurd (true≢false (sym h ∙ ap (λ (k : Kind). fits k 2) e))
  array_right p q rec e lt b ok r (num cs) h = absurd (true≢false (sym h ∙ (ap (λ (k : Kind). fits k (tag_number (integer_of cs))) e ∙ not_an_array (integer_of cs))))
  array_right p q rec e lt b ok r (arr ts) h =
      ap (λ (x : Bool). test r fine || x) (b ts ∙ ap (λ (g : Tree → Bool). any g (list_of_trees ts)) (fun_ext (λ t. ok q true t lt)))
      ∙ sym (ap (λ (k : Kind). judged test r k (arr ts)) e ∙ judged_array test r (kind_at q) ts)
  array_right p q rec e lt b ok r (obj ms) h = absurd (true≢false (sym h ∙ ap (λ (k : Kind). fits k 6) e))

  text_right : (rec : Judge) → Fit 0 rec
  unfolding below fits tag kind_at judged view as_text look holds somewhere
  text_right rec r null h = absurd (true≢false (sym h))
  text_right rec r (bool x) h = absurd (true≢false (sym h))
  text_right rec r (str s) h = refl
  text_right rec r (num cs) h = absurd (true≢false (sym h ∙ not_a_text (integer_of cs)))
  text_right rec r (arr ts) h = absurd (true≢false (sym h))
  text_right rec r (obj ms) h = absurd (true≢false (sym h))

  integer_number : (r : Bool) (w : Whole) → eqb (tag_number w) 3 ≡ true → (test r fine || false) ≡ (test r (look (as_integer w)) || holds (somewhere test integer) (as_integer w))
  unfolding tag_number as_integer look holds somewhere
  integer_number r (whole z) h = refl
  integer_number r none h = absurd (true≢false (sym h))

  integer_right : (rec : Judge) → Fit 1 rec
  unfolding below fits tag kind_at judged view as_integer as_free look holds somewhere
  integer_right rec r null h = absurd (true≢false (sym h))
  integer_right rec r (bool x) h = absurd (true≢false (sym h))
  integer_right rec r (str s) h = absurd (true≢false (sym h))
  integer_right rec r (num cs) h = integer_number r (integer_of cs) h
  integer_right rec r (arr ts) h = absurd (true≢false (sym h))
  integer_right rec r (obj ms) h = absurd (true≢false (sym h))

  free_right : (rec : Judge) → Fit 2 rec
  unfolding below over kind_at judged view look holds somewhere pick
  free_right rec r null h = refl
  free_right rec r (bool x) h = refl
  free_right rec r (str s) h = refl
  free_right rec r (num x) h = refl
  free_right rec r (arr ts) h = refl
  free_right rec r (obj ms) h = refl

  fit : (k : ℕ) (rec : Judge) → k < 12 → Right k rec → Fit k rec
  unfolding below pick kind_at fields_at
  fit zero rec l ok = text_right rec
  fit (suc zero) rec l ok = integer_right rec
  fit (suc (suc zero)) rec l ok = free_right rec
  fit (suc (suc (suc zero))) rec l ok = object_right 3 rec refl ok
  fit (suc (suc (suc (suc zero)))) rec l ok = object_right 4 rec refl ok
  fit (suc (suc (suc (suc (suc zero))))) rec l ok = object_right 5 rec refl ok
  fit (suc (suc (suc (suc (suc (suc zero)))))) rec l ok = object_right 6 rec refl ok
  fit (suc (suc (suc (suc (suc (suc (suc zero))))))) rec l ok = array_right 7 5 rec refl (lit< tt) (λ ts. refl) ok
  fit (suc (suc (suc (suc (suc (suc (suc (suc zero)))))))) rec l ok = object_right 8 rec refl ok
  fit (suc (suc (suc (suc (suc (suc (suc (suc (suc zero))))))))) rec l ok = array_right 9 8 rec refl (lit< tt) (λ ts. refl) ok
  fit (suc (suc (suc (suc (suc (suc (suc (suc (suc (suc zero)))))))))) rec l ok = object_right 10 rec refl ok
  fit (suc (suc (suc (suc (suc (suc (suc (suc (suc (suc (suc zero))))))))))) rec l ok = object_right 11 rec refl ok
  fit (suc (suc (suc (suc (suc (suc (suc (suc (suc (suc (suc (suc k)))))))))))) rec l ok = absurd (omega arith)

  -- the algorithm is right, with the kind as its measure
  pub judge_right : (f k : ℕ) → k < f → k < 12 → (r : Bool) (t : Tree) → judge f k r t ≡ judged test r (kind_at k) t
  unfolding judge pick Right
  judge_right zero k l b r t = absurd (omega arith)
  judge_right (suc f) k l b r t = go (λ j q u m. judge_right f j (omega arith) (omega arith) q u) (fits (kind_at k) (tag t)) refl
    where
      go : Right k (judge f) → (c : Bool) → fits (kind_at k) (tag t) ≡ c → pick c (test r fine || below (judge f) k t) (test r mistyped || false) ≡ judged test r (kind_at k) t
      go ok true e = fit k (judge f) b ok r t e
      go ok false e = sym (judged_wrong test r (kind_at k) t e)
