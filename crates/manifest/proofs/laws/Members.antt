-- What cells say of `get`: so that the definitions can be believed, and so that code that finds members can be proved. Assumes nothing.
use Rattle.std.specs.Prelude.{◌≡◌, Bool, true, false, not, ◌||◌, ℕ, zero, suc, min, eqb, pos, negsuc}
use Rattle.std.proofs.Math.Path.{refl, ap}
use Rattle.std.proofs.Common.{sym, ◌∙◌, true≢false, arith, eqb-true, eq-eqb, ne_eqb}
use Rattle.std.proofs.Math.Bool.{or-false}
use mathlib.Core.List.{List, [], ◌∷◌}
use Rattle.text.specs.Reading.{pick}
use Rattle.grammar.specs.Tree.{Tree, null, bool, num, str, arr, obj, Members, get}
use Rattle.values.specs.Integer.{Whole, whole, none, integer as integer_of}
use Rattle.manifest.specs.Names.{bytes}
use Rattle.manifest.specs.Kinds.{Kind, text, integer, free, array, object, manifest, trace_time_fields}
use Rattle.manifest.specs.View.{Cell, absent, wrong, many, one, is_one, rank, rank_of, beside, join, cell, as_text, as_integer, as_free, as_array, as_object, view, row}
use Rattle.manifest.specs.Rows.{Manifest, Entry, version, every, holds, any, any_at, entries}
use Rattle.manifest.specs.Rules.{Look, fine, look, somewhere, across, not_1, emptied, bare, tested}
use Rattle.manifest.specs.Statements.{IsOne, integer_one}
use Rattle.manifest.proofs.laws.Cells.{Full, is_wrong, is_many, is_one as is-just, join_absent, join_full}
use Rattle.manifest.proofs.laws.Bools.{not_false}

integer_full : (w : Whole) → Full (as_integer w)
unfolding as_integer
integer_full (whole z) = is-just
integer_full none = is_wrong

-- a value is of the right type or of a wrong one
pub view_full : (k : Kind) (t : Tree) → Full (view k t)
unfolding view as_text as_array as_object
view_full text null = is_wrong
view_full text (bool b) = is_wrong
view_full text (num cs) = is_wrong
view_full text (str s) = is-just
view_full text (arr ts) = is_wrong
view_full text (obj ms) = is_wrong
view_full integer t = integer_full (as_free t)
view_full free t = is-just
view_full (array k) null = is_wrong
view_full (array k) (bool b) = is_wrong
view_full (array k) (num cs) = is_wrong
view_full (array k) (str s) = is_wrong
view_full (array k) (arr ts) = is-just
view_full (array k) (obj ms) = is_wrong
view_full (object fs) null = is_wrong
view_full (object fs) (bool b) = is_wrong
view_full (object fs) (num cs) = is_wrong
view_full (object fs) (str s) = is_wrong
view_full (object fs) (arr ts) = is_wrong
view_full (object fs) (obj ms) = is-just

-- the cell of a name, by what `get` finds: nothing, the one value, or the least rank of several
module _ (k : Kind) where
  unfoldable pub least : Tree → List Tree → ℕ
  least t [] = rank_of (rank k) (view k t)
  least t (u ∷ l) = min (rank_of (rank k) (view k t)) (least u l)

  pub cell_none : cell (rank k) (view k) [] ≡ absent
  unfolding cell
  cell_none = refl

  pub cell_one : (t : Tree) → cell (rank k) (view k) (t ∷ []) ≡ view k t
  unfolding cell
  cell_one t = join_absent (rank k) (view k t)

  -- of one value or more: it is full, and has the least rank
  cells : (t : Tree) (l : List Tree) → Full (cell (rank k) (view k) (t ∷ l)) × (rank_of (rank k) (cell (rank k) (view k) (t ∷ l)) ≡ least t l)
  unfolding cell least rank_of
  cells t [] = rw (join_absent (rank k) (view k t)) (view_full k t, refl)
  cells t (u ∷ l) =
      let (f, e) = cells u l in
      rw (join_full (rank k) (view_full k t) f) (is_many, ap (min (rank_of (rank k) (view k t))) e)

  -- so something stands there
  pub cell_some : (t : Tree) (l : List Tree) → Full (cell (rank k) (view k) (t ∷ l))
  cell_some t l = (cells t l).0

  pub cell_several : (t u : Tree) (l : List Tree) → cell (rank k) (view k) (t ∷ (u ∷ l)) ≡ many (least t (u ∷ l))
  unfolding cell least
  cell_several t u l = join_full (rank k) (view_full k t) (cells u l).0 ∙ ap (λ (i : ℕ). many (min (rank_of (rank k) (view k t)) i)) (cells u l).1

-- 7, of one value
unfoldable pub not_one : Tree → Bool
not_one t = not (is_one (as_free t))

pub one_is : {t : Tree} → IsOne t → not_one t ≡ false
unfolding not_one as_free is_one
one_is (integer_one e) = ap (λ (w : Whole). not (is_one w)) e

pub only_one : (t : Tree) → not_one t ≡ false → IsOne t
unfolding not_one as_free is_one
only_one null e = absurd (true≢false e)
only_one (bool b) e = absurd (true≢false e)
only_one (num cs) e = integer_one (go (integer_of cs) refl e)
  where
    go : (w : Whole) → integer_of cs ≡ w → not (is_one w) ≡ false → integer_of cs ≡ whole (pos 1)
    go (whole (pos n)) q h = q ∙ ap (λ (k : ℕ). whole (pos k)) (eqb-true n 1 (not_false (eqb n 1) h))
    go (whole (negsuc n)) q h = absurd (true≢false h)
    go none q h = absurd (true≢false h)
only_one (str s) e = absurd (true≢false e)
only_one (arr ts) e = absurd (true≢false e)
only_one (obj ms) e = absurd (true≢false e)

min_zero : (i j : ℕ) → eqb (min i j) 0 ≡ (eqb i 0 || eqb j 0)
min_zero zero j = eq-eqb (min 0 j) 0 (omega arith)
min_zero (suc i) zero = eq-eqb (min (suc i) 0) 0 (omega arith) ∙ sym (ap (λ (b : Bool). b || true) (ne_eqb (suc i) 0 (omega arith)))
min_zero (suc i) (suc j) = ne_eqb (min (suc i) (suc j)) 0 (omega arith) ∙ sym (ap (λ (b : Bool). b || eqb (suc j) 0) (ne_eqb (suc i) 0 (omega arith)) ∙ ne_eqb (suc j) 0 (omega arith))

zero_rank : (b : Bool) → eqb (pick b 1 0) 0 ≡ not b
unfolding pick
zero_rank true = refl
zero_rank false = refl

-- a further `version`
not_1_join : (w : Whole) (c : Cell Whole) → not_1 (join (rank free) (one w) c) ≡ (not (is_one w) || not_1 c)
unfolding not_1 join beside rank_of rank
not_1_join w absent = sym (or-false (not (is_one w)))
not_1_join w wrong = min_zero (pick (is_one w) 1 0) 0 ∙ ap (λ (b : Bool). b || true) (zero_rank (is_one w))
not_1_join w (many i) = min_zero (pick (is_one w) 1 0) i ∙ ap (λ (b : Bool). b || eqb i 0) (zero_rank (is_one w))
not_1_join w (one v) = min_zero (pick (is_one w) 1 0) (pick (is_one v) 1 0) ∙ (λ i. zero_rank (is_one w) i || zero_rank (is_one v) i)

not_1_any : (l : List Tree) → not_1 (cell (rank free) (λ t. one (as_free t)) l) ≡ any not_one l
unfolding not_1 cell any not_one
not_1_any [] = refl
not_1_any (t ∷ l) = not_1_join (as_free t) (cell (rank free) (λ u. one (as_free u)) l) ∙ ap (λ (b : Bool). not (is_one (as_free t)) || b) (not_1_any l)

-- 7, of the members: some `version` isn't the integer 1
pub seven : (ms : Members) → not_1 (version (row manifest ms)) ≡ any not_one (get (bytes "version") ms)
unfolding view
seven ms = not_1_any (get (bytes "version") ms)

-- 8 and 9, the split: outside the entries or in an entry, or anywhere in the manifest
pub any_at_lem : (p : Cell Entry → Bool) (i : ℕ) (l : List (Cell Entry)) → any_at (λ j e. p e) i l ≡ any p l
unfolding any_at any
any_at_lem p i [] = refl
any_at_lem p i (e ∷ l) = ap (λ (b : Bool). p e || b) (any_at_lem p (suc i) l)

regroup : (v t f x : Bool) → (v || (t || ((f || x) || false))) ≡ ((v || (t || ((f || false) || false))) || x)
regroup true t f x = refl
regroup false true f x = refl
regroup false false true x = refl
regroup false false false x = or-false x

pub split_up : (test : Bool → Look → Bool) (m : Manifest) → across test manifest m ≡ (across test manifest (bare m) || any_at (λ i e. tested test e) 0 (entries m))
unfolding somewhere emptied every any any_at holds look
split_up test (v, (t, (absent, u))) = sym (or-false _)
split_up test (v, (t, (wrong, u))) = sym (or-false _)
split_up test (v, (t, (many i, u))) = sym (or-false _)
split_up test (v, (t, (one l, u))) =
    rw (any_at_lem (tested test) 0 l) (regroup (test false (look v) || holds (λ w. false) v) (test false (look t) || holds (somewhere test (object trace_time_fields)) t) (test false fine) (any (tested test) l))
