-- A value judged by the number of its kind, for the flaw that is looked for; and 8 and 9 as two such searches. Assumes nothing.
use Rattle.std.specs.Prelude.{◌≡◌, refl, Bool, true, false, ◌||◌, ℕ, ◌<◌}
use Rattle.std.proofs.Common.{sym, ap, ◌∙◌, true≢false, arith, eq-eqb, ne_eqb}
use Rattle.text.specs.Reading.{pick}
use Rattle.grammar.specs.Tree.{Tree, null, bool, num, str, arr, obj, Trees, Members, list_of_trees}
use Rattle.values.specs.Integer.{integer as integer_of}
use Rattle.manifest.specs.Kinds.{Kind, text, integer, manifest}
use Rattle.manifest.specs.View.{Cell, absent, wrong, many, one, View, view, as_object, row}
use Rattle.manifest.specs.Rows.{holds, any}
use Rattle.manifest.specs.Rules.{Look, mistyped, fine, look, somewhere, twice, ill, applies, first, refusal_8_known_member_twice, refusal_9_wrong_type_or_absent}
use Rattle.manifest.proofs.laws.Members.{split_up}
use Rattle.manifest.proofs.laws.Judge.{tag_number, tag, not_an_array, not_an_object, fits, judged, look_is, judged_wrong, judged_object, judged_array}
use Rattle.manifest.proofs.laws.Table.{lines, kind_at}
use Rattle.manifest.proofs.laws.Walk.{from, from_all}
use Rattle.members.specs.Members.{member_rules, member_refusal_of}
use Rattle.members.specs.laws.Flaw.{sought}
use Rattle.table.specs.Table.{wanted_of}
use Rattle.table.specs.laws.Lines.{item_of, fits_wanted, Sort, an_object, an_array, a_text, an_integer, sort}

-- a value that is there is a flaw only by its type
fine_none : (b r : Bool) → (sought b r fine || false) ≡ false
unfolding sought
fine_none true r = refl
fine_none false r = refl

fine_onward : (b r x : Bool) → (sought b r fine || x) ≡ x
unfolding sought
fine_onward true r x = refl
fine_onward false r x = refl

mistyped_ill : (b r : Bool) → (sought b r mistyped || false) ≡ b
unfolding sought
mistyped_ill true r = refl
mistyped_ill false r = refl

-- ---- a value

-- below a text and below an integer there is nothing
below_text : (test : Bool → Look → Bool) (c : Cell (View text)) → holds (somewhere test text) c ≡ false
unfolding holds somewhere
below_text test absent = refl
below_text test wrong = refl
below_text test (many i) = refl
below_text test (one v) = refl

below_integer : (test : Bool → Look → Bool) (c : Cell (View integer)) → holds (somewhere test integer) c ≡ false
unfolding holds somewhere
below_integer test absent = refl
below_integer test wrong = refl
below_integer test (many i) = refl
below_integer test (one v) = refl

scalar_fine : (b r : Bool) (k : Kind) → ((c : Cell (View k)) → holds (somewhere (sought b) k) c ≡ false) → (t : Tree) → fits k (tag t) ≡ true → judged (sought b) r k t ≡ false
unfolding judged pick
scalar_fine b r k none t h =
    (λ i. sought b r ((look_is k t ∙ ap (λ (x : Bool). pick x fine mistyped) h) i) || none (view k t) i) ∙ fine_none b r

-- a value of any type is fine where any may stand
pub free_judged : {k : ℕ} → k ≡ 2 → (b r : Bool) (t : Tree) → false ≡ judged (sought b) r (kind_at k) t
unfolding kind_at judged view look holds somewhere
free_judged e b r t = sym (ap (λ (n : ℕ). judged (sought b) r (kind_at n) t) e ∙ fine_none b r)

module _ (k : ℕ) (small : k < 12) (bound : k ≡ 2 → ⊥) (b r : Bool) (t : Tree) where
  -- a value of a wrong type
  pub wrong_judged : (tag t ≡ wanted_of k → ⊥) → b ≡ judged (sought b) r (kind_at k) t
  wrong_judged h =
      sym (judged_wrong (sought b) r (kind_at k) t (fits_wanted k (tag t) small bound ∙ ne_eqb (tag t) (wanted_of k) h) ∙ mistyped_ill b r)

  right_type : tag t ≡ wanted_of k → fits (kind_at k) (tag t) ≡ true
  right_type h = fits_wanted k (tag t) small bound ∙ eq-eqb (tag t) (wanted_of k) h

  -- a text or an integer
  pub scalar_judged : tag t ≡ wanted_of k → (tag t ≡ 5 → ⊥) → (tag t ≡ 6 → ⊥) → false ≡ judged (sought b) r (kind_at k) t
  scalar_judged h no_array no_object = go (sort k small bound)
    where
      judged_as : {q : Kind} → kind_at k ≡ q → ((c : Cell (View q)) → holds (somewhere (sought b) q) c ≡ false) → false ≡ judged (sought b) r (kind_at k) t
      judged_as {q} e none = sym (ap (λ (x : Kind). judged (sought b) r x t) e ∙ scalar_fine b r q none t (sym (ap (λ (x : Kind). fits x (tag t)) e) ∙ right_type h))

      go : Sort k → false ≡ judged (sought b) r (kind_at k) t
      go (an_object w e) = absurd (no_object (h ∙ w))
      go (an_array w e l) = absurd (no_array (h ∙ w))
      go (a_text w e) = judged_as e (below_text (sought b))
      go (an_integer w e) = judged_as e (below_integer (sought b))

-- what is an array or an object by its type
pub is_array : (t : Tree) → tag t ≡ 5 → (ts : Trees) × (t ≡ arr ts)
unfolding tag
is_array null h = absurd (omega arith)
is_array (bool x) h = absurd (omega arith)
is_array (str x) h = absurd (omega arith)
is_array (num cs) h = absurd (true≢false (sym (eq-eqb (tag_number (integer_of cs)) 5 h) ∙ not_an_array (integer_of cs)))
is_array (arr ts) h = (ts, refl)
is_array (obj ms) h = absurd (omega arith)

pub is_object : (t : Tree) → tag t ≡ 6 → (ms : Members) × (t ≡ obj ms)
unfolding tag
is_object null h = absurd (omega arith)
is_object (bool x) h = absurd (omega arith)
is_object (str x) h = absurd (omega arith)
is_object (num cs) h = absurd (true≢false (sym (eq-eqb (tag_number (integer_of cs)) 6 h) ∙ not_an_object (integer_of cs)))
is_object (arr ts) h = absurd (omega arith)
is_object (obj ms) h = (ms, refl)

module _ (k : ℕ) (small : k < 12) (bound : k ≡ 2 → ⊥) (b r : Bool) where
  -- an array is judged by its items, and their kind has a smaller number
  pub items_judged : wanted_of k ≡ 5 → (ts : Trees) → any (judged (sought b) true (kind_at (item_of k))) (list_of_trees ts) ≡ judged (sought b) r (kind_at k) (arr ts)
  items_judged w ts = go (sort k small bound)
    where
      go : Sort k → any (judged (sought b) true (kind_at (item_of k))) (list_of_trees ts) ≡ judged (sought b) r (kind_at k) (arr ts)
      go (an_object v e) = absurd (omega arith)
      go (an_array v e l) = sym (ap (λ (x : Kind). judged (sought b) r x (arr ts)) e ∙ (judged_array (sought b) r (kind_at (item_of k)) ts ∙ fine_onward b r _))
      go (a_text v e) = absurd (omega arith)
      go (an_integer v e) = absurd (omega arith)

  -- an object by the lines of the table
  pub members_judged : wanted_of k ≡ 6 → (ms : Members) → from (sought b) k ms lines ≡ judged (sought b) r (kind_at k) (obj ms)
  members_judged w ms = go (sort k small bound)
    where
      go : Sort k → from (sought b) k ms lines ≡ judged (sought b) r (kind_at k) (obj ms)
      go (an_object v e) = sym (from_all (sought b) k ms r e ∙ fine_onward b r _)
      go (an_array v e l) = absurd (omega arith)
      go (a_text v e) = absurd (omega arith)
      go (an_integer v e) = absurd (omega arith)

pub item_falls : (k : ℕ) → k < 12 → (k ≡ 2 → ⊥) → wanted_of k ≡ 5 → item_of k < k
item_falls k small bound w = go (sort k small bound)
  where
    go : Sort k → item_of k < k
    go (an_object v e) = absurd (omega arith)
    go (an_array v e l) = l
    go (a_text v e) = absurd (omega arith)
    go (an_integer v e) = absurd (omega arith)

-- ---- the manifest object

eight : (r : Bool) (ms : Members) → judged (sought false) r (kind_at 11) (obj ms) ≡ applies refusal_8_known_member_twice (row manifest ms)
unfolding sought kind_at applies refusal_8_known_member_twice
eight r ms = judged_object twice r manifest ms ∙ split_up twice (row manifest ms)

nine : (r : Bool) (ms : Members) → judged (sought true) r (kind_at 11) (obj ms) ≡ applies refusal_9_wrong_type_or_absent (row manifest ms)
unfolding sought kind_at applies refusal_9_wrong_type_or_absent
nine r ms = judged_object ill r manifest ms ∙ split_up ill (row manifest ms)

-- 8 and 9 are two searches
pub both_flaws : (r : Bool) (t : Tree) → member_refusal_of t ≡ pick (judged (sought false) r (kind_at 11) t) 8 (pick (judged (sought true) r (kind_at 11) t) 9 0)
unfolding member_refusal_of judged sought kind_at view as_object look holds pick first refusal_8_known_member_twice refusal_9_wrong_type_or_absent
both_flaws r null = refl
both_flaws r (bool x) = refl
both_flaws r (num cs) = refl
both_flaws r (str s) = refl
both_flaws r (arr ts) = refl
both_flaws r (obj ms) = either r ms
  where
    either : (q : Bool) (ns : Members) → first member_rules (row manifest ns) ≡ pick (judged (sought false) q (kind_at 11) (obj ns)) 8 (pick (judged (sought true) q (kind_at 11) (obj ns)) 9 0)
    either q ns = λ i. pick (sym (eight q ns) i) 8 (pick (sym (nine q ns) i) 9 0)
