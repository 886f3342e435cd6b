-- A text that holds the manifest object and nothing else, told by one pass: the first member of the outermost object, and then its end. Assumes nothing.
use Rattle.std.specs.Prelude.{◌≡◌, true, [], ◌∷◌, ℕ, suc, ◌+◌, length, eqb}
use Rattle.std.proofs.Common.{sym, ◌∙◌, arith, eq-eqb, ne_eqb, eqb-true}
use Rattle.std.proofs.Math.Path.{ap}
use Rattle.text.specs.Reading.{Text, done, pick, peek}
use Rattle.text.specs.Class.{skip}
use Rattle.text.specs.laws.Readers.{pick_true, pick_false, next_was}
use Rattle.grammar.specs.Tree.{Tree, obj, Members, members}
use Rattle.grammar.specs.Document.{object_tree, value, name, member, items, ending, read}
use Rattle.grammar.proofs.laws.Levels.{value_more}
use Rattle.grammar.proofs.laws.Names.{quote_first}
use Rattle.grammar.proofs.laws.Firm.{either_object, many_items, items_turn, after_closed, member_read}
use Rattle.values.specs.Stands.{Stands, kind_by, kind_at}
use Rattle.places.specs.declared.Entry.TheVariants.{Named, Last}
use Rattle.places.specs.Places.{inner, named_place, value_place, member_place, entry_of, entry_from, first_member, next_member}
use Rattle.places.specs.laws.Standing.{name_string, object_of}
use Rattle.outline.specs.declared.Standing.TheVariants.{At}
use Rattle.outline.specs.Outline.{object_at, alone, root_from, root_at}

-- past a member that ends at j the object ends, and the text with it
pub record Closes (s : Text) (j : ℕ) : Type 0 where
  pub brace : peek s (skip s j) ≡ 125
  pub end : peek s (skip s (skip s j + 1)) ≡ 256

-- as the code finds it: a is the byte past the member, b the byte past the brace
pub closed : (s : Text) (j : ℕ) {k a n b : ℕ} → k ≡ skip s j → a ≡ peek s k → a ≡ 125 → n ≡ skip s (k + 1) → b ≡ peek s n → eqb b 256 ≡ true → Closes s j
closed s j ek ea ha en eb hb = record {
  brace = sym (ap (peek s) ek) ∙ sym ea ∙ ha;
  end = ap (λ (x : ℕ). peek s (skip s (x + 1))) (sym ek) ∙ ap (peek s) (sym en) ∙ sym eb ∙ eqb-true _ _ hb;
}

-- ---- what the text holds

-- an object of one member, whatever the number of levels (a variable here: sixteen levels written out take the prover long)
one_member : (levels : ℕ) (s : Text) (p j : ℕ) {k : Text} {t : Tree} → peek s p ≡ 123 → (peek s (skip s (p + 1)) ≡ 125 → ⊥) → member (value levels) s (skip s (p + 1)) ≡ done (k, t) j → peek s (skip s j) ≡ 125 → value (suc levels) s p ≡ done (obj (members ((k, t) ∷ []))) (skip s j + 1)
unfolding value object_tree
one_member levels s p j {k} {t} opens some reads brace =
    either_object s p _ _ opens
    ∙ next_was _ (
    many_items (member (value levels)) 125 s (p + 1) some
    ∙ items_turn (member (value levels)) 125 (length s) s (p + 1) reads
    ∙ after_closed 125 (items (member (value levels)) 125 (length s)) s (k, t) j brace
    )

-- the name k ends at j, and its value stands at v and ends at e, where the text closes
module _ (s : Text) {k : Text} {j v e : ℕ} {ms : Members} (begins : peek s (skip s 0) ≡ 123) (named : name s (skip s (skip s 0 + 1)) ≡ done k j) (ev : v ≡ skip s j) (reads : value inner s v ≡ done (obj ms) e) (c : Closes s e) where
  its_value : value inner s (skip s j) ≡ done (obj ms) e
  its_value = ap (value inner s) (sym ev) ∙ reads

  -- a name starts with no brace
  opens : peek s (skip s (skip s 0 + 1)) ≡ 125 → ⊥
  opens h = let w = name_string s (skip s (skip s 0 + 1)) named in let q : peek s (skip s (skip s 0 + 1)) ≡ 34 = quote_first s (skip s (skip s 0 + 1)) w.1 in omega arith

  -- it is a document with one member
  pub sole : read s ≡ done (obj (members ((k, obj ms) ∷ []))) (skip s (skip s e + 1))
  unfolding read ending
  sole =
      next_was _ (one_member inner s (skip s 0) e begins opens (member_read (value inner) s (skip s (skip s 0 + 1)) named its_value) c.brace)
      ∙ pick_true _ _ (eq-eqb _ _ c.end)

  first_is : first_member s (skip s 0) ≡ Named (skip s (skip s 0 + 1)) v e
  unfolding first_member entry_from entry_of member_place value_place named_place
  first_is =
      pick_true _ _ (eq-eqb _ _ begins)
      ∙ pick_false _ _ (ne_eqb _ _ opens)
      ∙ ap (entry_of (skip s (skip s 0 + 1))) (next_was _ named ∙ next_was _ its_value)
      ∙ ap (λ (x : ℕ). Named (skip s (skip s 0 + 1)) x e) (sym ev)

  -- and no second member comes
  no_second : next_member s e ≡ Last
  unfolding next_member
  no_second = pick_false _ _ (ne_eqb (peek s (skip s e)) 44 (λ q. omega (arith, c.brace)))

  -- a brace opens the value
  brace : (peek s v ≡ 123)
  brace = (object_of (stands_low v reads)).opens
    where
      stands_low : (p : ℕ) → value inner s p ≡ done (obj ms) e → Stands s p (obj ms)
      stands_low p r = record { until = e; reads = value_more inner s p (obj ms) e r }

  pub sole_root : root_at s ≡ At v
  unfolding root_at root_from alone kind_at object_at kind_by pick
  sole_root = ap (root_from s) first_is ∙ ap (alone s v) no_second ∙ ap (λ (b : ℕ). object_at v (kind_by b)) brace
