-- The questions about members and items, in the terms that the loops meet. Assumes nothing.
use mathlib.Core.Path.{◌≡◌, refl, sym, ap, ◌∙◌}
use mathlib.Core.Bool.{Bool}
use mathlib.Core.List.{List, [], ◌∷◌}
use Prim.Native.Nat.{ℕ, ◌+◌, ◌≤◌, ◌<◌}
use native.Mathlib.Omega.{arith}
use lib.ListN.{length}
use borrow.Author.Tests.{eq-eqb, ne_eqb}
use Rattle.text.specs.Reading.{Text, Out, done, bad, deep, peek, scan}
use Rattle.text.specs.Class.{skip}
use Rattle.text.specs.Strings.{string}
use Rattle.text.specs.declared.Scan.{Scan}
use Rattle.text.specs.declared.Scan.TheVariants.{Done}
use Rattle.text.specs.laws.Peek.{skip_ge}
use Rattle.text.specs.laws.Readers.{past_done, next_was, pick_true, pick_false}
use Rattle.grammar.specs.Tree.{Tree, same}
use Rattle.grammar.specs.Document.{value, name, many}
use Rattle.grammar.proofs.laws.Forward.{value_forward, name_forward}
use Rattle.values.specs.Strings.{is_text, same_as}
use Rattle.values.specs.laws.Outs.{Stops, stops_next, stops_is, scan_done}
use Rattle.places.specs.declared.Member.{Member}
use Rattle.places.specs.declared.Step.{Step}
use Rattle.places.specs.declared.Step.TheVariants.{Item, End}
use Rattle.places.specs.declared.Entry.{Entry}
use Rattle.places.specs.declared.Entry.TheVariants.{Named, Last}
use Rattle.places.specs.Places.{inner, named_place, value_place, member_place, listed, members_at, places_of, counted, member_at, item_of, item_from, entry_of, entry_from}
use Rattle.places.specs.laws.Tally.{noted, tally, none, counted_is, tally_member}
use Rattle.places.specs.laws.Standing.{name_string, member_inv}
use Rattle.places.proofs.Turns.{result, Left, many_none, many_some, turn_none, turn_last, turn_wrong, turn_more}

-- ---- an item

item_stops : (v : ℕ) (o : Out Tree) → Stops o → item_of v o ≡ End
unfolding item_of
item_stops v (done t j) h = absurd (h.never t j refl)
item_stops v (bad p) h = refl
item_stops v (deep p) h = refl

pub item_none : (s : Text) (v : ℕ) → Stops (value inner s v) → End ≡ item_from s v
unfolding item_from
item_none s v h = sym (item_stops v (value inner s v) h)

pub item_some : (s : Text) (v : ℕ) {r : Scan} {j : ℕ} → r ≡ scan (value inner s v) → r ≡ Done j → Item v j ≡ item_from s v
unfolding item_from item_of
item_some s v e f = let w = scan_done (value inner s v) (sym e ∙ f) in sym (ap (item_of v) w.1)

-- what an item and no item tell
item_was : (v : ℕ) (o : Out Tree) {a j : ℕ} → item_of v o ≡ Item a j → (t : Tree) × (o ≡ done t j) × (v ≡ a)
unfolding item_of
item_was v (done t k) {a} {j} e = let p : v ≡ a = cc in let q : k ≡ j = cc in (t, ap (done t) q, p)
item_was v (bad p) e = let z : ◌≡◌ {A = ℕ} 0 1 = cc in absurd (omega arith)
item_was v (deep p) e = let z : ◌≡◌ {A = ℕ} 0 1 = cc in absurd (omega arith)

item_was_none : (v : ℕ) (o : Out Tree) → item_of v o ≡ End → Stops o
unfolding item_of
item_was_none v o e = record { never = λ t j f. no (sym (ap (item_of v) f) ∙ e) }
  where
    no : {j : ℕ} → Item v j ≡ End → ⊥
    no g = let z : ◌≡◌ {A = ℕ} 0 1 = cc in omega arith

-- ---- a member

entry_of_stops : (i : ℕ) (o : Out (Text × ℕ)) → Stops o → entry_of i o ≡ Last
unfolding entry_of
entry_of_stops i (done m j) h = absurd (h.never m j refl)
entry_of_stops i (bad p) h = refl
entry_of_stops i (deep p) h = refl

entry_was : (i : ℕ) (o : Out (Text × ℕ)) {a v e : ℕ} → entry_of i o ≡ Named a v e → (k : Text) × (o ≡ done (k, v) e) × (i ≡ a)
unfolding entry_of
entry_was i (done m j) {a} {v} {e} f =
    let p : i ≡ a = cc in
    let q : m.1 ≡ v = cc in
    let r : j ≡ e = cc in
    (m.0, ap (λ (x : ℕ). done (m.0, x) j) q ∙ ap (done (m.0, v)) r, p)
entry_was i (bad p) f = let z : ◌≡◌ {A = ℕ} 0 1 = cc in absurd (omega arith)
entry_was i (deep p) f = let z : ◌≡◌ {A = ℕ} 0 1 = cc in absurd (omega arith)

module _ (s : Text) (i : ℕ) where
  entry_stops : Stops (member_place s i) → Last ≡ entry_from s i
  unfolding entry_from
  entry_stops h = sym (entry_of_stops i (member_place s i) h)

  pub entry_none : Stops (name s i) → Last ≡ entry_from s i
  unfolding member_place
  entry_none h = entry_stops (stops_next _ _ h)

  -- the name ends at j, and v is past the whitespace
  module _ {r : Scan} {j v : ℕ} (er : r ≡ scan (name s i)) (f : r ≡ Done j) (ev : v ≡ skip s j) {w : Step} (ew : w ≡ item_from s v) where
    read_name : (k : Text) × (member_place s i ≡ value_place s k j)
    unfolding member_place
    read_name = let n = scan_done (name s i) (sym er ∙ f) in (n.0, next_was _ n.1)

    pub entry_some : {a e : ℕ} → w ≡ Item a e → Named i a e ≡ entry_from s i
    unfolding entry_from entry_of value_place named_place item_from
    entry_some {a} {e} g =
        let x = item_was v (value inner s v) (sym ew ∙ g) in
        let n = read_name in
        let y : value inner s (skip s j) ≡ done x.0 e = ap (value inner s) (sym ev) ∙ x.1 in
        let q : skip s j ≡ a = sym ev ∙ x.2 in
        ap (λ (u : ℕ). Named i u e) (sym q) ∙ sym (ap (entry_of i) (n.1 ∙ next_was _ y))

    pub entry_end : w ≡ End → Last ≡ entry_from s i
    unfolding value_place item_from
    entry_end g =
        let h = item_was_none v (value inner s v) (sym ew ∙ g) in
        let n = read_name in
        entry_stops (stops_is n.1 (stops_next _ _ (stops_is (ap (value inner s) (sym ev)) h)))

  module _ {r : Entry} (er : r ≡ entry_from s i) where
    -- what a member tells: its name, and that it ends further on
    pub named : {a v e : ℕ} → r ≡ Named a v e → (k : Text) × (member_place s i ≡ done (k, v) e) × ((n : Text) → same_as s a n ≡ same k n) × (i ≤ e)
    unfolding entry_from same_as is_text
    named {a} {v} {e} f =
        let x = entry_was i (member_place s i) (sym er ∙ f) in
        let y = member_inv s i x.1 in
        let z = name_string s i y.2 in
        let le : i ≤ y.0 = past_done name name_forward s i y.2 in
        let lv : v ≤ e = past_done (value inner) (value_forward inner) s v y.4 in
        (x.0, x.1, λ n. ap (λ (u : ℕ). is_text (string s u) n) (sym x.2) ∙ ap (λ (o : Out Text). is_text o n) z.1, omega (arith, skip_ge s y.0, y.3))

    pub unnamed : r ≡ Last → Stops (member_place s i)
    unfolding entry_from entry_of
    unnamed f = record { never = λ m j g. no (sym (ap (entry_of i) g) ∙ sym er ∙ f) }
      where
        no : {v e : ℕ} → Named i v e ≡ Last → ⊥
        no g = let z : ◌≡◌ {A = ℕ} 0 1 = cc in omega arith

-- ---- the answers

listed_result : {A B : Type 0} (f : List A → B) (o : Out (List A)) → f (listed o) ≡ result f (f []) o
unfolding listed result
listed_result f (done xs j) = refl
listed_result f (bad p) = refl
listed_result f (deep p) = refl

module _ (s : Text) (p : ℕ) where
  module _ (n : Text) where
    pub member_none : (peek s p ≡ 123 → ⊥) → none ≡ member_at s p n
    unfolding member_at members_at places_of counted
    member_none h = sym (ap (λ (ms : List (Text × ℕ)). counted (places_of n ms)) (pick_false _ _ (ne_eqb _ _ h)))

    pub member_is : peek s p ≡ 123 → result (λ (ms : List (Text × ℕ)). tally none (places_of n ms)) none (many member_place 125 s (p + 1)) ≡ member_at s p n
    unfolding member_at members_at places_of tally
    member_is h =
        sym (listed_result (λ (ms : List (Text × ℕ)). tally none (places_of n ms)) (many member_place 125 s (p + 1))) ∙ counted_is _
        ∙ ap (λ (ms : List (Text × ℕ)). counted (places_of n ms)) (sym (pick_true _ _ (eq-eqb _ _ h)))

-- ---- the loops

-- m was counted, and what is left is at i
pub record Counting (s : Text) (p : ℕ) (n : Text) (m : Member) (i : ℕ) : Type 0 where
  pub left : Left member_place 125 s (λ (ms : List (Text × ℕ)). tally m (places_of n ms)) none (member_at s p n) i

module _ (s : Text) (p : ℕ) (n : Text) {b i d : ℕ} (eb : b ≡ peek s p) (hb : b ≡ 123) (ei : i ≡ skip s (p + 1)) (ed : d ≡ peek s i) where
  pub member_empty : d ≡ 125 → none ≡ member_at s p n
  unfolding tally places_of
  member_empty h = many_none member_place 125 s (λ (ms : List (Text × ℕ)). tally none (places_of n ms)) none (p + 1) ei ed (member_is s p n (sym eb ∙ hb)) h

  pub member_start : (d ≡ 125 → ⊥) → Counting s p n none i
  member_start h =
      record { left = many_some member_place 125 s (λ (ms : List (Text × ℕ)). tally none (places_of n ms)) none (p + 1) ei ed (member_is s p n (sym eb ∙ hb)) h }

module _ (s : Text) (p : ℕ) (n : Text) (m : Member) (i : ℕ) (l : Counting s p n m i) {r : Entry} (er : r ≡ entry_from s i) where
  pub member_stop : r ≡ Last → none ≡ member_at s p n
  member_stop h = turn_none member_place 125 s _ none i l.left (unnamed s i er h)

  module _ {a v e : ℕ} (ea : r ≡ Named a v e) {hit : Bool} (eh : hit ≡ same_as s a n) {m' : Member} (em : m' ≡ noted m hit v) {k b : ℕ} (ek : k ≡ skip s e) (eb : b ≡ peek s k) where
    is_member : (x : Text × ℕ) × (member_place s i ≡ done x e) × ((ms : List (Text × ℕ)) → tally m (places_of n (x ∷ ms)) ≡ tally m' (places_of n ms)) × (i ≤ e)
    is_member =
        let w = named s i er ea in
        let x : Text × ℕ = (w.0, v) in
        (x, w.1, λ ms. tally_member n m x (eh ∙ w.2 n) ms ∙ ap (λ (y : Member). tally y (places_of n ms)) (sym em), w.3)

    pub member_last : b ≡ 125 → m' ≡ member_at s p n
    unfolding tally places_of
    member_last h =
        let w = is_member in
        sym (w.2 []) ∙ turn_last member_place 125 s (λ (ms : List (Text × ℕ)). tally m (places_of n ms)) none i l.left w.1 ek eb h

    pub member_wrong : (b ≡ 125 → ⊥) → (b ≡ 44 → ⊥) → none ≡ member_at s p n
    member_wrong g h = turn_wrong member_place 125 s (λ (ms : List (Text × ℕ)). tally m (places_of n ms)) none i l.left is_member.1 ek eb g h

    pub member_more : (b ≡ 125 → ⊥) → b ≡ 44 → {u : ℕ} → u ≡ skip s (k + 1) → (i < u) × (i < length s) × Counting s p n m' u
    member_more g h eu =
        let w = is_member in
        let t = turn_more member_place 125 s (λ (ms : List (Text × ℕ)). tally m (places_of n ms)) none i l.left w.1 ek eb g h w.3 eu (λ (ms : List (Text × ℕ)). tally m' (places_of n ms)) w.2 in
        (t.0, t.1, record { left = t.3 })
