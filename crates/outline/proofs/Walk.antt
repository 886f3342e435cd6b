-- Going through the members of an object, one after the other, for its versions. Assumes nothing.
use mathlib.Core.Path.{◌≡◌, refl, sym, ap, subst, ◌∙◌}
use mathlib.Core.Bool.{Bool, true, false, ◌&&◌, ◌||◌}
use mathlib.Core.List.{List, [], ◌∷◌}
use Prim.Native.Nat.{ℕ, suc, ◌+◌, ◌-◌, ◌≤◌, ◌<◌}
use native.Mathlib.Omega.{arith}
use lib.ListN.{length}
use lib.Dec.{eqb}
use borrow.Author.Tests.{eqb-true}
use Rattle.text.specs.Reading.{Text, Out, done, bad, deep, pick, peek}
use Rattle.text.specs.Class.{skip}
use Rattle.text.specs.Strings.{string}
use Rattle.text.specs.laws.Peek.{skip_ge, found_in}
use Rattle.text.specs.laws.Readers.{past_done, pick_case}
use Rattle.grammar.specs.Tree.{same}
use Rattle.grammar.specs.Document.{value, name, many}
use Rattle.grammar.proofs.laws.Forward.{value_forward, name_forward}
use Rattle.values.specs.Strings.{is_text, same_as}
use Rattle.places.specs.declared.Member.{Member}
use Rattle.places.specs.declared.Entry.{Entry}
use Rattle.places.specs.declared.Entry.TheVariants.{Named, Last}
use Rattle.places.specs.Places.{inner, member_place, listed, members_at, places_of, counted, member_at, entry_of, entry_from, first_member, next_member}
use Rattle.places.specs.Visits.{Passes, passes_end, passes_member}
use Rattle.places.specs.laws.Standing.{member_inv, passes_many}
use Rattle.manifest.specs.Names.{bytes}
use Rattle.manifest.specs.Rows.{any}
use Rattle.outline.specs.Outline.{not_1_at, version_places, versions_by, versions_at}
use Rattle.outline.specs.laws.Versions.{misnumbered}

-- ---- a member ends past its start, and the next one starts past its end

entry_was : (i : ℕ) (o : Out (Text × ℕ)) {a v e : ℕ} → entry_of i o ≡ Named a v e → (k : Text) × (o ≡ done (k, v) e) × (i ≡ a)
unfolding entry_of
entry_was i (done m j) {a} {v} {e} f =
    let p : i ≡ a = cc in
    let q : m.1 ≡ v = cc in
    let r : j ≡ e = cc in
    (m.0, ap (λ (x : ℕ). done (m.0, x) j) q ∙ ap (done (m.0, v)) r, p)
entry_was i (bad p) f = let z : ◌≡◌ {A = ℕ} 0 1 = cc in absurd (omega arith)
entry_was i (deep p) f = let z : ◌≡◌ {A = ℕ} 0 1 = cc in absurd (omega arith)

entry_forward : (s : Text) (i : ℕ) {a v e : ℕ} → entry_from s i ≡ Named a v e → (i ≡ a) × (a ≤ e)
unfolding entry_from
entry_forward s i {a} {v} {e} f =
    let x = entry_was i (member_place s i) f in
    let y = member_inv s i x.1 in
    let b : i ≤ y.0 = past_done name name_forward s i y.2 in
    let c : v ≤ e = past_done (value inner) (value_forward inner) s v y.4 in
    (x.2, omega (arith, x.2, y.3, skip_ge s y.0))

last_named : {a v e : ℕ} → Last ≡ Named a v e → ⊥
last_named f = let z : ◌≡◌ {A = ℕ} 0 1 = cc in omega arith

first_forward : (s : Text) (p : ℕ) {a v e : ℕ} → first_member s p ≡ Named a v e → a ≤ e
unfolding first_member
first_forward s p f =
    pick_case _ _ _ f
    (λ _ g. pick_case _ _ _ g (λ _ h. absurd (last_named h)) (λ _ h. (entry_forward s _ h).1))
    (λ _ g. absurd (last_named g))

next_forward : (s : Text) (j : ℕ) {a v e : ℕ} → next_member s j ≡ Named a v e → (a ≤ e) × (j < a) × (j < length s)
unfolding next_member
next_forward s j f =
    pick_case _ _ _ f
    (λ h g.
    let w = entry_forward s (skip s (skip s j + 1)) g in
    let l : skip s j < length s = found_in s (skip s j) refl (eqb-true _ _ h) tt in
    (w.1, omega (arith, w.0, skip_ge s (skip s j + 1), skip_ge s j), omega (arith, skip_ge s j)))
    (λ _ g. absurd (last_named g))

-- how much of the text is ahead: it falls with each member
unfoldable pub ahead : Text → Entry → ℕ
ahead s (Named i v j) = suc (length s - i)
ahead s Last = 0

falls : (s : Text) {i j : ℕ} → i ≤ j → (e : Entry) → next_member s j ≡ e → ahead s e < suc (length s - i)
unfolding ahead
falls s h (Named a v k) f = let w = next_forward s _ f in omega (arith, w.1, w.2)
falls s h Last f = omega arith

-- ---- the members passed

record Turn (s : Text) (i v j : ℕ) (ps : List (Text × ℕ)) : Type 0 where
  called : Text
  until : ℕ
  rest : List (Text × ℕ)
  is : ps ≡ (called, v) ∷ rest
  read : string s i ≡ done called until
  on : Passes s (next_member s j) rest

turn : {s : Text} {e : Entry} {i v j : ℕ} {ps : List (Text × ℕ)} → Passes s e ps → e ≡ Named i v j → Turn s i v j ps
turn passes_end f = absurd (last_named f)
turn {s} {i = i} {v = v} {j = j} (passes_member {i = a} {j = b} {n = n} {m = m} {ps = qs} o p) f =
    let x : a ≡ i = cc in
    let y : m.1 ≡ v = cc in
    let z : b ≡ j = cc in
    let with : ℕ → List (Text × ℕ) = λ w. (m.0, w) ∷ qs in
    record {
      called = m.0;
      until = n;
      rest = qs;
      is = ap with y;
      read = ap (string s) (sym x) ∙ o;
      on = subst (λ (w : ℕ). Passes s (next_member s w) qs) z p;
    }

none_left : {s : Text} {e : Entry} {ps : List (Text × ℕ)} → Passes s e ps → e ≡ Last → ps ≡ []
none_left passes_end f = refl
none_left (passes_member o p) f = absurd (last_named (sym f))

-- ---- the versions among them

abbrev its : Text
its = bytes "version"

-- what is left, after versions that are all 1, decides
pub record Walking (s : Text) (p : ℕ) (e : Entry) : Type 0 where
  pub left : List (Text × ℕ)
  pub passes : Passes s e left
  pub same_left : versions_at s p ≡ pick (any (not_1_at s) (places_of its left)) 7 0
  pub onward : (i v j : ℕ) → e ≡ Named i v j → i ≤ j

any_member : (s : Text) (b : Bool) (v : ℕ) (vs : List ℕ) → any (not_1_at s) (pick b (v ∷ vs) vs) ≡ ((b && not_1_at s v) || any (not_1_at s) vs)
unfolding any pick
any_member s true v vs = refl
any_member s false v vs = refl

counted_some : (ps : List ℕ) {n : ℕ} → n ≡ (counted ps).count → (n ≡ 0 → ⊥) → (v : ℕ) × (vs : List ℕ) × (ps ≡ v ∷ vs)
unfolding counted
counted_some [] e h = absurd (h e)
counted_some (v ∷ vs) e h = (v, vs, refl)

counted_none : (ps : List ℕ) {n : ℕ} → n ≡ (counted ps).count → n ≡ 0 → ps ≡ []
unfolding counted
counted_none [] e h = refl
counted_none (v ∷ []) e h = absurd (omega arith)
counted_none (v ∷ (w ∷ vs)) e h = absurd (omega arith)

counted_one : (ps : List ℕ) {m : Member} → m ≡ counted ps → m.count ≡ 1 → ps ≡ m.at ∷ []
unfolding counted
counted_one [] e h = absurd (omega (arith, ap (λ (x : Member). x.count) e))
counted_one (v ∷ []) e h = ap (λ (x : ℕ). x ∷ []) (sym (ap (λ (x : Member). x.at) e))
counted_one (v ∷ (w ∷ vs)) e h = absurd (omega (arith, ap (λ (x : Member). x.count) e))

-- members with a name are members that were read
members_read : (s : Text) (p : ℕ) {v : ℕ} {vs : List ℕ} → places_of its (members_at s p) ≡ v ∷ vs → Passes s (first_member s p) (members_at s p)
unfolding members_at places_of pick listed
members_read s p {v} {vs} e = go (eqb (peek s p) 123) (many member_place 125 s (p + 1)) refl refl e
  where
    go : (b : Bool) (o : Out (List (Text × ℕ))) → eqb (peek s p) 123 ≡ b → many member_place 125 s (p + 1) ≡ o → places_of its (pick b (listed o) []) ≡ v ∷ vs → Passes s (first_member s p) (pick b (listed o) [])
    go true (done ms m) f g h = passes_many s p (eqb-true _ _ f) g
    go true (bad q) f g h = let z : ◌≡◌ {A = ℕ} 0 1 = cc in absurd (omega arith)
    go true (deep q) f g h = let z : ◌≡◌ {A = ℕ} 0 1 = cc in absurd (omega arith)
    go false o f g h = let z : ◌≡◌ {A = ℕ} 0 1 = cc in absurd (omega arith)

module _ (s : Text) (p : ℕ) {n : ℕ} (en : n ≡ (member_at s p its).count) where
  pub walk_none : n ≡ 0 → 6 ≡ versions_at s p
  unfolding member_at versions_at version_places versions_by
  walk_none h = sym (ap (versions_by s) (counted_none (places_of its (members_at s p)) en h))

  pub walk_start : (n ≡ 0 → ⊥) → {e : Entry} → e ≡ first_member s p → Walking s p e
  unfolding member_at versions_at version_places versions_by
  walk_start h {e} f =
      let w = counted_some (places_of its (members_at s p)) en h in
      record {
        left = members_at s p;
        passes = subst (λ (x : Entry). Passes s x (members_at s p)) (sym f) (members_read s p w.2);
        same_left = ap (versions_by s) w.2 ∙ ap (λ (vs : List ℕ). pick (any (not_1_at s) vs) 7 0) (sym w.2);
        onward = λ i v j g. first_forward s p (sym f ∙ g);
      }

-- one version, found with its place, decides alone: b says whether it isn't 1
module _ (s : Text) (p : ℕ) {m : Member} (em : m ≡ member_at s p its) (h : m.count ≡ 1) {b : Bool} (eb : b ≡ not_1_at s m.at) where
  by_one : versions_at s p ≡ pick (b || false) 7 0
  unfolding member_at versions_at version_places versions_by any
  by_one =
      ap (versions_by s) (counted_one (places_of its (members_at s p)) em h)
      ∙ ap (λ (x : Bool). pick (x || false) 7 0) (sym eb)

  pub one_wrong : b ≡ true → 7 ≡ versions_at s p
  unfolding pick
  one_wrong g = sym (by_one ∙ ap (λ (x : Bool). pick (x || false) 7 0) g)

  pub one_right : b ≡ false → 0 ≡ versions_at s p
  unfolding pick
  one_right g = sym (by_one ∙ ap (λ (x : Bool). pick (x || false) 7 0) g)

module _ (s : Text) (p : ℕ) (e : Entry) (l : Walking s p e) where
  pub walk_end : e ≡ Last → 0 ≡ versions_at s p
  unfolding places_of any pick
  walk_end f = sym (l.same_left ∙ ap (λ (ps : List (Text × ℕ)). pick (any (not_1_at s) (places_of its ps)) 7 0) (none_left l.passes f))

  module _ {i v j : ℕ} (f : e ≡ Named i v j) {w : Bool} (ew : w ≡ misnumbered s i v) where
    its_turn : Turn s i v j l.left
    its_turn = turn l.passes f

    there : versions_at s p ≡ pick (w || any (not_1_at s) (places_of its its_turn.rest)) 7 0
    unfolding places_of misnumbered same_as is_text
    there =
        let t = its_turn in
        l.same_left
        ∙ ap (λ (ps : List (Text × ℕ)). pick (any (not_1_at s) (places_of its ps)) 7 0) t.is
        ∙ ap (λ (b : Bool). pick b 7 0) (any_member s (same t.called its) v (places_of its t.rest))
        ∙ ap (λ (o : Out Text). pick ((is_text o its && not_1_at s v) || any (not_1_at s) (places_of its t.rest)) 7 0) (sym t.read)
        ∙ ap (λ (b : Bool). pick (b || any (not_1_at s) (places_of its t.rest)) 7 0) (sym ew)

    pub walk_hit : w ≡ true → 7 ≡ versions_at s p
    unfolding pick
    walk_hit h = sym (there ∙ ap (λ (b : Bool). pick (b || any (not_1_at s) (places_of its its_turn.rest)) 7 0) h)

    module _ (h : w ≡ false) {x : Entry} (ex : x ≡ next_member s j) where
      pub walk_on : Walking s p x
      walk_on =
          let t = its_turn in
          record {
            left = t.rest;
            passes = subst (λ (y : Entry). Passes s y t.rest) (sym ex) t.on;
            same_left = there ∙ ap (λ (b : Bool). pick (b || any (not_1_at s) (places_of its t.rest)) 7 0) h;
            onward = λ a b c g. (next_forward s j (sym ex ∙ g)).0;
          }

      pub walk_falls : ahead s x < ahead s e
      unfolding ahead
      walk_falls =
          let g : ahead s e ≡ suc (length s - i) = ap (ahead s) f in
          omega (arith, falls s (l.onward i v j f) x (sym ex), g)
