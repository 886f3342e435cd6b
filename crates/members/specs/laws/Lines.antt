-- What the lines of the table say of an object, line by line and by what was seen before. Assumes nothing.
use Rattle.std.specs.Prelude.{◌≡◌, Bool, ◌&&◌, ◌||◌, length, set, drop}
use Rattle.std.proofs.Math.Path.{refl, sym, ap}
use Rattle.std.proofs.Common.{◌∙◌, true≢false, arith, get_or-set_other}
use Rattle.std.proofs.Math.Bool.{true, false, or-false, or-true, or_assoc, and-false}
use mathlib.Core.List.{List, [], ◌∷◌}
use Prim.Native.Nat.{ℕ, zero, suc, ◌<◌, ◌≤◌}
use Rattle.std.proofs.Math.Decide.{ℕ_discrete}
use Rattle.std.proofs.Math.Dec.{eqb}
use Rattle.std.proofs.Math.ListN.{get_or, get_or-eq_default}
use Rattle.std.proofs.Math.Seq.{drop-cons, get_or-set_same}
use borrow.Author.Tests.{eq-eqb, ne_eqb, lt-ltb, le-ltb}
use Rattle.text.specs.Reading.{Text}
use Rattle.text.specs.laws.Readers.{pick_true, pick_false}
use Rattle.grammar.specs.Tree.{Tree, Members, no_members, one_member, get}
use Rattle.manifest.proofs.laws.Judge.{judged}
use Rattle.manifest.proofs.laws.Table.{Line, lines, kind_at}
use Rattle.manifest.proofs.laws.Walk.{from, from_end, other_place, no_member, one_value, more_values}
use Rattle.members.specs.laws.Flaw.{sought}
use Rattle.table.specs.Table.{line_at, value_kind}
use Rattle.table.specs.laws.Looking.{LineOf}
use Rattle.table.specs.laws.Some.{some, some_same, some_more, some_none, some_not}
use Rattle.members.specs.laws.Walked.{twices, ills, said_in}
use Rattle.members.specs.laws.Judged.{free_judged}

-- ---- all lines, one after the other

module _ (o : ℕ) (ms : Members) where
  next_line : (j : ℕ) → j < 20 → drop j lines ≡ line_at j ∷ drop (suc j) lines
  unfolding line_at
  next_line j l = drop-cons lines j _ l

  module _ (b : Bool) (f : ℕ → Bool) (says : (j : ℕ) → j < 20 → (ls : List Line) → from (sought b) o ms (line_at j ∷ ls) ≡ (f j || from (sought b) o ms ls)) where
    first_lines : (n : ℕ) → n ≤ 20 → from (sought b) o ms lines ≡ (some f n || from (sought b) o ms (drop n lines))
    unfolding some
    first_lines zero h = refl
    first_lines (suc n) h =
        first_lines n (omega arith)
        ∙ ap (λ (y : Bool). some f n || y) (ap (λ (ls : List Line). from (sought b) o ms ls) (next_line n (omega arith)) ∙ says n (omega arith) (drop (suc n) lines))
        ∙ sym (or_assoc (some f n) (f n) (from (sought b) o ms (drop (suc n) lines)))

    by_lines : from (sought b) o ms lines ≡ some f 20
    by_lines = first_lines 20 (omega arith) ∙ ap (λ (y : Bool). some f 20 || y) (from_end (sought b) o ms) ∙ or-false (some f 20)

  -- one line that is about the object, by what `get` finds
  module _ (l : Line) (here : l.place ≡ o) (ls : List Line) where
    line_twice : (g : List Tree) → get l.name ms ≡ g → from (sought false) o ms (l ∷ ls) ≡ (twices false l g || from (sought false) o ms ls)
    unfolding sought twices
    line_twice [] e = no_member (sought false) o ms l ls here e
    line_twice (t ∷ []) e =
        one_value (sought false) o ms l ls here e ∙ ap (λ (y : Bool). y || from (sought false) o ms ls) (sym (or-false (judged (sought false) l.asked (kind_at l.kind) t)))
    line_twice (t ∷ (u ∷ us)) e =
        more_values (sought false) o ms l ls here e ∙ ap (λ (y : Bool). y || from (sought false) o ms ls) (sym (or-true (judged (sought false) l.asked (kind_at l.kind) t)))

    line_ill : (g : List Tree) → twices false l g ≡ false → get l.name ms ≡ g → from (sought true) o ms (l ∷ ls) ≡ (ills false l g || from (sought true) o ms ls)
    unfolding sought twices ills
    line_ill [] z e = no_member (sought true) o ms l ls here e ∙ ap (λ (y : Bool). y || from (sought true) o ms ls) (or-false l.asked)
    line_ill (t ∷ []) z e =
        one_value (sought true) o ms l ls here e ∙ ap (λ (y : Bool). y || from (sought true) o ms ls) (sym (or-false (judged (sought true) l.asked (kind_at l.kind) t)))
    line_ill (t ∷ (u ∷ us)) z e = absurd (true≢false (sym (or-true (judged (sought false) l.asked (kind_at l.kind) t)) ∙ z))

  -- nothing was seen yet
  module _ (seen : List ℕ) (unseen : (j : ℕ) → j < 20 → get_or seen j 0 ≡ 0) where
    not_seen : (j : ℕ) → j < 20 → eqb (get_or seen j 0) 1 ≡ false
    not_seen j h = ap (λ (n : ℕ). eqb n 1) (unseen j h)

    elsewhere : (says : Bool → Line → List Tree → Bool) (b : Bool) (j : ℕ) → ((line_at j).place ≡ o → ⊥) → (ls : List Line) → from (sought b) o ms (line_at j ∷ ls) ≡ (said_in says o seen ms j || from (sought b) o ms ls)
    unfolding said_in
    elsewhere says b j h ls =
        other_place (sought b) o ms (line_at j) ls h
        ∙ sym (ap (λ (y : Bool). (y && says (eqb (get_or seen j 0) 1) (line_at j) (get (line_at j).name ms)) || from (sought b) o ms ls) (ne_eqb (line_at j).place o h))

    said_here : (says : Bool → Line → List Tree → Bool) (j : ℕ) → j < 20 → (line_at j).place ≡ o → said_in says o seen ms j ≡ says false (line_at j) (get (line_at j).name ms)
    unfolding said_in
    said_here says j l h = λ i. eq-eqb (line_at j).place o h i && says (not_seen j l i) (line_at j) (get (line_at j).name ms)

    pub begin_twice : from (sought false) o ms lines ≡ some (said_in twices o seen ms) 20
    begin_twice = by_lines false (said_in twices o seen ms) (λ j l ls. go j l ls (ℕ_discrete (line_at j).place o))
      where
        go : (j : ℕ) → j < 20 → (ls : List Line) → Dec ((line_at j).place ≡ o) → from (sought false) o ms (line_at j ∷ ls) ≡ (said_in twices o seen ms j || from (sought false) o ms ls)
        go j l ls (yes h) = line_twice (line_at j) h ls _ refl ∙ ap (λ (y : Bool). y || from (sought false) o ms ls) (sym (said_here twices j l h))
        go j l ls (no h) = elsewhere twices false j h ls

    pub begin_ill : from (sought false) o ms lines ≡ false → from (sought true) o ms lines ≡ some (said_in ills o seen ms) 20
    begin_ill z = by_lines true (said_in ills o seen ms) (λ j l ls. go j l ls (ℕ_discrete (line_at j).place o))
      where
        go : (j : ℕ) → j < 20 → (ls : List Line) → Dec ((line_at j).place ≡ o) → from (sought true) o ms (line_at j ∷ ls) ≡ (said_in ills o seen ms j || from (sought true) o ms ls)
        go j l ls (yes h) =
            line_ill (line_at j) h ls _ (sym (said_here twices j l h) ∙ some_not (said_in twices o seen ms) 20 j (sym begin_twice ∙ z) l) refl
            ∙ ap (λ (y : Bool). y || from (sought true) o ms ls) (sym (said_here ills j l h))
        go j l ls (no h) = elsewhere ills true j h ls

-- ---- a member more

module _ (o : ℕ) (seen : List ℕ) (sized : length seen ≡ 20) {n : Text} (t : Tree) {r : ℕ} (lo : LineOf o n r) (ms : Members) where
  other_get : (j : ℕ) → j < 20 → (j ≡ r → ⊥) → (line_at j).place ≡ o → get (line_at j).name (one_member n t ms) ≡ get (line_at j).name ms
  unfolding get
  other_get j l ne h = pick_false _ _ (lo.others j l ne h)

  this_get : r < 20 → get (line_at r).name (one_member n t ms) ≡ t ∷ get (line_at r).name ms
  unfolding get
  this_get l = pick_true _ _ (lo.about l).1

  module _ (says : Bool → Line → List Tree → Bool) where
    other_said : (j : ℕ) → j < 20 → (j ≡ r → ⊥) → said_in says o seen (one_member n t ms) j ≡ said_in says o (set seen r 1) ms j
    unfolding said_in
    other_said j l ne = go (ℕ_discrete (line_at j).place o)
      where
        go : Dec ((line_at j).place ≡ o) → (eqb (line_at j).place o && says (eqb (get_or seen j 0) 1) (line_at j) (get (line_at j).name (one_member n t ms))) ≡ (eqb (line_at j).place o && says (eqb (get_or (set seen r 1) j 0) 1) (line_at j) (get (line_at j).name ms))
        go (yes h) =
            let p : get_or seen j 0 ≡ get_or (set seen r 1) j 0 = sym (get_or-set_other seen r j 1 0 ne) in
            let q : get (line_at j).name (one_member n t ms) ≡ get (line_at j).name ms = other_get j l ne h in
            λ i. eqb (line_at j).place o && says (eqb (p i) 1) (line_at j) (q i)
        go (no h) =
            ap (λ (y : Bool). y && says (eqb (get_or seen j 0) 1) (line_at j) (get (line_at j).name (one_member n t ms))) (ne_eqb (line_at j).place o h)
            ∙ sym (ap (λ (y : Bool). y && says (eqb (get_or (set seen r 1) j 0) 1) (line_at j) (get (line_at j).name ms)) (ne_eqb (line_at j).place o h))

    this_said : r < 20 → (x : Bool) → says (eqb (get_or seen r 0) 1) (line_at r) (t ∷ get (line_at r).name ms) ≡ (x || says true (line_at r) (get (line_at r).name ms)) → said_in says o seen (one_member n t ms) r ≡ (x || said_in says o (set seen r 1) ms r)
    unfolding said_in
    this_said l x e =
        let p : eqb (line_at r).place o ≡ true = eq-eqb (line_at r).place o (lo.about l).0 in
        let q : get (line_at r).name (one_member n t ms) ≡ t ∷ get (line_at r).name ms = this_get l in
        let w : get_or (set seen r 1) r 0 ≡ 1 = get_or-set_same seen r 1 0 (omega arith) in
        (λ i. p i && says (eqb (get_or seen r 0) 1) (line_at r) (q i)) ∙ e
        ∙ sym (λ i. x || (p i && says (eqb (w i) 1) (line_at r) (get (line_at r).name ms)))

    said_more : (x : Bool) → (r < 20 → says (eqb (get_or seen r 0) 1) (line_at r) (t ∷ get (line_at r).name ms) ≡ (x || says true (line_at r) (get (line_at r).name ms))) → (r ≡ 20 → x ≡ false) → some (said_in says o seen (one_member n t ms)) 20 ≡ (x || some (said_in says o (set seen r 1) ms) 20)
    said_more x known unknown = go (ℕ_discrete r 20)
      where
        go : Dec (r ≡ 20) → some (said_in says o seen (one_member n t ms)) 20 ≡ (x || some (said_in says o (set seen r 1) ms) 20)
        go (yes e) =
            some_same _ _ 20 (λ j l. other_said j l (λ q. omega arith))
            ∙ sym (ap (λ (y : Bool). y || some (said_in says o (set seen r 1) ms) 20) (unknown e))
        go (no e) =
            let l : r < 20 = omega (arith, lo.few) in
            some_more _ _ x 20 r l (this_said l x (known l)) other_said

  known_kind : r < 20 → (line_at r).kind ≡ value_kind r
  unfolding value_kind
  known_kind l = sym (pick_true _ _ (lt-ltb r 20 l))

  any_kind : r ≡ 20 → value_kind r ≡ 2
  unfolding value_kind
  any_kind e = pick_false _ _ (le-ltb r 20 (omega arith))

  pub more_twice : some (said_in twices o seen (one_member n t ms)) 20 ≡ ((eqb (get_or seen r 0) 1 || judged (sought false) (line_at r).asked (kind_at (value_kind r)) t) || some (said_in twices o (set seen r 1) ms) 20)
  unfolding twices
  more_twice =
      said_more twices _
      (λ l. ap (λ (k : ℕ). (eqb (get_or seen r 0) 1 || judged (sought false) (line_at r).asked (kind_at k) t) || twices true (line_at r) (get (line_at r).name ms)) (known_kind l))
      (λ e.
      let p : get_or seen r 0 ≡ 0 = get_or-eq_default seen 0 (omega arith) in
      let q : judged (sought false) (line_at r).asked (kind_at (value_kind r)) t ≡ false = sym (free_judged (any_kind e) false (line_at r).asked t) in
      λ i. eqb (p i) 1 || q i)

  pub more_ill : some (said_in ills o seen (one_member n t ms)) 20 ≡ (judged (sought true) (line_at r).asked (kind_at (value_kind r)) t || some (said_in ills o (set seen r 1) ms) 20)
  unfolding ills
  more_ill =
      said_more ills _
      (λ l. ap (λ (k : ℕ). judged (sought true) (line_at r).asked (kind_at k) t || ills true (line_at r) (get (line_at r).name ms)) (known_kind l))
      (λ e. sym (free_judged (any_kind e) true (line_at r).asked t))

-- no member is left: nothing more is twice
pub end_twice : (o : ℕ) (seen : List ℕ) → some (said_in twices o seen no_members) 20 ≡ false
unfolding said_in twices get
end_twice o seen = some_none _ 20 (λ j l. and-false (eqb (line_at j).place o))
