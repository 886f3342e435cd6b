-- The parts of an object or an array passed one after the other: what is left from here on, and what was met so far. Assumes nothing.
use mathlib.Core.Path.{◌≡◌, refl, sym, ap, subst, ◌∙◌}
use mathlib.Core.Bool.{Bool, true, false}
use mathlib.Core.List.{List, [], ◌∷◌}
use Prim.Native.Nat.{ℕ, suc, ◌+◌, ◌-◌, ◌≤◌, ◌<◌}
use native.Mathlib.Omega.{arith}
use native.Mathlib.Decide.{ℕ_discrete}
use lib.ListN.{length, get_or, drop, length-drop}
use lib.Seq.{drop-cons}
use lib.Dec.{eqb}
use borrow.Author.Tests.{eq-eqb, ne_eqb, eqb-true}
use Rattle.text.specs.Reading.{Text, Out, done, Reader, pick, peek}
use Rattle.text.specs.Class.{skip}
use Rattle.text.specs.laws.Peek.{skip_ge}
use Rattle.text.specs.laws.Readers.{Forward, at as until, at_next, next_inv, pick_true, pick_false, done_of, done_at}
use Rattle.grammar.specs.Tree.{Tree, same}
use Rattle.grammar.specs.Document.{value, name, many}
use Rattle.grammar.proofs.laws.Forward.{value_forward, name_forward}
use Rattle.grammar.proofs.laws.Levels.{value_more}
use Rattle.values.specs.Strings.{is_text, same_as}
use Rattle.values.specs.laws.Outs.{Gives}
use Rattle.places.specs.Places.{inner, place, item_place, named_place, value_place, member_place, items_at, members_at, places_of, counted, member_at}
use Rattle.places.specs.laws.Standing.{name_string, member_inv}
use Rattle.places.specs.laws.Parts.{Row, many_empty, many_row, row_reads, row_inside, row_onward, row_last, row_next, array_read, object_read, no_array, no_object}
use Rattle.manifest.specs.Statements.{All, all_none, all_one}
use Rattle.index.specs.Index.{column, items_of}
use Rattle.index.proofs.laws.Positive.{members_positive}
use Rattle.index.proofs.laws.Seen.{column_there}
use Rattle.fills.specs.declared.Next.{Next}
use Rattle.fills.specs.laws.Walked.{There, Ends, Opens, Follows, is_first, met, none}

-- ---- what is left, of members or of items

-- from where `at` says, xs are left, and the whole ends at m
pub record Ahead {A : Type 0} (one : Reader A) (close : ℕ) (s : Text) (at : Next) (xs : List A) (m : ℕ) : Type 0 where
  pub over : at.start ≡ 0 → (xs ≡ []) × (at.end ≡ m)
  pub on : (at.start ≡ 0 → ⊥) → Row one close s at.start xs m

-- how much of the text is ahead: it falls with each part
unfoldable pub ahead : Text → Next → ℕ
ahead s at = pick (eqb at.start 0) 0 (suc (length s - at.start))

module _ {A : Type 0} (one : Reader A) (close : ℕ) (s : Text) where
  ahead_start : (p : ℕ) {opening : ℕ} {xs : List A} {m : ℕ} {at : Next} → peek s p ≡ opening → many one close s (p + 1) ≡ done xs m → Opens s p opening close at → Ahead one close s at xs m
  ahead_start p {xs = xs} {m = m} {at = at} h e o = go (ℕ_discrete (peek s (skip s (p + 1))) close)
    where
      go : Dec (peek s (skip s (p + 1)) ≡ close) → Ahead one close s at xs m
      go (yes q) =
          let w = many_empty one close s (p + 1) e q in
          let r = o.empty h q in
          record { over = λ _. (w.0, r.1 ∙ w.1); on = λ n. absurd (n r.0) }
      go (no q) =
          let r = o.some h q in
          record {
            over = λ z. absurd (omega (arith, skip_ge s (p + 1)));
            on = λ _. subst (λ (i : ℕ). Row one close s i xs m) (sym r) (many_row one close s (p + 1) e q);
          }

  ahead_none : {at : Next} → at.start ≡ 0 → Ahead one close s at [] at.end
  ahead_none z = record { over = λ _. (refl, refl); on = λ n. absurd (n z) }

  -- a part that ends at e
  module _ {at : Next} {xs : List A} {m e : ℕ} (l : Ahead one close s at xs m) (n : at.start ≡ 0 → ⊥) (ends : (x : A) (j : ℕ) → one s at.start ≡ done x j → e ≡ j) (small : close < 256) (other : close ≡ 44 → ⊥) where
    ahead_inside : skip s e < length s
    ahead_inside = row_inside one close s at.start ends small other (l.on n)

    module _ {at' : Next} (f : Follows s e at') where
      ahead_on : (x : A) × (j : ℕ) × (ys : List A) × (one s at.start ≡ done x j) × (xs ≡ x ∷ ys) × Ahead one close s at' ys m
      ahead_on = go (ℕ_discrete (peek s (skip s e)) 44)
        where
          go : Dec (peek s (skip s e) ≡ 44) → (x : A) × (j : ℕ) × (ys : List A) × (one s at.start ≡ done x j) × (xs ≡ x ∷ ys) × Ahead one close s at' ys m
          go (yes q) =
              let w = row_next one close s at.start ends small other q (l.on n) in
              let r = f.comma q in (
                w.0,
                w.1,
                w.2,
                w.3,
                w.4,
                record {
                  over = λ z. absurd (omega (arith, skip_ge s (skip s e + 1)));
                  on = λ _. subst (λ (i : ℕ). Row one close s i w.2 m) (sym r) w.5;
                },
              )
          go (no q) =
              let w = row_last one close s at.start ends small other q (l.on n) in
              let r = f.close q in
              (w.0, w.1, [], w.2, w.3, record { over = λ _. (refl, r.1 ∙ w.4); on = λ u. absurd (u r.0) })

      ahead_later : Forward one → (at'.start ≡ 0 → ⊥) → at.start < at'.start
      ahead_later go u = later (ℕ_discrete (peek s (skip s e)) 44)
        where
          later : Dec (peek s (skip s e) ≡ 44) → at.start < at'.start
          later (yes q) =
              omega (arith, f.comma q, row_onward one close s at.start ends small other go (l.on n), skip_ge s (skip s e + 1), skip_ge s e)
          later (no q) = absurd (u (f.close q).0)

      ahead_falls : Forward one → ahead s at' < ahead s at
      unfolding ahead
      ahead_falls go = falls (ℕ_discrete (peek s (skip s e)) 44)
        where
          here : pick (eqb at.start 0) 0 (suc (length s - at.start)) ≡ suc (length s - at.start)
          here = pick_false _ _ (ne_eqb at.start 0 n)

          falls : Dec (peek s (skip s e) ≡ 44) → pick (eqb at'.start 0) 0 (suc (length s - at'.start)) < pick (eqb at.start 0) 0 (suc (length s - at.start))
          falls (yes q) =
              let r = f.comma q in
              let z : at'.start ≡ 0 → ⊥ = λ y. omega (arith, skip_ge s (skip s e + 1)) in
              let there : pick (eqb at'.start 0) 0 (suc (length s - at'.start)) ≡ suc (length s - at'.start) = pick_false _ _ (ne_eqb at'.start 0 z) in
              omega (arith, here, there, row_onward one close s at.start ends small other go (l.on n), skip_ge s (skip s e + 1), skip_ge s e, ahead_inside)
          falls (no q) =
              let there : pick (eqb at'.start 0) 0 (suc (length s - at'.start)) ≡ 0 = pick_true _ _ (eq-eqb at'.start 0 (f.close q).0) in
              omega (arith, here, there)

-- ---- one name: w where it was met before, then the first of those that are left

unfoldable pub still : ℕ → Text → List (Text × ℕ) → ℕ
still w n ms = pick (eqb w 0) (counted (places_of n ms)).at w

first_at : (p : ℕ) (ps : List ℕ) → (counted (p ∷ ps)).at ≡ p
unfolding counted
first_at p [] = refl
first_at p (q ∷ ps) = refl

still_turn : (w : ℕ) (n k : Text) (v : ℕ) (ms : List (Text × ℕ)) → (v ≡ 0 → ⊥) → still w n ((k, v) ∷ ms) ≡ still (pick (pick (eqb w 0) (same k n) false) v w) n ms
unfolding still places_of pick
still_turn w n k v ms h = go (eqb w 0) refl (same k n)
  where
    go : (a : Bool) → eqb w 0 ≡ a → (b : Bool) → pick a (counted (pick b (v ∷ places_of n ms) (places_of n ms))).at w ≡ pick (eqb (pick (pick a b false) v w) 0) (counted (places_of n ms)).at (pick (pick a b false) v w)
    go true e true = first_at v (places_of n ms) ∙ sym (ap (λ (c : Bool). pick c (counted (places_of n ms)).at v) (ne_eqb v 0 h))
    go true e false = sym (ap (λ (c : Bool). pick c (counted (places_of n ms)).at w) e)
    go false e b = sym (ap (λ (c : Bool). pick c (counted (places_of n ms)).at w) e)

still_end : (w : ℕ) (n : Text) → still w n [] ≡ w
unfolding still places_of counted pick
still_end w n = go (eqb w 0) refl
  where
    go : (a : Bool) → eqb w 0 ≡ a → pick a 0 w ≡ w
    go true e = sym (eqb-true w 0 e)
    go false e = refl

still_none : (n : Text) (ms : List (Text × ℕ)) → still 0 n ms ≡ (counted (places_of n ms)).at
unfolding still pick
still_none n ms = refl

-- ---- the members of the value at p: what was met and what is left, together, are the columns

pub record Left (s : Text) (p : ℕ) (at : Next) (f : Text → ℕ) : Type 0 where
  pub rest : List (Text × ℕ)
  pub until : ℕ
  pub ends : Ends s p until
  pub row : Ahead member_place 125 s at rest until
  pub positive : All (λ m. m.1 ≡ 0 → ⊥) rest
  pub found : (n : Text) → still (f n) n rest ≡ column s p n

pub left_start : {s : Text} {p : ℕ} {at : Next} → There s p → Opens s p 123 125 at → Left s p at none
unfolding member_at
left_start {s} {p} {at} h o = go (ℕ_discrete (peek s p) 123)
  where
    all_met : {ms : List (Text × ℕ)} → members_at s p ≡ ms → (n : Text) → still 0 n ms ≡ column s p n
    all_met {ms} e n = still_none n ms ∙ ap (λ (x : List (Text × ℕ)). (counted (places_of n x)).at) (sym e) ∙ sym (column_there s p n h.past_0)

    go : Dec (peek s p ≡ 123) → Left s p at none
    go (yes q) =
        let w = object_read s p h.stands.reads q in
        record {
          rest = w.0;
          until = h.stands.until;
          ends = record { are = λ t n e. done_at (sym h.stands.reads ∙ e) };
          row = ahead_start member_place 125 s p q w.1 o;
          positive = subst (All (λ m. m.1 ≡ 0 → ⊥)) w.2 (members_positive s p);
          found = all_met w.2;
        }
    go (no q) =
        let w = o.other q in
        record {
          rest = [];
          until = at.end;
          ends = w.1;
          row = ahead_none member_place 125 s w.0;
          positive = all_none;
          found = all_met (no_object s p q);
        }

member_forward : Forward member_place
unfolding member_place value_place named_place until
member_forward s i =
    at_next (name s i) (value_place s) i (name_forward s i)
    (λ k j h. at_next (value inner s (skip s j)) (named_place k (skip s j)) i (omega (arith, value_forward inner s (skip s j), skip_ge s j)) (λ t m g. g))

module _ {s : Text} {p : ℕ} {at : Next} {f : Text → ℕ} (l : Left s p at f) where
  -- none is left: the columns were met, and the end is known
  pub left_end : at.start ≡ 0 → Ends s p at.end × ((n : Text) → f n ≡ column s p n)
  left_end z =
      let w = l.row.over z in (
        record { are = λ t n e. w.1 ∙ l.ends.are t n e },
        λ n. sym (still_end (f n) n) ∙ (sym (ap (still (f n) n) w.0) ∙ l.found n),
      )

  module _ (n : at.start ≡ 0 → ⊥) {v : ℕ} (ev : Gives (λ m j. v ≡ m.1) (member_place s at.start)) where
    positive_v : {ms : List (Text × ℕ)} {k : Text} → l.rest ≡ (k, v) ∷ ms → (v ≡ 0 → ⊥) × All (λ m. m.1 ≡ 0 → ⊥) ms
    positive_v e = go (subst (All (λ m. m.1 ≡ 0 → ⊥)) e l.positive)
      where
        go : {k : Text} {ms : List (Text × ℕ)} → All (λ m. m.1 ≡ 0 → ⊥) ((k, v) ∷ ms) → (v ≡ 0 → ⊥) × All (λ m. m.1 ≡ 0 → ⊥) ms
        go (all_one h r) = (h, r)

    -- the member here, by v
    here : (m : Text × ℕ) (j : ℕ) → member_place s at.start ≡ done m j → member_place s at.start ≡ done (m.0, v) j
    here m j e = e ∙ ap (λ (x : ℕ). done (m.0, x) j) (sym (ev.holds m j e))

    -- its value is there
    pub left_there : There s v
    left_there =
        let w = row_reads (l.row.on n) in
        let x = member_inv s at.start (here w.0 w.1 w.3) in
        record {
          past_0 = (positive_v (w.4 ∙ ap (λ (y : ℕ). (w.0.0, y) ∷ w.2) (sym (ev.holds w.0 w.1 w.3)))).0;
          tree = x.1;
          stands = record { until = w.1; reads = value_more inner s v x.1 w.1 x.4 };
        }

    module _ {e : ℕ} (ee : Ends s v e) where
      ends_here : (m : Text × ℕ) (j : ℕ) → member_place s at.start ≡ done m j → e ≡ j
      ends_here m j r = let x = member_inv s at.start (here m j r) in ee.are x.1 j (value_more inner s v x.1 j x.4)

      pub left_inside : skip s e < length s
      left_inside = ahead_inside member_place 125 s l.row n ends_here (omega arith) (λ q. omega arith)

      module _ {at' : Next} (g : Follows s e at') where
        pub left_falls : ahead s at' < ahead s at
        left_falls = ahead_falls member_place 125 s l.row n ends_here (omega arith) (λ q. omega arith) g member_forward

        pub left_on : Left s p at' (met s at.start v f)
        unfolding met is_first same_as is_text
        left_on =
            let w = ahead_on member_place 125 s l.row n ends_here (omega arith) (λ q. omega arith) g in
            let x = member_inv s at.start (here w.0 w.1 w.3) in
            let y = name_string s at.start x.2 in
            let is : l.rest ≡ (w.0.0, v) ∷ w.2 = w.4 ∙ ap (λ (u : ℕ). (w.0.0, u) ∷ w.2) (sym (ev.holds w.0 w.1 w.3)) in
            let z = positive_v is in
            record {
              rest = w.2;
              until = l.until;
              ends = l.ends;
              row = w.5;
              positive = z.1;
              found = λ k.
                  ap (λ (o : Out Text). still (pick (pick (eqb (f k) 0) (is_text o k) false) v (f k)) k w.2) y.1
                  ∙ (sym (still_turn (f k) k w.0.0 v w.2 z.0) ∙ (sym (ap (still (f k) k) is) ∙ l.found k));
            }

-- ---- the items of the value at p: k were passed

pub record Passed (s : Text) (p k : ℕ) (at : Next) : Type 0 where
  pub until : ℕ
  pub ends : Ends s p until
  pub row : Ahead item_place 93 s at (drop k (items_of s p)) until
  pub few : k ≤ length (items_of s p)
  pub onward : (at.start ≡ 0 → ⊥) → k ≤ at.start

items_there : (s : Text) (p : ℕ) → (p ≡ 0 → ⊥) → items_of s p ≡ items_at s p
unfolding items_of
items_there s p h = pick_false _ _ (ne_eqb p 0 h)

pub pass_start : {s : Text} {p : ℕ} {at : Next} → There s p → Opens s p 91 93 at → Passed s p 0 at
pass_start {s} {p} {at} h o = go (ℕ_discrete (peek s p) 91)
  where
    go : Dec (peek s p ≡ 91) → Passed s p 0 at
    go (yes q) =
        let w = array_read s p h.stands.reads q in
        record {
          until = h.stands.until;
          ends = record { are = λ t n e. done_at (sym h.stands.reads ∙ e) };
          row = subst (λ (xs : List ℕ). Ahead item_place 93 s at xs h.stands.until) (sym (items_there s p h.past_0 ∙ w.2)) (ahead_start item_place 93 s p q w.1 o);
          few = omega arith;
          onward = λ _. omega arith;
        }
    go (no q) =
        let w = o.other q in
        record {
          until = at.end;
          ends = w.1;
          row = subst (λ (xs : List ℕ). Ahead item_place 93 s at xs at.end) (sym (items_there s p h.past_0 ∙ no_array s p q)) (ahead_none item_place 93 s w.0);
          few = omega arith;
          onward = λ _. omega arith;
        }

item_was : (s : Text) (i : ℕ) {x j : ℕ} → item_place s i ≡ done x j → (t : Tree) × (value inner s i ≡ done t j) × (i ≡ x)
unfolding item_place place
item_was s i e = let w = next_inv (value inner s i) (place i) e in (w.0, w.2 ∙ ap (done w.0) (done_at w.3), done_of w.3)

item_forward : Forward item_place
unfolding item_place place until
item_forward s i = at_next (value inner s i) (place i) i (value_forward inner s i) (λ t j g. g)

module _ {s : Text} {p k : ℕ} {at : Next} (l : Passed s p k at) where
  pub pass_end : at.start ≡ 0 → (k ≡ length (items_of s p)) × Ends s p at.end
  pass_end z =
      let w = l.row.over z in
      (omega (arith, ap length w.0, length-drop k (items_of s p), l.few), record { are = λ t n e. w.1 ∙ l.ends.are t n e })

  module _ (n : at.start ≡ 0 → ⊥) where
    -- the item here
    pub pass_there : There s at.start
    pass_there =
        let w = row_reads (l.row.on n) in
        let x = item_was s at.start w.3 in
        record { past_0 = n; tree = x.0; stands = record { until = w.1; reads = value_more inner s at.start x.0 w.1 x.1 } }

    pub pass_here : at.start ≡ get_or (items_of s p) k 0
    pass_here =
        let w = row_reads (l.row.on n) in
        let d : drop k (items_of s p) ≡ get_or (items_of s p) k 0 ∷ drop (suc k) (items_of s p) = drop-cons (items_of s p) k 0 more in
        (item_was s at.start w.3).2 ∙ cc (w.4, d)
      where
        more : k < length (items_of s p)
        more = let w = row_reads (l.row.on n) in omega (arith, ap length w.4, length-drop k (items_of s p), l.few)

    module _ {e : ℕ} (ee : Ends s at.start e) where
      ends_item : (m j : ℕ) → item_place s at.start ≡ done m j → e ≡ j
      ends_item m j r = let x = item_was s at.start r in ee.are x.0 j (value_more inner s at.start x.0 j x.1)

      pub pass_inside : skip s e < length s
      pass_inside = ahead_inside item_place 93 s l.row n ends_item (omega arith) (λ q. omega arith)

      -- so the count fits
      pub pass_fits : k < length s
      pass_fits =
          omega (arith, l.onward n, row_onward item_place 93 s at.start ends_item (omega arith) (λ q. omega arith) item_forward (l.row.on n), skip_ge s e, pass_inside)

      module _ {at' : Next} (g : Follows s e at') where
        pub pass_falls : ahead s at' < ahead s at
        pass_falls = ahead_falls item_place 93 s l.row n ends_item (omega arith) (λ q. omega arith) g item_forward

        pub pass_on : Passed s p (k + 1) at'
        pass_on =
            let w = ahead_on item_place 93 s l.row n ends_item (omega arith) (λ q. omega arith) g in
            let more : k < length (items_of s p) = omega (arith, ap length w.4, length-drop k (items_of s p), l.few) in
            let d : drop k (items_of s p) ≡ get_or (items_of s p) k 0 ∷ drop (suc k) (items_of s p) = drop-cons (items_of s p) k 0 more in
            let b : w.2 ≡ drop (suc k) (items_of s p) = cc (w.4, d) in
            let a : suc k ≡ k + 1 = omega arith in
            record {
              until = l.until;
              ends = l.ends;
              row = subst (λ (xs : List ℕ). Ahead item_place 93 s at' xs l.until) (b ∙ ap (λ (m : ℕ). drop m (items_of s p)) a) w.5;
              few = omega arith;
              onward = λ u. omega (arith, l.onward n, ahead_later item_place 93 s l.row n ends_item (omega arith) (λ q. omega arith) g item_forward u);
            }
