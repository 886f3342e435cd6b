-- The loops over the items of an array and over the members of an object, and a member by itself, in the code's own values. Assumes nothing.
use mathlib.Core.Path.{◌≡◌, refl, sym, ap, subst, ◌∙◌}
use mathlib.Core.Bool.{Bool, true, false, ◌||◌, or-false}
use mathlib.Core.List.{List, [], ◌∷◌}
use Prim.Native.Nat.{ℕ, ◌+◌, ◌<◌, ◌≤◌}
use native.Mathlib.Omega.{arith}
use lib.Dec.{eqb, ltb}
use lib.ListN.{length, get_or, set, replicate, length-set, length-replicate, get_or-replicate}
use borrow.Author.Tests.{ltb-true}
use Rattle.text.specs.Reading.{Text, Out, done, pick, peek, scan}
use Rattle.text.specs.declared.Scan.{Scan}
use Rattle.text.specs.Class.{skip}
use Rattle.text.specs.Strings.{string}
use Rattle.text.specs.laws.Peek.{skip_ge}
use Rattle.text.specs.laws.Readers.{next_inv, pick_true, pick_false, done_of, done_at}
use Rattle.grammar.specs.Tree.{Tree, no_members, members}
use Rattle.grammar.specs.Document.{many, member, named, bound, name, value, most}
use Rattle.grammar.proofs.laws.Forward.{value_forward, member_forward}
use Rattle.grammar.proofs.laws.Levels.{value_more}
use Rattle.values.specs.laws.Outs.{Gives}
use Rattle.places.specs.Places.{inner}
use Rattle.places.specs.laws.Standing.{name_string}
use Rattle.manifest.specs.Rows.{any}
use Rattle.manifest.proofs.laws.Bools.{halves}
use Rattle.manifest.proofs.laws.Judge.{judged}
use Rattle.manifest.proofs.laws.Table.{lines, kind_at}
use Rattle.manifest.proofs.laws.Walk.{from}
use Rattle.members.specs.declared.Walk.{Walk}
use Rattle.members.specs.declared.Known.{Known}
use Rattle.members.specs.laws.Flaw.{sought}
use Rattle.table.specs.Table.{line_at, value_kind}
use Rattle.table.specs.laws.Looking.{LineOf}
use Rattle.members.specs.laws.Walked.{Reads, reached, Over, Told, ItemsTold, MemberTold, MembersTold, twices, ills, said_in}
use Rattle.table.specs.laws.Some.{some}
use Rattle.table.specs.laws.Lines.{kind_falls}
use Rattle.members.specs.laws.Lines.{begin_twice, begin_ill, more_twice, more_ill, end_twice}
use Rattle.members.proofs.Rows.{Row, many_empty, many_row, row_reads, row_inside, row_onward, row_last, row_next, reached_done, gives_was, Sum, sum_on, sum_over}

-- ---- the items of an array

abbrev hit : Bool → ℕ → Tree → Bool
hit b k = judged (sought b) true (kind_at k)

-- the items from i on are to come
pub record ItemsLeft (k : ℕ) (s : Text) (p i : ℕ) (twice ill : Bool) : Type 0 where
  pub all : List Tree
  pub until : ℕ
  pub was : many (value inner) 93 s p ≡ done all until
  pub rest : List Tree
  pub row : Row (value inner) 93 s i rest until
  pub sum : Sum (any (hit false k) all) (any (hit true k) all) twice ill (any (hit false k) rest) (any (hit true k) rest)

module _ (k : ℕ) (s : Text) (p : ℕ) {v b : ℕ} (ev : v ≡ skip s p) (eb : b ≡ peek s v) where
  pub items_none : b ≡ 93 → Gives (ItemsTold k (record { end = v + 1; twice = false; ill = false })) (many (value inner) 93 s p)
  unfolding any
  items_none h =
      record {
        holds = λ xs m e.
            let (x, y) = many_empty (value inner) 93 s p ev eb h e in
            record {
              over = record {
                ends = y;
                doubled = ap (any (hit false k)) x;
                faulty = λ _. ap (any (hit true k)) x;
              };
            };
      }

  pub items_start : (b ≡ 93 → ⊥) → Reads (many (value inner) 93 s p) → ItemsLeft k s p v false false
  items_start h r =
      record {
        all = r.what;
        until = r.until;
        was = r.was;
        rest = r.what;
        row = many_row (value inner) 93 s p ev eb h r.was;
        sum = record { doubled = refl; faulty = λ _. refl };
      }

module _ {k : ℕ} {s : Text} {p i : ℕ} {twice ill : Bool} (left : ItemsLeft k s p i twice ill) where
  pub item_reads : Reads (value most s i)
  item_reads = let (t, j, e) = row_reads left.row in record { what = t; until = j; was = value_more inner s i t j e }

  module _ {w : Walk} (told : Gives (Told k w) (value most s i)) where
    item_told : (t : Tree) (j : ℕ) → value inner s i ≡ done t j → Over w j (hit false k t) (hit true k t)
    item_told t j e = (told.holds t j (value_more inner s i t j e)).over true

    module _ {twice' ill' : Bool} (et : twice' ≡ (twice || w.twice)) (el : ill' ≡ (ill || w.ill)) {e b : ℕ} (ee : e ≡ skip s w.end) (eb : b ≡ peek s e) where
      pub items_inside : e < length s
      items_inside = row_inside (value inner) 93 s i (λ t j f. (item_told t j f).ends) ee eb (omega arith) (λ q. omega arith) left.row

      item_on : {t : Tree} {j : ℕ} {ys : List Tree} → value inner s i ≡ done t j → left.rest ≡ t ∷ ys → Sum (any (hit false k) left.all) (any (hit true k) left.all) twice' ill' (any (hit false k) ys) (any (hit true k) ys)
      unfolding any
      item_on {t} {j} {ys} f q =
          sum_on left.sum (ap (any (hit false k)) q) (ap (any (hit true k)) q) (item_told t j f).doubled (item_told t j f).faulty et el

      pub items_last : (b ≡ 44 → ⊥) → Gives (ItemsTold k (record { end = e + 1; twice = twice'; ill = ill' })) (many (value inner) 93 s p)
      unfolding any
      items_last h =
          let (t, j, f, q, m) = row_last (value inner) 93 s i (λ u n g. (item_told u n g).ends) ee eb (omega arith) (λ z. omega arith) h left.row in
          gives_was left.was (record { over = sum_over (item_on f q) refl (sym (or-false ill')) m })

      pub items_next : b ≡ 44 → {u : ℕ} → u ≡ skip s (e + 1) → (i < u) × (i < length s) × ItemsLeft k s p u twice' ill'
      items_next h {u} eu =
          let (t, j, ys, f, q, r) = row_next (value inner) 93 s i (λ x n g. (item_told x n g).ends) ee eb (omega arith) (λ z. omega arith) h eu left.row in
          let le : i ≤ e = row_onward (value inner) 93 s i (λ x n g. (item_told x n g).ends) ee eb (omega arith) (λ z. omega arith) (value_forward inner) left.row in
          let lt : e < length s = items_inside in
          (omega (arith, skip_ge s (e + 1)), omega arith, record { all = left.all; until = left.until; was = left.was; rest = ys; row = r; sum = item_on f q })

-- ---- a member by itself

module _ (s : Text) (i : ℕ) where
  -- a name, and past its colon and the whitespace a value
  member_parts : {x : Text × Tree} {n : ℕ} → member (value inner) s i ≡ done x n → (j : ℕ) × (name s i ≡ done x.0 j) × (value inner s (skip s j) ≡ done x.1 n)
  unfolding member named bound
  member_parts {x} {n} e =
      let w = next_inv (name s i) (named (value inner) s) e in
      let u = next_inv (value inner s (skip s w.1)) (bound w.0) w.3 in
      let g : ◌≡◌ {A = Out (Text × Tree)} (done (w.0, u.0) u.1) (done x n) = u.3 in
      let p : w.0 ≡ x.0 = ap (λ (m : Text × Tree). m.0) (done_of g) in
      let q : u.0 ≡ x.1 = ap (λ (m : Text × Tree). m.1) (done_of g) in
      let r : u.1 ≡ n = done_at g in
      (w.1, w.2 ∙ ap (λ (k : Text). done k w.1) p, u.2 ∙ (λ z. done (q z) (r z)))

  -- the value's kind has a smaller number than the object's
  pub value_falls : {o r : ℕ} → Gives (λ k n. LineOf o k r) (string s i) → Reads (member (value inner) s i) → 2 < o → value_kind r < o
  unfolding value_kind
  value_falls {o} {r} lo m h =
      let (j, e, f) = member_parts m.was in
      let (l, g) = name_string s i e in
      go (lo.holds m.what.0 l g) (ltb r 20) refl
    where
      go : {k : Text} → LineOf o k r → (b : Bool) → ltb r 20 ≡ b → pick (ltb r 20) (line_at r).kind 2 < o
      go line true q =
          let l : r < 20 = ltb-true r 20 q in
          let w : pick (ltb r 20) (line_at r).kind 2 ≡ (line_at r).kind = pick_true _ _ q in
          omega (arith, kind_falls r l, (line.about l).0)
      go line false q =
          let w : pick (ltb r 20) (line_at r).kind 2 ≡ 2 = pick_false _ _ q in
          omega arith

  module _ {v : Scan} {j : ℕ} (ev : v ≡ scan (name s i)) (ej : j ≡ reached v) {a : ℕ} (ea : a ≡ skip s j) where
    value_there : {x : Text × Tree} {n : ℕ} → member (value inner) s i ≡ done x n → value most s a ≡ done x.1 n
    value_there {x} {n} e =
        let (m, f, g) = member_parts e in
        let q : a ≡ skip s m = ea ∙ ap (skip s) (reached_done ej (name s i) ev f) in
        value_more inner s a x.1 n (ap (value inner s) q ∙ g)

    pub value_reads : Reads (member (value inner) s i) → Reads (value most s a)
    value_reads r = record { what = r.what.1; until = r.until; was = value_there r.was }

    pub member_told : {o r : ℕ} → Gives (λ k n. LineOf o k r) (string s i) → {c : ℕ} → c ≡ value_kind r → {w : Walk} → Gives (Told c w) (value most s a) → Gives (MemberTold o (record { line = r; walk = w })) (member (value inner) s i)
    member_told {o} {r} lo {c} ec {w} told =
        record {
          holds = λ x n e.
              let (m, f, g) = member_parts e in
              let (l, h) = name_string s i f in
              record {
                line = lo.holds x.0 l h;
                value = subst (λ (k : ℕ). Told k w x.1 n) ec (told.holds x.1 n (value_there e));
              };
        }

-- ---- the members of an object

abbrev eight : ℕ → List (Text × Tree) → Bool
eight o xs = from (sought false) o (members xs) lines

abbrev nine : ℕ → List (Text × Tree) → Bool
nine o xs = from (sought true) o (members xs) lines

abbrev twice_to_come : ℕ → List ℕ → List (Text × Tree) → Bool
twice_to_come o seen xs = some (said_in twices o seen (members xs)) 20

abbrev ill_to_come : ℕ → List ℕ → List (Text × Tree) → Bool
ill_to_come o seen xs = some (said_in ills o seen (members xs)) 20

-- the members from i on are to come
pub record MembersLeft (o : ℕ) (s : Text) (p i : ℕ) (seen : List ℕ) (twice ill : Bool) : Type 0 where
  pub all : List (Text × Tree)
  pub until : ℕ
  pub was : many (member (value inner)) 125 s p ≡ done all until
  pub rest : List (Text × Tree)
  pub row : Row (member (value inner)) 125 s i rest until
  pub sized : length seen ≡ 20
  pub sum : Sum (eight o all) (nine o all) twice ill (twice_to_come o seen rest) (ill_to_come o seen rest)

-- nothing was seen
abbrev pub unseen : List ℕ
unseen = replicate {A = ℕ} 20 0

unseen_at : (j : ℕ) → j < 20 → get_or unseen j 0 ≡ 0
unseen_at j h = get_or-replicate {A = ℕ} 20 j 0 0 h

begin : (o : ℕ) (xs : List (Text × Tree)) → Sum (eight o xs) (nine o xs) false false (twice_to_come o unseen xs) (ill_to_come o unseen xs)
begin o xs = record { doubled = begin_twice o (members xs) unseen unseen_at; faulty = λ z. begin_ill o (members xs) unseen unseen_at z }

module _ (o : ℕ) (s : Text) (p : ℕ) {v b : ℕ} (ev : v ≡ skip s p) (eb : b ≡ peek s v) where
  pub members_none : b ≡ 125 → {x : Bool} → x ≡ some (said_in ills o unseen no_members) 20 → Gives (MembersTold o (record { end = v + 1; twice = false; ill = x })) (many (member (value inner)) 125 s p)
  members_none h {x} ex =
      record {
        holds = λ xs m e.
            let (y, z) = many_empty (member (value inner)) 125 s p ev eb h e in
            subst (λ (ys : List (Text × Tree)). MembersTold o (record { end = v + 1; twice = false; ill = x }) ys m) y
            (record { over = sum_over (begin o []) (end_twice o unseen) ex z });
      }

  pub members_start : (b ≡ 125 → ⊥) → Reads (many (member (value inner)) 125 s p) → MembersLeft o s p v unseen false false
  members_start h r =
      record {
        all = r.what;
        until = r.until;
        was = r.was;
        rest = r.what;
        row = many_row (member (value inner)) 125 s p ev eb h r.was;
        sized = length-replicate {A = ℕ} 20 0;
        sum = begin o r.what;
      }

module _ {o : ℕ} {s : Text} {p i : ℕ} {seen : List ℕ} {twice ill : Bool} (left : MembersLeft o s p i seen twice ill) where
  pub member_reads : Reads (member (value inner) s i)
  member_reads = let (x, j, e) = row_reads left.row in record { what = x; until = j; was = e }

  module _ {m : Known} (told : Gives (MemberTold o m) (member (value inner) s i)) where
    member_end : (x : Text × Tree) (j : ℕ) → member (value inner) s i ≡ done x j → m.walk.end ≡ j
    member_end x j e = ((told.holds x j e).value.over true).ends

    module _ {again : Bool} {seen' : List ℕ} (noted : (again ≡ eqb (get_or seen m.line 0) 1) × (seen' ≡ set seen m.line 1)) {both twice' ill' : Bool} (eo : both ≡ (again || m.walk.twice)) (et : twice' ≡ (twice || both)) (el : ill' ≡ (ill || m.walk.ill)) {e b : ℕ} (ee : e ≡ skip s m.walk.end) (eb : b ≡ peek s e) where
      pub members_inside : e < length s
      members_inside = row_inside (member (value inner)) 125 s i member_end ee eb (omega arith) (λ q. omega arith) left.row

      member_on : {x : Text × Tree} {j : ℕ} {ys : List (Text × Tree)} → member (value inner) s i ≡ done x j → left.rest ≡ x ∷ ys → Sum (eight o left.all) (nine o left.all) twice' ill' (twice_to_come o seen' ys) (ill_to_come o seen' ys)
      member_on {x} {j} {ys} f q =
          let t = told.holds x j f in
          let w = t.value.over (line_at m.line).asked in
          let back : set seen m.line 1 ≡ seen' = sym noted.1 in
          sum_on left.sum
          (ap (twice_to_come o seen) q ∙ more_twice o seen left.sized x.1 t.line (members ys) ∙ ap (λ (n : List ℕ). (eqb (get_or seen m.line 0) 1 || judged (sought false) (line_at m.line).asked (kind_at (value_kind m.line)) x.1) || twice_to_come o n ys) back)
          (ap (ill_to_come o seen) q ∙ more_ill o seen left.sized x.1 t.line (members ys) ∙ ap (λ (n : List ℕ). judged (sought true) (line_at m.line).asked (kind_at (value_kind m.line)) x.1 || ill_to_come o n ys) back)
          (eo ∙ λ z. noted.0 z || w.doubled z)
          (λ z. w.faulty (halves (eqb (get_or seen m.line 0) 1) _ z).1)
          et el

      pub members_last : (b ≡ 44 → ⊥) → {z c : Bool} → z ≡ some (said_in ills o seen' no_members) 20 → c ≡ (ill' || z) → Gives (MembersTold o (record { end = e + 1; twice = twice'; ill = c })) (many (member (value inner)) 125 s p)
      members_last h {z} {c} ez ec =
          let (x, j, f, q, n) = row_last (member (value inner)) 125 s i member_end ee eb (omega arith) (λ y. omega arith) h left.row in
          gives_was left.was (record { over = sum_over (member_on f q) (end_twice o seen') (ec ∙ ap (λ (y : Bool). ill' || y) ez) n })

      pub members_next : b ≡ 44 → {u : ℕ} → u ≡ skip s (e + 1) → (i < u) × (i < length s) × MembersLeft o s p u seen' twice' ill'
      members_next h {u} eu =
          let (x, j, ys, f, q, r) = row_next (member (value inner)) 125 s i member_end ee eb (omega arith) (λ y. omega arith) h eu left.row in
          let le : i ≤ e = row_onward (member (value inner)) 125 s i member_end ee eb (omega arith) (λ y. omega arith) (member_forward (value inner) (value_forward inner)) left.row in
          let lt : e < length s = members_inside in
          (omega (arith, skip_ge s (e + 1)), omega arith, record { all = left.all; until = left.until; was = left.was; rest = ys; row = r; sized = ap length noted.1 ∙ length-set seen m.line 1 ∙ left.sized; sum = member_on f q })
