-- The walk over one object: what its columns hold after each member. Assumes nothing.
use mathlib.Core.Path.{◌≡◌, refl, sym, ap, subst, ◌∙◌}
use mathlib.Core.Bool.{Bool, true, false}
use mathlib.Core.List.{List, [], ◌∷◌, ◌++◌}
use Prim.Native.Nat.{ℕ, zero, suc, ◌+◌, ◌-◌, ◌≤◌, ◌<◌}
use native.Mathlib.Decide.{ℕ_discrete, dec_lt}
use native.Mathlib.Omega.{arith}
use lib.ListN.{length, get_or, set, replicate, length-set, length-replicate}
use lib.Seq.{get_or-set_same, get_or-set_other}
use borrow.Author.Tests.{lt-ltb}
use Rattle.text.specs.Reading.{Text, done, pick, peek}
use Rattle.text.specs.Class.{skip}
use Rattle.text.specs.laws.Peek.{skip_ge}
use Rattle.text.specs.laws.Readers.{next_was, next_inv, pick_true, pick_false, past_done, past_strict}
use Rattle.grammar.specs.Tree.{Tree, same}
use Rattle.grammar.specs.Document.{name, value}
use Rattle.grammar.proofs.laws.Forward.{name_past, value_forward}
use Rattle.grammar.proofs.laws.Names.{quote_first}
use Rattle.places.specs.laws.Standing.{name_string}
use Rattle.manifest.proofs.laws.Judge.{tag}
use Rattle.table.specs.Table.{line_at, wanted_of, value_kind}
use Rattle.table.specs.laws.Lines.{there_about}
use Rattle.survey.specs.laws.Walked.{Spot, spotted, spot, placing, valued, placed, under, Entered, slot, Noted, Complete, Held, free, held, Row}
use Rattle.survey.proofs.Going.{Going, going_start, going_end, going_on, going_further}

-- ---- a member, as it was read

pub placed_read : (l : ℕ) (s : Text) (i : ℕ) {k : Text} {j e : ℕ} {t : Tree} → name s i ≡ done k j → value l s (skip s j) ≡ done t e → placed l s i ≡ done (k, (skip s j, t)) e
unfolding placed valued placing spot spotted
placed_read l s i a b = next_was _ a ∙ next_was _ (next_was _ b)

pub placed_name : (l : ℕ) (s : Text) (i : ℕ) {x : Text × Spot} {e : ℕ} → placed l s i ≡ done x e → (k : Text) × (j : ℕ) × (name s i ≡ done k j)
unfolding placed
placed_name l s i r = let w = next_inv (name s i) (valued l s) r in (w.0, w.1, w.2)

-- it doesn't start with a brace
no_brace : (l : ℕ) (s : Text) (i : ℕ) (x : Text × Spot) (e : ℕ) → placed l s i ≡ done x e → peek s i ≡ 125 → ⊥
no_brace l s i x e r h =
    let w = placed_name l s i r in
    let u = name_string s i w.2 in
    let q : peek s i ≡ 34 = quote_first s i u.1 in
    omega arith

-- one member more under a name, or not
under_more : (n : Text) (ms : List (Text × Spot)) (m : Text × Spot) → same m.0 n ≡ true → under n ms ≡ [] → under n (ms ++ (m ∷ [])) ≡ m.1 ∷ []
unfolding under
under_more n [] m h z = pick_true _ _ h
under_more n (x ∷ ms) m h z = go (same x.0 n) refl z (under_more n ms m h)
  where
    go : (b : Bool) → same x.0 n ≡ b → pick b (x.1 ∷ under n ms) (under n ms) ≡ [] → (under n ms ≡ [] → under n (ms ++ (m ∷ [])) ≡ m.1 ∷ []) → pick (same x.0 n) (x.1 ∷ under n (ms ++ (m ∷ []))) (under n (ms ++ (m ∷ []))) ≡ m.1 ∷ []
    go true e y ih = absurd (no_list (sym (pick_true _ _ refl) ∙ y))
      where
        no_list : {a : Spot} {l : List Spot} → a ∷ l ≡ [] → ⊥
        no_list q = let z : ◌≡◌ {A = ℕ} 0 1 = cc in omega arith
    go false e y ih = pick_false _ _ e ∙ ih (sym (pick_false _ _ refl) ∙ y)

under_same : (n : Text) (ms : List (Text × Spot)) (m : Text × Spot) → same m.0 n ≡ false → under n (ms ++ (m ∷ [])) ≡ under n ms
unfolding under
under_same n [] m h = pick_false _ _ h
under_same n (x ∷ ms) m h = ap (λ (l : List Spot). pick (same x.0 n) (x.1 ∷ l) l) (under_same n ms m h)

-- ---- the columns

held_free : {k c : ℕ} {l : List Spot} → Held k c l → c ≡ 0 → l ≡ []
held_free free z = refl
held_free (held n f) z = absurd (n z)

pub record Walking (o l : ℕ) (s : Text) (p i : ℕ) (found : List ℕ) : Type 0 where
  pub pre : List (Text × Spot)
  pub going : Going (placed l) 125 s (p + 1) i pre
  pub sized : length found ≡ 5
  pub columns : (j : ℕ) → j < 20 → (line_at j).place ≡ o → Held (line_at j).kind (get_or found (slot o j) 0) (under (line_at j).name pre)

zero_row : (n k : ℕ) → get_or (replicate {A = ℕ} n 0) k 0 ≡ 0
zero_row zero k = refl
zero_row (suc n) zero = refl
zero_row (suc n) (suc k) = zero_row n k

module _ (o l : ℕ) (s : Text) (p : ℕ) where
  pub walk_start : {i : ℕ} → i ≡ skip s (p + 1) → Walking o l s p i (replicate 5 0)
  unfolding under
  walk_start ei =
      record {
        pre = [];
        going = going_start (placed l) 125 s (p + 1) (no_brace l s) ei;
        sized = length-replicate {A = ℕ} 5 0;
        columns = λ j h g. subst (λ (c : ℕ). Held (line_at j).kind c []) (sym (zero_row 5 (slot o j))) free;
      }

  module _ (small : o < 12) {i : ℕ} {found : List ℕ} (w : Walking o l s p i found) {line v e : ℕ} (m : Entered o l s i line v e) where
    pub walk_place : line < 20 → (line_at line).place ≡ o
    walk_place h = (m.about.about h).0

    abbrev this : Text × Spot
    this = (m.key, (v, m.fits.tree))

    this_read : placed l s i ≡ done this e
    this_read =
        placed_read l s i m.named (ap (value l s) (sym m.place) ∙ m.fits.reads)
        ∙ ap (λ (x : ℕ). done (m.key, (x, m.fits.tree)) e) (sym m.place)

    onward : (i < v) × (i ≤ e)
    onward =
        let a : i < m.colon = past_strict (name_past s i) m.named in
        let b : v ≤ e = past_done (value l) (value_forward l) s v m.fits.reads in
        (omega (arith, m.place, skip_ge s m.colon), omega (arith, m.place, skip_ge s m.colon))

    pub walk_past : v ≡ 0 → ⊥
    walk_past z = omega (arith, onward.0)

    known_kind : line < 20 → value_kind line ≡ (line_at line).kind
    unfolding value_kind
    known_kind h = pick_true _ _ (lt-ltb line 20 h)

    module _ {new : List ℕ} (n : Noted o line v found new) where
      pub walk_sized : length new ≡ 5
      walk_sized = go (dec_lt line 20)
        where
          go : Dec (line < 20) → length new ≡ 5
          go (yes h) = ap length (n.put h) ∙ length-set found (slot o line) v ∙ w.sized
          go (no h) = ap length (n.other h) ∙ w.sized

      pub noted_this : line < 20 → slot o line < 5 → get_or new (slot o line) 0 ≡ v
      noted_this h f = ap (λ (x : List ℕ). get_or x (slot o line) 0) (n.put h) ∙ get_or-set_same found (slot o line) v 0 (omega (arith, w.sized))

      pub noted_other : (j : ℕ) → j < 20 → (line_at j).place ≡ o → (j ≡ line → ⊥) → get_or new (slot o j) 0 ≡ get_or found (slot o j) 0
      noted_other j h g ne = go (dec_lt line 20)
        where
          go : Dec (line < 20) → get_or new (slot o j) 0 ≡ get_or found (slot o j) 0
          go (yes y) =
              let (a, b) = there_about o j small h g in
              let (c, d) = there_about o line small y (walk_place y) in
              let apart : slot o j ≡ slot o line → ⊥ = λ z. ne (omega arith) in
              ap (λ (x : List ℕ). get_or x (slot o j) 0) (n.put y) ∙ get_or-set_other found (slot o line) (slot o j) v 0 apart
          go (no y) = ap (λ (x : List ℕ). get_or x (slot o j) 0) (n.other y)

      columns_more : (few : line < 20 → slot o line < 5) (j : ℕ) → j < 20 → (line_at j).place ≡ o → Held (line_at j).kind (get_or new (slot o j) 0) (under (line_at j).name (w.pre ++ (this ∷ [])))
      columns_more few j h g = go (ℕ_discrete j line)
        where
          here : line < 20 → Held (line_at line).kind (get_or new (slot o line) 0) (under (line_at line).name (w.pre ++ (this ∷ [])))
          here y =
              let z : under (line_at line).name w.pre ≡ [] = held_free (w.columns line y (walk_place y)) (n.free y) in
              let u : under (line_at line).name (w.pre ++ (this ∷ [])) ≡ (v, m.fits.tree) ∷ [] = under_more (line_at line).name w.pre this (m.about.about y).1 z in
              let nz : v ≡ 0 → ⊥ = λ q. omega (arith, q, onward.0) in
              let x : Held (line_at line).kind v ((v, m.fits.tree) ∷ []) = held nz (subst (λ (k : ℕ). (k ≡ 2 → ⊥) → tag m.fits.tree ≡ wanted_of k) (known_kind y) m.fits.typed) in
              subst (λ (q : List Spot). Held (line_at line).kind (get_or new (slot o line) 0) q) (sym u) (subst (λ (c : ℕ). Held (line_at line).kind c ((v, m.fits.tree) ∷ [])) (sym (noted_this y (few y))) x)

          go : Dec (j ≡ line) → Held (line_at j).kind (get_or new (slot o j) 0) (under (line_at j).name (w.pre ++ (this ∷ [])))
          go (yes q) = subst (λ (k : ℕ). Held (line_at k).kind (get_or new (slot o k) 0) (under (line_at k).name (w.pre ++ (this ∷ [])))) (sym q) (here (subst (λ (k : ℕ). k < 20) q h))
          go (no q) =
              let u : under (line_at j).name (w.pre ++ (this ∷ [])) ≡ under (line_at j).name w.pre = under_same (line_at j).name w.pre this (m.about.others j h q g) in
              subst (λ (x : List Spot). Held (line_at j).kind (get_or new (slot o j) 0) x) (sym u) (subst (λ (c : ℕ). Held (line_at j).kind c (under (line_at j).name w.pre)) (sym (noted_other j h g q)) (w.columns j h g))

      -- k is past the whitespace after the member, and b the byte there
      module _ (few : line < 20 → slot o line < 5) {k b : ℕ} (ek : k ≡ skip s e) (eb : b ≡ peek s k) where
        pub walk_end : peek s p ≡ 123 → b ≡ 125 → Complete o new → Row o l s p (set new 0 (k + 1))
        walk_end opens h c =
            record {
              opens = opens;
              members = w.pre ++ (this ∷ []);
              reads = going_end (placed l) 125 s (p + 1) w.going this_read ek eb h ∙ ap (done (w.pre ++ (this ∷ []))) (sym (get_or-set_same new 0 (k + 1) 0 (omega (arith, walk_sized))));
              columns = λ j y g. subst (λ (x : ℕ). Held (line_at j).kind x (under (line_at j).name (w.pre ++ (this ∷ [])))) (sym (stays j)) (columns_more few j y g);
              complete = record { there = λ j y g a z. c.there j y g a (sym (stays j) ∙ z) };
            }
          where
            stays : (j : ℕ) → get_or (set new 0 (k + 1)) (slot o j) 0 ≡ get_or new (slot o j) 0
            stays j = get_or-set_other new 0 (slot o j) (k + 1) 0 (λ q. omega arith)

        module _ (other : b ≡ 125 → ⊥) (comma : b ≡ 44) {y : ℕ} (ey : y ≡ skip s (k + 1)) where
          pub walk_on : Walking o l s p y new
          walk_on =
              record {
                pre = w.pre ++ (this ∷ []);
                going = going_on (placed l) 125 s (p + 1) w.going this_read ek eb onward.1 other comma ey;
                sized = walk_sized;
                columns = columns_more few;
              }

          pub walk_further : length s - y < length s - i
          walk_further = going_further (placed l) 125 s (p + 1) w.going this_read ek eb onward.1 other comma ey
