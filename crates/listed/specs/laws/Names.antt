-- The table of names: where a text stands in it, how it is kept and gets one name more, and that a cell is settled by it as the definition says. Assumes nothing.
use Rattle.std.specs.Prelude.{◌≡◌, Bool, true, false, ◌||◌, ℕ, suc, ◌+◌, ◌≤◌, ◌<◌, set}
use Rattle.std.proofs.Math.Path.{refl, sym, ap}
use Rattle.std.proofs.Common.{◌∙◌, arith, add-one, length-set, length-append, take_all, take-suc, take_at, get_or-set_same, get_or-set_other, take-suc-set, below_more, eq-eqb, ne_eqb}
use mathlib.Core.List.{List, [], ◌∷◌, ◌++◌}
use Rattle.std.proofs.Math.ListN.{length, get_or, take, drop}
use Rattle.std.proofs.Math.Seq.{length-take-le, take-take, split_at, get_or-take}
use Rattle.std.proofs.lemmas.List.{set-get_or}
use Rattle.text.specs.Reading.{Text}
use Rattle.text.specs.laws.Readers.{pick_true, pick_false}
use Rattle.grammar.specs.Tree.{same}
use Rattle.manifest.specs.Rows.{any, holds}
use Rattle.manifest.proofs.laws.Bools.{halves}
use Rattle.manifest.proofs.laws.Lists.{any_append}
use Rattle.index.specs.Index.{text_at, text_cell}
use Rattle.prints.specs.Prints.{print_at, front}
use Rattle.prints.specs.laws.Prints.{other_print}
use Rattle.index.proofs.laws.Paths.{path_some}
use Rattle.listed.specs.Settled.{first_of, with_first, settled_at, cell_settled}
use Rattle.listed.specs.laws.Parts.{Kept, Held, Measured, Table, Placed, so_far, size_at}

-- the text at p is that at q
abbrev pub stands : Text → ℕ → ℕ → Bool
stands s p q = same (text_at s p) (text_at s q)

-- ---- the first of some positions

module _ (s : Text) (p : ℕ) where
  pub first_none : (l : List ℕ) → any (stands s p) l ≡ false → first_of s l p ≡ p
  unfolding any first_of
  first_none [] h = refl
  first_none (q ∷ l) h = pick_false _ _ (halves (stands s p q) (any (stands s p) l) h).0 ∙ first_none l (halves (stands s p q) (any (stands s p) l) h).1

  -- it stands at q, and at none before
  pub first_here : (l m : List ℕ) (q : ℕ) → any (stands s p) l ≡ false → stands s p q ≡ true → first_of s (l ++ q ∷ m) p ≡ q
  unfolding any first_of
  first_here [] m q h e = pick_true _ _ e
  first_here (a ∷ l) m q h e = pick_false _ _ (halves (stands s p a) (any (stands s p) l) h).0 ∙ first_here l m q (halves (stands s p a) (any (stands s p) l) h).1 e

-- ---- the places of a table, one after the other

-- the text at p stands at none of the first k places
pub record Passed (s firsts : List ℕ) (p k : ℕ) : Type 0 where
  pub none : any (stands s p) (take k firsts) ≡ false

module _ {s : Text} {firsts : List ℕ} {p : ℕ} where
  pub passed_none : Passed s firsts p 0
  unfolding any
  passed_none = record { none = refl }

  module _ {k : ℕ} (h : Passed s firsts p k) where
    pub passed_more : k < length firsts → stands s p (get_or firsts k 0) ≡ false → Passed s firsts p (k + 1)
    unfolding any
    passed_more l e =
        record {
          none = ap (λ (m : ℕ). any (stands s p) (take m firsts)) (add-one k)
              ∙ ap (any (stands s p)) (take-suc firsts k 0 l)
              ∙ any_append (stands s p) (take k firsts) (get_or firsts k 0 ∷ [])
              ∙ (λ i. h.none i || (e i || false));
        }

    -- of n places, it stands first at place k; or at none
    module _ {n : ℕ} where
      pub placed_here : k < n → n ≤ length firsts → stands s p (get_or firsts k 0) ≡ true → Placed s firsts n p k
      unfolding any
      placed_here l few e =
          let long : length (take n firsts) ≡ n = length-take-le n firsts few in
          let parts : take n firsts ≡ take k firsts ++ get_or firsts k 0 ∷ drop (suc k) (take n firsts) =
          split_at (take n firsts) k 0 (omega arith)
          ∙ (λ i. take-take k n firsts (omega arith) i ++ get_or-take n firsts k 0 l i ∷ drop (suc k) (take n firsts)) in
          record {
            among = omega arith;
            here = λ _. (
              ap (any (stands s p)) parts
                  ∙ any_append (stands s p) (take k firsts) (get_or firsts k 0 ∷ drop (suc k) (take n firsts))
                  ∙ (λ i. h.none i || (e i || any (stands s p) (drop (suc k) (take n firsts)))),
              ap (λ (l : List ℕ). first_of s l p) parts
                  ∙ first_here s p (take k firsts) (drop (suc k) (take n firsts)) (get_or firsts k 0) h.none e,
            );
            nowhere = λ q. absurd (omega arith);
          }

      pub placed_nowhere : k ≤ n → n ≤ k → Placed s firsts n p n
      placed_nowhere a b =
          let e : k ≡ n = omega arith in
          record { among = omega arith; here = λ q. absurd (omega arith); nowhere = λ _. ap (λ (m : ℕ). any (stands s p) (take m firsts)) (sym e) ∙ h.none }

-- ---- a table of n names

module _ {s firsts prints lengths texts : List ℕ} {n : ℕ} (t : Table s firsts prints lengths texts n) where
  module _ {k : ℕ} (h : k < n) where
    pub name_held : Held s texts k (get_or firsts k 0) (get_or lengths k 0)
    name_held = record { room = t.room; among = omega (arith, t.few); long = t.measured k h; bytes = t.bytes k h }

    -- what two texts that are compared tell
    pub name_told : (p : ℕ) {r b : Bool} → r ≡ holds (same (text_at s p)) (text_cell s (get_or firsts k 0)) → r ≡ b → stands s p (get_or firsts k 0) ≡ b
    name_told p e f = path_some s (text_at s p) (get_or firsts k 0) (t.some k h) refl ∙ sym e ∙ f

    -- with another print than that of the text at p, it is another text
    pub name_apart : (p : ℕ) {print : ℕ} → print ≡ print_at s p → (get_or prints k 0 ≡ print → ⊥) → stands s p (get_or firsts k 0) ≡ false
    name_apart p its d = other_print s p (get_or firsts k 0) its (t.printed k h) d

  -- the slot after them is none of theirs
  pub table_kept : {w new : List ℕ} → Kept texts n w new → Table s firsts prints lengths new n
  table_kept m =
      record {
        few = t.few;
        long = t.long;
        room = m.room;
        some = t.some;
        none = t.none;
        printed = t.printed;
        measured = t.measured;
        bytes = λ k h. let d : k ≡ n → ⊥ = λ e. omega arith in m.others k d ∙ t.bytes k h;
      }

  -- one name more: it stands at p
  module _ (room : n < 32) {p m print : ℕ} {new : List ℕ} (there : p ≡ 0 → ⊥) (g : Measured s p texts n new m print) where
    before : (l : List ℕ) (v k : ℕ) → k < n → get_or (set l n v) k 0 ≡ get_or l k 0
    before l v k h = get_or-set_other l n k v 0 (λ e. omega arith)

    own : (l : List ℕ) (v : ℕ) → length l ≡ 32 → get_or (set l n v) n 0 ≡ v
    own l v e = get_or-set_same l n v 0 (omega arith)

    pub table_more : Table s (set firsts n p) (set prints n print) (set lengths n m) new (n + 1)
    table_more =
        let its : get_or (set firsts n p) n 0 ≡ p = own firsts p t.long.0 in
        record {
          few = omega arith;
          long = (length-set firsts n p ∙ t.long.0, length-set prints n print ∙ t.long.1, length-set lengths n m ∙ t.long.2);
          room = g.kept.room;
          some = below_more _ n (λ k h e. t.some k h (sym (before firsts p k h) ∙ e)) (λ e. there (sym its ∙ e));
          none = λ k h. get_or-set_other firsts n k p 0 (λ e. omega arith) ∙ t.none k (omega arith);
          printed = below_more _ n (λ k h. before prints print k h ∙ t.printed k h ∙ ap (print_at s) (sym (before firsts p k h))) (own prints print t.long.1 ∙ g.printed ∙ ap (print_at s) (sym its));
          measured =
              below_more
              _
              n
              (λ k h. before lengths m k h ∙ t.measured k h ∙ ap (λ (q : ℕ). length (text_at s q)) (sym (before firsts p k h)))
              (own lengths m t.long.2 ∙ g.long ∙ ap (λ (q : ℕ). length (text_at s q)) (sym its));
          bytes =
              below_more
              _
              n
              (λ k h. g.kept.others k (λ e. omega arith) ∙ t.bytes k h ∙ ap (λ (q : ℕ). front (text_at s q)) (sym (before firsts p k h)))
              (g.kept.here ∙ ap (λ (q : ℕ). front (text_at s q)) (sym its));
        }

-- ---- a cell is settled

-- the length of what stands at p
module _ (s : Text) {p : ℕ} where
  pub size_at_none : p ≡ 0 → 1 ≡ size_at s p
  unfolding size_at
  size_at_none e = sym (pick_true _ _ (eq-eqb p 0 e))

  pub size_at_some : (p ≡ 0 → ⊥) → {m : ℕ} → m ≡ length (text_at s p) → m ≡ size_at s p
  unfolding size_at
  size_at_some d e = e ∙ sym (pick_false _ _ (ne_eqb p 0 d))

-- cell c, with a table of n names
module _ {s firsts prints lengths texts : List ℕ} {n : ℕ} (t : Table s firsts prints lengths texts n) (ix : List ℕ) (c : ℕ) where
  -- it tells of no name
  pub cell_none : get_or ix c 0 ≡ 0 → so_far firsts n ix ≡ cell_settled s c (so_far firsts n ix)
  unfolding cell_settled settled_at
  cell_none e = sym (pick_true _ _ (eq-eqb (get_or ix c 0) 0 e))

  -- it tells of one
  module _ (there : get_or ix c 0 ≡ 0 → ⊥) where
    told : {l new : List ℕ} → with_first s (take n firsts) (get_or ix c 0) ≡ l → set ix c (first_of s (take n firsts) (get_or ix c 0)) ≡ new
        → record { firsts = l; index = new } ≡ cell_settled s c (so_far firsts n ix)
    unfolding cell_settled settled_at
    told a b = sym (pick_false _ _ (ne_eqb (get_or ix c 0) 0 there) ∙ (λ i. record { firsts = a i; index = b i }))

    module _ {k : ℕ} (f : Placed s firsts n (get_or ix c 0) k) where
      -- whose text is in the table
      pub cell_found : k < n → so_far firsts n (set ix c (get_or firsts k 0)) ≡ cell_settled s c (so_far firsts n ix)
      unfolding with_first
      cell_found h = told (pick_true _ _ (f.here h).0) (ap (set ix c) (f.here h).1)

      -- whose text is not
      module _ (h : n ≤ k) where
        nowhere : any (stands s (get_or ix c 0)) (take n firsts) ≡ false
        nowhere = f.nowhere (omega (arith, f.among))

        stays : set ix c (first_of s (take n firsts) (get_or ix c 0)) ≡ ix
        stays = ap (set ix c) (first_none s (get_or ix c 0) (take n firsts) nowhere) ∙ set-get_or ix c 0

        added : with_first s (take n firsts) (get_or ix c 0) ≡ take 32 (take n firsts ++ get_or ix c 0 ∷ [])
        unfolding with_first
        added = pick_false _ _ nowhere

        taken : length (take n firsts) ≡ n
        taken = length-take-le n firsts (omega (arith, t.few, t.long.0))

        -- the table is full
        pub cell_full : 32 ≤ n → so_far firsts n ix ≡ cell_settled s c (so_far firsts n ix)
        cell_full l = told (added ∙ take_at (take n firsts) (get_or ix c 0 ∷ []) 32 (omega (arith, taken, t.few))) stays

        -- it has room
        pub cell_more : n < 32 → so_far (set firsts n (get_or ix c 0)) (n + 1) ix ≡ cell_settled s c (so_far firsts n ix)
        cell_more l =
            told
            (added
            ∙ take_all 32 (take n firsts ++ get_or ix c 0 ∷ []) (omega (arith, taken, length-append (take n firsts) (get_or ix c 0 ∷ [])))
            ∙ sym (ap (λ (m : ℕ). take m (set firsts n (get_or ix c 0))) (add-one n) ∙ take-suc-set firsts n (get_or ix c 0) (omega (arith, t.long.0))))
            stays
