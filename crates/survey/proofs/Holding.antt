-- A member with an array or an object in it: that its value fits, what it puts, and that what the columns tell stays told as the walk goes on. The idea: what is
-- told of such a value is a relation T of its place and of a memory before and after, and one line of an object alone puts into each memory. Assumes nothing.
use mathlib.Core.Path.{◌≡◌, refl, sym, ap, subst, ◌∙◌}
use mathlib.Core.List.{List, map}
use Prim.Native.Nat.{ℕ, suc, ◌<◌}
use native.Mathlib.Decide.{ℕ_discrete}
use native.Mathlib.Omega.{arith}
use lib.ListN.{length, get_or, set}
use lib.Seq.{get_or-set_other}
use borrow.Author.Tests.{lt-ltb}
use Rattle.text.specs.Reading.{Text, done, scan}
use Rattle.text.specs.declared.Scan.TheVariants.{Done}
use Rattle.text.specs.Class.{skip}
use Rattle.text.specs.laws.Peek.{skip_ge}
use Rattle.text.specs.laws.Readers.{pick_true, past_strict}
use Rattle.grammar.specs.Tree.{arr, obj, Members, Trees, trees}
use Rattle.grammar.specs.Document.{name}
use Rattle.grammar.proofs.laws.Forward.{name_past}
use Rattle.values.specs.laws.Outs.{scan_done}
use Rattle.manifest.proofs.laws.Judge.{tag}
use Rattle.table.specs.Table.{wanted_of, value_kind}
use Rattle.survey.specs.laws.Walked.{Spot, Fits, Entered, slot, Row, Listed, Holds, Puts, Noted}
use Rattle.survey.proofs.Stepping.{column_small}
use Rattle.survey.proofs.Walking.{Walking, walk_place, walk_past, noted_other, noted_this}
use Rattle.survey.proofs.Objects.{its_members, row_value}
use Rattle.survey.proofs.Arrays.{array_value}
use Rattle.survey.proofs.Known.{Known}

-- ---- its value

-- no value of a member stands at 0
pub value_past : (s : Text) (i : ℕ) {j : ℕ} → scan (name s i) ≡ Done j → {v : ℕ} → v ≡ skip s j → v ≡ 0 → ⊥
value_past s i {j} en ev z =
    let w = scan_done (name s i) en in
    let a : i < j = past_strict (name_past s i) w.1 in
    omega (arith, skip_ge s j)

object_typed : (k : ℕ) (ms : Members) → wanted_of k ≡ 6 → tag (obj ms) ≡ wanted_of k
unfolding tag
object_typed k ms e = sym e

array_typed : (k : ℕ) (ts : Trees) → wanted_of k ≡ 5 → tag (arr ts) ≡ wanted_of k
unfolding tag
array_typed k ts e = sym e

-- line n has a value of kind k
module _ {n o c k : ℕ} {key : Text} (a : Known n o key c k) {line : ℕ} (h : line ≡ n) where
  kind_of : k ≡ value_kind line
  unfolding value_kind
  kind_of = sym (ap value_kind h ∙ pick_true _ _ (lt-ltb n 20 a.small) ∙ a.kind)

  pub object_fits : wanted_of k ≡ 6 → {l : ℕ} {s : Text} {p : ℕ} {row : List ℕ} → Row k l s p row → {e : ℕ} → get_or row 0 0 ≡ e → Fits (value_kind line) (suc l) s p e
  object_fits wants {l} {s} {p} w {e} ends =
      subst (λ (x : ℕ). Fits x (suc l) s p e) kind_of
      (record {
        tree = obj (its_members k l s p w);
        reads = row_value k l s p w ∙ ap (done (obj (its_members k l s p w))) ends;
        typed = λ _. object_typed k (its_members k l s p w) wants;
      })

  pub array_fits : wanted_of k ≡ 5 → {i l : ℕ} {s : Text} {p e : ℕ} → Listed i l s p e → Fits (value_kind line) (suc l) s p e
  array_fits wants {l = l} {s = s} {p = p} {e = e} m =
      subst (λ (x : ℕ). Fits x (suc l) s p e) kind_of
      (record {
        tree = arr (trees (map (λ (x : Spot). x.1) m.items));
        reads = array_value l s p m.opens m.reads;
        typed = λ _. array_typed k (trees (map (λ (x : Spot). x.1) m.items)) wants;
      })

-- ---- what it puts

module _ (T : ℕ → List ℕ → List ℕ → Type 0) {n line v : ℕ} where
  pub puts_this : {old new : List ℕ} → line ≡ n → T v old new → Puts T n line v old new
  puts_this h t = record { other = λ x. absurd (x h); this = λ _. t }

  pub puts_none : {old new : List ℕ} → (line ≡ n → ⊥) → new ≡ old → Puts T n line v old new
  puts_none h q = record { other = λ _. q; this = λ x. absurd (h x) }

-- ---- the columns

-- T is what is told of a value that is there
module _ (T : ℕ → List ℕ → List ℕ → Type 0) where
  pub holds_none : (ix : List ℕ) → Holds T 0 ix ix
  holds_none ix = record { without = λ _. refl; within = λ n. absurd (n refl) }

  -- line n has it
  module _ (o n : ℕ) {line v : ℕ} {found new : List ℕ} (d : Noted o line v found new) {old mid ix : List ℕ} (a : Holds T (get_or found (slot o n) 0) old mid) (p : Puts T n line v mid ix) where
    pub holds_more : (line < 20 → get_or new (slot o line) 0 ≡ v) → ((line ≡ n → ⊥) → get_or new (slot o n) 0 ≡ get_or found (slot o n) 0) → n < 20 → (v ≡ 0 → ⊥) → Holds T (get_or new (slot o n) 0) old ix
    holds_more this other small past = go (ℕ_discrete line n)
      where
        go : Dec (line ≡ n) → Holds T (get_or new (slot o n) 0) old ix
        go (yes e) =
            let l : line < 20 = omega arith in
            let f : get_or found (slot o n) 0 ≡ 0 = ap (λ (x : ℕ). get_or found (slot o x) 0) (sym e) ∙ d.free l in
            let g : get_or new (slot o n) 0 ≡ v = ap (λ (x : ℕ). get_or new (slot o x) 0) (sym e) ∙ this l in
            let h : T v old ix = subst (λ (x : List ℕ). T v x ix) (a.without f) (p.this e) in
            record {
              without = λ z. absurd (past (sym g ∙ z));
              within = λ _. subst (λ (x : ℕ). T x old ix) (sym g) h;
            }
        go (no e) =
            let g : get_or new (slot o n) 0 ≡ get_or found (slot o n) 0 = other e in
            let q : ix ≡ mid = p.other e in
            record {
              without = λ z. q ∙ a.without (sym g ∙ z);
              within = λ z. subst (λ (x : ℕ). T x old ix) (sym g) (subst (λ (x : List ℕ). T (get_or found (slot o n) 0) old x) (sym q) (a.within (λ y. z (g ∙ y))));
            }

-- it was told, or nothing was put: the memory has its size
pub holds_sized : (T : ℕ → List ℕ → List ℕ → Type 0) {c : ℕ} {old new : List ℕ} → (T c old new → length new ≡ length old) → Holds T c old new → length new ≡ length old
holds_sized T {c} {old} {new} f a = go (ℕ_discrete c 0)
  where
    go : Dec (c ≡ 0) → length new ≡ length old
    go (yes z) = ap length (a.without z)
    go (no n) = f (a.within n)

-- the end in front of a row changes no column
pub holds_kept : (T : ℕ → List ℕ → List ℕ → Type 0) (k : ℕ) (e : ℕ) (row : List ℕ) {old new : List ℕ} → Holds T (get_or row (suc k) 0) old new → Holds T (get_or (set row 0 e) (suc k) 0) old new
holds_kept T k e row {old} {new} a = subst (λ (x : ℕ). Holds T x old new) (sym (get_or-set_other row 0 (suc k) e 0 (λ q. omega arith))) a

-- one member more
module _ {o n k m : ℕ} {name : Text} (l : ℕ) (line-n : Known n o name k m) (s : Text) (p : ℕ) (T : ℕ → List ℕ → List ℕ → Type 0) (small : o < 12) {i : ℕ} {found : List ℕ} (w : Walking o l s p i found)
    {line v e : ℕ} (en : Entered o l s i line v e) {new : List ℕ} (d : Noted o line v found new) where
  few : line < 20 → slot o line < 5
  few h = column_small o small refl line h (walk_place o l s p small w en h)

  pub found_on : {old mid ix : List ℕ} → Holds T (get_or found k 0) old mid → Puts T n line v mid ix → Holds T (get_or new k 0) old ix
  found_on {old} {mid} {ix} a q =
      let b : Holds T (get_or found (slot o n) 0) old mid = subst (λ (x : ℕ). Holds T (get_or found x 0) old mid) (sym line-n.column) a in
      subst (λ (x : ℕ). Holds T (get_or new x 0) old ix) line-n.column
      (holds_more T o n d b q (λ h. noted_this o l s p small w en d h (few h)) (λ ne. noted_other o l s p small w en d n line-n.small line-n.place (λ z. ne (sym z))) line-n.small (walk_past o l s p small w en))
