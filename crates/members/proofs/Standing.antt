-- The type of the value at a position, and what a walk over it tells, in the code's own values. Assumes nothing.
use mathlib.Core.Path.{◌≡◌, refl, sym, ap, ◌∙◌}
use mathlib.Core.Bool.{Bool, true, false}
use mathlib.Core.List.{List, [], ◌∷◌}
use Prim.Native.Nat.{ℕ, zero, suc, ◌+◌, ◌<◌}
use native.Mathlib.Omega.{arith}
use lib.ListN.{length}
use Rattle.text.specs.Reading.{Text, Out, done, bad, deep, pick, peek, scan}
use Rattle.text.specs.declared.Scan.{Scan}
use Rattle.text.specs.declared.Scan.TheVariants.{Done}
use Rattle.text.specs.laws.Peek.{found_lt}
use Rattle.grammar.specs.Tree.{Tree, arr, obj, trees, members, list_of_trees}
use Rattle.grammar.specs.Document.{many, member, value, most}
use Rattle.values.specs.Stands.{Stands}
use Rattle.values.specs.laws.Outs.{Gives, Stops, scan_done}
use Rattle.values.specs.laws.Shapes.{Shape, array, object, text, yes_word, no_word, null_is, figure}
use Rattle.values.specs.laws.Standing.{shape_of}
use Rattle.places.specs.Places.{inner}
use Rattle.manifest.specs.Rows.{any}
use Rattle.manifest.proofs.laws.Judge.{tag, judged}
use Rattle.manifest.proofs.laws.Table.{lines, kind_at}
use Rattle.manifest.proofs.laws.Walk.{from}
use Rattle.members.specs.Members.{member_refusal_in, member_refusal_at}
use Rattle.members.specs.declared.Walk.{Walk}
use Rattle.members.specs.laws.Flaw.{sought}
use Rattle.table.specs.Table.{wanted_of}
use Rattle.members.specs.laws.Walked.{Reads, reached, Over, Told, ItemsTold, MembersTold}
use Rattle.table.specs.laws.Lines.{item_of}
use Rattle.members.specs.laws.Judged.{free_judged, wrong_judged, scalar_judged, is_array, is_object, items_judged, members_judged, both_flaws}
use Rattle.members.proofs.Rows.{reached_done}

-- ---- a value that is passed over

pub passed_over : (s : Text) (p : ℕ) {ill : Bool} {v : Scan} {j : ℕ} → v ≡ scan (value most s p) → j ≡ reached v → Gives (λ t n. Over (record { end = j; twice = false; ill = ill }) n false ill) (value most s p)
passed_over s p ev ej = record { holds = λ t n e. record { ends = reached_done ej (value most s p) ev e; doubled = refl; faulty = λ _. refl } }

over_is : {w : Walk} {n : ℕ} {a b c d : Bool} → Over w n a b → a ≡ c → b ≡ d → Over w n c d
over_is o p q = record { ends = o.ends; doubled = o.doubled ∙ p; faulty = λ z. o.faulty (p ∙ z) ∙ q }

-- where any value may stand
pub free_told : (s : Text) (p : ℕ) {k : ℕ} → k ≡ 2 → {w : Walk} → Gives (λ t n. Over w n false false) (value most s p) → Gives (Told k w) (value most s p)
free_told s p e g =
    record {
      holds = λ t n f. record { over = λ r. over_is (g.holds t n f) (free_judged e false r t) (free_judged e true r t) };
    }

-- ---- a value of a kind

items_of_trees : (xs : List Tree) → list_of_trees (trees xs) ≡ xs
unfolding list_of_trees
items_of_trees [] = refl
items_of_trees (x ∷ xs) = ap (λ (ys : List Tree). x ∷ ys) (items_of_trees xs)

-- what an array and an object read
pub record Opened {A : Type 0} (s : Text) (p byte : ℕ) (o : Out (List A)) (made : List A → Tree) (t : Tree) (n : ℕ) : Type 0 where
  pub parts : List A
  pub opens : peek s p ≡ byte
  pub makes : t ≡ made parts
  pub reads : o ≡ done parts n

array_shape : (s : Text) (p : ℕ) {n : ℕ} {t : Tree} → tag t ≡ 5 → Shape s p 15 t n → Opened s p 91 (many (value inner) 93 s (p + 1)) (λ xs. arr (trees xs)) t n
array_shape s p z (array xs h f g) = record { parts = xs; opens = h; makes = f; reads = g }
array_shape s p {n} {t} z (object xs h f g) = let (ts, e) = is_array t z in let y : ◌≡◌ {A = ℕ} 0 1 = cc in absurd (omega arith)
array_shape s p {n} {t} z (text u h f g) = let (ts, e) = is_array t z in let y : ◌≡◌ {A = ℕ} 0 1 = cc in absurd (omega arith)
array_shape s p {n} {t} z (yes_word h f) = let (ts, e) = is_array t z in let y : ◌≡◌ {A = ℕ} 0 1 = cc in absurd (omega arith)
array_shape s p {n} {t} z (no_word h f) = let (ts, e) = is_array t z in let y : ◌≡◌ {A = ℕ} 0 1 = cc in absurd (omega arith)
array_shape s p {n} {t} z (null_is h f) = let (ts, e) = is_array t z in let y : ◌≡◌ {A = ℕ} 0 1 = cc in absurd (omega arith)
array_shape s p {n} {t} z (figure cs h f g) = let (ts, e) = is_array t z in let y : ◌≡◌ {A = ℕ} 0 1 = cc in absurd (omega arith)

object_shape : (s : Text) (p : ℕ) {n : ℕ} {t : Tree} → tag t ≡ 6 → Shape s p 15 t n → Opened s p 123 (many (member (value inner)) 125 s (p + 1)) (λ xs. obj (members xs)) t n
object_shape s p {n} {t} z (array xs h f g) = let (ts, e) = is_object t z in let y : ◌≡◌ {A = ℕ} 0 1 = cc in absurd (omega arith)
object_shape s p z (object xs h f g) = record { parts = xs; opens = h; makes = f; reads = g }
object_shape s p {n} {t} z (text u h f g) = let (ts, e) = is_object t z in let y : ◌≡◌ {A = ℕ} 0 1 = cc in absurd (omega arith)
object_shape s p {n} {t} z (yes_word h f) = let (ts, e) = is_object t z in let y : ◌≡◌ {A = ℕ} 0 1 = cc in absurd (omega arith)
object_shape s p {n} {t} z (no_word h f) = let (ts, e) = is_object t z in let y : ◌≡◌ {A = ℕ} 0 1 = cc in absurd (omega arith)
object_shape s p {n} {t} z (null_is h f) = let (ts, e) = is_object t z in let y : ◌≡◌ {A = ℕ} 0 1 = cc in absurd (omega arith)
object_shape s p {n} {t} z (figure cs h f g) = let (ts, e) = is_object t z in let y : ◌≡◌ {A = ℕ} 0 1 = cc in absurd (omega arith)

module _ (s : Text) (p k : ℕ) (small : k < 12) (bound : k ≡ 2 → ⊥) {v w : ℕ} (told : (t : Tree) → Stands s p t → v ≡ tag t) (wants : w ≡ wanted_of k) where
  pub wrong_told : (v ≡ w → ⊥) → {r : Walk} → Gives (λ t n. Over r n false true) (value most s p) → Gives (Told k r) (value most s p)
  wrong_told h g =
      record {
        holds = λ t n f.
            let ne : tag t ≡ wanted_of k → ⊥ = λ e. h (told t (record { until = n; reads = f }) ∙ (e ∙ sym wants)) in
            record { over = λ r. over_is (g.holds t n f) (wrong_judged k small bound false r t ne) (wrong_judged k small bound true r t ne) };
      }

  module _ (fit : v ≡ w) where
    pub scalar_told : (v ≡ 5 → ⊥) → (v ≡ 6 → ⊥) → {r : Walk} → Gives (λ t n. Over r n false false) (value most s p) → Gives (Told k r) (value most s p)
    scalar_told no_array no_object g =
        record {
          holds = λ t n f.
              let q : v ≡ tag t = told t (record { until = n; reads = f }) in
              let is : tag t ≡ wanted_of k = sym q ∙ (fit ∙ wants) in
              record {
                over = λ r.
                    over_is (g.holds t n f)
                    (scalar_judged k small bound false r t is (λ e. no_array (q ∙ e)) (λ e. no_object (q ∙ e)))
                    (scalar_judged k small bound true r t is (λ e. no_array (q ∙ e)) (λ e. no_object (q ∙ e)));
              };
        }

    -- an array is entered
    module _ (five : v ≡ 5) where
      opened_array : {t : Tree} {n : ℕ} → value most s p ≡ done t n → Opened s p 91 (many (value inner) 93 s (p + 1)) (λ xs. arr (trees xs)) t n
      opened_array {t} {n} f = let st : Stands s p t = record { until = n; reads = f } in array_shape s p (sym (told t st) ∙ five) (shape_of st)

      pub array_inside : Reads (value most s p) → p < length s
      array_inside r = found_lt s p refl (opened_array r.was).opens (omega arith)

      pub array_reads : Reads (value most s p) → Reads (many (value inner) 93 s (p + 1))
      array_reads r = let a = opened_array r.was in record { what = a.parts; until = r.until; was = a.reads }

      pub array_told : {i : ℕ} → i ≡ item_of k → {r : Walk} → Gives (ItemsTold i r) (many (value inner) 93 s (p + 1)) → Gives (Told k r) (value most s p)
      array_told {i} ei {r} g = record { holds = λ t n f. record { over = λ q. go t n (opened_array f) q } }
        where
          judged_is : (b q : Bool) (t : Tree) (xs : List Tree) → t ≡ arr (trees xs) → any (judged (sought b) true (kind_at i)) xs ≡ judged (sought b) q (kind_at k) t
          judged_is b q t xs e =
              ap (λ (j : ℕ). any (judged (sought b) true (kind_at j)) xs) ei
              ∙ ap (any (judged (sought b) true (kind_at (item_of k)))) (sym (items_of_trees xs))
              ∙ items_judged k small bound b q (sym wants ∙ (sym fit ∙ five)) (trees xs)
              ∙ ap (λ (u : Tree). judged (sought b) q (kind_at k) u) (sym e)

          go : (t : Tree) (n : ℕ) → Opened s p 91 (many (value inner) 93 s (p + 1)) (λ xs. arr (trees xs)) t n → (q : Bool) → Over r n (judged (sought false) q (kind_at k) t) (judged (sought true) q (kind_at k) t)
          go t n a q = over_is (g.holds a.parts n a.reads).over (judged_is false q t a.parts a.makes) (judged_is true q t a.parts a.makes)

    -- an object is entered
    module _ (six : v ≡ 6) where
      opened_object : {t : Tree} {n : ℕ} → value most s p ≡ done t n → Opened s p 123 (many (member (value inner)) 125 s (p + 1)) (λ xs. obj (members xs)) t n
      opened_object {t} {n} f = let st : Stands s p t = record { until = n; reads = f } in object_shape s p (sym (told t st) ∙ six) (shape_of st)

      pub object_inside : Reads (value most s p) → p < length s
      object_inside r = found_lt s p refl (opened_object r.was).opens (omega arith)

      pub object_reads : Reads (value most s p) → Reads (many (member (value inner)) 125 s (p + 1))
      object_reads r = let a = opened_object r.was in record { what = a.parts; until = r.until; was = a.reads }

      pub object_told : {r : Walk} → Gives (MembersTold k r) (many (member (value inner)) 125 s (p + 1)) → Gives (Told k r) (value most s p)
      object_told {r} g = record { holds = λ t n f. record { over = λ q. go t n (opened_object f) q } }
        where
          judged_is : (b q : Bool) (t : Tree) (xs : List (Text × Tree)) → t ≡ obj (members xs) → from (sought b) k (members xs) lines ≡ judged (sought b) q (kind_at k) t
          judged_is b q t xs e = members_judged k small bound b q (sym wants ∙ (sym fit ∙ six)) (members xs) ∙ ap (λ (u : Tree). judged (sought b) q (kind_at k) u) (sym e)

          go : (t : Tree) (n : ℕ) → Opened s p 123 (many (member (value inner)) 125 s (p + 1)) (λ xs. obj (members xs)) t n → (q : Bool) → Over r n (judged (sought false) q (kind_at k) t) (judged (sought true) q (kind_at k) t)
          go t n a q = over_is (g.holds a.parts n a.reads).over (judged_is false q t a.parts a.makes) (judged_is true q t a.parts a.makes)

-- the kinds of objects come after that of any value
pub object_kind : (k : ℕ) → (k ≡ 2 → ⊥) → wanted_of k ≡ 6 → 2 < k
unfolding wanted_of pick
object_kind zero h e = absurd (omega arith)
object_kind (suc zero) h e = absurd (omega arith)
object_kind (suc (suc zero)) h e = absurd (h refl)
object_kind (suc (suc (suc k))) h e = omega arith

-- ---- the manifest object

module _ (s : Text) (p : ℕ) {v : Scan} {j : ℕ} (ev : v ≡ scan (value most s p)) (d : v ≡ Done j) where
  pub value_read : Reads (value most s p)
  value_read = let (t, e) = scan_done (value most s p) (sym ev ∙ d) in record { what = t; until = j; was = e }

  module _ {w : Walk} (told : Gives (Told 11 w) (value most s p)) where
    answer : pick (judged (sought false) true (kind_at 11) value_read.what) 8 (pick (judged (sought true) true (kind_at 11) value_read.what) 9 0) ≡ member_refusal_at s p
    unfolding member_refusal_at member_refusal_in
    answer = sym (both_flaws true value_read.what) ∙ sym (ap member_refusal_in value_read.was)

    found : Over w value_read.until (judged (sought false) true (kind_at 11) value_read.what) (judged (sought true) true (kind_at 11) value_read.what)
    found = (told.holds value_read.what value_read.until value_read.was).over true

    pub is_8 : w.twice ≡ true → 8 ≡ member_refusal_at s p
    unfolding pick
    is_8 h = (λ i. pick ((sym h ∙ found.doubled) i) 8 (pick (judged (sought true) true (kind_at 11) value_read.what) 9 0)) ∙ answer

    module _ (h : w.twice ≡ false) where
      not_twice : judged (sought false) true (kind_at 11) value_read.what ≡ false
      not_twice = sym found.doubled ∙ h

      pub is_9 : w.ill ≡ true → 9 ≡ member_refusal_at s p
      unfolding pick
      is_9 g = (λ i. pick (sym not_twice i) 8 (pick ((sym g ∙ found.faulty not_twice) i) 9 0)) ∙ answer

      pub is_0 : w.ill ≡ false → 0 ≡ member_refusal_at s p
      unfolding pick
      is_0 g = (λ i. pick (sym not_twice i) 8 (pick ((sym g ∙ found.faulty not_twice) i) 9 0)) ∙ answer

nothing_in : (o : Out Tree) → Stops o → 0 ≡ member_refusal_in o
unfolding member_refusal_in
nothing_in (done t j) h = absurd (h.never t j refl)
nothing_in (bad p) h = refl
nothing_in (deep p) h = refl

pub not_read : (s : Text) (p : ℕ) → Stops (value most s p) → 0 ≡ member_refusal_at s p
unfolding member_refusal_at
not_read s p h = nothing_in (value most s p) h
