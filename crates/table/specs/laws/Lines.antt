-- The table by numbers: the columns that the code holds are those of the lines, each line has a known name, the lines about one object stand together and have different
-- names, a member's kind has a smaller number than its object's, and what each of the twelve kinds is. Assumes nothing.
use Rattle.std.specs.Prelude.{◌≡◌, refl, Bool, true, false, not, ◌&&◌, List, [], ◌∷◌, map, ℕ, zero, suc, ◌+◌, ◌<◌, ◌≤◌, eqb, ltb, leb, get_or, length}
use Rattle.std.proofs.Common.{sym, ap, ◌∙◌, true≢false, add-one, le_of_suc-le-suc, not-suc-le-zero, arith, lit<, ltb-true, leb-true, eqb-true, eq-eqb, ne_eqb, lt-ltb, le-leb}
use Rattle.std.proofs.Math.ListN.{get_or-eq_default}
use Rattle.std.proofs.lemmas.Bool.{not-false}
use Rattle.text.specs.Reading.{pick}
use Rattle.grammar.specs.Tree.{same}
use Rattle.manifest.specs.Kinds.{text, integer, array, object}
use Rattle.manifest.proofs.laws.Bools.{two}
use Rattle.manifest.proofs.laws.Judge.{fits}
use Rattle.manifest.proofs.laws.Table.{Line, lines, kind_at, fields_at}
use Rattle.table.specs.Table.{no_line, line_at, wanted_of, lines_before, first_line}
use Rattle.values.specs.Theorems.{same_is_equal}
use Rattle.table.specs.laws.Some.{some, some_not}
use Rattle.table.specs.laws.Names.{name_at}

column : (f : Line → ℕ) → f no_line ≡ 0 → (ls : List Line) (j : ℕ) → get_or (map f ls) j 0 ≡ f (get_or ls j no_line)
column f z [] j = sym z
column f z (l ∷ ls) zero = refl
column f z (l ∷ ls) (suc j) = column f z ls j

pub kind_at_lem : (j : ℕ) → get_or (map (λ l. l.kind) lines) j 0 ≡ (line_at j).kind
unfolding line_at
kind_at_lem j = column (λ l. l.kind) refl lines j

-- whether a line's member is asked for, as a number
abbrev pub one_if : Bool → ℕ
one_if true = 1
one_if false = 0

is_asked : (b : Bool) → eqb (one_if b) 1 ≡ b
is_asked true = refl
is_asked false = refl

pub asked_at : (j : ℕ) → eqb (get_or (map (λ l. one_if l.asked) lines) j 0) 1 ≡ (line_at j).asked
unfolding line_at
asked_at j = ap (λ (n : ℕ). eqb n 1) (column (λ l. one_if l.asked) refl lines j) ∙ is_asked _

abbrev all_lines : (Line → Bool) → List Line → Bool
all_lines p [] = true
all_lines p (l ∷ ls) = p l && all_lines p ls

each_line : (p : Line → Bool) (ls : List Line) → all_lines p ls ≡ true → (j : ℕ) → j < length ls → p (get_or ls j no_line) ≡ true
each_line p [] e j h = absurd (not-suc-le-zero h)
each_line p (l ∷ ls) e zero h = (two (p l) (all_lines p ls) e).0
each_line p (l ∷ ls) e (suc j) h = each_line p ls (two (p l) (all_lines p ls) e).1 j (le_of_suc-le-suc h)

-- past the last line nothing is asked for
pub none_asked : (j : ℕ) → 20 ≤ j → (line_at j).asked ≡ false
unfolding line_at
none_asked j h = ap (λ (l : Line). l.asked) (get_or-eq_default lines no_line h)

-- a member's kind has a smaller number than its object's
pub kind_falls : (j : ℕ) → j < 20 → (line_at j).kind < (line_at j).place
unfolding line_at
kind_falls j h = ltb-true _ _ (each_line (λ l. ltb l.kind l.place) lines refl j h)

-- ---- the names of the lines

abbrev differ : Bool → Bool → Bool
differ true b = not b
differ false b = b

same_then : (a b : Bool) → differ a b ≡ false → a ≡ b
same_then true true e = refl
same_then true false e = absurd (true≢false e)
same_then false true e = absurd (true≢false e)
same_then false false e = refl

-- the constant of the code: the number of each line's name
abbrev pub numbers : List ℕ
numbers = 0 ∷ 2 ∷ 4 ∷ 4 ∷ 2 ∷ 6 ∷ 7 ∷ 8 ∷ 9 ∷ 9 ∷ 10 ∷ 2 ∷ 3 ∷ 5 ∷ 4 ∷ 0 ∷ 2 ∷ 11 ∷ 12 ∷ 1 ∷ []

abbrev misnamed : ℕ → ℕ → Bool
misnamed m j = differ (eqb (get_or numbers j 0) m) (same (name_at m) (line_at j).name)

numbers_agree : some (λ m. some (λ j. misnamed m j) 20) 13 ≡ false
unfolding some name_at line_at same pick
numbers_agree = refl

-- a line has a name exactly where it has the name's number
pub number_at : (j m : ℕ) → j < 20 → m < 13 → eqb (get_or numbers j 0) m ≡ same (name_at m) (line_at j).name
number_at j m hj hm = same_then _ _ (some_not (λ i. misnamed m i) 20 j (some_not (λ k. some (λ i. misnamed k i) 20) 13 m numbers_agree hm) hj)

numbers_few : some (λ j. not (ltb (get_or numbers j 0) 13)) 20 ≡ false
unfolding some
numbers_few = refl

-- each line has a known name
pub name_at_lem : (j : ℕ) → j < 20 → (get_or numbers j 0 < 13) × (name_at (get_or numbers j 0) ≡ (line_at j).name)
name_at_lem j h =
    let l : get_or numbers j 0 < 13 = ltb-true _ 13 (not-false _ (some_not (λ i. not (ltb (get_or numbers i 0) 13)) 20 j numbers_few h)) in
    (l, same_is_equal _ _ (sym (number_at j (get_or numbers j 0) h l) ∙ eq-eqb (get_or numbers j 0) (get_or numbers j 0) refl))

-- ---- the lines about one object

-- the constant of the code
abbrev pub starts : List ℕ
starts = 0 ∷ 0 ∷ 0 ∷ 0 ∷ 3 ∷ 7 ∷ 9 ∷ 10 ∷ 10 ∷ 14 ∷ 14 ∷ 17 ∷ 20 ∷ []

starts_agree : some (λ k. not (eqb (get_or starts k 0) (first_line k))) 13 ≡ false
unfolding some first_line lines_before pick
starts_agree = refl

pub first_at : {j k : ℕ} → j ≡ k → k < 13 → get_or starts j 0 ≡ first_line k
first_at {j} {k} e l = ap (λ (i : ℕ). get_or starts i 0) e ∙ eqb-true _ _ (not-false _ (some_not (λ n. not (eqb (get_or starts n 0) (first_line n))) 13 k starts_agree l))

starts_few : some (λ k. not (leb (first_line k) 20)) 13 ≡ false
unfolding some first_line lines_before pick
starts_few = refl

-- past the kinds all lines are about smaller ones
all_before : (k : ℕ) → 13 ≤ k → (ls : List Line) → all_lines (λ l. ltb l.place 13) ls ≡ true → lines_before k ls ≡ length ls
unfolding lines_before pick
all_before k h [] e = refl
all_before k h (l ∷ ls) e =
    let w = two (ltb l.place 13) (all_lines (λ q. ltb q.place 13) ls) e in
    let g : l.place < 13 = ltb-true _ _ w.0 in
    rw (lt-ltb l.place k (omega arith)) (ap suc (all_before k h ls w.1))

pub first_past : (k : ℕ) → 13 ≤ k → 20 ≡ first_line k
unfolding first_line
first_past k h = sym (all_before k h lines refl)

-- no line is about an object of a greater kind
pub no_place : (o j : ℕ) → 12 ≤ o → j < 20 → (line_at j).place ≡ o → ⊥
unfolding line_at
no_place o j h l e =
    let w : (line_at j).place < 12 = ltb-true _ _ (each_line (λ k. ltb k.place 12) lines refl j l) in
    omega arith

pub first_few : (k : ℕ) → k < 13 → first_line k ≤ 20
first_few k l = leb-true _ _ (not-false _ (some_not (λ n. not (leb (first_line n) 20)) 13 k starts_few l))

-- line j is among the lines of an object of kind o
abbrev among : ℕ → ℕ → Bool
among o j = leb (first_line o) j && ltb j (first_line (suc o))

abbrev apart : ℕ → ℕ → Bool
apart o j = differ (eqb (line_at j).place o) (among o j)

together : some (λ o. some (λ j. apart o j) 20) 12 ≡ false
unfolding some first_line lines_before line_at pick
together = refl

range : (o j : ℕ) → o < 12 → j < 20 → eqb (line_at j).place o ≡ among o j
range o j ho hj = same_then _ _ (some_not (λ i. apart o i) 20 j (some_not (λ k. some (λ i. apart k i) 20) 12 o together ho) hj)

-- so the lines about an object are those from its first to the first of the next kind
pub about_there : (o j : ℕ) → o < 12 → first_line o ≤ j → j < first_line (o + 1) → (line_at j).place ≡ o
about_there o j ho h g =
    let e : first_line (o + 1) ≡ first_line (suc o) = ap first_line (add-one o) in
    let hj : j < 20 = omega (arith, first_few (o + 1) (omega arith)) in
    eqb-true _ _ (range o j ho hj ∙ λ i. le-leb (first_line o) j h i && lt-ltb j (first_line (suc o)) (omega arith) i)

pub there_about : (o j : ℕ) → o < 12 → j < 20 → (line_at j).place ≡ o → (first_line o ≤ j) × (j < first_line (o + 1))
there_about o j ho hj h =
    let e : first_line (o + 1) ≡ first_line (suc o) = ap first_line (add-one o) in
    let w = two (leb (first_line o) j) (ltb j (first_line (suc o))) (sym (range o j ho hj) ∙ eq-eqb _ _ h) in
    let g : j < first_line (suc o) = ltb-true j (first_line (suc o)) w.1 in
    (leb-true (first_line o) j w.0, omega arith)

-- two lines about one object have different names
abbrev alike : ℕ → ℕ → Bool
alike i j = not (eqb i j) && (eqb (line_at i).place (line_at j).place && same (line_at i).name (line_at j).name)

names_once : some (λ i. some (λ j. alike i j) 20) 20 ≡ false
unfolding some line_at same pick
names_once = refl

pub names_differ : (i j : ℕ) → i < 20 → j < 20 → (i ≡ j → ⊥) → (line_at i).place ≡ (line_at j).place → same (line_at i).name (line_at j).name ≡ false
names_differ i j hi hj ne e =
    sym (λ x. not (ne_eqb i j ne x) && (eq-eqb (line_at i).place (line_at j).place e x && same (line_at i).name (line_at j).name))
    ∙ some_not (λ k. alike i k) 20 j (some_not (λ n. some (λ k. alike n k) 20) 20 i names_once hi) hj

-- ---- kinds

-- the kind of the items of an array of a kind
abbrev pub item_of : ℕ → ℕ
item_of k = pick (eqb k 7) 5 8

pub fits_wanted : (k n : ℕ) → k < 12 → (k ≡ 2 → ⊥) → fits (kind_at k) n ≡ eqb n (wanted_of k)
unfolding fits kind_at wanted_of pick
fits_wanted zero n l h = refl
fits_wanted (suc zero) n l h = refl
fits_wanted (suc (suc zero)) n l h = absurd (h refl)
fits_wanted (suc (suc (suc zero))) n l h = refl
fits_wanted (suc (suc (suc (suc zero)))) n l h = refl
fits_wanted (suc (suc (suc (suc (suc zero))))) n l h = refl
fits_wanted (suc (suc (suc (suc (suc (suc zero)))))) n l h = refl
fits_wanted (suc (suc (suc (suc (suc (suc (suc zero))))))) n l h = refl
fits_wanted (suc (suc (suc (suc (suc (suc (suc (suc zero)))))))) n l h = refl
fits_wanted (suc (suc (suc (suc (suc (suc (suc (suc (suc zero))))))))) n l h = refl
fits_wanted (suc (suc (suc (suc (suc (suc (suc (suc (suc (suc zero)))))))))) n l h = refl
fits_wanted (suc (suc (suc (suc (suc (suc (suc (suc (suc (suc (suc zero))))))))))) n l h = refl
fits_wanted (suc (suc (suc (suc (suc (suc (suc (suc (suc (suc (suc (suc k)))))))))))) n l h = absurd (omega arith)

-- what a kind is, by its type: an object with its lines, an array of a smaller kind, or a text or an integer
pub data Sort : ℕ → Type 0 where
  an_object : {k : ℕ} → wanted_of k ≡ 6 → kind_at k ≡ object (fields_at k lines) → Sort k
  an_array : {k : ℕ} → wanted_of k ≡ 5 → kind_at k ≡ array (kind_at (item_of k)) → item_of k < k → Sort k
  a_text : {k : ℕ} → wanted_of k ≡ 2 → kind_at k ≡ text → Sort k
  an_integer : {k : ℕ} → wanted_of k ≡ 3 → kind_at k ≡ integer → Sort k

pub sort : (k : ℕ) → k < 12 → (k ≡ 2 → ⊥) → Sort k
unfolding kind_at fields_at wanted_of pick
sort zero l h = a_text refl refl
sort (suc zero) l h = an_integer refl refl
sort (suc (suc zero)) l h = absurd (h refl)
sort (suc (suc (suc zero))) l h = an_object refl refl
sort (suc (suc (suc (suc zero)))) l h = an_object refl refl
sort (suc (suc (suc (suc (suc zero))))) l h = an_object refl refl
sort (suc (suc (suc (suc (suc (suc zero)))))) l h = an_object refl refl
sort (suc (suc (suc (suc (suc (suc (suc zero))))))) l h = an_array refl refl (lit< tt)
sort (suc (suc (suc (suc (suc (suc (suc (suc zero)))))))) l h = an_object refl refl
sort (suc (suc (suc (suc (suc (suc (suc (suc (suc zero))))))))) l h = an_array refl refl (lit< tt)
sort (suc (suc (suc (suc (suc (suc (suc (suc (suc (suc zero)))))))))) l h = an_object refl refl
sort (suc (suc (suc (suc (suc (suc (suc (suc (suc (suc (suc zero))))))))))) l h = an_object refl refl
sort (suc (suc (suc (suc (suc (suc (suc (suc (suc (suc (suc (suc k)))))))))))) l h = absurd (omega arith)
