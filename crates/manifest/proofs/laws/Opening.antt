-- The start bytes fix the name of the first member: reading goes through them. Assumes nothing.
use Rattle.std.specs.Prelude.{◌≡◌, refl, Bool, true, false, ◌&&◌, List, [], ◌∷◌, ◌++◌, ℕ, zero, suc, ◌+◌, ◌-◌, ◌≤◌, ◌<◌, min, eqb, ltb, length, get_or, take, drop}
use Rattle.std.proofs.Common.{sym, ap, subst, ◌∙◌, true≢false, arith, lit<, length-take, length-drop, get_or-take, get_or-drop, eq-eqb, ne_eqb, le-ltb, ltb-true}
use Rattle.std.proofs.Math.ListN.{get_or-append}
use Rattle.text.specs.Reading.{Text, Out, done, bad, deep, Reader, next, pick, peek, count, run, part}
use Rattle.text.specs.Class.{class_of, whitespace, skip}
use Rattle.text.specs.Strings.{classed, character, utf8, before, onward, characters, string}
use Rattle.grammar.specs.Tree.{Tree, obj, members, one_member}
use Rattle.grammar.specs.Document.{object_tree, after, in_front, items, many, colon, name, bound, named, member, either, value, ending, read}
use Rattle.manifest.specs.Names.{bytes}
use Rattle.manifest.specs.Manifest.{start, starts}
use Rattle.manifest.specs.Statements.{Untouched, Opened, opened}
use Rattle.manifest.proofs.laws.Bools.{two}
use Rattle.manifest.proofs.laws.Views.{same_true}

picked : {A : Type 0} {c : Bool} (a b : A) → c ≡ true → pick c a b ≡ a
unfolding pick
picked a b e = ap (λ (c : Bool). pick c a b) e

passed : {A : Type 0} {c : Bool} (a b : A) → c ≡ false → pick c a b ≡ b
unfolding pick
passed a b e = ap (λ (c : Bool). pick c a b) e

-- what went before, where reading went on to an end
record Before {A B : Type 0} (o : Out A) (f : A → ℕ → Out B) (b : B) (n : ℕ) : Type 0 where
  what : A
  until : ℕ
  first : o ≡ done what until
  then : f what until ≡ done b n

went : {A B : Type 0} (o : Out A) (f : A → ℕ → Out B) {b : B} {n : ℕ} → next o f ≡ done b n → Before o f b n
unfolding next
went (done a k) f e = record { what = a; until = k; first = refl; then = e }
went (bad p) f e = let z : ◌≡◌ {A = ℕ} 0 1 = cc in absurd (omega arith)
went (deep p) f e = let z : ◌≡◌ {A = ℕ} 0 1 = cc in absurd (omega arith)

-- nothing is skipped where no whitespace stands
count_none : (l : Text) → whitespace (get_or l 0 256) ≡ false → count whitespace l ≡ 0
unfolding count pick
count_none [] h = refl
count_none (b ∷ l) h = ap (λ (c : Bool). pick c (suc (count whitespace l)) 0) h

not_blank : (s : Text) (j : ℕ) → whitespace (peek s j) ≡ false → skip s j ≡ j
unfolding skip run peek
not_blank s j h =
    let z : j + 0 ≡ j = omega arith in
    let g : get_or (drop j s) 0 256 ≡ get_or s j 256 = get_or-drop j s 0 256 ∙ ap (λ (k : ℕ). get_or s k 256) z in
    let c : count whitespace (drop j s) ≡ 0 = count_none (drop j s) (ap whitespace g ∙ h) in
    omega arith

-- a byte that stands for itself in a string
plain : ℕ → Bool
plain b = (ltb 3 (class_of b) && ltb (class_of b) 18) && ltb b 128

all_plain : Text → Bool
all_plain [] = true
all_plain (b ∷ w) = plain b && all_plain w

one_plain : (s : Text) (j b : ℕ) → peek s j ≡ b → plain b ≡ true → character s j ≡ done b (j + 1)
unfolding plain character classed pick
one_plain s j b e h =
    let (x, y) = two (ltb 3 (class_of b) && ltb (class_of b) 18) (ltb b 128) h in
    let (p, q) = two (ltb 3 (class_of b)) (ltb (class_of b) 18) x in
    let c : class_of (peek s j) ≡ class_of b = ap class_of e in
    let l : 3 < class_of (peek s j) = rw c (ltb-true 3 (class_of b) p) in
    let r : class_of (peek s j) < 18 = rw c (ltb-true (class_of b) 18 q) in
    simp (ne_eqb (class_of (peek s j)) 3 (omega arith), ne_eqb (class_of (peek s j)) 19 (omega arith), ne_eqb (class_of (peek s j)) 20 (omega arith), ne_eqb (class_of (peek s j)) 21 (omega arith), le-ltb (class_of (peek s j)) 4 (omega arith), le-ltb 17 (class_of (peek s j)) (omega arith)) (ap (λ (k : ℕ). done k (j + 1)) e)

plain_quote : plain 34 ≡ false
unfolding plain class_of pick
plain_quote = refl

not_quote : (s : Text) (j b : ℕ) → plain b ≡ true → peek s j ≡ b → eqb (peek s j) 34 ≡ false
not_quote s j b x e = ne_eqb (peek s j) 34 (λ g. true≢false (sym x ∙ (ap plain (sym e ∙ g) ∙ plain_quote)))

small : (b : ℕ) → plain b ≡ true → utf8 b ≡ b ∷ []
unfolding plain utf8
small b x = picked _ _ (two (ltb 3 (class_of b) && ltb (class_of b) 18) (ltb b 128) x).1

-- plain bytes and a quote are read as they stand
spelled : (w : Text) (n : ℕ) (s : Text) (j : ℕ) → length w < n → all_plain w ≡ true → ((k : ℕ) → k < length w → peek s (j + k) ≡ get_or w k 256) → peek s (j + length w) ≡ 34
    → characters n s j ≡ done w (j + length w + 1)
unfolding characters pick next onward before all_plain
spelled w zero s j l p f q = absurd (omega arith)
spelled [] (suc n) s j l p f q =
    let z : j + 0 ≡ j = omega arith in
    let y : j + 1 ≡ j + 0 + 1 = omega arith in
    ap (λ (b : Bool). pick b (done [] (j + 1)) (next (character s j) (onward (characters n) s))) (eq-eqb (peek s j) 34 (sym (ap (peek s) z) ∙ q)) ∙ ap (λ (k : ℕ). done [] k) y
spelled (b ∷ w) (suc n) s j l p f q =
    let (x, y) = two (plain b) (all_plain w) p in
    let z : j + 0 ≡ j = omega arith in
    let e : peek s j ≡ b = sym (ap (peek s) z) ∙ f 0 (omega arith) in
    let u : j + suc (length w) ≡ j + 1 + length w = omega arith in
    let v : j + 1 + length w + 1 ≡ j + suc (length w) + 1 = omega arith in
    let ih : characters n s (j + 1) ≡ done w (j + 1 + length w + 1) = spelled w n s (j + 1) (omega arith) y (λ k h. let a : j + 1 + k ≡ j + suc k = omega arith in ap (peek s) a ∙ f (suc k) (omega arith)) (sym (ap (peek s) u) ∙ q) in
    ap (λ (c : Bool). pick c (done [] (j + 1)) (next (character s j) (onward (characters n) s))) (not_quote s j b x e)
    ∙ (ap (λ (o : Out ℕ). next o (onward (characters n) s)) (one_plain s j b e x)
    ∙ (ap (λ (o : Out Text). next o (before b)) ih
    ∙ (ap (λ (t : Text). done (t ++ w) (j + 1 + length w + 1)) (small b x) ∙ ap (λ (k : ℕ). done (b ∷ w) k) v)))

-- ---- the start bytes

record Open (s : Text) (i : ℕ) : Type 0 where
  at : (k : ℕ) → k < 20 → peek s (i + k) ≡ get_or start k 256
  long : 20 ≤ length s

open_is : (s : Text) → starts s ≡ true → Open s (skip s 0)
unfolding starts part peek
open_is s h =
    let i : ℕ = skip s 0 in
    let z : skip s 0 + 20 - skip s 0 ≡ 20 = omega arith in
    let e : take 20 (drop (skip s 0) s) ≡ start = sym (ap (λ (n : ℕ). take n (drop (skip s 0) s)) z) ∙ same_true (take (skip s 0 + 20 - skip s 0) (drop (skip s 0) s)) start h in
    let m : min 20 (length s - skip s 0) ≡ 20 = sym (length-take 20 (drop (skip s 0) s) ∙ ap (min 20) (length-drop (skip s 0) s)) ∙ ap length e in
    record {
      at = λ k l. sym (get_or-take 20 (drop (skip s 0) s) k 256 l ∙ get_or-drop (skip s 0) s k 256) ∙ ap (λ (t : Text). get_or t k 256) e;
      long = omega arith;
    }

abbrev its : Text
its = bytes "perfetto_manifest"

its_plain : all_plain its ≡ true
unfolding all_plain plain class_of pick
its_plain = refl

-- the name as it stands from the second byte on
name_stands : (s : Text) (i : ℕ) → Open s i → string s (i + 1) ≡ done its (i + 1 + 1 + 17 + 1)
unfolding string pick
name_stands s i o =
    let q : peek s (i + 1) ≡ 34 = o.at 1 (lit< tt) in
    let z : i + 1 + 1 + 17 ≡ i + 19 = omega arith in
    let l : 20 ≤ length s = o.long in
    ap (λ (b : Bool). pick b (characters (suc (length s)) s (i + 1 + 1)) (bad (i + 1))) (eq-eqb (peek s (i + 1)) 34 q)
    ∙ spelled its (suc (length s)) s (i + 1 + 1) (omega arith) its_plain
    (λ k h. let y : i + 1 + 1 + k ≡ i + suc (suc k) = omega arith in ap (peek s) y ∙ (o.at (suc (suc k)) (omega arith) ∙ get_or-append its (34 ∷ []) 256 k h))
    (ap (peek s) z ∙ o.at 19 (lit< tt))

-- ---- reading

ending_same : (s : Text) (t : Tree) (j : ℕ) {u : Tree} {n : ℕ} → ending s t j ≡ done u n → t ≡ u
unfolding ending pick
ending_same s t j e = go (eqb (peek s (skip s j)) 256) e
  where
    go : (b : Bool) {u : Tree} {n : ℕ} → pick b (done t (skip s j)) (bad (skip s j)) ≡ done u n → t ≡ u
    go true f = cc
    go false f = let z : ◌≡◌ {A = ℕ} 0 1 = cc in absurd (omega arith)

colon_same : (s k : Text) (j : ℕ) {u : Text} {n : ℕ} → colon s k j ≡ done u n → k ≡ u
unfolding colon pick
colon_same s k j e = go (eqb (peek s (skip s j)) 58) e
  where
    go : (b : Bool) {u : Text} {n : ℕ} → pick b (done k (skip s j + 1)) (bad (skip s j)) ≡ done u n → k ≡ u
    go true f = cc
    go false f = let z : ◌≡◌ {A = ℕ} 0 1 = cc in absurd (omega arith)

-- a list that was read begins with the first item
record Begins {A : Type 0} (x : A) (xs : List A) : Type 0 where
  rest : List A
  is : xs ≡ x ∷ rest

after_begins : {A : Type 0} (close : ℕ) (more : Reader (List A)) (s : Text) (x : A) (j : ℕ) {xs : List A} {n : ℕ} → after close more s x j ≡ done xs n → Begins x xs
unfolding after in_front pick next
after_begins {A} close more s x j e = go (eqb (peek s (skip s j)) close) (eqb (peek s (skip s j)) 44) (more s (skip s j + 1)) e
  where
    go : (a b : Bool) (o : Out (List A)) {xs : List A} {n : ℕ} → pick a (done (x ∷ []) (skip s j + 1)) (pick b (next o (in_front x)) (bad (skip s j))) ≡ done xs n → Begins x xs
    go true b o f = record { rest = []; is = cc }
    go false true (done ys k) f = record { rest = ys; is = cc }
    go false true (bad p) f = let z : ◌≡◌ {A = ℕ} 0 1 = cc in absurd (omega arith)
    go false true (deep p) f = let z : ◌≡◌ {A = ℕ} 0 1 = cc in absurd (omega arith)
    go false false o f = let z : ◌≡◌ {A = ℕ} 0 1 = cc in absurd (omega arith)

-- a member that was read at j has the name that stands there
member_named : (v : Reader Tree) (s : Text) (j : ℕ) (w : Text) (k : ℕ) {x : Text × Tree} {n : ℕ} → string s j ≡ done w k → member v s j ≡ done x n → x.0 ≡ w
unfolding member name named bound
member_named v s j w k {x} q e =
    let a : Before (next (string s j) (colon s)) (λ l i. next (v s (skip s i)) (bound l)) x _ = went (next (string s j) (colon s)) (λ l i. next (v s (skip s i)) (bound l)) e in
    let b : Before (string s j) (colon s) a.what a.until = went (string s j) (colon s) a.first in
    let c : Before (v s (skip s a.until)) (bound a.what) x _ = went (v s (skip s a.until)) (bound a.what) a.then in
    let d : b.what ≡ w = cc (b.first, q) in
    let f : b.what ≡ a.what = colon_same s b.what b.until b.then in
    let g : (a.what, c.what) ≡ x = pair c.then in
    sym (ap (λ (p : Text × Tree). p.0) g) ∙ (sym f ∙ d)
  where
    pair : {l : Text} {u : Tree} {i m : ℕ} {y : Text × Tree} → done (l, u) i ≡ done y m → (l, u) ≡ y
    pair h = cc

quote_not_blank : whitespace 34 ≡ false
unfolding whitespace class_of pick
quote_not_blank = refl

-- a brace opens an object, and one that is not closed at once has a first item
brace_object : (l : ℕ) (s : Text) (i : ℕ) → peek s i ≡ 123 → value (suc l) s i ≡ next (many (member (value l)) 125 s (i + 1)) object_tree
unfolding value either
brace_object l s i h = passed _ _ (ap (λ (b : ℕ). eqb b 91) h) ∙ picked _ _ (ap (λ (b : ℕ). eqb b 123) h)

first_item : {A : Type 0} (item : Reader A) (close : ℕ) (s : Text) (j : ℕ) → eqb (peek s (skip s j)) close ≡ false → many item close s j ≡ next (item s (skip s j)) (after close (items item close (length s)) s)
unfolding many items
first_item item close s j h = passed _ _ h

object_is : {u v : Tree} {j m : ℕ} → done u j ≡ done v m → u ≡ v
object_is h = cc

-- members whose first one has the name
assembled : {x : Text × Tree} {xs : List (Text × Tree)} {t : Tree} → Begins x xs → x.0 ≡ its → obj (members xs) ≡ t → Opened t
assembled {x} {xs} {t} c d f =
    let y : Opened (obj (one_member x.0 x.1 (members c.rest))) = subst (λ (w : Text). Opened (obj (one_member w x.1 (members c.rest)))) (sym d) opened in
    subst Opened f (subst (λ (l : List (Text × Tree)). Opened (obj (members l))) (sym c.is) y)

-- an object at i whose first name stands at i + 1
object_opened : (s : Text) (i : ℕ) → Open s i → {t : Tree} {n : ℕ} → value 16 s i ≡ done t n → Opened t
unfolding object_tree
object_opened s i o {t} {n} e =
    let z : i + 0 ≡ i = omega arith in
    let brace : peek s i ≡ 123 = sym (ap (peek s) z) ∙ o.at 0 (lit< tt) in
    let quote : peek s (i + 1) ≡ 34 = o.at 1 (lit< tt) in
    let here : skip s (i + 1) ≡ i + 1 = not_blank s (i + 1) (ap whitespace quote ∙ quote_not_blank) in
    let not_empty : eqb (peek s (skip s (i + 1))) 125 ≡ false = ap (λ (k : ℕ). eqb (peek s k) 125) here ∙ ap (λ (b : ℕ). eqb b 125) quote in
    let a : Before (many (member (value 15)) 125 s (i + 1)) object_tree t n = went (many (member (value 15)) 125 s (i + 1)) object_tree (sym (brace_object 15 s i brace) ∙ e) in
    let b : Before (member (value 15) s (skip s (i + 1))) (after 125 (items (member (value 15)) 125 (length s)) s) a.what a.until
    = went (member (value 15) s (skip s (i + 1))) (after 125 (items (member (value 15)) 125 (length s)) s) (sym (first_item (member (value 15)) 125 s (i + 1) not_empty) ∙ a.first) in
    let c : Begins b.what a.what = after_begins 125 (items (member (value 15)) 125 (length s)) s b.what b.until b.then in
    let d : b.what.0 ≡ its = member_named (value 15) s (i + 1) its _ (name_stands s i o) (ap (member (value 15) s) (sym here) ∙ b.first) in
    let f : obj (members a.what) ≡ t = object_is a.then in
    assembled c d f

pub first_named : {s : Text} {t : Tree} → Untouched s t → Opened t
unfolding read
first_named {s} u =
    let a : Before (value 16 s (skip s 0)) (ending s) _ _ = went (value 16 s (skip s 0)) (ending s) u.reads in
    subst Opened (ending_same s a.what a.until a.then) (object_opened s (skip s 0) (open_is s u.begins) a.first)
