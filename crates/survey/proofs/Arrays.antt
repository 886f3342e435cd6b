-- The walk over an array: its items one after the other, all without a flaw, and the numbers of each put into the index. Assumes nothing.
use mathlib.Core.Path.{◌≡◌, refl, sym, ap, ◌∙◌}
use mathlib.Core.Bool.{Bool, true, false, ◌||◌}
use mathlib.Core.List.{List, [], ◌∷◌, ◌++◌, map}
use Prim.Native.Nat.{ℕ, zero, suc, ◌+◌, ◌-◌, ◌*◌, ◌≤◌, ◌<◌}
use native.Mathlib.Omega.{arith}
use lib.ListN.{length, get_or, set, replicate, length-append, length-set, get_or-eq_default}
use borrow.Author.Tests.{eq-eqb, ne_eqb}
use Rattle.text.specs.Reading.{Text, done, pick, peek}
use Rattle.text.specs.Class.{skip, class_of, digit}
use Rattle.text.specs.laws.Peek.{skip_ge}
use Rattle.text.specs.laws.Readers.{next_inv, next_was, pick_true, pick_false, done_of, done_at, past_done}
use Rattle.grammar.specs.Tree.{Tree, null, bool, num, str, arr, obj, trees, list_of_trees}
use Rattle.grammar.specs.Document.{array_tree, value, many}
use Rattle.grammar.proofs.laws.Firm.{either_array}
use Rattle.grammar.proofs.laws.Forward.{value_forward}
use Rattle.values.specs.Stands.{kind_of, kind_by, kind_at}
use Rattle.values.specs.Theorems.{kind_stands}
use Rattle.values.specs.declared.Kind.TheVariants.{Nothing}
use Rattle.places.specs.Places.{place, item_place, listed, items_at}
use Rattle.places.specs.laws.Paired.{many_paired}
use Rattle.manifest.specs.Statements.{All, all_none, all_one}
use Rattle.manifest.specs.Rows.{any}
use Rattle.manifest.proofs.laws.Judge.{judged}
use Rattle.manifest.proofs.laws.Table.{kind_at as kindOfNumber}
use Rattle.members.specs.laws.Flaw.{sought}
use Rattle.table.specs.Table.{wanted_of}
use Rattle.table.specs.laws.Lines.{item_of}
use Rattle.members.specs.laws.Judged.{items_judged}
use Rattle.index.specs.Index.{items_of, rows}
use Rattle.index.proofs.laws.Put.{Put, put_none, put_one, put_before, put_row, put_same}
use Rattle.index.proofs.laws.Rows.{rows_length}
use Rattle.fills.specs.laws.Blank.{Blank, blank_on, blank_same, blank_put, put_rest}
use Rattle.survey.specs.laws.Walked.{Spot, spotted, spot, Fine}
use Rattle.survey.specs.laws.Bare.{Bare}
use Rattle.survey.proofs.Going.{bare_reads, Going, going_start, going_end, going_on}
use Rattle.survey.proofs.Stepping.{value_to, stands_low}
use Rattle.survey.proofs.Objects.{both_map}

-- ---- an item, as it was read

spot_inv : (l : ℕ) (s : Text) (i : ℕ) {x : Spot} {e : ℕ} → spot l s i ≡ done x e → (i ≡ x.0) × (value l s i ≡ done x.1 e)
unfolding spot spotted
spot_inv l s i {x} {e} r =
    let w = next_inv (value l s i) (spotted i) r in
    let a : (i, w.0) ≡ x = done_of w.3 in
    (ap (λ (q : Spot). q.0) a, w.2 ∙ (λ t. done (a t).1 (done_at w.3 t)))

pub spot_read : (l : ℕ) (s : Text) (i : ℕ) {t : Tree} {e : ℕ} → value l s i ≡ done t e → spot l s i ≡ done (i, t) e
unfolding spot spotted
spot_read l s i r = next_was _ r

-- no value starts with a bracket that closes
some_kind : (t : Tree) → kind_of t ≡ Nothing → ⊥
unfolding kind_of
some_kind null e = let z : ◌≡◌ {A = ℕ} 0 1 = cc in omega arith
some_kind (bool b) e = let z : ◌≡◌ {A = ℕ} 0 1 = cc in omega arith
some_kind (num cs) e = let z : ◌≡◌ {A = ℕ} 0 1 = cc in omega arith
some_kind (str u) e = let z : ◌≡◌ {A = ℕ} 0 1 = cc in omega arith
some_kind (arr ts) e = let z : ◌≡◌ {A = ℕ} 0 1 = cc in omega arith
some_kind (obj ms) e = let z : ◌≡◌ {A = ℕ} 0 1 = cc in omega arith

bracket_none : kind_by 93 ≡ Nothing
unfolding kind_by digit class_of pick
bracket_none = refl

no_bracket : (l : ℕ) → l ≤ 16 → (s : Text) (i : ℕ) (x : Spot) (e : ℕ) → spot l s i ≡ done x e → peek s i ≡ 93 → ⊥
unfolding kind_at
no_bracket l low s i x e r h =
    let w = spot_inv l s i r in
    some_kind x.1 (sym (kind_stands (stands_low l low s i w.1)) ∙ ap kind_by h ∙ bracket_none)

-- ---- places and numbers

abbrev pub places : List Spot → List ℕ
places l = map (λ (x : Spot). x.0) l

front : (l : List Spot) (x : Spot) (j : ℕ) → j < length l → get_or (places (l ++ (x ∷ []))) j 0 ≡ get_or (places l) j 0
front [] x j h = absurd (omega arith)
front (y ∷ l) x zero h = refl
front (y ∷ l) x (suc j) h = front l x j (omega arith)

last : (l : List Spot) (x : Spot) → get_or (places (l ++ (x ∷ []))) (length l) 0 ≡ x.0
last [] x = refl
last (y ∷ l) x = last l x

pub long : (l : List Spot) → length (places l) ≡ length l
long [] = refl
long (x ∷ l) = ap suc (long l)

longer : (l : List Spot) (x : Spot) → length (l ++ (x ∷ [])) ≡ length l + 1
longer l x = length-append l (x ∷ [])

rows_same : (f g : ℕ → List ℕ) (n : ℕ) → ((j : ℕ) → j < n → f j ≡ g j) → rows f n ≡ rows g n
unfolding rows
rows_same f g zero h = refl
rows_same f g (suc n) h =
    let a : rows f n ≡ rows g n = rows_same f g n (λ j l. h j (omega arith)) in
    let b : f n ≡ g n = h n (omega arith) in
    λ t. a t ++ b t

all_more : {P : Spot → Type 0} {l : List Spot} {x : Spot} → All P l → P x → All P (l ++ (x ∷ []))
all_more all_none h = all_one h all_none
all_more (all_one g a) h = all_one g (all_more a h)

-- no row is put, or a zero where one is
none_put : {old : List ℕ} {b : ℕ} (f : ℕ → List ℕ) → b ≤ length old → Put old b (rows f 0) old
unfolding rows
none_put {old} {b} f h = put_none old b h

zero_put : {old : List ℕ} {b : ℕ} → Blank old b → b + 1 ≤ length old → Put old b (0 ∷ []) old
unfolding rows
zero_put {old} {b} z h = put_rest 1 (λ j. 0 ∷ []) 0 1 (λ j x y. refl) z (put_none old b (omega arith)) h

-- ---- the walk

-- n items were read, each of which has G, and the numbers of each are put
pub record Collecting (G : Spot → Type 0) (l : ℕ) (f : ℕ → List ℕ) (s : Text) (p base : ℕ) (old : List ℕ) (i n : ℕ) (ix : List ℕ) : Type 0 where
  pub pre : List Spot
  pub going : Going (spot l) 93 s (p + 1) i pre
  pub off : i ≡ 0 → ⊥
  pub count : n ≡ length pre
  pub few : n ≤ 32
  pub each : All G pre
  pub sized : length ix ≡ length old
  pub put : Blank old base → Put old (base + 1) (rows (λ j. f (get_or (places pre) j 0)) n) ix

-- an array that was walked over: its items, and their numbers with their count before them
pub record Collected (G : Spot → Type 0) (l : ℕ) (f : ℕ → List ℕ) (s : Text) (p base e : ℕ) (old new : List ℕ) : Type 0 where
  pub items : List Spot
  pub opens : peek s p ≡ 91
  pub reads : many (spot l) 93 s (p + 1) ≡ done items e
  pub few : length items ≤ 32
  pub each : All G items
  pub sized : length new ≡ length old
  pub put : Blank old base → Put old base (length (places items) ∷ rows (λ j. f (get_or (places items) j 0)) 32) new

module _ (G : Spot → Type 0) (l : ℕ) (low : l ≤ 16) (f : ℕ → List ℕ) (s : Text) (p base : ℕ) {old : List ℕ} where
  pub collect_start : base + 1 ≤ length old → {i : ℕ} → i ≡ skip s (p + 1) → Collecting G l f s p base old i 0 old
  unfolding rows
  collect_start fits ei =
      record {
        pre = [];
        going = going_start (spot l) 93 s (p + 1) (no_bracket l low s) ei;
        off = λ z. omega (arith, skip_ge s (p + 1));
        count = refl;
        few = omega arith;
        each = all_none;
        sized = refl;
        put = λ _. put_none old (base + 1) fits;
      }

  -- no item at all
  pub collect_none : (w : ℕ) → ((q : ℕ) → length (f q) ≡ w) → f 0 ≡ replicate w 0 → base + 1 + w * 32 ≤ length old → {e : ℕ} → Bare s p e → Collected G l f s p base e old old
  collect_none w wide zeros fits b =
      record { items = []; opens = b.opens; reads = bare_reads (spot l) b; few = omega arith; each = all_none; sized = refl; put = whole }
    where
      whole : Blank old base → Put old base (0 ∷ rows (λ j. f (get_or (places []) j 0)) 32) old
      whole z =
          let a : length (rows (λ j. f (get_or (places []) j 0)) 32) ≡ w * 32 = rows_length w (λ j. f (get_or (places []) j 0)) (λ j. wide _) 32 in
          let q : Put old (base + 1) (rows (λ j. f (get_or (places []) j 0)) 32) old =
          put_rest w (λ j. f (get_or (places []) j 0)) 0 32 (λ j _ _. zeros) (blank_on 1 z) (none_put (λ j. f (get_or (places []) j 0)) (omega arith)) (omega arith) in
          put_before refl q (zero_put z (omega arith))

  module _ (w : ℕ) (wide : (q : ℕ) → length (f q) ≡ w) {i n : ℕ} {ix : List ℕ} (c : Collecting G l f s p base old i n ix) (more : n < 32)
      {t : Tree} {e : ℕ} (r : value l s i ≡ done t e) (good : G (i, t)) {mid : List ℕ} (same : length mid ≡ length ix)
      (puts : Blank ix (base + 1 + w * n) → Put ix (base + 1 + w * n) (f i) mid) where
    all_of : List Spot
    all_of = c.pre ++ ((i, t) ∷ [])

    numbers : ℕ → List ℕ
    numbers j = f (get_or (places all_of) j 0)

    so_far : rows (λ j. f (get_or (places c.pre) j 0)) n ≡ rows numbers n
    unfolding all_of numbers
    so_far = rows_same _ _ n (λ j h. ap f (sym (front c.pre (i, t) j (omega (arith, c.count)))))

    this_one : f i ≡ numbers n
    unfolding all_of numbers
    this_one = ap f (sym (ap (λ (m : ℕ). get_or (places (c.pre ++ ((i, t) ∷ []))) m 0) c.count ∙ last c.pre (i, t)))

    rows_put : Blank old base → Put old (base + 1) (rows numbers (n + 1)) mid
    unfolding numbers
    rows_put b =
        let q : Put old (base + 1) (rows numbers n) ix = put_same so_far (c.put b) in
        let a : length (rows numbers n) ≡ w * n = rows_length w numbers (λ j. wide _) n in
        let d : base + 1 + length (rows numbers n) ≡ base + 1 + w * n = ap (λ (m : ℕ). base + 1 + m) a in
        let z : Blank ix (base + 1 + w * n) = blank_same d (blank_put q (blank_on 1 b)) in
        put_row [] numbers n q (sym d) (put_same this_one (puts z))

    size_same : length mid ≡ length old
    size_same = same ∙ c.sized

    item_on : i ≤ e
    item_on = past_done (value l) (value_forward l) s i r

    module _ {k b : ℕ} (ek : k ≡ skip s e) (eb : b ≡ peek s k) where
      pub collect_on : (b ≡ 93 → ⊥) → b ≡ 44 → {y : ℕ} → y ≡ skip s (k + 1) → Collecting G l f s p base old y (n + 1) mid
      unfolding all_of numbers
      collect_on other comma ey =
          record {
            pre = c.pre ++ ((i, t) ∷ []);
            going = going_on (spot l) 93 s (p + 1) c.going (spot_read l s i r) ek eb item_on other comma ey;
            off = λ z. omega (arith, skip_ge s (k + 1));
            count = omega (arith, c.count, longer c.pre (i, t));
            few = omega arith;
            each = all_more c.each good;
            sized = size_same;
            put = rows_put;
          }

      pub collect_end : peek s p ≡ 91 → f 0 ≡ replicate w 0 → base + 1 + w * 32 ≤ length old → b ≡ 93 → Collected G l f s p base (k + 1) old (set mid base (n + 1))
      unfolding all_of numbers
      collect_end opens zeros fits h =
          record {
            items = c.pre ++ ((i, t) ∷ []);
            opens = opens;
            reads = going_end (spot l) 93 s (p + 1) c.going (spot_read l s i r) ek eb h;
            few = omega (arith, c.count, longer c.pre (i, t));
            each = all_more c.each good;
            sized = length-set mid base (n + 1) ∙ size_same;
            put = whole;
          }
        where
          size : length (places (c.pre ++ ((i, t) ∷ []))) ≡ n + 1
          size = omega (arith, c.count, longer c.pre (i, t), long (c.pre ++ ((i, t) ∷ [])))

          past : (j : ℕ) → n + 1 ≤ j → f (get_or (places (c.pre ++ ((i, t) ∷ []))) j 0) ≡ replicate w 0
          past j g = ap f (get_or-eq_default (places (c.pre ++ ((i, t) ∷ []))) 0 (omega (arith, size))) ∙ zeros

          whole : Blank old base → Put old base (length (places (c.pre ++ ((i, t) ∷ []))) ∷ rows (λ j. f (get_or (places (c.pre ++ ((i, t) ∷ []))) j 0)) 32) (set mid base (n + 1))
          whole b =
              let m : n + 1 + (32 - (n + 1)) ≡ 32 = omega arith in
              let a : length (rows (λ j. f (get_or (places (c.pre ++ ((i, t) ∷ []))) j 0)) 32) ≡ w * 32 = rows_length w (λ j. f (get_or (places (c.pre ++ ((i, t) ∷ []))) j 0)) (λ j. wide _) 32 in
              let d : length (rows (λ j. f (get_or (places (c.pre ++ ((i, t) ∷ []))) j 0)) (n + 1 + (32 - (n + 1)))) ≡ length (rows (λ j. f (get_or (places (c.pre ++ ((i, t) ∷ []))) j 0)) 32) = ap (λ (x : ℕ). length (rows (λ j. f (get_or (places (c.pre ++ ((i, t) ∷ []))) j 0)) x)) m in
              let q : Put old (base + 1) (rows (λ j. f (get_or (places (c.pre ++ ((i, t) ∷ []))) j 0)) 32) mid =
              put_same (ap (rows (λ j. f (get_or (places (c.pre ++ ((i, t) ∷ []))) j 0))) m) (put_rest w (λ j. f (get_or (places (c.pre ++ ((i, t) ∷ []))) j 0)) (n + 1) (32 - (n + 1)) (λ j g _. past j g) (blank_on 1 b) (rows_put b) (omega arith)) in
              let o : Put mid base ((n + 1) ∷ []) (set mid base (n + 1)) = put_one mid base (n + 1) (omega (arith, size_same)) in
              put_same (ap (λ (x : ℕ). x ∷ rows (λ j. f (get_or (places (c.pre ++ ((i, t) ∷ []))) j 0)) 32) (sym size)) (put_before refl q o)

-- ---- what an array that was walked over is

item_tree : (l : ℕ) (s : Text) (i : ℕ) (x : Spot) (e : ℕ) → spot l s i ≡ done x e → (y : Tree) × (value l s i ≡ done y e) × (y ≡ x.1)
item_tree l s i x e r = (x.1, (spot_inv l s i r).1, refl)

item_spot : (l : ℕ) → l ≤ 15 → (s : Text) (i : ℕ) (x : Spot) (e : ℕ) → spot l s i ≡ done x e → (y : ℕ) × (item_place s i ≡ done y e) × (y ≡ x.0)
unfolding item_place place
item_spot l low s i x e r = let w = spot_inv l s i r in (i, next_was _ (value_to l 15 low s i w.1), w.0)

items_trees : (xs : List Tree) → list_of_trees (trees xs) ≡ xs
unfolding list_of_trees
items_trees [] = refl
items_trees (x ∷ xs) = ap (λ (ys : List Tree). x ∷ ys) (items_trees xs)

module _ (l : ℕ) (s : Text) (p : ℕ) {items : List Spot} {e : ℕ} (opens : peek s p ≡ 91) (reads : many (spot l) 93 s (p + 1) ≡ done items e) where
  pub array_value : value (suc l) s p ≡ done (arr (trees (map (λ (x : Spot). x.1) items))) e
  unfolding value array_tree
  array_value =
      let q = many_paired (spot l) (value l) 93 s (λ (x : Spot) (y : Tree). y ≡ x.1) (item_tree l s) (p + 1) reads in
      either_array s p _ _ opens ∙ next_was _ q.1 ∙ ap (λ (ys : List Tree). done (arr (trees ys)) e) (both_map (λ (x : Spot). x.1) q.2)

  pub array_places : l ≤ 15 → (p ≡ 0 → ⊥) → items_of s p ≡ places items
  unfolding items_of items_at listed
  array_places low past =
      let q = many_paired (spot l) item_place 93 s (λ (x : Spot) (y : ℕ). y ≡ x.0) (item_spot l low s) (p + 1) reads in
      pick_false _ _ (ne_eqb p 0 past) ∙ pick_true _ _ (eq-eqb _ _ opens) ∙ ap listed q.1 ∙ both_map (λ (x : Spot). x.0) q.2

-- no flaw is in it
pub array_fine : (k : ℕ) → k < 12 → (k ≡ 2 → ⊥) → wanted_of k ≡ 5 → (items : List Spot) → All (λ x. Fine (item_of k) x.1) items → Fine k (arr (trees (map (λ (x : Spot). x.1) items)))
unfolding any
array_fine k small bound wants items each =
    record {
      none = λ b a.
          sym (items_judged k small bound b a wants (trees (map (λ (x : Spot). x.1) items)))
          ∙ ap (any (judged (sought b) true (kindOfNumber (item_of k)))) (items_trees (map (λ (x : Spot). x.1) items))
          ∙ none_of b each;
    }
  where
    none_of : (b : Bool) {xs : List Spot} → All (λ x. Fine (item_of k) x.1) xs → any (judged (sought b) true (kindOfNumber (item_of k))) (map (λ (x : Spot). x.1) xs) ≡ false
    none_of b all_none = refl
    none_of b (all_one h g) = λ t. h.none b true t || none_of b g t
