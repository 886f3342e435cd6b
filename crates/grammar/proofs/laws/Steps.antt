-- What the reader finds, one step at a time, without what was read: what code that reads needs to know.
use Rattle.std.specs.Prelude.{◌≡◌, Bool, true, false, length}
use Rattle.std.proofs.Math.Path.{refl}
use Prim.Native.Nat.{ℕ, zero, suc, ◌+◌, ◌-◌, ◌≤◌, ◌<◌}
use Rattle.std.proofs.Common.{arith, sub-one}
use borrow.Author.Tests.{eq-eqb, ne_eqb}
use Rattle.text.specs.declared.Scan.{Scan}
use Rattle.text.specs.declared.Scan.TheVariants.{Done, Bad, Deep}
use Rattle.text.specs.Reading.{Text, Out, done, bad, deep, Reader, next, pick, peek, word, scan}
use Rattle.text.specs.Class.{skip}
use Rattle.text.specs.Strings.{string}
use Rattle.text.specs.Numbers.{number}
use Rattle.text.specs.laws.Peek.{skip_ge}
use Rattle.text.specs.laws.Readers.{at}
use Rattle.grammar.specs.Tree.{Tree}
use Rattle.grammar.specs.Document.{text_tree, number_tree, literal_tree, array_tree, object_tree, true_word, false_word, null_word, scalar, in_front, after, items, many, colon, name, bound, named, member, either, value, ending, most, read}
use Rattle.grammar.specs.Items.{item, closer}
use Rattle.grammar.proofs.laws.Forward.{item_forward}

module _ {A B : Type 0} where
  -- a function of what was read changes no position
  pub next_map : (o : Out A) (f : A → ℕ → Out B) → ((a : A) (j : ℕ) → scan (f a j) ≡ Done j) → scan (next o f) ≡ scan o
  unfolding next scan
  next_map (done a j) f h = h a j
  next_map (bad j) f h = refl
  next_map (deep j) f h = refl

  pub next_bad : (o : Out A) (f : A → ℕ → Out B) {p : ℕ} → scan o ≡ Bad p → scan (next o f) ≡ Bad p
  unfolding next scan
  next_bad (done a j) f e = cc
  next_bad (bad j) f e = e
  next_bad (deep j) f e = e

  pub next_deep : (o : Out A) (f : A → ℕ → Out B) {p : ℕ} → scan o ≡ Deep p → scan (next o f) ≡ Deep p
  unfolding next scan
  next_deep (done a j) f e = cc
  next_deep (bad j) f e = e
  next_deep (deep j) f e = e

  pub next_done : (o : Out A) (f : A → ℕ → Out B) {j : ℕ} {r : Scan} → scan o ≡ Done j → ((a : A) → scan (f a j) ≡ r) → scan (next o f) ≡ r
  unfolding next scan
  next_done (done a i) f {j} e h =
      let ij : i ≡ j = cc in
      rw ij (h a)
  next_done (bad i) f e h = cc
  next_done (deep i) f e h = cc

-- a scalar
module _ (s : Text) (i : ℕ) where
  pub scalar_string : peek s i ≡ 34 → scan (scalar s i) ≡ scan (string s i)
  unfolding scalar pick text_tree scan
  scalar_string h = rw h (next_map _ _ (λ _ _. refl))

  pub scalar_true : peek s i ≡ 116 → scan (scalar s i) ≡ scan (word true_word s i)
  unfolding scalar pick literal_tree scan
  scalar_true h = rw h (next_map _ _ (λ _ _. refl))

  pub scalar_false : peek s i ≡ 102 → scan (scalar s i) ≡ scan (word false_word s i)
  unfolding scalar pick literal_tree scan
  scalar_false h = rw h (next_map _ _ (λ _ _. refl))

  pub scalar_null : peek s i ≡ 110 → scan (scalar s i) ≡ scan (word null_word s i)
  unfolding scalar pick literal_tree scan
  scalar_null h = rw h (next_map _ _ (λ _ _. refl))

  pub scalar_number : (peek s i ≡ 34 → ⊥) → (peek s i ≡ 116 → ⊥) → (peek s i ≡ 102 → ⊥) → (peek s i ≡ 110 → ⊥) → scan (scalar s i) ≡ scan (number s i)
  unfolding scalar pick number_tree scan
  scalar_number a b c d = rw (ne_eqb _ _ a, ne_eqb _ _ b, ne_eqb _ _ c, ne_eqb _ _ d) (next_map _ _ (λ _ _. refl))

-- a value
module _ (s : Text) (i : ℕ) where
  pub one_scalar : (l : ℕ) → (peek s i ≡ 91 → ⊥) → (peek s i ≡ 123 → ⊥) → value l s i ≡ scalar s i
  unfolding value either pick
  one_scalar zero a o = rw (ne_eqb _ _ a, ne_eqb _ _ o)
  one_scalar (suc l) a o = rw (ne_eqb _ _ a, ne_eqb _ _ o)

  pub one_array_deep : peek s i ≡ 91 → scan (value 0 s i) ≡ Deep i
  unfolding value either pick scan
  one_array_deep h = rw h

  pub one_array : (l : ℕ) → (l ≡ 0 → ⊥) → peek s i ≡ 91 → scan (value l s i) ≡ scan (many (item false (l - 1)) 93 s (i + 1))
  unfolding value either pick array_tree scan
  one_array zero n h = absurd (n refl)
  one_array (suc l) n h = rw (h, sub-one) (next_map _ _ (λ _ _. refl))

  pub one_object_deep : peek s i ≡ 123 → scan (value 0 s i) ≡ Deep i
  unfolding value either pick scan
  one_object_deep h = rw h

  pub one_object : (l : ℕ) → (l ≡ 0 → ⊥) → peek s i ≡ 123 → scan (value l s i) ≡ scan (many (item true (l - 1)) 125 s (i + 1))
  unfolding value either pick object_tree scan
  one_object zero n h = absurd (n refl)
  one_object (suc l) n h = rw (h, sub-one) (next_map _ _ (λ _ _. refl))

-- a turn of `items`, and its start
module _ {A : Type 0} (one : Reader A) (close : ℕ) (s : Text) where
  pub many_none : (i : ℕ) → peek s (skip s i) ≡ close → scan (many one close s i) ≡ Done (skip s i + 1)
  unfolding many pick scan
  many_none i h = rw (eq-eqb _ _ h)

  pub many_some : (i : ℕ) → (peek s (skip s i) ≡ close → ⊥) → scan (many one close s i) ≡ scan (items one close (suc (length s)) s i)
  unfolding many pick
  many_some i h = rw (ne_eqb _ _ h)

  module _ (n i : ℕ) where
    pub turn_bad : {p : ℕ} → scan (one s (skip s i)) ≡ Bad p → scan (items one close (suc n) s i) ≡ Bad p
    unfolding items
    turn_bad e = next_bad _ _ e

    pub turn_deep : {p : ℕ} → scan (one s (skip s i)) ≡ Deep p → scan (items one close (suc n) s i) ≡ Deep p
    unfolding items
    turn_deep e = next_deep _ _ e

    module _ (j : ℕ) (e : scan (one s (skip s i)) ≡ Done j) where
      pub turn_close : peek s (skip s j) ≡ close → scan (items one close (suc n) s i) ≡ Done (skip s j + 1)
      unfolding items after pick scan
      turn_close h = next_done (one s (skip s i)) (after close (items one close n) s) e (λ a. rw (eq-eqb _ _ h))

      pub turn_comma : (peek s (skip s j) ≡ close → ⊥) → peek s (skip s j) ≡ 44 → scan (items one close (suc n) s i) ≡ scan (items one close n s (skip s j + 1))
      unfolding items after pick in_front scan
      turn_comma g h = next_done (one s (skip s i)) (after close (items one close n) s) e (λ a. rw (ne_eqb _ _ g, eq-eqb _ _ h) (next_map _ _ (λ _ _. refl)))

      pub turn_stop : (peek s (skip s j) ≡ close → ⊥) → (peek s (skip s j) ≡ 44 → ⊥) → scan (items one close (suc n) s i) ≡ Bad (skip s j)
      unfolding items after pick scan
      turn_stop g h = next_done (one s (skip s i)) (after close (items one close n) s) e (λ a. rw (ne_eqb _ _ g, ne_eqb _ _ h))

-- a name and a member
module _ (s : Text) (i : ℕ) where
  pub name_bad : {p : ℕ} → scan (string s i) ≡ Bad p → scan (name s i) ≡ Bad p
  unfolding name
  name_bad e = next_bad _ _ e

  pub name_deep : {p : ℕ} → scan (string s i) ≡ Deep p → scan (name s i) ≡ Deep p
  unfolding name
  name_deep e = next_deep _ _ e

  pub name_colon : {j : ℕ} → scan (string s i) ≡ Done j → peek s (skip s j) ≡ 58 → scan (name s i) ≡ Done (skip s j + 1)
  unfolding name colon pick scan
  name_colon e h = next_done (string s i) (colon s) e (λ k. rw (eq-eqb _ _ h))

  pub name_stop : {j : ℕ} → scan (string s i) ≡ Done j → (peek s (skip s j) ≡ 58 → ⊥) → scan (name s i) ≡ Bad (skip s j)
  unfolding name colon pick scan
  name_stop e h = next_done (string s i) (colon s) e (λ k. rw (ne_eqb _ _ h))

  module _ (v : Reader Tree) where
    pub member_bad : {p : ℕ} → scan (name s i) ≡ Bad p → scan (member v s i) ≡ Bad p
    unfolding member
    member_bad e = next_bad _ _ e

    pub member_deep : {p : ℕ} → scan (name s i) ≡ Deep p → scan (member v s i) ≡ Deep p
    unfolding member
    member_deep e = next_deep _ _ e

    pub member_done : {j : ℕ} → scan (name s i) ≡ Done j → scan (member v s i) ≡ scan (v s (skip s j))
    unfolding member named bound scan
    member_done e = next_done _ _ e (λ k. next_map _ _ (λ _ _. refl))

-- a whole text
module _ (s : Text) where
  pub read_bad : {p : ℕ} → scan (value most s (skip s 0)) ≡ Bad p → scan (read s) ≡ Bad p
  unfolding read
  read_bad e = next_bad _ _ e

  pub read_deep : {p : ℕ} → scan (value most s (skip s 0)) ≡ Deep p → scan (read s) ≡ Deep p
  unfolding read
  read_deep e = next_deep _ _ e

  pub read_done : {j : ℕ} → scan (value most s (skip s 0)) ≡ Done j → peek s (skip s j) ≡ 256 → scan (read s) ≡ Done (skip s j)
  unfolding read ending pick scan
  read_done e h = next_done (value most s (skip s 0)) (ending s) e (λ t. rw (eq-eqb _ _ h))

  pub read_more : {j : ℕ} → scan (value most s (skip s 0)) ≡ Done j → (peek s (skip s j) ≡ 256 → ⊥) → scan (read s) ≡ Bad (skip s j)
  unfolding read ending pick scan
  read_more e h = next_done (value most s (skip s 0)) (ending s) e (λ t. rw (ne_eqb _ _ h))

-- what was read ends where its reading ended
pub at_done : {A : Type 0} (o : Out A) {j : ℕ} → scan o ≡ Done j → at o ≡ j
unfolding at scan
at_done (done a i) e = cc
at_done (bad i) e = cc
at_done (deep i) e = cc

-- an item of an object or of an array
module _ (s : Text) (i l : ℕ) where
  pub item_bad : (object : Bool) {p : ℕ} → object ≡ true → scan (name s i) ≡ Bad p → scan (item object l s i) ≡ Bad p
  item_bad true o e = member_bad s i (value l) e
  item_bad false o e = cc

  pub item_deep : (object : Bool) {p : ℕ} → object ≡ true → scan (name s i) ≡ Deep p → scan (item object l s i) ≡ Deep p
  item_deep true o e = member_deep s i (value l) e
  item_deep false o e = cc

  pub item_done : (object : Bool) {j : ℕ} → object ≡ true → scan (name s i) ≡ Done j → scan (item object l s i) ≡ scan (value l s (skip s j))
  item_done true o e = member_done s i (value l) e
  item_done false o e = cc

  pub item_array : (object : Bool) → object ≡ false → scan (item object l s i) ≡ scan (value l s i)
  item_array true o = cc
  item_array false o = refl

pub turn_onward : (object : Bool) (l : ℕ) (s : Text) (i j : ℕ) → scan (item object l s (skip s i)) ≡ Done j → skip s i ≤ skip s j
turn_onward object l s i j e =
    let h : at (item object l s (skip s i)) ≡ j = at_done _ e in
    omega (arith, skip_ge s j, item_forward object l s (skip s i))

pub closer_byte : (object : Bool) (b : ℕ) → b ≡ closer object → b < 256
closer_byte true b e = omega arith
closer_byte false b e = omega arith
