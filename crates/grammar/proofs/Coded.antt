-- The steps of the reader in the code's own values: each law has a premise for each thing that the code found on its way, in the order of the code,
-- and ends in what is asked at a `return`. So a proof cites one law, with a path for each premise.
use mathlib.Core.Path.{◌≡◌, sym, ap, ◌∙◌}
use mathlib.Core.Bool.{Bool, true, false}
use mathlib.Core.Logic.{◌⊎◌, inl, inr, ⊎_elim}
use Prim.Native.Nat.{ℕ, suc, ◌+◌, ◌-◌, ◌≤◌, ◌<◌}
use native.Mathlib.Omega.{arith}
use lib.ListN.{length}
use lib.Dec.{eqb}
use Rattle.text.specs.declared.Scan.{Scan}
use Rattle.text.specs.declared.Scan.TheVariants.{Done, Bad, Deep}
use Rattle.text.specs.Reading.{Text, peek, word, scan}
use Rattle.text.specs.Class.{skip}
use Rattle.text.specs.Strings.{string}
use Rattle.text.specs.Numbers.{number}
use Rattle.text.specs.laws.Peek.{skip_ge, found_in}
use Rattle.grammar.specs.Document.{true_word, false_word, null_word, scalar, items, many, name, value, most, read}
use Rattle.grammar.specs.Items.{item, closer}
use Rattle.grammar.proofs.laws.Steps.{scalar_string, scalar_true, scalar_false, scalar_null, scalar_number, one_scalar, one_array_deep, one_array, one_object_deep, one_object}
use Rattle.grammar.proofs.laws.Steps.{name_bad, name_deep, name_colon, name_stop, item_done, item_bad, item_deep, item_array}
use Rattle.grammar.proofs.laws.Steps.{many_none, many_some, turn_bad, turn_deep, turn_close, turn_comma, turn_stop, turn_onward}
use Rattle.grammar.proofs.laws.Steps.{read_bad, read_deep, read_done, read_more}

-- `scalar`: b is the byte at i
module _ (s : Text) (i : ℕ) {b : ℕ} (eb : b ≡ peek s i) where
  pub is_string : b ≡ 34 → {r : Scan} → r ≡ scan (string s i) → r ≡ scan (scalar s i)
  is_string h e = e ∙ sym (scalar_string s i (sym eb ∙ h))

  pub is_true : b ≡ 116 → {r : Scan} → r ≡ scan (word true_word s i) → r ≡ scan (scalar s i)
  is_true h e = e ∙ sym (scalar_true s i (sym eb ∙ h))

  pub is_false : b ≡ 102 → {r : Scan} → r ≡ scan (word false_word s i) → r ≡ scan (scalar s i)
  is_false h e = e ∙ sym (scalar_false s i (sym eb ∙ h))

  pub is_null : b ≡ 110 → {r : Scan} → r ≡ scan (word null_word s i) → r ≡ scan (scalar s i)
  is_null h e = e ∙ sym (scalar_null s i (sym eb ∙ h))

  pub is_number : (b ≡ 34 → ⊥) → (b ≡ 116 → ⊥) → (b ≡ 102 → ⊥) → (b ≡ 110 → ⊥) → {r : Scan} → r ≡ scan (number s i) → r ≡ scan (scalar s i)
  is_number q t f n e = e ∙ sym (scalar_number s i (λ w. q (eb ∙ w)) (λ w. t (eb ∙ w)) (λ w. f (eb ∙ w)) (λ w. n (eb ∙ w)))

-- `name`: r is what reading the string found, k past the whitespace after it, b the byte there
module _ (s : Text) (i : ℕ) {r : Scan} (er : r ≡ scan (string s i)) where
  pub named_bad : {p : ℕ} → r ≡ Bad p → Bad p ≡ scan (name s i)
  named_bad h = sym (name_bad s i (sym er ∙ h))

  pub named_deep : {p : ℕ} → r ≡ Deep p → Deep p ≡ scan (name s i)
  named_deep h = sym (name_deep s i (sym er ∙ h))

  module _ {j k b : ℕ} (h : r ≡ Done j) (ek : k ≡ skip s j) (eb : b ≡ peek s k) where
    pub named : b ≡ 58 → Done (k + 1) ≡ scan (name s i)
    named g = ap (λ (n : ℕ). Done (n + 1)) ek ∙ sym (name_colon s i (sym er ∙ h) (ap (peek s) (sym ek) ∙ sym eb ∙ g))

    pub named_stop : (b ≡ 58 → ⊥) → Bad k ≡ scan (name s i)
    named_stop g = ap Bad ek ∙ sym (name_stop s i (sym er ∙ h) (λ w. g (eb ∙ ap (peek s) ek ∙ w)))

-- `value`: b is the byte at i, and opens a list or not
module _ (s : Text) (i l : ℕ) {b : ℕ} (eb : b ≡ peek s i) where
  pub opens_in : (b ≡ 91) ⊎ (b ≡ 123) → i < length s
  opens_in = ⊎_elim (λ h. found_in s i eb h tt) (λ h. found_in s i eb h tt)

  pub is_deep : (b ≡ 91) ⊎ (b ≡ 123) → l ≡ 0 → Deep i ≡ scan (value l s i)
  is_deep o z =
      ⊎_elim
      (λ h. rw z (sym (one_array_deep s i (sym eb ∙ h))))
      (λ h. rw z (sym (one_object_deep s i (sym eb ∙ h))))
      o

  pub is_list : (b ≡ 91) ⊎ (b ≡ 123) → (l ≡ 0 → ⊥) → {r : Scan} → r ≡ scan (many (item (eqb b 123) (l - 1)) (closer (eqb b 123)) s (i + 1)) → r ≡ scan (value l s i)
  is_list o z {r} e =
      ⊎_elim
      (λ h. e ∙ ap (λ (c : ℕ). scan (many (item (eqb c 123) (l - 1)) (closer (eqb c 123)) s (i + 1))) h ∙ sym (one_array s i l z (sym eb ∙ h)))
      (λ h. e ∙ ap (λ (c : ℕ). scan (many (item (eqb c 123) (l - 1)) (closer (eqb c 123)) s (i + 1))) h ∙ sym (one_object s i l z (sym eb ∙ h)))
      o

  pub is_scalar : ((b ≡ 91) ⊎ (b ≡ 123) → ⊥) → {r : Scan} → r ≡ scan (scalar s i) → r ≡ scan (value l s i)
  is_scalar n e = e ∙ sym (ap scan (one_scalar s i l (λ w. n (inl (eb ∙ w))) (λ w. n (inr (eb ∙ w)))))

-- `item`: r is what reading a name found
module _ (s : Text) (i l : ℕ) (object : Bool) where
  module _ (o : object ≡ true) {r : Scan} (er : r ≡ scan (name s i)) where
    pub kept_bad : {p : ℕ} → r ≡ Bad p → Bad p ≡ scan (item object l s i)
    kept_bad h = sym (item_bad s i l object o (sym er ∙ h))

    pub kept_deep : {p : ℕ} → r ≡ Deep p → Deep p ≡ scan (item object l s i)
    kept_deep h = sym (item_deep s i l object o (sym er ∙ h))

    pub kept : {j k : ℕ} → r ≡ Done j → k ≡ skip s j → {v : Scan} → v ≡ scan (value l s k) → v ≡ scan (item object l s i)
    kept h ek ev = ev ∙ ap (λ (n : ℕ). scan (value l s n)) ek ∙ sym (item_done s i l object o (sym er ∙ h))

  pub kept_array : object ≡ false → {v : Scan} → v ≡ scan (value l s i) → v ≡ scan (item object l s i)
  kept_array o ev = ev ∙ sym (item_array s i l object o)

-- `items`: i stands past the whitespace from `from` on, and what is left to read there is what was to be read at first
pub record Left (object : Bool) (l : ℕ) (s : Text) (first i : ℕ) : Type 0 where
  pub from : ℕ
  pub past : i ≡ skip s from
  pub turns : ℕ
  pub enough : length s ≤ turns + from
  pub same : scan (many (item object l) (closer object) s first) ≡ scan (items (item object l) (closer object) (suc turns) s from)

-- c is what closes the items
module _ (object : Bool) (l : ℕ) (s : Text) (first : ℕ) {c : ℕ} (ec : c ≡ closer object) where
  -- k is past the whitespace, and b the byte there
  module _ {k b : ℕ} (ek : k ≡ skip s first) (eb : b ≡ peek s k) where
    pub none_left : b ≡ c → Done (k + 1) ≡ scan (many (item object l) (closer object) s first)
    none_left h = ap (λ (n : ℕ). Done (n + 1)) ek ∙ sym (many_none (item object l) (closer object) s first (ap (peek s) (sym ek) ∙ sym eb ∙ h ∙ ec))

    pub all_left : (b ≡ c → ⊥) → Left object l s first k
    all_left h =
        record {
          from = first;
          past = ek;
          turns = length s;
          enough = omega arith;
          same = many_some (item object l) (closer object) s first (λ w. h (eb ∙ ap (peek s) ek ∙ w ∙ sym ec));
        }

  -- a turn: r is what reading an item at i found
  module _ {i : ℕ} (inv : Left object l s first i) {r : Scan} (er : r ≡ scan (item object l s i)) where
    found : {z : Scan} → r ≡ z → scan (item object l s (skip s inv.from)) ≡ z
    found h = ap (λ (n : ℕ). scan (item object l s n)) (sym inv.past) ∙ sym er ∙ h

    pub left_bad : {p : ℕ} → r ≡ Bad p → Bad p ≡ scan (many (item object l) (closer object) s first)
    left_bad h = sym (inv.same ∙ turn_bad (item object l) (closer object) s inv.turns inv.from (found h))

    pub left_deep : {p : ℕ} → r ≡ Deep p → Deep p ≡ scan (many (item object l) (closer object) s first)
    left_deep h = sym (inv.same ∙ turn_deep (item object l) (closer object) s inv.turns inv.from (found h))

    -- the item ends at j; k is past the whitespace after it, and b the byte there
    module _ {j k b : ℕ} (h : r ≡ Done j) (ek : k ≡ skip s j) (eb : b ≡ peek s k) where
      byte_is : b ≡ peek s (skip s j)
      byte_is = eb ∙ ap (peek s) ek

      pub left_close : b ≡ c → Done (k + 1) ≡ scan (many (item object l) (closer object) s first)
      left_close g =
          ap (λ (n : ℕ). Done (n + 1)) ek
          ∙ sym (inv.same ∙ turn_close (item object l) (closer object) s inv.turns inv.from j (found h) (sym byte_is ∙ g ∙ ec))

      module _ (g : b ≡ c → ⊥) where
        stays : peek s (skip s j) ≡ closer object → ⊥
        stays w = g (byte_is ∙ w ∙ sym ec)

        pub left_stop : (b ≡ 44 → ⊥) → Bad k ≡ scan (many (item object l) (closer object) s first)
        left_stop f = ap Bad ek ∙ sym (inv.same ∙ turn_stop (item object l) (closer object) s inv.turns inv.from j (found h) stays (λ w. f (byte_is ∙ w)))

        -- with a comma the turn goes on, further along in the text
        module _ (f : b ≡ 44) where
          pub onward : i ≤ k
          onward = omega (arith, turn_onward object l s inv.from j (found h), inv.past)

          pub inside : k < length s
          inside = found_in s k eb f tt

          pub left_comma : {x : ℕ} → x ≡ skip s (k + 1) → Left object l s first x
          left_comma ex =
              let m : suc (inv.turns - 1) ≡ inv.turns = omega (arith, onward, inside, inv.past, skip_ge s inv.from) in
              record {
                from = k + 1;
                past = ex;
                turns = inv.turns - 1;
                enough = omega (arith, onward, inside, inv.past, skip_ge s inv.from);
                same =
                    inv.same
                    ∙ turn_comma (item object l) (closer object) s inv.turns inv.from j (found h) stays (sym byte_is ∙ f)
                    ∙ cc;
              }

          pub further : {x : ℕ} → x ≡ skip s (k + 1) → length s - x < length s - i
          further ex = omega (arith, onward, inside, skip_ge s (k + 1))

-- `document`: k is where the value begins, r what reading it found, e past the whitespace after it, b the byte there
module _ (s : Text) {k : ℕ} {r : Scan} (ek : k ≡ skip s 0) (er : r ≡ scan (value most s k)) where
  whole : {z : Scan} → r ≡ z → scan (value most s (skip s 0)) ≡ z
  whole h = ap (λ (n : ℕ). scan (value most s n)) (sym ek) ∙ sym er ∙ h

  pub ends_bad : {p : ℕ} → r ≡ Bad p → Bad p ≡ scan (read s)
  ends_bad h = sym (read_bad s (whole h))

  pub ends_deep : {p : ℕ} → r ≡ Deep p → Deep p ≡ scan (read s)
  ends_deep h = sym (read_deep s (whole h))

  module _ {j e b : ℕ} (h : r ≡ Done j) (ee : e ≡ skip s j) (eb : b ≡ peek s e) where
    pub ends_done : b ≡ 256 → Done e ≡ scan (read s)
    ends_done g = ap Done ee ∙ sym (read_done s (whole h) (ap (peek s) (sym ee) ∙ sym eb ∙ g))

    pub ends_more : (b ≡ 256 → ⊥) → Bad e ≡ scan (read s)
    ends_more g = ap Bad ee ∙ sym (read_more s (whole h) (λ w. g (eb ∙ ap (peek s) ee ∙ w)))
