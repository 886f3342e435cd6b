-- Items read one after the other by a loop that goes on only while all is well: what was read so far, and what is left, is what was to be read at first.
-- Assumes nothing.
use mathlib.Core.Path.{◌≡◌, sym, ap, ◌∙◌}
use mathlib.Core.List.{List, [], ◌∷◌, ◌++◌, append_assoc}
use Prim.Native.Nat.{ℕ, suc, ◌+◌, ◌-◌, ◌≤◌, ◌<◌}
use native.Mathlib.Omega.{arith}
use lib.ListN.{length}
use Rattle.text.specs.Reading.{Text, done, Reader, peek}
use Rattle.text.specs.Class.{skip}
use Rattle.text.specs.laws.Peek.{skip_ge, found_in}
use Rattle.text.specs.laws.Readers.{next_inv, next_was}
use Rattle.grammar.specs.Document.{in_front, after, items, many}
use Rattle.grammar.proofs.laws.Firm.{after_closed, after_comma, items_turn, many_empty, many_items}
use Rattle.survey.specs.laws.Bare.{Bare}

-- a is the byte at p, k is past the whitespace after it, and b the byte there
pub bare_told : {a b k p : ℕ} {s : Text} → a ≡ peek s p → a ≡ 91 → k ≡ skip s (p + 1) → b ≡ peek s k → b ≡ 93 → Bare s p (k + 1)
bare_told {s = s} ea o ek eb c = record { opens = sym ea ∙ o; closes = ap (peek s) (sym ek) ∙ sym eb ∙ c; past = ap (λ (n : ℕ). n + 1) ek }

-- nothing is read
pub bare_reads : {A : Type 0} (one : Reader A) {s : Text} {p e : ℕ} → Bare s p e → many one 93 s (p + 1) ≡ done [] e
bare_reads one {s} {p} b = many_empty one 93 s (p + 1) b.closes ∙ ap (done []) (sym b.past)

-- the items pre were read, and the next one starts at i
pub record Going {A : Type 0} (one : Reader A) (close : ℕ) (s : Text) (first i : ℕ) (pre : List A) : Type 0 where
  pub from : ℕ
  pub past : i ≡ skip s from
  pub turns : ℕ
  pub enough : length s ≤ turns + from
  pub joins : (rest : List A) (n : ℕ) → items one close (suc turns) s from ≡ done rest n → many one close s first ≡ done (pre ++ rest) n

module _ {A : Type 0} (one : Reader A) (close : ℕ) (s : Text) (first : ℕ) where
  -- no item starts with what closes them
  pub going_start : ((i : ℕ) (x : A) (j : ℕ) → one s i ≡ done x j → peek s i ≡ close → ⊥) → {k : ℕ} → k ≡ skip s first → Going one close s first k []
  unfolding items
  going_start other ek =
      record {
        from = first;
        past = ek;
        turns = length s;
        enough = omega arith;
        joins = λ rest n e.
            let w = next_inv (one s (skip s first)) (after close (items one close (length s)) s) e in
            many_items one close s first (other (skip s first) w.0 w.1 w.2) ∙ e;
      }

  -- the item at i ends at j, k is past the whitespace after it, and b the byte there
  module _ {i : ℕ} {pre : List A} (g : Going one close s first i pre) {x : A} {j : ℕ} (r : one s i ≡ done x j) {k b : ℕ} (ek : k ≡ skip s j) (eb : b ≡ peek s k) where
    here : one s (skip s g.from) ≡ done x j
    here = ap (one s) (sym g.past) ∙ r

    byte_is : b ≡ peek s (skip s j)
    byte_is = eb ∙ ap (peek s) ek

    pub going_end : b ≡ close → many one close s first ≡ done (pre ++ (x ∷ [])) (k + 1)
    going_end h =
        g.joins (x ∷ []) (k + 1)
        (items_turn one close g.turns s g.from here
        ∙ after_closed close (items one close g.turns) s x j (sym byte_is ∙ h)
        ∙ ap (λ (n : ℕ). done (x ∷ []) (n + 1)) (sym ek))

    module _ (onward : i ≤ j) (other : b ≡ close → ⊥) (comma : b ≡ 44) where
      inside : k < length s
      inside = found_in s k eb comma tt

      pub going_on : {y : ℕ} → y ≡ skip s (k + 1) → Going one close s first y (pre ++ (x ∷ []))
      unfolding in_front
      going_on ey =
          let m : suc (g.turns - 1) ≡ g.turns = omega (arith, onward, inside, g.past, g.enough, skip_ge s g.from, skip_ge s j) in
          record {
            from = k + 1;
            past = ey;
            turns = g.turns - 1;
            enough = omega (arith, onward, inside, g.past, g.enough, skip_ge s g.from, skip_ge s j);
            joins = λ rest n e.
                let f : items one close g.turns s (skip s j + 1) ≡ done rest n = (λ t. items one close (sym m t) s (sym ek t + 1)) ∙ e in
                g.joins (x ∷ rest) n
                (items_turn one close g.turns s g.from here
                ∙ after_comma close (items one close g.turns) s x j (λ w. other (byte_is ∙ w)) (sym byte_is ∙ comma)
                ∙ next_was _ f)
                ∙ ap (λ (l : List A). done l n) (sym (append_assoc pre (x ∷ []) rest));
          }

      pub going_further : {y : ℕ} → y ≡ skip s (k + 1) → length s - y < length s - i
      going_further ey = omega (arith, onward, inside, skip_ge s (k + 1), skip_ge s j)
