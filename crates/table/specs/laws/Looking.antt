-- Which line is about a member: the loop over the lines of one object, and the name that stands at a position. Assumes nothing.
use Rattle.std.specs.Prelude.{◌≡◌, refl, true, false, ℕ, ◌+◌, ◌<◌, ◌≤◌, get_or}
use Rattle.std.proofs.Common.{sym, ap, ◌∙◌, true≢false, arith, eq-eqb, ne_eqb}
use Rattle.std.proofs.Math.Decide.{ℕ_discrete}
use Rattle.text.specs.Reading.{Text, Out, done, bad, deep}
use Rattle.text.specs.Strings.{string}
use Rattle.grammar.specs.Tree.{same}
use Rattle.values.specs.Strings.{is_text, same_as}
use Rattle.values.specs.laws.Outs.{Gives}
use Rattle.values.specs.Theorems.{same_is_equal}
use Rattle.table.specs.Table.{line_at, first_line, LineAt}
use Rattle.table.specs.laws.Names.{name_at, Named}
use Rattle.table.specs.laws.Lines.{numbers, name_at_lem, first_few, about_there, there_about, names_differ, no_place}

-- the string that was read at p is a text
told_name : (s : Text) (p : ℕ) {k : Text} {n : ℕ} → string s p ≡ done k n → (u : Text) → same_as s p u ≡ same k u
unfolding same_as is_text
told_name s p e u = ap (λ (o : Out Text). is_text o u) e

-- the string at p is u, so it is what u is
known_name : (s : Text) (p : ℕ) (u v : Text) → same_as s p u ≡ true → same_as s p v ≡ same u v
unfolding same_as is_text
known_name s p u v = go (string s p)
  where
    go : (o : Out Text) → is_text o u ≡ true → is_text o v ≡ same u v
    go (done k n) e = ap (λ (w : Text). same w v) (same_is_equal k u e)
    go (bad i) e = absurd (true≢false (sym e))
    go (deep i) e = absurd (true≢false (sym e))

-- j is the line about members named n of an object of kind o, or 20 if there is none
pub record LineOf (o : ℕ) (n : Text) (j : ℕ) : Type 0 where
  pub few : j ≤ 20
  pub about : j < 20 → ((line_at j).place ≡ o) × (same n (line_at j).name ≡ true)
  pub others : (i : ℕ) → i < 20 → (i ≡ j → ⊥) → (line_at i).place ≡ o → same n (line_at i).name ≡ false

-- where a name was read, its line was told
pub line_gives : {o p j : ℕ} {s : Text} → LineAt o s p j → Gives (λ k n. LineOf o k j) (string s p)
line_gives {o} {p} {j} {s} l =
    record {
      holds = λ k n e. record {
        few = l.few;
        about = λ h. ((l.about h).0, sym (told_name s p e _) ∙ (l.about h).1);
        others = λ i h ne y. sym (told_name s p e _) ∙ l.others i h ne y;
      };
    }

-- the other way: the line of a name that the string at p is
module _ {o p m : ℕ} {s : Text} (d : Named s p m) where
  pub line_named : {j : ℕ} → m < 13 → LineOf o (name_at m) j → LineAt o s p j
  line_named h l =
      let e : same_as s p (name_at m) ≡ true = d.each m h ∙ eq-eqb m m refl in
      record {
        few = l.few;
        about = λ g. ((l.about g).0, known_name s p _ _ e ∙ (l.about g).1);
        others = λ i g ne y. known_name s p _ _ e ∙ l.others i g ne y;
      }

  -- a string that is no known name
  pub line_none : m ≡ 13 → LineAt o s p 20
  line_none e =
      record {
        few = omega arith;
        about = λ l. absurd (omega arith);
        others = λ i l ne y.
            let w = name_at_lem i l in
            ap (same_as s p) (sym w.1) ∙ d.each _ w.0 ∙ ne_eqb _ m (λ (z : get_or numbers i 0 ≡ m). omega (arith, w.0));
      }

-- of an object that knows no member
pub no_object : (o : ℕ) (n : Text) → 12 ≤ o → LineOf o n 20
no_object o n h = record { few = omega arith; about = λ l. absurd (omega arith); others = λ i l ne y. absurd (no_place o i h l y) }

-- the lines about the object before j don't have the name n
pub record Looked (o : ℕ) (n : Text) (j : ℕ) : Type 0 where
  pub start : first_line o ≤ j
  pub missed : (i : ℕ) → first_line o ≤ i → i < j → same n (line_at i).name ≡ false

module _ (o : ℕ) (n : Text) {j : ℕ} where
  pub look_start : j ≡ first_line o → Looked o n j
  look_start e = record { start = omega arith; missed = λ i h g. absurd (omega arith) }

  module _ (small : o < 12) {past : ℕ} (ep : past ≡ first_line (o + 1)) (l : Looked o n j) where
    pub look_inside : j < past → j < 20
    look_inside h = omega (arith, first_few (o + 1) (omega arith))

    pub look_on : same n (line_at j).name ≡ false → Looked o n (j + 1)
    look_on f = record { start = omega (arith, l.start); missed = λ i h g. go i h g (ℕ_discrete i j) }
      where
        go : (i : ℕ) → first_line o ≤ i → i < j + 1 → Dec (i ≡ j) → same n (line_at i).name ≡ false
        go i h g (yes e) = ap (λ (k : ℕ). same n (line_at k).name) e ∙ f
        go i h g (no e) = l.missed i h (omega arith)

    pub look_hit : j < past → same n (line_at j).name ≡ true → LineOf o n j
    look_hit h is =
        let here : (line_at j).place ≡ o = about_there o j small l.start (omega arith) in
        let m : j < 20 = look_inside h in
        record {
          few = omega arith;
          about = λ _. (here, is);
          others = λ i w ne y. ap (λ (u : Text). same u (line_at i).name) (same_is_equal _ _ is) ∙ names_differ j i m w (λ z. ne (sym z)) (here ∙ sym y);
        }

    pub look_over : (j < past → ⊥) → LineOf o n 20
    look_over h =
        record {
          few = omega arith;
          about = λ w. absurd (omega arith);
          others = λ i w ne y.
              let (a, b) = there_about o i small w y in
              l.missed i a (omega arith);
        }
