-- The number of a clock's name, by the words with which a string begins. Assumes nothing.
use mathlib.Core.Path.{◌≡◌, refl, sym, ap, subst, ◌∙◌}
use mathlib.Core.Bool.{Bool, true, false}
use mathlib.Core.List.{[]}
use Prim.Native.Nat.{ℕ, ◌+◌, ◌-◌}
use native.Mathlib.Omega.{arith}
use lib.ListN.{take, drop}
use Rattle.text.specs.Reading.{Text, Out, done, bad, deep, next, pick, peek}
use Rattle.text.specs.laws.Readers.{pick_true, pick_false}
use Rattle.text.specs.laws.Raw.{prefixed}
use Rattle.text.specs.laws.Strings.{string_none}
use Rattle.grammar.specs.Tree.{same}
use Rattle.values.specs.Strings.{is_text, rest}
use Rattle.values.specs.laws.Rest.{rest_close, string_is}
use Rattle.values.specs.laws.Fronts.{not_empty}
use Rattle.manifest.specs.Names.{bytes}
use Rattle.manifest.specs.Rows.{first_or}
use Rattle.manifest.specs.Rules.{domain}
use Rattle.outline.specs.Outline.{text_in, text_at, domain_at}
use Rattle.outline.specs.laws.Names.{names, capitals, Behind, ended_as, coarse_as}
use Rattle.outline.proofs.Words.{text_behind}

none_empty : domain [] ≡ 0
unfolding domain first_or same pick
none_empty = refl

-- where no string stands, none of the names does
pub no_clock : (s : Text) (p : ℕ) → (peek s p ≡ 34 → ⊥) → 0 ≡ domain_at s p
unfolding domain_at text_at text_in
no_clock s p h = sym (ap (λ (o : Out Text). domain (text_in o)) (string_none s p h) ∙ none_empty)

-- ---- nothing is left, or _COARSE

module _ (s : Text) (p : ℕ) where
  closes : peek s p ≡ 34 → is_text (rest s p) [] ≡ true
  unfolding is_text same
  closes h = ap (λ (o : Out Text). is_text o []) (rest_close s p h)

  module _ {b : ℕ} (e : b ≡ peek s p) where
    pub ended_here : (number : ℕ) → b ≡ 34 → number ≡ ended_as (rest s p) number
    ended_here number h = sym (pick_true _ _ (closes (sym e ∙ h)))

    pub ended_not : (number : ℕ) → (b ≡ 34 → ⊥) → 0 ≡ ended_as (rest s p) number
    ended_not number h = sym (pick_false _ _ (not_empty s p (λ q. h (e ∙ q))))

    pub coarse_here : (number : ℕ) → b ≡ 34 → number ≡ coarse_as (rest s p) number
    coarse_here number h = sym (pick_true _ _ (closes (sym e ∙ h)))

    module _ (h : b ≡ 34 → ⊥) {q : ℕ} (w : Behind s p (bytes "_COARSE") q) where
      pub coarse_none : (number : ℕ) → q ≡ 0 → 0 ≡ coarse_as (rest s p) number
      coarse_none number z = sym (pick_false _ _ (not_empty s p (λ g. h (e ∙ g))) ∙ pick_false _ _ (w.none z []))

      pub coarse_ended : (number : ℕ) {r : ℕ} → (q ≡ 0 → ⊥) → r ≡ ended_as (rest s q) (number + 1) → r ≡ coarse_as (rest s p) number
      coarse_ended number n f =
          f ∙ ap (λ (t : Bool). pick t (number + 1) 0) (sym (text_behind w n []))
          ∙ sym (pick_false _ _ (not_empty s p (λ g. h (e ∙ g))))

-- ---- the first word

after_boottime : (o : Out Text) → domain (text_in (next o (prefixed (bytes "BOOTTIME")))) ≡ ended_as o 6
unfolding domain first_or text_in next prefixed is_text same pick
after_boottime (done t j) = refl
after_boottime (bad p) = refl
after_boottime (deep p) = refl

after_realtime : (o : Out Text) → domain (text_in (next o (prefixed (bytes "REALTIME")))) ≡ coarse_as o 1
unfolding domain first_or text_in next prefixed is_text same pick
after_realtime (done t j) = refl
after_realtime (bad p) = refl
after_realtime (deep p) = refl

abbrev raw_as : Out Text → ℕ
raw_as o = pick (is_text o []) 3 (pick (is_text o (bytes "_COARSE")) 4 (pick (is_text o (bytes "_RAW")) 5 0))

after_monotonic : (o : Out Text) → domain (text_in (next o (prefixed (bytes "MONOTONIC")))) ≡ raw_as o
unfolding domain first_or text_in next prefixed is_text same pick
after_monotonic (done t j) = refl
after_monotonic (bad p) = refl
after_monotonic (deep p) = refl

-- a text that is none of the names
none_of : (o : Out Text) → is_text o (bytes "REALTIME") ≡ false → is_text o (bytes "REALTIME_COARSE") ≡ false → is_text o (bytes "MONOTONIC") ≡ false → is_text o (bytes "MONOTONIC_COARSE") ≡ false → is_text o (bytes "MONOTONIC_RAW") ≡ false → is_text o (bytes "BOOTTIME") ≡ false → domain (text_in o) ≡ 0
unfolding domain first_or text_in is_text
none_of (done t j) a b c d e f = pick_false _ _ a ∙ pick_false _ _ b ∙ pick_false _ _ c ∙ pick_false _ _ d ∙ pick_false _ _ e ∙ pick_false _ _ f
none_of (bad p) a b c d e f = none_empty
none_of (deep p) a b c d e f = none_empty

-- of three numbers in turn, the first two alone decide if they give one; else the third does
one_of_two : (a b : Bool) (x : ℕ) → (◌≡◌ {A = ℕ} (pick a 3 (pick b 4 0)) 0 → ⊥) → ◌≡◌ {A = ℕ} (pick a 3 (pick b 4 0)) (pick a 3 (pick b 4 x))
unfolding pick
one_of_two true b x n = refl
one_of_two false true x n = refl
one_of_two false false x n = absurd (n refl)

neither : (a b : Bool) (x : ℕ) → ◌≡◌ {A = ℕ} (pick a 3 (pick b 4 0)) 0 → x ≡ pick a 3 (pick b 4 x)
unfolding pick
neither true b x e = absurd (omega arith)
neither false true x e = absurd (omega arith)
neither false false x e = refl

-- the string at p
module _ (s : Text) (p : ℕ) (h : peek s p ≡ 34) where
  -- what is read past the quote decides
  quoted : domain (text_in (rest s (p + 1))) ≡ domain_at s p
  unfolding domain_at text_at
  quoted = ap (λ (o : Out Text). domain (text_in o)) (sym (string_is s p h))

  -- and where that begins with a word, what follows the word does
  by_word : (w : Text) (f : Out Text → ℕ) → ((o : Out Text) → domain (text_in (next o (prefixed w))) ≡ f o) → {b : ℕ} → Behind s (p + 1) w b → (b ≡ 0 → ⊥) → f (rest s b) ≡ domain_at s p
  by_word w f after {b} l n = sym (after (rest s b)) ∙ ap (λ (o : Out Text). domain (text_in o)) (sym (l.some n)) ∙ quoted

  pub by_boottime : {b r : ℕ} → Behind s (p + 1) (bytes "BOOTTIME") b → (b ≡ 0 → ⊥) → r ≡ ended_as (rest s b) 6 → r ≡ domain_at s p
  by_boottime l n e = e ∙ by_word (bytes "BOOTTIME") (λ o. ended_as o 6) after_boottime l n

  pub by_realtime : {b r : ℕ} → Behind s (p + 1) (bytes "REALTIME") b → (b ≡ 0 → ⊥) → r ≡ coarse_as (rest s b) 1 → r ≡ domain_at s p
  by_realtime l n e = e ∙ by_word (bytes "REALTIME") (λ o. coarse_as o 1) after_realtime l n

  -- none of the words
  pub by_none : {b r m : ℕ} → Behind s (p + 1) (bytes "BOOTTIME") b → b ≡ 0 → Behind s (p + 1) (bytes "REALTIME") r → r ≡ 0 → Behind s (p + 1) (bytes "MONOTONIC") m → m ≡ 0 → 0 ≡ domain_at s p
  by_none wb zb wr zr wm zm =
      sym
      (none_of (rest s (p + 1)) (wr.none zr []) (wr.none zr (bytes "_COARSE")) (wm.none zm []) (wm.none zm (bytes "_COARSE")) (wm.none zm (bytes "_RAW")) (wb.none zb []))
      ∙ quoted

  module _ {m n : ℕ} (w : Behind s (p + 1) (bytes "MONOTONIC") m) (z : m ≡ 0 → ⊥) (e : n ≡ coarse_as (rest s m) 3) where
    monotonic : raw_as (rest s m) ≡ domain_at s p
    monotonic = by_word (bytes "MONOTONIC") raw_as after_monotonic w z

    pub by_monotonic : (n ≡ 0 → ⊥) → n ≡ domain_at s p
    by_monotonic f = e ∙ one_of_two _ _ _ (λ q. f (e ∙ q)) ∙ monotonic

    pub by_none_after : n ≡ 0 → {k : ℕ} → Behind s m (bytes "_RAW") k → k ≡ 0 → 0 ≡ domain_at s p
    by_none_after f b g = sym (pick_false _ _ (b.none g [])) ∙ neither _ _ _ (sym e ∙ f) ∙ monotonic

    pub by_raw : n ≡ 0 → {k r : ℕ} → Behind s m (bytes "_RAW") k → (k ≡ 0 → ⊥) → r ≡ ended_as (rest s k) 5 → r ≡ domain_at s p
    by_raw f b g q = q ∙ ap (λ (t : Bool). pick t 5 0) (sym (text_behind b g [])) ∙ neither _ _ _ (sym e ∙ f) ∙ monotonic

-- ---- words of the table

pub same_behind : {w v : Text} → w ≡ v → {s : Text} {from r : ℕ} → Behind s from w r → Behind s from v r
same_behind e {s} {from} {r} h = subst (λ (l : Text). Behind s from l r) e h

module _ {all : Text} (e : all ≡ names) (i j : ℕ) where
  pub word_capitals : capitals (take (j - i) (drop i names)) ≡ true → capitals (take (j - i) (drop i all)) ≡ true
  word_capitals h = ap (λ (l : Text). capitals (take (j - i) (drop i l))) e ∙ h

  pub word_is : take (j - i) (drop i all) ≡ take (j - i) (drop i names)
  word_is = ap (λ (l : Text). take (j - i) (drop i l)) e

  pub word_behind : {s : Text} {from r : ℕ} → Behind s from (take (j - i) (drop i all)) r → Behind s from (take (j - i) (drop i names)) r
  word_behind h = same_behind word_is h
