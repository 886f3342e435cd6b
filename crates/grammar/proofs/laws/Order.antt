-- The values of the members with a name depend neither on the other members nor, but for their own order, on the order of the members.
use Rattle.std.specs.Prelude.{◌≡◌, Bool, ℕ, ◌≤◌, length, eqb}
use Rattle.std.proofs.Math.Path.{refl, sym, ap, subst}
use Rattle.std.proofs.Common.{ap₂, ◌∙◌, arith, eq-eqb, eqb-true}
use Rattle.std.proofs.Math.Bool.{true, false}
use mathlib.Core.List.Permᴰ
use mathlib.Core.List.{List, [], ◌∷◌, ◌++◌, Permᴰ}
use Rattle.text.specs.Reading.{Text, pick}
use Rattle.text.specs.laws.Readers.{pick_case}
use Rattle.grammar.specs.Tree.{Tree, Members, no_members, one_member, members, same, get}

no : {C : Type 0} → ◌≡◌ {A = Bool} false true → C
no e = let z : ◌≡◌ {A = ℕ} 0 1 = cc in absurd (omega arith)

-- `same` says whether two texts are equal
pub same_true : (a b : Text) → same a b ≡ true → a ≡ b
unfolding same
same_true [] [] e = refl
same_true [] (y ∷ b) e = no e
same_true (x ∷ a) [] e = no e
same_true (x ∷ a) (y ∷ b) e =
    pick_case (eqb x y) (same a b) false e
    (λ h w. ap₂ ◌∷◌ (eqb-true x y h) (same_true a b w))
    (λ _ w. no w)

pub same_refl : (a : Text) → same a a ≡ true
unfolding same pick
same_refl [] = refl
same_refl (x ∷ a) = rw (eq-eqb x x refl) (same_refl a)

pub same_false : (a b : Text) → (a ≡ b → ⊥) → same a b ≡ false
same_false a b n = go (same a b) refl
  where
    go : (q : Bool) → same a b ≡ q → same a b ≡ false
    go true e = absurd (n (same_true a b e))
    go false e = e

-- members with a name, of a list of members
module _ (n : Text) where
  -- what follows the members xs matters by its values alone
  pub get_after : (xs ys zs : List (Text × Tree)) → get n (members ys) ≡ get n (members zs) → get n (members (xs ++ ys)) ≡ get n (members (xs ++ zs))
  unfolding get
  get_after [] ys zs e = e
  get_after (m ∷ xs) ys zs e = ap (λ (l : List Tree). pick (same m.0 n) (m.1 ∷ l) l) (get_after xs ys zs e)

  pub get_skip : (k : Text) (t : Tree) (ys : List (Text × Tree)) → (k ≡ n → ⊥) → get n (members ((k, t) ∷ ys)) ≡ get n (members ys)
  unfolding get pick
  get_skip k t ys h = rw (same_false k n h)

  pub swap_here : (j k : Text) (t u : Tree) (ys : List (Text × Tree)) → (j ≡ k → ⊥) → get n (members ((j, t) ∷ (k, u) ∷ ys)) ≡ get n (members ((k, u) ∷ (j, t) ∷ ys))
  unfolding get pick
  swap_here j k t u ys h = go (same j n) (same k n) (λ e f. h (same_true j n e ∙ sym (same_true k n f)))
    where
      go : (a b : Bool) → (a ≡ true → b ≡ true → ⊥) → pick a (t ∷ pick b (u ∷ get n (members ys)) (get n (members ys))) (pick b (u ∷ get n (members ys)) (get n (members ys))) ≡ pick b (u ∷ pick a (t ∷ get n (members ys)) (get n (members ys))) (pick a (t ∷ get n (members ys)) (get n (members ys)))
      go true true g = absurd (g refl refl)
      go true false g = refl
      go false true g = refl
      go false false g = refl

  -- one member more on both sides, and two that change places
  more : (c : Bool) (t : Tree) (xs ys : List Tree) → Permᴰ xs ys → Permᴰ (pick c (t ∷ xs) xs) (pick c (t ∷ ys) ys)
  unfolding pick
  more true t xs ys p = Permᴰ.cons refl p
  more false t xs ys p = p

  turned : (c d : Bool) (t u : Tree) (xs : List Tree) → Permᴰ (pick c (t ∷ pick d (u ∷ xs) xs) (pick d (u ∷ xs) xs)) (pick d (u ∷ pick c (t ∷ xs) xs) (pick c (t ∷ xs) xs))
  unfolding pick
  turned true true t u xs = Permᴰ.swap refl refl
  turned true false t u xs = Permᴰ.refl _
  turned false true t u xs = Permᴰ.refl _
  turned false false t u xs = Permᴰ.refl _

  pub get_permutes : {xs ys : List (Text × Tree)} → Permᴰ xs ys → Permᴰ (get n (members xs)) (get n (members ys))
  unfolding get
  get_permutes Permᴰ.nil = Permᴰ.nil
  get_permutes (Permᴰ.cons {a = a} {l₁ = xs} {l₂ = ys} e p) =
      subst (λ (m : Text × Tree). Permᴰ (get n (members (a ∷ xs))) (get n (members (m ∷ ys)))) e (more (same a.0 n) a.1 _ _ (get_permutes p))
  get_permutes (Permᴰ.swap {a = a} {b = b} {a' = c} {l = xs} e f) =
      subst (λ (m : Text × Tree). Permᴰ (get n (members (a ∷ b ∷ xs))) (get n (members (c ∷ m ∷ xs)))) e
      (subst (λ (m : Text × Tree). Permᴰ (get n (members (a ∷ b ∷ xs))) (get n (members (m ∷ a ∷ xs)))) f (turned (same a.0 n) (same b.0 n) a.1 b.1 _))
  get_permutes (Permᴰ.trans p q) = Permᴰ.trans (get_permutes p) (get_permutes q)

-- a list of one element or none has one order
pub short_order : {xs ys : List Tree} → Permᴰ xs ys → length xs ≤ 1 → ys ≡ xs
short_order Permᴰ.nil h = refl
short_order (Permᴰ.cons e p) h = ap₂ ◌∷◌ (sym e) (short_order p (omega arith))
short_order (Permᴰ.swap e f) h = absurd (omega arith)
short_order (Permᴰ.trans {l₁ = xs} {l₂ = ys} p q) h =
    let e : ys ≡ xs = short_order p h in
    let l : length ys ≡ length xs = ap length e in
    short_order q (omega arith) ∙ e

-- the members of an object are those of a list
pub members_of : (ms : Members) → (xs : List (Text × Tree)) × (members xs ≡ ms)
members_of no_members = ([], refl)
members_of (one_member k t ms) = let w = members_of ms in ((k, t) ∷ w.0, ap (one_member k t) w.1)
