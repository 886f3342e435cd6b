-- What the table holds after so many names. Assumes nothing.
use Rattle.std.specs.Prelude.{◌≡◌, Bool, ℕ, suc, ◌+◌, ◌-◌, ◌≤◌, ◌<◌, set, replicate}
use Rattle.std.proofs.Math.Path.{refl, sym}
use Rattle.std.proofs.Common.{ap, subst, ◌∙◌, arith, length-append, length-take, length-set, take_all, take_at, eq-eqb, ne_eqb}
use Rattle.std.proofs.Math.Bool.{true, false}
use mathlib.Core.List.{List, [], ◌∷◌, ◌++◌, append-nil, append_assoc}
use Rattle.std.proofs.Math.ListN.{length, take}
use Rattle.std.proofs.Math.Seq.{take-append-le}
use Rattle.std.proofs.lemmas.List.{set_at}
use Rattle.text.specs.Reading.{Text, pick}
use Rattle.text.specs.laws.Readers.{pick_true, pick_false}
use Rattle.named.specs.Named.{place, distinct_at}
use Rattle.named.specs.laws.Texts.{known, known_distinct, distinct_more}

-- of the names at the positions l the table holds the first 32 texts, n of them, then zeros
pub record Held (s : Text) (l names : List ℕ) (n : ℕ) : Type 0 where
  pub count : n ≡ length (take 32 (distinct_at s l))
  pub is : names ≡ take 32 (distinct_at s l) ++ replicate (32 - n) 0

-- the names at the positions w are added to a table of n names, which then has r
pub record Added (s : Text) (w old : List ℕ) (n : ℕ) (new : List ℕ) (r : ℕ) : Type 0 where
  pub long : length new ≡ 32
  pub few : r ≤ 32
  pub more : (l : List ℕ) → Held s l old n → Held s (l ++ w) new r

module _ (s : Text) where
  -- nothing is added; one list is added, then another; the same positions
  pub added_none : {old : List ℕ} {n : ℕ} → length old ≡ 32 → n ≤ 32 → Added s [] old n old n
  added_none {old} {n} e h = record { long = e; few = h; more = λ l a. subst (λ (k : List ℕ). Held s k old n) (sym (append-nil l)) a }

  pub added_then : {w x old mid new : List ℕ} {n m r : ℕ} → Added s w old n mid m → Added s x mid m new r → Added s (w ++ x) old n new r
  added_then {w} {x} {old} {mid} {new} {n} {m} {r} a b = record {
    long = b.long;
    few = b.few;
    more = λ l h. subst (λ (k : List ℕ). Held s k new r) (append_assoc l w x) (b.more (l ++ w) (a.more l h));
  }

  pub added_same : {w x old new : List ℕ} {n r : ℕ} → w ≡ x → Added s w old n new r → Added s x old n new r
  added_same {old = old} {new = new} {n = n} {r = r} e a = subst (λ (k : List ℕ). Added s k old n new r) e a

  -- ---- one name

  is_place : (p : ℕ) → (p ≡ 0 → ⊥) → p ∷ [] ≡ place p
  unfolding place
  is_place p z = sym (pick_false [] (p ∷ []) (ne_eqb p 0 z))

  module _ {names : List ℕ} {n : ℕ} (p : ℕ) (long : length names ≡ 32) (few : n ≤ 32) where
    -- no name
    pub added_0 : p ≡ 0 → Added s (place p) names n names n
    unfolding place
    added_0 z = added_same (sym (pick_true [] (p ∷ []) (eq-eqb p 0 z))) (added_none long few)

    module _ (z : p ≡ 0 → ⊥) where
      -- the table is full
      pub added_full : 32 ≤ n → Added s (place p) names n names n
      unfolding pick
      added_full h = added_same (is_place p z) (record { long = long; few = few; more = full })
        where
          either : (b : Bool) (l : List ℕ) → 32 ≤ length l → take 32 (pick b l (l ++ p ∷ [])) ≡ take 32 l
          either true l c = refl
          either false l c = take-append-le 32 l (p ∷ []) c

          full : (l : List ℕ) → Held s l names n → Held s (l ++ p ∷ []) names n
          full l a =
              let c : 32 ≤ length (distinct_at s l) = omega (arith, a.count, length-take 32 (distinct_at s l)) in
              let e : take 32 (distinct_at s l) ≡ take 32 (distinct_at s (l ++ p ∷ [])) = sym (ap (take 32) (distinct_more s l p) ∙ either (known s p l) (distinct_at s l) c) in
              record { count = a.count ∙ ap length e; is = a.is ∙ ap (λ (k : List ℕ). k ++ replicate (32 - n) 0) e }

      module _ (h : n < 32) where
        -- it is not full, so it holds each text
        all_of : {l : List ℕ} → Held s l names n → take 32 (distinct_at s l) ≡ distinct_at s l
        all_of {l} a = take_all 32 (distinct_at s l) (omega (arith, a.count, length-take 32 (distinct_at s l)))

        in_table : {l : List ℕ} → Held s l names n → known s p l ≡ known s p (take n names)
        in_table {l} a =
            let e : take n names ≡ distinct_at s l = ap (take n) a.is ∙ (take_at (take 32 (distinct_at s l)) (replicate (32 - n) 0) n (sym a.count) ∙ all_of a) in
            sym (ap (known s p) e ∙ known_distinct s p l)

        -- it has this name
        pub added_known : known s p (take n names) ≡ true → Added s (place p) names n names n
        added_known k = added_same (is_place p z) (record { long = long; few = few; more = again })
          where
            again : (l : List ℕ) → Held s l names n → Held s (l ++ p ∷ []) names n
            again l a =
                let e : distinct_at s l ≡ distinct_at s (l ++ p ∷ []) = sym (distinct_more s l p ∙ pick_true _ _ (in_table a ∙ k)) in
                record { count = a.count ∙ ap (λ (x : List ℕ). length (take 32 x)) e; is = a.is ∙ ap (λ (x : List ℕ). take 32 x ++ replicate (32 - n) 0) e }

        -- it has not
        pub added_new : known s p (take n names) ≡ false → Added s (place p) names n (set names n p) (n + 1)
        added_new k = added_same (is_place p z) (record { long = length-set names n p ∙ long; few = omega arith; more = new })
          where
            new : (l : List ℕ) → Held s l names n → Held s (l ++ p ∷ []) (set names n p) (n + 1)
            new l a =
                let d : List ℕ = distinct_at s l in
                let c : length d ≡ n = sym (a.count ∙ ap length (all_of a)) in
                let e : distinct_at s (l ++ p ∷ []) ≡ d ++ p ∷ [] = distinct_more s l p ∙ pick_false _ _ (in_table a ∙ k) in
                let g : length (d ++ p ∷ []) ≡ n + 1 = omega (arith, length-append d (p ∷ []), c) in
                let f : take 32 (distinct_at s (l ++ p ∷ [])) ≡ d ++ p ∷ [] = ap (take 32) e ∙ take_all 32 (d ++ p ∷ []) (omega arith) in
                let m : 32 - n ≡ suc (32 - (n + 1)) = omega arith in
                let i : names ≡ d ++ 0 ∷ replicate (32 - (n + 1)) 0 = a.is ∙ (λ j. all_of a j ++ replicate (m j) 0) in
                record {
                  count = sym (ap length f ∙ g);
                  is =
                      ap (λ (x : List ℕ). set x n p) i
                      ∙ (set_at d 0 (replicate (32 - (n + 1)) 0) p n c
                      ∙ (sym (append_assoc d (p ∷ []) (replicate (32 - (n + 1)) 0))
                      ∙ ap (λ (x : List ℕ). x ++ replicate (32 - (n + 1)) 0) (sym f)));
                }
