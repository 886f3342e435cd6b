-- What a manifest cites is there: entries by their paths, clocks by their names, machines by their names. Assumes nothing.
use Rattle.std.specs.Prelude.{◌≡◌, refl, Bool, true, false, ◌||◌, List, [], ◌∷◌, ℕ, suc, ◌+◌, ◌≤◌, ◌<◌}
use Rattle.std.proofs.Common.{sym, ap, ◌∙◌, true≢false, arith, eq-eqb}
use Rattle.std.proofs.lemmas.Bool.{eqb-false}
use Rattle.text.specs.Reading.{Text, pick}
use Rattle.grammar.specs.Tree.{same}
use Rattle.manifest.specs.View.{Cell, absent, wrong, many, one}
use Rattle.manifest.specs.Rows.{Manifest, Entry, path, entries, declared, the, is_absent, holds, any, flat}
use Rattle.manifest.specs.Rules.{has_path, find, clock_names, domain, no_clock}
use Rattle.manifest.specs.Meaning.{without, distinct, names_in}
use Rattle.manifest.specs.Statements.{At, here, further, Found}
use Rattle.manifest.proofs.laws.Lists.{any_append, any_flat, at_below, Place, first_or_some, first_or_none}
use Rattle.manifest.proofs.laws.Views.{same_true}

pub same_refl : (t : Text) → same t t ≡ true
unfolding same pick
same_refl [] = refl
same_refl (a ∷ t) = λ i. pick (eq-eqb a a refl i) (same_refl t i) false

-- ---- entries

-- the entry found from place j on
record FoundAt (t : Text) (j : ℕ) (l : List (Cell Entry)) : Type 0 where
  number : ℕ
  entry : Entry
  listed : At l number (one entry)
  named : path entry ≡ one t
  found : find t j l ≡ one (j + number, entry)

path_is : (t : Text) (c : Cell Text) → holds (same t) c ≡ true → c ≡ one t
unfolding holds
path_is t absent e = absurd (true≢false (sym e))
path_is t wrong e = absurd (true≢false (sym e))
path_is t (many i) e = absurd (true≢false (sym e))
path_is t (one u) e = ap one (sym (same_true t u e))

-- one entry more before it, which is not the one
step : (t : Text) (j : ℕ) (c : Cell Entry) (l : List (Cell Entry)) → find t j (c ∷ l) ≡ find t (suc j) l → FoundAt t (suc j) l → FoundAt t j (c ∷ l)
step t j c l q r =
    let z : suc j + r.number ≡ j + suc r.number = omega arith in
    record {
      number = suc r.number;
      entry = r.entry;
      listed = further r.listed;
      named = r.named;
      found = q ∙ (r.found ∙ ap (λ (k : ℕ). one (k, r.entry)) z);
    }

find_some : (t : Text) (j : ℕ) (l : List (Cell Entry)) → is_absent (find t j l) ≡ false → FoundAt t j l
unfolding find is_absent pick
find_some t j [] e = absurd (true≢false e)
find_some t j (absent ∷ l) e = step t j absent l refl (find_some t (suc j) l e)
find_some t j (wrong ∷ l) e = step t j wrong l refl (find_some t (suc j) l e)
find_some t j (many k ∷ l) e = step t j (many k) l refl (find_some t (suc j) l e)
find_some t j (one v ∷ l) e = go (has_path t v) refl e (find_some t (suc j) l)
  where
    go : (b : Bool) → has_path t v ≡ b → is_absent (pick b (one (j, v)) (find t (suc j) l)) ≡ false → (is_absent (find t (suc j) l) ≡ false → FoundAt t (suc j) l) → FoundAt t j (one v ∷ l)
    go true q f ih =
        let z : j ≡ j + 0 = omega arith in
        record {
          number = 0;
          entry = v;
          listed = here;
          named = path_is t (path v) q;
          found = ap (λ (b : Bool). pick b (one (j, v)) (find t (suc j) l)) q ∙ ap (λ (k : ℕ). one (k, v)) z;
        }
    go false q f ih = step t j (one v) l (ap (λ (b : Bool). pick b (one (j, v)) (find t (suc j) l)) q) (ih f)

pub entry_found : (m : Manifest) (t : Text) → is_absent (find t 0 (entries m)) ≡ false → Found m t
entry_found m t e =
    let r : FoundAt t 0 (entries m) = find_some t 0 (entries m) e in
    let z : 0 + r.number ≡ r.number = omega arith in
    record { number = r.number; entry = r.entry; listed = r.listed; named = r.named; found = r.found ∙ ap (λ (k : ℕ). one (k, r.entry)) z }

-- ---- clocks

known_name : (b : Bool) (t : Text) → any (same t) clock_names ≡ b → no_clock t ≡ false → any (same t) clock_names ≡ true
unfolding domain
known_name true t q e = q
known_name false t q e = absurd (eqb-false (domain t) 0 e (first_or_none (same t) clock_names 1 q))

pub domain_numbered : (t : Text) → no_clock t ≡ false → (1 ≤ domain t) × (domain t ≤ 6)
unfolding domain
domain_numbered t e =
    let r : Place (same t) clock_names 0 = first_or_some (same t) clock_names 0 (known_name (any (same t) clock_names) t refl e) in
    let h : domain t ≡ suc (0 + r.place) = r.is in
    let b : r.place < 6 = at_below r.at in
    (omega arith, omega arith)

-- ---- machines

any_without : (t u : Text) → same t u ≡ false → (l : List Text) → any (same t) (without u l) ≡ any (same t) l
unfolding without any pick
any_without t u h [] = refl
any_without t u h (x ∷ l) = go (same x u) refl (any_without t u h l)
  where
    go : (b : Bool) → same x u ≡ b → any (same t) (without u l) ≡ any (same t) l → any (same t) (pick b (without u l) (x ∷ without u l)) ≡ (same t x || any (same t) l)
    go true q ih = ih ∙ sym (ap (λ (b : Bool). b || any (same t) l) (ap (same t) (same_true x u q) ∙ h))
    go false q ih = ap (λ (b : Bool). same t x || b) ih

-- each text is still there once
pub any_distinct : (t : Text) (l : List Text) → any (same t) (distinct l) ≡ any (same t) l
unfolding distinct any
any_distinct t [] = refl
any_distinct t (u ∷ l) = go (same t u) refl (any_distinct t l)
  where
    go : (b : Bool) → same t u ≡ b → any (same t) (distinct l) ≡ any (same t) l → (same t u || any (same t) (without u (distinct l))) ≡ (same t u || any (same t) l)
    go true q ih = ap (λ (b : Bool). b || any (same t) (without u (distinct l))) q ∙ sym (ap (λ (b : Bool). b || any (same t) l) q)
    go false q ih = ap (λ (b : Bool). same t u || b) (any_without t u q (distinct l) ∙ ih)

pub declared_named : (m : Manifest) {i : ℕ} {e : Entry} (t : Text) → At (entries m) i (one e) → any (same t) (declared e) ≡ true → any (same t) (names_in m) ≡ true
unfolding names_in the flat
declared_named m {e = e} t h q =
    any_distinct t (flat (λ c. flat declared (the c)) (entries m))
    ∙ any_flat (same t) (λ c. flat declared (the c)) h (any_append (same t) (declared e) [] ∙ ap (λ (b : Bool). b || any (same t) []) q)

pub name_placed : (names : List Text) (t : Text) → any (same t) names ≡ true → Place (same t) names 0
name_placed names t e = first_or_some (same t) names 0 e
