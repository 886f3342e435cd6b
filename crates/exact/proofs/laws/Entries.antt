-- The entries of an accepted manifest: at most 32, each with a path, no two with one (10 and 15). So what is said of a file is said by the entry with its
-- path. Assumes nothing.
use Rattle.std.specs.Prelude.{◌≡◌, ◌||◌, ◌⊎◌, List, [], ◌∷◌, ℕ, zero, suc, ◌+◌, ◌≤◌, ◌<◌, eqb, ℤ, take}
use Rattle.std.proofs.Math.Path.{refl, sym, ap}
use Rattle.std.proofs.Common.{subst, ◌∙◌}
use Rattle.std.proofs.Math.Bool.{true, false, true≢false}
use Rattle.std.proofs.Math.Logic.{inl, inr}
use native.Mathlib.Omega.{arith}
use Rattle.std.proofs.Math.Dec.{ltb}
use Rattle.std.proofs.Math.ListN.{length, get_or}
use borrow.Author.Tests.{ltb-false}
use Rattle.text.specs.Reading.{Text, pick}
use Rattle.grammar.specs.Tree.{Tree, same}
use Rattle.numbers.specs.declared.Machine.{Machine}
use Rattle.manifest.specs.Kinds.{entry}
use Rattle.manifest.specs.View.{Cell, absent, wrong, many, one}
use Rattle.manifest.specs.Rows.{Manifest, Entry, path, entries, ids, holds, any, any_at}
use Rattle.manifest.specs.Rules.{Rule, applies, rules, has_path, twice_in, root, refusal, refusal_5_or_later, refusal_10_size, refusal_15_path_or_id_twice}
use Rattle.manifest.specs.Meaning.{Meaning, Listed, nothing_said, text_or, owns_of, parts, listings, meant, meaning}
use Rattle.manifest.specs.Manifest.{refusal_of, meaning_of}
use Rattle.manifest.specs.Statements.{At, here, further, All, all_none, all_one, Meets, stands, SoundRow, Untouched}
use Rattle.manifest.proofs.laws.Bools.{halves}
use Rattle.manifest.proofs.laws.Lists.{any_true, any_at_false, at_below}
use Rattle.manifest.proofs.laws.Cited.{same_refl}
use Rattle.manifest.proofs.laws.Views.{same_true}
use Rattle.manifest.proofs.laws.Accepted.{no_rule, entries_sound}
use Rattle.manifest.proofs.laws.Bytes.{meaning_of_document, refusal_of_document, accepted_bytes, nothing_meant}
use Rattle.merged.specs.Facts.{Filed, entry_for, unlisted, said}
use Rattle.exact.specs.Words.{Lists}
use Rattle.exact.proofs.laws.Items.{Once, ids_once}
use Rattle.exact.proofs.laws.Lists.{apart, at_get_d, at_only, First, found, none, first_or_lem}

-- entries that are in order
pub record Tidy (w : Meaning) : Type 0 where
  pub few : length w.listed ≤ 32
  pub named : (i : ℕ) (l : Listed) → At w.listed i l → l.path ≡ [] → ⊥
  pub once : (i j : ℕ) (l k : Listed) → At w.listed i l → At w.listed j k → l.path ≡ k.path → i ≡ j
  pub ids : (i : ℕ) (l : Listed) → At w.listed i l → (items : List (ℤ × Machine)) → l.owns ≡ parts items → Once items

-- ---- from acceptance

-- an entry that is listed, and its path
record Item (m : Manifest) (l : List (Cell Entry)) (j : ℕ) (x : Listed) : Type 0 where
  its_entry : Entry
  at : At l j (one its_entry)
  its_path : path its_entry ≡ one x.path
  its_owns : owns_of m its_entry ≡ x.owns

path_of : {c : Cell Text} → Meets (λ (u : Text). Unit {0}) true c → c ≡ one (text_or c)
unfolding text_or
path_of (stands u) = refl

item : (m : Manifest) (i : ℕ) {l : List (Cell Entry)} → All (λ c. Meets (λ w. SoundRow entry w) true c) l → {j : ℕ} {x : Listed} → At (listings m i l) j x → Item m l j x
unfolding listings
item m i (all_one (stands {a = e} s) r) here = record { its_entry = e; at = here; its_path = path_of s.0; its_owns = refl }
item m i (all_one (stands s) r) (further h) = let k = item m (suc i) r h in record { its_entry = k.its_entry; at = further k.at; its_path = k.its_path; its_owns = k.its_owns }
item m i all_none h = elim h [ ]

listings_few : (m : Manifest) (i : ℕ) (l : List (Cell Entry)) → length (listings m i l) ≤ length l
unfolding listings
listings_few m i [] = omega arith
listings_few m i (absent ∷ l) = omega (arith, listings_few m (suc i) l)
listings_few m i (wrong ∷ l) = omega (arith, listings_few m (suc i) l)
listings_few m i (many k ∷ l) = omega (arith, listings_few m (suc i) l)
listings_few m i (one e ∷ l) = omega (arith, listings_few m (suc i) l)

-- what stands before a place stands in what is taken
at_take : {A : Type 0} {l : List A} {i : ℕ} {a : A} (j : ℕ) → i < j → At l i a → At (take j l) i a
at_take zero h k = absurd (omega arith)
at_take (suc j) h here = here
at_take (suc j) h (further k) = further (at_take j (omega arith) k)

not_10 : (m : Manifest) → All (λ r. applies r m ≡ false) rules → applies refusal_10_size m ≡ false
not_10 m (all_one a (all_one b (all_one c (all_one d (all_one e r))))) = e

not_15 : (m : Manifest) → All (λ r. applies r m ≡ false) rules → applies refusal_15_path_or_id_twice m ≡ false
not_15 m (all_one a (all_one b (all_one c (all_one d (all_one e (all_one f (all_one g (all_one h (all_one i (all_one j r)))))))))) = j

module _ (m : Manifest) (accepted : refusal_5_or_later (one m) ≡ 0) where
  within_not : (r : Rule) → applies r m ≡ false → {i : ℕ} {c : Cell Entry} → At (entries m) i c → r.within m i c ≡ false
  unfolding applies
  within_not r e {i} {c} h =
      let z : 0 + i ≡ i = omega arith in
      sym (ap (λ (k : ℕ). r.within m k c) z) ∙ any_at_false (r.within m) 0 (halves (r.outside m) (any_at (r.within m) 0 (entries m)) e).1 h

  few_entries : length (entries m) ≤ 32
  unfolding applies refusal_10_size
  few_entries = ltb-false 32 (length (entries m)) (halves _ _ (halves _ _ (not_10 m (no_rule m accepted))).0).0

  path_long : {i : ℕ} {e : Entry} {t : Text} → At (entries m) i (one e) → path e ≡ one t → t ≡ [] → ⊥
  unfolding refusal_10_size holds
  path_long {e = e} {t = t} h q z =
      let a : holds (λ (u : Text). ltb (length u) 1 || ltb 255 (length u)) (path e) ≡ false = (halves _ _ (within_not refusal_10_size (not_10 m (no_rule m accepted)) h)).0 in
      let b : (ltb (length t) 1 || ltb 255 (length t)) ≡ false = sym (ap (holds (λ (u : Text). ltb (length u) 1 || ltb 255 (length u))) q) ∙ a in
      let d : 1 ≤ length t = ltb-false (length t) 1 (halves _ _ b).0 in
      let y : length t ≡ 0 = ap length z in
      omega arith

  path_once : {i j : ℕ} {e f : Entry} {t : Text} → At (entries m) i (one e) → At (entries m) j (one f) → path e ≡ one t → path f ≡ one t → i < j → ⊥
  unfolding refusal_15_path_or_id_twice holds
  path_once {i} {j} {e} {f} {t} h k q r l =
      let a : holds (λ (u : Text). any (holds (has_path u)) (take j (entries m))) (path f) ≡ false = (halves _ _ (within_not refusal_15_path_or_id_twice (not_15 m (no_rule m accepted)) k)).0 in
      let b : any (holds (has_path t)) (take j (entries m)) ≡ false = sym (ap (holds (λ (u : Text). any (holds (has_path u)) (take j (entries m)))) r) ∙ a in
      let d : has_path t e ≡ true = ap (holds (same t)) q ∙ same_refl t in
      true≢false (sym (any_true (holds (has_path t)) (at_take j l h) d) ∙ b)

  id_once : {i : ℕ} {e : Entry} → At (entries m) i (one e) → twice_in (ids e) ≡ false
  unfolding refusal_15_path_or_id_twice holds
  id_once {i} {e} h = (halves (holds (λ (u : Text). any (holds (has_path u)) (take i (entries m))) (path e)) (twice_in (ids e)) (within_not refusal_15_path_or_id_twice (not_15 m (no_rule m accepted)) h)).1

  tidy_listings : Tidy (meant (one m))
  unfolding meant
  tidy_listings = record {
    few = omega (arith, few_entries, listings_few m 0 (entries m));
    named = λ i l h z. let x = item m 0 (entries_sound m accepted) h in path_long x.at x.its_path z;
    once = λ i j l k h g z.
        let x = item m 0 (entries_sound m accepted) h in
        let y = item m 0 (entries_sound m accepted) g in
        apart i j (path_once x.at y.at x.its_path (y.its_path ∙ ap one (sym z))) (path_once y.at x.at (y.its_path ∙ ap one (sym z)) x.its_path);
    ids = λ i l h items q. let x = item m 0 (entries_sound m accepted) h in ids_once m x.its_entry (id_once x.at) (x.its_owns ∙ q);
  }

tidy_nothing : Tidy nothing_said
tidy_nothing = record { few = omega arith; named = λ i l h z. omega (arith, at_below h); once = λ i j l k h g z. absurd (omega (arith, at_below h)); ids = λ i l h items q. absurd (omega (arith, at_below h)) }

tidy_document : {s : Text} {t : Tree} → Untouched s t → refusal_of s ≡ 0 → Tidy (meaning_of s)
unfolding pick refusal refusal_5_or_later meaning meant
tidy_document {s} {t} u e = subst Tidy (sym (meaning_of_document u)) (go (root t) refl (sym (refusal_of_document u) ∙ e))
  where
    go : (c : Cell Manifest) → root t ≡ c → refusal_5_or_later c ≡ 0 → Tidy (pick (eqb (refusal_5_or_later (root t)) 0) (meant (root t)) nothing_said)
    go absent q h = absurd (omega arith)
    go wrong q h = absurd (omega arith)
    go (many i) q h = absurd (omega arith)
    go (one m) q h = rw (q, h) (tidy_listings m h)

-- AN ACCEPTED MANIFEST'S ENTRIES ARE IN ORDER
pub accepted_tidy : (s : Text) → refusal_of s ≡ 0 → Tidy (meaning_of s)
accepted_tidy [] e = subst Tidy (sym nothing_meant) tidy_nothing
accepted_tidy (b ∷ s) e = tidy_document (accepted_bytes (b ∷ s) (λ h. omega arith) e).untouched e

-- ---- what is said of a file

past_end : {A : Type 0} (l : List A) (i : ℕ) (d : A) → length l ≤ i → get_or l i d ≡ d
past_end [] i d h = refl
past_end (a ∷ l) zero d h = absurd (omega arith)
past_end (a ∷ l) (suc i) d h = past_end l i d (omega arith)

module _ {w : Meaning} (tidy : Tidy w) (v : Filed) where
  -- the search for its path
  search_is : First 32 (λ (k : Listed). same v.path k.path) w.listed 0 (entry_for w v.path)
  unfolding entry_for
  search_is = first_or_lem 32 (λ (k : Listed). same v.path k.path) w.listed 0

  -- by the entry that lists it
  pub entry_is : {l : Listed} → (x : Lists w v l) → entry_for w v.path ≡ x.number
  entry_is {l} x = go search_is
    where
      go : {n : ℕ} → First 32 (λ (k : Listed). same v.path k.path) w.listed 0 n → n ≡ x.number
      go (found {j} {a} h t) = let z : j ≡ x.number = tidy.once j x.number a l h x.entry (sym (x.path ∙ same_true _ _ t)) in omega arith
      go (none n) = absurd (n x.number l x.entry (ap (same v.path) x.path ∙ same_refl v.path))

  pub said_is : {l : Listed} → Lists w v l → said w v ≡ l
  unfolding said
  said_is x = ap (λ (n : ℕ). get_or w.listed n unlisted) (entry_is x) ∙ at_get_d x.entry unlisted

  -- or nothing is said
  pub speaks : Lists w v (said w v) ⊎ (said w v ≡ unlisted)
  unfolding said
  speaks = go refl search_is
    where
      go : {n : ℕ} → entry_for w v.path ≡ n → First 32 (λ (k : Listed). same v.path k.path) w.listed 0 n → Lists w v (said w v) ⊎ (said w v ≡ unlisted)
      go e (found {j} {a} h t) =
          let y : entry_for w v.path ≡ j = omega arith in
          let z : said w v ≡ a = ap (λ (n : ℕ). get_or w.listed n unlisted) y ∙ at_get_d h unlisted in
          inl (subst (Lists w v) (sym z) (record { number = j; entry = h; path = sym (same_true _ _ t) }))
      go e (none n) = inr (ap (λ (n : ℕ). get_or w.listed n unlisted) e ∙ past_end w.listed 32 unlisted tidy.few)

  -- the entry with the number that is found has the path
  pub found_lists : (l : Listed) → At w.listed (entry_for w v.path) l → l.path ≡ v.path
  found_lists l k = go refl search_is
    where
      go : {n : ℕ} → entry_for w v.path ≡ n → First 32 (λ (k : Listed). same v.path k.path) w.listed 0 n → l.path ≡ v.path
      go e (found {j} {a} h t) =
          let y : entry_for w v.path ≡ j = omega arith in
          ap (λ (x : Listed). x.path) (at_only (subst (λ (n : ℕ). At w.listed n l) y k) h) ∙ sym (same_true _ _ t)
      go e (none n) = absurd (omega (arith, at_below k, tidy.few))
