-- The machines of the sources are machines: with at most 32 machines each has a number below 33. Assumes nothing.
use Rattle.std.specs.Prelude.{◌≡◌, Bool, ℕ, zero, suc, ◌+◌, ◌≤◌, ◌<◌, eqb, ℤ, pos, get_or}
use Rattle.std.proofs.Math.Bool.{true, false}
use mathlib.Core.List.{List, [], ◌∷◌, ◌++◌, map}
use native.Mathlib.Omega.{arith}
use Rattle.std.proofs.Math.Decide.{dec_lt}
use Rattle.std.proofs.Math.ListN.{length, get_or-eq_default}
use Rattle.text.specs.Reading.{Text, pick}
use Rattle.numbers.specs.declared.Machine.{Machine}
use Rattle.manifest.specs.View.{one}
use Rattle.manifest.specs.Rows.{Manifest, Entry, Item, the, flat, first_or, is_absent, machine_of, id, item_name, split, its_items, entries}
use Rattle.manifest.specs.Rules.{same_id, base, called}
use Rattle.manifest.specs.Meaning.{nothing, whole_file, parts, Listed, Meaning, names_in, number_of, part, owns_of, listings, meant}
use Rattle.manifest.specs.Statements.{All, all_none, all_one}
use Rattle.manifest.proofs.laws.Accepted.{number_below}
use Rattle.index.specs.Index.{entries_in, entry_at, manifest_of}
use Rattle.records.specs.declared.Source.{Source}
use Rattle.meant.proofs.Theorems.{listing_at, listings_length}
use Rattle.merged.specs.Facts.{Filed, no_file, Parts, entry_for, unlisted, said, Given, silent, whole, named, undeclared, named_for, given_by, Facts, SourceFact, source_fact, facts_of}
use Rattle.std.proofs.Common.{ltb-false}
use Rattle.merged.specs.Refusals.{checks, first_of, refusal_32_path_not_in_sheet, refusal_33_clocks_on_a_container, refusal_34_id_not_declared, refusal_35_machine_on_several_sources, refusal_36_pinned_file_with_a_snapshot, refusal_37_too_many_machines}
use Rattle.merged.proofs.laws.Shape.{passed}
use Rattle.merged.specs.Machines.{by_id, unnamed, unnamed_machine, machine_count, machine_by, machines_of, machine_of as machineFor}

-- ---- lists, element by element

all_append : {A : Type 0} {P : A → Type 0} {l k : List A} → All P l → All P k → All P (l ++ k)
all_append all_none r = r
all_append (all_one p q) r = all_one p (all_append q r)

all_flat : {A B : Type 0} (P : B → Type 0) (f : A → List B) → ((a : A) → All P (f a)) → (l : List A) → All P (flat f l)
unfolding flat
all_flat P f h [] = all_none
all_flat P f h (a ∷ l) = all_append (h a) (all_flat P f h l)

-- a first place is among the places
first_below : {A : Type 0} (p : A → Bool) (l : List A) (i : ℕ) → first_or 0 p l i ≤ i + length l
unfolding first_or pick
first_below p [] i = omega arith
first_below p (a ∷ l) i = go (p a) (first_below p l (suc i))
  where
    go : (b : Bool) → first_or 0 p l (suc i) ≤ suc i + length l → pick b i (first_or 0 p l (suc i)) ≤ i + suc (length l)
    go true h = omega arith
    go false h = omega arith

-- ---- what is given

-- the machine that is given, if one is
unfoldable pub given_number : Given → ℕ
given_number silent = 0
given_number (whole m) = m.0
given_number (named m) = m.0
given_number undeclared = 0

named_below : (n id : ℕ) {l : List (ℤ × Machine)} → All (λ p. p.1.0 ≤ n) l → given_number (named_for id l) ≤ n
unfolding named_for given_number pick
named_below n id all_none = omega arith
named_below n id (all_one {a = p} {l = l} h r) = go (same_id (pos id) p.0) h (named_below n id r)
  where
    go : (b : Bool) → p.1.0 ≤ n → given_number (named_for id l) ≤ n → given_number (pick b (named p.1) (named_for id l)) ≤ n
    go true h k = h
    go false h k = k

none_below : (n z : ℕ) → given_number (given_by nothing z) ≤ n
unfolding given_by given_number
none_below n z = omega arith

module _ (m : Manifest) where
  abbrev Small : ℤ × Machine → Type 0
  Small p = p.1.0 ≤ length (names_in m)

  part_below : (v : Item) → All Small (part m v)
  unfolding part
  part_below v =
      all_flat Small (λ z. flat (λ t. (z, number_of (names_in m) (called t)) ∷ []) (the (item_name v)))
      (λ z. all_flat Small (λ t. (z, number_of (names_in m) (called t)) ∷ []) (λ t. all_one (number_below (names_in m) (called t)) all_none) (the (item_name v)))
      (the (id v))

  owns_below : (e : Entry) (z : ℕ) → given_number (given_by (owns_of m e) z) ≤ length (names_in m)
  unfolding owns_of given_by given_number pick
  owns_below e z = go (split e) (is_absent (machine_of e))
    where
      go : (b d : Bool) → given_number (given_by (pick b (parts (flat (part m) (its_items e))) (pick d nothing (whole_file (number_of (names_in m) (base e))))) z) ≤ length (names_in m)
      go true d = named_below (length (names_in m)) z (all_flat Small (part m) part_below (its_items e))
      go false true = omega arith
      go false false = number_below (names_in m) (base e)

module _ (s : Text) (ix : List ℕ) (p : Parts) where
  abbrev w : Meaning
  w = meant (one (manifest_of s ix))

  abbrev all : List Listed
  all = listings (manifest_of s ix) 0 (entries (manifest_of s ix))

  said_below : (f : Filed) (z : ℕ) → given_number (given_by (said w f).owns z) ≤ length w.names
  unfolding said meant
  said_below f z = go (dec_lt (entry_for w f.path) (length all))
    where
      go : Dec (entry_for w f.path < length all) → given_number (given_by (get_or all (entry_for w f.path) unlisted).owns z) ≤ length (names_in (manifest_of s ix))
      go (yes h) =
          let n : length all ≡ entries_in ix = listings_length s ix in
          rw (listing_at s ix {i = entry_for w f.path} (omega arith) unlisted) (owns_below (manifest_of s ix) (entry_at s ix (entry_for w f.path)) z)
      go (no h) = rw (get_or-eq_default all unlisted {n = entry_for w f.path} (omega arith)) (none_below (length (names_in (manifest_of s ix))) z)

  sources_below : (l : List Source) → All (λ x. given_number x.given ≤ length w.names) (map (source_fact w p) l)
  unfolding source_fact
  sources_below [] = all_none
  sources_below (x ∷ l) = all_one (said_below (get_or p.files x.file.0 no_file) x.id) (sources_below l)

-- ---- the machines

module _ (k : Facts) where
  machine_below : (x : SourceFact) → given_number x.given ≤ k.names → machineFor k x ≤ machine_count k
  unfolding machineFor machine_by machine_count unnamed_machine given_number pick
  machine_below x = go x.given
    where
      go : (g : Given) → given_number g ≤ k.names → machine_by k g x ≤ 1 + (k.names + length (unnamed k))
      go silent h = by (by_id k x)
        where
          by : (b : Bool) → pick b (first_or 0 (eqb x.id) (unnamed k) (1 + k.names)) 0 ≤ 1 + (k.names + length (unnamed k))
          by true = omega (arith, first_below (eqb x.id) (unnamed k) (1 + k.names))
          by false = omega arith
      go (whole m) h = omega arith
      go (named m) h = omega arith
      go undeclared h = omega arith

  each_below : {l : List SourceFact} → All (λ x. given_number x.given ≤ k.names) l → All (λ n. n ≤ machine_count k) (map (machineFor k) l)
  each_below all_none = all_none
  each_below (all_one {a = x} h r) = all_one (machine_below x h) (each_below r)

all_get_d : {n : ℕ} {l : List ℕ} → All (λ k. k ≤ n) l → (j : ℕ) → get_or l j 0 ≤ n
all_get_d all_none j = omega arith
all_get_d (all_one h r) zero = h
all_get_d (all_one h r) (suc j) = all_get_d r j

-- by what the tables mean no source's machine has a number above the machines'
pub machine_number : (s : Text) (ix : List ℕ) (p : Parts) (j : ℕ) → get_or (machines_of (facts_of (meant (one (manifest_of s ix))) p)) j 0 ≤ machine_count (facts_of (meant (one (manifest_of s ix))) p)
unfolding machines_of facts_of
machine_number s ix p j = all_get_d (each_below (facts_of (meant (one (manifest_of s ix))) p) (sources_below s ix p p.sources)) j

-- 37 leaves at most 32 machines
pub count_most : (k : Facts) → first_of checks k ≡ 0 → machine_count k ≤ 32
unfolding refusal_32_path_not_in_sheet refusal_33_clocks_on_a_container refusal_34_id_not_declared refusal_35_machine_on_several_sources refusal_36_pinned_file_with_a_snapshot refusal_37_too_many_machines
count_most k e =
    let after-32 = passed _ _ k (omega arith) e in
    let after-33 = passed _ _ k (omega arith) after-32.1 in
    let after-34 = passed _ _ k (omega arith) after-33.1 in
    let after-35 = passed _ _ k (omega arith) after-34.1 in
    let after-36 = passed _ _ k (omega arith) after-35.1 in
    let after-37 = passed _ _ k (omega arith) after-36.1 in
    ltb-false 32 _ after-37.0
