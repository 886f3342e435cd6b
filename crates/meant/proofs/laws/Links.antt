-- The clocks that an entry relates: those that its members name in the tables are those of the meaning. Assumes nothing.
use Rattle.std.specs.Prelude.{◌≡◌, Bool, ◌||◌, List, [], ◌++◌, ltb, length, get_or}
use Rattle.std.proofs.Math.Path.{refl, sym, ap}
use Rattle.std.proofs.Common.{◌∙◌, arith, eq-eqb, ne_eqb, lt-ltb, le-ltb}
use Rattle.std.proofs.Math.Bool.{true, false}
use Prim.Native.Nat.{ℕ, ◌+◌, ◌-◌, ◌≤◌, ◌<◌}
use Rattle.std.proofs.Math.Decide.{dec_lt}
use Rattle.std.proofs.Math.Dec.{eqb}
use Rattle.text.specs.Reading.{Text, Out, done, bad, deep, pick}
use Rattle.text.specs.laws.Readers.{pick_true, pick_false}
use Rattle.text.specs.Strings.{string}
use Rattle.manifest.specs.declared.Cited.TheVariants.{Private, Domain}
use Rattle.manifest.specs.declared.Relation.{Relation}
use Rattle.manifest.specs.declared.Link.{Link}
use Rattle.manifest.specs.declared.Link.TheVariants.{Unrelated, Related}
use Rattle.manifest.specs.View.{Cell, absent, one}
use Rattle.manifest.specs.Rows.{Manifest, Entry, Clocks, SyncTo, sync_to, sync_file, sync_machine, own_machine, offset, the, any, flat, onto, holds, entries, its_clocks, its_syncs}
use Rattle.manifest.specs.Rules.{Rule, applies, rules, refusal_5_or_later, host, called, cited_or, base, clock_at, source, reference, domain, find, named_entry, not_declared, no_integer, too_far, refusal_21_machine_not_declared, refusal_22_offset_not_an_integer, refusal_23_offset_out_of_range}
use Rattle.manifest.specs.Meaning.{names_in, number_of, cited, offset_of, linked, relation}
use Rattle.manifest.specs.Statements.{All, all_one}
use Rattle.manifest.proofs.laws.Bools.{halves}
use Rattle.manifest.proofs.laws.Lists.{any_at_false}
use Rattle.manifest.proofs.laws.Accepted.{no_rule}
use Rattle.outline.specs.Outline.{domain_at, text_at as outlineText, text_in as outlineIn}
use Rattle.index.specs.Index.{text_in, text_at, col_of, entries_in, at, text_cell, offset_cell, sync_by, clocks_by, entry_by, entry_at, manifest_of, whose_at}
use Rattle.index.specs.Cited.{entry_of, cited_by, entry_cited}
use Rattle.finds.specs.Finds.{base_at, lookups, from_one}
use Rattle.index.proofs.Theorems.{find_is}
use Rattle.finds.specs.Theorems.{base_is}
use Rattle.named.specs.Named.{number_at}
use Rattle.finds.specs.laws.Lookups.{lookups_number, lookups_cited}
use Rattle.meant.specs.Meant.{cited_name, cited_at, offset_at, related_to, cites_by, link_of}
use Rattle.meant.proofs.laws.Listings.{entry_at_lem}
use Rattle.meant.proofs.laws.Declared.{base_cited}
use Rattle.meant.proofs.laws.Offsets.{offset_is}

-- ---- texts and machines at positions

-- both readings of the string at p
text_is : (s : Text) (p : ℕ) → outlineText s p ≡ text_at s p
unfolding outlineText text_at outlineIn text_in
text_is s p = go (string s p)
  where
    go : (o : Out Text) → outlineIn o ≡ text_in o
    go (done t j) = refl
    go (bad i) = refl
    go (deep i) = refl

pub domain_is : (s : Text) (p : ℕ) → domain_at s p ≡ domain (text_at s p)
unfolding domain_at
domain_is s p = ap domain (text_is s p)

-- the machine whose name stands at q, or else the one whose name stands at p
pub whose_or : (s : Text) (p q : ℕ) → whose_at s (pick (eqb q 0) p q) ≡ cited_or (text_cell s q) (whose_at s p)
unfolding whose_at cited_or at pick
whose_or s p q = go (eqb q 0) refl
  where
    go : (b : Bool) → eqb q 0 ≡ b → whose_at s (pick b p q) ≡ cited_or (pick b absent (one (text_at s q))) (whose_at s p)
    go true e = refl
    go false e = ap (λ (b : Bool). pick b host (called (text_at s q))) e

-- ---- what an entry's `clocks` say, one member after the other

module _ {A : Type 0} (p : ℕ) (a : A) where
  linked_at : (f : A → Cell Relation) {x : Link} → (eqb p 0 ≡ false → x ≡ linked (f a)) → pick (eqb p 0) Unrelated x ≡ linked (onto (at p (one a)) f)
  unfolding at onto linked pick
  linked_at f {x} = go (eqb p 0)
    where
      go : (b : Bool) → (b ≡ false → x ≡ linked (f a)) → pick b Unrelated x ≡ linked (onto (pick b absent (one a)) f)
      go true h = refl
      go false h = h refl

  linked_by : {B : Type 0} (g : A → Cell B) (f : B → Cell Relation) {x : Link} → (eqb p 0 ≡ false → x ≡ linked (onto (g a) f)) → pick (eqb p 0) Unrelated x ≡ linked (onto (onto (at p (one a)) g) f)
  unfolding at onto linked pick
  linked_by g f {x} = go (eqb p 0)
    where
      go : (b : Bool) → (b ≡ false → x ≡ linked (onto (g a) f)) → pick b Unrelated x ≡ linked (onto (onto (pick b absent (one a)) g) f)
      go true h = refl
      go false h = h refl

linked_if : {A : Type 0} (b : Bool) (a : A) (f : A → Cell Relation) {x : Link} → (b ≡ true → x ≡ linked (f a)) → pick b x Unrelated ≡ linked (onto (pick b (one a) absent) f)
unfolding onto linked pick
linked_if true a f h = h refl
linked_if false a f h = refl

-- the relation, one member after the other
module _ (m : Manifest) (i : ℕ) (e : Entry) where
  abbrev over_entry : Clocks → SyncTo → ℕ × Entry → Cell Relation
  over_entry c s p = one (record { from = cited (names_in m) (source i e c); to = cited (names_in m) (reference p s); offset = offset_of (offset c) })

  abbrev over_sync : Clocks → SyncTo → Cell Relation
  over_sync c s = onto (named_entry m (sync_file s)) (over_entry c s)

  abbrev over_clocks : Clocks → Cell Relation
  over_clocks c = onto (sync_to c) (over_sync c)

-- ---- 21, 22 and 23 do not apply

not_21 : (m : Manifest) → All (λ r. applies r m ≡ false) rules → applies refusal_21_machine_not_declared m ≡ false
not_21 m (all_one a (all_one b (all_one c (all_one d (all_one e (all_one f (all_one g (all_one h (all_one i (all_one j (all_one k (all_one l (all_one n (all_one o (all_one p (all_one q r)))))))))))))))) = q

not_22 : (m : Manifest) → All (λ r. applies r m ≡ false) rules → applies refusal_22_offset_not_an_integer m ≡ false
not_22 m (all_one a (all_one b (all_one c (all_one d (all_one e (all_one f (all_one g (all_one h (all_one i (all_one j (all_one k (all_one l (all_one n (all_one o (all_one p (all_one q (all_one t r))))))))))))))))) = t

not_23 : (m : Manifest) → All (λ r. applies r m ≡ false) rules → applies refusal_23_offset_out_of_range m ≡ false
not_23 m (all_one a (all_one b (all_one c (all_one d (all_one e (all_one f (all_one g (all_one h (all_one i (all_one j (all_one k (all_one l (all_one n (all_one o (all_one p (all_one q (all_one t (all_one u r)))))))))))))))))) = u

module _ (s : Text) (ix : List ℕ) {i : ℕ} (below : i < entries_in ix) where
  -- a test that no `offset_ns` meets
  module _ (p : _) (none-does : any (λ c. holds p (offset c)) (its_clocks (entry_at s ix i)) ≡ false) where
    offset_not : eqb (col_of ix i 4) 0 ≡ false → holds p (offset_cell s (col_of ix i 11)) ≡ false
    unfolding entry_at entry_by clocks_by at the any pick
    offset_not e =
        (halves (holds p (offset_cell s (col_of ix i 11))) false
        (sym (ap (λ (b : Bool). any (λ (c : Clocks). holds p (offset c)) (the (pick b absent (one (clocks_by s (col_of ix i)))))) e) ∙ none-does)).0

  module _ (accepted : refusal_5_or_later (one (manifest_of s ix)) ≡ 0) (names : List ℕ) (e : eqb (col_of ix i 4) 0 ≡ false) where
    within_not : (r : Rule) → applies r (manifest_of s ix) ≡ false → r.within (manifest_of s ix) (0 + i) (one (entry_at s ix i)) ≡ false
    unfolding applies
    within_not r f = any_at_false (r.within (manifest_of s ix)) 0 (halves (r.outside (manifest_of s ix)) _ f).1 (entry_at_lem s ix below)

    pub offset_told : offset_at s ix names (col_of ix i 11) ≡ offset_of (offset_cell s (col_of ix i 11))
    unfolding refusal_22_offset_not_an_integer refusal_23_offset_out_of_range holds
    offset_told =
        offset_is s ix names (col_of ix i 11)
        (offset_not no_integer (within_not refusal_22_offset_not_an_integer (not_22 (manifest_of s ix) (no_rule (manifest_of s ix) accepted))) e)
        (offset_not too_far (within_not refusal_23_offset_out_of_range (not_23 (manifest_of s ix) (no_rule (manifest_of s ix) accepted))) e)

-- so what a `machine` names is declared: in `clocks` by the entry itself, in `sync_to` by the entry that is cited
module _ (s : Text) (ix : List ℕ) {i : ℕ} (below : i < entries_in ix) (accepted : refusal_5_or_later (one (manifest_of s ix)) ≡ 0) where
  abbrev v : Entry
  v = entry_at s ix i

  abbrev strange : SyncTo → Bool
  strange y = holds (λ (p : ℕ × Entry). holds (not_declared p.1) (sync_machine y)) (named_entry (manifest_of s ix) (sync_file y))

  rule_21 : refusal_21_machine_not_declared.within (manifest_of s ix) (0 + i) (one v) ≡ false
  unfolding applies
  rule_21 =
      any_at_false (refusal_21_machine_not_declared.within (manifest_of s ix)) 0
      (halves (refusal_21_machine_not_declared.outside (manifest_of s ix)) _ (not_21 (manifest_of s ix) (no_rule (manifest_of s ix) accepted))).1
      (entry_at_lem s ix below)

  either_none : (any (λ c. holds (not_declared v) (own_machine c)) (its_clocks v) || any strange (its_syncs v)) ≡ false
  unfolding refusal_21_machine_not_declared holds
  either_none = rule_21

  module _ (clocked : eqb (col_of ix i 4) 0 ≡ false) where
    pub own_declared : holds (not_declared v) (text_cell s (col_of ix i 6)) ≡ false
    unfolding entry_at entry_by clocks_by at the any pick
    own_declared =
        (halves (holds (not_declared v) (text_cell s (col_of ix i 6))) false
        (sym (ap (λ (b : Bool). any (λ (c : Clocks). holds (not_declared v) (own_machine c)) (the (pick b absent (one (clocks_by s (col_of ix i)))))) clocked)
        ∙ (halves _ (any strange (its_syncs v)) either_none).0)).0

    module _ (synced : eqb (col_of ix i 7) 0 ≡ false) (filed : eqb (col_of ix i 8) 0 ≡ false) where
      abbrev its : ℕ
      its = entry_of (manifest_of s ix) (text_at s (col_of ix i 8))

      sync_none : strange (sync_by s (col_of ix i)) ≡ false
      unfolding entry_at entry_by clocks_by at the flat any pick
      sync_none =
          (halves (strange (sync_by s (col_of ix i))) false
          (sym (ap (λ (b : Bool). any strange (the (pick b absent (one (sync_by s (col_of ix i)))) ++ [])) synced)
          ∙ sym (ap (λ (b : Bool). any strange (flat (λ (c : Clocks). the (sync_to c)) (the (pick b absent (one (clocks_by s (col_of ix i))))))) clocked)
          ∙ (halves (any (λ c. holds (not_declared v) (own_machine c)) (its_clocks v)) _ either_none).1)).0

      pub its_declared : ltb its 32 ≡ true → holds (not_declared (entry_at s ix its)) (text_cell s (col_of ix i 9)) ≡ false
      unfolding sync_by at onto holds pick
      its_declared found =
          sym (ap (λ (b : Bool). holds (λ (p : ℕ × Entry). holds (not_declared p.1) (text_cell s (col_of ix i 9))) (pick {A = Cell (ℕ × Entry)} b (one (its, entry_at s ix its)) absent)) found)
          ∙ sym (ap (holds (λ (p : ℕ × Entry). holds (not_declared p.1) (text_cell s (col_of ix i 9)))) (find_is s ix (text_at s (col_of ix i 8))))
          ∙ sym (ap (λ (b : Bool). holds (λ (p : ℕ × Entry). holds (not_declared p.1) (text_cell s (col_of ix i 9))) (named_entry (manifest_of s ix) (pick b absent (one (text_at s (col_of ix i 8)))))) filed)
          ∙ sync_none

-- ---- the entry that is cited

-- by its number from 1 on
module _ {A : Type 0} (none : A) (r : ℕ → A) where
  pub cited_shape : (e : ℕ) → pick (eqb (from_one e) 0) none (pick (ltb 32 (from_one e)) none (r (from_one e - 1))) ≡ pick (ltb e 32) (r e) none
  unfolding from_one pick
  cited_shape e = go (dec_lt e 32)
    where
      by : ℕ → A
      by c = pick (eqb c 0) none (pick (ltb 32 c) none (r (c - 1)))

      go : Dec (e < 32) → by (pick (ltb e 32) (e + 1) 0) ≡ pick (ltb e 32) (r e) none
      go (yes h) =
          let z : e + 1 - 1 ≡ e = omega arith in
          ap by (pick_true (e + 1) 0 (lt-ltb e 32 h))
          ∙ (pick_false none _ (ne_eqb (e + 1) 0 (λ (q : e + 1 ≡ 0). omega arith))
          ∙ (pick_false none _ (le-ltb 32 (e + 1) (omega arith))
          ∙ (ap r z ∙ sym (pick_true (r e) none (lt-ltb e 32 h)))))
      go (no h) = let l : 32 ≤ e = omega arith in ap by (pick_false (e + 1) 0 (le-ltb e 32 l)) ∙ sym (pick_false (r e) none (le-ltb e 32 l))

  -- without a `file` none is
  pub cited_file : (b : Bool) (e : ℕ) → pick (ltb (pick b 32 e) 32) (r (pick b 32 e)) none ≡ pick b none (pick (ltb e 32) (r e) none)
  unfolding pick
  cited_file true e = refl
  cited_file false e = refl

-- there is no column of an entry from 32 on
no_column : (ix : List ℕ) {i : ℕ} → 32 ≤ i → (j : ℕ) → eqb (col_of ix i j) 0 ≡ true
unfolding col_of
no_column ix {i} h j = eq-eqb (col_of ix i j) 0 (pick_false _ 0 (le-ltb i 32 h))

-- the table's answer in terms of the text
pub link_cites : (s : Text) (ix : List ℕ) (i : ℕ)
    → link_of s ix (lookups s ix) i
    ≡ pick (eqb (col_of ix i 4) 0) Unrelated
    (pick (eqb (col_of ix i 7) 0) Unrelated
    (pick (eqb (col_of ix i 8) 0) Unrelated
    (pick (ltb (entry_of (manifest_of s ix) (text_at s (col_of ix i 8))) 32)
    (related_to s ix (lookups s ix) i (entry_of (manifest_of s ix) (text_at s (col_of ix i 8))))
    Unrelated)))
unfolding link_of cites_by entry_cited
link_cites s ix i = go (dec_lt i 32)
  where
    r : ℕ → Link
    r = related_to s ix (lookups s ix) i

    file : ℕ
    file = entry_of (manifest_of s ix) (text_at s (col_of ix i 8))

    go : Dec (i < 32)
        → pick (eqb (col_of ix i 4) 0) Unrelated (pick (eqb (col_of ix i 7) 0) Unrelated (pick (eqb (get_or (lookups s ix) (64 + i) 0) 0) Unrelated (pick (ltb 32 (get_or (lookups s ix) (64 + i) 0)) Unrelated (r (get_or (lookups s ix) (64 + i) 0 - 1)))))
        ≡ pick (eqb (col_of ix i 4) 0) Unrelated (pick (eqb (col_of ix i 7) 0) Unrelated (pick (eqb (col_of ix i 8) 0) Unrelated (pick (ltb file 32) (r file) Unrelated)))
    go (yes few) =
        ap (λ (l : Link). pick (eqb (col_of ix i 4) 0) Unrelated (pick (eqb (col_of ix i 7) 0) Unrelated l))
        (ap (λ (c : ℕ). pick (eqb c 0) Unrelated (pick (ltb 32 c) Unrelated (r (c - 1)))) (lookups_cited s ix i few)
        ∙ (cited_shape Unrelated r (cited_by s ix i) ∙ cited_file Unrelated r (eqb (col_of ix i 8) 0) file))
    go (no many) = let h : 32 ≤ i = omega arith in pick_true Unrelated _ (no_column ix h 4) ∙ sym (pick_true Unrelated _ (no_column ix h 4))

-- ---- the clocks

module _ (s : Text) (ix : List ℕ) (few : length (names_in (manifest_of s ix)) ≤ 32) where
  -- the machine that a `machine` at a position names, or else the base machine of the file of entry i
  -- (a machine that a file that is not split declares is its base machine)
  whose_named : (i machine : ℕ) → holds (not_declared (entry_at s ix i)) (text_cell s machine) ≡ false → whose_at s (cited_name s ix i machine) ≡ whose_at s (pick (eqb machine 0) (base_at s ix i) machine)
  unfolding cited_name pick
  whose_named i machine h = go (eqb (col_of ix i 3) 0) (eqb machine 0) refl refl
    where
      go : (b c : Bool) → eqb (col_of ix i 3) 0 ≡ b → eqb machine 0 ≡ c → whose_at s (pick b (base_at s ix i) (pick c (base_at s ix i) machine)) ≡ whose_at s (pick c (base_at s ix i) machine)
      go true true eb ec = refl
      go true false eb ec = base_cited s ix i eb machine ec h
      go false c eb ec = refl

  machine_told : (i machine : ℕ) → holds (not_declared (entry_at s ix i)) (text_cell s machine) ≡ false → number_at s (lookups s ix) (cited_name s ix i machine) ≡ number_of (names_in (manifest_of s ix)) (cited_or (text_cell s machine) (base (entry_at s ix i)))
  machine_told i machine h =
      lookups_number s ix (cited_name s ix i machine) few
      ∙ ap (number_of (names_in (manifest_of s ix))) (whose_named i machine h ∙ (whose_or s (base_at s ix i) machine ∙ ap (cited_or (text_cell s machine)) (sym (base_is s ix i))))

  pub cited_told : (i clock machine : ℕ) → holds (not_declared (entry_at s ix i)) (text_cell s machine) ≡ false
      → cited_at s ix (lookups s ix) i clock machine ≡ cited (names_in (manifest_of s ix)) (clock_at i (entry_at s ix i) (text_cell s clock) (text_cell s machine))
  unfolding cited_at cited clock_at at pick
  cited_told i clock machine h = go (eqb clock 0)
    where
      go : (b : Bool) → pick b (Private i) (Domain (domain_at s clock) (number_at s (lookups s ix) (cited_name s ix i machine)))
          ≡ cited (names_in (manifest_of s ix)) (clock_at i (entry_at s ix i) (pick b absent (one (text_at s clock))) (text_cell s machine))
      go true = refl
      go false = λ j. Domain (domain_is s clock j) (machine_told i machine h j)

  module _ (accepted : refusal_5_or_later (one (manifest_of s ix)) ≡ 0) {i : ℕ} (below : i < entries_in ix) where
    abbrev its_file : ℕ
    its_file = entry_of (manifest_of s ix) (text_at s (col_of ix i 8))

    related_told : eqb (col_of ix i 4) 0 ≡ false → eqb (col_of ix i 7) 0 ≡ false → eqb (col_of ix i 8) 0 ≡ false → ltb its_file 32 ≡ true
        → related_to s ix (lookups s ix) i its_file
        ≡ Related (record {
          from = cited (names_in (manifest_of s ix)) (source i (entry_at s ix i) (clocks_by s (col_of ix i)));
          to = cited (names_in (manifest_of s ix)) (reference (its_file, entry_at s ix its_file) (sync_by s (col_of ix i)));
          offset = offset_of (offset (clocks_by s (col_of ix i)));
        })
    unfolding related_to clocks_by sync_by
    related_told e e7 e8 found = λ j. Related (record {
      from = cited_told i (col_of ix i 5) (col_of ix i 6) (own_declared s ix below accepted e) j;
      to = cited_told its_file (col_of ix i 10) (col_of ix i 9) (its_declared s ix below accepted e e7 e8 found) j;
      offset = offset_told s ix below accepted (lookups s ix) e j;
    })

    pub link_is : link_of s ix (lookups s ix) i ≡ linked (relation (manifest_of s ix) i (entry_at s ix i))
    unfolding entry_at entry_by clocks_by sync_by linked
    link_is =
        link_cites s ix i
        ∙ linked_at (col_of ix i 4) (clocks_by s (col_of ix i)) (over_clocks m i e) (λ h.
        linked_at (col_of ix i 7) (sync_by s (col_of ix i)) (over_sync m i e c) (λ h7.
        linked_by (col_of ix i 8) (text_at s (col_of ix i 8)) (λ t. find t 0 (entries m)) (over_entry m i e c u) (λ h8.
        linked_if (ltb its_file 32) (its_file, entry_at s ix its_file) (over_entry m i e c u) (related_told h h7 h8)
        ∙ ap (λ (x : Cell (ℕ × Entry)). linked (onto x (over_entry m i e c u))) (sym (find_is s ix (text_at s (col_of ix i 8)))))))
      where
        m : Manifest
        m = manifest_of s ix

        e : Entry
        e = entry_at s ix i

        c : Clocks
        c = clocks_by s (col_of ix i)

        u : SyncTo
        u = sync_by s (col_of ix i)
