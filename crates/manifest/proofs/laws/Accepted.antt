-- What holds of an accepted manifest, since no rule applies to it. Assumes nothing.
use Rattle.std.proofs.Math.Path.{◌≡◌, refl, sym, ap}
use Rattle.std.proofs.Common.{subst, ◌∙◌, true≢false}
use Rattle.std.proofs.Math.Bool.{Bool, true, false}
use Rattle.std.specs.Prelude.{◌||◌, List, [], ◌∷◌, ◌++◌, length}
use Prim.Native.Nat.{ℕ, suc, ◌+◌, ◌-◌, ◌≤◌, ◌<◌}
use native.Mathlib.Omega.{arith}
use Rattle.text.specs.Reading.{Text}
use Rattle.grammar.specs.Tree.{same}
use Rattle.manifest.specs.Kinds.{array, object, manifest, entry, trace_time_fields, clocks, sync_to_fields}
use Rattle.manifest.specs.View.{Cell, absent, wrong, many, one}
use Rattle.manifest.specs.Rows.{Manifest, TraceTime, Entry, Clocks, SyncTo, trace_time, trace_clock, trace_file, trace_machine, clocks_of, own_clock, own_machine, sync_to, sync_file, sync_machine, sync_clock, the, every, onto, is_absent, holds, any, any_at, first_or, flat, entries, its_clocks, its_syncs, declared, cited_files, cited_clocks, offset}
use Rattle.manifest.specs.Rules.{Rule, applies, rules, refusal_5_or_later, twice, ill, no_clock, domain, no_entry, not_declared, find, named_entry, Whose, host, called, clock_at, source, reference, refusal_8_known_member_twice, refusal_9_wrong_type_or_absent, refusal_11_unknown_clock_name, refusal_19_file_names_no_entry, refusal_21_machine_not_declared, refusal_16_clocks_without_sync_to, refusal_18_sync_to_without_file}
use Rattle.manifest.specs.Meaning.{names_in, number_of, cited, text_or, offset_of, linked, relation, listing, listings, timeline, Listed}
use Rattle.manifest.specs.Statements.{At, here, further, All, all_none, all_one, Meets, left_out, stands, Sound, SoundRow, Found, Numbered, OfSix, ClockIn, of_entry, of_machine, LinkIn, unrelated, related, TraceIn, unset, set, RelatedBy}
use Rattle.manifest.proofs.laws.Bools.{halves, not_false}
use Rattle.manifest.proofs.laws.Lists.{any_false, any_append, any_true, any_at_false, at_below, Place, first_or_some, first_or_none}
use Rattle.manifest.proofs.laws.Members.{split_up}
use Rattle.manifest.proofs.laws.Sound.{sound_row}
use Rattle.manifest.proofs.laws.Order.{none_applies, rules_numbered}
use Rattle.manifest.proofs.laws.Cited.{same_refl, entry_found, domain_numbered, declared_named, name_placed}
use Rattle.manifest.proofs.laws.Views.{same_true}

-- a name among the names has a number of its own
pub named_numbered : (m : Manifest) (t : Text) → any (same t) (names_in m) ≡ true → Numbered m t
unfolding number_of
named_numbered m t e =
    let r : Place (same t) (names_in m) 0 = name_placed (names_in m) t e in
    let n : (number_of (names_in m) (called t)).0 ≡ suc (0 + r.place) = r.is in
    let b : r.place < length (names_in m) = at_below r.at in
    let z : r.place ≡ (number_of (names_in m) (called t)).0 - 1 = omega arith in
    record {
      above = omega arith;
      below = omega arith;
      its = subst (λ (k : ℕ). At (names_in m) k t) z (subst (λ (u : Text). At (names_in m) r.place u) (sym (same_true t r.element r.holds)) r.at);
    }

-- every machine's number is at most how many names there are
pub number_below : (names : List Text) (w : Whose) → (number_of names w).0 ≤ length names
unfolding number_of
number_below names host = omega arith
number_below names (called t) = go (any (same t) names) refl
  where
    go : (b : Bool) → any (same t) names ≡ b → first_or 0 (same t) names 1 ≤ length names
    go true e =
        let r : Place (same t) names 0 = first_or_some (same t) names 0 e in
        let n : first_or 0 (same t) names 1 ≡ suc (0 + r.place) = r.is in
        let b : r.place < length names = at_below r.at in
        omega arith
    go false e = let n : first_or 0 (same t) names 1 ≡ 0 = first_or_none (same t) names 1 e in omega arith

-- an entry that is found has a number below the count of entries
found_below : (m : Manifest) (t : Text) {p : ℕ × Entry} → find t 0 (entries m) ≡ one p → p.0 < length (entries m)
unfolding is_absent
found_below m t {p} e =
    let f : Found m t = entry_found m t (ap is_absent e) in
    let q : p.0 ≡ f.number = cc (e, f.found) in
    let b : f.number < length (entries m) = at_below f.listed in
    omega arith

-- no value of an entry's own clock, or of its reference clock, escapes a test of what it cites
module _ (p : Text → Bool) (e : Entry) {c : Clocks} (h : clocks_of e ≡ one c) where
  own_cited : {t : Text} → own_clock c ≡ one t → any p (cited_clocks e) ≡ false → p t ≡ false
  unfolding the flat any
  own_cited {t} q f =
      let a : any p (flat (λ (d : Clocks). the (own_clock d)) (the (clocks_of e))) ≡ false = (halves _ _ (sym (any_append p (flat (λ (d : Clocks). the (own_clock d)) (the (clocks_of e))) (flat (λ (s : SyncTo). the (sync_clock s)) (its_syncs e))) ∙ f)).0 in
      let b : any p (the (own_clock c) ++ []) ≡ false = sym (ap (λ (x : Cell Clocks). any p (flat (λ (d : Clocks). the (own_clock d)) (the x))) h) ∙ a in
      (halves (p t) false (sym (ap (λ (x : Cell Text). any p (the x ++ [])) q) ∙ b)).0

  reference_cited : {s : SyncTo} {t : Text} → sync_to c ≡ one s → sync_clock s ≡ one t → any p (cited_clocks e) ≡ false → p t ≡ false
  unfolding the flat any
  reference_cited {s} {t} g q f =
      let a : any p (flat (λ (r : SyncTo). the (sync_clock r)) (its_syncs e)) ≡ false = (halves (any p (flat (λ (d : Clocks). the (own_clock d)) (the (clocks_of e)))) _ (sym (any_append p (flat (λ (d : Clocks). the (own_clock d)) (the (clocks_of e))) (flat (λ (r : SyncTo). the (sync_clock r)) (its_syncs e))) ∙ f)).1 in
      let b : any p (flat (λ (r : SyncTo). the (sync_clock r)) (the (sync_to c) ++ [])) ≡ false = sym (ap (λ (x : Cell Clocks). any p (flat (λ (r : SyncTo). the (sync_clock r)) (flat (λ (d : Clocks). the (sync_to d)) (the x)))) h) ∙ a in
      let k : any p (the (sync_clock s) ++ []) ≡ false = sym (ap (λ (x : Cell SyncTo). any p (flat (λ (r : SyncTo). the (sync_clock r)) (the x ++ []))) g) ∙ b in
      (halves (p t) false (sym (ap (λ (x : Cell Text). any p (the x ++ [])) q) ∙ k)).0

-- a clock that is told by its name or is private
clock_in : (n : ℕ) (names : List Text) (i : ℕ) → i < n → (e : Entry) (c w : Cell Text) → ((t : Text) → c ≡ one t → OfSix (domain t)) → ClockIn n (length names) (cited names (clock_at i e c w))
unfolding cited clock_at
clock_in n names i l e absent w f = of_entry l
clock_in n names i l e wrong w f = of_entry l
clock_in n names i l e (many k) w f = of_entry l
clock_in n names i l e (one t) w f = of_machine (f t refl) (number_below names _)

-- what holds of all holds of each; and of the value that a cell holds
all_at : {A : Type 0} {P : A → Type 0} {l : List A} {i : ℕ} {a : A} → All P l → At l i a → P a
all_at (all_one p r) here = p
all_at (all_one p r) (further h) = all_at r h
all_at all_none h = elim h [ ]

inside : {A : Type 0} {P : A → Type 0} {r : Bool} {a : A} → Meets P r (one a) → P a
inside (stands p) = p

-- items that are entries are listed, each once
listings_length : (m : Manifest) (i : ℕ) {l : List (Cell Entry)} → All (λ c. Meets (λ w. SoundRow entry w) true c) l → length (listings m i l) ≡ length l
unfolding listings
listings_length m i all_none = refl
listings_length m i (all_one (stands s) r) = ap suc (listings_length m (suc i) r)

listings_all : (m : Manifest) (P : Listed → Type 0) (i : ℕ) (l : List (Cell Entry)) → ((j : ℕ) (e : Entry) → At l j (one e) → P (listing m (i + j) e)) → All P (listings m i l)
unfolding listings
listings_all m P i [] f = all_none
listings_all m P i (absent ∷ l) f = listings_all m P (suc i) l (λ j e h. let z : i + suc j ≡ suc i + j = omega arith in subst (λ (k : ℕ). P (listing m k e)) z (f (suc j) e (further h)))
listings_all m P i (wrong ∷ l) f = listings_all m P (suc i) l (λ j e h. let z : i + suc j ≡ suc i + j = omega arith in subst (λ (k : ℕ). P (listing m k e)) z (f (suc j) e (further h)))
listings_all m P i (many n ∷ l) f = listings_all m P (suc i) l (λ j e h. let z : i + suc j ≡ suc i + j = omega arith in subst (λ (k : ℕ). P (listing m k e)) z (f (suc j) e (further h)))
listings_all m P i (one v ∷ l) f =
    all_one (let z : i + 0 ≡ i = omega arith in subst (λ (k : ℕ). P (listing m k v)) z (f 0 v here))
    (listings_all m P (suc i) l (λ j e h. let z : i + suc j ≡ suc i + j = omega arith in subst (λ (k : ℕ). P (listing m k e)) z (f (suc j) e (further h))))

module _ (m : Manifest) (accepted : refusal_5_or_later (one m) ≡ 0) where
  pub no_rule : All (λ r. applies r m ≡ false) rules
  unfolding refusal_5_or_later
  no_rule = none_applies rules m rules_numbered accepted

  -- single rules
  not_8 : All (λ r. applies r m ≡ false) rules → applies refusal_8_known_member_twice m ≡ false
  not_8 (all_one a (all_one b (all_one c r))) = c

  not_9 : All (λ r. applies r m ≡ false) rules → applies refusal_9_wrong_type_or_absent m ≡ false
  not_9 (all_one a (all_one b (all_one c (all_one d r)))) = d

  not_11 : All (λ r. applies r m ≡ false) rules → applies refusal_11_unknown_clock_name m ≡ false
  not_11 (all_one a (all_one b (all_one c (all_one d (all_one e (all_one f r)))))) = f

  not_19 : All (λ r. applies r m ≡ false) rules → applies refusal_19_file_names_no_entry m ≡ false
  not_19 (all_one a (all_one b (all_one c (all_one d (all_one e (all_one f (all_one g (all_one h (all_one i (all_one j (all_one k (all_one l (all_one n (all_one o r)))))))))))))) = o

  not_21 : All (λ r. applies r m ≡ false) rules → applies refusal_21_machine_not_declared m ≡ false
  not_21 (all_one a (all_one b (all_one c (all_one d (all_one e (all_one f (all_one g (all_one h (all_one i (all_one j (all_one k (all_one l (all_one n (all_one o (all_one p (all_one q r)))))))))))))))) = q

  -- a rule that does not apply does so neither outside nor in an entry
  outside_not : (r : Rule) → applies r m ≡ false → r.outside m ≡ false
  unfolding applies
  outside_not r e = (halves (r.outside m) (any_at (r.within m) 0 (entries m)) e).0

  within_not : (r : Rule) → applies r m ≡ false → {i : ℕ} {c : Cell Entry} → At (entries m) i c → r.within m i c ≡ false
  unfolding applies
  within_not r e {i} {c} h =
      let z : 0 + i ≡ i = omega arith in
      sym (ap (λ (k : ℕ). r.within m k c) z) ∙ any_at_false (r.within m) 0 (halves (r.outside m) (any_at (r.within m) 0 (entries m)) e).1 h

  pub members_sound : SoundRow manifest m
  unfolding applies refusal_8_known_member_twice refusal_9_wrong_type_or_absent
  members_sound = sound_row manifest m (split_up twice m ∙ not_8 no_rule) (split_up ill m ∙ not_9 no_rule)

  module _ {i : ℕ} {e : Entry} (h : At (entries m) i (one e)) where
    pub file_found : {j : ℕ} {t : Text} → At (cited_files e) j t → Found m t
    unfolding refusal_19_file_names_no_entry holds
    file_found {t = t} a = entry_found m t (any_false (no_entry m) (within_not refusal_19_file_names_no_entry (not_19 no_rule) h) a)

    pub clock_numbered : {j : ℕ} {t : Text} → At (cited_clocks e) j t → OfSix (domain t)
    unfolding refusal_11_unknown_clock_name holds
    clock_numbered {t = t} a =
        let (x, y) = domain_numbered t (any_false no_clock (within_not refusal_11_unknown_clock_name (not_11 no_rule) h) a) in
        record { above = x; below = y }

  module _ {v : TraceTime} (h : trace_time m ≡ one v) where
    pub trace_file_found : {t : Text} → trace_file v ≡ one t → Found m t
    unfolding refusal_19_file_names_no_entry holds
    trace_file_found {t} q =
        entry_found m t (sym (ap (holds (no_entry m)) q) ∙ (sym (ap (holds (λ (w : TraceTime). holds (no_entry m) (trace_file w))) h) ∙ outside_not refusal_19_file_names_no_entry (not_19 no_rule)))

    pub trace_clock_numbered : {t : Text} → trace_clock v ≡ one t → OfSix (domain t)
    unfolding refusal_11_unknown_clock_name holds
    trace_clock_numbered {t} q =
        let (x, y) = domain_numbered t (sym (ap (holds no_clock) q) ∙ (sym (ap (holds (λ (w : TraceTime). holds no_clock (trace_clock w))) h) ∙ outside_not refusal_11_unknown_clock_name (not_11 no_rule))) in
        record { above = x; below = y }

  -- ---- machines

  module _ {i : ℕ} {e : Entry} (h : At (entries m) i (one e)) where
    pub declared_numbered : {j : ℕ} {t : Text} → At (declared e) j t → Numbered m t
    declared_numbered {t = t} a = named_numbered m t (declared_named m t h (any_true (same t) a (same_refl t)))

    undeclared_not : any (λ c. holds (not_declared e) (own_machine c)) (its_clocks e) || any (λ s. holds (λ p. holds (not_declared p.1) (sync_machine s)) (named_entry m (sync_file s))) (its_syncs e) ≡ false
    unfolding refusal_21_machine_not_declared holds
    undeclared_not = within_not refusal_21_machine_not_declared (not_21 no_rule) h

    module _ {c : Clocks} (q : clocks_of e ≡ one c) where
      pub own_machine_numbered : {t : Text} → own_machine c ≡ one t → Numbered m t
      unfolding the any holds
      own_machine_numbered {t} w =
          let a : any (λ (d : Clocks). holds (not_declared e) (own_machine d)) (its_clocks e) ≡ false = (halves _ _ undeclared_not).0 in
          let b : holds (not_declared e) (own_machine c) ≡ false = (halves _ _ (sym (ap (λ (x : Cell Clocks). any (λ (d : Clocks). holds (not_declared e) (own_machine d)) (the x)) q) ∙ a)).0 in
          named_numbered m t (declared_named m t h (not_false _ (sym (ap (holds (not_declared e)) w) ∙ b)))

      pub sync_machine_numbered : {s : SyncTo} {f t : Text} → sync_to c ≡ one s → sync_file s ≡ one f → sync_machine s ≡ one t → Found m f → Numbered m t
      unfolding the flat any holds onto
      sync_machine_numbered {s} {f} {t} g k w r =
          let P : SyncTo → Bool = λ u. holds (λ (p : ℕ × Entry). holds (not_declared p.1) (sync_machine u)) (named_entry m (sync_file u)) in
          let a : any P (its_syncs e) ≡ false = (halves (any (λ (d : Clocks). holds (not_declared e) (own_machine d)) (its_clocks e)) _ undeclared_not).1 in
          let b : any P (the (sync_to c) ++ []) ≡ false = sym (ap (λ (x : Cell Clocks). any P (flat (λ (d : Clocks). the (sync_to d)) (the x))) q) ∙ a in
          let d : P s ≡ false = (halves _ _ (sym (ap (λ (x : Cell SyncTo). any P (the x ++ [])) g) ∙ b)).0 in
          let v : holds (not_declared r.entry) (sync_machine s) ≡ false = sym (ap (holds (λ (p : ℕ × Entry). holds (not_declared p.1) (sync_machine s))) (ap (named_entry m) k ∙ r.found)) ∙ d in
          named_numbered m t (declared_named m t r.listed (not_false _ (sym (ap (holds (not_declared r.entry)) w) ∙ v)))

  pub trace_machine_numbered : {v : TraceTime} {f t : Text} → trace_time m ≡ one v → trace_file v ≡ one f → trace_machine v ≡ one t → Found m f → Numbered m t
  unfolding refusal_21_machine_not_declared holds onto
  trace_machine_numbered {v} {f} {t} q k w r =
      let P : TraceTime → Bool = λ u. holds (λ (p : ℕ × Entry). holds (not_declared p.1) (trace_machine u)) (named_entry m (trace_file u)) in
      let d : P v ≡ false = sym (ap (holds P) q) ∙ outside_not refusal_21_machine_not_declared (not_21 no_rule) in
      let z : holds (not_declared r.entry) (trace_machine v) ≡ false = sym (ap (holds (λ (p : ℕ × Entry). holds (not_declared p.1) (trace_machine v))) (ap (named_entry m) k ∙ r.found)) ∙ d in
      named_numbered m t (declared_named m t r.listed (not_false _ (sym (ap (holds (not_declared r.entry)) w) ∙ z)))

  -- ---- the clocks of the meaning

  clock_names_known : {i : ℕ} {e : Entry} → At (entries m) i (one e) → any no_clock (cited_clocks e) ≡ false
  unfolding refusal_11_unknown_clock_name holds
  clock_names_known h = within_not refusal_11_unknown_clock_name (not_11 no_rule) h

  six : (t : Text) → no_clock t ≡ false → OfSix (domain t)
  six t e = let (x, y) = domain_numbered t e in record { above = x; below = y }

  pub link_in : (i : ℕ) (e : Entry) → At (entries m) i (one e) → LinkIn (length (entries m)) (length (names_in m)) (linked (relation m i e))
  unfolding linked onto
  link_in i e h = by_clocks (clocks_of e) refl
    where
      by_entry : {c : Clocks} {s : SyncTo} → clocks_of e ≡ one c → sync_to c ≡ one s → (f : Cell Text) → sync_file s ≡ f → (x : Cell (ℕ × Entry)) → named_entry m f ≡ x
          → LinkIn (length (entries m)) (length (names_in m)) (linked (onto x (λ p. one (record { from = cited (names_in m) (source i e c); to = cited (names_in m) (reference p s); offset = offset_of c.1.1.1.0 }))))
      by_entry q g f k absent z = unrelated
      by_entry q g f k wrong z = unrelated
      by_entry q g f k (many n) z = unrelated
      by_entry {c} {s} q g (one t) k (one p) z = related
          (clock_in (length (entries m)) (names_in m) i (at_below h) e (own_clock c) (own_machine c) (λ u w. six u (own_cited no_clock e q w (clock_names_known h))))
          (clock_in (length (entries m)) (names_in m) p.0 (found_below m t z) p.1 (sync_clock s) (sync_machine s) (λ u w. six u (reference_cited no_clock e q g w (clock_names_known h))))
      by_entry q g absent k (one p) z = let y : ◌≡◌ {A = ℕ} 0 1 = cc in absurd (omega arith)
      by_entry q g wrong k (one p) z = let y : ◌≡◌ {A = ℕ} 0 1 = cc in absurd (omega arith)
      by_entry q g (many n) k (one p) z = let y : ◌≡◌ {A = ℕ} 0 1 = cc in absurd (omega arith)

      by_sync : {c : Clocks} → clocks_of e ≡ one c → (x : Cell SyncTo) → sync_to c ≡ x
          → LinkIn (length (entries m)) (length (names_in m)) (linked (onto x (λ s. onto (named_entry m (sync_file s)) (λ p. one (record { from = cited (names_in m) (source i e c); to = cited (names_in m) (reference p s); offset = offset_of c.1.1.1.0 })))))
      by_sync q absent g = unrelated
      by_sync q wrong g = unrelated
      by_sync q (many n) g = unrelated
      by_sync q (one s) g = by_entry q g (sync_file s) refl (named_entry m (sync_file s)) refl

      by_clocks : (x : Cell Clocks) → clocks_of e ≡ x
          → LinkIn (length (entries m)) (length (names_in m)) (linked (onto x (λ c. onto (sync_to c) (λ s. onto (named_entry m (sync_file s)) (λ p. one (record { from = cited (names_in m) (source i e c); to = cited (names_in m) (reference p s); offset = offset_of c.1.1.1.0 }))))))
      by_clocks absent q = unrelated
      by_clocks wrong q = unrelated
      by_clocks (many n) q = unrelated
      by_clocks (one c) q = by_sync q (sync_to c) refl

  files_sound : {r : Bool} {c : Cell (List (Cell Entry))} → Meets (λ v. Sound (array (object entry)) v) r c → All (λ d. Meets (λ w. SoundRow entry w) true d) (every c)
  unfolding every
  files_sound left_out = all_none
  files_sound (stands s) = s

  -- the items of `files` are entries, each known as its kind asks
  pub entries_sound : All (λ c. Meets (λ w. SoundRow entry w) true c) (entries m)
  entries_sound = files_sound members_sound.1.1.0

  pub links_in : All (λ (f : Listed). LinkIn (length (listings m 0 (entries m))) (length (names_in m)) f.link) (listings m 0 (entries m))
  links_in =
      listings_all m (λ (f : Listed). LinkIn (length (listings m 0 (entries m))) (length (names_in m)) f.link) 0 (entries m)
      (λ j e h. let z : j ≡ 0 + j = omega arith in
      subst (λ (k : ℕ). LinkIn (length (listings m 0 (entries m))) (length (names_in m)) (linked (relation m k e))) z
      (subst (λ (n : ℕ). LinkIn n (length (names_in m)) (linked (relation m j e))) (sym (listings_length m 0 entries_sound)) (link_in j e h)))

  pub trace_in : TraceIn (length (names_in m)) (timeline m (trace_time m))
  unfolding text_or timeline
  trace_in = by_trace (trace_time m) refl members_sound.1.0
    where
      by_clock : {v : TraceTime} → trace_time m ≡ one v → (c : Cell Text) → trace_clock v ≡ c → Meets (λ (t : Text). Unit {0}) true c → OfSix (domain (text_or c))
      by_clock q (one t) k (stands u) = trace_clock_numbered q k
      by_clock q absent k s = elim s [ ]
      by_clock q wrong k s = elim s [ ]
      by_clock q (many _) k s = elim s [ ]

      by_trace : (x : Cell TraceTime) → trace_time m ≡ x → Meets (λ v. SoundRow trace_time_fields v) false x → TraceIn (length (names_in m)) (timeline m x)
      by_trace absent q s = unset
      by_trace (one v) q (stands s) = set (by_clock q (trace_clock v) refl s.0) (number_below (names_in m) _)
      by_trace wrong q s = elim s [ ]
      by_trace (many _) q s = elim s [ ]

  -- ---- an entry with `clocks` is related

  not_16 : All (λ r. applies r m ≡ false) rules → applies refusal_16_clocks_without_sync_to m ≡ false
  not_16 (all_one a (all_one b (all_one c (all_one d (all_one e (all_one f (all_one g (all_one h (all_one i (all_one j (all_one k r))))))))))) = k

  not_18 : All (λ r. applies r m ≡ false) rules → applies refusal_18_sync_to_without_file m ≡ false
  not_18 (all_one a (all_one b (all_one c (all_one d (all_one e (all_one f (all_one g (all_one h (all_one i (all_one j (all_one k (all_one l (all_one n r))))))))))))) = n

  module _ {i : ℕ} {e : Entry} (h : At (entries m) i (one e)) {c : Clocks} (q : clocks_of e ≡ one c) where
    -- the `clocks` are as their kind asks
    clocks_sound : SoundRow clocks c
    clocks_sound = inside (subst (λ (x : Cell Clocks). Meets (λ w. SoundRow clocks w) false x) q (inside (all_at entries_sound h)).1.1.1.0)

    has_sync : is_absent (sync_to c) ≡ false
    unfolding refusal_16_clocks_without_sync_to holds the any
    has_sync = (halves (is_absent (sync_to c)) false (sym (ap (λ (x : Cell Clocks). any (λ (d : Clocks). is_absent (sync_to d)) (the x)) q) ∙ within_not refusal_16_clocks_without_sync_to (not_16 no_rule) h)).0

    -- what no `sync_to` of an entry does
    in_sync : (p : SyncTo → Bool) {s : SyncTo} → sync_to c ≡ one s → any p (its_syncs e) ≡ false → p s ≡ false
    unfolding the flat any
    in_sync p {s} g f =
        let b : any p (the (sync_to c) ++ []) ≡ false = sym (ap (λ (x : Cell Clocks). any p (flat (λ (d : Clocks). the (sync_to d)) (the x))) q) ∙ f in
        (halves (p s) false (sym (ap (λ (x : Cell SyncTo). any p (the x ++ [])) g) ∙ b)).0

    has_file : {s : SyncTo} → sync_to c ≡ one s → is_absent (sync_file s) ≡ false
    unfolding refusal_18_sync_to_without_file holds
    has_file g = in_sync (λ (s : SyncTo). is_absent (sync_file s)) g (within_not refusal_18_sync_to_without_file (not_18 no_rule) h)

    names_entry : {s : SyncTo} {f : Text} → sync_to c ≡ one s → sync_file s ≡ one f → Found m f
    unfolding refusal_19_file_names_no_entry holds the flat any
    names_entry {s} {f} g k =
        let a : any (no_entry m) (flat (λ (r : SyncTo). the (sync_file r)) (its_syncs e)) ≡ false = within_not refusal_19_file_names_no_entry (not_19 no_rule) h in
        let b : any (no_entry m) (flat (λ (r : SyncTo). the (sync_file r)) (the (sync_to c) ++ [])) ≡ false = sym (ap (λ (x : Cell Clocks). any (no_entry m) (flat (λ (r : SyncTo). the (sync_file r)) (flat (λ (d : Clocks). the (sync_to d)) (the x)))) q) ∙ a in
        let d : any (no_entry m) (the (sync_file s) ++ []) ≡ false = sym (ap (λ (x : Cell SyncTo). any (no_entry m) (flat (λ (r : SyncTo). the (sync_file r)) (the x ++ []))) g) ∙ b in
        entry_found m f (halves (no_entry m f) false (sym (ap (λ (x : Cell Text). any (no_entry m) (the x ++ [])) k) ∙ d)).0

    related_by : {s : SyncTo} {f : Text} → sync_to c ≡ one s → sync_file s ≡ one f → Found m f → RelatedBy m i e c
    unfolding linked onto
    related_by {s} {f} g k r = record {
      sync = s;
      file = f;
      syncs = g;
      names = k;
      found = r;
      link =
          ap (λ (x : Cell Clocks). linked (onto x (λ d. onto (sync_to d) (λ u. onto (named_entry m (sync_file u)) (λ p. one (record { from = cited (names_in m) (source i e d); to = cited (names_in m) (reference p u); offset = offset_of (offset d) })))))) q
          ∙ (ap (λ (x : Cell SyncTo). linked (onto x (λ u. onto (named_entry m (sync_file u)) (λ p. one (record { from = cited (names_in m) (source i e c); to = cited (names_in m) (reference p u); offset = offset_of (offset c) }))))) g
          ∙ ap (λ (x : Cell (ℕ × Entry)). linked (onto x (λ p. one (record { from = cited (names_in m) (source i e c); to = cited (names_in m) (reference p s); offset = offset_of (offset c) })))) (ap (named_entry m) k ∙ r.found));
    }

    pub clocks_related : RelatedBy m i e c
    unfolding is_absent
    clocks_related = by_sync (sync_to c) refl clocks_sound.1.1.0 has_sync
      where
        by_file : {s : SyncTo} → sync_to c ≡ one s → (x : Cell Text) → sync_file s ≡ x → Meets (λ (t : Text). Unit {0}) false x → is_absent x ≡ false → RelatedBy m i e c
        by_file g absent k v a = absurd (true≢false a)
        by_file g (one f) k (stands u) a = related_by g k (names_entry g k)
        by_file g wrong k v a = elim v [ ]
        by_file g (many _) k v a = elim v [ ]

        by_sync : (x : Cell SyncTo) → sync_to c ≡ x → Meets (λ w. SoundRow sync_to_fields w) false x → is_absent x ≡ false → RelatedBy m i e c
        by_sync absent g v a = absurd (true≢false a)
        by_sync (one s) g (stands v) a = by_file g (sync_file s) refl v.0 (has_file g)
        by_sync wrong g v a = elim v [ ]
        by_sync (many _) g v a = elim v [ ]
