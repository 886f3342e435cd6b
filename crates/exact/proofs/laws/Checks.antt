-- Refusals 32 to 36, each by what it is of entries, files, sources and snapshots. Assumes nothing.
use Rattle.std.specs.Prelude.{◌≡◌, Bool, ◌&&◌, ◌⊎◌, List, [], ◌∷◌, map, ℤ}
use Rattle.std.proofs.Math.Path.{refl, sym, ap, subst}
use Rattle.std.proofs.Common.{◌∙◌, inl, inr}
use Rattle.std.proofs.Math.Bool.{true, false, not, true≢false}
use Prim.Native.Nat.{ℕ, zero, suc, ◌+◌, ◌≤◌, ◌<◌}
use native.Mathlib.Omega.{arith}
use Rattle.std.proofs.Math.Dec.{eqb, leb}
use Rattle.std.proofs.Math.ListN.{length, get_or}
use borrow.Author.Tests.{eqb-true, eqb-false, eq-eqb, ne_eqb, leb-true, le-leb, not-true}
use Rattle.text.specs.Reading.{pick}
use Rattle.numbers.specs.declared.Machine.{Machine}
use Rattle.manifest.specs.declared.Relation.{Relation}
use Rattle.manifest.specs.declared.Link.{Link}
use Rattle.manifest.specs.declared.Link.TheVariants.{Unrelated, Related}
use Rattle.manifest.specs.Rows.{any}
use Rattle.manifest.specs.Meaning.{Meaning, Listed, Owns, nothing, whole_file, parts}
use Rattle.manifest.specs.Statements.{At, here, further}
use Rattle.manifest.proofs.laws.Bools.{two}
use Rattle.manifest.proofs.laws.Lists.{any_true, at_below}
use Rattle.records.specs.declared.Source.{Source}
use Rattle.records.specs.declared.Snapshot.{Snapshot}
use Rattle.merged.specs.Facts.{Filed, no_file, Parts, entry_for, unlisted, said, tie_by, given_by, FileFact, SourceFact, no_source, file_fact, file_facts, source_fact, facts_of}
use Rattle.merged.specs.Machines.{sources_in}
use Rattle.merged.specs.Refusals.{listed_by, unused, has_clocks, is_undeclared, is_whole, is_pinned, refusal_32_path_not_in_sheet, refusal_33_clocks_on_a_container, refusal_34_id_not_declared, refusal_35_machine_on_several_sources, refusal_36_pinned_file_with_a_snapshot}
use Rattle.exact.specs.Words.{Lists, ListedFile, Applies, PathNotInSheet, ClocksOnContainer, IdNotDeclared, MachineOnSeveral, PinnedWithSnapshot}
use Rattle.exact.proofs.laws.Lists.{any_some, no_true, both, at_get_d, get_d_at, at_map, SourceOf, map_at}
use Rattle.exact.proofs.laws.Entries.{Tidy, entry_is, said_is, speaks, found_lists}
use Rattle.exact.proofs.laws.Sheets.{Sound}
use Rattle.std.proofs.Math.Decide.{dec_lt}
use Rattle.exact.proofs.laws.Said.{tied_so, so_tied, pinned_so, so_pinned, whole_so, so_whole, lacking_so, so_lacking}
use Rattle.exact.proofs.laws.Counts.{two_sources, sources_two}

-- a file of the sheet, as a fact; and back
module _ (w : Meaning) (p : Parts) where
  pub at_facts : (f : ℕ) {l : List Filed} {i : ℕ} {v : Filed} → At l i v → At (file_facts w p f l) i (file_fact w p (f + i) v)
  unfolding file_facts
  at_facts f (here {a = v} {l = l}) = let e : f ≡ f + 0 = omega arith in subst (λ (k : ℕ). At (file_fact w p f v ∷ file_facts w p (suc f) l) 0 (file_fact w p k v)) e here
  at_facts f (further {a = v} {b = u} {l = l} {i = i} h) =
      let e : suc f + i ≡ f + suc i = omega arith in
      subst (λ (k : ℕ). At (file_fact w p f u ∷ file_facts w p (suc f) l) (suc i) (file_fact w p k v)) e (further (at_facts (suc f) h))

  pub facts_at : (f : ℕ) (l : List Filed) {i : ℕ} {x : FileFact} → At (file_facts w p f l) i x → SourceOf (file_fact w p (f + i)) l i x
  unfolding file_facts
  facts_at f (v ∷ l) here = let e : f ≡ f + 0 = omega arith in record { element = v; at = here; is = ap (λ (k : ℕ). file_fact w p k v) e }
  facts_at f (v ∷ l) (further {i = i} h) =
      let r = facts_at (suc f) l h in
      let e : suc f + i ≡ f + suc i = omega arith in
      record { element = r.element; at = further r.at; is = r.is ∙ ap (λ (k : ℕ). file_fact w p k r.element) e }
  facts_at f [] h = elim h [ ]

  -- a test that holds of a file, and back
  pub file_some : (q : FileFact → Bool) → any q (facts_of w p).files ≡ true → (f : ℕ) × (v : Filed) × At p.files f v × (q (file_fact w p f v) ≡ true)
  unfolding facts_of
  file_some q e =
      let s = any_some q (file_facts w p 0 p.files) e in
      let r = facts_at 0 p.files s.at in
      let z : 0 + s.place ≡ s.place = omega arith in
      (s.place, r.element, r.at, ap q (ap (λ (k : ℕ). file_fact w p k r.element) (sym z) ∙ sym r.is) ∙ s.holds)

  pub some_file : (q : FileFact → Bool) {f : ℕ} {v : Filed} → At p.files f v → q (file_fact w p f v) ≡ true → any q (facts_of w p).files ≡ true
  unfolding facts_of
  some_file q {f} {v} h e = let z : 0 + f ≡ f = omega arith in any_true q (at_facts 0 h) (ap (λ (k : ℕ). q (file_fact w p k v)) z ∙ e)

-- the file of a source
abbrev pub file_of : Parts → Source → Filed
file_of p x = get_or p.files x.file.0 no_file

-- an entry that says something is one that lists the file
module _ {w : Meaning} (tidy : Tidy w) (v : Filed) where
  pub by_link : Lists w v (said w v) ⊎ (said w v ≡ unlisted) → {r : Relation} → (said w v).link ≡ Related r → Lists w v (said w v)
  by_link (inl x) k = x
  by_link (inr e) {r} k = let y : Unrelated ≡ Related r = sym (ap (λ (l : Listed). l.link) e) ∙ k in let z : ◌≡◌ {A = ℕ} 0 1 = cc in absurd (omega arith)

  by_whole : Lists w v (said w v) ⊎ (said w v ≡ unlisted) → {m : Machine} → (said w v).owns ≡ whole_file m → Lists w v (said w v)
  by_whole (inl x) k = x
  by_whole (inr e) {m} k = let y : nothing ≡ whole_file m = sym (ap (λ (l : Listed). l.owns) e) ∙ k in let z : ◌≡◌ {A = ℕ} 0 1 = cc in absurd (omega arith)

  by_parts : Lists w v (said w v) ⊎ (said w v ≡ unlisted) → {l : List (ℤ × Machine)} → (said w v).owns ≡ parts l → Lists w v (said w v)
  by_parts (inl x) k = x
  by_parts (inr e) {l} k = let y : nothing ≡ parts l = sym (ap (λ (l : Listed). l.owns) e) ∙ k in let z : ◌≡◌ {A = ℕ} 0 1 = cc in absurd (omega arith)

-- ---- 32

unused_so : (n : ℕ) (fs : List FileFact) → unused n fs ≡ true → (e : ℕ) × (e < n) × (any (listed_by e) fs ≡ false)
unfolding unused pick
unused_so zero fs h = absurd (true≢false (sym h))
unused_so (suc n) fs h = go (any (listed_by n) fs) refl h (unused_so n fs)
  where
    go : (b : Bool) → any (listed_by n) fs ≡ b → pick b (unused n fs) true ≡ true → (unused n fs ≡ true → (e : ℕ) × (e < n) × (any (listed_by e) fs ≡ false)) → (e : ℕ) × (e < suc n) × (any (listed_by e) fs ≡ false)
    go true q h ih = let (e, l, k) = ih h in (e, omega arith, k)
    go false q h ih = (n, omega arith, q)

so_unused : (n : ℕ) (fs : List FileFact) (e : ℕ) → e < n → any (listed_by e) fs ≡ false → unused n fs ≡ true
unfolding unused pick
so_unused zero fs e l h = absurd (omega arith)
so_unused (suc n) fs e l h = go (any (listed_by n) fs) refl (dec_lt e n) (λ k. so_unused n fs e k h)
  where
    go : (b : Bool) → any (listed_by n) fs ≡ b → Dec (e < n) → (e < n → unused n fs ≡ true) → pick b (unused n fs) true ≡ true
    go true q (yes k) ih = ih k
    go true q (no k) ih = let z : e ≡ n = omega arith in absurd (true≢false (sym q ∙ (ap (λ (i : ℕ). any (listed_by i) fs) (sym z) ∙ h)))
    go false q k ih = refl

files_length : (w : Meaning) (p : Parts) (f : ℕ) (l : List Filed) → length (file_facts w p f l) ≡ length l
unfolding file_facts
files_length w p f [] = refl
files_length w p f (v ∷ l) = ap suc (files_length w p (suc f) l)

module _ {w : Meaning} (tidy : Tidy w) (p : Parts) where
  pub applies_32 : Applies refusal_32_path_not_in_sheet w p → PathNotInSheet w p
  unfolding refusal_32_path_not_in_sheet facts_of file_fact
  applies_32 h =
      let (a, b) = two _ _ h in
      let n : eqb (length (file_facts w p 0 p.files)) 0 ≡ false = not-true _ a in
      let (e, l, k) = unused_so (length w.listed) (file_facts w p 0 p.files) b in
      record {
        has_file = omega (arith, positive (length p.files) (λ z. eqb-false _ _ n (files_length w p 0 p.files ∙ z)));
        number = e;
        entry = get_or w.listed e unlisted;
        listed = get_d_at w.listed e unlisted l;
        not_in_sheet = λ {f} {v} g q. true≢false (sym (some_file w p (listed_by e) g (eq-eqb _ _ (entry_is tidy v (record { number = e; entry = get_d_at w.listed e unlisted l; path = sym q })))) ∙ k);
      }
    where
      positive : (n : ℕ) → (n ≡ 0 → ⊥) → 1 ≤ n
      positive zero z = absurd (z refl)
      positive (suc n) z = omega arith

  pub is_32 : PathNotInSheet w p → Applies refusal_32_path_not_in_sheet w p
  unfolding refusal_32_path_not_in_sheet facts_of file_fact
  is_32 x = both some (so_unused (length w.listed) (file_facts w p 0 p.files) x.number (at_below x.listed) (no_true _ none))
    where
      some : not (eqb (length (file_facts w p 0 p.files)) 0) ≡ true
      some = ap not (ne_eqb _ _ (λ z. let y : length p.files ≡ 0 = sym (files_length w p 0 p.files) ∙ z in omega (arith, x.has_file)))

      none : any (listed_by x.number) (file_facts w p 0 p.files) ≡ true → ⊥
      none h =
          let (f, v, g, q) = file_some w p (listed_by x.number) h in
          let e : entry_for w v.path ≡ x.number = eqb-true _ _ q in
          x.not_in_sheet g (sym (found_lists tidy v x.entry (subst (λ (k : ℕ). At w.listed k x.entry) (sym e) x.listed)))

  -- ---- 33

  pub applies_33 : Applies refusal_33_clocks_on_a_container w p → ClocksOnContainer w p
  unfolding refusal_33_clocks_on_a_container file_fact
  applies_33 h =
      let (f, v, g, q) = file_some w p (λ x. x.container && has_clocks x.tie) h in
      let (a, b) = two _ _ q in
      let (r, k) = tied_so (said w v).link b in
      record { number = f; file = v; entry = said w v; listed = record { in_sheet = g; lists = by_link tidy v (speaks tidy v) k }; container = a; relation = r; clocks = k }

  pub is_33 : ClocksOnContainer w p → Applies refusal_33_clocks_on_a_container w p
  unfolding refusal_33_clocks_on_a_container file_fact
  is_33 x =
      let s : (said w x.file).link ≡ Related x.relation = ap (λ (l : Listed). l.link) (said_is tidy x.file x.listed.lists) ∙ x.clocks in
      some_file w p (λ k. k.container && has_clocks k.tie) x.listed.in_sheet (both x.container (ap (λ (k : Link). has_clocks (tie_by k)) s ∙ so_tied x.relation))

  -- ---- 34

  module _ (sound : Sound p) where
    its_file_at : {j : ℕ} {x : Source} → At p.sources j x → At p.files x.file.0 (file_of p x)
    its_file_at {j} {x} h = get_d_at p.files x.file.0 no_file (sound.files j x h)

    pub applies_34 : Applies refusal_34_id_not_declared w p → IdNotDeclared w p
    unfolding refusal_34_id_not_declared facts_of source_fact
    applies_34 h =
        let s = any_some (λ x. is_undeclared x.given) (map (source_fact w p) p.sources) h in
        let r = map_at (source_fact w p) p.sources s.at in
        let k = lacking_so (said w (file_of p r.element)).owns r.element.id (ap (λ (x : SourceFact). is_undeclared x.given) (sym r.is) ∙ s.holds) in
        record {
          number = s.place;
          source = r.element;
          in_sheet = r.at;
          file = file_of p r.element;
          entry = said w (file_of p r.element);
          listed = record { in_sheet = its_file_at r.at; lists = by_parts tidy (file_of p r.element) (speaks tidy (file_of p r.element)) k.is };
          items = k.items;
          machines = k.is;
          not_declared = λ {i} {m} g. k.none i m g;
        }

    -- what is said of a source's file is what its entry says
    pub said_owns : {f : ℕ} {v : Filed} {l : Listed} → ListedFile w p f v l → (x : Source) → x.file.0 ≡ f → (said w (file_of p x)).owns ≡ l.owns
    said_owns {f} {v} {l} y x e =
        ap (λ (u : Filed). (said w u).owns) (ap (λ (n : ℕ). get_or p.files n no_file) e ∙ at_get_d y.in_sheet no_file) ∙ ap (λ (k : Listed). k.owns) (said_is tidy v y.lists)

    pub is_34 : IdNotDeclared w p → Applies refusal_34_id_not_declared w p
    unfolding refusal_34_id_not_declared facts_of source_fact
    is_34 x =
        any_true (λ k. is_undeclared k.given) (at_map (source_fact w p) x.in_sheet)
        (ap (λ (o : Owns). is_undeclared (given_by o x.source.id)) (said_owns x.listed x.source refl ∙ x.machines) ∙ so_lacking x.items x.source.id (λ i m g. x.not_declared g))

    -- ---- 35

    pub applies_35 : Applies refusal_35_machine_on_several_sources w p → MachineOnSeveral w p
    unfolding refusal_35_machine_on_several_sources facts_of source_fact
    applies_35 h =
        let s = any_some (λ x. is_whole x.given && leb 2 (sources_in x.file (map (source_fact w p) p.sources))) (map (source_fact w p) p.sources) h in
        let r = map_at (source_fact w p) p.sources s.at in
        let (a, b) = two _ _ s.holds in
        let (m, k) = whole_so (said w (file_of p r.element)).owns r.element.id (ap (λ (x : SourceFact). is_whole x.given) (sym r.is) ∙ a) in
        let n : s.element.file ≡ r.element.file.0 = ap (λ (x : SourceFact). x.file) r.is in
        let t = two_sources s.element.file (map (source_fact w p) p.sources) (leb-true _ _ b) in
        let u = map_at (source_fact w p) p.sources t.one_at in
        let v = map_at (source_fact w p) p.sources t.other_at in
        record {
          number = r.element.file.0;
          file = file_of p r.element;
          entry = said w (file_of p r.element);
          listed = record { in_sheet = its_file_at r.at; lists = by_whole tidy (file_of p r.element) (speaks tidy (file_of p r.element)) k };
          name = m;
          machine = k;
          first = t.first;
          second = t.second;
          two = omega (arith, t.order);
          one_source = record { source = u.element; in_sheet = u.at; its_file = sym (ap (λ (x : SourceFact). x.file) u.is) ∙ (t.one_file ∙ n) };
          other_source = record { source = v.element; in_sheet = v.at; its_file = sym (ap (λ (x : SourceFact). x.file) v.is) ∙ (t.other_file ∙ n) };
        }

    pub is_35 : MachineOnSeveral w p → Applies refusal_35_machine_on_several_sources w p
    unfolding refusal_35_machine_on_several_sources facts_of source_fact
    is_35 x =
        let y = x.one_source in
        let z = x.other_source in
        any_true (λ k. is_whole k.given && leb 2 (sources_in k.file (map (source_fact w p) p.sources))) (at_map (source_fact w p) y.in_sheet)
        (both
        (ap (λ (o : Owns). is_whole (given_by o y.source.id)) (said_owns x.listed y.source y.its_file ∙ x.machine) ∙ so_whole x.name y.source.id)
        (le-leb 2 _ (sources_two y.source.file.0 x.two (at_map (source_fact w p) y.in_sheet) (at_map (source_fact w p) z.in_sheet) refl (z.its_file ∙ sym y.its_file))))

    -- ---- 36

    pub applies_36 : Applies refusal_36_pinned_file_with_a_snapshot w p → PinnedWithSnapshot w p
    unfolding refusal_36_pinned_file_with_a_snapshot file_fact
    applies_36 h =
        let (f, v, g, q) = file_some w p (λ x. is_pinned x.tie && x.recorded) h in
        let (a, b) = two _ _ q in
        let k = pinned_so (said w v).link a in
        let s = any_some (λ (n : Snapshot). eqb (get_or p.sources n.source no_source).file.0 f) p.snapshots b in
        record {
          number = f;
          file = v;
          entry = said w v;
          listed = record { in_sheet = g; lists = by_link tidy v (speaks tidy v) k.is };
          pins = k;
          place = s.place;
          snapshot = s.element;
          taken = s.at;
          by_source = record {
            source = get_or p.sources s.element.source no_source;
            in_sheet = get_d_at p.sources s.element.source no_source (sound.sources s.place s.element s.at);
            its_file = eqb-true _ _ s.holds;
          };
        }

  pub is_36 : PinnedWithSnapshot w p → Applies refusal_36_pinned_file_with_a_snapshot w p
  unfolding refusal_36_pinned_file_with_a_snapshot file_fact
  is_36 x =
      let y = x.by_source in
      let s : (said w x.file).link ≡ x.entry.link = ap (λ (l : Listed). l.link) (said_is tidy x.file x.listed.lists) in
      let g : (get_or p.sources x.snapshot.source no_source).file.0 ≡ x.number = ap (λ (k : Source). k.file.0) (at_get_d y.in_sheet no_source) ∙ y.its_file in
      some_file w p (λ k. is_pinned k.tie && k.recorded) x.listed.in_sheet
      (both
      (ap (λ (k : Link). is_pinned (tie_by k)) s ∙ so_pinned x.pins)
      (any_true (λ (n : Snapshot). eqb (get_or p.sources n.source no_source).file.0 x.number) x.taken (eq-eqb _ _ g)))
