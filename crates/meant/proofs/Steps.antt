-- The definitions in the terms that the code meets: a premise for each thing that was found, in the code's order. Assumes nothing.
use mathlib.Core.Path.{◌≡◌, refl, sym, ap, ◌∙◌}
use mathlib.Core.Bool.{Bool, true, false}
use mathlib.Core.List.{List}
use Prim.Native.Nat.{ℕ, ◌+◌, ◌*◌, ◌-◌, ◌≤◌, ◌<◌}
use lib.Dec.{eqb, ltb}
use lib.IntN.{ℤ, pos}
use lib.ListN.{get_or}
use mir.Syntax.{w64}
use mir.Val.{SFits, to_z, of_z}
use mir.Facts.{to_z-of_z}
use borrow.Author.Tests.{eq-eqb, ne_eqb, lt-ltb, le-ltb, ltb-true}
use Rattle.text.specs.Reading.{Text, pick}
use Rattle.text.specs.laws.Readers.{pick_true, pick_false}
use Rattle.values.specs.Integer.{integer_at}
use Rattle.values.specs.declared.Integer.{Integer}
use Rattle.values.specs.declared.Integer.TheVariants.{In}
use Rattle.numbers.specs.declared.Machine.{Machine}
use Rattle.manifest.specs.declared.Cited.{Cited}
use Rattle.manifest.specs.declared.Cited.TheVariants.{Private, Domain}
use Rattle.manifest.specs.declared.Link.{Link}
use Rattle.manifest.specs.declared.Link.TheVariants.{Unrelated, Related}
use Rattle.manifest.specs.declared.Timeline.TheVariants.{Unset, Set}
use Rattle.outline.specs.Outline.{domain_at}
use Rattle.index.specs.Index.{col_of}
use Rattle.finds.specs.Finds.{name_for, base_at}
use Rattle.named.specs.Named.{number_at}
use Rattle.meant.specs.declared.Owned.TheVariants.{Nobody, Whole, Split}
use Rattle.meant.specs.declared.Part.TheVariants.{Undeclared, Of}
use Rattle.meant.specs.Meant.{offset_in, base_of, owned_of, part_of, cited_name, cited_at, offset_at, related_to, cites_by, trace_cites, link_of, tied_by, trace_machine_at, timeline_of}

-- a number that was found is 0, or is not
zero : {a b : ℕ} → a ≡ b → a ≡ 0 → eqb b 0 ≡ true
zero {a} {b} e z = eq-eqb b 0 (sym e ∙ z)

some : {a b : ℕ} → a ≡ b → (a ≡ 0 → ⊥) → eqb b 0 ≡ false
some {a} {b} e n = ne_eqb b 0 (λ z. n (e ∙ z))

-- a column of no entry is 0
pub col_below : (ix : List ℕ) (i j : ℕ) {a : ℕ} → a ≡ col_of ix i j → (a ≡ 0 → ⊥) → i < 32
unfolding col_of pick
col_below ix i j {a} e n = go (ltb i 32) refl e
  where
    go : (b : Bool) → ltb i 32 ≡ b → a ≡ pick b (pick (ltb j 12) (get_or ix (6 + (77 * i + j)) 0) 0) 0 → i < 32
    go true q f = ltb-true i 32 q
    go false q f = absurd (n f)

-- `machine_at`
module _ (s : Text) (ix : List ℕ) (i machine : ℕ) where
  -- a is column 3
  module _ {a : ℕ} (ea : a ≡ col_of ix i 3) where
    pub machine_whole : a ≡ 0 → {p : ℕ} → p ≡ base_at s ix i → p ≡ cited_name s ix i machine
    unfolding cited_name
    machine_whole z e = e ∙ sym (pick_true _ _ (zero ea z))

    module _ (split : a ≡ 0 → ⊥) where
      pub machine_base : machine ≡ 0 → {p : ℕ} → p ≡ base_at s ix i → p ≡ cited_name s ix i machine
      unfolding cited_name
      machine_base z e = e ∙ sym (pick_false _ _ (some ea split) ∙ pick_true _ machine (zero refl z))

      pub machine_own : (machine ≡ 0 → ⊥) → machine ≡ cited_name s ix i machine
      unfolding cited_name
      machine_own n = sym (pick_false _ _ (some ea split) ∙ pick_false _ machine (some refl n))

module _ (s : Text) (ix lookups : List ℕ) where
  -- `base`: p is where its name stands
  pub base_step : (i : ℕ) {p : ℕ} → p ≡ base_at s ix i → {k : Machine} → k ≡ number_at s lookups p → k ≡ base_of s ix lookups i
  unfolding base_of
  base_step i e f = f ∙ ap (number_at s lookups) e

  -- `owned_of`: a and b are columns 3 and 1
  module _ (i : ℕ) {a : ℕ} (ea : a ≡ col_of ix i 3) where
    pub owned_split : (a ≡ 0 → ⊥) → Split ≡ owned_of s ix lookups i
    unfolding owned_of
    owned_split n = sym (pick_false _ Split (some ea n))

    module _ (za : a ≡ 0) {b : ℕ} (eb : b ≡ col_of ix i 1) where
      pub owned_nobody : b ≡ 0 → Nobody ≡ owned_of s ix lookups i
      unfolding owned_of
      owned_nobody z = sym (pick_true _ Split (zero ea za) ∙ pick_true Nobody _ (zero eb z))

      pub owned_whole : (b ≡ 0 → ⊥) → {k : Machine} → k ≡ base_of s ix lookups i → Whole k ≡ owned_of s ix lookups i
      unfolding owned_of
      owned_whole n e = ap Whole e ∙ sym (pick_true _ Split (zero ea za) ∙ pick_false Nobody _ (some eb n))

  -- `part_of`: p is where the name stands
  module _ (i z : ℕ) {p : ℕ} (e : p ≡ name_for s ix i z) where
    pub part_none : p ≡ 0 → Undeclared ≡ part_of s ix lookups i z
    unfolding part_of
    part_none h = sym (pick_true Undeclared _ (zero e h))

    pub part_some : (p ≡ 0 → ⊥) → {k : Machine} → k ≡ number_at s lookups p → Of k ≡ part_of s ix lookups i z
    unfolding part_of
    part_some h f = ap Of (f ∙ ap (number_at s lookups) e) ∙ sym (pick_false Undeclared _ (some e h))

  -- `cited_at`: d is the domain, p where the name of the machine stands
  module _ (i : ℕ) where
    pub cited_private : (clock machine : ℕ) → clock ≡ 0 → Private i ≡ cited_at s ix lookups i clock machine
    unfolding cited_at
    cited_private clock machine z = sym (pick_true (Private i) _ (zero refl z))

    pub cited_domain : (clock machine : ℕ) → (clock ≡ 0 → ⊥) → {d : ℕ} → d ≡ domain_at s clock → {p : ℕ} → p ≡ cited_name s ix i machine
        → {k : Machine} → k ≡ number_at s lookups p → Domain d k ≡ cited_at s ix lookups i clock machine
    unfolding cited_at
    cited_domain clock machine n ed ep ek = (λ j. Domain (ed j) ((ek ∙ ap (number_at s lookups) ep) j)) ∙ sym (pick_false (Private i) _ (some refl n))

  -- `offset_at`: r is what integer stands there
  module _ (p : ℕ) where
    pub offset_none : p ≡ 0 → pos 0 ≡ offset_at s ix lookups p
    unfolding offset_at
    offset_none z = sym (pick_true (pos 0) _ (zero refl z))

    pub offset_in_lem : (p ≡ 0 → ⊥) → {r : Integer} → r ≡ integer_at s p → {z : ℤ} → r ≡ In z → SFits w64 z → to_z w64 (of_z w64 z) ≡ offset_at s ix lookups p
    unfolding offset_at offset_in
    offset_in_lem n e f fits = to_z-of_z fits ∙ (ap offset_in (sym f ∙ e) ∙ sym (pick_false (pos 0) _ (some refl n)))

    -- (below, above, and where no integer stands)
    pub offset_out : (p ≡ 0 → ⊥) → {r : Integer} → r ≡ integer_at s p → {v : Integer} → r ≡ v → offset_in v ≡ offset_at s ix lookups p
    unfolding offset_at
    offset_out n e f = ap offset_in (sym f ∙ e) ∙ sym (pick_false (pos 0) _ (some refl n))

  -- `related_to`: the columns, the two clocks and the offset
  pub related : (i e : ℕ) {a b c d o : ℕ} → a ≡ col_of ix i 5 → b ≡ col_of ix i 6 → {x : Cited} → x ≡ cited_at s ix lookups i a b
      → c ≡ col_of ix i 10 → d ≡ col_of ix i 9 → {y : Cited} → y ≡ cited_at s ix lookups e c d
      → o ≡ col_of ix i 11 → {z : ℤ} → z ≡ offset_at s ix lookups o → SFits w64 z → Related (record { from = x; to = y; offset = to_z w64 (of_z w64 z) }) ≡ related_to s ix lookups i e
  unfolding related_to
  related i e ea eb ex ec ed ey eo ez fits =
      λ j. Related (record {
        from = (ex ∙ (λ k. cited_at s ix lookups i (ea k) (eb k))) j;
        to = (ey ∙ (λ k. cited_at s ix lookups e (ec k) (ed k))) j;
        offset = (to_z-of_z fits ∙ (ez ∙ ap (offset_at s ix lookups) eo)) j;
      })

  -- `link`: a and b are columns 4 and 7, c the number of the entry that is cited
  module _ (i : ℕ) {a : ℕ} (ea : a ≡ col_of ix i 4) where
    pub link_no_clocks : a ≡ 0 → Unrelated ≡ link_of s ix lookups i
    unfolding link_of
    link_no_clocks z = sym (pick_true Unrelated _ (zero ea z))

    module _ (na : a ≡ 0 → ⊥) {b : ℕ} (eb : b ≡ col_of ix i 7) where
      pub link_no_sync : b ≡ 0 → Unrelated ≡ link_of s ix lookups i
      unfolding link_of
      link_no_sync z = sym (pick_false Unrelated _ (some ea na) ∙ pick_true Unrelated _ (zero eb z))

      module _ (nb : b ≡ 0 → ⊥) {c : ℕ} (ec : c ≡ get_or lookups (64 + i) 0) where
        at_cited : link_of s ix lookups i ≡ pick (eqb c 0) Unrelated (pick (ltb 32 c) Unrelated (related_to s ix lookups i (c - 1)))
        unfolding link_of cites_by
        at_cited =
            pick_false Unrelated _ (some ea na)
            ∙ (pick_false Unrelated _ (some eb nb)
            ∙ ap (λ (k : ℕ). pick (eqb k 0) Unrelated (pick (ltb 32 k) Unrelated (related_to s ix lookups i (k - 1)))) (sym ec))

        pub link_none : c ≡ 0 → Unrelated ≡ link_of s ix lookups i
        link_none z = sym (at_cited ∙ pick_true Unrelated _ (zero refl z))

        module _ (nc : c ≡ 0 → ⊥) where
          pub link_no_entry : 32 < c → Unrelated ≡ link_of s ix lookups i
          link_no_entry h = sym (at_cited ∙ (pick_false Unrelated _ (some refl nc) ∙ pick_true Unrelated _ (lt-ltb 32 c h)))

          pub link_related : c ≤ 32 → {r : Link} → r ≡ related_to s ix lookups i (c - 1) → r ≡ link_of s ix lookups i
          link_related h q = q ∙ sym (at_cited ∙ (pick_false Unrelated _ (some refl nc) ∙ pick_false Unrelated _ (le-ltb 32 c h)))

  -- `tie`: the same, and d is column 5
  module _ (i : ℕ) {a : ℕ} (ea : a ≡ col_of ix i 4) where
    pub tie_no_clocks : a ≡ 0 → 0 ≡ tied_by ix lookups i
    unfolding tied_by
    tie_no_clocks z = sym (pick_true 0 _ (zero ea z))

    module _ (na : a ≡ 0 → ⊥) {b : ℕ} (eb : b ≡ col_of ix i 7) where
      pub tie_no_sync : b ≡ 0 → 0 ≡ tied_by ix lookups i
      unfolding tied_by
      tie_no_sync z = sym (pick_false 0 _ (some ea na) ∙ pick_true 0 _ (zero eb z))

      module _ (nb : b ≡ 0 → ⊥) {c : ℕ} (ec : c ≡ get_or lookups (64 + i) 0) where
        tie_cited : tied_by ix lookups i ≡ pick (eqb c 0) 0 (pick (ltb 32 c) 0 (pick (eqb (col_of ix i 5) 0) 2 1))
        unfolding tied_by cites_by
        tie_cited =
            pick_false 0 _ (some ea na)
            ∙ (pick_false 0 _ (some eb nb) ∙ ap (λ (k : ℕ). pick (eqb k 0) 0 (pick (ltb 32 k) 0 (pick (eqb (col_of ix i 5) 0) 2 1))) (sym ec))

        pub tie_none : c ≡ 0 → 0 ≡ tied_by ix lookups i
        tie_none z = sym (tie_cited ∙ pick_true 0 _ (zero refl z))

        module _ (nc : c ≡ 0 → ⊥) where
          pub tie_no_entry : 32 < c → 0 ≡ tied_by ix lookups i
          tie_no_entry h = sym (tie_cited ∙ (pick_false 0 _ (some refl nc) ∙ pick_true 0 _ (lt-ltb 32 c h)))

          module _ (h : c ≤ 32) {d : ℕ} (ed : d ≡ col_of ix i 5) where
            pub tie_private : d ≡ 0 → 2 ≡ tied_by ix lookups i
            tie_private z = sym (tie_cited ∙ (pick_false 0 _ (some refl nc) ∙ (pick_false 0 _ (le-ltb 32 c h) ∙ pick_true 2 1 (zero ed z))))

            pub tie_named : (d ≡ 0 → ⊥) → 1 ≡ tied_by ix lookups i
            tie_named z = sym (tie_cited ∙ (pick_false 0 _ (some refl nc) ∙ (pick_false 0 _ (le-ltb 32 c h) ∙ pick_false 2 1 (some ed z))))

  -- `trace_machine_at`: e is the entry that is cited, from 1 on
  pub trace_own : (get_or ix 4 0 ≡ 0 → ⊥) → get_or ix 4 0 ≡ trace_machine_at s ix lookups
  unfolding trace_machine_at
  trace_own n = sym (pick_false _ (get_or ix 4 0) (some refl n))

  module _ (z : get_or ix 4 0 ≡ 0) where
    module _ {e : ℕ} (ee : e ≡ get_or lookups 128 0) where
      at_trace : trace_machine_at s ix lookups ≡ pick (eqb e 0) 0 (pick (ltb 32 e) 0 (base_at s ix (e - 1)))
      unfolding trace_machine_at trace_cites
      at_trace = pick_true _ (get_or ix 4 0) (zero refl z) ∙ ap (λ (k : ℕ). pick (eqb k 0) 0 (pick (ltb 32 k) 0 (base_at s ix (k - 1)))) (sym ee)

      pub trace_host : e ≡ 0 → 0 ≡ trace_machine_at s ix lookups
      trace_host y = sym (at_trace ∙ pick_true 0 _ (zero refl y))

      module _ (n : e ≡ 0 → ⊥) where
        pub trace_no_entry : 32 < e → 0 ≡ trace_machine_at s ix lookups
        trace_no_entry h = sym (at_trace ∙ (pick_false 0 _ (some refl n) ∙ pick_true 0 _ (lt-ltb 32 e h)))

        pub trace_base : e ≤ 32 → {p : ℕ} → p ≡ base_at s ix (e - 1) → p ≡ trace_machine_at s ix lookups
        trace_base h q = q ∙ sym (at_trace ∙ (pick_false 0 _ (some refl n) ∙ pick_false 0 _ (le-ltb 32 e h)))

  -- `timeline`
  pub timeline_unset : get_or ix 1 0 ≡ 0 → Unset ≡ timeline_of s ix lookups
  unfolding timeline_of
  timeline_unset z = sym (pick_true Unset _ (zero refl z))

  pub timeline_set : (get_or ix 1 0 ≡ 0 → ⊥) → {d : ℕ} → d ≡ domain_at s (get_or ix 2 0) → {p : ℕ} → p ≡ trace_machine_at s ix lookups → {k : Machine} → k ≡ number_at s lookups p
      → Set d k ≡ timeline_of s ix lookups
  unfolding timeline_of
  timeline_set n ed ep ek = (λ j. Set (ed j) ((ek ∙ ap (number_at s lookups) ep) j)) ∙ sym (pick_false Unset _ (some refl n))
