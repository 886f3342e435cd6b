-- The clock that an entry's number stands for, and an event's clock, by paths and places. Assumes nothing.
use Rattle.std.specs.Prelude.{◌≡◌, Bool, ◌||◌, ℕ, ◌+◌}
use Rattle.std.proofs.Common.{sym, ◌∙◌}
use Rattle.std.proofs.Math.Path.{ap, subst}
use Rattle.std.proofs.Math.Bool.{true, false, or-true}
use native.Mathlib.Omega.{arith}
use Rattle.std.proofs.Math.Dec.{eqb}
use borrow.Author.Tests.{eqb-true, eq-eqb, ne_eqb}
use Rattle.text.specs.Reading.{pick}
use Rattle.manifest.specs.declared.Cited.TheVariants.{Private}
use Rattle.manifest.specs.Meaning.{Meaning, Listed}
use Rattle.manifest.specs.Statements.{At}
use Rattle.records.specs.declared.Source.{Source}
use Rattle.records.specs.declared.Event.{Event}
use Rattle.merged.specs.Facts.{Filed, no_file, silent, Parts, said, tie_by, FileFact, SourceFact, file_fact, file_facts, source_fact, facts_of}
use Rattle.merged.specs.Machines.{machine_of}
use Rattle.merged.specs.Refusals.{listed_by, is_pinned}
use Rattle.merged.specs.Timeline.{private_clock, domain_clock, file_at, clock_for, event_clock}
use Rattle.exact.specs.Words.{ListedFile, Pins}
use Rattle.exact.proofs.laws.Lists.{no_true, at_get_d, get_d_at, at_map, First, found, none, first_or_lem}
use Rattle.exact.proofs.laws.Said.{pinned_so, so_pinned}
use Rattle.exact.proofs.laws.Entries.{Tidy, entry_is, said_is, speaks, found_lists}
use Rattle.exact.proofs.laws.Sheets.{Sound}
use Rattle.exact.proofs.laws.Checks.{at_facts, facts_at, file_of, by_link}

module _ {w : Meaning} (tidy : Tidy w) (p : Parts) (sound : Sound p) where
  -- the file that an entry's number stands for is the one that it lists
  pub private_of : {f : ℕ} {v : Filed} {l : Listed} (x : ListedFile w p f v l) → clock_for (facts_of w p) (Private x.lists.number) ≡ private_clock f
  unfolding clock_for facts_of file_fact
  private_of {f} {v} {l} x = ap private_clock (go (first_or_lem 32 (listed_by x.lists.number) (file_facts w p 0 p.files) 0))
    where
      go : {n : ℕ} → First 32 (listed_by x.lists.number) (file_facts w p 0 p.files) 0 n → n ≡ f
      go (found {j = j} {a = y} h t) =
          let r = facts_at w p 0 p.files h in
          let e : y.entry ≡ x.lists.number = eqb-true _ _ t in
          let k : At w.listed y.entry l = subst (λ (n : ℕ). At w.listed n l) (sym e) x.lists.entry in
          let q = found_lists tidy r.element l (subst (λ (z : FileFact). At w.listed z.entry l) r.is k) in
          let z : j ≡ f = sound.once j f r.element v r.at x.in_sheet (sym q ∙ x.lists.path) in
          omega arith
      go (none n) = absurd (n f (file_fact w p (0 + f) v) (at_facts w p 0 x.in_sheet) (eq-eqb _ _ (entry_is tidy v x.lists)))

  module _ (e : Event) {s : Source} (source : At p.sources e.source s) where
    -- an event's clock, by its source
    clock_by : event_clock (facts_of w p) e
        ≡ pick (is_pinned (file_at (facts_of w p) s.file.0).tie || eqb e.clock 0) (private_clock s.file.0) (domain_clock e.clock (machine_of (facts_of w p) (source_fact w p s)))
    unfolding event_clock facts_of source_fact
    clock_by =
        ap (λ (y : SourceFact). pick (is_pinned (file_at (facts_of w p) y.file).tie || eqb e.clock 0) (private_clock y.file) (domain_clock e.clock (machine_of (facts_of w p) y)))
        (at_get_d (at_map (source_fact w p) source) (record { file = 0; id = 0; given = silent }))

    tie_by_lem : {v : Filed} → At p.files s.file.0 v → (file_at (facts_of w p) s.file.0).tie ≡ tie_by (said w v).link
    unfolding facts_of file_fact
    tie_by_lem h = ap (λ (y : FileFact). y.tie) (at_get_d (at_facts w p 0 h) _)

    pub clock_pinned : {v : Filed} {l : Listed} → ListedFile w p s.file.0 v l → Pins l.link → event_clock (facts_of w p) e ≡ private_clock s.file.0
    unfolding pick
    clock_pinned {v} {l} x y =
        let a : is_pinned (file_at (facts_of w p) s.file.0).tie ≡ true = ap is_pinned (tie_by_lem x.in_sheet) ∙ (ap (λ (k : Listed). is_pinned (tie_by k.link)) (said_is tidy v x.lists) ∙ so_pinned y) in
        clock_by ∙ ap (λ (b : Bool). pick (b || eqb e.clock 0) (private_clock s.file.0) (domain_clock e.clock (machine_of (facts_of w p) (source_fact w p s)))) a

    pub clock_zero : e.clock ≡ 0 → event_clock (facts_of w p) e ≡ private_clock s.file.0
    unfolding pick
    clock_zero z =
        clock_by ∙ ap (λ (b : Bool). pick b (private_clock s.file.0) (domain_clock e.clock (machine_of (facts_of w p) (source_fact w p s))))
        (ap (λ (b : Bool). is_pinned (file_at (facts_of w p) s.file.0).tie || b) (eq-eqb _ _ z) ∙ or-true (is_pinned (file_at (facts_of w p) s.file.0).tie))

    pub clock_other : ((v : Filed) (l : Listed) → ListedFile w p s.file.0 v l → Pins l.link → ⊥) → (e.clock ≡ 0 → ⊥)
        → event_clock (facts_of w p) e ≡ domain_clock e.clock (machine_of (facts_of w p) (source_fact w p s))
    unfolding pick
    clock_other n z =
        let h : At p.files s.file.0 (file_of p s) = get_d_at p.files s.file.0 no_file (sound.files e.source s source) in
        let a : is_pinned (file_at (facts_of w p) s.file.0).tie ≡ false = no_true _ (λ t.
        let y = pinned_so (said w (file_of p s)).link (ap is_pinned (sym (tie_by_lem h)) ∙ t) in
        n (file_of p s) (said w (file_of p s)) (record { in_sheet = h; lists = by_link tidy (file_of p s) (speaks tidy (file_of p s)) y.is }) y) in
        clock_by ∙ (λ i. pick (a i || ne_eqb e.clock 0 z i) (private_clock s.file.0) (domain_clock e.clock (machine_of (facts_of w p) (source_fact w p s))))
