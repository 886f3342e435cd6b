-- The order of 32 to 37: none applies, and so they give 0. Assumes nothing.
use Rattle.std.specs.Prelude.{◌≡◌, Bool, true, false, ℕ}
use Rattle.std.proofs.Math.Path.{refl, sym}
use Rattle.std.proofs.Common.{ap, ◌∙◌, true≢false, arith}
use borrow.Author.Tests.{ltb-false, le-ltb}
use mathlib.Core.List.{List}
use Rattle.text.specs.Reading.{Text, pick}
use Rattle.records.specs.Layout.{Record}
use Rattle.sheet.specs.Sheets.{refused, records}
use Rattle.manifest.specs.Manifest.{meaning_of}
use Rattle.manifest.specs.Meaning.{Meaning}
use Rattle.merged.specs.Facts.{Parts, parts_of, facts_of}
use Rattle.merged.specs.Machines.{machine_count}
use Rattle.merged.specs.Refusals.{checks, first_of, refusal_32_path_not_in_sheet, refusal_33_clocks_on_a_container, refusal_34_id_not_declared, refusal_35_machine_on_several_sources, refusal_36_pinned_file_with_a_snapshot, refusal_37_too_many_machines}
use Rattle.merged.specs.declared.Summary.{Summary}
use Rattle.merged.specs.Answers.{Merged}
use Rattle.merged.specs.declared.Room.{Room}
use Rattle.merged.specs.Merged.{records_of, roomy, Outcome, accepted_by, merged}
use Rattle.merged.proofs.Demands.{Ends, by_manifest, by_sheet, by_both, by_room, by_none, demand_1, accepts}
use Rattle.merged.proofs.laws.Shape.{passed}
use Rattle.exact.specs.Words.{NoneTogether, Agrees}
use Rattle.exact.proofs.laws.Lists.{no_true}
use Rattle.exact.proofs.laws.Entries.{Tidy, accepted_tidy}
use Rattle.exact.proofs.laws.Sheets.{Sound, accepted_sound}
use Rattle.exact.proofs.laws.Checks.{applies_32, is_32, applies_33, is_33, applies_34, is_34, applies_35, is_35, applies_36, is_36}

module _ {w : Meaning} (tidy : Tidy w) (p : Parts) (sound : Sound p) where
  apart : {b : Bool} → b ≡ true → b ≡ false → ⊥
  apart e f = true≢false (sym e ∙ f)

  pub none_so : first_of checks (facts_of w p) ≡ 0 → NoneTogether w p
  unfolding refusal_32_path_not_in_sheet refusal_33_clocks_on_a_container refusal_34_id_not_declared refusal_35_machine_on_several_sources refusal_36_pinned_file_with_a_snapshot refusal_37_too_many_machines
  none_so e =
      let a = passed _ _ (facts_of w p) (omega arith) e in
      let b = passed _ _ (facts_of w p) (omega arith) a.1 in
      let c = passed _ _ (facts_of w p) (omega arith) b.1 in
      let d = passed _ _ (facts_of w p) (omega arith) c.1 in
      let f = passed _ _ (facts_of w p) (omega arith) d.1 in
      let g = passed _ _ (facts_of w p) (omega arith) f.1 in
      record {
        not_32 = λ x. apart (is_32 tidy p x) a.0;
        not_33 = λ x. apart (is_33 tidy p x) b.0;
        not_34 = λ x. apart (is_34 tidy p sound x) c.0;
        not_35 = λ x. apart (is_35 tidy p sound x) d.0;
        not_36 = λ x. apart (is_36 tidy p x) f.0;
        not_37 = ltb-false 32 _ g.0;
      }

  pub so_none : NoneTogether w p → first_of checks (facts_of w p) ≡ 0
  unfolding first_of pick refusal_37_too_many_machines
  so_none n = λ i.
      pick (no_true _ (λ h. n.not_32 (applies_32 tidy p h)) i) refusal_32_path_not_in_sheet.number
      (pick (no_true _ (λ h. n.not_33 (applies_33 tidy p h)) i) refusal_33_clocks_on_a_container.number
      (pick (no_true _ (λ h. n.not_34 (applies_34 tidy p sound h)) i) refusal_34_id_not_declared.number
      (pick (no_true _ (λ h. n.not_35 (applies_35 tidy p sound h)) i) refusal_35_machine_on_several_sources.number
      (pick (no_true _ (λ h. n.not_36 (applies_36 tidy p sound h)) i) refusal_36_pinned_file_with_a_snapshot.number
      (pick (le-ltb 32 (machine_count (facts_of w p)) n.not_37 i) refusal_37_too_many_machines.number 0)))))

-- ---- with the manifest, the sheet and the lent memory

module _ (m : Text) (b : List ℕ) (room : Room) where
  pub accepted_agrees : {s : Summary} → (merged m b room).answer ≡ Merged s → Agrees m b room
  accepted_agrees e =
      let a = accepts m b room e in
      record {
        rs = a.rs;
        manifest = a.manifest;
        sheet = a.sheet;
        together = none_so (accepted_tidy m a.manifest) (parts_of a.rs) (accepted_sound b a.sheet) a.both;
        fits = a.fits;
      }

  pub agrees_accepted : Agrees m b room → (s : Summary) × ((merged m b room).answer ≡ Merged s)
  unfolding accepted_by
  agrees_accepted x = go (demand_1 m b room) refl
    where
      first : {rs : List Record} → records_of b ≡ records rs → x.rs ≡ rs
      first h = let z : records x.rs ≡ records _ = sym x.sheet ∙ h in cc

      none : first_of checks (facts_of (meaning_of m) (parts_of x.rs)) ≡ 0
      none = so_none (accepted_tidy m x.manifest) (parts_of x.rs) (accepted_sound b x.sheet) x.together

      go : {o : Outcome} → Ends m b room o → merged m b room ≡ o → (s : Summary) × ((merged m b room).answer ≡ Merged s)
      go (by_manifest n) q = absurd (n x.manifest)
      go (by_sheet {n} z h) q = let y : refused n ≡ records x.rs = sym h ∙ x.sheet in let w : ◌≡◌ {A = ℕ} 0 1 = cc in absurd (omega arith)
      go (by_both {rs} z h n) q = absurd (n (ap (λ (k : List Record). first_of checks (facts_of (meaning_of m) (parts_of k))) (sym (first h)) ∙ none))
      go (by_room {rs} z h n f) q = absurd (true≢false (sym x.fits ∙ (ap (λ (k : List Record). roomy (parts_of k) room) (first h) ∙ f)))
      go (by_none {rs} z h n f) q = (_, ap (λ (o : Outcome). o.answer) q)
