-- What is told comes to four cases: three kinds of refusal, each after those before it, or acceptance. Assumes nothing.
use Rattle.std.specs.Prelude.{◌≡◌, List, ℕ, eqb, Bool, true, false}
use Rattle.std.proofs.Math.Path.{refl}
use Rattle.std.proofs.Common.{subst, ◌∙◌, eqb-true}
use Rattle.std.proofs.lemmas.Bool.{eqb-false}
use Rattle.text.specs.Reading.{Text}
use Rattle.manifest.specs.Manifest.{refusal_of}
use Rattle.sheet.specs.Sheets.{read_of}
use Rattle.sheet.specs.declared.Table.{Table}
use Rattle.sheet.specs.Sheets.{Sheet, Refused as SheetRefused, Listed}
use Rattle.merged.specs.Refusals.{checks, first_of}
use Rattle.checks.specs.Table.{facts_by}
use Rattle.placed.specs.Told.{Told, Refused, Accepted}
use Rattle.known.specs.Known.{verdict, fact_table, given_in, told}
use Rattle.known.specs.laws.Verdicts.{by_manifest, by_sheet, by_both, by_none}

module _ (s : Text) (b : List ℕ) where
  abbrev both : ℕ
  both = first_of checks (facts_by (fact_table s b))

  so : verdict (refusal_of s) (read_of b) both (given_in s b) ≡ told s b
  unfolding told
  so = refl

  -- what holds in each case holds of what is told
  pub told_by : (P : Told → Type 0)
      → ((refusal_of s ≡ 0 → ⊥) → P (Refused (refusal_of s)))
      → (refusal_of s ≡ 0 → (k : ℕ) → read_of b ≡ SheetRefused k → P (Refused k))
      → (refusal_of s ≡ 0 → (p : Table) → read_of b ≡ Listed p → (both ≡ 0 → ⊥) → P (Refused both))
      → (refusal_of s ≡ 0 → (p : Table) → read_of b ≡ Listed p → both ≡ 0 → P (Accepted (record { sources = p.sources.count; at = p.events.at; given = given_in s b })))
      → P (told s b)
  told_by P f g h k = first (eqb (refusal_of s) 0) refl
    where
      last : refusal_of s ≡ 0 → (p : Table) → read_of b ≡ Listed p → (x : Bool) → eqb both 0 ≡ x → P (told s b)
      last z p e true q = subst P (by_none (refusal_of s) (read_of b) both (given_in s b) z e (eqb-true both 0 q) ∙ so) (k z p e (eqb-true both 0 q))
      last z p e false q = subst P (by_both (refusal_of s) (read_of b) both (given_in s b) z e (eqb-false both 0 q) ∙ so) (h z p e (eqb-false both 0 q))

      next : refusal_of s ≡ 0 → (o : Sheet) → read_of b ≡ o → P (told s b)
      next z (SheetRefused n) e = subst P (by_sheet (refusal_of s) (read_of b) both (given_in s b) z e ∙ so) (g z n e)
      next z (Listed p) e = last z p e (eqb both 0) refl

      first : (x : Bool) → eqb (refusal_of s) 0 ≡ x → P (told s b)
      first true q = next (eqb-true (refusal_of s) 0 q) (read_of b) refl
      first false q = subst P (by_manifest (refusal_of s) (read_of b) both (given_in s b) (eqb-false (refusal_of s) 0 q) ∙ so) (f (eqb-false (refusal_of s) 0 q))
