-- What is said of the entry that lists a path, also if none does: entry 32 is said nothing of. Assumes nothing.
use Rattle.std.specs.Prelude.{◌≡◌, ◌⊎◌, List, ℕ, ◌+◌, ◌≤◌, ◌<◌, length, get_or}
use Rattle.std.proofs.Math.Path.{refl, sym, ap}
use Rattle.std.proofs.Common.{◌∙◌, inl, inr, arith}
use Rattle.std.proofs.Math.ListN.{get_or-eq_default}
use Rattle.text.specs.Reading.{Text, pick}
use Rattle.grammar.specs.Tree.{same}
use Rattle.manifest.specs.Meaning.{Meaning, Listed}
use Rattle.manifest.specs.declared.Link.TheVariants.{Unrelated}
use Rattle.index.specs.Index.{col_of, item_of}
use Rattle.finds.specs.Finds.{name_for, base_at, lookups}
use Rattle.index.proofs.laws.Paths.{few_entries}
use Rattle.named.specs.Named.{number_at}
use Rattle.meant.specs.declared.Owned.TheVariants.{Nobody}
use Rattle.meant.specs.declared.Part.TheVariants.{Undeclared}
use Rattle.meant.specs.Meant.{base_of, owned_of, part_of, link_of}
use Rattle.meant.specs.Told.{Tells, told_owned, told_part}
use Rattle.merged.specs.Facts.{unlisted, entry_for}
use Rattle.gather.specs.laws.Lists.{first_or_lem}

-- ---- entry 32
module _ (s : Text) (ix names : List ℕ) where
  base_none : base_of s ix names 32 ≡ record { 0 = 0 }
  unfolding base_of base_at name_for col_of item_of number_at pick
  base_none = refl

  owned_none : owned_of s ix names 32 ≡ Nobody
  unfolding owned_of col_of pick
  owned_none = refl

  part_none : (z : ℕ) → part_of s ix names 32 z ≡ Undeclared
  unfolding part_of name_for item_of pick
  part_none z = refl

  link_none : link_of s ix names 32 ≡ Unrelated
  unfolding link_of col_of pick
  link_none = refl

-- an entry of the list, or 32
abbrev pub Found : Meaning → ℕ → Type 0
Found w i = (i < length w.listed) ⊎ (i ≡ 32)

pub entry_found : (w : Meaning) (path : Text) → Found w (entry_for w path)
unfolding entry_for
entry_found w path = go (first_or_lem 32 (λ (l : Listed). same path l.path) w.listed 0)
  where
    go : {e : ℕ} → (e < 0 + length w.listed) ⊎ (e ≡ 32) → Found w e
    go (inl h) = inl (omega arith)
    go (inr q) = inr q

module _ {s : Text} {ix : List ℕ} {w : Meaning} (k : Tells s ix w) where
  few : length w.listed ≤ 32
  few = omega (arith, k.entries_told, few_entries ix)

  past : {i : ℕ} → i ≡ 32 → get_or w.listed i unlisted ≡ unlisted
  past {i} e = get_or-eq_default w.listed unlisted {n = i} (omega (arith, few))

  pub base_said : (i : ℕ) → Found w i → base_of s ix (lookups s ix) i ≡ (get_or w.listed i unlisted).base
  base_said i (inl h) = k.base_told (omega (arith, k.entries_told)) unlisted
  base_said i (inr e) = ap (base_of s ix (lookups s ix)) e ∙ base_none s ix (lookups s ix) ∙ sym (ap (λ (l : Listed). l.base) (past e))

  pub link_said : (i : ℕ) → Found w i → link_of s ix (lookups s ix) i ≡ (get_or w.listed i unlisted).link
  link_said i (inl h) = k.link_told (omega (arith, k.entries_told)) unlisted
  link_said i (inr e) = ap (link_of s ix (lookups s ix)) e ∙ link_none s ix (lookups s ix) ∙ sym (ap (λ (l : Listed). l.link) (past e))

  pub owned_said : (i : ℕ) → Found w i → owned_of s ix (lookups s ix) i ≡ told_owned (get_or w.listed i unlisted).owns
  unfolding told_owned
  owned_said i (inl h) = k.owned_told (omega (arith, k.entries_told)) unlisted
  owned_said i (inr e) = ap (owned_of s ix (lookups s ix)) e ∙ owned_none s ix (lookups s ix) ∙ sym (ap (λ (l : Listed). told_owned l.owns) (past e))

  pub part_said : (i : ℕ) → Found w i → (z : ℕ) → part_of s ix (lookups s ix) i z ≡ told_part z (get_or w.listed i unlisted).owns
  unfolding told_part
  part_said i (inl h) z = k.part_told (omega (arith, k.entries_told)) unlisted z
  part_said i (inr e) z = ap (λ (n : ℕ). part_of s ix (lookups s ix) n z) e ∙ part_none s ix (lookups s ix) z ∙ sym (ap (λ (l : Listed). told_part z l.owns) (past e))
