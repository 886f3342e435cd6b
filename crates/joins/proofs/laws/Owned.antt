-- The tables' own meaning is what the tables tell, however many names there are. Assumes nothing.
use Rattle.std.specs.Prelude.{◌≡◌, length, get_or}
use Rattle.std.proofs.Math.Path.{refl, sym, ap}
use Rattle.std.proofs.Common.{◌∙◌, length-take}
use mathlib.Core.List.{List, [], ◌∷◌}
use Prim.Native.Nat.{ℕ, zero, suc, ◌+◌, ◌<◌}
use native.Mathlib.Omega.{arith}
use Rattle.text.specs.Reading.{Text, pick}
use Rattle.grammar.specs.Tree.{same}
use Rattle.manifest.specs.View.{one}
use Rattle.manifest.specs.Rows.{first_or, entries}
use Rattle.manifest.specs.Rules.{refusal_5_or_later}
use Rattle.manifest.specs.Meaning.{Listed, names_in, listing, listings, meant}
use Rattle.index.specs.Index.{entries_in, entry_at, manifest_of}
use Rattle.finds.specs.laws.Lookups.{lookups_count}
use Rattle.meant.specs.Told.{told_owned, told_part, Tells}
use Rattle.meant.proofs.Theorems.{listing_at, listings_length, entry_told}
use Rattle.joins.specs.Own.{own_listed, own_all, own}
use Rattle.joins.proofs.laws.Shapes.{own_part_told, own_owned_told}

module _ (s : Text) (ix : List ℕ) where
  -- as many as before, each in its place, with its path
  pub own_length : (i : ℕ) (l : List Listed) → length (own_all s ix i l) ≡ length l
  unfolding own_all
  own_length i [] = refl
  own_length i (x ∷ l) = ap suc (own_length (suc i) l)

  pub own_at : (j : ℕ) (l : List Listed) (k : ℕ) (d e : Listed) → k < length l → get_or (own_all s ix j l) k d ≡ own_listed s ix (j + k) (get_or l k e)
  unfolding own_all
  own_at j [] k d e h = absurd (omega arith)
  own_at j (x ∷ l) zero d e h = let q : j ≡ j + 0 = omega arith in ap (λ (n : ℕ). own_listed s ix n x) q
  own_at j (x ∷ l) (suc k) d e h =
      let q : suc j + k ≡ j + suc k = omega arith in
      own_at (suc j) l k d e (omega arith) ∙ ap (λ (n : ℕ). own_listed s ix n (get_or l k e)) q

  pub own_first : (t : Text) (i : ℕ) (l : List Listed) (j : ℕ) → first_or 32 (λ (x : Listed). same t x.path) (own_all s ix i l) j ≡ first_or 32 (λ (x : Listed). same t x.path) l j
  unfolding own_all first_or
  own_first t i [] j = refl
  own_first t i (x ∷ l) j = ap (pick (same t x.path) j) (own_first t (suc i) l (suc j))

  module _ (accepted : refusal_5_or_later (one (manifest_of s ix)) ≡ 0) where
    abbrev all : List Listed
    all = listings (manifest_of s ix) 0 (entries (manifest_of s ix))

    -- entry i
    own_listing : {i : ℕ} → i < entries_in ix → (d : Listed) → get_or (own_all s ix 0 all) i d ≡ own_listed s ix i (listing (manifest_of s ix) i (entry_at s ix i))
    own_listing {i} h d =
        let n : length all ≡ entries_in ix = listings_length s ix in
        let z : 0 + i ≡ i = omega arith in
        own_at 0 all i d d (omega arith) ∙ ap (λ (k : ℕ). own_listed s ix k (get_or all i d)) z ∙ ap (own_listed s ix i) (listing_at s ix h d)

    pub own_tells : Tells s ix (own s ix (meant (one (manifest_of s ix))))
    unfolding meant
    own_tells = record {
      entries_told = sym (own_length 0 all ∙ listings_length s ix);
      names_told = lookups_count s ix ∙ sym (length-take 32 (names_in (manifest_of s ix)));
      entry_told = λ t. entry_told s ix t accepted ∙ sym (own_first t 0 all 0);
      base_told = λ {i} h d. sym (ap (λ (l : Listed). l.base) (own_listing h d));
      owned_told = λ {i} h d. own_owned_told s ix i ∙ sym (ap (λ (l : Listed). told_owned l.owns) (own_listing h d));
      part_told = λ {i} h d z. own_part_told s ix accepted h z ∙ sym (ap (λ (l : Listed). told_part z l.owns) (own_listing h d));
      link_told = λ {i} h d. sym (ap (λ (l : Listed). l.link) (own_listing h d));
      timeline_told = refl;
    }
