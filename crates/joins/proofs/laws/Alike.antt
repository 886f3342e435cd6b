-- What is known by the tables' own meaning and by the meaning is the same but for machines' numbers. Assumes nothing.
use Rattle.std.specs.Prelude.{◌≡◌, Bool, ℕ, suc, ◌+◌, ◌≤◌, ◌<◌, ℤ, pos, length, get_or}
use Rattle.std.proofs.Math.Path.{refl, ap, subst}
use Rattle.std.proofs.Common.{sym, ◌∙◌, arith}
use Rattle.std.proofs.Math.Bool.{true, false}
use mathlib.Core.List.{List, [], ◌∷◌, map}
use Rattle.std.proofs.Math.Decide.{dec_lt}
use Rattle.std.proofs.Math.ListN.{get_or-eq_default}
use Rattle.text.specs.Reading.{Text, pick}
use Rattle.numbers.specs.declared.Machine.{Machine}
use Rattle.manifest.specs.View.{one}
use Rattle.manifest.specs.Rows.{entries}
use Rattle.manifest.specs.Rules.{same_id}
use Rattle.manifest.specs.Meaning.{Owns, nothing, whole_file, parts, Listed, Meaning, listings, meant}
use Rattle.records.specs.declared.Source.{Source}
use Rattle.index.specs.Index.{entries_in, manifest_of}
use Rattle.meant.proofs.Theorems.{listing_at, listings_length}
use Rattle.merged.specs.Facts.{Filed, no_file, Parts, entry_for, unlisted, said, tie_by, Given, named, named_for, given_by, file_fact, file_facts, source_fact, facts_of}
use Rattle.merged.proofs.laws.Shape.{Alike, both_silent, both_whole, both_named, both_undeclared, AlikeFile, AlikeSource, Each, none, more, AlikeFacts}
use Rattle.joins.specs.Own.{own_parts, own_owns, own_listed, own_all, own}
use Rattle.joins.proofs.laws.Shapes.{own_tie}
use Rattle.joins.proofs.laws.Owned.{own_length, own_at, own_first}

-- ---- of one entry

module _ (s : Text) (ix : List ℕ) (i id : ℕ) where
  named_alike : (l : List (ℤ × Machine)) → Alike (named_for id (own_parts s ix i l)) (named_for id l)
  unfolding own_parts named_for pick
  named_alike [] = both_undeclared
  named_alike (p ∷ l) = go (same_id (pos id) p.0) _ _ (named_alike l)
    where
      go : (b : Bool) (m n : Machine) {g h : Given} → Alike g h → Alike (pick b (named m) g) (pick b (named n) h)
      go true m n a = both_named
      go false m n a = a

  given_alike : (o : Owns) → Alike (given_by (own_owns s ix i o) id) (given_by o id)
  unfolding own_owns given_by
  given_alike nothing = both_silent
  given_alike (whole_file m) = both_whole
  given_alike (parts l) = named_alike l

-- nothing is said of a file that no entry lists
none_given : (id : ℕ) → Alike (given_by nothing id) (given_by nothing id)
unfolding given_by
none_given id = both_silent

-- ---- of entry e, or of none

module _ (s : Text) (ix : List ℕ) (e : ℕ) where
  abbrev all : List Listed
  all = listings (manifest_of s ix) 0 (entries (manifest_of s ix))

  past_own : (length all ≤ e) → get_or (own_all s ix 0 all) e unlisted ≡ unlisted
  past_own h = let n : length (own_all s ix 0 all) ≡ length all = own_length s ix 0 all in get_or-eq_default (own_all s ix 0 all) unlisted (omega arith)

  here_own : e < length all → get_or (own_all s ix 0 all) e unlisted ≡ own_listed s ix e (get_or all e unlisted)
  here_own h = let z : 0 + e ≡ e = omega arith in own_at s ix 0 all e unlisted unlisted h ∙ ap (λ (k : ℕ). own_listed s ix k (get_or all e unlisted)) z

  given_at : (id : ℕ) → Alike (given_by (get_or (own_all s ix 0 all) e unlisted).owns id) (given_by (get_or all e unlisted).owns id)
  given_at id = go (dec_lt e (length all))
    where
      go : Dec (e < length all) → Alike (given_by (get_or (own_all s ix 0 all) e unlisted).owns id) (given_by (get_or all e unlisted).owns id)
      go (yes h) = rw (here_own h) (given_alike s ix e id (get_or all e unlisted).owns)
      go (no n) = let h : length all ≤ e = omega arith in rw (past_own h, get_or-eq_default all unlisted h) (none_given id)

  tie_at : tie_by (get_or (own_all s ix 0 all) e unlisted).link ≡ tie_by (get_or all e unlisted).link
  tie_at = go (dec_lt e (length all))
    where
      go : Dec (e < length all) → tie_by (get_or (own_all s ix 0 all) e unlisted).link ≡ tie_by (get_or all e unlisted).link
      go (yes h) =
          let n : length all ≡ entries_in ix = listings_length s ix in
          ap (λ (l : Listed). tie_by l.link) (here_own h) ∙ (own_tie s ix e ∙ ap (λ (l : Listed). tie_by l.link) (sym (listing_at s ix (omega arith) unlisted)))
      go (no n) = let h : length all ≤ e = omega arith in ap (λ (l : Listed). tie_by l.link) (past_own h ∙ sym (get_or-eq_default all unlisted h))

-- ---- of the files and sources

module _ (s : Text) (ix : List ℕ) (p : Parts) where
  abbrev w : Meaning
  w = meant (one (manifest_of s ix))

  entry_alike : (t : Text) → entry_for (own s ix w) t ≡ entry_for w t
  unfolding entry_for meant
  entry_alike t = own_first s ix t 0 (all s ix 0) 0

  tie_alike : (v : Filed) → tie_by (said (own s ix w) v).link ≡ tie_by (said w v).link
  unfolding said meant
  tie_alike v = ap (λ (e : ℕ). tie_by (get_or (own_all s ix 0 (all s ix 0)) e unlisted).link) (entry_alike v.path) ∙ tie_at s ix (entry_for w v.path)

  owns_alike : (v : Filed) (id : ℕ) → Alike (given_by (said (own s ix w) v).owns id) (given_by (said w v).owns id)
  unfolding said meant
  owns_alike v id = subst (λ (e : ℕ). Alike (given_by (get_or (own_all s ix 0 (all s ix 0)) e unlisted).owns id) (given_by (said w v).owns id)) (sym (entry_alike v.path)) (given_at s ix (entry_for w v.path) id)

  files_alike : (f : ℕ) (l : List Filed) → Each AlikeFile (file_facts (own s ix w) p f l) (file_facts w p f l)
  unfolding file_facts file_fact
  files_alike f [] = none
  files_alike f (v ∷ l) = more (record { entry = entry_alike v.path; tie = tie_alike v; container = refl; recorded = refl }) (files_alike (suc f) l)

  sources_alike : (l : List Source) → Each AlikeSource (map (source_fact (own s ix w) p) l) (map (source_fact w p) l)
  unfolding source_fact
  sources_alike [] = none
  sources_alike (x ∷ l) = more (record { file = refl; id = refl; given = owns_alike (get_or p.files x.file.0 no_file) x.id }) (sources_alike l)

  pub facts_alike : AlikeFacts (facts_of (own s ix w) p) (facts_of w p)
  unfolding facts_of meant
  facts_alike = record { files = files_alike 0 p.files; sources = sources_alike p.sources; entries = own_length s ix 0 (all s ix 0) }
