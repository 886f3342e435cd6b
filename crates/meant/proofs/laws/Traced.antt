-- Trace time: where its machine's name stands, and its clock, which is required. Assumes nothing.
use Rattle.std.specs.Prelude.{◌≡◌, Bool, List, ℕ, ◌-◌, ◌≤◌, eqb, ltb, length, get_or}
use Rattle.std.proofs.Math.Path.{refl, sym, ap}
use Rattle.std.proofs.Common.{◌∙◌}
use Rattle.std.proofs.Math.Bool.{true, false}
use Rattle.text.specs.Reading.{Text, pick}
use Rattle.manifest.specs.declared.Timeline.TheVariants.{Unset, Set}
use Rattle.manifest.specs.Kinds.{trace_time_fields}
use Rattle.manifest.specs.View.{absent, one}
use Rattle.manifest.specs.Rows.{TraceTime, trace_time, onto, entries}
use Rattle.manifest.specs.Rules.{refusal_5_or_later, cited_or, domain, find, named_entry}
use Rattle.manifest.specs.Meaning.{names_in, number_of, text_or, base_of, timeline}
use Rattle.manifest.specs.Statements.{Meets, stands, SoundRow}
use Rattle.manifest.proofs.laws.Accepted.{members_sound}
use Rattle.outline.specs.Outline.{domain_at}
use Rattle.index.specs.Index.{text_at, at, text_cell, trace_at, entry_at, manifest_of, whose_at}
use Rattle.index.specs.Cited.{entry_of, trace_cited, entry_cited}
use Rattle.finds.specs.Finds.{base_at, lookups}
use Rattle.index.proofs.Theorems.{find_is}
use Rattle.finds.specs.Theorems.{base_is}
use Rattle.named.specs.Named.{number_at}
use Rattle.finds.specs.laws.Lookups.{lookups_number, lookups_trace}
use Rattle.meant.specs.Meant.{trace_cites, trace_machine_at, timeline_of}
use Rattle.meant.proofs.laws.Links.{cited_shape, cited_file, domain_is, whose_or}

-- a text that is required stands there
required_text : (p : ℕ) (t : Text) → Meets (λ (u : Text). Unit {0}) true (at p (one t)) → t ≡ text_or (at p (one t))
unfolding at pick text_or
required_text p t = go (eqb p 0)
  where
    go : (b : Bool) → Meets (λ (u : Text). Unit {0}) true (pick b absent (one t)) → t ≡ text_or (pick b absent (one t))
    go false (stands u) = refl
    go true h = elim h [ ]

-- where the name of its machine stands, in terms of the text
trace_cites_lem : (s : Text) (ix : List ℕ)
    → trace_machine_at s ix (lookups s ix)
    ≡ pick (eqb (get_or ix 4 0) 0)
    (pick (eqb (get_or ix 3 0) 0) 0
    (pick (ltb (entry_of (manifest_of s ix) (text_at s (get_or ix 3 0))) 32) (base_at s ix (entry_of (manifest_of s ix) (text_at s (get_or ix 3 0)))) 0))
    (get_or ix 4 0)
unfolding trace_machine_at trace_cites entry_cited
trace_cites_lem s ix =
    ap (λ (p : ℕ). pick (eqb (get_or ix 4 0) 0) p (get_or ix 4 0))
    (ap (λ (c : ℕ). pick (eqb c 0) 0 (pick (ltb 32 c) 0 (base_at s ix (c - 1)))) (lookups_trace s ix)
    ∙ (cited_shape 0 (base_at s ix) (trace_cited s ix) ∙ cited_file 0 (base_at s ix) (eqb (get_or ix 3 0) 0) (entry_of (manifest_of s ix) (text_at s (get_or ix 3 0)))))

module _ (s : Text) (ix : List ℕ) (few : length (names_in (manifest_of s ix)) ≤ 32) where
  -- the base machine of the file whose path stands at p
  file_base : (p : ℕ) → whose_at s (pick (eqb p 0) 0 (pick (ltb (entry_of (manifest_of s ix) (text_at s p)) 32) (base_at s ix (entry_of (manifest_of s ix) (text_at s p))) 0))
      ≡ base_of (named_entry (manifest_of s ix) (text_cell s p))
  unfolding whose_at base_of onto at pick
  file_base p = go (eqb p 0)
    where
      found : (b : Bool) (k : ℕ) → whose_at s (pick b (base_at s ix k) 0) ≡ base_of (pick b (one (k, entry_at s ix k)) absent)
      found true k = sym (base_is s ix k)
      found false k = refl

      go : (b : Bool) → whose_at s (pick b 0 (pick (ltb (entry_of (manifest_of s ix) (text_at s p)) 32) (base_at s ix (entry_of (manifest_of s ix) (text_at s p))) 0))
          ≡ base_of (onto (pick b absent (one (text_at s p))) (λ t. find t 0 (entries (manifest_of s ix))))
      go true = refl
      go false = found (ltb (entry_of (manifest_of s ix) (text_at s p)) 32) (entry_of (manifest_of s ix) (text_at s p)) ∙ sym (ap base_of (find_is s ix (text_at s p)))

  trace_machine_told : number_at s (lookups s ix) (trace_machine_at s ix (lookups s ix))
      ≡ number_of (names_in (manifest_of s ix)) (cited_or (text_cell s (get_or ix 4 0)) (base_of (named_entry (manifest_of s ix) (text_cell s (get_or ix 3 0)))))
  trace_machine_told =
      lookups_number s ix (trace_machine_at s ix (lookups s ix)) few
      ∙ ap (number_of (names_in (manifest_of s ix))) (ap (whose_at s) (trace_cites_lem s ix) ∙ whose_or s _ (get_or ix 4 0) ∙ ap (cited_or (text_cell s (get_or ix 4 0))) (file_base (get_or ix 3 0)))

  pub timeline_is : refusal_5_or_later (one (manifest_of s ix)) ≡ 0 → timeline_of s ix (lookups s ix) ≡ timeline (manifest_of s ix) (trace_time (manifest_of s ix))
  unfolding timeline_of manifest_of timeline trace_at at pick
  timeline_is accepted = go (eqb (get_or ix 1 0) 0) (members_sound (manifest_of s ix) accepted).1.0
    where
      go : (b : Bool) → Meets (λ (v : TraceTime). SoundRow trace_time_fields v) false (pick b absent (one (trace_at s ix)))
          → pick b Unset (Set (domain_at s (get_or ix 2 0)) (number_at s (lookups s ix) (trace_machine_at s ix (lookups s ix)))) ≡ timeline (manifest_of s ix) (pick b absent (one (trace_at s ix)))
      go true k = refl
      go false (stands k) = λ j. Set ((domain_is s (get_or ix 2 0) ∙ ap domain (required_text (get_or ix 2 0) (text_at s (get_or ix 2 0)) k.0)) j) (trace_machine_told j)
