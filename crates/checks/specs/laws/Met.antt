-- The pass over the sources that gives each its machine: what holds before source j. Assumes nothing.
use Rattle.std.specs.Prelude.{◌≡◌, Bool, ℕ, zero, suc, ◌+◌, ◌-◌, ◌≤◌, ◌<◌, eqb, set, replicate}
use Rattle.std.proofs.Math.Path.{refl, sym, ap}
use Rattle.std.proofs.Common.{◌∙◌}
use Rattle.std.proofs.Math.Bool.{true, false}
use mathlib.Core.List.{List, [], ◌∷◌, ◌++◌, map}
use native.Mathlib.Omega.{arith}
use Rattle.std.proofs.Math.ListN.{length, drop, length-set}
use Rattle.std.proofs.lemmas.List.{length-map, length-replicate}
use Rattle.text.specs.Reading.{pick}
use Rattle.text.specs.laws.Readers.{pick_true, pick_false}
use Rattle.manifest.specs.Rows.{first_or, any}
use Rattle.index.specs.Index.{listed}
use Rattle.index.proofs.laws.Put.{Put, put_none, put_one, put_more, put_same, put_length}
use Rattle.index.proofs.laws.Entries.{from, from_past, listed_length}
use Rattle.merged.specs.Facts.{SourceFact, Facts}
use Rattle.merged.specs.Machines.{by_id, ids_by, unnamed, unnamed_machine, machine_count, machine_of, machines_of}
use Rattle.checks.specs.Table.{source_by, sources_held, facts_by}
use Rattle.checks.specs.Machines.{machine_table}
use Rattle.checks.specs.laws.Ids.{added, seen, distinct_is, seen_starts, added_old, added_new, added_has, place_in, first_found, firsts, firsts_length, among, not_among, listed_end, firsts_more}
use Rattle.checks.specs.laws.Given.{machine_given, machine_given_lem, machine_by_id}
use Rattle.checks.specs.laws.Listed.{from_start, from_next, sources_most}

-- ---- one source

module _ (k : Facts) (x : SourceFact) where
  -- the ids after it, from those before it
  unfoldable pub after : List ℕ → List ℕ
  after l = pick (by_id k x) (added l x.id) l

  -- its machine, if the ids after it are these, and n stands for none of their places
  unfoldable pub machine_met : ℕ → List ℕ → ℕ
  machine_met n l = pick (by_id k x) (1 + (k.names + place_in n x.id l)) (machine_given x.given)

  after_turn : (l : List ℕ) (r : List SourceFact) → seen l (ids_by k (x ∷ r)) ≡ seen (after l) (ids_by k r)
  unfolding after ids_by pick seen
  after_turn l r = go (by_id k x)
    where
      go : (b : Bool) → seen l (pick b (x.id ∷ ids_by k r) (ids_by k r)) ≡ seen (pick b (added l x.id) l) (ids_by k r)
      go true = refl
      go false = refl

  pub machine_met_lem : (l r : List ℕ) (n : ℕ) → unnamed k ≡ seen (after l) r → machine_of k x ≡ machine_met n (after l)
  unfolding after machine_met unnamed_machine place_in pick
  machine_met_lem l r n e = go (by_id k x) refl e
    where
      go : (b : Bool) → by_id k x ≡ b → unnamed k ≡ seen (pick b (added l x.id) l) r
          → machine_of k x ≡ pick b (1 + (k.names + place_in n x.id (pick b (added l x.id) l))) (machine_given x.given)
      go true h q =
          let (m, f) = seen_starts (added l x.id) r in
          let s : 1 + k.names ≡ 1 + k.names + 0 = omega arith in
          let a : unnamed_machine k x.id ≡ 1 + k.names + first_or n (eqb x.id) (added l x.id) 0 =
          (λ i. first_or 0 (eqb x.id) ((q ∙ f) i) (s i)) ∙ first_found (eqb x.id) (added l x.id) m (1 + k.names) 0 n 0 (added_has l x.id) in
          machine_by_id k x h ∙ (let z : unnamed_machine k x.id ≡ 1 + (k.names + first_or n (eqb x.id) (added l x.id) 0) = omega arith in z)
      go false h q = machine_given_lem k x h

-- ---- the table of ids, when a source was met

-- the first n numbers of a table, and then the first m of a new one, are the ids before and after a source
pub record Enrolled (k : Facts) (x : SourceFact) (ids : List ℕ) (n : ℕ) (new : List ℕ) (m : ℕ) : Type 0 where
  pub is : firsts new m ≡ after k x (firsts ids n)
  pub most : m ≤ n + 1
  pub long : length new ≡ 32

module _ (k : Facts) (x : SourceFact) (ids : List ℕ) (n : ℕ) (long : length ids ≡ 32) where
  pub enrolled_other : by_id k x ≡ false → Enrolled k x ids n ids n
  unfolding after
  enrolled_other h = record { is = sym (pick_false _ _ h); most = omega arith; long = long }

  module _ (h : by_id k x ≡ true) (id p : ℕ) (same : id ≡ x.id) (place : p ≡ place_in n id (firsts ids n)) where
    pub enrolled_again : p < n → Enrolled k x ids n ids n
    unfolding after
    enrolled_again q =
        let e : any (eqb id) (firsts ids n) ≡ true = among ids n id (omega arith) in
        record { is = sym (pick_true _ _ h ∙ (ap (added (firsts ids n)) (sym same) ∙ added_old (firsts ids n) id e)); most = omega arith; long = long }

    pub enrolled_new : n ≤ p → n < 32 → Enrolled k x ids n (set ids n id) (n + 1)
    unfolding after
    enrolled_new q f =
        let e : any (eqb id) (firsts ids n) ≡ false = not_among ids n id (omega arith) in
        record {
          is = firsts_more ids n id (omega arith) ∙ sym (pick_true _ _ h ∙ (ap (added (firsts ids n)) (sym same) ∙ added_new (firsts ids n) id e));
          most = omega arith;
          long = length-set ids n id ∙ long;
        }

-- ---- all sources

map_end : {A : Type 0} (f : A → ℕ) (l : List A) (a : A) → map f (l ++ a ∷ []) ≡ map f l ++ f a ∷ []
map_end f [] a = refl
map_end f (b ∷ l) a = ap (λ (r : List ℕ). f b ∷ r) (map_end f l a)

drop_zeros : (m n : ℕ) → drop m (replicate {A = ℕ} n 0) ≡ replicate {A = ℕ} (n - m) 0
drop_zeros zero n = let e : n ≡ n - 0 = omega arith in ap (λ (k : ℕ). replicate {A = ℕ} k 0) e
drop_zeros (suc m) zero = let e : 0 ≡ 0 - suc m = omega arith in ap (λ (k : ℕ). replicate {A = ℕ} k 0) e
drop_zeros (suc m) (suc n) = let e : n - m ≡ suc n - suc m = omega arith in drop_zeros m n ∙ ap (λ (k : ℕ). replicate {A = ℕ} k 0) e

-- what holds before source j: the first n ids are those before it, and out has the machines of the sources before it
pub record Reached (t ids : List ℕ) (n j : ℕ) (out : List ℕ) : Type 0 where
  pub few : n ≤ j
  pub long : length ids ≡ 32
  pub met : unnamed (facts_by t) ≡ seen (firsts ids n) (ids_by (facts_by t) (from (source_by t) (sources_held t) j))
  pub put : Put (replicate {A = ℕ} 32 0) 0 (map (machine_of (facts_by t)) (listed (source_by t) 0 j)) out

pub reached_start : (t ids : List ℕ) → length ids ≡ 32 → Reached t ids 0 0 (replicate {A = ℕ} 32 0)
unfolding unnamed facts_by listed firsts
reached_start t ids h =
    record {
      few = omega arith;
      long = h;
      met = distinct_is (ids_by (facts_by t) (listed (source_by t) 0 (sources_held t))) ∙ ap (λ (l : List SourceFact). seen [] (ids_by (facts_by t) l)) (from_start (source_by t) (sources_held t));
      put = put_none (replicate {A = ℕ} 32 0) 0 (omega arith);
    }

module _ {t ids : List ℕ} {n j : ℕ} {out : List ℕ} (r : Reached t ids n j out) where
  pub reached_length : length out ≡ 32
  reached_length = put_length r.put ∙ length-replicate {A = ℕ} 32 0

  -- one source more
  module _ {new : List ℕ} {m v : ℕ} (h : j < sources_held t) (e : Enrolled (facts_by t) (source_by t j) ids n new m) (is : v ≡ machine_met (facts_by t) (source_by t j) m (firsts new m)) where
    met_after : unnamed (facts_by t) ≡ seen (after (facts_by t) (source_by t j) (firsts ids n)) (ids_by (facts_by t) (from (source_by t) (sources_held t) (j + 1)))
    met_after =
        r.met ∙ (ap (λ (l : List SourceFact). seen (firsts ids n) (ids_by (facts_by t) l)) (from_next (source_by t) (sources_held t) j h)
        ∙ after_turn (facts_by t) (source_by t j) (firsts ids n) (from (source_by t) (sources_held t) (j + 1)))

    value : v ≡ machine_of (facts_by t) (source_by t j)
    value =
        is ∙ (ap (machine_met (facts_by t) (source_by t j) m) e.is
        ∙ sym (machine_met_lem (facts_by t) (source_by t j) (firsts ids n) (ids_by (facts_by t) (from (source_by t) (sources_held t) (j + 1))) m met_after))

    row : map (machine_of (facts_by t)) (listed (source_by t) 0 j) ++ v ∷ [] ≡ map (machine_of (facts_by t)) (listed (source_by t) 0 (j + 1))
    row =
        let z : j ≡ 0 + j = omega arith in
        let s : suc j ≡ j + 1 = omega arith in
        (λ i. map (machine_of (facts_by t)) (listed (source_by t) 0 j) ++ value i ∷ [])
        ∙ (sym (map_end (machine_of (facts_by t)) (listed (source_by t) 0 j) (source_by t j))
        ∙ (λ i. map (machine_of (facts_by t)) (listed (source_by t) 0 j ++ source_by t (z i) ∷ [])))
        ∙ (ap (map (machine_of (facts_by t))) (sym (listed_end (source_by t) 0 j)) ∙ ap (λ (k : ℕ). map (machine_of (facts_by t)) (listed (source_by t) 0 k)) s)

    pub reached_turn : Reached t new m (j + 1) (set out j v)
    reached_turn =
        let w : length (map (machine_of (facts_by t)) (listed (source_by t) 0 j)) ≡ j = length-map (listed (source_by t) 0 j) (machine_of (facts_by t)) ∙ listed_length (source_by t) 0 j in
        record {
          few = omega (arith, r.few, e.most);
          long = e.long;
          met = met_after ∙ ap (λ (l : List ℕ). seen l (ids_by (facts_by t) (from (source_by t) (sources_held t) (j + 1)))) (sym e.is);
          put = put_same row (put_more r.put (omega arith) (put_one out j v (omega (arith, reached_length, sources_most t))));
        }

  -- no source is left
  pub reached_count : sources_held t ≤ j → 1 + ((facts_by t).names + n) ≡ machine_count (facts_by t)
  unfolding machine_count ids_by seen
  reached_count h =
      let u : unnamed (facts_by t) ≡ firsts ids n = r.met ∙ ap (λ (l : List SourceFact). seen (firsts ids n) (ids_by (facts_by t) l)) (from_past (source_by t) (sources_held t) j h) in
      let l : length (unnamed (facts_by t)) ≡ n = ap length u ∙ firsts_length ids n in
      omega arith

  pub reached_table : j ≡ sources_held t → out ≡ machine_table t
  unfolding machine_table machines_of facts_by
  reached_table h =
      let w : map (machine_of (facts_by t)) (listed (source_by t) 0 j) ≡ machines_of (facts_by t) = ap (λ (k : ℕ). map (machine_of (facts_by t)) (listed (source_by t) 0 k)) h in
      let z : 0 + length (map (machine_of (facts_by t)) (listed (source_by t) 0 j)) ≡ length (machines_of (facts_by t)) = omega (arith, ap length w) in
      r.put.is ∙ ((λ i. w i ++ drop (z i) (replicate {A = ℕ} 32 0)) ∙ ap (λ (l : List ℕ). machines_of (facts_by t) ++ l) (drop_zeros (length (machines_of (facts_by t))) 32))
