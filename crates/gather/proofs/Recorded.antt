-- One pass over the snapshots: each sets the flag of its file, so a flag is set if a snapshot before number i is of that file; of the others those from
-- number i on decide. Assumes nothing.
use mathlib.Core.Path.{◌≡◌, refl, sym, ap, ◌∙◌}
use mathlib.Core.Bool.{Bool, true, false}
use mathlib.Core.Logic.{◌⊎◌, inl, inr}
use mathlib.Core.List.{List}
use Prim.Native.Nat.{ℕ, ◌+◌, ◌*◌, ◌≤◌, ◌<◌}
use native.Mathlib.Omega.{arith}
use lib.Dec.{eqb, ltb}
use lib.ListN.{length, get_or, set, replicate, length-set, length-replicate, get_or-replicate}
use lib.Seq.{get_or-set_same, get_or-set_other}
use borrow.Author.Tests.{eq-eqb, ne_eqb, eqb-true, eqb-false}
use Rattle.bits.specs.laws.Number.{number_lt}
use Rattle.records.specs.Layout.{pick, source_here}
use Rattle.records.specs.Readers.{far, source_at}
use Rattle.records.specs.declared.Snapshot.{Snapshot}
use Rattle.text.specs.laws.Readers.{pick_true, pick_false}
use Rattle.sheet.specs.declared.Table.{Table}
use Rattle.gather.proofs.Tested.{Open, open_start, open_found, open_on, open_past}
use Rattle.gather.specs.Gathered.{flag, recorded_in}
use Rattle.gather.specs.laws.Near.{Recorded}
use Rattle.gather.proofs.Steps.{snapshot_in, file_in}

-- the file of a source is written in 5 bits
pub file_low : (b : List ℕ) (at : ℕ) → (source_at b at).file.0 < 32
unfolding source_at pick
file_low b at = go (ltb at far)
  where
    go : (c : Bool) → (pick c (source_here b at) (record { file = record { 0 = 0 }; id = 0 })).file.0 < 32
    go true = omega (arith, number_lt b (at + 3) 5)
    go false = omega arith

module _ (b : List ℕ) (t : Table) where
  -- a file has a snapshot, whatever the manifest says
  abbrev Has : ℕ → Bool → Type 0
  Has f c = (s ix names : List ℕ) → c ≡ recorded_in s ix names b t f

  -- the snapshots from number i on decide
  abbrev Left : ℕ → ℕ → Type 0
  Left f i = Open (λ (n : Snapshot). eqb (file_in b t n) f) (snapshot_in b t) t.snapshots.count i

  -- the flag of a file is set, or is still open
  abbrev Flag : ℕ → ℕ → ℕ → Type 0
  Flag i f v = ((v ≡ 1) × Has f true) ⊎ ((v ≡ 0) × Left f i)

  pub record Noted (out : List ℕ) (i : ℕ) : Type 0 where
    pub each : length out ≡ 32
    pub noted : (f : ℕ) → f < 32 → Flag i f (get_or out f 0)

  pub noted_start : Noted (replicate 32 0) 0
  noted_start = record { each = length-replicate {A = ℕ} 32 0; noted = λ f h. inr (get_or-replicate {A = ℕ} 32 f 0 0 h, open_start _ _ _) }

  -- a snapshot more
  module _ {out : List ℕ} (i : ℕ) (o : Noted out i) (h : i < t.snapshots.count) {j : ℕ} (ej : j ≡ file_in b t (snapshot_in b t i)) where
    pub file_in_lem : j < 32
    file_in_lem = omega (arith, file_low b (t.sources.at + 40 * (snapshot_in b t i).source))

    set_own : (f : ℕ) → j ≡ f → get_or (set out j 1) f 0 ≡ 1
    set_own f e = ap (λ (k : ℕ). get_or (set out j 1) k 0) (sym e) ∙ get_or-set_same out j 1 0 (omega (arith, file_in_lem, o.each))

    -- of its file the flag is set
    own : (f : ℕ) → j ≡ f → Flag i f (get_or out f 0) → Flag (i + 1) f (get_or (set out j 1) f 0)
    unfolding recorded_in
    own f e (inl q) = inl (set_own f e, q.1)
    own f e (inr q) = inl (set_own f e, λ s ix names. sym (open_found _ _ _ i q.1 h (eq-eqb _ f (sym ej ∙ e))))

    -- of others it is as it was
    other : (f : ℕ) → (j ≡ f → ⊥) → Flag i f (get_or out f 0) → Flag (i + 1) f (get_or (set out j 1) f 0)
    other f n (inl q) = inl (get_or-set_other out j f 1 0 (λ z. n (sym z)) ∙ q.0, q.1)
    other f n (inr q) = inr (get_or-set_other out j f 1 0 (λ z. n (sym z)) ∙ q.0, open_on _ _ _ i q.1 h (ne_eqb _ f (λ e. n (ej ∙ e))))

    pub noted_next : Noted (set out j 1) (i + 1)
    noted_next = record { each = length-set out j 1 ∙ o.each; noted = λ f l. go f (eqb j f) refl (o.noted f l) }
      where
        go : (f : ℕ) (c : Bool) → eqb j f ≡ c → Flag i f (get_or out f 0) → Flag (i + 1) f (get_or (set out j 1) f 0)
        go f true e q = own f (eqb-true j f e) q
        go f false e q = other f (eqb-false j f e) q

  -- past the last snapshot nothing is open
  pub noted_all : {out : List ℕ} (i : ℕ) → Noted out i → t.snapshots.count ≤ i → Recorded b t out
  unfolding flag recorded_in
  noted_all {out} i o h = record { recorded = λ s ix names f l. go s ix names f (o.noted f l) }
    where
      go : (s ix names : List ℕ) (f : ℕ) → Flag i f (get_or out f 0) → get_or out f 0 ≡ flag (recorded_in s ix names b t f)
      go s ix names f (inl q) = q.0 ∙ sym (pick_true _ _ (sym (q.1 s ix names)))
      go s ix names f (inr q) = q.0 ∙ sym (pick_false _ _ (open_past _ _ _ i q.1 h))

-- the flag of a file
pub flag_at : {b : List ℕ} {t : Table} {out : List ℕ} → Recorded b t out → (s ix names : List ℕ) (f : ℕ) → f < 32 → {v : ℕ} → v ≡ get_or out f 0 → v ≡ flag (recorded_in s ix names b t f)
flag_at r s ix names f h e = e ∙ r.recorded s ix names f h
