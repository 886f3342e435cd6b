-- A file with one source, and with two: by places. Assumes nothing.
use Rattle.std.specs.Prelude.{◌≡◌, Bool}
use Rattle.std.proofs.Math.Path.{refl}
use Rattle.std.proofs.Math.Bool.{true, false}
use mathlib.Core.List.{List, [], ◌∷◌}
use Prim.Native.Nat.{ℕ, suc, ◌≤◌, ◌<◌}
use native.Mathlib.Omega.{arith}
use Rattle.std.proofs.Math.Dec.{eqb}
use borrow.Author.Tests.{eqb-true, eq-eqb}
use Rattle.text.specs.Reading.{pick}
use Rattle.manifest.specs.Statements.{At, here, further}
use Rattle.merged.specs.Facts.{SourceFact}
use Rattle.merged.specs.Machines.{sources_in}
use Rattle.exact.proofs.laws.Lists.{Some}

module _ (f : ℕ) where
  pub some_source : (l : List SourceFact) → 1 ≤ sources_in f l → Some (λ (x : SourceFact). eqb x.file f) l
  unfolding sources_in pick
  some_source [] h = absurd (omega arith)
  some_source (x ∷ l) h = go (eqb x.file f) refl h (some_source l)
    where
      go : (b : Bool) → eqb x.file f ≡ b → 1 ≤ pick b (suc (sources_in f l)) (sources_in f l) → (1 ≤ sources_in f l → Some (λ (y : SourceFact). eqb y.file f) l) → Some (λ (x : SourceFact). eqb x.file f) (x ∷ l)
      go true e h ih = record { place = 0; element = x; at = here; holds = e }
      go false e h ih = let r = ih h in record { place = suc r.place; element = r.element; at = further r.at; holds = r.holds }

  pub source_some : {l : List SourceFact} {i : ℕ} {x : SourceFact} → At l i x → x.file ≡ f → 1 ≤ sources_in f l
  unfolding sources_in pick
  source_some {i = i} {x = x} (here {l = l}) e = let q : eqb x.file f ≡ true = eq-eqb _ _ e in rw q (omega arith)
  source_some (further {b = y} {l = l} h) e = go (eqb y.file f) (source_some h e)
    where
      go : (b : Bool) → 1 ≤ sources_in f l → 1 ≤ pick b (suc (sources_in f l)) (sources_in f l)
      go true r = omega arith
      go false r = r

  pub record Two (l : List SourceFact) : Type 0 where
    pub first : ℕ
    pub second : ℕ
    pub order : first < second
    pub one : SourceFact
    pub other : SourceFact
    pub one_at : At l first one
    pub other_at : At l second other
    pub one_file : one.file ≡ f
    pub other_file : other.file ≡ f

  pub two_sources : (l : List SourceFact) → 2 ≤ sources_in f l → Two l
  unfolding sources_in pick
  two_sources [] h = absurd (omega arith)
  two_sources (x ∷ l) h = go (eqb x.file f) refl h (two_sources l)
    where
      go : (b : Bool) → eqb x.file f ≡ b → 2 ≤ pick b (suc (sources_in f l)) (sources_in f l) → (2 ≤ sources_in f l → Two l) → Two (x ∷ l)
      go true e h ih =
          let r = some_source l (omega arith) in
          record {
            first = 0;
            second = suc r.place;
            order = omega arith;
            one = x;
            other = r.element;
            one_at = here;
            other_at = further r.at;
            one_file = eqb-true _ _ e;
            other_file = eqb-true _ _ r.holds;
          }
      go false e h ih =
          let r = ih h in
          record {
            first = suc r.first;
            second = suc r.second;
            order = omega (arith, r.order);
            one = r.one;
            other = r.other;
            one_at = further r.one_at;
            other_at = further r.other_at;
            one_file = r.one_file;
            other_file = r.other_file;
          }

  pub sources_two : {l : List SourceFact} {i j : ℕ} {x y : SourceFact} → i < j → At l i x → At l j y → x.file ≡ f → y.file ≡ f → 2 ≤ sources_in f l
  unfolding sources_in pick
  sources_two {x = x} h (here {l = l}) (further b) e d =
      let q : eqb x.file f ≡ true = eq-eqb _ _ e in
      let r : 1 ≤ sources_in f l = source_some b d in
      rw q (omega arith)
  sources_two h (further {b = z} {l = l} a) (further b) e d =
      let r : 2 ≤ sources_in f l = sources_two (omega arith) a b e d in
      go (eqb z.file f) r
    where
      go : (b : Bool) → 2 ≤ sources_in f l → 2 ≤ pick b (suc (sources_in f l)) (sources_in f l)
      go true r = omega arith
      go false r = r
  sources_two h here here e d = elim h [ ]
  sources_two h (further a) here e d = elim h [ ]
