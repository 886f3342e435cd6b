-- With 32 names or more the machines' numbers do not matter: what is refused by 32 to 37 is told by the rest of what is known. Assumes nothing.
use Rattle.std.specs.Prelude.{◌≡◌, Bool, false, ◌&&◌, ◌||◌, List, [], ◌∷◌, length}
use Rattle.std.proofs.Math.Path.{refl, ap}
use Rattle.std.proofs.Common.{sym, ◌∙◌, arith, lt-ltb, ltb-false}
use Rattle.std.proofs.Math.Bool.{true, not}
use Prim.Native.Nat.{ℕ, zero, suc, ◌+◌, ◌≤◌}
use Rattle.std.proofs.Math.Dec.{eqb, leb}
use Rattle.text.specs.Reading.{pick}
use Rattle.numbers.specs.declared.Machine.{Machine}
use Rattle.manifest.specs.Rows.{any}
use Rattle.merged.specs.Facts.{Given, silent, whole, named, undeclared, FileFact, SourceFact, Facts}
use Rattle.merged.specs.Machines.{sources_in, is_silent, unnamed, machine_count}
use Rattle.merged.specs.Refusals.{Check, listed_by, unused, has_clocks, is_undeclared, is_whole, is_pinned, checks, first_of, refusal_32_path_not_in_sheet, refusal_33_clocks_on_a_container, refusal_34_id_not_declared, refusal_35_machine_on_several_sources, refusal_36_pinned_file_with_a_snapshot, refusal_37_too_many_machines}

-- the same but for a machine's number
pub data Alike : Given → Given → Type 0 where
  both_silent : Alike silent silent
  both_whole : {m n : Machine} → Alike (whole m) (whole n)
  both_named : {m n : Machine} → Alike (named m) (named n)
  both_undeclared : Alike undeclared undeclared

pub record AlikeFile (f g : FileFact) : Type 0 where
  pub entry : f.entry ≡ g.entry
  pub tie : f.tie ≡ g.tie
  pub container : f.container ≡ g.container
  pub recorded : f.recorded ≡ g.recorded

pub record AlikeSource (x y : SourceFact) : Type 0 where
  pub file : x.file ≡ y.file
  pub id : x.id ≡ y.id
  pub given : Alike x.given y.given

-- one by one
pub data Each {A : Type 0} (R : A → A → Type 0) : List A → List A → Type 0 where
  none : Each R [] []
  more : {a b : A} {l k : List A} → R a b → Each R l k → Each R (a ∷ l) (b ∷ k)

each_any : {A : Type 0} {R : A → A → Type 0} (p q : A → Bool) → ((a b : A) → R a b → p a ≡ q b) → {l k : List A} → Each R l k → any p l ≡ any q k
unfolding any
each_any p q same none = refl
each_any p q same (more {a} {b} r e) = λ i. same a b r i || each_any p q same e i

each_length : {A : Type 0} {R : A → A → Type 0} {l k : List A} → Each R l k → length l ≡ length k
each_length none = refl
each_length (more r e) = ap suc (each_length e)

silent_alike : {g h : Given} → Alike g h → is_silent g ≡ is_silent h
unfolding is_silent
silent_alike both_silent = refl
silent_alike both_whole = refl
silent_alike both_named = refl
silent_alike both_undeclared = refl

whole_alike : {g h : Given} → Alike g h → is_whole g ≡ is_whole h
unfolding is_whole
whole_alike both_silent = refl
whole_alike both_whole = refl
whole_alike both_named = refl
whole_alike both_undeclared = refl

undeclared_alike : {g h : Given} → Alike g h → is_undeclared g ≡ is_undeclared h
unfolding is_undeclared
undeclared_alike both_silent = refl
undeclared_alike both_whole = refl
undeclared_alike both_named = refl
undeclared_alike both_undeclared = refl

sources_alike : {f g : ℕ} → f ≡ g → {l k : List SourceFact} → Each AlikeSource l k → sources_in f l ≡ sources_in g k
unfolding sources_in
sources_alike e none = refl
sources_alike e (more r s) = λ i. pick (eqb (r.file i) (e i)) (suc (sources_alike e s i)) (sources_alike e s i)

pub record AlikeFacts (k l : Facts) : Type 0 where
  pub files : Each AlikeFile k.files l.files
  pub sources : Each AlikeSource k.sources l.sources
  pub entries : k.entries ≡ l.entries

module _ {k l : Facts} (a : AlikeFacts k l) where
  unused_alike : (n : ℕ) → unused n k.files ≡ unused n l.files
  unfolding unused
  unused_alike zero = refl
  unused_alike (suc n) = λ i. pick (each_any (listed_by n) (listed_by n) (λ f g r. ap (λ (m : ℕ). eqb m n) r.entry) a.files i) (unused_alike n i) true

  same_32 : refusal_32_path_not_in_sheet.applies k ≡ refusal_32_path_not_in_sheet.applies l
  unfolding refusal_32_path_not_in_sheet
  same_32 = (λ i. not (eqb (each_length a.files i) 0) && unused (a.entries i) k.files) ∙ (λ i. not (eqb (length l.files) 0) && unused_alike l.entries i)

  same_33 : refusal_33_clocks_on_a_container.applies k ≡ refusal_33_clocks_on_a_container.applies l
  unfolding refusal_33_clocks_on_a_container
  same_33 = each_any _ _ (λ f g r i. (r.container i) && has_clocks (r.tie i)) a.files

  same_34 : refusal_34_id_not_declared.applies k ≡ refusal_34_id_not_declared.applies l
  unfolding refusal_34_id_not_declared
  same_34 = each_any _ _ (λ x y r. undeclared_alike r.given) a.sources

  same_35 : refusal_35_machine_on_several_sources.applies k ≡ refusal_35_machine_on_several_sources.applies l
  unfolding refusal_35_machine_on_several_sources
  same_35 = each_any _ _ (λ x y r i. whole_alike r.given i && leb 2 (sources_alike r.file a.sources i)) a.sources

  same_36 : refusal_36_pinned_file_with_a_snapshot.applies k ≡ refusal_36_pinned_file_with_a_snapshot.applies l
  unfolding refusal_36_pinned_file_with_a_snapshot
  same_36 = each_any _ _ (λ f g r i. is_pinned (r.tie i) && (r.recorded i)) a.files

-- a check that does not refuse does not apply, and leaves the rest
pub passed : (c : Check) (cs : List Check) (k : Facts) → 1 ≤ c.number → first_of (c ∷ cs) k ≡ 0 → (c.applies k ≡ false) × (first_of cs k ≡ 0)
unfolding first_of pick
passed c cs k h e = go (c.applies k) refl e
  where
    go : (b : Bool) → c.applies k ≡ b → pick b c.number (first_of cs k) ≡ 0 → (c.applies k ≡ false) × (first_of cs k ≡ 0)
    go true q f = absurd (omega arith)
    go false q f = (q, f)

-- with 32 names there are more than 32 machines
many_37 : (k : Facts) → 32 ≤ k.names → refusal_37_too_many_machines.applies k ≡ true
unfolding refusal_37_too_many_machines machine_count
many_37 k h = lt-ltb 32 (1 + (k.names + length (unnamed k))) (omega arith)

pub many_refused : (k l : Facts) → AlikeFacts k l → 32 ≤ k.names → 32 ≤ l.names → first_of checks k ≡ first_of checks l
unfolding first_of
many_refused k l a h g = λ i.
    pick (same_32 a i) refusal_32_path_not_in_sheet.number
    (pick (same_33 a i) refusal_33_clocks_on_a_container.number
    (pick (same_34 a i) refusal_34_id_not_declared.number
    (pick (same_35 a i) refusal_35_machine_on_several_sources.number
    (pick (same_36 a i) refusal_36_pinned_file_with_a_snapshot.number
    (pick ((many_37 k h ∙ sym (many_37 l g)) i) refusal_37_too_many_machines.number 0)))))

-- and what 37 lets through has at most 31 names
pub few_names : (k : Facts) → first_of checks k ≡ 0 → k.names ≤ 31
unfolding refusal_32_path_not_in_sheet refusal_33_clocks_on_a_container refusal_34_id_not_declared refusal_35_machine_on_several_sources refusal_36_pinned_file_with_a_snapshot refusal_37_too_many_machines machine_count
few_names k e =
    let after-32 = passed _ _ k (omega arith) e in
    let after-33 = passed _ _ k (omega arith) after-32.1 in
    let after-34 = passed _ _ k (omega arith) after-33.1 in
    let after-35 = passed _ _ k (omega arith) after-34.1 in
    let after-36 = passed _ _ k (omega arith) after-35.1 in
    let after-37 = passed _ _ k (omega arith) after-36.1 in
    let n : 1 + (k.names + length (unnamed k)) ≤ 32 = ltb-false 32 _ after-37.0 in
    omega arith
