-- The two clocks that an entry relates, by positions, and when they are one. Assumes nothing.
use Rattle.std.specs.Prelude.{◌≡◌, Bool, ◌&&◌, List, ℕ, eqb}
use Rattle.std.proofs.Math.Path.{refl, sym, ap}
use Rattle.std.proofs.Common.{◌∙◌, eq-eqb, ne_eqb}
use Rattle.std.proofs.Math.Bool.{true, false}
use Rattle.text.specs.Reading.{Text, Out, done, bad, deep, pick}
use Rattle.text.specs.Strings.{string}
use Rattle.text.specs.laws.Readers.{pick_true, pick_false}
use Rattle.grammar.specs.Tree.{same}
use Rattle.grammar.proofs.laws.Order.{same_refl}
use Rattle.manifest.specs.View.{Cell}
use Rattle.manifest.specs.Rules.{Whose, host, called, Clock, private, shared, cited_or, base, clock_at, same_machine, same_clock, domain}
use Rattle.outline.specs.Outline.{domain_at, text_in as textInOf, text_at as textAtOf}
use Rattle.index.specs.Index.{text_in, text_at, col_of, at, text_cell, entry_at, whose_at}
use Rattle.finds.specs.Finds.{base_at}
use Rattle.finds.specs.laws.Bases.{cited_whose, base_right}
use Rattle.cited.specs.laws.Apart.{Apart, Among, apart_at}
use Rattle.cited.specs.Itself.{own_clock, other_clock}

-- ---- the clocks

-- the two clocks of an entry where they have names
abbrev pub own_shared : Text → List ℕ → ℕ → Clock
own_shared s ix i = shared (cited_or (text_cell s (col_of ix i 6)) (base (entry_at s ix i))) (domain (text_at s (col_of ix i 5)))

abbrev pub other_shared : Text → List ℕ → ℕ → ℕ → Clock
other_shared s ix i e = shared (cited_or (text_cell s (col_of ix i 9)) (base (entry_at s ix e))) (domain (text_at s (col_of ix i 10)))

-- p is where a clock's name stands, m where its machine's does, in a relation for the file of entry i
module _ (s : Text) (ix : List ℕ) (i p m : ℕ) where
  clock_private : p ≡ 0 → clock_at i (entry_at s ix i) (text_cell s p) (text_cell s m) ≡ private i
  unfolding at clock_at
  clock_private z = ap (λ (c : Cell Text). clock_at i (entry_at s ix i) c (text_cell s m)) (pick_true _ _ (eq-eqb p 0 z))

  clock_shared : (p ≡ 0 → ⊥) → clock_at i (entry_at s ix i) (text_cell s p) (text_cell s m) ≡ shared (cited_or (text_cell s m) (base (entry_at s ix i))) (domain (text_at s p))
  unfolding at clock_at
  clock_shared z = ap (λ (c : Cell Text). clock_at i (entry_at s ix i) c (text_cell s m)) (pick_false _ _ (ne_eqb p 0 z))

-- own and other are where the two names stand
module _ (s : Text) (ix : List ℕ) (i e : ℕ) {own : ℕ} (eo : own ≡ col_of ix i 5) {other : ℕ} (et : other ≡ col_of ix i 10) where
  clocks_are : {c d : Clock} → own_clock s ix i ≡ c → other_clock s ix i e ≡ d → same_clock (own_clock s ix i) (other_clock s ix i e) ≡ same_clock c d
  clocks_are f g = λ j. same_clock (f j) (g j)

  own_private : own ≡ 0 → own_clock s ix i ≡ private i
  own_private z = clock_private s ix i (col_of ix i 5) (col_of ix i 6) (sym eo ∙ z)

  own_shared_lem : (own ≡ 0 → ⊥) → own_clock s ix i ≡ own_shared s ix i
  own_shared_lem z = clock_shared s ix i (col_of ix i 5) (col_of ix i 6) (λ q. z (eo ∙ q))

  other_private : other ≡ 0 → other_clock s ix i e ≡ private e
  other_private z = clock_private s ix e (col_of ix i 10) (col_of ix i 9) (sym et ∙ z)

  other_shared_lem : (other ≡ 0 → ⊥) → other_clock s ix i e ≡ other_shared s ix i e
  other_shared_lem z = clock_shared s ix e (col_of ix i 10) (col_of ix i 9) (λ q. z (et ∙ q))

  pub both_private : own ≡ 0 → other ≡ 0 → eqb i e ≡ same_clock (own_clock s ix i) (other_clock s ix i e)
  unfolding same_clock
  both_private y z = sym (clocks_are (own_private y) (other_private z))

  pub private_shared : own ≡ 0 → (other ≡ 0 → ⊥) → false ≡ same_clock (own_clock s ix i) (other_clock s ix i e)
  unfolding same_clock
  private_shared y z = sym (clocks_are (own_private y) (other_shared_lem z))

  pub shared_private : (own ≡ 0 → ⊥) → other ≡ 0 → false ≡ same_clock (own_clock s ix i) (other_clock s ix i e)
  unfolding same_clock
  shared_private y z = sym (clocks_are (own_shared_lem y) (other_private z))

  pub both_shared : (own ≡ 0 → ⊥) → (other ≡ 0 → ⊥) → {r : Bool} → r ≡ same_clock (own_shared s ix i) (other_shared s ix i e) → r ≡ same_clock (own_clock s ix i) (other_clock s ix i e)
  both_shared y z er = er ∙ sym (clocks_are (own_shared_lem y) (other_shared_lem z))

-- ---- machines

module _ (s : Text) (p q : ℕ) where
  host_at : (p : ℕ) → p ≡ 0 → whose_at s p ≡ host
  unfolding whose_at
  host_at p z = pick_true _ _ (eq-eqb p 0 z)

  called_at : (p : ℕ) → (p ≡ 0 → ⊥) → whose_at s p ≡ called (text_at s p)
  unfolding whose_at
  called_at p z = pick_false _ _ (ne_eqb p 0 z)

  pub machine_host : p ≡ 0 → eqb q 0 ≡ same_machine (whose_at s p) (whose_at s q)
  unfolding whose_at same_machine pick
  machine_host z = go (eqb q 0) ∙ sym (ap (λ (w : Whose). same_machine w (whose_at s q)) (host_at p z))
    where
      go : (b : Bool) → b ≡ same_machine host (pick b host (called (text_at s q)))
      go true = refl
      go false = refl

  pub machine_called : (p ≡ 0 → ⊥) → q ≡ 0 → false ≡ same_machine (whose_at s p) (whose_at s q)
  unfolding same_machine
  machine_called y z = sym (λ j. same_machine (called_at p y j) (host_at q z j))

  pub machine_names : (p ≡ 0 → ⊥) → (q ≡ 0 → ⊥) → {r : Bool} → r ≡ same (text_at s p) (text_at s q) → r ≡ same_machine (whose_at s p) (whose_at s q)
  unfolding same_machine
  machine_names y z er = er ∙ sym (λ j. same_machine (called_at p y j) (called_at q z j))

  -- one name; two positions of different names
  pub machine_itself : (p ≡ 0 → ⊥) → (q ≡ 0 → ⊥) → p ≡ q → true ≡ same_machine (whose_at s p) (whose_at s q)
  machine_itself y z e = machine_names y z (sym (ap (λ (r : ℕ). same (text_at s p) (text_at s r)) (sym e) ∙ same_refl (text_at s p)))

  pub machine_apart : (p ≡ 0 → ⊥) → (q ≡ 0 → ⊥) → (p ≡ q → ⊥) → {firsts : List ℕ} → Apart s firsts → Among firsts p → Among firsts q → false ≡ same_machine (whose_at s p) (whose_at s q)
  machine_apart y z n a f g = machine_names y z (sym (apart_at a y z n f g))

-- ---- named clocks

-- the text at a position is the same by both definitions
domain_is : (s : Text) (p : ℕ) → domain_at s p ≡ domain (text_at s p)
unfolding domain_at text_at textAtOf text_in textInOf
domain_is s p = ap domain (go (string s p))
  where
    go : (o : Out Text) → textInOf o ≡ text_in o
    go (done t j) = refl
    go (bad q) = refl
    go (deep q) = refl

-- a cited machine, or the base machine of entry i's file, by its position
machine_is : (s : Text) (ix : List ℕ) (p i : ℕ) → cited_or (text_cell s p) (base (entry_at s ix i)) ≡ whose_at s (pick (eqb p 0) (base_at s ix i) p)
machine_is s ix p i = ap (cited_or (text_cell s p)) (base_right s ix i) ∙ cited_whose s p (base_at s ix i)

-- in the code's values: the machine is cited at k, and its name stands at m
machine_by : (s : Text) (ix : List ℕ) (i : ℕ) {p k : ℕ} → k ≡ p → {m : ℕ} → m ≡ pick (eqb k 0) (base_at s ix i) k → cited_or (text_cell s p) (base (entry_at s ix i)) ≡ whose_at s m
machine_by s ix i {p} {k} ek {m} em =
    ap (λ (q : ℕ). cited_or (text_cell s q) (base (entry_at s ix i))) (sym ek) ∙ machine_is s ix k i ∙ ap (whose_at s) (sym em)

-- m, n are where the names of the two machines stand
module _ (s : Text) (ix : List ℕ) (i e : ℕ)
    {k : ℕ} (ek : k ≡ col_of ix i 6) {m : ℕ} (em : m ≡ pick (eqb k 0) (base_at s ix i) k)
    {l : ℕ} (el : l ≡ col_of ix i 9) {n : ℕ} (en : n ≡ pick (eqb l 0) (base_at s ix e) l)
    {r : Bool} (er : r ≡ same_machine (whose_at s m) (whose_at s n)) where
  abbrev domains : Bool
  domains = eqb (domain (text_at s (col_of ix i 5))) (domain (text_at s (col_of ix i 10)))

  machines : same_clock (own_shared s ix i) (other_shared s ix i e) ≡ (r && domains)
  unfolding same_clock
  machines =
      let f = machine_by s ix i ek em in
      let g = machine_by s ix e el en in
      (λ j. same_machine (f j) (g j) && domains) ∙ ap (λ (b : Bool). b && domains) (sym er)

  pub other_machine : r ≡ false → false ≡ same_clock (own_shared s ix i) (other_shared s ix i e)
  other_machine z = sym (machines ∙ ap (λ (b : Bool). b && domains) z)

  -- c, d are the domains of the two clocks, by their names' positions
  pub same_machines : r ≡ true
      → {p : ℕ} → p ≡ col_of ix i 5 → {c : ℕ} → c ≡ domain_at s p
      → {q : ℕ} → q ≡ col_of ix i 10 → {d : ℕ} → d ≡ domain_at s q
      → {t : Bool} → t ≡ eqb c d
      → t ≡ same_clock (own_shared s ix i) (other_shared s ix i e)
  same_machines z ep ec eq ed et =
      et
      ∙ (λ j. eqb (ec j) (ed j))
      ∙ (λ j. eqb (domain_at s (ep j)) (domain_at s (eq j)))
      ∙ (λ j. eqb (domain_is s (col_of ix i 5) j) (domain_is s (col_of ix i 10) j))
      ∙ sym (machines ∙ ap (λ (b : Bool). b && domains) z)
