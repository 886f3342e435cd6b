-- The entries: their members, the rows of the objects in them, and their blocks. The idea: what is kept of the objects in an entry is what reading each by itself
-- tells, and 0 where there is none. Assumes nothing.
use mathlib.Core.Path.{◌≡◌, refl, sym, ap, subst, ◌∙◌}
use mathlib.Core.Bool.{false, not, ◌&&◌, ◌||◌}
use mathlib.Core.List.{List, [], ◌∷◌, ◌++◌}
use Prim.Native.Nat.{ℕ, ◌+◌, ◌≤◌, ◌<◌}
use native.Mathlib.Decide.{ℕ_discrete}
use native.Mathlib.Omega.{arith}
use lib.Dec.{eqb, ltb}
use lib.ListN.{length, get_or, set, replicate}
use borrow.Author.Tests.{eq-eqb, ne_eqb}
use Rattle.text.specs.Reading.{Text, pick, scan}
use Rattle.text.specs.declared.Scan.TheVariants.{Done}
use Rattle.text.specs.Class.{skip}
use Rattle.text.specs.Strings.{string}
use Rattle.text.specs.laws.Readers.{pick_true}
use Rattle.grammar.specs.Tree.{Tree, obj}
use Rattle.grammar.specs.Document.{name}
use Rattle.values.specs.Stands.{Stands}
use Rattle.values.specs.laws.Outs.{Gives}
use Rattle.manifest.specs.Names.{bytes}
use Rattle.manifest.proofs.laws.Judge.{tag}
use Rattle.table.specs.Table.{line_at, wanted_of, value_kind}
use Rattle.table.specs.laws.Looking.{LineOf}
use Rattle.table.specs.laws.Some.{some}
use Rattle.index.specs.Index.{column, items_of, rows, item_row, entry_row, block}
use Rattle.index.proofs.laws.Put.{Put, put_none, put_before, put_same, put_length}
use Rattle.fills.specs.laws.Blank.{Blank, blank_on, put_rest}
use Rattle.survey.specs.laws.Walked.{Fine, Fits, Entered, slot, Noted, Row, Inner, gone, stood, Kept, RowAt, clock_numbers, Clocks, ClocksAt, Machines, MachinesAt, Told, Holds, Puts, EntryPuts, EntryHolds}
use Rattle.survey.proofs.Stepping.{stands_low, entered}
use Rattle.survey.proofs.Walking.{Walking}
use Rattle.survey.proofs.Objects.{scalar_fine, scalars_but, stands_same, its_members, row_value, row_stands, row_fine}
use Rattle.survey.proofs.Arrays.{long, array_value, array_places, array_fine}
use Rattle.survey.proofs.Known.{known_column, known_fine, line_0, line_1, line_2, line_3, line_4, line_5, line_6, line_9, line_10, line_11, line_12, line_13}
use Rattle.survey.proofs.Items.{leaf_sync, leaf_machine, inner_of, inner_known, inner_fine}
use Rattle.survey.proofs.Holding.{object_fits, array_fits, puts_this, puts_none, holds_none, holds_kept, found_on}

-- ---- a member

wants_machines : wanted_of 7 ≡ 5
unfolding wanted_of pick
wants_machines = refl

wants_clocks : wanted_of 4 ≡ 6
unfolding wanted_of pick
wants_clocks = refl

-- `sync_to` in `clocks`
module _ (s : Text) (i : ℕ) {j : ℕ} (en : scan (name s i) ≡ Done j) {line : ℕ} (lo : Gives (λ k n. LineOf 4 k line) (string s i)) {v : ℕ} (ev : v ≡ skip s j) {old new : List ℕ} {e : ℕ} where
  pub sync_entered : line ≡ 5 → Kept 3 10 s v e new → Entered 4 11 s i line v e × Puts (RowAt 3 10 s) 5 line v old new
  sync_entered h m = (entered 4 11 s i en lo ev refl (object_fits line_5 h leaf_sync.wants m.row m.ends), puts_this (RowAt 3 10 s) h m.row)

  pub other_entered : (line ≡ 5 → ⊥) → {k : ℕ} → k ≡ value_kind line → Fits k 11 s v e → new ≡ old → Entered 4 11 s i line v e × Puts (RowAt 3 10 s) 5 line v old new
  other_entered n ek f q = (entered 4 11 s i en lo ev ek f, puts_none (RowAt 3 10 s) n q)

-- `clocks`, if nothing was kept of `sync_to` before
pub clocks_told : (s : Text) (p : ℕ) {own sync : List ℕ} → Row 4 11 s p own × Holds (RowAt 3 10 s) (get_or own 3 0) (replicate 5 0) sync → Clocks s p (get_or own 0 0) (clock_numbers own sync)
clocks_told s p {own} {sync} (w, a) = record { own = own; sync = sync; row = w; ends = refl; inside = inner_of a; is = refl }

-- what stands in an entry
module _ (s : Text) (base : ℕ) {line v e : ℕ} where
  pub machine_put : {ix machine machine' clocks : List ℕ} → line ≡ 11 → Kept 6 11 s v e machine' → Fits (value_kind line) 12 s v e × EntryPuts s base line v ix ix machine machine' clocks clocks
  machine_put h m = (
    object_fits line_11 h leaf_machine.wants m.row m.ends,
    record {
      items = puts_none (MachinesAt s (base + 12)) (λ z. omega arith) refl;
      machine = puts_this (RowAt 6 11 s) h m.row;
      clocks = puts_none (ClocksAt s) (λ z. omega arith) refl;
    },
  )

  pub items_put : {ix ix' machine clocks : List ℕ} → line ≡ 12 → Machines s (base + 12) v e ix ix' → Fits (value_kind line) 12 s v e × EntryPuts s base line v ix ix' machine machine clocks clocks
  items_put h m = (
    array_fits line_12 h wants_machines m.listed,
    record {
      items = puts_this (MachinesAt s (base + 12)) h (e, m);
      machine = puts_none (RowAt 6 11 s) (λ z. omega arith) refl;
      clocks = puts_none (ClocksAt s) (λ z. omega arith) refl;
    },
  )

  pub clocks_put : {ix machine clocks clocks' : List ℕ} → line ≡ 13 → Clocks s v e clocks' → Fits (value_kind line) 12 s v e × EntryPuts s base line v ix ix machine machine clocks clocks'
  clocks_put h m = (
    object_fits line_13 h wants_clocks m.row m.ends,
    record {
      items = puts_none (MachinesAt s (base + 12)) (λ z. omega arith) refl;
      machine = puts_none (RowAt 6 11 s) (λ z. omega arith) refl;
      clocks = puts_this (ClocksAt s) h (e, m);
    },
  )

  pub other_put : {ix machine clocks : List ℕ} → (line ≡ 11 → ⊥) → (line ≡ 12 → ⊥) → (line ≡ 13 → ⊥) → {k : ℕ} → k ≡ value_kind line → Fits k 12 s v e → Fits (value_kind line) 12 s v e × EntryPuts s base line v ix ix machine machine clocks clocks
  other_put a b c ek f = (
    subst (λ (x : ℕ). Fits x 12 s v e) ek f,
    record { items = puts_none (MachinesAt s (base + 12)) b refl; machine = puts_none (RowAt 6 11 s) a refl; clocks = puts_none (ClocksAt s) c refl },
  )

-- ---- the walk over an entry

pub entry_none : (s : Text) (base : ℕ) (ix machine clocks : List ℕ) → EntryHolds s base (replicate 5 0) ix ix machine machine clocks clocks
entry_none s base ix machine clocks =
    record { items = holds_none (MachinesAt s (base + 12)) ix; machine = holds_none (RowAt 6 11 s) machine; clocks = holds_none (ClocksAt s) clocks }

-- one member more
pub entry_on : (s : Text) (p base : ℕ) {i : ℕ} {found : List ℕ} → Walking 8 12 s p i found → {line v e : ℕ} → Entered 8 12 s i line v e → {new : List ℕ} → Noted 8 line v found new → {ix₀ ix ix' machine₀ machine machine' clocks₀ clocks clocks' : List ℕ}
    → EntryHolds s base found ix₀ ix machine₀ machine clocks₀ clocks → EntryPuts s base line v ix ix' machine machine' clocks clocks' → EntryHolds s base new ix₀ ix' machine₀ machine' clocks₀ clocks'
entry_on s p base w en d h q =
    record {
      items = found_on 12 line_12 s p (MachinesAt s (base + 12)) (omega arith) w en d h.items q.items;
      machine = found_on 12 line_11 s p (RowAt 6 11 s) (omega arith) w en d h.machine q.machine;
      clocks = found_on 12 line_13 s p (ClocksAt s) (omega arith) w en d h.clocks q.clocks;
    }

-- the end in front of the row
pub entry_kept : (s : Text) (base e : ℕ) (row : List ℕ) {ix₀ ix machine₀ machine clocks₀ clocks : List ℕ} → EntryHolds s base row ix₀ ix machine₀ machine clocks₀ clocks → EntryHolds s base (set row 0 e) ix₀ ix machine₀ machine clocks₀ clocks
entry_kept s base e row h =
    record {
      items = holds_kept (MachinesAt s (base + 12)) 2 e row h.items;
      machine = holds_kept (RowAt 6 11 s) 1 e row h.machine;
      clocks = holds_kept (ClocksAt s) 3 e row h.clocks;
    }

-- ---- flaws in what is inside

lines_clocks : some (λ j. eqb (line_at j).place 4 && not (ltb (line_at j).kind 3 || eqb j 5)) 20 ≡ false
unfolding some line_at
lines_clocks = refl

-- `clocks` with its `sync_to`
pub clocks_fine : (s : Text) (clocks : List ℕ) {sync : List ℕ} → Inner 3 10 s (get_or clocks 3 0) sync → {c : ℕ} → Inner 4 11 s c clocks → (c ≡ 0 → ⊥) → {t : Tree} → Stands s c t → Fine 4 t
unfolding wanted_of pick
clocks_fine s clocks here gone n st = absurd (n refl)
clocks_fine s clocks {sync} here {c} (stood m w) n st =
    subst (Fine 4) (stands_same (row_stands 4 11 s c w (omega arith)) st)
    (row_fine 4 11 s c w (omega arith) (omega arith) (λ z. omega arith) refl (λ j h g t a b ty. go j h g t (ℕ_discrete j 5) a b ty))
  where
    go : (j : ℕ) → j < 20 → (line_at j).place ≡ 4 → (t : Tree) → Dec (j ≡ 5) → (get_or clocks (slot 4 j) 0 ≡ 0 → ⊥) → Stands s (get_or clocks (slot 4 j) 0) t → (((line_at j).kind ≡ 2 → ⊥) → tag t ≡ wanted_of (line_at j).kind) → Fine (line_at j).kind t
    go j h g t (yes e) a b ty = known_fine line_5 s clocks (λ x y. inner_fine 3 10 leaf_sync (omega arith) s here x y) j e a b
    go j h g t (no e) a b ty = scalar_fine (line_at j).kind (scalars_but 4 (λ x. eqb x 5) lines_clocks j h g (ne_eqb j 5 e)) t ty

-- `machines`
machines_fine : (s : Text) (base : ℕ) {c e : ℕ} {old new : List ℕ} → Machines s base c e old new → {t : Tree} → Stands s c t → Fine 7 t
unfolding wanted_of pick
machines_fine s base {c} m st =
    subst (Fine 7) (stands_same (stands_low 12 (omega arith) s c (array_value 11 s c m.listed.opens m.listed.reads)) st)
    (array_fine 7 (omega arith) (λ z. omega arith) refl m.listed.items m.listed.fine)

lines_entry : some (λ j. eqb (line_at j).place 8 && not (ltb (line_at j).kind 3 || (eqb j 11 || (eqb j 12 || eqb j 13)))) 20 ≡ false
unfolding some line_at
lines_entry = refl

-- zeros where an entry has no `machines`
zeros_put : {old : List ℕ} {b : ℕ} → Blank old b → b + 65 ≤ length old → Put old b (replicate 65 0) old
unfolding rows
zeros_put {old} {b} z h = put_rest 1 (λ j. 0 ∷ []) 0 65 (λ j x y. refl) z (put_none old b (omega arith)) h

none_listed : (s : Text) → replicate 65 0 ≡ length (items_of s 0) ∷ rows (λ k. item_row s (get_or (items_of s 0) k 0)) 32
unfolding items_of item_row column rows pick
none_listed s = refl

-- ---- an entry

module _ (s : Text) (p : ℕ) (past : p ≡ 0 → ⊥) (base : ℕ) {own machine clocks sync old mid : List ℕ} (w : Row 8 12 s p own) (a : Holds (MachinesAt s (base + 12)) (get_or own 3 0) old mid)
    (im : Inner 6 11 s (get_or own 2 0) machine) (ic : Inner 4 11 s (get_or own 4 0) clocks) (is : Inner 3 10 s (get_or clocks 3 0) sync) where
  entry_fine : Fine 8 (obj (its_members 8 12 s p w))
  unfolding wanted_of pick
  entry_fine =
      row_fine 8 12 s p w (omega arith) (omega arith) (λ z. omega arith) refl (λ j h g t x y ty. go j h g t (ℕ_discrete j 11) (ℕ_discrete j 12) (ℕ_discrete j 13) x y ty)
    where
      go : (j : ℕ) → j < 20 → (line_at j).place ≡ 8 → (t : Tree) → Dec (j ≡ 11) → Dec (j ≡ 12) → Dec (j ≡ 13) → (get_or own (slot 8 j) 0 ≡ 0 → ⊥) → Stands s (get_or own (slot 8 j) 0) t → (((line_at j).kind ≡ 2 → ⊥) → tag t ≡ wanted_of (line_at j).kind) → Fine (line_at j).kind t
      go j h g t (yes e) d f x y ty = known_fine line_11 s own (λ n st. inner_fine 6 11 leaf_machine (omega arith) s im n st) j e x y
      go j h g t (no c) (yes e) f x y ty = known_fine line_12 s own (λ n st. machines_fine s (base + 12) (a.within n).1 st) j e x y
      go j h g t (no c) (no d) (yes e) x y ty = known_fine line_13 s own (λ n st. clocks_fine s clocks is ic n st) j e x y
      go j h g t (no c) (no d) (no f) x y ty =
          scalar_fine (line_at j).kind (scalars_but 8 (λ i. eqb i 11 || (eqb i 12 || eqb i 13)) lines_entry j h g (λ i. ne_eqb j 11 c i || (ne_eqb j 12 d i || ne_eqb j 13 f i))) t ty

  its_machines : column s p (bytes "machines") ≡ get_or own 3 0
  its_machines = known_column line_12 12 (omega arith) s p past w

  pub entry_sized : length mid ≡ length old
  entry_sized = go (ℕ_discrete (get_or own 3 0) 0)
    where
      go : Dec (get_or own 3 0 ≡ 0) → length mid ≡ length old
      go (yes z) = ap length (a.without z)
      go (no n) = (a.within n).1.sized

  entry_few : length (items_of s (column s p (bytes "machines"))) ≤ 32
  unfolding items_of
  entry_few = subst (λ (c : ℕ). length (items_of s c) ≤ 32) (sym its_machines) (go (ℕ_discrete (get_or own 3 0) 0))
    where
      go : Dec (get_or own 3 0 ≡ 0) → length (items_of s (get_or own 3 0)) ≤ 32
      go (yes z) = let e : length (items_of s (get_or own 3 0)) ≡ 0 = ap length (pick_true _ _ (eq-eqb (get_or own 3 0) 0 z)) in omega arith
      go (no n) =
          let m = (a.within n).1.listed in
          let e : length (items_of s (get_or own 3 0)) ≡ length m.items = ap length (array_places 11 s (get_or own 3 0) m.opens m.reads (omega arith) n) ∙ long m.items in
          omega (arith, m.few)

  listed_put : Blank old base → base + 77 ≤ length old → Put old (base + 12) (length (items_of s (get_or own 3 0)) ∷ rows (λ k. item_row s (get_or (items_of s (get_or own 3 0)) k 0)) 32) mid
  listed_put b fits = go (ℕ_discrete (get_or own 3 0) 0)
    where
      go : Dec (get_or own 3 0 ≡ 0) → Put old (base + 12) (length (items_of s (get_or own 3 0)) ∷ rows (λ k. item_row s (get_or (items_of s (get_or own 3 0)) k 0)) 32) mid
      go (yes z) =
          subst (λ (x : List ℕ). Put old (base + 12) (length (items_of s (get_or own 3 0)) ∷ rows (λ k. item_row s (get_or (items_of s (get_or own 3 0)) k 0)) 32) x) (sym (a.without z))
          (put_same (none_listed s ∙ ap (λ (c : ℕ). length (items_of s c) ∷ rows (λ k. item_row s (get_or (items_of s c) k 0)) 32) (sym z)) (zeros_put (blank_on 12 b) (omega arith)))
      go (no n) = (a.within n).1.put (blank_on 12 b)

  abbrev numbers : List ℕ
  numbers =
      get_or own 1 0 ∷ get_or own 2 0 ∷ get_or machine 1 0 ∷ get_or own 3 0 ∷ get_or own 4 0 ∷ get_or clocks 1 0 ∷ get_or clocks 2 0 ∷ get_or clocks 3 0
      ∷ get_or sync 1 0 ∷ get_or sync 2 0 ∷ get_or sync 3 0 ∷ get_or clocks 4 0 ∷ []

  block_is : numbers ++ (length (items_of s (get_or own 3 0)) ∷ rows (λ k. item_row s (get_or (items_of s (get_or own 3 0)) k 0)) 32) ≡ block s p
  unfolding block entry_row
  block_is =
      let low : 12 ≤ 15 = omega arith in
      let low' : 11 ≤ 15 = omega arith in
      let low'' : 10 ≤ 15 = omega arith in
      let e1 : get_or own 1 0 ≡ column s p (bytes "path") = sym (known_column line_10 12 low s p past w) in
      let e2 : get_or own 2 0 ≡ column s p (bytes "machine") = sym (known_column line_11 12 low s p past w) in
      let e3 : get_or own 3 0 ≡ column s p (bytes "machines") = sym its_machines in
      let e4 : get_or own 4 0 ≡ column s p (bytes "clocks") = sym (known_column line_13 12 low s p past w) in
      let m1 : get_or machine 1 0 ≡ column s (column s p (bytes "machine")) (bytes "name") = sym (inner_known line_9 11 low' s (get_or own 2 0) im) ∙ ap (λ (q : ℕ). column s q (bytes "name")) e2 in
      let c1 : get_or clocks 1 0 ≡ column s (column s p (bytes "clocks")) (bytes "clock") = sym (inner_known line_3 11 low' s (get_or own 4 0) ic) ∙ ap (λ (q : ℕ). column s q (bytes "clock")) e4 in
      let c2 : get_or clocks 2 0 ≡ column s (column s p (bytes "clocks")) (bytes "machine") = sym (inner_known line_4 11 low' s (get_or own 4 0) ic) ∙ ap (λ (q : ℕ). column s q (bytes "machine")) e4 in
      let c3 : get_or clocks 3 0 ≡ column s (column s p (bytes "clocks")) (bytes "sync_to") = sym (inner_known line_5 11 low' s (get_or own 4 0) ic) ∙ ap (λ (q : ℕ). column s q (bytes "sync_to")) e4 in
      let c4 : get_or clocks 4 0 ≡ column s (column s p (bytes "clocks")) (bytes "offset_ns") = sym (inner_known line_6 11 low' s (get_or own 4 0) ic) ∙ ap (λ (q : ℕ). column s q (bytes "offset_ns")) e4 in
      let s1 : get_or sync 1 0 ≡ column s (column s (column s p (bytes "clocks")) (bytes "sync_to")) (bytes "file") = sym (inner_known line_0 10 low'' s (get_or clocks 3 0) is) ∙ ap (λ (q : ℕ). column s q (bytes "file")) c3 in
      let s2 : get_or sync 2 0 ≡ column s (column s (column s p (bytes "clocks")) (bytes "sync_to")) (bytes "machine") = sym (inner_known line_1 10 low'' s (get_or clocks 3 0) is) ∙ ap (λ (q : ℕ). column s q (bytes "machine")) c3 in
      let s3 : get_or sync 3 0 ≡ column s (column s (column s p (bytes "clocks")) (bytes "sync_to")) (bytes "clock") = sym (inner_known line_2 10 low'' s (get_or clocks 3 0) is) ∙ ap (λ (q : ℕ). column s q (bytes "clock")) c3 in
      λ t. e1 t ∷ e2 t ∷ m1 t ∷ e3 t ∷ e4 t ∷ c1 t ∷ c2 t ∷ c3 t ∷ s1 t ∷ s2 t ∷ s3 t ∷ c4 t ∷ length (items_of s (e3 t)) ∷ rows (λ k. item_row s (get_or (items_of s (e3 t)) k 0)) 32

  rows_told : length old ≡ 2470 → base + 77 ≤ 2470 → {new : List ℕ} → Put mid base numbers new → Told s base p (get_or own 0 0) old new
  rows_told size fits q =
      record {
        tree = obj (its_members 8 12 s p w);
        reads = row_value 8 12 s p w;
        fine = entry_fine;
        sized = put_length q ∙ entry_sized;
        few = entry_few;
        put = λ b. put_same block_is (put_before refl (listed_put b (omega arith)) q);
      }

-- ---- `clocks` as it is kept

-- the numbers that are kept, of the rows of `clocks` and of its `sync_to`; both may be absent
record Timed (s : Text) (c : ℕ) (numbers : List ℕ) : Type 0 where
  own : List ℕ
  sync : List ℕ
  there : Inner 4 11 s c own
  inside : Inner 3 10 s (get_or own 3 0) sync
  is : numbers ≡ clock_numbers own sync

timed : {s : Text} {c : ℕ} {numbers : List ℕ} → Holds (ClocksAt s) c (replicate 8 0) numbers → Timed s c numbers
timed {s} {c} {numbers} a = go (ℕ_discrete c 0)
  where
    go : Dec (c ≡ 0) → Timed s c numbers
    go (yes z) =
        record {
          own = replicate 5 0;
          sync = replicate 5 0;
          there = subst (λ (x : ℕ). Inner 4 11 s x (replicate 5 0)) (sym z) gone;
          inside = gone;
          is = a.without z;
        }
    go (no n) = let m = (a.within n).1 in record { own = m.own; sync = m.sync; there = stood n m.row; inside = m.inside; is = m.is }

-- the numbers of an entry, as they are kept
abbrev pub entry_numbers : List ℕ → List ℕ → List ℕ → List ℕ
entry_numbers own machine clocks =
    get_or own 1 0 ∷ get_or own 2 0 ∷ get_or machine 1 0 ∷ get_or own 3 0 ∷ get_or own 4 0 ∷ get_or clocks 1 0 ∷ get_or clocks 2 0 ∷ get_or clocks 3 0
    ∷ get_or clocks 5 0 ∷ get_or clocks 6 0 ∷ get_or clocks 7 0 ∷ get_or clocks 4 0 ∷ []

pub entry_told : (s : Text) (p : ℕ) → (p ≡ 0 → ⊥) → (base : ℕ) {own machine clocks old mid : List ℕ} → Row 8 12 s p own → EntryHolds s base own old mid (replicate 5 0) machine (replicate 8 0) clocks → length old ≡ 2470 → base + 77 ≤ 2470
    → {new : List ℕ} → Put mid base (entry_numbers own machine clocks) new → Told s base p (get_or own 0 0) old new
entry_told s p past base {own} {machine} w h size fits q =
    let t = timed h.clocks in
    rows_told s p past base w h.items (inner_of h.machine) t.there t.inside size fits (put_same (ap (entry_numbers own machine) t.is) q)
