-- A walk over the cells of an index that tell where names stand: the cells that are left lead to the end, and meanwhile the index reads as at the beginning. Assumes nothing.
use Rattle.std.specs.Prelude.{◌≡◌, Bool, false, not, ◌||◌, ◌&&◌, ℕ, ◌+◌, ◌*◌, ◌-◌, ◌≤◌, ◌<◌, eqb, length, get_or, take, drop, replicate}
use Rattle.std.proofs.Math.Path.{refl, ap}
use Rattle.std.proofs.Common.{sym, subst, ◌∙◌, add-one, length-take, length-drop, take-append-drop, get_or-take, get_or-drop, ext_get_or}
use mathlib.Core.List.{List, [], ◌∷◌, ◌++◌}
use native.Mathlib.Omega.{arith}
use Rattle.std.proofs.lemmas.List.{length-replicate}
use Rattle.text.specs.Reading.{Text}
use Rattle.manifest.specs.Rows.{any, flat, declared, cited_machines}
use Rattle.manifest.specs.Rules.{no_name}
use Rattle.manifest.specs.Statements.{All, all_none, all_one}
use Rattle.index.specs.Index.{col_of, entries_in, items_in, listed, entry_at, manifest_of}
use Rattle.index.proofs.laws.Entries.{from, from_past, from_here}
use Rattle.listed.specs.Settled.{item_cell, entry_cells, name_cells, Settled, cell_settled, cells_settled, settled, firsts_in}
use Rattle.listed.specs.laws.Parts.{Table, so_far, size_at, item_names}
use Rattle.listed.specs.laws.Cells.{AllSome, none_some, cells_append, cells_all_some}
use Rattle.listed.specs.laws.Alike.{NameCell, of_trace, of_machine, of_clocks, of_sync, of_item, entry_cells_lem, Alike, alike_refl, alike_then, alike_entries, alike_items, alike_cells, alike_manifest, cells_alike}
use Rattle.listed.specs.laws.Firsts.{zero_at}
use Rattle.listed.specs.laws.Sizes.{inside}
use Rattle.listed.specs.laws.Sized.{no_size, cited_told, declared_told}

-- from state t the cells l lead to the end; the index reads as ix, the one at the beginning
pub record Onward (s : Text) (ix : List ℕ) (end : Settled) (l : List ℕ) (t : Settled) : Type 0 where
  pub ends : cells_settled s l t ≡ end
  pub alike : Alike s ix t.index
  pub some : AllSome t.firsts

module _ {s : Text} {ix : List ℕ} {end : Settled} where
  onward_start : {l firsts : List ℕ} → cells_settled s l (record { firsts = firsts; index = ix }) ≡ end → AllSome firsts → Onward s ix end l (record { firsts = firsts; index = ix })
  onward_start e a = record { ends = e; alike = alike_refl s ix; some = a }

  module _ {t u : Settled} {l : List ℕ} where
    onward_cells : {k : List ℕ} → All NameCell k → Onward s ix end (k ++ l) t → u ≡ cells_settled s k t → Onward s ix end l u
    onward_cells {k} n o e = record {
      ends = ap (cells_settled s l) e ∙ sym (cells_append s k l t) ∙ o.ends;
      alike = alike_then o.alike (subst (λ (v : Settled). Alike s t.index v.index) (sym e) (cells_alike s n t o.some));
      some = subst (λ (v : Settled). AllSome v.firsts) (sym e) (cells_all_some s k t o.some);
    }

    onward_cell : {c : ℕ} → NameCell c → Onward s ix end (c ∷ l) t → u ≡ cell_settled s c t → Onward s ix end l u
    unfolding cells_settled
    onward_cell n o e = onward_cells (all_one n all_none) o e

  onward_end : {t : Settled} → Onward s ix end [] t → t ≡ end
  unfolding cells_settled
  onward_end o = o.ends

-- ---- a table of names

-- with none
pub table_none : {s prints lengths texts : List ℕ} → length prints ≡ 32 → length lengths ≡ 32 → length texts ≡ 8448 → Table s (replicate 32 0) prints lengths texts 0
table_none a b d = record {
  few = omega arith;
  long = (length-replicate {A = ℕ} 32 0, a, b);
  room = d;
  some = λ k h. absurd (omega arith);
  none = λ k h. zero_at 32 k;
  printed = λ k h. absurd (omega arith);
  measured = λ k h. absurd (omega arith);
  bytes = λ k h. absurd (omega arith);
}

-- zeros are behind the first positions
table_firsts : {s firsts prints lengths texts : List ℕ} {n : ℕ} → Table s firsts prints lengths texts n → firsts ≡ take n firsts ++ replicate (32 - length (take n firsts)) 0
table_firsts {firsts = firsts} {n = n} t =
    let l : length (take n firsts) ≡ n = omega (arith, length-take n firsts, t.few, t.long.0) in
    let d : length (drop n firsts) ≡ 32 - n = omega (arith, length-drop n firsts, t.long.0) in
    let z : drop n firsts ≡ replicate (32 - n) 0 = ext_get_or 0 (drop n firsts) (replicate (32 - n) 0) (d ∙ sym (length-replicate (32 - n) 0)) (λ k h. get_or-drop n firsts k 0 ∙ t.none (n + k) (omega arith) ∙ sym (zero_at (32 - n) k)) in
    sym (take-append-drop n firsts)
    ∙ ap (λ (r : List ℕ). take n firsts ++ r) (z ∙ ap (λ (k : ℕ). replicate (32 - k) 0) (sym l))

-- they are positions
table_some : {s firsts prints lengths texts : List ℕ} {n : ℕ} → Table s firsts prints lengths texts n → AllSome (take n firsts)
table_some {firsts = firsts} {n = n} t k h e =
    let b : k < n = omega (arith, length-take n firsts) in
    t.some k b (sym (get_or-take n firsts k 0 b) ∙ e)

-- ---- the items of an entry, from number k on

abbrev pub items_left : ℕ → ℕ → ℕ → List ℕ
items_left i n k = from (item_cell i) n k

module _ {s : Text} {ix : List ℕ} (i n : ℕ) where
  pub items_first : {firsts prints lengths texts : List ℕ} {m : ℕ} → Table s firsts prints lengths texts m → Onward s ix (cells_settled s (listed (item_cell i) 0 n) (so_far firsts m ix)) (items_left i n 0) (so_far firsts m ix)
  unfolding from
  items_first {firsts} {m = m} a =
      let z : n - 0 ≡ n = omega arith in
      onward_start (ap (λ (k : ℕ). cells_settled s (listed (item_cell i) 0 k) (so_far firsts m ix)) z) (table_some a)

  module _ {end t : Settled} (k : ℕ) (o : Onward s ix end (items_left i n k) t) where
    pub items_last : n ≤ k → t ≡ end
    items_last h = onward_end (subst (λ (l : List ℕ). Onward s ix end l t) (from_past (item_cell i) n k h) o)

    pub items_next : k < n → k < 32 → {u : Settled} → u ≡ cell_settled s (item_cell i k) t → Onward s ix end (items_left i n (k + 1)) u
    items_next h g e =
        let l : items_left i n k ≡ item_cell i k ∷ items_left i n (k + 1) = from_here (item_cell i) n k h ∙ ap (λ (j : ℕ). item_cell i k ∷ items_left i n j) (sym (add-one k)) in
        onward_cell (of_item i k g refl) (subst (λ (l : List ℕ). Onward s ix end l t) l o) e

-- ---- the cells of entry i, one after the other

module _ {s : Text} (ix : List ℕ) {i : ℕ} (h : i < 32) {firsts prints lengths texts : List ℕ} {n : ℕ} (t : Table s firsts prints lengths texts n) {u v w : Settled} (eu : u ≡ cell_settled s (6 + (77 * i + 2)) (so_far firsts n ix)) (ev : v ≡ cell_settled s (6 + (77 * i + 6)) u) (ew : w ≡ cell_settled s (6 + (77 * i + 9)) v) where
  abbrev end : Settled
  end = cells_settled s (entry_cells ix i) (so_far firsts n ix)

  abbrev items : List ℕ
  items = listed (item_cell i) 0 (items_in ix i)

  after_machine : Onward s ix end ((6 + (77 * i + 6)) ∷ (6 + (77 * i + 9)) ∷ items) u
  unfolding entry_cells
  after_machine = onward_cell (of_machine i refl) (onward_start refl (table_some t)) eu

  after_clocks : Onward s ix end ((6 + (77 * i + 9)) ∷ items) v
  after_clocks = onward_cell (of_clocks i refl) after_machine ev

  after_sync : Onward s ix end items w
  after_sync = onward_cell (of_sync i refl) after_clocks ew

  module _ {m : ℕ} (em : m ≡ items_in ix i) where
    pub entry_items : m ≡ items_in w.index i
    entry_items = em ∙ sym (alike_items after_sync.alike i)

    pub entry_end : {x : Settled} → x ≡ cells_settled s (listed (item_cell i) 0 m) w → x ≡ end
    entry_end e = e ∙ ap (λ (k : ℕ). cells_settled s (listed (item_cell i) 0 k) w) em ∙ after_sync.ends

  pub entry_cited : {clocks place sync own other : ℕ} → clocks ≡ col_of ix i 4 → place ≡ col_of ix i 7 → sync ≡ inside clocks place → own ≡ size_at s (get_or u.index (6 + (77 * i + 6)) 0) → other ≡ size_at s (get_or v.index (6 + (77 * i + 9)) 0) → {b d r : Bool} → b ≡ (not (eqb clocks 0) && no_size own) → d ≡ (not (eqb sync 0) && no_size other) → r ≡ (b || d) → r ≡ any no_name (cited_machines (entry_at s ix i))
  entry_cited = cited_told h after_machine.alike after_clocks.alike

  pub entry_declared : (f : ℕ → Bool) → f 1 ≡ false → {machine name : ℕ} → machine ≡ col_of ix i 1 → name ≡ size_at s (get_or ix (6 + (77 * i + 2)) 0) → {b d r : Bool} → b ≡ (not (eqb machine 0) && f name) → d ≡ any (λ x. f (length x)) (item_names s w.index i) → r ≡ (b || d) → r ≡ any (λ x. f (length x)) (declared (entry_at s ix i))
  entry_declared f none = declared_told h f none after_sync.alike

-- ---- the entries, from number i on

abbrev pub entries_left : List ℕ → ℕ → ℕ → List ℕ
entries_left ix n i = flat (entry_cells ix) (from (λ j. j) n i)

module _ {s : Text} {ix : List ℕ} (n : ℕ) where
  module _ {end t : Settled} (i : ℕ) (o : Onward s ix end (entries_left ix n i) t) where
    pub entries_last : n ≤ i → t ≡ end
    unfolding flat
    entries_last h = onward_end (subst (λ (l : List ℕ). Onward s ix end (flat (entry_cells ix) l) t) (from_past (λ j. j) n i h) o)

    pub entries_next : i < n → {u : Settled} → u ≡ cells_settled s (entry_cells t.index i) t → Onward s ix end (entries_left ix n (i + 1)) u
    unfolding flat
    entries_next h e =
        let l : from (λ j. j) n i ≡ i ∷ from (λ j. j) n (i + 1) = from_here (λ j. j) n i h ∙ ap (λ (j : ℕ). i ∷ from (λ j. j) n j) (sym (add-one i)) in
        onward_cells (entry_cells_lem ix i) (subst (λ (l : List ℕ). Onward s ix end (flat (entry_cells ix) l) t) l o) (e ∙ ap (λ (k : List ℕ). cells_settled s k t) (alike_cells o.alike i))

-- ---- the name of `trace_time`, then the entries: those of the index after the first cell

module _ (s : Text) (ix : List ℕ) {u : Settled} (e : u ≡ cell_settled s 4 (record { firsts = []; index = ix })) where
  after_trace : Onward s ix (settled s ix) (flat (entry_cells ix) (listed (λ j. j) 0 (entries_in ix))) u
  unfolding settled name_cells
  after_trace = onward_cell (of_trace refl) (onward_start refl none_some) e

  pub manifest_still : manifest_of s u.index ≡ manifest_of s ix
  manifest_still = alike_manifest after_trace.alike

  pub entries_first : (n : ℕ) → Onward s u.index (cells_settled s (entries_left u.index n 0) u) (entries_left u.index n 0) u
  entries_first n = onward_start refl after_trace.some

  pub entries_all : {n : ℕ} → n ≡ entries_in u.index → cells_settled s (entries_left u.index n 0) u ≡ settled s ix
  unfolding from
  entries_all {n} en =
      let z : n - 0 ≡ n = omega arith in
      (λ r. cells_settled s (flat (λ i. alike_cells after_trace.alike i r) (listed (λ j. j) 0 ((z ∙ en ∙ alike_entries after_trace.alike) r))) u) ∙ after_trace.ends

-- at the end the table holds the first positions
pub firsts_are : {s : Text} (ix : List ℕ) {firsts prints lengths texts iy : List ℕ} {n : ℕ} → Table s firsts prints lengths texts n → so_far firsts n iy ≡ settled s ix → firsts ≡ firsts_in s ix
unfolding firsts_in
firsts_are ix t e = table_firsts t ∙ ap (λ (u : Settled). u.firsts ++ replicate (32 - length u.firsts) 0) e
