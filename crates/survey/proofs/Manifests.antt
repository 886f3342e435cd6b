-- The manifest object: its members, and its index. The idea: what is kept of `trace_time` is what reading it by itself tells, and 0 where there is none.
-- Assumes nothing.
use mathlib.Core.Path.{◌≡◌, refl, sym, ap, subst, ◌∙◌}
use mathlib.Core.Bool.{Bool, true, false, not, ◌&&◌, ◌||◌}
use mathlib.Core.List.{List, [], ◌∷◌, ◌++◌}
use Prim.Native.Nat.{ℕ, ◌*◌, ◌≤◌, ◌<◌}
use native.Mathlib.Decide.{ℕ_discrete}
use native.Mathlib.Omega.{arith}
use lib.Dec.{eqb, ltb}
use lib.ListN.{length, get_or, set, replicate}
use borrow.Author.Tests.{eq-eqb, ne_eqb, le-ltb}
use Rattle.text.specs.Reading.{Text, pick}
use Rattle.text.specs.laws.Readers.{pick_true}
use Rattle.grammar.specs.Tree.{Tree, obj}
use Rattle.values.specs.Stands.{Stands}
use Rattle.places.specs.Places.{members_at, places_of}
use Rattle.manifest.specs.Names.{bytes}
use Rattle.manifest.specs.Rows.{any}
use Rattle.manifest.specs.Statements.{All, all_none, all_one}
use Rattle.manifest.proofs.laws.Judge.{tag}
use Rattle.outline.specs.Outline.{not_1_at, version_places, versions_by, versions_at}
use Rattle.members.specs.Members.{member_refusal_in, member_refusal_at}
use Rattle.table.specs.Table.{line_at, wanted_of, value_kind}
use Rattle.table.specs.laws.Some.{some}
use Rattle.members.specs.laws.Judged.{both_flaws}
use Rattle.index.specs.Index.{column, items_of, rows, head_row, block, index_of, many_items, too_many}
use Rattle.index.proofs.laws.Back.{index_long, block_length}
use Rattle.index.proofs.laws.Put.{Put, put_none, put_before, put_same, put_all}
use Rattle.index.proofs.laws.Rows.{rows_length}
use Rattle.fills.specs.laws.Blank.{Blank, blank_zeros, blank_on, put_rest}
use Rattle.survey.specs.laws.Walked.{Fine, Fits, Entered, slot, Noted, Row, Inner, Kept, RowAt, Files, FilesAt, Manifest, Holds, ManifestPuts, ManifestHolds}
use Rattle.survey.proofs.Stepping.{stands_low}
use Rattle.survey.proofs.Walking.{Walking}
use Rattle.survey.proofs.Objects.{scalar_fine, scalars_but, stands_same, its_members, row_value, row_stands, row_single, row_fine}
use Rattle.survey.proofs.Arrays.{long, array_value, array_places, array_fine}
use Rattle.survey.proofs.Known.{known_column, known_fine, line_14, line_15, line_16, line_17, line_18, line_19}
use Rattle.survey.proofs.Items.{leaf_trace, inner_of, inner_known, inner_fine}
use Rattle.survey.proofs.Holding.{object_fits, array_fits, puts_this, puts_none, holds_none, holds_kept, found_on}
use Rattle.survey.proofs.Blocks.{no_entry}

-- ---- a member

wants_files : wanted_of 9 ≡ 5
unfolding wanted_of pick
wants_files = refl

module _ (s : Text) {line v e : ℕ} where
  pub trace_put : {ix trace trace' : List ℕ} → line ≡ 18 → Kept 10 13 s v e trace' → Fits (value_kind line) 14 s v e × ManifestPuts s line v ix ix trace trace'
  trace_put h m = (
    object_fits line_18 h leaf_trace.wants m.row m.ends,
    record { files = puts_none (FilesAt s) (λ z. omega arith) refl; trace = puts_this (RowAt 10 13 s) h m.row },
  )

  pub files_put : {ix ix' trace : List ℕ} → line ≡ 19 → Files s v e ix ix' → Fits (value_kind line) 14 s v e × ManifestPuts s line v ix ix' trace trace
  files_put h m = (
    array_fits line_19 h wants_files m.listed,
    record { files = puts_this (FilesAt s) h (e, m); trace = puts_none (RowAt 10 13 s) (λ z. omega arith) refl },
  )

  pub rest_put : {ix trace : List ℕ} → (line ≡ 18 → ⊥) → (line ≡ 19 → ⊥) → {k : ℕ} → k ≡ value_kind line → Fits k 14 s v e → Fits (value_kind line) 14 s v e × ManifestPuts s line v ix ix trace trace
  rest_put a b ek f = (
    subst (λ (x : ℕ). Fits x 14 s v e) ek f,
    record { files = puts_none (FilesAt s) b refl; trace = puts_none (RowAt 10 13 s) a refl },
  )

-- ---- the walk over the manifest object

pub manifest_none : (s : Text) (ix trace : List ℕ) → ManifestHolds s (replicate 5 0) ix ix trace trace
manifest_none s ix trace = record { files = holds_none (FilesAt s) ix; trace = holds_none (RowAt 10 13 s) trace }

-- one member more
pub manifest_on : (s : Text) (p : ℕ) {i : ℕ} {found : List ℕ} → Walking 11 14 s p i found → {line v e : ℕ} → Entered 11 14 s i line v e → {new : List ℕ} → Noted 11 line v found new → {ix₀ ix ix' trace₀ trace trace' : List ℕ}
    → ManifestHolds s found ix₀ ix trace₀ trace → ManifestPuts s line v ix ix' trace trace' → ManifestHolds s new ix₀ ix' trace₀ trace'
manifest_on s p w en d h q =
    record {
      files = found_on 14 line_19 s p (FilesAt s) (omega arith) w en d h.files q.files;
      trace = found_on 14 line_18 s p (RowAt 10 13 s) (omega arith) w en d h.trace q.trace;
    }

-- the end in front of the row
pub manifest_kept : (s : Text) (e : ℕ) (row : List ℕ) {ix₀ ix trace₀ trace : List ℕ} → ManifestHolds s row ix₀ ix trace₀ trace → ManifestHolds s (set row 0 e) ix₀ ix trace₀ trace
manifest_kept s e row h = record { files = holds_kept (FilesAt s) 2 e row h.files; trace = holds_kept (RowAt 10 13 s) 1 e row h.trace }

-- ---- flaws

files_fine : (s : Text) {c e : ℕ} {old new : List ℕ} → Files s c e old new → {t : Tree} → Stands s c t → Fine 9 t
unfolding wanted_of pick
files_fine s {c} m st =
    subst (Fine 9) (stands_same (stands_low 14 (omega arith) s c (array_value 13 s c m.listed.opens m.listed.reads)) st)
    (array_fine 9 (omega arith) (λ z. omega arith) refl m.listed.items m.listed.fine)

lines_manifest : some (λ j. eqb (line_at j).place 11 && not (ltb (line_at j).kind 3 || (eqb j 18 || eqb j 19))) 20 ≡ false
unfolding some line_at
lines_manifest = refl

-- ---- too many

none_many : (s : Text) {l : List ℕ} → All (λ q. length (items_of s (column s q (bytes "machines"))) ≤ 32) l → any (many_items s) l ≡ false
unfolding any many_items
none_many s all_none = refl
none_many s (all_one h a) = λ t. le-ltb 32 _ h t || none_many s a t

-- ---- the index

-- zeros where there is no `files`
no_files : (s : Text) {old : List ℕ} → length old ≡ 2470 → Blank old 5 → Put old 5 (length (items_of s 0) ∷ rows (λ k. block s (get_or (items_of s 0) k 0)) 32) old
unfolding items_of rows pick
no_files s {old} size z =
    let a : length (rows (λ k. block s (get_or (items_of s 0) k 0)) 32) ≡ 77 * 32 = rows_length 77 (λ k. block s (get_or (items_of s 0) k 0)) (λ k. block_length s _) 32 in
    let p : Put old 6 (rows (λ k. block s (get_or (items_of s 0) k 0)) 32) old = put_rest 77 (λ k. block s (get_or (items_of s 0) k 0)) 0 32 (λ j x y. no_entry s) (blank_on 1 z) (put_none old 6 (omega arith)) (omega arith) in
    let q : Put old 5 (0 ∷ []) old = put_rest 1 (λ j. 0 ∷ []) 0 1 (λ j x y. refl) z (put_none old 5 (omega arith)) (omega arith) in
    put_before refl p q

module _ (s : Text) (p : ℕ) (past : p ≡ 0 → ⊥) {own trace old mid : List ℕ} (w : Row 11 14 s p own) (held : ManifestHolds s own old mid (replicate 5 0) trace) where
  a : Holds (FilesAt s) (get_or own 3 0) old mid
  a = held.files

  it : Inner 10 13 s (get_or own 2 0) trace
  it = inner_of held.trace

  manifest_fine : Fine 11 (obj (its_members 11 14 s p w))
  unfolding wanted_of pick
  manifest_fine =
      row_fine 11 14 s p w (omega arith) (omega arith) (λ z. omega arith) refl (λ j h g t x y ty. go j h g t (ℕ_discrete j 18) (ℕ_discrete j 19) x y ty)
    where
      go : (j : ℕ) → j < 20 → (line_at j).place ≡ 11 → (t : Tree) → Dec (j ≡ 18) → Dec (j ≡ 19) → (get_or own (slot 11 j) 0 ≡ 0 → ⊥) → Stands s (get_or own (slot 11 j) 0) t → (((line_at j).kind ≡ 2 → ⊥) → tag t ≡ wanted_of (line_at j).kind) → Fine (line_at j).kind t
      go j h g t (yes e) d x y ty = known_fine line_18 s own (λ n st. inner_fine 10 13 leaf_trace (omega arith) s it n st) j e x y
      go j h g t (no c) (yes e) x y ty = known_fine line_19 s own (λ n st. files_fine s (a.within n).1 st) j e x y
      go j h g t (no c) (no d) x y ty =
          scalar_fine (line_at j).kind (scalars_but 11 (λ i. eqb i 18 || eqb i 19) lines_manifest j h g (λ i. ne_eqb j 18 c i || ne_eqb j 19 d i)) t ty

  is_flawless : member_refusal_at s p ≡ 0
  unfolding member_refusal_at member_refusal_in pick
  is_flawless =
      let st : Stands s p (obj (its_members 11 14 s p w)) = row_stands 11 14 s p w (omega arith) in
      ap member_refusal_in st.reads ∙ both_flaws true (obj (its_members 11 14 s p w)) ∙ (λ i. pick (manifest_fine.none false true i) 8 (pick (manifest_fine.none true true i) 9 0))

  its_files : column s p (bytes "files") ≡ get_or own 3 0
  its_files = known_column line_19 14 (omega arith) s p past w

  is_few : too_many s p ≡ false
  unfolding too_many items_of any
  is_few = ap (λ (c : ℕ). ltb 32 (length (items_of s c)) || any (many_items s) (items_of s c)) its_files ∙ go (ℕ_discrete (get_or own 3 0) 0)
    where
      go : Dec (get_or own 3 0 ≡ 0) → (ltb 32 (length (items_of s (get_or own 3 0))) || any (many_items s) (items_of s (get_or own 3 0))) ≡ false
      go (yes z) = ap (λ (l : List ℕ). ltb 32 (length l) || any (many_items s) l) (pick_true _ _ (eq-eqb (get_or own 3 0) 0 z))
      go (no n) =
          let m = (a.within n).1 in
          let e : length (items_of s (get_or own 3 0)) ≡ length m.listed.items = ap length (array_places 13 s (get_or own 3 0) m.listed.opens m.listed.reads (omega arith) n) ∙ long m.listed.items in
          λ t. le-ltb 32 (length (items_of s (get_or own 3 0))) (omega (arith, m.listed.few)) t || none_many s m.few t

  one_version : (get_or own 1 0 ≡ 0 → ⊥) → version_places s p ≡ get_or own 1 0 ∷ []
  unfolding version_places
  one_version n =
      ap (λ (x : Text). places_of x (members_at s p)) (sym line_17.name)
      ∙ row_single 11 14 s p w (omega arith) 17 line_17.small line_17.place (λ z. n (ap (λ (x : ℕ). get_or own x 0) (sym line_17.column) ∙ z))
      ∙ ap (λ (x : ℕ). get_or own x 0 ∷ []) line_17.column

  is_version_1 : (get_or own 1 0 ≡ 0 → ⊥) → not_1_at s (get_or own 1 0) ≡ false → versions_at s p ≡ 0
  unfolding versions_at versions_by any pick
  is_version_1 n f = ap (versions_by s) (one_version n) ∙ (λ t. pick (f t || false) 7 0)

  listed_put : length old ≡ 2470 → Blank old 5 → Put old 5 (length (items_of s (get_or own 3 0)) ∷ rows (λ k. block s (get_or (items_of s (get_or own 3 0)) k 0)) 32) mid
  listed_put size b = go (ℕ_discrete (get_or own 3 0) 0)
    where
      go : Dec (get_or own 3 0 ≡ 0) → Put old 5 (length (items_of s (get_or own 3 0)) ∷ rows (λ k. block s (get_or (items_of s (get_or own 3 0)) k 0)) 32) mid
      go (yes z) =
          subst (λ (x : List ℕ). Put old 5 (length (items_of s (get_or own 3 0)) ∷ rows (λ k. block s (get_or (items_of s (get_or own 3 0)) k 0)) 32) x) (sym (a.without z))
          (put_same (ap (λ (c : ℕ). length (items_of s c) ∷ rows (λ k. block s (get_or (items_of s c) k 0)) 32) (sym z)) (no_files s size b))
      go (no n) = (a.within n).1.put b

  abbrev numbers : List ℕ
  numbers = get_or own 3 0 ∷ get_or own 2 0 ∷ get_or trace 1 0 ∷ get_or trace 2 0 ∷ get_or trace 3 0 ∷ []

  index_is : numbers ++ (length (items_of s (get_or own 3 0)) ∷ rows (λ k. block s (get_or (items_of s (get_or own 3 0)) k 0)) 32) ≡ index_of s p
  unfolding index_of head_row
  index_is =
      let low : 13 ≤ 15 = omega arith in
      let e3 : get_or own 3 0 ≡ column s p (bytes "files") = sym its_files in
      let e2 : get_or own 2 0 ≡ column s p (bytes "trace_time") = sym (known_column line_18 14 (omega arith) s p past w) in
      let t1 : get_or trace 1 0 ≡ column s (column s p (bytes "trace_time")) (bytes "clock") = sym (inner_known line_14 13 low s (get_or own 2 0) it) ∙ ap (λ (q : ℕ). column s q (bytes "clock")) e2 in
      let t2 : get_or trace 2 0 ≡ column s (column s p (bytes "trace_time")) (bytes "file") = sym (inner_known line_15 13 low s (get_or own 2 0) it) ∙ ap (λ (q : ℕ). column s q (bytes "file")) e2 in
      let t3 : get_or trace 3 0 ≡ column s (column s p (bytes "trace_time")) (bytes "machine") = sym (inner_known line_16 13 low s (get_or own 2 0) it) ∙ ap (λ (q : ℕ). column s q (bytes "machine")) e2 in
      λ t. e3 t ∷ e2 t ∷ t1 t ∷ t2 t ∷ t3 t ∷ length (items_of s (e3 t)) ∷ rows (λ k. block s (get_or (items_of s (e3 t)) k 0)) 32

  pub manifest_told : length old ≡ 2470 → (get_or own 1 0 ≡ 0 → ⊥) → {x : Bool} → x ≡ not_1_at s (get_or own 1 0) → x ≡ false → {new : List ℕ} → Put mid 0 numbers new → Manifest s p (get_or own 0 0) old new
  manifest_told size n ex f {new} q =
      record {
        members = its_members 11 14 s p w;
        reads = row_value 11 14 s p w;
        versions = is_version_1 n (sym ex ∙ f);
        flawless = is_flawless;
        few = is_few;
        index = λ e.
            let b : Blank old 5 = blank_on 5 (subst (λ (l : List ℕ). Blank l 0) (sym e) (blank_zeros 2470)) in
            put_all (put_same index_is (put_before refl (listed_put size b) q)) (index_long s p ∙ sym size);
      }
