-- The definitions in the terms that the code meets: a premise for each thing that was found, in the code's order. Assumes nothing.
use mathlib.Core.Path.{◌≡◌, refl, sym, ap, ◌∙◌}
use mathlib.Core.Bool.{Bool, true, false}
use mathlib.Core.List.{List, [], ◌∷◌, ◌++◌, append_assoc}
use Prim.Native.Nat.{ℕ, suc, ◌+◌, ◌-◌, ◌*◌, ◌≤◌, ◌<◌}
use native.Mathlib.Omega.{arith}
use lib.Dec.{eqb, ltb}
use lib.ListN.{length, get_or, take, replicate, length-append}
use lib.Seq.{length-take-le}
use borrow.Author.Tests.{le-ltb}
use Rattle.records.specs.Layout.{bytes_at}
use Rattle.records.specs.Readers.{head_at, source_at, snapshot_at, path_at}
use Rattle.records.specs.declared.Head.{Head}
use Rattle.records.specs.declared.Source.{Source}
use Rattle.records.specs.declared.Snapshot.{Snapshot}
use Rattle.text.specs.Reading.{Text, pick}
use Rattle.text.specs.laws.Readers.{pick_false}
use Rattle.numbers.specs.declared.Machine.{Machine}
use Rattle.manifest.specs.declared.Cited.TheVariants.{Private, Domain}
use Rattle.manifest.specs.declared.Link.{Link}
use Rattle.manifest.specs.declared.Link.TheVariants.{Unrelated, Related}
use Rattle.manifest.specs.Rows.{first_or}
use Rattle.sheet.specs.Places.{place_of, place_in, file_places}
use Rattle.sheet.specs.Sheets.{read_of}
use Rattle.sheet.specs.laws.Places.{places_at, length_from}
use Rattle.sheet.specs.declared.Table.{Table}
use Rattle.sheet.specs.Sheets.{Refused, Listed}
use Rattle.outline.specs.Outline.{domain_at}
use Rattle.index.specs.Index.{col_of, rows, entries_in}
use Rattle.index.proofs.laws.Rows.{rows_length, rows_at}
use Rattle.index.proofs.laws.Put.{Put, put_more, put_same, put_all}
use Rattle.named.specs.Named.{count_in, number_at, stands_at}
use Rattle.meant.specs.declared.Owned.{Owned}
use Rattle.meant.specs.declared.Owned.TheVariants.{Nobody, Whole, Split}
use Rattle.meant.specs.declared.Part.{Part}
use Rattle.meant.specs.Meant.{base_of, owned_of, part_of, cited_name, cited_at, offset_at, related_to, cites_by, link_of, tied_by}
use Rattle.gather.specs.Gathered.{cited_code, tie_code, part_code, owned_code, flag, row_in, entry_with, entry_for, recorded_in, file_row, source_row, gathered_in, gathered_by, gathered}
use Rattle.gather.specs.laws.Listings.{listed_few}
use Rattle.gather.specs.laws.Near.{Near, Cites, Known}
use Rattle.gather.specs.laws.Rows.{owned_length, file_length, source_length, row_here, put_at, put_before}
use Rattle.gather.proofs.Words.{front_is}

-- ---- the entry of a path

module _ (s : Text) (ix lookups b : List ℕ) (at : ℕ) {h : Head} (eh : h ≡ head_at b at) {n : ℕ} (en : n ≡ h.length) (path : List ℕ)
    {i : ℕ} (hi : n ≤ i) (e : take i path ≡ bytes_at b (at + 15) i) {r : ℕ} (er : r ≡ entry_with s ix lookups (take (n - 0) path)) where
  pub entry_at_lem : (r ≡ entry_with s ix lookups (path_at b at)) × (r ≤ 32)
  entry_at_lem =
      let z : n - 0 ≡ n = omega arith in
      let q : r ≡ entry_with s ix lookups (path_at b at) =
      er ∙ ap (λ (k : ℕ). entry_with s ix lookups (take k path)) z
      ∙ ap (entry_with s ix lookups) (front_is b (at + 15) n i path hi e ∙ ap (bytes_at b (at + 15)) (en ∙ ap (λ (x : Head). x.length) eh)) in
      (q, omega (arith, listed_few s ix lookups (path_at b at)))

-- ---- the snapshots of a file
abbrev pub snapshot_in : List ℕ → Table → ℕ → Snapshot
snapshot_in b t i = snapshot_at b (t.snapshots.at + 142 * i)

abbrev pub file_in : List ℕ → Table → Snapshot → ℕ
file_in b t n = (source_at b (t.sources.at + 40 * n.source)).file.0

module _ (b : List ℕ) (t : Table) (i : ℕ) {n : Snapshot} (en : n ≡ snapshot_in b t i) {k : ℕ} (ek : k ≡ n.source) {x : Source} (ex : x ≡ source_at b (t.sources.at + 40 * k)) {r : ℕ} (er : r ≡ x.file.0) where
  pub snapshot_is : r ≡ file_in b t (snapshot_in b t i)
  snapshot_is =
      er ∙ ap (λ (y : Source). y.file.0) ex
      ∙ ap (λ (m : ℕ). (source_at b (t.sources.at + 40 * m)).file.0) (ek ∙ ap (λ (y : Snapshot). y.source) en)

-- ---- what is said of a source's machine
module _ {o q : Owned} (eo : o ≡ q) (p : Part) where
  pub owned_nobody : o ≡ Nobody → 0 ∷ 0 ∷ [] ≡ owned_code q p
  unfolding owned_code
  owned_nobody e = ap (λ (x : Owned). owned_code x p) (sym e ∙ eo)

  pub owned_whole : {m : Machine} → o ≡ Whole m → {k : ℕ} → k ≡ m.0 → 1 ∷ k ∷ [] ≡ owned_code q p
  unfolding owned_code
  owned_whole e ek = (λ i. 1 ∷ ek i ∷ []) ∙ ap (λ (x : Owned). owned_code x p) (sym e ∙ eo)

  pub owned_split : o ≡ Split → {r : Part} → r ≡ p → {l : List ℕ} → l ≡ part_code r → l ≡ owned_code q p
  unfolding owned_code
  owned_split e er el = el ∙ ap part_code er ∙ ap (λ (x : Owned). owned_code x p) (sym e ∙ eo)

-- ---- the counts
pub head_made : (t : Table) {m n x y : ℕ} → m ≡ x → n ≡ y → t.files ∷ t.sources.count ∷ m ∷ n ∷ [] ≡ t.files ∷ t.sources.count ∷ x ∷ y ∷ []
head_made t e f = λ i. t.files ∷ t.sources.count ∷ e i ∷ f i ∷ []

-- ---- a row past the last
pub row_none : (n k : ℕ) (row : ℕ → List ℕ) (i : ℕ) → n ≤ i → row_in n k row i ≡ replicate k 0
unfolding row_in
row_none n k row i h = pick_false _ _ (le-ltb i n h)

-- what `meant::tie` tells is the number of the link
tie_is : (s : Text) (ix lookups : List ℕ) (e : ℕ) → tie_code (link_of s ix lookups e) ≡ tied_by ix lookups e
unfolding link_of tied_by related_to cited_at tie_code cited_code pick
tie_is s ix lookups e = go (eqb (col_of ix e 4) 0) (eqb (col_of ix e 7) 0) (eqb (cites_by lookups e) 0) (ltb 32 (cites_by lookups e)) (eqb (col_of ix e 5) 0)
  where
    its : Bool → Link
    its v = Related (record {
      from = pick v (Private e) (Domain (domain_at s (col_of ix e 5)) (number_at s lookups (cited_name s ix e (col_of ix e 6))));
      to = cited_at s ix lookups (cites_by lookups e - 1) (col_of ix e 10) (col_of ix e 9);
      offset = offset_at s ix lookups (col_of ix e 11);
    })

    go : (a b c d v : Bool) → tie_code (pick a Unrelated (pick b Unrelated (pick c Unrelated (pick d Unrelated (its v))))) ≡ pick a 0 (pick b 0 (pick c 0 (pick d 0 (pick v 2 1))))
    go true b c d v = refl
    go false true c d v = refl
    go false false true d v = refl
    go false false false true v = refl
    go false false false false true = refl
    go false false false false false = refl

-- two numbers
both : (l : List ℕ) → length l ≡ 2 → l ≡ get_or l 0 0 ∷ get_or l 1 0 ∷ []
both [] h = absurd (omega arith)
both (x ∷ []) h = absurd (omega arith)
both (x ∷ y ∷ []) h = refl
both (x ∷ y ∷ z ∷ l) h = absurd (omega arith)

module _ (s : Text) (ix lookups b : List ℕ) (t : Table) where
  -- ---- a file's row
  module _ (f at : ℕ) (h : f < t.files) (ea : at ≡ place_of b 0 f) {e : ℕ} (ee : e ≡ entry_with s ix lookups (path_at b at))
      {tie : ℕ} (et : tie ≡ tied_by ix lookups e)
      {m : Machine} (em : m ≡ base_of s ix lookups e) {k : ℕ} (ek : k ≡ m.0)
      {d : Head} (ed : d ≡ head_at b at) {c : ℕ} (ec : c ≡ flag d.container) {a : ℕ} (eq : a ≡ d.claim)
      {v : ℕ} (ev : v ≡ flag (recorded_in s ix lookups b t f)) where
    entry_is : e ≡ entry_for s ix lookups b t f
    unfolding entry_for
    entry_is = ee ∙ ap (λ (p : ℕ). entry_with s ix lookups (path_at b p)) ea

    head_is : d ≡ head_at b (place_of b 0 f)
    head_is = ed ∙ ap (head_at b) ea

    pub file_made : e ∷ tie ∷ k ∷ c ∷ a ∷ v ∷ [] ≡ row_in t.files 6 (file_row s ix lookups b t) f
    unfolding file_row
    file_made =
        (λ i. entry_is i
        ∷ (et ∙ sym (tie_is s ix lookups e) ∙ ap (λ (k : ℕ). tie_code (link_of s ix lookups k)) entry_is) i
        ∷ (ek ∙ ap (λ (x : Machine). x.0) (em ∙ ap (base_of s ix lookups) entry_is)) i
        ∷ (ec ∙ ap (λ (x : Head). flag x.container) head_is) i
        ∷ (eq ∙ ap (λ (x : Head). x.claim) head_is) i
        ∷ ev i
        ∷ [])
        ∙ sym (row_here t.files 6 (file_row s ix lookups b t) f h)

  -- ---- a source's row
  module _ (j : ℕ) (h : j < t.sources.count) {x : Source} (ex : x ≡ source_at b (t.sources.at + 40 * j)) {e : ℕ} (ee : e ≡ entry_for s ix lookups b t x.file.0) {l : List ℕ} (el : l ≡ owned_code (owned_of s ix lookups e) (part_of s ix lookups e x.id)) where
    source_whole : x.file.0 ∷ x.id ∷ l ≡ row_in t.sources.count 4 (source_row s ix lookups b t) j
    unfolding source_row
    source_whole =
        (λ i. x.file.0 ∷ x.id ∷ (el ∙ ap (λ (y : ℕ). owned_code (owned_of s ix lookups y) (part_of s ix lookups y x.id)) ee) i)
        ∙ ap (λ (y : Source). y.file.0 ∷ y.id ∷ owned_code (owned_of s ix lookups (entry_for s ix lookups b t y.file.0)) (part_of s ix lookups (entry_for s ix lookups b t y.file.0) y.id)) ex
        ∙ sym (row_here t.sources.count 4 (source_row s ix lookups b t) j h)

  -- its file's entry is read off the table
  module _ (n : Near t) (c : Cites b t) {out : List ℕ} (k : Known s ix lookups b t out) (j : ℕ) (h : j < t.sources.count)
      {x : Source} (ex : x ≡ source_at b (t.sources.at + 40 * j)) where
    source_in : x.file.0 < t.files
    source_in = let e : x.file.0 ≡ (source_at b (t.sources.at + 40 * j)).file.0 = ap (λ (y : Source). y.file.0) ex in omega (arith, c.below j h)

    pub source_low : x.file.0 < 32
    source_low = omega (arith, source_in, n.few_files)

    pub source_made : {g : ℕ} → g ≡ x.file.0 → {e : ℕ} → e ≡ get_or out (4 + 6 * g) 0
        → {l : List ℕ} → l ≡ owned_code (owned_of s ix lookups e) (part_of s ix lookups e x.id) → {f : ℕ} → f ≡ x.file.0
        → f ∷ x.id ∷ get_or l 0 0 ∷ get_or l 1 0 ∷ [] ≡ row_in t.sources.count 4 (source_row s ix lookups b t) j
    source_made eg ee {l} el ef =
        (λ i. ef i ∷ x.id ∷ sym (both l (ap length el ∙ owned_length _ _)) i)
        ∙ source_whole j h ex (ee ∙ ap (λ (y : ℕ). get_or out (4 + 6 * y) 0) eg ∙ k.known x.file.0 source_in) el

  -- ---- the entries stay known while sources are put in, and are known when the files are in
  pub known_kept : {old new w : List ℕ} → Near t → Known s ix lookups b t old → Put old 196 w new → Known s ix lookups b t new
  known_kept n k p = record { known = λ f h. put_before p (4 + 6 * f) (omega (arith, n.few_files)) ∙ k.known f h }

  pub known_put : {old new : List ℕ} → Near t → Put old 4 (rows (row_in t.files 6 (file_row s ix lookups b t)) 32) new → Known s ix lookups b t new
  unfolding file_row
  known_put {old} {new} n p = record { known = known }
    where
      row : ℕ → List ℕ
      row = row_in t.files 6 (file_row s ix lookups b t)

      known : (f : ℕ) → f < t.files → get_or new (4 + 6 * f) 0 ≡ entry_for s ix lookups b t f
      known f h =
          let z : 6 * f ≡ 6 * f + 0 = omega arith in
          put_at p (6 * f) (omega (arith, rows_length 6 row (file_length s ix lookups b t) 32, n.few_files))
          ∙ ap (λ (k : ℕ). get_or (rows row 32) k 0) z
          ∙ rows_at 6 row (file_length s ix lookups b t) 32 f 0 (omega (arith, n.few_files)) (omega arith)
          ∙ ap (λ (l : List ℕ). get_or l 0 0) (row_here t.files 6 (file_row s ix lookups b t) f h)

  -- ---- all of it
  pub table_made : {old one two new head : List ℕ} → length old ≡ 324 → head ≡ t.files ∷ t.sources.count ∷ entries_in ix ∷ count_in lookups ∷ [] → Put old 0 head one
      → Put one 4 (rows (row_in t.files 6 (file_row s ix lookups b t)) 32) two
      → Put two 196 (rows (row_in t.sources.count 4 (source_row s ix lookups b t)) 32) new
      → new ≡ gathered_in s ix lookups b t
  unfolding gathered_in
  table_made {old} l e p q r =
      let fs : List ℕ = rows (row_in t.files 6 (file_row s ix lookups b t)) 32 in
      let ss : List ℕ = rows (row_in t.sources.count 4 (source_row s ix lookups b t)) 32 in
      let hd : List ℕ = t.files ∷ t.sources.count ∷ entries_in ix ∷ count_in lookups ∷ [] in
      let lf : length fs ≡ 192 = rows_length 6 (row_in t.files 6 (file_row s ix lookups b t)) (file_length s ix lookups b t) 32 in
      let ls : length ss ≡ 128 = rows_length 4 (row_in t.sources.count 4 (source_row s ix lookups b t)) (source_length s ix lookups b t) 32 in
      let a : Put old 0 (hd ++ fs) _ = put_more (put_same e p) refl q in
      let n : length (hd ++ fs) ≡ 196 = ap (λ (k : ℕ). suc (suc (suc (suc k)))) lf in
      let m : length ((hd ++ fs) ++ ss) ≡ length old = length-append (hd ++ fs) ss ∙ (omega (arith, n, ls, l)) in
      put_all (put_more a (omega (arith, n)) r) m ∙ append_assoc hd fs ss

-- ---- the place of a file
pub place_is : (b : List ℕ) (t : Table) (f : ℕ) → Near t → {places : List ℕ} → places ≡ file_places b t.files → {at : ℕ} → at ≡ get_or places f 0 → f < t.files → at ≡ place_of b 0 f
place_is b t f n e q h = q ∙ ap (λ (l : List ℕ). get_or l f 0) e ∙ places_at b t.files f n.few_files h

-- ---- what is returned
module _ (s : Text) (ix lookups b : List ℕ) where
  pub refused_made : {k : ℕ} → read_of b ≡ Refused k → replicate 324 0 ≡ gathered s ix lookups b
  unfolding gathered gathered_by
  refused_made e = ap (gathered_by s ix lookups b) (sym e)

  pub listed_made : {t : Table} → read_of b ≡ Listed t → {new : List ℕ} → new ≡ gathered_in s ix lookups b t → new ≡ gathered s ix lookups b
  unfolding gathered gathered_by
  listed_made e q = q ∙ ap (gathered_by s ix lookups b) (sym e)

-- ---- at most 32 names
first_most : (d : ℕ) (p : ℕ → Bool) (l : List ℕ) (k : ℕ) → k + length l ≤ d → first_or d p l k ≤ d
unfolding first_or pick
first_most d p [] k h = omega arith
first_most d p (a ∷ l) k h = go (p a) (first_most d p l (suc k) (omega arith))
  where
    go : (b : Bool) → first_or d p l (suc k) ≤ d → pick b k (first_or d p l (suc k)) ≤ d
    go true q = omega arith
    go false q = q

pub few_names : (lookups : List ℕ) → length lookups ≡ 129 → count_in lookups ≤ 32
unfolding count_in stands_at
few_names lookups h = first_most 32 (λ q. eqb q 0) (take 32 lookups) 0 (omega (arith, length-take-le 32 lookups (omega arith)))

-- ---- 32 places
pub places_length : (b : List ℕ) (n : ℕ) {places : List ℕ} → places ≡ file_places b n → length places ≡ 32
unfolding file_places
places_length b n e = ap length e ∙ length_from (place_in b n) 0 32
