-- Numbers put into a list from a place on. Assumes nothing.
use Rattle.std.specs.Prelude.{◌≡◌, refl, List, [], ◌∷◌, ◌++◌, ℕ, suc, ◌+◌, ◌≤◌, ◌<◌, length, get_or, set, take, drop}
use Rattle.std.proofs.Common.{sym, ap, subst, ◌∙◌, append_assoc, arith, length-append, length-drop, take-append-drop, length-take-le, take-suc, take_at, drop_at, drop-drop, take-take}
use Rattle.std.proofs.lemmas.List.{set_split, take-append-le}
use Rattle.std.proofs.Math.Seq.{drop-length}
use Rattle.index.specs.Index.{rows}

-- new is old with the numbers w from base on
pub record Put (old : List ℕ) (base : ℕ) (w new : List ℕ) : Type 0 where
  pub fits : base + length w ≤ length old
  pub is : new ≡ take base old ++ (w ++ drop (base + length w) old)

pub put_none : (old : List ℕ) (base : ℕ) → base ≤ length old → Put old base [] old
put_none old base h =
    let e : base ≡ base + 0 = omega arith in
    record { fits = omega arith; is = sym (take-append-drop base old) ∙ ap (λ (n : ℕ). take base old ++ drop n old) e }

pub put_one : (old : List ℕ) (k a : ℕ) → k < length old → Put old k (a ∷ []) (set old k a)
put_one old k a h =
    let e : suc k ≡ k + 1 = omega arith in
    record { fits = omega arith; is = set_split old k a h ∙ ap (λ (n : ℕ). take k old ++ (a ∷ drop n old)) e }

module _ {old mid : List ℕ} {base : ℕ} {w : List ℕ} (p : Put old base w mid) where
  front : length (take base old ++ w) ≡ base + length w
  front = length-append (take base old) w ∙ ap (λ (n : ℕ). n + length w) (length-take-le base old (omega (arith, p.fits)))

  split : mid ≡ (take base old ++ w) ++ drop (base + length w) old
  split = p.is ∙ sym (append_assoc (take base old) w (drop (base + length w) old))

  pub put_length : length mid ≡ length old
  put_length =
      let a : length mid ≡ length (take base old ++ w) + length (drop (base + length w) old) = ap length split ∙ length-append (take base old ++ w) (drop (base + length w) old) in
      omega (arith, front, p.fits, length-drop (base + length w) old)

  -- after them it is as it was
  pub put_after : drop (base + length w) mid ≡ drop (base + length w) old
  put_after = ap (drop (base + length w)) split ∙ drop_at (take base old ++ w) (drop (base + length w) old) (base + length w) front

  -- further numbers after them
  pub put_more : {x new : List ℕ} {n : ℕ} → n ≡ base + length w → Put mid n x new → Put old base (w ++ x) new
  put_more {x} {new} {n} e q =
      let f : n + length x ≤ length mid = q.fits in
      let t : take n mid ≡ take base old ++ w = ap (take n) split ∙ take_at (take base old ++ w) (drop (base + length w) old) n (front ∙ sym e) in
      let d : drop n mid ≡ drop (base + length w) old = ap (drop n) split ∙ drop_at (take base old ++ w) (drop (base + length w) old) n (front ∙ sym e) in
      let l : base + length w + length x ≡ base + length (w ++ x) = omega (arith, length-append w x) in
      let r : drop (n + length x) mid ≡ drop (base + length (w ++ x)) old =
      sym (drop-drop (length x) n mid) ∙ (ap (drop (length x)) d ∙ (drop-drop (length x) (base + length w) old ∙ ap (λ (m : ℕ). drop m old) l)) in
      record {
        fits = omega (arith, put_length, length-append w x);
        is =
            q.is ∙ ((λ i. t i ++ (x ++ r i))
            ∙ (append_assoc (take base old) w (x ++ drop (base + length (w ++ x)) old)
            ∙ ap (λ (k : List ℕ). take base old ++ k) (sym (append_assoc w x (drop (base + length (w ++ x)) old)))));
      }

-- further numbers before them
pub put_before : {old mid new x w : List ℕ} {base n : ℕ} → n ≡ base + length w → Put old n x mid → Put mid base w new → Put old base (w ++ x) new
put_before {old} {mid} {new} {x} {w} {base} {n} e q p =
    let l : length mid ≡ length old = put_length q in
    let a : n ≤ length old = omega (arith, q.fits) in
    let d : length (take n old) ≡ n = length-take-le n old a in
    let t : take base mid ≡ take base old =
    ap (take base) q.is ∙ (take-append-le base (take n old) (x ++ drop (n + length x) old) (omega arith) ∙ take-take base n old (omega arith)) in
    let r : drop (base + length w) mid ≡ x ++ drop (n + length x) old =
    ap (λ (m : ℕ). drop m mid) (sym e) ∙ (ap (drop n) q.is ∙ drop_at (take n old) (x ++ drop (n + length x) old) n d) in
    let f : n + length x ≡ base + length (w ++ x) = omega (arith, length-append w x) in
    record {
      fits = omega (arith, q.fits);
      is = p.is ∙ ((λ i. t i ++ (w ++ r i)) ∙ ((λ i. take base old ++ (w ++ (x ++ drop (f i) old))) ∙ ap (λ (k : List ℕ). take base old ++ k) (sym (append_assoc w x (drop (base + length (w ++ x)) old)))));
    }

-- all is put
pub put_all : {old w new : List ℕ} → Put old 0 w new → length w ≡ length old → new ≡ w
put_all {old} {w} {new} p e =
    let z : 0 + length w ≡ length old = omega arith in
    p.is ∙ (ap (λ (n : ℕ). w ++ drop n old) z ∙ (ap (λ (k : List ℕ). w ++ k) (drop-length old) ∙ nothing w))
  where
    nothing : (l : List ℕ) → l ++ [] ≡ l
    nothing [] = refl
    nothing (a ∷ l) = ap (λ (k : List ℕ). a ∷ k) (nothing l)

-- the same numbers
pub put_same : {old new v w : List ℕ} {base : ℕ} → v ≡ w → Put old base v new → Put old base w new
put_same {old} {new} {base = base} e p = subst (λ (k : List ℕ). Put old base k new) e p

-- one element of a row more
module _ {old mid : List ℕ} {base : ℕ} (row : List ℕ) (j : ℕ) (p : Put old base (take j row) mid) (h : j < length row) (f : base + length row ≤ length old) where
  pub put_next : Put old base (take (j + 1) row) (set mid (base + j) (get_or row j 0))
  put_next =
      let l : length (take j row) ≡ j = length-take-le j row (omega arith) in
      let s : suc j ≡ j + 1 = omega arith in
      put_same (sym (take-suc row j 0 h) ∙ ap (λ (n : ℕ). take n row) s)
      (put_more p (omega arith) (put_one mid (base + j) (get_or row j 0) (omega (arith, put_length p))))

-- one row more
pub put_row : {old mid new : List ℕ} {base n : ℕ} (w : List ℕ) (f : ℕ → List ℕ) (k : ℕ) → Put old base (w ++ rows f k) mid → n ≡ base + length (w ++ rows f k) → Put mid n (f k) new → Put old base (w ++ rows f (k + 1)) new
unfolding rows
put_row w f k p e q =
    let s : suc k ≡ k + 1 = omega arith in
    put_same (append_assoc w (rows f k) (f k) ∙ ap (λ (m : ℕ). w ++ rows f m) s) (put_more p e q)
