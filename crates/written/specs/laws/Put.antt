-- Bytes put into a memory from a place on: one byte, one text after another, and a text put into zeros, which is the text and then zeros. Assumes nothing.
use Rattle.std.specs.Prelude.{◌≡◌, refl, List, [], ◌∷◌, ◌++◌, ℕ, zero, suc, ◌+◌, ◌-◌, ◌≤◌, ◌<◌, length, get_or, set, take, drop, replicate}
use Rattle.std.proofs.Common.{sym, ap, subst, ◌∙◌, append_assoc, arith, length-append, length-drop, take-append-drop, length-take-le, take-suc, take_at, drop_at, drop-drop}
use Rattle.std.proofs.lemmas.List.{length-replicate, set_split}
use Rattle.merged.specs.Merged.{padded}

-- new is old with the bytes w from a place on; past is the place past them
pub record Put (old : List ℕ) (at : ℕ) (w : List ℕ) (past : ℕ) (new : List ℕ) : Type 0 where
  pub fits : at + length w ≤ length old
  pub ends : past ≡ at + length w
  pub is : new ≡ take at old ++ (w ++ drop past old)

pub put_none : (old : List ℕ) (at : ℕ) → at ≤ length old → Put old at [] (at + 0) old
put_none old at h =
    let e : at ≡ at + 0 = omega arith in
    record { fits = omega arith; ends = refl; is = sym (take-append-drop at old) ∙ ap (λ (n : ℕ). take at old ++ drop n old) e }

pub put_one : (old : List ℕ) (at b : ℕ) → at < length old → Put old at (b ∷ []) (at + 1) (set old at b)
put_one old at b h =
    let e : suc at ≡ at + 1 = omega arith in
    record { fits = omega arith; ends = refl; is = set_split old at b h ∙ ap (λ (n : ℕ). take at old ++ (b ∷ drop n old)) e }

module _ {old mid : List ℕ} {at m : ℕ} {w : List ℕ} (p : Put old at w m mid) where
  front : length (take at old ++ w) ≡ m
  front = length-append (take at old) w ∙ (ap (λ (n : ℕ). n + length w) (length-take-le at old (omega (arith, p.fits))) ∙ sym p.ends)

  split : mid ≡ (take at old ++ w) ++ drop m old
  split = p.is ∙ sym (append_assoc (take at old) w (drop m old))

  pub put_length : length mid ≡ length old
  put_length = omega (arith, front, p.fits, p.ends, length-drop m old, ap length split, length-append (take at old ++ w) (drop m old))

  -- further bytes after them
  pub put_more : {x new : List ℕ} {r : ℕ} → Put mid m x r new → Put old at (w ++ x) r new
  put_more {x} {new} {r} q =
      let t : take m mid ≡ take at old ++ w = ap (take m) split ∙ take_at (take at old ++ w) (drop m old) m front in
      let d : drop m mid ≡ drop m old = ap (drop m) split ∙ drop_at (take at old ++ w) (drop m old) m front in
      let past : drop r mid ≡ drop r old =
      ap (λ (n : ℕ). drop n mid) q.ends ∙ (sym (drop-drop (length x) m mid) ∙ (ap (drop (length x)) d ∙ (drop-drop (length x) m old ∙ ap (λ (n : ℕ). drop n old) (sym q.ends)))) in
      record {
        fits = omega (arith, put_length, q.fits, p.ends, length-append w x);
        ends = omega (arith, q.ends, p.ends, length-append w x);
        is =
            q.is ∙ ((λ i. t i ++ (x ++ past i))
            ∙ (append_assoc (take at old) w (x ++ drop r old) ∙ ap (λ (k : List ℕ). take at old ++ k) (sym (append_assoc w x (drop r old)))));
      }

-- the same bytes
pub put_same : {old new v w : List ℕ} {at r : ℕ} → v ≡ w → Put old at v r new → Put old at w r new
put_same {old} {new} {at = at} {r = r} e p = subst (λ (k : List ℕ). Put old at k r new) e p

-- the same place past them
pub put_ends : {old new w : List ℕ} {at r s : ℕ} → r ≡ s → Put old at w r new → Put old at w s new
put_ends {old} {new} {w} {at} e p = subst (λ (k : ℕ). Put old at w k new) e p

-- one byte of a text more
module _ {old mid : List ℕ} {at : ℕ} (text : List ℕ) (j : ℕ) (p : Put old at (take j text) (at + j) mid) (h : j < length text) (f : at + length text ≤ length old) where
  pub put_next : Put old at (take (j + 1) text) (at + (j + 1)) (set mid (at + j) (get_or text j 0))
  put_next =
      let s : suc j ≡ j + 1 = omega arith in
      let e : at + j + 1 ≡ at + (j + 1) = omega arith in
      put_same (sym (take-suc text j 0 h) ∙ ap (λ (n : ℕ). take n text) s)
      (put_ends e (put_more p (put_one mid (at + j) (get_or text j 0) (omega (arith, put_length p)))))

pub zeros_long : (n : ℕ) → length {A = ℕ} (replicate n 0) ≡ n
zeros_long n = length-replicate n 0

-- the rest of zeros is zeros
drop_zeros : (n m : ℕ) → drop {A = ℕ} n (replicate m 0) ≡ replicate (m - n) 0
drop_zeros zero m = let e : m ≡ m - 0 = omega arith in ap (λ (k : ℕ). replicate k 0) e
drop_zeros (suc n) zero = let e : 0 ≡ 0 - suc n = omega arith in ap (λ (k : ℕ). replicate k 0) e
drop_zeros (suc n) (suc m) = let e : m - n ≡ suc m - suc n = omega arith in drop_zeros n m ∙ ap (λ (k : ℕ). replicate k 0) e

-- a text put at the start of zeros
module _ (n : ℕ) {w new : List ℕ} {r : ℕ} (p : Put (replicate n 0) 0 w r new) where
  pub put_padded : (r ≡ length w) × (new ≡ padded 0 n w)
  put_padded =
      let e : r ≡ length w = omega (arith, p.ends) in
      (e, p.is ∙ ap (λ (k : List ℕ). w ++ k) (drop_zeros r n ∙ ap (λ (k : ℕ). replicate (n - k) 0) e))
