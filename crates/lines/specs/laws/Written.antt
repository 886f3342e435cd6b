-- Correspondences in four arrays: what is written, and what a function adds behind it. Assumes nothing.
use Rattle.std.specs.Prelude.{◌≡◌, refl, List, [], ◌∷◌, ◌++◌, map, ℕ, ◌+◌, ◌<◌, ℤ, pos, length, set, replicate}
use Rattle.std.proofs.Common.{sym, ap, subst, ◌∙◌, append_assoc, arith, length-append, length-set}
use Rattle.std.proofs.lemmas.List.{length-replicate}
use Rattle.graphs.specs.Links.{Link}
use Rattle.merged.specs.Merged.{padded}
use Rattle.merged.proofs.laws.Lists.{length_map}
use Rattle.lines.specs.Lines.{over}
use Rattle.lines.specs.laws.Lists.{over_set, over_zeros, map_more, append_none}

abbrev pub line : ℕ → ℤ → ℕ → ℤ → Link
line a x b y = record { a = a; x = x; b = b; y = y }

pub record Sized (a : List ℕ) (x : List ℤ) (c : List ℕ) (y : List ℤ) : Type 0 where
  pub from : length a ≡ 288
  pub reads : length x ≡ 288
  pub to : length c ≡ 288
  pub gives : length y ≡ 288

-- the arrays hold these correspondences, then zeros
pub record Written (ls : List Link) (a : List ℕ) (x : List ℤ) (c : List ℕ) (y : List ℤ) : Type 0 where
  pub from : a ≡ over (map (λ (l : Link). l.a) ls) (replicate 288 0)
  pub reads : x ≡ over (map (λ (l : Link). l.x) ls) (replicate 288 (pos 0))
  pub to : c ≡ over (map (λ (l : Link). l.b) ls) (replicate 288 0)
  pub gives : y ≡ over (map (λ (l : Link). l.y) ls) (replicate 288 (pos 0))

-- arrays with k correspondences become arrays with these more, r in all
pub record Adds (more : List Link) (k r : ℕ) (a : List ℕ) (x : List ℤ) (c : List ℕ) (y : List ℤ) (a' : List ℕ) (x' : List ℤ) (c' : List ℕ) (y' : List ℤ) : Type 0 where
  pub sized : Sized a' x' c' y'
  pub count : r ≡ k + length more
  pub grown : (ls : List Link) → k ≡ length ls → Written ls a x c y → Written (ls ++ more) a' x' c' y'

-- ---- one more

put_one : {A : Type 0} (z : A) (f : Link → A) (ls : List Link) (l : Link) (k : ℕ) {m : List A} → k ≡ length ls → k < 288 → m ≡ over (map f ls) (replicate 288 z) → set m k (f l) ≡ over (map f (ls ++ (l ∷ []))) (replicate 288 z)
put_one {A} z f ls l k {m} e h q =
    let n : length (map f ls) ≡ length ls = length_map f ls in
    let s : k ≡ length (map f ls) = omega arith in
    (λ i. set (q i) (s i) (f l))
    ∙ (over_set (map f ls) (replicate 288 z) (f l) (omega (arith, length-replicate 288 z)) ∙ ap (λ (v : List A). over v (replicate 288 z)) (sym (map_more f ls l)))

pub adds_line : {a c : List ℕ} {x y : List ℤ} (l : Link) (k : ℕ) → k < 288 → Sized a x c y → Adds (l ∷ []) k (k + 1) a x c y (set a k l.a) (set x k l.x) (set c k l.b) (set y k l.y)
adds_line {a} {c} {x} {y} l k h z =
    record {
      sized = record { from = length-set a k l.a ∙ z.from; reads = length-set x k l.x ∙ z.reads; to = length-set c k l.b ∙ z.to; gives = length-set y k l.y ∙ z.gives };
      count = refl;
      grown = λ ls e w. record {
        from = put_one 0 (λ (l : Link). l.a) ls l k e h w.from;
        reads = put_one (pos 0) (λ (l : Link). l.x) ls l k e h w.reads;
        to = put_one 0 (λ (l : Link). l.b) ls l k e h w.to;
        gives = put_one (pos 0) (λ (l : Link). l.y) ls l k e h w.gives;
      };
    }

-- ---- none, and one after the other

pub adds_none : {a c : List ℕ} {x y : List ℤ} (k : ℕ) → Sized a x c y → Adds [] k k a x c y a x c y
adds_none {a} {c} {x} {y} k z =
    record { sized = z; count = omega arith; grown = λ ls e w. subst (λ (m : List Link). Written m a x c y) (sym (append_none ls)) w }

module _ {a c : List ℕ} {x y : List ℤ} {a' c' : List ℕ} {x' y' : List ℤ} {a'' c'' : List ℕ} {x'' y'' : List ℤ} where
  pub adds_both : {m n : List Link} {k r q : ℕ} → Adds m k r a x c y a' x' c' y' → Adds n r q a' x' c' y' a'' x'' c'' y'' → Adds (m ++ n) k q a x c y a'' x'' c'' y''
  adds_both {m} {n} {k} {r} {q} f g =
      record {
        sized = g.sized;
        count = omega (arith, f.count, g.count, length-append m n);
        grown = λ ls e w. subst (λ (l : List Link). Written l a'' x'' c'' y'') (append_assoc ls m n)
            (g.grown (ls ++ m) (omega (arith, f.count, length-append ls m)) (f.grown ls e w));
      }

pub adds_same : {m n : List Link} {k r : ℕ} {a c : List ℕ} {x y : List ℤ} {a' c' : List ℕ} {x' y' : List ℤ} → m ≡ n → Adds m k r a x c y a' x' c' y' → Adds n k r a x c y a' x' c' y'
adds_same {k = k} {r = r} {a = a} {c = c} {x = x} {y = y} {a' = a'} {c' = c'} {x' = x'} {y' = y'} e f = subst (λ (l : List Link). Adds l k r a x c y a' x' c' y') e f

-- ---- from zeros on: the arrays hold what is added

pub zeros_sized : Sized (replicate 288 0) (replicate 288 (pos 0)) (replicate 288 0) (replicate 288 (pos 0))
zeros_sized = record { from = length-replicate {A = ℕ} 288 0; reads = length-replicate {A = ℤ} 288 (pos 0); to = length-replicate {A = ℕ} 288 0; gives = length-replicate {A = ℤ} 288 (pos 0) }

zeros_written : Written [] (replicate 288 0) (replicate 288 (pos 0)) (replicate 288 0) (replicate 288 (pos 0))
zeros_written = record { from = refl; reads = refl; to = refl; gives = refl }

module _ {ls : List Link} {r : ℕ} {a c : List ℕ} {x y : List ℤ} (f : Adds ls 0 r (replicate 288 0) (replicate 288 (pos 0)) (replicate 288 0) (replicate 288 (pos 0)) a x c y) where
  all : Written ls a x c y
  all = f.grown [] refl zeros_written

  pub all_count : r ≡ length ls
  all_count = omega (arith, f.count)

  pub all_from : a ≡ padded 0 288 (map (λ (l : Link). l.a) ls)
  all_from = all.from ∙ over_zeros 0 288 (map (λ (l : Link). l.a) ls)

  pub all_reads : x ≡ padded (pos 0) 288 (map (λ (l : Link). l.x) ls)
  all_reads = all.reads ∙ over_zeros (pos 0) 288 (map (λ (l : Link). l.x) ls)

  pub all_to : c ≡ padded 0 288 (map (λ (l : Link). l.b) ls)
  all_to = all.to ∙ over_zeros 0 288 (map (λ (l : Link). l.b) ls)

  pub all_gives : y ≡ padded (pos 0) 288 (map (λ (l : Link). l.y) ls)
  all_gives = all.gives ∙ over_zeros (pos 0) 288 (map (λ (l : Link). l.y) ls)
