-- What 10 and 15 say of paths, and 10 of names, as rules, so that a loop over the entries judges them as it judges any rule. Assumes nothing.
use Rattle.std.specs.Prelude.{◌≡◌, refl, Bool, true, false, ◌||◌, List, [], ◌∷◌, ℕ, suc, take}
use Rattle.std.proofs.Common.{sym, ap, ◌∙◌}
use Rattle.manifest.specs.View.{Cell, absent, wrong, many, one}
use Rattle.manifest.specs.Rows.{Manifest, Entry, trace_file, trace_machine, path, holds, any, any_at, entries, declared, cited_files, cited_machines}
use Rattle.manifest.specs.Rules.{Rule, applies, each, nowhere_else, in_trace_time, outside_of, no_path, no_name, has_path}
use Rattle.sizes.specs.Sizes.{broken_paths, broken_names}
use Rattle.once.specs.Once.{path_twice}

-- what 10 says of paths, "Paths 1 to 255 bytes": of those that entries have, of those that they cite, and of that of `trace_time`
unfoldable pub own_10 : Rule
own_10 = record { number = 10; outside = nowhere_else; within = each (λ e. holds no_path (path e)) }

unfoldable pub cited_10 : Rule
cited_10 = record { number = 10; outside = nowhere_else; within = each (λ e. any no_path (cited_files e)) }

abbrev pub trace_10 : Manifest → Bool
trace_10 = in_trace_time (λ t. holds no_path (trace_file t))

-- what 15 says of them: a path in two entries. Of two it applies in the later one
unfoldable pub paths_15 : Rule
paths_15 = record {
  number = 15;
  outside = nowhere_else;
  within = λ m i e. holds (λ v. holds (λ t. any (holds (has_path t)) (take i (entries m))) (path v)) e;
}

-- what 10 says of names: of those that entries cite or declare, and of that of `trace_time`
unfoldable pub names_10 : Rule
names_10 = record {
  number = 10;
  outside = in_trace_time (λ t. holds no_name (trace_machine t));
  within = each (λ e. any no_name (cited_machines e) || any (outside_of 0 64) (declared e));
}

-- ---- they are what `sizes` and `once` are told

each_any : (p : Entry → Bool) (i : ℕ) (l : List (Cell Entry)) → any_at (λ j e. holds p e) i l ≡ any (holds p) l
unfolding any_at any
each_any p i [] = refl
each_any p i (e ∷ l) = ap (λ (b : Bool). holds p e || b) (each_any p (suc i) l)

-- one of two tests holds of an element: one of them holds of an element
or_two : (a b c d : Bool) → ((a || b) || (c || d)) ≡ ((a || c) || (b || d))
or_two true b c d = refl
or_two false true true d = refl
or_two false true false d = refl
or_two false false c d = refl

one_of_two : (p q : Entry → Bool) (c : Cell Entry) → holds (λ e. p e || q e) c ≡ (holds p c || holds q c)
unfolding holds
one_of_two p q absent = refl
one_of_two p q wrong = refl
one_of_two p q (many i) = refl
one_of_two p q (one a) = refl

any_of_two : (p q : Entry → Bool) (l : List (Cell Entry)) → any (holds (λ e. p e || q e)) l ≡ (any (holds p) l || any (holds q) l)
unfolding any
any_of_two p q [] = refl
any_of_two p q (c ∷ l) = (λ i. one_of_two p q c i || any_of_two p q l i) ∙ or_two (holds p c) (holds q c) (any (holds p) l) (any (holds q) l)

pub broken_is : (m : Manifest) {a b c d r : Bool} → a ≡ trace_10 m → b ≡ applies own_10 m → c ≡ applies cited_10 m → d ≡ (b || c) → r ≡ (a || d) → r ≡ broken_paths m
unfolding applies own_10 cited_10 broken_paths
broken_is m ea eb ec ed er =
    let p : Entry → Bool = λ e. holds no_path (path e) in
    let q : Entry → Bool = λ e. any no_path (cited_files e) in
    er
    ∙ (λ i. ea i || (ed ∙ (λ k. eb k || ec k)) i)
    ∙ (λ i. trace_10 m || (each_any p 0 (entries m) i || each_any q 0 (entries m) i))
    ∙ ap (λ (x : Bool). trace_10 m || x) (sym (any_of_two p q (entries m)))

pub twice_is : (m : Manifest) → applies paths_15 m ≡ path_twice m
unfolding applies paths_15 path_twice
twice_is m = refl

pub names_are : (m : Manifest) → applies names_10 m ≡ broken_names m
unfolding applies names_10 broken_names
names_are m = ap (λ (b : Bool). in_trace_time (λ t. holds no_name (trace_machine t)) m || b) (each_any (λ e. any no_name (cited_machines e) || any (outside_of 0 64) (declared e)) 0 (entries m))
