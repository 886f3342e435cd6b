-- Lists that are mapped and padded, by number. Assumes nothing.
use Rattle.std.specs.Prelude.{◌≡◌, refl, List, [], ◌∷◌, map, ℕ, zero, suc, ◌+◌, ◌-◌, ◌≤◌, ◌<◌, ℤ, length, get_or, replicate}
use Rattle.std.proofs.Common.{ap, ◌∙◌, arith, get_or-append-add}
use Rattle.std.proofs.Math.ListN.{get_or-append}
use Rattle.records.specs.declared.Event.{Event}
use Rattle.graphs.specs.Graphs.{World}
use Rattle.clocks.specs.Answers.{Answer, answer_of, answers_of}
use Rattle.merged.specs.Merged.{padded}

pub length_map : {A B : Type 0} (f : A → B) (l : List A) → length (map f l) ≡ length l
length_map f [] = refl
length_map f (a ∷ l) = ap suc (length_map f l)

pub get_d_map : {A B : Type 0} (f : A → B) (l : List A) (k : ℕ) (d : A) (e : B) → k < length l → get_or (map f l) k e ≡ f (get_or l k d)
get_d_map f [] k d e h = absurd (omega arith)
get_d_map f (a ∷ l) zero d e h = refl
get_d_map f (a ∷ l) (suc k) d e h = get_d_map f l k d e (omega arith)

get_d_zeros : {A : Type 0} (z : A) (n k : ℕ) → get_or (replicate n z) k z ≡ z
get_d_zeros z zero k = refl
get_d_zeros z (suc n) zero = refl
get_d_zeros z (suc n) (suc k) = get_d_zeros z n k

-- in a padded list: a number below the list's length, and one past it
pub padded_below : {A : Type 0} (z : A) (room : ℕ) (l : List A) (k : ℕ) → k < length l → get_or (padded z room l) k z ≡ get_or l k z
padded_below z room l k h = get_or-append l (replicate (room - length l) z) z k h

pub padded_past : {A : Type 0} (z : A) (room : ℕ) (l : List A) (k : ℕ) → length l ≤ k → get_or (padded z room l) k z ≡ z
padded_past z room l k h =
    (let e : k ≡ length l + (k - length l) = omega arith in ap (λ (n : ℕ). get_or (padded z room l) n z) e)
    ∙ (get_or-append-add l (replicate (room - length l) z) (k - length l) z ∙ get_d_zeros z (room - length l) (k - length l))

-- each event's answer by itself
pub answers_map : (w : World) (c : Event → ℕ) (t : Event → ℤ) (l : List Event) → answers_of w (map c l) (map t l) ≡ map (λ e. answer_of w (c e) (t e)) l
unfolding answers_of
answers_map w c t [] = refl
answers_map w c t (e ∷ l) = ap (λ (k : List Answer). answer_of w (c e) (t e) ∷ k) (answers_map w c t l)
