-- The offset of an accepted manifest's entry: 22 and 23 leave an integer that 64 bits hold. Assumes nothing.
use Rattle.std.specs.Prelude.{◌≡◌, refl, Bool, true, false, List, ℕ, ◌≤◌, eqb, ltb, pos, negsuc}
use Rattle.std.proofs.Common.{ap, ◌∙◌, true≢false, arith, lt-ltb, le-ltb, ltb-false}
use Rattle.text.specs.Reading.{Text, Out, done, bad, deep, pick}
use Rattle.text.specs.Numbers.{number}
use Rattle.text.specs.laws.Readers.{pick_true, pick_false}
use Rattle.values.specs.Integer.{Whole, whole, none, ranged, integer_in, integer_at}
use Rattle.values.specs.declared.Integer.TheVariants.{In, Below, Above}
use Rattle.manifest.specs.View.{absent, one}
use Rattle.manifest.specs.Rows.{holds}
use Rattle.manifest.specs.Rules.{no_integer, too_far}
use Rattle.manifest.specs.Meaning.{offset_of}
use Rattle.manifest.proofs.laws.Bools.{halves}
use Rattle.index.specs.Index.{whole_in, whole_at, at, offset_cell}
use Rattle.meant.specs.Meant.{offset_in, offset_at}

-- both readings of the number at p are of one text
pub integer_ranged : (s : Text) (p : ℕ) → integer_at s p ≡ ranged (whole_at s p)
unfolding integer_at whole_at integer_in whole_in ranged
integer_ranged s p = go (number s p)
  where
    go : (o : Out Text) → integer_in o ≡ ranged (whole_in o)
    go (done cs j) = refl
    go (bad i) = refl
    go (deep i) = refl

-- an integer in 23's range is in the range of 64 bits, which has one number more
pub in_range : (w : Whole) → no_integer w ≡ false → too_far w ≡ false → offset_in (ranged w) ≡ offset_of (one w)
unfolding no_integer too_far ranged offset_in offset_of pick
in_range (whole (pos n)) e f =
    let h : n ≤ 9223372036854775807 = ltb-false 9223372036854775807 n f in
    ap offset_in (pick_true (In (pos n)) Above (lt-ltb n 9223372036854775808 (omega arith)))
in_range (whole (negsuc n)) e f =
    let h : n ≤ 9223372036854775806 = ltb-false 9223372036854775806 n (halves (ltb 9223372036854775806 n) false f).0 in
    ap offset_in (pick_false Below (In (negsuc n)) (le-ltb 9223372036854775807 n (omega arith)))
in_range none e f = absurd (true≢false e)

pub offset_is : (s : Text) (ix names : List ℕ) (p : ℕ) → holds no_integer (offset_cell s p) ≡ false → holds too_far (offset_cell s p) ≡ false → offset_at s ix names p ≡ offset_of (offset_cell s p)
unfolding holds at offset_at pick offset_of
offset_is s ix names p = go (eqb p 0)
  where
    go : (b : Bool) → holds no_integer (pick b absent (one (whole_at s p))) ≡ false → holds too_far (pick b absent (one (whole_at s p))) ≡ false
        → pick b (pos 0) (offset_in (integer_at s p)) ≡ offset_of (pick b absent (one (whole_at s p)))
    go true e f = refl
    go false e f = ap offset_in (integer_ranged s p) ∙ in_range (whole_at s p) e f
