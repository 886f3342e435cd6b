-- What an integer is: a number with no fraction and no exponent, of any length; -0 is 0. Assumes nothing.
use Rattle.std.specs.Prelude.{Bool, false, ◌||◌, [], ◌∷◌, ℕ, ◌+◌, ◌*◌, ◌-◌, ◌^◌, eqb, ℤ, pos, neg_ℤ}
use Rattle.std.specs.Int.Signed.{lt_z}
use Rattle.text.specs.Reading.{Text, Out, done, bad, deep, pick}
use Rattle.text.specs.Numbers.{number}
use Rattle.grammar.specs.Tree.{Tree, null, bool, num, str, arr, obj}
use Rattle.values.specs.declared.Integer.{Integer}
use Rattle.values.specs.declared.Integer.TheVariants.{In, Below, Above, None}

-- a whole number, or none
pub data Whole : Type 0 where
  whole : ℤ → Whole
  none : Whole

-- a point or an e among the characters: a fraction or an exponent
unfoldable pub broken : Text → Bool
broken [] = false
broken (c ∷ cs) = (eqb c 46 || (eqb c 101 || eqb c 69)) || broken cs

-- the number that decimal digits write, after the number v
unfoldable pub decimal : ℕ → Text → ℕ
decimal v [] = v
decimal v (c ∷ cs) = decimal (v * 10 + (c - 48)) cs

-- digits, with a minus before them or not
unfoldable pub signed : Text → ℤ
signed [] = pos 0
signed (c ∷ cs) = pick (eqb c 45) (neg_ℤ (pos (decimal 0 cs))) (pos (decimal 0 (c ∷ cs)))

-- the integer that the characters of a number write
unfoldable pub integer : Text → Whole
integer cs = pick (broken cs) none (whole (signed cs))

-- the same in 64 bits: -2^63 to 2^63 - 1, or below, or above
unfoldable pub ranged : Whole → Integer
ranged (whole z) =
    pick (lt_z z (neg_ℤ (pos (2 ^ 63)))) Below
    (pick (lt_z z (pos (2 ^ 63))) (In z) Above)
ranged none = None

-- of a number's characters, if one was read
unfoldable pub integer_in : Out Text → Integer
integer_in (done cs j) = ranged (integer cs)
integer_in (bad p) = None
integer_in (deep p) = None

-- the integer at p
unfoldable pub integer_at : Text → ℕ → Integer
integer_at s p = integer_in (number s p)

-- the same of a value
unfoldable pub integer_of : Tree → Integer
integer_of null = None
integer_of (bool b) = None
integer_of (num cs) = ranged (integer cs)
integer_of (str t) = None
integer_of (arr ts) = None
integer_of (obj ms) = None
