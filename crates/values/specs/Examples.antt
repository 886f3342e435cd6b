-- Worked examples, by computing. Assumes nothing.
use Rattle.std.specs.Prelude.{◌≡◌, refl, true, false, [], ◌∷◌, pos, negsuc}
use Rattle.text.specs.Reading.{next, pick, peek, count, run, part, word}
use Rattle.text.specs.Class.{class_of, whitespace, skip, digit}
use Rattle.text.specs.Strings.{hex_of, escape_of, pair_of, quad, low, joined, paired, escape, tail, second, two, three, four, classed, character, utf8, before, onward, characters, string}
use Rattle.text.specs.Escapes.{packed, long_at}
use Rattle.text.specs.Numbers.{digits, minus, sign, int, frac, exp, rest, written, number}
use Rattle.grammar.specs.Tree.{same}
use Rattle.values.specs.Stands.{kind_by, kind_at}
use Rattle.values.specs.Strings.{length_in, length_at, is_text, same_as, both_text, same_texts, ascii_at}
use Rattle.values.specs.Integer.{broken, decimal, signed, integer, ranged, integer_in, integer_at}
use Rattle.values.specs.declared.Kind.TheVariants.{Nothing, Number}
use Rattle.values.specs.declared.Integer.TheVariants.{In, Below, Above, None}

-- what the examples compute with
opened : Unit {0}
unfolding next pick peek count run part word class_of whitespace skip digit hex_of escape_of pair_of quad low joined paired escape tail second two three four classed character utf8 before onward characters string digits minus sign int frac exp rest written number same kind_by kind_at length_in length_at is_text same_as both_text same_texts packed long_at ascii_at broken decimal signed integer ranged integer_in integer_at
opened = tt

-- 9223372036854775807 is the greatest that fits
greatest : integer_at (57 ∷ 50 ∷ 50 ∷ 51 ∷ 51 ∷ 55 ∷ 50 ∷ 48 ∷ 51 ∷ 54 ∷ 56 ∷ 53 ∷ 52 ∷ 55 ∷ 55 ∷ 53 ∷ 56 ∷ 48 ∷ 55 ∷ []) 0 ≡ In (pos 9223372036854775807)
unfolding opened
greatest = refl

-- 9223372036854775808
one_above : integer_at (57 ∷ 50 ∷ 50 ∷ 51 ∷ 51 ∷ 55 ∷ 50 ∷ 48 ∷ 51 ∷ 54 ∷ 56 ∷ 53 ∷ 52 ∷ 55 ∷ 55 ∷ 53 ∷ 56 ∷ 48 ∷ 56 ∷ []) 0 ≡ Above
unfolding opened
one_above = refl

-- -9223372036854775808 is the least that fits
least : integer_at (45 ∷ 57 ∷ 50 ∷ 50 ∷ 51 ∷ 51 ∷ 55 ∷ 50 ∷ 48 ∷ 51 ∷ 54 ∷ 56 ∷ 53 ∷ 52 ∷ 55 ∷ 55 ∷ 53 ∷ 56 ∷ 48 ∷ 56 ∷ []) 0 ≡ In (negsuc 9223372036854775807)
unfolding opened
least = refl

-- -9223372036854775809
one_below : integer_at (45 ∷ 57 ∷ 50 ∷ 50 ∷ 51 ∷ 51 ∷ 55 ∷ 50 ∷ 48 ∷ 51 ∷ 54 ∷ 56 ∷ 53 ∷ 52 ∷ 55 ∷ 55 ∷ 53 ∷ 56 ∷ 48 ∷ 57 ∷ []) 0 ≡ Below
unfolding opened
one_below = refl

-- 100000000000000000000000000000: digits of any length
far_above : integer_at (49 ∷ 48 ∷ 48 ∷ 48 ∷ 48 ∷ 48 ∷ 48 ∷ 48 ∷ 48 ∷ 48 ∷ 48 ∷ 48 ∷ 48 ∷ 48 ∷ 48 ∷ 48 ∷ 48 ∷ 48 ∷ 48 ∷ 48 ∷ 48 ∷ 48 ∷ 48 ∷ 48 ∷ 48 ∷ 48 ∷ 48 ∷ 48 ∷ 48 ∷ 48 ∷ []) 0 ≡ Above
unfolding opened
far_above = refl

-- -0 is 0
minus_zero : integer_at (45 ∷ 48 ∷ []) 0 ≡ In (pos 0)
unfolding opened
minus_zero = refl

-- 1.0 has a fraction, and 1e0 an exponent: no integers
a_fraction : integer_at (49 ∷ 46 ∷ 48 ∷ []) 0 ≡ None
unfolding opened
a_fraction = refl

an_exponent : integer_at (49 ∷ 101 ∷ 48 ∷ []) 0 ≡ None
unfolding opened
an_exponent = refl

-- "12" is no number
quoted : integer_at (34 ∷ 49 ∷ 50 ∷ 34 ∷ []) 0 ≡ None
unfolding opened
quoted = refl

-- "\\u0070ath" is path
escaped_path : same_as (34 ∷ 92 ∷ 117 ∷ 48 ∷ 48 ∷ 55 ∷ 48 ∷ 97 ∷ 116 ∷ 104 ∷ 34 ∷ []) 0 (112 ∷ 97 ∷ 116 ∷ 104 ∷ []) ≡ true
unfolding opened
escaped_path = refl

-- and not its beginning
no_prefix : same_as (34 ∷ 92 ∷ 117 ∷ 48 ∷ 48 ∷ 55 ∷ 48 ∷ 97 ∷ 116 ∷ 104 ∷ 34 ∷ []) 0 (112 ∷ 97 ∷ 116 ∷ []) ≡ false
unfolding opened
no_prefix = refl

-- "\\ud83d\\ude00" has four bytes
four_bytes : length_at (34 ∷ 92 ∷ 117 ∷ 100 ∷ 56 ∷ 51 ∷ 100 ∷ 92 ∷ 117 ∷ 100 ∷ 101 ∷ 48 ∷ 48 ∷ 34 ∷ []) 0 ≡ 4
unfolding opened
four_bytes = refl

-- "a" and "\\u0061", at 0 and at 3
two_spellings : same_texts (34 ∷ 97 ∷ 34 ∷ 34 ∷ 92 ∷ 117 ∷ 48 ∷ 48 ∷ 54 ∷ 49 ∷ 34 ∷ []) 0 3 ≡ true
unfolding opened
two_spellings = refl

-- \\u004d is M, and \\u00e9 is past ASCII
an_ascii_escape : ascii_at (92 ∷ 117 ∷ 48 ∷ 48 ∷ 52 ∷ 100 ∷ []) 0 ≡ 77
unfolding opened
an_ascii_escape = refl

past_ascii : ascii_at (92 ∷ 117 ∷ 48 ∷ 48 ∷ 101 ∷ 57 ∷ []) 0 ≡ 0
unfolding opened
past_ascii = refl

-- a string with no end is none
no_end : length_at (34 ∷ 97 ∷ 98 ∷ 99 ∷ []) 0 ≡ 0
unfolding opened
no_end = refl

-- -1 is a number by its first byte
by_minus : kind_at (45 ∷ 49 ∷ []) 0 ≡ Number
unfolding opened
by_minus = refl

-- and past the end there is nothing
past_the_end : kind_at (45 ∷ 49 ∷ []) 2 ≡ Nothing
unfolding opened
past_the_end = refl
