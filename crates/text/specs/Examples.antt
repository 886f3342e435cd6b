-- Worked examples, by computing. Assumes nothing.
use Rattle.std.specs.Prelude.{◌≡◌, refl, [], ◌∷◌}
use Rattle.text.specs.Reading.{done, bad, next, pick, peek, count, run, part, word, scan}
use Rattle.text.specs.Class.{class_of, whitespace, skip, digit}
use Rattle.text.specs.Strings.{hex_of, escape_of, pair_of, quad, low, joined, paired, escape, tail, second, two, three, four, classed, character, utf8, before, onward, characters, string}
use Rattle.text.specs.Raw.{further, raw_turns, past_raw}
use Rattle.text.specs.Escapes.{short_at, packed, long_at, bytes_in, several_at}
use Rattle.text.specs.Numbers.{digits, minus, sign, int, frac, exp, rest, written, number}

-- what the examples compute with
opened : Unit {0}
unfolding next pick peek count run part word scan class_of whitespace skip digit hex_of escape_of pair_of quad low joined paired escape tail second two three four classed character utf8 before onward characters string further raw_turns past_raw short_at packed long_at bytes_in several_at digits minus sign int frac exp rest written number
opened = tt

-- "a\n"
short : string (34 ∷ 97 ∷ 92 ∷ 110 ∷ 34 ∷ []) 0 ≡ done (97 ∷ 10 ∷ []) 5
unfolding opened
short = refl

-- "\ud83d\ude00" is one character of four bytes
surrogates : string (34 ∷ 92 ∷ 117 ∷ 100 ∷ 56 ∷ 51 ∷ 100 ∷ 92 ∷ 117 ∷ 100 ∷ 101 ∷ 48 ∷ 48 ∷ 34 ∷ []) 0 ≡ done (240 ∷ 159 ∷ 152 ∷ 128 ∷ []) 14
unfolding opened
surrogates = refl

-- "\udc00": a lone low surrogate dies at its second digit
lone_low : string (34 ∷ 92 ∷ 117 ∷ 100 ∷ 99 ∷ 48 ∷ 48 ∷ 34 ∷ []) 0 ≡ bad 4
unfolding opened
lone_low = refl

-- -0.5e+10 and then a comma
a_number : number (45 ∷ 48 ∷ 46 ∷ 53 ∷ 101 ∷ 43 ∷ 49 ∷ 48 ∷ 44 ∷ []) 0 ≡ done (45 ∷ 48 ∷ 46 ∷ 53 ∷ 101 ∷ 43 ∷ 49 ∷ 48 ∷ []) 8
unfolding opened
a_number = refl

-- 01 ends after its zero
leading_zero : number (48 ∷ 49 ∷ []) 0 ≡ done (48 ∷ []) 1
unfolding opened
leading_zero = refl

-- "-" and the end
no_digit : number (45 ∷ []) 0 ≡ bad 1
unfolding opened
no_digit = refl

-- "é" as it stands, in two bytes
two_bytes : string (34 ∷ 195 ∷ 169 ∷ 34 ∷ []) 0 ≡ done (195 ∷ 169 ∷ []) 4
unfolding opened
two_bytes = refl

-- E0 80 would be a longer form than need be
overlong : string (34 ∷ 224 ∷ 128 ∷ 128 ∷ 34 ∷ []) 0 ≡ bad 2
unfolding opened
overlong = refl

-- a tab within a string
control : string (34 ∷ 9 ∷ 34 ∷ []) 0 ≡ bad 1
unfolding opened
control = refl

-- a string that the end cuts off
unclosed : string (34 ∷ 97 ∷ []) 0 ≡ bad 2
unfolding opened
unclosed = refl

-- "\ud800": after a high surrogate a quote is wrong
lone_high : string (34 ∷ 92 ∷ 117 ∷ 100 ∷ 56 ∷ 48 ∷ 48 ∷ 34 ∷ []) 0 ≡ bad 7
unfolding opened
lone_high = refl

-- "1." and "1e+" want a digit
no_fraction : number (49 ∷ 46 ∷ []) 0 ≡ bad 2
unfolding opened
no_fraction = refl

no_exponent : number (49 ∷ 101 ∷ 43 ∷ 44 ∷ []) 0 ≡ bad 3
unfolding opened
no_exponent = refl

-- true, and tru with the end after it
whole_word : word (116 ∷ 114 ∷ 117 ∷ 101 ∷ []) (116 ∷ 114 ∷ 117 ∷ 101 ∷ 44 ∷ []) 0 ≡ done tt 4
unfolding opened
whole_word = refl

cut_word : word (116 ∷ 114 ∷ 117 ∷ 101 ∷ []) (116 ∷ 114 ∷ 117 ∷ []) 0 ≡ bad 3
unfolding opened
cut_word = refl

-- space, tab, line feed, carriage return, and then no more
blanks : skip (32 ∷ 9 ∷ 10 ∷ 13 ∷ 12 ∷ []) 0 ≡ 4
unfolding opened
blanks = refl

-- aé€ and then an escape, which is not passed; a letter and then a byte that begins no character
raw_then_escape : past_raw (97 ∷ 195 ∷ 169 ∷ 226 ∷ 130 ∷ 172 ∷ 92 ∷ 110 ∷ []) 0 ≡ 6
unfolding opened
raw_then_escape = refl

raw_then_wrong : past_raw (97 ∷ 169 ∷ 34 ∷ []) 0 ≡ 1
unfolding opened
raw_then_wrong = refl

-- \n is 10; é is E9 with 6 bytes as \u00e9, and a character of 2 bytes as it stands; 😀 is 1F600 with 12 bytes as \ud83d\ude00, whose second half alone is none
newline_told : short_at (92 ∷ 110 ∷ []) 0 ≡ 10
unfolding opened
newline_told = refl

escape_told : long_at (92 ∷ 117 ∷ 48 ∷ 48 ∷ 101 ∷ 57 ∷ []) 0 ≡ 3734
unfolding opened
escape_told = refl

surrogates_told : long_at (92 ∷ 117 ∷ 100 ∷ 56 ∷ 51 ∷ 100 ∷ 92 ∷ 117 ∷ 100 ∷ 101 ∷ 48 ∷ 48 ∷ []) 0 ≡ 2056204
unfolding opened
surrogates_told = refl

half_told : long_at (92 ∷ 117 ∷ 100 ∷ 101 ∷ 48 ∷ 48 ∷ []) 0 ≡ 0
unfolding opened
half_told = refl

two_told : several_at (195 ∷ 169 ∷ []) 0 ≡ 2
unfolding opened
two_told = refl
