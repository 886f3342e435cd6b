-- A JSON string (RFC 8259, section 7) in UTF-8 (RFC 3629), character by character. Assumes nothing.
use Rattle.std.specs.Prelude.{ℕ, zero, suc, ◌+◌, ◌*◌, ◌-◌, ◌/◌, ◌%◌, Bool, ◌&&◌, ◌||◌, [], ◌∷◌, ◌++◌, length, leb, ltb, eqb}
use Rattle.text.specs.Reading.{Text, Out, done, bad, deep, Reader, next, pick, peek}
use Rattle.text.specs.Class.{range, among, class_of}
use Rattle.text.specs.declared.Code.{Code}
use Rattle.text.specs.declared.Code.TheVariants.{Of, No}

-- the value of a hexadecimal digit; 16 of any other byte
unfoldable pub hex_of : ℕ → ℕ
hex_of b =
    pick (leb 48 b && leb b 57) (b - 48)
    (pick (leb 65 b && leb b 70) (b - 55)
    (pick (leb 97 b && leb b 102) (b - 87) 16))

-- what a backslash and the byte b stand for (quote, slash, backslash, b, f, n, r, t); 0 of a byte that ends no such escape
unfoldable pub escape_of : ℕ → ℕ
escape_of b =
    among (range 34 34 34 ∷ range 47 47 47 ∷ range 92 92 92 ∷ range 98 98 8 ∷ range 102 102 12 ∷ range 110 110 10 ∷
    range 114 114 13 ∷ range 116 116 9 ∷ [])
    b

-- two hexadecimal digits, after the number v
unfoldable pub pair_of : ℕ → Reader ℕ
pair_of v s i =
    pick (ltb (hex_of (peek s i)) 16)
    (pick (ltb (hex_of (peek s (i + 1))) 16)
    (done ((v * 16 + hex_of (peek s i)) * 16 + hex_of (peek s (i + 1))) (i + 2))
    (bad (i + 1)))
    (bad i)

-- four hexadecimal digits that are no low surrogate: after D comes at most B
unfoldable pub quad : Reader ℕ
quad s i =
    pick (ltb (hex_of (peek s i)) 16)
    (pick (ltb (hex_of (peek s (i + 1))) (pick (eqb (hex_of (peek s i)) 13) 12 16))
    (pair_of (hex_of (peek s i) * 16 + hex_of (peek s (i + 1))) s (i + 2))
    (bad (i + 1)))
    (bad i)

-- \u and a low surrogate: D, then C to F, then two digits
unfoldable pub low : Reader ℕ
low s i =
    pick (eqb (peek s i) 92)
    (pick (eqb (peek s (i + 1)) 117)
    (pick (eqb (hex_of (peek s (i + 2))) 13)
    (pick (eqb (hex_of (peek s (i + 3)) / 4) 3)
    (pair_of (208 + hex_of (peek s (i + 3))) s (i + 4))
    (bad (i + 3)))
    (bad (i + 2)))
    (bad (i + 1)))
    (bad i)

-- the high surrogate v and the low one w are one code point
unfoldable pub joined : ℕ → ℕ → ℕ → Out ℕ
joined v w j = done (65536 + v % 1024 * 1024 + w % 1024) j

-- after the four digits of v, which end at j: a high surrogate (D800 to DBFF) asks for a low one
unfoldable pub paired : Text → ℕ → ℕ → Out ℕ
paired s v j = pick (eqb (v / 1024) 54) (next (low s j) (joined v)) (done v j)

-- a backslash at i, and what follows it
unfoldable pub escape : Reader ℕ
escape s i =
    pick (eqb (peek s (i + 1)) 117)
    (next (quad s (i + 2)) (paired s))
    (pick (eqb (escape_of (peek s (i + 1))) 0) (bad (i + 1)) (done (escape_of (peek s (i + 1))) (i + 2)))

-- a UTF-8 continuation byte
unfoldable pub tail : ℕ → Bool
tail c = eqb (c / 64) 2

-- c may come second after the first byte b: after E0 from A0 on, after ED to 9F, after F0 from 90 on, after F4 to 8F
unfoldable pub second : ℕ → ℕ → Bool
second b c =
    leb (pick (eqb b 224) 160 (pick (eqb b 240) 144 128)) c
    && leb c (pick (eqb b 237) 159 (pick (eqb b 244) 143 191))

-- characters of two, three and four bytes
unfoldable pub two : Reader ℕ
two s i =
    pick (second (peek s i) (peek s (i + 1)))
    (done (peek s i % 32 * 64 + peek s (i + 1) % 64) (i + 2))
    (bad (i + 1))

unfoldable pub three : Reader ℕ
three s i =
    pick (second (peek s i) (peek s (i + 1)))
    (pick (tail (peek s (i + 2)))
    (done ((peek s i % 16 * 64 + peek s (i + 1) % 64) * 64 + peek s (i + 2) % 64) (i + 3))
    (bad (i + 2)))
    (bad (i + 1))

unfoldable pub four : Reader ℕ
four s i =
    pick (second (peek s i) (peek s (i + 1)))
    (pick (tail (peek s (i + 2)))
    (pick (tail (peek s (i + 3)))
    (done (((peek s i % 8 * 64 + peek s (i + 1) % 64) * 64 + peek s (i + 2) % 64) * 64 + peek s (i + 3) % 64) (i + 4))
    (bad (i + 3)))
    (bad (i + 2)))
    (bad (i + 1))

-- by the class k of the byte at i: control bytes and the quote are no character, nor is a byte that starts none in UTF-8
unfoldable pub classed : ℕ → Reader ℕ
classed k s i =
    pick (eqb k 3) (escape s i)
    (pick (eqb k 19) (two s i)
    (pick (eqb k 20) (three s i)
    (pick (eqb k 21) (four s i)
    (pick (ltb k 4 || ltb 17 k) (bad i) (done (peek s i) (i + 1))))))

-- a character of a string: its code point
unfoldable pub character : Reader ℕ
character s i = classed (class_of (peek s i)) s i

-- what reading a character says: its code point and the position past it, or the bad position
unfoldable pub code_of : Out ℕ → Code
code_of (done v j) = Of v j
code_of (bad i) = No i
code_of (deep i) = No i

-- a code point in UTF-8
unfoldable pub utf8 : ℕ → Text
utf8 v =
    pick (ltb v 128) (v ∷ [])
    (pick (ltb v 2048) ((192 + v / 64) ∷ (128 + v % 64) ∷ [])
    (pick (ltb v 65536) ((224 + v / 4096) ∷ (128 + v / 64 % 64) ∷ (128 + v % 64) ∷ [])
    ((240 + v / 262144) ∷ (128 + v / 4096 % 64) ∷ (128 + v / 64 % 64) ∷ (128 + v % 64) ∷ [])))

-- the character v before the text t
unfoldable pub before : ℕ → Text → ℕ → Out Text
before v t j = done (utf8 v ++ t) j

-- after the character v, which ends at j: what `more` reads
unfoldable pub onward : Reader Text → Text → ℕ → ℕ → Out Text
onward more s v j = next (more s j) (before v)

-- characters, and the closing quote. A character takes a byte at least, so a turn more than the text has bytes is enough
unfoldable pub characters : ℕ → Reader Text
characters zero s i = bad i
characters (suc turns) s i = pick (eqb (peek s i) 34) (done [] (i + 1)) (next (character s i) (onward (characters turns) s))

-- a string: its text after unescaping, in UTF-8
unfoldable pub string : Reader Text
string s i = pick (eqb (peek s i) 34) (characters (suc (length s)) s (i + 1)) (bad i)
