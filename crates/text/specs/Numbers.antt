-- A JSON number (RFC 8259, section 6): its characters. Assumes nothing.
use Rattle.std.specs.Prelude.{ℕ, ◌+◌, ◌||◌, eqb}
use Rattle.text.specs.Reading.{Text, Out, done, bad, Reader, next, pick, peek, run, part}
use Rattle.text.specs.Class.{digit}

-- 1*DIGIT
unfoldable pub digits : Reader (Unit {0})
digits s i = pick (digit (peek s i)) (done tt (run digit s i)) (bad i)

-- [ minus ]
unfoldable pub minus : Text → ℕ → ℕ
minus s i = pick (eqb (peek s i) 45) (i + 1) i

-- [ minus / plus ]
unfoldable pub sign : Text → ℕ → ℕ
sign s i = pick (eqb (peek s i) 45 || eqb (peek s i) 43) (i + 1) i

-- int = zero / ( digit1-9 *DIGIT )
unfoldable pub int : Reader (Unit {0})
int s i = pick (eqb (peek s i) 48) (done tt (i + 1)) (digits s i)

-- [ frac ], frac = decimal-point 1*DIGIT
unfoldable pub frac : Reader (Unit {0})
frac s i = pick (eqb (peek s i) 46) (digits s (i + 1)) (done tt i)

-- [ exp ], exp = e [ minus / plus ] 1*DIGIT, e being either letter
unfoldable pub exp : Reader (Unit {0})
exp s i = pick (eqb (peek s i) 101 || eqb (peek s i) 69) (digits s (sign s (i + 1))) (done tt i)

-- [ frac ] [ exp ] after an int that ends at j
unfoldable pub rest : Text → Unit {0} → ℕ → Out (Unit {0})
rest s u j = next (frac s j) (λ w k. exp s k)

-- the characters from i up to n
unfoldable pub written : Text → ℕ → Unit {0} → ℕ → Out Text
written s i u n = done (part s i n) n

-- number = [ minus ] int [ frac ] [ exp ]
unfoldable pub number : Reader Text
number s i = next (next (int s (minus s i)) (rest s)) (written s i)
