-- How a text is read: from a position on, to a value and the position past it, or to the position where it goes wrong.
-- Positions count from 0. Past the end stands the number 256, which is no byte, so that no reader has a case for the end. Assumes nothing.
use Rattle.std.specs.Prelude.{Bool, true, false, List, [], ◌∷◌, ℕ, suc, ◌+◌, ◌-◌, get_or, take, drop, eqb}
use Rattle.text.specs.declared.Scan.{Scan}
use Rattle.text.specs.declared.Scan.TheVariants.{Done, Bad, Deep}

-- bytes, each a number below 256
abbrev pub Text : Type 0
Text = List ℕ

-- what was read and the position past it; or the first position after which no well-formed text is possible; or the position of the byte
-- that opens one level too many
pub data Out (A : Type 0) : Type 0 where
  done : A → ℕ → Out A
  bad : ℕ → Out A
  deep : ℕ → Out A

-- a reader reads a text from a position on
abbrev pub Reader : Type 0 → Type 0
Reader A = Text → ℕ → Out A

-- go on with what was read, at the position past it
unfoldable pub next : {A B : Type 0} → Out A → (A → ℕ → Out B) → Out B
next (done a i) f = f a i
next (bad i) f = bad i
next (deep i) f = deep i

-- if, then, else
unfoldable pub pick : {A : Type 0} → Bool → A → A → A
pick true a b = a
pick false a b = b

-- the byte at i, and past the end 256
unfoldable pub peek : Text → ℕ → ℕ
peek s i = get_or s i 256

-- how many bytes of a kind a text begins with
unfoldable pub count : (ℕ → Bool) → Text → ℕ
count kind [] = 0
count kind (b ∷ s) = pick (kind b) (suc (count kind s)) 0

-- the first position at i or after it whose byte is not of the kind
unfoldable pub run : (ℕ → Bool) → Text → ℕ → ℕ
run kind s i = i + count kind (drop i s)

-- the bytes from i up to j
unfoldable pub part : Text → ℕ → ℕ → Text
part s i j = take (j - i) (drop i s)

-- these bytes, one after the other
unfoldable pub word : Text → Reader (Unit {0})
word [] s i = done tt i
word (b ∷ bs) s i = pick (eqb (peek s i) b) (word bs s (i + 1)) (bad i)

-- what reading says of positions, without what was read
unfoldable pub scan : {A : Type 0} → Out A → Scan
scan (done a i) = Done i
scan (bad i) = Bad i
scan (deep i) = Deep i
