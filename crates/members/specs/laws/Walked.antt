-- What a walk over a value, over the items of an array and over the members of an object has to find: the words of the private contracts. Assumes nothing.
use Rattle.std.specs.Prelude.{◌≡◌, Bool, true, false, not, ◌&&◌, ◌||◌, List, [], ◌∷◌, ℕ, eqb, get_or}
use Rattle.text.specs.Reading.{Text, Out, done}
use Rattle.text.specs.declared.Scan.{Scan}
use Rattle.text.specs.declared.Scan.TheVariants.{Done, Bad, Deep}
use Rattle.grammar.specs.Tree.{Tree, Members, members, get}
use Rattle.manifest.specs.Rows.{any}
use Rattle.manifest.proofs.laws.Judge.{judged}
use Rattle.manifest.proofs.laws.Table.{Line, lines, kind_at}
use Rattle.manifest.proofs.laws.Walk.{from}
use Rattle.members.specs.declared.Walk.{Walk}
use Rattle.members.specs.declared.Known.{Known}
use Rattle.members.specs.laws.Flaw.{sought}
use Rattle.table.specs.Table.{line_at, value_kind}
use Rattle.table.specs.laws.Looking.{LineOf}

-- something was read
pub record Reads {A : Type 0} (o : Out A) : Type 0 where
  pub what : A
  pub until : ℕ
  pub was : o ≡ done what until

-- where a reading ended
abbrev pub reached : Scan → ℕ
reached (Done j) = j
reached (Bad p) = p
reached (Deep p) = p

-- the walk ended at n; what it found: something twice, or else something ill
pub record Over (w : Walk) (n : ℕ) (twice ill : Bool) : Type 0 where
  pub ends : w.end ≡ n
  pub doubled : w.twice ≡ twice
  pub faulty : twice ≡ false → w.ill ≡ ill

-- a value where one of kind k has to stand
pub record Told (k : ℕ) (w : Walk) (t : Tree) (n : ℕ) : Type 0 where
  pub over : (asked : Bool) → Over w n (judged (sought false) asked (kind_at k) t) (judged (sought true) asked (kind_at k) t)

-- items of kind k
pub record ItemsTold (k : ℕ) (w : Walk) (ts : List Tree) (n : ℕ) : Type 0 where
  pub over : Over w n (any (judged (sought false) true (kind_at k)) ts) (any (judged (sought true) true (kind_at k)) ts)

-- a member of an object of kind o
pub record MemberTold (o : ℕ) (m : Known) (x : Text × Tree) (n : ℕ) : Type 0 where
  pub line : LineOf o x.0 m.line
  pub value : Told (value_kind m.line) m.walk x.1 n

-- the members of an object of kind o
pub record MembersTold (o : ℕ) (w : Walk) (xs : List (Text × Tree)) (n : ℕ) : Type 0 where
  pub over : Over w n (from (sought false) o (members xs) lines) (from (sought true) o (members xs) lines)

-- what is twice in the values of one known member, if one was seen before
unfoldable pub twices : Bool → Line → List Tree → Bool
twices seen l [] = false
twices seen l (t ∷ ts) = (seen || judged (sought false) l.asked (kind_at l.kind) t) || twices true l ts

-- what is ill in them, and that there is none though one is asked for
unfoldable pub ills : Bool → Line → List Tree → Bool
ills seen l [] = not seen && l.asked
ills seen l (t ∷ ts) = judged (sought true) l.asked (kind_at l.kind) t || ills true l ts

-- the same of line j, if it is about objects of kind o, where those lines were seen at which 1 stands and the members ms are to come
unfoldable pub said_in : (Bool → Line → List Tree → Bool) → ℕ → List ℕ → Members → ℕ → Bool
said_in says o seen ms j = eqb (line_at j).place o && says (eqb (get_or seen j 0) 1) (line_at j) (get (line_at j).name ms)
