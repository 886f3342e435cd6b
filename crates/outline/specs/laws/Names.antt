-- The text of a string, and the words that clocks' names consist of. Assumes nothing.
use Rattle.std.specs.Prelude.{◌≡◌, Bool, true, false, ◌&&◌, ◌||◌, [], ◌∷◌, ◌++◌, ℕ, ◌+◌, leb, eqb}
use Rattle.std.proofs.Common.{ap}
use Rattle.text.specs.Reading.{Text, Out, next, pick}
use Rattle.text.specs.laws.Raw.{prefixed}
use Rattle.grammar.specs.Tree.{str}
use Rattle.values.specs.Stands.{Stands}
use Rattle.values.specs.Strings.{is_text, rest}
use Rattle.values.specs.Theorems.{string_stands}
use Rattle.manifest.specs.Names.{bytes}
use Rattle.outline.specs.Outline.{text_in, text_at}

-- where a string stands the text is its text
pub text_stands : {s : Text} {p : ℕ} {t : Text} → Stands s p (str t) → text_at s p ≡ t
unfolding text_at text_in
text_stands h = ap text_in (string_stands h)

-- the clocks' names, one after the other
abbrev pub names : Text
names = bytes "REALTIMEREALTIME_COARSEMONOTONICMONOTONIC_COARSEMONOTONIC_RAWBOOTTIME"

-- ---- words of clocks' names

-- a capital letter or an underscore, and a word of these
abbrev pub capital : ℕ → Bool
capital b = (leb 65 b && leb b 90) || eqb b 95

abbrev pub capitals : Text → Bool
capitals [] = true
capitals (b ∷ w) = capital b && capitals w

-- r is behind the word w, with which what is left of a string from a position on begins; 0 if it does not begin with it
pub record Behind (s : Text) (from : ℕ) (w : Text) (r : ℕ) : Type 0 where
  pub some : (r ≡ 0 → ⊥) → rest s from ≡ next (rest s r) (prefixed w)
  pub none : r ≡ 0 → (v : Text) → is_text (rest s from) (w ++ v) ≡ false

-- the number, if nothing is left of a string; else 0
abbrev pub ended_as : Out Text → ℕ → ℕ
ended_as o number = pick (is_text o []) number 0

-- the number, if nothing is left of a string, and the next one, if _COARSE is; else 0
abbrev pub coarse_as : Out Text → ℕ → ℕ
coarse_as o number = pick (is_text o []) number (pick (is_text o (bytes "_COARSE")) (number + 1) 0)
