-- Names as bytes: a quoted text of ASCII is its bytes. Assumes nothing.
use Rattle.std.specs.Prelude.{[], ◌∷◌}
use Prim.Native.Char.{code}
use Prim.Native.String.{String, [] as no-letters, ◌∷◌ as letter}
use Rattle.text.specs.Reading.{Text}

abbrev pub bytes : String → Text
bytes no-letters = []
bytes (letter c s) = code c ∷ bytes s
