-- The flaw that is looked for. Assumes nothing.
use Rattle.std.specs.Prelude.{Bool, true, false}
use Rattle.manifest.specs.Rules.{Look, twice, ill}

-- of a wrong type or absent (9's test), or else twice (8's)
unfoldable pub sought : Bool → Bool → Look → Bool
sought true = ill
sought false = twice
