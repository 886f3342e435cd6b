-- What the tables are worth: they say what the manifest means. Assumes nothing.
use Rattle.std.specs.Prelude.{◌≡◌, refl, length, replicate}
use Rattle.text.specs.Reading.{Text}
use Rattle.manifest.specs.View.{one}
use Rattle.manifest.specs.Rules.{refusal_5_or_later}
use Rattle.manifest.specs.Manifest.{refusal_of, meaning_of}
use Rattle.index.specs.Index.{manifest_of}
use Rattle.reader.specs.Reader.{table_of, lookups_of, meaning_by}
use Rattle.reader.specs.laws.Tables.{zeros, refused_zeros, none_zeros, zeros_lookups}
use Rattle.reader.specs.laws.Meant.{table_meaning, table_refusal, table_long}

-- a table has 2470 numbers, whatever the text is
pub table_length : (s : Text) → length (table_of s) ≡ 2470
table_length s = table_long s

-- of every text, refused, accepted or none, the table says what the text means
pub table_means : (s : Text) → meaning_by s (table_of s) ≡ meaning_of s
table_means s = table_meaning s

-- and the manifest that the table of an accepted text stands for is accepted, so all that holds of accepted manifests holds of it
pub table_accepted : (s : Text) → refusal_of s ≡ 0 → refusal_5_or_later (one (manifest_of s (table_of s))) ≡ 0
table_accepted s e = table_refusal s e

-- a refusal leaves zeros in both tables, and so do no bytes
pub refused_leaves_zeros : (s : Text) → (refusal_of s ≡ 0 → ⊥) → (table_of s ≡ replicate 2470 0) × (lookups_of s ≡ replicate 129 0)
refused_leaves_zeros s some = let z : table_of s ≡ zeros = refused_zeros s refl some in (z, zeros_lookups s z)

pub nothing_leaves_zeros : (s : Text) → length s ≡ 0 → (table_of s ≡ replicate 2470 0) × (lookups_of s ≡ replicate 129 0)
nothing_leaves_zeros s none = let z : table_of s ≡ zeros = none_zeros s none in (z, zeros_lookups s z)
