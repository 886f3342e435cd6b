-- The first of refusals 1 to 9 of a text, or 10 where the index cannot hold its entries or their items; and the index of a text that none of them refuses.
-- Assumes nothing.
use Rattle.std.specs.Prelude.{List, ℕ, eqb, ltb, length, replicate}
use Rattle.text.specs.Reading.{Text, Out, done, bad, deep, pick}
use Rattle.grammar.specs.Tree.{Tree}
use Rattle.grammar.specs.Document.{read}
use Rattle.manifest.specs.Manifest.{most_bytes, starts}
use Rattle.outline.specs.declared.Standing.{Standing}
use Rattle.outline.specs.declared.Standing.TheVariants.{At, Refused}
use Rattle.outline.specs.Outline.{root_at, versions_at}
use Rattle.members.specs.Members.{member_refusal_at}
use Rattle.index.specs.Index.{index_of, too_many}

-- 3 or 4; 0 of what is read
unfoldable pub early_in : Out Tree → ℕ
early_in (done t j) = 0
early_in (bad p) = 3
early_in (deep p) = 4

-- 1 to 4 of a text that has bytes; 0 if none applies
unfoldable pub early_of : Text → ℕ
early_of s = pick (ltb most_bytes (length s)) 1 (pick (starts s) (early_in (read s)) 2)

-- 6 to 9 of the manifest object at v, or 10 if it has more than an index holds
unfoldable pub object_refusal : Text → ℕ → ℕ
object_refusal s v =
    pick (eqb (versions_at s v) 0)
    (pick (eqb (member_refusal_at s v) 0) (pick (too_many s v) 10 0) (member_refusal_at s v))
    (versions_at s v)

-- 5 to 10, by where the manifest object stands
unfoldable pub root_refusal : Text → Standing → ℕ
root_refusal s (At v) = object_refusal s v
root_refusal s Refused = 5

-- 1 to 10; 0 if none applies, and of no bytes
unfoldable pub survey_of : Text → ℕ
survey_of s = pick (eqb (length s) 0) 0 (pick (eqb (early_of s) 0) (root_refusal s (root_at s)) (early_of s))

unfoldable pub index_from : Text → Standing → List ℕ
index_from s (At v) = index_of s v
index_from s Refused = replicate 2470 0

-- the index of a text that none of 1 to 10 refuses; zeros of a refused one, and of no bytes
unfoldable pub surveyed : Text → List ℕ
surveyed s = pick (eqb (survey_of s) 0) (index_from s (root_at s)) (replicate 2470 0)
