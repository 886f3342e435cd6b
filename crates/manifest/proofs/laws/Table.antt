-- The table of kinds as code can hold it: twelve kinds by number, and a row for each known member. One recursive function and one loop over rows then serve all seven
-- objects; a member's kind has a smaller number than its object's, so the number is the measure.
use Rattle.std.specs.Prelude.{◌≡◌, refl, Bool, true, ◌&&◌, List, [], ◌∷◌, ℕ, eqb, ltb, get_or}
use Rattle.text.specs.Reading.{Text, pick}
use Rattle.manifest.specs.Names.{bytes}
use Rattle.manifest.specs.Kinds.{Kind, text, integer, free, array, object, Fields, end, field, required, optional, sync_to_fields, clocks, item, machine, entry, trace_time_fields, manifest}

-- the object, the name, whether 9 asks for it, the kind of the value
pub record Line : Type 0 where
  pub place : ℕ
  pub name : Text
  pub asked : Bool
  pub kind : ℕ

abbrev line : ℕ → Text → Bool → ℕ → Line
line p n r k = record { place = p; name = n; asked = r; kind = k }

-- 0 text, 1 integer, 2 free, 3 sync_to, 4 clocks, 5 item, 6 machine, 7 items, 8 entry, 9 entries, 10 trace_time, 11 manifest
abbrev pub lines : List Line
lines =
    line 3 (bytes "file") optional 0
    ∷ line 3 (bytes "machine") optional 0
    ∷ line 3 (bytes "clock") optional 0
    ∷ line 4 (bytes "clock") optional 0
    ∷ line 4 (bytes "machine") optional 0
    ∷ line 4 (bytes "sync_to") optional 3
    ∷ line 4 (bytes "offset_ns") optional 2
    ∷ line 5 (bytes "id") required 1
    ∷ line 5 (bytes "name") required 0
    ∷ line 6 (bytes "name") required 0
    ∷ line 8 (bytes "path") required 0
    ∷ line 8 (bytes "machine") optional 6
    ∷ line 8 (bytes "machines") optional 7
    ∷ line 8 (bytes "clocks") optional 4
    ∷ line 10 (bytes "clock") required 0
    ∷ line 10 (bytes "file") optional 0
    ∷ line 10 (bytes "machine") optional 0
    ∷ line 11 (bytes "version") optional 2
    ∷ line 11 (bytes "trace_time") optional 10
    ∷ line 11 (bytes "files") optional 9
    ∷ []

abbrev pub kinds : List Kind
kinds =
    text ∷ integer ∷ free ∷ object sync_to_fields ∷ object clocks ∷ object item ∷ object machine ∷ array (object item) ∷ object entry ∷ array (object entry)
    ∷ object trace_time_fields ∷ object manifest ∷ []

unfoldable pub kind_at : ℕ → Kind
kind_at n = get_or kinds n free

-- the fields of an object, from the lines
unfoldable pub fields_at : ℕ → List Line → Fields
fields_at p [] = end
fields_at p (l ∷ ls) = pick (eqb l.place p) (field l.name l.asked (kind_at l.kind) (fields_at p ls)) (fields_at p ls)

-- what the lines say is the table
pub agrees : (object (fields_at 3 lines) ∷ object (fields_at 4 lines) ∷ object (fields_at 5 lines) ∷ object (fields_at 6 lines) ∷ object (fields_at 8 lines) ∷ object (fields_at 10 lines) ∷ object (fields_at 11 lines) ∷ [])
    ≡ (kind_at 3 ∷ kind_at 4 ∷ kind_at 5 ∷ kind_at 6 ∷ kind_at 8 ∷ kind_at 10 ∷ kind_at 11 ∷ [])
unfolding fields_at kind_at pick
agrees = refl

unfoldable pub falling : List Line → Bool
falling [] = true
falling (l ∷ ls) = ltb l.kind l.place && falling ls

pub falls : falling lines ≡ true
unfolding falling
falls = refl
