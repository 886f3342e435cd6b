-- Document 01's list of known members, as one table: each known object, its known names, and what each value has to be. Assumes nothing.
use Rattle.std.specs.Prelude.{Bool, true, false}
use Rattle.text.specs.Reading.{Text}
use Rattle.manifest.specs.Names.{bytes}

-- What a value has to be. `free` is any JSON value: rules of their own (7, 22) say what is wrong with it
mutual
  pub data Kind : Type 0 where
    text : Kind
    integer : Kind
    free : Kind
    array : Kind → Kind
    object : Fields → Kind

  pub data Fields : Type 0 where
    end : Fields
    -- a known name; whether refusal 9 asks for it; what its value has to be
    field : Text → Bool → Kind → Fields → Fields

abbrev pub required : Bool
required = true

abbrev pub optional : Bool
optional = false

-- `sync_to`: `file`, `machine`, `clock`. (Refusal 18 asks for `file`, so 9 does not)
abbrev pub sync_to_fields : Fields
sync_to_fields =
    field (bytes "file") optional text
    (field (bytes "machine") optional text
    (field (bytes "clock") optional text end))

-- `clocks`: `clock`, `machine`, `sync_to`, `offset_ns`. (16 asks for `sync_to`; 22 judges `offset_ns`)
abbrev pub clocks : Fields
clocks =
    field (bytes "clock") optional text
    (field (bytes "machine") optional text
    (field (bytes "sync_to") optional (object sync_to_fields)
    (field (bytes "offset_ns") optional free end)))

-- item of `machines`: `id`, `name` (both required)
abbrev pub item : Fields
item =
    field (bytes "id") required integer
    (field (bytes "name") required text end)

-- `machine`: `name` (required)
abbrev pub machine : Fields
machine = field (bytes "name") required text end

-- entry: `path` (required), `machine`, `machines`, `clocks`
abbrev pub entry : Fields
entry =
    field (bytes "path") required text
    (field (bytes "machine") optional (object machine)
    (field (bytes "machines") optional (array (object item))
    (field (bytes "clocks") optional (object clocks) end)))

-- `trace_time`: `clock` (required), `file`, `machine`
abbrev pub trace_time_fields : Fields
trace_time_fields =
    field (bytes "clock") required text
    (field (bytes "file") optional text
    (field (bytes "machine") optional text end))

-- the manifest object: `version`, `trace_time`, `files`. (6 asks for `version`, 7 judges it)
abbrev pub manifest : Fields
manifest =
    field (bytes "version") optional free
    (field (bytes "trace_time") optional (object trace_time_fields)
    (field (bytes "files") optional (array (object entry)) end))
