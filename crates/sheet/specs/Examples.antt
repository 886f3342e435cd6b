-- Worked examples, by computing: sheets, and what reading them gives. Assumes nothing.
use Rattle.std.specs.Prelude.{◌≡◌, refl, [], ◌∷◌}
use Rattle.bits.specs.Bits.{number}
use Rattle.records.specs.Layout.{pick, bytes_at, record_of, record_at}
use Rattle.records.specs.Readers.{head_at, path_at}
use Rattle.records.specs.Faults.{fault_of, after_end, step_for, step_at}
use Rattle.sheet.specs.Lists.{files_of, paths_of, sources_of, snapshots_of, events_of}
use Rattle.sheet.specs.Twice.{among, repeats, same_bytes, again}
use Rattle.sheet.specs.Sheets.{records_from, sheet_of, files_size, judged, read_of, Refused, Listed}
use Rattle.sheet.specs.Places.{place_of, from, file_places}

-- sheet `00`: accepted, nothing in it
nothing : read_of (0x00 ∷ []) ≡ Listed (record { files = 0; sources = record { count = 0; at = 0 }; snapshots = record { count = 0; at = 0 }; events = record { count = 0; at = 0 } })
unfolding read_of judged sheet_of records_from step_at step_for record_at record_of pick fault_of after_end bytes_at number again repeats among same_bytes files_of paths_of sources_of snapshots_of events_of files_size
nothing = refl

-- a sheet of no bytes
empty : read_of ([]) ≡ Refused 25
unfolding read_of judged sheet_of records_from step_at step_for record_at record_of pick fault_of after_end bytes_at number again repeats among same_bytes files_of paths_of sources_of snapshots_of events_of files_size
empty = refl

-- document 01's sheet of one file, one source and one event
document : read_of (0x2c ∷ 0x02 ∷ 0xc2 ∷ 0x80 ∷ 0x00 ∷ 0x00 ∷ 0x00 ∷ 0x01 ∷ 0x01 ∷ 0x80 ∷ 0x00 ∷ 0x00 ∷ 0x00 ∷ 0x00 ∷ 0x00 ∷ 0x00 ∷ 0x01 ∷ 0x40 ∷ []) ≡ Listed (record { files = 1; sources = record { count = 1; at = 23 }; snapshots = record { count = 0; at = 63 }; events = record { count = 1; at = 63 } })
unfolding read_of judged sheet_of records_from step_at step_for record_at record_of pick fault_of after_end bytes_at number again repeats among same_bytes files_of paths_of sources_of snapshots_of events_of files_size
document = refl

-- a sheet with all kinds: two files, two sources, a snapshot, an event
all_kinds : read_of (0x2c ∷ 0x02 ∷ 0xc2 ∷ 0x60 ∷ 0x09 ∷ 0x89 ∷ 0x8d ∷ 0x00 ∷ 0x00 ∷ 0x00 ∷ 0x00 ∷ 0x01 ∷ 0x00 ∷ 0x00 ∷ 0x00 ∷ 0x00 ∷ 0x1d ∷ 0x84 ∷ 0xff ∷ 0xff ∷ 0xff ∷ 0xff ∷ 0xff ∷ 0xff ∷ 0xff ∷ 0xff ∷ 0xa0 ∷ 0x00 ∷ 0x00 ∷ 0x00 ∷ 0x00 ∷ 0x00 ∷ 0x00 ∷ 0x00 ∷ 0x58 ∷ 0x01 ∷ 0x00 ∷ 0x00 ∷ 0x00 ∷ 0x00 ∷ 0x00 ∷ 0x00 ∷ 0x00 ∷ 0x00 ∷ 0x00 ∷ []) ≡ Listed (record { files = 2; sources = record { count = 2; at = 54 }; snapshots = record { count = 1; at = 134 }; events = record { count = 1; at = 276 } })
unfolding read_of judged sheet_of records_from step_at step_for record_at record_of pick fault_of after_end bytes_at number again repeats among same_bytes files_of paths_of sources_of snapshots_of events_of files_size
all_kinds = refl

-- 26: one bit is left where a kind must come
no_end : read_of (0x20 ∷ 0x02 ∷ 0xc2 ∷ []) ≡ Refused 26
unfolding read_of judged sheet_of records_from step_at step_for record_at record_of pick fault_of after_end bytes_at number again repeats among same_bytes files_of paths_of sources_of snapshots_of events_of files_size
no_end = refl

-- 26: a path of which a byte is missing
cut_path : read_of (0x20 ∷ 0x04 ∷ 0xc2 ∷ []) ≡ Refused 26
unfolding read_of judged sheet_of records_from step_at step_for record_at record_of pick fault_of after_end bytes_at number again repeats among same_bytes files_of paths_of sources_of snapshots_of events_of files_size
cut_path = refl

-- 26, not 28: a cut event on clock 7 of no source
cut_and_wrong : read_of (0x89 ∷ 0xe0 ∷ 0x00 ∷ 0x00 ∷ 0x00 ∷ 0x00 ∷ 0x00 ∷ 0x00 ∷ 0x00 ∷ []) ≡ Refused 26
unfolding read_of judged sheet_of records_from step_at step_for record_at record_of pick fault_of after_end bytes_at number again repeats among same_bytes files_of paths_of sources_of snapshots_of events_of files_size
cut_and_wrong = refl

-- 27: kind 5
kind_five : read_of (0xa0 ∷ []) ≡ Refused 27
unfolding read_of judged sheet_of records_from step_at step_for record_at record_of pick fault_of after_end bytes_at number again repeats among same_bytes files_of paths_of sources_of snapshots_of events_of files_size
kind_five = refl

-- 27: a file after a source
kind_lower : read_of (0x20 ∷ 0x02 ∷ 0xc2 ∷ 0x80 ∷ 0x00 ∷ 0x00 ∷ 0x00 ∷ 0x00 ∷ 0x40 ∷ 0x05 ∷ 0x88 ∷ 0x00 ∷ []) ≡ Refused 27
unfolding read_of judged sheet_of records_from step_at step_for record_at record_of pick fault_of after_end bytes_at number again repeats among same_bytes files_of paths_of sources_of snapshots_of events_of files_size
kind_lower = refl

-- 28: a path of no bytes
no_path : read_of (0x20 ∷ 0x00 ∷ 0x00 ∷ []) ≡ Refused 28
unfolding read_of judged sheet_of records_from step_at step_for record_at record_of pick fault_of after_end bytes_at number again repeats among same_bytes files_of paths_of sources_of snapshots_of events_of files_size
no_path = refl

-- 28: a source of a file that is not listed
no_file : read_of (0x20 ∷ 0x02 ∷ 0xc2 ∷ 0x82 ∷ 0x00 ∷ 0x00 ∷ 0x00 ∷ 0x00 ∷ 0x00 ∷ []) ≡ Refused 28
unfolding read_of judged sheet_of records_from step_at step_for record_at record_of pick fault_of after_end bytes_at number again repeats among same_bytes files_of paths_of sources_of snapshots_of events_of files_size
no_file = refl

-- 28: a source of a container
of_container : read_of (0x30 ∷ 0x02 ∷ 0xc2 ∷ 0x80 ∷ 0x00 ∷ 0x00 ∷ 0x00 ∷ 0x00 ∷ 0x00 ∷ []) ≡ Refused 28
unfolding read_of judged sheet_of records_from step_at step_for record_at record_of pick fault_of after_end bytes_at number again repeats among same_bytes files_of paths_of sources_of snapshots_of events_of files_size
of_container = refl

-- 28: a snapshot with one clock twice
one_clock : read_of (0x20 ∷ 0x02 ∷ 0xc2 ∷ 0x80 ∷ 0x00 ∷ 0x00 ∷ 0x00 ∷ 0x00 ∷ 0xc0 ∷ 0xc0 ∷ 0x00 ∷ 0x00 ∷ 0x00 ∷ 0x00 ∷ 0x00 ∷ 0x00 ∷ 0x00 ∷ 0x18 ∷ 0x00 ∷ 0x00 ∷ 0x00 ∷ 0x00 ∷ 0x00 ∷ 0x00 ∷ 0x00 ∷ 0x00 ∷ []) ≡ Refused 28
unfolding read_of judged sheet_of records_from step_at step_for record_at record_of pick fault_of after_end bytes_at number again repeats among same_bytes files_of paths_of sources_of snapshots_of events_of files_size
one_clock = refl

-- 29: a bit set after the end
set_bit : read_of (0x01 ∷ []) ≡ Refused 29
unfolding read_of judged sheet_of records_from step_at step_for record_at record_of pick fault_of after_end bytes_at number again repeats among same_bytes files_of paths_of sources_of snapshots_of events_of files_size
set_bit = refl

-- 29: a byte after the end
byte_more : read_of (0x00 ∷ 0x00 ∷ []) ≡ Refused 29
unfolding read_of judged sheet_of records_from step_at step_for record_at record_of pick fault_of after_end bytes_at number again repeats among same_bytes files_of paths_of sources_of snapshots_of events_of files_size
byte_more = refl

-- 31: a path twice
path_twice : read_of (0x20 ∷ 0x02 ∷ 0xc2 ∷ 0x40 ∷ 0x05 ∷ 0x88 ∷ 0x80 ∷ 0x0b ∷ 0x08 ∷ []) ≡ Refused 31
unfolding read_of judged sheet_of records_from step_at step_for record_at record_of pick fault_of after_end bytes_at number again repeats among same_bytes files_of paths_of sources_of snapshots_of events_of files_size
path_twice = refl

-- 31: file and id twice
id_twice : read_of (0x20 ∷ 0x02 ∷ 0xc2 ∷ 0x80 ∷ 0x00 ∷ 0x00 ∷ 0x00 ∷ 0x0a ∷ 0x80 ∷ 0x00 ∷ 0x00 ∷ 0x00 ∷ 0x0c ∷ 0x80 ∷ 0x00 ∷ 0x00 ∷ 0x00 ∷ 0x0a ∷ 0x00 ∷ []) ≡ Refused 31
unfolding read_of judged sheet_of records_from step_at step_for record_at record_of pick fault_of after_end bytes_at number again repeats among same_bytes files_of paths_of sources_of snapshots_of events_of files_size
id_twice = refl

-- one id in two files is no repeat
id_in_two : read_of (0x20 ∷ 0x02 ∷ 0xc2 ∷ 0x40 ∷ 0x05 ∷ 0x89 ∷ 0x00 ∷ 0x00 ∷ 0x00 ∷ 0x00 ∷ 0x15 ∷ 0x04 ∷ 0x00 ∷ 0x00 ∷ 0x00 ∷ 0x14 ∷ 0x00 ∷ []) ≡ Listed (record { files = 2; sources = record { count = 2; at = 46 }; snapshots = record { count = 0; at = 126 }; events = record { count = 0; at = 126 } })
unfolding read_of judged sheet_of records_from step_at step_for record_at record_of pick fault_of after_end bytes_at number again repeats among same_bytes files_of paths_of sources_of snapshots_of events_of files_size
id_in_two = refl

-- the places of two files, and 0 past them; the path of the second
places : file_places (0x2c ∷ 0x02 ∷ 0xc2 ∷ 0x60 ∷ 0x09 ∷ 0x89 ∷ 0x8c ∷ 0x00 ∷ []) 2 ≡ 0 ∷ 23 ∷ 0 ∷ 0 ∷ 0 ∷ 0 ∷ 0 ∷ 0 ∷ 0 ∷ 0 ∷ 0 ∷ 0 ∷ 0 ∷ 0 ∷ 0 ∷ 0 ∷ 0 ∷ 0 ∷ 0 ∷ 0 ∷ 0 ∷ 0 ∷ 0 ∷ 0 ∷ 0 ∷ 0 ∷ 0 ∷ 0 ∷ 0 ∷ 0 ∷ 0 ∷ 0 ∷ []
unfolding file_places from place_of pick bytes_at number
places = refl

second_path : path_at (0x2c ∷ 0x02 ∷ 0xc2 ∷ 0x60 ∷ 0x09 ∷ 0x89 ∷ 0x8c ∷ 0x00 ∷ []) 23 ≡ 98 ∷ 99 ∷ []
unfolding head_at pick bytes_at number
second_path = refl
