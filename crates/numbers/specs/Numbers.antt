-- How clocks are numbered: clock d (1 to 6) of machine m has number 6m + d - 1, file f's private clock has 192 + f; 224 clocks numbered 0 to 223.
-- Assumes nothing.
use Rattle.std.specs.Prelude.{cond, Option, Some, None, ◌&&◌, ℕ, ◌+◌, ◌*◌, ◌-◌, ◌/◌, ◌%◌, leb, ltb}
use Rattle.numbers.specs.declared.File.{File}
use Rattle.numbers.specs.declared.Machine.{Machine}
use Rattle.numbers.specs.declared.Clock.{Clock}
use Rattle.numbers.specs.declared.Owner.{Owner}
use Rattle.numbers.specs.declared.Owner.TheVariants.{Domain, Private}

-- the number of clocks; what is numbered from here on is no clock
abbrev pub clocks : ℕ
clocks = 224

-- the most machines, and the most files
abbrev pub machines : ℕ
machines = 32

abbrev pub files : ℕ
files = 32

-- the number that stands for no clock
abbrev pub no_clock : Clock
no_clock = record { 0 = clocks }

-- clock d (1 to 6) of machine m; no clock for other numbers
unfoldable pub clock_of : ℕ → Machine → Clock
clock_of d m = cond (ltb 0 d && leb d 6 && ltb m.0 machines) (record { 0 = 6 * m.0 + d - 1 }) no_clock

-- file f's private clock; no clock for other numbers
unfoldable pub private_of : File → Clock
private_of f = cond (ltb f.0 files) (record { 0 = 192 + f.0 }) no_clock

-- and back: what a clock is; None if it is no clock
unfoldable pub what_is : Clock → Option Owner
what_is c =
    cond (ltb c.0 192) (Some (Domain (c.0 % 6 + 1) (record { 0 = c.0 / 6 })))
    (cond (ltb c.0 clocks) (Some (Private (record { 0 = c.0 - 192 }))) None)
