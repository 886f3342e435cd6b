-- Worked examples, by computing: two machines, three files of which the last is pinned, and trace time on the host's BOOTTIME, clock 5.
-- Assumes nothing.
use Rattle.std.specs.Prelude.{◌≡◌, refl, true, false, List, [], ◌∷◌, pos}
use Rattle.numbers.specs.Numbers.{what_is}
use Rattle.graphs.specs.Links.{Link, list_of}
use Rattle.graphs.specs.Graphs.{World, domains, loose, to_trace, guess, or_guess, along, some, joined}

-- the pinned file's private clock, 194, reads 0 where the second machine's BOOTTIME, 11, reads 250000000; and a snapshot of 11 and 7
abbrev pub links : List Link
links = record { a = 194; x = pos 0; b = 11; y = pos 250000000 } ∷ record { a = 7; x = pos 4; b = 11; y = pos 5 } ∷ []

abbrev pub world : World
world = record { machines = 2; files = 3; pinned = 4; trace = 5; links = links }

-- a pair's list from either end
from_the_file : list_of links 194 11 ≡ record { x = pos 0; y = pos 250000000 } ∷ []
unfolding list_of
from_the_file = refl

to_the_file : list_of links 11 194 ≡ record { x = pos 250000000; y = pos 0 } ∷ []
unfolding list_of
to_the_file = refl

no_list : list_of links 194 7 ≡ []
unfolding list_of
no_list = refl

-- REALTIME, clocks 0 and 6, is guessed in graph 2; MONOTONIC, clocks 2 and 8, only in graph 3; clock 12 is of no listed machine
realtime_first : (guess 1 world 0 6 ≡ false) × (guess 2 world 0 6 ≡ true) × (guess 2 world 2 8 ≡ false) × (guess 3 world 2 8 ≡ true) × (guess 3 world 0 12 ≡ false) × (guess 3 world 0 8 ≡ false)
unfolding guess domains to_trace loose what_is
realtime_first = (refl, refl, refl, refl, refl, refl)

-- trace time and a private clock only in graph 3, and not the pinned file's
private_clocks : (guess 2 world 5 193 ≡ false) × (guess 3 world 5 193 ≡ true) × (guess 3 world 193 5 ≡ true) × (guess 3 world 5 194 ≡ false) × (guess 3 world 5 195 ≡ false)
unfolding guess domains to_trace loose what_is
private_clocks = (refl, refl, refl, refl, refl)

-- a pair that has a list gets no zero offset: 5 and 11 are guessed in graph 3, 7 and 11 have a list
zero_offset : (joined 3 world 11 5 ≡ true) × (joined 2 world 11 5 ≡ false) × (along 3 world 7 11 ≡ record { x = pos 4; y = pos 5 } ∷ [])
unfolding joined along some or_guess list_of guess domains to_trace loose what_is
zero_offset = (refl, refl, refl)
