-- What a search keeps that goes level by level, the clocks at one distance after those that are one pair nearer.
use Rattle.std.specs.Prelude.{ℕ, suc, ◌+◌, ◌≤◌, ◌<◌, Bool, true, false, ◌≡◌, List, length, get_or}
use Rattle.paths.specs.Paths.{Net, dist, next}
use Rattle.paths.specs.Matrix.{pair_of}

-- no pair leads from clock c of a matrix
abbrev pub Bare : List ℕ → ℕ → ℕ → Type 0
Bare m n c = (d : ℕ) → d < n → pair_of m n c d ≡ false

-- c stands in xs, from place a on and before place b
abbrev pub Among : List ℕ → ℕ → ℕ → ℕ → Type 0
Among xs a b c = (i : ℕ) × (a ≤ i) × (i < b) × (get_or xs i 0 ≡ c)

-- each of these is smaller than those after it
abbrev pub Rising : List ℕ → ℕ → ℕ → Type 0
Rising xs a b = (i j : ℕ) → a ≤ i → i < j → j < b → get_or xs i 0 < get_or xs j 0

-- r is the first of these that has p
pub record First (p : ℕ → Bool) (xs : List ℕ) (a b r : ℕ) : Type 0 where
  pub at : ℕ
  pub from : a ≤ at
  pub below : at < b
  pub here : get_or xs at 0 ≡ r
  pub has : p r ≡ true
  pub before : (i : ℕ) → a ≤ i → i < at → p (get_or xs i 0) ≡ false

-- none of these has p
abbrev pub NoneOf : (ℕ → Bool) → List ℕ → ℕ → ℕ → Type 0
NoneOf p xs a b = (i : ℕ) → a ≤ i → i < b → p (get_or xs i 0) ≡ false

-- the byte of each of these is not 0 in bs
pub record Marked (bs xs : List ℕ) (a b : ℕ) : Type 0 where
  pub each : (i : ℕ) → a ≤ i → i < b → 0 < get_or bs (get_or xs i 0) 0

-- no pair leads from clock e of a matrix to a clock whose byte is not 0 in bs
abbrev pub Apart : List ℕ → ℕ → ℕ → List ℕ → Type 0
Apart m n e bs = (d : ℕ) → d < n → 0 < get_or bs d 0 → pair_of m n e d ≡ false

-- ns names each clock as its own next one
pub record Selves (cap : ℕ) (ns : List ℕ) : Type 0 where
  pub room : length ns ≡ cap
  pub self : (i : ℕ) → i < cap → get_or ns i 0 ≡ i

-- the queue from a to b holds the clocks at one pair less than k, in rising order
pub record Level (g : Net) (k : ℕ) (qs : List ℕ) (a b : ℕ) : Type 0 where
  pub at : (i : ℕ) → a ≤ i → i < b → suc (dist g (get_or qs i 0)) ≡ k
  pub rising : Rising qs a b
  pub all : (c : ℕ) → suc (dist g c) ≡ k → Among qs a b c

-- the first m of ls are clocks below c at k pairs or more, in rising order, and all of these that have a path are among them
pub record Rest (g : Net) (k : ℕ) (ls : List ℕ) (m c : ℕ) : Type 0 where
  pub below : (i : ℕ) → i < m → get_or ls i 0 < c
  pub off : (i : ℕ) → i < m → k ≤ dist g (get_or ls i 0)
  pub rising : Rising ls 0 m
  pub all : (e : ℕ) → e < c → k ≤ dist g e → dist g e < g.far → Among ls 0 m e

-- the distance and the next clock of i are noted
abbrev pub Noted : Net → List ℕ → List ℕ → ℕ → Type 0
Noted g ds ns i = (get_or ds i 0 ≡ dist g i) × (get_or ns i 0 ≡ next g i)

-- clock i is as it was at the start: without a path, and its own next one
abbrev pub Blank : Net → List ℕ → List ℕ → ℕ → Type 0
Blank g ds ns i = (get_or ds i 0 ≡ g.far) × (get_or ns i 0 ≡ i)

-- all clocks at fewer than k pairs are noted, the last level of them stands in the queue from a to b, and those that are left are in the rest
pub record State (g : Net) (cap : ℕ) (ds ns ls : List ℕ) (left : ℕ) (qs : List ℕ) (a b k : ℕ) : Type 0 where
  pub fits : g.size < g.far
  pub big : g.size ≤ cap
  pub above : 0 < k
  pub low : k ≤ a + 1
  pub order : a ≤ b
  pub few : b + left ≤ g.size
  pub room_d : length ds ≡ cap
  pub room_n : length ns ≡ cap
  pub room_l : length ls ≡ cap
  pub room_q : length qs ≡ cap
  pub level : Level g k qs a b
  pub rest : Rest g k ls left g.size
  pub near : (i : ℕ) → i < cap → dist g i < k → Noted g ds ns i
  pub off : (i : ℕ) → i < cap → k ≤ dist g i → Blank g ds ns i
