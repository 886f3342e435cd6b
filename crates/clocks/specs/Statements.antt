-- Notions that only the theorems speak of: in what the correspondences may differ, and the answers not. Assumes nothing.
use Rattle.std.specs.Prelude.{◌≡◌, List, ◌∷◌, ◌++◌, ℕ}
use Rattle.graphs.specs.Links.{Link, list_of}
use Rattle.graphs.specs.Graphs.{World}
use Rattle.clocks.specs.laws.Firsts.{Firsts}

-- the same but for the correspondences, and of these the lists of every two clocks agree in what they list first of each x
pub record SameWorld (w u : World) : Type 0 where
  pub machines : w.machines ≡ u.machines
  pub files : w.files ≡ u.files
  pub pinned : w.pinned ≡ u.pinned
  pub trace : w.trace ≡ u.trace
  pub to : (a b : ℕ) → Firsts (list_of w.links a b) (list_of u.links a b)
  pub from : (a b : ℕ) → Firsts (list_of u.links a b) (list_of w.links a b)

-- the same with other correspondences
abbrev pub with_links : World → List Link → World
with_links w ls = record { machines = w.machines; files = w.files; pinned = w.pinned; trace = w.trace; links = ls }

-- if two correspondences relate the same two clocks, in one direction or in opposite directions, neither clock reads the same in both
pub record Apart (p q : Link) : Type 0 where
  pub same_way : p.a ≡ q.a → p.b ≡ q.b → (p.x ≡ q.x → ⊥) × (p.y ≡ q.y → ⊥)
  pub other_way : p.a ≡ q.b → p.b ≡ q.a → (p.x ≡ q.y → ⊥) × (p.y ≡ q.x → ⊥)

-- the one list is the other after changes of place, each of two neighbours that are apart
pub data Rearranged : List Link → List Link → Type 0 where
  as_it_was : {ls : List Link} → Rearranged ls ls
  swap : {ms : List Link} (ls rs : List Link) (p q : Link) → Apart p q → Rearranged (ls ++ (q ∷ p ∷ rs)) ms → Rearranged (ls ++ (p ∷ q ∷ rs)) ms
