-- What is read near is the layout; a field is below its power of 2; n bytes are n. Assumes nothing.
use Rattle.std.specs.Prelude.{◌≡◌, refl, List, ℕ, zero, suc, ◌+◌, ◌<◌, length}
use Rattle.std.proofs.Common.{ap, lt-ltb}
use Rattle.records.specs.Layout.{pick, bytes_at, head_here, source_here, snapshot_here, event_here, path_here}
use Rattle.records.specs.Readers.{far, head_at, source_at, snapshot_at, event_at, path_at}

pub length_bytes : (s : List ℕ) (at n : ℕ) → length (bytes_at s at n) ≡ n
unfolding bytes_at
length_bytes s at zero = refl
length_bytes s at (suc n) = ap suc (length_bytes s (at + 8) n)

-- ---- where a position is near, the readers give the layout
module _ (s : List ℕ) (at : ℕ) (near : at < far) where
  pub head_near : head_at s at ≡ head_here s at
  unfolding head_at pick
  head_near = simp (lt-ltb at far near)

  pub source_near : source_at s at ≡ source_here s at
  unfolding source_at pick
  source_near = simp (lt-ltb at far near)

  pub snapshot_near : snapshot_at s at ≡ snapshot_here s at
  unfolding snapshot_at pick
  snapshot_near = simp (lt-ltb at far near)

  pub event_near : event_at s at ≡ event_here s at
  unfolding event_at pick
  event_near = simp (lt-ltb at far near)

  pub path_near : path_at s at ≡ path_here s at
  path_near = rw head_near
