-- Whether the lent memories are long enough for what was told. Assumes nothing.
use Rattle.std.specs.Prelude.{◌≡◌, refl, Bool, true, false, ◌&&◌, ℕ, ◌≤◌}
use Rattle.std.proofs.Math.Path.{sym, ap}
use Rattle.std.proofs.Common.{◌∙◌, arith, leb-true}
use Rattle.std.proofs.Math.Dec.{leb}
use Rattle.text.specs.Reading.{pick}
use Rattle.text.specs.laws.Readers.{pick_true, pick_false}
use Rattle.merged.specs.declared.Room.{Room}
use Rattle.placed.specs.declared.Known.{Known}
use Rattle.placed.specs.Told.{Told, Refused, Accepted}
use Rattle.joins.specs.Joined.{roomy_for}
use Rattle.settled.specs.Settled.{fitted_in}

-- what 38 lets through is long enough
pub record Long (sources events : ℕ) (room : Room) : Type 0 where
  pub machines : sources ≤ room.machines
  pub times : events ≤ room.times
  pub kinds : events ≤ room.kinds
  pub steps : events ≤ room.steps
  pub matrix : 50176 ≤ room.matrix
  pub readings : events ≤ room.readings
  pub clocks : events ≤ room.clocks

both : (a b : Bool) → a && b ≡ true → (a ≡ true) × (b ≡ true)
both true b e = (refl, e)
both false b e = absurd (let z : ◌≡◌ {A = Bool} true false = sym e in let y : ◌≡◌ {A = ℕ} 0 1 = cc in omega arith)

pub long_is : (sources events : ℕ) (room : Room) → roomy_for sources events room ≡ true → Long sources events room
unfolding roomy_for
long_is sources events room e =
    let (a, b) = both _ _ e in
    let (c, d) = both _ _ a in
    let (f, g) = both _ _ c in
    let (h, i) = both _ _ f in
    let (j, k) = both _ _ h in
    let (l, m) = both _ _ j in
    record {
      machines = leb-true _ _ l;
      times = leb-true _ _ m;
      kinds = leb-true _ _ k;
      steps = leb-true _ _ i;
      matrix = leb-true 50176 _ g;
      readings = leb-true _ _ d;
      clocks = leb-true _ _ b;
    }

-- what was told, by the test
module _ (room : Room) (k : Known) {r : Bool} (e : r ≡ roomy_for k.sources k.given.events room) where
  pub fitted_short : r ≡ false → Refused 38 ≡ fitted_in room (Accepted k)
  unfolding fitted_in
  fitted_short f = sym (pick_false _ _ (sym e ∙ f))

  pub fitted_long : r ≡ true → Accepted k ≡ fitted_in room (Accepted k)
  unfolding fitted_in
  fitted_long f = sym (pick_true _ _ (sym e ∙ f))

-- seven tests, from the last on and from the first on
pub seven : (a b c d e f g : Bool) → (a && (b && (c && (d && (e && (f && (g && true))))))) ≡ (a && b && c && d && e && f && g)
seven false b c d e f g = refl
seven true false c d e f g = refl
seven true true false d e f g = refl
seven true true true false e f g = refl
seven true true true true false f g = refl
seven true true true true true false g = refl
seven true true true true true true true = refl
seven true true true true true true false = refl
