-- `text::follows` meets its contract: below 224 none of the four first bytes stands that narrow the second, so it is one from 128 to 191. Assumes nothing.
use mathlib.Core.Path.{◌≡◌, sym, ap, ◌∙◌}
use mathlib.Core.Bool.{Bool, ◌&&◌}
use Prim.Native.Nat.{ℕ, ◌/◌, ◌<◌}
use native.Mathlib.Omega.{arith}
use native.Mathlib.Decide.{dec_lt}
use lib.Dec.{eqb, leb}
use borrow.Author.Tests.{eq-eqb, ne_eqb, le-leb, lt-leb}
use Rattle.text.specs.Reading.{pick}
use Rattle.text.specs.Strings.{second}
use Rattle.text.proofs.follows.Goals as goal

going_on : (c : ℕ) → eqb (c / 64) 2 ≡ (leb 128 c && leb c 191)
going_on c = go (dec_lt c 128) (dec_lt 191 c)
  where
    go : Dec (c < 128) → Dec (191 < c) → eqb (c / 64) 2 ≡ (leb 128 c && leb c 191)
    go (yes h) _ = ne_eqb (c / 64) 2 (λ (q : c / 64 ≡ 2). omega arith) ∙ sym (ap (λ (x : Bool). x && leb c 191) (lt-leb 128 c h))
    go (no h) (yes g) = ne_eqb (c / 64) 2 (λ (q : c / 64 ≡ 2). omega arith) ∙ sym (λ t. le-leb 128 c (omega arith) t && lt-leb c 191 g t)
    go (no h) (no g) = eq-eqb (c / 64) 2 (omega arith) ∙ sym (λ t. le-leb 128 c (omega arith) t && le-leb c 191 (omega arith) t)

below : (b c : ℕ) → b < 224 → (leb 128 c && leb c 191) ≡ second b c
unfolding second pick
below b c h =
    sym (λ t. leb (pick (ne_eqb b 224 (λ (q : b ≡ 224). omega arith) t) 160 (pick (ne_eqb b 240 (λ (q : b ≡ 240). omega arith) t) 144 128)) c
    && leb c (pick (ne_eqb b 237 (λ (q : b ≡ 237). omega arith) t) 159 (pick (ne_eqb b 244 (λ (q : b ≡ 244). omega arith) t) 143 191)))

pub returns-then-b-lt224 : goal.returns-then-b-lt224
returns-then-b-lt224 c = going_on c.args.c ∙ below _ _ c.if-b-lt224.true

pub returns : goal.returns
returns c = c.second.ensures
