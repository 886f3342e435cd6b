-- No value begins at the end. Assumes nothing.
use mathlib.Core.Path.{◌≡◌, refl}
use Rattle.text.specs.Reading.{pick}
use Rattle.text.specs.Class.{class_of, digit}
use Rattle.values.specs.Stands.{kind_by}
use Rattle.values.specs.declared.Kind.TheVariants.{Nothing}

pub kind_end : Nothing ≡ kind_by 256
unfolding kind_by digit class_of pick
kind_end = refl
