-- Where neither 8 nor 9 applies, the manifest is sound. Assumes nothing.
use Rattle.std.specs.Prelude.{◌≡◌}
use Rattle.std.proofs.Common.{◌∙◌}
use Rattle.manifest.specs.Kinds.{manifest}
use Rattle.manifest.specs.Rows.{Manifest}
use Rattle.manifest.specs.Rules.{twice, ill, applies, first, refusal_8_known_member_twice, refusal_9_wrong_type_or_absent}
use Rattle.manifest.specs.Statements.{SoundRow}
use Rattle.manifest.proofs.laws.Bools.{zero_pick}
use Rattle.manifest.proofs.laws.Members.{split_up}
use Rattle.manifest.proofs.laws.Sound.{sound_row}
use Rattle.members.specs.Members.{member_rules}

pub accepted_sound : (m : Manifest) → first member_rules m ≡ 0 → SoundRow manifest m
unfolding first applies refusal_8_known_member_twice refusal_9_wrong_type_or_absent
accepted_sound m e =
    let (p, q) = zero_pick _ 7 _ e in
    let (x, y) = zero_pick _ 8 _ q in
    sound_row manifest m (split_up twice m ∙ p) (split_up ill m ∙ x)
