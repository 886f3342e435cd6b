-- What 8 and 9 by themselves are worth. Assumes nothing.
use Rattle.std.specs.Prelude.{◌≡◌, ℕ}
use Rattle.std.proofs.Common.{ap}
use Rattle.text.specs.Reading.{Text}
use Rattle.grammar.specs.Tree.{Tree, obj, Members}
use Rattle.values.specs.Stands.{Stands}
use Rattle.manifest.specs.Kinds.{manifest}
use Rattle.manifest.specs.View.{row}
use Rattle.manifest.specs.Rules.{first}
use Rattle.manifest.specs.Statements.{First, SoundRow}
use Rattle.manifest.proofs.laws.Order.{first_is}
use Rattle.members.specs.Members.{member_rules, member_refusal_of, member_refusal_in, member_refusal_at}
use Rattle.members.specs.laws.Passed.{accepted_sound}

-- where a value stands, it is judged
pub value_judged : {s : Text} {p : ℕ} {t : Tree} → Stands s p t → member_refusal_at s p ≡ member_refusal_of t
unfolding member_refusal_at member_refusal_in
value_judged h = ap member_refusal_in h.reads

-- where an object stands, it is judged as the manifest by the rules 8 and 9
pub object_judged : {s : Text} {p : ℕ} {ms : Members} → Stands s p (obj ms) → member_refusal_at s p ≡ first member_rules (row manifest ms)
unfolding member_refusal_of
object_judged h = value_judged h

-- the answer is 8 if 8 applies, else 9 if 9 applies, else 0
pub first_of_both : (ms : Members) → First member_rules (row manifest ms) (member_refusal_of (obj ms))
unfolding member_refusal_of
first_of_both ms = first_is member_rules (row manifest ms)

-- where it is 0, each known member is absent and optional, or one value of its type, all the way down
pub passed_sound : (ms : Members) → member_refusal_of (obj ms) ≡ 0 → SoundRow manifest (row manifest ms)
unfolding member_refusal_of
passed_sound ms e = accepted_sound (row manifest ms) e
