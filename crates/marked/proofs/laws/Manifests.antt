-- What the marked manifests come to, by computing: refused or not, and the meaning. Assumes nothing.
use Rattle.std.specs.Prelude.{◌≡◌, refl, [], ◌∷◌, ℕ, ℤ, pos, neg_ℤ}
use Rattle.manifest.specs.declared.Cited.TheVariants.{Private, Domain}
use Rattle.manifest.specs.declared.Link.TheVariants.{Unrelated, Related}
use Rattle.manifest.specs.declared.Timeline.TheVariants.{Set}
use Rattle.text.specs.Reading.{Text}
use Rattle.manifest.specs.Names.{bytes}
use Rattle.manifest.specs.Meaning.{Meaning, nothing, whole_file, nothing_said}
use Rattle.manifest.specs.Manifest.{refusal_of, meaning_of}
use Rattle.marked.specs.Inputs.{no_manifest, example, on_the_phone, eight_less, too_low, lowest}
use Rattle.marked.proofs.laws.Opened.{of_manifests}

-- phone is machine 1, watch 2; the log's private clock reads so much less than the phone's BOOTTIME; trace time is this machine's BOOTTIME
abbrev pub says : ℤ → ℕ → Meaning
says offset machine =
    record {
      listed =
          record { path = bytes "phone.pftrace"; owns = whole_file (record { 0 = 1 }); base = record { 0 = 1 }; link = Unrelated }
          ∷ record { path = bytes "watch.pftrace"; owns = whole_file (record { 0 = 2 }); base = record { 0 = 2 }; link = Unrelated }
          ∷ record {
            path = bytes "app_log.json";
            owns = nothing;
            base = record { 0 = 0 };
            link = Related (record { from = Private 2; to = Domain 6 (record { 0 = 1 }); offset = offset });
          }
          ∷ [];
      trace = Set 6 (record { 0 = machine });
      names = bytes "phone" ∷ bytes "watch" ∷ [];
    }

-- a meaning, and that nothing refuses the bytes
abbrev pub Means : Text → Meaning → Type 0
Means m w = (refusal_of m ≡ 0) × (meaning_of m ≡ w)

pub no_manifest_means : Means no_manifest nothing_said
unfolding of_manifests
no_manifest_means = (refl, refl)

pub example_means : Means example (says (pos 250000000) 0)
unfolding of_manifests
example_means = (refl, refl)

pub on_the_phone_means : Means on_the_phone (says (pos 250000000) 1)
unfolding of_manifests
on_the_phone_means = (refl, refl)

pub eight_less_means : Means eight_less (says (neg_ℤ (pos 8)) 1)
unfolding of_manifests
eight_less_means = (refl, refl)

pub lowest_means : Means lowest (says (neg_ℤ (pos 9223372036854775807)) 0)
unfolding of_manifests
lowest_means = (refl, refl)

pub too_low_refused : refusal_of too_low ≡ 23
unfolding of_manifests
too_low_refused = refl
