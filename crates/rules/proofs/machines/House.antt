-- Document 01's house rules and the form that the proofs use say the same of a machine of the right sizes; so the test decides document 01's.
-- Assumes nothing.
use Rattle.rules.specs.declared.Machine.{Machine}
use Rattle.rules.specs.Machine.{vids}
use Rattle.rules.specs.House.{Sized, House}
use Rattle.rules.specs.HouseTest.{is_sound}
use Rattle.rules.proofs.base.Tests.{Decides, as_test}
use Rattle.rules.proofs.machines.Sound.{SoundMachine}
use Rattle.rules.proofs.machines.HouseTest.{house_test}
use Rattle.rules.proofs.machines.HouseWords.{words_sound, sound_words}

pub house_sound : {μ : Machine} → Sized μ → House μ → SoundMachine (vids μ) μ
house_sound {μ} z h = record {
  lines = record { small = h.last; fits = h.lines; each = λ x. words_sound (vids μ) μ h.lines x (h.each x) };
  frame = record { caches = z.caches; words = z.words; some = h.some; few = h.few; unused = h.unused; addresses = h.addresses };
}

pub sound_house : {μ : Machine} → SoundMachine (vids μ) μ → House μ
sound_house {μ} s = record {
  some = s.frame.some;
  few = s.frame.few;
  unused = s.frame.unused;
  last = s.lines.small;
  addresses = s.frame.addresses;
  lines = s.lines.fits;
  each = sound_words (vids μ) μ s.lines;
}

pub sound_sized : {μ : Machine} → SoundMachine (vids μ) μ → Sized μ
sound_sized s = record { caches = s.frame.caches; words = s.frame.words }

pub house_decides : (μ : Machine) → Sized μ → Decides (is_sound μ) (House μ)
house_decides μ z = as_test (house_test μ z) sound_house (house_sound z)
