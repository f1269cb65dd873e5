-- What a call answers: what it hands back, or why it is refused (01, "Refusal numbers").
use Rattle.std.specs.Prelude.{ℕ, Result, Ok, Err}
use Rattle.base.specs.Refusals.{TAKEN, WAIT, BEYOND, IMAGE, STATE, VOICE_SIZE, VOICE_LENGTH, VOICE_VERSION, VOICE_VALUE, VOICE_PULSE, NO_PHRASE}
use Rattle.base.specs.declared.refusal.Refusal.{Refusal}
use Rattle.base.specs.declared.refusal.Refusal.TheVariants.{Wait, Beyond, Image, State, VoiceSize, VoiceLength, VoiceVersion, VoiceValue, VoicePulse, NoPhrase}
use Rattle.base.specs.declared.refusal.Shortfall.{Shortfall}

-- the number of a refusal
abbrev pub number_of : Refusal → ℕ
number_of Wait = WAIT
number_of Beyond = BEYOND
number_of Image = IMAGE
number_of State = STATE
number_of VoiceSize = VOICE_SIZE
number_of VoiceLength = VOICE_LENGTH
number_of VoiceVersion = VOICE_VERSION
number_of VoiceValue = VOICE_VALUE
number_of VoicePulse = VOICE_PULSE
number_of (NoPhrase short) = NO_PHRASE

-- the number of an answer
abbrev pub number_of_answer : {A : Type 0} → Result A Refusal → ℕ
number_of_answer (Ok a) = TAKEN
number_of_answer (Err r) = number_of r

-- zeros, where no frame is cut
abbrev pub no_shortfall : Shortfall
no_shortfall = record { begun = 0; missing = 0 }

-- how short the bits are, by a refusal
abbrev pub shortfall_of : Refusal → Shortfall
shortfall_of (NoPhrase short) = short
shortfall_of Wait = no_shortfall
shortfall_of Beyond = no_shortfall
shortfall_of Image = no_shortfall
shortfall_of State = no_shortfall
shortfall_of VoiceSize = no_shortfall
shortfall_of VoiceLength = no_shortfall
shortfall_of VoiceVersion = no_shortfall
shortfall_of VoiceValue = no_shortfall
shortfall_of VoicePulse = no_shortfall
