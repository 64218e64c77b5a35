use Rattle.wm_audit.proofs.AuditsSound.{audit-sound}
use Rattle.wm_audit.proofs.SoundAudits.{sound-audit}
use Rattle.wm_audit.proofs.laws.what_is_sound_is_an_audit.Goals as goal

pub returns : goal.returns
returns c = λ bytes last. (sound-audit bytes last, audit-sound bytes last)
