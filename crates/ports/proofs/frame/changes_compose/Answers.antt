use Rattle.ports.specs.FrameLaws.{Replaces-then, Replaces-beside, Replaces-agree, Replaces-apart}
use Rattle.ports.proofs.frame.changes_compose.Goals as goal

pub returns-clause-in_turn : goal.returns-clause-in_turn
returns-clause-in_turn c = Replaces-then

pub returns-clause-beside : goal.returns-clause-beside
returns-clause-beside c = Replaces-beside

pub returns-clause-apart : goal.returns-clause-apart
returns-clause-apart c = λ pages old new before after f in_map apart.
    (Replaces-agree pages old new before after f in_map apart, Replaces-apart pages old new before after f in_map apart)
