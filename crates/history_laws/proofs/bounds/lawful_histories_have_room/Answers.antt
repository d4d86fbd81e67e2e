use Rattle.history_laws.proofs.Room.{lawful_room}
use Rattle.history_laws.proofs.bounds.lawful_histories_have_room.Goals as goal

pub returns : goal.returns
returns c = lawful_room
