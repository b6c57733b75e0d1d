-- `engine::fill_several` meets its contract: a record has no more levels than four channels of 400 days.
use Rattle.engine.proofs.Accepted.{levels_few}
use Rattle.engine.proofs.fill_several.Goals as goal

pub fill_from-requires-clause-room : goal.fill_from-requires-clause-room
fill_from-requires-clause-room c = levels_few c.requires.accepted
