-- `walk::walk_back` ends: the segment count falls at each call.
use Rattle.walk.proofs.+walk_back.Given as goal

abbrev pub decreases-walk_back : goal.decreases-walk_back
decreases-walk_back l = l.d
