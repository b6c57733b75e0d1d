-- `Text::digits` ends: the number of digits that are left falls at each call.
use Rattle.text.proofs.Text.+digits.Given as goal

abbrev pub decreases-digits : goal.decreases-digits
decreases-digits l = l.f
