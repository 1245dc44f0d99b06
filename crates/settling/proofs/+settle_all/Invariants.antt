-- What falls is the number of waiting transfers: applying the lowest affordable one leaves one fewer.
use Rattle.settling.proofs.Turns.{waiting_in}
use Rattle.settling.proofs.+settle_all.Given as goal

abbrev pub decreases-settle_all : goal.decreases-settle_all
decreases-settle_all l = waiting_in l.words.now
