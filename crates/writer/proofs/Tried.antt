-- The round trips tried: a page and a list with a message of each kind keep the premises; what is written of them is
-- read as them alone, and written out from what was read it is the same.
use Prim.Native.Nat.{ℕ, ◌<◌}
use native.Mathlib.Omega.{arith}
use mathlib.Core.Path.{◌≡◌, refl}
use mathlib.Core.List.{List, [], ◌∷◌}
use lib.ListN.{get_or}
use Rattle.model.specs.declared.Opening.{Opening}
use Rattle.model.specs.declared.Transfer.{Transfer}
use Rattle.model.specs.declared.Message.{Message}
use Rattle.model.specs.declared.Message.TheVariants.{Request, Circulated, Decision, Inquiry}
use Rattle.model.specs.Records.{account_of}
use Rattle.model.specs.Writing.{written}
use Rattle.model.proofs.Rows.{slip, ack_by, page_with}
use Rattle.bundle.proofs.Longest.{at_most}
use Rattle.writer.specs.RoundTrips.{TransferFits, AllFit, OpeningFits, ReadsBack, WritesBack}
use Rattle.writer.proofs.WriteThenRead.{write_then_read}
use Rattle.writer.proofs.ReadThenWrite.{read_then_write}

abbrev page : Opening
page = page_with 6 1 (10 ∷ 4_294_967_285 ∷ [])

abbrev t : Transfer
t = slip 0 1 4_294_967_295 255

abbrev messages : List Message
messages = Request t ∷ Circulated t ∷ ack_by 255 t ∷ Decision t ∷ Inquiry (account_of 1) ∷ []

balances : (i : ℕ) → get_or page.balances i 0 < 4_294_967_296
balances i = omega (arith, at_most 4_294_967_295 page.balances i refl)

page_fits : OpeningFits page
page_fits =
    record { seats = omega arith; faults = omega arith; accounts = omega arith; count = refl; balances = balances }

t_fits : TransferFits t
t_fits = record { account = omega arith; number = omega arith; value = omega arith; recipient = omega arith }

messages_fit : AllFit messages
messages_fit = (t_fits, (t_fits, ((omega arith, t_fits), (t_fits, (omega arith, tt)))))

-- the first round trip
pub tried : ReadsBack page messages
tried = write_then_read page messages page_fits messages_fit (omega arith)

-- and the second of what the first wrote: it was read as this page and this list
pub tried_back : (o : Opening) × (ms : List Message) × WritesBack (written page messages) o ms
tried_back = read_then_write (written page messages) 6 tried.bytes tried.sound

pub tried_both : (page ≡ tried_back.0) × (messages ≡ tried_back.1)
tried_both = tried_back.2.only page messages tried.reads
