-- The documents' letter, number and values of the answers of messages, openings, waiting lists, and of the check, the
-- writer and the join of bundles. Those of a reading stand in specs/ of crate bundle, those of a load in specs/ of
-- crate host.
use Rattle.std.specs.Prelude.{ℕ, List, [], ◌∷◌, Ok, Err, Some, None}
use Rattle.model.specs.Types.{Transfer, Refusal, BadGroup, BadAccounts, SumTooLarge, UnknownSeat, OutOfRange, PastNumber, FutureNumber, AlreadyAccepted, AckRepeated, AckConflicting, InsufficientFunds, AlreadyAcked, BadHeader, BadContents, BadEnd, BadSum, ShortBuffer, TooManyMessages, NoRoom, SelfPayment, PagesDiffer, Reply, Circulate, Acknowledge, Accept, Propose, Note, Balance, Refuse, OpenReply, ListReply, BundleReply, Which, First, Second, Neither, Evidence}

-- the refusal codes
abbrev pub code_of : Refusal → ℕ
code_of BadGroup = 1
code_of BadAccounts = 2
code_of SumTooLarge = 3
code_of UnknownSeat = 4
code_of OutOfRange = 5
code_of PastNumber = 6
code_of FutureNumber = 7
code_of AlreadyAccepted = 8
code_of AckRepeated = 9
code_of AckConflicting = 10
code_of InsufficientFunds = 11
code_of AlreadyAcked = 12
code_of BadHeader = 13
code_of BadContents = 14
code_of BadEnd = 15
code_of BadSum = 16
code_of ShortBuffer = 17
code_of TooManyMessages = 18
code_of NoRoom = 19
code_of SelfPayment = 20
code_of PagesDiffer = 21

-- the letter of a reply, in ASCII: C, A, K, P, N, B, R
abbrev pub letter_of : Reply → ℕ
letter_of Circulate = 67
letter_of Acknowledge = 65
letter_of (Accept c) = 75
letter_of (Propose t) = 80
letter_of Note = 78
letter_of (Balance b) = 66
letter_of (Refuse r) = 82

-- a slip's account, number, value, recipient
abbrev pub values_of_transfer : Transfer → List ℕ
values_of_transfer t = t.account.0 ∷ t.number ∷ t.value ∷ t.recipient.0 ∷ []

-- what a reply carries: K the count, P the slip, B the balance, R the code; A, C and N nothing
abbrev pub values_of : Reply → List ℕ
values_of Circulate = []
values_of Acknowledge = []
values_of (Accept c) = c ∷ []
values_of (Propose t) = values_of_transfer t
values_of Note = []
values_of (Balance b) = b ∷ []
values_of (Refuse r) = code_of r ∷ []

-- The other answers: their code, 0 where it is no refusal, and what they carry.
-- an opening
abbrev pub values_of_open : OpenReply → List ℕ
values_of_open (Ok u) = 0 ∷ []
values_of_open (Err r) = code_of r ∷ []

-- the waiting list: how many
abbrev pub values_of_list : ListReply → List ℕ
values_of_list (Ok c) = 0 ∷ c ∷ []
values_of_list (Err r) = code_of r ∷ []

-- the check of a bundle: m; the writer: the bundle's length; or the entry at fault
abbrev pub values_of_bundle : BundleReply → List ℕ
values_of_bundle (Ok m) = 0 ∷ m ∷ []
values_of_bundle (Err e) = code_of e.refusal ∷ e.entry ∷ []

-- which of two bundles: 1, 2, or 0 for neither
abbrev pub number_of_which : Which → ℕ
number_of_which First = 1
number_of_which Second = 2
number_of_which Neither = 0

-- the evidence join: how many pairs are told, 1 or 0, and of the one the seat, both entries and the bundle whose body
-- is shown; or which bundle is refused, and its entry at fault
abbrev pub values_of_evidence : Evidence → List ℕ
values_of_evidence (Ok (Some p)) = 0 ∷ 1 ∷ p.seat.0 ∷ p.first ∷ p.second ∷ number_of_which p.shown ∷ []
values_of_evidence (Ok None) = 0 ∷ 0 ∷ []
values_of_evidence (Err e) = code_of e.refusal ∷ number_of_which e.bundle ∷ e.entry ∷ []
