-- Refused by its rules; or recorded, and the seats that are gathered decide.
use Rattle.std.specs.Prelude.{Ok, Err}
use Prim.Native.Nat.{ℕ, ◌<◌}
use native.Mathlib.Omega.{arith}
use mathlib.Core.Path.{◌≡◌, sym}
use mathlib.Core.Bool.{Bool, true, false}
use mathlib.Core.List.{List}
use Rattle.model.specs.declared.Seat.{Seat}
use Rattle.model.specs.declared.Transfer.{Transfer}
use Rattle.model.specs.declared.Message.TheVariants.{Ack}
use Rattle.model.specs.declared.Refusal.{Refusal}
use Rattle.model.specs.declared.Reply.{Reply}
use Rattle.model.specs.declared.Reply.TheVariants.{Refuse}
use Rattle.model.specs.Records.{with_ack, with_entry}
use Rattle.model.specs.Acks.{acks_for, enough}
use Rattle.model.specs.Refusals.{first_refusal, check_of}
use Rattle.model.specs.Calls.{tallied, finished, rules_in}
use Rattle.layout.specs.Layout.{ledger_in, entry_in}
use Rattle.layout.proofs.Entries.{acks_length}
use Rattle.basics.proofs.ReadBack.{passed}
use Rattle.store.specs.Stores.{AckStored}
use Rattle.tally.specs.declared.Tally.{Tally}
use Rattle.tally.specs.Results.{tally_of, at_next}
use Rattle.tally.proofs.Nexts.{tally_next}
use Rattle.calls.specs.Promises.{Next, Taken, NotLate, Accepted, NotEnough}
use Rattle.checks.proofs.Ranges.{Fits, ack_fits}
use Rattle.calls.proofs.Taking.{refused, served, still_next, recorded, whole, tally_accepts}
use borrow.Author.Rules.{rules}
use Rattle.calls.proofs.messages.record_ack.Goals as goal

-- the ack passed its rules
module _ (ws : List ℕ) (s : Seat) (t : Transfer) (clear : Ok tt ≡ check_of (first_refusal (rules_in (ledger_in ws) (Ack s t)))) where
  fits : Fits ws t × (s.0 < 16)
  fits = ack_fits ws t s (passed _ (sym clear))

  account : t.account.0 < 32
  account = fits.0.range.account

  -- and is recorded
  module _ (mid : List ℕ) (stored : AckStored ws s t mid) where
    in_words : ledger_in mid ≡ with_entry (ledger_in ws) t.account (with_ack (entry_in ws t.account) s t)
    in_words = stored.recorded fits.0.next fits.0.range.value

    next : Next mid t
    next = record { number = still_next ws mid s t account in_words fits.0.next; value = fits.0.range.value }

    among : 0 < acks_for t (entry_in mid t.account).acks
    among = recorded ws mid s t account in_words (omega (arith, fits.1, acks_length ws t.account))

    -- what follows from it in the words is what the message does
    follows : (r : Reply) (after : List ℕ) → Taken (finished (ledger_in mid) t.account (tallied (ledger_in mid) (entry_in mid t.account) t)) r after
        → NotLate ws s t r after
    follows r after x =
        record { answered = λ in_time. served ws (Ack s t) in_time r after clear (whole ws mid s t account in_words r after x) }

    -- the seats are gathered, and their number is compared
    module _
        (y : Tally) (gathers : y ≡ tally_of (at_next (entry_in mid t.account) t) (entry_in mid t.account).acks)
        (n f : ℕ) (n_is : n ≡ (ledger_in mid).seats) (f_is : f ≡ (ledger_in mid).faults)
      where
        tally : y ≡ tally_of t (entry_in mid t.account).acks
        tally = tally_next (entry_in mid t.account) t y next.number gathers

        compared : {k : Bool} → k ≡ enough n f y.equal → enough (ledger_in mid).seats (ledger_in mid).faults y.equal ≡ k
        compared is = rw (← n_is, ← f_is) (sym is)

        accepts : true ≡ enough n f y.equal → (r : Reply) (after : List ℕ) → Accepted mid t r after → NotLate ws s t r after
        accepts more r after x = follows r after (tally_accepts mid t y tally r after (compared more) (x.settled next.value))

        undecided : false ≡ enough n f y.equal → (r : Reply) (after : List ℕ) → NotEnough mid t y r after → NotLate ws s t r after
        undecided few r after x = follows r after (x.decided next among tally (compared few))

-- the same of the words at the end, whatever was done first: it asks that the ack is recorded in
-- them and that the tally is theirs
undecided_in : (ws mid : List ℕ) (s : Seat) (t : Transfer) (y : Tally) (r : Reply) (after : List ℕ) → NotEnough mid t y r after
    → Ok tt ≡ check_of (first_refusal (rules_in (ledger_in ws) (Ack s t)))
    → (n f : ℕ) → n ≡ (ledger_in mid).seats → f ≡ (ledger_in mid).faults → false ≡ enough n f y.equal
    → AckStored ws s t mid → y ≡ tally_of (at_next (entry_in mid t.account) t) (entry_in mid t.account).acks
    → NotLate ws s t r after
undecided_in ws mid s t y r after x clear n f n_is f_is few stored gathers =
    undecided ws s t clear mid stored y gathers n f n_is f_is few r after x

-- where a rule refuses the ack, the words stay
refused_as_it_was : (ws : List ℕ) (s : Seat) (t : Transfer) (r : Refusal) → Err r ≡ check_of (first_refusal (rules_in (ledger_in ws) (Ack s t)))
    → NotLate ws s t (Refuse r) ws
refused_as_it_was ws s t r found = record { answered = λ in_time. refused ws (Ack s t) in_time r found }

pub put_ack-requires : goal.put_ack-requires
put_ack-requires c = (fits c.args.words.now c.args.s c.args.t c.in_default.ensures).1

pub returns-in-Err : goal.returns-in-Err
returns-in-Err c = search (rules, refused_as_it_was)

pub returns-then-is_enough : goal.returns-then-is_enough
returns-then-is_enough c =
    accepts c.args.words.now c.args.s c.args.t c.in_default.ensures
    _ c.put_ack.ensures _ c.gather-tally.ensures.tally _ _ c.seats_of.ensures c.faults_of.ensures c.if-is_enough.ensures
    _ _ c.accept.ensures

pub returns-else-is_enough : goal.returns-else-is_enough
returns-else-is_enough c =
    undecided_in c.args.words.now _ c.args.s c.args.t _ _ _ c.propose_or_note.ensures c.in_default.ensures
    _ _ c.seats_of.ensures c.faults_of.ensures c.if-is_enough.ensures (search rules) (search rules)
