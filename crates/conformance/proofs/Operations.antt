-- What a group at work does is a run that obeys: the statements are in specs/Operations.antt.
use Prim.Native.Nat.{ℕ, ◌<◌}
use native.Mathlib.Omega.{arith}
use mathlib.Core.Path.{◌≡◌, refl, ap, sym, subst, ◌∙◌}
use mathlib.Core.Bool.{Bool, true, false, cond}
use mathlib.Core.List.{List, []}
use Rattle.laws.specs.Types.{Seat, Account, Ledger, Opening}
use Rattle.runs.specs.Runs.{Call, message, waiting_list, switch, Event, Run, start, ◌▹◌, at_end, same_seat, rules_after, rules_at, next_ledger, ledger_at, MayReply, Conforms, Obeys}
use Rattle.agreement.proofs.Places.{seat_is, seat_self}
use Rattle.agreement.proofs.Proposals.{refused_due}
use Rattle.runs.proofs.AnyOrder.{rising_conforms}
use Rattle.agreement.proofs.Demand3.{demand3}
use Rattle.agreement.proofs.Always.{always}
use Rattle.model.specs.Types.{Outcome}
use Rattle.model.specs.Records.{RetainsNothing, entry_of}
use Rattle.model.specs.Switches.{Rules, first_rules, since_request3, since_request5, newest, rank, switched}
use Rattle.laws.proofs.Refusing.{refusal_keeps, newest_step}
use Rattle.laws.proofs.Opened.{opened_fresh}
use Rattle.layout.specs.Layout.{block_words, held_block_words, ledger_in}
use Rattle.conformance.specs.Operations.{ledger_under, ContractServes, ContractOpens, ContractLists, ContractSwitches, Operated, OperatedConforms, Called, Works, WorksObeys, ObeysWorks, WorksDemand3, WorksFacts}
use Rattle.layout.specs.Words.{words_of, LedgerTold}
use Rattle.layout.proofs.Words.{words_are, held_words_are}
use Rattle.conformance.proofs.Reached.{reached_told}

-- an operation that keeps its contract is under the newest rules
pub contract_serves : ContractServes
contract_serves words m r next done =
    record {
      replied = done.reply ∙ ap (λ (x : Outcome). x.reply) (sym (newest_step (ledger_in words) m));
      ledger = done.ledger ∙ ap (λ (x : Outcome). x.next) (sym (newest_step (ledger_in words) m));
      kept = done.kept;
    }

-- and so are an opening, a waiting list and the switch
pub contract_opens : ContractOpens
contract_opens before o after done = record { reply = sym done.opens.reply; ledger = done.opens.ledger }

pub contract_lists : ContractLists
contract_lists words before r after done = (rising_conforms newest (ledger_in words) before r after done.lists, refl)

pub contract_switches : ContractSwitches
contract_switches held next done = done.ledger

-- an operation is a call that conforms, and leaves the run's next ledger
pub operated_conforms : OperatedConforms
operated_conforms v words (message m r) next done = (done.replied, done.ledger)
operated_conforms v words (waiting_list before r after) next done = (done.0, ap (ledger_under v) done.1)
operated_conforms v words switch next done = (tt, done)

-- what a seat holds after a call, if what all held before it were the run's ledgers
held_after : (o : Opening) (run : Run) (e : Event) (before held : Seat → List ℕ)
    → ((s : Seat) → ledger_under (rules_at s run) (before s) ≡ ledger_at o s run) → Called (rules_at e.at run) before e held
    → (s : Seat) → ledger_under (rules_at s (run ▹ e)) (held s) ≡ ledger_at o s (run ▹ e)
unfolding rules_at ledger_at
held_after o run e before held yet call s = go (same_seat e.at s) refl
  where
    go : (b : Bool) → same_seat e.at s ≡ b
        → ledger_under (cond b (rules_after (rules_at s run) e.call) (rules_at s run)) (held s)
        ≡ cond b (next_ledger (rules_at s run) (ledger_at o s run) e.call) (ledger_at o s run)
    go true here =
        let seat = seat_is e.at s here in
        let done = operated_conforms (rules_at e.at run) (before e.at) e.call (held e.at) call.operated in
        rw (← seat) (done.1 ∙ ap (λ (l : Ledger). next_ledger (rules_at e.at run) l e.call) (yet e.at))
    go false there = ap (ledger_under (rules_at s run)) (call.others s there) ∙ yet s

pub works_obeys : WorksObeys
unfolding rules_at ledger_at
works_obeys o held (start from) first =
    record {
      obeys = tt;
      ledgers = λ s. (first s).1.ledger ∙ opened_fresh o (first s).1.reply (ledger_under (from s) (first s).0);
    }
works_obeys o held (run ▹ e) (before, works, call) =
    let yet = works_obeys o before run works in
    record {
      obeys = (yet.obeys, rw (yet.ledgers e.at) at (operated_conforms (rules_at e.at run) (before e.at) e.call (held e.at) call.operated).0);
      ledgers = held_after o run e before held yet.ledgers call;
    }

-- the words of a ledger in the layout that a seat's rules have; a waiting list and a message keep the layout
abbrev words_for : Rules → Ledger → List ℕ
words_for first_rules l = words_of held_block_words l
words_for since_request3 l = words_of held_block_words l
words_for since_request5 l = words_of block_words l

-- A call that conforms is an operation on the words of its ledger, where those of both ledgers are these. A refusal
-- leaves the ledger, and so its words.
conforms_operated : (v : Rules) (l : Ledger) (c : Call) → ledger_under v (words_for v l) ≡ l
    → ledger_under (rules_after v c) (words_for (rules_after v c) (next_ledger v l c)) ≡ next_ledger v l c
    → Conforms v l c → Operated v (words_for v l) c (words_for (rules_after v c) (next_ledger v l c))
conforms_operated v l (message m r) before after ok =
    record {
      replied = subst (λ (k : Ledger). MayReply v k m r) (sym before) ok;
      ledger = rw before after;
      kept = λ code is. ap (words_for v) (refusal_keeps v l m code (refused_due v l m code (rw is at ok)));
    }
conforms_operated v l switch before after ok = after ∙ ap (switched v) (sym before)
conforms_operated v l (waiting_list buffer r left) before after ok = (rw before ok, refl)

pub obeys_works : ObeysWorks
unfolding rules_at ledger_at
obeys_works o run opens obeys = (λ s. words_for (rules_at s run) (ledger_at o s run), go run obeys)
  where
    are : (run : Run) → Obeys o run → (s : Seat) → ledger_under (rules_at s run) (words_for (rules_at s run) (ledger_at o s run)) ≡ ledger_at o s run
    are run obeys s = by (rules_at s run) refl
      where
        l : Ledger
        l = ledger_at o s run

        told : LedgerTold l
        told = reached_told o opens s run obeys

        -- before request 5 nothing is retained
        nothing : (v : Rules) → rules_at s run ≡ v → rank v < rank since_request5 → (a : Account) → RetainsNothing (entry_of l a)
        nothing v is below a = (always o run opens obeys).none_retained run s a at_end (omega (arith, ap rank is))

        by : (v : Rules) → rules_at s run ≡ v → ledger_under v (words_for v l) ≡ l
        by first_rules is = held_words_are l told (nothing first_rules is (omega arith))
        by since_request3 is = held_words_are l told (nothing since_request3 is (omega arith))
        by since_request5 is = words_are l told

    go : (run : Run) → Obeys o run → Works o (λ s. words_for (rules_at s run) (ledger_at o s run)) run
    go (start from) obeys = λ s. (
      [],
      record {
        reply = opens.not_refused;
        ledger = are (start from) tt s ∙ sym (opened_fresh o opens.not_refused (ledger_under (from s) []));
      },
    )
    go (run ▹ e) obeys = (
      λ s. words_for (rules_at s run) (ledger_at o s run),
      go run obeys.0,
      record {
        operated =
            rw (seat_self e.at)
            (conforms_operated (rules_at e.at run) (ledger_at o e.at run) e.call (are run obeys.0 e.at)
            (rw (seat_self e.at) at (are (run ▹ e) obeys e.at)) obeys.1);
        others = λ z there. rw there;
      },
    )

pub works_demand3 : WorksDemand3
works_demand3 o bad held run opens few fair works kept = demand3 o bad run opens few fair (works_obeys o held run works).obeys kept

pub works_facts : WorksFacts
works_facts o held run opens works = always o run opens (works_obeys o held run works).obeys
