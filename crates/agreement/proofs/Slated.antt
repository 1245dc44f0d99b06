-- Each ledger is its slate, at every place of a run that obeys: the second point of demand 3. It needs no premises.
use Prim.Native.Nat.{ℕ}
use mathlib.Core.Path.{◌≡◌, refl, ap, ◌∙◌}
use Rattle.laws.specs.Types.{Seat, Account, Entry, Ledger, Opening, Message, Reply, Balance, Inquiry}
use Rattle.runs.specs.Runs.{Opens, message, Event, Run, ◌▹◌, Within, ledger_at, Obeys, accepted}
use Rattle.runs.specs.Slates.{Slate, fresh_slate, next_slate, slate_at, join}
use Rattle.agreement.proofs.Places.{before, obeys_before, seat_self}
use Rattle.laws.proofs.Opened.{Group}
use Rattle.agreement.proofs.Soundness.{next_waits, opened_entry, group, Sound, bounded}
use Rattle.agreement.proofs.Reachable.{run_induction, happened_at}
use Rattle.agreement.proofs.StepLaws.{switched_state, Turn, keeps, accepts, turn, answer_balance}
use Rattle.agreement.proofs.SlateSettles.{Matches, quiet_matches, join_matches, settle_matches}
use Rattle.model.specs.Switches.{switched}
use Rattle.model.specs.Records.{fresh_ledger, set_entry, with_pending, with_entry}

opened_matches : (o : Opening) → Matches (fresh_ledger o).entries (fresh_slate o)
opened_matches o =
    record {
      balance_is = λ a. ap (λ (e : Entry). e.balance) (opened_entry o a);
      count_is = λ a. ap (λ (e : Entry). e.current) (opened_entry o a);
      waiting_is = λ t. rw (opened_entry o t.account) refl;
    }

-- a call keeps the ledger its slate's
turn_matches : (o : Opening) (l next : Ledger) (m : Message) (r : Reply) (s : Slate) → Group o → Sound o l → Turn o l m r next
    → Matches l.entries s → Matches next.entries (next_slate s (accepted (message m r)))
turn_matches o l next m r s g ok (keeps same none_accepted not_k) match =
    rw none_accepted (quiet_matches l.entries next.entries s same match)
turn_matches o l next m r s g ok (accepts t this done) match =
    let es = set_entry l.entries t.account (with_pending done.entry t) in
    let waits = done.waits_soundly in
    let joined =
    join_matches l.entries s done.entry t done.fits.inside done.fits.none_waits done.same_balance done.same_current match in
    rw (this, done.entries_are)
    (settle_matches es (join s t) (bounded o (with_entry l t.account (with_pending done.entry t)) g waits)
    (next_waits o (with_entry l t.account (with_pending done.entry t)) waits)
    (λ a u h. ((waits.each a).pending_stands u h).0)
    joined)

module _ (o : Opening) (opens : Opens o) (s : Seat) where
  -- at the start and after each call
  pub slated : (r : Run) → Obeys o r → Matches (ledger_at o s r).entries (slate_at o s r)
  unfolding slate_at
  slated =
      run_induction o opens s (λ r v l. Matches l.entries (slate_at o s r)) (λ from. opened_matches o)
      (λ r e v l other match. rw other match)
      (λ r b a q v l match. rw (seat_self s) match)
      (λ r v l ok match. rw (seat_self s) (quiet_matches l.entries (switched v l).entries (slate_at o s r) (switched_state v l) match))
      (λ r v m q l next ok h match.
      let g = group o opens in
      rw (seat_self s) (turn_matches o l next m q (slate_at o s r) g ok (turn o l next m q g ok h) match))

-- the balance in each reply B is the slate's
pub told_slate : (o : Opening) (run p : Run) (e : Event) (a : Account) (b : ℕ) → Opens o → Obeys o run
    → Within (p ▹ e) run → e.call ≡ message (Inquiry a) (Balance b) → b ≡ (slate_at o e.at p).balance a
told_slate o run p e a b opens obeys w is =
    let l = ledger_at o e.at p in
    answer_balance l _ (Inquiry a) (Balance b) a b refl refl (happened_at o (Inquiry a) (Balance b) obeys w is) ∙ (slated o opens e.at p (obeys_before o obeys (before w))).balance_is a
