-- The paper's Theorem 1: the statement is `Theorem1` in Undisputed.antt of the crate runs. What every honest seat
-- acked is accepted wherever all their acks arrived, and no other slip with its account and number is put forward or
-- accepted.
use Rattle.std.proofs.lemmas.Bool.{and_parts}
use Rattle.std.specs.Prelude.{Some, None}
use Prim.Native.Nat.{ℕ, zero, suc, ◌+◌, ◌*◌, ◌≤◌, ◌<◌}
use native.Mathlib.Decide.{dec_le}
use native.Mathlib.Omega.{arith}
use mathlib.Core.Path.{◌≡◌, refl, ap, sym, subst, ◌∙◌}
use mathlib.Core.Logic.{◌⊎◌, inl, inr}
use mathlib.Core.Bool.{Bool, true, false, not, ◌&&◌}
use lib.Dec.{ltb}
use borrow.Author.Tests.{lt-ltb, ltb-true}
use Rattle.laws.specs.Types.{Seat, Transfer, Slot, Entry, Ledger, Opening, Refusal, Message, Ack, Reply, Circulate, Acknowledge, Accept, Propose, Note, Balance, Refuse}
use Rattle.runs.specs.Runs.{Opens, count_below, FewBad, honest, message, Event, Run, ◌▹◌, Within, same_seat, rules_at, ledger_at, MayReply, Obeys, is_refusal, accepted, proposed, ruled}
use Rattle.runs.proofs.Found.{happened_found}
use Rattle.runs.specs.Premises.{Premises}
use Rattle.runs.specs.Facts.{accepted_by}
use Rattle.runs.specs.Undisputed.{AllAcked, too_early, brings, AllReached, Theorem1}
use Rattle.agreement.proofs.Places.{before, within_trans, obeys_before, obeys_at, seat_is, ledger_after_lem}
use Rattle.agreement.proofs.Proposals.{happens_in_run, refused_due}
use Rattle.agreement.proofs.Deeds.{Accepts, by_ack, by_ruling, accepted_is, brings_is, deed_found}
use Rattle.agreement.proofs.Soundness.{group, Sound}
use Rattle.agreement.proofs.StepLaws.{ProposesLate, Held, stays_held, now_held, BookedOrWaits, stays_settled, AckRefused, unknown_seat_lem, out_of_range_lem, past_number_lem, future_number_lem, waits_already_lem, repeated, conflicting, ack_refused}
use Rattle.agreement.proofs.Reachable.{sound, stays}
use Rattle.agreement.proofs.Quorums.{count_lift, two_quorums, quorum_most}
use Rattle.agreement.proofs.Acked.{acked_by_found, acked_by_later, acked_by_once, all_from, acked_in_range}
use Rattle.agreement.proofs.Votes.{vote, Tally, votes_counted, Quorum, Majority}
use Rattle.agreement.proofs.Agree.{acks_quorum, proposed_why, ruled_only}
use Rattle.agreement.proofs.Reasons.{all_reasons, decided_accepted}
use Rattle.model.specs.Basics.{bit}
use Rattle.model.specs.Records.{seat_of, with_retained_of, entry_of}
use Rattle.model.specs.Transfers.{equal}
use Rattle.model.specs.Acks.{holds, conflicts, acks_for, enough}
use Rattle.model.specs.Refusals.{out_of_range, waits_already, ack_from}
use Rattle.model.specs.Switches.{Rules, switched, step_under}
use Rattle.laws.proofs.Sums.{impossible}
use Rattle.laws.proofs.Equality.{number_same, equal_sound, equal_refl, Conflict, conflict_sound}
use Rattle.laws.proofs.Switching.{switched_keeps}
use Rattle.laws.proofs.Refusing.{refusal_keeps}
use Rattle.laws.proofs.Steps.{Happens}

-- every number below n is counted
count_all : (p : ℕ → Bool) (n : ℕ) → ((i : ℕ) → p i ≡ true) → count_below p n ≡ n
count_all p zero all = refl
count_all p (suc n) all = omega (arith, ap bit (all n), count_all p n all)

-- An ack of t from seat s has arrived: its number was booked, or it is recorded, or another slip with
-- that number was accepted first.
abbrev Arrived : Seat → Transfer → Entry → Type 0
Arrived s t e = Held s t e ⊎ ((p : Transfer) × (p.account ≡ t.account) × (p.number ≡ t.number) × BookedOrWaits p e)

module _ (o : Opening) (bad : Seat → Bool) (run : Run) (opens : Opens o) (few : FewBad o bad) (obeys : Obeys o run) (kept : Premises o bad run)
    (t : Transfer) (all_acked : AllAcked o bad t run)
  where
    honestly : (i : ℕ) → i < o.seats → bad (seat_of i) ≡ false → honest o bad (seat_of i) ≡ true
    honestly i below fair = rw (lt-ltb i o.seats below, fair)

    -- in a tally of its number, every honest vote is for t
    honest_vote : (u : Transfer) (x : Entry) → Tally o bad run u.account u.number x → t.account ≡ u.account → t.number ≡ u.number
        → (i : ℕ) (v w : Transfer) → i < o.seats → bad (seat_of i) ≡ false → Some t ≡ Some v → vote x i ≡ Some w → v ≡ w
    honest_vote u x tally account number i v w below fair hv hw =
        let stands = tally.stands (seat_of i) w hw in
        let acked_it = tally.from (seat_of i) w hw (honestly i below fair) in
        let same =
        acked_by_once o opens run obeys (seat_of i) t w (all_acked (seat_of i) (honestly i below fair)) acked_it
        (account ∙ sym stands.1) (number ∙ sym stands.2) in
        let this : t ≡ v = cc in
        sym this ∙ same

    -- as if all n seats had voted for t
    all_for : o.seats + 3 * o.faults < 2 * count_below (λ i. holds t (Some t)) o.seats
    all_for = omega (arith, count_all (λ i. equal t t) o.seats (λ i. equal_refl t), (group o opens).few_faults)

    -- so of its account and number only t has a majority, or a quorum
    only_majority : (u : Transfer) → Majority o bad run u → t.account ≡ u.account → t.number ≡ u.number → t ≡ u
    only_majority u major account number =
        quorum_most (λ i. bad (seat_of i)) o.seats o.faults (λ i. Some t) (vote major.entry) few
        (honest_vote u major.entry major.tally account number)
        t u all_for major.recorded (major.most t)

    only_quorum : (u : Transfer) → Quorum o bad run u → t.account ≡ u.account → t.number ≡ u.number → t ≡ u
    only_quorum u quorum account number =
        two_quorums (λ i. bad (seat_of i)) o.seats o.faults (λ i. Some t) (vote quorum.entry) few
        (honest_vote u quorum.entry quorum.tally account number)
        t u all_for quorum.many

    only_accepted : (q : Run) (d : Event) (u : Transfer) → Within (q ▹ d) run → accepted d.call ≡ Some u
        → t.account ≡ u.account → t.number ≡ u.number → t ≡ u
    only_accepted q d u w is account number = go (accepted_is d.call u is)
      where
        go : Accepts d.call u → t ≡ u
        go (by_ack s k this) = only_quorum u (acks_quorum o bad run opens few obeys kept q d s u k w this) account number
        go (by_ruling k this) =
            sym (ruled_only o bad run opens few obeys kept t u only_majority only_quorum q d w (ap ruled this) account number)

    -- what is put forward has a majority, or its seat accepted it
    only_proposed : (q : Run) (d : Event) (u : Transfer) → Within (q ▹ d) run → proposed d.call ≡ Some u
        → t.account ≡ u.account → t.number ≡ u.number → t ≡ u
    only_proposed q d u w is account number = go (proposed_why o bad run opens few obeys kept q d u w is)
      where
        go : Majority o bad run u ⊎ (accepted_by d.at u q ≡ true) → t ≡ u
        go (inl major) = only_majority u major account number
        go (inr accepts) =
            let found = deed_found accepted d.at u q accepts in
            only_accepted found.0 found.1 u (within_trans found.2 (before w)) found.4 account number

    -- the acks of all honest seats are enough
    held_enough : (p : Run) (z : Seat) → Within p run
        → ((s : Seat) → honest o bad s ≡ true → ack_from (entry_of (ledger_at o z p) t.account) s ≡ Some t)
        → enough o.seats o.faults (acks_for t (entry_of (ledger_at o z p) t.account).acks) ≡ true
    held_enough p z w held =
        lt-ltb (o.seats + 3 * o.faults) (2 * acks_for t x.acks)
        (omega (arith, votes_counted o bad run opens t.account (x.current + 1) x tally (holds t) refl, votes, (group o opens).few_faults))
      where
        x : Entry
        x = entry_of (ledger_at o z p) t.account

        here : Obeys o p
        here = obeys_before o obeys w

        tally : Tally o bad run t.account (x.current + 1) x
        tally =
            let entry = (sound o opens z p here).each t.account in
            record {
              size = entry.acks_size;
              stands = entry.acks_stand;
              from = λ i u h fair. acked_by_later i u w (all_from o bad opens run kept.acks_genuine z p here w t.account i u h fair);
            }

        -- each seat is bad, or its vote is for t
        either : (i : ℕ) → i < o.seats → bit true + bit true ≤ 1 + bit (bad (seat_of i)) + bit (holds t (vote x i))
        either i below = go (bad (seat_of i)) refl
          where
            go : (b : Bool) → bad (seat_of i) ≡ b → bit true + bit true ≤ 1 + bit b + bit (holds t (vote x i))
            go true is = omega arith
            go false is = rw (held (seat_of i) (honestly i below is), equal_refl t) (omega arith)

        votes : o.seats ≤ count_below (λ i. holds t (vote x i)) o.seats + o.faults
        votes =
            let counts = count_lift (λ i. true) (λ i. true) (λ i. bad (seat_of i)) (λ i. holds t (vote x i)) o.seats either in
            omega (arith, count_all (λ i. true) o.seats (λ i. refl))

    -- t is in range in every sound ledger, since it was acked somewhere
    acked_eligible : (z : Seat) → honest o bad z ≡ true → (1 ≤ t.number) × ((l : Ledger) → Sound o l → out_of_range l t ≡ false)
    acked_eligible z fair =
        let found = acked_by_found z t run (all_acked z fair) in
        acked_in_range o opens run obeys found.0 found.1 t found.2 found.4

    -- an ack of t from an honest seat that is refused, and not as too early, had arrived before
    refused_arrived : (q : Run) (z s : Seat) (x : Refusal) → Within q run → honest o bad s ≡ true → too_early (Refuse x) ≡ false
        → AckRefused (ledger_at o z q) s t x → Arrived s t (entry_of (ledger_at o z q) t.account)
    refused_arrived q z s x w fair late why = go why
      where
        l : Ledger
        l = ledger_at o z q

        ok : Sound o l
        ok = sound o opens z q (obeys_before o obeys w)

        e : Entry
        e = entry_of l t.account

        -- the place of the seat's ack holds t, for it acked nothing else
        place : (y : Slot) → ack_from e s ≡ y → (holds t y ≡ true) ⊎ (conflicts t y ≡ true) → Arrived s t e
        place None at (inl is) = impossible (cc)
        place None at (inr is) = impossible (cc)
        place (Some u) at (inl is) = inl (inr (at ∙ ap Some (equal_sound u t is)))
        place (Some u) at (inr is) =
            let clash = conflict_sound u t is in
            let theirs = acked_by_later s u w (all_from o bad opens run kept.acks_genuine z q (obeys_before o obeys w) w t.account s u at fair) in
            absurd (clash.differ (acked_by_once o opens run obeys s u t theirs (all_acked s fair) clash.account clash.number))

        waits : (y : Slot) → e.pending ≡ y → waits_already y t ≡ true → Arrived s t e
        waits None at is = impossible (cc)
        waits (Some p) at is =
            let same = number_same p t is in
            inr (p, same.0, same.1, inr at)

        go : AckRefused l s t x → Arrived s t e
        go (unknown_seat_lem above) =
            absurd (omega (arith, ok.seats_same, ltb-true s.0 o.seats (and_parts (ltb s.0 o.seats) (not (bad s)) fair).0))
        go (out_of_range_lem is) = impossible (cc ((acked_eligible s fair).1 l ok, is))
        go (past_number_lem is) = inl (inl is)
        go (future_number_lem is) = impossible (cc (late, is))
        go (waits_already_lem is) = waits e.pending refl is
        go (repeated is) = place (ack_from e s) refl (inl is)
        go (conflicting is) = place (ack_from e s) refl (inr is)

    -- so an ack that is not too early has arrived after its call
    arrives : (q : Run) (d : Event) (z s : Seat) (r : Reply) → Within (q ▹ d) run → honest o bad s ≡ true → d.at ≡ z
        → d.call ≡ message (Ack s t) r → too_early r ≡ false → Arrived s t (entry_of (ledger_at o z (q ▹ d)) t.account)
    arrives q d z s r w fair seat call late =
        rw (ledger_after_lem o z q d (Ack s t) r seat call) (go r refl (rw (seat, call) at (obeys_at o obeys w)))
      where
        l : Ledger
        l = ledger_at o z q

        v : Rules
        v = rules_at z q

        taken : (y : Reply) → MayReply v l (Ack s t) y → is_refusal y ≡ false → Arrived s t (entry_of (step_under v l (Ack s t)).next t.account)
        taken y h is = held (now_held v o l _ (Ack s t) y (group o opens) ok s t refl is (happens_in_run v l (Ack s t) y h))
          where
            here : Obeys o q
            here = obeys_before o obeys (before w)

            ok : Sound o l
            ok = sound o opens z q here

            -- no late P is due to it: its seat would have accepted a slip that conflicts with t
            held : {next : Ledger} → Held s t (entry_of next t.account) ⊎ ((u : Transfer) × ProposesLate v l (Ack s t) u next × Conflict u t)
                → Arrived s t (entry_of next t.account)
            held (inl now) = inl now
            held (inr (u, late, clash)) =
                let reason = (all_reasons o opens z q here late.slip.account).why_retained u late.joins.is_retained in
                let found = deed_found accepted z u q reason in
                let same =
                only_accepted found.0 found.1 u (within_trans found.2 (before w)) found.4 (sym clash.account) (sym clash.number) in
                absurd (clash.differ (sym same))

        go : (y : Reply) → r ≡ y → MayReply v l (Ack s t) y → Arrived s t (entry_of (step_under v l (Ack s t)).next t.account)
        go Circulate at h = taken Circulate h refl
        go Acknowledge at h = taken Acknowledge h refl
        go (Accept c) at h = taken (Accept c) h refl
        go (Propose u) at h = taken (Propose u) h refl
        go Note at h = taken Note h refl
        go (Balance b) at h = taken (Balance b) h refl
        go (Refuse x) at h =
            let due = refused_due v l (Ack s t) x h in
            rw (refusal_keeps v l (Ack s t) x due) (refused_arrived q z s x (before w) fair (rw at at late) (ack_refused v l s t x due))

    -- and stays so
    stays_arrived : (z s : Seat) {p r : Run} → Obeys o r → Within p r
        → Arrived s t (entry_of (ledger_at o z p) t.account) → Arrived s t (entry_of (ledger_at o z r) t.account)
    stays_arrived z s =
        stays o opens z (λ v l. Arrived s t (entry_of l t.account)) (λ v l ok old. switched_arrived v l old) go
      where
        switched_arrived : (v : Rules) (l : Ledger) → Arrived s t (entry_of l t.account) → Arrived s t (entry_of (switched v l) t.account)
        switched_arrived v l old = subst (Arrived s t) (sym (switched_keeps v l t.account)) (same old)
          where
            e : Entry
            e = entry_of l t.account

            e' : Entry
            e' = entry_of (switched v l) t.account

            same : Arrived s t e → Arrived s t (with_retained_of e e')
            same old = old

        go : (v : Rules) (l next : Ledger) (m : Message) (q : Reply) → Sound o l → Happens v l m q next
            → Arrived s t (entry_of l t.account) → Arrived s t (entry_of next t.account)
        go v l next m q ok h (inl held) = inl (stays_held v o l next m q (group o opens) ok s t h t.account held)
        go v l next m q ok h (inr other) =
            inr (other.0, other.1, other.2, stays_settled o l next m q (group o opens) ok h other.0 t.account other.3)

    -- t's number was booked, or a slip of it waits, or all acks are held: either way t was accepted
    arrived_accepted : (p : Run) (z : Seat) → Within p run → honest o bad z ≡ true
        → AllReached o bad z t p
        → accepted_by z t p ≡ true
    arrived_accepted p z w fair all = go (dec_le t.number e.current) e.pending refl
      where
        here : Obeys o p
        here = obeys_before o obeys w

        e : Entry
        e = entry_of (ledger_at o z p) t.account

        arrived : (s : Seat) → honest o bad s ≡ true → Arrived s t e
        arrived s fairly =
            let found = happened_found (λ d. same_seat d.at z && brings s t d.call) p (all s fairly) in
            let d = found.1 in
            let parts = and_parts (same_seat d.at z) (brings s t d.call) found.3 in
            let ack = brings_is s t d.call parts.1 in
            stays_arrived z s here found.2
            (arrives found.0 d z s ack.0 (within_trans found.2 w) fairly (seat_is d.at z parts.0) ack.1 ack.2)

        -- a slip with t's account and number that was accepted there is t
        that_one : (v : Transfer) → v.account ≡ t.account → v.number ≡ t.number → accepted_by z v p ≡ true → accepted_by z t p ≡ true
        that_one v account number is =
            let found = deed_found accepted z v p is in
            let same = only_accepted found.0 found.1 v (within_trans found.2 w) found.4 (sym account) (sym number) in
            rw same is

        -- what waits has the next number, and that is t's
        next : (t.number ≤ e.current → ⊥) → Arrived z t e → t.number ≡ e.current + 1
        next yet (inl (inl past)) = absurd (yet past)
        next yet (inl (inr is)) = (((sound o opens z p here).each t.account).acks_stand z t is).2
        next yet (inr (v, account, number, inl past)) = absurd (yet (omega arith))
        next yet (inr (v, account, number, inr waits)) = omega (arith, (((sound o opens z p here).each t.account).pending_stands v waits).1)

        -- where nothing waits, all acks are held
        held : (t.number ≤ e.current → ⊥) → e.pending ≡ None → (s : Seat) → Arrived s t e → ack_from e s ≡ Some t
        held yet empty s (inl (inl past)) = absurd (yet past)
        held yet empty s (inl (inr is)) = is
        held yet empty s (inr (v, account, number, inl past)) = absurd (yet (omega arith))
        held yet empty s (inr (v, account, number, inr waits)) = impossible (cc)

        go : Dec (t.number ≤ e.current) → (y : Slot) → e.pending ≡ y → accepted_by z t p ≡ true
        go (yes past) y at =
            let was = (all_reasons o opens z p here t.account).why_booked t.number (acked_eligible z fair).0 past in
            that_one was.0 was.1 was.2 was.3
        go (no yet) (Some v) at =
            let stands = ((sound o opens z p here).each t.account).pending_stands v at in
            that_one v stands.0 (omega (arith, stands.1, next yet (arrived z fair)))
            ((all_reasons o opens z p here t.account).why_waits v at).was_accepted
        go (no yet) None at = decided_accepted o opens z p here t (held_enough p z w (λ s fairly. held yet at s (arrived s fairly)))

pub theorem1 : Theorem1
theorem1 o bad run t opens few at_honest obeys kept all_acked =
    record {
      accepted_there = arrived_accepted o bad run opens few obeys kept t all_acked;
      none_other_proposed = only_proposed o bad run opens few obeys kept t all_acked;
      none_other_accepted = only_accepted o bad run opens few obeys kept t all_acked;
    }
