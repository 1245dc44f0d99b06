-- A run at one seat that goes on with the entries of a bundle, and the lines of these entries: each gives the other.
use Rattle.std.specs.Prelude.{Some}
use Prim.Native.Nat.{ℕ, zero, suc, ◌+◌, ◌≤◌, ◌<◌}
use native.Mathlib.Omega.{arith}
use mathlib.Core.Path.{◌≡◌, refl, ap, sym, ◌∙◌}
use mathlib.Core.List.{List, [], ◌∷◌, ◌++◌, append_assoc}
use Rattle.model.specs.Types.{Outcome}
use Rattle.model.specs.Calls.{step}
use Rattle.model.specs.Switches.{newest, step_under}
use Rattle.laws.proofs.Refusing.{newest_step}
use Rattle.model.specs.Bundles.{page_at, message_of}
use Rattle.laws.specs.Types.{Seat, Opening, Message}
use Rattle.runs.specs.Runs.{Run, ◌▹◌, Within, at_end, rules_at, ledger_at, MayReply, Obeys}
use Rattle.agreement.proofs.Places.{before, obeys_before, ledger_after_lem, seat_self}
use Rattle.text.specs.Lines.{reply_line}
use Rattle.replay.specs.Text.{entry_line, ledger_after, ledger_from, lines_from}
use Rattle.conformance.specs.Texts.{Exchange, event_of, run_from, AskedFrom, reply_lines}

-- the first of these lines, and what stands behind it
pub first_line : (i : ℕ) (x : Exchange) (xs : List Exchange) (rest : List ℕ)
    → reply_lines i (x ∷ xs) ++ rest ≡ reply_line i x.reply ++ (reply_lines (suc i) xs ++ rest)
first_line i x xs rest = append_assoc (reply_line i x.reply) (reply_lines (suc i) xs) rest

-- Places in such a run: what it went on from, and each of its calls.
module _ (s : Seat) where
  pub from_within : (run : Run) (xs : List Exchange) → Within run (run_from s run xs)
  from_within run [] = at_end
  from_within run (x ∷ xs) = before (from_within (run ▹ event_of s x) xs)

  from_append : (run : Run) (xs ys : List Exchange) → run_from s run (xs ++ ys) ≡ run_from s (run_from s run xs) ys
  from_append run [] ys = refl
  from_append run (x ∷ xs) ys = from_append (run ▹ event_of s x) xs ys

  pub call_within : (run : Run) (early late : List Exchange) (x : Exchange)
      → Within (run_from s run early ▹ event_of s x) (run_from s run (early ++ x ∷ late))
  call_within run early late x = rw (from_append run early (x ∷ late)) (from_within (run_from s run early ▹ event_of s x) late)

module _ (bytes : List ℕ) (o : Opening) (s : Seat) where
  -- a run that goes on with the `left` entries from i on
  abbrev GoesOn : ℕ → ℕ → Run → Type 0
  GoesOn left i run = (xs : List Exchange) × AskedFrom bytes left i xs × Obeys o (run_from s run xs)

  -- Under the newest rules: after a message they are the seat's, if they were before it; and what it is
  -- replied, and leaves, is today's step.
  abbrev Newest : Run → Type 0
  Newest run = rules_at s run ≡ newest

  still_newest : (run : Run) (x : Exchange) → Newest run → Newest (run ▹ event_of s x)
  unfolding rules_at
  still_newest run x yet = rw (seat_self s) yet

  reply_is : (run : Run) (x : Exchange) → Newest run → Obeys o (run ▹ event_of s x) → x.reply ≡ (step (ledger_at o s run) x.asked).reply
  reply_is run x yet obeys =
      let due : MayReply newest (ledger_at o s run) x.asked x.reply = rw yet at obeys.1 in
      due ∙ ap (λ (y : Outcome). y.reply) (newest_step (ledger_at o s run) x.asked)

  ledger_is : (run : Run) (x : Exchange) → Newest run → ledger_at o s (run ▹ event_of s x) ≡ (step (ledger_at o s run) x.asked).next
  ledger_is run x yet =
      let under : ledger_at o s (run ▹ event_of s x) ≡ (step_under newest (ledger_at o s run) x.asked).next =
      rw yet at (ledger_after_lem o s run (event_of s x) x.asked x.reply refl refl) in
      under ∙ ap (λ (y : Outcome). y.next) (newest_step (ledger_at o s run) x.asked)

  -- there is one, if each entry asks
  pub goes_on : (left i : ℕ) (run : Run) → Newest run
      → ((j : ℕ) → i ≤ j → j < i + left → (m : Message) × (message_of (page_at bytes j) ≡ Some m)) → Obeys o run → GoesOn left i run
  goes_on zero i run yet asks obeys = ([], tt, obeys)
  goes_on (suc left) i run yet asks obeys =
      let this = asks i (omega arith) (omega arith) in
      let x : Exchange = record { asked = this.0; reply = (step_under newest (ledger_at o s run) this.0).reply } in
      let replied : MayReply newest (ledger_at o s run) x.asked x.reply = refl in
      let rest = goes_on left (suc i) (run ▹ event_of s x) (still_newest run x yet) (λ j from to. asks j (omega arith) (omega arith)) (obeys, rw yet replied) in
      (x ∷ rest.0, (this.1, rest.1), rest.2)

  -- and the lines of these entries are those of its replies
  pub told_lines : (left i : ℕ) (run : Run) (xs : List Exchange) → Newest run → AskedFrom bytes left i xs → Obeys o (run_from s run xs)
      → lines_from bytes left i (ledger_at o s run) ≡ reply_lines i xs
  told_lines zero i run [] yet asked obeys = refl
  told_lines zero i run (x ∷ xs) yet asked obeys = absurd asked
  told_lines (suc left) i run [] yet asked obeys = absurd asked
  told_lines (suc left) i run (x ∷ xs) yet asked obeys =
      let reply = reply_is run x yet (obeys_before o obeys (from_within s (run ▹ event_of s x) xs)) in
      let line : entry_line i (ledger_at o s run) (message_of (page_at bytes i)) ≡ reply_line i x.reply =
      ap (entry_line i (ledger_at o s run)) asked.0 ∙ ap (reply_line i) (sym reply) in
      let next = ap (ledger_after (ledger_at o s run)) asked.0 ∙ sym (ledger_is run x yet) in
      rw (line, next, told_lines left (suc i) (run ▹ event_of s x) xs (still_newest run x yet) asked.1 obeys)

  -- the run's last ledger is the one that these entries leave
  pub ledger_left : (left i : ℕ) (run : Run) (xs : List Exchange) → Newest run → AskedFrom bytes left i xs
      → ledger_from bytes left i (ledger_at o s run) ≡ ledger_at o s (run_from s run xs)
  ledger_left zero i run [] yet asked = refl
  ledger_left zero i run (x ∷ xs) yet asked = absurd asked
  ledger_left (suc left) i run [] yet asked = absurd asked
  ledger_left (suc left) i run (x ∷ xs) yet asked =
      let next = ap (ledger_after (ledger_at o s run)) asked.0 ∙ sym (ledger_is run x yet) in
      rw next (ledger_left left (suc i) (run ▹ event_of s x) xs (still_newest run x yet) asked.1)
