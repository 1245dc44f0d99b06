-- Demand 3 as one statement. Its proof is `demand3` in Demand3.antt of the crate agreement.
use Rattle.std.specs.Prelude.{ℕ, ◌<◌, ◌≡◌, Bool, true, Some}
use Rattle.laws.specs.Types.{Seat, Account, Transfer, Opening, Inquiry, Balance}
use Rattle.runs.specs.Runs.{Opens, FewBad, honest, message, Event, Run, ◌▹◌, Within, at_honest, ledger_at, Obeys, accepted}
use Rattle.runs.specs.Premises.{Premises}
use Rattle.runs.specs.Slates.{slate_at}
use Rattle.model.specs.Records.{entry_of}

-- "their counts are equal in every account": of seat s at place p and seat z at place q, for each of the k accounts
abbrev pub SameCounts : Opening → Seat → Run → Seat → Run → Type 0
SameCounts o s p z q = (a : Account) → a.0 < o.accounts → (slate_at o s p).count a ≡ (slate_at o z q).count a

-- "Of every run that keeps the premises, demand 3 says": a single claim about the whole list.
pub record Claim (o : Opening) (bad : Seat → Bool) (run : Run) : Type 0 where
  -- "Any two accepted slips with equal account and number are equal, whether one honest seat accepted them or two."
  pub agree : (p q : Run) (e d : Event) (t u : Transfer)
      → Within (p ▹ e) run → accepted e.call ≡ Some t
      → Within (q ▹ d) run → accepted d.call ≡ Some u
      → t.account ≡ u.account → t.number ≡ u.number → t ≡ u
  -- "At the start and after each call, the balances and current numbers in each honest book are
  -- its slate's balances and counts"
  pub balances : (p : Run) (s : Seat) (a : Account) → Within p run → honest o bad s ≡ true
      → (entry_of (ledger_at o s p) a).balance ≡ (slate_at o s p).balance a
  pub counts : (p : Run) (s : Seat) (a : Account) → Within p run → honest o bad s ≡ true
      → (entry_of (ledger_at o s p) a).current ≡ (slate_at o s p).count a
  -- "and the balance in each reply B is the slate's for that account."
  pub told : (p : Run) (e : Event) (a : Account) (b : ℕ) → Within (p ▹ e) run → e.call ≡ message (Inquiry a) (Balance b)
      → b ≡ (slate_at o e.at p).balance a
  -- "Look at one honest seat at any place in the run and at another at any place, the same or not. If their counts are
  -- equal in every account, so are their balances."
  pub equal_counts : (p q : Run) (s z : Seat)
      → Within p run → honest o bad s ≡ true
      → Within q run → honest o bad z ≡ true
      → SameCounts o s p z q
      → (a : Account) → (slate_at o s p).balance a ≡ (slate_at o z q).balance a

-- Demand 3: for every opening page that is not refused, every choice of at most f bad seats, and every run at honest
-- seats that obeys the definitions and keeps the premises.
abbrev pub Demand3 : Type 0
Demand3 =
    (o : Opening) (bad : Seat → Bool) (run : Run)
    → Opens o → FewBad o bad → at_honest o bad run ≡ true → Obeys o run → Premises o bad run → Claim o bad run
