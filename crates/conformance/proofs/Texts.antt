-- The lines of a text are a run: the statements are in specs/Texts.antt.
use Rattle.std.specs.Prelude.{Some, Ok}
use Prim.Native.Nat.{ℕ, zero, suc, ◌+◌, ◌-◌, ◌≤◌, ◌<◌}
use native.Mathlib.Omega.{arith}
use mathlib.Core.Path.{◌≡◌, refl}
use mathlib.Core.List.{List}
use Rattle.model.specs.Records.{fresh_ledger}
use Rattle.model.specs.Bundles.{entry_count, page_at, message_of, check_bundle}
use Rattle.laws.specs.Types.{Message}
use Rattle.runs.specs.Runs.{Opens, rules_at, ledger_at}
use Rattle.runs.proofs.AnyOrder.{rising_conforms}
use Rattle.agreement.proofs.Always.{always}
use Rattle.model.specs.Switches.{newest}
use Rattle.ledger.specs.Promises.{ListedAs}
use Rattle.bundle.proofs.Asking.{all_ask}
use Rattle.replay.specs.Text.{ledger_from, opening_page}
use Rattle.replay.specs.Lists.{accounts_behind, refusal_behind}
use Rattle.replay.proofs.Sound.{sound_count}
use Rattle.conformance.specs.Texts.{begins, run_of, RunOfBundle, EveryText, EveryRun, EveryList}
use Rattle.conformance.proofs.EntryRuns.{goes_on, told_lines, ledger_left}
use Rattle.conformance.proofs.ClosingRows.{accounted}

-- in a sound bundle each entry from 1 asks
each_asks : (bytes : List ℕ) (m : ℕ) → check_bundle bytes ≡ Ok m
    → (j : ℕ) → 1 ≤ j → j < 1 + (entry_count bytes - 1) → (q : Message) × (message_of (page_at bytes j) ≡ Some q)
each_asks bytes m right zero from to = absurd (omega arith)
each_asks bytes m right (suc j) from to = all_ask bytes m right j (omega (arith, (sound_count bytes m right).1))

pub every_run : EveryRun
unfolding rules_at ledger_at
every_run bytes m s xs right opens run =
    let page = opening_page bytes in
    let lines = told_lines bytes page s (entry_count bytes - 1) 1 begins xs refl run.asked run.obeys in
    let left = ledger_left bytes page s (entry_count bytes - 1) 1 begins xs refl run.asked in
    rw (right, opens, (sound_count bytes m right).0, lines, left)

pub every_text : EveryText
unfolding rules_at
every_text bytes m s right opens =
    let page = opening_page bytes in
    let page_opens : Opens (opening_page bytes) = record { full_page = refl; not_refused = opens } in
    let found = goes_on bytes page s (entry_count bytes - 1) 1 begins refl (each_asks bytes m right) tt in
    let xs = found.0 in
    let run : RunOfBundle bytes s found.0 = record { asked = found.1; obeys = found.2 } in
    record {
      exchanges = xs;
      run = run;
      lines = every_run bytes m s xs right opens run;
      facts = always page (run_of s xs) page_opens found.2;
      accounted = accounted page page_opens s xs found.2;
    }

pub every_list : EveryList
unfolding rules_at ledger_at accounts_behind refusal_behind
every_list bytes m s xs before reply after right opens run lists =
    let here : ListedAs (ledger_from bytes (entry_count bytes - 1) 1 (fresh_ledger (opening_page bytes))) before reply after = rw (right, opens) at lists in
    let left = ledger_left bytes (opening_page bytes) s (entry_count bytes - 1) 1 begins xs refl run.asked in
    (run.obeys, rising_conforms newest (ledger_at (opening_page bytes) s (run_of s xs)) before reply after (rw left at here.lists))
