-- The waiting list in a run: the one with the lowest account first is one of those that may be; their
-- order is free, and nothing else.
use Rattle.std.specs.Prelude.{Ok}
use Prim.Native.Nat.{ℕ, zero, suc, ◌+◌, ◌≤◌, ◌<◌}
use native.Mathlib.Nat.{le_of_suc-le-suc, not-suc-le-zero}
use native.Mathlib.Omega.{arith}
use mathlib.Core.Path.{◌≡◌, refl, ap, sym, ◌∙◌, fun_ext}
use mathlib.Core.Bool.{Bool, true, false}
use mathlib.Core.List.{List, [], ◌∷◌, ◌++◌}
use lib.Dec.{eqb, eqb-zero-suc, eqb-suc-zero, eqb-suc-suc}
use lib.ListN.{length}
use borrow.Author.Tests.{eq-eqb}
use Rattle.model.specs.Basics.{bit, count, Rising}
use Rattle.model.specs.Refusals.{list_refusal}
use Rattle.model.specs.Settling.{waiting}
use Rattle.model.specs.Calls.{waits_at, waiting_accounts, Lists}
use Rattle.model.specs.Switches.{Rules}
use Rattle.laws.proofs.Listing.{has_entry, waiting_exactly, only_waiting, waiting_once, waiting_number, list_number}
use Rattle.laws.proofs.Searches.{stands_counted, counted_stands, rising_once}
use Rattle.laws.specs.Types.{Ledger, ListReply}
use Rattle.runs.specs.Runs.{waiting_list, InAnyOrder, MayList, Conforms}

-- Under every set of rules a list in any order conforms,
pub any_conforms : (v : Rules) (l : Ledger) (accounts before : List ℕ) (r : ListReply) (after : List ℕ)
    → InAnyOrder l accounts → Lists accounts before r after → Conforms v l (waiting_list before r after)
any_conforms v l accounts before r after those h = (accounts, those, h)

-- and so does the one with the lowest account first.
pub rising_conforms : (v : Rules) (l : Ledger) (before : List ℕ) (r : ListReply) (after : List ℕ)
    → Lists (waiting_accounts l) before r after → Conforms v l (waiting_list before r after)
rising_conforms v l before r after h = any_conforms v l (waiting_accounts l) before r after (waiting_once l) h

same_counts : (a : ℕ) (xs : List ℕ) (y z : ℕ) (zs : List ℕ) → count (eqb a) (xs ++ y ∷ z ∷ zs) ≡ count (eqb a) (xs ++ z ∷ y ∷ zs)
same_counts a [] y z zs = omega arith
same_counts a (x ∷ xs) y z zs = omega (arith, same_counts a xs y z zs)

-- the sum of f over the numbers below n
sum_below : (ℕ → ℕ) → ℕ → ℕ
sum_below f zero = 0
sum_below f (suc n) = f 0 + sum_below (λ a. f (suc a)) n

below_none : (f : ℕ → ℕ) (n : ℕ) → ((a : ℕ) → f a ≡ 0) → sum_below f n ≡ 0
unfolding sum_below
below_none f zero h = refl
below_none f (suc n) h = omega (arith, h 0, below_none (λ a. f (suc a)) n (λ a. h (suc a)))

below_add : (f g : ℕ → ℕ) (n : ℕ) → sum_below (λ a. f a + g a) n ≡ sum_below f n + sum_below g n
unfolding sum_below
below_add f g zero = refl
below_add f g (suc n) = omega (arith, below_add (λ a. f (suc a)) (λ a. g (suc a)) n)

-- exactly one number below n is x
below_point : (x n : ℕ) → x < n → sum_below (λ a. bit (eqb a x)) n ≡ 1
unfolding sum_below
below_point x zero h = absurd (not-suc-le-zero h)
below_point zero (suc n) h =
    omega (arith, below_none (λ a. bit (eqb (suc a) 0)) n (λ a. ap bit (eqb-suc-zero a)))
below_point (suc x) (suc n) h =
    let shifted : sum_below (λ a. bit (eqb (suc a) (suc x))) n ≡ sum_below (λ a. bit (eqb a x)) n = simp eqb-suc-suc in
    omega (arith, ap bit (eqb-zero-suc x), below_point x n (le_of_suc-le-suc h))

-- a list of numbers below n is as long as their counts together
count_all : (xs : List ℕ) (n : ℕ) → ((a : ℕ) → 1 ≤ count (eqb a) xs → a < n) → sum_below (λ a. count (eqb a) xs) n ≡ length xs
count_all [] n h = below_none (λ a. 0) n (λ a. refl)
count_all (x ∷ xs) n h =
    let first = below_point x n (h x (omega (arith, ap bit (eq-eqb x x refl)))) in
    let rest = count_all xs n (λ a more. h a (omega arith)) in
    below_add (λ a. bit (eqb a x)) (λ a. count (eqb a) xs) n ∙ omega arith

-- two lists with the same counts, of numbers below n, are equally long
same_length : (xs ys : List ℕ) (n : ℕ) → ((a : ℕ) → 1 ≤ count (eqb a) ys → a < n) → ((a : ℕ) → count (eqb a) xs ≡ count (eqb a) ys) → length xs ≡ length ys
same_length xs ys n below same =
    sym (count_all xs n (λ a some. below a (rw (same a) at some)))
    ∙ ap (λ (f : ℕ → ℕ). sum_below f n) (fun_ext same)
    ∙ count_all ys n below

module _ (l : Ledger) where
  -- two neighbours may be exchanged,
  pub exchanged : (xs : List ℕ) (y z : ℕ) (zs : List ℕ) → InAnyOrder l (xs ++ y ∷ z ∷ zs) → InAnyOrder l (xs ++ z ∷ y ∷ zs)
  exchanged xs y z zs h = λ a. sym (same_counts a xs y z zs) ∙ h a

  -- of those that rise the one with the lowest account first is the only one,
  pub only_rising : (accounts : List ℕ) → InAnyOrder l accounts → Rising accounts → accounts ≡ waiting_accounts l
  only_rising accounts h rises =
      only_waiting l accounts
      (record {
        only = λ x stands. waits (waits_at l x) (omega (arith, stands_counted x accounts stands, h x));
        all = λ x e. counted_stands x accounts (omega (arith, h x, ap bit e));
        once = rising_once accounts rises;
        rising = rises;
      })
    where
      waits : (b : Bool) → 1 ≤ bit b → b ≡ true
      waits true some = refl
      waits false some = absurd (not-suc-le-zero some)

  -- and the reply is how many slips wait.
  pub any_number : (before : List ℕ) (n : ℕ) (after : List ℕ) → MayList l before (Ok n) after → n ≡ waiting l.entries
  any_number before n after (accounts, h, lists) =
      let many = same_length accounts (waiting_accounts l) (length l.entries) inside (λ a. h a ∙ sym (waiting_once l a)) in
      list_number (list_refusal before) accounts before after n lists ∙ many ∙ waiting_number l
    where
      inside : (a : ℕ) → 1 ≤ count (eqb a) (waiting_accounts l) → a < length l.entries
      inside a some = has_entry l a ((waiting_exactly l).only a (counted_stands a (waiting_accounts l) some))
