-- Laws of the slip that is put forward (`most_acked`): it has the most acks; of the slips that have it is the first by
-- its lowest acknowledging seat, and no other is; where nothing is recorded it is the slip of zeros; and it is told by
-- the recorded acks, seat by seat, alone.
use Rattle.std.specs.Prelude.{Option, Some, None}
use Prim.Native.Nat.{ℕ, zero, suc, ◌≤◌, ◌<◌}
use native.Mathlib.Decide.{dec_le}
use native.Mathlib.Omega.{arith}
use mathlib.Core.Path.{◌≡◌, refl, ap, sym, subst, ◌∙◌}
use mathlib.Core.Logic.{◌⊎◌, inl, inr}
use mathlib.Core.Bool.{Bool, true, false}
use mathlib.Core.List.{List, [], ◌∷◌}
use lib.ListN.{length}
use borrow.Author.Tests.{leb-true, le-leb}
use Rattle.laws.specs.Types.{Transfer, Slot, AckSlot}
use Rattle.model.specs.Basics.{bit, every, first_where}
use Rattle.model.specs.Acks.{ack_at, holds, acks_for, no_more_than, has_most, holds_most, slip_in, slip_of, most_acked}
use Rattle.laws.proofs.Sums.{impossible, every_weaken, first_found, first_none}
use Rattle.laws.proofs.Tallies.{inside, most_sound, most_complete}

-- "the first by its lowest acknowledging seat", among the slips with the most acks
pub record FirstOfMost (acks : List AckSlot) (t : Transfer) : Type 0 where
  pub most : has_most acks t ≡ true
  -- a seat that acked it, and no lower seat acked a slip that has the most, be it this one or another
  pub seat : ℕ
  pub acked : ack_at acks seat ≡ Some t
  pub lowest : (u : Transfer) (s : ℕ) → ack_at acks s ≡ Some u → has_most acks u ≡ true → seat ≤ s

-- no ack is recorded
abbrev pub NoneRecorded : List AckSlot → Type 0
NoneRecorded acks = (s : ℕ) → ack_at acks s ≡ None

-- no slip in these places has more than c of the acks
abbrev AtMost : ℕ → List AckSlot → List AckSlot → Type 0
AtMost c acks places = every (λ a. no_more_than c acks a.slot) places ≡ true

at_most_more : (c d : ℕ) → c ≤ d → (acks places : List AckSlot) → AtMost c acks places → AtMost d acks places
at_most_more c d le acks places =
    every_weaken (λ a. no_more_than c acks a.slot) (λ a. no_more_than d acks a.slot) places (λ a. here a.slot)
  where
    here : (s : Slot) → no_more_than c acks s ≡ true → no_more_than d acks s ≡ true
    here None e = refl
    here (Some u) e = le-leb (acks_for u acks) d (omega (arith, leb-true (acks_for u acks) c e))

at_most_none : (c : ℕ) (acks places : List AckSlot) → NoneRecorded places → AtMost c acks places
at_most_none c acks [] bare = refl
at_most_none c acks (a ∷ rest) bare = rw (bare 0) (at_most_none c acks rest (λ s. bare (suc s)))

-- a place whose slip has no fewer of the acks than any slip in these places
abbrev Best : List AckSlot → List AckSlot → Type 0
Best acks places = (s : ℕ) × (u : Transfer) × (ack_at places s ≡ Some u) × AtMost (acks_for u acks) acks places

-- there is one, where an ack is recorded
best_place : (acks places : List AckSlot) → NoneRecorded places ⊎ Best acks places
best_place acks [] = inl (λ s. refl)
best_place acks (a ∷ rest) = better a.slot refl (best_place acks rest)
  where
    none_more : a.slot ≡ None → NoneRecorded rest → NoneRecorded (a ∷ rest)
    none_more e bare zero = e
    none_more e bare (suc s) = bare s

    better : (p : Slot) → a.slot ≡ p → NoneRecorded rest ⊎ Best acks rest → NoneRecorded (a ∷ rest) ⊎ Best acks (a ∷ rest)
    better None e (inl bare) = inl (none_more e bare)
    better None e (inr (s, u, is, most)) = inr (suc s, u, is, rw e most)
    better (Some v) e (inl bare) =
        inr (0, v, e, rw (e, le-leb (acks_for v acks) (acks_for v acks) (omega arith)) (at_most_none (acks_for v acks) acks rest bare))
    better (Some v) e (inr (s, u, is, most)) = go (dec_le (acks_for v acks) (acks_for u acks))
      where
        go : Dec (acks_for v acks ≤ acks_for u acks) → NoneRecorded (a ∷ rest) ⊎ Best acks (a ∷ rest)
        go (yes le) = inr (suc s, u, is, rw (e, le-leb (acks_for v acks) (acks_for u acks) le) most)
        go (no gt) =
            let all = at_most_more (acks_for u acks) (acks_for v acks) (omega arith) acks rest most in
            inr (0, v, e, rw (e, le-leb (acks_for v acks) (acks_for v acks) (omega arith)) all)

module _ (acks : List AckSlot) where
  -- what is searched for
  abbrev test : ℕ → Bool
  test s = holds_most acks (ack_at acks s)

  -- a seat that passes has acked a slip with the most acks
  holding : (s : ℕ) → test s ≡ true → (t : Transfer) × (ack_at acks s ≡ Some t) × (has_most acks t ≡ true)
  holding s e = go (ack_at acks s) refl e
    where
      go : (p : Slot) → ack_at acks s ≡ p → holds_most acks p ≡ true → (t : Transfer) × (ack_at acks s ≡ Some t) × (has_most acks t ≡ true)
      go None is e = impossible (cc)
      go (Some t) is e = (t, is, e)

  -- the search finds one, where an ack is recorded
  not_none : Best acks acks → first_where test (length acks) 0 ≡ None → ⊥
  unfolding has_most
  not_none (s, u, is, most) e =
      let missed = first_none test (length acks) 0 e s (omega arith) (omega (arith, inside acks s u is)) in
      let passes : test s ≡ true = rw is most in
      impossible (cc)

  -- where an ack is recorded, it is the first of those with the most
  pub first_of_most : (s : ℕ) (u : Transfer) → ack_at acks s ≡ Some u → FirstOfMost acks (most_acked acks)
  unfolding most_acked
  first_of_most s u is = go (first_where test (length acks) 0) refl
    where
      some_best : NoneRecorded acks ⊎ Best acks acks → Best acks acks
      some_best (inl bare) = impossible (cc (bare s, is))
      some_best (inr best) = best

      go : (o : Option ℕ) → first_where test (length acks) 0 ≡ o → FirstOfMost acks (slip_of acks o)
      go None e = absurd (not_none (some_best (best_place acks acks)) e)
      go (Some j) e =
          let found = first_found test (length acks) 0 j e in
          let held = holding j found.passes in
          let first : FirstOfMost acks held.0 = record { most = held.2; seat = j; acked = held.1; lowest = λ v k at most. not_lower v k at most (found.lowest k) } in
          subst (FirstOfMost acks) (sym (ap slip_in held.1)) first
        where
          not_lower : (v : Transfer) (k : ℕ) → ack_at acks k ≡ Some v → has_most acks v ≡ true → (0 ≤ k → k < j → test k ≡ false) → j ≤ k
          not_lower v k at most lower = from (dec_le j k)
            where
              from : Dec (j ≤ k) → j ≤ k
              from (yes le) = le
              from (no gt) = impossible (let z : has_most acks v ≡ false = rw at at (lower (omega arith) (omega arith)) in cc)

  -- and no other slip is it
  pub only_first : (t : Transfer) → FirstOfMost acks t → most_acked acks ≡ t
  only_first t f =
      let g = first_of_most f.seat t f.acked in
      let same : g.seat ≡ f.seat =
      omega (arith, g.lowest t f.seat f.acked f.most, f.lowest (most_acked acks) g.seat g.acked g.most) in
      let slips : Some (most_acked acks) ≡ Some t = sym g.acked ∙ (ap (ack_at acks) same ∙ f.acked) in
      cc

  -- where nothing is recorded it is the slip of zeros
  pub none_recorded : NoneRecorded acks → most_acked acks ≡ slip_in None
  unfolding most_acked
  none_recorded bare = go (first_where test (length acks) 0) refl
    where
      go : (o : Option ℕ) → first_where test (length acks) 0 ≡ o → slip_of acks o ≡ slip_in None
      go None e = refl
      go (Some j) e = ap slip_in (bare j)

  -- it has the most acks, whatever is recorded
  pub most_acked_most : has_most acks (most_acked acks) ≡ true
  unfolding has_most
  most_acked_most = go (best_place acks acks)
    where
      go : NoneRecorded acks ⊎ Best acks acks → has_most acks (most_acked acks) ≡ true
      go (inl bare) = at_most_none (acks_for (most_acked acks) acks) acks acks bare
      go (inr (s, u, is, most)) = (first_of_most s u is).most

-- each slip has as many acks, where each seat's ack is the same
counts_same : (t : Transfer) (acks others : List AckSlot) → ((s : ℕ) → ack_at acks s ≡ ack_at others s) → acks_for t acks ≡ acks_for t others
counts_same t [] [] same = refl
counts_same t [] (b ∷ others) same =
    omega (arith, ap (λ (p : Slot). bit (holds t p)) (same 0), counts_same t [] others (λ s. same (suc s)))
counts_same t (a ∷ acks) [] same =
    omega (arith, ap (λ (p : Slot). bit (holds t p)) (same 0), counts_same t acks [] (λ s. same (suc s)))
counts_same t (a ∷ acks) (b ∷ others) same =
    omega (arith, ap (λ (p : Slot). bit (holds t p)) (same 0), counts_same t acks others (λ s. same (suc s)))

-- so the same slips have the most
most_same : (acks others : List AckSlot) → ((s : ℕ) → ack_at acks s ≡ ack_at others s) → (t : Transfer) → has_most acks t ≡ true → has_most others t ≡ true
most_same acks others same t h =
    most_complete others t (λ v. omega (arith, counts_same v acks others same, counts_same t acks others same, most_sound acks t h v))

-- and the slip that is put forward is told by each seat's ack, in whatever order they came
pub same_acks : (acks others : List AckSlot) → ((s : ℕ) → ack_at acks s ≡ ack_at others s) → most_acked acks ≡ most_acked others
same_acks acks others same = go (best_place acks acks)
  where
    go : NoneRecorded acks ⊎ Best acks acks → most_acked acks ≡ most_acked others
    go (inl bare) = none_recorded acks bare ∙ sym (none_recorded others (λ s. sym (same s) ∙ bare s))
    go (inr (s, u, is, best)) =
        let f = first_of_most acks s u is in
        sym
        (only_first others (most_acked acks)
        (record {
          most = most_same acks others same (most_acked acks) f.most;
          seat = f.seat;
          acked = sym (same f.seat) ∙ f.acked;
          lowest = λ v k at h. f.lowest v k (same k ∙ at) (most_same others acks (λ s. sym (same s)) v h);
        }))
