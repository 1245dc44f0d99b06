-- What the join finds: the statements are in JoinClaims.antt of specs/.
use Rattle.std.proofs.lemmas.Bool.{and_parts}
use Rattle.std.proofs.lemmas.Option.{same_Some}
use Rattle.model.specs.declared.FoundPair.{FoundPair}
use Rattle.model.specs.Types.{join_refused, found_pair, no_pair}
use Prim.Native.Nat.{ℕ, ◌<◌}
use native.Mathlib.Omega.{arith}
use mathlib.Core.Path.{◌≡◌, refl, ap, sym, ◌∙◌}
use mathlib.Core.Logic.{◌⊎◌, inl, inr}
use mathlib.Core.Bool.{Bool, true, false, ◌&&◌}
use mathlib.Core.List.{List}
use Rattle.std.specs.Prelude.{Option, Some, None, is_some, Ok, Err}
use lib.Dec.{ltb, eqb}
use borrow.Author.Tests.{ltb-true, lt-ltb, eqb-true, eq-eqb}
use Rattle.laws.specs.Types.{Seat, Transfer, Refusal, Which, First, Second, Neither, Evidence}
use Rattle.model.specs.Basics.{same}
use Rattle.model.specs.Records.{seat_of}
use Rattle.model.specs.Bundles.{entry_count, Page, page_at, unless_fault, faults, opening_of, transfer_of}
use Rattle.model.specs.Transfers.{equal, conflict}
use Rattle.model.specs.Joins.{seats_of, is_ack, seat_on, slip_on, conflicting_acks, is_pair, Pair, partner_of, earliest, with_partner, earliest_pair, shown_by, answer_of, page_faults, evidence, shown_body}
use Rattle.laws.specs.JoinClaims.{Before, Without, FindsOne, Finds, FoundRight, NotRefused, NoneExactly}
use Rattle.laws.proofs.Sums.{impossible, Found, first_found, first_none, same_sound, same_refl}
use Rattle.laws.proofs.Faults.{faultless, passes, stands}
use Rattle.laws.proofs.Equality.{equal_sound, equal_refl, Conflict, conflict_sound, conflict_complete}

module _ (first second : List ℕ) where
  -- what no check refuses
  record Unrefused : Type 0 where
    first_passes : faultless (faults first) ≡ true
    second_passes : faultless (faults second) ≡ true
    pages_same : (page_at first 0).body ≡ (page_at second 0).body

  -- 21 is not met exactly where the pages are the same
  pages_pass : (b : Bool) → same (page_at first 0).body (page_at second 0).body ≡ b → faultless (page_faults first second) ≡ true
      → (page_at first 0).body ≡ (page_at second 0).body
  pages_pass true is h = same_sound (page_at first 0).body (page_at second 0).body is
  pages_pass false is h = impossible (cc (rw is at h))

  -- the join is refused, or no check refuses it and the answer is that of the earliest pair
  answered : (ruled : Transfer)
      → (Unrefused × (evidence first second ruled ≡ answer_of first ruled (earliest_pair first second)))
      ⊎ ((r : Refusal) × (of : Which) × (i : ℕ) × (evidence first second ruled ≡ join_refused r of i))
  unfolding evidence
  answered ruled = go (stands of_first second_part (faults first)) (stands of_second third_part (faults second)) (stands of_neither last (page_faults first second))
    where
      of_first : Refusal → ℕ → Evidence
      of_first r i = join_refused r First i

      of_second : Refusal → ℕ → Evidence
      of_second r i = join_refused r Second i

      of_neither : Refusal → ℕ → Evidence
      of_neither r i = join_refused r Neither i

      last : Evidence
      last = answer_of first ruled (earliest_pair first second)

      third_part : Evidence
      third_part = unless_fault of_neither last (page_faults first second)

      second_part : Evidence
      second_part = unless_fault of_second third_part (faults second)

      Refused : Type 0
      Refused = (r : Refusal) × (of : Which) × (i : ℕ) × (unless_fault of_first second_part (faults first) ≡ join_refused r of i)

      go : (faultless (faults first) ≡ true) ⊎ ((r : Refusal) × (i : ℕ) × (unless_fault of_first second_part (faults first) ≡ of_first r i))
          → (faultless (faults second) ≡ true) ⊎ ((r : Refusal) × (i : ℕ) × (unless_fault of_second third_part (faults second) ≡ of_second r i))
          → (faultless (page_faults first second) ≡ true) ⊎ ((r : Refusal) × (i : ℕ) × (unless_fault of_neither last (page_faults first second) ≡ of_neither r i))
          → (Unrefused × (unless_fault of_first second_part (faults first) ≡ last)) ⊎ Refused
      go (inr (r, i, is)) b c = inr (r, First, i, is)
      go (inl a) (inr (r, i, is)) c = inr (r, Second, i, passes of_first second_part (faults first) a ∙ is)
      go (inl a) (inl b) (inr (r, i, is)) = inr (r, Neither, i, passes of_first second_part (faults first) a ∙ (passes of_second third_part (faults second) b ∙ is))
      go (inl a) (inl b) (inl c) =
          inl (
            record { first_passes = a; second_passes = b; pages_same = pages_pass (same (page_at first 0).body (page_at second 0).body) refl c },
            passes of_first second_part (faults first) a ∙ (passes of_second third_part (faults second) b ∙ passes of_neither last (page_faults first second) c),
          )

  pages_clean : (page_at first 0).body ≡ (page_at second 0).body → faultless (page_faults first second) ≡ true
  pages_clean e = rw (e, same_refl (page_at second 0).body) refl

  -- where no check refuses, it is that
  clean : (ruled : Transfer) → Unrefused → evidence first second ruled ≡ answer_of first ruled (earliest_pair first second)
  unfolding evidence
  clean ruled sound =
      passes (λ r i. join_refused r First i) _ (faults first) sound.first_passes
      ∙ (passes (λ r i. join_refused r Second i) _ (faults second) sound.second_passes
      ∙ passes (λ r i. join_refused r Neither i) _ (page_faults first second) (pages_clean sound.pages_same))

-- two pages that are acks of one seat, below n, with slips that conflict
pub record Acks (n : ℕ) (p q : Page) : Type 0 where
  pub p_ack : is_ack p ≡ true
  pub q_ack : is_ack q ≡ true
  pub seats : p.seat ≡ q.seat
  pub known : p.seat < n
  pub against : Conflict (slip_on p) (slip_on q)

pub acks_sound : (n : ℕ) (p q : Page) → conflicting_acks n p q ≡ true → Acks n p q
acks_sound n p q e =
    let five = and_parts (is_ack p && is_ack q && eqb p.seat q.seat && ltb p.seat n) (conflict (slip_on p) (slip_on q)) e in
    let four = and_parts (is_ack p && is_ack q && eqb p.seat q.seat) (ltb p.seat n) five.0 in
    let three = and_parts (is_ack p && is_ack q) (eqb p.seat q.seat) four.0 in
    let two = and_parts (is_ack p) (is_ack q) three.0 in
    record {
      p_ack = two.0;
      q_ack = two.1;
      seats = eqb-true p.seat q.seat three.1;
      known = ltb-true p.seat n four.1;
      against = conflict_sound (slip_on p) (slip_on q) five.1;
    }

pub acks_complete : (n : ℕ) (p q : Page) → Acks n p q → conflicting_acks n p q ≡ true
acks_complete n p q a =
    rw (
      a.p_ack,
      a.q_ack,
      eq-eqb p.seat q.seat a.seats,
      lt-ltb p.seat n a.known,
      conflict_complete (slip_on p) (slip_on q) a.against,
    )
    refl

-- .. are so the other way round
acks_turned : (n : ℕ) (p q : Page) → Acks n p q → Acks n q p
acks_turned n p q a =
    record {
      p_ack = a.q_ack;
      q_ack = a.p_ack;
      seats = sym a.seats;
      known = omega (arith, a.known, a.seats);
      against = record { account = sym a.against.account; number = sym a.against.number; differ = λ same. a.against.differ (sym same) };
    }

module _ (first second : List ℕ) where
  pub pair_acks : {i j : ℕ} → Pair first second i j → Acks (seats_of first) (page_at first i) (page_at second j)
  unfolding is_pair
  pair_acks {i} {j} pair = acks_sound (seats_of first) (page_at first i) (page_at second j) pair.is

  -- whoever is in a pair has a partner
  has_partner : (i j : ℕ) → Pair first second i j → is_some (partner_of first second i) ≡ true
  unfolding partner_of
  has_partner i j pair = go (partner_of first second i) refl
    where
      go : (o : Option ℕ) → partner_of first second i ≡ o → is_some o ≡ true
      go None e = impossible (let none_here = first_none (is_pair first second i) (entry_count second) 0 e j (omega arith) (omega (arith, pair.in_second)) in cc (none_here, pair.is))
      go (Some k) e = refl

  -- the pair that is found is one, and none comes before it
  record Earliest (i j : ℕ) : Type 0 where
    pair : Pair first second i j
    none_before : (k l : ℕ) → Pair first second k l → Before k l i j → ⊥

  module _ (i j : ℕ) (here : earliest first second ≡ Some i) (there : partner_of first second i ≡ Some j) where
    outer : Found (λ k. is_some (partner_of first second k)) (entry_count first) 0 i
    outer = first_found (λ k. is_some (partner_of first second k)) (entry_count first) 0 i here

    inner : Found (is_pair first second i) (entry_count second) 0 j
    unfolding partner_of
    inner = first_found (is_pair first second i) (entry_count second) 0 j there

    none_sooner : (k l : ℕ) → Pair first second k l → Before k l i j → ⊥
    none_sooner k l pair (inl lower) =
        impossible (let none_there = outer.lowest k (omega arith) lower in cc (none_there, has_partner k l pair))
    none_sooner k l pair (inr (same, lower)) =
        impossible
        (let none_there = inner.lowest l (omega arith) lower in
        let this : is_pair first second i l ≡ true = rw same at pair.is in cc (none_there, this))

    earliest_is : Earliest i j
    earliest_is =
        record {
          pair = record { in_first = omega (arith, outer.below); in_second = omega (arith, inner.below); is = inner.passes };
          none_before = none_sooner;
        }

  pair_found : (i j : ℕ) → earliest_pair first second ≡ Some (i, j) → Earliest i j
  unfolding earliest_pair
  pair_found i j e = go (earliest first second) refl e
    where
      inside : (a : ℕ) → earliest first second ≡ Some a → (o : Option ℕ) → partner_of first second a ≡ o
          → with_partner first second (Some a) ≡ Some (i, j) → Earliest i j
      inside a here None there h = impossible (let this : ◌≡◌ {A = Option (ℕ × ℕ)} None (Some (i, j)) = rw (with_partner, there) at h in cc)
      inside a here (Some b) there h =
          let this : ◌≡◌ {A = Option (ℕ × ℕ)} (Some (a, b)) (Some (i, j)) = rw (with_partner, there) at h in
          let pairs = same_Some (a, b) (i, j) this in
          let one : a ≡ i = ap (λ (p : ℕ × ℕ). p.0) pairs in
          let two : b ≡ j = ap (λ (p : ℕ × ℕ). p.1) pairs in
          rw (← one, ← two) (earliest_is a b here there)

      go : (o : Option ℕ) → earliest first second ≡ o → with_partner first second o ≡ Some (i, j) → Earliest i j
      go None here h = impossible (cc)
      go (Some a) here h = inside a here (partner_of first second a) refl h

  -- and where none is found, there is none
  none_found : earliest_pair first second ≡ None → Without first second
  unfolding earliest_pair
  none_found e i j pair = go (earliest first second) refl e
    where
      inside : (a : ℕ) → earliest first second ≡ Some a → (o : Option ℕ) → partner_of first second a ≡ o
          → with_partner first second (Some a) ≡ None → ⊥
      inside a here None there h =
          impossible (let found = (first_found (λ k. is_some (partner_of first second k)) (entry_count first) 0 a here).passes in cc (found, there))
      inside a here (Some b) there h = impossible (let this : ◌≡◌ {A = Option (ℕ × ℕ)} (Some (a, b)) None = rw (with_partner, there) at h in cc)

      go : (o : Option ℕ) → earliest first second ≡ o → with_partner first second o ≡ None → ⊥
      go None here h =
          impossible
          (let none_there = first_none (λ k. is_some (partner_of first second k)) (entry_count first) 0 here i (omega arith) (omega (arith, pair.in_first)) in
          cc (none_there, has_partner i j pair))
      go (Some a) here h = inside a here (partner_of first second a) refl h

-- a pair the other way round
turned_pair : (first second : List ℕ) (i j : ℕ) → (page_at first 0).body ≡ (page_at second 0).body → Pair first second i j → Pair second first j i
unfolding is_pair
turned_pair first second i j same pair =
    let n : seats_of first ≡ seats_of second = ap (λ (b : List ℕ). (opening_of b).seats) same in
    record {
      in_first = pair.in_second;
      in_second = pair.in_first;
      is = rw (← n) (acks_complete (seats_of first) (page_at second j) (page_at first i) (acks_turned (seats_of first) (page_at first i) (page_at second j) (pair_acks first second pair)));
    }

-- the pair in an answer, if there is one
abbrev pair_in : Evidence → Option FoundPair
pair_in (Ok o) = o
pair_in (Err e) = None

-- an answer that was found is the one of the earliest pair
answer_pair : (first : List ℕ) (ruled : Transfer) (o : Option (ℕ × ℕ)) {seat : Seat} {i j : ℕ} {shown : Which} → answer_of first ruled o ≡ found_pair seat i j shown
    → (o ≡ Some (i, j)) × (seat ≡ seat_on (page_at first i)) × (shown ≡ shown_by ruled (slip_on (page_at first i)))
answer_pair first ruled None h = impossible (cc)
answer_pair first ruled (Some (a, b)) {seat} {i} {j} {shown} h =
    let same = same_Some _ _ (ap pair_in h) in
    let one : a ≡ i = ap (λ (p : FoundPair). p.first) same in
    let two : b ≡ j = ap (λ (p : FoundPair). p.second) same in
    let three : seat_on (page_at first a) ≡ seat = ap (λ (p : FoundPair). p.seat) same in
    let four : shown_by ruled (slip_on (page_at first a)) ≡ shown = ap (λ (p : FoundPair). p.shown) same in
    (rw (one, two) refl, sym (rw one at three), sym (rw one at four))

-- the slip that is shown is not the ruled one
not_ruled : (first second : List ℕ) (ruled : Transfer) (seat : Seat) (i j : ℕ) → Conflict (slip_on (page_at first i)) (slip_on (page_at second j))
    → (b : Bool) → equal (slip_on (page_at first i)) ruled ≡ b
    → transfer_of (shown_body first second (found_pair seat i j (shown_by ruled (slip_on (page_at first i))))) ≡ ruled → ⊥
not_ruled first second ruled seat i j against true is h =
    let this : slip_on (page_at second j) ≡ ruled = rw is at h in
    against.differ (equal_sound (slip_on (page_at first i)) ruled is ∙ sym this)
not_ruled first second ruled seat i j against false is h =
    let this : slip_on (page_at first i) ≡ ruled = rw is at h in
    impossible (cc (is, this, equal_refl ruled))

-- of two bundles that no check refuses, and with a pair, one is found
finds_one : (first second : List ℕ) (ruled : Transfer) → Unrefused first second → {i j : ℕ} → Pair first second i j → FindsOne first second ruled
finds_one first second ruled sound {i} {j} pair = go (earliest_pair first second) refl (clean first second ruled sound)
  where
    go : (o : Option (ℕ × ℕ)) → earliest_pair first second ≡ o → evidence first second ruled ≡ answer_of first ruled o → FindsOne first second ruled
    go None e is = absurd (none_found first second e i j pair)
    go (Some (a, b)) e is = (seat_on (page_at first a), a, b, shown_by ruled (slip_on (page_at first a)), is)

pub found_right : FoundRight
found_right first second ruled seat i j shown is = go (answered first second ruled)
  where
    shown_apart : shown ≡ shown_by ruled (slip_on (page_at first i)) → Conflict (slip_on (page_at first i)) (slip_on (page_at second j))
        → transfer_of (shown_body first second (found_pair seat i j shown)) ≡ ruled → ⊥
    shown_apart by against = rw by (not_ruled first second ruled seat i j against (equal (slip_on (page_at first i)) ruled) refl)

    finds : Unrefused first second → evidence first second ruled ≡ answer_of first ruled (earliest_pair first second) → Finds first second ruled seat i j shown
    finds sound answer =
        let three = answer_pair first ruled (earliest_pair first second) (sym answer ∙ is) in
        let found = pair_found first second i j three.0 in
        let acks = pair_acks first second found.pair in
        record {
          pair = found.pair;
          first_of_all = found.none_before;
          in_first = three.1;
          in_second = three.1 ∙ ap seat_of acks.seats;
          below = rw three.1 acks.known;
          not_ruled = shown_apart three.2 acks.against;
          turned = λ other.
              finds_one second first other
              (record { first_passes = sound.second_passes; second_passes = sound.first_passes; pages_same = sym sound.pages_same })
              (turned_pair first second i j sound.pages_same found.pair);
        }

    go : (Unrefused first second × (evidence first second ruled ≡ answer_of first ruled (earliest_pair first second)))
        ⊎ ((r : Refusal) × (of : Which) × (k : ℕ) × (evidence first second ruled ≡ join_refused r of k))
        → Finds first second ruled seat i j shown
    go (inl (sound, answer)) = finds sound answer
    go (inr (r, of, k, refused)) = impossible (let other : join_refused r of k ≡ found_pair seat i j shown = sym refused ∙ is in cc)

-- what is said of the earliest pair where there is none
none_answer : (first : List ℕ) (ruled : Transfer) (o : Option (ℕ × ℕ)) → answer_of first ruled o ≡ no_pair → o ≡ None
none_answer first ruled None h = refl
none_answer first ruled (Some (a, b)) h = impossible (cc)

pub none_exactly : NoneExactly
none_exactly first second ruled = go (answered first second ruled)
  where
    no_answer : Without first second → (o : Option (ℕ × ℕ)) → earliest_pair first second ≡ o → answer_of first ruled o ≡ no_pair
    no_answer without None e = refl
    no_answer without (Some (a, b)) e = absurd (without a b (pair_found first second a b e).pair)

    go : (Unrefused first second × (evidence first second ruled ≡ answer_of first ruled (earliest_pair first second)))
        ⊎ ((r : Refusal) × (of : Which) × (k : ℕ) × (evidence first second ruled ≡ join_refused r of k))
        → (evidence first second ruled ≡ no_pair → Without first second)
        × (NotRefused first second ruled → Without first second → evidence first second ruled ≡ no_pair)
    go (inl (sound, answer)) = (
      λ none_told. none_found first second (none_answer first ruled (earliest_pair first second) (sym answer ∙ none_told)),
      λ not_refused without. answer ∙ no_answer without (earliest_pair first second) refl,
    )
    go (inr (r, of, k, refused)) = (
      λ none_told. impossible (let other : join_refused r of k ≡ no_pair = sym refused ∙ none_told in cc),
      λ not_refused without. absurd (not_refused r of k refused),
    )
