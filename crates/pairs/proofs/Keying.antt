-- That keys tell pairs: the heads of two acks are equal exactly if seat, account and number are, and then their tails
-- exactly if the slips are.
use Prim.Native.Nat.{ℕ, ◌+◌, ◌*◌, ◌<◌}
use native.Mathlib.Omega.{arith}
use mathlib.Core.Path.{◌≡◌, refl, ap, sym}
use mathlib.Core.Bool.{Bool, true, false, not, ◌&&◌}
use mathlib.Core.List.{List}
use lib.Dec.{ltb, eqb}
use lib.ListN.{drop}
use borrow.Author.Tests.{ltb-true, eqb-true, eqb-false, not-true, eq-eqb, ne_eqb}
use Rattle.std.proofs.lemmas.Bool.{and_parts}
use Rattle.model.specs.declared.Account.{Account}
use Rattle.model.specs.declared.Transfer.{Transfer}
use Rattle.model.specs.Bundles.{body_length, contents_at, Page, page_at}
use Rattle.model.specs.Writing.{Bytes}
use Rattle.model.specs.Joins.{is_ack, slip_on, conflicting_acks}
use Rattle.laws.proofs.Sums.{same_test}
use Rattle.laws.proofs.Access.{same_account_lem}
use Rattle.laws.proofs.Joins.{acks_sound, acks_complete}
use Rattle.laws.proofs.Numbers.{number_small, taken_bytes, dropped_bytes}
use Rattle.pairs.specs.Keys.{head_of, tail_of, no_head, page_head, page_tail}

-- the numbers of a page that is read from bytes are small
pub record Small (p : Page) : Type 0 where
  pub seat : p.seat < 256
  pub account : (slip_on p).account.0 < 256
  pub number : (slip_on p).number < 4_294_967_296
  pub value : (slip_on p).value < 4_294_967_296

pub page_small : (bytes : List ℕ) → Bytes bytes → (i : ℕ) → Small (page_at bytes i)
page_small bytes small i =
    let start = (contents_at bytes i).start in
    let held : Bytes (page_at bytes i).body = taken_bytes (drop start bytes) (body_length (contents_at bytes i).kind) (dropped_bytes bytes start small) in
    record {
      seat = small (3 + 8 * i);
      account = held 0;
      number = number_small 4 (page_at bytes i).body 1 held;
      value = number_small 4 (page_at bytes i).body 5 held;
    }

-- transfers with the same numbers are the same
same_transfer : (t u : Transfer) → t.account ≡ u.account → t.number ≡ u.number → t.value ≡ u.value → t.recipient.0 ≡ u.recipient.0 → t ≡ u
same_transfer t u account number value recipient =
    λ i. record { account = account i; number = number i; value = value i; recipient = record { 0 = recipient i } }

-- with equal heads two acks have one seat, account and number
heads_same : (s z : ℕ) (t u : Transfer) → s < 256 → z < 256 → t.account.0 < 256 → u.account.0 < 256 → head_of z u ≡ head_of s t
    → (s ≡ z) × (t.account.0 ≡ u.account.0) × (t.number ≡ u.number)
heads_same s z t u ss zs ts us e = (omega arith, omega arith, omega arith)

-- with equal tails the slips have one value and recipient
tails_same : (t u : Transfer) → t.value < 4_294_967_296 → u.value < 4_294_967_296 → tail_of u ≡ tail_of t
    → (t.value ≡ u.value) × (t.recipient.0 ≡ u.recipient.0)
tails_same t u ts us e = (omega arith, omega arith)

module _ (n : ℕ) (p q : Page) (small : Small p) (too : Small q) (ack : is_ack p ≡ true) (below : ltb p.seat n ≡ true) where
  -- the page q, told by its keys to make a pair with the ack p
  abbrev told : Bool
  told = eqb (page_head q) (head_of p.seat (slip_on p)) && not (eqb (page_tail q) (tail_of (slip_on p)))

  -- .. is an ack, since a page that is none has no ack's head
  told_ack : page_head q ≡ head_of p.seat (slip_on p) → (b : Bool) → is_ack q ≡ b → b ≡ true
  told_ack same true is = refl
  told_ack same false is =
      let none : no_head ≡ head_of p.seat (slip_on p) = rw is at same in
      absurd (omega (arith, none, small.seat, small.account, small.number))

  -- .. of the same seat, and the slips conflict
  told_pair : told ≡ true → conflicting_acks n p q ≡ true
  told_pair e =
      let parts = and_parts (eqb (page_head q) (head_of p.seat (slip_on p))) (not (eqb (page_tail q) (tail_of (slip_on p)))) e in
      let heads = eqb-true (page_head q) (head_of p.seat (slip_on p)) parts.0 in
      let is : is_ack q ≡ true = told_ack heads (is_ack q) refl in
      let three = heads_same p.seat q.seat (slip_on p) (slip_on q) small.seat too.seat small.account too.account (rw is at heads) in
      let apart = eqb-false (page_tail q) (tail_of (slip_on p)) (not-true (eqb (page_tail q) (tail_of (slip_on p))) parts.1) in
      acks_complete n p q
      (record {
        p_ack = ack;
        q_ack = is;
        seats = three.0;
        known = ltb-true p.seat n below;
        against = record {
          account = same_account_lem (slip_on p).account (slip_on q).account three.1;
          number = three.2;
          differ = λ same. apart (ap tail_of (sym same));
        };
      })

  -- and every such page is told
  pair_told : conflicting_acks n p q ≡ true → told ≡ true
  pair_told e =
      let two = acks_sound n p q e in
      let against = two.against in
      let accounts = ap (λ (a : Account). a.0) against.account in
      let heads : page_head q ≡ head_of p.seat (slip_on p) = rw two.q_ack (omega (arith, two.seats, accounts, against.number)) in
      let apart : page_tail q ≡ tail_of (slip_on p) → ⊥ = λ tails.
      let rest = tails_same (slip_on p) (slip_on q) small.value too.value tails in
      against.differ (same_transfer (slip_on p) (slip_on q) against.account against.number rest.0 rest.1) in
      rw (eq-eqb (page_head q) (head_of p.seat (slip_on p)) heads, ne_eqb (page_tail q) (tail_of (slip_on p)) apart) refl

  pub tells : told ≡ conflicting_acks n p q
  tells = same_test told (conflicting_acks n p q) told_pair pair_told
