-- The partner of an entry of the first bundle, found by the second's keys, and the earliest pair.
use Rattle.std.specs.Prelude.{Some, None, is_some}
use Prim.Native.Nat.{ℕ, ◌≤◌, ◌<◌}
use native.Mathlib.Omega.{arith}
use mathlib.Core.Path.{◌≡◌, refl, ap, sym, ◌∙◌}
use mathlib.Core.Bool.{Bool, true, false, ◌&&◌, and-false}
use mathlib.Core.List.{List}
use lib.Dec.{ltb, eqb}
use borrow.Author.Tests.{lt-ltb, le-ltb, eq-eqb, ne_eqb}
use Rattle.model.specs.declared.Transfer.{Transfer}
use Rattle.model.specs.declared.ContentsEntry.{ContentsEntry}
use Rattle.model.specs.Basics.{first_where}
use Rattle.model.specs.Bundles.{entry_count, contents_at, Page, page_of, page_at, transfer_of}
use Rattle.model.specs.Transfers.{conflict}
use Rattle.model.specs.Writing.{Bytes}
use Rattle.model.specs.Joins.{is_ack, slip_on, conflicting_acks, seats_of, is_pair, partner_of, with_partner, earliest_pair}
use Rattle.laws.proofs.Sums.{impossible, same_found, none_passes}
use Rattle.pairs.specs.declared.keys.Key.{Key}
use Rattle.pairs.specs.Keys.{key_of, Keys, meets}
use Rattle.pairs.proofs.Keying.{page_small, tells}
use Rattle.pairs.proofs.Linking.{from_start, lowest_is, no_lowest}

-- a page that is no ack, or of a seat that there is not, is in no pair
unpaired : (n : ℕ) (p q : Page) → (is_ack p && ltb p.seat n) ≡ false → conflicting_acks n p q ≡ false
unpaired n p q e = go (is_ack p) (is_ack q) (eqb p.seat q.seat) (ltb p.seat n) (conflict (slip_on p) (slip_on q)) e
  where
    go : (a b s l x : Bool) → (a && l) ≡ false → (a && b && s && l && x) ≡ false
    go true b s false x h = rw (and-false (b && s)) refl
    go true b s true x h = impossible (cc)
    go false b s l x h = refl

module _ (first second : List ℕ) (i : ℕ) where
  no_partner : (is_ack (page_at first i) && ltb (page_at first i).seat (seats_of first)) ≡ false → partner_of first second i ≡ None
  unfolding partner_of is_pair
  no_partner e =
      same_found _ (λ k. false) (entry_count second) 0 (λ k from below. unpaired (seats_of first) (page_at first i) (page_at second k) e)
      ∙ none_passes (entry_count second) 0

  -- an ack's partner is the first that has its head and another tail
  module _ (keys : List Key) (small : Bytes first) (held : Keys second keys)
      (ack : is_ack (page_at first i) ≡ true) (below : ltb (page_at first i).seat (seats_of first) ≡ true) where
    by_key : first_where (meets keys (key_of (page_at first i).seat (slip_on (page_at first i)))) (entry_count second) 0 ≡ partner_of first second i
    unfolding partner_of is_pair
    by_key =
        same_found _ _ (entry_count second) 0
        (λ k from inside.
        rw (held.each k (omega arith))
        (tells (seats_of first) (page_at first i) (page_at second k) (page_small first small i) (page_small second held.small k) ack below))

  -- .. by the entry that is read
  module _ (c : ContentsEntry) (entry : c ≡ contents_at first i) where
    kind_is : (contents_at first i).kind ≡ c.kind
    kind_is = ap (λ (e : ContentsEntry). e.kind) (sym entry)

    seat_is : (contents_at first i).seat ≡ c.seat
    seat_is = ap (λ (e : ContentsEntry). e.seat) (sym entry)

    pub not_ack : (c.kind ≡ 3 → ⊥) → partner_of first second i ≡ None
    not_ack h = no_partner (rw (ne_eqb (contents_at first i).kind 3 (λ e. h (sym kind_is ∙ e))) refl)

    pub not_seat : seats_of first ≤ c.seat → partner_of first second i ≡ None
    not_seat h = no_partner (rw (le-ltb (contents_at first i).seat (seats_of first) (omega (arith, h, seat_is))) (and-false (is_ack (page_at first i))))

    pub partner_found : (keys : List Key) → Bytes first → Keys second keys → c.kind ≡ 3 → c.seat < seats_of first
        → {body : List ℕ} {t : Transfer} {key : Key} → body ≡ (page_of first c).body → t ≡ transfer_of body → key ≡ key_of c.seat t
        → first_where (meets keys key) (entry_count second) 0 ≡ partner_of first second i
    partner_found keys small held ack below shown slip is =
        rw (is, slip, shown, entry)
        (by_key keys small held (eq-eqb (contents_at first i).kind 3 (kind_is ∙ ack)) (lt-ltb (contents_at first i).seat (seats_of first) (omega (arith, below, seat_is))))

  -- the earliest pair, where entry i is the first that has a partner
  pub pair_at : {j : ℕ} → i < entry_count first → ((k : ℕ) → k < i → partner_of first second k ≡ None) → partner_of first second i ≡ Some j
      → earliest_pair first second ≡ Some (i, j)
  unfolding earliest_pair
  pair_at inside before is =
      let found = sym (from_start (λ k. is_some (partner_of first second k)) (entry_count first))
      ∙ lowest_is (λ k. is_some (partner_of first second k)) (entry_count first) 0 i (omega arith) inside (rw is refl) (λ k from to. rw (before k to) refl) in
      ap (with_partner first second) found ∙ rw (with_partner, is) refl

-- and where there is none
pub none_at : (first second : List ℕ) → ((k : ℕ) → k < entry_count first → partner_of first second k ≡ None) → earliest_pair first second ≡ None
unfolding earliest_pair
none_at first second none_before =
    ap (with_partner first second)
    (sym (from_start (λ k. is_some (partner_of first second k)) (entry_count first))
    ∙ no_lowest (λ k. is_some (partner_of first second k)) (entry_count first) 0 (omega arith) (λ k from inside. rw (none_before k inside) refl))
