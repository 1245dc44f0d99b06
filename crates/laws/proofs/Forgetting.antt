-- What is retained has no part in settling: whatever is retained, the same slips are booked, and the same
-- entries are left but for that.
use Rattle.std.specs.Prelude.{Option, Some, None, option_map}
use Prim.Native.Nat.{ℕ, zero, suc, ◌+◌}
use mathlib.Core.Path.{◌≡◌, refl, ap, sym, ◌∙◌}
use mathlib.Core.List.{List, [], ◌∷◌, map}
use lib.ListN.{length, set, get_or-map, length-map}
use Rattle.laws.specs.Types.{Account, Slot, Entry}
use Rattle.model.specs.Basics.{bit, first_where}
use Rattle.model.specs.Records.{account_of, fresh_entry, with_none_retained, entry_at, set_entry}
use Rattle.model.specs.Settling.{is_waiting, affordable, lowest_affordable, waiting, credited, debited, apply_slot, apply, Settled, one_more, settle_at_most, settle}

-- the entries with nothing retained
abbrev pub forgetting : List Entry → List Entry
forgetting es = map with_none_retained es

pub forgets_entry : (es : List Entry) (a : Account) → entry_at (forgetting es) a ≡ with_none_retained (entry_at es a)
forgets_entry es a = get_or-map with_none_retained es a.0 (fresh_entry 0)

pub forgets_set : (es : List Entry) (a : Account) (e : Entry) → forgetting (set_entry es a e) ≡ set_entry (forgetting es) a (with_none_retained e)
forgets_set es a e = go es a.0
  where
    go : (es : List Entry) (i : ℕ) → map with_none_retained (set es i e) ≡ set (map with_none_retained es) i (with_none_retained e)
    go [] i = refl
    go (x ∷ xs) zero = refl
    go (x ∷ xs) (suc i) = ap (λ (ys : List Entry). with_none_retained x ∷ ys) (go xs i)

lowest_same : (es : List Entry) → lowest_affordable (forgetting es) ≡ lowest_affordable es
unfolding lowest_affordable
lowest_same es =
    (λ i. option_map account_of (first_where (λ a. affordable (forgets_entry es (account_of a) i)) (length (forgetting es)) 0))
    ∙ ap (λ n. option_map account_of (first_where (λ a. affordable (entry_at es (account_of a))) n 0)) (length-map es with_none_retained)

waiting_same : (es : List Entry) → waiting (forgetting es) ≡ waiting es
waiting_same [] = refl
waiting_same (e ∷ es) = ap (λ n. bit (is_waiting e) + n) (waiting_same es)

apply_same : (es : List Entry) (a : Account) → apply (forgetting es) a ≡ forgetting (apply es a)
unfolding apply
apply_same es a = rw (forgets_entry es a) (go (entry_at es a).pending)
  where
    go : (p : Slot) → apply_slot (forgetting es) a p ≡ forgetting (apply_slot es a p)
    go None = refl
    go (Some t) =
        let paid = set_entry es a (debited (entry_at es a) t) in
        rw (forgets_entry es a, ← forgets_set es a (debited (entry_at es a) t), forgets_entry paid t.recipient)
        (sym (forgets_set paid t.recipient (credited (entry_at paid t.recipient) t.value)))

-- settling books the same slips
abbrev pub settled_forgetting : Settled → Settled
settled_forgetting s = record { applied = s.applied; entries = forgetting s.entries }

pub settle_forgets : (es : List Entry) → settle (forgetting es) ≡ settled_forgetting (settle es)
unfolding settle settle_at_most
settle_forgets es = ap (λ n. settle_at_most n (forgetting es)) (waiting_same es) ∙ go (waiting es) es
  where
    go : (n : ℕ) (es : List Entry) → settle_at_most n (forgetting es) ≡ settled_forgetting (settle_at_most n es)
    go zero es = refl
    go (suc n) es = by (lowest_affordable es) refl (λ a. go n (apply es a))
      where
        by : (o : Option Account) → lowest_affordable es ≡ o
            → ((a : Account) → settle_at_most n (forgetting (apply es a)) ≡ settled_forgetting (settle_at_most n (apply es a)))
            → settle_at_most (suc n) (forgetting es) ≡ settled_forgetting (settle_at_most (suc n) es)
        by None e rest = rw (lowest_same es, e, settle_at_most)
        by (Some a) e rest = rw (lowest_same es, e, settle_at_most) (ap one_more (ap (settle_at_most n) (apply_same es a) ∙ rest a))
