-- A text is read in one way: the statement is `OneReading` in specs/Texts.antt. What is written can be read back, so
-- what is written alike is the same: numbers, then lines, then replies and rows.
use Prim.Native.Nat.{ℕ, zero, suc, ◌+◌, ◌*◌, ◌-◌, ◌/◌, ◌%◌, ◌<◌, ◌≤◌}
use native.Mathlib.Omega.{arith}
use mathlib.Core.Path.{◌≡◌, refl, ap, sym, ◌∙◌}
use mathlib.Core.Bool.{Bool, true, false, cond, ◌&&◌}
use mathlib.Core.List.{List, [], ◌∷◌, ◌++◌, map, append_assoc, append_cancel_left}
use lib.Dec.{leb, ltb, eqb}
use lib.ListN.{get_or}
use borrow.Author.Tests.{ltb-true, ltb-false, lt-ltb, le-leb}
use Rattle.model.specs.declared.Refusal.TheVariants.{BadGroup, BadAccounts, SumTooLarge, UnknownSeat, OutOfRange, PastNumber, FutureNumber, AlreadyAccepted, AckRepeated, AckConflicting, InsufficientFunds, AlreadyAcked, BadHeader, BadContents, BadEnd, BadSum, ShortBuffer, TooManyMessages, NoRoom, SelfPayment, PagesDiffer}
use Rattle.model.specs.Records.{account_of}
use Rattle.model.specs.Replies.{code_of, letter_of, values_of}
use Rattle.laws.proofs.Sums.{impossible}
use Rattle.laws.specs.Types.{Refusal, Reply, Circulate, Acknowledge, Accept, Propose, Note, Balance, Refuse}
use Rattle.text.specs.Lines.{digit, decimal, carried, lettered, reply_line}
use Rattle.text.proofs.Decimals.{one_digit, more_digits}
use Rattle.replay.specs.Text.{Row, row_lines}
use Rattle.conformance.specs.Texts.{Exchange, reply_lines, OneReading}
use Rattle.conformance.proofs.EntryRuns.{first_line}

-- Numbers. A digit is a byte from 48 to 57.
abbrev is_digit : ℕ → Bool
is_digit c = leb 48 c && ltb c 58

-- what a text's first digits make of n, of which they are further digits; and the text behind them
abbrev read_on : ℕ → List ℕ → ℕ × List ℕ
read_on n [] = (n, [])
read_on n (c ∷ s) = cond (is_digit c) (read_on (10 * n + (c - 48)) s) (n, c ∷ s)

-- one digit more
read_digit : (n d : ℕ) (s : List ℕ) → d < 10 → read_on n (digit d ∷ s) ≡ read_on (10 * n + d) s
read_digit n d s small =
    let value : 10 * n + (digit d - 48) ≡ 10 * n + d = omega arith in
    rw (le-leb 48 (digit d) (omega arith), lt-ltb (digit d) 58 (omega arith), value)

-- the digits of a number are read as it
read_decimal : (most n : ℕ) (s : List ℕ) → n < most → read_on 0 (decimal n ++ s) ≡ read_on n s
read_decimal zero n s enough = absurd (omega arith)
read_decimal (suc most) n s enough = go (ltb n 10) refl (λ large. read_decimal most (n / 10) last (omega arith))
  where
    last : List ℕ
    last = digit (n % 10) ∷ s

    go : (one : Bool) → ltb n 10 ≡ one → (10 ≤ n → read_on 0 (decimal (n / 10) ++ last) ≡ read_on (n / 10) last)
        → read_on 0 (decimal n ++ s) ≡ read_on n s
    go true small tenth =
        let value : 10 * 0 + n ≡ n = omega arith in
        rw (one_digit n (ltb-true n 10 small)) (rw value at (read_digit 0 n s (ltb-true n 10 small)))
    go false large tenth =
        let value : 10 * (n / 10) + n % 10 ≡ n = omega arith in
        rw (more_digits n (ltb-false n 10 large), append_assoc)
        (tenth (ltb-false n 10 large) ∙ rw value at (read_digit (n / 10) (n % 10) s (omega arith)))

-- a text that does not begin with a digit
abbrev Stops : List ℕ → Type 0
Stops [] = Unit {0}
Stops (c ∷ s) = is_digit c ≡ false

-- a number is read back, and so is what stands behind it
read_number : (n : ℕ) (s : List ℕ) → Stops s → read_on 0 (decimal n ++ s) ≡ (n, s)
read_number n s stops = read_decimal (suc n) n s (omega arith) ∙ ends s stops
  where
    ends : (s : List ℕ) → Stops s → read_on n s ≡ (n, s)
    ends [] stops = refl
    ends (c ∷ s) stops = rw stops

-- so numbers that are written alike are the same
number_same : (n m : ℕ) (s t : List ℕ) → Stops s → Stops t → decimal n ++ s ≡ decimal m ++ t → (n ≡ m) × (s ≡ t)
number_same n m s t first second h =
    let read = sym (read_number n s first) ∙ (ap (read_on 0) h ∙ read_number m t second) in
    (ap (λ both. both.0) read, ap (λ both. both.1) read)

-- Lines. Behind each number that a line carries stands a space or the end of the line.
carried_stops : (vs s : List ℕ) → Stops (carried vs ++ (10 ∷ s))
carried_stops [] s = refl
carried_stops (v ∷ vs) s = refl

-- what is carried alike to the end of a line is the same, and so is what stands behind that line
carried_same : (vs ws s t : List ℕ) → carried vs ++ (10 ∷ s) ≡ carried ws ++ (10 ∷ t) → (vs ≡ ws) × (s ≡ t)
carried_same [] [] s t h = (refl, cc)
carried_same [] (w ∷ ws) s t h = impossible (cc)
carried_same (v ∷ vs) [] s t h = impossible (cc)
carried_same (v ∷ vs) (w ∷ ws) s t h =
    let behind : (decimal v ++ carried vs) ++ (10 ∷ s) ≡ (decimal w ++ carried ws) ++ (10 ∷ t) = cc in
    let first = number_same v w _ _ (carried_stops vs s) (carried_stops ws t) (simp append_assoc at behind) in
    let others = carried_same vs ws s t first.1 in
    (cc, others.1)

-- the same of a letter with what it carries
lettered_same : (letter other : ℕ) (vs ws s t : List ℕ) → lettered letter vs ++ s ≡ lettered other ws ++ t
    → (letter ≡ other) × (vs ≡ ws) × (s ≡ t)
lettered_same letter other vs ws s t h =
    let behind : (carried vs ++ (10 ∷ [])) ++ s ≡ (carried ws ++ (10 ∷ [])) ++ t = cc in
    let same = carried_same vs ws s t (simp append_assoc at behind) in
    (cc, same.0, same.1)

-- Replies. A refusal is known by its code.
refusal_of : ℕ → Refusal
refusal_of code =
    let first = BadGroup ∷ BadAccounts ∷ SumTooLarge ∷ UnknownSeat ∷ OutOfRange ∷ PastNumber ∷ FutureNumber ∷ AlreadyAccepted ∷ [] in
    let further = AckRepeated ∷ AckConflicting ∷ InsufficientFunds ∷ AlreadyAcked ∷ BadHeader ∷ BadContents ∷ BadEnd ∷ BadSum ∷ ShortBuffer ∷ [] in
    let requests = TooManyMessages ∷ NoRoom ∷ SelfPayment ∷ PagesDiffer ∷ [] in
    get_or (first ++ further ++ requests) (code - 1) BadGroup

refusal_read : (r : Refusal) → refusal_of (code_of r) ≡ r
unfolding refusal_of
refusal_read BadGroup = refl
refusal_read BadAccounts = refl
refusal_read SumTooLarge = refl
refusal_read UnknownSeat = refl
refusal_read OutOfRange = refl
refusal_read PastNumber = refl
refusal_read FutureNumber = refl
refusal_read AlreadyAccepted = refl
refusal_read AckRepeated = refl
refusal_read AckConflicting = refl
refusal_read InsufficientFunds = refl
refusal_read AlreadyAcked = refl
refusal_read BadHeader = refl
refusal_read BadContents = refl
refusal_read BadEnd = refl
refusal_read BadSum = refl
refusal_read ShortBuffer = refl
refusal_read TooManyMessages = refl
refusal_read NoRoom = refl
refusal_read SelfPayment = refl
refusal_read PagesDiffer = refl

-- each reply, with these values for what it carries
abbrev replies_with : List ℕ → List Reply
replies_with vs =
    Circulate
    ∷ Acknowledge
    ∷ Accept (get_or vs 0 0)
    ∷ Propose (record { account = account_of (get_or vs 0 0); number = get_or vs 1 0; value = get_or vs 2 0; recipient = account_of (get_or vs 3 0) })
    ∷ Note
    ∷ Balance (get_or vs 0 0)
    ∷ Refuse (refusal_of (get_or vs 0 0))
    ∷ []

-- the first with this letter
abbrev with_letter : ℕ → List Reply → Reply
with_letter letter [] = Note
with_letter letter (r ∷ rs) = cond (eqb (letter_of r) letter) r (with_letter letter rs)

-- a reply is known by its letter and its values
reply_read : (r : Reply) → with_letter (letter_of r) (replies_with (values_of r)) ≡ r
reply_read Circulate = refl
reply_read Acknowledge = refl
reply_read (Accept c) = refl
reply_read (Propose t) = refl
reply_read Note = refl
reply_read (Balance b) = refl
reply_read (Refuse r) = ap Refuse (refusal_read r)

-- The line of entry i, and what stands behind it.
module _ (i : ℕ) where
  behind_entry : (r : Reply) (s : List ℕ) → reply_line i r ++ s ≡ decimal i ++ (32 ∷ lettered (letter_of r) (values_of r) ++ s)
  behind_entry r s = append_assoc (decimal i) (32 ∷ lettered (letter_of r) (values_of r)) s

  -- replies with the same line are the same
  reply_same : (r q : Reply) (s t : List ℕ) → reply_line i r ++ s ≡ reply_line i q ++ t → (r ≡ q) × (s ≡ t)
  reply_same r q s t h =
      let behind = append_cancel_left (decimal i) _ _ (rw (behind_entry r s, behind_entry q t) at h) in
      let same = lettered_same (letter_of r) (letter_of q) (values_of r) (values_of q) s t (cc) in
      (cc (reply_read r, reply_read q), same.2)

  -- it is no row: a row begins with no number
  reply_no_row : (r : Reply) (s : List ℕ) (rows : List Row) → reply_line i r ++ s ≡ row_lines 0 rows → ◌≡◌ {A = ℕ} 0 1
  reply_no_row r s rows h =
      let read = sym (read_number i _ refl) ∙ ap (read_on 0) (rw (behind_entry r s) at h) in
      go rows (ap (λ both. both.1) read)
    where
      go : (rows : List Row) → 32 ∷ lettered (letter_of r) (values_of r) ++ s ≡ (read_on 0 (row_lines 0 rows)).1 → ◌≡◌ {A = ℕ} 0 1
      go [] behind = cc
      go (row ∷ rows) behind = cc

-- rows with the same lines are the same
rows_same : (a : ℕ) (rows others : List Row) → row_lines a rows ≡ row_lines a others → rows ≡ others
rows_same a [] [] h = refl
rows_same a [] (q ∷ others) h = impossible (cc)
rows_same a (r ∷ rows) [] h = impossible (cc)
rows_same a (r ∷ rows) (q ∷ others) h =
    let same = lettered_same 61 61 (a ∷ r.balance ∷ r.current ∷ []) (a ∷ q.balance ∷ q.current ∷ []) _ _ h in
    let balance : r.balance ≡ q.balance = cc in
    let current : r.current ≡ q.current = cc in
    let later = rows_same (suc a) rows others same.2 in
    λ i. record { balance = balance i; current = current i } ∷ later i

-- The whole text, from entry i on.
same_from : (i : ℕ) (xs ys : List Exchange) (rows others : List Row)
    → reply_lines i xs ++ row_lines 0 rows ≡ reply_lines i ys ++ row_lines 0 others
    → (map (λ x. x.reply) xs ≡ map (λ y. y.reply) ys) × (rows ≡ others)
same_from i [] [] rows others h = (refl, rows_same 0 rows others h)
same_from i [] (y ∷ ys) rows others h = impossible (reply_no_row i y.reply _ rows (sym (h ∙ first_line i y ys (row_lines 0 others))))
same_from i (x ∷ xs) [] rows others h = impossible (reply_no_row i x.reply _ others (sym (first_line i x xs (row_lines 0 rows)) ∙ h))
same_from i (x ∷ xs) (y ∷ ys) rows others h =
    let lines = sym (first_line i x xs (row_lines 0 rows)) ∙ (h ∙ first_line i y ys (row_lines 0 others)) in
    let same = reply_same i x.reply y.reply _ _ lines in
    let later = same_from (suc i) xs ys rows others same.1 in
    (λ j. same.0 j ∷ later.0 j, later.1)

pub one_reading : OneReading
one_reading xs ys rows others h = same_from 1 xs ys rows others h
