-- Worked facts of the records' definitions, computed: which record is told, in which order the codes are tried,
-- and what messages records are.
use Prim.Native.Nat.{ℕ}
use mathlib.Core.Path.{◌≡◌, refl}
use mathlib.Core.List.{List, [], ◌∷◌, ◌++◌}
use lib.ListN.{take, replicate}
use Rattle.model.specs.declared.Message.TheVariants.{Request, Inquiry}
use Rattle.model.specs.Records.{account_of}
use Rattle.model.specs.Replies.{values_of_bundle}
use Rattle.model.specs.Writing.{write_reply}
use Rattle.model.proofs.Rows.{slip, ack_by}
use Rattle.writer.specs.RecordLists.{messages_of, record_faults}

-- a record of a kind and a seat, with the slip (2, 1, 4, 3) or, of a question, account 2
-- and nine bytes that are not read
abbrev item : ℕ → ℕ → List ℕ
item kind seat = kind ∷ seat ∷ 2 ∷ 1 ∷ 0 ∷ 0 ∷ 0 ∷ 4 ∷ 0 ∷ 0 ∷ 0 ∷ 3 ∷ []

-- the values of the reply, for a bundle of 141 bytes and so much room
abbrev told : List ℕ → ℕ → List ℕ
told records room = let bundle : List ℕ = replicate 141 0 in values_of_bundle (write_reply (record_faults records bundle room) bundle)

-- the entry of the lowest wrong record: a kind that is no message's, or a seat where the kind has none
pub entries_told : (told (item 0 0) 141 ≡ 14 ∷ 1 ∷ [])
    × (told (item 1 0 ++ item 6 0 ++ item 255 0) 141 ≡ 14 ∷ 2 ∷ [])
    × (told (item 3 255 ++ item 4 1) 141 ≡ 14 ∷ 2 ∷ [])
    × (told (item 5 1) 141 ≡ 14 ∷ 1 ∷ [])
    × (told (item 3 255 ++ item 5 0) 141 ≡ 0 ∷ 141 ∷ [])
entries_told = (refl, refl, refl, refl, refl)

-- 18 first, then 14, 15, 19; a last piece is no record
pub order_told : (told (replicate 12_000 0) 0 ≡ 18 ∷ 0 ∷ [])
    × (told (item 6 0 ++ (1 ∷ [])) 0 ≡ 14 ∷ 1 ∷ [])
    × (told (item 1 0 ++ take 11 (item 6 0)) 0 ≡ 15 ∷ 0 ∷ [])
    × (told (item 1 0) 140 ≡ 19 ∷ 0 ∷ [])
    × (told [] 141 ≡ 0 ∷ 141 ∷ [])
order_told = (refl, refl, refl, refl, refl)

pub messages_told : messages_of (item 1 0 ++ item 3 200 ++ item 5 0) ≡ Request (slip 2 1 4 3) ∷ ack_by 200 (slip 2 1 4 3) ∷ Inquiry (account_of 2) ∷ []
messages_told = refl
