-- What a reading that holds its bundle promises, by document 01's definitions in the model.
use Rattle.std.specs.Prelude.{ℕ, zero, suc, cond, List, [], ltb}
use Rattle.model.specs.Bundles.{entry_count, page_at}
use Rattle.bundle.specs.declared.Read.{Read}
use Rattle.bundle.specs.Promises.{read_of}
use Rattle.reader.specs.declared.Reader.{Reader}

-- the reading after this reply, of the same bundle
abbrev pub gone_on : Reader → Read → Reader
gone_on r p = record { bundle = r.bundle; next = p.next.next }

-- where a reading stands that was asked k times for its next page
abbrev pub place_after : List ℕ → ℕ → ℕ
place_after bytes zero = 0
place_after bytes (suc k) = (read_of bytes (place_after bytes k)).next.next

-- "What a page shows is that body's own bytes in the bundle": the body of the page last taken, the one before entry i
abbrev pub last_body : List ℕ → ℕ → List ℕ
last_body bytes zero = []
last_body bytes (suc i) = (page_at bytes i).body

-- what a reading shows that has taken its first page, if there is one: "page 0 is the opening page"
abbrev pub opening_body : List ℕ → List ℕ
opening_body bytes = cond (ltb 0 (entry_count bytes)) (page_at bytes 0).body []
