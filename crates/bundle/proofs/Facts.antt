-- Worked facts of a reading's number and values, computed: of a bundle's first page, of its last, and behind it.
use Rattle.std.proofs.Common.{◌≡◌, ℕ, List, [], ◌∷◌, ◌++◌, replicate, refl}
use Rattle.model.specs.Bundles.{check_bundle}
use Rattle.model.specs.Replies.{values_of_bundle}
use Rattle.bundle.specs.Promises.{values_of_read, read_of}

-- a sound bundle of an opening page of zeros and seat 4's ack of the slip (0, 1, 4, 1)
abbrev two_pages : List ℕ
two_pages =
    (2 ∷ 0 ∷ [])
    ++ (0 ∷ 0 ∷ 18 ∷ 0 ∷ 0 ∷ 0 ∷ 0 ∷ 0 ∷ [])
    ++ (3 ∷ 4 ∷ 149 ∷ 0 ∷ 6 ∷ 205 ∷ 124 ∷ 148 ∷ [])
    ++ replicate 131 0
    ++ (0 ∷ 1 ∷ 0 ∷ 0 ∷ 0 ∷ 4 ∷ 0 ∷ 0 ∷ 0 ∷ 1 ∷ [])

pub check_tried : values_of_bundle (check_bundle two_pages) ≡ 0 ∷ 2 ∷ []
unfolding check_bundle
check_tried = refl

-- what a reading replies at an entry
abbrev read : ℕ → List ℕ
read i = values_of_read (read_of two_pages i)

pub first_page_tried : read 0 ≡ 0 ∷ 1 ∷ 1 ∷ 0 ∷ 0 ∷ 18 ∷ 0 ∷ []
first_page_tried = refl

pub last_page_tried : read 1 ≡ 0 ∷ 1 ∷ 2 ∷ 3 ∷ 4 ∷ 149 ∷ 2_491_206_918 ∷ []
last_page_tried = refl

pub no_more_tried : (read 2 ≡ 0 ∷ 0 ∷ 2 ∷ []) × (read 7 ≡ 0 ∷ 0 ∷ 7 ∷ [])
no_more_tried = (refl, refl)
