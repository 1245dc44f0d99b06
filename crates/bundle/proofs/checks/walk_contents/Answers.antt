-- What a turn of the walk finds, and what the walk has found behind the last entry.
use Rattle.std.proofs.Common.{◌≡◌, ℕ, ◌+◌, ◌<◌, Bool, true, false, List, sym, ap, ◌∙◌, add-one, arith, Err}
use Rattle.model.specs.declared.ContentsEntry.{ContentsEntry}
use Rattle.model.specs.Bundles.{entry_count, contents_at, body_length, start_at, wrong_entry}
use Rattle.basics.proofs.Counting.{searched_more, searched_found}
use Rattle.bundle.proofs.Longest.{body_any, wrong_at}
use Rattle.bundle.specs.Promises.{walked, walk_of}
use Rattle.bundle.proofs.checks.walk_contents.Invariants.{Walked}
use Rattle.bundle.proofs.checks.walk_contents.Goals as goal

module _ (bytes : List ℕ) {start i : ℕ} (w : Walked bytes start i) (h : i < entry_count bytes) {c : ContentsEntry} (read : c ≡ contents_at bytes i) {r : Bool} (tested : r ≡ wrong_entry i start c) where
  test_is : r ≡ wrong_at bytes i
  test_is = tested ∙ rw (read, w.starts)

  walked_found : r ≡ true → Err i ≡ walk_of bytes
  walked_found hit = sym (ap (λ o. walked o (start_at bytes (entry_count bytes))) (searched_found w.searched test_is h hit))

  walked_more : r ≡ false → {size : ℕ} → size ≡ body_length c.kind → Walked bytes (start + size) (i + 1)
  walked_more miss e =
      record {
        low = omega (arith, body_any c.kind);
        starts = rw (add-one i, e, read, w.starts);
        searched = searched_more w.searched test_is h miss;
      }

pub returns-then-is_wrong_entry : goal.returns-then-is_wrong_entry
returns-then-is_wrong_entry c =
    walked_found _ c.loop-i.invariant (omega arith) c.contents_at-c.ensures c.is_wrong_entry.ensures c.if-is_wrong_entry.true

pub loop-i-preserved : goal.loop-i-preserved
loop-i-preserved c =
    walked_more _ c.loop-i.invariant (omega arith) c.contents_at-c.ensures c.is_wrong_entry.ensures c.if-is_wrong_entry.false
    c.body_length.ensures
