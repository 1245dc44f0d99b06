-- A record that is wrong, a piece that is no record, or the writer's answer for the messages.
use Rattle.std.proofs.Common.{◌∙◌, sym}
use Rattle.writer.proofs.Recording.{last_wrong, messages_there, record_wrong, records_written, wrong_there}
use Rattle.writer.proofs.records.write_records.Goals as goal

pub returns-in-Some : goal.returns-in-Some
returns-in-Some c =
    let few = rw c.as_chunks.ensures.front_len at c.if-count-gt-MOST_MESSAGES.false in
    let wrong = sym (c.in-Some.ensures.first ∙ wrong_there c.args.records.now _ c.as_chunks.ensures.front) in
    rw c.new-in-Some.ensures (record_wrong c.args.records.now c.args.out.now few _ wrong)

pub returns-then-not-is_empty : goal.returns-then-not-is_empty
returns-then-not-is_empty c =
    let few = rw c.as_chunks.ensures.front_len at c.if-count-gt-MOST_MESSAGES.false in
    let right = sym (c.in_default.ensures.first ∙ wrong_there c.args.records.now _ c.as_chunks.ensures.front) in
    let piece = rw c.as_chunks.ensures.back_len at (sym c.is_empty.ensures ∙ c.if-not-is_empty.true) in
    rw c.new-then-not-is_empty.ensures (last_wrong c.args.records.now c.args.out.now few _ right piece)

pub returns : goal.returns
returns c =
    let few = rw c.as_chunks.ensures.front_len at c.if-count-gt-MOST_MESSAGES.false in
    let right = sym (c.in_default.ensures.first ∙ wrong_there c.args.records.now _ c.as_chunks.ensures.front) in
    let whole = rw c.as_chunks.ensures.back_len at (sym c.is_empty.ensures ∙ c.if-not-is_empty.false) in
    let same = messages_there c.args.records.now _ c.as_chunks.ensures.front in
    records_written c.args.records.now c.args.out.now few c.args.page right whole same c.write_messages.ensures
