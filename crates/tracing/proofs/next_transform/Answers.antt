-- `tracing::next_transform` meets its contract. Assumes nothing.
use Rattle.std.proofs.Common.{◌≡◌, sym, refl, ◌∙◌, arith}
use Rattle.tracing.proofs.NextLaws.{transforms-room, transforms-end, transforms-none, transforms-found, transforms-past, index-there}
use Rattle.tracing.proofs.next_transform.Goals.{
  else-index-ge1-via-then-index-ge1+then-index-le256+else-is_transform,
  else-index-ge1-via-then-index-ge1+else-index-le256,
  else-index-ge1-via-else-index-ge1,
}
use Rattle.tracing.proofs.next_transform.Goals as goal

pub returns-then-table-lt-WORDS : goal.returns-then-table-lt-WORDS
returns-then-table-lt-WORDS c = record { by_index = λ head pl f v h. absurd (omega (arith, v.enough, c.if-table-lt-WORDS.true)); lower_bound = omega arith }

pub returns-then-first-n-gt2048 : goal.returns-then-first-n-gt2048
returns-then-first-n-gt2048 c =
    let a = c.args in record {
      by_index = λ head pl f v h. absurd (transforms-room v a.row.0 h _ c.held_word-n.ensures _
          c.held_word-first.ensures c.if-first-n-gt2048.true);
      lower_bound = omega arith;
    }

pub loop-k-init : goal.loop-k-init
loop-k-init c = (omega arith, λ head pl f r v h ef en. refl)

pub returns-then-is_transform : goal.returns-then-is_transform
returns-then-is_transform c =
    let a = c.args in
    let l = c.loop-k in record {
      by_index = λ head pl f v h.
          transforms-found v a.row.0 h _ c.held_word-n.ensures l.k _ (l.invariant.1 head pl f a.row.0 v h c.held_word-first.ensures c.held_word-n.ensures)
          c.loop-k-test.true _ c.held_word-first.ensures c.if-index-ge1.true
          (sym c.is_transform.ensures ∙ c.if-is_transform.true);
      lower_bound = omega arith;
    }

pub loop-k-preserved : goal.loop-k-preserved
loop-k-preserved c =
    let l = c.loop-k in (
      omega arith,
      λ head pl f r v h ef en. let inv = l.invariant.1 head pl f r v h ef en in
          elim c.else-index-ge1.branch [
            | else-index-ge1-via-then-index-ge1+then-index-le256+else-is_transform w ↦
                transforms-past v r h _ en l.k _ inv c.loop-k-test.true _ ef w.if-index-ge1.true (sym w.is_transform.ensures ∙ w.if-is_transform.false)
            | else-index-ge1-via-then-index-ge1+else-index-le256 w ↦ absurd (index-there v r h _ en l.k _ inv c.loop-k-test.true _ ef w.if-index-le256.false)
            | else-index-ge1-via-else-index-ge1 w ↦ transforms-none v r h _ en l.k _ inv c.loop-k-test.true _ ef w.if-index-ge1.false
          ],
    )

pub returns : goal.returns
returns c =
    let a = c.args in
    let l = c.loop-k in record {
      by_index = λ head pl f v h.
          let k : c.max.result ≡ l.k = omega (arith, c.max.ensures) in
          k ∙ transforms-end v a.row.0 h _ c.held_word-n.ensures l.k _
          (l.invariant.1 head pl f a.row.0 v h c.held_word-first.ensures c.held_word-n.ensures) c.loop-k-test.false;
      lower_bound = omega (arith, c.max.ensures);
    }
