-- `still::body` meets its contract. Assumes nothing.
use Rattle.std.proofs.Common.{◌≤◌, ◌<◌, ℕ, List, length, sym, refl, ◌∙◌, arith}
use Rattle.boxes.proofs.ToldLaws.{told-ok, told-refused}
use Rattle.contents.specs.File.{File}
use Rattle.boxes.specs.Answer.{Answer}
use Rattle.rules.specs.Opening.{after}
use Rattle.bodied.specs.Body.{body, buffer_after}
use Rattle.bodied.specs.Told.{told_bodied}
use Rattle.bodied.proofs.RoomLaws.{room-opened, room-left}
use Rattle.still.proofs.QuestionLaws.{file-shown}
use Rattle.still.proofs.BodyLaws.{short-kept}
use Rattle.still.proofs.OpenedLaws.{off, on}
use Rattle.still.proofs.ArrangedLaws.{order_given}
use Rattle.still.proofs.body.Goals as goal
use Rattle.still.proofs.body.Goals.{in-Err, in-Ok}

pub returns-then-buffer-lt-LONGEST : goal.returns-then-buffer-lt-LONGEST
returns-then-buffer-lt-LONGEST c =
    let a = c.args in
    let few : length a.buffer.now < 16402 = omega arith in
    let g = c.short_buffer.ensures a.total a.head.now (length a.buffer.now) few in
    (g.0, (short-kept a.total a.head.now a.table.now a.id.0 (length a.buffer.now) few a.buffer.now, g.1))

pub returns : goal.returns
unfolding body told_bodied buffer_after
returns c =
    let a = c.args in
    let o = c.open_rows-o.ensures in
    let few = c.ranges.total.fits in
    let wide : 16402 ≤ length a.buffer.now = omega arith in
    let room = length a.buffer.now in
    let opens = room-opened a.head.now a.total a.table.now room a.id.0 wide in
    let left : Answer (List ℕ) → List ℕ = λ m. buffer_after m a.buffer.now in
    let arranged = c.arrange.ensures a.total a.head.now a.table.now o.opened_given.1
    (order_given a.total a.head.now a.table.now _ _ _ o.opened_given.0 o.resolved) ∙
    sym (room-left a.head.now a.total a.table.now room a.id.0 after wide) in
    elim c.match-o.branch [
      | in-Err w ↦
          let e = opens ∙ told-refused (λ (f : File). tt) _ _ (sym o.opened_given.0 ∙ w.in-Err.is) in
          (w.answer-is ∙ off told_bodied _ _ _ _ e, (w.buffer-is ∙ off left _ _ _ _ e, arranged))
      | in-Ok w ↦
          let k = told-ok (λ (f : File). tt) _ _ (sym o.opened_given.0 ∙ w.in-Ok.is) in
          let s = file-shown a.total a.head.now a.table.now few k.0 k.1 _ o.opened_given.1 _ _ refl (omega arith)
          (λ e. (rw w.in-Ok.is at o.resolved k.0 e).0) in
          let b = w.body_in-answer.ensures _ k.0 s.followed s.fed wide in
          (w.answer-is ∙ b.0 ∙ on told_bodied _ _ k.0 (opens ∙ k.1), (w.buffer-is ∙ b.1 ∙ on left _ _ k.0 (opens ∙ k.1), arranged))
    ]
