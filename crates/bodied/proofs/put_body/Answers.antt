-- `bodied::put_body` meets its contract. Assumes nothing.
use native.Mathlib.Omega.{arith}
use Rattle.bodied.proofs.BodyLaws.{nothing_put, body-fits, body_copied}
use Rattle.bodied.proofs.put_body.Goals as goal

pub returns-then-not-has_body : goal.returns-then-not-has_body
returns-then-not-has_body c =
    let a = c.args in
    λ total f w fed room h i.
    nothing_put w a.buffer.now a.row.0 h _ c.type_of.ensures _ c.has_body.ensures (c.if-not-has_body.true)

pub returns-then-buffer-n : goal.returns-then-buffer-n
returns-then-buffer-n c =
    let a = c.args in
    λ total f w fed room h i.
    absurd (omega (
      arith,
      c.if-buffer-n.true,
      body-fits w a.buffer.now a.row.0 h _ c.type_of.ensures _ c.has_body.ensures
          (c.if-not-has_body.false) fed room _ c.length_of-n.ensures,
    ))

pub returns : goal.returns
returns c =
    let a = c.args in
    λ total f w fed room h i.
    body_copied w a.buffer.now a.row.0 h _ c.type_of.ensures _ c.has_body.ensures
    (c.if-not-has_body.false) fed room _ c.length_of-n.ensures _ c.copy_bytes.ensures.by_index
