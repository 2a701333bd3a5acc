-- `pictures::read_front` meets its contract: what is read stands in the first 18 bytes. Assumes nothing.
use Rattle.pictures.proofs.OverlayLaws.{front-short, front-version, front_length, front-right}
use Rattle.pictures.proofs.GridLaws.{four_at-most}
use Rattle.pictures.specs.Recipe.{field_bytes}
use Rattle.std.proofs.Common.{sym, ap, ◌∙◌, arith}
use Rattle.pictures.proofs.read_front.Goals as goal
use Rattle.pictures.proofs.read_front.Goals.{then-size-lt2-via-then-size-lt2, then-size-lt2-via-else-size-lt2+then-be8-ne0}

pub returns-then-size-lt2 : goal.returns-then-size-lt2
returns-then-size-lt2 c =
    let a = c.args in
    λ body long same. elim c.then-size-lt2.branch [
      | then-size-lt2-via-then-size-lt2 w ↦ front-short body a.b.now a.size long same 0 a.n w.if-size-lt2.true
      | then-size-lt2-via-else-size-lt2+then-be8-ne0 w ↦ front-version body a.b.now a.size long same 0 a.n w.if-size-lt2.false
          (λ e. w.if-be8-ne0.true (w.be8.ensures ∙ e))
    ]

pub returns-then-size-w : goal.returns-then-size-w
returns-then-size-w c =
    let a = c.args in
    λ body long same. front_length body a.b.now a.size long same 0 a.n _
    (c.bytes_of-w.ensures.0 ∙ ap field_bytes c.be8-2.ensures) (omega (arith, c.if-size-lt2.false)) c.if-size-w.true

pub returns : goal.returns
returns c =
    let a = c.args in
    λ body long same. rw (c.be_id.ensures, c.be_id-2.ensures)
    (front-right body a.b.now a.size long same 0 a.n _
    (c.bytes_of-w.ensures.0 ∙ ap field_bytes c.be8-2.ensures) (omega (arith, c.if-size-lt2.false))
    (four_at-most _ c.bytes_of-w.ensures.1) c.if-size-w.false (sym c.be8.ensures ∙ c.if-be8-ne0.false))
