-- `derived::joined_overlay` meets its contract. Assumes nothing.
use native.Mathlib.Omega.{arith}
use mathlib.Core.Path.{sym}
use mathlib.Core.Logic.{inl}
use Rattle.views.specs.inner.View.{id_of}
use Rattle.rules.proofs.ByteLaws.{body-long}
use Rattle.derived.proofs.joined_overlay.Goals as goal

pub returns-then-f-gt-LONGEST : goal.returns-then-f-gt-LONGEST
returns-then-f-gt-LONGEST c =
    let a = c.args in
    λ total f w h b e. absurd (omega (
      arith,
      c.if-f-gt-LONGEST.true,
      (c.front_of-f.ensures.by_index total f w h b e).0,
      (body-long total a.head.now f (id_of f a.row.0) b e).1,
    ))

pub read_front-requires : goal.read_front-requires
read_front-requires c =
    (c.requires, inl (omega (arith, c.front_of-f.ensures.bytes_len)))

pub returns : goal.returns
returns c =
    λ total f w h b e.
    let x = c.front_of-f.ensures.by_index total f w h b e in
    c.read_front.ensures b (sym x.0) (λ i l m. sym (x.1 i l))
