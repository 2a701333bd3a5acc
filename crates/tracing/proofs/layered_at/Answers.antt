-- `tracing::layered_at` meets its contract. A table that is a file's has at most 2048 targets, the rows of an overlay's inputs stand side by
-- side, and an overlay that keeps 17 has a body. Assumes nothing.
use Rattle.std.proofs.Common.{sym, ap, ◌∙◌, arith}
use Rattle.boxes.specs.Types.{image}
use Rattle.derived.proofs.InputLaws.{inputs_counted}
use Rattle.tracing.proofs.LayerLaws.{rest-long, inputs-inside, layers_shown, layers_source, layers_direct}
use Rattle.tracing.proofs.layered_at.Goals as goal

pub returns-then-table-lt-WORDS : goal.returns-then-table-lt-WORDS
returns-then-table-lt-WORDS c =
    λ total f v h e. absurd (omega (arith, v.followed.view.enough, v.followed.many, c.then-table-lt-WORDS.either))

pub returns-then-first-n-gt2048 : goal.returns-then-first-n-gt2048
returns-then-first-n-gt2048 c =
    let r = c.args.row.0 in
    λ total f v h e. absurd (omega (
      arith,
      inputs-inside v r h _ (inputs_counted v.followed.view r h _ c.held_word-n.ensures) _
          c.held_word-first.ensures,
      c.if-first-n-gt2048.true,
    ))

pub layered_joined-requires : goal.layered_joined-requires
layered_joined-requires c =
    let a = c.args in (
      omega (arith, c.if-first-n-gt2048.false),
      omega (arith, c.if-table-lt-WORDS.false),
      rest-long a.rows.now c.held_word-first.result _ (omega (arith, c.if-first-n-gt2048.false, c.if-rows-lt2048.false)),
    )

pub returns-then-is_joined : goal.returns-then-is_joined
returns-then-is_joined c =
    let a = c.args in
    λ total f v h e. let k = inputs_counted v.followed.view a.row.0 h _ c.held_word-n.ensures in
    layers_source v a.row.0 h e _ k a.p _
    (λ b eb o eo. layers_shown v a.row.0 h _ k _ c.held_word-first.ensures (ap image e) a.p o _
    (λ s w there. c.layered_joined.ensures total f v.followed h b eb s w there o eo))

pub layered_in-requires : goal.layered_in-requires
layered_in-requires c =
    let a = c.args in (
      omega (arith, c.if-first-n-gt2048.false),
      omega (arith, c.if-table-lt-WORDS.false),
      rest-long a.rows.now c.held_word-first.result _ (omega (arith, c.if-first-n-gt2048.false, c.if-rows-lt2048.false)),
    )

pub returns : goal.returns
returns c =
    let a = c.args in
    λ total f v h e. let k = inputs_counted v.followed.view a.row.0 h _ c.held_word-n.ensures in
    let direct = sym (c.is_joined.ensures _ _ f v.followed.view h) ∙ c.if-is_joined.false in
    layers_source v a.row.0 h e _ k a.p _
    (λ b eb o eo. layers_shown v a.row.0 h _ k _ c.held_word-first.ensures (ap image e) a.p o _
    (λ s w there. c.layered_in.ensures s w there o (layers_direct v a.row.0 h e _ k direct b _ eb
    (c.body_of.ensures total _ f v.followed.view h (v.followed.placed _ h) direct) o eo)))
