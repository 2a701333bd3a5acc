-- `tracing::topmost_between` meets its contract: the bytes of the window lie in the body. Assumes nothing.
use Rattle.std.proofs.Common.{ℕ, ◌+◌, ◌-◌, ◌*◌, ◌≤◌, length, replicate, ◌∙◌, arith}
use lib.ListN.{length-replicate}
use Rattle.pictures.proofs.GridLaws.{four_at-most}
use Rattle.derived.proofs.JoinedLaws.{joined-part}
use Rattle.tracing.proofs.LayerLaws.{rest-long}
use Rattle.tracing.proofs.WindowLaws.{window_at, window_inside, window_copied, window_told}
use Rattle.tracing.proofs.topmost_between.Goals as goal

pub overflow_mul-at : goal.overflow_mul-at
overflow_mul-at c =
    omega (arith, four_at-most c.args.bytes c.requires.fact.0)

pub overflow_add-at : goal.overflow_add-at
overflow_add-at c =
    omega (arith, four_at-most c.args.bytes c.requires.fact.0)

pub overflow_mul-at-2 : goal.overflow_mul-at-2
overflow_mul-at-2 c =
    omega (arith, four_at-most c.args.bytes c.requires.fact.0)

pub overflow_mul-at-3 : goal.overflow_mul-at-3
overflow_mul-at-3 c =
    let a = c.args in
    let q = c.requires.fact in
    omega (arith, (window_at a.bytes a.from a.end q.0 q.1 q.2 q.3).far)

pub overflow_add-at-2 : goal.overflow_add-at-2
overflow_add-at-2 c =
    let a = c.args in
    let q = c.requires.fact in
    omega (arith, four_at-most a.bytes q.0, (window_at a.bytes a.from a.end q.0 q.1 q.2 q.3).far)

pub overflow_mul-bytes : goal.overflow_mul-bytes
overflow_mul-bytes c =
    omega (arith, four_at-most c.args.bytes c.requires.fact.0)

pub overflow_mul-bytes-2 : goal.overflow_mul-bytes-2
overflow_mul-bytes-2 c =
    let a = c.args in
    let q = c.requires.fact in
    omega (arith, (window_at a.bytes a.from a.end q.0 q.1 q.2 q.3).room)

pub copy_bytes-requires : goal.copy_bytes-requires
copy_bytes-requires c =
    let a = c.args in
    let q = c.requires.fact in
    let x = window_at a.bytes a.from a.end q.0 q.1 q.2 q.3 in
    omega (arith, four_at-most a.bytes q.0, x.far, x.room)

pub topmost-requires : goal.topmost-requires
topmost-requires c =
    let a = c.args in
    let q = c.requires in
    let x = window_at a.bytes a.from a.end q.fact.0 q.fact.1 q.fact.2 q.fact.3 in record {
      fact = (q.fact.0, omega (arith, q.fact.2), omega (arith, x.room, c.copy_bytes.ensures.out_len_unchanged ∙ length-replicate {A = ℕ} 512 0));
      in_bounds = (q.in_bounds.0, rest-long a.inputs.now a.from _ (omega (arith, q.fact.1, q.in_bounds.1)));
    }

pub returns : goal.returns
returns c =
    let a = c.args in
    let q = c.requires.fact in
    let m = a.end - a.from in
    let x = window_at a.bytes a.from a.end q.0 q.1 q.2 q.3 in
    λ total f w h b e s v there n o en few eo ew.
    let room : 2 * a.bytes * m ≤ length (replicate {A = ℕ} 512 0) = omega (arith, x.room, length-replicate {A = ℕ} 512 0) in
    let copied = joined-part w a.row.0 h b e (10 + 2 * a.bytes + 2 * a.bytes * a.from) (2 * a.bytes * m)
    (window_inside b n a.bytes o eo ew a.from m (omega (arith, q.1, en))) (replicate 512 0) _ room c.copy_bytes.ensures.by_index in
    window_told b n a.bytes o eo ew _ a.from m (omega (arith, q.1, en))
    (window_copied b n a.bytes o eo ew (replicate 512 0) _ a.from m (omega (arith, q.1, en)) room copied)
    a.inputs.now s a.p _ (λ k l. there k (omega (arith, l, q.1))) (c.topmost.ensures s v)
