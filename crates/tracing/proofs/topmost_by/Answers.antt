-- `tracing::topmost_by` meets its contract. Assumes nothing.
use Rattle.std.proofs.Common.{◌-◌, ◌<◌, List, arith}
use mir.Val.{Val}
use denote.Laws.{Is}
use denote.Struct.Declared.{row}
use Rattle.pictures.specs.declared.Point.{Point}
use Rattle.pictures.specs.contracts.Point.{the_type}
use Rattle.pictures.proofs.GridLaws.{four_at-most}
use Rattle.tracing.proofs.SideLaws.{word_wide, below_word, far_read, number-below}
use Rattle.tracing.proofs.LayerLaws.{offset-among, layers_all, layers_none, input-there, layers_off_x, layers_off_y, layers_on}
use Rattle.tracing.proofs.topmost_by.Goals as goal

-- the point's coordinates have 32 bits: `good` has that of each parameter, the point is the last
few-x : (p : Point) (vs : List Val) → Is (row the_type) p vs → p.x < 4294967296
few-x p vs fits = fits.1.1.0.1

few-y : (p : Point) (vs : List Val) → Is (row the_type) p vs → p.y < 4294967296
few-y p vs fits = fits.1.1.1.0.1

pub loop-k-init : goal.loop-k-init
loop-k-init c =
    let a = c.args in
    λ s v there os many e. layers_all s os a.inputs.now a.n a.p many

pub overflow_cast-input : goal.overflow_cast-input
overflow_cast-input c = word_wide _ (c.type_inv.inputs _)

pub overflow_mul-at : goal.overflow_mul-at
overflow_mul-at c =
    omega (arith, four_at-most c.args.bytes c.requires.fact.0)

pub overflow_mul-at-then-input-lt256 : goal.overflow_mul-at-then-input-lt256
overflow_mul-at-then-input-lt256 c =
    let q = c.requires in
    let x = offset-among _ (c.loop-k.k - 1) _ _ q.fact.0 (omega arith)
    q.fact.1 q.fact.2 in
    omega (arith, x.far)

pub be_id-requires : goal.be_id-requires
be_id-requires c =
    let q = c.requires in
    let x = offset-among _ (c.loop-k.k - 1) _ _ q.fact.0 (omega arith)
    q.fact.1 q.fact.2 in
    (omega (arith, x.room), q.fact.0)

pub from_edge-x-requires : goal.from_edge-x-requires
from_edge-x-requires c =
    let o = number-below _ _ _ _ c.type_inv.o c.requires.fact.0 c.requires.half_value.0 c.be_id.ensures in
    (o.0, o.1, few-x _ _ c.well_formed.1.1.1.1.1.1.0)

pub overflow_cast-table : goal.overflow_cast-table
overflow_cast-table c = word_wide _ (c.type_inv.table _)

pub overflow_add-at : goal.overflow_add-at
overflow_add-at c =
    let q = c.requires in
    let x = offset-among _ (c.loop-k.k - 1) _ _ q.fact.0 (omega arith)
    q.fact.1 q.fact.2 in
    omega (arith, four_at-most c.args.bytes q.fact.0, x.far)

pub be_id-requires-then-x-table : goal.be_id-requires-then-x-table
be_id-requires-then-x-table c =
    let q = c.requires in
    let x = offset-among _ (c.loop-k.k - 1) _ _ q.fact.0 (omega arith)
    q.fact.1 q.fact.2 in
    (omega (arith, x.room), q.fact.0)

pub from_edge-y-requires : goal.from_edge-y-requires
from_edge-y-requires c =
    let o = number-below _ _ _ _ c.type_inv.o c.requires.fact.0 c.requires.half_value.0 c.be_id-then-x-table.ensures in
    (o.0, o.1, few-y _ _ c.well_formed.1.1.1.1.1.1.0)

pub overflow_cast-table-then-x-table : goal.overflow_cast-table-then-x-table
overflow_cast-table-then-x-table c = word_wide _ (c.type_inv.table _)

pub overflow_cast-result : goal.overflow_cast-result
overflow_cast-result c =
    below_word _ _ (c.type_inv.table _) c.if-x-table.true

pub overflow_cast-result-then-y-table : goal.overflow_cast-result-then-y-table
overflow_cast-result-then-y-table c = below_word _ _ (c.type_inv.table _) c.if-y-table.true

pub returns-then-y-table : goal.returns-then-y-table
returns-then-y-table c =
    let l = c.loop-k in
    let a = c.args in
    let q = c.requires in
    λ s v there os many e. layers_on v a.inputs.now a.o.now a.n a.bytes q.half_value.2 there os many e a.p
    l.k (l.k - 1) (omega arith) (omega arith)
    (l.invariant s v there os many e) _ (far_read a.bytes a.half _ _ _ _ _ c.be_id.ensures q.half_value.0
    (c.type_inv.table _) c.from_edge-x.ensures) _ (far_read a.bytes a.half _ _ _ _ _
    c.be_id-then-x-table.ensures q.half_value.0 (c.type_inv.table _) c.from_edge-y.ensures)
    c.if-x-table.true c.if-y-table.true

pub loop-k-preserved-else-y-table : goal.loop-k-preserved-else-y-table
loop-k-preserved-else-y-table c =
    let l = c.loop-k in
    let a = c.args in
    let q = c.requires in
    λ s v there os many e. layers_off_y v a.inputs.now a.o.now a.n a.bytes q.half_value.2
    there os many e a.p l.k (l.k - 1) (omega arith)
    (omega arith) (l.invariant s v there os many e) _
    (far_read a.bytes a.half _ _ _ _ _ c.be_id.ensures q.half_value.0 (c.type_inv.table _)
    c.from_edge-x.ensures) _ (far_read a.bytes a.half _ _ _ _ _ c.be_id-then-x-table.ensures q.half_value.0
    (c.type_inv.table _) c.from_edge-y.ensures) c.if-y-table.false

pub loop-k-preserved-else-x-table : goal.loop-k-preserved-else-x-table
loop-k-preserved-else-x-table c =
    let l = c.loop-k in
    let a = c.args in
    let q = c.requires in
    λ s v there os many e. layers_off_x v a.inputs.now a.o.now a.n a.bytes q.half_value.2
    there os many e a.p l.k (l.k - 1) (omega arith)
    (omega arith) (l.invariant s v there os many e) _
    (far_read a.bytes a.half _ _ _ _ _ c.be_id.ensures q.half_value.0
    (c.type_inv.table _) c.from_edge-x.ensures) c.if-x-table.false

pub loop-k-preserved : goal.loop-k-preserved
loop-k-preserved c =
    let l = c.loop-k in
    let a = c.args in
    let q = c.requires in
    λ s v there os many e. absurd
    (input-there v a.inputs.now a.o.now a.n a.bytes q.half_value.2 there os many e a.p l.k
    (l.k - 1) (omega arith) (omega arith)
    (l.invariant s v there os many e) c.if-input-lt256.false)

pub returns : goal.returns
returns c =
    let l = c.loop-k in
    let a = c.args in
    λ s v there os many e. layers_none s os a.inputs.now a.n a.p l.k (omega arith)
    (l.invariant s v there os many e)
