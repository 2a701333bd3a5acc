-- `items::room_for` meets its contract. Assumes nothing.
use native.Mathlib.Omega.{arith}
use Prim.Native.Nat.{ℕ, ◌+◌, ◌<◌}
use mathlib.Core.List.{List}
use mir.Val.{Val}
use denote.Laws.{Is}
use denote.Struct.Declared.{row}
use Rattle.table.specs.declared.ItemId.{ItemId}
use Rattle.table.specs.contracts.ItemId.{the_type}
use mathlib.Core.Path.{subst}
use Rattle.records.specs.inner.Keys.{LastUpto}
use Rattle.items.proofs.HeldLaws.{room-last, room-first, room-between, room_taken}
use Rattle.items.proofs.room_for.Goals as goal

-- an ID fits its type: `good` has that of each parameter, `id` is the third
small : (i : ItemId) (vs : List Val) → Is (row the_type) i vs → i.0 < 4294967296
small i vs fits = fits.1.1.0.1

pub returns-then-keys-end : goal.returns-then-keys-end
returns-then-keys-end c =
    let a = c.args in
    λ ids h. room-last ids a.at a.keys.now h a.id.0 (omega (arith, c.if-keys-end.true, c.key_of-key.ensures))

pub returns-then-key-keys : goal.returns-then-key-keys
returns-then-key-keys c =
    let a = c.args in
    λ ids h. room-first ids a.at a.keys.now h a.id.0 (omega (arith, c.if-key-keys.true, c.key_of-key.ensures))

pub returns-then-keys-k : goal.returns-then-keys-k
returns-then-keys-k c =
    let a = c.args in
    λ ids h. room-between ids a.at a.keys.now h a.id.0 (small _ _ c.well_formed.1.1.0) _
    (subst (λ (x : ℕ). LastUpto a.keys.now (x + 255) c.last_upto-k.result) c.key_of-key.ensures c.last_upto-k.ensures)
    (omega (arith, c.if-keys-end.false)) (omega (arith, c.if-key-keys.false)) (omega (arith, c.if-keys-k.true))

pub returns-else-keys-k : goal.returns-else-keys-k
returns-else-keys-k c =
    let a = c.args in
    λ ids h. room_taken ids a.at a.keys.now h a.id.0 (small _ _ c.well_formed.1.1.0) _
    (subst (λ (x : ℕ). LastUpto a.keys.now (x + 255) c.last_upto-k.result) c.key_of-key.ensures c.last_upto-k.ensures)
    (omega (arith, c.if-keys-end.false)) (omega (arith, c.if-key-keys.false)) (omega (arith, c.if-keys-k.false))
