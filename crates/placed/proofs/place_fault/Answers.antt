-- `placed::place_fault` meets its contract. Assumes nothing.
use Rattle.rules.specs.Joined.{item_at}
use Rattle.placed.proofs.PlaceLaws.{method-made, method-other, fault_made, fault_method, fault_length, fault_outside, fault_empty, fault_none}
use Rattle.placed.proofs.place_fault.Goals as goal

pub returns-then-record_word-eq2 : goal.returns-then-record_word-eq2
returns-then-record_word-eq2 c =
    let a = c.args in
    λ head pl f v w i h. fault_made a.ends.total head f (item_at f a.row.0) _
    (c.good_method.ensures head pl f v w h) (method-made v a.row.0 h _ c.record_word.ensures c.if-record_word-eq2.true)

pub returns-then-not-good_method : goal.returns-then-not-good_method
returns-then-not-good_method c =
    let a = c.args in
    λ head pl f v w i h. fault_method a.ends.total head f (item_at f a.row.0) _
    (c.good_method.ensures head pl f v w h) (c.if-not-good_method.true)
    (method-other v a.row.0 h _ c.record_word.ensures c.if-record_word-eq2.false)

pub returns-then-has_lengths : goal.returns-then-has_lengths
returns-then-has_lengths c =
    let a = c.args in
    λ head pl f v w i h. fault_outside a.ends.total head f (item_at f a.row.0) _
    (c.good_method.ensures head pl f v w h) (c.if-not-good_method.false) _
    (c.lies_within.ensures head pl f v i h) (c.if-not-lies_within.true) _
    (c.has_lengths.ensures head pl f v h) c.if-has_lengths.true

pub returns-then-not-lies_within : goal.returns-then-not-lies_within
returns-then-not-lies_within c =
    let a = c.args in
    λ head pl f v w i h. fault_length a.ends.total head f (item_at f a.row.0) _
    (c.good_method.ensures head pl f v w h) (c.if-not-good_method.false) _
    (c.lies_within.ensures head pl f v i h) (c.if-not-lies_within.true) _
    (c.has_lengths.ensures head pl f v h) c.if-has_lengths.false

pub returns-then-not-has_bytes : goal.returns-then-not-has_bytes
returns-then-not-has_bytes c =
    let a = c.args in
    λ head pl f v w i h. fault_empty a.ends.total head f (item_at f a.row.0) _
    (c.good_method.ensures head pl f v w h) (c.if-not-good_method.false) _
    (c.lies_within.ensures head pl f v i h) (c.if-not-lies_within.false) _
    (c.has_bytes.ensures head pl f v h) (c.if-not-has_bytes.true)

pub returns : goal.returns
returns c =
    let a = c.args in
    λ head pl f v w i h. fault_none a.ends.total head f (item_at f a.row.0) _
    (c.good_method.ensures head pl f v w h) (c.if-not-good_method.false) _
    (c.lies_within.ensures head pl f v i h) (c.if-not-lies_within.false) _
    (c.has_bytes.ensures head pl f v h) (c.if-not-has_bytes.false)
