-- `still::property_asked` meets its contract. Assumes nothing.
use Rattle.still.proofs.property_asked.Goals as goal

pub returns : goal.returns
returns c =
    let a = c.args in
    let r = c.index_read-answer.ensures in
    (r.asked_read.0, c.arrange.ensures a.total a.head.now a.table.now r.asked_read.1 r.order_given)
