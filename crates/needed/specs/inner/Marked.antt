-- The sources that marks leave, in table order.
--   marked_of t marks n    the IDs of those of the first n rows of the table t that are coded and marked
use Rattle.std.specs.Prelude.{ℕ, zero, suc, List, [], ◌∷◌, ◌++◌, ◌&&◌, get_or, eqb}
use Rattle.fields.specs.Choice.{pick}
use Rattle.boxes.specs.Types.{coded}
use Rattle.views.specs.inner.View.{record_word}

unfoldable pub marked_of : List ℕ → List ℕ → ℕ → List ℕ
marked_of t marks zero = []
marked_of t marks (suc n) = marked_of t marks n ++ pick (eqb (get_or marks n 0) 1 && coded (record_word t n 1)) (record_word t n 0 ∷ []) []
