-- The answers as C is given them, eight numbers each: "A refusal returns number and place; other numbers are 0", then
-- the answer's values in document 01's order.
--   out_refused           number and place of a refusal
--   out_verdict, out_sized, out_traced, out_points, out_listed, out_part, out_orientation, out_transforms, out_bodied     the eight numbers for an answer
use Rattle.std.specs.Prelude.{ℕ, List, [], ◌∷◌, length}
use Rattle.boxes.specs.Answer.{Answer, ok, refuse}
use Rattle.questions.specs.Questions as Q
use Rattle.traced.specs.Told.{end_number}
use Rattle.facing.specs.Orientation.{Transform, irot, imir}

abbrev pub out_refused : ℕ → ℕ → List ℕ
out_refused n p = n ∷ p ∷ 0 ∷ 0 ∷ 0 ∷ 0 ∷ 0 ∷ 0 ∷ []

-- "accepted, with item count and primary item ID"
unfoldable pub out_verdict : Answer Q.Verdict → List ℕ
out_verdict (ok v) = 0 ∷ 0 ∷ v.items ∷ v.primary ∷ 0 ∷ 0 ∷ 0 ∷ 0 ∷ []
out_verdict (refuse n p) = out_refused n p

-- "reconstructed and output width and height, depth"
unfoldable pub out_sized : Answer Q.Sized → List ℕ
out_sized (ok s) = 0 ∷ 0 ∷ s.reconstructed.wide ∷ s.reconstructed.high ∷ s.output.wide ∷ s.output.high ∷ s.depth ∷ 0 ∷ []
out_sized (refuse n p) = out_refused n p

-- "pixel or fill, item ID, x, y there, items passed"
unfoldable pub out_traced : Answer Q.Found → List ℕ
out_traced (ok e) = 0 ∷ 0 ∷ end_number e.is_fill ∷ e.item ∷ e.at.x ∷ e.at.y ∷ e.passed ∷ 0 ∷ []
out_traced (refuse n p) = out_refused n p

-- Q-4: how many records were filled
unfoldable pub out_points : Answer ℕ → List ℕ
out_points (ok n) = 0 ∷ 0 ∷ n ∷ 0 ∷ 0 ∷ 0 ∷ 0 ∷ 0 ∷ []
out_points (refuse n p) = out_refused n p

-- how many IDs were written
unfoldable pub out_listed : Answer (List ℕ) → List ℕ
out_listed (ok ids) = 0 ∷ 0 ∷ length ids ∷ 0 ∷ 0 ∷ 0 ∷ 0 ∷ 0 ∷ []
out_listed (refuse n p) = out_refused n p

-- "that property box, header included, as a part of the head": where the part begins in the head, and how long it is
unfoldable pub out_part : Answer Q.Part → List ℕ
out_part (ok p) = 0 ∷ 0 ∷ p.offset ∷ length p.bytes ∷ 0 ∷ 0 ∷ 0 ∷ 0 ∷ []
out_part (refuse n p) = out_refused n p

-- Q-3: "one Exif orientation, 1 to 8"
unfoldable pub out_orientation : Answer ℕ → List ℕ
out_orientation (ok n) = 0 ∷ 0 ∷ n ∷ 0 ∷ 0 ∷ 0 ∷ 0 ∷ 0 ∷ []
out_orientation (refuse n p) = out_refused n p

-- Q-7: how long the body is
unfoldable pub out_bodied : Answer (List ℕ) → List ℕ
out_bodied (ok b) = 0 ∷ 0 ∷ length b ∷ 0 ∷ 0 ∷ 0 ∷ 0 ∷ 0 ∷ []
out_bodied (refuse n p) = out_refused n p

-- 1 stands for an `irot`, 2 for an `imir`
unfoldable pub kind_number : Transform → ℕ
kind_number (irot a) = 1
kind_number (imir a) = 2

unfoldable pub value_in : Transform → ℕ
value_in (irot a) = a
value_in (imir a) = a

-- how many, then kind and value of each; no orientation has more than two
unfoldable pub out_transforms : Answer (List Transform) → List ℕ
out_transforms (ok []) = 0 ∷ 0 ∷ 0 ∷ 0 ∷ 0 ∷ 0 ∷ 0 ∷ 0 ∷ []
out_transforms (ok (a ∷ [])) = 0 ∷ 0 ∷ 1 ∷ kind_number a ∷ value_in a ∷ 0 ∷ 0 ∷ 0 ∷ []
out_transforms (ok (a ∷ (b ∷ ts))) = 0 ∷ 0 ∷ 2 ∷ kind_number a ∷ value_in a ∷ kind_number b ∷ value_in b ∷ 0 ∷ []
out_transforms (refuse n p) = out_refused n p
