-- `ipco`: the properties. "Every box in `ipco` takes an index from 1, free space too." A property is its box.
--   GoodContent k s               the content s is as long as a property of type k must be
--   property-step at before b   b as the next property, at `at`
use Rattle.std.specs.Prelude.{ℕ, ◌≡◌, List, [], ◌∷◌, ◌++◌, ◌||◌, length, ltb, eqb}
use Rattle.fields.specs.Choice.{pick}
use Rattle.boxes.specs.Answer.{Answer, ok, check}
use Rattle.boxes.specs.Answer as Ans
use Rattle.boxes.specs.Types.{ispe, clap, irot, imir}
use Rattle.boxes.specs.Box.{kind_of, body_of}
use Rattle.forms.specs.Form.{Form, give, field, whole, ◌>>=◌}
use Rattle.contents.specs.Full.{full, upto}

-- "`ispe` version 0, 12 bytes": version, flags, width, height
unfoldable pub ispe_form : Form (Unit {0})
ispe_form = do
  h ← full (upto 0)
  w ← field 4
  v ← field 4
  give tt

-- "`clap` 32; `irot` .. and `imir` .. 1": n bytes
unfoldable pub bytes_form : ℕ → Form (Unit {0})
bytes_form n = do
  b ← field n
  give tt

-- "Content: `ispe` version 0, 12 bytes; `clap` 32; `irot` (lowest two bits) and `imir` (lowest bit) 1; other lengths 8."
unfoldable pub good_content : ℕ → ℕ → List ℕ → Answer (Unit {0})
good_content k p s =
    pick (eqb k ispe) (whole ispe_form p s)
    (pick (eqb k clap) (whole (bytes_form 32) p s)
    (pick (eqb k irot || eqb k imir) (whole (bytes_form 1) p s) (ok tt)))

-- "256 properties"; "a 257th property is 9, at its box, after 3"
unfoldable pub property_step : ℕ → List (List ℕ) → List ℕ → Answer (List (List ℕ))
property_step at before b =
    Ans.◌>>◌ (check 9 at (ltb (length before) 256))
    (Ans.◌>>◌ (good_content (kind_of b) at (body_of b)) (ok (before ++ (b ∷ []))))

pub record GoodContent (k : ℕ) (s : List ℕ) : Type 0 where
  pub of_ispe : k ≡ ispe → ispe_form.Spells s tt
  pub of_clap : k ≡ clap → (bytes_form 32).Spells s tt
  pub of_irot : k ≡ irot → (bytes_form 1).Spells s tt
  pub of_imir : k ≡ imir → (bytes_form 1).Spells s tt
