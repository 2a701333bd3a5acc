-- Document 01, "Bench sheet": the starred lines a to l, each a question to the definitions and its answer. Line a asks of a body; all
-- others ask a whole file, byte for byte, as a caller does. Where a size or a trace is answered, the file is accepted.
--   Question     what a line asks;   ask    its answer by the definitions, as numbers, or the refusal
--   sheet        the lines, in order
use Rattle.std.specs.Prelude.{ℕ, zero, suc, List, [], ◌∷◌, ◌++◌, length, replicate}
use Rattle.fields.specs.Choice.{pick}
use Rattle.boxes.specs.Answer.{Answer, ok, refuse, ◌>>=◌}
use Rattle.boxes.specs.Types.{iden, grid, iovl}
use Rattle.forms.specs.Form.{whole}
use Rattle.pictures.specs.Turn.{point}
use Rattle.pictures.specs.Recipe.{Grid, grid_form}
use Rattle.questions.specs.Questions as Questions
use Rattle.sheet.specs.Writing.{bytes, ispe_box, irot_box, imir_box, clap_box, Entry, jpeg_item, derived_item, written}

-- 1, 2, .. n
abbrev pub one_to : ℕ → List ℕ
one_to zero = []
one_to (suc n) = one_to n ++ (suc n ∷ [])

-- a's body, and c's, of 7 columns
abbrev pub eight_columns : List ℕ
eight_columns = 0x00 ∷ 0x00 ∷ 0x05 ∷ 0x07 ∷ 0x0f ∷ 0xc0 ∷ 0x0b ∷ 0xd0 ∷ []

abbrev pub seven_columns : List ℕ
seven_columns = 0x00 ∷ 0x00 ∷ 0x05 ∷ 0x06 ∷ 0x0f ∷ 0xc0 ∷ 0x0b ∷ 0xd0 ∷ []

-- b, c: the items 1 to n are tiles of 512 × 512, item n + 1 is the grid of them with this body
abbrev pub tiled : ℕ → List ℕ → List ℕ
tiled n body =
    written (ispe_box 512 512 ∷ ispe_box 4032 3024 ∷ [])
    (replicate n (jpeg_item (1 ∷ [])) ++ (derived_item grid (one_to n) body (2 ∷ []) ∷ []))

-- d to j: item 1 is a picture of 640 × 480 with these transforms
abbrev pub turned : List (List ℕ) → List ℕ
turned boxes = written (ispe_box 640 480 ∷ boxes) (jpeg_item (one_to (suc (length boxes))) ∷ [])

-- h to j: 601/1 wide, 480/1 high, the horizontal offset as it is given, the vertical one 0/1
abbrev pub cropped : List ℕ → List ℕ
cropped offset = turned (clap_box (bytes 4 601 ++ bytes 4 1) (bytes 4 480 ++ bytes 4 1) offset (bytes 4 0 ++ bytes 4 1) ∷ [])

-- k: the items 1 and 2 are A and B, item 3 is the overlay of them. Its body: version and flags; four fill values; width and height; the
-- offsets, (-2,0) and (1,1)
abbrev pub overlay : List ℕ
overlay =
    0x00 ∷ 0x00
    ∷ 0x00 ∷ 0x00 ∷ 0x00 ∷ 0x00 ∷ 0x00 ∷ 0x00 ∷ 0x00 ∷ 0x00
    ∷ 0x00 ∷ 0x0a ∷ 0x00 ∷ 0x0a
    ∷ 0xff ∷ 0xfe ∷ 0x00 ∷ 0x00
    ∷ 0x00 ∷ 0x01 ∷ 0x00 ∷ 0x01
    ∷ []

abbrev pub layered : List ℕ
layered =
    written (ispe_box 4 4 ∷ ispe_box 10 10 ∷ [])
    (jpeg_item (1 ∷ []) ∷ jpeg_item (1 ∷ []) ∷ derived_item iovl (1 ∷ 2 ∷ []) overlay (2 ∷ []) ∷ [])

-- l: item 1 is a picture of 8 × 8, and behind it come n `iden` in a row, each of the item before it
abbrev pub copies : ℕ → ℕ → List Entry
copies id zero = []
copies id (suc n) = derived_item iden (id ∷ []) [] (1 ∷ []) ∷ copies (suc id) n

abbrev pub in_a_row : ℕ → List ℕ
in_a_row n = written (ispe_box 8 8 ∷ []) (jpeg_item (1 ∷ []) ∷ copies 1 n)

-- body: what a `grid`'s body says. The others go to a whole file: its verdict, the size of an item, the trace of an item's pixel (x, y).
pub data Question : Type 0 where
  body : List ℕ → Question
  verdict : List ℕ → Question
  size : List ℕ → ℕ → Question
  trace : List ℕ → ℕ → ℕ → ℕ → Question

-- the answers as numbers. body: rows, columns, width, height. verdict: items, primary ID. size: reconstructed width and height, output
-- width and height, depth. trace: 1 for a pixel or 2 for fill, ID of the item where it ends, x, y there, items passed.
unfoldable pub ask : Question → Answer (List ℕ)
ask (body b) = whole grid_form 0 b >>= (λ (g : Grid). ok (g.rows ∷ g.columns ∷ g.wide ∷ g.high ∷ []))
ask (verdict file) = Questions.verdict 11280 (length file) file >>= (λ (v : Questions.Verdict). ok (v.items ∷ v.primary ∷ []))
ask (size file id) =
    Questions.size 11280 (length file) file id
    >>= (λ (s : Questions.Sized). ok (s.reconstructed.wide ∷ s.reconstructed.high ∷ s.output.wide ∷ s.output.high ∷ s.depth ∷ []))
ask (trace file id x y) =
    Questions.trace 11280 (length file) file id (point x y)
    >>= (λ (f : Questions.Found). ok (pick f.is_fill 2 1 ∷ f.item ∷ f.at.x ∷ f.at.y ∷ f.passed ∷ []))

pub record Line : Type 0 where
  pub question : Question
  pub answer : Answer (List ℕ)

infix 10 ◌says◌
abbrev pub ◌says◌ : Question → Answer (List ℕ) → Line
q says a = record { question = q; answer = a }

unfoldable pub sheet : List Line
sheet =
    -- a: grid body `00 00 05 07 0F C0 0B D0`: 6 rows, 8 columns, 4032 × 3024
    (body eight_columns says ok (6 ∷ 8 ∷ 4032 ∷ 3024 ∷ []))
    -- b: its 512 × 512 tiles, pixel (4031, 3023): tile 47 from 0, (447, 463). Item 48 is tile 47 from 0.
    ∷ (verdict (tiled 48 eight_columns) says ok (49 ∷ 49 ∷ []))
    ∷ (trace (tiled 48 eight_columns) 49 4031 3023 says ok (1 ∷ 48 ∷ 447 ∷ 463 ∷ 2 ∷ []))
    -- c: 7 columns, 42 tiles: 20
    ∷ (verdict (tiled 42 seven_columns) says refuse 20 43)
    -- d: 640 × 480, `irot` 1: 480 × 640, (0,0) from (639,0)
    ∷ (size (turned (irot_box 1 ∷ [])) 1 says ok (640 ∷ 480 ∷ 480 ∷ 640 ∷ 0 ∷ []))
    ∷ (trace (turned (irot_box 1 ∷ [])) 1 0 0 says ok (1 ∷ 1 ∷ 639 ∷ 0 ∷ 1 ∷ []))
    -- e: `irot` 3: from (0,479)
    ∷ (trace (turned (irot_box 3 ∷ [])) 1 0 0 says ok (1 ∷ 1 ∷ 0 ∷ 479 ∷ 1 ∷ []))
    -- f, by Q-1: "(0,0) from (0,0) for `irot` 1 then `imir` 0"
    ∷ (trace (turned (irot_box 1 ∷ imir_box 0 ∷ [])) 1 0 0 says ok (1 ∷ 1 ∷ 0 ∷ 0 ∷ 1 ∷ []))
    -- g, by Q-1: "from (639,479) for the other order"
    ∷ (trace (turned (imir_box 0 ∷ irot_box 1 ∷ [])) 1 0 0 says ok (1 ∷ 1 ∷ 639 ∷ 479 ∷ 1 ∷ []))
    -- h: `clap` 601/1 wide in 640, offset 1/2: left 20
    ∷ (trace (cropped (bytes 4 1 ++ bytes 4 2)) 1 0 0 says ok (1 ∷ 1 ∷ 20 ∷ 0 ∷ 1 ∷ []))
    -- i: -1/2: 19
    ∷ (trace (cropped (bytes 4 0xffffffff ++ bytes 4 2)) 1 0 0 says ok (1 ∷ 1 ∷ 19 ∷ 0 ∷ 1 ∷ []))
    -- j: 0/1: 20 as refusal
    ∷ (verdict (cropped (bytes 4 0 ++ bytes 4 1)) says refuse 20 1)
    -- k: overlay 10 × 10, A 4 × 4 at (-2,0), B 4 × 4 at (1,1): (1,1) is B (0,0); (0,0) is A (2,0); (9,9) fill
    ∷ (trace layered 3 1 1 says ok (1 ∷ 2 ∷ 0 ∷ 0 ∷ 2 ∷ []))
    ∷ (trace layered 3 0 0 says ok (1 ∷ 1 ∷ 2 ∷ 0 ∷ 2 ∷ []))
    ∷ (trace layered 3 9 9 says ok (2 ∷ 3 ∷ 9 ∷ 9 ∷ 1 ∷ []))
    -- l: sixteen `iden` in a row accepted; seventeen: 19
    ∷ (verdict (in_a_row 16) says ok (17 ∷ 17 ∷ []))
    ∷ (verdict (in_a_row 17) says refuse 19 18)
    ∷ []
