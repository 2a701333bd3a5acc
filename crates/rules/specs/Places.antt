-- Where things stand in the head: the only offsets that answers and table show.
--   Places                    where the first property begins, and where the content of `idat` begins
--   places_in total head       those of a head; what they are for a head without `meta` does not matter
--   property_offset pl f k     where the property with index k begins; 0 for index 0
--   file_offset pl l e         where an extent begins, counted from the file's start
use Rattle.std.specs.Prelude.{ℕ, ◌+◌, ◌-◌, List, [], length, get_or, take, drop, eqb}
use Rattle.fields.specs.Choice.{pick}
use Rattle.boxes.specs.Answer.{Answer, ok, refuse}
use Rattle.boxes.specs.Types.{iprp, idat}
use Rattle.boxes.specs.Box.{head_of, body_of, flat, cut}
use Rattle.boxes.specs.Children.{of_kind, filled, place_of}
use Rattle.boxes.specs.Top.{PlacedBox, meta_in}
use Rattle.contents.specs.Iloc.{Extent, Location}
use Rattle.contents.specs.File.{File}

pub record Places : Type 0 where
  pub properties : ℕ
  pub idat : ℕ

-- the first box of a type among bs; nothing where there is none
abbrev pub first_of : ℕ → List (List ℕ) → List ℕ
first_of k bs = get_or (of_kind k bs) 0 []

-- bs the children of `meta`, the first of them at `at`. `ipco` is the first box in `iprp`. Where there is no `idat` nothing begins in it: 0.
unfoldable pub places_at : ℕ → List (List ℕ) → Places
places_at at bs =
    record {
      properties = place_of iprp at bs + head_of (first_of iprp bs) + head_of (body_of (first_of iprp bs));
      idat = pick (filled (of_kind idat bs)) (place_of idat at bs + head_of (first_of idat bs)) 0;
    }

-- the children of `meta` begin 4 bytes into its content
unfoldable pub places_by : Answer PlacedBox → Places
places_by (ok m) = places_at (m.place + head_of m.box + 4) (cut (drop 4 (body_of m.box))).boxes
places_by (refuse n p) = record { properties = 0; idat = 0 }

abbrev pub places_in : ℕ → List ℕ → Places
places_in total head = places_by (meta_in total head)

unfoldable pub property_offset : Places → File → ℕ → ℕ
property_offset pl f k = pick (eqb k 0) 0 (pl.properties + length (flat (take (k - 1) f.properties)))

-- "Method 0 counts from the file's start, method 1 from the content of `idat`"
unfoldable pub file_offset : Places → Location → Extent → ℕ
file_offset pl l e = pick (eqb l.method 1) pl.idat 0 + (l.base + e.offset)
