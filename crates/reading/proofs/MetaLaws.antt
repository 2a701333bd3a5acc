-- The children of `meta`, the version before them, and the head around them. Assumes nothing.
use Prim.Native.Nat.{ℕ, ◌+◌, ◌-◌, ◌≤◌, ◌<◌}
use native.Mathlib.Omega.{arith}
use mathlib.Core.Path.{◌≡◌, refl, sym, ap, ◌∙◌, subst}
use mathlib.Core.List.{List, []}
use lib.ListN.{length, drop, length-drop}
use borrow.Author.Tests.{le-leb, lt-leb}
use Rattle.fields.specs.Lists.{All}
use Rattle.boxes.specs.Answer.{ok, refuse, check, ◌>>=◌, ◌>>◌}
use Rattle.boxes.specs.Types.{known}
use Rattle.boxes.specs.Box.{head_of, body_of, IsBox, Cut, cut}
use Rattle.boxes.specs.Children.{children}
use Rattle.boxes.specs.Top.{meta_in}
use Rattle.boxes.specs.Top as Top
use Rattle.boxes.specs.declared.Spot.{Spot}
use Rattle.boxes.specs.declared.Refusal.{Refusal}
use Rattle.boxes.proofs.AnswerLaws.{ok_bind, ok-then, ok-check, refuse_bind}
use Rattle.boxes.proofs.BoxLaws.{cut-only, full-cut}
use Rattle.boxes.proofs.ChildLaws.{children-sound}
use Rattle.forms.specs.Lead.{lead, lead_by}
use Rattle.contents.specs.Full.{full, upto}
use Rattle.contents.specs.declared.Full as code
use Rattle.contents.specs.File.{contents_of, file_of, read_file}
use Rattle.contents.proofs.FullLaws.{FullHere}
use Rattle.rules.specs.Places.{places_at, places_by, places_in}
use Rattle.reading.specs.inner.Parts.{kids, Five, Standing, spots_in, from_handler}
use Rattle.reading.proofs.PartLaws.{contents_parts}

-- kids: the children that are read are those that the content is cut into
module _ (p at : ℕ) (s : List ℕ) (bs : List (List ℕ)) (e : children known p at s ≡ ok bs) where
  pub kids_are : cut s ≡ record { boxes = bs; rest = [] }
  kids_are = let c = children-sound known p at s bs e in cut-only s bs [] (full-cut s bs c.all c.joined)

  boxes_are : kids s ≡ bs
  boxes_are = ap (λ (c : Cut). c.boxes) kids_are

  pub kids-all : All IsBox bs
  kids-all = (children-sound known p at s bs e).all

  pub standing : (spots : List Spot) → spots ≡ spots_in bs → Five bs → Standing s spots
  standing spots q f =
      record {
        rest = ap (λ (c : Cut). c.rest) kids_are;
        five = subst Five (sym boxes_are) f;
        spots_are = q ∙ ap spots_in (sym boxes_are);
      }

  pub contents_kids : Five bs → contents_of p at s ≡ from_handler at (kids s)
  contents_kids f = contents_parts p at s bs e f ∙ ap (from_handler at) (sym boxes_are)

-- file_of
module _ (p at : ℕ) (s : List ℕ) where
  pub file_gone : (r : Refusal) → (full (upto 0)).read p s ≡ refuse r.number r.place → file_of p at s ≡ refuse r.number r.place
  unfolding file_of lead lead_by
  file_gone r e = rw e

  pub file-here : (v : code.Full) → FullHere (upto 0) p s v → file_of p at s ≡ contents_of p (at + 4) (drop 4 s)
  unfolding file_of lead lead_by
  file-here v h =
      let l = h.room in
      let k : length s - length (drop 4 s) ≡ 4 = rw length-drop (omega arith) in
      rw (h.read, k) refl

-- read_file
module _ (total : ℕ) (head : List ℕ) where
  pub read-long : 65536 < length head → read_file total head ≡ refuse 2 0
  unfolding read_file check ◌>>◌
  read-long h = rw (lt-leb (length head) 65536 h) refl

  pub read_short : length head ≤ 65536 → total < length head → read_file total head ≡ refuse 2 0
  unfolding read_file check ◌>>◌
  read_short h k = rw (le-leb (length head) 65536 h, lt-leb (length head) total k) refl

  module _ (h : length head ≤ 65536) (k : length head ≤ total) where
    opened : read_file total head ≡ (meta_in total head >>= (λ m. file_of m.place (m.place + head_of m.box) (body_of m.box)))
    unfolding read_file
    opened = ok-then _ _ tt (ok-check 2 0 _ (rw (le-leb (length head) 65536 h, le-leb (length head) total k) refl))

    pub read_gone : (r : Refusal) → meta_in total head ≡ refuse r.number r.place → read_file total head ≡ refuse r.number r.place
    read_gone r e = opened ∙ refuse_bind _ _ _ e _

    pub read-meta : (m : Top.PlacedBox) → meta_in total head ≡ ok m → read_file total head ≡ file_of m.place (m.place + head_of m.box) (body_of m.box)
    read-meta m e = opened ∙ ok_bind _ _ m e

-- places_in
pub places_are : (total : ℕ) (head : List ℕ) (m : Top.PlacedBox) → meta_in total head ≡ ok m →
    places_in total head ≡ places_at (m.place + head_of m.box + 4) (kids (drop 4 (body_of m.box)))
unfolding places_by
places_are total head m e = ap places_by e
