-- Going over an item's transforms from the first to the last. Assumes nothing.
--   Walked ts s p q o    the transforms ts are left, before which the picture has the size s; its pixels come from where o says; and
--                        p, a pixel after them, comes from q
use Rattle.std.proofs.Common.{◌≡◌, ℕ, ◌<◌, ◌≤◌, List, ◌∷◌, length, drop, ap, ◌∙◌, subst, arith, drop_of_length-le}
use Rattle.pictures.specs.declared.Size.{Size}
use Rattle.pictures.specs.declared.Point.{Point}
use Rattle.pictures.specs.declared.Turn.{Turn}
use Rattle.pictures.specs.declared.Turn.TheVariants.{Stay, Left, Half, Right, FlipX, FlipY, Crop, Misfit}
use Rattle.pictures.specs.Turn.{size_after, back, size_through, undone, Inside, Fits, AllFit}
use Rattle.pictures.specs.Decode.{turns_of}
use Rattle.pictures.proofs.TurnLaws.{inside-undone}
use Rattle.tracing.specs.declared.Origin.{Origin}
use Rattle.tracing.specs.inner.Origins.{origin_at}

-- the sides of a picture are numbers of 32 bits
abbrev Small : Size → Type 0
Small s = (s.wide < 4294967296) × (s.high < 4294967296)

small-after : (t : Turn) (s : Size) → Fits t s → Small s → Small (size_after t s)
unfolding size_after
small-after Stay s f h = h
small-after Left s f h = (h.1, h.0)
small-after Half s f h = h
small-after Right s f h = (h.1, h.0)
small-after FlipX s f h = h
small-after FlipY s f h = h
small-after (Crop l t w h) s f k = (omega (arith, f.0, k.0), omega (arith, f.1, k.1))
small-after Misfit s f h = absurd f

pub record Walked (ts : List Turn) (s : Size) (p q : Point) (o : Origin) : Type 0 where
  pub small : Small s
  pub fit : AllFit ts s
  pub inside : Inside (size_through ts s) p
  pub same : origin_at o (undone ts s p) ≡ q

pub walked-first : (ts : List Turn) (s : Size) (p : Point) (o : Origin) → Small s → AllFit ts s → Inside (size_through ts s) p →
    ((p : Point) → p.x < 4294967296 → p.y < 4294967296 → origin_at o p ≡ p) → Walked ts s p (undone ts s p) o
walked-first ts s p o h f i e =
    let k = inside-undone ts s p f i in
    record { small = h; fit = f; inside = i; same = e (undone ts s p) (omega (arith, k.in_x, h.0)) (omega (arith, k.in_y, h.1)) }

-- over one transform, whose pixels come from where g says: r is o, and g before it
pub walked_turn : (u : Turn) (ts : List Turn) (s : Size) (p q : Point) (o g r : Origin) → Walked (u ∷ ts) s p q o →
    ((p : Point) → Fits u s → Inside (size_after u s) p → origin_at g p ≡ back u s p) →
    ((p : Point) → p.x < 4294967296 → p.y < 4294967296 → origin_at r p ≡ origin_at o (origin_at g p)) → Walked ts (size_after u s) p q r
unfolding undone size_through
walked_turn u ts s p q o g r w h k =
    let f = w.fit in
    let z = small-after u s f.0 w.small in
    let i = inside-undone ts (size_after u s) p f.1 w.inside in
    record {
      small = z;
      fit = f.1;
      inside = w.inside;
      same = k _ (omega (arith, i.in_x, z.0)) (omega (arith, i.in_y, z.1)) ∙ ap (origin_at o) (h _ f.0 i) ∙ w.same;
    }

pub walked_end : (bs : List (List ℕ)) (k : ℕ) → length bs ≤ k → (s : Size) (p q : Point) (o : Origin) →
    Walked (turns_of s (drop k bs)) s p q o → origin_at o p ≡ q
unfolding undone turns_of
walked_end bs k h s p q o w =
    subst (λ (l : List (List ℕ)). origin_at o (undone (turns_of s l) s p) ≡ q) (drop_of_length-le bs h) w.same
