-- What transforms do to how a picture is drawn, box by box. Assumes nothing.
--   Front s b bs t        t is the first transform of the boxes b ∷ bs, or none is done by b
--   Leads ts s m us z n   from a picture of size s with margins m, ts make of it what us make of one of size z with margins n
use Prim.Native.Nat.{ℕ, ◌+◌, ◌≤◌, ◌<◌}
use native.Mathlib.Omega.{arith}
use mathlib.Core.Path.{◌≡◌, refl, sym, ap, ◌∙◌, subst}
use mathlib.Core.List.{List, [], ◌∷◌}
use mathlib.Core.Bool.{Bool, true, false}
use mathlib.Core.Logic.{◌⊎◌, inl, inr}
use lib.ListN.{length, get_or, drop, drop_of_length-le}
use Rattle.fields.proofs.FieldLaws.{pick_yes, pick_no, both}
use Rattle.boxes.specs.Box.{kind_of, body_of}
use Rattle.contents.specs.File.{File}
use Rattle.pictures.specs.declared.Size.{Size}
use Rattle.pictures.specs.declared.Turn.{Turn}
use Rattle.pictures.specs.declared.Turn.TheVariants.{Stay, Left, Half, Right, FlipX, FlipY, Crop, Misfit}
use Rattle.pictures.specs.Turn.{size_after, Fits, AllFit}
use Rattle.pictures.specs.Decode.{transform, turns_of}
use Rattle.pictures.specs.inner.Told.{LongAsAsked, turn_by}
use Rattle.rules.specs.Joined.{associations_of, boxes_of, types_of}
use Rattle.rules.specs.Places.{Places}
use Rattle.views.specs.inner.View.{TableOf}
use Rattle.fields.proofs.ListLaws.{left-from}
use Rattle.declared.proofs.SizeLaws.{kind_said, turn_read}
use Rattle.layout.specs.declared.margins.Margins.{Margins}
use Rattle.layout.specs.inner.Pose.{pose_of, composed_of}
use Rattle.layout.specs.inner.Margins.{margins_after}
use Rattle.turned.specs.inner.Turns.{done_by, posed, margins_through}

-- done_by: the box with number j, whose type is k
module _ {t head : List ℕ} {pl : Places} {f : File} (v : TableOf t head pl f) (id j : ℕ) (l : j < length (associations_of f id))
    (k : ℕ) (e : k ≡ get_or (types_of f id) j 0) (s : Size) where
  pub done-other : transform k ≡ false → Stay ≡ done_by s (get_or (boxes_of f id) j [])
  unfolding done_by
  done-other q = sym (pick_no _ _ (ap transform (sym (kind_said v id j l k e)) ∙ q))

  -- b is the box, and c its content
  pub done_turn : (b c : List ℕ) → b ≡ get_or (boxes_of f id) j [] → c ≡ body_of b → (u : Turn) → transform k ≡ true →
      (LongAsAsked k c → u ≡ turn_by s k c) → u ≡ done_by s (get_or (boxes_of f id) j [])
  unfolding done_by
  done_turn b c eb ec u q g = turn_read v id j l k e b c eb ec s u q g ∙ sym (pick_yes _ _ (ap transform (sym (kind_said v id j l k e)) ∙ q))

-- turns_of
abbrev Front : Size → List ℕ → List (List ℕ) → Turn → Type 0
Front s b bs t = (turns_of s (b ∷ bs) ≡ t ∷ turns_of (size_after t s) bs) ⊎ ((t ≡ Stay) × (turns_of s (b ∷ bs) ≡ turns_of s bs))

front : (s : Size) (b : List ℕ) (bs : List (List ℕ)) (x : Bool) → transform (kind_of b) ≡ x → (t : Turn) → t ≡ done_by s b → Front s b bs t
unfolding done_by turns_of
front s b bs true e t q = inl (pick_yes _ _ e ∙ ap (λ (u : Turn). u ∷ turns_of (size_after u s) bs) (sym (q ∙ pick_yes _ _ e)))
front s b bs false e t q = inr (q ∙ pick_no _ _ e, pick_no _ _ e)

-- posed
pub posed-below : (o i : ℕ) → composed_of o i < 8
unfolding composed_of
posed-below o i = both (λ (k : ℕ). k < 8) _ _ _ (λ e. omega arith) (λ e. omega arith)

stay-posed : (p : ℕ) → p < 8 → composed_of (pose_of Stay) p ≡ p
unfolding composed_of pose_of
stay-posed p h = pick_yes _ _ refl ∙ omega arith

posed-front : (s : Size) (b : List ℕ) (bs : List (List ℕ)) (t : Turn) (p : ℕ) → p < 8 → Front s b bs t →
    posed (turns_of s (b ∷ bs)) p ≡ posed (turns_of (size_after t s) bs) (composed_of (pose_of t) p)
unfolding posed size_after
posed-front s b bs t p h (inl a) = ap (λ (ts : List Turn). posed ts p) a
posed-front s b bs t p h (inr a) =
    ap (λ (ts : List Turn). posed ts p) a.1
    ∙ subst (λ (u : Turn). posed (turns_of s bs) p ≡ posed (turns_of (size_after u s) bs) (composed_of (pose_of u) p))
    (sym a.0) (ap (posed (turns_of s bs)) (sym (stay-posed p h)))

pub posed-none : (bs : List (List ℕ)) (j : ℕ) → length bs ≤ j → (s : Size) (p : ℕ) → posed (turns_of s (drop j bs)) p ≡ p
unfolding posed turns_of
posed-none bs j h s p = ap (λ (l : List (List ℕ)). posed (turns_of s l) p) (drop_of_length-le bs h)

-- margins
abbrev pub Small : Size → Margins → Type 0
Small s m = (m.left + s.wide + m.right ≤ 65535) × (m.top + s.high + m.bottom ≤ 65535)

-- margins_after: a picture and its margins make up one frame
frame-kept : (t : Turn) (s : Size) (m : Margins) → Fits t s → Small s m → Small (size_after t s) (margins_after t s m)
unfolding size_after margins_after
frame-kept Stay s m f h = h
frame-kept Left s m f h = (omega arith, omega arith)
frame-kept Half s m f h = (omega arith, omega arith)
frame-kept Right s m f h = (omega arith, omega arith)
frame-kept FlipX s m f h = (omega arith, omega arith)
frame-kept FlipY s m f h = (omega arith, omega arith)
frame-kept (Crop l t w k) s m f h = (omega arith, omega arith)
frame-kept Misfit s m f h = absurd f

abbrev pub Leads : List Turn → Size → Margins → List Turn → Size → Margins → Type 0
Leads ts s m us z n = AllFit ts s → Small s m → AllFit us z × (Small z n × (margins_through ts s m ≡ margins_through us z n))

abbrev Said : Turn → Size → Margins → Margins → Type 0
Said t s m n = Fits t s → m.left + s.wide + m.right ≤ 65535 → m.top + s.high + m.bottom ≤ 65535 → n ≡ margins_after t s m

leads_turn : (t : Turn) (ts : List Turn) (s : Size) (m n : Margins) → Said t s m n → Leads (t ∷ ts) s m ts (size_after t s) n
unfolding margins_through
leads_turn t ts s m n g fit h =
    let e = g fit.0 h.0 h.1 in
    (fit.1, (subst (Small (size_after t s)) (sym e) (frame-kept t s m fit.0 h), ap (margins_through ts (size_after t s)) (sym e)))

leads-stay : (ts : List Turn) (s : Size) (m n : Margins) → Said Stay s m n → Leads ts s m ts (size_after Stay s) n
unfolding size_after margins_after
leads-stay ts s m n g fit h =
    let e = g tt h.0 h.1 in
    (fit, (subst (Small s) (sym e) h, ap (margins_through ts s) (sym e)))

leads-front : (s : Size) (b : List ℕ) (bs : List (List ℕ)) (t : Turn) (m n : Margins) → Said t s m n → Front s b bs t →
    Leads (turns_of s (b ∷ bs)) s m (turns_of (size_after t s) bs) (size_after t s) n
unfolding size_after
leads-front s b bs t m n g (inl a) = subst (λ (ts : List Turn). Leads ts s m (turns_of (size_after t s) bs)
    (size_after t s) n) (sym a) (leads_turn t (turns_of (size_after t s) bs) s m n g)
leads-front s b bs t m n g (inr a) =
    subst (λ (ts : List Turn). Leads ts s m (turns_of (size_after t s) bs) (size_after t s) n) (sym a.1)
    (subst (λ (u : Turn). Leads (turns_of s bs) s m (turns_of (size_after u s) bs) (size_after u s) n) (sym a.0)
    (leads-stay (turns_of s bs) s m n (subst (λ (u : Turn). Said u s m n) a.0 g)))

pub leads-on : (ts us vs : List Turn) (r s z : Size) (k m n : Margins) → Leads ts r k us s m → Leads us s m vs z n → Leads ts r k vs z n
leads-on ts us vs r s z k m n g h fit q =
    let a = g fit q in
    let b = h a.0 a.1.0 in
    (b.0, (b.1.0, a.1.1 ∙ b.1.1))

pub leads-none : (bs : List (List ℕ)) (j : ℕ) → length bs ≤ j → (s : Size) (m : Margins) → margins_through (turns_of s (drop j bs)) s m ≡ m
unfolding margins_through turns_of
leads-none bs j h s m = ap (λ (l : List (List ℕ)). margins_through (turns_of s l) s m) (drop_of_length-le bs h)

-- the box with number j, which does t, and the size z after it
module _ (bs : List (List ℕ)) (j : ℕ) (h : j < length bs) (s z : Size) (t : Turn) (e : t ≡ done_by s (get_or bs j [])) (q : z ≡ size_after t s) where
  pub posed_next : (p : ℕ) → p < 8 → (r : ℕ) → r ≡ composed_of (pose_of t) p → posed (turns_of s (drop j bs)) p ≡ posed (turns_of z (drop (j + 1) bs)) r
  posed_next p l r w =
      ap (λ (x : List (List ℕ)). posed (turns_of s x) p) (left-from bs j [] h)
      ∙ posed-front s (get_or bs j []) (drop (j + 1) bs) t p l (front s (get_or bs j []) (drop (j + 1) bs) _ refl t e)
      ∙ rw (q, w)

  pub leads_next : (m n : Margins) → Said t s m n → Leads (turns_of s (drop j bs)) s m (turns_of z (drop (j + 1) bs)) z n
  leads_next m n g =
      subst (λ (x : Size). Leads (turns_of s (drop j bs)) s m (turns_of x (drop (j + 1) bs)) x n) (sym q)
      (subst (λ (x : List (List ℕ)). Leads (turns_of s x) s m (turns_of (size_after t s) (drop (j + 1) bs)) (size_after t s) n) (sym (left-from bs j [] h))
      (leads-front s (get_or bs j []) (drop (j + 1) bs) t m n g (front s (get_or bs j []) (drop (j + 1) bs) _ refl t e)))
