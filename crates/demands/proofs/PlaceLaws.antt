-- Where boxes begin: in a content, behind each other, and in the head. Assumes nothing.
--   Each total head P s at    whatever begins in s, which begins at `at`, behind boxes with P of each, is a box of the head
--   Found s k at p b          the content s, which begins at `at`, holds the box b of type k at p
use Prim.Native.Nat.{ℕ, ◌+◌, ◌≤◌}
use native.Mathlib.Omega.{arith}
use mathlib.Core.Path.{◌≡◌, refl, sym, ap, ◌∙◌, subst}
use mathlib.Core.List.{List, [], ◌∷◌, ◌++◌, append_assoc}
use mathlib.Core.Bool.{Bool, true, false}
use mathlib.Core.Logic.{◌⊎◌, inl, inr}
use lib.ListN.{length, take, drop, length-append, length-drop, take-append-drop}
use lib.Dec.{leb, eqb}
use borrow.Author.Tests.{ltb-false, leb-true, eqb-true, eqb-false}
use Rattle.fields.specs.Choice.{pick}
use Rattle.fields.specs.Field.{be_at}
use Rattle.fields.specs.Lists.{All}
use Rattle.fields.proofs.FieldLaws.{both, be_front}
use Rattle.fields.proofs.TestLaws.{and_both}
use Rattle.boxes.specs.Answer.{ok}
use Rattle.boxes.specs.Types.{ftyp, meta, iinf, ipco, ipma}
use Rattle.boxes.specs.Box.{head_of, size_of, kind_of, body_of, IsBox, flat, starts}
use Rattle.boxes.specs.Children.{of_kind, first_or, place_of}
use Rattle.boxes.specs.Top.{Look, bad, look, branded, FirstMeta}
use Rattle.boxes.proofs.AnswerLaws.{then_ok, check-ok, ok_inj}
use Rattle.boxes.proofs.BoxLaws.{head_least, short_head, front_length}
use Rattle.forms.proofs.SpellLaws.{give_out, demand_out, field-long, bind_out}
use Rattle.contents.specs.Full.{Full, full, upto, id_bytes}
use Rattle.contents.specs.Iinf.{iinf-count}
use Rattle.contents.specs.Iprp.{Pair, pair_of}
use Rattle.contents.proofs.FullLaws.{full_out}
use Rattle.demands.specs.Places.{Begins, Passed, Opens, iinf-zero, iinf-one, Content, of_meta, of_box, BoxAt, at_top, inside}

-- a box and its content
pub box-long : (b : List ℕ) → IsBox b → 8 ≤ length b
box-long b h = let k = h.header in omega (arith, head_least b)

pub body-room : (b : List ℕ) → head_of b ≤ length b → head_of b + length (body_of b) ≡ length b
body-room b h = rw length-drop (omega arith)

-- Begins: the content itself, and behind one box more
module _ (P : List ℕ → Type 0) where
  pub begins_first : (s : List ℕ) (at : ℕ) → Begins P s at s at
  unfolding flat
  begins_first s at = record {
    before = [];
    all = tt;
    joined = refl;
    where_it_is = (let z : at ≡ at + 0 = omega arith in z);
  }

  pub begins_behind : (b s t : List ℕ) (at p : ℕ) → P b → Begins P s (at + length b) t p → Begins P (b ++ s) at t p
  unfolding flat
  begins_behind b s t at p h w =
      let l = length-append b (flat w.before) in
      record {
        before = b ∷ w.before;
        all = (h, w.all);
        joined = append_assoc b (flat w.before) t ∙ ap (λ (r : List ℕ). b ++ r) w.joined;
        where_it_is = w.where_it_is ∙
            (let e : at + length b + length (flat w.before) ≡ at + length (b ++ flat w.before) = omega arith in e);
      }

-- Each
abbrev pub Each : ℕ → List ℕ → (List ℕ → Type 0) → List ℕ → ℕ → Type 0
Each total head P s at = (t : List ℕ) (p : ℕ) → Begins P s at t p → 8 ≤ length t → BoxAt total head p

module _ {total : ℕ} {head : List ℕ} {P : List ℕ → Type 0} where
  pub each_first : (s : List ℕ) (at : ℕ) → Each total head P s at → 8 ≤ length s → BoxAt total head at
  each_first s at g l = g s at (begins_first P s at) l

  pub each-behind : (b s : List ℕ) (at : ℕ) → P b → Each total head P (b ++ s) at → Each total head P s (at + length b)
  each-behind b s at h g = λ t p w l. g t p (begins_behind P b s t at p h w) l

  pub each-joined : (b s r : List ℕ) (at : ℕ) → Each total head P ((b ++ s) ++ r) at →
      Each total head P (b ++ (s ++ r)) at
  each-joined b s r at g = subst (λ (v : List ℕ). Each total head P v at) (append_assoc b s r) g

  pub each-rest : (bs : List (List ℕ)) (r : List ℕ) (at : ℕ) → All P bs → Each total head P (flat bs ++ r) at →
      Each total head P r (at + length (flat bs))
  unfolding flat
  each-rest [] r at a g = let e : at ≡ at + 0 = omega arith in subst (λ (i : ℕ). Each total head P r i) e g
  each-rest (b ∷ bs) r at a g =
      let l = length-append b (flat bs) in
      let e : at + length b + length (flat bs) ≡ at + length (b ++ flat bs) = omega arith in
      subst (λ (i : ℕ). Each total head P r i) e
      (each-rest bs r (at + length b) a.1 (each-behind b (flat bs ++ r) at a.0 (each-joined b (flat bs) r at g)))

  -- behind the box at the front of s
  pub each_next : (s : List ℕ) (at m q : ℕ) → starts s ≡ true → m ≡ size_of s → q ≡ at + m → P (take (size_of s) s) →
      Each total head P s at → Each total head P (drop m s) q
  each_next s at m q o e i h g =
      let k : at + length (take (size_of s) s) ≡ q = ap (λ (n : ℕ). at + n) (front_length s o ∙ sym e) ∙ sym i in
      let w = each-behind (take (size_of s) s) (drop (size_of s) s) at h
      (subst (λ (v : List ℕ). Each total head P v at) (sym (take-append-drop (size_of s) s)) g) in
      subst (λ (n : ℕ). Each total head P (drop n s) q) (sym e)
      (subst (λ (n : ℕ). Each total head P (drop (size_of s) s) n) k w)

  -- nothing begins in nothing
  pub each_none : (s : List ℕ) (at : ℕ) → length s ≡ 0 → Each total head P s at
  each_none s at e = λ t p w l. let j = rw length-append at (ap length w.joined) in absurd (omega arith)

-- Content
module _ {total : ℕ} {head : List ℕ} where
  pub content_each : {kind at : ℕ} {s : List ℕ} → Content total head kind at s → Each total head IsBox s at
  content_each c = λ t p w l. inside t c w l

-- Found
pub record Found (s : List ℕ) (k at p : ℕ) (b : List ℕ) : Type 0 where
  pub behind : List ℕ
  pub begins : Begins IsBox s at (b ++ behind) p
  pub box : IsBox b
  pub kind : kind_of b ≡ k

found : (k at : ℕ) (bs : List (List ℕ)) (b : List ℕ) (cs : List (List ℕ)) → All IsBox bs → of_kind k bs ≡ b ∷ cs →
    Found (flat bs) k at (place_of k at bs) b
unfolding place_of flat of_kind pick
found k at [] b cs a e = let z : ◌≡◌ {A = ℕ} 0 1 = cc in absurd (omega arith)
found k at (c ∷ bs) b cs a e = by (eqb (kind_of c) k) refl e (found k (at + length c) bs b cs a.1)
  where
    by : (t : Bool) → eqb (kind_of c) k ≡ t → pick t (c ∷ of_kind k bs) (of_kind k bs) ≡ b ∷ cs →
        (of_kind k bs ≡ b ∷ cs → Found (flat bs) k (at + length c) (place_of k (at + length c) bs) b) →
        Found (c ++ flat bs) k at (pick t at (place_of k (at + length c) bs)) b
    by true q e rec =
        let z : c ≡ b = cc in
        subst (λ (d : List ℕ). Found (c ++ flat bs) k at at d) z
        (record {
          behind = flat bs;
          begins = begins_first IsBox (c ++ flat bs) at;
          box = a.0;
          kind = eqb-true (kind_of c) k q;
        })
    by false q e rec =
        let w = rec e in
        record {
          behind = w.behind;
          begins = begins_behind IsBox c (flat bs) (b ++ w.behind) at (place_of k (at + length c) bs) a.0
              w.begins;
          box = w.box;
          kind = w.kind;
        }

pub found_of : (k at : ℕ) (bs : List (List ℕ)) (s b : List ℕ) (cs : List (List ℕ)) → All IsBox bs → flat bs ≡ s →
    of_kind k bs ≡ b ∷ cs → Found s k at (place_of k at bs) b
found_of k at bs s b cs a j e = subst (λ (t : List ℕ). Found t k at (place_of k at bs) b) j (found k at bs b cs a e)

pub first-ok : (p : ℕ) (l : List (List ℕ)) (b : List ℕ) → first_or p l ≡ ok b → (cs : List (List ℕ)) × (l ≡ b ∷ cs)
unfolding first_or
first-ok p [] b e = let z : ◌≡◌ {A = ℕ} 0 1 = cc in absurd (omega arith)
first-ok p (c ∷ cs) b e = (cs, ap (λ (x : List ℕ). x ∷ cs) (ok_inj c b e))

-- the two boxes of an `iprp`
abbrev pub Pairs : List ℕ → ℕ → Pair → Type 0
Pairs s at two = Found s ipco at at two.first × Found s ipma at (at + length two.first) two.second

pair_found : (p at : ℕ) (bs : List (List ℕ)) (two : Pair) → All IsBox bs → pair_of p bs ≡ ok two → Pairs (flat bs) at two
unfolding pair_of flat
pair_found p at [] two a e = let z : ◌≡◌ {A = ℕ} 0 1 = cc in absurd (omega arith)
pair_found p at (c ∷ []) two a e = let z : ◌≡◌ {A = ℕ} 0 1 = cc in absurd (omega arith)
pair_found p at (c ∷ d ∷ []) two a e =
    let x = then_ok _ _ two e in
    let k = and_both (eqb (kind_of c) ipco) _ (check-ok 7 p _ x.0 x.1) in
    subst (Pairs (c ++ (d ++ [])) at) (ok_inj _ two x.2) (
      record { behind = d ++ []; begins = begins_first IsBox _ at; box = a.0; kind = eqb-true _ _ k.0 },
      record {
        behind = [];
        begins = begins_behind IsBox c (d ++ []) (d ++ []) at (at + length c) a.0 (begins_first IsBox _ _);
        box = a.1.0;
        kind = eqb-true _ _ k.1;
      },
    )
pair_found p at (c ∷ d ∷ f ∷ bs) two a e = let z : ◌≡◌ {A = ℕ} 0 1 = cc in absurd (omega arith)

pub pairs_of : (p at : ℕ) (bs : List (List ℕ)) (s : List ℕ) (two : Pair) → All IsBox bs → flat bs ≡ s →
    pair_of p bs ≡ ok two → Pairs s at two
pairs_of p at bs s two a j e = subst (λ (t : List ℕ). Pairs t at two) j (pair_found p at bs two a e)

-- a box that is found begins there, and its content is one if it is read into
module _ {total : ℕ} {head : List ℕ} {outer at k p : ℕ} {s b : List ℕ} (c : Content total head outer at s)
    (f : Found s k at p b) where
  pub found-box : BoxAt total head p
  found-box = inside (b ++ f.behind) c f.begins (rw length-append (let l = box-long b f.box in omega arith))

  pub found_content : (u r : List ℕ) → u ++ r ≡ body_of b → Opens outer k u →
      Content total head k (p + head_of b + length u) r
  found_content u r j o =
      subst (λ (i : ℕ). Content total head i (p + head_of b + length u) r) f.kind
      (of_box b f.behind c f.begins f.box j (subst (λ (i : ℕ). Opens outer i u) (sym f.kind) o))

  pub found_plain : Opens outer k [] → Content total head k (p + head_of b) (body_of b)
  found_plain o =
      let e : p + head_of b + 0 ≡ p + head_of b = omega arith in
      subst (λ (i : ℕ). Content total head k i (body_of b)) e (found_content [] (body_of b) refl o)

-- the fields of `iinf`
full_allowed : (allowed : ℕ → Bool) (l : List ℕ) (v : Full) → (full allowed).Spells l v → allowed v.version ≡ true
unfolding full
full_allowed allowed l v h =
    let j = bind_out _ _ l v h in
    let c = demand_out 6 _ _ j.right v j.then in
    let k = bind_out _ _ j.right v c.1 in
    let g = give_out _ v k.right k.then in
    ap (λ (a : Full). allowed a.version) g.1 ∙ c.0

pub full-opens : (n : ℕ) (u : List ℕ) (v : Full) → (full (upto n)).Spells u v → (be_at u 0 1 ≤ n) × (length u ≡ 4)
full-opens n u v h =
    let x = full_out _ u v h in
    let l = leb-true v.version n (and_both (leb 0 v.version) (leb v.version n) (full_allowed _ u v h)).1 in
    (rw (← x.1) l, x.0)

version-opens : (u : List ℕ) (v : ℕ) → upto 1 v ≡ true → be_at u 0 1 ≡ v → length u ≡ 4 + id_bytes v → Opens meta iinf u
unfolding pick
version-opens u v a e l = by (eqb v 0) refl l
  where
    most : v ≤ 1
    most = leb-true v 1 (and_both (leb 0 v) (leb v 1) a).1

    by : (t : Bool) → eqb v 0 ≡ t → length u ≡ 4 + pick t 2 4 → Opens meta iinf u
    by true q i = iinf-zero (e ∙ eqb-true v 0 q) i
    by false q i = let m = most in let z : v ≡ 1 = omega (arith, eqb-false v 0 q) in iinf-one (e ∙ z) i

pub count-opens : (u : List ℕ) (n : ℕ) → iinf-count.Spells u n → Opens meta iinf u
unfolding iinf-count
count-opens u n h =
    let j = bind_out _ _ u n h in
    let k = bind_out _ _ j.right n j.then in
    let c = demand_out 9 _ _ k.right n k.then in
    let g = give_out _ n k.right c.1 in
    let x = full_out _ j.left j.value j.first in
    let y = field-long _ k.left k.value k.first in
    let z = ap length g.0 in
    let l = rw length-append at (ap length j.join) in
    let m = rw length-append at (ap length k.join) in
    let w = x.0 in
    let v : be_at u 0 1 ≡ j.value.version = ap (λ (r : List ℕ). be_at r 0 1) (sym j.join)
    ∙ be_front j.left j.right 0 1 (omega arith) ∙ sym x.1 in
    version-opens u j.value.version (full_allowed _ j.left j.value j.first) v (omega arith)

-- the top level
pub look-bad : (n : ℕ) (s : List ℕ) → look n s ≡ bad → 8 ≤ length s
unfolding look
look-bad n s =
    both (λ (l : Look). l ≡ bad → 8 ≤ length s) _ _ _ (λ e q. let z : ◌≡◌ {A = ℕ} 0 1 = cc in absurd (omega arith))
    (λ e q. let l = ltb-false (length s) (head_of s) e in omega (arith, head_least s))

pub branded-passed : (b : List ℕ) → IsBox b → branded b ≡ true → Passed b
unfolding branded
branded-passed b h e =
    let k : kind_of b ≡ ftyp = eqb-true (kind_of b) ftyp (and_both (eqb (kind_of b) ftyp) _ e).0 in
    record { box = h; other = λ m. absurd (omega arith) }

pub passed-all : (bs : List (List ℕ)) → All IsBox bs → All (λ (b : List ℕ). kind_of b ≡ meta → ⊥) bs → All Passed bs
passed-all [] a n = tt
passed-all (b ∷ bs) a n = (record { box = a.0; other = n.0 }, passed-all bs a.1 n.1)

module _ {total : ℕ} {head m : List ℕ} {place : ℕ} (f : FirstMeta total head m place) where
  pub meta-header : (head_of m ≤ length m) × (8 ≤ length m)
  meta-header = by f.size
    where
      by : IsBox m ⊎ ((be_at m 0 4 ≡ 0) × (8 ≤ length m) × (f.behind ≡ []) × (total ≡ length head)) →
          (head_of m ≤ length m) × (8 ≤ length m)
      by (inl b) = (b.header, box-long m b)
      by (inr x) = let h = (short_head m (λ e. absurd (omega arith))).0 in (omega arith, x.1)

  -- a `meta` begins where it is
  pub meta-box : BoxAt total head place
  unfolding flat
  meta-box =
      let p = f.where_it_is in
      let l = length-append f.first (flat f.before) in
      at_top (m ++ f.behind) (record {
        before = f.first ∷ f.before;
        all = (branded-passed f.first f.box f.brand, passed-all f.before f.all f.none);
        joined = append_assoc f.first (flat f.before) (m ++ f.behind) ∙ f.joined;
        where_it_is = (let e : place ≡ 0 + length (f.first ++ flat f.before) = omega arith in e);
      }) (let h = meta-header.1 in rw length-append (omega arith))

  -- and lies in the head
  pub meta-room : place + head_of m + length (body_of m) ≤ length head
  meta-room =
      let l = rw (length-append, length-append, length-append) at (ap length f.joined) in
      let w = body-room m meta-header.0 in
      let p = f.where_it_is in
      omega arith

-- what is said of the head lies in it
module _ {total : ℕ} {head : List ℕ} where
  content_room : {kind at : ℕ} {s : List ℕ} → Content total head kind at s → at + length s ≤ length head
  content_room (of_meta {m} {s} {place} fields f j v l) =
      let w = meta-room f in
      let e = rw length-append at (ap length j) in
      omega arith
  content_room (of_box {outer} {at} {p} {t} {s} {fields} b behind c w h j o) =
      let r = content_room c in
      let e = rw length-append at (ap length j) in
      let l = rw (length-append, length-append) at (ap length w.joined) in
      let i = w.where_it_is in
      let k = body-room b h.header in
      omega arith

  pub box-room : {p : ℕ} → BoxAt total head p → p + 8 ≤ length head
  box-room (at_top t w l) =
      let e = rw length-append at (ap length w.joined) in
      let i = w.where_it_is in
      omega arith
  box-room (inside t c w l) =
      let r = content_room c in
      let e = rw length-append at (ap length w.joined) in
      let i = w.where_it_is in
      omega arith
