-- Demand 3: in a file that keeps the rules a path meets no missing item or property. Assumes nothing.
use Prim.Native.Nat.{ℕ, zero, suc, ◌+◌, ◌-◌, ◌≤◌, ◌<◌}
use native.Mathlib.Nat.{zero-add}
use native.Mathlib.Decide.{dec_lt}
use native.Mathlib.Omega.{arith}
use mathlib.Core.Path.{◌≡◌, refl, sym, ap, subst, ◌∙◌}
use mathlib.Core.List.{List, [], ◌∷◌, ◌++◌, map}
use mathlib.Core.Bool.{Bool, true, false}
use mathlib.Core.Logic.{inl, inr}
use lib.ListN.{length, get_or, take, drop, length-append, length-map, get_or-eq_default}
use lib.Seq.{length-take-le, split_at, get_or_at}
use lib.Dec.{eqb}
use borrow.Author.Tests.{eqb-true, eqb-false, eq-eqb, ne_eqb}
use Rattle.fields.specs.Lists.{All}
use Rattle.fields.proofs.FieldLaws.{pick_yes, pick_no}
use Rattle.fields.proofs.TestLaws.{and_both}
use Rattle.fields.proofs.ListLaws.{all_more, all_both}
use Rattle.boxes.specs.Answer.{ok}
use Rattle.boxes.specs.Types.{ispe, known_property, image}
use Rattle.boxes.specs.Box.{kind_of, IsBox}
use Rattle.boxes.proofs.AnswerLaws.{then_ok, check-ok}
use Rattle.contents.specs.Iinf.{Item}
use Rattle.contents.specs.Ipma.{Association}
use Rattle.contents.specs.File.{File}
use Rattle.contents.proofs.PropertyLaws.{Good}
use Rattle.contents.proofs.ReadLaws.{read-complete}
use Rattle.pictures.specs.declared.Size.{Size}
use Rattle.pictures.specs.declared.Point.{Point}
use Rattle.pictures.specs.Turn.{size, Inside}
use Rattle.pictures.specs.Decode.{ispe_of, turns_of}
use Rattle.pictures.specs.Recipe.{Recipe, Coded, Copy, Opaque, Tiles, Layers}
use Rattle.pictures.specs.Scene.{Picture, Scene, picture_at, first_input, covered, all_size, made_up}
use Rattle.pictures.specs.Trace.{End, undo_turns, Reached, Path, at-pixel, at_fill, through}
use Rattle.pictures.specs.inner.GoodScene.{Shaped}
use Rattle.pictures.proofs.SceneLaws.{same_size_lem, is-made_up}
use Rattle.pictures.proofs.SourceLaws.{tile_in_lem}
use Rattle.pictures.proofs.PathLaws.{good-picture}
use Rattle.rules.specs.Joined.{associations_of, targets_of, property_at, boxes_of, types_of, row_of, no_association, no_item, item_at}
use Rattle.rules.specs.Places.{places_in}
use Rattle.rules.specs.Derivations.{declared_in, scene_of}
use Rattle.rules.specs.Rules.{count_of, rule15-29-16, judged}
use Rattle.rules.proofs.RuleLaws.{Judged, judged-each}
use Rattle.rules.proofs.SceneLaws.{judged-good, opaque-at, declared-at, turns_at, inputs-at, inputs-fed}
use Rattle.views.specs.inner.View.{Sound}
use Rattle.views.proofs.SoundLaws.{read_makes_sure}
use Rattle.views.proofs.TableLaws.{property-none, property-some, no_kind}
use Rattle.faults.specs.Fault.{Any, unknown, n15}
use Rattle.faults.specs.Good.{GoodFile}
use Rattle.faults.proofs.JudgedLaws.{good-judged}
use Rattle.demands.specs.Call.{IsListed, IsPicture}
use Rattle.demands.specs.Met.{Stands, HasIndex, There, names-nothing, names-box, NoIspe, OneIspe, Met, HasInput, stops_of, MetAt, MeetsOnly}

module _ {A : Type 0} where
  -- Stands: what a lookup finds below the length, and nothing else
  stands_at : (l : List A) (n : ℕ) (d : A) → n < length l → Stands l n (get_or l n d)
  stands_at l n d h =
      record {
        before = take n l;
        behind = drop (suc n) l;
        joined = sym (split_at l n d h);
        count = length-take-le n l (omega arith);
      }

  stands-is : (l : List A) (n : ℕ) (x d : A) → Stands l n x → get_or l n d ≡ x
  stands-is l n x d h =
      subst (λ (m : List A). get_or m n d ≡ x) h.joined (get_or_at h.before x h.behind d n h.count)

  stands-below : (l : List A) (n : ℕ) (x : A) → Stands l n x → n < length l
  stands-below l n x h =
      omega (arith, ap length h.joined, length-append h.before (x ∷ h.behind), h.count)

  -- All
  all_middle : (P : A → Type 0) (xs : List A) (x : A) (ys : List A) → All P (xs ++ (x ∷ ys)) → P x
  all_middle P [] x ys a = a.0
  all_middle P (y ∷ xs) x ys a = all_middle P xs x ys a.1

  all-front : (P : A → Type 0) (xs ys : List A) → All P (xs ++ ys) → All P xs
  all-front P [] ys a = tt
  all-front P (x ∷ xs) ys a = (a.0, all-front P xs ys a.1)

  all_places : (P : A → Type 0) (d : A) (l : List A) → ((j : ℕ) → j < length l → P (get_or l j d)) → All P l
  all_places P d [] h = tt
  all_places P d (x ∷ l) h = (h zero (omega arith), all_places P d l (λ j k. h (suc j) (omega (arith, k))))

  all-never : (P : A → Type 0) (l : List A) → (Any P l → ⊥) → All (λ (x : A). P x → ⊥) l
  all-never P [] h = tt
  all-never P (x ∷ l) h = (λ w. h (inl w), all-never P l (λ w. h (inr w)))

  stands-all : (P : A → Type 0) (l : List A) (n : ℕ) (x : A) → Stands l n x → All P l → P x
  stands-all P l n x h a = all_middle P h.before x h.behind (subst (All P) (sym h.joined) a)

-- what is ruled out: a row past the last, an index past the last property, and to name no property at all
pub met-listed : (f : File) (r : ℕ) → Met f r → r < length f.items
met-listed f r m = stands-below f.items r m.item m.listed

pub there-listed : (f : File) (a : Association) → There f a → a.index ≤ length f.properties
there-listed f a (names-nothing z q) = omega arith
there-listed f a (names-box b h i c) = omega (arith, h.0, stands-below f.properties (a.index - 1) b h.1)

pub met_some : (f : File) (r : ℕ) (m : Met f r) → 0 < length (associations_of f m.item.id)
met_some f r m =
    let o = m.declares in
    omega (arith, ap length o.joined, length-append o.before (o.one ∷ o.behind))

module _ (f : File) where
  -- HasIndex: what a lookup by index finds, where it is a box
  indexed : (k : ℕ) → 1 ≤ k → k ≤ length f.properties → HasIndex f k (property_at f k)
  indexed k h l =
      let e = property-some f k (λ z. omega (arith, h, z)) in
      (h, subst (Stands f.properties (k - 1)) (sym e) (stands_at f.properties (k - 1) [] (omega arith)))

  index-box : (k : ℕ) (b : List ℕ) → HasIndex f k b → property_at f k ≡ b
  index-box k b h = property-some f k (λ z. omega (arith, h.0, z)) ∙ stands-is f.properties (k - 1) b [] h.1

  index-some : (k : ℕ) → (kind_of (property_at f k) ≡ 0 → ⊥) → 1 ≤ k
  index-some k n = elim (dec_lt 0 k) [
    | yes l ↦ omega (arith, l)
    | no m ↦ absurd (n (ap kind_of (property-none f k (omega (arith, m))) ∙ no_kind))
  ]

  index-most : (k : ℕ) → (kind_of (property_at f k) ≡ 0 → ⊥) → k ≤ length f.properties
  index-most k n = elim (dec_lt (length f.properties) k) [
    | yes l ↦ absurd (n (ap kind_of (past l) ∙ no_kind))
    | no m ↦ omega (arith, m)
  ]
    where
      past : length f.properties < k → property_at f k ≡ []
      past l =
          property-some f k (λ z. omega (arith, l, z))
          ∙ get_or-eq_default f.properties [] {n = k - 1} (omega (arith, l))

  ispe-indexed : (k : ℕ) → kind_of (property_at f k) ≡ ispe → HasIndex f k (property_at f k)
  ispe-indexed k e =
      let n : kind_of (property_at f k) ≡ 0 → ⊥ = λ z. omega (arith, e, z) in
      indexed k (index-some k n) (index-most k n)

  -- what an association names
  abbrev box_of : Association → List ℕ
  box_of a = property_at f a.index

  abbrev Unknown : Association → Type 0
  Unknown a = (a.essential ≡ true) × (known_property (kind_of (box_of a)) ≡ false)

  abbrev Other : Association → Type 0
  Other a = kind_of (box_of a) ≡ ispe → ⊥

  abbrev boxes_in : List Association → List (List ℕ)
  boxes_in l = map (λ (a : Association). property_at f a.index) l

  abbrev kinds : List Association → List ℕ
  kinds l = map (λ (b : List ℕ). kind_of b) (boxes_in l)

  no_ispe : (a : Association) → Other a → NoIspe f a
  no_ispe a n b h e = n (ap kind_of (index-box a.index b h) ∙ e)

  -- count_of
  count_none : count_of ispe (kinds []) ≡ 0
  unfolding count_of
  count_none = refl

  module _ (a : Association) (l : List Association) where
    count-ispe : kind_of (box_of a) ≡ ispe → count_of ispe (kinds (a ∷ l)) ≡ 1 + count_of ispe (kinds l)
    unfolding count_of
    count-ispe e = ap (λ (n : ℕ). n + count_of ispe (kinds l)) (pick_yes 1 0 (eq-eqb (kind_of (box_of a)) ispe e))

    count-other : Other a → count_of ispe (kinds (a ∷ l)) ≡ count_of ispe (kinds l)
    unfolding count_of
    count-other n =
        ap (λ (n : ℕ). n + count_of ispe (kinds l)) (pick_no 1 0 (ne_eqb (kind_of (box_of a)) ispe n))
        ∙ zero-add (count_of ispe (kinds l))

  none_other : (l : List Association) → count_of ispe (kinds l) ≡ 0 → All Other l
  none_other [] e = tt
  none_other (a ∷ l) e =
      let n : Other a = λ q. omega (arith, e, count-ispe a l q) in
      (n, none_other l (sym (count-other a l n) ∙ e))

  -- OneIspe: the size that it declares
  declared-first : (before : List Association) (a : Association) (behind : List Association) (b : List ℕ) →
      All (NoIspe f) before → HasIndex f a.index b → kind_of b ≡ ispe →
      declared_in (boxes_in (before ++ (a ∷ behind))) ≡ ispe_of b
  unfolding declared_in
  declared-first [] a behind b n h e =
      let q = index-box a.index b h in
      pick_yes _ _ (eq-eqb (kind_of (box_of a)) ispe (ap kind_of q ∙ e)) ∙ ap (λ (x : List ℕ). ispe_of x) q
  declared-first (c ∷ before) a behind b n h e =
      pick_no _ _ (ne_eqb (kind_of (box_of c)) ispe (λ q. n.0 (box_of c) (ispe-indexed c.index q) q))
      ∙ declared-first before a behind b n.1 h e

  declared-is : (l : List Association) (o : OneIspe f l) → declared_in (boxes_in l) ≡ ispe_of o.box
  declared-is l o =
      subst (λ (m : List Association). declared_in (boxes_in m) ≡ ispe_of o.box) o.joined
      (declared-first o.before o.one o.behind o.box
      (all-front (NoIspe f) o.before o.behind o.no_other) o.named o.kind)

  module _ (boxes : All IsBox f.properties) (held : All Good f.properties) where
    box-held : (k : ℕ) (b : List ℕ) → HasIndex f k b → Good b
    box-held k b h = stands-all Good f.properties (k - 1) b h.1 held

    -- There
    there : (a : Association) → a.index ≤ length f.properties → (Unknown a → ⊥) → There f a
    there a l u = elim (dec_lt 0 a.index) [
      | yes h ↦ box (indexed a.index (omega (arith, h)) l)
      | no n ↦ nothing a.essential refl (omega (arith, n))
    ]
      where
        nothing : (t : Bool) → a.essential ≡ t → a.index ≡ 0 → There f a
        nothing true q z = absurd (u (q, ap known_property (ap kind_of (property-none f a.index z) ∙ no_kind)))
        nothing false q z = names-nothing z q

        box : HasIndex f a.index (box_of a) → There f a
        box i =
            names-box (box_of a) i (stands-all IsBox f.properties (a.index - 1) (box_of a) i.1 boxes)
            (box-held a.index (box_of a) i)

    -- OneIspe
    ispe-here : (a : Association) (l : List Association) → kind_of (box_of a) ≡ ispe → All Other l → OneIspe f (a ∷ l)
    ispe-here a l e n =
        let i = ispe-indexed a.index e in
        record {
          before = [];
          one = a;
          behind = l;
          joined = refl;
          box = box_of a;
          named = i;
          kind = e;
          whole = (box-held a.index (box_of a) i).of_ispe e;
          no_other = all_more Other (NoIspe f) no_ispe l n;
        }

    ispe-later : (a : Association) (l : List Association) → Other a → OneIspe f l → OneIspe f (a ∷ l)
    ispe-later a l n o =
        record {
          before = a ∷ o.before;
          one = o.one;
          behind = o.behind;
          joined = ap (λ (r : List Association). a ∷ r) o.joined;
          box = o.box;
          named = o.named;
          kind = o.kind;
          whole = o.whole;
          no_other = (no_ispe a n, o.no_other);
        }

    one-ispe : (l : List Association) → count_of ispe (kinds l) ≡ 1 → OneIspe f l
    one-ispe [] e = absurd (omega (arith, count_none, e))
    one-ispe (a ∷ l) e = by (eqb (kind_of (box_of a)) ispe) refl (one-ispe l)
      where
        by : (t : Bool) → eqb (kind_of (box_of a)) ispe ≡ t → (count_of ispe (kinds l) ≡ 1 → OneIspe f l) → OneIspe f (a ∷ l)
        by true q rec =
            let i = eqb-true (kind_of (box_of a)) ispe q in
            ispe-here a l i (none_other l (omega (arith, count-ispe a l i, e)))
        by false q rec =
            let n = eqb-false (kind_of (box_of a)) ispe q in
            ispe-later a l n (rec (sym (count-other a l n) ∙ e))

-- HasInput
has_input : (s : Scene) (q : Picture) (r : Recipe) (p : Point) → Shaped r q.inputs → made_up s q r ≡ true →
    Inside q.declared p → HasInput s q r p
unfolding made_up
has_input s q Coded p h m i = tt
has_input s q Opaque p h m i = h
has_input s q Copy p h m i = h
has_input s q (Tiles g) p h m i =
    let k = and_both (all_size s (first_input s q) q.inputs) _ m in
    let l = and_both (covered g (first_input s q)) _ k.1 in
    let z = same_size_lem q.declared (size g.wide g.high) l.1 in
    rw h.0 (tile_in_lem g (first_input s q) p l.0 (rw z at i)).0
has_input s q (Layers o) p h m i = h.0

module _ (total : ℕ) (head : List ℕ) (f : File) (good : GoodFile total head f) where
  abbrev s : Scene
  s = scene_of total head f

  is-judged : judged total head f ≡ ok tt
  is-judged = good-judged total head f good.no_fault

  each : Judged total head f
  each = judged-each total head f is-judged

  sure : Sound head (places_in total head) f
  sure = read_makes_sure total head f (read-complete total head f good.spelled)

  -- what is drawn is a picture
  drawn-image : (r : ℕ) → ((picture_at s r).recipe ≡ Opaque → ⊥) → image (item_at f r).type ≡ true
  drawn-image r d = by (image (item_at f r).type) refl
    where
      by : (t : Bool) → image (item_at f r).type ≡ t → image (item_at f r).type ≡ true
      by true q = q
      by false q = absurd (d (opaque-at total head f r q))

  count-one : (r : ℕ) → r < length f.items → image (item_at f r).type ≡ true →
      count_of ispe (types_of f (item_at f r).id) ≡ 1
  unfolding rule15-29-16
  count-one r l e =
      let x = then_ok _ _ tt (sym (pick_yes _ _ e) ∙ each.by-15-29-16 r l) in
      eqb-true _ 1 (and_both (eqb (count_of ispe (types_of f (item_at f r).id)) 1) _ (check-ok 16 _ _ tt x.2)).0

  -- Met: every picture that is listed
  pub picture-met : (r : ℕ) → r < length f.items → image (item_at f r).type ≡ true → Met f r
  picture-met r l e =
      let p = good.spelled.keeps.then.spelled.in_iprp.properties in
      let id : ℕ = (item_at f r).id in
      record {
        item = item_at f r;
        listed = stands_at f.items r no_item l;
        picture = e;
        declares = one-ispe f p.boxes p.good (associations_of f id) (count-one r l e);
        properties = all_both (λ (a : Association). a.index ≤ length f.properties)
            (λ (a : Association). Unknown f a → ⊥) (There f) (there f p.boxes p.good) (associations_of f id)
            (all_places (λ (a : Association). a.index ≤ length f.properties) no_association (associations_of f id)
            (sure.indexed id)) (all-never (Unknown f) (associations_of f id)
            (λ w. good.no_fault n15 r (record { listed = l; there = (e, unknown w) })));
        inputs = all_both (IsListed f) (λ (t : ℕ). image (item_at f (row_of t f.items)).type ≡ true) (IsPicture f)
            (λ t x y. (x, y)) (targets_of f id) (all_places (IsListed f) 0 (targets_of f id) (sure.listed id))
            (inputs-fed total head f r e (each.by-17 r l)).1;
      }

  -- and the scene shows what is met
  module _ (r : ℕ) (m : Met f r) where
    item-is : item_at f r ≡ m.item
    item-is = stands-is f.items r m.item no_item m.listed

    is-image : image (item_at f r).type ≡ true
    is-image = ap (λ (i : Item). image i.type) item-is ∙ m.picture

    met-sized : (picture_at s r).declared ≡ ispe_of m.declares.box
    met-sized =
        declared-at total head f r is-image
        ∙ ap (λ (i : Item). declared_in (boxes_of f i.id)) item-is
        ∙ declared-is f (associations_of f m.item.id) m.declares

    met_turned : (picture_at s r).turns ≡ turns_of (ispe_of m.declares.box) (boxes_of f m.item.id)
    met_turned =
        turns_at total head f r is-image
        ∙ ap (λ (z : Size). turns_of z (boxes_of f (item_at f r).id)) met-sized
        ∙ ap (λ (i : Item). turns_of (ispe_of m.declares.box) (boxes_of f i.id)) item-is

    met-led : (picture_at s r).inputs ≡ map (λ (id : ℕ). row_of id f.items) (targets_of f m.item.id)
    met-led =
        inputs-at total head f r is-image
        ∙ ap (λ (i : Item). map (λ (id : ℕ). row_of id f.items) (targets_of f i.id)) item-is

  -- MetAt: every stop
  stop-met : {i : ℕ} {p : Point} → Reached s i p → MetAt s f (record { row = i; spot = undo_turns (picture_at s i) p })
  stop-met {i} {p} r =
      let l : i < length f.items = rw length-map at r.listed in
      let m = picture-met i l (drawn-image i r.drawn) in
      let g = good-picture s (judged-good total head f is-judged) r.listed r.drawn in
      record {
        met = m;
        sized = met-sized i m;
        turned = met_turned i m;
        led = met-led i m;
        fed = has_input s (picture_at s i) (picture_at s i).recipe (undo_turns (picture_at s i) p) g.shaped
            (is-made_up s (picture_at s i) g.sizes) r.on-reconstructed;
      }

  -- "meets no missing item or property": no path does
  pub path_met : {i : ℕ} {p : Point} {k : ℕ} {e : End} (w : Path s i p k e) → MeetsOnly f w
  unfolding stops_of
  path_met (at-pixel r c) = (stop-met r, tt)
  path_met (at_fill r c b) = (stop-met r, tt)
  path_met (through r m b w) = (stop-met r, path_met w)

-- stops_of: the pictures that are passed
pub stops_counted : {s : Scene} {i : ℕ} {p : Point} {k : ℕ} {e : End} (w : Path s i p k e) → length (stops_of w) ≡ k
unfolding stops_of
stops_counted (at-pixel r c) = refl
stops_counted (at_fill r c b) = refl
stops_counted (through r m b w) = ap suc (stops_counted w)
