-- What `BoxAt` leaves out. Assumes nothing.
--   none-in-passed    no box begins within a box that is walked past
--   boxes-apart       two places where a box begins are the same, or at least a header apart
use Prim.Native.Nat.{ℕ, ◌+◌, ◌≤◌}
use native.Mathlib.Omega.{arith}
use mathlib.Core.Path.{◌≡◌, refl, sym, ap, ◌∙◌, subst}
use mathlib.Core.List.{List, [], ◌∷◌, ◌++◌, append_assoc, append-nil}
use mathlib.Core.Logic.{◌⊎◌, inl, inr}
use lib.ListN.{length, take, drop, length-append}
use lib.Seq.{take_at, drop_at}
use lib.Dec.{eqb}
use Rattle.fields.specs.Choice.{pick}
use Rattle.fields.specs.Field.{be_at}
use Rattle.fields.specs.Lists.{All}
use Rattle.fields.proofs.FieldLaws.{be_front}
use Rattle.fields.proofs.ListLaws.{all_append}
use Rattle.boxes.specs.Types.{meta, iinf, iref}
use Rattle.boxes.specs.Box.{head_of, size_of, kind_of, body_of, IsBox, flat}
use Rattle.boxes.specs.Top.{PlacedBox, FirstMeta}
use Rattle.boxes.proofs.AnswerLaws.{ok_inj}
use Rattle.boxes.proofs.BoxLaws.{head_least, box-size, flat_append}
use Rattle.boxes.proofs.TopLaws.{meta-complete}
use Rattle.demands.specs.Places.{Begins, Passed, Opens, iinf-zero, iinf-one, of_iprp, of_ipco, of_iref, Content, of_meta, of_box, BoxAt, at_top, inside}
use Rattle.demands.proofs.PlaceLaws.{box-long, body-room, passed-all, branded-passed, meta-header}

-- what two contents are that are one: the boxes at their fronts, and what follows
module _ (x y a c : List ℕ) (h : IsBox x) (k : IsBox y) (e : x ++ a ≡ y ++ c) where
  same-long : length x ≡ length y
  same-long = sym (box-size x a h) ∙ ap size_of e ∙ box-size y c k

  same_rest : a ≡ c
  same_rest = sym (drop_at x a (length x) refl) ∙ ap (drop (length x)) e ∙ drop_at y c (length x) (sym same-long)

  same-box : x ≡ y
  same-box = sym (take_at x a (length x) refl) ∙ ap (take (length x)) e ∙ take_at y c (length x) (sym same-long)

front-kind : (b t : List ℕ) → 8 ≤ length b → kind_of (b ++ t) ≡ kind_of b
front-kind b t l = be_front b t 4 4 (omega arith)

-- the boxes xs and then t are the boxes ys and then n, one box more in front of each
next : (x y : List ℕ) (xs ys : List (List ℕ)) (t n : List ℕ) → IsBox x → IsBox y →
    (x ++ flat xs) ++ t ≡ (y ++ flat ys) ++ n →
    (length x ≡ length y) × (flat xs ++ t ≡ flat ys ++ n)
next x y xs ys t n h k e =
    let g : x ++ (flat xs ++ t) ≡ y ++ (flat ys ++ n) =
    sym (append_assoc x (flat xs) t) ∙ e ∙ append_assoc y (flat ys) n in
    (same-long x y (flat xs ++ t) (flat ys ++ n) h k g, same_rest x y (flat xs ++ t) (flat ys ++ n) h k g)

-- n, behind ys, is a `meta`: no boxes that are walked past lead further
meta-last : (xs ys : List (List ℕ)) (t n : List ℕ) → All Passed xs → All Passed ys → kind_of n ≡ meta →
    flat xs ++ t ≡ flat ys ++ n → length (flat xs) ≤ length (flat ys)
unfolding flat
meta-last [] ys t n a c k e = omega arith
meta-last (x ∷ xs) [] t n a c k e =
    absurd (a.0.other (sym (front-kind x (flat xs ++ t) (box-long x a.0.box)) ∙
    ap kind_of (sym (append_assoc x (flat xs) t) ∙ e) ∙ k))
meta-last (x ∷ xs) (y ∷ ys) t n a c k e =
    let w = next x y xs ys t n a.0.box c.0.box e in
    let l = w.0 in
    let r = meta-last xs ys t n a.1 c.1 k w.1 in
    let i = length-append x (flat xs) in
    let j = length-append y (flat ys) in
    let o : length (x ++ flat xs) ≤ length (y ++ flat ys) = omega arith in
    o

-- where xs end, before t, and where ys end, before n; a box at the front of n has at least k bytes
module _ (n : List ℕ) (k : ℕ) (least : (x r : List ℕ) → IsBox x → x ++ r ≡ n → k ≤ length x) where
  abbrev Order : ℕ → ℕ → Type 0
  Order i j = (i ≡ j) ⊎ ((i + 8 ≤ j) ⊎ (j + k ≤ i))

  later : (x y i j : ℕ) → x ≡ y → Order i j → Order (x + i) (y + j)
  later x y i j e (inl o) = inl (omega arith)
  later x y i j e (inr (inl o)) = inr (inl (omega arith))
  later x y i j e (inr (inr o)) = inr (inr (omega arith))

  order : (xs ys : List (List ℕ)) (t : List ℕ) → All Passed xs → All Passed ys → flat xs ++ t ≡ flat ys ++ n →
      Order (length (flat xs)) (length (flat ys))
  unfolding flat
  order [] [] t a c e = inl refl
  order [] (y ∷ ys) t a c e = let l = box-long y c.0.box in inr (inl (rw length-append (omega arith)))
  order (x ∷ xs) [] t a c e =
      let l = least x (flat xs ++ t) a.0.box (sym (append_assoc x (flat xs) t) ∙ e) in
      inr (inr (rw length-append (omega arith)))
  order (x ∷ xs) (y ∷ ys) t a c e =
      let w = next x y xs ys t n a.0.box c.0.box e in
      rw (length-append x (flat xs), length-append y (flat ys)) (later (length x) (length y) _ _ w.0
      (order xs ys t a.1 c.1 w.1))

  -- the same of places in one content
  begins_order : {s t : List ℕ} {at p q : ℕ} → Begins Passed s at t p → Begins Passed s at n q → Order p q
  begins_order {s} {t} {at} w v =
      rw (w.where_it_is, v.where_it_is) (later at at _ _ refl
      (order w.before v.before t w.all v.all (w.joined ∙ sym v.joined)))

-- Under kind s at p: a box begins at p in s, which begins at `at` and is what a box of type `kind` holds behind its fields
data Under : ℕ → List ℕ → ℕ → ℕ → Type 0 where
  first : {kind : ℕ} {s : List ℕ} {at p : ℕ} → p ≡ at → 8 ≤ length s → Under kind s at p
  past : {kind : ℕ} {s : List ℕ} {at p : ℕ} (b r : List ℕ) → b ++ r ≡ s → IsBox b → Under kind r (at + length b) p →
      Under kind s at p
  into : {kind : ℕ} {s : List ℕ} {at p : ℕ} (b r u c : List ℕ) → b ++ r ≡ s → IsBox b → u ++ c ≡ body_of b →
      Opens kind (kind_of b) u →
      Under (kind_of b) c (at + head_of b + length u) p → Under kind s at p

-- it begins in s, header and all
under_room : {kind : ℕ} {s : List ℕ} {at p : ℕ} → Under kind s at p → (at ≤ p) × (p + 8 ≤ at + length s)
under_room (first e l) = (omega arith, omega arith)
under_room (past b r j h x) =
    let w = under_room x in
    let l = rw length-append at (ap length j) in
    (omega arith, omega arith)
under_room (into b r u c j h g o x) =
    let w = under_room x in
    let l = rw length-append at (ap length j) in
    let m = rw length-append at (ap length g) in
    let k = body-room b h.header in
    (omega arith, omega arith)

-- how long the fields are goes by the type and by the version
unfoldable fields_long : ℕ → ℕ → ℕ
fields_long k v = pick (eqb k iinf) (pick (eqb v 0) 6 8) (pick (eqb k iref) 4 0)

opens-long : {outer k : ℕ} {u : List ℕ} → Opens outer k u → (c : List ℕ) → length u ≡ fields_long k (be_at (u ++ c) 0 1)
unfolding fields_long pick
opens-long (iinf-zero {fields} e l) c = rw (be_front fields c 0 1 (omega arith), e) l
opens-long (iinf-one {fields} e l) c = rw (be_front fields c 0 1 (omega arith), e) l
opens-long of_iprp c = refl
opens-long of_ipco c = refl
opens-long (of_iref {fields} e l) c = l

abbrev pub Apart : ℕ → ℕ → Type 0
Apart p q = (p ≡ q) ⊎ ((p + 8 ≤ q) ⊎ (q + 8 ≤ p))

-- two boxes in one content
under_apart : {kind other : ℕ} {s t : List ℕ} {at from p q : ℕ} → Under kind s at p → Under other t from q → s ≡ t →
    at ≡ from → Apart p q
under_apart (first e l) (first f m) i k = inl (omega arith)
under_apart (first e l) (past b r j h y) i k =
    let w = under_room y in
    let m = box-long b h in
    inr (inl (omega arith))
under_apart (first e l) (into b r u c j h g o y) i k =
    let w = under_room y in
    let m = head_least b in
    inr (inl (omega arith))
under_apart (past b r j h x) (first f m) i k =
    let w = under_room x in
    let m = box-long b h in
    inr (inr (omega arith))
under_apart (into b r u c j h g o x) (first f m) i k =
    let w = under_room x in
    let m = head_least b in
    inr (inr (omega arith))
under_apart (past b r j h x) (past d v n z y) i k =
    let e = j ∙ i ∙ sym n in
    let l = same-long b d r v h z e in
    under_apart x y (same_rest b d r v h z e) (omega arith)
under_apart (past b r j h x) (into d v u c n z g o y) i k =
    let l = same-long b d r v h z (j ∙ i ∙ sym n) in
    let w = under_room x in
    let m = under_room y in
    let a = rw length-append at (ap length g) in
    let q = body-room d z.header in
    inr (inr (omega arith))
under_apart (into d v u c n z g o x) (past b r j h y) i k =
    let l = same-long d b v r z h (n ∙ i ∙ sym j) in
    let w = under_room y in
    let m = under_room x in
    let a = rw length-append at (ap length g) in
    let q = body-room d z.header in
    inr (inl (omega arith))
under_apart (into b r u c j h g o x) (into d v a f n z m q y) i k =
    let e : b ≡ d = same-box b d r v h z (j ∙ i ∙ sym n) in
    let w : u ++ c ≡ a ++ f = g ∙ ap body_of e ∙ sym m in
    let l : length u ≡ length a = opens-long o c ∙ ap (λ (t : List ℕ). fields_long (kind_of b) (be_at t 0 1)) w
    ∙ ap (λ (t : List ℕ). fields_long (kind_of t) (be_at (a ++ f) 0 1)) e ∙ sym (opens-long q f) in
    let rest : c ≡ f = sym (drop_at u c (length u) refl) ∙ ap (drop (length u)) w ∙ drop_at a f (length u) (sym l) in
    let hd : head_of b ≡ head_of d = ap head_of e in
    under_apart x y rest (omega arith)

-- what begins behind boxes of a content
boxes_under : {kind p : ℕ} (bs : List (List ℕ)) (t : List ℕ) (at : ℕ) → All IsBox bs →
    Under kind t (at + length (flat bs)) p →
    Under kind (flat bs ++ t) at p
unfolding flat
boxes_under {kind} {p} [] t at a x = let e : at + 0 ≡ at = omega arith in subst (λ (i : ℕ). Under kind t i p) e x
boxes_under {kind} {p} (b ∷ bs) t at a x =
    let l = length-append b (flat bs) in
    let e : at + length (b ++ flat bs) ≡ at + length b + length (flat bs) = omega arith in
    past b (flat bs ++ t) (sym (append_assoc b (flat bs) t)) a.0
    (boxes_under bs t (at + length b) a.1 (subst (λ (i : ℕ). Under kind t i p) e x))

begins_under : {kind at place p : ℕ} {s t : List ℕ} → Begins IsBox s at t place → Under kind t place p →
    Under kind s at p
begins_under {kind} {at} {place} {p} {s} {t} w x =
    subst (λ (v : List ℕ). Under kind v at p) w.joined
    (boxes_under w.before t at w.all (subst (λ (i : ℕ). Under kind t i p) w.where_it_is x))

record InMeta (total : ℕ) (head : List ℕ) (p : ℕ) : Type 0 where
  m : List ℕ
  place : ℕ
  fields : List ℕ
  boxes : List ℕ
  found : FirstMeta total head m place
  joined : fields ++ boxes ≡ body_of m
  long : length fields ≡ 4
  under : Under meta boxes (place + head_of m + length fields) p

module _ {total : ℕ} {head : List ℕ} where
  content_under : {kind at p : ℕ} {s : List ℕ} → Content total head kind at s → Under kind s at p → InMeta total head p
  content_under (of_meta {m} {s} {place} fields f j v l) x =
      record { m = m; place = place; fields = fields; boxes = s; found = f; joined = j; long = l; under = x }
  content_under (of_box {s} {fields} b behind c w h j o) x =
      content_under c (begins_under w (into b behind fields s refl h j o x))

  inside-meta : {kind at p : ℕ} {s : List ℕ} (t : List ℕ) → Content total head kind at s → Begins IsBox s at t p →
      8 ≤ length t →
      InMeta total head p
  inside-meta t c w l = content_under c (begins_under w (first refl l))

  -- the boxes that lead to the first `meta`
  module _ {m : List ℕ} {place : ℕ} (f : FirstMeta total head m place) where
    led : All Passed (f.first ∷ f.before)
    led = (branded-passed f.first f.box f.brand, passed-all f.before f.all f.none)

    led-joined : flat (f.first ∷ f.before) ++ (m ++ f.behind) ≡ head
    unfolding flat
    led-joined = append_assoc f.first (flat f.before) (m ++ f.behind) ∙ f.joined

    led-place : place ≡ length (flat (f.first ∷ f.before))
    unfolding flat
    led-place = f.where_it_is ∙ sym (length-append f.first (flat f.before))

    led-kind : kind_of (m ++ f.behind) ≡ meta
    led-kind = front-kind m f.behind (meta-header f).1 ∙ f.kind

  -- a box of the top level, and one in the `meta`
  top_meta : {p q : ℕ} (t : List ℕ) → Begins Passed head 0 t p → InMeta total head q → p + 8 ≤ q
  top_meta t w r =
      let f = r.found in
      let l = meta-last w.before (f.first ∷ f.before) t (r.m ++ f.behind) w.all (led f) (led-kind f)
      (w.joined ∙ sym (led-joined f)) in
      let i = w.where_it_is in
      let j = led-place f in
      let u = under_room r.under in
      let h = head_least r.m in
      omega arith

  -- two in the `meta`, of which there is one
  meta-apart : {p q : ℕ} → length head ≤ total → InMeta total head p → InMeta total head q → Apart p q
  meta-apart fits x y =
      let e : ◌≡◌ {A = PlacedBox} (record { box = x.m; place = x.place }) (record { box = y.m; place = y.place }) =
      ok_inj _ _ (sym (meta-complete total head x.m x.place fits x.found) ∙
      meta-complete total head y.m y.place fits y.found) in
      let b : x.m ≡ y.m = ap (λ (r : PlacedBox). r.box) e in
      let i : x.place ≡ y.place = ap (λ (r : PlacedBox). r.place) e in
      let hd : head_of x.m ≡ head_of y.m = ap head_of b in
      let k = x.long in
      let l = y.long in
      let s : x.boxes ≡ y.boxes = sym (drop_at x.fields x.boxes 4 k) ∙
      ap (drop 4) (x.joined ∙ ap body_of b ∙ sym y.joined)
      ∙ drop_at y.fields y.boxes 4 l in
      under_apart x.under y.under s (omega arith)

-- a box that is walked past is one box more
over-flat : (xs : List (List ℕ)) (b t : List ℕ) → flat (xs ++ (b ∷ [])) ++ t ≡ flat xs ++ (b ++ t)
unfolding flat
over-flat xs b t =
    ap (λ (r : List ℕ). r ++ t) (flat_append xs (b ∷ []) ∙ ap (λ (r : List ℕ). flat xs ++ r) (append-nil b)) ∙
    append_assoc (flat xs) b t

begins_over : {s : List ℕ} {at : ℕ} (b t : List ℕ) (q : ℕ) → Begins Passed s at (b ++ t) q → Passed b →
    Begins Passed s at t (q + length b)
begins_over {s} {at} b t q w h =
    let e = over-flat w.before b t in
    let j = ap length e in
    let k = length-append (flat (w.before ++ (b ∷ []))) t in
    let l = length-append (flat w.before) (b ++ t) in
    let m = length-append b t in
    let i = w.where_it_is in
    record {
      before = w.before ++ (b ∷ []);
      all = all_append Passed w.before (b ∷ []) w.all (h, tt);
      joined = e ∙ w.joined;
      where_it_is = omega arith;
    }

-- The theorems.
module _ {total : ℕ} {head : List ℕ} where
  -- let b at q be walked past: a box that begins elsewhere begins before it, or not before its end
  pub none_in_passed : (b behind : List ℕ) (q : ℕ) → Begins Passed head 0 (b ++ behind) q → Passed b → (p : ℕ) →
      BoxAt total head p →
      (p ≡ q) ⊎ ((p + 8 ≤ q) ⊎ (q + length b ≤ p))
  none_in_passed b behind q w h p (at_top t v l) =
      begins_order (b ++ behind) (length b) (λ x r k e. let l = same-long x b r behind k h.box e in omega arith) v w
  none_in_passed b behind q w h p (inside t c v l) =
      let r = top_meta behind (begins_over b behind q w h) (inside-meta t c v l) in
      inr (inr (omega arith))

  pub boxes-apart : length head ≤ total → (p q : ℕ) → BoxAt total head p → BoxAt total head q → Apart p q
  boxes-apart fits p q (at_top t w l) (at_top n v k) = begins_order n 8 (λ x r h e. box-long x h) w v
  boxes-apart fits p q (at_top t w l) (inside n c v k) = inr (inl (top_meta t w (inside-meta n c v k)))
  boxes-apart fits p q (inside n c v k) (at_top t w l) = inr (inr (top_meta t w (inside-meta n c v k)))
  boxes-apart fits p q (inside t c w l) (inside n d v k) = meta-apart fits (inside-meta t c w l) (inside-meta n d v k)
