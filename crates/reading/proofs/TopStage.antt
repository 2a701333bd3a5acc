-- The stages of reading, as the functions of the code join them. Assumes nothing.
use Prim.Native.Nat.{ℕ, ◌+◌, ◌-◌, ◌≤◌, ◌<◌}
use native.Mathlib.Omega.{arith}
use mathlib.Core.Path.{◌≡◌, refl, sym, ap, ◌∙◌, subst}
use mathlib.Core.List.{List, [], ◌++◌, append_assoc}
use mathlib.Core.Logic.{◌⊎◌, inl, inr}
use mathlib.Core.Bool.{Bool, true, false}
use lib.ListN.{length, take, drop, replicate, length-take, length-drop, length-append, length-replicate}
use lib.Seq.{take_all, drop_at}
use lib.Dec.{leb, ltb}
use borrow.Author.Tests.{le-leb, lt-leb, le-ltb}
use Rattle.fields.specs.Field.{be_at}
use Rattle.fields.proofs.FieldLaws.{pick_yes, pick_no}
use Rattle.std.specs.Prelude.{Result, Ok, Err, is_err}
use Rattle.boxes.specs.Answer.{Answer, ok, refuse, check, ◌>>◌}
use Rattle.boxes.specs.Told.{told}
use Rattle.boxes.proofs.ToldLaws.{told-ok, told-refused}
use Rattle.fields.specs.Lists.{All}
use Rattle.boxes.specs.Types.{hdlr, pitm, iinf, known}
use Rattle.boxes.specs.Box.{IsBox, head_of, body_of, flat}
use Rattle.boxes.specs.Top.{meta_in, FirstMeta}
use Rattle.boxes.specs.Top as Top
use Rattle.boxes.proofs.AnswerLaws.{ok-then, ok-check}
use Rattle.boxes.proofs.BoxLaws.{short_head}
use Rattle.boxes.proofs.WhereLaws.{body-part}
use Rattle.boxes.proofs.TopLaws.{meta-sound}
use Rattle.boxes.specs.Children.{place_of, children}
use Rattle.boxes.specs.inner.Family.{spots_of, meta_spot}
use Rattle.boxes.specs.declared.Spot.{Spot}
use Rattle.boxes.specs.declared.Refusal.{Refusal}
use Rattle.contents.specs.Iinf.{Item, items}
use Rattle.contents.specs.File.{File, contents_of, file_of, read_file}
use Rattle.contents.specs.Hdlr.{hdlr_form}
use Rattle.contents.specs.Pitm.{pitm_form}
use Rattle.contents.specs.Full.{full, between}
use Rattle.contents.specs.inner.Told.{full_of, item_id}
use Rattle.contents.specs.declared.Full as code
use Rattle.contents.proofs.FullLaws.{full-here}
use Rattle.forms.specs.Form.{whole, front}
use Rattle.table.specs.declared.ItemId.{ItemId}
use Rattle.rules.specs.Places.{Places, places_at, places_in}
use Rattle.rules.specs.Words.{head_words}
use Rattle.table.specs.inner.Clear.{cleared}
use Rattle.records.specs.inner.Raw.{raw_of}
use Rattle.records.specs.inner.Stage.{Kept, Ready, with_items}
use Rattle.items.specs.inner.Told.{ItemsLeft}
use Rattle.items.proofs.ReadyLaws.{items-ready}
use Rattle.reading.specs.inner.Parts.{
  kids,
  spots_in,
  Missing,
  Standing,
  Before,
  After,
  content_of,
  begin_of,
  from_handler,
  from_items,
  from_locations,
  ReadLeft,
  told_file,
  read_answer,
  read_words,
  left_by_reading,
}
use Rattle.reading.specs.declared.Idat.{Idat}
use Rattle.reading.proofs.SpotLaws.{SpotIs}
use Rattle.reading.proofs.LastLaws.{seat, child_is}
use Rattle.reading.proofs.TableLaws.{raw-unread}
use Rattle.reading.proofs.StageLaws.{after_same}
use Rattle.reading.proofs.NamedLaws.{no_file}
use Rattle.reading.proofs.ChainLaws.{items_gone, items-on, handler_gone, primary_gone, primary-on}
use Rattle.reading.proofs.PartLaws.{contents_refused, contents_missing}
use Rattle.reading.proofs.MetaLaws.{
  standing,
  contents_kids,
  kids-all,
  file_gone,
  file-here,
  read-long,
  read_short,
  read_gone,
  read-meta,
  places_are,
}

-- the content of the child with a spot
abbrev pub part_at : List ℕ → Spot → List ℕ
part_at s p = take (p.end - p.body) (drop p.body s)

module _ (s : List ℕ) (at : ℕ) (spots : List Spot) (st : Standing s spots) where
  pub hdlr-spot : SpotIs s at hdlr (kids s) (seat spots 0)
  hdlr-spot = child_is s at spots st 0 hdlr (ap (λ (l : List Spot). seat l 0) st.spots_are) st.five.has_hdlr

  pub pitm-spot : SpotIs s at pitm (kids s) (seat spots 1)
  pitm-spot = child_is s at spots st 1 pitm (ap (λ (l : List Spot). seat l 1) st.spots_are) st.five.has_pitm

  pub iinf-spot : SpotIs s at iinf (kids s) (seat spots 2)
  iinf-spot = child_is s at spots st 2 iinf (ap (λ (l : List Spot). seat l 2) st.spots_are) st.five.has_iinf

-- a child stands within the content
pub spot-room : (s : List ℕ) (at k : ℕ) (bs : List (List ℕ)) (p : Spot) → SpotIs s at k bs p → at + length s ≤ 65536 →
    (at + p.body ≤ 65536) × (at + p.start ≤ at + p.body) × (at + p.body + length (part_at s p) ≤ 65536)
spot-room s at k bs p h l =
    let o = h.order in let u = h.upto in let a = h.place in let b = h.begin in
    let e : length (part_at s p) ≡ p.end - p.body = simp (length-take, length-drop) (omega arith) in
    (omega arith, omega arith, omega arith)

-- from_items
module _ (s : List ℕ) (at : ℕ) (p : Spot) (i : SpotIs s at iinf (kids s) p) (primary total : ℕ) where
  items-same : items (at + p.start) (at + p.body) (part_at s p) ≡ items (place_of iinf at (kids s)) (begin_of at (kids s) iinf) (content_of at (kids s) iinf)
  items-same = rw (i.place, i.begin, i.part) refl

  pub iinf-refused : (r : Refusal) → told length (items (at + p.start) (at + p.body) (part_at s p)) ≡ Err r →
      from_items at (kids s) primary ≡ refuse r.number r.place
  iinf-refused r e = items_gone at (kids s) primary r (sym items-same ∙ told-refused _ _ r e)

  -- the stage of `iloc` begins
  pub record Begun (n : ℕ) (x u : List ℕ) : Type 0 where
    pub list : List Item
    pub before : Before s at n (with_items list) x u
    pub on : from_items at (kids s) primary ≡ from_locations at (kids s) primary list
    pub read : items (at + p.start) (at + p.body) (part_at s p) ≡ ok list

  pub iinf_begins : (n : ℕ) (x t u : List ℕ) →
      told length (items (at + p.start) (at + p.body) (part_at s p)) ≡ Ok n → t ≡ replicate 11280 0 ++ x →
      ItemsLeft (part_at s p) (at + p.start) (at + p.body) t u → Begun n x u
  iinf_begins n x t u e w l =
      let o = told-ok _ _ n e in
      let q = o.1 in
      record {
        list = o.0;
        before =
            record {
              is = l.told (places_at at (kids s)) x o.0 q (w ∙ ap (λ (z : List ℕ). z ++ x) (sym (raw-unread (places_at at (kids s)))));
              ready = subst (Ready (with_items o.0)) o.2 (items-ready _ _ _ o.0 q);
            };
        on = items-on at (kids s) primary o.0 (sym items-same ∙ q);
        read = q;
      }

  pub iinf-after : (n : ℕ) (x u v : List ℕ) (r : Result Idat Refusal) → Begun n x u →
      ((is : List Item) (x : List ℕ) → Before s at n (with_items is) x u →
      After s at total (from_locations at (kids s) primary is) r x v) →
      After s at total (from_items at (kids s) primary) r x v
  iinf-after n x u v r b h = subst (λ (m : Answer File). After s at total m r x v) (sym b.on) (h b.list x b.before)

-- from_handler
module _ (s : List ℕ) (at total : ℕ) (h p : Spot) (i : SpotIs s at hdlr (kids s) h) (j : SpotIs s at pitm (kids s) p) where
  hdlr-same : front hdlr_form (at + h.start) (part_at s h) ≡ front hdlr_form (place_of hdlr at (kids s)) (content_of at (kids s) hdlr)
  hdlr-same = rw (i.place, i.part) refl

  pitm-same : whole pitm_form (at + p.start) (part_at s p) ≡ whole pitm_form (place_of pitm at (kids s)) (content_of at (kids s) pitm)
  pitm-same = rw (j.place, j.part) refl

  pub hdlr-refused : (r : Refusal) → told (λ (u : Unit {0}). u) (front hdlr_form (at + h.start) (part_at s h)) ≡ Err r →
      from_handler at (kids s) ≡ refuse r.number r.place
  hdlr-refused r e = handler_gone at (kids s) r (sym hdlr-same ∙ told-refused _ _ r e)

  module _ (e : told (λ (u : Unit {0}). u) (front hdlr_form (at + h.start) (part_at s h)) ≡ Ok tt) where
    hdlr-is : front hdlr_form (place_of hdlr at (kids s)) (content_of at (kids s) hdlr) ≡ ok tt
    hdlr-is = sym hdlr-same ∙ (told-ok _ _ tt e).1

    pub pitm-refused : (r : Refusal) → told item_id (whole pitm_form (at + p.start) (part_at s p)) ≡ Err r →
        from_handler at (kids s) ≡ refuse r.number r.place
    pitm-refused r q = primary_gone at (kids s) hdlr-is r (sym pitm-same ∙ told-refused _ _ r q)

    pub pitm-on : (id : ItemId) → told item_id (whole pitm_form (at + p.start) (part_at s p)) ≡ Ok id →
        from_handler at (kids s) ≡ from_items at (kids s) id.0
    pitm-on id q = let o = told-ok _ _ id q in primary-on at (kids s) hdlr-is id.0 (sym pitm-same ∙ o.1 ∙ ap (λ (i : ItemId). ok i.0) o.2)

    pub pitm-after : (id : ItemId) (r : Result Idat Refusal) (x u : List ℕ) →
        told item_id (whole pitm_form (at + p.start) (part_at s p)) ≡ Ok id →
        After s at total (from_items at (kids s) id.0) r x u → After s at total (from_handler at (kids s)) r x u
    pitm-after id r x u q a = after_same s at total _ _ r x u (pitm-on id q) a

-- contents_of
module _ (p at total : ℕ) (s : List ℕ) where
  pub walk-refused : (r : Refusal) → told spots_of (children known p at s) ≡ Err r → contents_of p at s ≡ refuse r.number r.place
  walk-refused r e = contents_refused p at s _ _ (told-refused _ _ r e)

  module _ (spots : List Spot) (e : told spots_of (children known p at s) ≡ Ok spots) (b : Bool)
      (m : (bs : List (List ℕ)) → All IsBox bs → spots ≡ spots_in bs → Missing bs b) where
    abbrev found : List (List ℕ)
    found = (told-ok _ _ spots e).0

    found-is : children known p at s ≡ ok found
    found-is = (told-ok _ _ spots e).1

    spots-are : spots ≡ spots_in found
    unfolding spots_of
    spots-are = sym (told-ok _ _ spots e).2

    missing_is : Missing found b
    missing_is = m found (kids-all p at s found found-is) spots-are

    pub missing_refused : b ≡ true → contents_of p at s ≡ refuse 7 p
    missing_refused t = let w : Missing found true = subst (Missing found) t missing_is in
        contents_missing p at s found found-is w.0 w.1 w.2

    pub whole_standing : b ≡ false → Standing s spots
    whole_standing t = standing p at s found found-is spots spots-are (subst (Missing found) t missing_is)

    pub whole_is : b ≡ false → contents_of p at s ≡ from_handler at (kids s)
    whole_is t = contents_kids p at s found found-is (subst (Missing found) t missing_is)

    pub whole-after : b ≡ false → (r : Result Idat Refusal) (x u : List ℕ) → After s at total (from_handler at (kids s)) r x u →
        After s at total (contents_of p at s) r x u
    whole-after t r x u a = after_same s at total _ _ r x u (whole_is t) a

-- what follows version and flags
abbrev pub rest_of : List ℕ → List ℕ
rest_of s = take (length s - 4) (drop 4 s)

rest-is : (s : List ℕ) → rest_of s ≡ drop 4 s
rest-is s = let l = length-drop 4 s in take_all (length s - 4) (drop 4 s) (omega arith)

pub rest-room : (at : ℕ) (s : List ℕ) → 4 ≤ length s → at + length s ≤ 65536 → at + 4 + length (rest_of s) ≤ 65536
rest-room at s h l = let k = length-drop 4 s in let e = ap length (rest-is s) in omega arith

-- file_of
module _ (p at total : ℕ) (s : List ℕ) where
  pub full-refused : (r : Refusal) → told full_of ((full (between 0 0)).read p s) ≡ Err r → file_of p at s ≡ refuse r.number r.place
  full-refused r e = file_gone p at s r (told-refused _ _ r e)

  module _ (v : code.Full) (e : told full_of ((full (between 0 0)).read p s) ≡ Ok v) where
    pub full-room : 4 ≤ length s
    full-room = (full-here _ p s v e).room

    pub full_is : file_of p at s ≡ contents_of p (at + 4) (rest_of s)
    full_is = file-here p at s v (full-here _ p s v e) ∙ ap (contents_of p (at + 4)) (sym (rest-is s))

    pub full-after : (r : Result Idat Refusal) (x u : List ℕ) → After (rest_of s) (at + 4) total (contents_of p (at + 4) (rest_of s))
        r x u → After (drop 4 s) (at + 4) total (file_of p at s) r x u
    full-after r x u a =
        subst (λ (m : Answer File). After (drop 4 s) (at + 4) total m r x u) (sym (file-here p at s v (full-here _ p s v e)))
        (subst (λ (y : List ℕ). After y (at + 4) total (contents_of p (at + 4) y) r x u) (rest-is s) a)

-- FirstMeta: the content of `meta` in the head
pub record MetaPart (head m : List ℕ) (body end : ℕ) : Type 0 where
  pub order : body ≤ end
  pub upto : end ≤ length head
  pub part : take (end - body) (drop body head) ≡ body_of m

meta-header : (total : ℕ) (head m : List ℕ) (place : ℕ) → FirstMeta total head m place → head_of m ≤ length m
meta-header total head m place f = go f.size
  where
    go : IsBox m ⊎ ((be_at m 0 4 ≡ 0) × (8 ≤ length m) × (f.behind ≡ []) × (total ≡ length head)) → head_of m ≤ length m
    go (inl h) = h.header
    go (inr h) = let z = h.0 in let l = h.1 in let w = (short_head m (λ o. absurd (omega arith))).0 in omega arith

pub meta-part : (total : ℕ) (head m : List ℕ) (place : ℕ) → FirstMeta total head m place → MetaPart head m (place + head_of m) (place + length m)
meta-part total head m place f =
    let pre = f.first ++ flat f.before in
    let h = meta-header total head m place f in
    let j : pre ++ (m ++ f.behind) ≡ head = append_assoc f.first (flat f.before) (m ++ f.behind) ∙ f.joined in
    let l : length pre ≡ place = length-append f.first (flat f.before) ∙ sym f.where_it_is in
    let a = length-append pre (m ++ f.behind) in
    let b = length-append m f.behind in
    let n = ap length j in
    let i : length m - head_of m ≡ place + length m - (place + head_of m) = omega arith in
    record {
      order = omega arith;
      upto = omega arith;
      part =
          subst (λ (z : List ℕ). take (place + length m - (place + head_of m)) (drop (place + head_of m) z) ≡ body_of m) j
          (subst (λ (n : ℕ). take (place + length m - (place + head_of m)) (drop (n + head_of m) (pre ++ (m ++ f.behind))) ≡ body_of m) l
          (subst (λ (n : ℕ). take n (drop (length pre + head_of m) (pre ++ (m ++ f.behind))) ≡ body_of m) i (body-part pre m f.behind h)));
    }

-- ReadLeft: a refusal
pub left-refused : (total : ℕ) (head : List ℕ) (r : Refusal) (x u : List ℕ) → read_file total head ≡ refuse r.number r.place →
    ReadLeft total head (Err r) x u
unfolding told
left-refused total head r x u e =
    record { answer = sym (ap (told_file (places_in total head).idat) e); left = λ g z. no_file _ _ _ e g z }

pub left-handed : (total : ℕ) (head : List ℕ) (y : Result Idat Refusal) (r : Refusal) (x u : List ℕ) → y ≡ Err r →
    read_file total head ≡ refuse r.number r.place → ReadLeft total head y x u
left-handed total head y r x u q e = subst (λ (z : Result Idat Refusal). ReadLeft total head z x u) (sym q) (left-refused total head r x u e)

-- read_file
module _ (total : ℕ) (head : List ℕ) (h : length head ≤ 65536) (k : length head ≤ total) where
  pub meta-refused : (r : Refusal) → told meta_spot (meta_in total head) ≡ Err r → read_file total head ≡ refuse r.number r.place
  meta-refused r q = read_gone total head h k r (told-refused _ _ r q)

  module _ (w : Spot) (q : told meta_spot (meta_in total head) ≡ Ok w) where
    abbrev s : ℕ
    s = w.start

    abbrev b : ℕ
    b = w.body

    abbrev e : ℕ
    e = w.end

    abbrev meta_box : Top.PlacedBox
    meta_box = (told-ok _ _ w q).0

    -- where it stands
    spot-is : (meta_box.place ≡ s) × (meta_box.place + head_of meta_box.box ≡ b) × (meta_box.place + length meta_box.box ≡ e)
    unfolding meta_spot
    spot-is =
        let o = (told-ok _ _ w q).2 in
        (ap (λ (y : Spot). y.start) o, ap (λ (y : Spot). y.body) o, ap (λ (y : Spot). y.end) o)

    meta-is : meta_in total head ≡ ok meta_box
    meta-is = (told-ok _ _ w q).1

    pub meta-room : MetaPart head meta_box.box b e
    meta-room =
        let o = spot-is in
        subst (MetaPart head meta_box.box b) o.2 (subst (λ (z : ℕ). MetaPart head meta_box.box z
        (meta_box.place + length meta_box.box)) o.1 (meta-part total head meta_box.box meta_box.place
        (meta-sound total head meta_box k meta-is)))

    pub meta-length : b + length (take (e - b) (drop b head)) ≤ 65536
    meta-length =
        let r = meta-room in
        let o = r.order in let u = r.upto in
        let l : length (take (e - b) (drop b head)) ≡ e - b = simp (length-take, length-drop) (omega arith) in
        omega arith

    pub meta-file : read_file total head ≡ file_of s b (take (e - b) (drop b head))
    meta-file =
        let o = spot-is in
        let m = meta_box in
        read-meta total head h k m meta-is
        ∙ ap (λ (z : ℕ). file_of z (m.place + head_of m.box) (body_of m.box)) o.0
        ∙ ap (λ (z : ℕ). file_of s z (body_of m.box)) o.1
        ∙ ap (file_of s b) (sym meta-room.part)

    pub meta-left : (r : Result Idat Refusal) (x u : List ℕ) → After (drop 4 (take (e - b) (drop b head))) (b + 4) total
        (file_of s b (take (e - b) (drop b head))) r x u → ReadLeft total head r x u
    meta-left r x u a =
        let o = spot-is in
        let m = meta_box in
        let y = take (e - b) (drop b head) in
        let i = meta-room.part in
        let pl : places_in total head ≡ places_at (b + 4) (kids (drop 4 y)) = places_are total head m meta-is ∙
        ap (λ (z : ℕ). places_at (z + 4) (kids (drop 4 (body_of m.box)))) o.1 ∙
        ap (λ (z : List ℕ). places_at (b + 4) (kids (drop 4 z))) (sym i) in
        let fl = meta-file in
        record {
          answer = a.answer ∙ ap (λ (l : Places). told_file l.idat (file_of s b y)) (sym pl) ∙ ap (told_file (places_in total head).idat) (sym fl);
          left = λ g z. a.left g (sym fl ∙ z) ∙ ap (λ (l : Places). raw_of (head_words total g) l g ++ x) (sym pl);
        }

-- cleared
module _ (t : List ℕ) (l : 11280 ≤ length t) where
  pub clear_is : cleared t ≡ replicate 11280 0 ++ drop 11280 t
  unfolding cleared
  clear_is = pick_no {t = ltb (length t) 11280} t (replicate 11280 0 ++ drop 11280 t) (le-ltb (length t) 11280 l)

  pub clear_length : length (cleared t) ≡ length t
  clear_length =
      let a = ap length clear_is in
      let b = length-append (replicate {A = ℕ} 11280 0) (drop 11280 t) in
      let c = length-replicate {A = ℕ} 11280 0 in
      let d = length-drop 11280 t in
      omega arith

  pub clear_room : (u : List ℕ) → u ≡ cleared t → 11280 ≤ length u
  clear_room u e = let a = ap length e in let b = clear_length in omega arith

  pub clear_past : drop 11280 (cleared t) ≡ drop 11280 t
  clear_past = ap (drop 11280) clear_is ∙ drop_at (replicate {A = ℕ} 11280 0) (drop 11280 t) 11280 (length-replicate {A = ℕ} 11280 0)

-- read_answer, read_words
module _ (total : ℕ) (head t : List ℕ) where
  -- what read_file promises
  abbrev pub Promised : Result Idat Refusal → List ℕ → Type 0
  Promised r u = (r ≡ read_answer (length t) total head) × (u ≡ read_words total head t)

  pub table_short : length t < 11280 → Promised (Err (record { number = 1; place = 0 })) t
  unfolding read_answer told check ◌>>◌ read_words
  table_short h =
      let e = lt-leb 11280 (length t) h in
      (rw e refl, sym (pick_no {t = leb 11280 (length t)} (left_by_reading total head t (read_file total head)) t e))

  module _ (l : 11280 ≤ length t) where
    answer-is : (r : Result Idat Refusal) → r ≡ told_file (places_in total head).idat (read_file total head) → r ≡ read_answer (length t) total head
    unfolding read_answer
    answer-is r e = e ∙ ap (told_file (places_in total head).idat) (sym (ok-then _ _ tt (ok-check 1 0 _ (le-leb 11280 (length t) l))))

    words_are : read_words total head t ≡ left_by_reading total head t (read_file total head)
    unfolding read_words
    words_are = pick_yes {t = leb 11280 (length t)} (left_by_reading total head t (read_file total head)) t (le-leb 11280 (length t) l)

    gone : (r : Refusal) (u : List ℕ) → read_file total head ≡ refuse r.number r.place → u ≡ replicate 11280 0 ++ drop 11280 t → Promised (Err r) u
    unfolding told left_by_reading
    gone r u e w = (answer-is _ (sym (ap (told_file (places_in total head).idat) e)), w ∙ sym (words_are ∙ ap (left_by_reading total head t) e))

    pub head_long : (u : List ℕ) → u ≡ cleared t → 65536 < length head → Promised (Err (record { number = 2; place = 0 })) u
    head_long u w h = gone _ u (read-long total head h) (w ∙ clear_is t l)

    pub head_short : (u : List ℕ) → u ≡ cleared t → length head ≤ 65536 → total < length head → Promised (Err (record { number = 2; place = 0 })) u
    head_short u w h k = gone _ u (read_short total head h k) (w ∙ clear_is t l)

    -- t' the table cleared, u what reading left, v that cleared again
    pub head_refused : (t' u v : List ℕ) (y : Result Idat Refusal) → t' ≡ cleared t → Kept t' u → ReadLeft total head y (drop 11280 t) u →
        is_err y ≡ true → v ≡ cleared u → Promised y v
    head_refused t' u v (Err r) w k a e c =
        let n = ap length w in
        let m = clear_length t l in
        let q = k.same_length in
        let p : drop 11280 u ≡ drop 11280 t = k.past ∙ ap (drop 11280) w ∙ clear_past t l in
        gone r v (told-refused _ _ r (sym a.answer)) (c ∙ clear_is u (omega arith) ∙ ap (λ (z : List ℕ). replicate 11280 0 ++ z) p)
    head_refused t' u v (Ok d) w k a e c = cc

    pub head_read : (u : List ℕ) (y : Result Idat Refusal) → ReadLeft total head y (drop 11280 t) u → is_err y ≡ false → Promised y u
    unfolding left_by_reading
    head_read u (Ok d) a e =
        let o = told-ok _ _ d (sym a.answer) in
        (answer-is _ a.answer, a.left o.0 o.1 ∙ sym (words_are ∙ ap (left_by_reading total head t) o.1))
    head_read u (Err r) a e = cc
