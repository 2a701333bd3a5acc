-- The children of `meta` as the code finds them. Assumes nothing.
use Prim.Native.Nat.{ℕ, ◌+◌, ◌-◌, ◌≤◌, ◌<◌}
use native.Mathlib.Omega.{arith}
use mathlib.Core.Path.{◌≡◌, refl, sym, ap, ◌∙◌, subst}
use mathlib.Core.List.{List, [], ◌∷◌, append-nil}
use mathlib.Core.Bool.{Bool, true, false}
use lib.ListN.{length, get_or, take, drop, length-take, length-drop}
use lib.Dec.{eqb}
use borrow.Author.Tests.{eqb-true, eq-eqb}
use Rattle.std.specs.Prelude.{◌||◌}
use Rattle.std.specs.List.{list_any}
use mathlib.Core.Logic.{inl, inr}
use Rattle.fields.specs.Choice.{pick}
use Rattle.fields.specs.Lists.{All}
use Rattle.boxes.specs.Box.{head_of, kind_of, body_of, IsBox, flat}
use Rattle.boxes.specs.Children.{of_kind, filled, place_of}
use Rattle.boxes.specs.inner.Where.{Where, nowhere, stands, where_of}
use Rattle.boxes.specs.inner.Family.{spot_of}
use Rattle.boxes.specs.declared.Spot.{Spot}
use Rattle.boxes.proofs.BoxLaws.{head_least, cut-is, cut-whole}
use Rattle.boxes.proofs.ChildLaws.{of_yes, of_no, nil_filled}
use Rattle.boxes.specs.Types.{hdlr, pitm, iinf, iloc, iprp, idat}
use Rattle.boxes.proofs.WhereLaws.{Stands, where_yes, where_no, where_first}
use Rattle.rules.specs.Places.{first_of}
use Rattle.rules.specs.Places.{places_at}
use Rattle.contents.specs.File.{data_of}
use Rattle.reading.specs.inner.Parts.{Has, Missing, kids, spots_in, Standing, told_spot}
use Rattle.reading.specs.declared.Idat.{Idat}

-- Has
pub has_first : (k : ℕ) (bs : List (List ℕ)) → Has k bs → (cs : List (List ℕ)) × (of_kind k bs ≡ first_of k bs ∷ cs)
has_first k bs h = go (of_kind k bs) h
  where
    go : (l : List (List ℕ)) → filled l ≡ true → (cs : List (List ℕ)) × (l ≡ get_or l 0 [] ∷ cs)
    go [] e = let z : ◌≡◌ {A = ℕ} 0 1 = cc in absurd (omega arith)
    go (b ∷ l) e = (l, refl)

-- where_of, where a box of the type is there, and where none is
pub record Found (k at : ℕ) (bs : List (List ℕ)) : Type 0 where
  pub start : ℕ
  pub is : where_of k at bs ≡ stands start (start + head_of (first_of k bs)) (start + length (first_of k bs))
  pub place : (base : ℕ) → place_of k (base + at) bs ≡ base + start

where_found : (k at : ℕ) (bs : List (List ℕ)) → Has k bs → Found k at bs
unfolding of_kind place_of pick
where_found k at [] h = let z : ◌≡◌ {A = ℕ} 0 1 = cc in absurd (omega arith)
where_found k at (b ∷ bs) h = go (eqb (kind_of b) k) refl (λ q. where_found k (at + length b) bs q)
  where
    go : (c : Bool) → eqb (kind_of b) k ≡ c → (Has k bs → Found k (at + length b) bs) → Found k at (b ∷ bs)
    go true e rec =
        let o = of_yes k b bs (eqb-true _ _ e) in
        let f : first_of k (b ∷ bs) ≡ b = ap (λ (l : List (List ℕ)). get_or l 0 []) o in
        record {
          start = at;
          is = where_yes k at b bs (eqb-true _ _ e) ∙ rw f;
          place = λ base. ap (λ (c : Bool). pick c (base + at) (place_of k (base + at + length b) bs)) e;
        }
    go false e rec =
        let o = of_no k b bs e in
        let r = rec (ap filled (sym o) ∙ h) in
        let f : first_of k (b ∷ bs) ≡ first_of k bs = ap (λ (l : List (List ℕ)). get_or l 0 []) o in
        record {
          start = r.start;
          is = where_no k at b bs e ∙ r.is ∙ rw f;
          place = λ base. ap (λ (c : Bool). pick c (base + at) (place_of k (base + at + length b) bs)) e ∙
              (let i : base + at + length b ≡ base + (at + length b) = omega arith in rw i (r.place base));
        }

where_missing : (k at : ℕ) (bs : List (List ℕ)) → filled (of_kind k bs) ≡ false → where_of k at bs ≡ nowhere
unfolding of_kind where_of pick
where_missing k at [] h = refl
where_missing k at (b ∷ bs) h = go (eqb (kind_of b) k) refl (λ q. where_missing k (at + length b) bs q)
  where
    go : (c : Bool) → eqb (kind_of b) k ≡ c → (filled (of_kind k bs) ≡ false → where_of k (at + length b) bs ≡ nowhere) → where_of k at (b ∷ bs) ≡ nowhere
    go true e rec = let z : ◌≡◌ {A = Bool} true false = ap filled (sym (of_yes k b bs (eqb-true _ _ e))) ∙ h in
        let w : ◌≡◌ {A = ℕ} 0 1 = cc in absurd (omega arith)
    go false e rec = where_no k at b bs e ∙ rec (ap filled (sym (of_no k b bs e)) ∙ h)

-- what a spot says of the child of a type, the content s being the boxes bs and beginning at `at`
pub record SpotIs (s : List ℕ) (at k : ℕ) (bs : List (List ℕ)) (p : Spot) : Type 0 where
  pub head : p.start < p.body
  pub order : p.body ≤ p.end
  pub upto : p.end ≤ length s
  pub some : p.end ≡ 0 → ⊥
  pub part : take (p.end - p.body) (drop p.body s) ≡ body_of (first_of k bs)
  pub place : at + p.start ≡ place_of k at bs
  pub begin : at + p.body ≡ place_of k at bs + head_of (first_of k bs)

module _ (s : List ℕ) (bs : List (List ℕ)) (all : All IsBox bs) (joined : flat bs ≡ s) (at k : ℕ) where
  pub spot_is : Has k bs → SpotIs s at k bs (spot_of (where_of k 0 bs))
  unfolding spot_of
  spot_is h =
      let x = where_found k 0 bs h in
      let o = has_first k bs h in
      let w = where_first k [] bs [] (first_of k bs) o.0 _ _ _ all o.1 x.is in
      let v : Stands s (first_of k bs) x.start (x.start + head_of (first_of k bs)) (x.start + length (first_of k bs)) =
      subst (λ (r : List ℕ). Stands r (first_of k bs) x.start (x.start + head_of (first_of k bs))
      (x.start + length (first_of k bs))) (append-nil (flat bs) ∙ joined) w in
      let e : spot_of (where_of k 0 bs) ≡ record {
        start = x.start;
        body = x.start + head_of (first_of k bs);
        end =
            x.start + length (first_of k bs);
      } = ap spot_of x.is in
      let z : at + 0 ≡ at = omega arith in
      let p : place_of k at bs ≡ at + x.start = ap (λ (i : ℕ). place_of k i bs) (sym z) ∙ x.place at in
      rw e (record {
        head = v.order.0;
        order = v.order.1;
        upto = v.upto;
        some = λ q. let r = head_least (first_of k bs) in let g = v.order in absurd (omega arith);
        part = v.part;
        place = sym p;
        begin = rw p (omega arith);
      })

  pub spot-none : filled (of_kind k bs) ≡ false → spot_of (where_of k 0 bs) ≡ record { start = 0; body = 0; end = 0 }
  unfolding spot_of
  spot-none h = ap spot_of (where_missing k 0 bs h)

-- spots_in: a spot that ends at 0 is that of a type that is not there
module _ (k : ℕ) (bs : List (List ℕ)) where
  pub there : ((spot_of (where_of k 0 bs)).end ≡ 0 → ⊥) → Has k bs
  unfolding spot_of
  there h = go (filled (of_kind k bs)) refl
    where
      go : (c : Bool) → filled (of_kind k bs) ≡ c → Has k bs
      go true e = e
      go false e = absurd (h (ap (λ (w : Where). (spot_of w).end) (where_missing k 0 bs e)))

  pub not_there : All IsBox bs → (spot_of (where_of k 0 bs)).end ≡ 0 → filled (of_kind k bs) ≡ false
  not_there a h = go (filled (of_kind k bs)) refl
    where
      go : (c : Bool) → filled (of_kind k bs) ≡ c → filled (of_kind k bs) ≡ false
      go true e = absurd ((spot_is (flat bs) bs a refl 0 k e).some h)
      go false e = e

-- a child that must be there is missing where one of the first five spots ends at 0
abbrev pub ends-at-0 : Spot → Bool
ends-at-0 p = eqb p.end 0

pub missing_any : (bs : List (List ℕ)) → All IsBox bs → Missing bs (list_any ends-at-0 (take 5 (spots_in bs)))
missing_any bs a = go _ _ _ _ _ refl refl refl refl refl
  where
    gone : ℕ → Bool
    gone k = ends-at-0 (spot_of (where_of k 0 bs))

    none : (k : ℕ) → gone k ≡ true → filled (of_kind k bs) ≡ false
    none k e = not_there k bs a (eqb-true _ _ e)

    some : (k : ℕ) → gone k ≡ false → Has k bs
    some k e = there k bs (λ z. let w : ◌≡◌ {A = Bool} true false = sym (eq-eqb _ _ z) ∙ e in cc)

    go : (h p i l r : Bool) → gone hdlr ≡ h → gone pitm ≡ p → gone iinf ≡ i → gone iloc ≡ l → gone iprp ≡ r →
        Missing bs (h || (p || (i || (l || (r || false)))))
    go true p i l r a b c d e = (hdlr, inl refl, none hdlr a)
    go false true i l r a b c d e = (pitm, inr (inl refl), none pitm b)
    go false false true l r a b c d e = (iinf, inr (inr (inr (inl refl))), none iinf c)
    go false false false true r a b c d e = (iloc, inr (inr (inl refl)), none iloc d)
    go false false false false true a b c d e = (iprp, inr (inr (inr (inr refl))), none iprp e)
    go false false false false false a b c d e =
        record { has_hdlr = some hdlr a; has_pitm = some pitm b; has_iinf = some iinf c; has_iloc = some iloc d; has_iprp = some iprp e }

-- the content of a child is as long as its spot says
pub spot-length : (s : List ℕ) (at k : ℕ) (bs : List (List ℕ)) (p : Spot) → SpotIs s at k bs p → p.body + length (body_of (first_of k bs)) ≡ p.end
spot-length s at k bs p h =
    let o = h.order in let u = h.upto in
    let e = ap length h.part in
    let l : length (take (p.end - p.body) (drop p.body s)) ≡ p.end - p.body = simp (length-take, length-drop) (omega arith) in
    omega arith

-- told_spot
module _ (s : List ℕ) (at : ℕ) (spots : List Spot) (st : Standing s spots) where
  abbrev last : Spot
  last = spot_of (where_of idat 0 (kids s))

  pub boxes-all : All IsBox (kids s)
  boxes-all = (cut-is s).all

  pub boxes-joined : flat (kids s) ≡ s
  boxes-joined = cut-whole s st.rest

  pub no_idat : last.end ≡ 0 → ◌≡◌ {A = Idat} (record { idat = 0; idat_end = 0 }) (told_spot at s)
  unfolding told_spot places_at data_of pick
  no_idat h =
      let e = not_there idat (kids s) boxes-all h in
      let n : of_kind idat (kids s) ≡ [] = nil_filled _ e in
      rw (e, n)

  pub an_idat : (last.end ≡ 0 → ⊥) → ◌≡◌ {A = Idat} (record { idat = at + last.body; idat_end = at + last.end }) (told_spot at s)
  unfolding told_spot places_at data_of pick
  an_idat h =
      let e = there idat (kids s) h in
      let i = spot_is s (kids s) boxes-all boxes-joined at idat e in
      let l = spot-length s at idat (kids s) last i in
      let o = has_first idat (kids s) e in
      let b = i.begin in
      let q : at + last.end ≡ at + last.body + length (body_of (first_of idat (kids s))) = omega arith in
      rw (o.1, q, b)

  abbrev here : Spot
  here = get_or spots 6 (record { start = 0; body = 0; end = 0 })

  here-is : here ≡ last
  here-is = ap (λ (l : List Spot). get_or l 6 (record { start = 0; body = 0; end = 0 })) st.spots_are

  pub idat-is : (here.end ≡ 0 → ⊥) → ◌≡◌ {A = Idat} (record { idat = at + here.body; idat_end = at + here.end }) (told_spot at s)
  idat-is h = rw here-is (an_idat (λ z. h (ap (λ (p : Spot). p.end) here-is ∙ z)))

  pub idat-within : at + length s ≤ 65536 → (at + here.body ≤ 65536) × (at + here.end ≤ 65536)
  unfolding spot_of
  idat-within l = rw here-is (go (filled (of_kind idat (kids s))) refl)
    where
      go : (c : Bool) → filled (of_kind idat (kids s)) ≡ c → (at + last.body ≤ 65536) × (at + last.end ≤ 65536)
      go true e = let i = spot_is s (kids s) boxes-all boxes-joined at idat e in let o = i.order in let u = i.upto in (omega arith, omega arith)
      go false e = let n = spot-none s (kids s) boxes-all boxes-joined at idat e in rw n (omega arith, omega arith)

  pub no_idat-at : here.end ≡ 0 → 0 ≡ (places_at at (kids s)).idat
  unfolding places_at pick
  no_idat-at h = let e = not_there idat (kids s) boxes-all (ap (λ (p : Spot). p.end) (sym here-is) ∙ h) in rw e refl

  pub an_idat-at : (here.end ≡ 0 → ⊥) → at + here.body ≡ (places_at at (kids s)).idat
  unfolding places_at pick
  an_idat-at h =
      let e = there idat (kids s) (λ z. h (ap (λ (p : Spot). p.end) here-is ∙ z)) in
      rw (here-is, e) (spot_is s (kids s) boxes-all boxes-joined at idat e).begin
