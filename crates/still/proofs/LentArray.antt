-- A local `[0u32; n]` that is lent whole as a slice, and taken back. It says nothing of the crate. Assumes `Logic`.
--     Lies zs          the n elements zs lie in the local at b
--     big              a constant that is written `int_big`, as the length of a slice of such an array is
--     zeros_typed      `[0u32; n]` is of its type
--     zeros_lie        where the local holds it, n elements lie there
--     lends_local      they are lent as a `&mut [u32]` for κ;      local_back     and come back, at what the slice left
--     shares_local     they are lent as a `&[u32]` for κ, and come back by `lent_back`
--     local_room       the local is room again, whatever lies there
use mathlib.Core.Path.{refl, sym, subst}
use Prim.Native.Nat.{ℕ, zero, suc}
use mathlib.Core.List.{List, [], ◌∷◌}
use lib.Dec.{T as Holds, lit<}
use lib.ListN.{length, replicate, length-replicate}
use seplogic.Ra.Ura.{Ura}
use base.Fraction.{full_share}
use mir.Syntax.{Width, Lifetime, ty_array, ty_int, w32, int_big}
use mir.Val.{Val, WT, has_ty, vint, Fits}
use base.Logic.{SProp, ent, sep, ex, via, guard_i, snd∗, id⊢}
use base.Fml.{Lft, GName, Fml, fat, fdead, flent, feq, fhide}
use prog.Wp.{Env}
use types.Logic.{Logic, sem}
use types.Kit.{
  Item,
  ‵,
  raw,
  ◌⊛◌,
  some,
  later,
  ◌$◌,
  ◌∵◌,
  !,
  qed,
  move,
  use1,
  use2,
  use3,
  drop,
  split,
  pick,
  rewrite,
  fsplit,
  fjoin,
  feq_l,
  feq_i,
  await,
  updating,
  now as at_once,
  show,
  done,
}
use types.Run.{Opd, forget}
use types.Share.{arr_parts, parts}
use types.SemTy.{Arr}
use denote.Shadow.{shadow, pure_i}
use denote.Laws.{Is}
use denote.Plain.{uint_Lawful, uint_Makes, uint_copy}
use denote.Builtin.{u32}
use denote.Steps.{owned}
use denote.Memory.{mem, part_at, shares}
use denote.Array.{Array, array_val, each, Array-Lawful, Array-repeat}
use denote.ArrayMemory.{Array-apart, Array-whole}
use denote.Ref.{Bor, MutBor}
use denote.Slice.{slice_val, MutSlice, ShrSlice, Room, finally, shr_slice_at, elements_shared}
use denote.Lend.{Held, Lent, lends_slice, slice_back}
use denote.Lends.{Lent-map}
use denote.Copied.{uint_Copied, each_lends}
use borrow.Table.OneValue.{part_in, part_out}
use borrow.Rule.Slice.Shared.{parts-cells}

module _ {M : Type 1} {𝓤 : Ura M} {𝓛 : Logic 𝓤} {K : Type 0} {Γ : List (Item 𝓤)} {E : Env 𝓤 𝓛.H} where
  pub big : K → {w : Width} {n : ℕ} → Fits w n → Opd K 𝓛 Γ E (int_big w n) (vint w n)
  big t {w} {n} z = record { go = λ Kt h. via 𝓤 (Kt (vint w n)) h (guard_i 𝓤 (Fits w n) (Kt (vint w n)) z) }

abbrev pub zeros : ℕ → Val
zeros n = array_val (replicate n (vint w32 0))

each-zero : (n : ℕ) → shadow (each ℕ u32.own_val (replicate n 0) (replicate n (vint w32 0)))
each-zero zero = tt
each-zero (suc n) = ((refl, lit< tt), each-zero n)

module _ {M : Type 1} {𝓤 : Ura M} (𝓛 : Logic 𝓤) (n b : ℕ) where
  open 𝓛 use {H, A}

  abbrev pub Lies : List ℕ → Fml
  Lies zs = (arr_parts (shares u32) n).part full_share zs b 0

  abbrev at-list : GName → List ℕ → MutBor (List ℕ)
  at-list γ zs = record { ref_ptr = (b, 0); ghost_name = γ; now = zs }

  pub zeros_typed : Holds (has_ty (ty_array (ty_int w32) n) (zeros n)) × WT (zeros n)
  zeros_typed = ((Array-Lawful 𝓛 u32 (uint_Lawful 𝓛 w32) n).typed (replicate n 0) (zeros n ∷ [])
      (replicate n (vint w32 0), ((refl, length-replicate n 0), each-zero n))).0

  pub zeros_lie : ent 𝓤 (H.at full_share (ty_array (ty_int w32) n) b 0 (zeros n)) (ex 𝓤 (λ (zs : List ℕ). sem 𝓛 (Lies zs)))
  zeros_lie =
      qed 𝓛 (‵ (fat full_share (ty_array (ty_int w32) n) b 0 (zeros n)) ∷ []) ∵
      owned ! u32 (Is u32) (uint_Makes 𝓛 w32) 0 (vint w32 0 ∷ []) (refl, lit< tt) $
      use1 𝓛 (‵ ((Array u32 n).own_val (replicate n 0) (zeros n ∷ []))) (Array-repeat 𝓛 u32 (uint_copy 𝓛 w32) n 0 (vint w32 0)) $
      move ! (1 ∷ 0 ∷ []) $
      use2 𝓛 (‵ (part_at (Array u32 n) full_share (replicate n 0) b 0)) (part_in 𝓛 (Array u32 n) refl full_share (replicate n 0) b 0 (zeros n)) $
      use1 𝓛 (‵ (Lies (replicate n 0))) (Array-apart 𝓛 u32 full_share tt n (replicate n 0) b 0) $
      show ! (λ (zs : List ℕ). sem 𝓛 (Lies zs)) (replicate n 0) $ done !

  module _ (κ : Lft) (zs : List ℕ) where
    abbrev pub LentOut : Lifetime → GName → ℕ → SProp 𝓤
    LentOut ℓ γ k = sep 𝓤 (sem 𝓛 ((MutSlice ℓ κ u32).own_val (at-list γ zs) (slice_val (b, 0) k ∷ []))) (A.lent κ (Held u32 k b 0 γ))

    pub lends_local : (ℓ : Lifetime) → Room u32 n → ent 𝓤 (sem 𝓛 (Lies zs)) (H.⇛ (ex 𝓤 (λ (γ : GName). LentOut ℓ γ n)))
    lends_local ℓ room =
        qed 𝓛 (‵ (Lies zs) ∷ []) ∵ updating ! $ fsplit ! $ feq_l ! (λ l.
        rewrite ! 0 (λ (F : Fml). ‵ F) (parts-cells u32 full_share zs b 0) refl $
        use1 𝓛 (later (some (λ (γ : GName). raw (Lent 𝓛 u32 ℓ κ zs b 0 γ))))
        (lends_slice 𝓛 u32 ℓ κ zs b 0 (subst (Room u32) (sym l) room)) $ await ! tt $ pick ! (λ γ.
        rewrite ! 0 (λ (k : ℕ). raw (LentOut ℓ γ k)) l refl $ at_once ! $ show ! (λ (δ : GName). LentOut ℓ δ n) γ $ done !))

    pub local_back : (γ : GName) →
        ent 𝓤 (sep 𝓤 (A.dead κ) (sep 𝓤 (A.lent κ (Held u32 n b 0 γ)) (sem 𝓛 (finally u32 γ zs)))) (H.⇛ (sem 𝓛 (Lies zs)))
    local_back γ =
        qed 𝓛 (‵ (fdead κ) ∷ ‵ (flent κ (Held u32 n b 0 γ)) ∷ ‵ (finally u32 γ zs) ∷ []) ∵ updating ! $
        use3 𝓛 (later (‵ ((Arr (mem u32) n).own_at zs b 0))) (slice_back 𝓛 u32 κ γ zs n b 0) $ await ! tt $ fsplit ! $ move ! (1 ∷ []) $
        rewrite ! 0 (λ (F : Fml). ‵ F) (sym (parts-cells u32 full_share zs b 0)) refl $ move ! (1 ∷ 0 ∷ []) $ fjoin ! $ at_once ! $ done !

    abbrev shared_list : Bor (List ℕ)
    shared_list = record { ref_ptr = (b, 0); now = zs }

    abbrev pub SharedOut : Lifetime → ℕ → SProp 𝓤
    SharedOut ℓ k = sep 𝓤 (sem 𝓛 ((ShrSlice ℓ κ u32).own_val shared_list (slice_val (b, 0) k ∷ [])))
        (A.lent κ ((arr_parts (shares u32) k).part full_share zs b 0))

    pub shares_local : (ℓ : Lifetime) → Room u32 n → ent 𝓤 (sem 𝓛 (Lies zs)) (H.⇛ (SharedOut ℓ n))
    shares_local ℓ room =
        let k = length zs in let Row = parts (mem u32) (shares u32) full_share zs b 0 in
        let Counted = (arr_parts (shares u32) k).part full_share zs b 0 in let Each = elements_shared u32 zs b 0 in
        qed 𝓛 (‵ (Lies zs) ∷ []) ∵ updating ! $ fsplit ! $ feq_l ! (λ l. feq_i ! ℕ k k refl $ fjoin ! $
        use1 𝓛 (later (‵ (fhide (Each κ)) ⊛ ‵ (flent κ Counted)))
        (Lent-map 𝓛 Counted Row Each (snd∗ 𝓤 (sem 𝓛 (feq ℕ k k)) (sem 𝓛 Row))
        (qed 𝓛 (‵ Row ∷ []) {P = sem 𝓛 Counted} (feq_i ! ℕ k k refl $ done !))
        (each_lends 𝓛 u32 (uint_Copied 𝓛 w32) full_share zs b 0) κ) $ await ! tt $ split ! $
        pure_i ! (shr_slice_at u32 shared_list (slice_val (b, 0) k ∷ [])) (tt, (tt, tt)) (refl, subst (Room u32) (sym l) room) $ fjoin ! $
        use2 𝓛 (raw (SharedOut ℓ k)) (id⊢ 𝓤 _) $ rewrite ! 0 (λ (m : ℕ). raw (SharedOut ℓ m)) l refl $ at_once ! $ done !)

  pub local_room : (zs : List ℕ) → ent 𝓤 (sem 𝓛 (Lies zs)) (H.room (ty_array (ty_int w32) n) b 0)
  local_room zs =
      qed 𝓛 (‵ (Lies zs) ∷ []) ∵ use1 𝓛 (‵ (part_at (Array u32 n) full_share zs b 0)) (Array-whole 𝓛 u32 full_share n zs b 0) $
      use1 𝓛 (some (λ (v : Val). ‵ (fat full_share (ty_array (ty_int w32) n) b 0 v) ⊛ ‵ ((Array u32 n).own_val zs (v ∷ []))))
      (part_out 𝓛 (Array u32 n) refl full_share zs b 0) $ pick ! (λ v. split ! $ move ! (1 ∷ []) $ drop ! $ forget ! 0 refl $ done !)
