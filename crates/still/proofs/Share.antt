-- A `&κ mut [T]` that is not used again is shared for all the time that it has left, with a token of κ, which comes back: the
-- `&κ [T]` is on the same elements, and the name of the `&mut` ends at them as they are. It says nothing of the crate. Assumes `Logic`.
--     shared           where T has the law by which a `&` of it is made (`Denote/Shares.antt`'s `Shares`, at κ)
--     shared_copied    where T is Copy (`Denote/Copied.antt`'s `Copied`), which has that law
--     shared_u32       of a `&mut [u32]`, with no condition
use mathlib.Core.Path.{refl}
use Prim.Native.Nat.{ℕ}
use mathlib.Core.List.{List, [], ◌∷◌}
use lib.ListN.{length, length-map}
use seplogic.Ra.Ura.{Ura}
use base.Fraction.{full_share}
use mir.Syntax.{Lifetime, w32}
use mir.Val.{Val}
use base.Logic.{SProp, ent, sep, emp, id⊢}
use base.Fml.{Lft, GName, Share, ftrue, flft, fobs, fbor, fhide}
use ghost.Rules.{Toks}
use types.Logic.{Logic, sem, lfts}
use types.Kit.{
  ‵,
  raw,
  ◌⊛◌,
  later,
  ◌$◌,
  ◌∵◌,
  !,
  qed,
  move,
  keep,
  use0,
  use1,
  use2,
  use3,
  drop,
  split,
  fsplit,
  fjoin,
  feq_i,
  await,
  updating,
  now as at_once,
  done,
}
use types.Tokens.{name_done}
use types.SemTy.{SemTy, cells, Arr}
use types.Hole.{Holey, here, heres_in, heres_out}
use denote.RattleType.{RattleType}
use denote.Builtin.{u32}
use denote.Shadow.{pure_l, pure_i}
use denote.Memory.{mem, shared_of}
use denote.Ref.{Bor, MutBor}
use denote.Slice.{slice_val, MutSlice, ShrSlice, finally, heres, coded_holeys, mut_slice_at, shr_slice_at, elements_shared, res-finally}
use denote.Index.{row, whole_in, whole_out}
use denote.Shares.{Shares, bor-Cut, settles, shares_each}
use denote.Copied.{Copied, uint_Copied}

module _ {M : Type 1} {𝓤 : Ura M} (𝓛 : Logic 𝓤) (R : RattleType) (κ : Lft) (q : Share)
    (γ : GName) (b o : ℕ) (ys : List R.Denot) (ℓ ℓ' : Lifetime) where
  open 𝓛 use {H, A}

  abbrev before : MutBor (List R.Denot)
  before = record { ref_ptr = (b, o); ghost_name = γ; now = ys }

  abbrev after : Bor (List R.Denot)
  after = record { ref_ptr = (b, o); now = ys }

  abbrev vals : List Val
  vals = slice_val (b, o) (length ys) ∷ []

  abbrev pub Shared : SProp 𝓤
  Shared = sep 𝓤 (sem 𝓛 ((ShrSlice ℓ' κ R).own_val after vals)) (sep 𝓤 (sem 𝓛 (finally R γ ys)) (A.lft κ q))

  -- the elements as the borrow has them
  abbrev all : SemTy
  all = Arr (Holey (mem R)) (length ys)

  abbrev one : Toks
  one = (κ, q) ∷ []

  into : ent 𝓤 (sep 𝓤 (sem 𝓛 (row R full_share ys b o)) (sep 𝓤 (emp 𝓤) (emp 𝓤))) (sem 𝓛 (all.own_at (heres R ys) b o))
  into = qed 𝓛 (‵ (row R full_share ys b o) ∷ ‵ ftrue ∷ raw (emp 𝓤) ∷ []) {P = sem 𝓛 (all.own_at (heres R ys) b o)} (keep ! (0 ∷ []) $
      use1 𝓛 (‵ (cells (mem R) ys b o)) (whole_in 𝓛 R ys b o) $
      use1 𝓛 (‵ (cells (Holey (mem R)) (heres R ys) b o)) (heres_in 𝓛 (mem R) ys b o) $
      feq_i ! ℕ (length (heres R ys)) (length ys) (length-map ys (here (mem R))) $ fjoin ! $ done !)

  out : ent 𝓤 (sem 𝓛 (all.own_at (heres R ys) b o)) (sep 𝓤 (sem 𝓛 (row R full_share ys b o)) (sep 𝓤 (emp 𝓤) (emp 𝓤)))
  out = qed 𝓛 (‵ (all.own_at (heres R ys) b o) ∷ []) {P = sep 𝓤 (sem 𝓛 (row R full_share ys b o)) (sep 𝓤 (emp 𝓤) (emp 𝓤))} (fsplit ! $ drop ! $
      use1 𝓛 (‵ (cells (mem R) ys b o)) (heres_out 𝓛 (mem R) ys b o) $ use1 𝓛 (‵ (row R full_share ys b o)) (whole_out 𝓛 R ys b o) $
      use0 𝓛 (raw (emp 𝓤)) (id⊢ 𝓤 (emp 𝓤)) $ use0 𝓛 (raw (emp 𝓤)) (id⊢ 𝓤 (emp 𝓤)) $ move ! (2 ∷ 0 ∷ 1 ∷ []) $ done !)

  pub shared : Shares 𝓛 R κ → ent 𝓤 (sep 𝓤 (sem 𝓛 ((MutSlice ℓ κ R).own_val before vals)) (A.lft κ q)) (H.⇛ Shared)
  shared law =
      qed 𝓛 (‵ ((MutSlice ℓ κ R).own_val before vals) ∷ ‵ (flft κ q) ∷ []) ∵ updating ! $ fsplit ! $ pure_l ! (mut_slice_at R before vals)
      (λ p. fsplit ! $
      -- [the name; the borrow; the token]
      use3 𝓛 (later (‵ (fobs γ ((coded_holeys R).code (heres R ys))) ⊛ (‵ (fbor κ (all.own_at (heres R ys) b o)) ⊛ raw (lfts 𝓛 one))))
      (settles 𝓛 all κ one (λ a m. m) γ (heres R ys) b o) $ await ! tt $ split ! $
      name_done ! tt $ use1 𝓛 (‵ (finally R γ ys)) (res-finally 𝓛 ℓ κ R γ ys) $ move ! (1 ∷ []) $ split ! $
      use2 𝓛 (later (‵ (fbor κ (row R full_share ys b o)) ⊛ (‵ (fbor κ ftrue) ⊛ raw (lfts 𝓛 one))))
      (bor-Cut 𝓛 κ one (λ a m. m) (all.own_at (heres R ys) b o) (row R full_share ys b o) ftrue (emp 𝓤) into out) $
      await ! tt $ split ! $ move ! (1 ∷ []) $ split ! $ drop ! $ move ! (1 ∷ 0 ∷ []) $
      -- [the borrow of the elements; the token; how the name ends]
      use2 𝓛 (later (‵ (fhide (elements_shared R ys b o κ)) ⊛ raw (lfts 𝓛 one)))
      (shares_each 𝓛 R (shared_of R) κ law ys κ one b o (λ a m. m) (λ a m. m)) $ await ! tt $ split ! $
      at_once ! $ pure_i ! (shr_slice_at R after vals) (tt, (tt, tt)) (refl, p.1) $ fjoin ! $ move ! (0 ∷ 2 ∷ 1 ∷ []) $ done !)

  pub shared_copied : Copied 𝓛 R → ent 𝓤 (sep 𝓤 (sem 𝓛 ((MutSlice ℓ κ R).own_val before vals)) (A.lft κ q)) (H.⇛ Shared)
  shared_copied c = shared (c.shares full_share κ)

module _ {M : Type 1} {𝓤 : Ura M} (𝓛 : Logic 𝓤) (κ : Lft) (q : Share) (γ : GName) (b o : ℕ) (ys : List ℕ) (ℓ ℓ' : Lifetime) where
  open 𝓛 use {H, A}

  pub shared_u32 : ent 𝓤 (sep 𝓤 (sem 𝓛 ((MutSlice ℓ κ u32).own_val (before 𝓛 u32 κ q γ b o ys ℓ ℓ') (vals 𝓛 u32 κ q γ b o ys ℓ ℓ'))) (A.lft κ q))
      (H.⇛ (Shared 𝓛 u32 κ q γ b o ys ℓ ℓ'))
  shared_u32 = shared_copied 𝓛 u32 κ q γ b o ys ℓ ℓ' (uint_Copied 𝓛 w32)
