-- `declared::read_sizes` meets its contract. The loop's invariant: what is left from j on, behind the sizes read so
-- far, tells the same as the whole. Assumes nothing.
use Prim.Native.Nat.{◌+◌, ◌<◌}
use native.Mathlib.Omega.{arith}
use mathlib.Core.Path.{◌≡◌, sym, ap, ◌∙◌}
use mathlib.Core.Logic.{inl, inr}
use lib.ListN.{length, drop}
use Rattle.fields.proofs.TestLaws.{untrue}
use Rattle.pictures.specs.Decode.{transform}
use Rattle.rules.specs.Joined.{associations_of}
use Rattle.rules.specs.Rules.{essential_known}
use Rattle.views.specs.inner.View.{id_of}
use Rattle.declared.proofs.EssentialLaws.{essential-not, essential-known, essential-unknown}
use Rattle.declared.proofs.ToldLaws.{told-all, told-end, told-unknown, told-second, told_early, told-declared, told-turned, told-other}
use Rattle.declared.proofs.read_sizes.Goals as goal
use
    Rattle.declared.proofs.read_sizes.Goals.{
      then-kind-eq-ISPE+else-sized,
      else-kind-eq-ISPE,
      else-association_of-ge-ESSENTIAL-via-then-association_of-ge-ESSENTIAL+else-not-is_known,
      else-association_of-ge-ESSENTIAL-via-else-association_of-ge-ESSENTIAL,
      then-is_transform+else-not-sized,
      else-is_transform,
    }

pub loop-j-init : goal.loop-j-init
loop-j-init c = λ pl f v h. told-all f (id_of f c.args.row.0) _ _

pub returns-then-not-is_known : goal.returns-then-not-is_known
returns-then-not-is_known c =
    let a = c.args in
    let q = c.loop-j in
    λ pl f v h.
    let l : q.j < length (associations_of f (id_of f a.row.0)) =
    omega (arith, c.property_count-n.ensures a.head.now pl f v h) in
    sym (q.invariant pl f v h ∙ told-unknown f (id_of f a.row.0) q.j q.sized q.declared q.output
    (essential-unknown v (id_of f a.row.0) q.j l c.association_of.result (c.association_of.ensures a.head.now pl f v h l)
    c.if-association_of-ge-ESSENTIAL.true c.kind_of-kind.result (c.kind_of-kind.ensures a.head.now pl f v h l) c.is_known.result c.is_known.ensures
    (c.if-not-is_known.true)))

pub returns-then-sized : goal.returns-then-sized
returns-then-sized c =
    let a = c.args in
    let q = c.loop-j in
    λ pl f v h.
    let l : q.j < length (associations_of f (id_of f a.row.0)) =
    omega (arith, c.property_count-n.ensures a.head.now pl f v h) in
    sym (q.invariant pl f v h ∙ told-second v (id_of f a.row.0) q.j l c.kind_of-kind.result
    (c.kind_of-kind.ensures a.head.now pl f v h l) q.sized q.declared q.output c.if-kind-eq-ISPE.true
    c.if-sized.true)

pub returns-then-not-sized : goal.returns-then-not-sized
returns-then-not-sized c =
    let a = c.args in
    let q = c.loop-j in
    λ pl f v h.
    let l : q.j < length (associations_of f (id_of f a.row.0)) =
    omega (arith, c.property_count-n.ensures a.head.now pl f v h) in
    sym (q.invariant pl f v h ∙ told_early v (id_of f a.row.0) q.j l c.kind_of-kind.result
    (c.kind_of-kind.ensures a.head.now pl f v h l) q.sized q.declared q.output c.if-kind-eq-ISPE.sized
    (elim c.if-kind-eq-ISPE.branch [ then-kind-eq-ISPE+else-sized z ↦ inl z.sized-is | else-kind-eq-ISPE z ↦ inr (z.if-kind-eq-ISPE.false, z.sized-is) ])
    (sym c.is_transform.ensures ∙ c.if-is_transform.true) (c.if-not-sized.true))

pub loop-j-preserved : goal.loop-j-preserved
loop-j-preserved c =
    let a = c.args in
    let q = c.loop-j in
    λ pl f v h. let l : q.j < length (associations_of f (id_of f a.row.0)) =
    omega (arith, c.property_count-n.ensures a.head.now pl f v h) in let e =
    c.kind_of-kind.ensures a.head.now pl f v h l in let m = c.association_of.ensures a.head.now pl f v h l in
    let known : essential_known f (drop q.j (associations_of f (id_of f a.row.0))) ≡ essential_known f
    (drop (q.j + 1) (associations_of f (id_of f a.row.0))) =
    elim c.else-association_of-ge-ESSENTIAL.branch [
      | else-association_of-ge-ESSENTIAL-via-then-association_of-ge-ESSENTIAL+else-not-is_known z ↦
          essential-known v (id_of f a.row.0) q.j l c.association_of.result m
          z.if-association_of-ge-ESSENTIAL.true c.kind_of-kind.result e z.is_known.result z.is_known.ensures z.if-not-is_known.false
      | else-association_of-ge-ESSENTIAL-via-else-association_of-ge-ESSENTIAL z ↦
          essential-not v (id_of f a.row.0) q.j l c.association_of.result m z.if-association_of-ge-ESSENTIAL.false
    ] in
    q.invariant pl f v h ∙ elim c.if-kind-eq-ISPE.branch [
      | then-kind-eq-ISPE+else-sized z ↦ elim c.if-is_transform.branch [
        | then-is_transform+else-not-sized y ↦ untrue (sym (ap transform z.if-kind-eq-ISPE.true) ∙ sym c.is_transform.ensures ∙ y.if-is_transform.true)
        | else-is_transform y ↦ told-declared v (id_of f a.row.0) q.j l c.kind_of-kind.result e q.sized q.declared q.output known
            c.if-kind-eq-ISPE.sized c.if-kind-eq-ISPE.declared c.if-kind-eq-ISPE.output c.if-is_transform.output _ _
            (z.box_of.ensures pl f v h l) z.content_of.ensures z.ispe_size-declared.result z.if-kind-eq-ISPE.true z.if-sized.false
            z.ispe_size-declared.ensures z.sized-is z.declared-is z.output-is y.output-is
      ]
      | else-kind-eq-ISPE z ↦ elim c.if-is_transform.branch [
        | then-is_transform+else-not-sized y ↦ told-turned v (id_of f a.row.0) q.j l c.kind_of-kind.result e q.sized q.declared q.output known
            c.if-kind-eq-ISPE.sized c.if-kind-eq-ISPE.declared c.if-kind-eq-ISPE.output c.if-is_transform.output _ _
            (y.box_of-then-is_transform.ensures pl f v h l) y.content_of-b.ensures y.turn_of.result
            z.if-kind-eq-ISPE.false z.sized-is z.declared-is z.output-is
            (sym c.is_transform.ensures ∙ y.if-is_transform.true) y.if-not-sized.false y.turn_of.ensures (y.output-is ∙ y.size_after-output.ensures)
        | else-is_transform y ↦ told-other v (id_of f a.row.0) q.j l c.kind_of-kind.result e q.sized q.declared q.output known
            c.if-kind-eq-ISPE.sized c.if-kind-eq-ISPE.declared c.if-kind-eq-ISPE.output c.if-is_transform.output
            z.if-kind-eq-ISPE.false z.sized-is z.declared-is z.output-is (sym c.is_transform.ensures ∙ y.if-is_transform.false) y.output-is
      ]
    ]

pub returns : goal.returns
returns c =
    let a = c.args in
    let q = c.loop-j in
    λ pl f v h. c.then_some.ensures ∙ sym (q.invariant pl f v h ∙
    told-end f (id_of f a.row.0) q.j q.sized q.declared q.output
    (omega (arith, c.property_count-n.ensures a.head.now pl f v h)))
