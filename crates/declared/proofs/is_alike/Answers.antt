-- `declared::is_alike` meets its contract. The loop's invariant: the associations passed are the same. Assumes nothing.
use Prim.Native.Nat.{◌<◌}
use native.Mathlib.Omega.{arith}
use mathlib.Core.Path.{◌≡◌, refl, sym, ap, ◌∙◌}
use mathlib.Core.List.{List}
use lib.ListN.{length, get_or}
use Rattle.fields.proofs.TestLaws.{untrue}
use Rattle.contents.specs.Ipma.{Association}
use Rattle.rules.specs.Joined.{associations_of, no_association}
use Rattle.rules.specs.Words.{association_word}
use Rattle.views.specs.inner.View.{id_of}
use Rattle.views.proofs.TableLaws.{type-read}
use Rattle.declared.proofs.AlikeLaws.{alike_more, alike_all}
use Rattle.declared.proofs.is_alike.Goals as goal

pub returns-then-type_of : goal.returns-then-type_of
returns-then-type_of c =
    let a = c.args in
    λ head pl f v h g. (
      λ e. untrue e,
      λ k. absurd (c.if-type_of.true (type-read v a.row.0 h c.type_of.result c.type_of.ensures ∙ k.0 ∙
          sym (type-read v a.other.0 g c.type_of-2.result c.type_of-2.ensures))),
    )

pub returns-then-n-property_count : goal.returns-then-n-property_count
returns-then-n-property_count c =
    λ head pl f v h g. (
      λ e. untrue e,
      λ k. absurd (c.if-n-property_count.true (c.property_count-n.ensures head pl f v h ∙ ap length k.1 ∙
          sym (c.property_count.ensures head pl f v g))),
    )

pub loop-j-init : goal.loop-j-init
loop-j-init c = λ head pl f v h g i l. absurd (omega arith)

pub returns-then-association_of : goal.returns-then-association_of
returns-then-association_of c =
    let q = c.loop-j in
    λ head pl f v h g. (
      λ e. untrue e,
      λ k. absurd (c.if-association_of.true (c.association_of.ensures head pl f v h
          (omega (arith, c.property_count-n.ensures head pl f v h)) ∙
          ap (λ (l : List Association). association_word (get_or l q.j no_association)) k.1 ∙
          sym (c.association_of-in-loop-j.ensures head pl f v g
          (omega (arith, c.if-n-property_count.false, c.property_count.ensures head pl f v g))))),
    )

pub loop-j-preserved : goal.loop-j-preserved
loop-j-preserved c =
    let a = c.args in
    let q = c.loop-j in
    λ head pl f v h g. let l : q.j < length (associations_of f (id_of f a.row.0)) =
    omega (arith, c.property_count-n.ensures head pl f v h) in
    let m : q.j < length (associations_of f (id_of f a.other.0)) =
    omega (arith, c.if-n-property_count.false, c.property_count.ensures head pl f v g) in
    alike_more v (id_of f a.row.0) (id_of f a.other.0) q.j l m c.association_of.result c.association_of-in-loop-j.result
    (c.association_of.ensures head pl f v h l) (c.association_of-in-loop-j.ensures head pl f v g m)
    c.if-association_of.false (q.invariant head pl f v h g)

pub returns : goal.returns
returns c =
    let a = c.args in
    let q = c.loop-j in
    λ head pl f v h g.
    let n : q.j ≡ c.property_count-n.result = omega arith in (
      λ e. (
        sym (type-read v a.row.0 h c.type_of.result c.type_of.ensures) ∙ c.if-type_of.false ∙
            type-read v a.other.0 g c.type_of-2.result c.type_of-2.ensures,
        alike_all f (id_of f a.row.0) (id_of f a.other.0) q.j (n ∙ c.property_count-n.ensures head pl f v h)
            (n ∙ c.if-n-property_count.false ∙ c.property_count.ensures head pl f v g) (q.invariant head pl f v h g),
      ),
      λ k. refl,
    )
