-- `judging::judge_sizes` meets its contract. The loop's invariant: of the rows passed, the one to name is the first
-- misfit of the least depth. Assumes nothing.
use Prim.Native.Nat.{◌<◌}
use native.Mathlib.Omega.{arith}
use mathlib.Core.Path.{◌≡◌, sym, ◌∙◌}
use lib.ListN.{length}
use Rattle.fields.proofs.TestLaws.{untrue}
use Rattle.rules.specs.Derivations.{scene_of}
use Rattle.judging.proofs.SceneLaws.{deep_word}
use Rattle.judging.proofs.MisfitLaws.{least_begun, least-same, least_other, least_more, least-none, least-named, least-row}
use
    Rattle.judging.proofs.judge_sizes.Goals.{
      then-d-depth+then-is_misfit,
      else-d-depth,
      else-d-depth-via-then-d-depth+else-is_misfit,
      else-d-depth-via-else-d-depth,
    }
use Rattle.judging.proofs.judge_sizes.Goals as goal

-- no table that is a file's is shorter, or has more items
pub returns-then-table-lt-WORDS : goal.returns-then-table-lt-WORDS
returns-then-table-lt-WORDS c = λ total f d. absurd (omega (arith, d.followed.view.enough, c.if-table-lt-WORDS.true))

pub returns-then-n-gt256 : goal.returns-then-n-gt256
returns-then-n-gt256 c =
    λ total f d. absurd (omega (
      arith,
      d.followed.view.items,
      d.followed.view.bounded.few-items,
      c.item_count-n.ensures,
      c.if-n-gt256.true,
    ))

pub loop-k-init : goal.loop-k-init
loop-k-init c =
    λ total f d. least_begun (scene_of total c.args.head.now f) f

pub loop-k-preserved : goal.loop-k-preserved
loop-k-preserved c =
    let a = c.args in
    let q = c.loop-k in
    λ total f d.
    let s = scene_of total a.head.now f in
    let l = q.invariant total f d in
    let h : q.k < length f.items = omega (arith, d.followed.view.items, c.item_count-n.ensures) in
    let e = deep_word total a.head.now f d q.k h c.record_word-d.result
    (c.record_word-d.ensures (omega (arith, d.followed.view.bounded.few-items))) in
    elim c.if-d-depth.branch [
      | then-d-depth+then-is_misfit z ↦ least-same s f _ _ _ _ _ z.depth-is z.named-is
          (least_more s f q.k q.depth q.named l c.record_word-d.result e z.if-d-depth.true
          (sym (z.is_misfit.ensures total f d h) ∙ z.if-is_misfit.true))
      | else-d-depth z ↦ least-same s f _ _ _ _ _ z.depth-is z.named-is
          (least_other s f q.k q.depth q.named l (elim z.else-d-depth.branch [
            | else-d-depth-via-then-d-depth+else-is_misfit o ↦ λ m. untrue (sym o.if-is_misfit.false ∙ o.is_misfit.ensures total f d h ∙ m)
            | else-d-depth-via-else-d-depth o ↦ λ m. omega (arith, o.if-d-depth.false, e)
          ]))
    ]

pub returns-then-depth-eq17 : goal.returns-then-depth-eq17
returns-then-depth-eq17 c =
    let q = c.loop-k in
    λ total f d. least-none (scene_of total c.args.head.now f) f q.k q.depth q.named (q.invariant total f d)
    (omega (arith, d.followed.view.items, c.item_count-n.ensures)) (omega (arith, c.if-depth-eq17.true))

pub returns : goal.returns
returns c =
    let q = c.loop-k in
    λ total f d.
    let s = scene_of total c.args.head.now f in
    let l = q.invariant total f d in
    let all : q.k ≡ length f.items = omega (arith, d.followed.view.items, c.item_count-n.ensures) in
    let one : q.depth < 17 = omega (arith, l.shallow, c.if-depth-eq17.false) in
    let h = least-row s f q.k q.depth q.named l all one in
    least-named s f q.k q.depth q.named l all one _
    (c.id_of.ensures (omega (arith, h, d.followed.view.bounded.few-items)) ∙ d.followed.view.id q.named h)
