-- `pictures::turn_of` meets its contract. Assumes nothing.
use Rattle.pictures.specs.Decode.{rotation, mirror}
use Rattle.pictures.proofs.TurnByLaws.{by-irot, by-imir, by-clap}
use Rattle.std.proofs.Common.{ℕ, ◌%◌, sym, ap, ◌∙◌}
use Rattle.pictures.proofs.turn_of.Goals as goal

pub returns-then-kind-eq-IROT : goal.returns-then-kind-eq-IROT
returns-then-kind-eq-IROT c =
    let a = c.args in
    λ z. c.rotation_of.ensures ∙ ap (λ (n : ℕ). rotation (n % 4)) c.be8.ensures ∙
    sym (by-irot a.s a.kind a.b.now c.if-kind-eq-IROT.true)

pub returns-then-kind-eq-IMIR : goal.returns-then-kind-eq-IMIR
returns-then-kind-eq-IMIR c =
    let a = c.args in
    λ z. c.mirror_of-then-kind-eq-IMIR.ensures ∙ ap (λ (n : ℕ). mirror (n % 2)) c.be8-then-kind-eq-IMIR.ensures ∙
    sym (by-imir a.s a.kind a.b.now c.if-kind-eq-IROT.false c.if-kind-eq-IMIR.true)

pub returns : goal.returns
returns c =
    let a = c.args in
    λ z. c.crop_of.ensures ∙ sym (by-clap a.s a.kind a.b.now c.if-kind-eq-IROT.false c.if-kind-eq-IMIR.false)
