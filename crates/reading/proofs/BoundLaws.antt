-- What was read keeps the limits. Assumes nothing.
use Prim.Native.Nat.{ℕ, ◌≤◌}
use mathlib.Core.Path.{◌≡◌}
use mathlib.Core.List.{List}
use lib.ListN.{length}
use Rattle.boxes.specs.Answer.{ok}
use Rattle.forms.specs.Form.{whole}
use Rattle.forms.proofs.WholeLaws.{whole-sound}
use Rattle.contents.specs.Iloc.{Location, extents_in, iloc_form}
use Rattle.contents.specs.Ipma.{associations_in}
use Rattle.contents.specs.Iprp.{IprpContent, iprp_content}
use Rattle.contents.specs.Iref.{IrefContent, targets_in, references}
use Rattle.contents.proofs.PropertyLaws.{shown-sound}
use Rattle.contents.specs.File.{referred}
use Rattle.contents.proofs.ReferenceLaws.{references-sound, referred-sound}
use Rattle.contents.proofs.LimitLaws.{extents-few, associations-few, references-few, targets-few}

pub iloc-few : (ids : List ℕ) (p : ℕ) (s : List ℕ) (ls : List Location) → whole (iloc_form ids) p s ≡ ok ls → extents_in ls ≤ 512
iloc-few ids p s ls e = extents-few ids s ls (whole-sound (iloc_form ids) p s ls e)

pub shown-few : (ids : List ℕ) (p at : ℕ) (s : List ℕ) (v : IprpContent) → iprp_content ids p at s ≡ ok v →
    (length v.properties ≤ 256) × (associations_in v.associations ≤ 2048)
shown-few ids p at s v e = let h = shown-sound ids p at s v e in (h.properties.few, associations-few ids _ _ _ h.associations)

pub iref-few : (ids : List ℕ) (p at : ℕ) (s : List ℕ) (c : IrefContent) → references ids p at s ≡ ok c → targets_in c.derivations ≤ 2048
iref-few ids p at s c e = let h = references-sound ids p at s c e in references-few ids _ h.then.boxes c h.then.through

pub referred-few : (ids : List ℕ) (p : ℕ) (bs : List (List ℕ)) (c : IrefContent) → referred ids p bs ≡ ok c → targets_in c.derivations ≤ 2048
referred-few ids p bs c e = targets-few ids bs c (referred-sound ids p bs c e)
