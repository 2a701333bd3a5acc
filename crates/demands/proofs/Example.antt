-- There is such a file: document 01's own file keeps the rules, and the questions answer it by computation. Assumes nothing.
use mathlib.Core.Path.{◌≡◌, refl}
use mathlib.Core.Bool.{false}
use Rattle.fields.specs.Choice as FieldsChoice
use Rattle.fields.specs.Field as FieldsField
use Rattle.boxes.specs.Answer as BoxesAnswer
use Rattle.boxes.specs.Box as BoxesBox
use Rattle.boxes.specs.Children as BoxesChildren
use Rattle.boxes.specs.Exactly as BoxesExactly
use Rattle.boxes.specs.Top as BoxesTop
use Rattle.forms.specs.Form as FormsForm
use Rattle.forms.specs.Lead as FormsLead
use Rattle.contents.specs.File as ContentsFile
use Rattle.contents.specs.Full as ContentsFull
use Rattle.contents.specs.Hdlr as ContentsHdlr
use Rattle.contents.specs.Iinf as ContentsIinf
use Rattle.contents.specs.Iloc as ContentsIloc
use Rattle.contents.specs.Ipco as ContentsIpco
use Rattle.contents.specs.Ipma as ContentsIpma
use Rattle.contents.specs.Iprp as ContentsIprp
use Rattle.contents.specs.Iref as ContentsIref
use Rattle.contents.specs.Pitm as ContentsPitm
use Rattle.pictures.specs.Decode as PicturesDecode
use Rattle.pictures.specs.Depth as PicturesDepth
use Rattle.pictures.specs.Recipe as PicturesRecipe
use Rattle.pictures.specs.Scene as PicturesScene
use Rattle.pictures.specs.Sources as PicturesSources
use Rattle.pictures.specs.Trace as PicturesTrace
use Rattle.pictures.specs.Turn as PicturesTurn
use Rattle.rules.specs.Bytes as RulesBytes
use Rattle.rules.specs.Derivations as RulesDerivations
use Rattle.rules.specs.Joined as RulesJoined
use Rattle.rules.specs.Places as RulesPlaces
use Rattle.rules.specs.Opening as RulesOpening
use Rattle.questions.specs.Questions as Q
use Rattle.rules.specs.Rules as RulesRules
use Rattle.boxes.proofs.AnswerLaws.{bind_ok, then_ok}
use Rattle.faults.specs.Good.{GoodFile}
use Rattle.faults.proofs.GoodLaws.{accepted-good}
use Rattle.demands.specs.Example.{own}

-- "file 369 2 2"; item 1 is 640 × 480 and item 2 turned, 480 × 640; a pixel of item 2 is one of item 1
pub own_answers :
    (Q.verdict 11280 369 own ≡ BoxesAnswer.ok (record { items = 2; primary = 2 }))
    × (Q.size 11280 369 own 1 ≡ BoxesAnswer.ok (record {
      reconstructed = record { wide = 640; high = 480 };
      output = record { wide = 640; high = 480 };
      depth = 0;
    }))
    × (Q.size 11280 369 own 2 ≡ BoxesAnswer.ok (record {
      reconstructed = record { wide = 640; high = 480 };
      output = record { wide = 480; high = 640 };
      depth = 1;
    }))
    × (Q.trace 11280 369 own 2 (record { x = 0; y = 0 }) ≡ BoxesAnswer.ok (record {
      is_fill = false;
      item = 1;
      at = record { x = 639; y = 0 };
      passed = 2;
    }))
unfolding FieldsChoice.pick FieldsField.be_at BoxesAnswer.◌>>=◌ BoxesAnswer.◌>>◌ BoxesAnswer.check BoxesBox.head_of
    BoxesBox.size_of BoxesBox.starts BoxesBox.flat BoxesBox.cut_by BoxesBox.cut_n BoxesBox.cut BoxesChildren.gather
    BoxesChildren.no_rest BoxesChildren.contain BoxesChildren.of_kind BoxesChildren.once BoxesChildren.first_or
    BoxesChildren.place_of BoxesExactly.ended BoxesExactly.one_by BoxesExactly.exactly BoxesTop.fit BoxesTop.look
    BoxesTop.words BoxesTop.branded BoxesTop.by_kind BoxesTop.by_look BoxesTop.walk_n BoxesTop.by_first BoxesTop.meta_in
    FormsForm.give FormsForm.demand_of FormsForm.demand FormsForm.field_by FormsForm.field FormsForm.onto FormsForm.◌>>=◌
    FormsForm.many FormsForm.finish FormsForm.whole FormsForm.value_of FormsForm.front FormsLead.lead_by FormsLead.lead
    ContentsFile.referred ContentsFile.data_of ContentsFile.contents_of ContentsFile.file_of ContentsFile.read_file
    ContentsFull.full ContentsHdlr.hdlr_form ContentsIinf.infe_form ContentsIinf.infe_step ContentsIinf.iinf-count
    ContentsIinf.items ContentsIloc.extents_in ContentsIloc.extent_form ContentsIloc.entry_form ContentsIloc.iloc_form
    ContentsIpco.ispe_form ContentsIpco.bytes_form ContentsIpco.good_content ContentsIpco.property_step ContentsIpma.associations_in
    ContentsIpma.association_form ContentsIpma.ipma_entry_form ContentsIpma.ipma_form ContentsIprp.pair_of ContentsIprp.iprp_content
    ContentsIref.targets_in ContentsIref.target_form ContentsIref.referring_by ContentsIref.reference_form ContentsIref.kept_by
    ContentsIref.reference ContentsIref.references ContentsPitm.pitm_form PicturesDecode.rotation PicturesDecode.mirror PicturesDecode.turn_of
    PicturesDecode.turns_of PicturesDepth.reaches PicturesDepth.largest PicturesDepth.depth_by PicturesDepth.depth_n
    PicturesRecipe.grid_form PicturesRecipe.offset_form PicturesRecipe.iovl_form PicturesScene.output_of
    PicturesScene.all_size PicturesScene.made_up PicturesScene.good_sizes PicturesSources.needed_of PicturesTrace.tile_at
    PicturesTrace.layer_at PicturesTrace.source_by PicturesTrace.follow PicturesTrace.traced PicturesTurn.size_after
    PicturesTurn.back PicturesTurn.size_through PicturesTurn.undone RulesBytes.all_extents RulesBytes.named
    RulesBytes.chained RulesBytes.sizes_of RulesBytes.names_past RulesBytes.known RulesBytes.byte_in RulesBytes.named_source
    RulesBytes.source_of RulesBytes.byte_of RulesBytes.bytes_upto
    RulesDerivations.all_images RulesDerivations.copy_of RulesDerivations.tiles_of RulesDerivations.layers_of
    RulesDerivations.recipe_for RulesDerivations.as_rule17 RulesDerivations.recipe_or RulesDerivations.declared_in
    RulesDerivations.picture_of RulesJoined.located_at RulesJoined.named_for RulesJoined.referred_from RulesJoined.property_at
    RulesJoined.row_of RulesPlaces.places_at RulesPlaces.places_by RulesPlaces.property_offset RulesPlaces.file_offset
    RulesOpening.accepted RulesOpening.opened RulesOpening.listed RulesOpening.pictured Q.verdict_in Q.size_in Q.found_by
    Q.trace_in Q.sources_in Q.part_of Q.property_in Q.verdict Q.size Q.trace Q.sources Q.property Q.list_after
    RulesOpening.left_by RulesOpening.after_by RulesRules.in_order RulesRules.essential_known RulesRules.count_of
    RulesRules.ispe_before RulesRules.rule12 RulesRules.rule13-30-14 RulesRules.rule15-29-16 RulesRules.rule17
    RulesRules.rule18 RulesRules.rule19 RulesRules.rule20 RulesRules.by_depth RulesRules.judged
own_answers = (refl, refl, refl, refl)

-- it is a file that keeps the rules: its verdict is an answer
pub own-good : (f : ContentsFile.File) × GoodFile 369 own f
unfolding Q.verdict RulesOpening.opened
own-good =
    let opened = bind_ok _ _ _ own_answers.0 in
    (opened.0, accepted-good 369 own opened.0 (then_ok _ _ opened.0 opened.1).2)
