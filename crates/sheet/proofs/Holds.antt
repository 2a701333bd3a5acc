-- The starred lines of the bench sheet hold, all of them, by computation. Assumes nothing.
use mathlib.Core.Path.{◌≡◌, refl}
use mathlib.Core.List.{map}
use Rattle.fields.specs.Choice.{pick}
use Rattle.fields.specs.Field.{be_at}
use Rattle.boxes.specs.Answer as Answer
use Rattle.boxes.specs.Box as Box
use Rattle.boxes.specs.Children as Children
use Rattle.boxes.specs.Exactly as Exactly
use Rattle.boxes.specs.Top as Top
use Rattle.forms.specs.Form as Form
use Rattle.forms.specs.Lead as Lead
use Rattle.contents.specs.File as File
use Rattle.contents.specs.Full as Full
use Rattle.contents.specs.Hdlr as Hdlr
use Rattle.contents.specs.Iinf as Iinf
use Rattle.contents.specs.Iloc as Iloc
use Rattle.contents.specs.Ipco as Ipco
use Rattle.contents.specs.Ipma as Ipma
use Rattle.contents.specs.Iprp as Iprp
use Rattle.contents.specs.Iref as Iref
use Rattle.contents.specs.Pitm as Pitm
use Rattle.pictures.specs.Turn as Turn
use Rattle.pictures.specs.Signed.{signed}
use Rattle.pictures.specs.Clap as Clap
use Rattle.pictures.specs.Decode as Decode
use Rattle.pictures.specs.Recipe as Recipe
use Rattle.pictures.specs.Scene as Scene
use Rattle.pictures.specs.Depth as Depth
use Rattle.pictures.specs.Trace as Trace
use Rattle.rules.specs.Bytes as Bytes
use Rattle.rules.specs.Derivations as Derivations
use Rattle.rules.specs.Joined as Joined
use Rattle.rules.specs.Rules as Rules
use Rattle.rules.specs.Opening as Opening
use Rattle.questions.specs.Questions as Questions
use Rattle.sheet.specs.Sheet.{Line, ask, sheet}

pub sheet_holds : map (λ (l : Line). ask l.question) sheet ≡ map (λ (l : Line). l.answer) sheet
unfolding sheet ask pick be_at Answer.◌>>=◌ Answer.◌>>◌ Answer.check
    Box.head_of Box.size_of Box.starts Box.flat Box.cut_by Box.cut_n Box.cut
    Children.gather Children.no_rest Children.contain Children.of_kind Children.once Children.first_or Children.place_of
    Exactly.ended Exactly.one_by Exactly.exactly
    Top.fit Top.look Top.words Top.branded Top.by_kind Top.by_look Top.walk_n Top.by_first Top.meta_in
    Form.give Form.demand_of Form.demand Form.field_by Form.field Form.onto Form.◌>>=◌ Form.many Form.finish Form.whole Form.value_of
    Form.front Lead.lead_by Lead.lead
    File.referred File.data_of File.contents_of File.file_of File.read_file Full.full Hdlr.hdlr_form Pitm.pitm_form
    Iinf.infe_form Iinf.infe_step Iinf.iinf-count Iinf.items Iloc.extents_in Iloc.extent_form Iloc.entry_form Iloc.iloc_form
    Ipco.ispe_form Ipco.bytes_form Ipco.good_content Ipco.property_step Ipma.associations_in Ipma.association_form Ipma.ipma_entry_form Ipma.ipma_form
    Iprp.pair_of Iprp.iprp_content Iref.targets_in Iref.target_form Iref.referring_by Iref.reference_form Iref.kept_by Iref.reference
    Iref.references
    Turn.size_after Turn.back Turn.size_through Turn.undone signed Clap.halved Clap.placed Clap.edge_of Clap.crop_by Clap.crop_of
    Decode.rotation Decode.mirror Decode.turn_of Decode.turns_of Recipe.grid_form Recipe.offset_form Recipe.iovl_form
    Scene.output_of Scene.all_size Scene.made_up Scene.good_sizes Depth.reaches Depth.largest Depth.depth_by Depth.depth_n
    Trace.tile_at Trace.layer_at Trace.source_by Trace.follow Trace.traced
    Bytes.all_extents Bytes.named Bytes.chained Bytes.sizes_of Bytes.names_past Bytes.known Bytes.byte_in Bytes.named_source Bytes.source_of Bytes.byte_of
    Bytes.bytes_upto Joined.located_at Joined.named_for Joined.referred_from Joined.property_at Joined.row_of
    Derivations.all_images Derivations.copy_of Derivations.tiles_of Derivations.layers_of Derivations.recipe_for Derivations.as_rule17
    Derivations.recipe_or Derivations.declared_in Derivations.picture_of
    Rules.in_order Rules.essential_known Rules.count_of Rules.ispe_before Rules.rule12 Rules.rule13-30-14 Rules.rule15-29-16 Rules.rule17
    Rules.rule18 Rules.rule19 Rules.rule20 Rules.by_depth Rules.judged
    Opening.accepted Opening.opened Opening.listed Opening.pictured
    Questions.verdict_in Questions.size_in Questions.found_by Questions.trace_in Questions.verdict Questions.size Questions.trace
sheet_holds = refl
