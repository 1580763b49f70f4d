-- The table without the item at the place is the definition's; what is then the lowest is asked of it.
use Rattle.std.specs.Prelude.{ℕ, List, Ok, refl, Option as Optional, get_or}
use Rattle.std.specs.Bool.{then_some}
use Rattle.std.proofs.Common.{sym, ap, ◌∙◌, arith}
use Rattle.lists.specs.Defs.{least, optional, picked}
use Rattle.lists.specs.Search.{first_below, optional_some, optional_none}
use Rattle.ids.specs.Acts.{freed_in}
use Rattle.ids.specs.Carry.{all_at}
use Rattle.ids.specs.IssueLaws.{place_below, take_4, take_2, take_0, numbered_given}
use Rattle.ids.specs.Puts.{put_source_rpt}
use Rattle.ids.specs.ReadingLaws.{item_parts, source_well}
use Rattle.ids.specs.declared.answers.FreedOut.{FreedOut}
use Rattle.ids_state.specs.Formed as F
use Rattle.ids_state.proofs.Laws.{facts}
use Rattle.tables.specs.Laws.{item_at_lem}
use Rattle.tables.specs.Table.{live, zero_item}
use Rattle.tables.specs.Table as T
use Rattle.tables.specs.declared.items.Item as I
use Rattle.values.specs.Cid.{same_id}
use Rattle.values.specs.Compare.{cid_eq}
use Rattle.values.specs.Results.{numbered_of}
use Rattle.values.specs.declared.answers.Numbered.{Numbered}
use Rattle.ids.proofs.issues.take_step.Goals as goal

pub offset_bounds-s-i : goal.offset_bounds-s-i
offset_bounds-s-i c =
    let w = source_well c.args.f.ids.now c.args.f.well in
    let h = place_below c.args.f.ids.now c.args.f.well c.args.seq c.args.i c.requires c.args.packet in
    omega (arith, h, w.few)

pub bounds-s-i : goal.bounds-s-i
bounds-s-i c =
    let w = source_well c.args.f.ids.now c.args.f.well in
    let h = place_below c.args.f.ids.now c.args.f.well c.args.seq c.args.i c.requires c.args.packet in
    omega (arith, h, w.few)

pub remove_at-rest-requires : goal.remove_at-rest-requires
remove_at-rest-requires c =
    (source_well c.args.f.ids.now c.args.f.well, place_below c.args.f.ids.now c.args.f.well c.args.seq c.args.i c.requires c.args.packet)

pub returns-then-eq : goal.returns-then-eq
returns-then-eq c =
    let s = c.args.f.ids.now in
    let h = place_below s c.args.f.well c.args.seq c.args.i c.requires c.args.packet in
    let at = item_at_lem s.scids (source_well s c.args.f.well) c.args.i _ h in
    let same = ap (λ (x : I.Item). same_id x.cid c.args.packet) at ∙ sym (cid_eq _ c.args.packet) ∙ sym c.eq.ensures in
    take_4 s c.args.f.well c.args.seq c.args.i c.requires c.args.packet _ c.remove_at-rest.ensures _ (same ∙ c.if-eq.true) (ap (freed_in s) c.none_freed.ensures)

pub returns-in-Some : goal.returns-in-Some
returns-in-Some c =
    let s = c.args.f.ids.now in
    let w = c.args.f.well in
    let h = place_below s w c.args.seq c.args.i c.requires c.args.packet in
    let at = item_at_lem s.scids (source_well s w) c.args.i _ h in
    let same = ap (λ (x : I.Item). same_id x.cid c.args.packet) at ∙ sym (cid_eq _ c.args.packet) ∙ sym c.eq.ensures in
    let low = optional_some _ _ (sym (c.lowest_from.ensures ∙ ap (λ (l : List I.Item). optional (least (picked T.seq_of (T.at_least s.retire_prior_to) l))) c.live.ensures) ∙ c.in-Some.is) in
    let y = get_or (live s.scids) c.args.i zero_item in
    let path = (item_parts y (all_at F.item_formed_of zero_item (live s.scids) c.args.i (facts s w).source_items (first_below (T.has_seq c.args.seq) (live s.scids) c.args.i c.requires))).2 in
    let number = c.from.ensures ∙ ap (λ (o : Optional ℕ). numbered_of (Ok o)) (c.then_some.ensures ∙ ap (λ (x : I.Item). then_some x.has_path x.path) (sym at)) ∙ numbered_given y.has_path y.path path in
    take_0 s w c.args.seq c.args.i c.requires c.args.packet _ c.remove_at-rest.ensures _ (same ∙ c.if-eq.false) c.in-Some.low low y refl
    (ap {B = FreedOut} (λ (d : Numbered). record { ids = put_source_rpt c.remove_at-rest.result c.in-Some.low s; answer = d }) number)

pub returns-in-None : goal.returns-in-None
returns-in-None c =
    let s = c.args.f.ids.now in
    let h = place_below s c.args.f.well c.args.seq c.args.i c.requires c.args.packet in
    let at = item_at_lem s.scids (source_well s c.args.f.well) c.args.i _ h in
    let same = ap (λ (x : I.Item). same_id x.cid c.args.packet) at ∙ sym (cid_eq _ c.args.packet) ∙ sym c.eq.ensures in
    let low = optional_none _ (sym (c.lowest_from.ensures ∙ ap (λ (l : List I.Item). optional (least (picked T.seq_of (T.at_least s.retire_prior_to) l))) c.live.ensures) ∙ c.in-None.is) in
    take_2 s c.args.f.well c.args.seq c.args.i c.requires c.args.packet _ c.remove_at-rest.ensures _ (same ∙ c.if-eq.false) low (ap (freed_in s) c.none_freed-in-None.ensures)
