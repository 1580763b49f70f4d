-- What the table says of the new item: nothing, that it repeats one, or that it clashes with one.
use Rattle.std.specs.Prelude.{Some}
use Rattle.std.proofs.Common.{sym, ap, ap₂, ◌∙◌}
use Rattle.tables.specs.Laws.{clash_none, clash_repeats, clash_differs}
use Rattle.tables.specs.Table.{first_judged}
use Rattle.tables.specs.declared.items.Item.{Item}
use Rattle.ids_rules.specs.Steps.{add_new}
use Rattle.ids.specs.AddLaws.{add_zero, add_repeat, add_clash, add_new_lem}
use Rattle.ids.specs.Reading.{item_view, view, retired_of}
use Rattle.ids.proofs.adds.add_dcid_step.Goals as goal

pub returns-then-s : goal.returns-then-s
returns-then-s c = add_zero c.args.f.ids.now c.args.f.well c.args.cid c.args.seq c.args.token.bytes c.args.b _ c.if-s.true c.unchanged.ensures

pub returns-in-Some-Repeats : goal.returns-in-Some-Repeats
returns-in-Some-Repeats c =
    let j = first_judged c.item-x.result c.live.result.now in
    let h = clash_repeats j (sym c.first_clash.ensures ∙ c.in-Some-Repeats.is ∙ ap Some c.in-Some-Repeats.field-0-is) in
    add_repeat c.args.f.ids.now c.args.f.well c.args.cid c.args.seq c.args.token.bytes c.args.b _ c.if-s.false j (ap₂ first_judged c.item-x.ensures c.live.ensures) h c.unchanged-in-Some-Repeats.ensures

pub returns-in-Some-Differs : goal.returns-in-Some-Differs
returns-in-Some-Differs c =
    let j = first_judged c.item-x.result c.live.result.now in
    let h = clash_differs j (sym c.first_clash.ensures ∙ c.in-Some-Differs.is ∙ ap Some c.in-Some-Differs.field-0-is) in
    add_clash c.args.f.ids.now c.args.f.well c.args.cid c.args.seq c.args.token.bytes c.args.b _ c.if-s.false j (ap₂ first_judged c.item-x.ensures c.live.ensures) h.0 h.1 c.unchanged-in-Some-Differs.ensures

pub returns-in-None : goal.returns-in-None
returns-in-None c =
    let j = first_judged c.item-x.result c.live.result.now in
    let h = clash_none j (sym c.first_clash.ensures ∙ c.in-None.is) in
    add_new_lem c.args.f.ids.now c.args.f.well c.args.cid c.args.seq c.args.token.bytes c.args.b _ c.if-s.false j (ap₂ first_judged c.item-x.ensures c.live.ensures) h
    (c.new_step.ensures ∙ ap (λ (x : Item). retired_of (add_new (item_view x) c.args.b (view c.args.f.ids.now))) c.item-x.ensures)
