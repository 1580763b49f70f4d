-- What stays and what leaves are all items, so the count of what leaves is a difference. Then each return is one way through the definition.
use Rattle.std.specs.Prelude.{◌++◌, List, length, Ok}
use Rattle.std.proofs.Common.{ap, ◌∙◌, arith}
use Rattle.lists.specs.Defs.{keep, picked}
use Rattle.tables.specs.Table.{entries, queue_of, used_of}
use Rattle.tables.specs.declared.items.Item.{Item}
use Rattle.tables.specs.declared.items.Table.{Table}
use Rattle.tables.specs.declared.lower.Used.{Used}
use Rattle.ids.specs.Acts.{retired_in}
use Rattle.ids.specs.AddLaws.{split, raise_6, raise_4, raise_3, raise_0}
use Rattle.ids.specs.ReadingLaws.{destination_well, retire_well}
use Rattle.ids.specs.Results.{retired_answer}
use Rattle.ids.specs.declared.answers.RetiredAnswer.{RetiredAnswer}
use Rattle.tables.specs.Table as T
use Rattle.ids.proofs.adds.raise_step.Goals as goal

pub keep_from-kept-requires : goal.keep_from-kept-requires
keep_from-kept-requires c = destination_well c.args.f.ids.now c.args.f.well

pub overflow_sub-lower : goal.overflow_sub-lower
overflow_sub-lower c =
    let ck = ap (λ (z : Table). z.count) c.keep_from-kept.ensures in
    let sp = split c.args.f.ids.now c.args.f.well c.args.x c.requires c.args.b in
    omega (arith, ck, sp)

pub returns-then-s-lower-gt-QUEUE_SLOTS : goal.returns-then-s-lower-gt-QUEUE_SLOTS
returns-then-s-lower-gt-QUEUE_SLOTS c =
    let ck = ap (λ (z : Table). z.count) c.keep_from-kept.ensures in
    let sp = split c.args.f.ids.now c.args.f.well c.args.x c.requires c.args.b in
    raise_6 c.args.f.ids.now c.args.f.well c.args.x c.requires c.args.b (omega (arith, c.if-s-lower-gt-QUEUE_SLOTS.true, ck, sp)) _ c.unchanged.ensures

pub queue_lower-moved-requires : goal.queue_lower-moved-requires
queue_lower-moved-requires c =
    let ck = ap (λ (z : Table). z.count) c.keep_from-kept.ensures in
    let sp = split c.args.f.ids.now c.args.f.well c.args.x c.requires c.args.b in
    (retire_well c.args.f.ids.now c.args.f.well, omega (arith, c.if-s-lower-gt-QUEUE_SLOTS.false, ck, sp, ap (λ (l : List Item). length (keep (T.below c.args.b) l)) c.live.ensures))

pub returns-then-s-moved : goal.returns-then-s-moved
returns-then-s-moved c =
    let ck = ap (λ (z : Table). z.count) c.keep_from-kept.ensures in
    let sp = split c.args.f.ids.now c.args.f.well c.args.x c.requires c.args.b in
    let em = c.queue_lower-moved.ensures ∙ ap (λ (l : List Item). queue_of (entries c.args.f.ids.now.dcids_to_retire ++ picked T.seq_of (T.below c.args.b) l)) c.live.ensures in
    raise_4 c.args.f.ids.now c.args.f.well c.args.x c.requires c.args.b (omega (arith, c.if-s-lower-gt-QUEUE_SLOTS.false, ck, sp)) _ c.keep_from-kept.ensures _ em _ c.if-s-moved.true
    (ap (retired_in c.args.f.ids.now) c.no_pairs.ensures)

pub returns-then-capacity_for-kept : goal.returns-then-capacity_for-kept
returns-then-capacity_for-kept c =
    let ck = ap (λ (z : Table). z.count) c.keep_from-kept.ensures in
    let sp = split c.args.f.ids.now c.args.f.well c.args.x c.requires c.args.b in
    let em = c.queue_lower-moved.ensures ∙ ap (λ (l : List Item). queue_of (entries c.args.f.ids.now.dcids_to_retire ++ picked T.seq_of (T.below c.args.b) l)) c.live.ensures in
    raise_3 c.args.f.ids.now c.args.f.well c.args.x c.requires c.args.b (omega (arith, c.if-s-lower-gt-QUEUE_SLOTS.false, ck, sp)) _ c.keep_from-kept.ensures _ em _ c.if-s-moved.false
    (omega (arith, c.if-capacity_for-kept.true, c.capacity_for.ensures)) (ap (retired_in c.args.f.ids.now) c.no_pairs-then-capacity_for-kept.ensures)

pub returns : goal.returns
returns c =
    let ck = ap (λ (z : Table). z.count) c.keep_from-kept.ensures in
    let sp = split c.args.f.ids.now c.args.f.well c.args.x c.requires c.args.b in
    let em = c.queue_lower-moved.ensures ∙ ap (λ (l : List Item). queue_of (entries c.args.f.ids.now.dcids_to_retire ++ picked T.seq_of (T.below c.args.b) l)) c.live.ensures in
    let eu = c.used_lower.ensures ∙ ap (λ (l : List Item). used_of (picked T.pair_of (T.low_on_path c.args.b) l)) c.live-2.ensures in
    let ea = c.from.ensures ∙ ap (λ (u : Used). retired_answer (Ok u)) eu in
    raise_0 c.args.f.ids.now c.args.f.well c.args.x c.requires c.args.b (omega (arith, c.if-s-lower-gt-QUEUE_SLOTS.false, ck, sp)) _ c.keep_from-kept.ensures _ em _ c.if-s-moved.false
    (omega (arith, c.if-capacity_for-kept.false, c.capacity_for.ensures)) _ c.append.ensures
    (ap (λ (a : RetiredAnswer). retired_in c.args.f.ids.now (record { dcids = c.append.result; dcids_to_retire = c.queue_lower-moved.result; largest_peer_retire_prior_to = c.args.b; answer = a })) ea)
